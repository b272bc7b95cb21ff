-- Which names the text of `--names` gives: this project's own.
use Rattle.std.specs.Prelude.{ℕ, ◌≡◌, ◌≢◌, ◌≤◌, ◌+◌, ◌↔◌, ◌⊎◌, Bool, true, false, List, [], ◌∷◌}
use Rattle.std.specs.Prelude.{◌++◌, ◌<◌, length, Option, None, Some, IsSome, ⊤}
use Rattle.std.specs.BTreeMap.{get}
use Rattle.std.specs.Cmp.Lexicographic.{slice_cmp}
use Rattle.std.specs.List.{AllPairs, AllZip, Contains}
use Rattle.std.specs.Option.{option_map}
use Rattle.std.specs.Ordering.{nat_cmp}
use Rattle.std.specs.Str.{IsUtf8}
use Rattle.babel_prefix.specs.Order.{address_cmp}
use Rattle.babel_prefix.specs.Text.{AddressText}
use Rattle.babel_table.specs.Bounds.{bounds}
use Rattle.babel_tlv.specs.declared.mode.Mode.TheVariants as modes
use Rattle.babel_prefix.specs.declared.family.Family.TheVariants as families
use Rattle.babel_dump.specs.AnySource.{any_source}
use Rattle.babel_dump.specs.AskedPairs.{asking, is_passed_over, lines_of, words_of}
use Rattle.babel_dump.specs.Device.{InputState}
use Rattle.babel_dump.specs.Each.{GaveText, GaveTooMany}
use Rattle.babel_dump.specs.Given.{Input, input}
use Rattle.babel_dump.specs.RouterWord.{router_id_of}
use Rattle.babel_dump.specs.declared.name.Name.{Name}
use Rattle.babel_dump.specs.declared.named.Named.{Named}
use Rattle.babel_dump.specs.declared.named.Named.TheVariants as nameds
use Rattle.babel_dump.specs.declared.names.Names.{Names}
use Rattle.babel_dump.specs.declared.names_fault.NamesFault.{NamesFault}
use Rattle.babel_dump.specs.declared.names_fault.NamesFault.TheVariants as faults

-- what a word says that has a name; what is a router-id, and an address too, is the router-id
abbrev pub IsNamed : (word : List ℕ) → Named → Type 0
IsNamed word (nameds.Router router_id) = router_id_of word ≡ Some router_id
IsNamed word (nameds.Address addr) =
    (router_id_of word ≡ None) × IsUtf8 word × AddressText word addr

-- two words say that this has a name, of at most 64 octets
abbrev pub SaysName : (words : List (List ℕ)) → Named → (name : List ℕ) → Type 0
SaysName words named name = (word : List ℕ) × (words ≡ word ∷ name ∷ []) × IsNamed word named
    × (length name ≤ 64)

-- the name that is given this, if one is
abbrev pub given_to : Names → Named → Option (List ℕ)
given_to names (nameds.Address addr) =
    option_map (λ (name : Name). name.octets.items) (get address_cmp names.addresses addr)
given_to names (nameds.Router router_id) =
    option_map (λ (name : Name). name.octets.items)
    (get (slice_cmp nat_cmp) names.routers router_id)

-- lines give these names: each that is not skipped names what no other does
pub record AreNamed (lines : List (List ℕ)) (names : Names) : Type 0 where
  pub given : List (Named × List ℕ)
  pub said : AllZip (λ words one. SaysName words one.0 one.1) (asking lines) given
  pub are : (named : Named) (name : List ℕ)
      → (given_to names named ≡ Some name) ↔ Contains given (named, name)
  pub once : AllPairs (λ one other. one.0 ≢ other.0) given

-- of the lines that are not skipped this is the first that says no name, or that of what has one,
-- counted from 1
pub record IsFirstUnnamed (lines : List (List ℕ)) (at : ℕ) : Type 0 where
  pub before : List (List ℕ)
  pub line : List ℕ
  pub after : List (List ℕ)
  pub cut : lines ≡ before ++ line ∷ after
  pub counted : at ≡ length before + 1
  pub names : Names
  pub named : AreNamed before names
  pub is_asking : is_passed_over (words_of line) ≡ false
  pub wrong : (named : Named) (name : List ℕ) → SaysName (words_of line) named name
      → IsSome (given_to names named)

-- why lines give no names; out of memory has no cause that a contract can see
abbrev pub IsFaultOfNames : List (List ℕ) → NamesFault → Type 0
IsFaultOfNames lines (faults.NotAName line) = IsFirstUnnamed lines line
IsFaultOfNames lines faults.Memory = ⊤
IsFaultOfNames lines fault = ⊥

-- ---- of what a reader gives

-- a text of names has no more octets than a dump may have where no limit is asked for
abbrev pub names_from : (old new : InputState) → Input
names_from old new = input (bounds 33554432 262144) modes.Plain (any_source families.V4) old new

-- the reader gave a text whose lines give these names
pub record GaveNames (reader : Input) (names : Names) : Type 0 where
  pub text : List ℕ
  pub gave : GaveText reader text
  pub named : AreNamed (lines_of text) names

-- one of the lines that the reader gave is the first that is wrong
pub record GaveUnnamed (reader : Input) (line : ℕ) : Type 0 where
  pub text : List ℕ
  pub gave : GaveText reader text
  pub wrong : IsFirstUnnamed (lines_of text) line

abbrev pub NamesCause : Input → NamesFault → Type 0
NamesCause reader (faults.NotAName line) = GaveUnnamed reader line
NamesCause reader faults.TooLong = GaveTooMany reader
NamesCause reader faults.Read = reader.old.failures < reader.new.failures
NamesCause reader faults.Memory = ⊤

-- ---- line by line

abbrev pub HasNone : Names → Type 0
HasNone names = (names.addresses.entries ≡ []) × (names.routers.entries ≡ [])

-- with one name more
pub record HasOneMore (before : Names) (named : Named) (name : List ℕ) (after : Names) : Type 0
  where
    pub had_none : given_to before named ≡ None
    pub gives : (other : Named) (its : List ℕ) → (given_to after other ≡ Some its)
        ↔ (((other ≡ named) × (its ≡ name)) ⊎ (given_to before other ≡ Some its))

-- a name is put, of what had none
abbrev pub InsertsName :
    Named → (name : List ℕ) → (before after : Names) → (is_new : Bool) → Type 0
InsertsName named name before after true = HasOneMore before named name after
InsertsName named name before after false = IsSome (given_to before named)

abbrev pub PutsName : (word name : List ℕ) → (before after : Names) → (is_put : Bool) → Type 0
PutsName word name before after true = (named : Named) × IsNamed word named × (length name ≤ 64)
    × HasOneMore before named name after
PutsName word name before after false = (named : Named) → IsNamed word named → length name ≤ 64
    → IsSome (given_to before named)

-- the words of a line are taken: they are skipped, or a name is put
abbrev pub TakesWords :
    (words : List (List ℕ)) → (before after : Names) → (is_taken : Bool) → Type 0
TakesWords words before after true =
    ((is_passed_over words ≡ true) × (after ≡ before))
    ⊎ ((is_passed_over words ≡ false) × (named : Named) × (name : List ℕ)
    × SaysName words named name × HasOneMore before named name after)
TakesWords words before after false = (is_passed_over words ≡ false)
    × ((named : Named) (name : List ℕ) → SaysName words named name
    → IsSome (given_to before named))
