-- How rows of a family are kept: what was last said of each key, in the order in which the keys
-- came, and where each is found. This project's own.
use Rattle.std.specs.Prelude.{◌≡◌, ℕ, ◌<◌, ◌≤◌, ◌+◌, ◌-◌, ◌*◌, ◌/◌, ◌%◌, ◌^◌, ◌⊎◌, false, Option}
use Rattle.std.specs.Prelude.{Some, None, List, [], ◌∷◌, bit_xor, length, take, map, count_by, Bool}
use Rattle.std.specs.Option.{option_and_then}
use Rattle.std.specs.List.{AllByRecursion, HoldsAt, IsDistinct, list_any}
use Rattle.std.specs.List.Sorted.{IsStrictlySortedBy}
use Rattle.std.specs.Ordering.{eq_by_cmp}
use Rattle.std.specs.declared.cmp.Ordering.TheVariants.{Less}
use Rattle.std.specs.BTreeMap.{insert_entry, is_at}
use Rattle.std.specs.Map.{keys_of, lookup, remove_entry}
use Rattle.babel_tlv.specs.Route.{RouteKey}
use Rattle.babel_tlv.specs.Keys.{key_cmp}
use Rattle.babel_table.specs.Live.{Kept}

-- what was last said of each key: nothing where it was retracted
abbrev pub Words : Type 0
Words = List (RouteKey × Option Kept)

abbrev pub say : RouteKey → Option Kept → List (RouteKey × Kept) → List (RouteKey × Kept)
say key (Some said) entries = insert_entry key_cmp entries key said
say key None entries = remove_entry (is_at (key_cmp key)) entries

-- what stands by these words
abbrev pub standing : Words → List (RouteKey × Kept)
standing [] = []
standing (word ∷ words) = say word.0 word.1 (standing words)

-- something was said for which the test holds
abbrev pub is_said : (Kept → Bool) → Option Kept → Bool
is_said test None = false
is_said test (Some said) = test said

abbrev pub said_count : (Kept → Bool) → Words → ℕ
said_count test words = count_by (λ word. is_said test word.1) words

-- the words with what this gives in place of what was said
abbrev pub said_as : (Kept → Option Kept) → Words → Words
said_as give words = map (λ word. (word.0, option_and_then give word.1)) words

abbrev pub AreDistinct : List RouteKey → Type 0
AreDistinct keys = IsDistinct (eq_by_cmp key_cmp) keys

-- the key is none of these
abbrev pub IsAbsent : RouteKey → List RouteKey → Type 0
IsAbsent key keys = list_any (is_at (key_cmp key)) keys ≡ false

-- the key's place
pub record IsPlace (keys : List RouteKey) (key : RouteKey) (place : ℕ) : Type 0 where
  pub inside : place < length keys
  pub at_key : HoldsAt (λ other. other ≡ key) keys place

-- ---- where keys are found that do not rise

-- slots, each with a tag by the seed and a place, and the places of keys that found no slot
pub record Places : Type 0 where
  pub seed : ℕ
  pub slots : List (ℕ × ℕ)
  pub overflow : List (RouteKey × ℕ)

-- the halves of a product of 128 bits, as one number of 64
abbrev pub halves_of : ℕ → ℕ
halves_of product = bit_xor (product / 2 ^ 64) (product % 2 ^ 64)

-- two numbers of 64 bits as one: each with a half of the seed, multiplied
unfoldable pub mixed : ℕ → ℕ → ℕ → ℕ
mixed seed one other =
    halves_of (bit_xor (seed / 2 ^ 64) one * bit_xor (seed % 2 ^ 64) other % 2 ^ 128)

-- the bits of an address, in 64 of them
unfoldable pub folded : ℕ → ℕ → ℕ
folded seed bits = mixed seed (bits / 2 ^ 64) (bits % 2 ^ 64)

-- 32 bits that each bit of a key may change
unfoldable pub tag_of : ℕ → RouteKey → ℕ
tag_of seed key =
    mixed seed ((folded seed key.dst.address.bits + (key.dst.len * 256 + key.src.len)) % 2 ^ 64)
    (folded seed key.src.address.bits) / 2 ^ 32

-- the slot at which a search for the key begins
abbrev pub start_of : Places → RouteKey → ℕ
start_of places key = tag_of places.seed key % (length places.slots - 8)

-- the slot has a place
abbrev pub IsTaken : List (ℕ × ℕ) → ℕ → Type 0
IsTaken slots at = HoldsAt (λ slot. slot.1 < 4294967295) slots at

-- so many slots from there on have places
abbrev pub AreTaken : List (ℕ × ℕ) → ℕ → ℕ → Type 0
AreTaken slots start count = (before : ℕ) → before < count → IsTaken slots (start + before)

-- the first slot from there on that has no place
abbrev pub IsFree : List (ℕ × ℕ) → ℕ → ℕ → Type 0
IsFree slots start step =
    (step < 8) × AreTaken slots start step
    × HoldsAt (λ slot. slot.1 ≡ 4294967295) slots (start + step)

-- a search for the key comes to the place: so far after the start, or where all slots in reach are
-- taken
pub record IsListed (places : Places) (key : RouteKey) (place : ℕ) : Type 0 where
  pub room : 8 < length places.slots
  pub small : place < 4294967295
  pub far : ℕ
  pub near : far ≤ 8
  pub passed : AreTaken places.slots (start_of places key) far
  pub here : ((far < 8)
      × HoldsAt (λ slot. slot ≡ (tag_of places.seed key, place)) places.slots
      (start_of places key + far))
      ⊎ ((far ≡ 8) × (lookup (is_at (key_cmp key)) places.overflow ≡ Some place))

-- no place of the key is listed
abbrev pub IsUnlisted : List RouteKey → Places → RouteKey → Type 0
IsUnlisted keys places key = (place : ℕ) → IsPlace keys key place → IsListed places key place → ⊥

-- the places of the keys are listed, from the first on
abbrev pub AreListed : List RouteKey → ℕ → Places → Type 0
AreListed keys first places =
    (key : RouteKey) (place : ℕ) → first ≤ place → IsPlace keys key place →
    IsListed places key place

-- each key has one place: among those in front, which rise, or else as it is listed
pub record AreIndexed (keys : List RouteKey) (rising : ℕ) (places : Places) : Type 0 where
  pub distinct : AreDistinct keys
  pub inside : rising ≤ length keys
  pub front : IsStrictlySortedBy key_cmp (take rising keys)
  pub behind : AreListed keys rising places

-- how many keys have something, and few enough to count
pub record AreCounted (n : ℕ) (words : Words) (rising : ℕ) (places : Places) : Type 0 where
  pub indexed : AreIndexed (keys_of words) rising places
  pub count : n ≡ length (standing words)
  pub small : n < 2 ^ 63

-- the key is greater than all of the list
abbrev pub AreAbove : {X : Type 0} → RouteKey → List (RouteKey × X) → Type 0
AreAbove key words = AllByRecursion (λ word. key_cmp word.0 key ≡ Less) words
