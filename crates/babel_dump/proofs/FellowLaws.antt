-- Which senders of two captures are compared is as stated, and each is its fellow's fellow.
use Rattle.std.proofs.Common.{◌≡◌, Bool, true, false, cond, ◌||◌, List, [], ◌∷◌, ◌++◌, Option, None, Some, refl, sym, ap, subst, ◌∙◌, append_assoc, append-nil, filter, map, if◌then◌else◌}
use Rattle.std.specs.Prelude.{is_some}
use Rattle.std.specs.BTreeMap.{insert_entry, is_at}
use Rattle.std.specs.List.{list_any}
use Rattle.std.specs.Map.{keys_of, lookup}
use Rattle.std.specs.Option.{option_flatten}
use Rattle.std.specs.declared.cmp.Ordering.{Ordering}
use Rattle.std.proofs.lemmas.List.Elements.{filter-append}
use Rattle.babel_prefix.specs.Address.{Address}
use Rattle.babel_prefix.specs.Order.{address_cmp}
use Rattle.babel_prefix.proofs.Insertion.{equal_of, is_at-sym, lookup-insert}
use Rattle.babel_prefix.proofs.OrderLaws.{address_equality, address_total}
use Rattle.babel_capture.specs.Tallies.{origin_cmp}
use Rattle.babel_capture.specs.contracts.tallies.OriginOrd.TheImpl.{ghosts}
use Rattle.babel_capture.specs.declared.tallies.Origin.{Origin}
use Rattle.babel_capture.proofs.TallyLaws.{origin_order}
use Rattle.babel_dump.specs.Fellows.{Occurs, at_place, fellow_by, fellow_of, lone_in, only, places_of}
use Rattle.babel_dump.specs.declared.fellows.Fellows.{Fellows}
use Rattle.babel_dump.specs.declared.fellows.Fellows.TheVariants as fellows

-- ---- the only sender of an address

pub only_lone : (origins : List Origin) → option_flatten (lone_in origins) ≡ only origins
only_lone [] = refl
only_lone (origin ∷ []) = refl
only_lone (origin ∷ other ∷ more) = refl

abbrev pub one_more : Bool → Origin → Option Origin
one_more has_others origin = if has_others then None else Some origin

lone_more : (origins : List Origin) (origin : Origin) → Some (one_more (is_some (lone_in origins)) origin) ≡ lone_in (origins ++ origin ∷ [])
lone_more [] origin = refl
lone_more (first ∷ []) origin = refl
lone_more (first ∷ second ∷ more) origin = refl

places_more : (sender : Address) (origins : List Origin) (origin : Origin) → places_of sender (origins ++ origin ∷ [])
    ≡ places_of sender origins ++ cond (is_at (address_cmp sender) origin.sender) (origin ∷ []) []
places_more sender origins origin = filter-append (λ (o : Origin). is_at (address_cmp sender) o.sender) origins (origin ∷ [])

-- what is known of each address, by these senders
abbrev pub AreLone : List Origin → List (Address × Option Origin) → Type 0
AreLone origins lone = (sender : Address) → lookup (is_at (address_cmp sender)) lone ≡ lone_in (places_of sender origins)

pub are_more : (origins : List Origin) (origin : Origin) (lone after : List (Address × Option Origin)) (has : Bool) → AreLone origins lone
    → has ≡ is_some (lookup (is_at (address_cmp origin.sender)) lone) → after ≡ insert_entry address_cmp lone origin.sender (one_more has origin)
    → AreLone (origins ++ origin ∷ []) after
are_more origins origin lone after has are is put sender =
    ap (lookup (is_at (address_cmp sender))) put ∙ lookup-insert address_total sender origin.sender (one_more has origin) lone
    ∙ by (is_at (address_cmp origin.sender) sender) refl
  where
    by : (here : Bool) → is_at (address_cmp origin.sender) sender ≡ here
        → cond here (Some (one_more has origin)) (lookup (is_at (address_cmp sender)) lone) ≡ lone_in (places_of sender (origins ++ origin ∷ []))
    by true here =
        let same : origin.sender ≡ sender = (address_equality origin.sender sender).0 (equal_of (address_cmp origin.sender sender) here) in
        let itself : is_at (address_cmp sender) origin.sender ≡ true = subst (λ (s : Address). is_at (address_cmp s) origin.sender ≡ true) same
        (subst (λ (s : Address). is_at (address_cmp origin.sender) s ≡ true) (sym same) here) in
        let known : has ≡ is_some (lone_in (places_of sender origins)) =
        is ∙ ap is_some (ap (λ (s : Address). lookup (is_at (address_cmp s)) lone) same ∙ are sender) in
        ap (λ (b : Bool). Some (one_more b origin)) known ∙ lone_more (places_of sender origins) origin
        ∙ ap lone_in (sym (places_more sender origins origin ∙ ap (λ (b : Bool). places_of sender origins ++ cond b (origin ∷ []) []) itself))
    by false here =
        let apart : is_at (address_cmp sender) origin.sender ≡ false = is_at-sym address_total sender origin.sender ∙ here in
        are sender
        ∙ ap lone_in (sym (places_more sender origins origin ∙ ap (λ (b : Bool). places_of sender origins ++ cond b (origin ∷ []) []) apart ∙ append-nil (places_of sender origins)))

-- what is known by the senders so far, where these are left
pub record Filling {T : Type 0} (senders left : List (Origin × T)) (lone : List (Address × Option Origin)) : Type 0 where
  pub so_far : List Origin
  pub split : so_far ++ keys_of left ≡ keys_of senders
  pub are : AreLone so_far lone

module _ {T : Type 0} (senders : List (Origin × T)) where
  pub filling_none : (left : List (Origin × T)) → left ≡ senders → Filling senders left []
  filling_none left all = record { so_far = []; split = ap keys_of all; are = λ sender. refl }

  pub filling_more : (entry : Origin × T) (before left : List (Origin × T)) (lone after : List (Address × Option Origin)) (has : Bool) → before ≡ entry ∷ left
      → Filling senders before lone → has ≡ is_some (lookup (is_at (address_cmp entry.0.sender)) lone)
      → after ≡ insert_entry address_cmp lone entry.0.sender (one_more has entry.0) → Filling senders left after
  filling_more entry before left lone after has steps was is put = record {
    so_far = was.so_far ++ entry.0 ∷ [];
    split = append_assoc was.so_far (entry.0 ∷ []) (keys_of left) ∙ subst (λ (b : List (Origin × T)). was.so_far ++ keys_of b ≡ keys_of senders) steps was.split;
    are = are_more was.so_far entry.0 lone after has was.are is put;
  }

  pub filling_all : (left : List (Origin × T)) (lone : List (Address × Option Origin)) → left ≡ [] → Filling senders left lone → Occurs (keys_of senders) senders lone
  filling_all left lone none was = record {
    senders_are = refl;
    lone_is = subst (λ (o : List Origin). AreLone o lone)
        (sym (append-nil was.so_far) ∙ subst (λ (l : List (Origin × T)). was.so_far ++ keys_of l ≡ keys_of senders) none was.split) was.are;
  }

-- ---- the sender at the same place

key_among : {K T : Type 0} (test : K → Bool) (entries : List (K × T)) → is_some (lookup test entries) ≡ list_any test (keys_of entries)
key_among test [] = refl
key_among test (entry ∷ entries) = by (test entry.0) (key_among test entries)
  where
    by : (b : Bool) → is_some (lookup test entries) ≡ list_any test (keys_of entries)
        → is_some (cond b (Some entry.1) (lookup test entries)) ≡ (b || list_any test (keys_of entries))
    by true again = refl
    by false again = again

pub at_place_so : {T : Type 0} (entries : List (Origin × T)) (origin : Origin) (has : Bool) → has ≡ is_some (lookup (is_at (ghosts.cmp origin)) entries)
    → (if has then Some origin else None) ≡ at_place (keys_of entries) origin
at_place_so entries origin has is =
    ap (λ (b : Bool). if b then Some origin else None)
    (is ∙ ap (λ (k : Origin → Origin → Ordering). is_some (lookup (is_at (k origin)) entries)) origin_order ∙ key_among (is_at (origin_cmp origin)) entries)

-- ---- the fellow of one

pub fellow_so : {T : Type 0} (own others : List Origin) (own_senders other_senders : List (Origin × T)) (own_lone other_lone : List (Address × Option Origin)) (origin : Origin)
    (mine theirs same fellow : Option Origin) → mine ≡ option_flatten (lookup (is_at (address_cmp origin.sender)) own_lone)
    → theirs ≡ option_flatten (lookup (is_at (address_cmp origin.sender)) other_lone) → same ≡ at_place (keys_of other_senders) origin → fellow ≡ fellow_by mine theirs same
    → Occurs own own_senders own_lone → Occurs others other_senders other_lone → fellow ≡ fellow_of own others origin
fellow_so own others own_senders other_senders own_lone other_lone origin mine theirs same fellow mine_is theirs_is same_is is own_are others_are =
    let one : mine ≡ only (places_of origin.sender own) = mine_is ∙ ap option_flatten (own_are.lone_is origin.sender) ∙ only_lone (places_of origin.sender own) in
    let other : theirs ≡ only (places_of origin.sender others) = theirs_is ∙ ap option_flatten (others_are.lone_is origin.sender) ∙ only_lone (places_of origin.sender others) in
    let at : same ≡ at_place others origin = same_is ∙ ap (λ (o : List Origin). at_place o origin) others_are.senders_are in
    is ∙ ap (λ (m : Option Origin). fellow_by m theirs same) one ∙ ap (λ (t : Option Origin). fellow_by (only (places_of origin.sender own)) t same) other
    ∙ ap (fellow_by (only (places_of origin.sender own)) (only (places_of origin.sender others))) at

-- ---- all of them

pub rights_more : {T : Type 0} (passes : Origin → Bool) (entry : Origin × T) (before left : List (Origin × T)) (found after all : List Fellows) → before ≡ entry ∷ left
    → found ++ map fellows.Right (filter passes (keys_of before)) ≡ all → passes entry.0 ≡ true → after ≡ found ++ fellows.Right entry.0 ∷ []
    → after ++ map fellows.Right (filter passes (keys_of left)) ≡ all
rights_more passes entry before left found after all steps so_far passed pushed =
    let rest = filter passes (keys_of left) in
    ap (λ (f : List Fellows). f ++ map fellows.Right rest) pushed ∙ append_assoc found (fellows.Right entry.0 ∷ []) (map fellows.Right rest)
    ∙ ap (λ (b : Bool). found ++ map fellows.Right (cond b (entry.0 ∷ rest) rest)) (sym passed)
    ∙ subst (λ b. found ++ map fellows.Right (filter passes (keys_of b)) ≡ all) steps so_far

pub rights_all : {T : Type 0} (passes : Origin → Bool) (left : List (Origin × T)) (found all : List Fellows) → left ≡ []
    → found ++ map fellows.Right (filter passes (keys_of left)) ≡ all → found ≡ all
rights_all passes left found all none so_far =
    sym (append-nil found) ∙ subst (λ l. found ++ map fellows.Right (filter passes (keys_of l)) ≡ all) none so_far
