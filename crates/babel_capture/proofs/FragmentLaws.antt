-- The datagrams that came in fragments: limits, and numbers.
use Rattle.std.proofs.Common.{◌≡◌, ◌≤◌, ◌<◌, ◌+◌, ◌⊎◌, ℕ, Bool, true, false, ◌||◌, cond, nat_lt, Option, None, Some, Result, Ok, Err, List, [], ◌∷◌, length, arith, inl, inr, refl, sym, ap, subst, ◌∙◌}
use Rattle.std.specs.BTreeMap.{insert_entry, is_at}
use Rattle.std.specs.List.{All}
use Rattle.std.specs.Map.{keys_of, lookup, remove_entry, set_value}
use Rattle.std.specs.Option.{IfNone, IfSome}
use Rattle.std.specs.Result.{OnErr, OnOk}
use Rattle.std.specs.Ordering.{nat_cmp}
use Rattle.std.proofs.lemmas.Bool.Decides.{nat_tests}
use Rattle.std.proofs.lemmas.Cmp.{nat_cmp_total}
use Rattle.std.proofs.lemmas.List.Elements.{All-head, All-nil, All-tail, All-weaker}
use Rattle.std.proofs.lemmas.Map.{keys-set_value}
use Rattle.std.proofs.lemmas.Map.Entries.{sum_by-remove_entry}
use Rattle.std.proofs.lemmas.Map.Lookups.{exact_unsigned}
use Rattle.std.proofs.lemmas.Map.Views.{All-keys-insert_entry, All-map-remove_entry}
use Rattle.babel_prefix.proofs.Insertion.{equal_of, lookup-insert}
use Rattle.babel_capture.specs.declared.datagram.Datagram.{Datagram}
use Rattle.babel_capture.specs.declared.datagram.Step.{Step}
use Rattle.babel_capture.specs.declared.datagram.Step.TheVariants as steps
use Rattle.babel_capture.specs.declared.fragment.DatagramId.{DatagramId}
use Rattle.babel_capture.specs.Fragments.{Known, are_too_many, changed, changed_with, forgotten, forgotten_with, is_old, is_past, octets_in, of_id, step_in, stepped}
use Rattle.babel_capture.specs.Indexing.{AreApart, AreNumbered, AreUpTo}
use Rattle.babel_capture.specs.Passage.{left_known, missing_at, sight_at}
use Rattle.babel_capture.specs.Pieces.{Fragment, len_of}

abbrev IsUpTo : ℕ → ℕ → Type 0
IsUpTo last number = number ≤ last

at_most : (most n : ℕ) → nat_lt most n ≡ false → n ≤ most
at_most most n is = grind (arith, nat_tests)

neither : (a b : Bool) → (a || b) ≡ false → (a ≡ false) × (b ≡ false)
neither true b is = absurd cc
neither false b is = (refl, is)

-- where none is given up, they have few octets
pub few-octets : (clock : ℕ) (known : Known) → is_past clock known ≡ false → octets_in known ≤ 16777216
few-octets clock [] is = omega arith
few-octets clock (one ∷ known) is =
    let all : Known = one ∷ known in
    at_most 16777216 (octets_in all) (neither (nat_lt 65536 (length all)) _ (neither (is_old clock one.1) (are_too_many all) is).1).1

pub octets-forgotten : (id : DatagramId) (known : Known) → octets_in (forgotten id known) ≤ octets_in known
octets-forgotten id known = by (of_id id known)
  where
    by : (one : Option (ℕ × Datagram)) → octets_in (forgotten_with known one) ≤ octets_in known
    by None = omega arith
    by (Some one) =
        let f : Datagram → ℕ = λ d. len_of d.pieces in
        let sum = sum_by-remove_entry f (is_at (nat_cmp one.0)) known in
        omega (arith, sum)

-- a later number is free
pub free-after : (last number : ℕ) (known : Known) → AreUpTo last known → last < number → lookup (is_at (nat_cmp number)) known ≡ None
free-after last number [] up later = refl
free-after last number (one ∷ known) up later =
    let first : one.0 ≤ last = All-head (IsUpTo last) one.0 (keys_of known) up in
    let apart : is_at (nat_cmp number) one.0 ≡ false = grind (arith, nat_tests) in
    rw apart (free-after last number known (All-tail (IsUpTo last) one.0 (keys_of known) up) later)

pub up-to-forgotten : (last : ℕ) (id : DatagramId) (known : Known) → AreUpTo last known → AreUpTo last (forgotten id known)
up-to-forgotten last id known up = by (of_id id known)
  where
    by : (one : Option (ℕ × Datagram)) → AreUpTo last (forgotten_with known one)
    by None = up
    by (Some one) = All-map-remove_entry (is_at (nat_cmp one.0)) (λ (e : ℕ × Datagram). e.0) (IsUpTo last) known up

pub up-to-changed : (last : ℕ) (fragment : Fragment) (known : Known) → AreUpTo last known → AreUpTo last (changed known fragment)
up-to-changed last fragment known up = by (of_id fragment.id known)
  where
    by : (one : Option (ℕ × Datagram)) → AreUpTo last (changed_with known fragment one)
    by None = up
    by (Some one) = subst (λ (keys : List ℕ). All (IsUpTo last) keys) (sym (keys-set_value (is_at (nat_cmp one.0)) known _)) up

-- without the oldest, if there is one
pub up-to-popped : (last : ℕ) (old new : Known) (oldest : Option (ℕ × Datagram)) → IfNone oldest ((old ≡ []) × (new ≡ [])) → IfSome oldest (λ one. old ≡ one ∷ new) → AreUpTo last old → AreUpTo last new
up-to-popped last old new None none some up = subst (AreUpTo last) (none.0 ∙ sym none.1) up
up-to-popped last old new (Some one) none some up = All-tail (IsUpTo last) one.0 (keys_of new) (subst (AreUpTo last) some up)

-- with one more, of a later number
pub up-to-more : (last number : ℕ) (datagram : Datagram) (known : Known) → AreUpTo last known → last < number → AreUpTo number (insert_entry nat_cmp known number datagram)
up-to-more last number datagram known up later =
    let others : AreUpTo number known = All-weaker (IsUpTo last) (IsUpTo number) (λ n le. omega arith) (keys_of known) up in
    All-keys-insert_entry nat_cmp number datagram (IsUpTo number) known others (omega arith)

-- those that are not given up
pub up-to-left : (last clock : ℕ) (known : Known) → AreUpTo last known → AreUpTo last (left_known clock known)
up-to-left last clock [] up = up
up-to-left last clock (one ∷ known) up = by (is_past clock (one ∷ known)) (up-to-left last clock known (All-tail (IsUpTo last) one.0 (keys_of known) up))
  where
    by : (b : Bool) → AreUpTo last (left_known clock known) → AreUpTo last (cond b (left_known clock known) (one ∷ known))
    by true later = later
    by false later = up

pub left-not-past : (clock : ℕ) (known : Known) → is_past clock (left_known clock known) ≡ false
left-not-past clock [] = refl
left-not-past clock (one ∷ known) = by (is_past clock (one ∷ known)) refl (left-not-past clock known)
  where
    by : (b : Bool) → is_past clock (one ∷ known) ≡ b → is_past clock (left_known clock known) ≡ false → is_past clock (cond b (left_known clock known) (one ∷ known)) ≡ false
    by true past later = later
    by false past later = past

-- ---- no number is of two lists

-- what has no number that the other lacks
abbrev pub IsWithin : (new old : Known) → Type 0
IsWithin new old = (number : ℕ) → lookup (is_at (nat_cmp number)) old ≡ None → lookup (is_at (nat_cmp number)) new ≡ None

within-itself : (known : Known) → IsWithin known known
within-itself known number none = none

behind : (one : ℕ × Datagram) (known : Known) → IsWithin known (one ∷ known)
behind one known number none = by (is_at (nat_cmp number) one.0) none
  where
    by : (b : Bool) → cond b (Some one.1) (lookup (is_at (nat_cmp number)) known) ≡ None → lookup (is_at (nat_cmp number)) known ≡ None
    by true is = absurd cc
    by false is = is

-- where the first is not it, it is among the others or not
headed : (b : Bool) (first new : Datagram) (old now : Option Datagram) → cond b (Some first) old ≡ None → now ≡ None → cond b (Some new) now ≡ None
headed true first new old now is none = absurd cc
headed false first new old now is none = none

within-removed : (key : ℕ) (known : Known) → IsWithin (remove_entry (is_at (nat_cmp key)) known) known
within-removed key [] number none = none
within-removed key (one ∷ known) number none = by (is_at (nat_cmp key) one.0) (behind one known number none) (within-removed key known number (behind one known number none))
  where
    later : Known
    later = remove_entry (is_at (nat_cmp key)) known

    by : (a : Bool) → lookup (is_at (nat_cmp number)) known ≡ None → lookup (is_at (nat_cmp number)) later ≡ None → lookup (is_at (nat_cmp number)) (cond a known (one ∷ later)) ≡ None
    by true here there = here
    by false here there = headed (is_at (nat_cmp number) one.0) one.1 one.1 (lookup (is_at (nat_cmp number)) known) (lookup (is_at (nat_cmp number)) later) none there

pub within-forgotten : (id : DatagramId) (known : Known) → IsWithin (forgotten id known) known
within-forgotten id known = by (of_id id known)
  where
    by : (one : Option (ℕ × Datagram)) → IsWithin (forgotten_with known one) known
    by None = within-itself known
    by (Some one) = within-removed one.0 known

pub within-left : (clock : ℕ) (known : Known) → IsWithin (left_known clock known) known
within-left clock [] number none = none
within-left clock (one ∷ known) number none = by (is_past clock (one ∷ known)) (within-left clock known number (behind one known number none))
  where
    by : (b : Bool) → lookup (is_at (nat_cmp number)) (left_known clock known) ≡ None → lookup (is_at (nat_cmp number)) (cond b (left_known clock known) (one ∷ known)) ≡ None
    by true later = later
    by false later = none

pub apart-within : (some others some_now others_now : Known) → IsWithin some_now some → IsWithin others_now others → AreApart some others → AreApart some_now others_now
apart-within some others some_now others_now fewer fewer_too apart number = elim (apart number) [
  | inl none ↦ inl (fewer number none)
  | inr none ↦ inr (fewer_too number none)
]

apart-swap : (some others : Known) → AreApart some others → AreApart others some
apart-swap some others apart number = elim (apart number) [
  | inl none ↦ inr none
  | inr none ↦ inl none
]

-- with one more
pub apart-other : (number : ℕ) (one : Datagram) (some others : Known) → AreApart some others → lookup (is_at (nat_cmp number)) some ≡ None → AreApart some (insert_entry nat_cmp others number one)
apart-other number one some others apart free n = by (is_at (nat_cmp number) n) refl (apart n)
  where
    put : Known
    put = insert_entry nat_cmp others number one

    looked : lookup (is_at (nat_cmp n)) put ≡ cond (is_at (nat_cmp number) n) (Some one) (lookup (is_at (nat_cmp n)) others)
    looked = lookup-insert nat_cmp_total n number one others

    by : (b : Bool) → is_at (nat_cmp number) n ≡ b → (lookup (is_at (nat_cmp n)) some ≡ None) ⊎ (lookup (is_at (nat_cmp n)) others ≡ None)
        → (lookup (is_at (nat_cmp n)) some ≡ None) ⊎ (lookup (is_at (nat_cmp n)) put ≡ None)
    by true at free_of = inl (subst (λ (m : ℕ). lookup (is_at (nat_cmp m)) some ≡ None) (exact_unsigned number n (equal_of (nat_cmp number n) at)) free)
    by false at (inl none) = inl none
    by false at (inr none) = inr (looked ∙ ap (λ (b : Bool). cond b (Some one) (lookup (is_at (nat_cmp n)) others)) at ∙ none)

pub apart-one : (number : ℕ) (one : Datagram) (some others : Known) → AreApart some others → lookup (is_at (nat_cmp number)) others ≡ None → AreApart (insert_entry nat_cmp some number one) others
apart-one number one some others apart free = apart-swap others (insert_entry nat_cmp some number one) (apart-other number one others some (apart-swap some others apart) free)

-- and with a datagram that is changed
within-set : (key : ℕ) (new : Datagram) (known : Known) → IsWithin (set_value (is_at (nat_cmp key)) known new) known
within-set key new [] number none = none
within-set key new (one ∷ known) number none = by (is_at (nat_cmp key) one.0) (behind one known number none) (within-set key new known number (behind one known number none))
  where
    later : Known
    later = set_value (is_at (nat_cmp key)) known new

    by : (a : Bool) → lookup (is_at (nat_cmp number)) known ≡ None → lookup (is_at (nat_cmp number)) later ≡ None → lookup (is_at (nat_cmp number)) (cond a ((one.0, new) ∷ known) (one ∷ later)) ≡ None
    by true here there = headed (is_at (nat_cmp number) one.0) one.1 new (lookup (is_at (nat_cmp number)) known) (lookup (is_at (nat_cmp number)) known) none here
    by false here there = headed (is_at (nat_cmp number) one.0) one.1 one.1 (lookup (is_at (nat_cmp number)) known) (lookup (is_at (nat_cmp number)) later) none there

pub within-changed : (fragment : Fragment) (known : Known) → IsWithin (changed known fragment) known
within-changed fragment known = by (of_id fragment.id known)
  where
    by : (one : Option (ℕ × Datagram)) → IsWithin (changed_with known fragment one) known
    by None = within-itself known
    by (Some one) = within-set one.0 (stepped one.1 fragment (step_in one.1 fragment)) known

-- ---- both lists

pub none_numbered : (last : ℕ) (unfinished others : Known) → unfinished ≡ [] → others ≡ [] → AreNumbered last unfinished others
none_numbered last unfinished others none none_too =
    subst (λ (u : Known). AreNumbered last u others) (sym none) (subst (λ (o : Known). AreNumbered last [] o) (sym none_too) (All-nil (IsUpTo last), All-nil (IsUpTo last), λ number. inl refl))

module _ (last : ℕ) (unfinished others : Known) (numbered : AreNumbered last unfinished others) where
  pub numbered-changed : (fragment : Fragment) → AreNumbered last (changed unfinished fragment) others
  numbered-changed fragment = (
    up-to-changed last fragment unfinished numbered.0,
    numbered.1,
    apart-within unfinished others (changed unfinished fragment) others (within-changed fragment unfinished) (within-itself others) numbered.2,
  )

  pub numbered-forgotten : (id : DatagramId) → AreNumbered last (forgotten id unfinished) others
  numbered-forgotten id = (
    up-to-forgotten last id unfinished numbered.0,
    numbered.1,
    apart-within unfinished others (forgotten id unfinished) others (within-forgotten id unfinished) (within-itself others) numbered.2,
  )

  pub numbered-forgotten-other : (id : DatagramId) → AreNumbered last unfinished (forgotten id others)
  numbered-forgotten-other id = (
    numbered.0,
    up-to-forgotten last id others numbered.1,
    apart-within unfinished others unfinished (forgotten id others) (within-itself unfinished) (within-forgotten id others) numbered.2,
  )

  pub numbered-both : (id : DatagramId) (unfinished_now others_now : Known) → unfinished_now ≡ forgotten id unfinished → others_now ≡ forgotten id others → AreNumbered last unfinished_now others_now
  numbered-both id unfinished_now others_now is are =
      subst (λ (u : Known). AreNumbered last u others_now) (sym is) (subst (λ (o : Known). AreNumbered last (forgotten id unfinished) o) (sym are) (
        up-to-forgotten last id unfinished numbered.0,
        up-to-forgotten last id others numbered.1,
        apart-within unfinished others (forgotten id unfinished) (forgotten id others) (within-forgotten id unfinished) (within-forgotten id others) numbered.2,
      ))

  pub numbered-later : (number : ℕ) → last < number → AreNumbered number unfinished others
  numbered-later number later = (
    All-weaker (IsUpTo last) (IsUpTo number) (λ n le. omega arith) (keys_of unfinished) numbered.0,
    All-weaker (IsUpTo last) (IsUpTo number) (λ n le. omega arith) (keys_of others) numbered.1,
    numbered.2,
  )

  pub numbered-left : (clock : ℕ) → AreNumbered last unfinished (left_known clock others)
  numbered-left clock = (
    numbered.0,
    up-to-left last clock others numbered.1,
    apart-within unfinished others unfinished (left_known clock others) (within-itself unfinished) (within-left clock others) numbered.2,
  )

  pub numbered-popped : (new : Known) (oldest : Option (ℕ × Datagram)) → IfNone oldest ((unfinished ≡ []) × (new ≡ [])) → IfSome oldest (λ one. unfinished ≡ one ∷ new) → AreNumbered last new others
  numbered-popped new None none some = (up-to-popped last unfinished new None none some numbered.0, numbered.1, subst (λ (u : Known). AreApart u others) (none.0 ∙ sym none.1) numbered.2)
  numbered-popped new (Some one) none some = (
    up-to-popped last unfinished new (Some one) none some numbered.0,
    numbered.1,
    apart-within unfinished others new others (λ number free. behind one new number (subst (λ (u : Known). lookup (is_at (nat_cmp number)) u ≡ None) some free)) (within-itself others) numbered.2,
  )

  -- the number of one that lacks fragments is none of the others'
  pub free-other : (number : ℕ) (one : Datagram) → lookup (is_at (nat_cmp number)) unfinished ≡ Some one → lookup (is_at (nat_cmp number)) others ≡ None
  free-other number one found = elim (numbered.2 number) [
    | inl none ↦ (let both : Some one ≡ None = sym found ∙ none in absurd cc)
    | inr none ↦ none
  ]

  -- with one more, of a later number
  pub numbered-one : (number : ℕ) (one : Datagram) → last < number → AreNumbered number (insert_entry nat_cmp unfinished number one) others
  numbered-one number one later = (
    up-to-more last number one unfinished numbered.0 later,
    All-weaker (IsUpTo last) (IsUpTo number) (λ n le. omega arith) (keys_of others) numbered.1,
    apart-one number one unfinished others numbered.2 (free-after last number others numbered.1 later),
  )

  pub numbered-other : (number : ℕ) (one : Datagram) → last < number → AreNumbered number unfinished (insert_entry nat_cmp others number one)
  numbered-other number one later = (
    All-weaker (IsUpTo last) (IsUpTo number) (λ n le. omega arith) (keys_of unfinished) numbered.0,
    up-to-more last number one others numbered.1 later,
    apart-other number one unfinished others numbered.2 (free-after last number unfinished numbered.0 later),
  )

up-to-found : (last number : ℕ) (one : Datagram) (known : Known) → AreUpTo last known → lookup (is_at (nat_cmp number)) known ≡ Some one → number ≤ last
up-to-found last number one [] up found = absurd cc
up-to-found last number one (first ∷ known) up found = by (is_at (nat_cmp number) first.0) refl found (up-to-found last number one known (All-tail (IsUpTo last) first.0 (keys_of known) up))
  where
    by : (b : Bool) → is_at (nat_cmp number) first.0 ≡ b → cond b (Some first.1) (lookup (is_at (nat_cmp number)) known) ≡ Some one → (lookup (is_at (nat_cmp number)) known ≡ Some one → number ≤ last) → number ≤ last
    by true at is later = subst (λ (n : ℕ). n ≤ last) (sym (exact_unsigned number first.0 (equal_of (nat_cmp number first.0) at))) (All-head (IsUpTo last) first.0 (keys_of known) up)
    by false at is later = later is

-- with one that was among those that lack fragments as one of the others
pub numbered-settled : (last : ℕ) (id : DatagramId) (unfinished others : Known) → AreNumbered last unfinished others → (number : ℕ) (one : Datagram) → lookup (is_at (nat_cmp number)) unfinished ≡ Some one
    → lookup (is_at (nat_cmp number)) (forgotten id unfinished) ≡ None → AreNumbered last (forgotten id unfinished) (insert_entry nat_cmp others number one)
numbered-settled last id unfinished others numbered number one found gone =
    let after = numbered-forgotten last unfinished others numbered id in (
      after.0,
      All-keys-insert_entry nat_cmp number one (IsUpTo last) others numbered.1 (up-to-found last number one unfinished numbered.0 found),
      apart-other number one (forgotten id unfinished) others after.2 gone,
    )

-- where it was added or not
pub put-or-not : {T E : Type 0} (result : Result T E) (P : Known → Type 0) (new put old : Known) → OnOk result (new ≡ put) → OnErr result (new ≡ old) → P put → P old → P new
put-or-not (Ok value) P new put old ok err is_put is_old = subst P (sym ok) is_put
put-or-not (Err error) P new put old ok err is_put is_old = subst P (sym err) is_old

-- ---- the oldest

pub left-popped : (clock : ℕ) (old new : Known) (oldest : Option (ℕ × Datagram)) → IfNone oldest ((old ≡ []) × (new ≡ [])) → IfSome oldest (λ one. old ≡ one ∷ new) → is_past clock old ≡ true
    → left_known clock new ≡ left_known clock old
left-popped clock old new None none some past = ap (left_known clock) (none.1 ∙ sym none.0)
left-popped clock old new (Some one) none some past =
    let there : is_past clock (one ∷ new) ≡ true = subst (λ (k : Known). is_past clock k ≡ true) some past in
    sym (ap (left_known clock) some ∙ ap (λ (b : Bool). cond b (left_known clock new) (one ∷ new)) there)

pub popped-fewer : (clock : ℕ) (old new : Known) (oldest : Option (ℕ × Datagram)) → IfNone oldest ((old ≡ []) × (new ≡ [])) → IfSome oldest (λ one. old ≡ one ∷ new) → is_past clock old ≡ true
    → length new < length old
popped-fewer clock old new None none some past = (let wrong : is_past clock [] ≡ true = subst (λ (k : Known). is_past clock k ≡ true) none.0 past in absurd cc)
popped-fewer clock old new (Some one) none some past = (let longer : length old ≡ length (one ∷ new) = ap length some in omega (arith, longer))

-- ---- what is told of one

-- where it is told of
pub told-same : (step : Step) (found after : Option (ℕ × Datagram)) → (step ≡ steps.Completes → found ≡ after) → (step ≡ steps.Overlaps → found ≡ after)
    → (missing_at step found ≡ missing_at step after) × (sight_at step found ≡ sight_at step after)
told-same steps.Completes found after whole lost = (refl, ap (sight_at steps.Completes) (whole refl))
told-same steps.Overlaps found after whole lost = (ap (missing_at steps.Overlaps) (lost refl), refl)
told-same steps.Ignored found after whole lost = (refl, refl)
told-same steps.Added found after whole lost = (refl, refl)
told-same steps.Anew found after whole lost = (refl, refl)
