-- What is first by the counts is the first of all that is counted.
use Rattle.std.proofs.Common.{◌≡◌, ◌↔◌, ◌⊎◌, inl, inr, ℕ, suc, zero, ◌<◌, ◌≤◌, Bool, true, false, nat_lt, if◌then◌else◌, List, [], ◌∷◌, length, map, get_or}
use Rattle.std.proofs.Common.{Option, None, Some, refl, sym, ap, subst, ◌∙◌, arith}
use Rattle.std.specs.Prelude.{count_by, slice_get, find, Contains}
use Rattle.std.specs.List.{AllByRecursion, AllPairs}
use Rattle.std.specs.Option.{option_flatten, option_map}
use Rattle.std.proofs.lemmas.Bool.{false≢true, ltb-false, ltb-true}
use Rattle.std.proofs.lemmas.Option.{get_or_from_slice_get, slice_get-map, slice_get_within}
use Rattle.babel_prefix.proofs.Members.{Contains-from_Listed, Listed, Listed-from_Contains, any_two, find-Some}
use Rattle.babel_dump.specs.ByReason.{HasNone, IsFirst, CountsNone, first_for, first_of, sooner}

-- ---- the first for some reasons

module _ {R : Type 0} where
  -- it is at no lower place than the first, and there is none where there is no first
  abbrev IsBehind : Option (ℕ × R) → Option (ℕ × R) → Type 0
  IsBehind None first = Unit {0}
  IsBehind (Some one) None = ⊥
  IsBehind (Some one) (Some first) = first.0 ≤ one.0

  both_behind : (one other first : Option (ℕ × R)) → IsBehind (sooner one other) first → IsBehind one first × IsBehind other first
  both_behind None other first behind = (tt, behind)
  both_behind (Some one) None first behind = (behind, tt)
  both_behind (Some one) (Some other) first behind = by (nat_lt other.0 one.0) refl first behind
    where
      by : (b : Bool) → nat_lt other.0 one.0 ≡ b → (first : Option (ℕ × R)) → IsBehind (if b then Some other else Some one) first → IsBehind (Some one) first × IsBehind (Some other) first
      by true was None behind = absurd behind
      by false was None behind = absurd behind
      by true was (Some first) behind = (omega (arith, behind, ltb-true other.0 one.0 was), behind)
      by false was (Some first) behind = (behind, omega (arith, behind, ltb-false other.0 one.0 was))

  one_or_other : (one other : Option (ℕ × R)) → (sooner one other ≡ one) ⊎ (sooner one other ≡ other)
  one_or_other None other = inr refl
  one_or_other (Some one) None = inl refl
  one_or_other (Some one) (Some other) = by (nat_lt other.0 one.0)
    where
      by : (b : Bool) → ((if b then Some other else Some one) ≡ Some one) ⊎ ((if b then Some other else Some one) ≡ Some other)
      by true = inr refl
      by false = inl refl

  reason_of : (reason : R) (count : Option (ℕ × ℕ)) (first : ℕ × R) → option_map (λ (n : ℕ × ℕ). (n.1, reason)) count ≡ Some first → reason ≡ first.1
  reason_of reason None first e = absurd cc
  reason_of reason (Some count) first e = let same : (count.1, reason) ≡ first = cc in ap (λ (x : ℕ × R). x.1) same

  uncounted : (reason : R) (count : Option (ℕ × ℕ)) → IsBehind (option_map (λ (n : ℕ × ℕ). (n.1, reason)) count) None → count ≡ None
  uncounted reason None none = refl
  uncounted reason (Some count) none = absurd none

  each_of : (P : R → Type 0) (reasons : List R) → ((reason : R) → Listed reasons reason → P reason) → AllByRecursion P reasons
  each_of P [] all = tt
  each_of P (first ∷ rest) all = (all first (inl refl), each_of P rest (λ reason t. all reason (inr t)))

  one_of : (P : R → Type 0) (reasons : List R) (reason : R) → AllByRecursion P reasons → Listed reasons reason → P reason
  one_of P [] reason all none = elim none [ ]
  one_of P (first ∷ rest) reason all (inl is) = subst P is all.0
  one_of P (first ∷ rest) reason all (inr later) = one_of P rest reason all.1 later

  module _ (counted : R → Option (ℕ × ℕ)) where
    behind_first : (reasons : List R) (first : Option (ℕ × R)) → IsBehind (first_of counted reasons) first → (reason : R) → Listed reasons reason → IsBehind (first_for reason (counted reason)) first
    behind_first [] first behind reason none = elim none [ ]
    behind_first (r ∷ rest) first behind reason t =
        let both = both_behind (first_for r (counted r)) (first_of counted rest) first behind in
        elim t [ inl same ↦ subst (λ (q : R). IsBehind (first_for q (counted q)) first) same both.0 | inr later ↦ behind_first rest first both.1 reason later ]

    is_counted : (reasons : List R) (first : ℕ × R) → first_of counted reasons ≡ Some first → first_for first.1 (counted first.1) ≡ Some first
    is_counted [] first e = absurd cc
    is_counted (reason ∷ rest) first e = elim (one_or_other (first_for reason (counted reason)) (first_of counted rest)) [
      | inl is ↦
          let mine : first_for reason (counted reason) ≡ Some first = sym is ∙ e in
          subst (λ (q : R). first_for q (counted q) ≡ Some first) (reason_of reason (counted reason) first mine) mine
      | inr is ↦ is_counted rest first (sym is ∙ e)
    ]

    pub none_first : (reasons : List R) → first_of counted reasons ≡ None → CountsNone counted reasons
    none_first reasons e = each_of (λ reason. counted reason ≡ None) reasons (λ reason t.
        uncounted reason (counted reason) (behind_first reasons None (subst (λ (x : Option (ℕ × R)). IsBehind x None) (sym e) tt) reason t))

    pub first_none : (reasons : List R) → CountsNone counted reasons → first_of counted reasons ≡ None
    first_none [] none = refl
    first_none (reason ∷ rest) none = rw (none.0, first_none rest none.1) refl

-- ---- the same as another value

module _ {R X : Type 0} (value_of : ℕ × R → X) where
  pub mapped_none : (first : Option (ℕ × R)) → option_map value_of first ≡ None → first ≡ None
  mapped_none None e = refl
  mapped_none (Some first) e = absurd cc

  pub mapped_some : (back : X → ℕ × R) → ((first : ℕ × R) → back (value_of first) ≡ first) → (first : Option (ℕ × R)) (value : X) → option_map value_of first ≡ Some value → first ≡ Some (back value)
  mapped_some back same None value e = absurd cc
  mapped_some back same (Some first) value e = (let is : value_of first ≡ value = cc in ap Some (sym (same first) ∙ ap back is))

-- ---- what is found

-- where one passes, one that passes is found, which is the same or before it
record Finds {A : Type 0} (IsBefore : A → A → Type 0) (test : A → Bool) (all : List A) (one : A) : Type 0 where
  first : A
  is : find test all ≡ Some first
  before : (first ≡ one) ⊎ IsBefore first one

finds : {A : Type 0} (IsBefore : A → A → Type 0) (test : A → Bool) (all : List A) (one : A) → AllPairs IsBefore all → Contains all one → test one ≡ true → Finds IsBefore test all one
finds IsBefore test [] one pairs (k, within, at) passes = absurd (omega arith)
finds {A} IsBefore test (x ∷ xs) one pairs (k, within, at) passes =
    by (λ n n_in n_at. finds IsBefore test xs one (λ i j d lt j_in. pairs (suc i) (suc j) d (omega arith) (omega arith)) (n, n_in, n_at) passes) (test x) refl k within at
  where
    by : ((n : ℕ) → n < length xs → get_or xs n one ≡ one → Finds IsBefore test xs one) → (b : Bool) → test x ≡ b
        → (n : ℕ) → n < length (x ∷ xs) → get_or (x ∷ xs) n one ≡ one → Finds IsBefore test (x ∷ xs) one
    by later true is zero n_in same = record { first = x; is = rw is refl; before = inl same }
    by later true is (suc n) n_in same = record { first = x; is = rw is refl; before = inr (subst (IsBefore x) same (pairs 0 (suc n) one (omega arith) n_in)) }
    by later false is zero n_in same = absurd (false≢true (sym is ∙ subst (λ (y : A). test y ≡ true) (sym same) passes))
    by later false is (suc n) n_in same = (let found = later n (omega arith) same in record { first = found.first; is = rw is found.is; before = found.before })

-- ---- reasons and their places

module _ {R : Type 0} (reasons : List R) (place : R → ℕ) (placed : (reason : R) → slice_get reasons (place reason) ≡ Some reason) where
  -- reasons at one place are one
  pub one_place : (reason other : R) → place other ≡ place reason → other ≡ reason
  one_place reason other e =
      let same : Some other ≡ Some reason = sym (placed other) ∙ ap (slice_get reasons) e ∙ placed reason in
      cc

  listed : (reason : R) → Listed reasons reason
  listed reason =
      let at = placed reason in
      Listed-from_Contains reasons reason (place reason, slice_get_within reasons (place reason) reason at, get_or_from_slice_get reasons (place reason) reason reason at)

  -- ---- counts of what is there for reasons

  module _ {A : Type 0} (place_of : A → ℕ) (test : R → A → Bool) (IsFor : R → A → Type 0) (passes : (reason : R) (one : A) → IsFor reason one → test reason one ≡ true)
      (is_for : (reason : R) (one : A) → test reason one ≡ true → IsFor reason one) (all : List A) where
    -- how many there are for a reason, and the place of the first
    abbrev count_of : R → A → ℕ × ℕ
    count_of reason one = (count_by (test reason) all, place_of one)

    abbrev count_in : R → Option (ℕ × ℕ)
    count_in reason = option_map (count_of reason) (find (test reason) all)

    abbrev counted : R → Option (ℕ × ℕ)
    counted reason = option_flatten (slice_get (map count_in reasons) (place reason))

    counted_is : (reason : R) → counted reason ≡ count_in reason
    counted_is reason = ap option_flatten (slice_get-map count_in reasons (place reason) ∙ ap (option_map count_in) (placed reason))

    pub none_is_none : CountsNone counted reasons ↔ HasNone IsFor all
    none_is_none = (to, from)
      where
        to : CountsNone counted reasons → HasNone IsFor all
        to none one reason c is =
            let found = finds (λ x y. Unit {0}) (test reason) all one (λ i j d lt within. tt) c (passes reason one is) in
            let never : None ≡ count_in reason = sym (one_of (λ r. counted r ≡ None) reasons reason none (listed reason)) ∙ counted_is reason in
            let some = ap (option_map (count_of reason)) found.is in
            absurd cc

        none_found : (reason : R) → HasNone IsFor all → (found : Option A) → find (test reason) all ≡ found → found ≡ None
        none_found reason none None e = refl
        none_found reason none (Some one) e = let is = find-Some (test reason) all one e in absurd (none one reason (Contains-from_Listed all one is.0) (is_for reason one is.1))

        from : HasNone IsFor all → CountsNone counted reasons
        from none = each_of (λ r. counted r ≡ None) reasons (λ reason t.
            counted_is reason ∙ ap (option_map (count_of reason)) (none_found reason none (find (test reason) all) refl))

    module _ (rises : AllPairs (λ one later. place_of one < place_of later) all) where
      pub first_is : (first : ℕ × R) → first_of counted reasons ≡ Some first → IsFirst place_of IsFor all first.0 first.1
      first_is first e =
          by (find (test first.1) all) refl (ap (option_map (λ (n : ℕ × ℕ). (n.1, first.1))) (sym (counted_is first.1)) ∙ is_counted counted reasons first e)
        where
          no_lower : (other : A) (its : R) → Contains all other → IsFor its other → first.0 ≤ place_of other
          no_lower other its c said =
              let found = finds (λ one later. place_of one < place_of later) (test its) all other rises c (passes its other said) in
              let behind = behind_first counted reasons (Some first) (subst (λ (x : Option (ℕ × R)). IsBehind x (Some first)) (sym e) (omega arith)) its (listed its) in
              let le : first.0 ≤ place_of found.first =
              subst (λ (x : Option (ℕ × ℕ)). IsBehind (option_map (λ (n : ℕ × ℕ). (n.1, its)) x) (Some first))
              (counted_is its ∙ ap (option_map (count_of its)) found.is) behind in
              elim found.before [ inl same ↦ omega (arith, le, ap place_of same) | inr lt ↦ omega (arith, le, lt) ]

          by : (found : Option A) → find (test first.1) all ≡ found
              → option_map (λ (n : ℕ × ℕ). (n.1, first.1)) (option_map (count_of first.1) found) ≡ Some first → IsFirst place_of IsFor all first.0 first.1
          by None is mine = absurd cc
          by (Some one) is mine =
              let found = find-Some (test first.1) all one is in
              let same : (place_of one, first.1) ≡ first = cc in
              record {
                one = one;
                listed = Contains-from_Listed all one found.0;
                at = ap (λ (x : ℕ × R). x.0) same;
                is_for = is_for first.1 one found.1;
                first = no_lower;
              }

      pub is_first : ((reason other : R) (one : A) → IsFor reason one → IsFor other one → reason ≡ other)
          → (at : ℕ) (reason : R) → IsFirst place_of IsFor all at reason → first_of counted reasons ≡ Some (at, reason)
      is_first one_reason at reason is = by (first_of counted reasons) refl
        where
          by : (found : Option (ℕ × R)) → first_of counted reasons ≡ found → found ≡ Some (at, reason)
          by None e = absurd (none_is_none.0 (none_first counted reasons e) is.one reason is.listed is.is_for)
          by (Some first) e =
              let it = first_is first e in
              let le : first.0 ≤ place_of is.one = it.first is.one reason is.listed is.is_for in
              let ge : at ≤ place_of it.one = is.first it.one first.1 it.listed it.is_for in
              let place_is : first.0 ≡ at = omega (arith, le, ge, it.at, is.at) in
              let same : it.one ≡ is.one = elim (any_two (λ one later. place_of one < place_of later) all it.one is.one rises it.listed is.listed) [
                | inl same ↦ same
                | inr other ↦ elim other [ inl lt ↦ absurd (omega (arith, lt, it.at, is.at)) | inr gt ↦ absurd (omega (arith, gt, it.at, is.at)) ]
              ] in
              let reason_is : first.1 ≡ reason = one_reason first.1 reason it.one it.is_for (subst (IsFor reason) (sym same) is.is_for) in
              let whole : Some (first.0, first.1) ≡ Some (at, reason) = cc in
              whole

-- ---- counts that hold the lowest place

-- the lowest place of one that is counted
pub record IsLowest {A : Type 0} (place_of : A → ℕ) (Is : A → Type 0) (all : List A) (place : ℕ) : Type 0 where
  pub one : A
  pub listed : Contains all one
  pub at : place_of one ≡ place
  pub is : Is one
  pub lowest : (other : A) → Contains all other → Is other → place ≤ place_of other

module _ {A R : Type 0} (reasons : List R) (place : R → ℕ) (placed : (reason : R) → slice_get reasons (place reason) ≡ Some reason) (place_of : A → ℕ) (IsFor : R → A → Type 0) (all : List A)
    (count_in : R → Option (ℕ × ℕ)) (lowest : (reason : R) (count : ℕ × ℕ) → count_in reason ≡ Some count → IsLowest place_of (IsFor reason) all count.1)
    (none : (reason : R) → count_in reason ≡ None → (one : A) → Contains all one → IsFor reason one → ⊥)
    (nothing : (reason : R) → ((one : A) → Contains all one → IsFor reason one → ⊥) → count_in reason ≡ None) where
  abbrev counts_in : R → Option (ℕ × ℕ)
  counts_in reason = option_flatten (slice_get (map count_in reasons) (place reason))

  counts_is : (reason : R) → counts_in reason ≡ count_in reason
  counts_is reason = ap option_flatten (slice_get-map count_in reasons (place reason) ∙ ap (option_map count_in) (placed reason))

  pub none_counted : CountsNone counts_in reasons ↔ HasNone IsFor all
  none_counted = (
    λ counted one reason c is. none reason (sym (counts_is reason) ∙ one_of (λ r. counts_in r ≡ None) reasons reason counted (listed reasons place placed reason)) one c is,
    λ has. each_of (λ r. counts_in r ≡ None) reasons (λ reason t. counts_is reason ∙ nothing reason (λ one c is. has one reason c is)),
  )

  pub lowest_is_first : (first : ℕ × R) → first_of counts_in reasons ≡ Some first → IsFirst place_of IsFor all first.0 first.1
  lowest_is_first first e = by (count_in first.1) refl (ap (first_for first.1) (sym (counts_is first.1)) ∙ is_counted counts_in reasons first e)
    where
      behind_it : (other : A) (its : R) (count : Option (ℕ × ℕ)) → count_in its ≡ count → Contains all other → IsFor its other → IsBehind (first_for its count) (Some first) → first.0 ≤ place_of other
      behind_it other its None is c said behind = absurd (none its is other c said)
      behind_it other its (Some count) is c said behind = let low = (lowest its count is).lowest other c said in omega (arith, behind, low)

      no_lower : (other : A) (its : R) → Contains all other → IsFor its other → first.0 ≤ place_of other
      no_lower other its c said =
          behind_it other its (count_in its) refl c said (subst (λ (n : Option (ℕ × ℕ)). IsBehind (first_for its n) (Some first)) (counts_is its)
          (behind_first counts_in reasons (Some first) (subst (λ (x : Option (ℕ × R)). IsBehind x (Some first)) (sym e) (omega arith)) its (listed reasons place placed its)))

      by : (count : Option (ℕ × ℕ)) → count_in first.1 ≡ count → first_for first.1 count ≡ Some first → IsFirst place_of IsFor all first.0 first.1
      by None is mine = absurd cc
      by (Some count) is mine =
          let low = lowest first.1 count is in
          let same : (count.1, first.1) ≡ first = cc in
          record {
            one = low.one;
            listed = low.listed;
            at = low.at ∙ ap (λ (x : ℕ × R). x.0) same;
            is_for = low.is;
            first = no_lower;
          }
