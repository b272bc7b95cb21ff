-- What is selected is feasible, not infinite, and the least.
use Rattle.std.proofs.Common.{◌≡◌, ◌⊎◌, inl, inr, ℕ, ◌<◌, ◌≤◌, Bool, true, false, cond, not, ltb, List, [], ◌∷◌, Option, refl, sym, ap, subst, ◌∙◌, arith, eqb-true, eq-eqb}
use Rattle.std.specs.Prelude.{◌==◌, ◌&&◌, min, fold, Contains}
use Rattle.std.proofs.lemmas.Bool.{and_parts, ltb-true, ltb-false, false≢true}
use Rattle.babel_prefix.proofs.Members.{Listed, Listed-from_Contains}
use Rattle.babel_tlv.specs.Route.{Announcement}
use Rattle.babel_selection.specs.declared.candidate.Candidate.{Candidate}
use Rattle.babel_selection.specs.declared.distance.Distance.{Distance}
use Rattle.babel_selection.specs.declared.selection.Choice.{Choice}
use Rattle.babel_selection.specs.declared.selection.RouteState.{RouteState}
use Rattle.babel_selection.specs.declared.selection.RouteState.TheVariants as states
use Rattle.babel_selection.specs.Distances.{is_feasible}
use Rattle.babel_selection.specs.Links.{infinite}
use Rattle.babel_selection.specs.Selection.{SelectedIsLeast, SelectedIsUsable, UnfeasibleIsNotSelected, choice_of, is_least, is_named, is_selected, is_usable, least_total, state_of, total}

-- the tests before what is selected
by_tests : (a b c d : Bool)
    → (let state : RouteState = cond a states.Unheard (cond b states.Unreachable (cond (not c) states.Unfeasible (cond d states.Selected states.Feasible))) in state) ≡ states.Selected
    → (b ≡ false) × (c ≡ true) × (d ≡ true)
by_tests true b c d e = absurd cc
by_tests false true c d e = absurd cc
by_tests false false false d e = absurd cc
by_tests false false true true e = (refl, refl, refl)
by_tests false false true false e = absurd cc

selected_parts : (choice : Choice) (owns : List Announcement) (one : Candidate) → state_of choice owns one ≡ states.Selected
    → ((total one == infinite) ≡ false) × (is_feasible one.distance one.ann ≡ true) × (is_selected choice owns one ≡ true)
selected_parts choice owns one e =
    by_tests (one.cost == infinite) (total one == infinite) (is_feasible one.distance one.ann) (is_selected choice owns one) e

finite : (n : ℕ) → (min infinite n == infinite) ≡ false → min infinite n < infinite
finite n e = by (ltb (min infinite n) infinite) refl
  where
    by : (b : Bool) → ltb (min infinite n) infinite ≡ b → min infinite n < infinite
    by true is = ltb-true _ _ is
    by false is =
        let at_least : infinite ≤ min infinite n = ltb-false _ _ is in
        let same : min infinite n ≡ infinite = omega (arith, at_least) in
        absurd (false≢true (sym e ∙ eq-eqb _ _ same))

pub selected_is_usable : SelectedIsUsable
selected_is_usable candidates owns one e =
    let parts = selected_parts (choice_of candidates owns) owns one e in
    (finite _ parts.0, parts.1)

-- the least total is at most each
abbrev less : ℕ → Candidate → ℕ
less least one = cond (is_usable one) (min least (total one)) least

less_most : (least : ℕ) (one : Candidate) → less least one ≤ least
less_most least one = by (is_usable one)
  where
    by : (b : Bool) → cond b (min least (total one)) least ≤ least
    by true = omega arith
    by false = omega arith

less_one : (least : ℕ) (one : Candidate) → is_usable one ≡ true → less least one ≤ total one
less_one least one e = by (is_usable one) e
  where
    by : (b : Bool) → b ≡ true → cond b (min least (total one)) least ≤ total one
    by true is = omega arith
    by false is = absurd cc

most : (least : ℕ) (candidates : List Candidate) → fold less least candidates ≤ least
most least [] = omega arith
most least (one ∷ candidates) = let at_most = less_most least one in let rest = most (less least one) candidates in omega (arith, at_most, rest)

least_of : (least : ℕ) (candidates : List Candidate) (other : Candidate) → Listed candidates other → is_usable other ≡ true → fold less least candidates ≤ total other
least_of least [] other none usable = elim none [ ]
least_of least (one ∷ candidates) other (inl e) usable =
    let here : less least other ≤ total other = less_one least other usable in
    let rest : fold less (less least other) candidates ≤ less least other = most (less least other) candidates in
    subst (λ (c : Candidate). fold less (less least c) candidates ≤ total other) (sym e) (omega (arith, here, rest))
least_of least (one ∷ candidates) other (inr listed) usable = least_of (less least one) candidates other listed usable

not_own : (b : Bool) → not b ≡ true → b ≡ false
not_own true is = absurd cc
not_own false is = refl

-- what is chosen is announced, or of the least metric
chosen_is_least : (candidates : List Candidate) (owns : List Announcement) (one : Candidate) (named own : Bool)
    → cond named (is_named owns one) (not own && is_least (least_total candidates) one) ≡ true
    → (is_named owns one ≡ true) ⊎ (((other : Candidate) → Contains candidates other → is_usable other ≡ true → total one ≤ total other) × (own ≡ false))
chosen_is_least candidates owns one true own is = inl is
chosen_is_least candidates owns one false own is =
    let parts = and_parts (not own) (is_least (least_total candidates) one) is in
    let least = and_parts (is_usable one) (total one == least_total candidates) parts.1 in
    let same : total one ≡ least_total candidates = eqb-true _ _ least.1 in
    inr (
      λ other contained usable.
          let at_most : least_total candidates ≤ total other = least_of infinite candidates other (Listed-from_Contains candidates other contained) usable in
          omega (arith, same, at_most),
      not_own own parts.0,
    )

pub selected_is_least : SelectedIsLeast
selected_is_least candidates owns one e =
    let choice : Choice = choice_of candidates owns in
    chosen_is_least candidates owns one choice.is_named choice.is_own (selected_parts choice owns one e).2

pub unfeasible_is_not_selected : UnfeasibleIsNotSelected
unfeasible_is_not_selected candidates owns one distance is farther e =
    let feasible : is_feasible one.distance one.ann ≡ true = (selected_parts (choice_of candidates owns) owns one e).1 in
    let not_so : is_feasible one.distance one.ann ≡ false = ap (λ (d : Option Distance). is_feasible d one.ann) is ∙ farther in
    false≢true (sym not_so ∙ feasible)
