-- The first one that is not before the mark.
use Rattle.std.proofs.Common.{◌≡◌, ℕ, zero, suc, ◌≤◌, Bool, true, false, cond, List, [], ◌∷◌, length, nat_lt, Some, None, refl, sym, ap, ◌∙◌, arith}
use Rattle.std.specs.List.{slice_get}
use Rattle.std.specs.List.Sorted.{IsPartitionPoint}
use Rattle.std.specs.Option.{option_map}
use Rattle.std.proofs.lemmas.Bool.{ltb-true}
use Rattle.std.proofs.lemmas.Bool.Decides.{nat_tests}
use Rattle.std.proofs.lemmas.Option.{slice_get_past, slice_get_read}
use Rattle.babel_table.specs.Moments.{Stamp}
use Rattle.babel_table.specs.Words.{first_after}
use Rattle.babel_table.proofs.wipes.first_after.Goals as goal

past : (a b : ℕ) → nat_lt a b ≡ false → b ≤ a
past a b is = grind (arith, nat_tests)

first-at : (mark : ℕ) (firsts : List (ℕ × Stamp)) (place : ℕ) → IsPartitionPoint (λ first. nat_lt first.0 mark ≡ true) (λ first. nat_lt first.0 mark ≡ false) firsts place
    → option_map (λ (first : ℕ × Stamp). first.1) (slice_get firsts place) ≡ first_after mark firsts
first-at mark [] place point = refl
first-at mark (first ∷ later) zero point = ap (λ (b : Bool). cond b (first_after mark later) (Some first.1)) (sym (point.1 0 first (omega arith) (omega arith)))
first-at mark (first ∷ later) (suc place) point =
    first-at mark later place (λ k d low high. point.0 (suc k) d (omega arith) (omega (arith, high)), λ k d low high. point.1 (suc k) d (omega (arith, low)) (omega (arith, high)))
    ∙ ap (λ (b : Bool). cond b (first_after mark later) (Some first.1)) (sym (point.0 0 first (omega arith) (omega arith)))

pub returns-in-Some : goal.returns-in-Some
returns-in-Some c =
    let firsts : List (ℕ × Stamp) = c.args.firsts.now in
    let here : slice_get firsts c.place_after.result ≡ Some c.in-Some.first.now =
    slice_get_read firsts (length firsts) c.place_after.result c.in-Some.first.now refl (ltb-true c.place_after.result (length firsts) (sym c.in-Some.ensures.lookup.0)) c.in-Some.ensures.lookup.1 in
    ap (λ (t : ℕ). Some t) c.time.ensures.value
    ∙ ap (option_map (λ (when : Stamp). when.time)) (sym (ap (option_map (λ (first : ℕ × Stamp). first.1)) here) ∙ first-at c.args.mark firsts c.place_after.result c.place_after.ensures)

pub returns-in-None : goal.returns-in-None
returns-in-None c =
    let firsts : List (ℕ × Stamp) = c.args.firsts.now in
    let none : slice_get firsts c.place_after.result ≡ None = slice_get_past firsts c.place_after.result (past c.place_after.result (length firsts) (sym c.in-None.ensures.lookup.0)) in
    ap (option_map (λ (when : Stamp). when.time)) (sym (ap (option_map (λ (first : ℕ × Stamp). first.1)) none) ∙ first-at c.args.mark firsts c.place_after.result c.place_after.ensures)
