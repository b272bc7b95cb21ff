-- One more at its place is within the TLVs, and so are the counts at the other places.
use Rattle.std.proofs.Common.{ℕ, zero, suc, ◌+◌, ◌≤◌, List, [], ◌∷◌, Option, Some, None, ◌∙◌, arith}
use Rattle.std.proofs.Math.ListN.{set, length-set}
use Rattle.std.specs.Prelude.{IfSome}
use Rattle.std.proofs.lemmas.Option.{IfSome_then, slice_get-get_or}
use Rattle.babel_table.specs.Counting.{one_more}
use Rattle.babel_table.specs.Counts.{count_at}
use Rattle.babel_table.proofs.report.Report.count.Goals as goal

abbrev IsWithin : ℕ → Option (ℕ × ℕ) → Type 0
IsWithin n counted = IfSome counted (λ c. c.0 ≤ n)

within-more : (n : ℕ) (counted : Option (ℕ × ℕ)) → IsWithin n counted → IsWithin (n + 1) counted
within-more n counted within = IfSome_then counted within (λ c le. omega (arith, le))

one_more-within : (at n : ℕ) (counted : Option (ℕ × ℕ)) → IsWithin n counted → IsWithin (n + 1) (one_more at counted)
one_more-within at n None within = omega arith
one_more-within at n (Some counted) within = omega (arith, within)

set-within : (xs : List (Option (ℕ × ℕ))) (place n : ℕ) (counted : Option (ℕ × ℕ)) → ((i : ℕ) → IsWithin n (count_at xs i)) → IsWithin (n + 1) counted
    → (i : ℕ) → IsWithin (n + 1) (count_at (set xs place counted) i)
set-within [] place n counted each here i = tt
set-within (x ∷ xs) zero n counted each here zero = here
set-within (x ∷ xs) zero n counted each here (suc i) = within-more n (count_at xs i) (each (suc i))
set-within (x ∷ xs) (suc place) n counted each here zero = within-more n x (each zero)
set-within (x ∷ xs) (suc place) n counted each here (suc i) = set-within xs place n counted (λ k. each (suc k)) here i

pub invariant_of-self : goal.invariant_of-self
invariant_of-self c =
    let all = c.self.inside.ignored in
    let place = c.place_of-place.result in
    let tlvs = c.self.inside.tlvs in
    let one = rw (slice_get-get_or all place None (omega (arith, c.self.invariant.0, c.place_of-place.ensures.in_order))) at (c.self.invariant.2 place) in (
      length-set all place c.one_more_of.result ∙ c.self.invariant.0,
      omega (arith, c.self.invariant.1, c.one_if_update.ensures.few),
      set-within all place tlvs c.one_more_of.result c.self.invariant.2 (rw c.one_more_of.ensures (one_more-within c.args.tlv.now.at tlvs _ one)),
    )
