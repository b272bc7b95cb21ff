-- The gap of the groups, from the longest run of zeros.
use Rattle.std.proofs.Common.{◌≡◌, ℕ, ◌+◌, ◌-◌, ◌<◌, ◌≤◌, List, Some, None, refl, ap₂, subst, arith, lt-ltb, le-ltb}
use Rattle.std.specs.Net.Text.{longest_zero_run}
use Rattle.babel_prefix.specs.declared.gap.Gap.{Gap}
use Rattle.babel_prefix.specs.Short.{gap_in}
use Rattle.babel_prefix.specs.Text.{groups_from}

abbrev gap : ℕ → ℕ → Gap
gap start len = record { start = start; len = len }

gap_in-long : (gs : List ℕ) (start len : ℕ) → 1 < (longest_zero_run gs).1 → start ≡ (longest_zero_run gs).0 → len ≡ (longest_zero_run gs).1 → Some (gap start len) ≡ gap_in gs
gap_in-long gs start len long s l = rw (lt-ltb 1 (longest_zero_run gs).1 long) (ap₂ (λ x y. Some (gap x y)) s l)

gap_in-none : (gs : List ℕ) → (longest_zero_run gs).1 ≤ 1 → None ≡ gap_in gs
gap_in-none gs short = rw (le-ltb 1 (longest_zero_run gs).1 short) refl

-- of the eight groups, when all are seen
pub found : (k n len after : ℕ) → k ≡ 8 → len ≡ (longest_zero_run (groups_from k n)).1 →
    (longest_zero_run (groups_from k n)).0 + len + after ≡ k → 1 < len → Some (gap (8 - after - len) len) ≡ gap_in (groups_from 8 n)
found k n len after all is sum long =
    subst (λ (m : ℕ). Some (gap (8 - after - len) len) ≡ gap_in (groups_from m n)) all
    (gap_in-long (groups_from k n) (8 - after - len) len (omega arith) (omega arith) is)

pub none_found : (k n len : ℕ) → k ≡ 8 → len ≡ (longest_zero_run (groups_from k n)).1 → len ≤ 1 → None ≡ gap_in (groups_from 8 n)
none_found k n len all is few = subst (λ (m : ℕ). None ≡ gap_in (groups_from m n)) all (gap_in-none (groups_from k n) (omega arith))
