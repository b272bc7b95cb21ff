-- The sum fits 64 bits, and is that of the numbers as they are.
use Rattle.std.proofs.Common.{◌≡◌, ℕ, ◌^◌, ◌<◌, ℤ, pos, negsuc, Some, Result, Ok, Err, refl, ap, ◌∙◌, subst, arith}
use Rattle.std.specs.Prelude.{◌+ℤ◌, ◌*ℤ◌, ◌-ℤ◌, IfSome, unsigned_abs}
use Rattle.std.specs.Int.{FitsUnsignedBits}
use Rattle.std.specs.Int.RustNames.{FitsSigned}
use Rattle.std.specs.Result.{OkIff, result_ok}
use Rattle.std.proofs.lemmas.Int.{ints}
use Rattle.jiff_core.specs.Calendar.{IsEpochDay}
use mir.Syntax.{w16, w64}
use mir.Val.{of_z, to_z}
use Rattle.babel_dump.proofs.time_word.minutes_since.Goals as goal

-- as the code computes it
abbrev computed : ℤ → ℤ → ℤ → ℤ
computed day minutes offset =
    to_z w64 (of_z w64 (to_z w64 (of_z w64 (to_z w64 (of_z w64 (to_z w64 (of_z w64 day) *ℤ pos 1440)) +ℤ to_z w64 (of_z w64 minutes))) -ℤ to_z w64 (of_z w64 offset)))

abbrev sum : ℤ → ℕ → ℤ → ℤ
sum day minutes offset = (day *ℤ pos 1440 +ℤ pos minutes) -ℤ offset

computed_is : (day offset : ℤ) (minutes : ℕ) → IsEpochDay day → FitsSigned w16 offset → minutes < 2 ^ 16 → computed day (pos minutes) offset ≡ sum day minutes offset
computed_is day offset minutes epoch fits small = omega (arith, ints)

module _ {E : Type 0} (day offset : ℤ) (minutes : ℕ) where
  read : (r : Result ℕ E) → OkIff r (FitsUnsignedBits 64 (sum day minutes offset)) (unsigned_abs (sum day minutes offset))
      → IfSome (result_ok r) (λ since. (pos since +ℤ offset) ≡ (day *ℤ pos 1440 +ℤ pos minutes))
  read r is = by r (sum day minutes offset) is (λ n e. omega (arith, ints))
    where
      by : (r : Result ℕ E) (all : ℤ) → OkIff r (FitsUnsignedBits 64 all) (unsigned_abs all) → ((n : ℕ) → pos n ≡ all → (pos n +ℤ offset) ≡ (day *ℤ pos 1440 +ℤ pos minutes))
          → IfSome (result_ok r) (λ since. (pos since +ℤ offset) ≡ (day *ℤ pos 1440 +ℤ pos minutes))
      by (Ok n) (pos m) is back = back n (ap pos is.1)
      by (Ok n) (negsuc m) is back = absurd is.0
      by (Err error) all is back = tt

  given : (r : Result ℕ E) → OkIff r (FitsUnsignedBits 64 (sum day minutes offset)) (unsigned_abs (sum day minutes offset)) → IsEpochDay day → FitsSigned w16 offset → minutes < 2 ^ 16
      → (since : ℕ) → (pos since +ℤ offset) ≡ (day *ℤ pos 1440 +ℤ pos minutes) → result_ok r ≡ Some since
  given r is epoch fits small since e = by r (sum day minutes offset) is (omega (arith, ints)) (omega (arith, ints))
    where
      by : (r : Result ℕ E) (all : ℤ) → OkIff r (FitsUnsignedBits 64 all) (unsigned_abs all) → pos since ≡ all → since < 2 ^ 64 → result_ok r ≡ Some since
      by (Ok n) (pos m) is e small = let same : since ≡ m = cc in rw (same, is.1) refl
      by (Ok n) (negsuc m) is e small = absurd is.0
      by (Err error) all is e small = absurd (is (subst (FitsUnsignedBits 64) e small))

exact : (c : goal.After-ok) → OkIff c.try_from.result (FitsUnsignedBits 64 (sum c.args.day c.args.minutes c.args.offset)) (unsigned_abs (sum c.args.day c.args.minutes c.args.offset))
exact c =
    let from : c.from-2.result ≡ c.args.offset = omega (arith, ints, c.from-2.ensures) in
    rw (c.from.ensures, from, computed_is c.args.day c.args.offset c.args.minutes c.requires c.ranges.offset c.ranges.minutes.fits) at c.try_from.ensures

pub returns-clause-is : goal.returns-clause-is
returns-clause-is c = rw c.ok.ensures.value (read c.args.day c.args.offset c.args.minutes c.try_from.result (exact c))

pub returns-clause-reads : goal.returns-clause-reads
returns-clause-reads c = λ since e. c.ok.ensures.value ∙ given c.args.day c.args.offset c.args.minutes c.try_from.result (exact c) c.requires c.ranges.offset c.ranges.minutes.fits since e
