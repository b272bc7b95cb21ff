-- The numbers are as they are in the types that a date takes.
use Rattle.std.proofs.Common.{◌≡◌, pos, Some, Result, Ok, Err, sym, subst, ◌∙◌, arith}
use Rattle.std.specs.Prelude.{IfOk}
use Rattle.std.specs.Result.{result_ok}
use Rattle.std.proofs.lemmas.Int.{ints}
use Rattle.jiff_core.specs.Calendar.{IsCivilDate}
use mir.Syntax.{w64}
use mir.Val.{of_z, to_z}
use Rattle.babel_dump.proofs.time_word.epoch_day.Goals as goal

known : {T E : Type 0} (r : Result T E) (x : T) (P : T → Type 0) → result_ok r ≡ Some x → IfOk r P → P x
known (Ok y) x P e is = let same : y ≡ x = cc in subst P same is
known (Err error) x P e is = absurd cc

pub returns-clause-is : goal.returns-clause-is
returns-clause-is c =
    let date = c.in_ok-date.date in
    let is = known c.new.result date _ (sym c.ok.ensures.value ∙ c.in_ok-date.was) c.new.ensures.value in
    let year : date.year ≡ pos c.args.year = omega (arith, ints, is.0) in
    let month : date.month ≡ c.args.month = omega (arith, ints, is.1) in
    let day : date.day ≡ c.args.day = omega (arith, ints, is.2) in
    let civil : IsCivilDate date.year date.month date.day = (date.year_in, date.month_in, date.day_in) in
    let days : to_z w64 (of_z w64 c.from.result) ≡ c.to_unix_epoch_day.result = omega (arith, ints, c.from.ensures) in
    (rw (year, month, day) at civil, days ∙ (rw (year, month, day) at c.to_unix_epoch_day.ensures.value))
