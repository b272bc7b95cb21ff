-- A text is a number in one way at most.
use Rattle.std.proofs.Common.{◌≡◌, List, ℕ, refl, ap, subst, sym, ◌∙◌, arith}
use Rattle.std.specs.Str.Parse.{IsNumeral}
use Rattle.babel_dump.specs.Decimals.{number}
use Rattle.babel_dump.proofs.decimal.parse_decimal.Goals as goal

pub returns-in_err-digits-clause-reads : goal.returns-in_err-digits-clause-reads
returns-in_err-digits-clause-reads c = λ whole units text small. absurd (c.in_err-digits.ensures.reads text.digits text.fraction units text.numeral.1 text.is text.units_are)

pub returns-in_err-parse_digits-clause-reads : goal.returns-in_err-parse_digits-clause-reads
returns-in_err-parse_digits-clause-reads c = λ whole units text small.
    let same = c.in_ok-digits.ensures.reads text.digits text.fraction units text.numeral.1 text.is text.units_are in
    absurd (c.in_err-parse_digits.ensures (subst (λ (t : List ℕ). IsNumeral 10 t) (sym same.0) text.numeral, omega (arith, text.whole_is, ap number same.0)))

pub returns-clause-reads : goal.returns-clause-reads
returns-clause-reads c = λ whole units text small.
    let same = c.in_ok-digits.ensures.reads text.digits text.fraction units text.numeral.1 text.is text.units_are in
    let whole_is : c.in_ok-parse_digits.field-0 ≡ whole = c.in_ok-parse_digits.ensures.1 ∙ ap number same.0 ∙ sym text.whole_is in
    let units_are : c.in_ok-digits.units ≡ units = same.1 in
    rw (whole_is, units_are) refl
