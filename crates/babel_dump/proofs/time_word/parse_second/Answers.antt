-- The second is what stands before the fraction.
use Rattle.std.proofs.Common.{◌≡◌, refl, ap, subst, sym, ◌∙◌, arith}
use Rattle.babel_dump.specs.Decimals.{AreDigits, number}
use Rattle.babel_dump.proofs.time_word.parse_second.Goals as goal

pub returns-in_err-second-clause-reads : goal.returns-in_err-second-clause-reads
returns-in_err-second-clause-reads c = λ seconds nanoseconds text.
    absurd (c.in_err-second.ensures.reads text.second text.fraction nanoseconds text.second_is.1 text.is text.nanoseconds_are)

pub returns-in_err-second-2-clause-reads : goal.returns-in_err-second-2-clause-reads
returns-in_err-second-2-clause-reads c = λ seconds nanoseconds text.
    let same = c.in_ok-second.ensures.reads text.second text.fraction nanoseconds text.second_is.1 text.is text.nanoseconds_are in
    absurd (c.in_err-second-2.ensures (subst (AreDigits 2) (sym same.0) text.second_is))

pub returns-then-second-gt59-clause-reads : goal.returns-then-second-gt59-clause-reads
returns-then-second-gt59-clause-reads c = λ seconds nanoseconds text.
    let same = c.in_ok-second.ensures.reads text.second text.fraction nanoseconds text.second_is.1 text.is text.nanoseconds_are in
    absurd (omega (arith, c.in_ok-second-2.ensures.1, ap number same.0, text.in_minute))

pub returns-clause-reads : goal.returns-clause-reads
returns-clause-reads c = λ seconds nanoseconds text.
    let same = c.in_ok-second.ensures.reads text.second text.fraction nanoseconds text.second_is.1 text.is text.nanoseconds_are in
    let whole : c.from.result ≡ seconds = c.from.ensures ∙ c.in_ok-second-2.ensures.1 ∙ ap number same.0 ∙ sym text.seconds_are in
    let units : c.in_ok-second.units ≡ nanoseconds = same.1 in
    rw (whole, units) refl
