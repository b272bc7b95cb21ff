-- The word is cut at its first colon.
use Rattle.std.proofs.Common.{Bor, ℕ, List, ◌≡◌, Some, None, arith, lit<}
use Rattle.babel_dump.proofs.WordLaws.{cut_digits}
use Rattle.babel_dump.proofs.time_word.parse_hours.Goals as goal

pub returns-in_err-hour-clause-reads : goal.returns-in_err-hour-clause-reads
returns-in_err-hour-clause-reads c = λ minutes text.
    absurd (cut_digits 58 (λ r. omega arith) (lit< tt) c.args.word.now text.hour text.clock.hour_is.1 text.minute text.is None c.in_err-hour.ensures.cases)

pub returns-in_err-parse_minutes-clause-reads : goal.returns-in_err-parse_minutes-clause-reads
returns-in_err-parse_minutes-clause-reads c = λ minutes text.
    let x : Bor (List ℕ) × Bor (List ℕ) = (c.in_ok-hour.hour, c.in_ok-hour.minute) in
    let cut = cut_digits 58 (λ r. omega arith) (lit< tt) c.args.word.now text.hour text.clock.hour_is.1 text.minute text.is (Some x) c.in_ok-hour.ensures.cases in
    let hour : c.in_ok-hour.hour.now ≡ text.hour = cut.0 in
    let minute : c.in_ok-hour.minute.now ≡ text.minute = cut.1 in
    absurd (c.in_err-parse_minutes.ensures (rw (hour, minute) text.clock))
