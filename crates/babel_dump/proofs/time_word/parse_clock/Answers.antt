-- The word is cut at its first colon.
use Rattle.std.proofs.Common.{Bor, ◌≡◌, ◌++◌, ℕ, List, Some, None, refl, sym, ◌∙◌, arith, lit<}
use Rattle.std.proofs.lemmas.Str.Pattern.{IsSplitOnceResult}
use Rattle.babel_dump.specs.MomentWords.{ClockText}
use Rattle.babel_dump.proofs.WordLaws.{cut_digits}
use Rattle.babel_dump.proofs.time_word.parse_clock.Goals as goal

module _ (word : List ℕ) (minutes seconds nanoseconds : ℕ) (text : ClockText word minutes seconds nanoseconds) where
  no_colon : IsSplitOnceResult 58 word None → ⊥
  no_colon is = cut_digits 58 (λ r. omega arith) (lit< tt) word text.hour text.clock.hour_is.1 (text.minute ++ text.rest) text.is None is

  parts : (x : Bor (List ℕ) × Bor (List ℕ)) → IsSplitOnceResult 58 word (Some x) → (x.0.now ≡ text.hour) × (x.1.now ≡ text.minute ++ text.rest)
  parts x is = cut_digits 58 (λ r. omega arith) (lit< tt) word text.hour text.clock.hour_is.1 (text.minute ++ text.rest) text.is (Some x) is

pub returns-in_err-hour-clause-reads : goal.returns-in_err-hour-clause-reads
returns-in_err-hour-clause-reads c = λ minutes seconds nanoseconds text. absurd (no_colon c.args.word.now minutes seconds nanoseconds text c.in_err-hour.ensures.cases)

pub returns-in_err-minute-clause-reads : goal.returns-in_err-minute-clause-reads
returns-in_err-minute-clause-reads c = λ minutes seconds nanoseconds text.
    let cut = parts c.args.word.now minutes seconds nanoseconds text (c.in_ok-hour.hour, c.in_ok-hour.rest) c.in_ok-hour.ensures.cases in
    absurd (c.in_err-minute.ensures.reads text.minute text.rest seconds nanoseconds text.clock.minute_is.1 cut.1 text.seconds_are)

pub returns-in_err-parse_minutes-clause-reads : goal.returns-in_err-parse_minutes-clause-reads
returns-in_err-parse_minutes-clause-reads c = λ minutes seconds nanoseconds text.
    let cut = parts c.args.word.now minutes seconds nanoseconds text (c.in_ok-hour.hour, c.in_ok-hour.rest) c.in_ok-hour.ensures.cases in
    let read = c.in_ok-minute.ensures.reads text.minute text.rest seconds nanoseconds text.clock.minute_is.1 cut.1 text.seconds_are in
    let hour : c.in_ok-hour.hour.now ≡ text.hour = cut.0 in
    let minute : c.in_ok-minute.minute.now ≡ text.minute = read.0 in
    absurd (c.in_err-parse_minutes.ensures (rw (hour, minute) text.clock))

pub returns-clause-reads : goal.returns-clause-reads
returns-clause-reads c = λ minutes seconds nanoseconds text.
    let cut = parts c.args.word.now minutes seconds nanoseconds text (c.in_ok-hour.hour, c.in_ok-hour.rest) c.in_ok-hour.ensures.cases in
    let read = c.in_ok-minute.ensures.reads text.minute text.rest seconds nanoseconds text.clock.minute_is.1 cut.1 text.seconds_are in
    let hour : c.in_ok-hour.hour.now ≡ text.hour = cut.0 in
    let minute : c.in_ok-minute.minute.now ≡ text.minute = read.0 in
    let all : c.in_ok-parse_minutes.field-0 ≡ minutes = c.in_ok-parse_minutes.ensures.1 ∙ rw (hour, minute) (sym text.minutes_are) in
    let own : c.in_ok-minute.seconds ≡ record { whole = seconds; units = nanoseconds } = read.1 in
    rw (all, own) refl
