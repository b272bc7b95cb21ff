-- The word is cut at its two hyphens.
use Rattle.std.proofs.Common.{Bor, ◌≡◌, ◌∷◌, ◌++◌, ℕ, ℤ, pos, List, Option, Some, None, ap, sym, subst, ◌∙◌, arith, lit<}
use Rattle.std.specs.Prelude.{IfSome, SomeIff}
use Rattle.std.proofs.lemmas.Str.Pattern.{IsSplitOnceResult, split_parts}
use Rattle.jiff_core.specs.Calendar.{IsCivilDate, days_from_civil}
use Rattle.babel_dump.specs.Decimals.{AreDigits, number}
use Rattle.babel_dump.specs.MomentWords.{DateText}
use Rattle.babel_dump.proofs.WordLaws.{cut_digits, digits_small, made}
use Rattle.babel_dump.proofs.time_word.parse_day.Goals as goal

module _ (word : List ℕ) (day : ℤ) (text : DateText word day) where
  no_hyphen : IsSplitOnceResult 45 word None → ⊥
  no_hyphen is = cut_digits 45 (λ r. omega arith) (lit< tt) word text.year text.year_is.1 (text.month ++ 45 ∷ text.date) text.is None is

  module _ (x : Bor (List ℕ) × Bor (List ℕ)) (first : IsSplitOnceResult 45 word (Some x)) where
    one : (x.0.now ≡ text.year) × (x.1.now ≡ text.month ++ 45 ∷ text.date)
    one = cut_digits 45 (λ r. omega arith) (lit< tt) word text.year text.year_is.1 (text.month ++ 45 ∷ text.date) text.is (Some x) first

    no_other : IsSplitOnceResult 45 x.1.now None → ⊥
    no_other is = cut_digits 45 (λ r. omega arith) (lit< tt) x.1.now text.month text.month_is.1 text.date one.1 None is

    parts : (y : Bor (List ℕ) × Bor (List ℕ)) → IsSplitOnceResult 45 x.1.now (Some y) → (x.0.now ≡ text.year) × (y.0.now ≡ text.month) × (y.1.now ≡ text.date)
    parts y is = let two = cut_digits 45 (λ r. omega arith) (lit< tt) x.1.now text.month text.month_is.1 text.date one.1 (Some y) is in (one.0, two.0, two.1)

pub returns-in_err-year-clause-reads : goal.returns-in_err-year-clause-reads
returns-in_err-year-clause-reads c = λ day text. absurd (no_hyphen c.args.word.now day text c.in_err-year.ensures.cases)

pub returns-in_err-month-clause-reads : goal.returns-in_err-month-clause-reads
returns-in_err-month-clause-reads c = λ day text. absurd (no_other c.args.word.now day text (c.in_ok-year.year, c.in_ok-year.rest) c.in_ok-year.ensures.cases c.in_err-month.ensures.cases)

pub returns-in_err-parse_padded-clause-reads : goal.returns-in_err-parse_padded-clause-reads
returns-in_err-parse_padded-clause-reads c = λ day text.
    let are = parts c.args.word.now day text (c.in_ok-year.year, c.in_ok-year.rest) c.in_ok-year.ensures.cases (c.in_ok-month.month, c.in_ok-month.day) c.in_ok-month.ensures.cases in
    absurd (c.in_err-parse_padded.ensures (subst (AreDigits 4) (sym are.0) text.year_is))

pub returns-in_err-parse_padded-2-clause-reads : goal.returns-in_err-parse_padded-2-clause-reads
returns-in_err-parse_padded-2-clause-reads c = λ day text.
    let are = parts c.args.word.now day text (c.in_ok-year.year, c.in_ok-year.rest) c.in_ok-year.ensures.cases (c.in_ok-month.month, c.in_ok-month.day) c.in_ok-month.ensures.cases in
    absurd (c.in_err-parse_padded-2.ensures (subst (AreDigits 2) (sym are.1) text.month_is))

pub returns-in_err-parse_padded-3-clause-reads : goal.returns-in_err-parse_padded-3-clause-reads
returns-in_err-parse_padded-3-clause-reads c = λ day text.
    let are = parts c.args.word.now day text (c.in_ok-year.year, c.in_ok-year.rest) c.in_ok-year.ensures.cases (c.in_ok-month.month, c.in_ok-month.day) c.in_ok-month.ensures.cases in
    absurd (c.in_err-parse_padded-3.ensures (subst (AreDigits 2) (sym are.2) text.date_is))

pub epoch_day-requires : goal.epoch_day-requires
epoch_day-requires c =
    let year = c.in_ok-parse_padded.ensures in
    let month = c.in_ok-parse_padded-2.ensures in
    let day = c.in_ok-parse_padded-3.ensures in (
      omega (arith, year.1, digits_small c.in_ok-year.year.now 4 year.0.1 (omega (arith, year.0.0))),
      omega (arith, month.1, digits_small c.in_ok-month.month.now 2 month.0.1 (omega (arith, month.0.0))),
      omega (arith, day.1, digits_small c.in_ok-month.day.now 2 day.0.1 (omega (arith, day.0.0))),
    )

-- a day of the calendar, of these three parts
date_made : (word year month date : List ℕ) (r : Option ℤ) → word ≡ year ++ 45 ∷ (month ++ 45 ∷ date) → AreDigits 4 year → AreDigits 2 month → AreDigits 2 date
    → SomeIff r (IsCivilDate (pos (number year)) (number month) (number date)) (days_from_civil (pos (number year)) (number month) (number date)) → IfSome r (DateText word)
date_made word year month date None is y m d has = tt
date_made word year month date (Some day) is y m d has = record {
  year = year;
  month = month;
  date = date;
  is = is;
  year_is = y;
  month_is = m;
  date_is = d;
  exists = has.0;
  day_is = has.1;
}

pub returns-clause-is : goal.returns-clause-is
returns-clause-is c =
    let year = c.in_ok-parse_padded.ensures in
    let month = c.in_ok-parse_padded-2.ensures in
    let day = c.in_ok-parse_padded-3.ensures in
    let first = (split_parts 45 c.args.word.now (Some (c.in_ok-year.year, c.in_ok-year.rest)) c.in_ok-year.ensures.cases (lit< tt)).0 in
    let second = (split_parts 45 c.in_ok-year.rest.now (Some (c.in_ok-month.month, c.in_ok-month.day)) c.in_ok-month.ensures.cases (lit< tt)).0 in
    let whole = first ∙ ap (λ (t : List ℕ). c.in_ok-year.year.now ++ 45 ∷ t) second in
    let has = rw (year.1, month.1, day.1) at c.epoch_day.ensures.is in
    date_made c.args.word.now c.in_ok-year.year.now c.in_ok-month.month.now c.in_ok-month.day.now c.epoch_day.result whole year.0 month.0 day.0 has

pub returns-clause-reads : goal.returns-clause-reads
returns-clause-reads c = λ day text.
    let are = parts c.args.word.now day text (c.in_ok-year.year, c.in_ok-year.rest) c.in_ok-year.ensures.cases (c.in_ok-month.month, c.in_ok-month.day) c.in_ok-month.ensures.cases in
    let year = c.in_ok-parse_padded.ensures.1 ∙ ap number are.0 in
    let month = c.in_ok-parse_padded-2.ensures.1 ∙ ap number are.1 in
    let date = c.in_ok-parse_padded-3.ensures.1 ∙ ap number are.2 in
    made c.epoch_day.result _ day (rw (year, month, date, ← text.day_is) at c.epoch_day.ensures.is) text.exists
