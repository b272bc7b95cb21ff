-- The calendar gives the date by its number.
use Rattle.std.proofs.Common.{◌∙◌}
use Rattle.babel_dump.proofs.TimeTexts.{day_by, month_by, year_back, year_by}
use Rattle.babel_dump.proofs.push_time.date_of.Goals as goal

pub returns-clause-year : goal.returns-clause-year
returns-clause-year c =
    c.from.ensures ∙ (rw (year_back c.from_days_since_min-date.result) at c.unsigned_abs.ensures.value)
    ∙ year_by c.from_days_since_min-date.result c.args.day c.from_days_since_min-date.ensures

pub returns-clause-month : goal.returns-clause-month
returns-clause-month c = c.from-2.ensures ∙ month_by c.from_days_since_min-date.result c.args.day c.from_days_since_min-date.ensures

pub returns-clause-day : goal.returns-clause-day
returns-clause-day c = c.from-3.ensures ∙ day_by c.from_days_since_min-date.result c.args.day c.from_days_since_min-date.ensures
