-- The text of a time: ISO 8601, in UTC, with nine digits after the point. Of the calendar it is
-- known how many days after 1 January 1970 a date is.
use Rattle.std.specs.Prelude.{ℕ, zero, suc, ◌+◌, ◌-◌, ◌/◌, ◌%◌, pos, unsigned_abs, nat_le}
use Rattle.std.specs.Prelude.{if◌then◌else◌, List, [], ◌∷◌, ◌++◌, codes, Option, None, Some}
use Rattle.jiff_core.specs.Calendar.{days_from_civil}
use Rattle.babel_dump.specs.JsonText.{quoted}

-- how many days after 1 January 1970 the first of a month is
abbrev pub first_day : (year month : ℕ) → ℕ
first_day year month = unsigned_abs (days_from_civil (pos year) month 1)

-- how many of these have begun on a day, of so many that begin on these days
unfoldable pub begun : (first : ℕ → ℕ) → ℕ → (day : ℕ) → ℕ
begun first zero day = 0
begun first (suc n) day = begun first n day + (if nat_le (first n) day then 1 else 0)

-- the year of a day up to the year 9999, by the years after 1970 that have begun; its month, by the
-- months after January; and its day in that
abbrev pub year_of : (day : ℕ) → ℕ
year_of day = 1970 + begun (λ n. first_day (1971 + n) 1) 8029 day

abbrev pub month_of : (day : ℕ) → ℕ
month_of day = 1 + begun (λ n. first_day (year_of day) (2 + n)) 11 day

abbrev pub day_of_month : (day : ℕ) → ℕ
day_of_month day = day - first_day (year_of day) (month_of day) + 1

-- the last digits of a number
abbrev pub digit : ℕ → ℕ
digit number = 48 + number % 10

abbrev pub two_digits : ℕ → List ℕ
two_digits number = digit (number / 10) ∷ digit number ∷ []

abbrev pub four_digits : ℕ → List ℕ
four_digits number =
    digit (number / 1000) ∷ digit (number / 100) ∷ digit (number / 10) ∷ digit number ∷ []

abbrev pub nine_digits : ℕ → List ℕ
nine_digits number =
    digit (number / 100000000) ∷ digit (number / 10000000) ∷ digit (number / 1000000)
    ∷ digit (number / 100000) ∷ digit (number / 10000) ∷ digit (number / 1000)
    ∷ digit (number / 100) ∷ digit (number / 10) ∷ digit number ∷ []

-- `YYYY-MM-DD`
abbrev pub date_text : (year month day : ℕ) → List ℕ
date_text year month day =
    four_digits year ++ codes "-" ++ two_digits month ++ codes "-" ++ two_digits day

-- `HH:MM:SS.` and nine digits, of the nanoseconds since midnight
abbrev pub clock_text : ℕ → List ℕ
clock_text nanoseconds =
    two_digits (nanoseconds / 3600000000000) ++ codes ":"
    ++ two_digits (nanoseconds / 60000000000 % 60) ++ codes ":"
    ++ two_digits (nanoseconds / 1000000000 % 60) ++ codes "."
    ++ nine_digits (nanoseconds % 1000000000)

-- `YYYY-MM-DDTHH:MM:SS.NNNNNNNNNZ`, of the nanoseconds since the start of 1970
abbrev pub time_text : ℕ → List ℕ
time_text time =
    let day : ℕ = time / 86400000000000 in
    date_text (year_of day) (month_of day) (day_of_month day) ++ codes "T"
    ++ clock_text (time % 86400000000000) ++ codes "Z"

-- the time, or `-` or `null` where there is none
abbrev pub time_or : Option ℕ → List ℕ
time_or None = codes "-"
time_or (Some time) = time_text time

abbrev pub time_json : Option ℕ → List ℕ
time_json None = codes "null"
time_json (Some time) = quoted (time_text time)
