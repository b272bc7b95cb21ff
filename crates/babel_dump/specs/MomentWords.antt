-- What `--since` and `--until` take: ISO 8601, in part, and seconds; that is this project's own.
use Rattle.std.specs.Prelude.{◌≡◌, ℕ, ◌+◌, ◌*◌, ◌^◌, ◌<◌, ◌⊎◌, ℤ, pos, neg_ℤ, ◌+ℤ◌, ◌*ℤ◌, List, []}
use Rattle.std.specs.Prelude.{◌∷◌, ◌++◌, codes}
use Rattle.std.specs.List.{join_with_byte}
use Rattle.jiff_core.specs.Calendar.{IsCivilDate, days_from_civil}
use Rattle.babel_capture.specs.declared.window.Moment.{Moment}
use Rattle.babel_capture.specs.declared.window.Moment.TheVariants as moments
use Rattle.babel_dump.specs.Decimals.{AreDigits, DecimalText, FractionText, number}

-- two digits each: an hour, and a minute of it
pub record IsClock (hour minute : List ℕ) : Type 0 where
  pub hour_is : AreDigits 2 hour
  pub minute_is : AreDigits 2 minute
  pub in_day : number hour < 24
  pub in_hour : number minute < 60

abbrev pub minutes_of : (hour minute : List ℕ) → ℕ
minutes_of hour minute = number hour * 60 + number minute

-- `YYYY-MM-DD`, a day of the calendar, so many days after 1 January 1970
pub record DateText (text : List ℕ) (day : ℤ) : Type 0 where
  pub year : List ℕ
  pub month : List ℕ
  pub date : List ℕ
  pub is : text ≡ join_with_byte 45 (year ∷ month ∷ date ∷ [])
  pub year_is : AreDigits 4 year
  pub month_is : AreDigits 2 month
  pub date_is : AreDigits 2 date
  pub exists : IsCivilDate (pos (number year)) (number month) (number date)
  pub day_is : day ≡ days_from_civil (pos (number year)) (number month) (number date)

-- `SS`, perhaps with a fraction of one to nine digits
pub record SecondText (text : List ℕ) (seconds nanoseconds : ℕ) : Type 0 where
  pub second : List ℕ
  pub fraction : List ℕ
  pub is : text ≡ second ++ fraction
  pub second_is : AreDigits 2 second
  pub in_minute : number second < 60
  pub seconds_are : seconds ≡ number second
  pub nanoseconds_are : FractionText 9 fraction nanoseconds

-- nothing, or `:` and seconds
abbrev pub SecondsText : List ℕ → ℕ → ℕ → Type 0
SecondsText text seconds nanoseconds =
    ((text ≡ []) × (seconds ≡ 0) × (nanoseconds ≡ 0))
    ⊎ ((second : List ℕ) × (text ≡ codes ":" ++ second) × SecondText second seconds nanoseconds)

-- `HH:MM`, perhaps with seconds
pub record ClockText (text : List ℕ) (minutes seconds nanoseconds : ℕ) : Type 0 where
  pub hour : List ℕ
  pub minute : List ℕ
  pub rest : List ℕ
  pub is : text ≡ hour ++ 58 ∷ (minute ++ rest)
  pub clock : IsClock hour minute
  pub minutes_are : minutes ≡ minutes_of hour minute
  pub seconds_are : SecondsText rest seconds nanoseconds

-- `HH:MM`, so many minutes
pub record HoursText (text : List ℕ) (minutes : ℕ) : Type 0 where
  pub hour : List ℕ
  pub minute : List ℕ
  pub is : text ≡ join_with_byte 58 (hour ∷ minute ∷ [])
  pub clock : IsClock hour minute
  pub minutes_are : minutes ≡ minutes_of hour minute

-- `Z`, or `+HH:MM` or `-HH:MM`: so many minutes later than UTC
abbrev pub OffsetText : List ℕ → ℤ → Type 0
OffsetText text offset =
    ((text ≡ codes "Z") × (offset ≡ pos 0))
    ⊎ ((hours : List ℕ) × (minutes : ℕ) × HoursText hours minutes
    × (((text ≡ codes "+" ++ hours) × (offset ≡ pos minutes))
    ⊎ ((text ≡ codes "-" ++ hours) × (offset ≡ neg_ℤ (pos minutes)))))

-- a date, `T`, a time of day and an offset: so many nanoseconds after the start of 1970
pub record DateTimeText (text : List ℕ) (time : ℕ) : Type 0 where
  pub date : List ℕ
  pub clock : List ℕ
  pub zone : List ℕ
  pub is : text ≡ date ++ 84 ∷ (clock ++ zone)
  pub day : ℤ
  pub minutes : ℕ
  pub seconds : ℕ
  pub nanoseconds : ℕ
  pub offset : ℤ
  pub date_is : DateText date day
  pub clock_is : ClockText clock minutes seconds nanoseconds
  pub zone_is : OffsetText zone offset
  pub since : ℕ
  pub utc : (pos since +ℤ offset) ≡ (day *ℤ pos 1440 +ℤ pos minutes)
  pub time_is : time ≡ (since * 60 + seconds) * 1000000000 + nanoseconds

-- `@` and seconds since the start of 1970, or a date and a time
abbrev pub TimeText : List ℕ → ℕ → Type 0
TimeText text time =
    ((rest : List ℕ) × (seconds nanoseconds : ℕ) × (text ≡ codes "@" ++ rest)
    × DecimalText 9 rest seconds nanoseconds × (time ≡ seconds * 1000000000 + nanoseconds))
    ⊎ DateTimeText text time

-- the same, up to the year 9999, or `+` and seconds since the first packet, as many as 64 bits hold
abbrev pub MomentText : List ℕ → Moment → Type 0
MomentText text (moments.At time) = TimeText text time × (time < 253402300800000000000)
MomentText text (moments.After seconds nanoseconds) =
    (rest : List ℕ) × (text ≡ codes "+" ++ rest) × DecimalText 9 rest seconds nanoseconds
    × (seconds < 2 ^ 64)
