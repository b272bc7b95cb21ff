-- Numbers as words have them: decimal digits, and a fraction after a point.
use Rattle.std.specs.Prelude.{◌≡◌, ℕ, ◌*◌, ◌-◌, ◌^◌, ◌≤◌, ◌⊎◌, List, [], ◌++◌, codes, length}
use Rattle.std.specs.Str.Parse.{AllDigits, IsNumeral, digits_value}

-- the number that decimal digits write
abbrev pub number : List ℕ → ℕ
number digits = digits_value 10 digits

-- so many digits
abbrev pub AreDigits : ℕ → List ℕ → Type 0
AreDigits count text = (length text ≡ count) × AllDigits 10 text

-- digits after a point, one or more, and at most so many
abbrev pub ArePlaces : ℕ → List ℕ → Type 0
ArePlaces most digits = IsNumeral 10 digits × (length digits ≤ most)

-- their number, in units of the last place that there may be
abbrev pub units_of : ℕ → List ℕ → ℕ
units_of most digits = number digits * 10 ^ (most - length digits)

-- nothing, or a point and such digits
abbrev pub FractionText : ℕ → List ℕ → ℕ → Type 0
FractionText most text units =
    ((text ≡ []) × (units ≡ 0))
    ⊎ ((digits : List ℕ) × (text ≡ codes "." ++ digits) × ArePlaces most digits
    × (units ≡ units_of most digits))

-- one digit or more, and perhaps a fraction
pub record DecimalText (most : ℕ) (text : List ℕ) (whole units : ℕ) : Type 0 where
  pub digits : List ℕ
  pub fraction : List ℕ
  pub is : text ≡ digits ++ fraction
  pub numeral : IsNumeral 10 digits
  pub whole_is : whole ≡ number digits
  pub units_are : FractionText most fraction units
