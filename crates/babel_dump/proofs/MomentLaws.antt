-- How the words of moments begin.
use Rattle.std.proofs.Common.{◌≡◌, ◌+◌, ◌*◌, ◌^◌, ◌<◌, inl, inr, ◌∷◌, ◌++◌, [], ℕ, List, refl, ap, sym, subst, ◌∙◌, append_assoc, length, arith}
use Rattle.std.specs.Prelude.{◌≢◌}
use Rattle.std.specs.Int.{IsInRange}
use Rattle.std.specs.Str.Parse.{AllDigits}
use Rattle.std.proofs.lemmas.Str.Parse.{digit_from_value}
use Rattle.babel_capture.specs.declared.window.Moment.{Moment}
use Rattle.babel_capture.specs.declared.window.Moment.TheVariants as moments
use Rattle.babel_dump.specs.Decimals.{DecimalText}
use Rattle.babel_dump.specs.MomentWords.{DateTimeText, MomentText, TimeText}

first_digit : (digits back : List ℕ) (c : ℕ) (rest : List ℕ) → AllDigits 10 digits → 0 < length digits → digits ++ back ≡ c ∷ rest → IsInRange 48 57 c
first_digit [] back c rest are some e = absurd (omega arith)
first_digit (d ∷ digits) back c rest are some e = let same : d ≡ c = cc in subst (IsInRange 48 57) same (digit_from_value d are.0)

-- a date begins with a digit
date_first : (word : List ℕ) (time : ℕ) (c : ℕ) (rest : List ℕ) → DateTimeText word time → word ≡ c ∷ rest → IsInRange 48 57 c
date_first word time c rest text e =
    let date = text.date_is in
    let after : List ℕ = 45 ∷ (date.month ++ 45 ∷ date.date) in
    let left : List ℕ = 84 ∷ (text.clock ++ text.zone) in
    let whole : date.year ++ (after ++ left) ≡ c ∷ rest = sym (append_assoc date.year after left) ∙ sym (ap (λ (t : List ℕ). t ++ left) date.is) ∙ sym text.is ∙ e in
    first_digit date.year (after ++ left) c rest date.year_is.1 (omega (arith, date.year_is.0)) whole

tails : (word a b : List ℕ) (c : ℕ) → word ≡ c ∷ a → word ≡ c ∷ b → b ≡ a
tails word a b c e f = cc

heads : (word a b : List ℕ) (c d : ℕ) → word ≡ c ∷ a → word ≡ d ∷ b → c ≡ d
heads word a b c d e f = cc

pub at_sign : (word seconds : List ℕ) (time : ℕ) → word ≡ 64 ∷ seconds → TimeText word time
    → (whole units : ℕ) × DecimalText 9 seconds whole units × (time ≡ whole * 1000000000 + units)
at_sign word seconds time e (inl (rest, whole, units, is, decimal, time_is)) = (whole, units, subst (λ (t : List ℕ). DecimalText 9 t whole units) (tails word seconds rest 64 e is) decimal, time_is)
at_sign word seconds time e (inr text) = absurd (let first = date_first word time 64 seconds text e in omega arith)

pub no_at_sign : (word : List ℕ) (time : ℕ) → ((rest : List ℕ) → word ≢ 64 ∷ rest) → TimeText word time → DateTimeText word time
no_at_sign word time none (inl (rest, whole, units, is, decimal, time_is)) = absurd (none rest is)
no_at_sign word time none (inr text) = text

plus_apart : (word seconds : List ℕ) (time : ℕ) → word ≡ 43 ∷ seconds → TimeText word time → ⊥
plus_apart word seconds time e (inl (rest, whole, units, is, decimal, time_is)) = let same = heads word seconds rest 43 64 e is in omega arith
plus_apart word seconds time e (inr text) = let first = date_first word time 43 seconds text e in omega arith

pub plus : (word seconds : List ℕ) (moment : Moment) → word ≡ 43 ∷ seconds → MomentText word moment
    → (whole units : ℕ) × (moment ≡ moments.After whole units) × DecimalText 9 seconds whole units × (whole < 2 ^ 64)
plus word seconds (moments.At time) e text = absurd (plus_apart word seconds time e text.0)
plus word seconds (moments.After whole units) e text = (whole, units, refl, subst (λ (t : List ℕ). DecimalText 9 t whole units) (tails word seconds text.0 43 e text.1) text.2, text.3)

pub no_plus : (word : List ℕ) (moment : Moment) → ((rest : List ℕ) → word ≢ 43 ∷ rest) → MomentText word moment
    → (time : ℕ) × (moment ≡ moments.At time) × TimeText word time × (time < 253402300800000000000)
no_plus word (moments.At time) none text = (time, refl, text.0, text.1)
no_plus word (moments.After whole units) none text = absurd (none text.0 text.1)
