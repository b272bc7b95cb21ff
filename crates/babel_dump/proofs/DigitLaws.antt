-- Numbers of few digits in hexadecimal and in decimal, digit by digit.
use Rattle.std.proofs.Common.{◌≡◌, ℕ, suc, ◌/◌, ◌%◌, ◌<◌, ◌≤◌, Bool, true, false, cond, eqb, List, [], ◌∷◌, ◌++◌, refl, ◌∙◌, ap, append_assoc, arith}
use Rattle.std.specs.Prelude.{◌≢◌}
use Rattle.std.specs.Fmt.{decimal, digits, digits_onto, digit_glyph}
use Rattle.std.proofs.lemmas.Bool.Decides.{Decides-eqb}
use Rattle.std.proofs.lemmas.Fmt.{hex_one_digit, hex_two_digits}

where_true : (t : Bool) (x y : List ℕ) → t ≡ true → cond t x y ≡ x
where_true true x y e = refl
where_true false x y e = cc

unless_true : (t : Bool) (x y : List ℕ) → t ≢ true → cond t x y ≡ y
unless_true true x y otherwise = absurd (otherwise refl)
unless_true false x y otherwise = refl

last : (base k n : ℕ) (acc : List ℕ) → n / base ≡ 0 → digits_onto (suc k) base false n acc ≡ digit_glyph false (n % base) ∷ acc
last base k n acc none = where_true (eqb (n / base) 0) _ _ ((Decides-eqb (n / base) 0).1 none)

step : (base k n : ℕ) (acc : List ℕ) → n / base ≢ 0
    → digits_onto (suc k) base false n acc ≡ digits_onto k base false (n / base) (digit_glyph false (n % base) ∷ acc)
step base k n acc some = unless_true (eqb (n / base) 0) _ _ (λ t. some ((Decides-eqb (n / base) 0).0 t))

hex_one : (n : ℕ) → n < 16 → digits 16 false n ≡ digit_glyph false n ∷ []
hex_one = hex_one_digit false

hex_two : (n : ℕ) → 16 ≤ n → n < 256 → digits 16 false n ≡ digit_glyph false (n / 16) ∷ digit_glyph false (n % 16) ∷ []
hex_two = hex_two_digits false

hex_three : (n : ℕ) → 256 ≤ n → n < 4096
    → digits 16 false n ≡ digit_glyph false (n / 256) ∷ digit_glyph false (n / 16 % 16) ∷ digit_glyph false (n % 16) ∷ []
unfolding digits
hex_three n large small =
    let low = digit_glyph false (n % 16) in
    let middle = digit_glyph false (n / 16 % 16) in
    let same : n / 16 / 16 % 16 ≡ n / 256 = omega arith in
    step 16 63 n [] (omega arith)
    ∙ step 16 62 (n / 16) (low ∷ []) (omega arith)
    ∙ last 16 61 (n / 16 / 16) (middle ∷ low ∷ []) (omega arith)
    ∙ ap (λ d. digit_glyph false d ∷ middle ∷ low ∷ []) same

hex_four : (n : ℕ) → 4096 ≤ n → n < 65536
    → digits 16 false n ≡ digit_glyph false (n / 4096) ∷ digit_glyph false (n / 256 % 16) ∷ digit_glyph false (n / 16 % 16) ∷ digit_glyph false (n % 16) ∷ []
unfolding digits
hex_four n large small =
    let low = digit_glyph false (n % 16) in
    let third = digit_glyph false (n / 16 % 16) in
    let second = digit_glyph false (n / 16 / 16 % 16) in
    let first : n / 16 / 16 / 16 % 16 ≡ n / 4096 = omega arith in
    let same : n / 16 / 16 ≡ n / 256 = omega arith in
    step 16 63 n [] (omega arith)
    ∙ step 16 62 (n / 16) (low ∷ []) (omega arith)
    ∙ step 16 61 (n / 16 / 16) (third ∷ low ∷ []) (omega arith)
    ∙ last 16 60 (n / 16 / 16 / 16) (second ∷ third ∷ low ∷ []) (omega arith)
    ∙ ap (λ d. digit_glyph false d ∷ second ∷ third ∷ low ∷ []) first
    ∙ ap (λ d. digit_glyph false (n / 4096) ∷ digit_glyph false (d % 16) ∷ third ∷ low ∷ []) same

-- what stands before such a number grows digit by digit
pub group_one : (before : List ℕ) (n : ℕ) → n < 16 → before ++ digit_glyph false n ∷ [] ≡ before ++ digits 16 false n
group_one before n small = rw (hex_one n small) refl

pub group_two : (before : List ℕ) (n : ℕ) → 16 ≤ n → n < 256
    → before ++ digit_glyph false (n / 16) ∷ [] ++ digit_glyph false (n % 16) ∷ [] ≡ before ++ digits 16 false n
group_two before n large small = rw (hex_two n large small) (simp append_assoc refl)

pub group_three : (before : List ℕ) (n : ℕ) → 256 ≤ n → n < 4096
    → before ++ digit_glyph false (n / 256) ∷ [] ++ digit_glyph false (n / 16 % 16) ∷ [] ++ digit_glyph false (n % 16) ∷ []
    ≡ before ++ digits 16 false n
group_three before n large small = rw (hex_three n large small) (simp append_assoc refl)

pub group_four : (before : List ℕ) (n : ℕ) → 4096 ≤ n → n < 65536
    → before ++ digit_glyph false (n / 4096) ∷ [] ++ digit_glyph false (n / 256 % 16) ∷ [] ++ digit_glyph false (n / 16 % 16) ∷ [] ++ digit_glyph false (n % 16) ∷ []
    ≡ before ++ digits 16 false n
group_four before n large small = rw (hex_four n large small) (simp append_assoc refl)

-- ---- in decimal

ten_one : (n : ℕ) → n < 10 → decimal n ≡ digit_glyph false n ∷ []
unfolding digits
ten_one n small =
    let same : n % 10 ≡ n = omega arith in
    last 10 63 n [] (omega arith) ∙ ap (λ d. digit_glyph false d ∷ []) same

ten_two : (n : ℕ) → 10 ≤ n → n < 100 → decimal n ≡ digit_glyph false (n / 10) ∷ digit_glyph false (n % 10) ∷ []
unfolding digits
ten_two n large small =
    let low = digit_glyph false (n % 10) in
    let same : n / 10 % 10 ≡ n / 10 = omega arith in
    step 10 63 n [] (omega arith) ∙ last 10 62 (n / 10) (low ∷ []) (omega arith) ∙ ap (λ d. digit_glyph false d ∷ low ∷ []) same

ten_three : (n : ℕ) → 100 ≤ n → n < 1000
    → decimal n ≡ digit_glyph false (n / 100) ∷ digit_glyph false (n / 10 % 10) ∷ digit_glyph false (n % 10) ∷ []
unfolding digits
ten_three n large small =
    let low = digit_glyph false (n % 10) in
    let middle = digit_glyph false (n / 10 % 10) in
    let same : n / 10 / 10 % 10 ≡ n / 100 = omega arith in
    step 10 63 n [] (omega arith)
    ∙ step 10 62 (n / 10) (low ∷ []) (omega arith)
    ∙ last 10 61 (n / 10 / 10) (middle ∷ low ∷ []) (omega arith)
    ∙ ap (λ d. digit_glyph false d ∷ middle ∷ low ∷ []) same

pub small_one : (before : List ℕ) (n : ℕ) → n < 10 → before ++ digit_glyph false n ∷ [] ≡ before ++ decimal n
small_one before n small = rw (ten_one n small) refl

pub small_two : (before : List ℕ) (n : ℕ) → 10 ≤ n → n < 100
    → before ++ digit_glyph false (n / 10) ∷ [] ++ digit_glyph false (n % 10) ∷ [] ≡ before ++ decimal n
small_two before n large small = rw (ten_two n large small) (simp append_assoc refl)

pub small_three : (before : List ℕ) (n : ℕ) → 100 ≤ n → n < 1000
    → before ++ digit_glyph false (n / 100) ∷ [] ++ digit_glyph false (n / 10 % 10) ∷ [] ++ digit_glyph false (n % 10) ∷ [] ≡ before ++ decimal n
small_three before n large small = rw (ten_three n large small) (simp append_assoc refl)
