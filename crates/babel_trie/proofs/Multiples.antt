-- Multiples of powers of two.
use Rattle.std.proofs.Common.{◌≡◌, inl, inr, ℕ, zero, suc, ◌+◌, ◌-◌, ◌*◌, ◌/◌, ◌%◌, ◌^◌, ◌<◌, ◌≤◌, sym, ◌∙◌, ap, subst, arith}
use Rattle.std.proofs.lemmas.Bool.{cases_lt}
use Rattle.std.proofs.lemmas.Nat.{pow_pos, pow-add, mod-pow-add}
use Rattle.std.proofs.Math.Nat.{div-add-mod', mul-le-mul_right, add-mul-mod_self_right}
use Rattle.std.proofs.Math.Pow.{mod-mod-pow}
use Rattle.std.specs.Int.{bit_at}

-- of two multiples the lower is lower by the whole number
pub next_multiple : (n x y : ℕ) → x % n ≡ 0 → y % n ≡ 0 → x < y → x + n ≤ y
next_multiple n x y p q lt =
    let x_is : x / n * n ≡ x = omega (arith, div-add-mod' x n) in
    let y_is : y / n * n ≡ y = omega (arith, div-add-mod' y n) in
    elim (cases_lt (x / n) (y / n)) [
      | inl below ↦
          let most : suc (x / n) * n ≤ y / n * n = mul-le-mul_right n (omega arith) in
          omega arith
      | inr above ↦
          let most : y / n * n ≤ x / n * n = mul-le-mul_right n above in
          absurd (omega arith)
    ]

-- a multiple of a power is one of each lower power
pub fewer_zeros : (x j k : ℕ) → k ≤ j → x % 2 ^ j ≡ 0 → x % 2 ^ k ≡ 0
fewer_zeros x j k le e =
    let P : ℕ → Type 0 = λ n. x % 2 ^ n ≡ 0 in
    let parts : x % 2 ^ ((j - k) + k) ≡ 0 = subst P (omega arith) e in
    sym (mod-mod-pow x (j - k) k) ∙ ap (λ n. n % 2 ^ k) parts ∙ zero_mod k
  where
    zero_mod : (k : ℕ) → 0 % 2 ^ k ≡ 0
    zero_mod k = omega (arith, pow_pos k)

-- a higher power added to a multiple
pub power_added : (x j k : ℕ) → j ≤ k → x % 2 ^ j ≡ 0 → (x + 2 ^ k) % 2 ^ j ≡ 0
power_added x j k le e =
    let parts : 2 ^ k ≡ 2 ^ (k - j) * 2 ^ j = ap (λ (n : ℕ). 2 ^ n) {x = k} {y = (k - j) + j} (omega arith) ∙ pow-add 2 (k - j) j in
    ap (λ n. (x + n) % 2 ^ j) parts ∙ add-mul-mod_self_right x (2 ^ (k - j)) (2 ^ j) ∙ e

-- one more zero
pub zeros-suc : (x k : ℕ) → x % 2 ^ suc k ≡ bit_at x k * 2 ^ k + x % 2 ^ k
zeros-suc x k = ap (λ n. x % 2 ^ n) {x = suc k} {y = 1 + k} (omega arith) ∙ mod-pow-add x 1 k

-- zeros below a bit
pub zeros_below : (x k : ℕ) → ((i : ℕ) → i < k → bit_at x i ≡ 0) → x % 2 ^ k ≡ 0
zeros_below x zero none = omega arith
zeros_below x (suc k) none =
    let before = zeros_below x k (λ i lt. none i (omega arith)) in
    zeros-suc x k ∙ ap (λ b. b * 2 ^ k + x % 2 ^ k) (none k (omega arith)) ∙ omega (arith, before)

-- a bit ends the zeros
pub bit_ends : (x k j : ℕ) → bit_at x k ≡ 1 → k < j → x % 2 ^ j ≡ 0 → ⊥
bit_ends x k j one lt e =
    let all : x % 2 ^ suc k ≡ 0 = fewer_zeros x j (suc k) (omega arith) e in
    let parts : 1 * 2 ^ k + x % 2 ^ k ≡ 0 = ap (λ b. b * 2 ^ k + x % 2 ^ k) (sym one) ∙ sym (zeros-suc x k) ∙ all in
    omega (arith, pow_pos k)
