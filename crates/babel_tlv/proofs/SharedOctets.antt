-- How many of their first octets two numbers share: as many as are zero in the bits in which they differ.
use Rattle.std.proofs.Common.{◌≡◌, ℕ, zero, suc, ◌+◌, ◌-◌, ◌*◌, ◌/◌, ◌%◌, ◌^◌, ◌<◌, ◌≤◌, inl, inr, Bool, true, false, cond, refl, sym, ap, subst, ◌∙◌, arith, pow-suc}
use Rattle.std.specs.Prelude.{◌==◌}
use Rattle.std.proofs.Math.Nat.{mod-eq_of_lt, pow-le-pow_right}
use Rattle.std.proofs.lemmas.Bool.{cases_lt, eqb-false, eqb-true}
use Rattle.std.proofs.lemmas.Nat.{and_le_l, and_le_r, leading_length, mod-pow-add, mod_below, mul-le, pow_pos, xor_lt, xor_mod, xor_shr}
use Rattle.std.specs.Int.{byte_at, bytes_high_first}
use Rattle.std.specs.Int.Bits.{bit_xor, xor_add_and, xor_self}
use Rattle.std.specs.Int.Count.{count_leading_zeros}
use Rattle.std.specs.List.{common_prefix_len}
use Rattle.babel_prefix.specs.declared.family.Family.{Family}
use Rattle.babel_prefix.specs.declared.family.Family.TheVariants.{V4, V6}
use Rattle.babel_prefix.specs.Width.{width_of, octet_count}
use Rattle.babel_prefix.specs.Address.{Address, IsAddress, octets_of}
use Rattle.babel_tlv.proofs.PrefixLaws.{pow_256}

-- numbers that differ in no bit are one
xor_none : (a b : ℕ) → bit_xor a b ≡ 0 → a ≡ b
xor_none a b e = omega (arith, e, xor_add_and a b, and_le_l a b, and_le_r a b)

xor_some : (a b : ℕ) → (a == b) ≡ false → 1 ≤ bit_xor a b
xor_some a b e = elim (cases_lt 0 (bit_xor a b)) [
  | inl some ↦ some
  | inr none ↦ absurd (eqb-false a b e (xor_none a b (omega (arith, none))))
]

octet_bits : (k n : ℕ) → byte_at k n ≡ n / 2 ^ (8 * k) % 2 ^ 8
octet_bits zero n = omega arith
octet_bits (suc k) n = ap (λ (p : ℕ). n / p % 256) (pow_256 (suc k))

-- the bits in which two numbers differ, of their last k octets
abbrev apart : ℕ → ℕ → ℕ → ℕ
apart k a b = bit_xor a b % 2 ^ (8 * k)

-- the octets in which an octet of two numbers differs
apart_at : (k a b : ℕ) → bit_xor a b / 2 ^ (8 * k) % 2 ^ 8 ≡ bit_xor (byte_at k a) (byte_at k b)
apart_at k a b =
    ap (λ (n : ℕ). n % 2 ^ 8) (xor_shr a b (8 * k)) ∙ xor_mod (a / 2 ^ (8 * k)) (b / 2 ^ (8 * k)) 8
    ∙ ap (λ (n : ℕ). bit_xor n (b / 2 ^ (8 * k) % 2 ^ 8)) (sym (octet_bits k a)) ∙ ap (λ (n : ℕ). bit_xor (byte_at k a) n) (sym (octet_bits k b))

apart_more : (k a b : ℕ) → apart (suc k) a b ≡ bit_xor (byte_at k a) (byte_at k b) * 2 ^ (8 * k) + apart k a b
apart_more k a b =
    let eight_more : 8 * suc k ≡ 8 + 8 * k = omega arith in
    ap (λ (n : ℕ). bit_xor a b % 2 ^ n) eight_more ∙ mod-pow-add (bit_xor a b) 8 (8 * k)
    ∙ ap (λ (n : ℕ). n * 2 ^ (8 * k) + apart k a b) (apart_at k a b)

-- the highest bit in which they differ is the one below m
shared_below : (k a b m : ℕ) → m ≤ 8 * k → apart k a b < 2 ^ m → 2 ^ m ≤ 2 * apart k a b + 1
    → common_prefix_len ◌==◌ (bytes_high_first k a) (bytes_high_first k b) ≡ (8 * k - m) / 8
shared_below zero a b m few below above = omega arith
shared_below (suc k) a b m few below above = by_octet (λ n. shared_below k a b n) (byte_at k a == byte_at k b) refl
  where
    by_octet : ((n : ℕ) → n ≤ 8 * k → apart k a b < 2 ^ n → 2 ^ n ≤ 2 * apart k a b + 1 → common_prefix_len ◌==◌ (bytes_high_first k a) (bytes_high_first k b) ≡ (8 * k - n) / 8)
        → (same : Bool) → (byte_at k a == byte_at k b) ≡ same
        → cond same (1 + common_prefix_len ◌==◌ (bytes_high_first k a) (bytes_high_first k b)) 0 ≡ (8 * suc k - m) / 8
    by_octet lower_octets true e =
        let none : bit_xor (byte_at k a) (byte_at k b) ≡ 0 = ap (λ (n : ℕ). bit_xor n (byte_at k b)) (eqb-true (byte_at k a) (byte_at k b) e) ∙ xor_self (byte_at k b) in
        let same : apart (suc k) a b ≡ apart k a b = apart_more k a b ∙ ap (λ (n : ℕ). n * 2 ^ (8 * k) + apart k a b) none ∙ (omega arith) in
        let within : apart k a b < 2 ^ (8 * k) = mod_below (bit_xor a b) (2 ^ (8 * k)) (pow_pos (8 * k)) in
        let lower : m ≤ 8 * k = elim (cases_lt (8 * k) m) [
          | inl past ↦ absurd (omega (arith, same, within, above, pow-suc 2 (8 * k), pow-le-pow_right {n = 2} (omega arith) {i = suc (8 * k)} {j = m} past))
          | inr low ↦ low
        ] in
        omega (arith, lower_octets m lower (omega (arith, same, below)) (omega (arith, same, above)))
    by_octet lower_octets false e =
        let some : 1 ≤ bit_xor (byte_at k a) (byte_at k b) = xor_some (byte_at k a) (byte_at k b) e in
        let high : 2 ^ (8 * k) ≤ apart (suc k) a b = omega (arith, apart_more k a b, mul-le 1 (2 ^ (8 * k)) (bit_xor (byte_at k a) (byte_at k b)) (2 ^ (8 * k)) some (omega arith)) in
        let past : 8 * k < m = elim (cases_lt (8 * k) m) [
          | inl past ↦ past
          | inr low ↦ absurd (omega (arith, high, below, pow-le-pow_right {n = 2} (omega arith) {i = m} {j = 8 * k} low))
        ] in
        omega (arith, past, few)

pub shared_octets-is : (k a b : ℕ) → a < 2 ^ (8 * k) → b < 2 ^ (8 * k)
    → common_prefix_len ◌==◌ (bytes_high_first k a) (bytes_high_first k b) ≡ count_leading_zeros (8 * k) (bit_xor a b) / 8
shared_octets-is k a b a_in b_in =
    let x = bit_xor a b in
    let x_in : x < 2 ^ (8 * k) = xor_lt (8 * k) a b a_in b_in in
    let whole : apart k a b ≡ x = mod-eq_of_lt x_in in
    let l = leading_length (8 * k) x x_in in
    omega (arith, l.1, shared_below k a b l.0 (omega (arith, l.1)) (omega (arith, whole, l.2)) (omega (arith, whole, l.3)))

-- two addresses of a family
pub shared_in : (family : Family) (last own : Address) → last.family ≡ family → own.family ≡ family → IsAddress last → IsAddress own
    → common_prefix_len ◌==◌ (octets_of last) (octets_of own) ≡ count_leading_zeros (width_of family) (bit_xor last.bits own.bits) / 8
shared_in V4 last own last_is own_is last_in own_in =
    ap (λ (f : Family). common_prefix_len ◌==◌ (bytes_high_first (octet_count f) last.bits) (octets_of own)) last_is
    ∙ ap (λ (f : Family). common_prefix_len ◌==◌ (bytes_high_first 4 last.bits) (bytes_high_first (octet_count f) own.bits)) own_is
    ∙ shared_octets-is 4 last.bits own.bits (subst (λ (f : Family). last.bits < 2 ^ width_of f) last_is last_in) (subst (λ (f : Family). own.bits < 2 ^ width_of f) own_is own_in)
shared_in V6 last own last_is own_is last_in own_in =
    ap (λ (f : Family). common_prefix_len ◌==◌ (bytes_high_first (octet_count f) last.bits) (octets_of own)) last_is
    ∙ ap (λ (f : Family). common_prefix_len ◌==◌ (bytes_high_first 16 last.bits) (bytes_high_first (octet_count f) own.bits)) own_is
    ∙ shared_octets-is 16 last.bits own.bits (subst (λ (f : Family). last.bits < 2 ^ width_of f) last_is last_in) (subst (λ (f : Family). own.bits < 2 ^ width_of f) own_is own_in)
