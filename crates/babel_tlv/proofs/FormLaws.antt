-- Addresses formed from numbers: the first octets of a default prefix, octets behind them, and zeros.
use Rattle.std.proofs.Common.{◌≡◌, ℕ, zero, suc, ◌+◌, ◌-◌, ◌*◌, ◌/◌, ◌%◌, ◌^◌, ◌<◌, ◌≤◌, eqb, List, [], ◌∷◌, ◌++◌, length, get_or, take, replicate, refl, sym, ap, subst, ◌∙◌, arith, pow-suc, mul_comm}
use Rattle.std.specs.Prelude.{not, bit_and, Option, Some, None, IsSome}
use Rattle.std.proofs.Math.Nat.{pow-le-pow_right, mod-eq_of_lt, mul-lt-mul_of_pos_right}
use Rattle.std.proofs.lemmas.Bool.Decides.{nat_tests}
use Rattle.std.proofs.lemmas.List.{length-append, length-take-le}
use Rattle.std.proofs.lemmas.Nat.{pow-add, div_below}
use Rattle.std.proofs.lemmas.Nat.Bits.{and_pow}
use Rattle.std.proofs.lemmas.Int.Digits.{number_after_append}
use Rattle.std.specs.Int.{bytes_high_first}
use Rattle.std.specs.Int.Digits.{number_from_digits, number_from_digits_after}
use Rattle.babel_prefix.specs.declared.family.Family.{Family}
use Rattle.babel_prefix.specs.declared.family.Family.TheVariants.{V4, V6}
use Rattle.babel_prefix.specs.Width.{width_of, octet_count}
use Rattle.babel_prefix.proofs.OctetLaws.{take-octets, number-octets}
use Rattle.babel_prefix.specs.Address.{Address, octets_of}
use Rattle.babel_tlv.specs.Kept.{IsOfFamily}
use Rattle.babel_tlv.proofs.PrefixLaws.{length-octets, padded-is, pow_256}
use Rattle.babel_tlv.specs.Reading.{default_octets, padded}

-- the test of one bit
pub bit_64 : (n : ℕ) → not (eqb (bit_and n 64) 0) ≡ eqb (n / 64 % 2) 1
bit_64 n = let e : bit_and n 64 ≡ n / 64 % 2 * 64 = and_pow n 6 in rw e (grind (arith, nat_tests))

-- a number that grows octet by octet stays below the power of its octets
pub number_after-below : (a front : ℕ) (octets : List ℕ) (i : ℕ) → i ≤ length octets → front < 256 ^ a → ((j : ℕ) → get_or octets j 0 < 256)
    → number_from_digits_after 256 front (take i octets) < 256 ^ (a + i)
number_after-below a front octets zero within below fits = subst (λ (n : ℕ). front < 256 ^ n) (omega arith) below
number_after-below a front [] (suc i) within below fits = absurd (omega arith)
number_after-below a front (x ∷ octets) (suc i) within below fits =
    let wider : 256 ^ suc a ≡ 256 * 256 ^ a = pow-suc 256 a ∙ mul_comm (256 ^ a) 256 in
    let here : x < 256 = fits 0 in
    let on : front * 256 + x < 256 ^ suc a = omega (arith, wider, below, here) in
    subst (λ (n : ℕ). number_from_digits_after 256 (front * 256 + x) (take i octets) < 256 ^ n) (omega arith)
    (number_after-below (suc a) (front * 256 + x) octets i (omega arith) on (λ j. fits (suc j)))

number_after-zeros : (k front : ℕ) → number_from_digits_after 256 front (replicate k 0) ≡ front * 256 ^ k
number_after-zeros zero front = omega arith
number_after-zeros (suc k) front =
    number_after-zeros k (front * 256 + 0) ∙ (let wider : 256 ^ suc k ≡ 256 * 256 ^ k = pow-suc 256 k ∙ mul_comm (256 ^ k) 256 in rw wider (omega arith))

-- the number of octets that zeros fill up
pub number-padded : (n : ℕ) (xs : List ℕ) → length xs ≤ n → number_from_digits 256 (padded n xs) ≡ number_from_digits 256 xs * 256 ^ (n - length xs)
number-padded n xs few =
    ap (number_from_digits 256) (padded-is n xs few)
    ∙ number_after_append 256 0 xs (replicate (n - length xs) 0)
    ∙ number_after-zeros (n - length xs) (number_from_digits 256 xs)

-- the number of the first octets of an address
pub number-front : (n j bits : ℕ) → j ≤ n → bits < 256 ^ n → number_from_digits 256 (take j (bytes_high_first n bits)) ≡ bits / 256 ^ (n - j)
number-front n j bits few fits =
    let k = n - j in
    let parts : n ≡ j + k = omega arith in
    let high : bits / 256 ^ k < 256 ^ j =
    div_below bits (256 ^ k) (256 ^ j) (pow-le-pow_right {n = 256} (omega arith) {i = 0} {j = k} (omega arith)) (subst (λ (d : ℕ). bits < d) (ap (λ (m : ℕ). 256 ^ m) parts ∙ pow-add 256 j k) fits) in
    ap (λ (m : ℕ). number_from_digits 256 (take j (bytes_high_first m bits))) parts
    ∙ ap (number_from_digits 256) (take-octets j k bits)
    ∙ number-octets j (bits / 256 ^ k)
    ∙ mod-eq_of_lt high

-- one octet more
pub number_after-more : (front : ℕ) (octets : List ℕ) (i : ℕ) → i < length octets
    → number_from_digits_after 256 front (take (i + 1) octets) ≡ number_from_digits_after 256 front (take i octets) * 256 + get_or octets i 0
number_after-more front [] i within = absurd (omega arith)
number_after-more front (x ∷ octets) zero within = refl
number_after-more front (x ∷ octets) (suc i) within =
    let more : suc i + 1 ≡ suc (i + 1) = omega arith in
    ap (λ (m : ℕ). number_from_digits_after 256 front (take m (x ∷ octets))) more
    ∙ number_after-more (front * 256 + x) octets i (omega arith)

-- a front of octets, octets behind it, and zeros
pub number-formed : (n count : ℕ) (front octets : List ℕ) → count ≡ length front + length octets → count ≤ n
    → number_from_digits 256 (padded n (front ++ octets)) ≡ number_from_digits_after 256 (number_from_digits 256 front) octets * 256 ^ (n - count)
number-formed n count front octets is few =
    let sized : length (front ++ octets) ≡ count = length-append front octets ∙ sym is in
    number-padded n (front ++ octets) (omega (arith, sized))
    ∙ ap (λ (m : ℕ). number_from_digits 256 (front ++ octets) * 256 ^ (n - m)) sized
    ∙ ap (λ (m : ℕ). m * 256 ^ (n - count)) (number_after_append 256 0 front octets)

-- one octet more fits 128 bits, where all of them do
pub number_after-room : (front : ℕ) (octets : List ℕ) (i : ℕ) → length octets ≤ 16 → front < 256 ^ (16 - length octets) → ((j : ℕ) → get_or octets j 0 < 256) → i < length octets
    → number_from_digits_after 256 front (take i octets) * 256 + get_or octets i 0 < 2 ^ 128
number_after-room front octets i few room fits within =
    let a = 16 - length octets in
    let below : number_from_digits_after 256 front (take (i + 1) octets) < 256 ^ (a + (i + 1)) = number_after-below a front octets (i + 1) (omega arith) room fits in
    let all : 256 ^ (a + (i + 1)) ≤ 256 ^ 16 = pow-le-pow_right {n = 256} (omega arith) {i = a + (i + 1)} {j = 16} (omega arith) in
    omega (arith, below, all, number_after-more front octets i within)

-- an address has as many bits as its octets
pub width-octets : (family : Family) → 2 ^ width_of family ≡ 256 ^ octet_count family
width-octets V4 = refl
width-octets V6 = refl

pub few_octets : (family : Family) → octet_count family ≤ 16
few_octets V4 = omega arith
few_octets V6 = omega arith

-- the first octets of an address, read by a shift
pub leading-is : (family : Family) (bits count : ℕ) → count ≤ octet_count family → bits < 2 ^ width_of family
    → bits / 2 ^ (8 * (octet_count family - count)) ≡ number_from_digits 256 (take count (bytes_high_first (octet_count family) bits))
leading-is family bits count few fits =
    ap (λ (m : ℕ). bits / m) (sym (pow_256 (octet_count family - count)))
    ∙ sym (number-front (octet_count family) count bits few (subst (λ (m : ℕ). bits < m) (width-octets family) fits))

pub leading-fits : (family : Family) (bits count : ℕ) → count ≤ octet_count family → bits < 2 ^ width_of family → bits / 2 ^ (8 * (octet_count family - count)) < 256 ^ count
leading-fits family bits count few fits =
    let k = octet_count family - count in
    let parts : octet_count family ≡ count + k = omega arith in
    let all : bits < 256 ^ count * 256 ^ k = subst (λ (m : ℕ). bits < m) (width-octets family ∙ ap (λ (m : ℕ). 256 ^ m) parts ∙ pow-add 256 count k) fits in
    subst (λ (m : ℕ). bits / m < 256 ^ count) (pow_256 k)
    (div_below bits (256 ^ k) (256 ^ count) (pow-le-pow_right {n = 256} (omega arith) {i = 0} {j = k} (omega arith)) all)

-- what is moved up stays within the width
pub moved_up-fits : (family : Family) (number count : ℕ) → count ≤ octet_count family → number < 256 ^ count → number * 256 ^ (octet_count family - count) < 2 ^ width_of family
moved_up-fits family number count few fits =
    let k = octet_count family - count in
    let parts : octet_count family ≡ count + k = omega arith in
    let some : 0 < 256 ^ k = pow-le-pow_right {n = 256} (omega arith) {i = 0} {j = k} (omega arith) in
    subst (λ (m : ℕ). number * 256 ^ k < m) (sym (width-octets family ∙ ap (λ (m : ℕ). 256 ^ m) parts ∙ pow-add 256 count k))
    (mul-lt-mul_of_pos_right fits some)

pub moved_up-is : (family : Family) (number count : ℕ) → count ≤ octet_count family → number < 256 ^ count
    → number * 2 ^ (8 * (octet_count family - count)) % 2 ^ 128 ≡ number * 256 ^ (octet_count family - count)
moved_up-is family number count few fits =
    let k = octet_count family - count in
    let wide : 2 ^ width_of family ≤ 2 ^ 128 = subst (λ (m : ℕ). m ≤ 2 ^ 128) (sym (width-octets family))
    (pow-le-pow_right {n = 256} (omega arith) {i = octet_count family} {j = 16} (few_octets family)) in
    ap (λ (m : ℕ). number * m % 2 ^ 128) (sym (pow_256 k))
    ∙ mod-eq_of_lt (omega (arith, wide, moved_up-fits family number count few fits))

-- all the octets of an address are its bits
pub whole_fits : (family : Family) (number len : ℕ) → len ≡ octet_count family → number < 256 ^ (0 + len) → number < 2 ^ width_of family
whole_fits family number len whole fits = subst (λ (m : ℕ). number < m) (ap (λ (m : ℕ). 256 ^ m) (omega (arith, whole)) ∙ sym (width-octets family)) fits

-- the omitted octets are there, where a default prefix is
pub length-omitted : (family : Family) (default : Option Address) (count : ℕ) → count ≤ octet_count family → IsOfFamily family default → (0 < count → IsSome default)
    → length (take count (default_octets default)) ≡ count
length-omitted family None zero few fits there = refl
length-omitted family None (suc count) few fits there = let some : IsSome {T = Address} None = there (omega arith) in cc
length-omitted family (Some a) count few fits there =
    length-take-le count (octets_of a) (subst (λ (m : ℕ). count ≤ m) (ap octet_count (sym fits.0) ∙ sym (length-octets (octet_count a.family) a.bits)) few)

-- a power is more than nothing
pub pow_256-pos : (count : ℕ) → 0 < 256 ^ count
pow_256-pos count = pow-le-pow_right {n = 256} (omega arith) {i = 0} {j = count} (omega arith)

pub pow_256-le : (i j : ℕ) → i ≤ j → 256 ^ i ≤ 256 ^ j
pow_256-le i j le = pow-le-pow_right {n = 256} (omega arith) {i = i} {j = j} le
