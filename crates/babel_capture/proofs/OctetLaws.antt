-- Numbers in octets, read from a place on.
use Rattle.std.proofs.Common.{◌≡◌, ◌≤◌, ℕ, zero, suc, ◌+◌, ◌-◌, List, length, take, drop, refl, ap, ◌∙◌, arith}
use Rattle.std.proofs.lemmas.List.{get_or-drop, length-drop, take_all}
use Rattle.byteorder.specs.Numbers.{big_from-take}
use Rattle.byteorder.specs.Endian.{big_from, big_number}
use Rattle.babel_capture.specs.Octets.{network_number}

pub big_from-drop : (i n at : ℕ) (octets : List ℕ) → big_from i n (drop at octets) ≡ big_from (at + i) n octets
big_from-drop i zero at octets = refl
big_from-drop i (suc n) at octets =
    let octet = get_or-drop at octets i 0 in
    let rest = big_from-drop (suc i) n at octets in
    let next : at + suc i ≡ suc (at + i) = omega arith in
    rw (octet, rest, next) refl

-- the first number of n octets in what comes after `at` octets
pub number-is : (n at : ℕ) (octets : List ℕ) → big_number n (take (length octets - at) (drop at octets)) ≡ network_number at n octets
unfolding network_number
number-is n at octets =
    let start : at + 0 ≡ at = omega arith in
    let rest = take_all (length octets - at) (drop at octets) (omega (arith, length-drop at octets)) in
    ap (big_from 0 n) rest ∙ big_from-drop 0 n at octets ∙ ap (λ (i : ℕ). big_from i n octets) start

-- a number is there if its octets were kept
pub number-kept : (at n kept : ℕ) (octets : List ℕ) → at + n ≤ kept → network_number at n (take kept octets) ≡ network_number at n octets
unfolding network_number
number-kept at n kept octets within = big_from-take at n kept octets within
