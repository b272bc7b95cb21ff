-- A router-id as a number: RFC 8966, 4.1.3.
use Rattle.std.proofs.Common.{◌≡◌, ◌≢◌, ℕ, ◌^◌, ◌<◌, Bool, true, false, nat_eq, List, [], ◌∷◌, length, get_or, replicate, refl, sym, ap, ◌∙◌, arith}
use Rattle.std.specs.Prelude.{◌==◌}
use Rattle.std.specs.List.{list_all}
use Rattle.std.specs.Int.{byte_at, bytes_high_first, w64, from_be_bytes, to_be_bytes}
use Rattle.std.specs.Str.{bytes_eq}
use Rattle.std.proofs.lemmas.Bool.Decides.{nat_tests}
use Rattle.std.proofs.lemmas.Nat.{be_bytes_8}
use Rattle.std.proofs.lemmas.Slice.Eq.{bytes_eq-Decides}
use Rattle.babel_tlv.specs.Route.{is_reserved}

-- the octets of an IPv4 address are the last ones
pub small_id : (n : ℕ) → n < 2 ^ 32 → bytes_high_first 8 n ≡ 0 ∷ 0 ∷ 0 ∷ 0 ∷ bytes_high_first 4 n
small_id n small =
    let a : byte_at 7 n ≡ 0 = omega arith in
    let b : byte_at 6 n ≡ 0 = omega arith in
    let c : byte_at 5 n ≡ 0 = omega arith in
    let d : byte_at 4 n ≡ 0 = omega arith in
    rw (a, b, c, d) refl

all_same : (k : ℕ) (id : List ℕ) → list_all (λ octet. octet == k) id ≡ true → id ≡ replicate (length id) k
all_same k [] all = refl
all_same k (x ∷ id) all = let rest = all_same k id in grind (arith, nat_tests, rest)

-- eight octets are all this one exactly if their number is that of eight such octets
same_number : (k n : ℕ) (id : List ℕ) → length id ≡ 8 → ((i : ℕ) → get_or id i 0 < 256) → n ≡ from_be_bytes w64 id
    → list_all (λ octet. octet == k) (to_be_bytes w64 (from_be_bytes w64 (replicate 8 k))) ≡ true
    → nat_eq n (from_be_bytes w64 (replicate 8 k)) ≡ list_all (λ octet. octet == k) id
same_number k n id eight octets is same = by (list_all (λ octet. octet == k) id) refl
  where
    by : (b : Bool) → list_all (λ octet. octet == k) id ≡ b → nat_eq n (from_be_bytes w64 (replicate 8 k)) ≡ b
    by true all =
        let whole : id ≡ replicate 8 k = all_same k id all ∙ ap (λ (m : ℕ). replicate m k) eight in
        let equal : n ≡ from_be_bytes w64 (replicate 8 k) = is ∙ ap (from_be_bytes w64) whole in
        grind (arith, nat_tests)
    by false some =
        let differ : n ≢ from_be_bytes w64 (replicate 8 k) = λ equal.
        let bytes : to_be_bytes w64 (from_be_bytes w64 (replicate 8 k)) ≡ id = ap (to_be_bytes w64) (sym equal) ∙ be_bytes_8 id n eight octets is in
        let all : list_all (λ octet. octet == k) id ≡ true = ap (list_all (λ octet. octet == k)) (sym bytes) ∙ same in
        cc in
        grind (arith, nat_tests)

pub reserved_else : (id : List ℕ) (n : ℕ) → length id ≡ 8 → ((i : ℕ) → get_or id i 0 < 256) → n ≡ from_be_bytes w64 id → n ≢ 0 → nat_eq n 18446744073709551615 ≡ is_reserved id
reserved_else id n eight octets is some =
    let zeros : nat_eq n 0 ≡ list_all (λ octet. octet == 0) id = same_number 0 n id eight octets is refl in
    let ones : nat_eq n 18446744073709551615 ≡ list_all (λ octet. octet == 255) id = same_number 255 n id eight octets is refl in
    let none : nat_eq n 0 ≡ false = grind (arith, nat_tests) in
    rw (← zeros, ← ones, none) refl

-- eight octets are eight others exactly if their numbers are one
pub same_ids : (id other : List ℕ) (m n : ℕ) → length id ≡ 8 → ((i : ℕ) → get_or id i 0 < 256)
    → length other ≡ 8 → ((i : ℕ) → get_or other i 0 < 256)
    → m ≡ from_be_bytes w64 id → n ≡ from_be_bytes w64 other → nat_eq m n ≡ bytes_eq id other
same_ids id other m n eight octets other_eight other_octets is other_is = by (bytes_eq id other) refl
  where
    by : (b : Bool) → bytes_eq id other ≡ b → nat_eq m n ≡ b
    by true same =
        let equal : m ≡ n = is ∙ ap (from_be_bytes w64) ((bytes_eq-Decides id other).0 same) ∙ sym other_is in
        grind (arith, nat_tests)
    by false differ =
        let unequal : m ≢ n = λ equal.
        let one : id ≡ other = sym (be_bytes_8 id m eight octets is) ∙ ap (to_be_bytes w64) equal ∙ be_bytes_8 other n other_eight other_octets other_is in
        let same : bytes_eq id other ≡ true = (bytes_eq-Decides id other).1 one in
        cc in
        grind (arith, nat_tests)
