-- Octets as the numbers that they are: a list of octets is what lays its numbers out.
use Rattle.std.proofs.Common.{◌≡◌, ◌<◌, ◌≤◌, ℕ, zero, suc, ◌+◌, ◌*◌, ◌/◌, ◌^◌, ◌⊎◌, inl, inr, List, [], ◌∷◌, ◌++◌, length, take, drop, slice_index, refl, sym, ap, ◌∙◌, arith}
use Rattle.std.specs.Int.{byte_at, bytes_high_first}
use Rattle.std.proofs.Math.Nat.{add-mul, mod-lt, mul-le-mul_right}
use Rattle.std.proofs.Math.Seq.{drop-cons}
use Rattle.std.proofs.lemmas.List.{append-nil, drop-drop, get_or_past, length-drop, length-take-le, take-append-drop}
use Rattle.std.proofs.lemmas.List.Elements.{All-drop, All-get_or, All-take}
use Rattle.byteorder.specs.Endian.{big_bytes, big_from, big_number}
use Rattle.byteorder.specs.Numbers.{big_from-cons, big_from-lt, big_from-take, big_number-reads_back, length-bytes_high_first}
use Rattle.babel_capture.specs.InFrame.{AreOctets}
use Rattle.babel_capture.specs.Octets.{network_number}
use Rattle.babel_capture.proofs.OctetLaws.{big_from-drop}

abbrev pub AreBytes : List ℕ → Type 0
AreBytes octets = (k : ℕ) → slice_index octets k < 256

below-or_not : (i n : ℕ) → (i < n) ⊎ (n ≤ i)
below-or_not i zero = inr (omega arith)
below-or_not zero (suc n) = inl (omega arith)
below-or_not (suc i) (suc n) = elim (below-or_not i n) [ inl below ↦ inl (omega arith) | inr above ↦ inr (omega arith) ]

pub bytes_of : (octets : List ℕ) → AreOctets octets → AreBytes octets
bytes_of octets are k = by (below-or_not k (length octets))
  where
    by : (k < length octets) ⊎ (length octets ≤ k) → slice_index octets k < 256
    by (inl below) = All-get_or (λ (octet : ℕ). octet < 256) octets k 0 below are
    by (inr above) = (let none : slice_index octets k ≡ 0 = get_or_past octets k 0 above in omega (arith, none))

tail_bytes : (x : ℕ) (xs : List ℕ) → AreBytes (x ∷ xs) → AreBytes xs
tail_bytes x xs are k = are (suc k)

in_order : (a b : ℕ) → (a < b) ⊎ ((a ≡ b) ⊎ (b < a))
in_order zero zero = inr (inl refl)
in_order zero (suc b) = inl (omega arith)
in_order (suc a) zero = inr (inr (omega arith))
in_order (suc a) (suc b) = elim (in_order a b) [ inl less ↦ inl (omega arith) | inr (inl equal) ↦ inr (inl (ap suc equal)) | inr (inr more) ↦ inr (inr (omega arith)) ]

-- the highest digit and the rest
digit_one : (a b p r s : ℕ) → r < p → s < p → a * p + r ≡ b * p + s → (a ≡ b) × (r ≡ s)
digit_one a b p r s below below_too same = by (in_order a b)
  where
    by : (a < b) ⊎ ((a ≡ b) ⊎ (b < a)) → (a ≡ b) × (r ≡ s)
    by (inl less) =
        (let top : (a + 1) * p ≤ b * p = mul-le-mul_right p (omega arith) in
        let split : (a + 1) * p ≡ a * p + 1 * p = add-mul a 1 p in
        absurd (omega arith))
    by (inr (inl equal)) =
        (let same_top : a * p ≡ b * p = ap (λ (n : ℕ). n * p) equal in
        (equal, omega arith))
    by (inr (inr more)) =
        (let top : (b + 1) * p ≤ a * p = mul-le-mul_right p (omega arith) in
        let split : (b + 1) * p ≡ b * p + 1 * p = add-mul b 1 p in
        absurd (omega arith))

-- as many octets with one number are the same
octets_one : (n : ℕ) (xs ys : List ℕ) → AreBytes xs → AreBytes ys → length xs ≡ n → length ys ≡ n → big_from 0 n xs ≡ big_from 0 n ys → xs ≡ ys
octets_one zero [] [] are are_too long long_too same = refl
octets_one zero [] (y ∷ ys) are are_too long long_too same = absurd (omega arith)
octets_one zero (x ∷ xs) ys are are_too long long_too same = absurd (omega arith)
octets_one (suc n) [] ys are are_too long long_too same = absurd (omega arith)
octets_one (suc n) (x ∷ xs) [] are are_too long long_too same = absurd (omega arith)
octets_one (suc n) (x ∷ xs) (y ∷ ys) are are_too long long_too same =
    let moved : big_from 1 n (x ∷ xs) ≡ big_from 0 n xs = big_from-cons 0 n x xs in
    let moved_too : big_from 1 n (y ∷ ys) ≡ big_from 0 n ys = big_from-cons 0 n y ys in
    let whole : x * 256 ^ n + big_from 0 n xs ≡ y * 256 ^ n + big_from 0 n ys =
    ap (λ (r : ℕ). x * 256 ^ n + r) (sym moved) ∙ same ∙ ap (λ (r : ℕ). y * 256 ^ n + r) moved_too in
    let parts = digit_one x y (256 ^ n) (big_from 0 n xs) (big_from 0 n ys) (big_from-lt 0 n xs (tail_bytes x xs are)) (big_from-lt 0 n ys (tail_bytes y ys are_too)) whole in
    ap (λ (z : ℕ). z ∷ xs) parts.0
    ∙ ap (λ (zs : List ℕ). y ∷ zs) (octets_one n xs ys (tail_bytes x xs are) (tail_bytes y ys are_too) (omega arith) (omega arith) parts.1)

byte-less : (k x : ℕ) → byte_at k x < 256
byte-less zero x = mod-lt x (omega arith)
byte-less (suc k) x = mod-lt (x / 256 ^ suc k) (omega arith)

laid_bytes : (n x : ℕ) → AreBytes (bytes_high_first n x)
laid_bytes zero x k = omega arith
laid_bytes (suc n) x zero = byte-less n x
laid_bytes (suc n) x (suc k) = laid_bytes n x k

-- the first octets are those of their number
pub front_is : (n : ℕ) (octets : List ℕ) → AreOctets octets → n ≤ length octets → octets ≡ big_bytes n (big_number n octets) ++ drop n octets
front_is n octets are long =
    let x = big_number n octets in
    let front = bytes_of (take n octets) (All-take (λ (octet : ℕ). octet < 256) n octets are) in
    let number : big_from 0 n (take n octets) ≡ x = big_from-take 0 n n octets (omega arith) in
    let fits : x < 256 ^ n = big_from-lt 0 n octets (bytes_of octets are) in
    let back : big_from 0 n (bytes_high_first n x) ≡ x =
    ap (big_from 0 n) (sym (append-nil (bytes_high_first n x))) ∙ big_number-reads_back n x [] fits in
    let same : take n octets ≡ bytes_high_first n x =
    octets_one n (take n octets) (bytes_high_first n x) front (laid_bytes n x) (length-take-le n octets long) (length-bytes_high_first n x) (number ∙ sym back) in
    sym (take-append-drop n octets) ∙ ap (λ (t : List ℕ). t ++ drop n octets) same

-- the same from a place on
pub field_is : (at n : ℕ) (octets : List ℕ) → AreOctets octets → at + n ≤ length octets → drop at octets ≡ big_bytes n (network_number at n octets) ++ drop (at + n) octets
unfolding network_number
field_is at n octets are long =
    let start : at + 0 ≡ at = omega arith in
    let number : big_from 0 n (drop at octets) ≡ big_from at n octets = big_from-drop 0 n at octets ∙ ap (λ (i : ℕ). big_from i n octets) start in
    front_is n (drop at octets) (All-drop (λ (octet : ℕ). octet < 256) at octets are) (omega (arith, length-drop at octets))
    ∙ ap (λ (x : ℕ). big_bytes n x ++ drop n (drop at octets)) number ∙ ap (λ (t : List ℕ). big_bytes n (big_from at n octets) ++ t) (drop-drop n at octets)

pub octet_is : (at : ℕ) (octets : List ℕ) → at < length octets → drop at octets ≡ slice_index octets at ∷ drop (at + 1) octets
octet_is at octets long =
    let next : suc at ≡ at + 1 = omega arith in
    drop-cons octets at 0 long ∙ ap (λ (n : ℕ). slice_index octets at ∷ drop n octets) next

pub number_fits : (at n : ℕ) (octets : List ℕ) → AreOctets octets → network_number at n octets < 256 ^ n
unfolding network_number
number_fits at n octets are = big_from-lt at n octets (bytes_of octets are)

-- a part of octets
pub part_is : (n : ℕ) (octets : List ℕ) → octets ≡ take n octets ++ drop n octets
part_is n octets = sym (take-append-drop n octets)
