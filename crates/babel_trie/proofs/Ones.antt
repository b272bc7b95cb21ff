-- How many blocks a range has: the ones of its two parts.
use Rattle.std.proofs.Common.{◌≡◌, inl, inr, ℕ, zero, suc, ◌+◌, ◌-◌, ◌*◌, ◌/◌, ◌%◌, ◌^◌, ◌<◌, ◌≤◌, List, [], ◌∷◌, ◌++◌, length, length-append, sym, ◌∙◌, ap, subst, arith, pow-suc}
use Rattle.std.specs.Int.{w128, bit_at}
use Rattle.std.specs.Int.Count.{ones, count_trailing_zeros, count_leading_zeros}
use Rattle.std.proofs.lemmas.Bool.{cases_lt}
use Rattle.std.proofs.lemmas.Nat.{pow_pos, pow_below, ones_cat, leading_top}
use Rattle.std.proofs.lemmas.Nat.Bits.{bit_at-trailing_zeros}
use Rattle.std.proofs.Math.Nat.{div-add-mod', mul-mod_left, mul-le-mul_right, pow-le-pow_right}
use Rattle.std.specs.Int.RustNames.{bit_xor}
use Rattle.std.specs.Int.Bits.{xor_self}
use Rattle.std.proofs.lemmas.Nat.{shr-shr, xor_shr, xor_lt, one_shl, le-div, mod_below}
use Rattle.std.proofs.lemmas.Nat.Bits.{bit_at_xor, bit_at-zero, bit_at-lt, same_from_bits}
use Rattle.std.proofs.Math.Nat.{div-eq_of_lt, div-mul-le_self, mod-eq_of_lt}
use Rattle.babel_prefix.specs.Block.{Block}
use Rattle.babel_trie.specs.Cut.{block_from, IsLargestFit, AreLargestIn, IsSplit}
use Rattle.babel_trie.proofs.Multiples.{next_multiple, fewer_zeros, power_added, zeros-suc, bit_ends}
use Rattle.babel_trie.proofs.Zeros.{aligned_at_zeros, top_bits}
use Rattle.babel_trie.proofs.Cuts.{IsCutTo, one_more_cut, nothing_cut, whole_cut}

-- the lowest one and the highest one
one_low : (n k : ℕ) → n % 2 ^ k ≡ 0 → bit_at n k ≡ 1 → ones n ≡ suc (ones (n - 2 ^ k))
unfolding ones
one_low n k none one =
    let q : ℕ = n / 2 ^ suc k in
    let low : n % 2 ^ suc k ≡ 1 * 2 ^ k + 0 = zeros-suc n k ∙ ap (λ b. b * 2 ^ k + n % 2 ^ k) one ∙ ap (λ r. 1 * 2 ^ k + r) none in
    let whole : q * 2 ^ suc k + n % 2 ^ suc k ≡ n = div-add-mod' n (2 ^ suc k) in
    let parts : n ≡ q * 2 ^ suc k + (1 * 2 ^ k + 0) = omega arith in
    let others : n - 2 ^ k ≡ q * 2 ^ suc k + 0 = omega arith in
    let all : ones n ≡ ones q + ones (1 * 2 ^ k + 0) = ap ones parts ∙ ones_cat (suc k) q (1 * 2 ^ k + 0) (omega (arith, pow_below k (suc k) (omega arith))) in
    let this : ones (1 * 2 ^ k + 0) ≡ 1 = ones_cat k 1 0 (pow_pos k) in
    let rest : ones (n - 2 ^ k) ≡ ones q + 0 = ap ones others ∙ ones_cat (suc k) q 0 (pow_pos (suc k)) in
    omega arith

one_high : (n k : ℕ) → 2 ^ k ≤ n → n < 2 ^ suc k → ones n ≡ suc (ones (n - 2 ^ k))
unfolding ones
one_high n k low high =
    let twice : 2 ^ suc k ≡ 2 ^ k * 2 = pow-suc 2 k in
    let parts : n ≡ 1 * 2 ^ k + (n - 2 ^ k) = omega arith in
    let all : ones n ≡ 1 + ones (n - 2 ^ k) = ap ones parts ∙ ones_cat k 1 (n - 2 ^ k) (omega arith) in
    omega arith

-- a multiple less a multiple
difference : (m n k : ℕ) → m % 2 ^ k ≡ 0 → n % 2 ^ k ≡ 0 → n ≤ m → (m - n) % 2 ^ k ≡ 0
difference m n k p q le =
    let p_is : m / 2 ^ k * 2 ^ k ≡ m = omega (arith, div-add-mod' m (2 ^ k)) in
    let q_is : n / 2 ^ k * 2 ^ k ≡ n = omega (arith, div-add-mod' n (2 ^ k)) in
    let x : ℕ = m / 2 ^ k in
    let y : ℕ = n / 2 ^ k in
    elim (cases_lt x y) [
      | inl lt ↦
          let most : suc x * 2 ^ k ≤ y * 2 ^ k = mul-le-mul_right (2 ^ k) (omega arith) in
          absurd (omega (arith, pow_pos k))
      | inr ge ↦
          let z : ℕ = x - y in
          let whole : x ≡ y + z = omega arith in
          let more : x * 2 ^ k ≡ (y + z) * 2 ^ k = ap (λ (v : ℕ). v * 2 ^ k) whole in
          let e : m - n ≡ z * 2 ^ k = omega arith in
          ap (λ v. v % 2 ^ k) e ∙ mul-mod_left z (2 ^ k)
    ]

-- a cut that goes on with this many blocks
pub record GoesOn (w from last to count : ℕ) (blocks : List Block) : Type 0 where
  pub more : List Block
  pub cut : IsCutTo w from last to more
  pub counted : length more ≡ length blocks + count

pub stays : (w from last at to n : ℕ) (blocks : List Block) → at ≡ to → n ≡ 0 → IsCutTo w from last at blocks → GoesOn w from last to (ones n) blocks
unfolding ones
stays w from last at to n blocks e z cut =
    let none : ones n ≡ 0 = ap ones z in
    record { more = blocks; cut = subst (λ (x : ℕ). IsCutTo w from last x blocks) e cut; counted = omega arith }

-- one block, and then others
then_more : (w from last at to bits n rest : ℕ) (blocks : List Block) → n ≡ suc rest →
    GoesOn w from last to rest (blocks ++ block_from w at bits ∷ []) → GoesOn w from last to n blocks
then_more w from last at to bits n rest blocks e on =
    let one : length (blocks ++ block_from w at bits ∷ []) ≡ length blocks + 1 = length-append blocks (block_from w at bits ∷ []) in
    let all : length on.more ≡ length (blocks ++ block_from w at bits ∷ []) + rest = on.counted in
    record { more = on.more; cut = on.cut; counted = omega arith }

-- from a multiple on, the blocks are the ones, the highest first
pub right : (w from last at j fuel : ℕ) (blocks : List Block) → from ≤ at → at ≤ last + 1 → last < 2 ^ w → at % 2 ^ j ≡ 0 → last + 1 - at ≤ 2 ^ j → last + 1 - at ≤ fuel →
    IsCutTo w from last at blocks → GoesOn w from last (last + 1) (ones (last + 1 - at)) blocks
right w from last at j zero blocks low high last_in aligned room most cut = stays w from last at (last + 1) (last + 1 - at) blocks (omega arith) (omega arith) cut
right w from last at j (suc fuel) blocks low high last_in aligned room most cut =
    elim (cases_lt at (last + 1)) [
      | inr end ↦ stays w from last at (last + 1) (last + 1 - at) blocks (omega arith) (omega arith) cut
      | inl lt ↦
          let n : ℕ = last + 1 - at in
          let double : 2 ^ suc w ≡ 2 ^ w * 2 = pow-suc 2 w in
          let t = leading_top (suc w) n (omega arith) (omega arith) in
          let k : ℕ = t.0 in
          let fits : 2 ^ k ≤ n = t.2 in
          let less : n < 2 ^ suc k = t.3 in
          let twice : 2 ^ suc k ≡ 2 ^ k * 2 = pow-suc 2 k in
          let k_in : k ≤ j = elim (cases_lt j k) [ inl gt ↦ absurd (omega (arith, pow_below j k gt)) | inr le ↦ le ] in
          let fit : IsLargestFit at last k = record {
            aligned = fewer_zeros at j k k_in aligned;
            room = omega arith;
            most = λ more past e. let up : 2 ^ suc k ≤ 2 ^ more = pow-le-pow_right {n = 2} (omega arith) {i = suc k} {j = more} (omega arith) in omega arith;
          } in
          let some : 0 < 2 ^ k = pow_pos k in
          let step = one_more_cut w from last at k blocks low (omega arith) last_in fit cut in
          let on = right w from last (at + 2 ^ k) k fuel (blocks ++ block_from w at k ∷ []) (omega arith) (omega arith) last_in
          (power_added at k k (omega arith) fit.aligned) (omega arith) (omega arith) step in
          let rest : n - 2 ^ k ≡ last + 1 - (at + 2 ^ k) = omega arith in
          then_more w from last at (last + 1) k (ones n) (ones (last + 1 - (at + 2 ^ k))) blocks (one_high n k fits less ∙ ap (λ (x : ℕ). suc (ones x)) rest) on
    ]

-- up to a multiple, they are the ones, the lowest first
pub left : (w from last at m d fuel : ℕ) (blocks : List Block) → from ≤ at → at ≤ m → m ≤ last + 1 → last < 2 ^ w → m % 2 ^ d ≡ 0 → m - at < 2 ^ d → d ≤ 128 → m - at ≤ fuel →
    IsCutTo w from last at blocks → GoesOn w from last m (ones (m - at)) blocks
left w from last at m d zero blocks low high m_in last_in aligned room few most cut = stays w from last at m (m - at) blocks (omega arith) (omega arith) cut
left w from last at m d (suc fuel) blocks low high m_in last_in aligned room few most cut =
    elim (cases_lt at m) [
      | inr end ↦ stays w from last at m (m - at) blocks (omega arith) (omega arith) cut
      | inl lt ↦
          let n : ℕ = m - at in
          let bound : 2 ^ d ≤ 2 ^ 128 = pow-le-pow_right {n = 2} (omega arith) {i = d} {j = 128} few in
          let n_in : n < 2 ^ 128 = omega arith in
          let t = bit_at-trailing_zeros w128 n (omega arith) n_in in
          let k : ℕ = count_trailing_zeros 128 n in
          let one : bit_at n k ≡ 1 = t.1 in
          let none : n % 2 ^ k ≡ 0 = aligned_at_zeros n n_in in
          let some : 0 < 2 ^ k = pow_pos k in
          let fits : 2 ^ k ≤ n = omega (arith, next_multiple (2 ^ k) 0 n (omega arith) none (omega arith)) in
          let k_in : k < d = elim (cases_lt k d) [ inl less ↦ less | inr ge ↦ absurd (let up : 2 ^ d ≤ 2 ^ k = pow-le-pow_right {n = 2} (omega arith) {i = d} {j = k} ge in omega arith) ] in
          let at_is : m - n ≡ at = omega arith in
          let fit : IsLargestFit at last k = record {
            aligned = subst (λ (x : ℕ). x % 2 ^ k ≡ 0) at_is (difference m n k (fewer_zeros m d k (omega arith) aligned) none (omega arith));
            room = omega arith;
            most = λ more past e. absurd (bit_ends n k (suc k) one (omega arith)
                (difference m at (suc k) (fewer_zeros m d (suc k) (omega arith) aligned) (fewer_zeros at more (suc k) (omega arith) e) (omega arith)));
          } in
          let step = one_more_cut w from last at k blocks low (omega arith) last_in fit cut in
          let on = left w from last (at + 2 ^ k) m d fuel (blocks ++ block_from w at k ∷ []) (omega arith) (omega arith) m_in last_in aligned (omega arith) few (omega arith) step in
          let rest : n - 2 ^ k ≡ m - (at + 2 ^ k) = omega arith in
          then_more w from last at m k (ones n) (ones (m - (at + 2 ^ k))) blocks (one_low n k none one ∙ ap (λ (x : ℕ). suc (ones x)) rest) on
    ]

ones_pow : (d : ℕ) → ones (2 ^ d) ≡ 1
unfolding ones
ones_pow d = ap ones {x = 2 ^ d} {y = 1 * 2 ^ d + 0} (omega arith) ∙ ones_cat d 1 0 (pow_pos d)

-- a block of all addresses
pub one_piece : (w from last d : ℕ) → from ≤ last → last < 2 ^ w → from % 2 ^ d ≡ 0 → last + 1 - from ≡ 2 ^ d → (blocks : List Block) × AreLargestIn w from last blocks × (1 ≡ length blocks)
one_piece w from last d some last_in aligned whole =
    let fit : IsLargestFit from last d = record {
      aligned = aligned;
      room = omega arith;
      most = λ more past e. omega (arith, pow_below d more past);
    } in
    let cut = one_more_cut w from last from d [] (omega arith) some last_in fit (nothing_cut w from last) in
    let end : from + 2 ^ d ≡ last + 1 = omega arith in
    (block_from w from d ∷ [], whole_cut w from last (block_from w from d ∷ []) (subst (λ (n : ℕ). IsCutTo w from last n (block_from w from d ∷ [])) end cut), omega arith)

-- two parts, on two sides of a multiple
pub two_parts : (w from last m d : ℕ) → from < m → m ≤ last → last < 2 ^ w → d ≤ 128 → m % 2 ^ d ≡ 0 → m - from ≤ 2 ^ d → last + 1 - m ≤ 2 ^ d → ((m - from ≡ 2 ^ d) → (last + 1 - m ≡ 2 ^ d) → ⊥) →
    (blocks : List Block) × AreLargestIn w from last blocks × (ones (m - from) + ones (last + 1 - m) ≡ length blocks)
two_parts w from last m d lt le last_in few aligned below above not_whole =
    let low : GoesOn w from last m (ones (m - from)) [] = elim (cases_lt (m - from) (2 ^ d)) [
      | inl less ↦ left w from last from m d (m - from) [] (omega arith) (omega arith) (omega arith) last_in aligned less few (omega arith) (nothing_cut w from last)
      | inr full ↦
          let is : m - from ≡ 2 ^ d = omega arith in
          let short : last + 1 - m < 2 ^ d = elim (cases_lt (last + 1 - m) (2 ^ d)) [ inl s ↦ s | inr f ↦ absurd (not_whole is (omega arith)) ] in
          let whole : m - 2 ^ d ≡ from = omega arith in
          let power : 2 ^ d % 2 ^ d ≡ 0 = subst (λ (n : ℕ). n % 2 ^ d ≡ 0) {x = 0 + 2 ^ d} {y = 2 ^ d} (omega arith) (power_added 0 d d (omega arith) (omega (arith, pow_pos d))) in
          let fit : IsLargestFit from last d = record {
            aligned = subst (λ (n : ℕ). n % 2 ^ d ≡ 0) whole (difference m (2 ^ d) d aligned power (omega arith));
            room = omega arith;
            most = λ more past e.
                let up : 2 ^ suc d ≤ 2 ^ more = pow-le-pow_right {n = 2} (omega arith) {i = suc d} {j = more} (omega arith) in
                let twice : 2 ^ suc d ≡ 2 ^ d * 2 = pow-suc 2 d in
                omega arith;
          } in
          let cut = one_more_cut w from last from d [] (omega arith) (omega arith) last_in fit (nothing_cut w from last) in
          let end : from + 2 ^ d ≡ m = omega arith in
          let one : ones (m - from) ≡ 1 = ap ones is ∙ ones_pow d in
          record { more = block_from w from d ∷ []; cut = subst (λ (n : ℕ). IsCutTo w from last n (block_from w from d ∷ [])) end cut; counted = omega arith }
    ] in
    let all = right w from last m d (last + 1 - m) low.more (omega arith) (omega arith) last_in aligned above (omega arith) low.cut in
    let first : length low.more ≡ 0 + ones (m - from) = low.counted in
    let both : length all.more ≡ length low.more + ones (last + 1 - m) = all.counted in
    (all.more, whole_cut w from last all.more all.cut, omega arith)

-- numbers that differ in no bit are one
xor_none : (a b : ℕ) → bit_xor a b ≡ 0 → a ≡ b
xor_none a b e = same_from_bits a b (λ i.
    let sum : (bit_at a i + bit_at b i) % 2 ≡ 0 = sym (bit_at_xor a b i) ∙ ap (λ (n : ℕ). bit_at n i) e ∙ bit_at-zero i in
    omega (arith, bit_at-lt a i, bit_at-lt b i))

-- the highest bit in which two numbers differ
pub split_at : (from last d : ℕ) → from < last → 2 ^ d ≤ bit_xor from last → bit_xor from last < 2 ^ (d + 1) → IsSplit from last d
split_at from last d lt low high =
    let k : ℕ = d + 1 in
    let none : bit_xor from last / 2 ^ k ≡ 0 = div-eq_of_lt high in
    let above : from / 2 ^ k ≡ last / 2 ^ k = xor_none (from / 2 ^ k) (last / 2 ^ k) (sym (xor_shr from last k) ∙ none) in
    let a : ℕ = from / 2 ^ d in
    let b : ℕ = last / 2 ^ d in
    let a_half : a / 2 ≡ from / 2 ^ k = shr-shr from d 1 in
    let b_half : b / 2 ≡ last / 2 ^ k = shr-shr last d 1 in
    let some : 1 ≤ bit_xor from last / 2 ^ d = le-div 1 (bit_xor from last) (2 ^ d) (pow_pos d) (omega arith) in
    let differ : a ≡ b → ⊥ = λ e. let zero_xor : bit_xor from last / 2 ^ d ≡ 0 = xor_shr from last d ∙ ap (λ (n : ℕ). bit_xor n b) e ∙ xor_self b in omega arith in
    let up : a ≤ b = le-div a last (2 ^ d) (pow_pos d) (omega (arith, div-mul-le_self from (2 ^ d))) in
    elim (cases_lt a b) [
      | inl less ↦ record { low = omega arith; high = omega arith }
      | inr ge ↦ absurd (differ (omega arith))
    ]

pub record AreParts (from last m d : ℕ) : Type 0 where
  pub lt : from < m
  pub le : m ≤ last
  pub aligned : m % 2 ^ d ≡ 0
  pub below : m - from ≤ 2 ^ d
  pub above : last + 1 - m ≤ 2 ^ d
  pub whole : m - from ≡ 2 ^ d → from % 2 ^ (d + 1) ≡ 0

pub parts_of_split : (from last d : ℕ) → IsSplit from last d → AreParts from last (last / 2 ^ d * 2 ^ d) d
parts_of_split from last d s =
    let n : ℕ = 2 ^ d in
    let a : ℕ = from / n in
    let q : ℕ = last / 2 ^ (d + 1) in
    let next : last / n ≡ a + 1 = omega (arith, s.low, s.high) in
    let m_is : last / n * n ≡ (a + 1) * n = ap (λ (x : ℕ). x * n) next in
    let from_is : a * n + from % n ≡ from = div-add-mod' from n in
    let last_is : last / n * n + last % n ≡ last = div-add-mod' last n in
    let some : 0 < 2 ^ d = pow_pos d in
    let from_rest : from % n < n = mod_below from n some in
    let last_rest : last % n < n = mod_below last n some in
    record {
      lt = omega arith;
      le = omega arith;
      aligned = mul-mod_left (last / n) n;
      below = omega arith;
      above = omega arith;
      whole = λ e.
          let double : 2 ^ (d + 1) ≡ n * 2 = pow-suc' d in
          let a_is : a * n ≡ (2 * q) * n = ap (λ (x : ℕ). x * n) s.low in
          let twice : q * 2 ^ (d + 1) ≡ q * (n * 2) = ap (λ (x : ℕ). q * x) double in
          let is : from ≡ q * 2 ^ (d + 1) = omega arith in
          ap (λ (x : ℕ). x % 2 ^ (d + 1)) is ∙ mul-mod_left q (2 ^ (d + 1));
    }
  where
    pow-suc' : (d : ℕ) → 2 ^ (d + 1) ≡ 2 ^ d * 2
    pow-suc' d = ap (λ (x : ℕ). 2 ^ x) {x = d + 1} {y = suc d} (omega arith) ∙ pow-suc 2 d

-- the code's split
pub split_is : (from last : ℕ) → from < last → last < 2 ^ 128 → IsSplit from last (127 - count_leading_zeros 128 (bit_xor from last)) × (count_leading_zeros 128 (bit_xor from last) ≤ 127)
split_is from last lt last_in =
    let x : ℕ = bit_xor from last in
    let some : 0 < x = elim (cases_lt 0 x) [ inl above ↦ above | inr none ↦ absurd (omega (arith, xor_none from last (omega arith))) ] in
    let x_in : x < 2 ^ 128 = xor_lt 128 from last (omega arith) last_in in
    let t = leading_top 128 x some x_in in
    let place : count_leading_zeros 128 x + suc t.0 ≡ 128 = t.1 in
    let top = top_bits x some x_in in
    (split_at from last (127 - count_leading_zeros 128 x) lt top.0 top.1, omega arith)

-- the code's middle
middle_is : (last d : ℕ) → last < 2 ^ 128 → last / 2 ^ d * 2 ^ d % 2 ^ 128 ≡ last / 2 ^ d * 2 ^ d
middle_is last d last_in = mod-eq_of_lt (omega (arith, div-mul-le_self last (2 ^ d)))

-- a range of one address
pub one_address : (w from last : ℕ) → from ≡ last → last < 2 ^ w → (blocks : List Block) × AreLargestIn w from last blocks × (1 ≡ length blocks)
one_address w from last e last_in = one_piece w from last 0 (omega arith) last_in (omega arith) (omega arith)

-- two halves of one block
pub one_whole : (w from last d : ℕ) → d ≤ 127 → last < 2 ^ 128 → last < 2 ^ w → IsSplit from last d → last / 2 ^ d * 2 ^ d % 2 ^ 128 - from ≡ (1 * 2 ^ d) % 2 ^ 128 →
    last - last / 2 ^ d * 2 ^ d % 2 ^ 128 + 1 ≡ (1 * 2 ^ d) % 2 ^ 128 → (blocks : List Block) × AreLargestIn w from last blocks × (1 ≡ length blocks)
one_whole w from last d few fits last_in s below above =
    let m : ℕ = last / 2 ^ d * 2 ^ d in
    let m_is : last / 2 ^ d * 2 ^ d % 2 ^ 128 ≡ m = middle_is last d fits in
    let half : (1 * 2 ^ d) % 2 ^ 128 ≡ 2 ^ d = one_shl d 128 (omega arith) in
    let p : AreParts from last m d = parts_of_split from last d s in
    let is_below : m - from ≡ 2 ^ d = omega arith in
    let double : 2 ^ (d + 1) ≡ 2 ^ d * 2 = ap (λ (x : ℕ). 2 ^ x) {x = d + 1} {y = suc d} (omega arith) ∙ pow-suc 2 d in
    one_piece w from last (d + 1) (omega (arith, p.lt, p.le)) last_in (p.whole is_below) (omega (arith, p.lt, p.le))

-- two parts
pub ones_counted : (w from last d : ℕ) → d ≤ 127 → last < 2 ^ 128 → last < 2 ^ w → IsSplit from last d →
    ((last / 2 ^ d * 2 ^ d % 2 ^ 128 - from ≡ (1 * 2 ^ d) % 2 ^ 128) → (last - last / 2 ^ d * 2 ^ d % 2 ^ 128 + 1 ≡ (1 * 2 ^ d) % 2 ^ 128) → ⊥) →
    (blocks : List Block) × AreLargestIn w from last blocks × (ones (last / 2 ^ d * 2 ^ d % 2 ^ 128 - from) + ones (last - last / 2 ^ d * 2 ^ d % 2 ^ 128 + 1) ≡ length blocks)
ones_counted w from last d few fits last_in s not_whole =
    let m : ℕ = last / 2 ^ d * 2 ^ d in
    let m_is : last / 2 ^ d * 2 ^ d % 2 ^ 128 ≡ m = middle_is last d fits in
    let half : (1 * 2 ^ d) % 2 ^ 128 ≡ 2 ^ d = one_shl d 128 (omega arith) in
    let p : AreParts from last m d = parts_of_split from last d s in
    let both = two_parts w from last m d p.lt p.le last_in (omega arith) p.aligned p.below p.above (λ x y. not_whole (omega arith) (omega (arith, p.le))) in
    let low : last / 2 ^ d * 2 ^ d % 2 ^ 128 - from ≡ m - from = omega arith in
    let high : last - last / 2 ^ d * 2 ^ d % 2 ^ 128 + 1 ≡ last + 1 - m = omega (arith, p.le) in
    (both.0, both.1, ap (λ (x : ℕ). ones x + ones (last - last / 2 ^ d * 2 ^ d % 2 ^ 128 + 1)) low ∙ ap (λ (x : ℕ). ones (m - from) + ones x) high ∙ both.2)
