-- Rows of a block: those of the whole block come first, and those of its lower half before those of its upper.
use Rattle.std.proofs.Common.{◌≡◌, ◌⊎◌, inl, inr, ℕ, zero, suc, ◌+◌, ◌-◌, ◌*◌, ◌/◌, ◌%◌, ◌^◌, ◌<◌, ◌≤◌, ◌==◌, true, nat_lt, List}
use Rattle.std.proofs.Common.{[], ◌∷◌, ◌++◌, length, get_or, refl, sym, ◌∙◌, ap, subst, arith, eqb-true, eq-eqb}
use Rattle.std.specs.List.Sorted.{IsPartitionedBy}
use Rattle.std.proofs.lemmas.Nat.{pow_pos, shr_high}
use Rattle.std.proofs.lemmas.Bool.{ltb-true, lt-ltb, cases_order}
use Rattle.std.proofs.Math.Nat.{div-lt_iff_lt-mul, le-div_iff_mul-le, div-add-mod'}
use Rattle.babel_prefix.specs.Block.{Block}
use Rattle.babel_prefix.specs.Covers.{BlockCovers, IsBlock}
use Rattle.babel_prefix.proofs.Members.{Listed}
use Rattle.babel_trie.specs.Rows.{InOrder, IsNoLater, IsPlace, InBlock}
use Rattle.babel_trie.proofs.BitLaws.{pow_twice}
use Rattle.babel_prefix.proofs.BlockLaws.{fewer_bits}
use Rattle.babel_prefix.proofs.Members.{Listed-append_left, Listed-append_right, Listed-get_or}
use Rattle.babel_trie.proofs.Lists.{AllPairs-from_order}

module _ {X : Type 0} where
  Listed-from_within : (P : X → Type 0) (xs : List X) → ((k : ℕ) (d : X) → k < length xs → P (get_or xs k d)) → (x : X) → Listed xs x → P x
  Listed-from_within P [] all x none = elim none [ ]
  Listed-from_within P (y ∷ ys) all x (inl e) = subst P e (all 0 y (omega arith))
  Listed-from_within P (y ∷ ys) all x (inr t) = Listed-from_within P ys (λ k d k_in. all (suc k) d (omega arith)) x t

  -- what holds below the place where a list is split holds of the first part
  pub first_part : (P : X → Type 0) (xs a b : List X) (i : ℕ) → xs ≡ a ++ b → length a ≡ i → ((k : ℕ) (d : X) → 0 ≤ k → k < i → P (get_or xs k d)) → (x : X) → Listed a x → P x
  first_part P xs a b i whole len all = Listed-from_within P a (λ k d k_in.
      subst P (in_first a b k d k_in) (subst (λ ys. P (get_or ys k d)) whole (all k d (omega arith) (omega arith))))
    where
      in_first : (a b : List X) (k : ℕ) (d : X) → k < length a → get_or (a ++ b) k d ≡ get_or a k d
      in_first [] b k d k_in = absurd (omega arith)
      in_first (y ∷ ys) b zero d k_in = refl
      in_first (y ∷ ys) b (suc k) d k_in = in_first ys b k d (omega arith)

  -- what holds from there on holds of the other part
  pub other_part : (P : X → Type 0) (xs a b : List X) (i : ℕ) → xs ≡ a ++ b → length a ≡ i → ((k : ℕ) (d : X) → i ≤ k → k < length xs → P (get_or xs k d)) → (x : X) → Listed b x → P x
  other_part P xs a b i whole len all = Listed-from_within P b (λ k d k_in.
      let e = in_other a b k d in
      subst P e (subst (λ ys. P (get_or ys (length a + k) d)) whole
      (all (length a + k) d (omega arith) (subst (λ (ys : List X). length a + k < length ys) (sym whole) (subst (λ n. length a + k < n) (sym (lengths a b)) (omega arith))))))
    where
      in_other : (a b : List X) (k : ℕ) (d : X) → get_or (a ++ b) (length a + k) d ≡ get_or b k d
      in_other [] b k d = let e : 0 + k ≡ k = omega arith in ap (λ n. get_or b n d) e
      in_other (y ∷ ys) b k d = let e : length (y ∷ ys) + k ≡ suc (length ys + k) = omega arith in ap (λ n. get_or (y ∷ (ys ++ b)) n d) e ∙ in_other ys b k d

      lengths : (a b : List X) → length (a ++ b) ≡ length a + length b
      lengths [] b = omega arith
      lengths (y ∷ ys) b = omega (arith, lengths ys b)

  pub InOrder-left : (R : X → X → Type 0) (a b : List X) → InOrder R (a ++ b) → InOrder R a
  InOrder-left R [] b o = tt
  InOrder-left R (x ∷ a) b o = (λ y t. o.0 y (Listed-append_left a b y t), InOrder-left R a b o.1)

  pub InOrder-right : (R : X → X → Type 0) (a b : List X) → InOrder R (a ++ b) → InOrder R b
  InOrder-right R [] b o = o
  InOrder-right R (x ∷ a) b o = InOrder-right R a b o.1

-- the halves of a place
pub place_low : (w bits start : ℕ) → IsPlace w bits start → 0 < bits → IsPlace w (bits - 1) start
place_low w bits start p some =
    let twice = pow_twice bits some in
    let room : start + 2 ^ bits ≤ 2 ^ w = p.room in
    let le : bits ≤ w = p.bits_in in
    record { bits_in = omega arith; index = p.index * 2; start_is = p.start_is ∙ ap (λ n. p.index * n) twice ∙ omega arith; room = omega arith }

pub place_high : (w bits start : ℕ) → IsPlace w bits start → 0 < bits → IsPlace w (bits - 1) (start + 2 ^ (bits - 1))
place_high w bits start p some =
    let twice = pow_twice bits some in
    let room : start + 2 ^ bits ≤ 2 ^ w = p.room in
    let le : bits ≤ w = p.bits_in in
    let is : start ≡ p.index * (2 * 2 ^ (bits - 1)) = p.start_is ∙ ap (λ n. p.index * n) twice in
    record { bits_in = omega arith; index = p.index * 2 + 1; start_is = omega arith; room = omega arith }

-- an address of a block
in_place : (w bits start a : ℕ) → (p : IsPlace w bits start) → start ≤ a → a < start + 2 ^ bits → a / 2 ^ bits ≡ p.index
in_place w bits start a p low high =
    let k = p.index in
    let e : a ≡ k * 2 ^ bits + (a - start) = omega (arith, p.start_is) in
    ap (λ n. n / 2 ^ bits) e ∙ shr_high k bits (a - start) (omega arith)

-- a prefix of the whole block covers each address of the block
pub whole_covers : (w bits start : ℕ) (b : Block) → IsPlace w bits start → start ≤ b.start → b.start < start + 2 ^ bits → b.len ≡ w - bits → (a : ℕ) → a < 2 ^ bits → BlockCovers w b (start + a)
whole_covers w bits start b p low high len a a_in =
    let le : bits ≤ w = p.bits_in in
    let all : bits ≡ w - b.len = omega arith in
    let P : ℕ → Type 0 = λ n. (start + a) / 2 ^ n ≡ b.start / 2 ^ n in
    subst P all (in_place w bits start (start + a) p (omega arith) (omega arith) ∙ sym (in_place w bits start b.start p low high))

-- a prefix of the whole block starts where the block does
pub whole_start : (w bits start : ℕ) (b : Block) → IsPlace w bits start → IsBlock w b → start ≤ b.start → b.start < start + 2 ^ bits → b.len ≡ w - bits → b.start ≡ start
whole_start w bits start b p q low high len =
    let le : bits ≤ w = p.bits_in in
    let all : w - b.len ≡ bits = omega arith in
    let P : ℕ → Type 0 = λ n. b.start % 2 ^ n ≡ 0 in
    let none : b.start % 2 ^ bits ≡ 0 = subst P all q.rest_is_zero in
    let quotient = in_place w bits start b.start p low high in
    sym (div-add-mod' b.start (2 ^ bits)) ∙ ap (λ n. n * 2 ^ bits + b.start % 2 ^ bits) quotient ∙ ap (λ n. p.index * 2 ^ bits + n) none ∙ omega (arith, p.start_is)

-- two addresses on two sides of a multiple of a block's size are in no common block of that size
two_sides : (bits j x y : ℕ) → x < j * 2 ^ bits → j * 2 ^ bits ≤ y → x / 2 ^ bits ≡ y / 2 ^ bits → ⊥
two_sides bits j x y lt le e =
    let below : x / 2 ^ bits < j = (div-lt_iff_lt-mul (pow_pos bits)).1 lt in
    let above : j ≤ y / 2 ^ bits = (le-div_iff_mul-le (pow_pos bits)).1 le in
    omega arith

-- what a longer prefix covers agrees with its start
covered_agrees : (w bits : ℕ) (b : Block) (a : ℕ) → bits ≤ w → w - bits ≤ b.len → BlockCovers w b a → a / 2 ^ bits ≡ b.start / 2 ^ bits
covered_agrees w bits b a le len c =
    let all : w - (w - bits) ≡ bits = omega arith in
    let P : ℕ → Type 0 = λ n. a / 2 ^ n ≡ b.start / 2 ^ n in
    subst P all (fewer_bits w (w - bits) b.len a b.start len c)

-- a longer prefix of the upper half covers no address of the lower half
pub high_misses : (w bits start : ℕ) (b : Block) (a : ℕ) → IsPlace w bits start → w - bits ≤ b.len → start ≤ b.start → a < start → BlockCovers w b a → ⊥
high_misses w bits start b a p len from lt c =
    two_sides bits p.index a b.start (subst (λ n. a < n) p.start_is lt) (subst (λ n. n ≤ b.start) p.start_is from) (covered_agrees w bits b a p.bits_in len c)

-- nor one of the lower half an address of the upper
pub low_misses : (w bits start : ℕ) (b : Block) (a : ℕ) → IsPlace w bits start → w - bits ≤ b.len → b.start < start → start ≤ a → BlockCovers w b a → ⊥
low_misses w bits start b a p len lt from c =
    two_sides bits p.index b.start a (subst (λ n. b.start < n) p.start_is lt) (subst (λ n. n ≤ a) p.start_is from) (sym (covered_agrees w bits b a p.bits_in len c))

-- a prefix of a block covers no address outside it
pub outside_misses : (w bits start : ℕ) (b : Block) (a : ℕ) → IsPlace w bits start → w - bits ≤ b.len → start ≤ b.start → b.start < start + 2 ^ bits
    → (a < start) ⊎ (start + 2 ^ bits ≤ a) → BlockCovers w b a → ⊥
outside_misses w bits start b a p len from before (inl lt) c = high_misses w bits start b a p len from lt c
outside_misses w bits start b a p len from before (inr ge) c =
    two_sides bits (suc p.index) b.start a (omega (arith, p.start_is, before)) (omega (arith, p.start_is, ge)) (sym (covered_agrees w bits b a p.bits_in len c))

module _ {X : Type 0} (key : X → Block) where
  pairs_of : (w bits start : ℕ) (rows : List X) → InBlock key w bits start rows → (i j : ℕ) (d : X) → i < j → j < length rows → IsNoLater (key (get_or rows i d)) (key (get_or rows j d))
  pairs_of w bits start rows b i j d lt j_in = AllPairs-from_order (λ x y. IsNoLater (key x) (key y)) rows b.in_order i j d lt j_in

  -- the rows of the whole block come first
  pub whole_first : (w bits start : ℕ) (rows : List X) → IsPlace w bits start → InBlock key w bits start rows → (len : ℕ) → len ≡ w - bits → IsPartitionedBy (λ x. (key x).len == len) rows
  whole_first w bits start rows p b len len_is i j d le j_in test =
      elim (cases_order i j) [
        | inl e ↦ subst (λ k. (key (get_or rows k d)).len == len ≡ true) (sym e) test
        | inr either ↦ elim either [
          | inl lt ↦
              let x = get_or rows i d in
              let y = get_or rows j d in
              let x_in = Listed-get_or rows i d (omega arith) in
              let y_in = Listed-get_or rows j d j_in in
              let y_len : (key y).len ≡ len = eqb-true _ _ test in
              let y_start : (key y).start ≡ start = whole_start w bits start (key y) p (b.prefixes y y_in) (b.from_start y y_in) (b.before_end y y_in) (y_len ∙ len_is) in
              let x_from : start ≤ (key x).start = b.from_start x x_in in
              let x_len : w - bits ≤ (key x).len = b.no_shorter x x_in in
              elim (pairs_of w bits start rows b i j d lt j_in) [
                | inl below ↦ absurd (omega arith)
                | inr same ↦ let shorter : (key x).len ≤ (key y).len = same.1 in eq-eqb _ _ (omega arith)
              ]
          | inr gt ↦ absurd (omega arith)
        ]
      ]

  -- the rows that start below an address come first
  pub lower_first : (w bits start : ℕ) (rows : List X) → InBlock key w bits start rows → (middle : ℕ) → IsPartitionedBy (λ x. nat_lt (key x).start middle) rows
  lower_first w bits start rows b middle i j d le j_in test =
      elim (cases_order i j) [
        | inl e ↦ subst (λ k. nat_lt (key (get_or rows k d)).start middle ≡ true) (sym e) test
        | inr either ↦ elim either [
          | inl lt ↦
              let y_below : (key (get_or rows j d)).start < middle = ltb-true _ _ test in
              lt-ltb _ _ (elim (pairs_of w bits start rows b i j d lt j_in)
              [ inl below ↦ omega arith | inr same ↦ let e : (key (get_or rows i d)).start ≡ (key (get_or rows j d)).start = same.0 in omega arith ])
          | inr gt ↦ absurd (omega arith)
        ]
      ]

  -- the rows after those of the whole block
  pub block_rest : (w bits start : ℕ) (rows own rest : List X) → InBlock key w bits start rows → rows ≡ own ++ rest → InBlock key w bits start rest
  block_rest w bits start rows own rest b whole =
      let c : InBlock key w bits start (own ++ rest) = subst (InBlock key w bits start) whole b in
      record {
        prefixes = λ x t. c.prefixes x (Listed-append_right own rest x t);
        from_start = λ x t. c.from_start x (Listed-append_right own rest x t);
        before_end = λ x t. c.before_end x (Listed-append_right own rest x t);
        no_shorter = λ x t. c.no_shorter x (Listed-append_right own rest x t);
        in_order = InOrder-right (λ x y. IsNoLater (key x) (key y)) own rest c.in_order;
      }

  -- where other rows are left some bit is left
  pub some_bit : (w bits start len : ℕ) (rows : List X) → IsPlace w bits start → InBlock key w bits start rows → len ≡ w - bits
      → ((x : X) → Listed rows x → (key x).len ≡ len → ⊥) → (x : X) → Listed rows x → 0 < bits
  some_bit w bits start len rows p b len_is longer x x_in =
      let le : (key x).len ≤ w = (b.prefixes x x_in).len_in_range in
      let ge : w - bits ≤ (key x).len = b.no_shorter x x_in in
      elim (cases_order bits 0) [
        | inl none ↦ absurd (longer x x_in (omega arith))
        | inr either ↦ elim either [ inl lt ↦ absurd (omega arith) | inr gt ↦ gt ]
      ]

  -- those of them in the lower half
  pub block_low : (w bits start len : ℕ) (rows low high : List X) → 0 < bits → IsPlace w bits start → InBlock key w bits start rows → rows ≡ low ++ high → len ≡ w - bits →
      ((x : X) → Listed rows x → (key x).len ≡ len → ⊥) → ((x : X) → Listed low x → (key x).start < start + 2 ^ (bits - 1)) → InBlock key w (bits - 1) start low
  block_low w bits start len rows low high some p b whole len_is longer below =
      let c : InBlock key w bits start (low ++ high) = subst (InBlock key w bits start) whole b in
      let le : bits ≤ w = p.bits_in in
      record {
        prefixes = λ x t. c.prefixes x (Listed-append_left low high x t);
        from_start = λ x t. c.from_start x (Listed-append_left low high x t);
        before_end = below;
        no_shorter = λ x t.
            let ge : w - bits ≤ (key x).len = c.no_shorter x (Listed-append_left low high x t) in
            let other : (key x).len ≡ len → ⊥ = longer x (subst (λ ys. Listed ys x) (sym whole) (Listed-append_left low high x t)) in
            more w bits len (key x).len some le len_is ge other;
        in_order = InOrder-left (λ x y. IsNoLater (key x) (key y)) low high c.in_order;
      }
    where
      more : (w bits len l : ℕ) → 0 < bits → bits ≤ w → len ≡ w - bits → w - bits ≤ l → (l ≡ len → ⊥) → w - (bits - 1) ≤ l
      more w bits len l some le e ge other = elim (cases_order l len) [ inl same ↦ absurd (other same) | inr either ↦ elim either [ inl lt ↦ absurd (omega arith) | inr gt ↦ omega arith ] ]

  -- and those in the upper half
  pub block_high : (w bits start len : ℕ) (rows low high : List X) → 0 < bits → IsPlace w bits start → InBlock key w bits start rows → rows ≡ low ++ high → len ≡ w - bits →
      ((x : X) → Listed rows x → (key x).len ≡ len → ⊥) → ((x : X) → Listed high x → start + 2 ^ (bits - 1) ≤ (key x).start) → InBlock key w (bits - 1) (start + 2 ^ (bits - 1)) high
  block_high w bits start len rows low high some p b whole len_is longer above =
      let c : InBlock key w bits start (low ++ high) = subst (InBlock key w bits start) whole b in
      let le : bits ≤ w = p.bits_in in
      let twice = pow_twice bits some in
      record {
        prefixes = λ x t. c.prefixes x (Listed-append_right low high x t);
        from_start = above;
        before_end = λ x t. let lt : (key x).start < start + 2 ^ bits = c.before_end x (Listed-append_right low high x t) in omega arith;
        no_shorter = λ x t.
            let ge : w - bits ≤ (key x).len = c.no_shorter x (Listed-append_right low high x t) in
            let other : (key x).len ≡ len → ⊥ = longer x (subst (λ ys. Listed ys x) (sym whole) (Listed-append_right low high x t)) in
            elim (cases_order (key x).len len) [ inl same ↦ absurd (other same) | inr either ↦ elim either [ inl lt ↦ absurd (omega arith) | inr gt ↦ omega arith ] ];
        in_order = InOrder-right (λ x y. IsNoLater (key x) (key y)) low high c.in_order;
      }
