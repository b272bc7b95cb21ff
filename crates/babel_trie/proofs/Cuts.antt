-- A range, cut block by block.
use Rattle.std.proofs.Common.{◌≡◌, inl, inr, ℕ, ◌+◌, ◌^◌, ◌<◌, ◌≤◌, List, [], ◌∷◌, ◌++◌, refl, sym, subst, arith}
use Rattle.std.proofs.lemmas.Bool.{cases_lt}
use Rattle.babel_prefix.specs.Block.{Block}
use Rattle.babel_prefix.specs.Covers.{BlockCovers, IsBlock}
use Rattle.std.proofs.lemmas.Nat.{pow_pos}
use Rattle.babel_prefix.proofs.Members.{Listed, Listed-from_Contains, Contains-from_Listed, Listed-append_left, Listed-append_right, Listed-append_cases}
use Rattle.babel_trie.proofs.Lists.{InOrder, InOrder-append, AllPairs-from_order}
use Rattle.babel_trie.specs.Cut.{block_from, IsLargestIn, IsLargestFit, AreLargestIn, StartsBefore}
use Rattle.babel_trie.proofs.Ranges.{size, range_covers, start_covered, largest_same}
use Rattle.babel_trie.proofs.Fits.{NoneCrosses, none_crosses_first, none_crosses_next, fit_is_block, fit_size, fit_is_largest}

-- the blocks so far: largest ones, in order, that cover the range up to an address that no block crosses
pub record IsCutTo (w from last at : ℕ) (blocks : List Block) : Type 0 where
  pub in_order : InOrder StartsBefore blocks
  pub largest : (b : Block) → Listed blocks b → IsLargestIn w from last b
  pub below : (b : Block) → Listed blocks b → b.start < at
  pub covered : (a : ℕ) → from ≤ a → a < at → (b : Block) × Listed blocks b × BlockCovers w b a
  pub none_crosses : NoneCrosses from last at

pub nothing_cut : (w from last : ℕ) → IsCutTo w from last from []
nothing_cut w from last =
    record {
      in_order = tt;
      largest = λ b t. elim t [ ];
      below = λ b t. elim t [ ];
      covered = λ a low high. absurd (omega arith);
      none_crosses = none_crosses_first from last;
    }

-- one block more
pub one_more_cut : (w from last at bits : ℕ) (blocks : List Block) → from ≤ at → at ≤ last → last < 2 ^ w → IsLargestFit at last bits →
    IsCutTo w from last at blocks → IsCutTo w from last (at + 2 ^ bits) (blocks ++ block_from w at bits ∷ [])
one_more_cut w from last at bits blocks low at_in last_in fit cut =
    let b : Block = block_from w at bits in
    let is : IsBlock w b = fit_is_block w at last bits at_in last_in fit in
    let n : size w b ≡ 2 ^ bits = fit_size w at last bits last_in fit in
    let here : IsLargestIn w from last b = fit_is_largest w from last at bits low at_in last_in cut.none_crosses fit in
    record {
      in_order = InOrder-append StartsBefore blocks (b ∷ []) cut.in_order ((λ y t. elim t [ ]), tt)
          (λ x y s t. elim t [ inl e ↦ subst (λ (z : Block). x.start < z.start) e (cut.below x s) | inr none ↦ elim none [ ] ]);
      largest = λ x t. elim (Listed-append_cases blocks (b ∷ []) x t) [
        | inl s ↦ cut.largest x s
        | inr s ↦ elim s [ inl e ↦ subst (IsLargestIn w from last) e here | inr none ↦ elim none [ ] ]
      ];
      below = λ x t. elim (Listed-append_cases blocks (b ∷ []) x t) [
        | inl s ↦ let lt : x.start < at = cut.below x s in omega arith
        | inr s ↦ elim s [ inl e ↦ subst (λ (z : Block). z.start < at + 2 ^ bits) e (omega (arith, pow_pos bits)) | inr none ↦ elim none [ ] ]
      ];
      covered = λ a from_a a_in. elim (cases_lt a at) [
        | inl before ↦ let c = cut.covered a from_a before in (c.0, Listed-append_left blocks (b ∷ []) c.0 c.1, c.2)
        | inr after ↦ (b, Listed-append_right blocks (b ∷ []) b (inl refl), range_covers w b a is after (omega arith))
      ];
      none_crosses = none_crosses_next from last at bits fit cut.none_crosses;
    }

-- the same, by the last address of the block
pub cut_to : (w from last at bits end : ℕ) (blocks : List Block) → from ≤ at → at ≤ last → last < 2 ^ w → IsLargestFit at last bits → end + 1 ≡ at + 2 ^ bits →
    IsCutTo w from last at blocks → IsCutTo w from last (end + 1) (blocks ++ block_from w at bits ∷ [])
cut_to w from last at bits end blocks low at_in last_in fit e cut =
    subst (λ (n : ℕ). IsCutTo w from last n (blocks ++ block_from w at bits ∷ [])) (sym e) (one_more_cut w from last at bits blocks low at_in last_in fit cut)

-- largest blocks in order that cover the range are all of them
pub largest_from_cover : (w from last : ℕ) (blocks : List Block) → InOrder StartsBefore blocks → ((b : Block) → Listed blocks b → IsLargestIn w from last b) →
    ((a : ℕ) → from ≤ a → a ≤ last → (b : Block) × Listed blocks b × BlockCovers w b a) → AreLargestIn w from last blocks
largest_from_cover w from last blocks in_order largest covered =
    record {
      in_order = AllPairs-from_order StartsBefore blocks in_order;
      exact = λ b. (
        λ t. largest b (Listed-from_Contains blocks b t),
        λ is.
            let first = is.inside b.start is.is_prefix.start_in_range (start_covered w b) in
            let c = covered b.start first.0 first.1 in
            let same : c.0 ≡ b = largest_same w from last c.0 b b.start (largest c.0 c.1) is c.2 (start_covered w b) in
            Contains-from_Listed blocks b (subst (Listed blocks) same c.1),
      );
    }

-- a whole cut has each largest block
pub whole_cut : (w from last : ℕ) (blocks : List Block) → IsCutTo w from last (last + 1) blocks → AreLargestIn w from last blocks
whole_cut w from last blocks cut = largest_from_cover w from last blocks cut.in_order cut.largest (λ a low high. cut.covered a low (omega arith))

pub cut_whole : (w from last end : ℕ) (blocks : List Block) → end ≡ last → IsCutTo w from last (end + 1) blocks → AreLargestIn w from last blocks
cut_whole w from last end blocks e cut = whole_cut w from last blocks (subst (λ (n : ℕ). IsCutTo w from last (n + 1) blocks) e cut)
