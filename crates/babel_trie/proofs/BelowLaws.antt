-- The boxes of a function that answers from a destination on what it answers there, beside those of
-- one that answers the same up to it.
use Rattle.std.proofs.Common.{◌≡◌, inl, inr, ℕ, ◌-◌, ◌^◌, ◌<◌, ◌≤◌, refl, sym, ◌∙◌, arith}
use Rattle.std.proofs.lemmas.Bool.{cases_lt}
use Rattle.std.proofs.Math.Pow.{shr_mono}
use Rattle.babel_prefix.specs.Block.{Block}
use Rattle.babel_prefix.specs.Covers.{BlockCovers, parent}
use Rattle.babel_prefix.specs.Best.{Row}
use Rattle.babel_prefix.proofs.BlockLaws.{parent_wider}
use Rattle.babel_trie.specs.Boxes.{Answers, IsUniform, IsBox}

-- what stands between two addresses of a block is in it
between : (w : ℕ) (b : Block) (low n high : ℕ) → low ≤ n → n ≤ high → BlockCovers w b low → BlockCovers w b high → BlockCovers w b n
between w b low n high from to in_low in_high =
    omega (arith, in_low, in_high, shr_mono {a = low} {b = n} (w - b.len) from, shr_mono {a = n} {b = high} (w - b.len) to)

module _ {V : Type 0} (w : ℕ) (f g : Answers V) (x : ℕ)
    (same : (d s : ℕ) → d ≤ x → s < 2 ^ w → g d s ≡ f d s)
    (still : (d s : ℕ) → x ≤ d → d < 2 ^ w → s < 2 ^ w → g d s ≡ f x s) where
  -- a destination of the block for which the other answers the same
  record Same (b : Block) (d : ℕ) : Type 0 where
    pub at : ℕ
    pub in_range : at < 2 ^ w
    pub in_block : BlockCovers w b at
    pub is : (s : ℕ) → s < 2 ^ w → g d s ≡ f at s

  same_at : (b : Block) (low d : ℕ) → low ≤ x → BlockCovers w b low → d < 2 ^ w → BlockCovers w b d → Same b d
  same_at b low d le in_low d_in in_b = elim (cases_lt x d) [
    | inl lt ↦ record { at = x; in_range = omega arith; in_block = between w b low x d le (omega arith) in_low in_b; is = λ s s_in. still d s (omega arith) d_in s_in }
    | inr ge ↦ record { at = d; in_range = d_in; in_block = in_b; is = λ s s_in. same d s ge s_in }
  ]

  -- a uniform block of the other with a destination up to it is uniform
  uniform_too : (b : Block) (low : ℕ) → low ≤ x → BlockCovers w b low → IsUniform w f b → IsUniform w g b
  uniform_too b low le in_low u d e s d_in e_in s_in cd ce =
      let here = same_at b low d le in_low d_in cd in
      let there = same_at b low e le in_low e_in ce in
      here.is s s_in ∙ u here.at there.at s here.in_range there.in_range s_in here.in_block there.in_block ∙ sym (there.is s s_in)

  -- a box whose destinations are below it is one of the other
  pub box_below : (box : Row V) → box.dst.start < x → ((d : ℕ) → d < 2 ^ w → BlockCovers w box.dst d → d < x) → IsBox w g box → IsBox w f box
  box_below box start_below below b =
      let is = λ (d s : ℕ) (d_in : d < 2 ^ w) (s_in : s < 2 ^ w) (cd : BlockCovers w box.dst d). same d s (omega (arith, below d d_in cd)) s_in in
      record {
        dst_is_prefix = b.dst_is_prefix;
        src_is_prefix = b.src_is_prefix;
        uniform = λ d e s d_in e_in s_in cd ce. sym (is d s d_in s_in cd) ∙ b.uniform d e s d_in e_in s_in cd ce ∙ is e s e_in s_in ce;
        dst_is_longest = λ some u. b.dst_is_longest some (uniform_too (parent w box.dst) box.dst.start (omega arith) (parent_wider w box.dst box.dst.start refl) u);
        constant = λ d d_in cd s t s_in t_in cs ct. sym (is d s d_in s_in cd) ∙ b.constant d d_in cd s t s_in t_in cs ct ∙ is d t d_in t_in cd;
        src_is_longest = λ d d_in cd some c. b.src_is_longest d d_in cd some (λ s t s_in t_in cs ct. is d s d_in s_in cd ∙ c s t s_in t_in cs ct ∙ sym (is d t d_in t_in cd));
        answered = λ d s d_in s_in cd cs. sym (is d s d_in s_in cd) ∙ b.answered d s d_in s_in cd cs;
      }
