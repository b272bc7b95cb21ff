-- The first difference of two tries, from those of their halves.
use Rattle.std.proofs.Common.{◌≡◌, ◌≢◌, inl, inr, ℕ, ◌+◌, ◌-◌, ◌*◌, ◌^◌, ◌<◌, ◌≤◌, List, sym, ◌∙◌, ap, subst, arith}
use Rattle.std.proofs.lemmas.Bool.{cases_lt}
use Rattle.std.proofs.Math.Pow.{pow_mono}
use Rattle.std.proofs.lemmas.Nat.{pow_pos}
use Rattle.babel_trie.specs.Boxes.{Answers, IsLeastDifference}
use Rattle.babel_trie.specs.Differs.{AgreeBelow, DifferFirst, DifferFirstAt}
use Rattle.babel_trie.specs.declared.table.Loose.{Loose}
use Rattle.babel_trie.specs.declared.table.Loose.TheVariants.{Same}
use Rattle.babel_trie.specs.Shape.{Shape, leaf, fork, height, value_at}
use Rattle.babel_trie.specs.Interned.{Stands, IsTrie, IsHalved}
use Rattle.babel_trie.specs.declared.table.Node.{Node}
use Rattle.babel_trie.proofs.BitLaws.{pow_twice}
use Rattle.babel_trie.proofs.NumberLaws.{one_shape}
use Rattle.babel_trie.proofs.Reduced.{value_at-low, value_at-high}

-- two tries of a block of some bits with their halves
pub record SideBySide {V U : Type 0} (bits : ℕ) (t low high : Shape V) (u low' high' : Shape U) : Type 1 where
  pub some : 0 < bits
  pub at_low : (R : V → U → Type 0) (a : ℕ) → a < 2 ^ (bits - 1) → R (value_at low (bits - 1) a) (value_at low' (bits - 1) a) → R (value_at t bits a) (value_at u bits a)
  pub at_high : (R : V → U → Type 0) (a : ℕ) → a < 2 ^ (bits - 1) → R (value_at high (bits - 1) a) (value_at high' (bits - 1) a) →
      R (value_at t bits (2 ^ (bits - 1) + a)) (value_at u bits (2 ^ (bits - 1) + a))

module _ {V U : Type 0} where
  pub side_by_side : (nodes : List (Node V)) (others : List (Node U)) (bits : ℕ) (t : Shape V) (u : Shape U) (l h : Loose V) (l' h' : Loose U) → height t ≤ bits → height u ≤ bits → 0 < bits →
      (p : IsHalved nodes t l h) → (q : IsHalved others u l' h') → SideBySide bits t p.low_half p.high_half u q.low_half q.high_half
  side_by_side nodes others bits t u l h l' h' fits fits' some p q =
      let m : ℕ = 2 ^ (bits - 1) in
      record {
        some = some;
        at_low = λ R a a_in r.
            subst (R (value_at t bits a)) (sym (value_at-low u q.low_half q.high_half q.halves bits a a_in))
            (subst (λ x. R x (value_at q.low_half (bits - 1) a)) (sym (value_at-low t p.low_half p.high_half p.halves bits a a_in)) r);
        at_high = λ R a a_in r.
            let e : 1 * m + a ≡ m + a = omega arith in
            let left = sym (ap (value_at t bits) e) ∙ value_at-high t p.low_half p.high_half p.halves bits a (omega (arith, p.high_lower)) a_in in
            let right = sym (ap (value_at u bits) e) ∙ value_at-high u q.low_half q.high_half q.halves bits a (omega (arith, q.high_lower)) a_in in
            subst (R (value_at t bits (m + a))) (sym right) (subst (λ x. R x (value_at q.high_half (bits - 1) a)) (sym left) r);
      }

  module _ {bits : ℕ} {t low high : Shape V} {u low' high' : Shape U} (s : SideBySide bits t low high u low' high') (R : V → U → Type 0) where
    -- what holds in both halves below a number of the upper one holds below it
    pub below_high : (n : ℕ) → n ≤ 2 ^ (bits - 1) → ((a : ℕ) → a < 2 ^ (bits - 1) → R (value_at low (bits - 1) a) (value_at low' (bits - 1) a)) →
        ((a : ℕ) → a < n → R (value_at high (bits - 1) a) (value_at high' (bits - 1) a)) → (a : ℕ) → a < 2 ^ (bits - 1) + n → R (value_at t bits a) (value_at u bits a)
    below_high n n_in in_low in_high a a_in =
        let m : ℕ = 2 ^ (bits - 1) in
        elim (cases_lt a m) [
          | inl lt ↦ s.at_low R a lt (in_low a lt)
          | inr ge ↦
              let b : ℕ = a - m in
              let e : m + b ≡ a = omega arith in
              let b_in : b < n = omega arith in
              subst (λ x. R (value_at t bits x) (value_at u bits x)) e (s.at_high R b (omega arith) (in_high b b_in))
        ]

    -- what holds in both halves holds in the block
    pub in_both : ((a : ℕ) → a < 2 ^ (bits - 1) → R (value_at low (bits - 1) a) (value_at low' (bits - 1) a)) →
        ((a : ℕ) → a < 2 ^ (bits - 1) → R (value_at high (bits - 1) a) (value_at high' (bits - 1) a)) → (a : ℕ) → a < 2 ^ bits → R (value_at t bits a) (value_at u bits a)
    in_both in_low in_high a a_in =
        let twice = pow_twice bits s.some in
        below_high (2 ^ (bits - 1)) (omega arith) in_low in_high a (omega arith)

-- values of one level
module _ {V : Type 0} {bits : ℕ} {t low high u low' high' : Shape V} (s : SideBySide bits t low high u low' high') where
  pub differ_low : (at : ℕ) → DifferFirst (2 ^ (bits - 1)) (value_at low (bits - 1)) (value_at low' (bits - 1)) at → DifferFirst (2 ^ bits) (value_at t bits) (value_at u bits) at
  differ_low at d =
      let twice = pow_twice bits s.some in
      let at_in : at < 2 ^ (bits - 1) = d.in_range in
      record {
        in_range = omega arith;
        differ = s.at_low (λ x y. x ≢ y) at at_in d.differ;
        agree_below = λ a lt. s.at_low (λ x y. x ≡ y) a (omega arith) (d.agree_below a lt);
      }

  pub differ_high : (at : ℕ) → AgreeBelow (2 ^ (bits - 1)) (value_at low (bits - 1)) (value_at low' (bits - 1)) →
      DifferFirst (2 ^ (bits - 1)) (value_at high (bits - 1)) (value_at high' (bits - 1)) at → DifferFirst (2 ^ bits) (value_at t bits) (value_at u bits) (2 ^ (bits - 1) + at)
  differ_high at in_low d =
      let twice = pow_twice bits s.some in
      let at_in : at < 2 ^ (bits - 1) = d.in_range in
      record {
        in_range = omega arith;
        differ = s.at_high (λ x y. x ≢ y) at at_in d.differ;
        agree_below = below_high s (λ x y. x ≡ y) at (omega arith) in_low d.agree_below;
      }

module _ {V : Type 0} where
  -- the halves of a reduced trie are reduced tries of one bit fewer
  pub halves_are_tries : (bits : ℕ) (nodes : List (Node V)) (n l h : Loose V) → (t : IsTrie bits nodes n) → 0 < bits → IsHalved nodes t.trie l h → IsTrie (bits - 1) nodes l × IsTrie (bits - 1) nodes h
  halves_are_tries bits nodes n l h t some p =
      let fits : height t.trie ≤ bits = t.fits in
      let both = p.reduced t.reduced in (
        record { trie = p.low_half; stands = p.low_stands; fits = omega (arith, p.low_lower); reduced = both.0 },
        record { trie = p.high_half; stands = p.high_stands; fits = omega (arith, p.high_lower); reduced = both.1 },
      )

  -- the height of whatever trie the sources stand for
  pub fits_any : (bits : ℕ) (nodes : List (Node V)) (n : Loose V) → IsTrie bits nodes n → (u : Shape V) → Stands nodes n u → height u ≤ bits
  fits_any bits nodes n t u p = subst (λ x. height x ≤ bits) (one_shape nodes n t.trie u t.stands p) t.fits

  -- the halves of two tries of which not both are leaves
  pub sides : {bits : ℕ} {nodes others : List (Node V)} {n m l h l' h' : Loose V} {t u : Shape V} → IsTrie bits nodes n → IsTrie bits others m
      → ((b : ℕ) → IsTrie b nodes n → IsTrie b others m → 0 < b) →
      Stands nodes n t → Stands others m u → (p : IsHalved nodes t l h) → (q : IsHalved others u l' h') → SideBySide bits t p.low_half p.high_half u q.low_half q.high_half
  sides {bits} {nodes} {others} {n} {m} {l} {h} {l'} {h'} {t} {u} own theirs some stands stands' p q =
      side_by_side nodes others bits t u l h l' h' (fits_any bits nodes n own t stands) (fits_any bits others m theirs u stands') (some bits own theirs) p q

  -- where there is no constant some bit is left
  pub some_without_leaf : (bits : ℕ) (nodes : List (Node V)) (n : Loose V) → ((v : V) → n ≡ Same v → ⊥) → IsTrie bits nodes n → 0 < bits
  some_without_leaf bits nodes n none h = by h.trie h.stands h.fits
    where
      by : (t : Shape V) → Stands nodes n t → height t ≤ bits → 0 < bits
      by (leaf v) p fits = absurd (none v p)
      by (fork l k) p fits = omega arith

-- an address of a block of at most 128 bits fits
pub in_width : (bits at : ℕ) → 0 < bits → bits ≤ 128 → at < 2 ^ (bits - 1) → 2 ^ (bits - 1) + at < 2 ^ 128
in_width bits at some width half = omega (arith, pow_twice bits some, pow_mono {i = bits} {j = 128} width)

module _ {V : Type 0} (nodes others : List (Node V)) (n m : Loose V) (bits : ℕ) (v w : V) (p : Stands nodes n (leaf v)) (q : Stands others m (leaf w)) (t u : Shape V)
    (stands : Stands nodes n t) (stands' : Stands others m u) where
  pub agree_at_leaves : v ≡ w → AgreeBelow (2 ^ bits) (value_at t bits) (value_at u bits)
  agree_at_leaves e a a_in =
      ap (λ x. value_at x bits a) (one_shape nodes n t (leaf v) stands p) ∙ e ∙ ap (λ x. value_at x bits a) (one_shape others m (leaf w) u q stands')

  pub differ_at_leaves : v ≢ w → DifferFirst (2 ^ bits) (value_at t bits) (value_at u bits) 0
  differ_at_leaves apart =
      let left : value_at t bits 0 ≡ v = ap (λ x. value_at x bits 0) (one_shape nodes n t (leaf v) stands p) in
      let right : value_at u bits 0 ≡ w = ap (λ x. value_at x bits 0) (one_shape others m u (leaf w) stands' q) in
      record { in_range = pow_pos bits; differ = λ e. apart (sym left ∙ e ∙ right); agree_below = λ a none. absurd (omega arith) }

-- in one table sources stand for one trie
module _ {V : Type 0} where
  pub same_trie : (nodes others : List (Node V)) (n m : Loose V) (t u : Shape V) → nodes ≡ others → n ≡ m → Stands nodes n t → Stands others m u → t ≡ u
  same_trie nodes others n m t u one same p q =
      one_shape others m t u (subst (λ k. Stands others k t) same (subst (λ ns. Stands ns n t) one p)) q

  pub agree_in_one : (nodes others : List (Node V)) (n m : Loose V) (bits : ℕ) (t u : Shape V) → nodes ≡ others → n ≡ m → Stands nodes n t
      → Stands others m u → AgreeBelow (2 ^ bits) (value_at t bits) (value_at u bits)
  agree_in_one nodes others n m bits t u one same p q a a_in = ap (λ x. value_at x bits a) (same_trie nodes others n m t u one same p q)

-- the first pair by destination, then source, is the least
pub least_from_first : {V : Type 0} (w : ℕ) (f g : Answers V) (at : ℕ × ℕ) → DifferFirstAt (2 ^ w) (2 ^ w) f g at → IsLeastDifference w f g at.0 at.1
least_from_first w f g at d =
    record {
      dst_in_range = d.in_range;
      src_in_range = d.differ.in_range;
      differs = d.differ.differ;
      same_below = λ x s x_in s_in below. elim below [
        | inl lt ↦ d.agree_below x lt s s_in
        | inr same ↦ subst (λ y. f y s ≡ g y s) (sym same.0) (d.differ.agree_below s same.1)
      ];
    }
