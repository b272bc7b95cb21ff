-- What tells two tries apart, from what tells their halves apart.
use Rattle.std.proofs.Common.{◌≡◌, ℕ, ◌-◌, ◌<◌, ◌≤◌, Bool, true, false, cond, List, Option, Some, None, refl, sym, ◌∙◌, ap, subst, arith}
use Rattle.std.specs.Option.{option_cmp}
use Rattle.std.specs.Ordering.{ordering_then}
use Rattle.std.specs.declared.cmp.Ordering.{Ordering}
use Rattle.babel_trie.specs.Differences.{TellsApart}
use Rattle.babel_trie.specs.Interned.{Stands, IsHalved, IsJoined}
use Rattle.babel_trie.specs.Shape.{Shape, leaf, value_at, height, is_low}
use Rattle.babel_trie.specs.Told.{TellsTriesApart, IsTold}
use Rattle.babel_trie.specs.declared.differing.Differing.{Differing}
use Rattle.babel_trie.specs.declared.table.Loose.{Loose}
use Rattle.babel_trie.specs.declared.table.Loose.TheVariants.{Same}
use Rattle.babel_trie.specs.declared.table.Node.{Node}
use Rattle.babel_trie.proofs.NumberLaws.{one_shape}

-- two answers, by the first and then by the second
abbrev pub differing_cmp : {V : Type 0} → (V → V → Ordering) → Differing V → Differing V → Ordering
differing_cmp cmp a b = ordering_then (option_cmp cmp a.left b.left) (option_cmp cmp a.right b.right)

module _ {V : Type 0} where
  -- two answers are told apart in one way
  pub one_told : (left right : Option V) (x y : Option (Differing V)) → TellsApart left right x → TellsApart left right y → x ≡ y
  one_told left right None None p q = refl
  one_told left right None (Some both) p q = absurd (q.0 p)
  one_told left right (Some both) None p q = absurd (p.0 q)
  one_told left right (Some both) (Some other) p q =
      ap (λ (l : Option V). let d : Differing V = record { left = l; right = both.right } in Some d) (p.1 ∙ sym q.1)
      ∙ ap (λ (r : Option V). let d : Differing V = record { left = other.left; right = r } in Some d) (p.2 ∙ sym q.2)

  -- one trie is told apart from itself by nothing
  pub told_one : (nodes : List (Node (Option V))) (differing : List (Node (Option (Differing V)))) (left right : Loose (Option V)) → left ≡ right → IsTold nodes left right differing (Same None)
  told_one nodes differing left right e t u p q =
      let same : t ≡ u = one_shape nodes right t u (subst (λ x. Stands nodes x t) e p) q in (
        leaf None,
        refl,
        record {
          values = λ bits a. ap (λ s. value_at s bits a) same;
          fits = λ bits _ _. omega arith;
          reduced = tt;
        },
      )

  -- two tries of one value each are told apart as their values are
  pub told_same : (nodes : List (Node (Option V))) (differing : List (Node (Option (Differing V)))) (left right : Loose (Option V)) (l r : Option V)
      (x : Option (Differing V)) → left ≡ Same l → right ≡ Same r → TellsApart l r x →
      IsTold nodes left right differing (Same x)
  told_same nodes differing left right l r x e f told t u p q =
      let t_is : leaf l ≡ t = one_shape nodes left (leaf l) t e p in
      let u_is : leaf r ≡ u = one_shape nodes right (leaf r) u f q in (
        leaf x,
        refl,
        record {
          values = λ bits a. subst (λ s. TellsApart (value_at s bits a) (value_at u bits a) x) t_is (subst (λ s. TellsApart l (value_at s bits a) x) u_is told);
          fits = λ bits _ _. omega arith;
          reduced = tt;
        },
      )

  -- of two halves each, those that a bit names
  told_half : (b : Bool) (l r l' r' : Option V) (x x' : Option (Differing V)) → TellsApart l r x → TellsApart l' r' x' → TellsApart (cond b l l') (cond b r r') (cond b x x')
  told_half true l r l' r' x x' low high = low
  told_half false l r l' r' x x' low high = high

  -- two tries are told apart by the trie that has for halves what tells theirs apart
  pub told_halves : (nodes : List (Node (Option V))) (differing : List (Node (Option (Differing V))))
      (left right left_low left_high right_low right_high : Loose (Option V)) (x : Loose (Option (Differing V))) (t u : Shape (Option V))
      (low high : Shape (Option (Differing V))) → (p : IsHalved nodes t left_low left_high) → (q : IsHalved nodes u right_low right_high) →
      ((bits : ℕ) → height t ≤ bits → height u ≤ bits → 0 < bits) →
      TellsTriesApart p.low_half q.low_half low → TellsTriesApart p.high_half q.high_half high → IsJoined differing x low high →
      (told : Shape (Option (Differing V))) × Stands differing x told × TellsTriesApart t u told
  told_halves nodes differing left right left_low left_high right_low right_high x t u low high p q some in_low in_high joined = (
    joined.whole,
    joined.stands,
    record {
      values = λ bits a.
          let b = is_low bits a in
          let half = told_half b (value_at p.low_half (bits - 1) a) (value_at q.low_half (bits - 1) a) (value_at p.high_half (bits - 1) a)
          (value_at q.high_half (bits - 1) a) (value_at low (bits - 1) a) (value_at high (bits - 1) a)
          (in_low.values (bits - 1) a) (in_high.values (bits - 1) a) in
          subst (λ v. TellsApart v (value_at u bits a) (value_at joined.whole bits a)) (sym (p.halves.values bits a))
          (subst (λ v. TellsApart (cond b (value_at p.low_half (bits - 1) a) (value_at p.high_half (bits - 1) a)) v (value_at joined.whole bits a)) (sym (q.halves.values bits a))
          (subst (λ v. TellsApart (cond b (value_at p.low_half (bits - 1) a) (value_at p.high_half (bits - 1) a))
          (cond b (value_at q.low_half (bits - 1) a) (value_at q.high_half (bits - 1) a)) v) (sym (joined.halves.values bits a)) half));
      fits = λ bits t_in u_in.
          let positive = some bits t_in u_in in
          let low_in = in_low.fits (bits - 1) (omega (arith, p.low_lower, t_in)) (omega (arith, q.low_lower, u_in)) in
          let high_in = in_high.fits (bits - 1) (omega (arith, p.high_lower, t_in)) (omega (arith, q.high_lower, u_in)) in
          omega (arith, joined.lower, low_in, high_in, positive);
      reduced = joined.reduced in_low.reduced in_high.reduced;
    },
  )
