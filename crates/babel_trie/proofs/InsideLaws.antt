-- The trie that the first bits before a node's block lead to.
use Rattle.std.proofs.Common.{◌≡◌, inl, inr, ℕ, zero, suc, ◌+◌, ◌-◌, ◌/◌, ◌%◌, ◌^◌, ◌<◌, ◌≤◌, cond, Bool, true, false, ◌==◌, List, refl, sym, ◌∙◌, ap, subst, arith}
use Rattle.std.proofs.lemmas.Bool.{cases_order}
use Rattle.std.proofs.lemmas.Nat.{shr-shr}
use Rattle.std.proofs.Math.Pow.{mod-mod-pow}
use Rattle.babel_trie.specs.Held.{along}
use Rattle.babel_trie.specs.Inner.{IsInside}
use Rattle.babel_trie.specs.Interned.{Opens, Stands, further, HaveHalves, IsNormal}
use Rattle.babel_trie.specs.Shape.{Shape, leaf, fork, is_low, height, value_at, IsReduced}
use Rattle.babel_trie.specs.declared.table.Loose.{Loose}
use Rattle.babel_trie.specs.declared.table.Loose.TheVariants.{Same, Split}
use Rattle.babel_trie.specs.declared.table.Node.{Node}
use Rattle.babel_trie.specs.declared.table.Sources.{Sources}
use Rattle.babel_trie.specs.declared.table.Sources.TheVariants.{Constant}
use Rattle.babel_trie.proofs.AlongLaws.{along-last, along-same}
use Rattle.babel_trie.proofs.NumberLaws.{inner-normal, inner-last, node_is, one_shape}
use Rattle.babel_trie.proofs.PathLaws.{further-skip, further-low, further-high, further-outside, further-first}

module _ {V : Type 0} where
  further-path : (k : ℕ) (node : Node V) → (further (suc k) node).path ≡ node.path % 2 ^ (node.skip - suc k)
  further-path zero node = refl
  further-path (suc k) node =
      let few : (further (suc k) node).skip - 1 ≡ node.skip - suc (suc k) = omega (arith, further-skip (suc k) node) in
      ap (λ n. (further (suc k) node).path % 2 ^ n) few ∙ ap (λ p. p % 2 ^ (node.skip - suc (suc k))) (further-path k node)
      ∙ shorter node.path (node.skip - suc k) (node.skip - suc (suc k)) (omega arith)
    where
      shorter : (p c b : ℕ) → b ≤ c → p % 2 ^ c % 2 ^ b ≡ p % 2 ^ b
      shorter p c b le = ap (λ n. p % 2 ^ n % 2 ^ b) {x = c} {y = c - b + b} (omega arith) ∙ mod-mod-pow p (c - b) b

  -- the node from some bits further on its path, by its fields
  pub further-is : (k : ℕ) (node m : Node V) → 0 < k → k ≤ node.skip → m.skip ≡ node.skip - k → m.path ≡ node.path % 2 ^ (node.skip - k) →
      (node.skip - k ≡ 0 → m.outside ≡ node.low) → ((node.skip - k ≡ 0 → ⊥) → m.outside ≡ node.outside) → m.low ≡ node.low → m.high ≡ node.high → m ≡ further k node
  further-is zero node m some le skip path last more low high = absurd (omega arith)
  further-is (suc k) node m some le skip path last more low high =
      node_is m (further (suc k) node) (skip ∙ sym (further-skip (suc k) node)) (path ∙ sym (further-path k node)) outside
      (low ∙ sym (further-low (suc k) node)) (high ∙ sym (further-high (suc k) node))
    where
      outside : m.outside ≡ (further (suc k) node).outside
      outside = elim (cases_order (node.skip - suc k) 0) [
        | inl none ↦ last none ∙ sym (inner-last (further k node) (omega (arith, further-skip k node, none)) ∙ further-low k node)
        | inr either ↦ elim either [
          | inl lt ↦ absurd (omega arith)
          | inr left ↦ more (λ none. omega arith) ∙ sym (further-outside (suc k) node (omega arith))
        ]
      ]

module _ {V : Type 0} (nodes : List (Node V)) where
  -- one value is the same in each block
  pub same_inside : (x : Loose V) (v : V) (skip path : ℕ) (t : Shape V) → x ≡ Same v → Stands nodes x t → IsInside nodes x skip path v t
  same_inside x v skip path t is p =
      let t_is : leaf v ≡ t = one_shape nodes x (leaf v) t is p in
      subst (IsInside nodes x skip path v) t_is (record {
        inside = leaf v;
        stands = is;
        values = λ bits a. sym (along-same v skip path bits a);
        lower = λ n fits. omega arith;
        reduced = λ r. r;
      })

  -- a node in its one form is so further on its path
  pub further-normal : (passed : ℕ) (node : Node V) → passed ≤ node.skip → IsNormal nodes node → IsNormal nodes (further passed node)
  further-normal zero node le n = n
  further-normal (suc k) node le n = inner-normal nodes (further k node) (omega (arith, further-skip k node)) (further-normal k node (omega arith) n)

  module _ (node : Node V) (v : V) (beside : node.outside ≡ Constant v) (u : Shape V) where
    -- a trie along so many bits of the node's path, with the value beside it
    pub record IsPast (passed : ℕ) : Type 0 where
      pub inside : Shape V
      pub stands : Stands nodes (Split (further passed node)) inside
      pub whole : u ≡ along passed (node.path / 2 ^ (node.skip - passed)) (leaf v) inside
      pub lower : height inside + passed ≤ height u
      pub reduced : IsReduced u → IsReduced inside

    module _ (k : ℕ) (more : k < node.skip) (inside : Shape V) (whole : u ≡ along k (node.path / 2 ^ (node.skip - k)) (leaf v) inside)
        (lower : height inside + k ≤ height u) (reduced : IsReduced u → IsReduced inside) where
      -- the bits with one more
      abbrev bits_passed : ℕ
      bits_passed = node.path / 2 ^ (node.skip - suc k)

      bits-before : bits_passed / 2 ≡ node.path / 2 ^ (node.skip - k)
      bits-before =
          shr-shr node.path (node.skip - suc k) 1 ∙ ap (λ n. node.path / 2 ^ n) {x = node.skip - suc k + 1} {y = node.skip - k} (omega (arith, more))

      bit-last : is_low 1 bits_passed ≡ is_low (further k node).skip (further k node).path
      bit-last =
          let all : bits_passed / 1 ≡ bits_passed = omega arith in
          let less : node.skip - suc k ≡ node.skip - k - 1 = omega arith in
          ap (λ n. n % 2 == 0) (all ∙ ap (λ n. node.path / 2 ^ n) less) ∙ sym (further-first k node more)

      constant : (x : Loose V) (t : Shape V) → Opens nodes (further k node).outside x → Stands nodes x t → t ≡ leaf v
      constant x t o p =
          let is : x ≡ Same v = subst (λ (s : Sources V). Opens nodes s x) (further-outside k node more ∙ beside) o in
          one_shape nodes x t (leaf v) p is

      longer : (b : Bool) (t : Shape V) → is_low 1 bits_passed ≡ b → inside ≡ cond b (fork t (leaf v)) (fork (leaf v) t) → u ≡ along (suc k) bits_passed (leaf v) t
      longer b t bit is =
          whole ∙ ap (along k (node.path / 2 ^ (node.skip - k)) (leaf v)) (is ∙ ap (λ c. cond c (fork t (leaf v)) (fork (leaf v) t)) (sym bit))
          ∙ ap (λ n. along k n (leaf v) (along 1 bits_passed (leaf v) t)) (sym bits-before) ∙ sym (along-last (leaf v) k bits_passed t)

      step : (low high : Shape V) (l h : Loose V) → inside ≡ fork low high → HaveHalves nodes (further k node) l h → Stands nodes l low → Stands nodes h high → IsPast (suc k)
      step low high l h is (inl e) p q = absurd (omega (arith, e.0, further-skip k node, more))
      step low high l h is (inr (inl e)) p q = record {
        inside = low;
        stands = subst (λ (x : Loose V). Stands nodes x low) e.2 p;
        whole = longer true low (bit-last ∙ e.1) (is ∙ ap (fork low) (constant h high e.3 q));
        lower = omega (arith, lower, ap height is);
        reduced = λ r. (subst IsReduced is (reduced r)).1;
      }
      step low high l h is (inr (inr e)) p q = record {
        inside = high;
        stands = subst (λ (x : Loose V). Stands nodes x high) e.3 q;
        whole = longer false high (bit-last ∙ e.1) (is ∙ ap (λ t. fork t high) (constant l low e.2 p));
        lower = omega (arith, lower, ap height is);
        reduced = λ r. (subst IsReduced is (reduced r)).2;
      }

      next : (t : Shape V) → inside ≡ t → Stands nodes (Split (further k node)) t → IsPast (suc k)
      next (leaf w) is p = absurd (cc)
      next (fork low high) is p = step low high p.0 p.1 is p.2 p.3 p.4

    pub past : (passed : ℕ) → passed ≤ node.skip → Stands nodes (Split node) u → IsPast passed
    past zero le p = record { inside = u; stands = p; whole = refl; lower = omega arith; reduced = λ r. r }
    past (suc k) le p =
        let rest = past k (omega arith) p in
        next k (omega arith) rest.inside rest.whole rest.lower rest.reduced rest.inside refl rest.stands

    pub past_inside : (passed path : ℕ) → passed ≤ node.skip → path ≡ node.path / 2 ^ (node.skip - passed) → Stands nodes (Split node) u → IsInside nodes (Split (further passed node)) passed path v u
    past_inside passed path le is p =
        let rest = past passed le p in
        record {
          inside = rest.inside;
          stands = rest.stands;
          values = λ bits a. ap (λ t. value_at t bits a) (rest.whole ∙ ap (λ n. along passed n (leaf v) rest.inside) (sym is));
          lower = λ n fits. omega (arith, rest.lower, fits);
          reduced = rest.reduced;
        }
