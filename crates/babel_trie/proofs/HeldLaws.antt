-- What sources stand for.
use Rattle.std.proofs.Common.{◌≡◌, inl, inr, ℕ, zero, suc, ◌-◌, ◌%◌, ◌^◌, ◌<◌, cond, true, false, List, Option, None, refl, sym, ◌∙◌, ap, subst, arith}
use Rattle.babel_trie.specs.Held.{along, node_trie, trie_at, sources_at}
use Rattle.babel_trie.specs.Interned.{inner, Stands, Represents, HasTrie}
use Rattle.babel_trie.specs.Shape.{Shape, leaf, fork, is_low, height}
use Rattle.babel_trie.specs.declared.table.Loose.{Loose}
use Rattle.babel_trie.specs.declared.table.Loose.TheVariants.{Split}
use Rattle.babel_trie.specs.declared.table.Node.{Node}
use Rattle.babel_trie.specs.declared.table.Sources.{Sources}
use Rattle.babel_trie.specs.declared.table.Sources.TheVariants.{Constant, Stored}
use Rattle.babel_trie.proofs.NumberLaws.{inner-more, one_shape}

module _ {V : Type 0} (nodes : List (Node V)) (trie : Sources V → Shape V) where
  beside_inner : (node : Node V) (k path : ℕ) (inside : Shape V) → node.skip - 1 ≡ k → along k path (trie (inner node).outside) inside ≡ along k path (trie node.outside) inside
  beside_inner node zero path inside e = refl
  beside_inner node (suc k) path inside e = ap (λ (s : Sources V). along (suc k) path (trie s) inside) (inner-more node (λ one. omega arith))

  -- what a node stands for, by the tries of what it names
  along-stands : (t : Shape V) (node : Node V) → Stands nodes (Split node) t → ((s : Sources V) (u : Shape V) → Represents nodes s u → height u < height t → trie s ≡ u) →
      along node.skip node.path (trie node.outside) (fork (trie node.low) (trie node.high)) ≡ t
  along-stands (leaf v) node p known = absurd (cc)
  along-stands (fork low high) node (l, h, inl e, p, q) known =
      ap (λ k. along k node.path (trie node.outside) (fork (trie node.low) (trie node.high))) e.0
      ∙ ap (λ x. fork x (trie node.high)) (known node.low low (l, e.1, p) (omega arith)) ∙ ap (fork low) (known node.high high (h, e.2, q) (omega arith))
  along-stands (fork low high) node (l, h, inr (inl e), p, q) known =
      let k : ℕ = node.skip - 1 in
      let inside : Shape V = fork (trie node.low) (trie node.high) in
      let o : Shape V = trie node.outside in
      let rest : Shape V = along k (node.path % 2 ^ k) o inside in
      let next : node.skip ≡ suc k = omega (arith, e.0) in
      let first : is_low (suc k) node.path ≡ true = ap (λ n. is_low n node.path) (sym next) ∙ e.1 in
      let within = along-stands low (inner node) (subst (λ (x : Loose V). Stands nodes x low) e.2 p) (λ s u r lt. known s u r (omega arith)) in
      ap (λ n. along n node.path o inside) next ∙ ap (λ b. cond b (fork rest o) (fork o rest)) first
      ∙ ap (λ x. fork x o) (sym (beside_inner node k (node.path % 2 ^ k) inside refl) ∙ within) ∙ ap (fork low) (known node.outside high (h, e.3, q) (omega arith))
  along-stands (fork low high) node (l, h, inr (inr e), p, q) known =
      let k : ℕ = node.skip - 1 in
      let inside : Shape V = fork (trie node.low) (trie node.high) in
      let o : Shape V = trie node.outside in
      let rest : Shape V = along k (node.path % 2 ^ k) o inside in
      let next : node.skip ≡ suc k = omega (arith, e.0) in
      let first : is_low (suc k) node.path ≡ false = ap (λ n. is_low n node.path) (sym next) ∙ e.1 in
      let within = along-stands high (inner node) (subst (λ (x : Loose V). Stands nodes x high) e.3 q) (λ s u r lt. known s u r (omega arith)) in
      ap (λ n. along n node.path o inside) next ∙ ap (λ b. cond b (fork rest o) (fork o rest)) first
      ∙ ap (λ x. fork x rest) (known node.outside low (l, e.2, p) (omega arith)) ∙ ap (fork low) (sym (beside_inner node k (node.path % 2 ^ k) inside refl) ∙ within)

module _ {V : Type 0} where
  -- what sources stand for, as far down as it goes
  trie_at-stands : (other : V) (nodes : List (Node V)) (rest : ℕ) (s : Sources V) (t : Shape V) → Represents nodes s t → height t < rest → trie_at other nodes rest s ≡ t
  trie_at-stands other nodes zero s t p lt = absurd (omega arith)
  trie_at-stands other nodes (suc rest) (Constant v) t (x, is, p) lt = one_shape nodes x (leaf v) t is p
  trie_at-stands other nodes (suc rest) (Stored number) t (x, (node, at, is), p) lt =
      ap (node_trie other (trie_at other nodes rest)) at
      ∙ along-stands nodes (trie_at other nodes rest) t node (subst (λ (y : Loose V). Stands nodes y t) is p) (λ s u r less. trie_at-stands other nodes rest s u r (omega arith))

module _ {V : Type 0} where
  pub sources_at-stands : (w : ℕ) (nodes : List (Node (Option V))) (s : Sources (Option V)) → (h : HasTrie w nodes s) → sources_at w nodes s ≡ h.trie
  sources_at-stands w nodes s h = trie_at-stands None nodes (suc w) s h.trie h.stands (omega (arith, h.fits))
