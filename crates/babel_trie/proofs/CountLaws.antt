-- Counts of leaves with a value, one node after another.
use Rattle.std.proofs.Common.{◌≡◌, inl, inr, ℕ, zero, suc, ◌+◌, ◌-◌, ◌*◌, ◌<◌, List, [], ◌∷◌, ◌++◌, length, get_or, Option, Some, None, refl, sym, ◌∙◌, ap, arith, Bool, true, false, cond, ◌==◌, subst}
use Rattle.std.specs.List.{slice_get}
use Rattle.std.proofs.lemmas.Bool.{cases_lt}
use Rattle.babel_prefix.specs.Block.{Block}
use Rattle.babel_trie.specs.Counts.{capped, value_count, sources_count, node_count, AreCounted}
use Rattle.babel_trie.specs.Nested.{leaves, rows_at}
use Rattle.babel_trie.specs.Shape.{Shape, leaf, fork}
use Rattle.babel_trie.specs.Interned.{inner, Stands, Represents}
use Rattle.babel_trie.specs.declared.table.Loose.{Loose}
use Rattle.babel_trie.specs.declared.table.Loose.TheVariants.{Split}
use Rattle.std.proofs.Math.Nat.{zero-mul}
use Rattle.babel_trie.specs.Sound.{IsBelow, HasHalvesBelow}
use Rattle.babel_trie.specs.declared.table.Node.{Node}
use Rattle.babel_trie.specs.declared.table.Sources.{Sources}
use Rattle.babel_trie.specs.declared.table.Sources.TheVariants.{Constant, Stored}
use Rattle.babel_trie.proofs.NumberLaws.{inner-more, one_shape}
use Rattle.babel_trie.proofs.ListLaws.{rows_at-count}

length_more : {X : Type 0} (xs : List X) (x : X) → length (xs ++ x ∷ []) ≡ suc (length xs)
length_more [] x = refl
length_more (y ∷ ys) x = ap suc (length_more ys x)

get_or-before : {X : Type 0} (xs : List X) (x : X) (i : ℕ) (d : X) → i < length xs → get_or (xs ++ x ∷ []) i d ≡ get_or xs i d
get_or-before [] x i d i_in = absurd (omega arith)
get_or-before (y ∷ ys) x zero d i_in = refl
get_or-before (y ∷ ys) x (suc i) d i_in = get_or-before ys x i d (omega arith)

get_or-last : {X : Type 0} (xs : List X) (x : X) (d : X) → get_or (xs ++ x ∷ []) (length xs) d ≡ x
get_or-last [] x d = refl
get_or-last (y ∷ ys) x d = get_or-last ys x d

module _ {V : Type 0} where
  -- a trie has as many rows as leaves with a value
  pub rows_at-values : (dst : Block) (w bits k : ℕ) (t : Shape (Option V)) → length (rows_at dst (leaves w bits k t)) ≡ value_count t
  rows_at-values dst w bits k (leaf None) = refl
  rows_at-values dst w bits k (leaf (Some v)) = refl
  rows_at-values dst w bits k (fork low high) =
      let sum = rows_at-count dst w bits k (fork low high) low high refl in
      let l = rows_at-values dst w (bits - 1) (k * 2) low in
      let h = rows_at-values dst w (bits - 1) (k * 2 + 1) high in
      sym sum ∙ ap (λ n. n + length (rows_at dst (leaves w (bits - 1) (k * 2 + 1) high))) l ∙ ap (λ n. value_count low + n) h

  inner-below : (n : ℕ) (node : Node (Option V)) → HasHalvesBelow n node → HasHalvesBelow n (inner node)
  inner-below n node p = (by (node.skip == 1), p.1, p.2)
    where
      by : (b : Bool) → IsBelow n (cond b node.low node.outside)
      by true = p.1
      by false = p.0

  beside_count : (counts : List ℕ) (node : Node (Option V)) (k : ℕ) → node.skip - 1 ≡ k → k * sources_count counts (inner node).outside ≡ k * sources_count counts node.outside
  beside_count counts node zero e = zero-mul (sources_count counts (inner node).outside) ∙ sym (zero-mul (sources_count counts node.outside))
  beside_count counts node (suc k) e = ap (λ (s : Sources (Option V)). suc k * sources_count counts s) (inner-more node (λ one. omega arith))

  -- a node's count, from those of what it names
  node_counted : (nodes : List (Node (Option V))) (n : ℕ) (counts : List ℕ) → AreCounted nodes n counts
      → (t : Shape (Option V)) (node : Node (Option V)) → HasHalvesBelow n node → Stands nodes (Split node) t →
      node_count counts node ≡ capped (value_count t)
  node_counted nodes n counts c (leaf v) node lower p = absurd (cc)
  node_counted nodes n counts c (fork low high) node lower (l, h, inl e, p, q) =
      let none : node.skip * sources_count counts node.outside ≡ 0 = ap (λ k. k * sources_count counts node.outside) e.0 ∙ zero-mul (sources_count counts node.outside) in
      let low_is = c.each node.low low lower.1 (l, e.1, p) in
      let high_is = c.each node.high high lower.2 (h, e.2, q) in
      omega (arith, none, low_is, high_is)
  node_counted nodes n counts c (fork low high) node lower (l, h, inr (inl e), p, q) =
      let k : ℕ = node.skip - 1 in
      let o : ℕ = sources_count counts node.outside in
      let within = node_counted nodes n counts c low (inner node) (inner-below n node lower) (subst (λ (x : Loose (Option V)). Stands nodes x low) e.2 p) in
      let same = beside_count counts node k refl in
      let beside = c.each node.outside high lower.0 (h, e.3, q) in
      let more : node.skip * o ≡ k * o + o = ap (λ j. j * o) (let next : node.skip ≡ k + 1 = omega (arith, e.0) in next) ∙ omega arith in
      omega (arith, within, same, beside, more)
  node_counted nodes n counts c (fork low high) node lower (l, h, inr (inr e), p, q) =
      let k : ℕ = node.skip - 1 in
      let o : ℕ = sources_count counts node.outside in
      let within = node_counted nodes n counts c high (inner node) (inner-below n node lower) (subst (λ (x : Loose (Option V)). Stands nodes x high) e.3 q) in
      let same = beside_count counts node k refl in
      let beside = c.each node.outside low lower.0 (l, e.2, p) in
      let more : node.skip * o ≡ k * o + o = ap (λ j. j * o) (let next : node.skip ≡ k + 1 = omega (arith, e.0) in next) ∙ omega arith in
      omega (arith, within, same, beside, more)

  -- before any node is counted
  pub counted_none : (nodes : List (Node (Option V))) → AreCounted nodes 0 []
  counted_none nodes = record { len = refl; each = by }
    where
      by : (s : Sources (Option V)) (t : Shape (Option V)) → IsBelow 0 s → Represents nodes s t → sources_count [] s ≡ capped (value_count t)
      by (Constant None) t s_in p = omega arith ∙ ap (λ u. capped (value_count u)) (one_shape nodes p.0 (leaf None) t p.1 p.2)
      by (Constant (Some v)) t s_in p = omega arith ∙ ap (λ u. capped (value_count u)) (one_shape nodes p.0 (leaf (Some v)) t p.1 p.2)
      by (Stored number) t s_in p = absurd (omega arith)

  -- and so on to the next node
  pub counted_more : (nodes : List (Node (Option V))) (n : ℕ) (counts : List ℕ) (node : Node (Option V)) → AreCounted nodes n counts → HasHalvesBelow n node → slice_get nodes n ≡ Some node →
      AreCounted nodes (n + 1) (counts ++ node_count counts node ∷ [])
  counted_more nodes n counts node c lower at =
      let len : length counts ≡ n = c.len in
      record {
        len = length_more counts (node_count counts node) ∙ omega arith;
        each = by;
      }
    where
      by : (s : Sources (Option V)) (t : Shape (Option V)) → IsBelow (n + 1) s → Represents nodes s t → sources_count (counts ++ node_count counts node ∷ []) s ≡ capped (value_count t)
      by (Constant None) t s_in p = c.each (Constant None) t tt p
      by (Constant (Some v)) t s_in p = c.each (Constant (Some v)) t tt p
      by (Stored number) t s_in p =
          let i = number.0 in
          let len : length counts ≡ n = c.len in
          elim (cases_lt i n) [
            | inl lt ↦ get_or-before counts (node_count counts node) i 0 (omega arith) ∙ c.each (Stored number) t lt p
            | inr ge ↦
                let e : i ≡ n = omega arith in
                let there : get_or (counts ++ node_count counts node ∷ []) i 0 ≡ node_count counts node =
                ap (λ j. get_or (counts ++ node_count counts node ∷ []) j 0) (e ∙ sym len) ∙ get_or-last counts (node_count counts node) 0 in
                let at' : slice_get nodes i ≡ Some p.1.0 = p.1.1 in
                let same : Some node ≡ Some p.1.0 = sym at ∙ ap (slice_get nodes) (sym e) ∙ at' in
                let one : node ≡ p.1.0 = cc in
                there ∙ node_counted nodes n counts c t node lower (subst (λ (m : Node (Option V)). Stands nodes (Split m) t) (sym one) (subst (λ (x : Loose (Option V)). Stands nodes x t) p.1.2 p.2))
          ]
