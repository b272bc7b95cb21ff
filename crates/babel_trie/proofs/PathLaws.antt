-- A node from some bits further on its path, and what is looked up there.
use mathlib.Core.Bool.{beq}
use Rattle.std.proofs.Common.{◌≡◌, inl, inr, ℕ, zero, suc, ◌+◌, ◌-◌, ◌<◌, ◌≤◌, Bool, true, false, cond, List, get_or, length, Some, refl, sym, ◌∙◌, ap, subst, arith}
use Rattle.std.specs.List.{slice_get}
use Rattle.babel_trie.specs.Shape.{Shape, leaf, fork, is_low, value_at}
use Rattle.babel_trie.specs.Interned.{Opens, OpensFrom, further, inner, HaveHalves, Stands, IsNormal, IsNormalLoose, IsTrie, FitsPath}
use Rattle.babel_trie.specs.Sound.{IsBelow, HasHalvesBelow, IsLooseBelow}
use Rattle.babel_trie.specs.declared.table.Loose.{Loose}
use Rattle.babel_trie.specs.declared.table.Loose.TheVariants.{Same, Split}
use Rattle.babel_trie.specs.declared.table.Node.{Node}
use Rattle.babel_trie.specs.declared.table.NodeNumber.{NodeNumber}
use Rattle.babel_trie.specs.declared.table.Sources.{Sources}
use Rattle.babel_trie.specs.declared.table.Sources.TheVariants.{Constant, Stored}
use Rattle.babel_trie.proofs.FormLaws.{HalvesOf, halves_of_trie, some_bits, Opens-in}
use Rattle.babel_trie.proofs.NumberLaws.{inner-more, inner-normal, is_low-mod, slice_get_at, slice_get_in}
use Rattle.std.proofs.lemmas.Bool.{false≢true}

-- bits that are tested for equality
pub same_bit : (b c : Bool) → beq b c ≡ true → b ≡ c
same_bit true true e = refl
same_bit true false e = absurd (false≢true e)
same_bit false true e = absurd (false≢true e)
same_bit false false e = refl

pub different_bit : (b c : Bool) → beq b c ≡ false → b ≡ c → ⊥
different_bit true true e = λ _. false≢true (sym e)
different_bit true false e = λ same. false≢true (sym same)
different_bit false true e = λ same. false≢true same
different_bit false false e = λ _. false≢true (sym e)

module _ {V : Type 0} where
  pub further-skip : (k : ℕ) (node : Node V) → (further k node).skip ≡ node.skip - k
  further-skip zero node = omega arith
  further-skip (suc k) node = ap (λ n. n - 1) (further-skip k node) ∙ omega arith

  pub further-low : (k : ℕ) (node : Node V) → (further k node).low ≡ node.low
  further-low zero node = refl
  further-low (suc k) node = further-low k node

  pub further-high : (k : ℕ) (node : Node V) → (further k node).high ≡ node.high
  further-high zero node = refl
  further-high (suc k) node = further-high k node

  pub further-outside : (k : ℕ) (node : Node V) → k < node.skip → (further k node).outside ≡ node.outside
  further-outside zero node lt = refl
  further-outside (suc k) node lt =
      let here = further-skip k node in
      inner-more (further k node) (λ one. omega arith) ∙ further-outside k node (omega arith)

  further-bit : (k b : ℕ) (node : Node V) → 0 < b → b ≤ node.skip - k → is_low b (further k node).path ≡ is_low b node.path
  further-bit zero b node some le = refl
  further-bit (suc k) b node some le =
      let here = further-skip k node in
      is_low-mod b ((further k node).skip - 1) (further k node).path some (omega arith) ∙ further-bit k b node some (omega arith)

  -- the first bit that is left of a path
  pub further-first : (k : ℕ) (node : Node V) → k < node.skip → is_low (further k node).skip (further k node).path ≡ is_low (node.skip - k) node.path
  further-first k node lt = ap (λ n. is_low n (further k node).path) (further-skip k node) ∙ further-bit k (node.skip - k) node (omega arith) (omega arith)

module _ {V : Type 0} (nodes : List (Node V)) where
  pub from_start : (s : Sources V) (x : Loose V) → Opens nodes s x → OpensFrom nodes s 0 x
  from_start (Constant v) x p = p
  from_start (Stored n) x p = (p.0, p.1, omega arith, p.2)

  pub from_stored : (number : NodeNumber) (node : Node V) (passed : ℕ) (x : Loose V) → OpensFrom nodes (Stored number) passed x → slice_get nodes number.0 ≡ Some node →
      (passed ≤ node.skip) × (x ≡ Split (further passed node))
  from_stored number node passed x p at =
      let same : Some p.0 ≡ Some node = sym p.1 ∙ at in
      let e : p.0 ≡ node = cc in
      (subst (λ (m : Node V). passed ≤ m.skip) e p.2, p.3 ∙ ap (λ (m : Node V). let z : Loose V = Split (further passed m) in z) e)

  -- the node that is read where sources are stored, as far as bits of its path are passed
  pub record IsRead (s : Sources V) (number : NodeNumber) (node : Node V) (passed bits : ℕ) : Type 0 where
    pub is : s ≡ Stored number
    pub at : slice_get nodes number.0 ≡ Some node
    pub passed_in : passed ≤ node.skip
    pub left_in : node.skip - passed < bits
    pub rest : HalvesOf nodes bits (Split (further passed node))

  pub read : (s : Sources V) (number : NodeNumber) (node : Node V) (passed bits : ℕ) (x : Loose V) → s ≡ Stored number → OpensFrom nodes s passed x → IsTrie bits nodes x →
      node ≡ get_or nodes number.0 node → IsRead s number node passed bits
  read s number node passed bits x is p h here =
      let opens = subst (λ (r : Sources V). OpensFrom nodes r passed x) is p in
      let at = slice_get_at nodes number.0 node (slice_get_in nodes number.0 opens.0 opens.1) here in
      let f = from_stored number node passed x opens at in
      let trie = subst (IsTrie bits nodes) f.1 h in
      record {
        is = is;
        at = at;
        passed_in = f.0;
        left_in = omega (arith, some_bits nodes bits (further passed node) trie, further-skip passed node);
        rest = halves_of_trie nodes bits (further passed node) trie;
      }

  module _ {s : Sources V} {number : NodeNumber} {node : Node V} {passed bits : ℕ} (a : IsRead s number node passed bits) where
    -- what the sources stand for, the rest of the path does
    pub rest_stands : (x : Loose V) (t : Shape V) → OpensFrom nodes s passed x → Stands nodes x t → Stands nodes (Split (further passed node)) t
    rest_stands x t p q = subst (λ (y : Loose V). Stands nodes y t) (from_stored number node passed x (subst (λ (r : Sources V). OpensFrom nodes r passed x) a.is p) a.at).1 q

    -- and one bit further on
    pub one_on : passed < node.skip → (x : Loose V) × (Split (inner (further passed node)) ≡ x) × OpensFrom nodes s (passed + 1) x
    one_on left =
        let e : suc passed ≡ passed + 1 = omega arith in
        let next : Loose V = Split (further (passed + 1) node) in
        (next, ap (λ (n : ℕ). let y : Loose V = Split (further n node) in y) e, subst (λ (r : Sources V). OpensFrom nodes r (passed + 1) next) (sym a.is) (node, a.at, omega arith, refl))

  -- what a node names at its block
  pub at_block : (y : Node V) (l h : Loose V) → HaveHalves nodes y l h → y.skip ≡ 0 → Opens nodes y.low l × Opens nodes y.high h
  at_block y l h (inl p) z = (p.1, p.2)
  at_block y l h (inr (inl p)) z = let s : 0 < y.skip = p.0 in absurd (omega arith)
  at_block y l h (inr (inr p)) z = let s : 0 < y.skip = p.0 in absurd (omega arith)

  -- the rest of its path, and what is beside it
  pub path_trie : (bits : ℕ) (y : Node V) → HalvesOf nodes bits (Split y) → 0 < y.skip → IsTrie (bits - 1) nodes (Split (inner y))
  path_trie bits y k some = by k.halves
    where
      by : HaveHalves nodes y k.low k.high → IsTrie (bits - 1) nodes (Split (inner y))
      by (inl p) = let z : y.skip ≡ 0 = p.0 in absurd (omega arith)
      by (inr (inl p)) = subst (IsTrie (bits - 1) nodes) p.2 k.low_trie
      by (inr (inr p)) = subst (IsTrie (bits - 1) nodes) p.3 k.high_trie

  pub beside_trie : (bits : ℕ) (y : Node V) → HalvesOf nodes bits (Split y) → 0 < y.skip → (z : Loose V) × Opens nodes y.outside z × IsTrie (bits - 1) nodes z
  beside_trie bits y k some = by k.halves
    where
      by : HaveHalves nodes y k.low k.high → (z : Loose V) × Opens nodes y.outside z × IsTrie (bits - 1) nodes z
      by (inl p) = let z : y.skip ≡ 0 = p.0 in absurd (omega arith)
      by (inr (inl p)) = (k.high, p.3, k.high_trie)
      by (inr (inr p)) = (k.low, p.2, k.low_trie)

  in_low : (b : Bool) (v x y : V) → b ≡ true → v ≡ x → v ≡ cond b x y
  in_low b v x y is e = e ∙ sym (ap (λ c. cond c x y) is)

  in_high : (b : Bool) (v x y : V) → b ≡ false → v ≡ y → v ≡ cond b x y
  in_high b v x y is e = e ∙ sym (ap (λ c. cond c x y) is)

  module _ (y : Node V) (bits a : ℕ) (v : V) where
    pub value_in_block : (t : Shape V) → Stands nodes (Split y) t → y.skip ≡ 0 →
        ((is_low bits a ≡ true) × ((x : Loose V) (u : Shape V) → Opens nodes y.low x → Stands nodes x u → v ≡ value_at u (bits - 1) a)) → v ≡ value_at t bits a
    value_in_block (leaf w) p z here = absurd (cc)
    value_in_block (fork low high) (l, h, halves, p, q) z here =
        let o = at_block y l h halves z in
        in_low (is_low bits a) v (value_at low (bits - 1) a) (value_at high (bits - 1) a) here.0 (here.1 l low o.0 p)

    pub value_in_upper : (t : Shape V) → Stands nodes (Split y) t → y.skip ≡ 0 →
        ((is_low bits a ≡ false) × ((x : Loose V) (u : Shape V) → Opens nodes y.high x → Stands nodes x u → v ≡ value_at u (bits - 1) a)) → v ≡ value_at t bits a
    value_in_upper (leaf w) p z here = absurd (cc)
    value_in_upper (fork low high) (l, h, halves, p, q) z here =
        let o = at_block y l h halves z in
        in_high (is_low bits a) v (value_at low (bits - 1) a) (value_at high (bits - 1) a) here.0 (here.1 h high o.1 q)

    pub value_on_path : (t : Shape V) → Stands nodes (Split y) t → 0 < y.skip → is_low bits a ≡ is_low y.skip y.path →
        ((u : Shape V) → Stands nodes (Split (inner y)) u → v ≡ value_at u (bits - 1) a) → v ≡ value_at t bits a
    value_on_path (leaf w) p some same known = absurd (cc)
    value_on_path (fork low high) (l, h, inl e, p, q) some same known = let z : y.skip ≡ 0 = e.0 in absurd (omega arith)
    value_on_path (fork low high) (l, h, inr (inl e), p, q) some same known =
        in_low (is_low bits a) v (value_at low (bits - 1) a) (value_at high (bits - 1) a) (same ∙ e.1) (known low (subst (λ (x : Loose V). Stands nodes x low) e.2 p))
    value_on_path (fork low high) (l, h, inr (inr e), p, q) some same known =
        in_high (is_low bits a) v (value_at low (bits - 1) a) (value_at high (bits - 1) a) (same ∙ e.1) (known high (subst (λ (x : Loose V). Stands nodes x high) e.3 q))

    other_bit : (b c : Bool) → (b ≡ c → ⊥) → (c ≡ true → b ≡ false) × (c ≡ false → b ≡ true)
    other_bit true true ne = absurd (ne refl)
    other_bit true false ne = (λ e. absurd (false≢true e), λ _. refl)
    other_bit false true ne = (λ _. refl, λ e. absurd (false≢true (sym e)))
    other_bit false false ne = absurd (ne refl)

    pub value_beside : (t : Shape V) → Stands nodes (Split y) t → 0 < y.skip → (is_low bits a ≡ is_low y.skip y.path → ⊥) →
        ((x : Loose V) (u : Shape V) → Opens nodes y.outside x → Stands nodes x u → v ≡ value_at u (bits - 1) a) → v ≡ value_at t bits a
    value_beside (leaf w) p some other known = absurd (cc)
    value_beside (fork low high) (l, h, inl e, p, q) some other known = let z : y.skip ≡ 0 = e.0 in absurd (omega arith)
    value_beside (fork low high) (l, h, inr (inl e), p, q) some other known =
        in_high (is_low bits a) v (value_at low (bits - 1) a) (value_at high (bits - 1) a) ((other_bit (is_low bits a) (is_low y.skip y.path) other).0 e.1) (known h high e.3 q)
    value_beside (fork low high) (l, h, inr (inr e), p, q) some other known =
        in_low (is_low bits a) v (value_at low (bits - 1) a) (value_at high (bits - 1) a) ((other_bit (is_low bits a) (is_low y.skip y.path) other).1 e.1) (known l low e.2 p)

  -- what stands for a trie in its one form names what is in the table
  below_by : (t : Shape V) (node : Node V) → IsNormal nodes node → Stands nodes (Split node) t → HasHalvesBelow (length nodes) node
  below_by (leaf v) node n p = absurd (cc)
  below_by (fork low high) node n (l, h, inl e, p, q) =
      let low_in = Opens-in nodes node.low l e.1 in
      (subst (IsBelow (length nodes)) (sym (n.none_outside e.0)) low_in, low_in, Opens-in nodes node.high h e.2)
  below_by (fork low high) node n (l, h, inr (inl e), p, q) =
      let rest = below_by low (inner node) (inner-normal nodes node e.0 n) (subst (λ (x : Loose V). Stands nodes x low) e.2 p) in
      (Opens-in nodes node.outside h e.3, rest.1, rest.2)
  below_by (fork low high) node n (l, h, inr (inr e), p, q) =
      let rest = below_by high (inner node) (inner-normal nodes node e.0 n) (subst (λ (x : Loose V). Stands nodes x high) e.3 q) in
      (Opens-in nodes node.outside l e.2, rest.1, rest.2)

  pub loose_below : (x : Loose V) (t : Shape V) → IsNormalLoose nodes x → Stands nodes x t → IsLooseBelow (length nodes) x
  loose_below (Same v) t n p = tt
  loose_below (Split node) t n p = below_by t node n p

  -- a bit more fits on the path of a trie of less than 128 bits
  pub fits_path : (x : Loose V) → IsTrie 127 nodes x → IsNormalLoose nodes x → FitsPath x
  fits_path (Same v) h n = tt
  fits_path (Split node) h n = (some_bits nodes 127 node h, n.path_in)

  -- what the halves of a node open
  pub block_in : (bits : ℕ) (node : Node V) → IsTrie bits nodes (Split node) → node.skip ≡ 0 → IsBelow (length nodes) node.low × IsBelow (length nodes) node.high
  block_in bits node h z =
      let k = halves_of_trie nodes bits node h in
      let o = at_block node k.low k.high k.halves z in
      (Opens-in nodes node.low k.low o.0, Opens-in nodes node.high k.high o.1)

  pub beside_in : (bits : ℕ) (node : Node V) → IsTrie bits nodes (Split node) → 0 < node.skip → IsBelow (length nodes) node.outside
  beside_in bits node h some =
      let b = beside_trie bits node (halves_of_trie nodes bits node h) some in
      Opens-in nodes node.outside b.0 b.1
