-- Sources, and options of values, that compare as equal are one: what the order of a grid's values
-- must show. This project's own.
use Rattle.std.specs.Prelude.{◌≡◌, ℕ, Option, Some, None, refl}
use Rattle.std.specs.Ordering.{nat_cmp, ordering_then}
use Rattle.std.specs.Option.{option_cmp}
use Rattle.std.specs.declared.cmp.Ordering.{Ordering}
use Rattle.std.specs.declared.cmp.Ordering.TheVariants.{Less, Equal, Greater}
use Rattle.std.proofs.Common.{ap}
use Rattle.std.proofs.lemmas.Map.Lookups.{exact_pairs, exact_unsigned}
use Rattle.babel_trie.specs.Sound.{node_cmp}
use Rattle.babel_trie.specs.declared.differing.Differing.{Differing}
use Rattle.babel_trie.specs.declared.table.Node.{Node}
use Rattle.babel_trie.specs.declared.table.NodeNumber.{NodeNumber}
use Rattle.babel_trie.specs.declared.table.Sources.{Sources}
use Rattle.babel_trie.specs.declared.table.Sources.TheVariants.{Constant, Stored}

-- options of values that compare as equal only where they are one
pub options_exact : {V : Type 0} (cmp : V → V → Ordering) → ((a b : V) → cmp a b ≡ Equal → a ≡ b) →
    (a b : Option V) →
    option_cmp cmp a b ≡ Equal → a ≡ b
options_exact cmp exact None None e = refl
options_exact cmp exact None (Some w) e = cc
options_exact cmp exact (Some v) None e = cc
options_exact cmp exact (Some v) (Some w) e = ap Some (exact v w e)

module _ {V : Type 0} where
  -- constants of values that compare as equal only where they are one
  pub constants_exact : (cmp : V → V → Ordering) → ((a b : V) → cmp a b ≡ Equal → a ≡ b) →
      (v w : V) → cmp v w ≡ Equal →
      let a : Sources V = Constant v in let b : Sources V = Constant w in a ≡ b
  constants_exact cmp exact v w e = ap Constant (exact v w e)

  -- numbers that compare as equal are one
  pub stored_exact : (k m : NodeNumber) → nat_cmp k.0 m.0 ≡ Equal →
      let a : Sources V = Stored k in let b : Sources V = Stored m in a ≡ b
  stored_exact k m e =
      ap (λ (n : ℕ). let s : Sources V = Stored (record { 0 = n }) in s) (exact_unsigned k.0 m.0 e)

pub less_is_not_equal : let o : Ordering = Less in o ≡ Equal → ⊥
less_is_not_equal e = cc

pub greater_is_not_equal : let o : Ordering = Greater in o ≡ Equal → ⊥
greater_is_not_equal e = cc

-- nodes whose fields compare as equal are one
pub nodes_exact : {V : Type 0} (cmp : Sources V → Sources V → Ordering) →
    ((r s : Sources V) → cmp r s ≡ Equal → r ≡ s) →
    (a b : Node V) → node_cmp cmp a b ≡ Equal → a ≡ b
nodes_exact {V} cmp exact a b e =
    let all = exact_pairs nat_cmp _ exact_unsigned (exact_pairs nat_cmp _ exact_unsigned
    (exact_pairs cmp _ exact (exact_pairs cmp cmp exact exact)))
    (a.skip, (a.path, (a.outside, (a.low, a.high))))
    (b.skip, (b.path, (b.outside, (b.low, b.high)))) e in
    ap (λ (p : ℕ × (ℕ × (Sources V × (Sources V × Sources V)))).
    let n : Node V = record {
      skip = p.0;
      path = p.1.0;
      outside = p.1.1.0;
      low = p.1.1.1.0;
      high = p.1.1.1.1;
    } in n) all

module _ {V : Type 0} where
  -- two answers each
  pub differing_exact : (cmp : Option V → Option V → Ordering) →
      ((a b : Option V) → cmp a b ≡ Equal → a ≡ b) →
      (a b : Differing V) → ordering_then (cmp a.left b.left) (cmp a.right b.right) ≡ Equal → a ≡ b
  differing_exact cmp exact a b e =
      ap (λ (p : Option V × Option V).
      let d : Differing V = record { left = p.0; right = p.1 } in d)
      (exact_pairs cmp cmp exact exact (a.left, a.right) (b.left, b.right) e)
