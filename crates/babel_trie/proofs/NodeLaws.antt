-- A table is sound by each order that compares its sources the same.
use mathlib.Core.Path.{fun_ext}
use Rattle.std.proofs.Common.{◌≡◌, ℕ, List, subst}
use Rattle.std.specs.Ordering.{nat_cmp}
use Rattle.std.specs.declared.cmp.Ordering.{Ordering}
use Rattle.std.specs.declared.cmp.Ordering.TheVariants.{Less, Greater}
use Rattle.babel_trie.specs.Sound.{IsSound}
use Rattle.babel_trie.specs.declared.index.Index.{Index}
use Rattle.babel_trie.specs.declared.table.Node.{Node}
use Rattle.babel_trie.specs.declared.table.NodeNumber.{NodeNumber}
use Rattle.babel_trie.specs.declared.table.Sources.{Sources}
use Rattle.babel_trie.specs.declared.table.Sources.TheVariants.{Constant, Stored}

-- constants, by their values, before what is stored, by its number
abbrev pub sources_cmp : {V : Type 0} → (V → V → Ordering) → Sources V → Sources V → Ordering
sources_cmp cmp (Constant v) (Constant w) = cmp v w
sources_cmp cmp (Constant v) (Stored m) = Less
sources_cmp cmp (Stored k) (Constant w) = Greater
sources_cmp cmp (Stored k) (Stored m) = nat_cmp k.0 m.0

-- a table is sound by each order that compares the same
pub sound_by : {V : Type 0} {cmp other : Sources V → Sources V → Ordering} {mark : Sources V → ℕ} {nodes : List (Node V)} {numbers : Index (Node V)}
    → ((v w : V) → cmp (Constant v) (Constant w) ≡ other (Constant v) (Constant w)) → ((v : V) (m : NodeNumber) → cmp (Constant v) (Stored m) ≡ other (Constant v) (Stored m))
    → ((k : NodeNumber) (w : V) → cmp (Stored k) (Constant w) ≡ other (Stored k) (Constant w)) → ((k m : NodeNumber) → cmp (Stored k) (Stored m) ≡ other (Stored k) (Stored m))
    → IsSound cmp mark nodes numbers → IsSound other mark nodes numbers
sound_by {V} {cmp} {other} {mark} {nodes} {numbers} constants first second numbered sound = subst (λ c. IsSound c mark nodes numbers) (fun_ext (λ r. fun_ext (same r))) sound
  where
    same : (r s : Sources V) → cmp r s ≡ other r s
    same (Constant v) (Constant w) = constants v w
    same (Constant v) (Stored m) = first v m
    same (Stored k) (Constant w) = second k w
    same (Stored k) (Stored m) = numbered k m
