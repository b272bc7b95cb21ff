-- The halves of whatever is laid over.
use Rattle.std.proofs.Common.{◌≡◌, ℕ, ◌-◌, ◌<◌, ◌≤◌, List, Option, refl, sym, subst}
use Rattle.babel_prefix.specs.Entries.{Entry}
use Rattle.babel_trie.specs.Shape.{Shape, height, IsReduced}
use Rattle.babel_trie.specs.Interned.{HaveHalves, Stands, IsNormalLoose, IsTrie, IsHalved, HasOneForm}
use Rattle.babel_trie.specs.Laid.{IsSet}
use Rattle.babel_trie.specs.declared.table.Loose.{Loose}
use Rattle.babel_trie.specs.declared.table.Loose.TheVariants.{Same, Split}
use Rattle.babel_trie.specs.declared.table.Node.{Node}
use Rattle.babel_trie.proofs.FormLaws.{ForkOf, fork_of, halved_same, halved_split}
use Rattle.babel_trie.proofs.NumberLaws.{halves-normal}
use Rattle.babel_trie.proofs.DifferLaws.{halves_are_tries}
use Rattle.babel_trie.proofs.SourceLaws.{set_fits, set_reduced}

module _ {V : Type 0} (nodes : List (Node V)) where
  pub halved : (x low high : Loose V) → ((v : V) → x ≡ Same v → (low ≡ x) × (high ≡ x))
      → ((node : Node V) → x ≡ Split node → HaveHalves nodes node low high) → (t : Shape V) → Stands nodes x t → IsHalved nodes t low high
  halved (Same v) low high one node t p =
      let both = one v refl in
      subst (λ (l : Loose V). IsHalved nodes t l high) (sym both.0) (subst (λ (h : Loose V). IsHalved nodes t (Same v) h) (sym both.1) (halved_same nodes (Same v) v refl t p))
  halved (Split n) low high one node t p = halved_split nodes (Split n) low high (node n refl) t p

  pub halves_normal : HasOneForm nodes → (x low high : Loose V) → ((v : V) → x ≡ Same v → (low ≡ x) × (high ≡ x))
      → ((node : Node V) → x ≡ Split node → HaveHalves nodes node low high) → IsNormalLoose nodes x → IsNormalLoose nodes low × IsNormalLoose nodes high
  halves_normal form (Same v) low high one node n =
      let both = one v refl in
      (subst (IsNormalLoose nodes) (sym both.0) tt, subst (IsNormalLoose nodes) (sym both.1) tt)
  halves_normal form (Split m) low high one node n = halves-normal nodes form (Split m) low high (node m refl) n

module _ {V : Type 0} where
  pub set_trie : (bits : ℕ) (own : List (Entry V)) (nodes : List (Node (Option V))) (x : Loose (Option V)) (old : Shape (Option V))
      → (set : IsSet own nodes x old) → height old ≤ bits → IsReduced old → IsTrie bits nodes x
  set_trie bits own nodes x old set fits reduced =
      record { trie = set.new; stands = set.stands; fits = set_fits own old set.new bits set.is fits; reduced = set_reduced own old set.new set.is reduced }

module _ {V : Type 0} (bits : ℕ) (nodes : List (Node V)) (x low high : Loose V) (some : 0 < bits) (h : IsTrie bits nodes x) where
  pub half_tries : ((v : V) → x ≡ Same v → (low ≡ x) × (high ≡ x)) → ((node : Node V) → x ≡ Split node → HaveHalves nodes node low high) → IsTrie (bits - 1) nodes low × IsTrie (bits - 1) nodes high
  half_tries one node = halves_are_tries bits nodes x low high h some (halved nodes x low high one node h.trie h.stands)

-- the halves of a trie that is no single value
pub fork_halves : {V : Type 0} (nodes : List (Node V)) (x low high : Loose V) → ((v : V) → x ≡ Same v → ⊥)
    → ((node : Node V) → x ≡ Split node → HaveHalves nodes node low high) → (t : Shape V) → Stands nodes x t → ForkOf nodes low high t
fork_halves nodes (Same v) low high none node t p = absurd (none v refl)
fork_halves nodes (Split m) low high none node t p = fork_of nodes (Split m) low high t (node m refl) p
