-- Rows stand in order in one way at most, so a type may keep that they do: this project's own.
use Rattle.std.specs.Prelude.{◌≡◌, ℕ, ◌<◌, List, [], ◌∷◌}
use Rattle.std.specs.Coded.{Coded-set, coded_ℕ, le_prop, ×_prop, Π_prop, →_prop, Unit-prop}
use Rattle.std.proofs.Common.{inl, inr, ap, subst}
use Rattle.std.proofs.Math.Nat.{lt_irrefl}
use Rattle.babel_prefix.specs.Block.{Block}
use Rattle.babel_prefix.specs.Entries.{Entry}
use Rattle.babel_trie.specs.Held.{RowOrder}
use Rattle.babel_trie.specs.Rows.{InOrder, IsNoLater}

apart : (m n : ℕ) → m < n → m ≡ n → ⊥
apart m n lt same = lt_irrefl n (subst (λ k. k < n) same lt)

IsNoLater-prop : (a b : Block) → IsProp (IsNoLater a b)
IsNoLater-prop a b (inl p) (inl q) = ap inl (le_prop p q)
IsNoLater-prop a b (inl p) (inr q) = absurd (apart _ _ p q.0)
IsNoLater-prop a b (inr p) (inl q) = absurd (apart _ _ q p.0)
IsNoLater-prop a b (inr p) (inr q) = ap inr (×_prop (Coded-set coded_ℕ a.start b.start) le_prop p q)

module _ {V : Type 0} where
  RowOrder-prop : (x y : Entry V) → IsProp (RowOrder x y)
  RowOrder-prop x y p q = λ i. record {
    destinations = IsNoLater-prop _ _ p.destinations q.destinations i;
    sources = →_prop (IsNoLater-prop _ _) p.sources q.sources i;
  }

  pub rows_in_order-prop : (rows : List (Entry V)) → IsProp (InOrder RowOrder rows)
  rows_in_order-prop [] = Unit-prop
  rows_in_order-prop (x ∷ xs) =
      ×_prop (Π_prop (λ y. →_prop (RowOrder-prop x y))) (rows_in_order-prop xs)
