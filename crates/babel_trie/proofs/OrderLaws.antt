-- Rows sorted by their blocks are in order.
use Rattle.std.proofs.Common.{◌≡◌, inl, inr, ℕ, suc, ◌+◌, ◌<◌, false, cond, List, [], ◌∷◌, length, get_or, refl, sym, ◌∙◌, ap, subst, arith, ◌==◌, eq-eqb}
use Rattle.babel_prefix.specs.Entries.{Entry}
use Rattle.std.specs.Ordering.{ordering_then, nat_cmp, is_lt}
use Rattle.std.specs.declared.cmp.Ordering.{Ordering}
use Rattle.std.specs.declared.cmp.Ordering.TheVariants.{Less, Equal, Greater}
use Rattle.std.proofs.lemmas.Bool.{cases_order, false≢true, lt-ltb, le-ltb}
use Rattle.std.proofs.lemmas.Map.Lookups.{exact_unsigned}
use Rattle.babel_prefix.specs.Block.{Block}
use Rattle.babel_prefix.specs.Address.{block_of}
use Rattle.babel_trie.specs.Rows.{InOrder, IsNoLater}
use Rattle.babel_trie.specs.Held.{RowOrder, row_place}

-- what a comparison says
nat_cmp-less : (m n : ℕ) → m < n → nat_cmp m n ≡ Less
nat_cmp-less m n lt = ap (λ b. cond b Less (cond (m == n) Equal Greater)) (lt-ltb m n lt)

nat_cmp-equal : (m : ℕ) → nat_cmp m m ≡ Equal
nat_cmp-equal m = ap (λ b. cond b Less (cond (m == m) Equal Greater)) (le-ltb m m (omega arith)) ∙ ap (λ b. cond b Equal Greater) (eq-eqb m m refl)

equal_from_cmp : (m n : ℕ) → nat_cmp m n ≡ Equal → m ≡ n
equal_from_cmp = exact_unsigned

greater_from_cmp : (m n : ℕ) → nat_cmp m n ≡ Greater → n < m
greater_from_cmp m n e =
    elim (cases_order m n) [
      | inl same ↦ let here : nat_cmp m n ≡ Equal = subst (λ k. nat_cmp m k ≡ Equal) same (nat_cmp-equal m) in cc
      | inr either ↦ elim either [ inl lt ↦ let here = nat_cmp-less m n lt in cc | inr gt ↦ gt ]
    ]

abbrev pub block_cmp : Block → Block → Ordering
block_cmp a b = ordering_then (nat_cmp a.start b.start) (nat_cmp a.len b.len)

equal_blocks : (a b : Block) → block_cmp b a ≡ Equal → a ≡ b
equal_blocks a b e = by (nat_cmp b.start a.start) refl e
  where
    by : (o : Ordering) → nat_cmp b.start a.start ≡ o → ordering_then o (nat_cmp b.len a.len) ≡ Equal → a ≡ b
    by Less is e = cc
    by Greater is e = cc
    by Equal is e =
        ap (λ s. record { start = s; len = a.len }) (sym (equal_from_cmp b.start a.start is))
        ∙ ap (λ l. record { start = b.start; len = l }) (sym (equal_from_cmp b.len a.len e))

greater_blocks : (a b : Block) → block_cmp b a ≡ Greater → IsNoLater a b × (a ≡ b → ⊥)
greater_blocks a b e = by (nat_cmp b.start a.start) refl e
  where
    by : (o : Ordering) → nat_cmp b.start a.start ≡ o → ordering_then o (nat_cmp b.len a.len) ≡ Greater → IsNoLater a b × (a ≡ b → ⊥)
    by Less is e = cc
    by Greater is e =
        let lt = greater_from_cmp b.start a.start is in
        (inl lt, λ same. let starts : a.start ≡ b.start = ap (λ (x : Block). x.start) same in omega arith)
    by Equal is e =
        let lt = greater_from_cmp b.len a.len e in
        (inr (sym (equal_from_cmp b.start a.start is), omega arith), λ same. let lens : a.len ≡ b.len = ap (λ (x : Block). x.len) same in omega arith)

no_later_itself : (a b : Block) → a ≡ b → IsNoLater a b
no_later_itself a b e = inr (ap (λ (x : Block). x.start) e, let lens : a.len ≡ b.len = ap (λ (x : Block). x.len) e in omega arith)

no_later : (a b : Block) → is_lt (block_cmp b a) ≡ false → IsNoLater a b
no_later a b e = by (block_cmp b a) refl e
  where
    by : (o : Ordering) → block_cmp b a ≡ o → is_lt o ≡ false → IsNoLater a b
    by Less is e = absurd (false≢true (sym e))
    by Equal is e = no_later_itself a b (equal_blocks a b is)
    by Greater is e = (greater_blocks a b is).0

IsNoLater-trans : (a b c : Block) → IsNoLater a b → IsNoLater b c → IsNoLater a c
IsNoLater-trans a b c (inl p) (inl q) = inl (omega arith)
IsNoLater-trans a b c (inl p) (inr q) = inl (omega (arith, q.0))
IsNoLater-trans a b c (inr p) (inl q) = inl (omega (arith, p.0))
IsNoLater-trans a b c (inr p) (inr q) = inr (p.0 ∙ q.0, omega (arith, p.1, q.1))

IsNoLater-antisym : (a b : Block) → IsNoLater a b → IsNoLater b a → a ≡ b
IsNoLater-antisym a b (inl p) (inl q) = absurd (omega arith)
IsNoLater-antisym a b (inl p) (inr q) = absurd (omega (arith, q.0))
IsNoLater-antisym a b (inr p) (inl q) = absurd (omega (arith, p.0))
IsNoLater-antisym a b (inr p) (inr q) =
    ap (λ s. record { start = s; len = a.len }) p.0 ∙ ap (λ l. record { start = b.start; len = l }) (let e : a.len ≡ b.len = omega (arith, p.1, q.1) in e)

module _ {V : Type 0} where
  -- what the sort says of two rows
  pub order_from_keys : (x y : Entry V) → is_lt (ordering_then (block_cmp (block_of y.0) (block_of x.0)) (block_cmp (block_of y.1) (block_of x.1))) ≡ false → RowOrder x y
  order_from_keys x y e = by (block_cmp (block_of y.0) (block_of x.0)) refl e
    where
      by : (o : Ordering) → block_cmp (block_of y.0) (block_of x.0) ≡ o → is_lt (ordering_then o (block_cmp (block_of y.1) (block_of x.1))) ≡ false → RowOrder x y
      by Less is e = absurd (false≢true (sym e))
      by Greater is e = let g = greater_blocks (block_of x.0) (block_of y.0) is in record { destinations = g.0; sources = λ same. absurd (g.1 same) }
      by Equal is e = record { destinations = no_later_itself (block_of x.0) (block_of y.0) (equal_blocks (block_of x.0) (block_of y.0) is); sources = λ _. no_later (block_of x.1) (block_of y.1) e }

  -- what a comparison of their places says of them
  pub order_from_places : (x y : Entry V) (p q : (ℕ × ℕ) × (ℕ × ℕ)) → p ≡ row_place x → q ≡ row_place y
      → is_lt (ordering_then (ordering_then (nat_cmp q.0.0 p.0.0) (nat_cmp q.0.1 p.0.1)) (ordering_then (nat_cmp q.1.0 p.1.0) (nat_cmp q.1.1 p.1.1))) ≡ false → RowOrder x y
  order_from_places x y p q p_is q_is e =
      let Less-is : (ℕ × ℕ) × (ℕ × ℕ) → (ℕ × ℕ) × (ℕ × ℕ) → Type 0 =
      λ a b. is_lt (ordering_then (ordering_then (nat_cmp b.0.0 a.0.0) (nat_cmp b.0.1 a.0.1)) (ordering_then (nat_cmp b.1.0 a.1.0) (nat_cmp b.1.1 a.1.1))) ≡ false in
      order_from_keys x y (subst (λ b. Less-is (row_place x) b) q_is (subst (λ a. Less-is a q) p_is e))

  pub RowOrder-trans : (x y z : Entry V) → RowOrder x y → RowOrder y z → RowOrder x z
  RowOrder-trans x y z p q =
      record {
        destinations = IsNoLater-trans (block_of x.0) (block_of y.0) (block_of z.0) p.destinations q.destinations;
        sources = λ same.
            let back : IsNoLater (block_of y.0) (block_of x.0) = subst (IsNoLater (block_of y.0)) (sym same) q.destinations in
            let first : (block_of x.0) ≡ (block_of y.0) = IsNoLater-antisym (block_of x.0) (block_of y.0) p.destinations back in
            IsNoLater-trans (block_of x.1) (block_of y.1) (block_of z.1) (p.sources first) (q.sources (sym first ∙ same));
      }

module _ {X : Type 0} (R : X → X → Type 0) where
  -- what holds of neighbours holds of each and each later one
  pub InOrder-from_adjacent : ((x y z : X) → R x y → R y z → R x z) → (xs : List X) → ((k : ℕ) (d : X) → k + 1 < length xs → R (get_or xs k d) (get_or xs (k + 1) d)) → InOrder R xs
  InOrder-from_adjacent trans [] adjacent = tt
  InOrder-from_adjacent trans (x ∷ []) adjacent = ((λ y none. absurd none), tt)
  InOrder-from_adjacent trans (x ∷ y ∷ ys) adjacent =
      let first : R x y = adjacent 0 x (omega arith) in
      let rest = InOrder-from_adjacent trans (y ∷ ys) (λ k d lt.
      let e : suc k + 1 ≡ suc (k + 1) = omega arith in
      subst (λ n. R (get_or (y ∷ ys) k d) (get_or (x ∷ y ∷ ys) n d)) e (adjacent (suc k) d (omega arith))) in
      ((λ z t. elim t [ inl same ↦ subst (R x) same first | inr later ↦ trans x y z first (rest.0 z later) ]), rest)
