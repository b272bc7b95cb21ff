-- The best match among rows as they stand: the best of those so far, and then of all.
use Rattle.std.proofs.Common.{◌≡◌, ℕ, ◌≤◌, List, [], ◌∷◌, ◌++◌, Option, Some, None, MatchOption, inl, inr, refl, sym, ap, subst, ◌∙◌, arith, append-nil, length, take}
use Rattle.std.specs.Prelude.{IfSome}
use Rattle.std.specs.List.{Contains}
use Rattle.std.specs.Map.{keys_of}
use Rattle.std.specs.List.Sorted.{IsStrictlySortedBy}
use Rattle.std.specs.Option.{option_map}
use Rattle.std.proofs.lemmas.Cmp.{eq_by_cmp_equiv}
use Rattle.std.proofs.lemmas.Map.Keys.{IsDistinct-from_sorted}
use Rattle.std.proofs.lemmas.Map.Views.{Contains-from_lookup, lookup-from_Contains}
use Rattle.std.proofs.lemmas.List.{take_all}
use Rattle.std.proofs.lemmas.List.Elements.{Contains-append_left, Contains-push, Contains-push_cases}
use Rattle.babel_prefix.specs.Address.{Address}
use Rattle.babel_tlv.specs.Keys.{key_cmp}
use Rattle.babel_tlv.specs.Pair.{Pair}
use Rattle.babel_tlv.specs.Route.{RouteKey}
use Rattle.babel_tlv.proofs.OrderLaws.{key_exact, key_total}
use Rattle.babel_table.specs.BestMatch.{ContainsBoth, IsMoreSpecific}
use Rattle.babel_table.specs.RowFor.{IsBestOf, IsBestRow}
use Rattle.babel_table.specs.Live.{Kept, current, live_rows}
use Rattle.babel_table.specs.Lookup.{IsBetter}
use Rattle.babel_table.specs.Said.{Words, standing, AreDistinct}
use Rattle.babel_table.proofs.LiveLaws.{keys-live_rows}
use Rattle.babel_table.proofs.ListLaws.{found-listed, listing, with_word, distinct-listing}
use Rattle.babel_table.proofs.SaidLaws.{found, sorted-standing}
use Rattle.babel_prefix.proofs.Insertion.{equal_of}

longer_still : (a b c : RouteKey) → IsMoreSpecific a b → IsMoreSpecific b c → IsMoreSpecific a c
longer_still a b c (inl ab) (inl bc) = inl (omega (arith, ab, bc))
longer_still a b c (inl ab) (inr bc) = inl (omega (arith, ab, bc.0))
longer_still a b c (inr ab) (inl bc) = inl (omega (arith, ab.0, bc))
longer_still a b c (inr ab) (inr bc) = inr (ab.0 ∙ bc.0, omega (arith, ab.1, bc.1))

not_itself : (k : RouteKey) → ¬ IsMoreSpecific k k
not_itself k (inl lt) = omega (arith, lt)
not_itself k (inr both) = omega (arith, both.1)

-- ---- one more row

module _ (rows : List Pair) (d s : Address) (row : Pair) where
  pub better : (best : Option Pair) → IsBestOf rows d s best → IsBetter d s row.0 best → IsBestOf (rows ++ row ∷ []) d s (Some row)
  better best so_far is = record {
    listed = Contains-push rows row;
    matching = is.0;
    best = λ other c both. elim (Contains-push_cases rows row other c) [
      | inl earlier ↦ not_better best so_far is.1 other earlier both
      | inr same ↦ subst (λ (o : Pair). ¬ IsMoreSpecific o.0 row.0) same (not_itself row.0)
    ];
  }
    where
      not_better : (best : Option Pair) → IsBestOf rows d s best → IfSome best (λ b. IsMoreSpecific row.0 b.0) → (other : Pair) → Contains rows other
          → ContainsBoth d s other.0 → ¬ IsMoreSpecific other.0 row.0
      not_better None none more other c both = absurd (none other.0 other.1 c both)
      not_better (Some b) best more other c both = λ longer. best.best other c both (longer_still other.0 row.0 b.0 longer more)

  pub no_better : (best : Option Pair) → IsBestOf rows d s best → ¬ IsBetter d s row.0 best → IsBestOf (rows ++ row ∷ []) d s best
  no_better None none not = λ key held c both. elim (Contains-push_cases rows row (key, held) c) [
    | inl earlier ↦ none key held earlier both
    | inr same ↦ not (subst (λ (o : Pair). ContainsBoth d s o.0) (sym same) both, tt)
  ]
  no_better (Some b) best not = record {
    listed = Contains-append_left rows (row ∷ []) b best.listed;
    matching = best.matching;
    best = λ other c both. elim (Contains-push_cases rows row other c) [
      | inl earlier ↦ best.best other earlier both
      | inr same ↦ λ longer. not (subst (λ (o : Pair). ContainsBoth d s o.0) (sym same) both, subst (λ (o : Pair). IsMoreSpecific o.0 b.0) (sym same) longer)
    ];
  }

-- ---- one more word

listing-push : (wipes : ℕ) (ws : Words) (w : RouteKey × Option Kept) → listing wipes (ws ++ w ∷ []) ≡ listing wipes ws ++ with_word wipes w.0 w.1 []
listing-push wipes [] w = refl
listing-push wipes (x ∷ ws) w = by x.1 (listing-push wipes ws w)
  where
    by : (o : Option Kept) → listing wipes (ws ++ w ∷ []) ≡ listing wipes ws ++ with_word wipes w.0 w.1 []
        → with_word wipes x.0 o (listing wipes (ws ++ w ∷ [])) ≡ with_word wipes x.0 o (listing wipes ws) ++ with_word wipes w.0 w.1 []
    by (Some v) again = ap (λ (rows : List Pair). (x.0, current wipes v) ∷ rows) again
    by None again = again

-- the best of the rows that these words say
abbrev pub IsBestSaid : ℕ → Words → Address → Address → Option Pair → Type 0
IsBestSaid wipes ws d s best = IsBestOf (listing wipes ws) d s best

pub best-none : (wipes : ℕ) (d s : Address) → IsBestSaid wipes [] d s None
best-none wipes d s key held c = absurd (omega (arith, c.1))

module _ (wipes : ℕ) (ws : Words) (d s : Address) (best : Option Pair) (so_far : IsBestSaid wipes ws d s best) (w : RouteKey × Option Kept) where
  pushed : (rest : List Pair) (now : Option Pair) → with_word wipes w.0 w.1 [] ≡ rest → IsBestOf (listing wipes ws ++ rest) d s now → IsBestSaid wipes (ws ++ w ∷ []) d s now
  pushed rest now is holds = subst (λ (rows : List Pair). IsBestOf rows d s now) (sym (listing-push wipes ws w ∙ ap (λ (r : List Pair). listing wipes ws ++ r) is)) holds

  pub best-retracted : w.1 ≡ None → IsBestSaid wipes (ws ++ w ∷ []) d s best
  best-retracted is = pushed [] best (ap (λ o. with_word wipes w.0 o []) is) (subst (λ (rows : List Pair). IsBestOf rows d s best) (sym (append-nil (listing wipes ws))) so_far)

  pub best-better : (v : Kept) → w.1 ≡ Some v → IsBetter d s w.0 best → IsBestSaid wipes (ws ++ w ∷ []) d s (Some (w.0, current wipes v))
  best-better v is more =
      let row : Pair = (w.0, current wipes v) in
      pushed (row ∷ []) (Some row) (ap (λ o. with_word wipes w.0 o []) is) (better (listing wipes ws) d s row best so_far more)

  pub best-stays : (v : Kept) → w.1 ≡ Some v → ¬ IsBetter d s w.0 best → IsBestSaid wipes (ws ++ w ∷ []) d s best
  best-stays v is not =
      let row : Pair = (w.0, current wipes v) in
      pushed (row ∷ []) best (ap (λ o. with_word wipes w.0 o []) is) (no_better (listing wipes ws) d s row best so_far not)

-- ---- all of them

found-contained : (rows : List Pair) (row : Pair) → AreDistinct (keys_of rows) → Contains rows row → found row.0 rows ≡ Some row.1
found-contained rows row distinct c = lookup-from_Contains (eq_by_cmp_equiv key_total) row.0 row.1 rows distinct c

contained-found : (rows : List Pair) (row : Pair) → found row.0 rows ≡ Some row.1 → Contains rows row
contained-found rows row is = Contains-from_lookup (λ x y e. key_exact x y (equal_of (key_cmp x y) e)) row.0 row.1 rows is

module _ (wipes : ℕ) (ws : Words) (distinct : AreDistinct (keys_of ws)) where
  abbrev live : List Pair
  live = live_rows wipes (standing ws)

  distinct-live : AreDistinct (keys_of live)
  distinct-live = IsDistinct-from_sorted key_cmp (keys_of live) (subst (λ ks. IsStrictlySortedBy key_cmp ks) (sym (keys-live_rows wipes (standing ws))) (sorted-standing ws))

  stands : (row : Pair) → Contains (listing wipes ws) row → Contains live row
  stands row c = contained-found live row (sym (found-listed wipes row.0 ws distinct) ∙ found-contained (listing wipes ws) row (distinct-listing wipes ws distinct) c)

  is_said : (row : Pair) → Contains live row → Contains (listing wipes ws) row
  is_said row c = contained-found (listing wipes ws) row (found-listed wipes row.0 ws distinct ∙ found-contained live row distinct-live c)

  best-matches : (d s : Address) (best : Option Pair) → IsBestSaid wipes ws d s best → IsBestOf live d s best
  best-matches d s None none = λ key held c. none key held (is_said (key, held) c)
  best-matches d s (Some b) best = record {
    listed = stands b best.listed;
    matching = best.matching;
    best = λ other c. best.best other (is_said other c);
  }

  -- the best row that the words say is the best match among the rows that stand
  pub best-found : (d s : Address) (so_far best : Option Pair) (n : ℕ) → length ws ≤ n → so_far ≡ best → IsBestSaid wipes (take n ws) d s so_far → IsBestOf live d s best
  best-found d s so_far best n all is said =
      best-matches d s best (subst (IsBestSaid wipes ws d s) is (subst (λ words. IsBestSaid wipes words d s so_far) (take_all n ws all) said))
