-- Rows of one destination, laid over a trie of sources.
use Rattle.std.proofs.Common.{◌≡◌, ◌⊎◌, inl, inr, ℕ, ◌+◌, ◌-◌, ◌*◌, ◌^◌, ◌<◌, ◌≤◌, List, [], ◌∷◌, ◌++◌, Option, Some, map, refl, sym, ◌∙◌, ap, subst, arith}
use Rattle.std.proofs.lemmas.List.{map-append}
use Rattle.std.proofs.lemmas.Bool.{cases_lt}
use Rattle.babel_prefix.specs.Block.{Block}
use Rattle.babel_prefix.specs.Covers.{BlockCovers}
use Rattle.babel_prefix.specs.Address.{block_of}
use Rattle.babel_prefix.specs.Best.{Row}
use Rattle.babel_prefix.specs.BestRow.{IsNoLonger}
use Rattle.babel_prefix.specs.Entries.{Entry, row_of}
use Rattle.babel_trie.specs.Shape.{Shape, leaf, height, value_at, IsReduced}
use Rattle.babel_trie.specs.Interned.{IsTrie, IsHalved, IsJoined}
use Rattle.babel_prefix.proofs.Members.{Listed}
use Rattle.babel_trie.specs.Rows.{IsPlace, InBlock, Overlays, source_block, AreParted}
use Rattle.babel_trie.specs.Laid.{HasOneDestination, IsSet, IsLaid}
use Rattle.babel_trie.specs.declared.table.Node.{Node}
use Rattle.babel_trie.specs.declared.table.Loose.{Loose}
use Rattle.babel_trie.specs.declared.table.Loose.TheVariants.{Same}
use Rattle.babel_trie.proofs.BitLaws.{pow_twice}
use Rattle.babel_trie.proofs.Reduced.{value_at-low, value_at-high}
use Rattle.babel_prefix.proofs.Members.{Listed-append_left, Listed-append_right}
use Rattle.babel_trie.proofs.OverlayLaws.{overlays_none, overlays_top, overlays_left, overlays_right, overlays_then}
use Rattle.babel_trie.proofs.PlaceLaws.{whole_covers, block_rest}
use Rattle.babel_trie.proofs.PartLaws.{from_map, to_map, high_is_apart, low_is_apart, own_covers}

module _ {V : Type 0} where
  source_of : Entry V → Block
  source_of row = (block_of row.1)

  -- what is set is laid over the old trie
  set_overlays : (w bits start : ℕ) (own : List (Entry V)) (old new : Shape (Option V)) →
      ((rows_are : own ≡ []) × (new ≡ old)) ⊎ ((row : Entry V) × Listed own row × (new ≡ leaf (Some row.2))) →
      HasOneDestination own → ((x : Entry V) → Listed own x → (block_of x.1).len ≡ w - bits) →
      ((x : Entry V) → Listed own x → (a : ℕ) → a < 2 ^ bits → BlockCovers w (block_of x.1) (start + a)) →
      (d a : ℕ) → ((row : Row V) → Listed (map row_of own) row → BlockCovers w row.dst d) → a < 2 ^ bits → Overlays w (map row_of own) d (start + a) (value_at old bits a) (value_at new bits a)
  set_overlays w bits start own old new (inl (none, same)) one lens covers d a dst a_in =
      subst (λ (rows : List (Entry V)). Overlays w (map row_of rows) d (start + a) (value_at old bits a) (value_at new bits a)) (sym none)
      (subst (λ t. Overlays w [] d (start + a) (value_at old bits a) (value_at t bits a)) (sym same) (overlays_none w d (start + a) (value_at old bits a)))
  set_overlays w bits start own old new (inr (row, listed, is)) one lens covers d a dst a_in =
      overlays_top w (map row_of own) d (start + a) (value_at old bits a) (value_at new bits a) (row_of row)
      (record {
        listed = to_map row_of own row listed;
        matching = (dst (row_of row) (to_map row_of own row listed), covers row listed a a_in);
        longest = λ other t m.
            let from = from_map row_of own other t in
            let other_len : other.src.len ≡ w - bits = subst (λ (r : Row V). r.src.len ≡ w - bits) from.2 (lens from.0 from.1) in
            let row_len : (block_of row.1).len ≡ w - bits = lens row listed in
            inr (subst (λ (r : Row V). r.dst ≡ (block_of row.0)) from.2 (one from.0 row from.1 listed), omega arith);
      })
      (ap (λ t. value_at t bits a) is)

  -- the height of what is set
  pub set_fits : (rows : List (Entry V)) (old new : Shape (Option V)) (bits : ℕ) →
      ((none : rows ≡ []) × (new ≡ old)) ⊎ ((row : Entry V) × Listed rows row × (new ≡ leaf (Some row.2))) → height old ≤ bits → height new ≤ bits
  set_fits rows old new bits (inl (none, same)) fits = subst (λ t. height t ≤ bits) (sym same) fits
  set_fits rows old new bits (inr (row, listed, is)) fits = subst (λ t. height t ≤ bits) (sym is) (omega arith)

  pub set_reduced : (rows : List (Entry V)) (old new : Shape (Option V)) →
      ((none : rows ≡ []) × (new ≡ old)) ⊎ ((row : Entry V) × Listed rows row × (new ≡ leaf (Some row.2))) → IsReduced old → IsReduced new
  set_reduced rows old new (inl (none, same)) r = subst IsReduced (sym same) r
  set_reduced rows old new (inr (row, listed, is)) r = subst IsReduced (sym is) tt

  -- where all rows are of the whole block, what is set is the whole
  pub overlaid_set : (w bits start : ℕ) (rows own : List (Entry V)) (nodes : List (Node (Option V))) (n : Loose (Option V)) (old : Shape (Option V))
      → IsPlace w bits start → InBlock source_block w bits start rows →
      HasOneDestination rows → rows ≡ own → ((x : Entry V) → Listed own x → (block_of x.1).len ≡ w - bits) → IsSet own nodes n old → IsLaid w bits start (map row_of rows) nodes n old
  overlaid_set w bits start rows own nodes n old place rows_in one all lens set =
      let own_in : InBlock source_block w bits start own = subst (InBlock source_block w bits start) all rows_in in
      subst (λ (r : List (Entry V)). IsLaid w bits start (map row_of r) nodes n old) (sym all) (record {
        new = set.new;
        stands = set.stands;
        fits = set_fits own old set.new bits set.is;
        reduced = set_reduced own old set.new set.is;
        values = set_overlays w bits start own old set.new set.is (subst HasOneDestination all one) lens
            (λ x t a a_in. whole_covers w bits start (block_of x.1) place (own_in.from_start x t) (own_in.before_end x t) (lens x t) a a_in);
      })

  -- one row from all sources of a block is the whole of its value
  pub overlaid_one : (w bits start : ℕ) (rows : List (Entry V)) (row : Entry V) (nodes : List (Node (Option V))) (old : Shape (Option V)) (value : V)
      → IsPlace w bits start → InBlock source_block w bits start rows →
      HasOneDestination rows → rows ≡ row ∷ [] → (block_of row.1).len ≡ w - bits → row.2 ≡ value → IsLaid w bits start (map row_of rows) nodes (Same (Some value)) old
  overlaid_one w bits start rows row nodes old value place rows_in one only len is =
      let listed : Listed rows row = subst (λ (xs : List (Entry V)). Listed xs row) (sym only) (inl refl) in
      let set : IsSet rows nodes (Same (Some value)) old = record { new = leaf (Some value); stands = refl; is = inr (row, listed, ap (λ v. leaf (Some v)) (sym is)) } in
      let lens : (x : Entry V) → Listed rows x → (block_of x.1).len ≡ w - bits = λ x t.
      elim (subst (λ (xs : List (Entry V)). Listed xs x) only t) [
        | inl same ↦ subst (λ (y : Entry V). (block_of y.1).len ≡ w - bits) same len
        | inr none ↦ absurd none
      ] in
      overlaid_set w bits start rows rows nodes (Same (Some value)) old place rows_in one refl lens set

  -- parts of rows of one destination
  pub one_left : (xs ys : List (Entry V)) → HasOneDestination (xs ++ ys) → HasOneDestination xs
  one_left xs ys one x y t u = one x y (Listed-append_left xs ys x t) (Listed-append_left xs ys y u)

  pub one_right : (xs ys : List (Entry V)) → HasOneDestination (xs ++ ys) → HasOneDestination ys
  one_right xs ys one x y t u = one x y (Listed-append_right xs ys x t) (Listed-append_right xs ys y u)

  -- the rows of the halves alone
  pub rest_parted : (w bits start : ℕ) (rows own low high : List (Entry V)) → AreParted source_block w bits start rows own low high → AreParted source_block w bits start (low ++ high) [] low high
  rest_parted w bits start rows own low high p = record {
    some = p.some;
    place = p.place;
    rows_in = block_rest source_block w bits start rows own (low ++ high) p.rows_in p.whole;
    whole = refl;
    own_len = λ x none. absurd none;
    longer = p.longer;
    low_in = p.low_in;
    high_in = p.high_in;
  }

  -- the rows of the halves are laid over what those of the whole block set
  pub laid_over_set : (w bits start : ℕ) (rows own low high : List (Entry V)) → AreParted source_block w bits start rows own low high → HasOneDestination rows →
      (nodes1 nodes2 : List (Node (Option V))) (n1 n : Loose (Option V)) (old : Shape (Option V)) → (set : IsSet own nodes1 n1 old) →
      IsLaid w bits start (map row_of (low ++ high)) nodes2 n set.new → IsLaid w bits start (map row_of rows) nodes2 n old
  laid_over_set w bits start rows own low high p one nodes1 nodes2 n1 n old set laid =
      let whole : map row_of rows ≡ map row_of own ++ map row_of (low ++ high) = ap (map row_of) p.whole ∙ map-append row_of own (low ++ high) in
      let own_one : HasOneDestination own = one_left own (low ++ high) (subst HasOneDestination p.whole one) in
      let no_longer : (x y : Row V) → Listed (map row_of own) x → Listed (map row_of (low ++ high)) y → IsNoLonger x y = λ x y t u.
      let fx = from_map row_of own x t in
      let fy = from_map row_of (low ++ high) y u in
      let same : (block_of fx.0.0) ≡ (block_of fy.0.0) =
      one fx.0 fy.0 (subst (λ r. Listed r fx.0) (sym p.whole) (Listed-append_left own (low ++ high) fx.0 fx.1))
      (subst (λ r. Listed r fy.0) (sym p.whole) (Listed-append_right own (low ++ high) fy.0 fy.1)) in
      let x_len : (block_of fx.0.1).len ≡ w - bits = p.own_len fx.0 fx.1 in
      let y_len : w - bits < (block_of fy.0.1).len = p.longer fy.0 fy.1 in
      let here : IsNoLonger (row_of fx.0) (row_of fy.0) = inr (same, omega arith) in
      subst (λ r. IsNoLonger r y) fx.2 (subst (IsNoLonger (row_of fx.0)) fy.2 here) in
      record {
        new = laid.new;
        stands = laid.stands;
        fits = λ f. laid.fits (set_fits own old set.new bits set.is f);
        reduced = λ r. laid.reduced (set_reduced own old set.new set.is r);
        values = λ d a dst a_in.
            let dst_own : (row : Row V) → Listed (map row_of own) row → BlockCovers w row.dst d =
            λ row t. dst row (subst (λ r. Listed r row) (sym whole) (Listed-append_left (map row_of own) (map row_of (low ++ high)) row t)) in
            let dst_rest : (row : Row V) → Listed (map row_of (low ++ high)) row → BlockCovers w row.dst d =
            λ row t. dst row (subst (λ r. Listed r row) (sym whole) (Listed-append_right (map row_of own) (map row_of (low ++ high)) row t)) in
            let first = set_overlays w bits start own old set.new set.is own_one p.own_len (own_covers source_block w bits start rows own low high p) d a dst_own a_in in
            subst (λ r. Overlays w r d (start + a) (value_at old bits a) (value_at laid.new bits a)) (sym whole)
            (overlays_then w (map row_of own) (map row_of (low ++ high)) d (start + a) (value_at old bits a) (value_at set.new bits a) (value_at laid.new bits a)
            (λ x y t u _ _. no_longer x y t u) first (laid.values d a dst_rest a_in));
      }

  -- the halves, with their rows laid over them, are joined
  pub overlaid_joined : (w bits start : ℕ) (low high : List (Entry V)) → AreParted source_block w bits start (low ++ high) [] low high →
      (nodes1 nodes2 nodes3 nodes4 : List (Node (Option V))) (l1 h1 l h n : Loose (Option V)) (old : Shape (Option V)) →
      (halved : IsHalved nodes1 old l1 h1) →
      (in_low : IsLaid w (bits - 1) start (map row_of low) nodes2 l halved.low_half) →
      (in_high : IsLaid w (bits - 1) (start + 2 ^ (bits - 1)) (map row_of high) nodes3 h halved.high_half) →
      (joined : IsJoined nodes4 n in_low.new in_high.new) → height old ≤ bits → IsLaid w bits start (map row_of (low ++ high)) nodes4 n old
  overlaid_joined w bits start low high p nodes1 nodes2 nodes3 nodes4 l1 h1 l h n old halved in_low in_high joined fits =
      let some = p.some in
      let low_fits : height halved.low_half ≤ bits - 1 = omega (arith, halved.low_lower) in
      let high_fits : height halved.high_half ≤ bits - 1 = omega (arith, halved.high_lower) in
      let new_low : height in_low.new ≤ bits - 1 = in_low.fits low_fits in
      let new_high : height in_high.new ≤ bits - 1 = in_high.fits high_fits in
      let twice = pow_twice bits some in
      let whole : map row_of (low ++ high) ≡ map row_of low ++ map row_of high = map-append row_of low high in
      let m : ℕ = 2 ^ (bits - 1) in
      record {
        new = joined.whole;
        stands = joined.stands;
        fits = λ _. omega (arith, joined.lower);
        reduced = λ r. let both = halved.reduced r in joined.reduced (in_low.reduced both.0) (in_high.reduced both.1);
        values = λ d a dst a_in.
            let dst_low : (row : Row V) → Listed (map row_of low) row → BlockCovers w row.dst d = λ row t.
            dst row (subst (λ r. Listed r row) (sym whole) (Listed-append_left (map row_of low) (map row_of high) row t)) in
            let dst_high : (row : Row V) → Listed (map row_of high) row → BlockCovers w row.dst d = λ row t.
            dst row (subst (λ r. Listed r row) (sym whole) (Listed-append_right (map row_of low) (map row_of high) row t)) in
            subst (λ r. Overlays w r d (start + a) (value_at old bits a) (value_at joined.whole bits a)) (sym whole)
            (elim (cases_lt a m) [
              | inl lt ↦
                  let before : value_at old bits a ≡ value_at halved.low_half (bits - 1) a = value_at-low old halved.low_half halved.high_half halved.halves bits a lt in
                  let after : value_at joined.whole bits a ≡ value_at in_low.new (bits - 1) a = value_at-low joined.whole in_low.new in_high.new joined.halves bits a lt in
                  overlays_left w (map row_of low) (map row_of high) d (start + a) (value_at old bits a) (value_at joined.whole bits a)
                  (λ row t match. let f = from_map row_of high row t in
                  high_is_apart source_block w bits start (low ++ high) [] low high p f.0 f.1 a lt (subst (λ (r : Row V). BlockCovers w r.src (start + a)) (sym f.2) match.1))
                  (subst (λ v. Overlays w (map row_of low) d (start + a) v (value_at joined.whole bits a)) (sym before)
                  (subst (Overlays w (map row_of low) d (start + a) (value_at halved.low_half (bits - 1) a)) (sym after) (in_low.values d a dst_low lt)))
              | inr ge ↦
                  let b : ℕ = a - m in
                  let b_in : b < m = omega arith in
                  let a_is : a ≡ 1 * m + b = omega arith in
                  let place_is : start + m + b ≡ start + a = omega arith in
                  let before : value_at old bits a ≡ value_at halved.high_half (bits - 1) b = ap (value_at old bits) a_is
                  ∙ value_at-high old halved.low_half halved.high_half halved.halves bits b high_fits b_in in
                  let after : value_at joined.whole bits a ≡ value_at in_high.new (bits - 1) b = ap (value_at joined.whole bits) a_is
                  ∙ value_at-high joined.whole in_low.new in_high.new joined.halves bits b new_high b_in in
                  let there : Overlays w (map row_of high) d (start + a) (value_at halved.high_half (bits - 1) b) (value_at in_high.new (bits - 1) b) =
                  subst (λ s. Overlays w (map row_of high) d s (value_at halved.high_half (bits - 1) b) (value_at in_high.new (bits - 1) b)) place_is (in_high.values d b dst_high b_in) in
                  overlays_right w (map row_of low) (map row_of high) d (start + a) (value_at old bits a) (value_at joined.whole bits a)
                  (λ row t match. let f = from_map row_of low row t in
                  low_is_apart source_block w bits start (low ++ high) [] low high p f.0 f.1 b
                  (subst (BlockCovers w (block_of f.0.1)) (sym place_is) (subst (λ (r : Row V). BlockCovers w r.src (start + a)) (sym f.2) match.1)))
                  (subst (λ v. Overlays w (map row_of high) d (start + a) v (value_at joined.whole bits a)) (sym before)
                  (subst (Overlays w (map row_of high) d (start + a) (value_at halved.high_half (bits - 1) b)) (sym after) there))
            ]);
      }

  -- the halves of what is set
  pub halved_tries : (bits : ℕ) (own : List (Entry V)) (nodes : List (Node (Option V))) (n l h : Loose (Option V)) (old : Shape (Option V))
      → (set : IsSet own nodes n old) → height old ≤ bits → IsReduced old → 0 < bits →
      IsHalved nodes set.new l h → IsTrie (bits - 1) nodes l × IsTrie (bits - 1) nodes h
  halved_tries bits own nodes n l h old set fits reduced some halved =
      let set_low : height set.new ≤ bits = set_fits own old set.new bits set.is fits in
      let both = halved.reduced (set_reduced own old set.new set.is reduced) in (
        record { trie = halved.low_half; stands = halved.low_stands; fits = omega (arith, halved.low_lower); reduced = both.0 },
        record { trie = halved.high_half; stands = halved.high_stands; fits = omega (arith, halved.high_lower); reduced = both.1 },
      )
