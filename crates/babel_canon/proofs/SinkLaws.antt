-- What sinks have of the boxes of two grids.
use Rattle.std.proofs.Common.{◌≡◌, ◌+◌, ◌≤◌, List, [], ◌∷◌, ◌++◌, length, map, refl, sym, ap, ◌∙◌, subst, append_assoc, arith}
use Rattle.std.specs.Borrow.{MutBor}
use Rattle.std.proofs.lemmas.List.{append-nil, length-map, map-append}
use Rattle.babel_prefix.specs.declared.family.Family.{Family}
use Rattle.babel_prefix.specs.declared.family.Family.TheVariants.{V4, V6}
use Rattle.babel_prefix.specs.Best.{Row}
use Rattle.babel_prefix.specs.Entries.{Entry}
use Rattle.babel_trie.specs.Nested.{entry_at}
use Rattle.babel_trie.specs.Sinks.{StopsAmong}
use Rattle.babel_tlv.specs.declared.held.Held.{Held}
use Rattle.babel_tlv.specs.Pair.{Pair}
use Rattle.babel_canon.specs.declared.unpacked.Unpacked.{Unpacked}
use Rattle.babel_canon.specs.declared.values.PackedValue.{PackedValue}
use Rattle.babel_canon.specs.declared.values.Values.{Values}
use Rattle.babel_canon.specs.Grids.{pair_at}
use Rattle.babel_canon.specs.Sinks.{HasUnpacked, numbered_pair}
use Rattle.babel_canon.specs.Values.{AreNumberedBoxes, valued, valued_pairs}
use Rattle.babel_table.specs.Bounds.{Bounds}
use Rattle.babel_table.specs.TableRows.{AreRows}
use Rattle.babel_canon.specs.Boxes.{AreBoxes}
use Rattle.babel_canon.specs.Canonical.{AreCanonical}
use Rattle.babel_canon.proofs.Families.{both_are_boxes, both-length}
use Rattle.babel_canon.proofs.Fewest.{boxes_are_fewest}

module _ (values : List Held) where
  pairs_of : (family : Family) (boxes : List (Row PackedValue)) → map (numbered_pair values) (map (entry_at family) boxes) ≡ map (pair_at family) (map (valued values) boxes)
  pairs_of family [] = refl
  pairs_of family (box ∷ boxes) = ap (λ (ps : List Pair). pair_at family (valued values box) ∷ ps) (pairs_of family boxes)

  pub pairs_of_both : (v4 v6 : List (Row PackedValue)) → map (numbered_pair values) (([] ++ map (entry_at V4) v4) ++ map (entry_at V6) v6) ≡ valued_pairs values v4 v6
  pairs_of_both v4 v6 =
      map-append (numbered_pair values) (map (entry_at V4) v4) (map (entry_at V6) v6)
      ∙ ap (λ (ps : List Pair). ps ++ map (numbered_pair values) (map (entry_at V6) v6)) (pairs_of V4 v4)
      ∙ ap (λ (ps : List Pair). map (pair_at V4) (map (valued values) v4) ++ ps) (pairs_of V6 v6)

  pub boxes-length : (v4 v6 : List (Row PackedValue)) → length (valued_pairs values v4 v6) ≡ length v4 + length v6
  boxes-length v4 v6 = omega (arith, both-length (map (valued values) v4) (map (valued values) v6), length-map v4 (valued values), length-map v6 (valued values))

  -- the boxes of both are those of the rows
  pub boxes_of_both : (rows : List Pair) (v4 v6 : List (Row PackedValue)) → AreRows rows
      → AreNumberedBoxes V4 rows values v4 → AreNumberedBoxes V6 rows values v6 → AreBoxes rows (valued_pairs values v4 v6)
  boxes_of_both rows v4 v6 are v4_are v6_are = both_are_boxes rows (map (valued values) v4) (map (valued values) v6) are v4_are.boxes_are v6_are.boxes_are

  -- the boxes of both are the canonical pairs, where they are few
  pub boxes_canonical : (limits : Bounds) (rows : List Pair) (v4 v6 : List (Row PackedValue)) → AreBoxes rows (valued_pairs values v4 v6)
      → length v4 + length v6 ≤ limits.entries → AreCanonical limits rows (valued_pairs values v4 v6)
  boxes_canonical limits rows v4 v6 are few = record {
    boxes = are;
    few = omega (arith, boxes-length v4 v6, few);
    fewest = boxes_are_fewest rows (valued_pairs values v4 v6) are;
  }

module _ {S : Type 0} (Has Then : S → S → List Pair → Type 0) (given values : List Held) (begun out new : MutBor S) (rows : List (Entry PackedValue)) where
  -- one row more
  pub unpacked_more : (row : Entry PackedValue) (pair : Pair) → new.ghost_name ≡ out.ghost_name → pair ≡ numbered_pair values row
      → ((start : S) (pairs : List Pair) → Has start out.now pairs → Then start new.now (pairs ++ pair ∷ []))
      → HasUnpacked Has Has given begun values out rows → HasUnpacked Has Then given begun values new (rows ++ row ∷ [])
  unpacked_more row pair same is more so =
      let f = numbered_pair given in
      let pair_is : pair ≡ f row = is ∙ ap (λ (vs : List Held). numbered_pair vs row) so.values_are in
      record {
        values_are = so.values_are;
        same_sink = same ∙ so.same_sink;
        has = λ start pairs had. subst (Then start new.now)
            (append_assoc pairs (map f rows) (pair ∷ []) ∙ ap (λ (ps : List Pair). pairs ++ ps) (ap (λ (p : Pair). map f rows ++ p ∷ []) pair_is ∙ sym (map-append f rows (row ∷ []))))
            (more start (pairs ++ map f rows) (so.has start pairs had));
      }

-- The boxes of both families are put into a sink by way of one that unpacks their values. `end` is what the sink then is.
module _ {S : Type 0} (Has Then : S → S → List Pair → Type 0) (values : Values) (v4 v6 : List (Row PackedValue)) (all : List Pair) (out new_out : MutBor S) (new_values : List Held) (end : S) where
  abbrev all_rows : List (Entry PackedValue)
  all_rows = map (entry_at V4) v4 ++ map (entry_at V6) v6

  abbrev Before : Unpacked S → List (Entry PackedValue) → Type 0
  Before sink rows = HasUnpacked Has Has sink.values.now.list.items sink.out values.list.items out rows

  abbrev After : Unpacked S → List (Entry PackedValue) → Type 0
  After sink rows = HasUnpacked Has Then sink.values.now.list.items sink.out new_values new_out rows

  abbrev sink_before : Unpacked S
  sink_before = record { values = record { ref_ptr = (0, 0); now = values }; out = out }

  nothing_yet : Before sink_before []
  nothing_yet = record {
    values_are = refl;
    same_sink = refl;
    has = λ start pairs had. subst (Has start out.now) (sym (append-nil pairs)) had;
  }

  module _ (all_is : valued_pairs values.list.items v4 v6 ≡ all) (ends : out.ghost_name ≡ new_out.ghost_name → end ≡ new_out.now) where
    -- it has all of them
    pub unpacked_put : ((sink : Unpacked S) (rows : List (Entry PackedValue)) → Before sink rows → After sink ((rows ++ map (entry_at V4) v4) ++ map (entry_at V6) v6))
        → (start : S) (pairs : List Pair) → Has start out.now pairs → Then start end (pairs ++ all)
    unpacked_put put start pairs had =
        let done = put sink_before [] nothing_yet in
        subst (λ (s : S). Then start s (pairs ++ all)) (sym (ends (sym done.same_sink)))
        (subst (λ (ps : List Pair). Then start new_out.now (pairs ++ ps)) (pairs_of_both values.list.items v4 v6 ∙ all_is) (done.has start pairs had))

    -- it stopped at one of them
    pub unpacked_stops : ((sink : Unpacked S) (rows : List (Entry PackedValue)) → Before sink rows → StopsAmong (After sink) rows all_rows)
        → (start : S) (pairs : List Pair) → Has start out.now pairs → StopsAmong (Then start end) pairs all
    unpacked_stops stops start pairs had =
        let f = numbered_pair values.list.items in
        let s = stops sink_before [] nothing_yet in
        record {
          first = map f s.first;
          rest = map f s.rest;
          whole = sym all_is ∙ sym (pairs_of_both values.list.items v4 v6) ∙ ap (map f) s.whole ∙ map-append f s.first s.rest;
          stopped = subst (λ (x : S). Then start x (pairs ++ map f s.first)) (sym (ends (sym s.stopped.same_sink))) (s.stopped.has start pairs had);
        }
