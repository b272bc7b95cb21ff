-- Lists of values that grow, and the rows, boxes and pairs that have numbers in them.
use Rattle.std.proofs.Common.{◌≡◌, ℕ, zero, suc, ◌<◌, Bool, cond, List, [], ◌∷◌, ◌++◌, length, map, get_or, Option, Some, None, Ordering, refl, sym, ap, subst, ◌∙◌, arith, inl, inr, rules}
use Rattle.std.specs.List.{All, filter, slice_get}
use Rattle.std.specs.Option.{unwrap_or}
use Rattle.std.specs.BTreeMap.{BTreeMap, get, is_at}
use Rattle.std.specs.Ordering.{is_eq}
use Rattle.std.specs.declared.cmp.Ordering.TheVariants.{Less, Equal, Greater}
use Rattle.std.proofs.Math.Path.{fun_ext}
use Rattle.std.proofs.lemmas.Bool.{ne_eqb}
use Rattle.std.specs.Prelude.{◌≢◌, if◌then◌else◌}
use Rattle.std.proofs.lemmas.List.{length-map, map-append}
use Rattle.std.proofs.lemmas.List.Elements.{All-head, All-tail, All-map, All-push}
use Rattle.std.proofs.lemmas.Option.{get_or_from_slice_get}
use Rattle.babel_prefix.specs.declared.family.Family.{Family}
use Rattle.babel_prefix.specs.Width.{width_of}
use Rattle.babel_prefix.specs.Best.{Row, answer}
use Rattle.babel_prefix.specs.Entries.{Entry, are_of_family, row_of, rows_in, answers_in}
use Rattle.babel_prefix.specs.BestRow.{AreOfFamily, HasDistinctPrefixes}
use Rattle.babel_prefix.proofs.EntryLaws.{rows_in-all}
use Rattle.babel_trie.specs.Boxes.{IsBoxList}
use Rattle.babel_trie.proofs.NumberLaws.{slice_get-push, slice_get-kept, slice_get-push_cases, slice_get_in}
use Rattle.babel_tlv.specs.declared.held.Held.{Held}
use Rattle.babel_tlv.specs.declared.held.Held.TheVariants as helds
use Rattle.babel_tlv.specs.contracts.held.HeldOrd.TheImpl.{ghosts}
use Rattle.babel_tlv.specs.Keys.{AreOfOneFamily}
use Rattle.babel_tlv.specs.Group.{held_seqno, held_metric}
use Rattle.babel_tlv.specs.Pair.{Pair}
use Rattle.babel_tlv.specs.Pairs.{held_cmp}
use Rattle.babel_tlv.proofs.OrderLaws.{held_exact}
use Rattle.babel_table.specs.Rows.{entries_of}
use Rattle.babel_canon.specs.declared.values.PackedValue.{PackedValue}
use Rattle.babel_canon.specs.Grids.{AreFamilyBoxes}
use Rattle.babel_canon.specs.Values.{HasFiniteMetric, AreNumbered, AreNumberedBoxes, AreNumberedEntries, KeepsValues, HasValue, IsPacked, origin_of, restored, value_of, valued, valued_entry}
use Rattle.babel_canon.proofs.Boxes.{held_tied}
use Rattle.babel_canon.proofs.Entries.{kept}
use Rattle.babel_canon.proofs.Numbered.{AreDistinct, Says, rows_say, boxes_by_value, numbers_of_boxes}

-- ---- one origin more

-- the order of the type is the stated one
pub held_order : ghosts.cmp ≡ held_cmp
held_order = fun_ext (λ a. fun_ext (λ b. one a b))
  where
    one : (a b : Held) → ghosts.cmp a b ≡ held_cmp a b
    one (helds.Route a) (helds.Route b) = search rules
    one (helds.Route a) helds.Unreachable = search rules
    one helds.Unreachable (helds.Route b) = search rules
    one helds.Unreachable helds.Unreachable = search rules

pub numbered_after_push : (values : List Held) (numbers after : BTreeMap Held ℕ) (held : Held) (number : ℕ) → number ≡ length values → AreNumbered values numbers
    → get held_cmp numbers held ≡ None → ((q : Held) → get held_cmp after q ≡ cond (is_at (held_cmp held) q) (Some number) (get held_cmp numbers q)) → AreNumbered (values ++ held ∷ []) after
numbered_after_push values numbers after held number is_last numbered absent update = record { exact = λ q n. (to q n, from q n) }
  where
    to_by : (q : Held) (n : ℕ) (o : Ordering) → held_cmp held q ≡ o → cond (is_eq o) (Some number) (get held_cmp numbers q) ≡ Some n → slice_get (values ++ held ∷ []) n ≡ Some q
    to_by q n Equal is e =
        let same : held ≡ q = held_exact held q is in
        let last : number ≡ n = cc in
        subst (λ (k : ℕ). slice_get (values ++ held ∷ []) k ≡ Some q) (sym is_last ∙ last) (slice_get-push values held ∙ ap Some same)
    to_by q n Less is e = slice_get-kept values held n q ((numbered.exact q n).0 e)
    to_by q n Greater is e = slice_get-kept values held n q ((numbered.exact q n).0 e)

    to : (q : Held) (n : ℕ) → get held_cmp after q ≡ Some n → slice_get (values ++ held ∷ []) n ≡ Some q
    to q n e = to_by q n (held_cmp held q) refl (sym (update q) ∙ e)

    from_old : (q : Held) (n : ℕ) → get held_cmp numbers q ≡ Some n → (o : Ordering) → held_cmp held q ≡ o → cond (is_eq o) (Some number) (get held_cmp numbers q) ≡ Some n
    from_old q n e Equal is = let same : held ≡ q = held_exact held q is in let there : get held_cmp numbers held ≡ Some n = ap (get held_cmp numbers) same ∙ e in absurd cc
    from_old q n e Less is = e
    from_old q n e Greater is = e

    from : (q : Held) (n : ℕ) → slice_get (values ++ held ∷ []) n ≡ Some q → get held_cmp after q ≡ Some n
    from q n e = elim (slice_get-push_cases values held n q e) [
      | inl old ↦ update q ∙ from_old q n ((numbered.exact q n).1 old) (held_cmp held q) refl
      | inr last ↦
          let here : held_cmp held q ≡ Equal = ap (held_cmp held) (sym last.1) ∙ held_tied held in
          update q ∙ ap (λ (o : Ordering). cond (is_eq o) (Some number) (get held_cmp numbers q)) here ∙ ap Some (is_last ∙ sym last.0)
    ]

-- a number that an origin has, put in again, changes nothing
numbered_after_same : (values : List Held) (numbers after : BTreeMap Held ℕ) (held : Held) (number : ℕ) → AreNumbered values numbers → get held_cmp numbers held ≡ Some number
    → ((q : Held) → get held_cmp after q ≡ cond (is_at (held_cmp held) q) (Some number) (get held_cmp numbers q)) → AreNumbered values after
numbered_after_same values numbers after held number numbered there update =
    record { exact = λ q n. ((λ e. (numbered.exact q n).0 (sym (same q) ∙ e)), (λ e. same q ∙ (numbered.exact q n).1 e)) }
  where
    by : (q : Held) (o : Ordering) → held_cmp held q ≡ o → cond (is_eq o) (Some number) (get held_cmp numbers q) ≡ get held_cmp numbers q
    by q Equal is = sym there ∙ ap (get held_cmp numbers) (held_exact held q is)
    by q Less is = refl
    by q Greater is = refl

    same : (q : Held) → get held_cmp after q ≡ get held_cmp numbers q
    same q = update q ∙ by q (held_cmp held q) refl

-- what a map has or else the next number: it had none if that is the next one, since all that it has are below
pub absent_where_next : (values : List Held) (numbers : BTreeMap Held ℕ) (held : Held) → AreNumbered values numbers
    → unwrap_or (get held_cmp numbers held) (length values) ≡ length values → get held_cmp numbers held ≡ None
absent_where_next values numbers held numbered is = by (get held_cmp numbers held) refl is
  where
    by : (o : Option ℕ) → get held_cmp numbers held ≡ o → unwrap_or o (length values) ≡ length values → o ≡ None
    by None found same = refl
    by (Some n) found same =
        let below : n < length values = slice_get_in values n held ((numbered.exact held n).0 found) in
        let last : n ≡ length values = same in
        absurd (omega arith)

present_where_other : (o : Option ℕ) (number next : ℕ) → number ≡ unwrap_or o next → number ≢ next → o ≡ Some number
present_where_other None number next is other = absurd (other is)
present_where_other (Some n) number next is other = ap Some (sym is)

-- the same, by the order of the type
module _ (values : List Held) (numbers : BTreeMap Held ℕ) where
  pub numbered_again : (after : BTreeMap Held ℕ) (held : Held) (number next : ℕ) → AreNumbered values numbers
      → number ≡ unwrap_or (get ghosts.cmp numbers held) next → number ≢ next
      → ((q : Held) → get ghosts.cmp after q ≡ cond (is_at (ghosts.cmp held) q) (Some number) (get ghosts.cmp numbers q))
      → AreNumbered values after × (slice_get values number ≡ Some held)
  numbered_again after held number next numbered is other update =
      let there : get held_cmp numbers held ≡ Some number =
      subst (λ (k : Held → Held → Ordering). get k numbers held ≡ Some number) held_order (present_where_other (get ghosts.cmp numbers held) number next is other) in (
        numbered_after_same values numbers after held number numbered there
            (subst (λ (k : Held → Held → Ordering). (q : Held) → get k after q ≡ cond (is_at (k held) q) (Some number) (get k numbers q)) held_order update),
        (numbered.exact held number).0 there,
      )

  pub numbered_next : (after : BTreeMap Held ℕ) (held : Held) (number : ℕ) → AreNumbered values numbers → number ≡ length values
      → number ≡ unwrap_or (get ghosts.cmp numbers held) (length values)
      → ((q : Held) → get ghosts.cmp after q ≡ cond (is_at (ghosts.cmp held) q) (Some number) (get ghosts.cmp numbers q)) → AreNumbered (values ++ held ∷ []) after
  numbered_next after held number numbered is_last is update =
      numbered_after_push values numbers after held number is_last numbered
      (absent_where_next values numbers held numbered
      (subst (λ (k : Held → Held → Ordering). unwrap_or (get k numbers held) (length values) ≡ length values) held_order (sym is ∙ is_last)))
      (subst (λ (k : Held → Held → Ordering). (q : Held) → get k after q ≡ cond (is_at (k held) q) (Some number) (get k numbers q)) held_order update)

pub distinct : (values : List Held) (numbers : BTreeMap Held ℕ) → AreNumbered values numbers → AreDistinct values
distinct values numbers numbered i j held p q =
    let same : Some i ≡ Some j = sym ((numbered.exact held i).1 p) ∙ (numbered.exact held j).1 q in
    cc

-- ---- numbers keep their values

module _ (old new : List Held) (keeps : KeepsValues old new) where
  packed_still : (n : PackedValue) (h : Held) → IsPacked old h n → IsPacked new h n
  packed_still n h is =
      let there : slice_get new n.origin ≡ Some (origin_of h) = keeps n.origin (origin_of h) is.origin in
      record {
        origin = there;
        seqno = is.seqno;
        metric = is.metric;
        restores = ap (λ (o : Held). restored o n.seqno n.metric) (get_or_from_slice_get new n.origin (origin_of h) helds.Unreachable there
            ∙ sym (get_or_from_slice_get old n.origin (origin_of h) helds.Unreachable is.origin)) ∙ is.restores;
      }

  value_still : (n : PackedValue) → HasValue old n → value_of new n ≡ value_of old n
  value_still n is = (packed_still n (value_of old n) is).restores

  has_still : (n : PackedValue) → HasValue old n → HasValue new n
  has_still n is = subst (λ (h : Held). IsPacked new h n) (sym (value_still n is)) (packed_still n (value_of old n) is)

  entries_valued : (entries : List (Entry PackedValue)) → All (λ entry. HasValue old entry.2) entries → map (valued_entry new) entries ≡ map (valued_entry old) entries
  entries_valued [] all = refl
  entries_valued (entry ∷ entries) all =
      ap (λ (h : Held). let e : Entry Held = (entry.0, entry.1, h) in e ∷ map (valued_entry new) entries)
      (value_still entry.2 (All-head (λ (e : Entry PackedValue). HasValue old e.2) entry entries all))
      ∙ ap (λ (es : List (Entry Held)). valued_entry old entry ∷ es) (entries_valued entries (All-tail (λ (e : Entry PackedValue). HasValue old e.2) entry entries all))

  pub entries_still : (family : Family) (rows : List Pair) (entries : List (Entry PackedValue)) → AreNumberedEntries family rows old entries → AreNumberedEntries family rows new entries
  entries_still family rows entries are = record {
    of_family = are.of_family;
    numbers = λ i d i_in. has_still (get_or entries i d).2 (are.numbers i d i_in);
    items = entries_valued entries are.numbers ∙ are.items;
  }

  rows_still : (rows : List (Row PackedValue)) → All (λ row. HasValue old row.value) rows → map (valued new) rows ≡ map (valued old) rows
  rows_still [] all = refl
  rows_still (row ∷ rows) all =
      ap (λ (h : Held). let r : Row Held = record { dst = row.dst; src = row.src; value = h } in r ∷ map (valued new) rows)
      (value_still row.value (All-head (λ (r : Row PackedValue). HasValue old r.value) row rows all))
      ∙ ap (λ (rs : List (Row Held)). valued old row ∷ rs) (rows_still rows (All-tail (λ (r : Row PackedValue). HasValue old r.value) row rows all))

  pub boxes_still : (family : Family) (rows : List Pair) (boxes : List (Row PackedValue)) → AreNumberedBoxes family rows old boxes → AreNumberedBoxes family rows new boxes
  boxes_still family rows boxes are = record {
    numbers = λ i d i_in. has_still (get_or boxes i d).value (are.numbers i d i_in);
    boxes_are = subst (λ (bs : List (Row Held)). AreFamilyBoxes family rows bs) (sym (rows_still boxes are.numbers)) are.boxes_are;
  }

-- ---- entries with the values of their numbers

module _ (values : List Held) where
  rows_valued : (entries : List (Entry PackedValue)) → map row_of (map (valued_entry values) entries) ≡ map (valued values) (map row_of entries)
  rows_valued [] = refl
  rows_valued (entry ∷ entries) = ap (λ (rs : List (Row Held)). row_of (valued_entry values entry) ∷ rs) (rows_valued entries)

  rows_numbers : (entries : List (Entry PackedValue)) → All (λ entry. HasValue values entry.2) entries → All (λ row. HasValue values row.value) (map row_of entries)
  rows_numbers entries all = All-map (λ (row : Row PackedValue). HasValue values row.value) row_of entries all

  -- what the entries of rows in a family answer by number, the rows answer by value
  pub entries_say : (family : Family) (rows : List Pair) (entries : List (Entry PackedValue)) → AreNumberedEntries family rows values entries
      → (d s : ℕ) → Says values (answers_in family entries d s) (answers_in family (entries_of rows) d s)
  entries_say family rows entries are d s =
      let w = width_of family in
      let valued_rows : map (valued values) (map row_of entries) ≡ rows_in family (entries_of rows) = sym (rows_valued entries) ∙ ap (map row_of) are.items in
      subst (λ (rs : List (Row PackedValue)). Says values (answer w rs d s) (answers_in family (entries_of rows) d s)) (sym (rows_in-all family entries are.of_family))
      (subst (λ (rs : List (Row Held)). Says values (answer w (map row_of entries) d s) (answer w rs d s)) valued_rows
      (rows_say values w (map row_of entries) (rows_numbers entries are.numbers) d s))

  -- boxes by number of the entries of rows in a family are boxes of the rows
  pub numbered_boxes : AreDistinct values → (family : Family) (rows : List Pair) (entries : List (Entry PackedValue)) (boxes : List (Row PackedValue)) → AreNumberedEntries family rows values entries
      → IsBoxList (width_of family) (answers_in family entries) boxes → AreNumberedBoxes family rows values boxes
  numbered_boxes once family rows entries boxes entries_are are =
      let says = entries_say family rows entries entries_are in
      record {
        numbers = numbers_of_boxes values once (width_of family) (answers_in family entries) (answers_in family (entries_of rows)) says boxes are;
        boxes_are = boxes_by_value values once (width_of family) (answers_in family entries) (answers_in family (entries_of rows)) says boxes are;
      }

  -- entries have two prefixes once if they have with their values
  pub distinct_prefixes : (entries : List (Entry PackedValue)) → HasDistinctPrefixes (map (valued_entry values) entries) → HasDistinctPrefixes entries
  distinct_prefixes entries apart i j d lt j_in =
      let j_at = at_place entries j d j_in in
      let i_at = at_place entries i d (omega arith) in
      let inside : j < length (map (valued_entry values) entries) = subst (λ (n : ℕ). j < n) (sym (length-map entries (valued_entry values))) j_in in
      λ dst src. apart i j (valued_entry values d) lt inside
      (ap (λ (e : Entry Held). e.0) i_at ∙ dst ∙ sym (ap (λ (e : Entry Held). e.0) j_at))
      (ap (λ (e : Entry Held). e.1) i_at ∙ src ∙ sym (ap (λ (e : Entry Held). e.1) j_at))
    where
      at_place : (xs : List (Entry PackedValue)) (i : ℕ) (d : Entry PackedValue) → i < length xs → get_or (map (valued_entry values) xs) i (valued_entry values d) ≡ valued_entry values (get_or xs i d)
      at_place [] i d i_in = absurd (omega arith)
      at_place (x ∷ xs) zero d i_in = refl
      at_place (x ∷ xs) (suc i) d i_in = at_place xs i d (omega arith)

-- ---- the rows of one family as entries

pub kept_by : (family : Family) (rows : List Pair) (row : Pair) (values more : List Held) (number : PackedValue) (old new : List (Entry PackedValue))
    → AreOfOneFamily row.0 → row.0.dst.address.family ≡ family → new ≡ old ++ (row.0.dst, row.0.src, number) ∷ [] → KeepsValues values more → IsPacked more row.1 number
    → AreNumberedEntries family rows values old → AreNumberedEntries family (rows ++ row ∷ []) more new
kept_by family rows row values more number old new one_family here new_is keeps found so_far =
    let entry : Entry PackedValue = (row.0.dst, row.0.src, number) in
    let there : row.0.src.address.family ≡ family = sym one_family ∙ here in
    let still = entries_still values more keeps family rows old so_far in
    let held : value_of more number ≡ row.1 = found.restores in
    record {
      of_family = subst (λ (es : List (Entry PackedValue)). All (AreOfFamily family) es) (sym new_is) (All-push (AreOfFamily family) old entry still.of_family (here, there));
      numbers = subst (λ (es : List (Entry PackedValue)). All (λ e. HasValue more e.2) es) (sym new_is)
          (All-push (λ (e : Entry PackedValue). HasValue more e.2) old entry still.numbers (subst (λ (h : Held). IsPacked more h number) (sym held) found));
      items = ap (map (valued_entry more)) new_is ∙ map-append (valued_entry more) old (entry ∷ [])
          ∙ ap (λ (es : List (Entry Held)). es ++ valued_entry more entry ∷ []) still.items
          ∙ ap (λ (h : Held). let e : Entry Held = (row.0.dst, row.0.src, h) in filter (are_of_family family) (entries_of rows) ++ e ∷ []) held
          ∙ sym (kept family rows row here there);
    }

-- ---- one value packed

-- what is held is packed by its origin's number
pub packed_by : (origins : List Held) (held : Held) (value : PackedValue) → HasFiniteMetric held
    → slice_get origins value.origin ≡ Some (origin_of held) → value.seqno ≡ held_seqno held → value.metric ≡ held_metric held
    → IsPacked origins held value
packed_by origins held value fits origin seqno metric = record {
  origin = origin;
  seqno = seqno;
  metric = metric;
  restores = ap (λ (o : Held). restored o value.seqno value.metric) (get_or_from_slice_get origins value.origin (origin_of held) helds.Unreachable origin)
      ∙ ap (λ (n : ℕ). restored (origin_of held) n value.metric) seqno ∙ ap (λ (n : ℕ). restored (origin_of held) (held_seqno held) n) metric ∙ whole held fits;
}
  where
    whole : (h : Held) → HasFiniteMetric h → restored (origin_of h) (held_seqno h) (held_metric h) ≡ h
    whole (helds.Route ann) finite = ap (λ (b : Bool). if b then helds.Unreachable else helds.Route ann) (ne_eqb ann.metric 65535 finite)
    whole helds.Unreachable fits = refl
