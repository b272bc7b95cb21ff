-- The boxes of the two families, one list behind the other, are the boxes.
use Rattle.std.proofs.Common.{◌≡◌, ℕ, zero, suc, ◌+◌, ◌<◌, Bool, true, false, cond, List, [], ◌∷◌, ◌++◌, length, map, get_or, refl, sym, ap, subst, ◌∙◌, arith, inl, inr, Contains}
use Rattle.std.specs.List.{AllByRecursion, All, AllPairs, filter}
use Rattle.std.specs.List.Sorted.{IsStrictlySortedBy}
use Rattle.std.specs.Map.{keys_of}
use Rattle.std.specs.Ordering.{nat_cmp}
use Rattle.std.specs.declared.cmp.Ordering.TheVariants.{Less, Equal}
use Rattle.std.proofs.Math.ListN.{get_or-map}
use Rattle.std.proofs.lemmas.Bool.{cases_order}
use Rattle.std.proofs.lemmas.Bool.Decides.{nat_tests}
use Rattle.std.proofs.lemmas.List.{length-append, length-map, map-append, append-nil}
use Rattle.std.proofs.lemmas.List.Elements.{All-append, All-head, All-tail, filter-append}
use Rattle.std.proofs.lemmas.List.Kept.{AllPairs-cons}
use Rattle.std.proofs.lemmas.Map.Keys.{sorted_from_all_adjacent}
use Rattle.babel_prefix.specs.declared.family.Family.{Family}
use Rattle.babel_prefix.specs.declared.family.Family.TheVariants.{V4, V6}
use Rattle.babel_prefix.specs.Width.{width_of}
use Rattle.babel_prefix.specs.Order.{family_rank}
use Rattle.babel_prefix.specs.Block.{Block}
use Rattle.babel_prefix.specs.Covers.{BlockCovers, IsBlock, parent}
use Rattle.babel_prefix.specs.Address.{block_of, prefix_of}
use Rattle.babel_prefix.specs.Best.{Row}
use Rattle.babel_prefix.specs.Entries.{Entry, are_of_family, row_of, rows_in, answers_in}
use Rattle.babel_prefix.specs.BestRow.{AreOfFamily}
use Rattle.babel_prefix.proofs.BlockLaws.{same_block, parent_within}
use Rattle.babel_prefix.proofs.EntryLaws.{rows_in-all, map-Listed}
use Rattle.babel_prefix.proofs.Members.{Listed, Listed-from_Contains, Contains-from_Listed}
use Rattle.babel_trie.specs.Boxes.{Answers, IsBox, IsBefore, IsBoxList}
use Rattle.babel_trie.proofs.BoxLaws.{IsUniform-narrower}
use Rattle.babel_tlv.specs.declared.held.Held.{Held}
use Rattle.babel_tlv.specs.declared.held.Held.TheVariants as helds
use Rattle.babel_tlv.specs.Route.{RouteKey}
use Rattle.babel_tlv.specs.Keys.{key_cmp}
use Rattle.babel_tlv.specs.Pair.{Pair}
use Rattle.babel_tlv.specs.Pairs.{FitsKey, IsHopFor, IsPair}
use Rattle.babel_table.specs.Rows.{entries_of}
use Rattle.babel_table.specs.TableRows.{AreRows}
use Rattle.babel_tlv.proofs.OrderLaws.{key_total}
use Rattle.babel_canon.specs.Boxes.{AreBoxes}
use Rattle.babel_canon.specs.Grids.{pair_at, pair_of, both_families, AreFamilyBoxes}
use Rattle.babel_canon.proofs.Boxes.{entry_of, held_by_row, all_in}

abbrev key_of : Entry Held → RouteKey
key_of entry = record { dst = entry.0; src = entry.1 }

-- ---- the boxes of a family rise

-- boxes at one destination address have one destination
same_dst : (w : ℕ) (f : Answers Held) (box other : Row Held) → IsBox w f box → IsBox w f other → box.dst.start ≡ other.dst.start → box.dst ≡ other.dst
same_dst w f box other b o same =
    let d = other.dst.start in
    let covers : BlockCovers w box.dst d = subst (λ (n : ℕ). BlockCovers w box.dst n) same refl in
    elim (cases_order box.dst.len other.dst.len) [
      | inl e ↦ same_block w box.dst other.dst d b.dst_is_prefix o.dst_is_prefix e covers refl
      | inr either ↦ absurd (elim either [
        | inl lt ↦ o.dst_is_longest (omega arith) (IsUniform-narrower w f box.dst (parent w other.dst) (parent_within w box.dst other.dst d lt covers refl) b.uniform)
        | inr gt ↦ b.dst_is_longest (omega arith) (IsUniform-narrower w f other.dst (parent w box.dst) (parent_within w other.dst box.dst d gt refl covers) o.uniform)
      ])
    ]

family_tied : (f g : Family) → f ≡ g → nat_cmp (family_rank f) (family_rank g) ≡ Equal
family_tied f g e = ap (λ (h : Family). nat_cmp (family_rank f) (family_rank h)) (sym e) ∙ itself f
  where
    itself : (f : Family) → nat_cmp (family_rank f) (family_rank f) ≡ Equal
    itself V4 = refl
    itself V6 = refl

nat_tied : (m n : ℕ) → m ≡ n → nat_cmp m n ≡ Equal
nat_tied m n e = grind (arith, nat_tests)

nat_less : (m n : ℕ) → m < n → nat_cmp m n ≡ Less
nat_less m n lt = grind (arith, nat_tests)

abbrev IsLess : Entry Held → Entry Held → Type 0
IsLess entry later = key_cmp (key_of entry) (key_of later) ≡ Less

before_less : (family : Family) (f : Answers Held) (a b : Entry Held) → AreOfFamily family a → AreOfFamily family b → IsBox (width_of family) f (row_of a) → IsBox (width_of family) f (row_of b)
    → IsBefore (row_of a) (row_of b) → IsLess a b
before_less family f a b a_of b_of a_box b_box (inl lt) =
    rw (family_tied a.0.address.family b.0.address.family (a_of.0 ∙ sym b_of.0), nat_less a.0.address.bits b.0.address.bits lt) refl
before_less family f a b a_of b_of a_box b_box (inr (same, lt)) =
    let len : a.0.len ≡ b.0.len = ap (λ (p : Block). p.len) (same_dst (width_of family) f (row_of a) (row_of b) a_box b_box same) in
    rw (
      family_tied a.0.address.family b.0.address.family (a_of.0 ∙ sym b_of.0),
      nat_tied a.0.address.bits b.0.address.bits same,
      nat_tied a.0.len b.0.len len,
      family_tied a.1.address.family b.1.address.family (a_of.1 ∙ sym b_of.1),
      nat_less a.1.address.bits b.1.address.bits lt,
    ) refl

-- a member of a mapped list at a place
at_place : (entries : List (Entry Held)) (i : ℕ) (d : Entry Held) → i < length entries → Contains (map row_of entries) (row_of (get_or entries i d))
at_place entries i d i_in = (i, subst (λ (n : ℕ). i < n) (sym (length-map entries row_of)) i_in, get_or-at entries i d i_in)
  where
    get_or-at : (xs : List (Entry Held)) (i : ℕ) (d : Entry Held) → i < length xs → get_or (map row_of xs) i (row_of (get_or xs i d)) ≡ row_of (get_or xs i d)
    get_or-at [] i d i_in = absurd (omega arith)
    get_or-at (x ∷ xs) zero d i_in = refl
    get_or-at (x ∷ xs) (suc i) d i_in = get_or-at xs i d (omega arith)

family_rises : (family : Family) (f : Answers Held) (entries : List (Entry Held)) → All (AreOfFamily family) entries → IsBoxList (width_of family) f (map row_of entries) → AllPairs IsLess entries
family_rises family f entries of_family boxes i j d lt j_in =
    let i_in : i < length entries = omega arith in
    let inside : j < length (map row_of entries) = subst (λ (n : ℕ). j < n) (sym (length-map entries row_of)) j_in in
    let before : IsBefore (row_of (get_or entries i d)) (row_of (get_or entries j d)) =
    subst (λ (r : Row Held). IsBefore r (row_of (get_or entries j d))) (get_or-map row_of entries i d)
    (subst (λ (r : Row Held). IsBefore (get_or (map row_of entries) i (row_of d)) r) (get_or-map row_of entries j d) (boxes.in_order i j (row_of d) lt inside)) in
    before_less family f (get_or entries i d) (get_or entries j d) (of_family i d i_in) (of_family j d j_in)
    ((boxes.exact (row_of (get_or entries i d))).0 (at_place entries i d i_in)) ((boxes.exact (row_of (get_or entries j d))).0 (at_place entries j d j_in)) before

-- ---- IPv4 comes first

AllPairs-append : (xs ys : List (Entry Held)) → AllPairs IsLess xs → AllPairs IsLess ys → All (λ x. All (IsLess x) ys) xs → AllPairs IsLess (xs ++ ys)
AllPairs-append [] ys xs_rise ys_rise cross = ys_rise
AllPairs-append (x ∷ xs) ys xs_rise ys_rise cross =
    AllPairs-cons IsLess x (xs ++ ys) (All-append (IsLess x) xs ys (λ k d k_in. xs_rise 0 (suc k) d (omega arith) (omega arith)) (All-head (λ (e : Entry Held). All (IsLess e) ys) x xs cross))
    (AllPairs-append xs ys (λ i j d lt j_in. xs_rise (suc i) (suc j) d (omega arith) (omega arith)) ys_rise (All-tail (λ (e : Entry Held). All (IsLess e) ys) x xs cross))

first_family : (a b : Entry Held) → AreOfFamily V4 a → AreOfFamily V6 b → IsLess a b
first_family a b a_of b_of =
    let less : nat_cmp (family_rank a.0.address.family) (family_rank b.0.address.family) ≡ Less =
    ap (λ (f : Family). nat_cmp (family_rank f) (family_rank b.0.address.family)) a_of.0 ∙ ap (λ (f : Family). nat_cmp 0 (family_rank f)) b_of.0 in
    rw less refl

keys_rise : (entries : List (Entry Held)) → AllPairs IsLess entries → IsStrictlySortedBy key_cmp (map key_of entries)
keys_rise [] rise = sorted_from_all_adjacent key_total [] (key_of any) (λ k k_in. absurd (omega arith))
  where
    any : Entry Held
    any = (record { address = record { family = V4; bits = 0 }; len = 0 }, record { address = record { family = V4; bits = 0 }; len = 0 }, helds.Unreachable)
keys_rise (first ∷ entries) rise =
    sorted_from_all_adjacent key_total (map key_of (first ∷ entries)) (key_of first) (λ k k_in.
    let inside : k + 1 < length (first ∷ entries) = subst (λ (n : ℕ). k + 1 < n) (length-map (first ∷ entries) key_of) k_in in
    rw (get_or-map key_of (first ∷ entries) k first, get_or-map key_of (first ∷ entries) (k + 1) first) (rise k (k + 1) first (omega arith) inside))

-- ---- the rows of each family

none_of : (entries : List (Entry Held)) (family other : Family) → All (AreOfFamily other) entries → ((entry : Entry Held) → AreOfFamily other entry → are_of_family family entry ≡ false)
    → filter (are_of_family family) entries ≡ []
none_of [] family other of_family apart = refl
none_of (entry ∷ entries) family other of_family apart =
    let here : are_of_family family entry ≡ false = apart entry (All-head (AreOfFamily other) entry entries of_family) in
    ap (λ (b : Bool). cond b (entry ∷ filter (are_of_family family) entries) (filter (are_of_family family) entries)) here
    ∙ none_of entries family other (All-tail (AreOfFamily other) entry entries of_family) apart

not_v4 : (entry : Entry Held) → AreOfFamily V6 entry → are_of_family V4 entry ≡ false
not_v4 entry of_family = rw of_family.0 refl

not_v6 : (entry : Entry Held) → AreOfFamily V4 entry → are_of_family V6 entry ≡ false
not_v6 entry of_family = rw of_family.0 refl

rows_in-append : (family : Family) (xs ys : List (Entry Held)) → rows_in family (xs ++ ys) ≡ rows_in family xs ++ rows_in family ys
rows_in-append family xs ys = ap (map row_of) (filter-append (are_of_family family) xs ys) ∙ map-append row_of (filter (are_of_family family) xs) (filter (are_of_family family) ys)

v4_rows : (v4 v6 : List (Entry Held)) → All (AreOfFamily V4) v4 → All (AreOfFamily V6) v6 → rows_in V4 (v4 ++ v6) ≡ map row_of v4
v4_rows v4 v6 v4_of v6_of =
    rows_in-append V4 v4 v6 ∙ ap (λ (rows : List (Row Held)). rows_in V4 v4 ++ rows) (ap (map row_of) (none_of v6 V4 V6 v6_of not_v4)) ∙ append-nil (rows_in V4 v4) ∙ rows_in-all V4 v4 v4_of

v6_rows : (v4 v6 : List (Entry Held)) → All (AreOfFamily V4) v4 → All (AreOfFamily V6) v6 → rows_in V6 (v4 ++ v6) ≡ map row_of v6
v6_rows v4 v6 v4_of v6_of =
    rows_in-append V6 v4 v6 ∙ ap (λ (rows : List (Row Held)). rows ++ rows_in V6 v6) (ap (map row_of) (none_of v4 V6 V4 v4_of not_v6)) ∙ rows_in-all V6 v6 v6_of

-- ---- each box is a pair

moved : (key other : RouteKey) (held : Held) → other.dst.address.family ≡ key.dst.address.family → FitsKey key held → FitsKey other held
moved key other (helds.Route ann) e fits = (fits.0, subst (λ (f : Family). IsHopFor true f ann.next_hop.family) (sym e) fits.1)
moved key other helds.Unreachable e fits = tt

box_pair : (family : Family) (rows : List Pair) → AreRows rows → (entry : Entry Held) → AreOfFamily family entry
    → IsBox (width_of family) (answers_in family (entries_of rows)) (row_of entry) → IsPair (pair_of entry)
box_pair family rows are entry of_family box =
    let by = held_by_row family rows (row_of entry) box in
    let fits = all_in IsPair rows by.pair are.each (Listed-from_Contains rows by.pair by.member) in
    record {
      dst = subst (λ (f : Family). IsBlock (width_of f) (block_of entry.0)) (sym of_family.0) box.dst_is_prefix;
      src = subst (λ (f : Family). IsBlock (width_of f) (block_of entry.1)) (sym of_family.1) box.src_is_prefix;
      one_family = of_family.0 ∙ sym of_family.1;
      fits = moved by.pair.0 (key_of entry) entry.2 (of_family.0 ∙ sym by.of_family) (subst (FitsKey by.pair.0) by.holds fits.fits);
    }

each_pair : (family : Family) (rows : List Pair) → AreRows rows → (entries : List (Entry Held)) → All (AreOfFamily family) entries
    → ((entry : Entry Held) → Listed entries entry → IsBox (width_of family) (answers_in family (entries_of rows)) (row_of entry))
    → (behind : List (Entry Held)) → AllByRecursion IsPair (map pair_of behind)
    → AllByRecursion IsPair (map pair_of (entries ++ behind))
each_pair family rows are [] of_family boxes behind later = later
each_pair family rows are (entry ∷ entries) of_family boxes behind later = (
  box_pair family rows are entry (All-head (AreOfFamily family) entry entries of_family) (boxes entry (inl refl)),
  each_pair family rows are entries (All-tail (AreOfFamily family) entry entries of_family) (λ other at. boxes other (inr at)) behind later,
)

-- ---- together

pairs_back : (pairs : List Pair) → map pair_of (entries_of pairs) ≡ pairs
pairs_back [] = refl
pairs_back (pair ∷ pairs) = ap (λ (l : List Pair). pair ∷ l) (pairs_back pairs)

keys_back : (pairs : List Pair) → map key_of (entries_of pairs) ≡ keys_of pairs
keys_back [] = refl
keys_back (pair ∷ pairs) = ap (λ (l : List RouteKey). pair.0 ∷ l) (keys_back pairs)

pub are_boxes : (rows pairs : List Pair) (v4 v6 : List (Entry Held)) → AreRows rows → All (AreOfFamily V4) v4 → All (AreOfFamily V6) v6
    → IsBoxList (width_of V4) (answers_in V4 (entries_of rows)) (map row_of v4) → IsBoxList (width_of V6) (answers_in V6 (entries_of rows)) (map row_of v6)
    → entries_of pairs ≡ v4 ++ v6 → AreBoxes rows pairs
are_boxes rows pairs v4 v6 are v4_of v6_of v4_boxes v6_boxes entries = record {
  are_rows = record {
    rising = subst (λ (ks : List RouteKey). IsStrictlySortedBy key_cmp ks) (ap (map key_of) (sym entries) ∙ keys_back pairs) (keys_rise (v4 ++ v6) rise);
    each = subst (λ (ps : List Pair). AllByRecursion IsPair ps) (ap (map pair_of) (sym entries) ∙ pairs_back pairs) each;
  };
  exact = exact;
}
  where
    rise : AllPairs IsLess (v4 ++ v6)
    rise = AllPairs-append v4 v6 (family_rises V4 (answers_in V4 (entries_of rows)) v4 v4_of v4_boxes) (family_rises V6 (answers_in V6 (entries_of rows)) v6 v6_of v6_boxes)
        (λ i d i_in j e j_in. first_family (get_or v4 i d) (get_or v6 j e) (v4_of i d i_in) (v6_of j e j_in))

    box_of : (family : Family) (own : List (Entry Held)) → IsBoxList (width_of family) (answers_in family (entries_of rows)) (map row_of own) → (entry : Entry Held) → Listed own entry
        → IsBox (width_of family) (answers_in family (entries_of rows)) (row_of entry)
    box_of family own boxes entry at = (boxes.exact (row_of entry)).0 (Contains-from_Listed (map row_of own) (row_of entry) (map-Listed row_of own entry at))

    each : AllByRecursion IsPair (map pair_of (v4 ++ v6))
    each = each_pair V4 rows are v4 v4_of (box_of V4 v4 v4_boxes) v6
        (subst (λ (es : List (Entry Held)). AllByRecursion IsPair (map pair_of es)) (append-nil v6) (each_pair V6 rows are v6 v6_of (box_of V6 v6 v6_boxes) [] tt))

    exact : (family : Family) → IsBoxList (width_of family) (answers_in family (entries_of rows)) (rows_in family (entries_of pairs))
    exact V4 = subst (λ (rs : List (Row Held)). IsBoxList (width_of V4) (answers_in V4 (entries_of rows)) rs) (sym (ap (rows_in V4) entries ∙ v4_rows v4 v6 v4_of v6_of)) v4_boxes
    exact V6 = subst (λ (rs : List (Row Held)). IsBoxList (width_of V6) (answers_in V6 (entries_of rows)) rs) (sym (ap (rows_in V6) entries ∙ v6_rows v4 v6 v4_of v6_of)) v6_boxes

-- ---- the boxes of two grids

abbrev entry_at : Family → Row Held → Entry Held
entry_at family row = (prefix_of family row.dst, prefix_of family row.src, row.value)

entries_at : (family : Family) (rows : List (Row Held)) (i : ℕ) (d : Entry Held) → i < length (map (entry_at family) rows) → AreOfFamily family (get_or (map (entry_at family) rows) i d)
entries_at family [] i d i_in = absurd (omega arith)
entries_at family (row ∷ rows) zero d i_in = (refl, refl)
entries_at family (row ∷ rows) (suc i) d i_in = entries_at family rows i d (omega arith)

rows_at : (family : Family) (rows : List (Row Held)) → map row_of (map (entry_at family) rows) ≡ rows
rows_at family [] = refl
rows_at family (row ∷ rows) = ap (λ (l : List (Row Held)). row ∷ l) (rows_at family rows)

entries_of-at : (family : Family) (rows : List (Row Held)) → entries_of (map (pair_at family) rows) ≡ map (entry_at family) rows
entries_of-at family [] = refl
entries_of-at family (row ∷ rows) = ap (λ (l : List (Entry Held)). entry_at family row ∷ l) (entries_of-at family rows)

pub both_are_boxes : (rows : List Pair) (v4 v6 : List (Row Held)) → AreRows rows → AreFamilyBoxes V4 rows v4 → AreFamilyBoxes V6 rows v6 → AreBoxes rows (both_families v4 v6)
both_are_boxes rows v4 v6 are v4_boxes v6_boxes =
    are_boxes rows (both_families v4 v6) (map (entry_at V4) v4) (map (entry_at V6) v6) are (entries_at V4 v4) (entries_at V6 v6)
    (subst (λ (l : List (Row Held)). AreFamilyBoxes V4 rows l) (sym (rows_at V4 v4)) v4_boxes)
    (subst (λ (l : List (Row Held)). AreFamilyBoxes V6 rows l) (sym (rows_at V6 v6)) v6_boxes)
    (map-append entry_of (map (pair_at V4) v4) (map (pair_at V6) v6)
    ∙ ap (λ (l : List (Entry Held)). l ++ entries_of (map (pair_at V6) v6)) (entries_of-at V4 v4)
    ∙ ap (λ (l : List (Entry Held)). map (entry_at V4) v4 ++ l) (entries_of-at V6 v6))

pub both-length : (v4 v6 : List (Row Held)) → length (both_families v4 v6) ≡ length v4 + length v6
both-length v4 v6 = omega (arith, length-append (map (pair_at V4) v4) (map (pair_at V6) v6), length-map v4 (pair_at V4), length-map v6 (pair_at V6))
