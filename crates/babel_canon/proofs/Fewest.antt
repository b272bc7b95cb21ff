-- The boxes of both families are disjoint, and no disjoint list with the same answers is shorter.
use Rattle.std.proofs.Common.{◌≡◌, ◌⊎◌, inl, inr, ℕ, ◌+◌, ◌<◌, ◌≤◌, ◌^◌, suc, Bool, true, false, cond, ◌&&◌, List, [], ◌∷◌, length, map, get_or, refl, sym, ap, subst, ◌∙◌, arith, Contains}
use Rattle.std.specs.Prelude.{◌≢◌}
use Rattle.std.specs.List.{AllByRecursion, All, AllPairs, filter}
use Rattle.std.proofs.Math.ListN.{get_or-map}
use Rattle.std.proofs.lemmas.Bool.{and_parts}
use Rattle.std.proofs.lemmas.List.{length-map}
use Rattle.std.proofs.lemmas.List.Elements.{All-contains}
use Rattle.std.proofs.lemmas.List.Kept.{AllPairs-cons}
use Rattle.babel_prefix.specs.declared.family.Family.{Family}
use Rattle.babel_prefix.specs.declared.family.Family.TheVariants.{V4, V6}
use Rattle.babel_prefix.specs.Width.{width_of, same_family}
use Rattle.babel_prefix.specs.Address.{AddressPrefix, block_of}
use Rattle.babel_prefix.specs.Covers.{BlockCovers, IsBlock, Covers}
use Rattle.babel_prefix.specs.Best.{Row}
use Rattle.babel_prefix.specs.Entries.{Entry, are_of_family, row_of, rows_in, answers_in}
use Rattle.babel_prefix.specs.BestRow.{AreOfFamily}
use Rattle.babel_prefix.proofs.Members.{any_two, Listed-get_or, Listed-from_Contains, Contains-from_Listed}
use Rattle.babel_prefix.proofs.EntryLaws.{same_family-is}
use Rattle.babel_trie.specs.Tables.{IsDisjointTable}
use Rattle.babel_trie.specs.Tables.{AreApart as AreBlocksApart}
use Rattle.babel_trie.proofs.TableLaws.{box_list_is_shortest}
use Rattle.babel_trie.proofs.DisjointLaws.{box_list_is_disjoint}
use Rattle.babel_tlv.specs.declared.held.Held.{Held}
use Rattle.babel_tlv.specs.declared.mode.Mode.{Mode}
use Rattle.babel_tlv.specs.Route.{RouteKey}
use Rattle.babel_tlv.specs.Keys.{IsKey}
use Rattle.babel_tlv.specs.Pair.{Pair}
use Rattle.babel_tlv.specs.Pairs.{IsPair}
use Rattle.babel_table.specs.Bounds.{Bounds}
use Rattle.babel_table.specs.Rows.{entries_of}
use Rattle.babel_canon.specs.Boxes.{AreBoxes}
use Rattle.babel_canon.specs.Fewest.{AreApart, DoNotOverlap, AreDisjoint, BoxesAreFewest}
use Rattle.babel_canon.specs.Sent.{Sent}
use Rattle.babel_canon.specs.Normalises.{Normalises, SaysFewest}
use Rattle.babel_canon.proofs.PairRows.{rising-apart}
use Rattle.babel_canon.proofs.Boxes.{held_test, prefix_is, same_or_not, entry_of, pair-is, pair_of_row, row_of_pair, all_in, same_in, boxes_answer}

-- ---- prefixes of a family, and their blocks

blocks_apart : (family : Family) (p q : AddressPrefix) → p.address.family ≡ family → q.address.family ≡ family → AreApart p q → AreBlocksApart (width_of family) (block_of p) (block_of q)
blocks_apart family p q p_of q_of apart n n_in in_p in_q =
    apart (record { family = family; bits = n }) n_in
    (p_of, subst (λ (f : Family). BlockCovers (width_of f) (block_of p) n) (sym p_of) in_p)
    (q_of, subst (λ (f : Family). BlockCovers (width_of f) (block_of q) n) (sym q_of) in_q)

prefixes_apart : (family : Family) (p q : AddressPrefix) → p.address.family ≡ family → q.address.family ≡ family → AreBlocksApart (width_of family) (block_of p) (block_of q) → AreApart p q
prefixes_apart family p q p_of q_of apart a a_fits in_p in_q =
    apart a.bits (subst (λ (f : Family). a.bits < 2 ^ width_of f) (sym in_p.0 ∙ p_of) a_fits)
    (subst (λ (f : Family). BlockCovers (width_of f) (block_of p) a.bits) p_of in_p.1)
    (subst (λ (f : Family). BlockCovers (width_of f) (block_of q) a.bits) q_of in_q.1)

apart_back : (p q : AddressPrefix) → AreApart p q → AreApart q p
apart_back p q apart a a_fits in_q in_p = apart a a_fits in_p in_q

-- ---- a disjoint list is disjoint in each family

of_family_from : (family : Family) (pair : Pair) → are_of_family family (entry_of pair) ≡ true → AreOfFamily family (entry_of pair)
of_family_from family pair e =
    let parts = and_parts _ _ e in
    (same_family-is pair.0.dst.address.family family parts.0, same_family-is pair.0.src.address.family family parts.1)

-- what holds between pairs holds between the rows of those of a family
module _ (family : Family) (R : Pair → Pair → Type 0) (Q : Row Held → Row Held → Type 0)
    (to : (pair later : Pair) → AreOfFamily family (entry_of pair) → AreOfFamily family (entry_of later) → R pair later → Q (row_of (entry_of pair)) (row_of (entry_of later))) where
  first_row : (pair : Pair) (pairs : List Pair) → AreOfFamily family (entry_of pair) → All (R pair) pairs → All (Q (row_of (entry_of pair))) (rows_in family (entries_of pairs))
  first_row pair pairs of_family all k d k_in =
      let rows = rows_in family (entries_of pairs) in
      let from = pair_of_row family pairs (get_or rows k d) (Contains-from_Listed rows (get_or rows k d) (Listed-get_or rows k d k_in)) in
      subst (Q (row_of (entry_of pair))) from.is_row (to pair from.pair of_family from.of_family (All-contains (R pair) pairs from.pair all from.member))

  between_rows : (pairs : List Pair) → AllPairs R pairs → AllPairs Q (rows_in family (entries_of pairs))
  between_rows [] all = λ i j d lt j_in. absurd (omega arith)
  between_rows (pair ∷ pairs) all =
      step (are_of_family family (entry_of pair)) refl (between_rows pairs (λ i j d lt j_in. all (suc i) (suc j) d (omega arith) (omega arith)))
    where
      step : (b : Bool) → are_of_family family (entry_of pair) ≡ b → AllPairs Q (rows_in family (entries_of pairs))
          → AllPairs Q (map row_of (cond b (entry_of pair ∷ filter (are_of_family family) (entries_of pairs)) (filter (are_of_family family) (entries_of pairs))))
      step true is later =
          AllPairs-cons Q (row_of (entry_of pair)) (rows_in family (entries_of pairs))
          (first_row pair pairs (of_family_from family pair is) (λ k d k_in. all 0 (suc k) d (omega arith) (omega arith))) later
      step false is later = later

in_family : (family : Family) (rows pairs : List Pair) → AreDisjoint rows pairs → IsDisjointTable (width_of family) (answers_in family (entries_of rows)) (rows_in family (entries_of pairs))
in_family family rows pairs are = record {
  prefixes = λ k d k_in.
      let all = rows_in family (entries_of pairs) in
      let from = pair_of_row family pairs (get_or all k d) (Contains-from_Listed all (get_or all k d) (Listed-get_or all k d k_in)) in
      let key = key_in from.pair from.member in (
        subst (λ (r : Row Held). IsBlock (width_of family) r.dst) from.is_row (subst (λ (f : Family). IsBlock (width_of f) (block_of from.pair.0.dst)) from.of_family.0 key.dst),
        subst (λ (r : Row Held). IsBlock (width_of family) r.src) from.is_row (subst (λ (f : Family). IsBlock (width_of f) (block_of from.pair.0.src)) from.of_family.1 key.src),
      );
  destinations = between_rows family SameOrApart (λ row later. (row.dst ≡ later.dst) ⊎ AreBlocksApart (width_of family) row.dst later.dst)
      (λ pair later pair_of later_of either. elim either [
        | inl same ↦ inl (ap block_of same)
        | inr apart ↦ inr (blocks_apart family pair.0.dst later.0.dst pair_of.0 later_of.0 apart)
      ]) pairs are.destinations;
  pairs = between_rows family Apart (λ row later. AreBlocksApart (width_of family) row.dst later.dst ⊎ AreBlocksApart (width_of family) row.src later.src)
      (λ pair later pair_of later_of apart. elim apart.1 [
        | inl same ↦ inr (λ n n_in in_pair in_later.
            apart.2 pair.0.dst.address (record { family = family; bits = n }) apart.0.dst.start_in_range n_in
            ((refl, refl), (pair_of.1, subst (λ (f : Family). BlockCovers (width_of f) (block_of pair.0.src) n) (sym pair_of.1) in_pair)) (
              subst (λ (p : AddressPrefix). Covers p pair.0.dst.address) same (refl, refl),
              (later_of.1, subst (λ (f : Family). BlockCovers (width_of f) (block_of later.0.src) n) (sym later_of.1) in_later),
            ))
        | inr apart ↦ inl (blocks_apart family pair.0.dst later.0.dst pair_of.0 later_of.0 apart)
      ]) pairs (λ i j d lt j_in. (
        all_in (λ (pair : Pair). IsKey pair.0) pairs (get_or pairs i d) are.keys (Listed-get_or pairs i d (omega arith)),
        are.destinations i j d lt j_in,
        are.no_overlap i j d lt j_in,
      ));
  answers = same_in pairs rows are.answers family;
}
  where
    SameOrApart : Pair → Pair → Type 0
    SameOrApart pair later = (pair.0.dst ≡ later.0.dst) ⊎ AreApart pair.0.dst later.0.dst

    Apart : Pair → Pair → Type 0
    Apart pair later = IsKey pair.0 × SameOrApart pair later × DoNotOverlap pair.0 later.0

    key_in : (pair : Pair) → Contains pairs pair → IsKey pair.0
    key_in pair member = all_in (λ (p : Pair). IsKey p.0) pairs pair are.keys (Listed-from_Contains pairs pair member)

-- ---- the pairs of both families

taken : (b : Bool) (entry : Entry Held) (entries : List (Entry Held)) → length (map row_of (cond b (entry ∷ entries) entries)) ≡ cond b 1 0 + length (map row_of entries)
taken true entry entries = omega arith
taken false entry entries = omega arith

in_one : (f g : Family) → f ≡ g → cond (same_family f V4 && same_family g V4) 1 0 + cond (same_family f V6 && same_family g V6) 1 0 ≡ 1
in_one V4 V4 e = refl
in_one V4 V6 e = absurd cc
in_one V6 V4 e = absurd cc
in_one V6 V6 e = refl

in_both : (pairs : List Pair) → AllByRecursion (λ pair. IsKey pair.0) pairs → length pairs ≡ length (rows_in V4 (entries_of pairs)) + length (rows_in V6 (entries_of pairs))
in_both [] keys = refl
in_both (pair ∷ pairs) keys =
    let v4 = taken (are_of_family V4 (entry_of pair)) (entry_of pair) (filter (are_of_family V4) (entries_of pairs)) in
    let v6 = taken (are_of_family V6 (entry_of pair)) (entry_of pair) (filter (are_of_family V6) (entries_of pairs)) in
    let one = in_one pair.0.dst.address.family pair.0.src.address.family keys.0.one_family in
    let later = in_both pairs keys.1 in
    omega (arith, v4, v6, one, later)

-- ---- boxes are disjoint

keys_of_pairs : (pairs : List Pair) → AllByRecursion IsPair pairs → AllByRecursion (λ pair. IsKey pair.0) pairs
keys_of_pairs [] each = tt
keys_of_pairs (pair ∷ pairs) each =
    (record { dst = each.0.dst; src = each.0.src; one_family = each.0.one_family }, keys_of_pairs pairs each.1)

module _ (rows boxes : List Pair) (are : AreBoxes rows boxes) where
  pair_in : (pair : Pair) → Contains boxes pair → IsPair pair
  pair_in pair member = all_in IsPair boxes pair are.are_rows.each (Listed-from_Contains boxes pair member)

  in_one_family : (family : Family) → IsDisjointTable (width_of family) (answers_in family (entries_of rows)) (rows_in family (entries_of boxes))
  in_one_family family = box_list_is_disjoint held_test (width_of family) (answers_in family (entries_of rows)) (rows_in family (entries_of boxes)) (are.exact family)

  of_family : (pair : Pair) → Contains boxes pair → (family : Family) → pair.0.dst.address.family ≡ family → AreOfFamily family (entry_of pair)
  of_family pair member family is = (is, sym (pair_in pair member).one_family ∙ is)

  -- the rows of two pairs of a family are one, or the relation holds between them one way or the other
  two_rows : (family : Family) (Q : Row Held → Row Held → Type 0) (pair other : Pair) → AllPairs Q (rows_in family (entries_of boxes)) → Contains boxes pair → Contains boxes other
      → pair.0.dst.address.family ≡ family → other.0.dst.address.family ≡ family
      → (row_of (entry_of pair) ≡ row_of (entry_of other)) ⊎ (Q (row_of (entry_of pair)) (row_of (entry_of other)) ⊎ Q (row_of (entry_of other)) (row_of (entry_of pair)))
  two_rows family Q pair other all member other_member is other_is =
      any_two Q (rows_in family (entries_of boxes)) (row_of (entry_of pair)) (row_of (entry_of other)) all
      (row_of_pair family boxes pair member (of_family pair member family is)) (row_of_pair family boxes other other_member (of_family other other_member family other_is))

  same_or_apart : (pair other : Pair) → Contains boxes pair → Contains boxes other → (pair.0.dst ≡ other.0.dst) ⊎ AreApart pair.0.dst other.0.dst
  same_or_apart pair other member other_member =
      let family = other.0.dst.address.family in
      elim (same_or_not pair.0.dst.address.family family) [
        | inr differ ↦ inr (λ a a_fits in_pair in_other. differ (in_pair.0 ∙ sym in_other.0))
        | inl is ↦
            let either : (row row_later : Row Held) → Type 0 = λ row later. (row.dst ≡ later.dst) ⊎ AreBlocksApart (width_of family) row.dst later.dst in
            elim (two_rows family either pair other (in_one_family family).destinations member other_member is refl) [
              | inl one ↦ inl (prefix_is pair.0.dst other.0.dst is (ap (λ (r : Row Held). r.dst) one))
              | inr one_way ↦ elim one_way [
                | inl first ↦ elim first [
                  | inl same ↦ inl (prefix_is pair.0.dst other.0.dst is same)
                  | inr apart ↦ inr (prefixes_apart family pair.0.dst other.0.dst is refl apart)
                ]
                | inr second ↦ elim second [
                  | inl same ↦ inl (prefix_is pair.0.dst other.0.dst is (sym same))
                  | inr apart ↦ inr (apart_back other.0.dst pair.0.dst (prefixes_apart family other.0.dst pair.0.dst refl is apart))
                ]
              ]
            ]
      ]

  no_overlap : (pair other : Pair) → Contains boxes pair → Contains boxes other → pair.0 ≢ other.0 → DoNotOverlap pair.0 other.0
  no_overlap pair other member other_member differ d s d_fits s_fits in_pair in_other =
      let family = d.family in
      let either : (row row_later : Row Held) → Type 0 = λ row later. AreBlocksApart (width_of family) row.dst later.dst ⊎ AreBlocksApart (width_of family) row.src later.src in
      let pair_of = of_family pair member family in_pair.0.0 in
      let other_of = of_family other other_member family in_other.0.0 in
      elim (two_rows family either pair other (in_one_family family).pairs member other_member in_pair.0.0 in_other.0.0) [
        | inl one ↦ differ (ap (λ (p : Pair). p.0) (pair-is family (row_of (entry_of other)) pair pair_of one ∙ sym (pair-is family (row_of (entry_of other)) other other_of refl)))
        | inr one_way ↦ elim one_way [
          | inl first ↦ elim first [
            | inl apart ↦ prefixes_apart family pair.0.dst other.0.dst pair_of.0 other_of.0 apart d d_fits in_pair.0 in_other.0
            | inr apart ↦ prefixes_apart family pair.0.src other.0.src pair_of.1 other_of.1 apart s s_fits in_pair.1 in_other.1
          ]
          | inr second ↦ elim second [
            | inl apart ↦ prefixes_apart family other.0.dst pair.0.dst other_of.0 pair_of.0 apart d d_fits in_other.0 in_pair.0
            | inr apart ↦ prefixes_apart family other.0.src pair.0.src other_of.1 pair_of.1 apart s s_fits in_other.1 in_pair.1
          ]
        ]
      ]

  member_at : (i : ℕ) (d : Pair) → i < length boxes → Contains boxes (get_or boxes i d)
  member_at i d i_in = Contains-from_Listed boxes (get_or boxes i d) (Listed-get_or boxes i d i_in)

  keys_differ : (i j : ℕ) (d : Pair) → i < j → j < length boxes → (get_or boxes i d).0 ≢ (get_or boxes j d).0
  keys_differ i j d lt j_in =
      let key_of : Pair → RouteKey = λ pair. pair.0 in
      rw (← get_or-map key_of boxes i d, ← get_or-map key_of boxes j d)
      (rising-apart boxes are.are_rows.rising i j d.0 lt (subst (λ (n : ℕ). j < n) (sym (length-map boxes key_of)) j_in))

  are_disjoint : AreDisjoint rows boxes
  are_disjoint = record {
    keys = keys_of_pairs boxes are.are_rows.each;
    destinations = λ i j d lt j_in. same_or_apart (get_or boxes i d) (get_or boxes j d) (member_at i d (omega arith)) (member_at j d j_in);
    no_overlap = λ i j d lt j_in. no_overlap (get_or boxes i d) (get_or boxes j d) (member_at i d (omega arith)) (member_at j d j_in) (keys_differ i j d lt j_in);
    answers = boxes_answer rows boxes are;
  }

  not_shorter : (others : List Pair) → AreDisjoint rows others → length boxes ≤ length others
  not_shorter others disjoint =
      let mine = in_both boxes are_disjoint.keys in
      let theirs = in_both others disjoint.keys in
      omega (arith, mine, theirs, in_each V4, in_each V6)
    where
      in_each : (family : Family) → length (rows_in family (entries_of boxes)) ≤ length (rows_in family (entries_of others))
      in_each family =
          box_list_is_shortest (width_of family) (answers_in family (entries_of rows)) (rows_in family (entries_of others)) (rows_in family (entries_of boxes))
          (in_family family rows others disjoint) (are.exact family)

pub boxes_are_fewest : BoxesAreFewest
boxes_are_fewest rows boxes are = record { disjoint = are_disjoint rows boxes are; fewest = not_shorter rows boxes are }

-- canonical octets are the text of the fewest pairs
pub says_fewest : (see : List Pair → List Pair) (limits : Bounds) (mode : Mode) (body : ℕ) (it : Sent) (octets : List ℕ) → Normalises see limits mode body it octets
    → SaysFewest see limits mode body it octets
says_fewest see limits mode body it octets normal = record {
  table = normal.table;
  is_table = normal.is_table;
  pairs = normal.boxes;
  fewest = boxes_are_fewest (see normal.table.rows) normal.boxes normal.are_boxes;
  text = normal.text;
}
