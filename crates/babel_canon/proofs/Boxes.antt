-- The boxes of both families are one list, and have the answers.
use Rattle.std.proofs.Common.{◌≡◌, ℕ, ◌<◌, ◌^◌, List, [], ◌∷◌, map, Ordering, refl, sym, ap, subst, ◌∙◌, arith, inl, inr, ◌⊎◌, Contains}
use Rattle.std.specs.Prelude.{◌≢◌}
use Rattle.std.specs.List.{AllByRecursion}
use Rattle.std.specs.List.Sorted.{IsStrictlySortedBy}
use Rattle.std.specs.Ordering.{nat_cmp, ordering_reverse}
use Rattle.std.specs.Cmp.Lexicographic.{slice_cmp}
use Rattle.std.specs.declared.cmp.Ordering.TheVariants.{Less, Equal, Greater}
use Rattle.std.proofs.lemmas.Bool.Decides.{nat_tests}
use Rattle.std.proofs.lemmas.Cmp.{tied_itself}
use Rattle.std.proofs.lemmas.Map.Text.{is_eq-slice_cmp}
use Rattle.std.proofs.lemmas.Slice.Eq.{bytes_eq-Decides}
use Rattle.babel_prefix.specs.declared.family.Family.{Family}
use Rattle.babel_prefix.specs.declared.family.Family.TheVariants.{V4, V6}
use Rattle.babel_prefix.specs.Width.{width_of}
use Rattle.babel_prefix.specs.Block.{Block}
use Rattle.babel_prefix.specs.Address.{AddressPrefix, block_of, prefix_of}
use Rattle.babel_prefix.specs.Best.{Row}
use Rattle.babel_prefix.specs.Entries.{Entry, row_of, rows_in, answers_in}
use Rattle.babel_prefix.specs.BestRow.{AreOfFamily}
use Rattle.babel_prefix.proofs.AnswerLaws.{top-from_answer}
use Rattle.babel_prefix.proofs.Members.{Listed, Listed-from_Contains, Contains-from_Listed}
use Rattle.babel_prefix.proofs.Insertion.{equal_of}
use Rattle.babel_prefix.proofs.EntryLaws.{IsFrom-row, row-from_entry, Listed-map, map-Listed}
use Rattle.babel_trie.specs.Boxes.{SameAnswers, HasEqualityTest, IsBox}
use Rattle.babel_trie.proofs.BoxLaws.{IsBox-same}
use Rattle.babel_trie.proofs.BoxAnswers.{answer-boxes}
use Rattle.babel_trie.proofs.Lists.{InOrder}
use Rattle.babel_trie.proofs.OneList.{one_list}
use Rattle.babel_tlv.specs.declared.held.Held.{Held}
use Rattle.babel_tlv.specs.declared.held.Held.TheVariants as helds
use Rattle.babel_tlv.specs.Pair.{Pair}
use Rattle.babel_tlv.specs.Pairs.{IsPair, held_cmp}
use Rattle.babel_tlv.specs.Keys.{key_cmp}
use Rattle.babel_tlv.specs.Route.{RouteKey}
use Rattle.babel_tlv.proofs.OrderLaws.{held_exact, key_total}
use Rattle.babel_table.specs.Rows.{entries_of}
use Rattle.babel_prefix.specs.TotalOrder.{address_total}
use Rattle.babel_canon.specs.Grids.{pair_at}
use Rattle.babel_canon.specs.Boxes.{AreBoxes}
use Rattle.babel_canon.specs.Answers.{AnswerTheSame}
use Rattle.babel_canon.specs.BoxesTell.{BoxesAnswer, BoxesTellApart}

-- ---- a test of what is held

nat_tied : (n : ℕ) → nat_cmp n n ≡ Equal
nat_tied n = grind (arith, nat_tests)

octets_tied : (xs : List ℕ) → slice_cmp nat_cmp xs xs ≡ Equal
octets_tied xs = equal_of (slice_cmp nat_cmp xs xs) (is_eq-slice_cmp xs xs ∙ (bytes_eq-Decides xs xs).1 refl)

pub held_tied : (h : Held) → held_cmp h h ≡ Equal
held_tied (helds.Route ann) = rw (octets_tied ann.router_id, nat_tied ann.seqno, nat_tied ann.metric) (tied_itself address_total ann.next_hop)
held_tied helds.Unreachable = refl

pub held_test : HasEqualityTest Held
held_test a b = by (held_cmp a b) refl
  where
    clash : (o : Ordering) → o ≡ Equal → o ≡ Less → ⊥
    clash o e f = cc

    clash_too : (o : Ordering) → o ≡ Equal → o ≡ Greater → ⊥
    clash_too o e f = cc

    by : (o : Ordering) → held_cmp a b ≡ o → (a ≡ b) ⊎ (a ≢ b)
    by Equal e = inl (held_exact a b e)
    by Less e = inr (λ same. clash (held_cmp a b) (ap (held_cmp a) (sym same) ∙ held_tied a) e)
    by Greater e = inr (λ same. clash_too (held_cmp a b) (ap (held_cmp a) (sym same) ∙ held_tied a) e)

-- ---- rows of a family, and the pairs that they come from

pub prefix_is : (p q : AddressPrefix) → p.address.family ≡ q.address.family → block_of p ≡ block_of q → p ≡ q
prefix_is p q family block =
    ap (λ (f : Family). prefix_of f (block_of p)) family ∙ ap (λ (b : Block). prefix_of q.address.family b) block

pub same_or_not : (f g : Family) → (f ≡ g) ⊎ (f ≢ g)
same_or_not V4 V4 = inl refl
same_or_not V4 V6 = inr (λ e. cc)
same_or_not V6 V4 = inr (λ e. cc)
same_or_not V6 V6 = inl refl

abbrev pub entry_of : Pair → Entry Held
entry_of pair = (pair.0.dst, pair.0.src, pair.1)

abbrev pair_by : Family → Family → Row Held → Pair
pair_by family other row = (record { dst = prefix_of family row.dst; src = prefix_of other row.src }, row.value)

pub pair-is : (family : Family) (row : Row Held) (pair : Pair) → AreOfFamily family (entry_of pair) → row_of (entry_of pair) ≡ row → pair ≡ pair_at family row
pair-is family row pair of_family is_row =
    ap (λ (r : Row Held). pair_by pair.0.dst.address.family pair.0.src.address.family r) is_row
    ∙ ap (λ (f : Family). pair_by f pair.0.src.address.family row) of_family.0
    ∙ ap (λ (f : Family). pair_by family f row) of_family.1

-- a pair of the list is the row's
pub record FromPair (family : Family) (pairs : List Pair) (row : Row Held) : Type 0 where
  pub pair : Pair
  pub member : Contains pairs pair
  pub of_family : AreOfFamily family (entry_of pair)
  pub is_row : row_of (entry_of pair) ≡ row

pub pair_of_row : (family : Family) (pairs : List Pair) (row : Row Held) → Contains (rows_in family (entries_of pairs)) row → FromPair family pairs row
pair_of_row family pairs row c =
    let from = IsFrom-row family (entries_of pairs) row c in
    let found = Listed-map entry_of pairs from.entry (Listed-from_Contains (entries_of pairs) from.entry from.listed) in
    record {
      pair = found.0;
      member = Contains-from_Listed pairs found.0 found.1;
      of_family = subst (λ (e : Entry Held). AreOfFamily family e) (sym found.2) from.of_family;
      is_row = ap row_of found.2 ∙ from.is_row;
    }

pub row_of_pair : (family : Family) (pairs : List Pair) (pair : Pair) → Contains pairs pair → AreOfFamily family (entry_of pair) → Contains (rows_in family (entries_of pairs)) (row_of (entry_of pair))
row_of_pair family pairs pair c of_family =
    row-from_entry family (entries_of pairs) (entry_of pair)
    (Contains-from_Listed (entries_of pairs) (entry_of pair) (map-Listed entry_of pairs pair (Listed-from_Contains pairs pair c))) of_family

-- ---- boxes are one list

pub all_in : {A : Type 0} (P : A → Type 0) (xs : List A) (x : A) → AllByRecursion P xs → Listed xs x → P x
all_in P [] x all none = elim none [ ]
all_in P (first ∷ xs) x all (inl e) = subst P e all.0
all_in P (first ∷ xs) x all (inr later) = all_in P xs x all.1 later

pub each_is : {A : Type 0} (P : A → Type 0) (xs : List A) → ((x : A) → Listed xs x → P x) → AllByRecursion P xs
each_is P [] each = tt
each_is P (x ∷ xs) each = (each x (inl refl), each_is P xs (λ y at. each y (inr at)))

pub same_in : (rows others : List Pair) → AnswerTheSame rows others → (family : Family) → SameAnswers (width_of family) (answers_in family (entries_of rows)) (answers_in family (entries_of others))
same_in rows others same family d s d_in s_in = same (record { family = family; bits = d }) (record { family = family; bits = s }) d_in s_in refl

pub same_back : (rows others : List Pair) → AnswerTheSame rows others → AnswerTheSame others rows
same_back rows others same d s d_in s_in e = sym (same d s d_in s_in e)

pub same_on : (rows others more : List Pair) → AnswerTheSame rows others → AnswerTheSame others more → AnswerTheSame rows more
same_on rows others more one other d s d_in s_in e = one d s d_in s_in e ∙ other d s d_in s_in e

member_too : (rows others ps qs : List Pair) → AnswerTheSame rows others → AreBoxes rows ps → AreBoxes others qs → (pair : Pair) → Contains ps pair → Contains qs pair
member_too rows others ps qs same p_boxes q_boxes pair member =
    let family = pair.0.dst.address.family in
    let fits = all_in IsPair ps pair p_boxes.are_rows.each (Listed-from_Contains ps pair member) in
    let of_family : AreOfFamily family (entry_of pair) = (refl, sym fits.one_family) in
    let row = row_of (entry_of pair) in
    let is_box = ((p_boxes.exact family).exact row).0 (row_of_pair family ps pair member of_family) in
    let other_box = IsBox-same (width_of family) (answers_in family (entries_of rows)) (answers_in family (entries_of others)) row (same_in rows others same family) is_box in
    let from = pair_of_row family qs row (((q_boxes.exact family).exact row).1 other_box) in
    let one : from.pair ≡ pair = pair-is family row from.pair from.of_family from.is_row ∙ sym (pair-is family row pair of_family refl) in
    subst (λ (p : Pair). Contains qs p) one from.member

-- lists that rise by a key and have the same members are one
module _ {X : Type 0} (key : X → RouteKey) where
  abbrev Rise : X → X → Type 0
  Rise x y = key_cmp (key x) (key y) ≡ Less

  strict : (x y : X) → Rise x y → Rise y x → ⊥
  strict x y less more = let clash : Less ≡ Greater = sym more ∙ key_total.antisymm (key y) (key x) ∙ ap ordering_reverse less in cc

  in_order : (xs : List X) → IsStrictlySortedBy key_cmp (map key xs) → InOrder Rise xs
  unfolding IsStrictlySortedBy
  in_order [] rising = tt
  in_order (x ∷ xs) rising = (λ y at. all_in (λ k. key_cmp (key x) k ≡ Less) (map key xs) (key y) rising.0 (map-Listed key xs y at), in_order xs rising.1)

  pub rising_one : (xs ys : List X) → IsStrictlySortedBy key_cmp (map key xs) → IsStrictlySortedBy key_cmp (map key ys)
      → ((x : X) → Contains xs x → Contains ys x) → ((x : X) → Contains ys x → Contains xs x) → xs ≡ ys
  rising_one xs ys up down to from =
      one_list Rise strict xs ys (in_order xs up) (in_order ys down)
      (λ x at. Listed-from_Contains ys x (to x (Contains-from_Listed xs x at))) (λ x at. Listed-from_Contains xs x (from x (Contains-from_Listed ys x at)))

pub boxes_one : (rows others ps qs : List Pair) → AnswerTheSame rows others → AreBoxes rows ps → AreBoxes others qs → ps ≡ qs
boxes_one rows others ps qs same p_boxes q_boxes =
    rising_one (λ (pair : Pair). pair.0) ps qs p_boxes.are_rows.rising q_boxes.are_rows.rising
    (member_too rows others ps qs same p_boxes q_boxes) (member_too others rows qs ps (same_back rows others same) q_boxes p_boxes)

-- ---- boxes answer

pub boxes_answer : BoxesAnswer
boxes_answer rows boxes are d s d_in s_in one_family =
    answer-boxes held_test (width_of d.family) (answers_in d.family (entries_of rows)) (rows_in d.family (entries_of boxes)) (are.exact d.family) d.bits s.bits d_in
    (subst (λ (f : Family). s.bits < 2 ^ width_of f) (sym one_family) s_in)

pub boxes_tell_apart : BoxesTellApart
boxes_tell_apart rows others boxes other_boxes are other_are = (
  (λ same. same_on rows boxes others (same_back boxes rows (boxes_answer rows boxes are))
      (subst (λ (l : List Pair). AnswerTheSame l others) (sym same) (boxes_answer others other_boxes other_are))),
  (λ same. boxes_one rows others boxes other_boxes same are other_are),
)

-- a row of a family holds this
pub record HeldByRow (rows : List Pair) (family : Family) (held : Held) : Type 0 where
  pub pair : Pair
  pub member : Contains rows pair
  pub of_family : pair.0.dst.address.family ≡ family
  pub holds : pair.1 ≡ held

-- what a box holds, a row of its family holds
pub held_by_row : (family : Family) (rows : List Pair) (box : Row Held) → IsBox (width_of family) (answers_in family (entries_of rows)) box → HeldByRow rows family box.value
held_by_row family rows box is =
    let is_answer = is.answered box.dst.start box.src.start is.dst_is_prefix.start_in_range is.src_is_prefix.start_in_range refl refl in
    let top = top-from_answer (width_of family) (rows_in family (entries_of rows)) box.dst.start box.src.start box.value is_answer in
    let from = pair_of_row family rows top.0 (Contains-from_Listed (rows_in family (entries_of rows)) top.0 top.1.listed) in
    record { pair = from.pair; member = from.member; of_family = from.of_family.0; holds = ap (λ (r : Row Held). r.value) from.is_row ∙ top.2 }

-- what holds of each row, and depends on its family and on what it holds alone, holds of each box
pub boxes_each : (P : Pair → Type 0) → ((pair box : Pair) → pair.0.dst.address.family ≡ box.0.dst.address.family → pair.1 ≡ box.1 → P pair → P box)
    → (rows boxes : List Pair) → AreBoxes rows boxes → AllByRecursion P rows → AllByRecursion P boxes
boxes_each P moves rows boxes are each = each_is P boxes (λ box at.
    let family = box.0.dst.address.family in
    let fits = all_in IsPair boxes box are.are_rows.each at in
    let by = held_by_row family rows (row_of (entry_of box))
    (((are.exact family).exact (row_of (entry_of box))).0 (row_of_pair family boxes box (Contains-from_Listed boxes box at) (refl, sym fits.one_family))) in
    moves by.pair box by.of_family by.holds (all_in P rows by.pair each (Listed-from_Contains rows by.pair by.member)))

-- boxes of what answers the same
pub boxes_too : (rows others boxes : List Pair) → AnswerTheSame rows others → AreBoxes rows boxes → AreBoxes others boxes
boxes_too rows others boxes same are = record {
  are_rows = are.are_rows;
  exact = λ family. record {
    in_order = (are.exact family).in_order;
    exact = λ box. (
      (λ c. IsBox-same (width_of family) (answers_in family (entries_of rows)) (answers_in family (entries_of others)) box (same_in rows others same family) (((are.exact family).exact box).0 c)),
      (λ b. ((are.exact family).exact box).1
          (IsBox-same (width_of family) (answers_in family (entries_of others)) (answers_in family (entries_of rows)) box (same_in others rows (same_back rows others same) family) b)),
    );
  };
}
