-- The headline for every view, from what a view sees of rows.
use Rattle.std.proofs.Common.{◌≡◌, ◌↔◌, ℕ, Bool, true, false, cond, List, [], ◌∷◌, map, Option, Some, None, refl, sym, ap, subst, ◌∙◌, inl, inr}
use Rattle.std.specs.List.{AllByRecursion, filter}
use Rattle.std.proofs.lemmas.Bool.{and_parts}
use Rattle.std.specs.Option.{option_map}
use Rattle.babel_prefix.specs.declared.family.Family.{Family}
use Rattle.babel_prefix.specs.Width.{width_of}
use Rattle.babel_prefix.specs.Address.{Address}
use Rattle.babel_prefix.specs.Best.{Row, answer}
use Rattle.babel_prefix.specs.Entries.{are_of_family, row_of, rows_in, answer_for}
use Rattle.babel_prefix.proofs.EntryLaws.{same_family-is}
use Rattle.babel_tlv.specs.declared.fault.Fault.{Fault}
use Rattle.babel_tlv.specs.declared.held.Held.{Held}
use Rattle.babel_tlv.specs.declared.held.Held.TheVariants as helds
use Rattle.babel_tlv.specs.declared.mode.Mode.{Mode}
use Rattle.babel_tlv.specs.declared.mode.Mode.TheVariants as modes
use Rattle.babel_tlv.specs.declared.view.View.{View}
use Rattle.babel_tlv.specs.Pair.{Pair}
use Rattle.babel_tlv.specs.Views.{SameUnder, keeps_all, seen}
use Rattle.babel_tlv.proofs.GroupTold.{HopsFit}
use Rattle.babel_tlv.proofs.ViewLaws.{seen_hop_fits, seen_tells_apart, seen_twice_is_seen}
use Rattle.babel_table.specs.Bounds.{Bounds, AreBounds}
use Rattle.babel_table.specs.Rows.{entries_of}
use Rattle.babel_table.specs.Seen.{seen_row, seen_rows}
use Rattle.babel_table.proofs.SeenLaws.{all_rows}
use Rattle.babel_table.proofs.HopLaws.{hops_fit}
use Rattle.babel_canon.specs.Boxes.{AreBoxes}
use Rattle.babel_canon.specs.Answers.{AnswerTheSame}
use Rattle.babel_canon.specs.Canonical.{HasManyBoxes}
use Rattle.babel_canon.specs.Sent.{Sent, sent}
use Rattle.babel_canon.specs.Normalises.{Normalises, NormaliseFault, as_they_are}
use Rattle.babel_canon.specs.RoundTrip.{AreReadableIn}
use Rattle.babel_canon.specs.Sizes.{IsBodySize}
use Rattle.babel_canon.specs.Views.{AnswerTheSameUnder, ReadsAgainSeen, HeadlineUnder}
use Rattle.babel_canon.specs.ViewsTell.{SeenAnswersTell, AllNormalises}
use Rattle.babel_canon.proofs.Boxes.{boxes_answer, boxes_each, entry_of}
use Rattle.babel_canon.proofs.Headline.{its_own, reads_again, rows_readable, tells_apart}
use Rattle.babel_canon.proofs.MappedBoxes.{mapped_row}
use Rattle.babel_canon.proofs.Numbered.{answer-map}

-- ---- the answers of what is seen are what is seen of the answers

seen_rows_in : (view : View) (family : Family) (rows : List Pair)
    → rows_in family (entries_of (seen_rows view rows)) ≡ map (mapped_row (seen view family)) (rows_in family (entries_of rows))
seen_rows_in view family [] = refl
seen_rows_in view family (row ∷ rows) = by (are_of_family family (entry_of row)) refl (seen_rows_in view family rows)
  where
    by : (b : Bool) → are_of_family family (entry_of row) ≡ b → rows_in family (entries_of (seen_rows view rows)) ≡ map (mapped_row (seen view family)) (rows_in family (entries_of rows))
        → map row_of (cond b (entry_of (seen_row view row) ∷ filter (are_of_family family) (entries_of (seen_rows view rows))) (filter (are_of_family family) (entries_of (seen_rows view rows))))
        ≡ map (mapped_row (seen view family)) (map row_of (cond b (entry_of row ∷ filter (are_of_family family) (entries_of rows)) (filter (are_of_family family) (entries_of rows))))
    by true of rest =
        let is : row.0.dst.address.family ≡ family = same_family-is row.0.dst.address.family family (and_parts _ _ of).0 in
        ap (λ (f : Family). mapped_row (seen view f) (row_of (entry_of row)) ∷ rows_in family (entries_of (seen_rows view rows))) is
        ∙ ap (λ (l : List (Row Held)). mapped_row (seen view family) (row_of (entry_of row)) ∷ l) rest
    by false of rest = rest

pub seen_answers : (view : View) (rows : List Pair) (d s : Address)
    → answer_for (entries_of (seen_rows view rows)) d s ≡ option_map (seen view d.family) (answer_for (entries_of rows) d s)
seen_answers view rows d s =
    ap (λ (l : List (Row Held)). answer (width_of d.family) l d.bits s.bits) (seen_rows_in view d.family rows)
    ∙ answer-map (seen view d.family) (width_of d.family) (rows_in d.family (entries_of rows)) d.bits s.bits

-- ---- what is the same under a view is what is seen as one

same_seen : (view : View) (family : Family) (one other : Option Held) → SameUnder view one other ↔ (option_map (seen view family) one ≡ option_map (seen view family) other)
same_seen view family None None = ((λ _. refl), (λ _. tt))
same_seen view family None (Some other) = ((λ never. absurd never), (λ e. absurd cc))
same_seen view family (Some held) None = ((λ never. absurd never), (λ e. absurd cc))
same_seen view family (Some held) (Some other) =
    let law = seen_tells_apart view family held other in
    ((λ same. ap Some (law.0 same)), (λ equal. law.1 (unsome (seen view family held) (seen view family other) equal)))
  where
    unsome : (h k : Held) → Some h ≡ Some k → h ≡ k
    unsome h k e = cc

under_seen : (view : View) (rows others : List Pair) → AnswerTheSameUnder view rows others ↔ AnswerTheSame (seen_rows view rows) (seen_rows view others)
under_seen view rows others = (
  (λ same d s d_in s_in one. seen_answers view rows d s ∙ (here d s).0 (same d s d_in s_in one) ∙ sym (seen_answers view others d s)),
  (λ same d s d_in s_in one. (here d s).1 (sym (seen_answers view rows d s) ∙ same d s d_in s_in one ∙ seen_answers view others d s)),
)
  where
    here : (d s : Address) → SameUnder view (answer_for (entries_of rows) d s) (answer_for (entries_of others) d s)
        ↔ (option_map (seen view d.family) (answer_for (entries_of rows) d s) ≡ option_map (seen view d.family) (answer_for (entries_of others) d s))
    here d s = same_seen view d.family (answer_for (entries_of rows) d s) (answer_for (entries_of others) d s)

pub seen_answers_tell : SeenAnswersTell
seen_answers_tell view rows others are other_are = under_seen view rows others

-- ---- what is seen of the boxes of what is seen is these boxes

abbrev pub IsSeen : View → Pair → Type 0
IsSeen view pair = seen view pair.0.dst.address.family pair.1 ≡ pair.1

pub seen_are_seen : (view : View) (rows : List Pair) → AllByRecursion (IsSeen view) (seen_rows view rows)
seen_are_seen view [] = tt
seen_are_seen view (row ∷ rows) = (seen_twice_is_seen view row.0.dst.address.family row.1, seen_are_seen view rows)

pub all_seen : (view : View) (pairs : List Pair) → AllByRecursion (IsSeen view) pairs → seen_rows view pairs ≡ pairs
all_seen view [] all = refl
all_seen view (pair ∷ pairs) all = ap (λ (held : Held). (pair.0, held) ∷ seen_rows view pairs) all.0 ∙ ap (λ (l : List Pair). pair ∷ l) (all_seen view pairs all.1)

seen_boxes : (view : View) (rows boxes : List Pair) → AreBoxes (seen_rows view rows) boxes → seen_rows view boxes ≡ boxes
seen_boxes view rows boxes are = all_seen view boxes (boxes_each (IsSeen view)
    (λ pair box family held is. subst (λ (f : Family). seen view f box.1 ≡ box.1) family (subst (λ (h : Held). seen view pair.0.dst.address.family h ≡ h) held is))
    (seen_rows view rows) boxes are (seen_are_seen view rows))

-- what is seen has next hops that fit, if the rows have
pub seen_hops : (via_v6 : Bool) (view : View) (rows : List Pair) → HopsFit via_v6 rows → HopsFit via_v6 (seen_rows view rows)
seen_hops via_v6 view [] hops = tt
seen_hops via_v6 view (row ∷ rows) hops = (seen_hop_fits via_v6 view row.0 row.1 hops.0, seen_hops via_v6 view rows hops.1)

pub seen_readable : (view : View) (mode : Mode) (rows : List Pair) → AreReadableIn mode rows → AreReadableIn mode (seen_rows view rows)
seen_readable view modes.Hold rows reads = tt
seen_readable view modes.Plain [] reads = tt
seen_readable view modes.Plain ((key, helds.Route ann) ∷ rows) reads = (tt, seen_readable view modes.Plain rows reads.1)
seen_readable view modes.Plain ((key, helds.Unreachable) ∷ rows) reads = absurd reads.0

-- ---- the headline

-- the canonical form of what is seen is that of what is seen otherwise, where both are one
abbrev pub seen_otherwise : (see other : List Pair → List Pair) (limits : Bounds) (mode : Mode) (body : ℕ) (it : Sent) (octets : List ℕ) (one : Normalises see limits mode body it octets)
    → see one.table.rows ≡ other one.table.rows → Normalises other limits mode body it octets
seen_otherwise see other limits mode body it octets one same = record {
  no_fault = one.no_fault;
  table = one.table;
  is_table = one.is_table;
  boxes = one.boxes;
  are_boxes = subst (λ (l : List Pair). AreBoxes l one.boxes) same one.are_boxes;
  few = one.few;
  text = one.text;
}

stays_itself : (view : View) (limits : Bounds) (mode : Mode) (body : ℕ) → AreBounds limits → IsBodySize body → (one : Sent) (octets : List ℕ)
    → Normalises (seen_rows view) limits mode body one octets → (any : Address)
    → ReadsAgainSeen view (seen_rows view) limits mode body one octets any × ReadsAgainSeen view as_they_are limits mode body one octets any
stays_itself view limits mode body bounds size it octets one any =
    let rows = one.table.rows in
    let reads = seen_readable view mode rows (rows_readable limits mode it.sender it.dump one.table one.is_table) in
    let hops = seen_hops limits.via_v6 view rows (hops_fit limits mode it.sender it.dump one.table one.is_table) in
    let own = its_own limits mode body bounds size (seen_rows view) it octets one reads hops any in
    let stays : seen_rows view own.again.table.rows ≡ one.boxes = ap (seen_rows view) own.rows_are ∙ seen_boxes view rows one.boxes one.are_boxes in
    let same : AnswerTheSameUnder view own.again.table.rows rows = (under_seen view own.again.table.rows rows).1
    (subst (λ (l : List Pair). AnswerTheSame l (seen_rows view rows)) (sym stays) (boxes_answer (seen_rows view rows) one.boxes one.are_boxes)) in
    let again = seen_otherwise as_they_are (seen_rows view) limits mode body (sent any octets) octets own.again (own.rows_are ∙ sym stays) in (
      reads_again (AnswerTheSameUnder view) limits mode body it octets any one.table one.is_table (seen_rows view) again same,
      reads_again (AnswerTheSameUnder view) limits mode body it octets any one.table one.is_table as_they_are own.again same,
    )

pub headline_under : HeadlineUnder
headline_under view limits mode body bounds size one octets normal = (
  tells_apart (seen_rows view) (AnswerTheSameUnder view) (under_seen view) limits mode body size one octets normal,
  stays_itself view limits mode body bounds size one octets normal,
)

-- ---- the view that keeps all

pub all_normalises : AllNormalises
all_normalises limits mode body one octets = (
  (λ under. seen_otherwise (seen_rows keeps_all) as_they_are limits mode body one octets under (all_rows under.table.rows)),
  (λ normal. seen_otherwise as_they_are (seen_rows keeps_all) limits mode body one octets normal (sym (all_rows normal.table.rows))),
)

pub all_faults : (limits : Bounds) (mode : Mode) (one : Sent) (fault : Fault) → NormaliseFault (seen_rows keeps_all) limits mode one fault → NormaliseFault as_they_are limits mode one fault
all_faults limits mode one fault (inl of_dump) = inl of_dump
all_faults limits mode one fault (inr (inl (is, no_fault, (table, is_table, many)))) =
    inr (inl (is, no_fault, (table, is_table, subst (HasManyBoxes limits) (all_rows table.rows) many)))
all_faults limits mode one fault (inr (inr memory)) = inr (inr memory)
