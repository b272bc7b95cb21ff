-- A dump has one canonical text or one fault, want of memory aside.
use Rattle.std.proofs.Common.{◌≡◌, ℕ, List, length, refl, sym, ap, subst, ◌∙◌, arith, inl, inr}
use Rattle.babel_prefix.specs.Address.{Address}
use Rattle.babel_tlv.specs.declared.fault.Fault.{Fault}
use Rattle.babel_tlv.specs.declared.fault.Fault.TheVariants as faults
use Rattle.babel_tlv.specs.declared.mode.Mode.{Mode}
use Rattle.babel_tlv.specs.Pair.{Pair}
use Rattle.babel_tlv.specs.Group.{IsCanonicalText}
use Rattle.babel_tlv.proofs.TextOnce.{text_one}
use Rattle.babel_table.specs.Bounds.{Bounds}
use Rattle.babel_table.specs.Rows.{Routes}
use Rattle.babel_table.specs.TableOf.{IsTableOf}
use Rattle.babel_table.proofs.OutcomeLaws.{fault_is_one, table_is_one}
use Rattle.babel_canon.specs.Boxes.{AreBoxes}
use Rattle.babel_canon.specs.Answers.{AnswerTheSame}
use Rattle.babel_canon.specs.Headline.{DumpsAnswer}
use Rattle.babel_canon.specs.Sent.{Sent}
use Rattle.babel_canon.specs.Normalises.{Normalises, NormaliseFault}
use Rattle.babel_canon.specs.OneOutcome.{NormaliseFaultIsOne}
use Rattle.babel_canon.proofs.Boxes.{boxes_one}

-- a dump has one table, and so one list of rows
pub rows_one : (limits : Bounds) (mode : Mode) (sender : Address) (dump : List ℕ) (table other : Routes)
    → IsTableOf limits mode sender dump table → IsTableOf limits mode sender dump other → table.rows ≡ other.rows
rows_one limits mode sender dump table other is_table is_other = ap (λ (t : Routes). t.rows) (table_is_one limits mode sender dump table other is_table is_other)

-- what holds of a table of each of two dumps holds of all their tables
pub on_tables : (limits : Bounds) (mode : Mode) (it other_it : Sent) (one other : Routes) → IsTableOf limits mode it.sender it.dump one
    → IsTableOf limits mode other_it.sender other_it.dump other → (Same : List Pair → List Pair → Type 0) → Same one.rows other.rows → DumpsAnswer Same limits mode it other_it
on_tables limits mode it other_it one other is_one is_other Same same table too is_table is_too =
    subst (λ (l : List Pair). Same l too.rows) (rows_one limits mode it.sender it.dump one table is_one is_table)
    (subst (Same one.rows) (rows_one limits mode other_it.sender other_it.dump other too is_other is_too) same)

pub texts_one : (body : ℕ) (ps qs : List Pair) (octets other : List ℕ) → ps ≡ qs → IsCanonicalText body ps octets → IsCanonicalText body qs other → octets ≡ other
texts_one body ps qs octets other same p_text q_text = text_one body qs octets other (subst (λ (l : List Pair). IsCanonicalText body l octets) same p_text) q_text

-- equal rows have equal boxes
pub boxes_same : (rows others ps qs : List Pair) → rows ≡ others → AreBoxes rows ps → AreBoxes others qs → ps ≡ qs
boxes_same rows others ps qs same p_boxes q_boxes =
    boxes_one rows others ps qs (subst (λ (l : List Pair). AnswerTheSame rows l) same (λ d s d_in s_in e. refl)) p_boxes q_boxes

-- the canonical form of what is seen of a dump is one, and has no fault
pub form_is_one : (see : List Pair → List Pair) (limits : Bounds) (mode : Mode) (body : ℕ) (it : Sent) (octets other : List ℕ)
    → Normalises see limits mode body it octets → Normalises see limits mode body it other → octets ≡ other
form_is_one see limits mode body it octets other one two =
    let rows = ap see (rows_one limits mode it.sender it.dump one.table two.table one.is_table two.is_table) in
    texts_one body one.boxes two.boxes octets other (boxes_same (see one.table.rows) (see two.table.rows) one.boxes two.boxes rows one.are_boxes two.are_boxes) one.text two.text

pub form_has_no_fault : (see : List Pair → List Pair) (limits : Bounds) (mode : Mode) (body : ℕ) (it : Sent) (octets : List ℕ) (fault : Fault)
    → Normalises see limits mode body it octets → NormaliseFault see limits mode it fault → fault ≡ faults.Memory
form_has_no_fault see limits mode body it octets fault normal (inl of_dump) = absurd (normal.no_fault fault of_dump)
form_has_no_fault see limits mode body it octets fault normal (inr (inl (is, no_fault, (table, is_table, (boxes, are_boxes, many))))) =
    let rows = ap see (rows_one limits mode it.sender it.dump table normal.table is_table normal.is_table) in
    let same = ap (λ (l : List Pair). length l) (boxes_same (see table.rows) (see normal.table.rows) boxes normal.boxes rows are_boxes normal.are_boxes) in
    absurd (omega (arith, same, many, normal.few))
form_has_no_fault see limits mode body it octets fault normal (inr (inr memory)) = memory

pub normalise_fault_is_one : NormaliseFaultIsOne
normalise_fault_is_one limits mode it fault other (inl one) (inl two) not_memory other_not = fault_is_one limits mode it.sender it.dump fault other one two
normalise_fault_is_one limits mode it fault other (inl one) (inr (inl two)) not_memory other_not = absurd (two.1 fault one)
normalise_fault_is_one limits mode it fault other (inl one) (inr (inr memory)) not_memory other_not = absurd (other_not memory)
normalise_fault_is_one limits mode it fault other (inr (inl one)) (inl two) not_memory other_not = absurd (one.1 other two)
normalise_fault_is_one limits mode it fault other (inr (inl one)) (inr (inl two)) not_memory other_not = one.0 ∙ sym two.0
normalise_fault_is_one limits mode it fault other (inr (inl one)) (inr (inr memory)) not_memory other_not = absurd (other_not memory)
normalise_fault_is_one limits mode it fault other (inr (inr memory)) two not_memory other_not = absurd (not_memory memory)
