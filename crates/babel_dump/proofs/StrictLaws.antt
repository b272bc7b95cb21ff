-- What strict reading refuses is refused with one fault.
use Rattle.std.proofs.Common.{◌≡◌, refl, sym, ap, subst, ◌∙◌, Bool, true, ℕ, zero, suc, ◌+◌, ◌<◌, ◌≤◌, List, [], ◌∷◌, length, get_or, drop, drop-cons, Option, None, Some, inl, arith}
use Rattle.std.specs.List.{AllByRecursion}
use Rattle.std.proofs.lemmas.List.{drop_all}
use Rattle.babel_table.specs.Counts.{Counts}
use Rattle.babel_table.specs.Rows.{Routes}
use Rattle.babel_tlv.specs.declared.fault.Fault.{Fault}
use Rattle.babel_dump.specs.Given.{GaveDump, Input}
use Rattle.babel_dump.specs.Ignored.{first_ignored}
use Rattle.babel_dump.specs.Run.{InputCause}
use Rattle.babel_dump.specs.Strict.{IsNotReadWhole, IsReadWhole}
use Rattle.babel_dump.specs.declared.ignored.IgnoredTlv.{IgnoredTlv}
use Rattle.babel_dump.specs.declared.input_fault.InputFault.{InputFault}
use Rattle.babel_dump.specs.declared.input_fault.InputFault.TheVariants as input_faults
use Rattle.babel_dump.specs.declared.left_out.LeftOutDatagram.{LeftOutDatagram}
use Rattle.babel_dump.proofs.FirstIgnored.{none_is_first}

abbrev fault_of : (ignores_4 : Bool) → Option IgnoredTlv → Option LeftOutDatagram → ℕ → Option InputFault
fault_of ignores_4 (Some tlv) left_out updates = Some (input_faults.Ignored tlv ignores_4)
fault_of ignores_4 None (Some datagram) updates = Some (input_faults.LeftOut datagram)
fault_of ignores_4 None None zero = Some input_faults.NoUpdates
fault_of ignores_4 None None (suc n) = None

some_updates : (ignores_4 : Bool) (n : ℕ) → (n ≡ 0 → ⊥) → fault_of ignores_4 None None n ≡ None
some_updates ignores_4 zero some = absurd (some refl)
some_updates ignores_4 (suc n) some = refl

whole_is : (left_out : Option LeftOutDatagram) (report : Counts) → IsReadWhole left_out report → fault_of report.ignores_4 (first_ignored report) left_out report.updates ≡ None
whole_is left_out report whole = rw (none_is_first report whole.none_ignored, whole.none_left_out) (some_updates report.ignores_4 report.updates whole.has_updates)

not_whole_is : (left_out : Option LeftOutDatagram) (report : Counts) (fault : InputFault) → IsNotReadWhole left_out report fault
    → fault_of report.ignores_4 (first_ignored report) left_out report.updates ≡ Some fault
not_whole_is left_out report (input_faults.Dump fault) is = absurd is
not_whole_is left_out report (input_faults.Ignored tlv ignores_4) (is, ignores) = rw (is, ignores) refl
not_whole_is left_out report (input_faults.Capture fault) is = absurd is
not_whole_is left_out report (input_faults.LeftOut datagram) (none, left) = rw (none_is_first report none, left) refl
not_whole_is left_out report input_faults.NoUpdates (none, none_left, no_updates) = rw (none_is_first report none, none_left, no_updates) refl
not_whole_is left_out report (input_faults.SeveralInterfaces interfaces) is = absurd is
not_whole_is left_out report (input_faults.NoPackets absence) is = absurd is
not_whole_is left_out report input_faults.Read is = absurd is

-- it is what reading a dump is refused for
pub unread_cause : (reader : Input) (Refuses : Fault → Type 0) (table : Routes) (fault : InputFault) (given : GaveDump reader table) → reader.reading.strict ≡ true
    → IsNotReadWhole given.dump.left_out table.report fault → InputCause reader Refuses fault
unread_cause reader Refuses table (input_faults.Dump fault) gave strict is = absurd is
unread_cause reader Refuses table (input_faults.Ignored tlv ignores_4) gave strict is = inl (record { table = table; given = gave; strict = strict; unread = is })
unread_cause reader Refuses table (input_faults.Capture fault) gave strict is = absurd is
unread_cause reader Refuses table (input_faults.LeftOut datagram) gave strict is = inl (record { table = table; given = gave; strict = strict; unread = is })
unread_cause reader Refuses table input_faults.NoUpdates gave strict is = inl (record { table = table; given = gave; strict = strict; unread = is })
unread_cause reader Refuses table (input_faults.SeveralInterfaces interfaces) gave strict is = absurd is
unread_cause reader Refuses table (input_faults.NoPackets absence) gave strict is = absurd is
unread_cause reader Refuses table input_faults.Read gave strict is = absurd is

pub not_whole_one : (left_out : Option LeftOutDatagram) (report : Counts) (fault too : InputFault) → IsNotReadWhole left_out report fault → IsNotReadWhole left_out report too → fault ≡ too
not_whole_one left_out report fault too one two =
    let same : Some fault ≡ Some too = sym (not_whole_is left_out report fault one) ∙ not_whole_is left_out report too two in
    cc

pub whole_or_not : (left_out : Option LeftOutDatagram) (report : Counts) (fault : InputFault) → IsReadWhole left_out report → IsNotReadWhole left_out report fault → ⊥
whole_or_not left_out report fault whole not =
    let same : None ≡ Some fault = sym (whole_is left_out report whole) ∙ not_whole_is left_out report fault not in
    absurd cc

-- what holds of each item from one on holds of each from the item before it on, if it holds of that
pub all_from : {A : Type 0} (P : A → Type 0) (xs : List A) (i : ℕ) (x : A) → i < length xs → x ≡ get_or xs i x → P x → AllByRecursion P (drop (i + 1) xs) → AllByRecursion P (drop i xs)
all_from P xs i x within is holds later =
    let next : suc i ≡ i + 1 = omega arith in
    let rest : drop i xs ≡ x ∷ drop (i + 1) xs = drop-cons xs i x within ∙ ap (λ y. y ∷ drop (suc i) xs) (sym is) ∙ ap (λ (k : ℕ). x ∷ drop k xs) next in
    let all : AllByRecursion P (x ∷ drop (i + 1) xs) = (holds, later) in
    subst (AllByRecursion P) (sym rest) all

-- and past the end of every item
pub all_past : {A : Type 0} (P : A → Type 0) (xs : List A) (i : ℕ) → length xs ≤ i → AllByRecursion P (drop i xs)
all_past P xs i past =
    let none : AllByRecursion P [] = tt in
    subst (AllByRecursion P) (sym (drop_all i xs past)) none
