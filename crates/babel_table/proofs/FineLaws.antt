-- Sayings that are fine, and one more.
use Rattle.std.proofs.Common.{◌≡◌, ℕ, ◌≤◌, List, [], ◌∷◌, ◌++◌, length, refl, sym, ap, subst, ◌∙◌, append_assoc}
use Rattle.std.specs.Prelude.{Result, Ok, Err, OnOk}
use Rattle.babel_tlv.specs.declared.event.Event.{Event}
use Rattle.babel_tlv.specs.declared.fault.Fault.{Fault}
use Rattle.babel_tlv.specs.declared.held.Held.{Held}
use Rattle.babel_tlv.specs.declared.mode.Mode.{Mode}
use Rattle.babel_tlv.specs.Route.{RouteKey}
use Rattle.babel_tlv.specs.Framing.{TlvAt}
use Rattle.babel_tlv.specs.Says.{Saying}
use Rattle.babel_table.specs.Counts.{Counts, counts_of}
use Rattle.babel_table.specs.Counting.{counted_with}
use Rattle.babel_table.specs.TableOf.{AreFine}
use Rattle.babel_table.specs.DumpFault.{Refuses, RefusedBy, HoldsMoreThan}
use Rattle.babel_table.specs.Feeding.{StandsBehind, Follows, event_at}
use Rattle.babel_table.specs.Holds.{AreRowsOf, HoldsAtMost}
use Rattle.babel_table.specs.Rows.{Routes}
use Rattle.babel_table.proofs.CountLaws.{counts-push}
use Rattle.babel_table.proofs.RowsLaws.{rows-none, not_more}

abbrev pub routes : List (RouteKey × Held) → Counts → Routes
routes rows report = record { rows = rows; report = report }

fine-push : (mode : Mode) (entries : ℕ) (before : List Event) (said : List Saying) (events : List Event) (tlv : TlvAt) (event : Event) → AreFine mode entries before said events
    → HoldsAtMost mode entries (events ++ event ∷ []) → AreFine mode entries before (said ++ event_at tlv event ∷ []) (events ++ event ∷ [])
fine-push mode entries before [] events tlv event fine few =
    let same : events ≡ before = fine in
    (event, refl, subst (λ (es : List Event). HoldsAtMost mode entries (es ++ event ∷ [])) same few, ap (λ (es : List Event). es ++ event ∷ []) same)
fine-push mode entries before (first ∷ said) events tlv event (e, is, here, later) few = (e, is, here, fine-push mode entries (before ++ e ∷ []) said events tlv event later few)

-- one more event that is taken
pub stands-push : (mode : Mode) (entries : ℕ) (old new : List (RouteKey × Held)) (report : Counts) (tlv : TlvAt) (event : Event) → Follows mode event old new → length new ≤ entries
    → (said : List Saying) → StandsBehind mode entries (routes old report) said → StandsBehind mode entries (routes new (counted_with report tlv event)) (said ++ event_at tlv event ∷ [])
stands-push mode entries old new report tlv event follows few said stands = record {
  events = stands.events ++ event ∷ [];
  fine = fine-push mode entries [] said stands.events tlv event stands.fine (new, follows stands.events stands.rows, few);
  rows = follows stands.events stands.rows;
  report = ap (λ (c : Counts). counted_with c tlv event) stands.report ∙ sym (counts-push said tlv event);
}

pub stands-none : (mode : Mode) (entries : ℕ) → StandsBehind mode entries (routes [] (counts_of [])) []
stands-none mode entries = record { events = []; fine = refl; rows = rows-none mode; report = refl }

-- the first saying that isn't taken refuses the dump
pub refused_by : (mode : Mode) (entries : ℕ) (table : Routes) (said : List Saying) (one : Saying) (later : List Saying) (fault : Fault) → StandsBehind mode entries table said
    → ((events : List Event) → AreRowsOf mode events table.rows → Refuses mode entries events one.at one.what fault) → RefusedBy mode entries (said ++ one ∷ later) fault
refused_by mode entries table said one later fault stands refuses =
    (said, one, later, stands.events, refl, stands.fine, refuses stands.events stands.rows)

-- ---- fine sayings are not refused

pub one_event : (a b : Event) (r : Result Event Fault) → r ≡ Ok a → r ≡ Ok b → a ≡ b
one_event a b r p q = cc

no_fault : (a : Event) (fault : Fault) (r : Result Event Fault) → r ≡ Ok a → r ≡ Err fault → ⊥
no_fault a fault r p q = cc

pub refuses-not : (mode : Mode) (entries : ℕ) (events : List Event) (at : ℕ) (what : Result Event Fault) (event : Event) (fault : Fault)
    → what ≡ Ok event → HoldsAtMost mode entries (events ++ event ∷ [])
    → Refuses mode entries events at what fault → ⊥
refuses-not mode entries events at (Err f) event fault is few refuses = no_fault event f (Err f) is refl
refuses-not mode entries events at (Ok e) event fault is few (isf, more) =
    not_more mode entries (events ++ event ∷ []) few (subst (λ (x : Event). HoldsMoreThan mode entries (events ++ x ∷ [])) (one_event e event (Ok e) refl is) more)

fine-refused : (mode : Mode) (entries : ℕ) (before : List Event) (front : List Saying) (one : Saying) (later : List Saying) (said mid : List Event) (fault : Fault)
    → AreFine mode entries before (front ++ one ∷ later) said → AreFine mode entries before front mid → Refuses mode entries mid one.at one.what fault → ⊥
fine-refused mode entries before [] one later said mid fault (e, is, few, rest) same refuses =
    refuses-not mode entries mid one.at one.what e fault is (subst (λ (es : List Event). HoldsAtMost mode entries (es ++ e ∷ [])) (sym same) few) refuses
fine-refused mode entries before (x ∷ front) one later said mid fault (e, is, few, rest) (d, is_d, few_d, rest_d) refuses =
    fine-refused mode entries (before ++ e ∷ []) front one later said mid fault rest
    (subst (λ (v : Event). AreFine mode entries (before ++ v ∷ []) front mid) (one_event d e x.what is_d is) rest_d) refuses

-- sayings that are all fine refuse no dump, nor does any front of them
pub fine-not-refused : (mode : Mode) (entries : ℕ) (said more : List Saying) (events : List Event) (fault : Fault)
    → AreFine mode entries [] (said ++ more) events → RefusedBy mode entries said fault → ⊥
fine-not-refused mode entries said more events fault fine (front, one, later, before, is, fine_front, refuses) =
    fine-refused mode entries [] front one (later ++ more) events before fault
    (subst (λ (s : List Saying). AreFine mode entries [] s events) (ap (λ (s : List Saying). s ++ more) is ∙ append_assoc front (one ∷ later) more) fine) fine_front refuses

pub taken-stands : (mode : Mode) (entries : ℕ) (old new : List (RouteKey × Held)) (report counted : Counts) (tlv : TlvAt) (event : Event)
    (r : Result (Unit {0}) Fault) → OnOk r (Follows mode event old new)
    → length new ≤ entries → counted ≡ counted_with report tlv event
    → OnOk r ((said : List Saying) → StandsBehind mode entries (routes old report) said → StandsBehind mode entries (routes new counted) (said ++ event_at tlv event ∷ []))
taken-stands mode entries old new report counted tlv event (Ok u) follows few is =
    λ said stands. subst (λ (c : Counts). StandsBehind mode entries (routes new c) (said ++ event_at tlv event ∷ [])) (sym is)
    (stands-push mode entries old new report tlv event follows few said stands)
taken-stands mode entries old new report counted tlv event (Err fault) follows few is = tt
