-- What tells pairs has the pairs as its table.
use Rattle.std.proofs.Common.{◌≡◌, ℕ, ◌≤◌, List, [], ◌∷◌, ◌++◌, length, map, refl, sym, subst, ◌∙◌, append_assoc, inl, inr}
use Rattle.std.proofs.lemmas.Bool.{cases_lt}
use Rattle.std.proofs.lemmas.List.{append-nil}
use Rattle.babel_prefix.specs.Address.{Address}
use Rattle.babel_tlv.specs.declared.event.Event.{Event}
use Rattle.babel_tlv.specs.declared.event.Event.TheVariants as events
use Rattle.babel_tlv.specs.declared.mode.Mode.{Mode}
use Rattle.babel_tlv.specs.declared.mode.Mode.TheVariants as modes
use Rattle.babel_tlv.specs.Says.{Saying, sayings}
use Rattle.babel_tlv.specs.Pair.{Pair}
use Rattle.babel_tlv.proofs.Telling.{as_ok, what_of}
use Rattle.babel_table.specs.Bounds.{Bounds, start_of}
use Rattle.babel_table.specs.Counts.{counts_of}
use Rattle.babel_table.specs.TableOf.{AreFine, IsTableOf}
use Rattle.babel_table.specs.Holds.{AreRowsOf, HoldsAtMost}
use Rattle.babel_table.specs.Rows.{IsRising}
use Rattle.babel_table.proofs.RowsLaws.{rows-none, rows-announce, rows-retract_hold, rows-retract_plain, rows-all_plain, rows-all_hold, rows_nothing, rows_ignored}
use Rattle.babel_canon.specs.RoundTrip.{TellsPairs, AreReadableIn}
use Rattle.babel_canon.proofs.PairRows.{few_hold, pairs_hold, rising-apart}

-- ---- some rows stand behind any events

abbrev SomeRows : Mode → List Event → Type 0
SomeRows mode said = (rows : List Pair) × AreRowsOf mode said rows

one_more : (mode : Mode) (said : List Event) (event : Event) → SomeRows mode said → SomeRows mode (said ++ event ∷ [])
one_more mode said (events.Announce key ann) some = (_, rows-announce mode said some.0 key ann some.1)
one_more modes.Plain said (events.Retract key) some = (_, rows-retract_plain said some.0 key some.1)
one_more modes.Hold said (events.Retract key) some = (_, rows-retract_hold said some.0 key some.1)
one_more modes.Plain said events.RetractAll some = ([], rows-all_plain said)
one_more modes.Hold said events.RetractAll some = (_, rows-all_hold said some.0 some.1)
one_more mode said events.Nothing some = (some.0, rows_nothing mode said some.0 some.1)
one_more mode said (events.Ignored reason) some = (some.0, rows_ignored mode said some.0 reason some.1)

more : (mode : Mode) (before later : List Event) → SomeRows mode before → SomeRows mode (before ++ later)
more mode before [] some = subst (SomeRows mode) (sym (append-nil before)) some
more mode before (event ∷ later) some =
    subst (SomeRows mode) (append_assoc before (event ∷ []) later) (more mode (before ++ event ∷ []) later (one_more mode before event some))

some_rows : (mode : Mode) (said : List Event) → SomeRows mode said
some_rows mode said = more mode [] said ([], rows-none mode)

-- ---- octets that tell rising pairs have a table

fine_from : (mode : Mode) (entries : ℕ) (told before : List Event) (all : List Saying) (later : List Event)
    → ((first behind : List Event) → told ≡ first ++ behind → HoldsAtMost mode entries first) → told ≡ before ++ later → map what_of all ≡ map as_ok later
    → AreFine mode entries before all told
fine_from mode entries told before [] [] few parts whats = parts ∙ append-nil before
fine_from mode entries told before [] (event ∷ later) few parts whats = absurd cc
fine_from mode entries told before (saying ∷ all) [] few parts whats = absurd cc
fine_from mode entries told before (saying ∷ all) (event ∷ later) few parts whats =
    let here : saying.what ≡ as_ok event = cc in
    let rest : map what_of all ≡ map as_ok later = cc in
    let on : told ≡ (before ++ event ∷ []) ++ later = parts ∙ sym (append_assoc before (event ∷ []) later) in
    (event, here, few (before ++ event ∷ []) later on, fine_from mode entries told (before ++ event ∷ []) all later few on rest)

pub table_of_pairs : (limits : Bounds) (mode : Mode) (sender : Address) (octets : List ℕ) (pairs : List Pair) → IsRising pairs → AreReadableIn mode pairs → length pairs ≤ limits.entries
    → (tells : TellsPairs (start_of limits sender) octets pairs) → IsTableOf limits mode sender octets (record { rows = pairs; report = counts_of (sayings (start_of limits sender) tells.packets) })
table_of_pairs limits mode sender octets pairs rising readable room tells =
    let hold = pairs_hold mode tells.said pairs (rising-apart pairs rising) readable tells.news in
    record {
      packets = tells.packets;
      said = tells.said;
      reads = tells.reads;
      fine = fine_from mode limits.entries tells.said [] (sayings (start_of limits sender) tells.packets) tells.said few refl tells.fine;
      rows = record { rising = rising; held = λ key held c. (hold key held).1 c; all = λ key held h. (hold key held).0 h };
      report = refl;
    }
  where
    few : (first behind : List Event) → tells.said ≡ first ++ behind → HoldsAtMost mode limits.entries first
    few first behind parts =
        let rows = some_rows mode first in
        elim (cases_lt limits.entries (length rows.0)) as (λ _. HoldsAtMost mode limits.entries first) [
          | inl over ↦ absurd (few_hold mode limits.entries tells.said behind first pairs tells.news parts room (rows.0, rows.1, over))
          | inr within ↦ (rows.0, rows.1, within)
        ]
