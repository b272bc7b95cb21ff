-- The table of a dump: RFC 8966, 3.2.6, 4.2 to 4.6; the limits of a run are this project's own.
use Rattle.std.specs.Prelude.{◌≡◌, ℕ, List, [], ◌∷◌, ◌++◌, Ok}
use Rattle.babel_prefix.specs.Address.{Address}
use Rattle.babel_tlv.specs.declared.event.Event.{Event}
use Rattle.babel_tlv.specs.declared.mode.Mode.{Mode}
use Rattle.babel_tlv.specs.Framing.{TlvAt, ReadsAs}
use Rattle.babel_tlv.specs.Says.{Saying, sayings}
use Rattle.babel_table.specs.Bounds.{Bounds, start_of}
use Rattle.babel_table.specs.Counts.{counts_of}
use Rattle.babel_table.specs.Rows.{Routes}
use Rattle.babel_table.specs.Holds.{HoldsAtMost, AreRowsOf}

-- none of the sayings refuses the dump: each is an event, `said` is `before` and then these events,
-- and after each of them something is held for at most so many keys (`entries`). `before` has the
-- events so far, so it begins as [].
abbrev pub AreFine : Mode → ℕ → List Event → List Saying → List Event → Type 0
AreFine mode entries before [] said = said ≡ before
AreFine mode entries before (saying ∷ later) said =
    (event : Event) × (saying.what ≡ Ok event) × HoldsAtMost mode entries (before ++ event ∷ [])
    × AreFine mode entries (before ++ event ∷ []) later said

-- the table of a dump, which is whole packets whose TLVs do not refuse it: its rows are what is
-- held after its events, and its report counts its TLVs. (That the dump has no more octets than the
-- limit is asked by `HasNoFault`.)
pub record IsTableOf (limits : Bounds) (mode : Mode) (sender : Address) (dump : List ℕ)
    (table : Routes) : Type 0 where
  pub packets : List (List TlvAt)
  pub said : List Event
  pub reads : ReadsAs dump packets []
  pub fine : AreFine mode limits.entries [] (sayings (start_of limits sender) packets) said
  pub rows : AreRowsOf mode said table.rows
  pub report : table.report ≡ counts_of (sayings (start_of limits sender) packets)
