-- Why a packet of a sender is refused, and what was told of it before: this project's own.
use Rattle.std.specs.Prelude.{◌≡◌, ℕ, ◌+◌, ◌^◌, ◌<◌, ◌≤◌, ◌⊎◌, true, List, [], ◌∷◌, ◌++◌, fold, length}
use Rattle.std.specs.Prelude.{Option, None, Result, Ok, Err}
use Rattle.std.specs.declared.cmp.Ordering.{Ordering}
use Rattle.babel_tlv.specs.declared.event.Event.{Event}
use Rattle.babel_tlv.specs.declared.event.Event.TheVariants as events
use Rattle.babel_tlv.specs.declared.fault.Fault.{Fault}
use Rattle.babel_tlv.specs.declared.fault.Fault.TheVariants as faults
use Rattle.babel_tlv.specs.declared.start.Start.{Start}
use Rattle.babel_tlv.specs.declared.view.View.{View}
use Rattle.babel_tlv.specs.Context.{Context, first_context, updated}
use Rattle.babel_tlv.specs.FrameFaults.{BeginsPacket, PacketFault}
use Rattle.babel_tlv.specs.Framing.{TlvAt, tlvs_of}
use Rattle.babel_tlv.specs.Says.{said as said_at}
use Rattle.babel_table.specs.Moments.{told_from}
use Rattle.babel_timeline.specs.declared.telling.Telling.{Telling}
use Rattle.babel_timeline.specs.Rows.{Held, Rows, row_at, subject_of}
use Rattle.babel_timeline.specs.Telling.{AskedFor, Tells, counts, said_of}

-- the context after these TLVs of a packet
abbrev pub context_behind : Start → List TlvAt → Context
context_behind start front = fold updated (first_context start) front

module _ {S : Type 0} (cmp : S → S → Ordering) (limit : ℕ) (asked : AskedFor) (sender : S) where
  -- it is announced what counts, and would be a row more, where there are as many as may be
  abbrev pub IsRowTooMany : Rows S → Event → Type 0
  IsRowTooMany rows (events.Announce key ann) = (counts asked key ≡ true)
      × (row_at cmp rows (subject_of sender key) ≡ None) × (limit ≤ length rows)
  IsRowTooMany rows event = ⊥

  -- what a TLV at this offset says is refused: it is a fault, or a row too many
  abbrev pub RefusesTlv : Rows S → (at : ℕ) → Result Event Fault → Fault → Type 0
  RefusesTlv rows at (Err refused) fault = fault ≡ refused
  RefusesTlv rows at (Ok event) fault =
      (fault ≡ faults.TooManyRoutes at) × IsRowTooMany rows event

  -- what happens is refused, and changes and tells nothing
  abbrev pub RefusesEvent : (old new : Held S) → (told later : List (Telling S)) → (at : ℕ) → Event
      → Fault → Type 0
  RefusesEvent old new told later at event fault =
      (new ≡ old) × (later ≡ told) × RefusesTlv old.rows at (Ok event) fault

  -- the next of these TLVs is refused, where these rows are held after those before it
  pub record RefusesNext (start : Start) (tlvs front : List TlvAt) (rows : Rows S) (fault : Fault)
      : Type 0 where
    pub tlv : TlvAt
    pub back : List TlvAt
    pub are : tlvs ≡ front ++ tlv ∷ back
    pub refused : RefusesTlv rows tlv.at (said_at (context_behind start front) tlv) fault

  -- and what changed by those before it is told
  pub record RefusesTlvs (factor : Option ℕ) (view : View) (start : Start) (time : ℕ)
      (tlvs : List TlvAt) (rows after : Rows S) (old new : List (Telling S)) (fault : Fault)
      : Type 0 where
    pub front : List TlvAt
    pub tells : Tells cmp factor asked
        (said_of asked view sender (told_from time (first_context start) front)) time rows after
        old new
    pub next : RefusesNext start tlvs front after fault

  -- The packet, which lies at this offset, would have more octets end where they can't be counted, or
  -- more TLVs were counted than octets; or it is no packet, or its body is not TLVs to its end; or
  -- the TLV after these of its body is refused.
  abbrev pub RefusesBehind : Start → (at tlvs : ℕ) → (packet : List ℕ) → (front : List TlvAt)
      → Rows S → Fault → Type 0
  RefusesBehind start at tlvs packet front rows fault =
      ((front ≡ []) × (fault ≡ faults.TooLong) × ((2 ^ 64 ≤ at + length packet) ⊎ (at < tlvs)))
      ⊎ ((front ≡ []) × PacketFault at packet fault)
      ⊎ ((body : List ℕ) × BeginsPacket packet body
      × RefusesNext start (tlvs_of (at + 4) body) front rows fault)

  -- a packet is refused, and what changed by the TLVs before its fault is told
  pub record RefusesPacket (factor : Option ℕ) (view : View) (start : Start) (time at tlvs : ℕ)
      (packet : List ℕ) (rows after : Rows S) (old new : List (Telling S)) (fault : Fault)
      : Type 0 where
    pub front : List TlvAt
    pub tells : Tells cmp factor asked
        (said_of asked view sender (told_from time (first_context start) front)) time rows after
        old new
    pub cause : RefusesBehind start at tlvs packet front after fault
