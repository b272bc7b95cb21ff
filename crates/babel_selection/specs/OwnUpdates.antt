-- The Updates of a router's own with a finite metric, in its packets: RFC 8966, 3.7.3, 4.6.9.
use Rattle.std.specs.Prelude.{ℕ, List, [], ◌∷◌, ◌++◌, Result, Ok, Err}
use Rattle.babel_tlv.specs.Context.{Context, context_after, updated}
use Rattle.babel_tlv.specs.Framing.{TlvAt, tlvs_of}
use Rattle.babel_tlv.specs.Says.{said}
use Rattle.babel_tlv.specs.declared.event.Event.{Event}
use Rattle.babel_tlv.specs.declared.event.Event.TheVariants as events
use Rattle.babel_tlv.specs.declared.fault.Fault.{Fault}
use Rattle.babel_tlv.specs.declared.start.Start.{Start}
use Rattle.babel_selection.specs.Distances.{OwnUpdate}

-- what a TLV announces
abbrev pub update_of : (time : ℕ) → Event → List OwnUpdate
update_of time (events.Announce key ann) = record { key = key; ann = ann; time = time } ∷ []
update_of time event = []

-- and those after it; nothing where it refuses its packet
abbrev pub updates_on : (time : ℕ) → Result Event Fault → List OwnUpdate → List OwnUpdate
updates_on time (Ok event) later = update_of time event ++ later
updates_on time (Err fault) later = []

-- what these TLVs announce, in order, each in the context after those before it, up to one that
-- refuses their packet
unfoldable pub updates_in : Context → (time : ℕ) → List TlvAt → List OwnUpdate
updates_in context time [] = []
updates_in context time (tlv ∷ tlvs) =
    updates_on time (said context tlv) (updates_in (updated context tlv) time tlvs)

-- what the body of a packet does that begins so
abbrev pub updates_of : Start → (time : ℕ) → (body : List ℕ) → List OwnUpdate
updates_of start time body = updates_in (context_after start []) time (tlvs_of 0 body)
