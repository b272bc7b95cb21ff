-- The counts of TLVs, one more at a time.
use Rattle.std.specs.Prelude.{ℕ, ◌+◌, ◌==◌, ◌||◌, if◌then◌else◌, List, slice_set}
use Rattle.std.specs.Prelude.{Option, None, Some, Ok}
use Rattle.babel_tlv.specs.declared.event.Event.{Event}
use Rattle.babel_tlv.specs.declared.event.Event.TheVariants as events
use Rattle.babel_tlv.specs.Framing.{TlvAt}
use Rattle.babel_table.specs.Counts.{Counts, reason_place, count_at, is_unread_4}

-- one more ignored TLV at this offset
abbrev pub one_more : ℕ → Option (ℕ × ℕ) → Option (ℕ × ℕ)
one_more at None = Some (1, at)
one_more at (Some counted) = Some (counted.0 + 1, counted.1)

-- the counts of ignored TLVs, and of one more TLV that says this at this offset
abbrev pub ignored_with : List (Option (ℕ × ℕ)) → Event → ℕ → List (Option (ℕ × ℕ))
ignored_with ignored (events.Announce key ann) at = ignored
ignored_with ignored (events.Retract key) at = ignored
ignored_with ignored events.RetractAll at = ignored
ignored_with ignored events.Nothing at = ignored
ignored_with ignored (events.Ignored reason) at =
    slice_set ignored (reason_place reason) (one_more at (count_at ignored (reason_place reason)))

-- the counts of TLVs, and of one more that says this
abbrev pub counted_with : Counts → TlvAt → Event → Counts
counted_with counts tlv event = record {
  tlvs = counts.tlvs + 1;
  updates = counts.updates + (if tlv.kind == 8 then 1 else 0);
  ignores_4 = counts.ignores_4 || is_unread_4 tlv.kind tlv.body (Ok event);
  ignored = ignored_with counts.ignored event tlv.at;
}
