-- What is refused of a dump that is read strictly, besides its faults: this project's own.
use Rattle.std.specs.Prelude.{◌≡◌, ◌≢◌, Option, None, Some}
use Rattle.babel_table.specs.Counts.{Counts}
use Rattle.babel_dump.specs.Ignored.{IgnoresNone, first_ignored}
use Rattle.babel_dump.specs.declared.input_fault.InputFault.{InputFault}
use Rattle.babel_dump.specs.declared.input_fault.InputFault.TheVariants as input_faults
use Rattle.babel_dump.specs.declared.left_out.LeftOutDatagram.{LeftOutDatagram}

-- no TLV of the dump was ignored, no datagram was left out of it, and it has an Update
pub record IsReadWhole (left_out : Option LeftOutDatagram) (report : Counts) : Type 0 where
  pub none_ignored : IgnoresNone report
  pub none_left_out : left_out ≡ None
  pub has_updates : report.updates ≢ 0

-- why it is refused, in this order: its first ignored TLV, with whether an Update in encoding 4 was
-- ignored; a datagram that was left out; no Updates
abbrev pub IsNotReadWhole : Option LeftOutDatagram → Counts → InputFault → Type 0
IsNotReadWhole left_out report (input_faults.Ignored tlv ignores_4) =
    (first_ignored report ≡ Some tlv) × (ignores_4 ≡ report.ignores_4)
IsNotReadWhole left_out report (input_faults.LeftOut datagram) =
    IgnoresNone report × (left_out ≡ Some datagram)
IsNotReadWhole left_out report input_faults.NoUpdates =
    IgnoresNone report × (left_out ≡ None) × (report.updates ≡ 0)
IsNotReadWhole left_out report fault = ⊥
