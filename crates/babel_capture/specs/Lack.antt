-- Datagrams that are not all there. It is this project's own.
use Rattle.std.specs.Prelude.{ℕ, Bool, false, true}
use Rattle.babel_capture.specs.declared.fault.Fault.{Fault}
use Rattle.babel_capture.specs.declared.fault.Fault.TheVariants as faults
use Rattle.babel_capture.specs.declared.lack.Lack.{Lack}
use Rattle.babel_capture.specs.declared.lack.Lack.TheVariants as lacks
use Rattle.babel_capture.specs.declared.reason.Reason.{Reason}
use Rattle.babel_capture.specs.declared.reason.Reason.TheVariants as reasons

-- why such a datagram is left out
abbrev pub lack_reason : Lack → Reason
lack_reason lacks.Fragment = reasons.Fragment
lack_reason lacks.CutShort = reasons.CutShort
lack_reason lacks.Snapped = reasons.Snapped

-- fragments of it are missing
abbrev pub lacks_fragments : Lack → Bool
lacks_fragments lacks.Fragment = true
lacks_fragments lack = false

-- the fault of a capture whose dump lacks the datagram in the block at this offset
abbrev pub lack_fault : ℕ → Lack → Fault
lack_fault at lacks.Fragment = faults.Fragment at
lack_fault at lacks.CutShort = faults.DatagramCutShort at
lack_fault at lacks.Snapped = faults.Snapped at
