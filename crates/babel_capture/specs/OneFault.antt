-- Laws of the definitions: octets have one outcome or one fault. These are this project's own.
use Rattle.std.specs.Prelude.{◌≡◌, ℕ, List, Option, Some}
use Rattle.babel_capture.specs.declared.fault.Fault.{Fault}
use Rattle.babel_capture.specs.declared.fault.Fault.TheVariants as faults
use Rattle.babel_capture.specs.declared.wanted.Wanted.{Wanted}
use Rattle.babel_capture.specs.Capture.{CaptureFault, IsRead, IsReadToCut}
use Rattle.babel_capture.specs.Gathering.{Gathering}
use Rattle.babel_capture.specs.Window.{Extent}

-- octets that are a capture have no fault
abbrev pub ReadHasNoFault : Type 0
ReadHasNoFault =
    (limit : Extent) (octets : List ℕ) (gathering : Gathering) → IsRead limit octets gathering
    → (fault : Fault) → CaptureFault limit gathering.wanted octets fault → ⊥

-- those that are one up to a cut have no other fault than that
abbrev pub CutIsTheFault : Type 0
CutIsTheFault =
    (limit : Extent) (octets : List ℕ) (gathering : Gathering) (cut : Option ℕ)
    → IsReadToCut limit octets gathering cut → (fault : Fault)
    → CaptureFault limit gathering.wanted octets fault
    → (at : ℕ) × (cut ≡ Some at) × (fault ≡ faults.CutShort at)

-- and other octets have one
abbrev pub FaultIsOne : Type 0
FaultIsOne =
    (limit : Extent) (wanted : Wanted) (octets : List ℕ) (one other : Fault)
    → CaptureFault limit wanted octets one → CaptureFault limit wanted octets other → one ≡ other
