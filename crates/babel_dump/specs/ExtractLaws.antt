-- What `extract` writes is a dump for the commands over dumps: this project's own.
use Rattle.std.specs.Prelude.{ℕ, Bool, List, ◌++◌, false, Option, Ok, Err}
use Rattle.babel_prefix.specs.Address.{Address}
use Rattle.babel_capture.specs.declared.place.Place.{Place}
use Rattle.babel_tlv.specs.declared.fault.Fault.{Fault}
use Rattle.babel_tlv.specs.declared.fault.Fault.TheVariants as faults
use Rattle.babel_dump.specs.OneOutcome.{RanOver, octets_at}
use Rattle.babel_dump.specs.declared.capture_reading.CaptureReading.{CaptureReading}
use Rattle.babel_dump.specs.declared.format.Format.{Format}
use Rattle.babel_dump.specs.declared.input_fault.InputFault.TheVariants as input_faults
use Rattle.babel_dump.specs.declared.job.CaptureTask.TheVariants as capture_tasks
use Rattle.babel_dump.specs.declared.job.DumpFile.{DumpFile}
use Rattle.babel_dump.specs.declared.job.Job.{Job}
use Rattle.babel_dump.specs.declared.job.Work.TheVariants as works
use Rattle.babel_dump.specs.declared.outcome.Outcome.{Outcome}
use Rattle.babel_dump.specs.declared.run_fault.RunFault.TheVariants as run_faults
use Rattle.babel_dump.specs.declared.run_fault.Side.{Side}

-- a packet is truncated, or has a wrong magic or version: RFC 8966, 4.2
abbrev pub IsOfFraming : Fault → Type 0
IsOfFraming (faults.Truncated at) = Unit {0}
IsOfFraming (faults.BadMagic at) = Unit {0}
IsOfFraming (faults.BadVersion at) = Unit {0}
IsOfFraming fault = ⊥

-- a run of `extract` answered an outcome, and wrote these octets, as they are
pub record Extracted (dump : List ℕ) : Type 0 where
  pub reading : CaptureReading
  pub sender : Address
  pub place : Option Place
  pub file : DumpFile
  pub format : Format
  pub quiet : Bool
  pub octets : List ℕ
  pub other : List ℕ
  pub before : List ℕ
  pub outcome : Outcome
  pub ran : let job : Job = record {
    work = works.Capture reading file (capture_tasks.Extract sender place false);
    format = format;
    quiet = quiet;
  } in RanOver job octets other before (before ++ dump) (Ok outcome)

-- no job over them, whatever its words and limits, refuses them for such a fault: not as its first
-- dump, and not as the other of a comparison
abbrev pub ExtractedIsFramed : Type 0
ExtractedIsFramed =
    (job : Job) (side : Side) (octets other : List ℕ) (before after : List ℕ) (fault : Fault)
    → Extracted (octets_at side octets other)
    → RanOver job octets other before after
    (Err (run_faults.Input side (input_faults.Dump fault)))
    → ¬ IsOfFraming fault
