-- Laws of the definitions: what a job's run answers and writes is settled by the octets of its
-- readers. These are this project's own.
use Rattle.std.specs.Prelude.{◌≡◌, ◌≢◌, ℕ, Bool, true, false, List, ◌++◌, take}
use Rattle.std.specs.Prelude.{Some, Result, Ok, Err}
use Rattle.babel_prefix.specs.Address.{Address}
use Rattle.babel_capture.specs.declared.place.Place.{Place}
use Rattle.babel_capture.specs.OneOrigin.{only}
use Rattle.babel_tlv.specs.declared.fault.Fault.{Fault}
use Rattle.babel_tlv.specs.declared.fault.Fault.TheVariants as faults
use Rattle.babel_table.specs.DumpFault.{DumpFault}
use Rattle.babel_dump.specs.CaptureGiven.{CaptureInput}
use Rattle.babel_dump.specs.CaptureRun.{IsOnSeveral}
use Rattle.babel_dump.specs.Files.{reading_of}
use Rattle.babel_dump.specs.Given.{IsAtOnePlace, IsFaultInCapture, Reads}
use Rattle.babel_dump.specs.JobRun.{RanJob}
use Rattle.babel_dump.specs.Run.{Output}
use Rattle.babel_dump.specs.declared.input_fault.InputFault.{InputFault}
use Rattle.babel_dump.specs.declared.input_fault.InputFault.TheVariants as input_faults
use Rattle.babel_dump.specs.declared.interfaces.Interfaces.{Interfaces}
use Rattle.babel_dump.specs.declared.job.Job.{Job}
use Rattle.babel_dump.specs.declared.outcome.Outcome.{Outcome}
use Rattle.babel_dump.specs.declared.pairs_fault.PairsFault.TheVariants as pairs_faults
use Rattle.babel_dump.specs.declared.reading.Reading.{Reading}
use Rattle.babel_dump.specs.declared.run_fault.RunFault.{RunFault}
use Rattle.babel_dump.specs.declared.run_fault.RunFault.TheVariants as run_faults
use Rattle.babel_dump.specs.declared.run_fault.Side.{Side}
use Rattle.babel_dump.specs.declared.run_fault.Side.TheVariants as sides

-- A run of the job over devices that say their octets: the readers have `octets` and `other`, and the
-- writer took `before` until then, and `after` at last.
pub record RanOver (job : Job) (octets other : List ℕ) (before after : List ℕ)
    (result : Result Outcome RunFault) : Type 0 where
  pub reader : Reads
  pub second : Reads
  pub writer : Output
  pub ran : RanJob job reader second writer (second.new ≡ second.old) result
  pub has : reader.old.left ≡ Some octets
  pub other_has : second.old.left ≡ Some other
  pub took : writer.old.taken ≡ Some before
  pub takes : writer.new.taken ≡ Some after

-- the fault is that of a dump's octets, or of what was left out: no call failed, memory did
-- not run out, and it is no fault of a capture's octets
abbrev pub IsOfDump : InputFault → Type 0
IsOfDump (input_faults.Dump fault) = fault ≢ faults.Memory
IsOfDump (input_faults.Ignored tlv ignores_4) = Unit {0}
IsOfDump (input_faults.LeftOut datagram) = Unit {0}
IsOfDump input_faults.NoUpdates = Unit {0}
IsOfDump fault = ⊥

-- or that of the text of pairs
abbrev pub IsOfOctets : RunFault → Type 0
IsOfOctets (run_faults.Input side fault) = IsOfDump fault
IsOfOctets (run_faults.Pairs pairs_faults.Read) = ⊥
IsOfOctets (run_faults.Pairs fault) = Unit {0}
IsOfOctets run_faults.Write = ⊥

-- two runs of a job over the same octets that answer an outcome answer the same, and write the
-- same text
abbrev pub OutcomeIsOne : Type 0
OutcomeIsOne =
    (job : Job) (octets other : List ℕ) (before after before_too after_too : List ℕ)
    (outcome outcome_too : Outcome)
    → RanOver job octets other before after (Ok outcome)
    → RanOver job octets other before_too after_too (Ok outcome_too)
    → (outcome ≡ outcome_too)
    × ((text : List ℕ) × (after ≡ before ++ text) × (after_too ≡ before_too ++ text))

-- where one answers an outcome, no other answers a fault of the octets
abbrev pub OutcomeOrFault : Type 0
OutcomeOrFault =
    (job : Job) (octets other : List ℕ) (before after before_too after_too : List ℕ)
    (outcome : Outcome)
    (fault : RunFault)
    → RanOver job octets other before after (Ok outcome)
    → RanOver job octets other before_too after_too (Err fault)
    → ¬ IsOfOctets fault

-- where two answer a fault of the octets, it is the same
abbrev pub FaultIsOne : Type 0
FaultIsOne =
    (job : Job) (octets other : List ℕ) (before after before_too after_too : List ℕ)
    (fault fault_too : RunFault)
    → RanOver job octets other before after (Err fault)
    → RanOver job octets other before_too after_too (Err fault_too)
    → IsOfOctets fault → IsOfOctets fault_too → fault ≡ fault_too

-- what a dump on a side is
abbrev pub octets_at : Side → (octets other : List ℕ) → List ℕ
octets_at sides.First octets other = octets
octets_at sides.Other octets other = other

-- the octets, read so, have the fault: as a dump, or as a capture that has it, in which the sender
-- is at one place
abbrev pub IsFaultOfOctets : (is_capture : Bool) → Reading → List ℕ → Fault → Type 0
IsFaultOfOctets false reading octets fault =
    DumpFault reading.limits reading.mode reading.sender octets fault
IsFaultOfOctets true reading octets fault =
    IsFaultInCapture reading octets fault × IsAtOnePlace reading octets

-- A dump's fault is that of all octets that its reader had; but for out of memory, and for too
-- many pairs, which no octets have.
abbrev pub FaultIsOfAll : Type 0
FaultIsOfAll =
    (job : Job) (side : Side) (reading : Reading) (octets other : List ℕ)
    (before after : List ℕ)
    (fault : Fault)
    → reading_of side job.work ≡ Some reading
    → RanOver job octets other before after
    (Err (run_faults.Input side (input_faults.Dump fault)))
    → fault ≢ faults.Memory → fault ≢ faults.TooManyPairs
    → IsFaultOfOctets reading.is_capture reading (octets_at side octets other) fault

-- a failed write leaves the first octets of the text that any run over the same octets writes
-- that answers an outcome
abbrev pub WrittenIsPrefix : Type 0
WrittenIsPrefix =
    (job : Job) (octets other : List ℕ) (before after before_too after_too : List ℕ)
    (outcome : Outcome)
    → RanOver job octets other before after (Err run_faults.Write)
    → RanOver job octets other before_too after_too (Ok outcome)
    → (text : List ℕ) × (n : ℕ) × (after_too ≡ before_too ++ text) × (after ≡ before ++ take n text)

-- any other fault leaves nothing
abbrev pub NothingWritten : Type 0
NothingWritten =
    (job : Job) (octets other : List ℕ) (before after : List ℕ) (fault : RunFault)
    → RanOver job octets other before after (Err fault) → fault ≢ run_faults.Write
    → after ≡ before

-- where a place is named, a capture is not refused for several
abbrev pub NamedIsNotSeveral : Type 0
NamedIsNotSeveral =
    (reader : CaptureInput) (sender : Address) (place : Place) (accepts : Bool)
    (interfaces : Interfaces) → reader.wanted
    ≡ only accepts (record { sender = sender; place = place })
    → ¬ IsOnSeveral reader interfaces
