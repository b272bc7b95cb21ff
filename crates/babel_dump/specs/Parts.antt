-- What the two parts of a run promise, reading and writing. These are this project's own.
use Rattle.std.specs.Prelude.{ℕ, ◌≡◌, ◌≢◌, ◌⊎◌, List}
use Rattle.std.specs.Prelude.{Result, IfOk, IfErr}
use Rattle.babel_prefix.specs.Address.{Address}
use Rattle.babel_tlv.specs.declared.fault.Fault.{Fault}
use Rattle.babel_tlv.specs.declared.fault.Fault.TheVariants as faults
use Rattle.babel_tlv.specs.declared.view.View.{View}
use Rattle.babel_table.specs.Rows.{Routes}
use Rattle.babel_table.specs.Feeding.{Progress, HasRead}
use Rattle.babel_table.specs.declared.answer.Answer.{Answer}
use Rattle.babel_dump.specs.AskedPairs.{IsFirstWrong}
use Rattle.babel_dump.specs.CaptureGiven.{CaptureInput}
use Rattle.babel_dump.specs.CaptureRun.{CaptureCause, IsOnSeveral, SaysOfCapture}
use Rattle.babel_dump.specs.Command.{IsOfMany, IsOfMemory, OfBoth}
use Rattle.babel_dump.specs.Given.{GaveAll, Input, Reads}
use Rattle.babel_dump.specs.JobRun.{CauseBy, OtherCalled, SaysBy, first_calls, other_calls}
use Rattle.babel_dump.specs.Run.{Called, Calls, OfFirst, capture_calls}
use Rattle.babel_dump.specs.RunText.{row_in}
use Rattle.babel_dump.specs.SlicedRows.{found_text}
use Rattle.babel_dump.specs.declared.both.SeenTables.{SeenTables}
use Rattle.babel_dump.specs.declared.format.Format.{Format}
use Rattle.babel_dump.specs.declared.job.CaptureTask.{CaptureTask}
use Rattle.babel_dump.specs.declared.job.Job.{Job}
use Rattle.babel_dump.specs.declared.outcome.Outcome.{Outcome}
use Rattle.babel_dump.specs.declared.pairs_fault.PairsFault.TheVariants as pairs_faults
use Rattle.babel_dump.specs.declared.run_fault.RunFault.{RunFault}
use Rattle.babel_dump.specs.declared.run_fault.RunFault.TheVariants as run_faults
use Rattle.babel_dump.specs.declared.slices.Found.{Found}

-- what a feeder was fed is what the reader gave, all that it had
pub record IsFedAll (feeder : Progress) (reader : Input) : Type 0 where
  pub given : List ℕ
  pub fed : HasRead feeder given
  pub gave : GaveAll reader given

-- a dump was given, and this is the row by which its table answers for the addresses, and its report
pub record GaveAnswer (Gave : Routes → Type 0) (dst src : Address) (answer : Answer) : Type 0 where
  pub table : Routes
  pub gave : Gave table
  pub row : answer.row ≡ row_in table dst src
  pub report : answer.report ≡ table.report

-- what reading from a device promises, of which something was made, and whose faults have these
-- causes
pub record Gathered {T E : Type 0} (calls : Calls) (Cause : E → Type 0) (Made : T → Type 0)
    (result : Result T E) : Type 0 where
  pub made : IfOk result Made
  pub cause : IfErr result Cause
  pub called : Called calls result

-- what was found says this in its text, in this format, and its outcome
abbrev pub Says : Format → (List ℕ → Outcome → Type 0) → Found → Type 0
Says format Holds found = Holds (found_text format found) found.outcome

-- what a task finds of a capture that a reader gave
abbrev pub FoundIn :
    CaptureTask → Format → (reader : CaptureInput) → Result Found RunFault → Type 0
FoundIn task format reader =
    Gathered (capture_calls reader) (OfFirst (CaptureCause reader (IsOnSeveral reader)))
    (Says format (SaysOfCapture task format reader))

-- why nothing was found of a table: it has too many pairs, of which this holds, or memory ran out
abbrev pub FoundTooMany : (Many : Type 0) → Fault → Type 0
FoundTooMany Many fault = fault ≢ faults.Memory → (fault ≡ faults.TooManyPairs) × Many

-- or of two, which have too many differences
abbrev pub ComparedTooMany : (Many : Type 0) → RunFault → Type 0
ComparedTooMany Many fault = IsOfMemory fault ⊎ (IsOfMany fault × Many)

-- a fault of lines: the first that is wrong, or out of memory
abbrev pub IsFaultOfLines : List (List ℕ) → RunFault → Type 0
IsFaultOfLines lines (run_faults.Pairs (pairs_faults.NotAPair line)) = IsFirstWrong lines line
IsFaultOfLines lines (run_faults.Pairs fault) = ⊥
IsFaultOfLines lines fault = IsOfMemory fault

-- two readers gave a dump each, and these are their tables, as a view shows them
abbrev pub GaveSeen : (reader other : Input) → View → SeenTables → Type 0
GaveSeen reader other view seen =
    OfBoth reader other view (λ left right. (seen.left ≡ left) × (seen.right ≡ right))

-- what a job finds of what its readers gave
pub record FoundBy (job : Job) (reader other : Reads) (untouched : Type 0)
    (result : Result Found RunFault) : Type 0 where
  pub says : IfOk result (Says job.format (SaysBy job.work job reader other))
  pub cause : IfErr result (CauseBy job.work reader other untouched)
  pub called : Called (first_calls job.work reader) result
  pub other_called : OtherCalled (other_calls job.work other) untouched result
