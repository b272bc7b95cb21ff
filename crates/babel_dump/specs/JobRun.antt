-- What the run of a job promises, by the kinds of work: this project's own.
use Rattle.std.specs.Prelude.{ℕ, List, Option, None, Some, Result}
use Rattle.babel_dump.specs.CaptureGiven.{CaptureInput, capture_from}
use Rattle.babel_dump.specs.CaptureRun.{CaptureCause, IsOnSeveral, SaysOfCapture, wanted_of}
use Rattle.babel_dump.specs.Each.{EachCause, LooksUpAsked}
use Rattle.babel_dump.specs.Files.{name_of}
use Rattle.babel_dump.specs.Given.{Reads, dump_of}
use Rattle.babel_dump.specs.Run.{Called, Calls, InputCause, OfFirst, Output, Ran, calls_of, capture_calls}
use Rattle.babel_dump.specs.Run.{stream_calls}
use Rattle.babel_dump.specs.Tasks.{ComparisonCause, ComparisonSays, IsFaultOf, TaskSays}
use Rattle.babel_dump.specs.declared.capture_reading.CaptureReading.{CaptureReading}
use Rattle.babel_dump.specs.declared.job.CaptureTask.{CaptureTask}
use Rattle.babel_dump.specs.declared.job.Job.{Job}
use Rattle.babel_dump.specs.declared.job.Work.{Work}
use Rattle.babel_dump.specs.declared.job.Work.TheVariants as works
use Rattle.babel_dump.specs.declared.outcome.Outcome.{Outcome}
use Rattle.babel_dump.specs.declared.run_fault.RunFault.{RunFault}

abbrev pub capture_of : Reads → CaptureReading → CaptureTask → CaptureInput
capture_of reader reading task =
    capture_from reader.old reader.new reading (wanted_of reading.accept_missing task)

-- what a job of this work says of what its readers gave, in its text and its outcome
abbrev pub SaysBy : Work → Job → (reader other : Reads) → List ℕ → Outcome → Type 0
SaysBy (works.Dump source task) job reader other =
    TaskSays task job.format job.quiet (name_of source.file) (dump_of reader source.reading)
SaysBy (works.Each source pairs with_prefix) job reader other =
    LooksUpAsked (dump_of reader source.reading) (dump_of other source.reading) job.format
    with_prefix
SaysBy (works.Two first second view task) job reader other =
    ComparisonSays task job.format view (name_of first.file) (name_of second.file)
    (dump_of reader first.reading) (dump_of other second.reading)
SaysBy (works.Capture reading file task) job reader other =
    SaysOfCapture task job.format (capture_of reader reading task)

-- why it says nothing; `untouched` says that the other reader is as it was
abbrev pub CauseBy : Work → (reader other : Reads) → (untouched : Type 0) → RunFault → Type 0
CauseBy (works.Dump source task) reader other untouched =
    let dump = dump_of reader source.reading in
    OfFirst (InputCause dump (IsFaultOf task dump))
CauseBy (works.Each source pairs with_prefix) reader other untouched =
    EachCause (dump_of reader source.reading) (dump_of other source.reading)
CauseBy (works.Two first second view task) reader other untouched =
    ComparisonCause task view (dump_of reader first.reading)
    (dump_of other second.reading) untouched
CauseBy (works.Capture reading file task) reader other untouched =
    let capture = capture_of reader reading task in
    OfFirst (CaptureCause capture (IsOnSeveral capture))

-- how often it may call its first reader, and the other where it reads that too
abbrev pub first_calls : Work → Reads → Calls
first_calls (works.Dump source task) reader = calls_of (dump_of reader source.reading)
first_calls (works.Each source pairs with_prefix) reader = calls_of (dump_of reader source.reading)
first_calls (works.Two first second view task) reader = calls_of (dump_of reader first.reading)
first_calls (works.Capture reading file task) reader =
    capture_calls (capture_of reader reading task)

abbrev pub other_calls : Work → Reads → Option Calls
other_calls (works.Each source pairs with_prefix) other =
    Some (stream_calls (dump_of other source.reading))
other_calls (works.Two first second view task) other =
    Some (calls_of (dump_of other second.reading))
other_calls work other = None

-- it does so, and the other reader is as it was where it is not read
abbrev pub OtherCalled :
    {T : Type 0} → Option Calls → (untouched : Type 0) → Result T RunFault → Type 0
OtherCalled None untouched result = untouched
OtherCalled (Some calls) untouched result = Called calls result

-- what its run does
pub record RanJob (job : Job) (reader other : Reads) (writer : Output) (untouched : Type 0)
    (result : Result Outcome RunFault) : Type 0 where
  pub ran :
      Ran writer (CauseBy job.work reader other untouched) (SaysBy job.work job reader other)
      result
  pub called : Called (first_calls job.work reader) result
  pub other_called : OtherCalled (other_calls job.work other) untouched result
