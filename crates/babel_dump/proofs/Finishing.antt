-- A run that finished wrote what was found, or answered why nothing was found.
use Rattle.std.proofs.Common.{◌≡◌, ℕ, List, Option, None, Some, Result, Ok, Err, arith, ap, sym, subst, refl, inl, inr}
use Rattle.std.proofs.lemmas.Result.{IfErr-weaker, IfOk-weaker}
use Rattle.std.specs.Prelude.{IfOk, IfErr}
use Rattle.babel_dump.specs.Command.{CompareCause, IsFaultWith, OfBoth, SaysOf}
use Rattle.babel_dump.specs.Given.{Input, IsFaultOfGiven, Reads}
use Rattle.babel_dump.specs.JobRun.{CauseBy, OtherCalled, RanJob, SaysBy, other_calls}
use Rattle.babel_dump.specs.Parts.{FoundBy, Gathered, Says}
use Rattle.babel_dump.specs.Run.{Called, Calls, InputCause, OfFirst, OfStatus, Output, Ran, RanAlone, UnlessWrite, calls_of, run_status}
use Rattle.babel_dump.specs.SlicedRows.{Finished, found_text}
use Rattle.babel_table.specs.Rows.{Routes}
use Rattle.babel_tlv.specs.declared.fault.Fault.{Fault}
use Rattle.babel_tlv.specs.declared.fault.Fault.TheVariants as faults
use Rattle.babel_tlv.specs.declared.view.View.{View}
use Rattle.babel_dump.specs.declared.format.Format.{Format}
use Rattle.babel_dump.specs.declared.input_fault.InputFault.{InputFault}
use Rattle.babel_dump.specs.declared.input_fault.InputFault.TheVariants as input_faults
use Rattle.babel_dump.specs.declared.job.Job.{Job}
use Rattle.babel_dump.specs.declared.job.Work.{Work}
use Rattle.babel_dump.specs.declared.job.Work.TheVariants as works
use Rattle.babel_dump.specs.declared.outcome.Outcome.{Outcome}
use Rattle.babel_dump.specs.declared.run_fault.RunFault.{RunFault}
use Rattle.babel_dump.specs.declared.run_fault.RunFault.TheVariants as run_faults
use Rattle.babel_dump.specs.declared.run_fault.Side.TheVariants as sides
use Rattle.babel_dump.specs.declared.slices.Found.{Found}

-- out of memory, as it is told of the first input
abbrev of_memory : RunFault
of_memory = run_faults.Input sides.First (input_faults.Dump faults.Memory)

-- no write failed where a fault has a cause that a failed write has not
unless_write : (Cause : RunFault → Type 0) (fault : RunFault) (P Q : Type 0) → (Cause run_faults.Write → ⊥) → Cause fault → P → UnlessWrite fault P Q
unless_write Cause (run_faults.Input side fault) P Q never cause known = known
unless_write Cause (run_faults.Pairs fault) P Q never cause known = known
unless_write Cause run_faults.Write P Q never cause known = absurd (never cause)

-- a fault that is not that of a write, and the writer is as it was
refused : (writer : Output) (Cause : RunFault → Type 0) (Holds : List ℕ → Outcome → Type 0) (fault : RunFault) → (Cause run_faults.Write → ⊥) → Cause fault
    → writer.new ≡ writer.old → Ran writer Cause Holds (Err fault)
refused writer Cause Holds fault never cause same =
    let failures = ap (λ (state : _). state.failures) same in
    let flushes = ap (λ (state : _). state.flushes) same in record {
      wrote = tt;
      flushed = tt;
      no_failure = tt;
      cause = unless_write Cause fault _ _ never cause cause;
      prefix = unless_write Cause fault _ _ never cause same;
      one_failure = omega (arith, failures);
      one_flush = omega (arith, flushes);
    }

-- memory may run out once something was found
pub ran : (writer : Output) (Cause : RunFault → Type 0) (Holds : List ℕ → Outcome → Type 0) (format : Format) (found : Result Found RunFault) (result : Result Outcome RunFault)
    → (Cause run_faults.Write → ⊥) → IfOk found (λ _. Cause of_memory) → IfOk found (Says format Holds) → IfErr found Cause → Finished writer format found result
    → Ran writer Cause Holds result
ran writer Cause Holds format (Ok found) (Ok outcome) never memory says cause (inl finished) = record {
  wrote = (found_text format found, subst (λ (o : Outcome). Holds (found_text format found) o) (sym finished.1) says, finished.0.whole);
  flushed = finished.0.flushed;
  no_failure = finished.0.no_failure;
  cause = tt;
  prefix = tt;
  one_failure = finished.0.one_failure;
  one_flush = finished.0.one_flush;
}
ran writer Cause Holds format (Ok found) (Ok outcome) never memory says cause (inr refuses) = absurd refuses.0
ran writer Cause Holds format (Ok found) (Err fault) never memory says cause (inl finished) = rw finished.2 (record {
  wrote = tt;
  flushed = tt;
  no_failure = tt;
  cause = finished.0.cause;
  prefix = (found_text format found, found.outcome, says, finished.0.prefix);
  one_failure = finished.0.one_failure;
  one_flush = finished.0.one_flush;
})
ran writer Cause Holds format (Ok found) (Err fault) never memory says cause (inr (is, same)) = refused writer Cause Holds fault never (subst Cause (sym is) memory) same
ran writer Cause Holds format (Err fault) result never memory says cause finished = rw finished.0 (refused writer Cause Holds fault never cause finished.1)

-- the readers were called as they were for what was found
pub called : (calls : Calls) (writer : Output) (format : Format) (found : Result Found RunFault) (result : Result Outcome RunFault) → Called calls found → Finished writer format found result
    → Called calls result
called calls writer format (Ok found) (Ok outcome) of_found finished =
    record { no_failure = of_found.no_failure; reads = of_found.reads; failures = of_found.failures; ends = of_found.ends }
called calls writer format (Ok found) (Err fault) of_found finished =
    record { no_failure = tt; reads = of_found.reads; failures = of_found.failures; ends = of_found.ends }
called calls writer format (Err fault) result of_found finished =
    rw finished.0 (record { no_failure = tt; reads = of_found.reads; failures = of_found.failures; ends = of_found.ends })

-- what is known of a fault is known of it in weaker words
unless_weaker : (fault : RunFault) {P Q R S : Type 0} → (P → Q) → (R → S) → UnlessWrite fault P R → UnlessWrite fault Q S
unless_weaker (run_faults.Input side fault) weaker at_write = weaker
unless_weaker (run_faults.Pairs fault) weaker at_write = weaker
unless_weaker run_faults.Write weaker at_write = at_write

-- the same of the status alone
pub ran_status : (writer : Output) (Cause : RunFault → Type 0) (Holds : List ℕ → Outcome → Type 0) (result : Result Outcome RunFault)
    → Ran writer Cause Holds result → Ran writer Cause (OfStatus Holds) (run_status result)
ran_status writer Cause Holds (Ok outcome) run = record {
  wrote = (run.wrote.0, (outcome, run.wrote.1, refl), run.wrote.2);
  flushed = run.flushed;
  no_failure = run.no_failure;
  cause = tt;
  prefix = tt;
  one_failure = run.one_failure;
  one_flush = run.one_flush;
}
ran_status writer Cause Holds (Err fault) run = record {
  wrote = tt;
  flushed = tt;
  no_failure = tt;
  cause = run.cause;
  prefix = unless_weaker fault (λ same. same) (λ (text, outcome, says, prefix). (text, outcome.status, (outcome, says, refl), prefix)) run.prefix;
  one_failure = run.one_failure;
  one_flush = run.one_flush;
}

pub called_status : (calls : Calls) (result : Result Outcome RunFault) → Called calls result → Called calls (run_status result)
called_status calls (Ok outcome) run = record { no_failure = run.no_failure; reads = run.reads; failures = run.failures; ends = run.ends }
called_status calls (Err fault) run = record { no_failure = tt; reads = run.reads; failures = run.failures; ends = run.ends }

-- what a run promises, in weaker words
ran_weaker : {A : Type 0} (writer : Output) (Cause Causes : RunFault → Type 0) (Holds Others : List ℕ → A → Type 0) (result : Result A RunFault)
    → ((fault : RunFault) → Cause fault → Causes fault) → ((text : List ℕ) (answer : A) → Holds text answer → Others text answer)
    → Ran writer Cause Holds result → Ran writer Causes Others result
ran_weaker writer Cause Causes Holds Others (Ok answer) causes says run = record {
  wrote = (run.wrote.0, says _ answer run.wrote.1, run.wrote.2);
  flushed = run.flushed;
  no_failure = run.no_failure;
  cause = tt;
  prefix = tt;
  one_failure = run.one_failure;
  one_flush = run.one_flush;
}
ran_weaker writer Cause Causes Holds Others (Err fault) causes says run = record {
  wrote = tt;
  flushed = tt;
  no_failure = tt;
  cause = unless_weaker fault (causes fault) (λ failed. failed) run.cause;
  prefix = unless_weaker fault (λ same. same) (λ (text, answer, holds, prefix). (text, answer, says text answer holds, prefix)) run.prefix;
  one_failure = run.one_failure;
  one_flush = run.one_flush;
}

-- a run over one dump, whose status is answered alone
pub ran_alone : (reader : Input) (writer : Output) (Refuses : Fault → Type 0) (Holds : List ℕ → Outcome → Type 0) (format : Format) (found : Result Found RunFault)
    (result : Result Outcome RunFault) → Gathered (calls_of reader) (OfFirst (InputCause reader Refuses)) (Says format Holds) found → Finished writer format found result
    → RanAlone reader (InputCause reader Refuses) writer Holds (run_status result)
ran_alone reader writer Refuses Holds format found result gathered finished = (
  ran_status writer _ Holds result
      (ran writer _ Holds format found result (λ cause. cause) (IfOk-weaker found _ _ (λ it says not_memory. absurd (not_memory refl)) gathered.made) gathered.made
      gathered.cause finished),
  called_status _ result (called _ writer format found result gathered.called finished),
)

-- a cause in weaker words
pub cause_weaker : (reader : Input) (P Q : Fault → Type 0) → ((fault : Fault) → P fault → Q fault) → (fault : InputFault) → InputCause reader P fault → InputCause reader Q fault
cause_weaker reader P Q weaker input_faults.Read cause = cause
cause_weaker reader P Q weaker (input_faults.Dump fault) cause = λ not_memory. weaker fault (cause not_memory)
cause_weaker reader P Q weaker fault cause = cause

first_weaker : (reader : Input) (P Q : Fault → Type 0) → ((fault : Fault) → P fault → Q fault) → (fault : RunFault) → OfFirst (InputCause reader P) fault
    → OfFirst (InputCause reader Q) fault
first_weaker reader P Q weaker (run_faults.Input sides.First fault) cause = cause_weaker reader P Q weaker fault cause
first_weaker reader P Q weaker (run_faults.Input sides.Other fault) cause = cause
first_weaker reader P Q weaker (run_faults.Pairs fault) cause = cause
first_weaker reader P Q weaker run_faults.Write cause = cause

-- a fault of what a reader gave is one of a task
pub given_weaker : (reader : Input) (Many : Routes → Type 0) (calls : Calls) (Made : Found → Type 0) (found : Result Found RunFault)
    → Gathered calls (OfFirst (InputCause reader (IsFaultOfGiven reader))) Made found → Gathered calls (OfFirst (InputCause reader (IsFaultWith reader Many))) Made found
given_weaker reader Many calls Made found gathered = record {
  made = gathered.made;
  cause = IfErr-weaker found _ _ (first_weaker reader _ _ (λ fault given. inl given)) gathered.cause;
  called = gathered.called;
}

-- and of one that refuses no table it is that
pub only_given : (reader : Input) (fault : Fault) → IsFaultWith reader (λ table. ⊥) fault → IsFaultOfGiven reader fault
only_given reader fault (inl given) = given
only_given reader fault (inr (many, never)) = absurd never.holds

pub alone_weaker : (reader : Input) (writer : Output) (P Q : Fault → Type 0) (Finds Others : Routes → List ℕ → Outcome → Type 0) (result : Result ℕ RunFault)
    → ((fault : Fault) → P fault → Q fault) → ((table : Routes) (text : List ℕ) (outcome : Outcome) → Finds table text outcome → Others table text outcome)
    → RanAlone reader (InputCause reader P) writer (SaysOf reader Finds) result → RanAlone reader (InputCause reader Q) writer (SaysOf reader Others) result
alone_weaker reader writer P Q Finds Others result causes finds (run, called) = (
  ran_weaker writer _ _ _ _ result (first_weaker reader P Q causes)
      (λ text status says. (says.0, record { table = says.1.table; gave = says.1.gave; holds = finds _ text says.0 says.1.holds }, says.2)) run,
  called,
)

-- a comparison's fault is not that of a write
pub not_compared : (reader other : Input) (view : View) (Many : Routes → Routes → Type 0) (untouched : Type 0) → CompareCause reader other view Many untouched run_faults.Write → ⊥
not_compared reader other view Many untouched (inl cause) = cause
not_compared reader other view Many untouched (inr (inl (memory, gave))) = cc
not_compared reader other view Many untouched (inr (inr (many, gave))) = cc

-- both dumps were given, so memory ran out after that
pub memory_of_both : (reader other : Input) (view : View) (Many Holds : Routes → Routes → Type 0) (untouched : Type 0) → OfBoth reader other view Holds
    → CompareCause reader other view Many untouched of_memory
memory_of_both reader other view Many Holds untouched both =
    inr (inl (refl, record { table = both.table; other_table = both.other_table; gave = both.gave; other_gave = both.other_gave; holds = tt }))

-- a job's fault is not that of a write
no_write : (work : Work) (reader other : Reads) (untouched : Type 0) → CauseBy work reader other untouched run_faults.Write → ⊥
no_write (works.Dump source task) reader other untouched cause = cause
no_write (works.Each source pairs with_prefix) reader other untouched (inl (refuses, unread)) = absurd cc
no_write (works.Each source pairs with_prefix) reader other untouched (inr (asked, no_failure, cause)) = cause
no_write (works.Two first second view task) reader other untouched cause = not_compared _ _ view _ untouched cause
no_write (works.Capture reading file task) reader other untouched cause = cause

other_called : (calls : Option Calls) (untouched : Type 0) (writer : Output) (format : Format) (found : Result Found RunFault) (result : Result Outcome RunFault)
    → OtherCalled calls untouched found → Finished writer format found result → OtherCalled calls untouched result
other_called None untouched writer format found result same finished = same
other_called (Some calls) untouched writer format found result of_found finished = called calls writer format found result of_found finished

-- memory may run out once a job has found something
job_memory : (work : Work) (job : Job) (reader other : Reads) (untouched : Type 0) (found : Found) → Says job.format (SaysBy work job reader other) found
    → OtherCalled {T = Found} (other_calls work other) untouched (Ok found) → CauseBy work reader other untouched of_memory
job_memory (works.Dump source task) job reader other untouched found says called = λ not_memory. absurd (not_memory refl)
job_memory (works.Each source pairs with_prefix) job reader other untouched found says called =
    inr ((says.asked, says.gave), called.no_failure, λ not_memory. absurd (not_memory refl))
job_memory (works.Two first second view task) job reader other untouched found says called = memory_of_both _ _ view _ _ untouched says
job_memory (works.Capture reading file task) job reader other untouched found says called = refl

found_memory : (job : Job) (reader other : Reads) (untouched : Type 0) (found : Result Found RunFault) → FoundBy job reader other untouched found
    → IfOk found (λ _. CauseBy job.work reader other untouched of_memory)
found_memory job reader other untouched (Ok found) by = job_memory job.work job reader other untouched found by.says by.other_called
found_memory job reader other untouched (Err fault) by = tt

pub ran_job : (job : Job) (reader other : Reads) (untouched : Type 0) (writer : Output) (found : Result Found RunFault) (result : Result Outcome RunFault)
    → FoundBy job reader other untouched found → Finished writer job.format found result → RanJob job reader other writer untouched result
ran_job job reader other untouched writer found result by finished = record {
  ran = ran writer _ _ job.format found result (no_write job.work reader other untouched) (found_memory job reader other untouched found by) by.says by.cause finished;
  called = called _ writer job.format found result by.called finished;
  other_called = other_called (other_calls job.work other) untouched writer job.format found result by.other_called finished;
}
