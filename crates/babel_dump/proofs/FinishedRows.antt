-- A run over rows finished where all of its text was written, or a write failed, or memory ran out.
use Rattle.std.proofs.Common.{◌≡◌, Result, Ok, Err, inl, inr, refl}
use Rattle.std.specs.Result.{IsErrAnd}
use Rattle.babel_dump.specs.Command.{IsOfMemory}
use Rattle.babel_dump.specs.Run.{Output}
use Rattle.babel_dump.specs.SlicedRows.{Finished, found_text}
use Rattle.babel_dump.specs.Slices.{WroteText}
use Rattle.babel_dump.specs.declared.format.Format.{Format}
use Rattle.babel_dump.specs.declared.outcome.Outcome.{Outcome}
use Rattle.babel_dump.specs.declared.run_fault.RunFault.{RunFault}
use Rattle.babel_dump.specs.declared.run_fault.RunFault.TheVariants as run_faults
use Rattle.babel_dump.specs.declared.slices.Found.{Found}

all_written : {T E : Type 0} (writer : Output) (format : Format) (found : Found) (t : T) → WroteText {T = T} {E = E} writer (found_text format found) (Ok t)
    → Finished writer format (Ok found) (Ok found.outcome)
all_written writer format found t wrote = inl (
  record {
    whole = wrote.whole;
    flushed = wrote.flushed;
    no_failure = wrote.no_failure;
    prefix = tt;
    cause = tt;
    one_failure = wrote.one_failure;
    one_flush = wrote.one_flush;
  },
  refl,
  tt,
)

not_all_written : {T E : Type 0} (writer : Output) (format : Format) (found : Found) (e : E) (result : Result Outcome RunFault) → WroteText {T = T} {E = E} writer (found_text format found) (Err e)
    → IsErrAnd result (λ (fault : RunFault). fault ≡ run_faults.Write) → Finished writer format (Ok found) result
not_all_written writer format found e (Ok outcome) wrote failed = absurd failed
not_all_written writer format found e (Err fault) wrote failed = inl (
  record {
    whole = tt;
    flushed = tt;
    no_failure = tt;
    prefix = wrote.prefix;
    cause = wrote.cause;
    one_failure = wrote.one_failure;
    one_flush = wrote.one_flush;
  },
  tt,
  failed,
)

pub finished_rows : {T E : Type 0} (writer : Output) (format : Format) (found : Result Found RunFault) (it : Found) (t : T) → found ≡ Ok it
    → WroteText {T = T} {E = E} writer (found_text format it) (Ok t) → Finished writer format found (Ok it.outcome)
finished_rows {T = T} {E = E} writer format found it t is wrote = rw is (all_written {T = T} {E = E} writer format it t wrote)

pub failed_rows : {T E : Type 0} (writer : Output) (format : Format) (found : Result Found RunFault) (it : Found) (e : E) (result : Result Outcome RunFault) → found ≡ Ok it
    → WroteText {T = T} {E = E} writer (found_text format it) (Err e) → IsErrAnd result (λ (fault : RunFault). fault ≡ run_faults.Write) → Finished writer format found result
failed_rows {T = T} {E = E} writer format found it e result is wrote failed = rw is (not_all_written {T = T} {E = E} writer format it e result wrote failed)

pub no_memory : (writer : Output) (format : Format) (found : Result Found RunFault) (it : Found) (result : Result Outcome RunFault) → found ≡ Ok it → IsErrAnd result IsOfMemory
    → writer.new ≡ writer.old → Finished writer format found result
no_memory writer format found it result is failed same = rw is (inr (failed, same))
