-- What is found of tables has a text and an outcome, and is said of the dumps that have them.
use Rattle.std.proofs.Common.{◌≡◌, ℕ, List, Result, Ok, Err, ◌∙◌, subst, inl, inr}
use Rattle.std.specs.Prelude.{IfOk, IfErr}
use Rattle.babel_table.specs.Counts.{Counts}
use Rattle.babel_table.specs.Rows.{Routes}
use Rattle.babel_tlv.specs.declared.view.View.{View}
use Rattle.babel_dump.specs.Command.{CompareCause, IsOutcome, OfBoth, SaysOfBoth, Tells}
use Rattle.babel_dump.specs.Given.{Input}
use Rattle.babel_dump.specs.Parts.{ComparedTooMany, Gathered, GaveSeen, Says}
use Rattle.babel_dump.specs.Run.{Called, Calls}
use Rattle.babel_dump.specs.SlicedRows.{found_text}
use Rattle.babel_dump.specs.declared.both.SeenTables.{SeenTables}
use Rattle.babel_dump.specs.declared.format.Format.{Format}
use Rattle.babel_dump.specs.declared.outcome.Outcome.{Outcome}
use Rattle.babel_dump.specs.declared.run_fault.RunFault.{RunFault}
use Rattle.babel_dump.specs.declared.slices.Found.{Found}

-- what was found has this text, and the outcome of a dump with this report
pub told : (report of_table : Counts) (status : ℕ) (text words : List ℕ) (outcome : Outcome) (format : Format) (found : Found) → found_text format found ≡ text → found.outcome ≡ outcome
    → text ≡ words → IsOutcome outcome status report → report ≡ of_table → Says format (Tells of_table words status) found
told report of_table status text words outcome format found texts outcomes is is_outcome same = record { text_is = texts ∙ is; outcome_is = outcomes ∙ rw same at is_outcome }

-- what holds of what is seen holds of the dumps
of_seen : (reader other : Input) (view : View) (seen : SeenTables) (Holds : Routes → Routes → Type 0) → GaveSeen reader other view seen → Holds seen.left seen.right
    → OfBoth reader other view Holds
of_seen reader other view seen Holds gave holds = record {
  table = gave.table;
  other_table = gave.other_table;
  gave = gave.gave;
  other_gave = gave.other_gave;
  holds = subst (Holds _) gave.holds.1 (subst (λ (t : Routes). Holds t seen.right) gave.holds.0 holds);
}

pub found_both : (reader other : Input) (view : View) (seen : SeenTables) (Finds : Routes → Routes → List ℕ → Outcome → Type 0) (Many : Routes → Routes → Type 0)
    (untouched : Type 0) (calls : Calls) (format : Format) (found : Result Found RunFault) → GaveSeen reader other view seen → Called {T = SeenTables} {E = RunFault} calls (Ok seen)
    → IfOk found (Says format (Finds seen.left seen.right)) → IfErr found (ComparedTooMany (Many seen.left seen.right))
    → Gathered calls (CompareCause reader other view Many untouched) (Says format (SaysOfBoth reader other view Finds)) found
found_both reader other view seen Finds Many untouched calls format (Ok found) gave called says refuses = record {
  made = of_seen reader other view seen (λ t u. Finds t u _ found.outcome) gave says;
  cause = tt;
  called = record { no_failure = called.no_failure; reads = called.reads; failures = called.failures; ends = called.ends };
}
found_both reader other view seen Finds Many untouched calls format (Err fault) gave called says refuses = record {
  made = tt;
  cause = elim refuses [
    | inl memory ↦ inr (inl (memory, of_seen reader other view seen (λ t u. Unit {0}) gave tt))
    | inr (many, holds) ↦ inr (inr (many, of_seen reader other view seen Many gave holds))
  ];
  called = record { no_failure = tt; reads = called.reads; failures = called.failures; ends = called.ends };
}
