-- What each command finds of the tables of dumps: its own text and outcome; and what is said of the
-- dumps that readers gave, and the causes of its faults. These are this project's own.
use Rattle.std.specs.Prelude.{ℕ, Bool, false, ◌≡◌, ◌≢◌, ◌<◌, ◌≤◌, ◌⊎◌, List, length, Result}
use Rattle.std.specs.Prelude.{Option}
use Rattle.babel_prefix.specs.Address.{Address}
use Rattle.babel_tlv.specs.declared.fault.Fault.{Fault}
use Rattle.babel_tlv.specs.declared.fault.Fault.TheVariants as faults
use Rattle.babel_tlv.specs.declared.view.View.{View}
use Rattle.babel_tlv.specs.Pair.{Pair}
use Rattle.babel_tlv.specs.Views.{keeps_all}
use Rattle.babel_table.specs.Bounds.{Bounds}
use Rattle.babel_table.specs.Counts.{Counts}
use Rattle.babel_table.specs.RowFor.{held_of}
use Rattle.babel_table.specs.Rows.{Routes}
use Rattle.babel_table.specs.Seen.{seen_rows, seen_table}
use Rattle.babel_canon.specs.Canonical.{Canonical, IsCanonical}
use Rattle.babel_canon.specs.Differences.{AreDifferences}
use Rattle.babel_canon.specs.Fewest.{AreFewest}
use Rattle.babel_canon.specs.Routes.{AreRouteDifferences}
use Rattle.babel_canon.specs.Verdict.{IsVerdict}
use Rattle.babel_canon.specs.declared.every_difference.Difference.{Difference}
use Rattle.babel_canon.specs.declared.verdict.Verdict.{Verdict}
use Rattle.babel_dump.specs.Given.{GaveTable, Input, IsFaultOfGiven}
use Rattle.babel_dump.specs.InFormat.{differences_or_count_in, lookup_in}
use Rattle.babel_dump.specs.InFormat.{pairs_or_counts_in, show_in, verdict_in}
use Rattle.babel_dump.specs.Octets.{AreNormal, HasTooMany}
use Rattle.babel_dump.specs.Run.{Called, InputCause, OfStatus, Output, Ran, RanAlone, calls_of}
use Rattle.babel_dump.specs.RunText.{differences_status, form_text}
use Rattle.babel_dump.specs.RunText.{lookup_status, row_in, verdict_status}
use Rattle.babel_dump.specs.declared.format.Format.{Format}
use Rattle.babel_dump.specs.declared.input_fault.InputFault.TheVariants as input_faults
use Rattle.babel_dump.specs.declared.job.Form.{Form}
use Rattle.babel_dump.specs.declared.job.Form.TheVariants as forms
use Rattle.babel_dump.specs.declared.outcome.Outcome.{Outcome}
use Rattle.babel_dump.specs.declared.outcome.Reports.TheVariants as reports
use Rattle.babel_dump.specs.declared.run_fault.RunFault.{RunFault}
use Rattle.babel_dump.specs.declared.run_fault.RunFault.TheVariants as run_faults
use Rattle.babel_dump.specs.declared.run_fault.Side.TheVariants as sides

-- ---- of a table

-- the outcome has this status, and the report of a dump, or of two
abbrev pub IsOutcome : Outcome → ℕ → Counts → Type 0
IsOutcome outcome status report =
    outcome ≡ record { status = status; reports = reports.Dump report }

abbrev pub IsOutcomeOfBoth : Outcome → ℕ → Counts → Counts → Type 0
IsOutcomeOfBoth outcome status report other =
    outcome ≡ record { status = status; reports = reports.Dumps report other }

-- this text, and the outcome with this status and the report of a dump
pub record Tells (report : Counts) (told : List ℕ) (status : ℕ) (text : List ℕ)
    (outcome : Outcome) : Type 0 where
  pub text_is : text ≡ told
  pub outcome_is : IsOutcome outcome status report

-- `lookup`: what is answered for a destination and a source by this row
abbrev pub LooksUp :
    Format → (with_prefix : Bool) → (dst src : Address) → Counts → Option Pair → List ℕ → Outcome
    → Type 0
LooksUp format with_prefix dst src report row =
    Tells report (lookup_in format with_prefix dst src row) (lookup_status (held_of row))

-- octets of which this holds, in a text
pub record WritesOctets (Are : List ℕ → Type 0) (in_text : List ℕ → List ℕ) (report : Counts)
    (text : List ℕ) (outcome : Outcome) : Type 0 where
  pub octets : List ℕ
  pub are : Are octets
  pub tells : Tells report (in_text octets) 0 text outcome

-- `pairs`: the rows of a table and its canonical pairs under a view, in a text
pub record ListsPairs (limits : Bounds) (view : View)
    (in_text : (rows pairs : List Pair) → List ℕ) (table : Routes) (text : List ℕ)
    (outcome : Outcome) : Type 0 where
  pub canon : Canonical
  pub is_canon : IsCanonical limits 1024 (seen_rows view table.rows) canon
  pub fewest : AreFewest (seen_rows view table.rows) canon.pairs
  pub tells : Tells table.report (in_text table.rows canon.pairs) 0 text outcome

-- ---- of two tables, as a view shows them

-- the outcome of how two tables answer: where the status is 0, it says how many routes differ
pub record IsOutcomeOfAnswers (status : ℕ) (table other : Routes) (outcome : Outcome) :
    Type 0 where
  pub status_is : outcome.status ≡ status
  pub alike : status ≡ 0
      → (routes : List Difference) × AreRouteDifferences table.rows other.rows routes
      × (outcome.reports ≡ reports.Alike table.report other.report (length routes))
  pub unlike : status ≢ 0 → outcome.reports ≡ reports.Dumps table.report other.report

-- `compare`: how the answers compare
pub record Compares (view : View) (format : Format) (table other : Routes) (text : List ℕ)
    (outcome : Outcome) : Type 0 where
  pub verdict : Verdict
  pub is_verdict : IsVerdict table.rows other.rows verdict
  pub text_is : text ≡ verdict_in format view verdict
  pub outcome_is : IsOutcomeOfAnswers (verdict_status verdict) table other outcome

-- `compare --all`: all that they answer differently, or how many differences there are
pub record ListsDifferences (limits : Bounds) (view : View) (count : Bool) (format : Format)
    (table other : Routes) (text : List ℕ) (outcome : Outcome) : Type 0 where
  pub differences : List Difference
  pub are_differences : AreDifferences table.rows other.rows differences
  pub few : length differences ≤ limits.entries
  pub text_is : text ≡ differences_or_count_in format view count differences
  pub outcome_is :
      IsOutcomeOfAnswers (differences_status (length differences)) table other outcome

-- `compare --routes`, `diff`: the keys for which they hold what differs, in a text of the number of
-- the first's rows and of them
pub record TellsRoutes (in_text : (rows : ℕ) → List Difference → List ℕ) (table other : Routes)
    (text : List ℕ) (outcome : Outcome) : Type 0 where
  pub differences : List Difference
  pub are_differences : AreRouteDifferences table.rows other.rows differences
  pub text_is : text ≡ in_text (length table.rows) differences
  pub outcome_is : IsOutcomeOfBoth outcome (differences_status (length differences)) table.report
      other.report

-- out of memory that is told as the first dump's
abbrev pub IsOfMemory : RunFault → Type 0
IsOfMemory fault = fault ≡ run_faults.Input sides.First (input_faults.Dump faults.Memory)

-- too many pairs, or differences, are told so too
abbrev pub IsOfMany : RunFault → Type 0
IsOfMany fault = fault ≡ run_faults.Input sides.First (input_faults.Dump faults.TooManyPairs)

-- they have more differences than the limit
abbrev pub HasManyDifferences : Bounds → (table other : Routes) → Type 0
HasManyDifferences limits table other =
    (differences : List Difference) × AreDifferences table.rows other.rows differences
    × (limits.entries < length differences)

-- ---- of the dumps that readers gave

-- the reader gave a dump without a fault, of which nothing was left unread if it is read strictly,
-- and this holds of its table
pub record OfDump (reader : Input) (Holds : Routes → Type 0) : Type 0 where
  pub table : Routes
  pub gave : GaveTable reader table
  pub holds : Holds table

-- two readers gave such a dump each, and this holds of their tables, as a view shows them
pub record OfBoth (reader other : Input) (view : View) (Holds : Routes → Routes → Type 0) :
    Type 0 where
  pub table : Routes
  pub other_table : Routes
  pub gave : GaveTable reader table
  pub other_gave : GaveTable other other_table
  pub holds : Holds (seen_table view table) (seen_table view other_table)

-- what is found of a dump's table is said of the dump
abbrev pub SaysOf : Input → (Routes → List ℕ → Outcome → Type 0) → List ℕ → Outcome → Type 0
SaysOf reader Finds text outcome = OfDump reader (λ table. Finds table text outcome)

-- a fault of a dump: that of what its reader gave; or that its table has too many pairs, of which
-- this holds
abbrev pub IsFaultWith : Input → (Many : Routes → Type 0) → Fault → Type 0
IsFaultWith reader Many fault =
    IsFaultOfGiven reader fault ⊎ ((fault ≡ faults.TooManyPairs) × OfDump reader Many)

-- so where octets or pairs are made of what a view sees of a table
abbrev pub IsFaultOfForm : Form → Input → View → Fault → Type 0
IsFaultOfForm form reader view =
    IsFaultWith reader (λ table. HasTooMany form reader.reading.limits (seen_rows view table.rows))

-- what is found of the tables of two dumps is said of these
abbrev pub SaysOfBoth :
    (reader other : Input) → View → (Routes → Routes → List ℕ → Outcome → Type 0)
    → List ℕ → Outcome → Type 0
SaysOfBoth reader other view Finds text outcome =
    OfBoth reader other view (λ table second. Finds table second text outcome)

-- Two dumps are read in turn: a fault of the first leaves the other reader as it was (`untouched`),
-- and one of the other comes where the first has none.
abbrev pub InTurn : Input → Input → (untouched : Type 0) → RunFault → Type 0
InTurn reader other untouched (run_faults.Input sides.First fault) =
    untouched × InputCause reader (IsFaultOfGiven reader) fault
InTurn reader other untouched (run_faults.Input sides.Other fault) =
    OfDump reader (λ table. Unit {0}) × InputCause other (IsFaultOfGiven other) fault
InTurn reader other untouched fault = ⊥

-- a fault of a comparison: that of one of its dumps; or, where neither has one, out of memory; or
-- that their tables have too many differences, of which this holds
abbrev pub CompareCause :
    (reader other : Input) → View → (Many : Routes → Routes → Type 0) → (untouched : Type 0)
    → RunFault → Type 0
CompareCause reader other view Many untouched fault =
    InTurn reader other untouched fault
    ⊎ ((IsOfMemory fault × OfBoth reader other view (λ table second. Unit {0}))
    ⊎ (IsOfMany fault × OfBoth reader other view Many))

-- ---- the runs of commands over dumps alone

abbrev pub RanShow : Input → Format → Output → Result ℕ RunFault → Type 0
RanShow reader format writer =
    RanAlone reader (InputCause reader (IsFaultOfGiven reader)) writer
    (SaysOf reader (λ table. Tells table.report (show_in format table) 0))

abbrev pub RanLookup : Input → Address → Address → Format → Output → Result ℕ RunFault → Type 0
RanLookup reader dst src format writer =
    RanAlone reader (InputCause reader (IsFaultOfGiven reader)) writer
    (SaysOf reader (λ table. LooksUp format false dst src table.report (row_in table dst src)))

abbrev pub RanNormalise : Input → ℕ → Bool → Output → Result ℕ RunFault → Type 0
RanNormalise reader body hex writer =
    RanAlone reader (InputCause reader (IsFaultOfForm forms.Answers reader keeps_all)) writer
    (SaysOf reader (λ table. WritesOctets (AreNormal reader.reading keeps_all body table)
    (form_text hex) table.report))

abbrev pub RanPairs : Input → Bool → Format → Output → Result ℕ RunFault → Type 0
RanPairs reader count format writer =
    RanAlone reader (InputCause reader (IsFaultOfForm forms.Answers reader keeps_all)) writer
    (SaysOf reader (ListsPairs reader.reading.limits keeps_all
    (pairs_or_counts_in format keeps_all count)))

-- `untouched` says that the other reader is as it was
pub record RanCompare (reader other : Input) (format : Format) (writer : Output)
    (untouched : Type 0) (result : Result ℕ RunFault) : Type 0 where
  pub ran :
      Ran writer (CompareCause reader other keeps_all (λ table second. ⊥) untouched)
      (OfStatus (SaysOfBoth reader other keeps_all (Compares keeps_all format))) result
  pub called : Called (calls_of reader) result
  pub other_called : Called (calls_of other) result
