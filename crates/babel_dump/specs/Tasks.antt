-- What each task finds of tables, or that this is too much; and so what it says of what it reads,
-- and why it says nothing: this project's own.
use Rattle.std.specs.Prelude.{ℕ, Bool, true, false, List}
use Rattle.babel_tlv.specs.declared.fault.Fault.{Fault}
use Rattle.babel_tlv.specs.declared.view.View.{View}
use Rattle.babel_table.specs.Bounds.{Bounds}
use Rattle.babel_table.specs.Rows.{Routes}
use Rattle.babel_table.specs.Seen.{seen_rows}
use Rattle.babel_dump.specs.AnySource.{LooksUpAnySource}
use Rattle.babel_dump.specs.Command.{CompareCause, Compares, HasManyDifferences, IsFaultWith}
use Rattle.babel_dump.specs.Command.{ListsDifferences, ListsPairs, LooksUp, SaysOf}
use Rattle.babel_dump.specs.Command.{SaysOfBoth, Tells, TellsRoutes, WritesOctets}
use Rattle.babel_dump.specs.DiffText.{diff_in, head_lines}
use Rattle.babel_dump.specs.Filter.{kept_pairs_in, kept_rows}
use Rattle.babel_dump.specs.Given.{Input}
use Rattle.babel_dump.specs.InFormat.{listed_in, rows_or_count_in}
use Rattle.babel_dump.specs.KeyText.{file_in, key_in}
use Rattle.babel_dump.specs.Names.{style_of}
use Rattle.babel_dump.specs.Octets.{AreOctets, HasTooMany}
use Rattle.babel_dump.specs.RunText.{form_text, row_in}
use Rattle.babel_dump.specs.Summary.{shown_in}
use Rattle.babel_dump.specs.declared.format.Format.{Format}
use Rattle.babel_dump.specs.declared.job.Comparison.{Comparison}
use Rattle.babel_dump.specs.declared.job.Comparison.TheVariants as comparisons
use Rattle.babel_dump.specs.declared.job.Form.TheVariants as forms
use Rattle.babel_dump.specs.declared.job.Listed.TheVariants as listeds
use Rattle.babel_dump.specs.declared.job.Task.{Task}
use Rattle.babel_dump.specs.declared.job.Task.TheVariants as tasks
use Rattle.babel_dump.specs.declared.outcome.Outcome.{Outcome}
use Rattle.babel_dump.specs.declared.reading.Reading.{Reading}
use Rattle.babel_dump.specs.declared.run_fault.RunFault.{RunFault}

-- what a task finds of the table of a dump that is read so, from a file of this name, in its text
-- and its outcome
abbrev pub TaskFinds :
    Task → Format → (quiet : Bool) → (file : List ℕ) → Reading → Routes → List ℕ → Outcome → Type 0
TaskFinds (tasks.Show filter summary) format quiet file reading table =
    Tells table.report (shown_in format filter summary quiet table) 0
TaskFinds (tasks.Lookup pair with_prefix) format quiet file reading table =
    LooksUp format with_prefix pair.dst pair.src table.report (row_in table pair.dst pair.src)
TaskFinds (tasks.AnySource dst with_prefix) format quiet file reading table =
    LooksUpAnySource format with_prefix dst table
TaskFinds (tasks.Normalise form view body hex) format quiet file reading table =
    WritesOctets (AreOctets form reading view body table) (form_text hex) table.report
TaskFinds (tasks.Key form view) format quiet file reading table =
    WritesOctets (AreOctets form reading view 1024 table)
    (λ octets. key_in format octets (file_in format file)) table.report
TaskFinds (tasks.Pairs forms.Answers view filter count) format quiet file reading table =
    ListsPairs reading.limits view (kept_pairs_in format view filter count) table
TaskFinds (tasks.Pairs forms.Routes view filter count) format quiet file reading table =
    Tells table.report (rows_or_count_in format view count (kept_rows filter table.rows)) 0

-- the table has too many pairs for it
abbrev pub TaskFindsTooMany : Task → Bounds → Routes → Type 0
TaskFindsTooMany (tasks.Normalise form view body hex) limits table =
    HasTooMany form limits (seen_rows view table.rows)
TaskFindsTooMany (tasks.Key form view) limits table =
    HasTooMany form limits (seen_rows view table.rows)
TaskFindsTooMany (tasks.Pairs form view filter count) limits table =
    HasTooMany form limits (seen_rows view table.rows)
TaskFindsTooMany task limits table = ⊥

-- what it says of a dump, and why it says nothing
abbrev pub TaskSays :
    Task → Format → (quiet : Bool) → (file : List ℕ) → Input → List ℕ → Outcome → Type 0
TaskSays task format quiet file dump =
    SaysOf dump (TaskFinds task format quiet file dump.reading)

abbrev pub IsFaultOf : Task → Input → Fault → Type 0
IsFaultOf task dump = IsFaultWith dump (TaskFindsTooMany task dump.reading.limits)

-- what a comparison finds of two tables, as the view shows them, of dumps that are read so, from
-- files of these names
abbrev pub ComparisonFinds :
    Comparison → Format → View → (file other_file : List ℕ) → (reading other_reading : Reading)
    → (table other : Routes) → List ℕ → Outcome → Type 0
ComparisonFinds (comparisons.Compare forms.Answers listeds.First) format view file second reading
    other_reading = Compares view format
ComparisonFinds (comparisons.Compare forms.Answers listeds.All) format view file second reading
    other_reading = ListsDifferences reading.limits view false format
ComparisonFinds (comparisons.Compare forms.Answers listeds.Count) format view file second reading
    other_reading = ListsDifferences reading.limits view true format
ComparisonFinds (comparisons.Compare forms.Routes listed) format view file second reading
    other_reading = TellsRoutes (λ rows differences. listed_in format view listed differences)
ComparisonFinds (comparisons.Diff style) format view file second reading other_reading =
    TellsRoutes
    (diff_in format style view (head_lines (style_of format) file second reading other_reading))

-- they have too many differences for it
abbrev pub ComparisonFindsTooMany : Comparison → Bounds → (table other : Routes) → Type 0
ComparisonFindsTooMany (comparisons.Compare forms.Answers listeds.All) limits =
    HasManyDifferences limits
ComparisonFindsTooMany (comparisons.Compare forms.Answers listeds.Count) limits =
    HasManyDifferences limits
ComparisonFindsTooMany comparison limits = λ table other. ⊥

-- what it says of two dumps, and why it says nothing; `untouched` says that the other reader is as
-- it was
abbrev pub ComparisonSays :
    Comparison → Format → View → (file other_file : List ℕ) → (dump other : Input)
    → List ℕ → Outcome → Type 0
ComparisonSays task format view file second dump other =
    SaysOfBoth dump other view
    (ComparisonFinds task format view file second dump.reading other.reading)

abbrev pub ComparisonCause :
    Comparison → View → (dump other : Input) → (untouched : Type 0) → RunFault → Type 0
ComparisonCause task view dump other =
    CompareCause dump other view (ComparisonFindsTooMany task dump.reading.limits)
