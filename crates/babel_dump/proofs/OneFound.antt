-- What is found of tables is one, and not too much.
use Rattle.std.proofs.Common.{◌≤◌, arith, ◌≡◌, refl, ℕ, Bool, true, false, List, length, Option, Result, Ok, Err, ap, sym, ◌∙◌}
use Rattle.std.specs.Prelude.{zero, suc}
use Rattle.babel_canon.proofs.DifferingRows.{route_differences_are_one}
use Rattle.babel_canon.proofs.OneDifferences.{differences_are_one}
use Rattle.babel_canon.proofs.OneOutcome.{texts_one}
use Rattle.babel_canon.proofs.OneVerdict.{verdict_is_one}
use Rattle.babel_canon.specs.declared.every_difference.Difference.{Difference}
use Rattle.babel_canon.specs.declared.verdict.Verdict.{Verdict}
use Rattle.babel_dump.proofs.AnySourceLaws.{told_one}
use Rattle.babel_dump.proofs.AskedLaws.{same_statuses, same_texts}
use Rattle.babel_dump.proofs.DumpSteps.{AreAskedBy}
use Rattle.babel_dump.proofs.Steps.{IsOne}
use Rattle.babel_dump.specs.AnySource.{any_source}
use Rattle.babel_dump.specs.AskedPairs.{asking, lines_of}
use Rattle.babel_dump.specs.Command.{IsOfMany, IsOutcomeOfAnswers}
use Rattle.babel_dump.specs.DiffText.{diff_in, head_lines}
use Rattle.babel_dump.specs.Filter.{kept_pairs_in}
use Rattle.babel_dump.specs.InFormat.{answer_line_in, differences_or_count_in, listed_in, verdict_in}
use Rattle.babel_dump.specs.KeyText.{file_in, key_in}
use Rattle.babel_dump.specs.RunText.{answer_in, differences_status, form_text, lookup_status, row_in, status_of_all, verdict_status}
use Rattle.babel_dump.specs.declared.addr_pair.AddrPair.{AddrPair}
use Rattle.babel_dump.specs.declared.format.Format.{Format}
use Rattle.babel_dump.specs.declared.job.Comparison.TheVariants as comparisons
use Rattle.babel_dump.specs.declared.job.Comparison.{Comparison}
use Rattle.babel_dump.specs.declared.job.Form.TheVariants as forms
use Rattle.babel_dump.specs.declared.job.Listed.TheVariants as listeds
use Rattle.babel_dump.specs.declared.job.Task.TheVariants as tasks
use Rattle.babel_dump.specs.declared.job.Task.{Task}
use Rattle.babel_dump.specs.declared.outcome.Outcome.{Outcome}
use Rattle.babel_dump.specs.declared.outcome.Reports.TheVariants as reports
use Rattle.babel_dump.specs.declared.outcome.Reports.{Reports}
use Rattle.babel_dump.specs.declared.reading.Reading.{Reading}
use Rattle.babel_dump.specs.declared.run_fault.RunFault.{RunFault}
use Rattle.babel_prefix.specs.Address.{Address}
use Rattle.babel_table.specs.Bounds.{Bounds}
use Rattle.babel_table.specs.Rows.{Routes}
use Rattle.babel_table.specs.Seen.{seen_rows, seen_table}
use Rattle.babel_tlv.specs.Pair.{Pair}
use Rattle.babel_tlv.specs.declared.view.View.{View}
use Rattle.babel_canon.proofs.OneOutcome.{boxes_same}
use Rattle.babel_canon.specs.Boxes.{AreBoxes}
use Rattle.babel_table.specs.Counts.{Counts}
use Rattle.babel_dump.specs.Command.{HasManyDifferences, ListsDifferences, Tells, TellsRoutes, WritesOctets}
use Rattle.babel_dump.specs.Each.{LooksUpEach}
use Rattle.babel_dump.specs.Names.{style_of}
use Rattle.babel_dump.specs.Octets.{AreOctets, HasTooMany}
use Rattle.babel_dump.specs.Tasks.{ComparisonFinds, ComparisonFindsTooMany, TaskFinds, TaskFindsTooMany}
use Rattle.babel_canon.specs.Canonical.{HasManyBoxes}
use Rattle.babel_dump.specs.declared.job.Form.{Form}

-- a text, and an outcome
pub record Said : Type 0 where
  pub text : List ℕ
  pub outcome : Outcome

pub said : {text text_too : List ℕ} {outcome outcome_too : Outcome} → text ≡ text_too → outcome ≡ outcome_too
    → (let s : Said = record { text = text; outcome = outcome } in s) ≡ record { text = text_too; outcome = outcome_too }
said {text} {text_too} {outcome} texts outcomes =
    ap (λ t. let s : Said = record { text = t; outcome = outcome } in s) texts ∙ ap (λ o. let s : Said = record { text = text_too; outcome = o } in s) outcomes

-- what is found of tables with a text and an outcome, or that they have too many pairs, or differences
abbrev pub Gives : (Finds : List ℕ → Outcome → Type 0) → (Many : Type 0) → Result Said RunFault → Type 0
Gives Finds Many (Ok it) = Finds it.text it.outcome
Gives Finds Many (Err fault) = IsOfMany fault × Many

gives_one : (Finds : List ℕ → Outcome → Type 0) (Many : Type 0) → ((it too : Said) → Finds it.text it.outcome → Finds too.text too.outcome → it ≡ too)
    → ((text : List ℕ) (outcome : Outcome) → Finds text outcome → Many → ⊥) → IsOne (Gives Finds Many)
gives_one Finds Many found few (Ok it) (Ok too) is is_too = found it too is is_too
gives_one Finds Many found few (Ok it) (Err fault) is is_too = absurd (few it.text it.outcome is is_too.1)
gives_one Finds Many found few (Err fault) (Ok it) is is_too = absurd (few it.text it.outcome is_too is.1)
gives_one Finds Many found few (Err fault) (Err too) is is_too = is.0 ∙ sym is_too.0

-- ---- what a task finds of a table

tells_one : (report : Counts) (told words : List ℕ) (status : ℕ) (it too : Said) → told ≡ words → Tells report told status it.text it.outcome
    → Tells report words status too.text too.outcome → it ≡ too
tells_one report told words status it too same is is_too = said (is.text_is ∙ same ∙ sym is_too.text_is) (is.outcome_is ∙ sym is_too.outcome_is)

octets_one : (form : Form) (reading : Reading) (view : View) (body : ℕ) (table : Routes) (octets other : List ℕ) → AreOctets form reading view body table octets
    → AreOctets form reading view body table other → octets ≡ other
octets_one forms.Answers reading view body table octets other are are_too =
    texts_one body are.says.pairs are_too.says.pairs octets other (boxes_same _ _ _ _ refl are.says.are_canonical.boxes are_too.says.are_canonical.boxes) are.says.text are_too.says.text
octets_one forms.Routes reading view body table octets other are are_too = texts_one body _ _ octets other refl are.text are_too.text

writes_one : (form : Form) (reading : Reading) (view : View) (body : ℕ) (table : Routes) (in_text : List ℕ → List ℕ) (it too : Said)
    → WritesOctets (AreOctets form reading view body table) in_text table.report it.text it.outcome
    → WritesOctets (AreOctets form reading view body table) in_text table.report too.text too.outcome → it ≡ too
writes_one form reading view body table in_text it too is is_too =
    tells_one _ _ _ 0 it too (ap in_text (octets_one form reading view body table is.octets is_too.octets is.are is_too.are)) is.tells is_too.tells

found_one : (task : Task) (format : Format) (quiet : Bool) (file : List ℕ) (reading : Reading) (table : Routes) (it too : Said)
    → TaskFinds task format quiet file reading table it.text it.outcome → TaskFinds task format quiet file reading table too.text too.outcome → it ≡ too
found_one (tasks.Show filter summary) format quiet file reading table it too is is_too = tells_one _ _ _ _ it too refl is is_too
found_one (tasks.Lookup pair with_prefix) format quiet file reading table it too is is_too = tells_one _ _ _ _ it too refl is is_too
found_one (tasks.AnySource dst with_prefix) format quiet file reading table it too is is_too =
    let same = told_one is.told is_too.told _ _ is.told_if is_too.told_if in
    let status = lookup_status (answer_in table dst (any_source dst.family)) in
    said (is.text_is ∙ sym is_too.text_is)
    (is.outcome_is ∙ ap (λ (source : Option Address). record { status = status; reports = reports.AnySource table.report source }) same ∙ sym is_too.outcome_is)
found_one (tasks.Normalise form view body hex) format quiet file reading table it too is is_too = writes_one form reading view body table (form_text hex) it too is is_too
found_one (tasks.Key form view) format quiet file reading table it too is is_too = writes_one form reading view 1024 table (λ octets. key_in format octets (file_in format file)) it too is is_too
found_one (tasks.Pairs forms.Answers view filter count) format quiet file reading table it too is is_too =
    tells_one _ _ _ _ it too (ap (kept_pairs_in format view filter count table.rows) (boxes_same _ _ _ _ refl is.is_canon.boxes is_too.is_canon.boxes)) is.tells is_too.tells
found_one (tasks.Pairs forms.Routes view filter count) format quiet file reading table it too is is_too = tells_one _ _ _ _ it too refl is is_too

-- what is found is not too much
few_boxes : (limits : Bounds) (rows pairs : List Pair) → AreBoxes rows pairs → length pairs ≤ limits.entries → HasManyBoxes limits rows → ⊥
few_boxes limits rows pairs boxes few (many, are, over) = let same = ap (λ (l : List Pair). length l) (boxes_same _ _ pairs many refl boxes are) in omega (arith, same, few, over)

few_made : (form : Form) (reading : Reading) (view : View) (body : ℕ) (table : Routes) (octets : List ℕ) → AreOctets form reading view body table octets
    → HasTooMany form reading.limits (seen_rows view table.rows) → ⊥
few_made forms.Answers reading view body table octets are many = few_boxes reading.limits _ are.says.pairs are.says.are_canonical.boxes are.says.are_canonical.few many
few_made forms.Routes reading view body table octets are many = many

few_found : (task : Task) (format : Format) (quiet : Bool) (file : List ℕ) (reading : Reading) (table : Routes) (text : List ℕ) (outcome : Outcome)
    → TaskFinds task format quiet file reading table text outcome → TaskFindsTooMany task reading.limits table → ⊥
few_found (tasks.Normalise form view body hex) format quiet file reading table text outcome is many = few_made form reading view body table is.octets is.are many
few_found (tasks.Key form view) format quiet file reading table text outcome is many = few_made form reading view 1024 table is.octets is.are many
few_found (tasks.Pairs forms.Answers view filter count) format quiet file reading table text outcome is many =
    few_boxes reading.limits _ is.canon.pairs is.is_canon.boxes is.is_canon.few many
few_found (tasks.Pairs forms.Routes view filter count) format quiet file reading table text outcome is many = many
few_found task format quiet file reading table text outcome is never = never

abbrev pub TaskGives : Task → Format → (quiet : Bool) → (file : List ℕ) → Reading → Routes → Result Said RunFault → Type 0
TaskGives task format quiet file reading table = Gives (TaskFinds task format quiet file reading table) (TaskFindsTooMany task reading.limits table)

pub task_one : (task : Task) (format : Format) (quiet : Bool) (file : List ℕ) (reading : Reading) (table : Routes) → IsOne (TaskGives task format quiet file reading table)
task_one task format quiet file reading table = gives_one _ _ (found_one task format quiet file reading table) (few_found task format quiet file reading table)

-- ---- what is found of a table for each of the pairs that are asked for

abbrev pub EachOf : Format → (with_prefix : Bool) → Reading → (text : List ℕ) → Routes → Said → Type 0
EachOf format with_prefix reading text table it = (asked : List AddrPair) × AreAskedBy reading text asked × LooksUpEach format with_prefix asked table it.text it.outcome

pub each_one : (format : Format) (with_prefix : Bool) (reading : Reading) (text : List ℕ) (table : Routes) (it too : Said) → EachOf format with_prefix reading text table it
    → EachOf format with_prefix reading text table too → it ≡ too
each_one format with_prefix reading text table it too (asked, are, is) (asked_too, are_too, is_too) =
    let texts = same_texts (λ dst src. answer_line_in format with_prefix dst src (row_in table dst src)) (asking (lines_of text)) asked asked_too are.asked are_too.asked in
    let statuses = same_statuses (λ dst src. lookup_status (answer_in table dst src)) (asking (lines_of text)) asked asked_too are.asked are_too.asked in
    said (is.text_is ∙ texts ∙ sym is_too.text_is)
    (is.outcome_is ∙ ap (λ (all : List ℕ). record { status = status_of_all all; reports = reports.Dump table.report }) statuses ∙ sym is_too.outcome_is)

-- ---- what a comparison finds of two tables

-- how two tables answer has one outcome
answers_one : (status status_too : ℕ) (table other : Routes) (outcome too : Outcome) → status ≡ status_too → IsOutcomeOfAnswers status table other outcome
    → IsOutcomeOfAnswers status_too table other too → outcome ≡ too
answers_one status status_too table other outcome too statuses is is_too = by status refl
  where
    same : outcome.reports ≡ too.reports → outcome ≡ too
    same reported =
        ap (λ (n : ℕ). let o : Outcome = record { status = n; reports = outcome.reports } in o) (is.status_is ∙ statuses ∙ sym is_too.status_is)
        ∙ ap (λ (r : Reports). let o : Outcome = record { status = too.status; reports = r } in o) reported

    by : (n : ℕ) → status ≡ n → outcome ≡ too
    by zero e =
        let one = is.alike e in
        let two = is_too.alike (sym statuses ∙ e) in
        let routes = route_differences_are_one table.rows other.rows one.0 two.0 one.1 two.1 in
        same (one.2 ∙ ap (λ (ds : List Difference). reports.Alike table.report other.report (length ds)) routes ∙ sym two.2)
    by (suc n) e = same (is.unlike (λ none. apart n (sym e ∙ none)) ∙ sym (is_too.unlike (λ none. apart n (sym e ∙ statuses ∙ none))))
      where
        apart : (m : ℕ) → suc m ≡ 0 → ⊥
        apart m never = cc

lists_one : (limits : Bounds) (view : View) (count : Bool) (format : Format) (table other : Routes) (it too : Said)
    → ListsDifferences limits view count format table other it.text it.outcome → ListsDifferences limits view count format table other too.text too.outcome → it ≡ too
lists_one limits view count format table other it too is is_too =
    let same = differences_are_one _ _ is.differences is_too.differences is.are_differences is_too.are_differences in
    said (is.text_is ∙ ap (differences_or_count_in format view count) same ∙ sym is_too.text_is)
    (answers_one _ _ table other it.outcome too.outcome (ap (λ (l : List Difference). differences_status (length l)) same) is.outcome_is is_too.outcome_is)

rows_one : (in_text : ℕ → List Difference → List ℕ) (table other : Routes) (it too : Said) → TellsRoutes in_text table other it.text it.outcome
    → TellsRoutes in_text table other too.text too.outcome → it ≡ too
rows_one in_text table other it too is is_too =
    let same = route_differences_are_one _ _ is.differences is_too.differences is.are_differences is_too.are_differences in
    said (is.text_is ∙ ap (in_text (length table.rows)) same ∙ sym is_too.text_is)
    (is.outcome_is ∙ ap (λ (l : List Difference). record { status = differences_status (length l); reports = reports.Dumps table.report other.report }) same ∙ sym is_too.outcome_is)

compared_one : (task : Comparison) (format : Format) (view : View) (file other_file : List ℕ) (reading other_reading : Reading) (table other : Routes) (it too : Said)
    → ComparisonFinds task format view file other_file reading other_reading table other it.text it.outcome
    → ComparisonFinds task format view file other_file reading other_reading table other too.text too.outcome → it ≡ too
compared_one (comparisons.Compare forms.Answers listeds.First) format view file other_file reading other_reading table other it too is is_too =
    let same = verdict_is_one _ _ is.verdict is_too.verdict is.is_verdict is_too.is_verdict in
    said (is.text_is ∙ ap (verdict_in format view) same ∙ sym is_too.text_is)
    (answers_one _ _ table other it.outcome too.outcome (ap (λ (v : Verdict). verdict_status v) same) is.outcome_is is_too.outcome_is)
compared_one (comparisons.Compare forms.Answers listeds.All) format view file other_file reading other_reading table other it too is is_too =
    lists_one reading.limits view false format table other it too is is_too
compared_one (comparisons.Compare forms.Answers listeds.Count) format view file other_file reading other_reading table other it too is is_too =
    lists_one reading.limits view true format table other it too is is_too
compared_one (comparisons.Compare forms.Routes listed) format view file other_file reading other_reading table other it too is is_too =
    rows_one (λ rows. listed_in format view listed) table other it too is is_too
compared_one (comparisons.Diff style) format view file other_file reading other_reading table other it too is is_too =
    rows_one (diff_in format style view (head_lines (style_of format) file other_file reading other_reading)) table other it too is is_too

few_differences : (limits : Bounds) (view : View) (count : Bool) (format : Format) (table other : Routes) (text : List ℕ) (outcome : Outcome)
    → ListsDifferences limits view count format table other text outcome → HasManyDifferences limits table other → ⊥
few_differences limits view count format table other text outcome is (differences, are, over) =
    let same = ap (λ (l : List Difference). length l) (differences_are_one _ _ is.differences differences is.are_differences are) in
    let few = is.few in
    omega (arith, same, few, over)

few_compared : (task : Comparison) (format : Format) (view : View) (file other_file : List ℕ) (reading other_reading : Reading) (table other : Routes) (text : List ℕ) (outcome : Outcome)
    → ComparisonFinds task format view file other_file reading other_reading table other text outcome → ComparisonFindsTooMany task reading.limits table other → ⊥
few_compared (comparisons.Compare forms.Answers listeds.All) format view file other_file reading other_reading table other text outcome is many =
    few_differences reading.limits view false format table other text outcome is many
few_compared (comparisons.Compare forms.Answers listeds.Count) format view file other_file reading other_reading table other text outcome is many =
    few_differences reading.limits view true format table other text outcome is many
few_compared task format view file other_file reading other_reading table other text outcome is never = never

abbrev pub ComparisonGives : Comparison → Format → View → (file other_file : List ℕ) → (reading other_reading : Reading) → (table other : Routes) → Result Said RunFault → Type 0
ComparisonGives task format view file other_file reading other_reading table other =
    Gives (ComparisonFinds task format view file other_file reading other_reading (seen_table view table) (seen_table view other))
    (ComparisonFindsTooMany task reading.limits (seen_table view table) (seen_table view other))

pub comparison_one : (task : Comparison) (format : Format) (view : View) (file other_file : List ℕ) (reading other_reading : Reading) (table other : Routes)
    → IsOne (ComparisonGives task format view file other_file reading other_reading table other)
comparison_one task format view file other_file reading other_reading table other =
    gives_one _ _ (compared_one task format view file other_file reading other_reading _ _) (few_compared task format view file other_file reading other_reading _ _)
