-- What a run writes of what it found. These are this project's own.
use Rattle.std.specs.Prelude.{ℕ, ◌≡◌, ◌⊎◌, List, [], ◌++◌, Result, Ok, Err, IfOk, IfErr}
use Rattle.std.specs.Result.{IsErrAnd}
use Rattle.std.specs.List.{flat_map, zip}
use Rattle.babel_dump.specs.CaptureText.{senders_in}
use Rattle.babel_dump.specs.Changes.{changes_of}
use Rattle.babel_dump.specs.Command.{IsOfMemory}
use Rattle.babel_dump.specs.DiffText.{change_text}
use Rattle.babel_dump.specs.Filter.{kept_rows}
use Rattle.babel_dump.specs.InFormat.{difference_in, pairs_in, placed_in}
use Rattle.babel_dump.specs.Run.{Output}
use Rattle.babel_dump.specs.Names.{style_of}
use Rattle.babel_dump.specs.Slices.{WroteText}
use Rattle.babel_dump.specs.declared.diff_rows.DiffRows.{DiffRows}
use Rattle.babel_dump.specs.declared.format.Format.{Format}
use Rattle.babel_dump.specs.declared.outcome.Outcome.{Outcome}
use Rattle.babel_dump.specs.declared.run_fault.RunFault.{RunFault}
use Rattle.babel_dump.specs.declared.run_fault.RunFault.TheVariants as run_faults
use Rattle.babel_dump.specs.declared.slices.Found.{Found}
use Rattle.babel_dump.specs.declared.slices.Rows.{Rows}
use Rattle.babel_dump.specs.declared.style.Style.{Style}
use Rattle.babel_dump.specs.declared.slices.Rows.TheVariants as rows

-- the lines that name two dumps, and the rows that they hold differently
abbrev pub diff_lines : Style → DiffRows → List ℕ
diff_lines style diff =
    diff.heads.items
    ++ flat_map (change_text style diff.coloured diff.view) (changes_of diff.changes)

-- a line for each row
abbrev pub lines_of : Format → Rows → List ℕ
lines_of format (rows.Table filter view table) = pairs_in format view (kept_rows filter table.rows)
lines_of format (rows.Pairs filter view pairs) = pairs_in format view (kept_rows filter pairs)
lines_of format (rows.Answers with_prefix answers) =
    placed_in format with_prefix answers.table (zip answers.asked.items answers.places.items)
lines_of format (rows.Differences view differences) =
    flat_map (difference_in format view) (changes_of differences)
lines_of format (rows.Diff diff) = diff_lines (style_of format) diff
lines_of format (rows.Senders gathered) = senders_in format gathered
lines_of format rows.Empty = []

-- the whole text of what was found, in this format
abbrev pub found_text : Format → Found → List ℕ
found_text format found = lines_of format found.rows ++ found.after.items

-- What was found was written, and its outcome is answered, or that a write failed; or memory ran
-- out. Where nothing was found the fault is answered. Then the writer is as it was.
abbrev pub Finished :
    Output → Format → Result Found RunFault → Result Outcome RunFault → Type 0
Finished writer format (Ok found) result =
    (WroteText writer (found_text format found) result
    × IfOk result (λ outcome. outcome ≡ found.outcome)
    × IfErr result (λ fault. fault ≡ run_faults.Write))
    ⊎ (IsErrAnd result IsOfMemory × (writer.new ≡ writer.old))
Finished writer format (Err fault) result = (result ≡ Err fault) × (writer.new ≡ writer.old)
