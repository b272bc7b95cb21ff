-- The rows are those of the sender, under the names of both captures.
use Rattle.std.proofs.Common.{◌∙◌, ℕ, List, ap, sym, subst}
use Rattle.std.specs.Prelude.{IfOk}
use Rattle.babel_dump.specs.Command.{Tells}
use Rattle.babel_dump.specs.DiffText.{head_lines}
use Rattle.babel_dump.specs.EachPair.{all_rows_in, alone_by}
use Rattle.babel_dump.specs.EachSender.{read_by}
use Rattle.babel_dump.specs.Files.{name_of}
use Rattle.babel_dump.specs.Names.{style_of}
use Rattle.babel_dump.specs.Parts.{Says}
use Rattle.babel_dump.specs.declared.job.Comparison.{Comparison}
use Rattle.babel_dump.specs.declared.reading.Reading.{Reading}
use Rattle.babel_dump.proofs.each_pair.EachPair.found_alone.Goals as goal

pub returns : goal.returns
returns c =
    let pairs = c.args.self.now in
    let rows = c.args.table.now.rows in
    let origin = c.args.origin.now in
    let style = c.in-Diff.style in
    let told : List ℕ → List ℕ → Reading → Reading → List ℕ = λ file other_file one two.
    all_rows_in pairs.left.format style pairs.view (head_lines (style_of pairs.left.format) file other_file one two) c.args.side rows in
    let file = name_of pairs.left.file in
    let other_file = name_of pairs.right.file in
    subst (λ (text : List ℕ). IfOk c.found_all_rows.result (Says pairs.left.format (Tells c.args.table.now.report text 1)))
    (ap (λ (f : List ℕ). told f c.name-other_file.result.now c.reading-one.result c.reading-two.result) c.name-file.ensures
    ∙ ap (λ (f : List ℕ). told file f c.reading-one.result c.reading-two.result) c.name-other_file.ensures
    ∙ ap (λ (r : Reading). told file other_file r c.reading-two.result) c.reading-one.ensures
    ∙ ap (λ (r : Reading). told file other_file (read_by pairs.left origin 0) r) c.reading-two.ensures
    ∙ ap (λ (task : Comparison). alone_by task pairs c.args.side origin rows) (sym c.in-Diff.is))
    c.found_all_rows.ensures
