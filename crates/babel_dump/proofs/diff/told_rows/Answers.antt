-- The lines are those of a text.
use Rattle.std.proofs.Common.{◌≡◌, ℕ, ◌++◌, ◌∙◌, IfOk, List, ap, length, subst}
use Rattle.babel_canon.specs.Joined.{differing}
use Rattle.babel_dump.specs.DiffText.{diff_text}
use Rattle.babel_dump.specs.SlicedRows.{lines_of}
use Rattle.babel_dump.specs.declared.format.Format.TheVariants as formats
use Rattle.babel_dump.proofs.diff.told_rows.Goals as goal

pub returns-in_ok-heads-in-Text : goal.returns-in_ok-heads-in-Text
returns-in_ok-heads-in-Text c =
    let format = formats.Text c.in-Text.of_text in
    let rows : c.len-rows.result ≡ length c.args.seen.left.rows = c.len-rows.ensures ∙ ap length c.rows.ensures.value in
    rw c.in-Text.is
    (subst
    (λ (heads : List ℕ). IfOk c.diff_rows.result (λ found. lines_of format found.0 ++ found.1.items
    ≡ diff_text format c.args.style c.args.view heads (length c.args.seen.left.rows) (differing c.args.seen.left.rows c.args.seen.right.rows)))
    c.in_ok-heads-in-Text.ensures (rw (← rows) (rw c.in-Text.is at c.diff_rows.ensures)))
