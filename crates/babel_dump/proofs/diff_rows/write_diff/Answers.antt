use Rattle.babel_dump.proofs.DiffLines.{wrote_after}
use Rattle.babel_dump.proofs.SliceLaws.{broke_within, front_at_err}
use Rattle.babel_dump.proofs.diff_rows.write_diff.Goals as goal

pub returns-in_err-write_all : goal.returns-in_err-write_all
returns-in_err-write_all g c =
    front_at_err _ _ _ c.from_residual.result c.from_residual.ensures.0 (broke_within _ _ _ (rw c.deref.ensures.value at c.in_err-write_all.ensures))

pub returns : goal.returns
returns g c =
    wrote_after _ _ _ c.args.diff.now.heads.items _ _ c.write_changes.result (rw c.deref.ensures.value at c.in_ok-write_all.ensures)
    c.write_changes.ensures
