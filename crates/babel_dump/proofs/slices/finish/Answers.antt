use Rattle.std.proofs.Common.{refl}
use Rattle.babel_dump.proofs.FinishedRows.{failed_rows, finished_rows, no_memory}
use Rattle.babel_dump.proofs.SliceLaws.{broke_text, broke_within, wrote_last}
use Rattle.babel_dump.proofs.slices.finish.Goals as goal

pub returns-in_err-buffer : goal.returns-in_err-buffer
returns-in_err-buffer g c = no_memory _ _ _ c.in_ok-rows.field-0 c.from_residual-in_err-buffer.result c.in_ok-rows.was c.from_residual-in_err-buffer.ensures.1 refl

pub returns-in_err-write_rows : goal.returns-in_err-write_rows
returns-in_err-write_rows g c =
    failed_rows {T = Unit {0}} _ _ _ c.in_ok-rows.field-0 c.in_err-write_rows.field-0.0 c.from_residual-in_err-write_rows.result c.in_ok-rows.was
    (broke_text _ _ _ (broke_within _ _ _ c.in_err-write_rows.ensures)) c.from_residual-in_err-write_rows.ensures.1

pub returns-in_err-write_last : goal.returns-in_err-write_last
returns-in_err-write_last g c =
    failed_rows _ _ _ c.in_ok-rows.field-0 c.in_err-write_last.field-0.0 c.from_residual-in_err-write_last.result c.in_ok-rows.was
    (wrote_last _ _ _ _ _ _ _ c.in_ok-write_rows.ensures (rw c.deref.ensures.value at c.in_err-write_last.ensures)) c.from_residual-in_err-write_last.ensures.1

pub returns : goal.returns
returns g c =
    finished_rows _ _ _ c.in_ok-rows.field-0 c.in_ok-write_last.field-0 c.in_ok-rows.was
    (wrote_last _ _ _ _ _ _ _ c.in_ok-write_rows.ensures (rw c.deref.ensures.value at c.in_ok-write_last.ensures))
