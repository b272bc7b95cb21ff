-- A capture that was fed whole is ended: it has the dump, is cut short, or is refused.
use Rattle.std.proofs.Common.{rules, ◌≡◌, ◌∙◌, ℕ, Option, false, inl, inr, true, sym, subst}
use Rattle.std.proofs.lemmas.Result.{err_from_is_err_and}
use Rattle.babel_capture.specs.Capture.{CaptureFault, IsReadToCut}
use Rattle.babel_capture.specs.declared.fault.Fault.TheVariants as capture_faults
use Rattle.babel_capture.specs.declared.wanted.Wanted.{Wanted}
use Rattle.babel_dump.proofs.CaptureReads.{cut_short, lost_of}
use Rattle.babel_dump.proofs.captured.end_of.Goals as goal

pub returns-in_err-read_to-clause-err : goal.returns-in_err-read_to-clause-err
returns-in_err-read_to-clause-err c =
    let ended = c.in_err-read_to.ensures in
    let exit = err_from_is_err_and c.from_residual.result c.from_residual.ensures.1 in
    rw (exit.1, exit.2) (λ fed read. (
      λ not_memory. ended.fault not_memory fed read,
      λ accepted. elim (ended.not_cut c.requires) [ inl none ↦ inl none | inr lost ↦ inr (lost_of c.args.capture.now _ c.requires lost fed read) ],
    ))

pub returns-in_err-cut-clause-err : goal.returns-in_err-cut-clause-err
returns-in_err-cut-clause-err c =
    let f = c.args.capture.now in
    let ended = c.end.new.self in
    let short = c.in_err-cut.ensures.err in
    let exit = err_from_is_err_and c.from_residual-in_err-cut.result c.from_residual-in_err-cut.ensures.1 in
    rw (exit.1, exit.2, short.1.2) (λ fed read. (
      λ not_memory. subst (λ (w : Wanted). CaptureFault f.limit w fed (capture_faults.CutShort short.1.0)) c.end.ensures.wanted
          (inr (inl (cut_short f.limit fed ended.progress.gathering short.1.0
          (subst (λ (place : Option ℕ). IsReadToCut f.limit fed ended.progress.gathering place) short.1.1 (c.in_ok-read_to.ensures.ok fed read))))),
      λ accepts. absurd (let bad : false ≡ true = sym short.0 ∙ accepts in cc),
    ))

pub returns-in_err-refuse_left_out-clause-err : goal.returns-in_err-refuse_left_out-clause-err
returns-in_err-refuse_left_out-clause-err c =
    let f = c.args.capture.now in
    let ended = c.end.new.self in
    let cut = c.in_ok-cut.ensures.ok in
    let first = c.in_err-refuse_left_out.ensures.first in
    let exit = err_from_is_err_and c.from_residual-in_err-refuse_left_out.result c.from_residual-in_err-refuse_left_out.ensures.1 in
    rw (exit.1, exit.2, first.3) (λ fed read. (
      c.in_ok-cut.cut,
      record {
        is_read = subst (λ (place : Option ℕ). IsReadToCut f.limit fed ended.progress.gathering place) (sym cut.0) (c.in_ok-read_to.ensures.ok fed read);
        accepted = cut.1;
        wanted = c.end.ensures.wanted;
        senders = c.in_ok-read_to.ensures.senders;
      },
      first.0,
      (search rules),
      (search rules),
    ))
