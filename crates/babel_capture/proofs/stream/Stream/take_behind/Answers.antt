use Rattle.std.proofs.Common.{rules, ap, sym, ◌∙◌, ◌≡◌, ◌++◌, drop}
use Rattle.babel_capture.specs.Blocks.{IsEnd}
use Rattle.babel_capture.specs.Reading.{PieceFails}
use Rattle.babel_capture.proofs.SinkLaws.{any-err, sinks-none}
use Rattle.babel_capture.proofs.StreamLaws.{fails-here, passed-over, sinks-next, sinks-stop, stop-none}
use Rattle.babel_capture.proofs.stream.Stream.take_behind.Goals as goal

pub returns-then-is_end-clause-ok : goal.returns-then-is_end-clause-ok
returns-then-is_end-clause-ok g c =
    let told : IsEnd c.args.self.now.reader.context c.args.self.now.reader.at c.args.self.now.pending.items = search rules in
    passed-over g.S.Sink.has c.args.sink.now c.pass_over.result c.args.self.now.reader c.pass_over.new.self c.args.self.now.pending.items c.deref-then-is_end.result.now c.args.piece.now told c.deref-then-is_end.ensures.value
    c.pass_over.ensures.ok

pub returns-clause-ok : goal.returns-clause-ok
returns-clause-ok g c =
    let not : ¬ IsEnd c.args.self.now.reader.context c.args.self.now.reader.at c.args.self.now.pending.items = search rules in
    sinks-next g.S.Sink.has c.args.sink.now c.take_blocks.new.sink c.args.piece.now c.args.self.now.pending.items c.deref-2.result.now c.remove_front.new.octets.items c.in_ok-used.used c.args.self.now.reader
    c.take_blocks.new.self not c.take_blocks.ensures.passed (c.deref-2.ensures.value ∙ c.in_ok-extend_from_slice.ensures.items)
    (c.remove_front.ensures ∙ ap (drop c.in_ok-used.used) (sym c.deref-2.ensures.value))
    c.in_ok-used.ensures.took c.in_ok-used.ensures.partial

pub returns-in_err-used-clause-err : goal.returns-in_err-used-clause-err
returns-in_err-used-clause-err g c =
    let not : ¬ IsEnd c.args.self.now.reader.context c.args.self.now.reader.at c.args.self.now.pending.items = search rules in
    let all : c.deref-2.result.now ≡ c.args.self.now.pending.items ++ c.args.piece.now = c.deref-2.ensures.value ∙ c.in_ok-extend_from_slice.ensures.items in
    let fails : PieceFails c.args.self.now.reader c.args.self.now.pending.items c.args.piece.now c.in_err-used.field-0.0 =
    fails-here c.args.self.now.reader c.args.self.now.pending.items c.args.piece.now c.deref-2.result.now c.in_err-used.field-0.0 not all c.in_err-used.ensures.stops in
    search (rules, fails)

pub returns-then-is_end-clause-stopped : goal.returns-then-is_end-clause-stopped
returns-then-is_end-clause-stopped g c = any-err c.pass_over.result (sinks-none g.S.Sink.has c.args.sink.now _ (stop-none _ _ _))

pub returns-in_err-extend_from_slice-clause-stopped : goal.returns-in_err-extend_from_slice-clause-stopped
returns-in_err-extend_from_slice-clause-stopped g c = any-err c.from_residual.result (sinks-none g.S.Sink.has c.args.sink.now _ (stop-none _ _ _))

pub returns-in_err-used-clause-stopped : goal.returns-in_err-used-clause-stopped
returns-in_err-used-clause-stopped g c =
    let not : ¬ IsEnd c.args.self.now.reader.context c.args.self.now.reader.at c.args.self.now.pending.items = search rules in
    any-err c.from_residual-in_err-used.result (sinks-stop g.S.Sink.has c.args.sink.now c.take_blocks.new.sink _ _ _ _ not
    (c.deref-2.ensures.value ∙ c.in_ok-extend_from_slice.ensures.items) c.in_err-used.ensures.stopped)
