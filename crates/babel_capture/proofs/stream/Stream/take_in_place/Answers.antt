-- Octets that are read where they lie are taken, and those left are pending.
use Rattle.std.proofs.Common.{rules, ◌≡◌, ◌≢◌, ℕ, List, ◌++◌, [], drop, ap, sym, subst, ◌∙◌, inl, inr, arith}
use Rattle.std.proofs.lemmas.Grind.{common_steps}
use Rattle.std.proofs.lemmas.List.{nil_from_length}
use Rattle.std.proofs.lemmas.Result.{err_from_is_err_and}
use Rattle.babel_capture.proofs.MemoryLaws.{if-memory}
use Rattle.babel_capture.proofs.ReadingLaws.{needs-behind, sinks-led}
use Rattle.babel_capture.proofs.SinkLaws.{any-err}
use Rattle.babel_capture.specs.Reading.{PieceFails}
use Rattle.babel_capture.proofs.StreamLaws.{fails-here, needs-here, none-ends, sinks-next, sinks-stop}
use Rattle.babel_capture.proofs.stream.Stream.take_in_place.Goals as goal

pub returns-clause-ok : goal.returns-clause-ok
returns-clause-ok g c =
    let none : c.args.self.now.pending.items ≡ [] = nil_from_length c.args.self.now.pending.items (search rules) in
    let all : c.args.piece.now ≡ c.args.self.now.pending.items ++ c.args.piece.now = ap (λ (t : List ℕ). t ++ c.args.piece.now) (sym none) in
    let left : c.extend_from_slice.new.self.items ≡ drop c.in_ok-used.used c.args.piece.now =
    c.in_ok-extend_from_slice.ensures.items ∙ ap (λ (t : List ℕ). t ++ c.split_at.result.1.now) none ∙ c.split_at.ensures.back in
    sinks-next g.S.Sink.has c.args.sink.now c.take_blocks.new.sink c.args.piece.now c.args.self.now.pending.items c.args.piece.now c.extend_from_slice.new.self.items c.in_ok-used.used c.args.self.now.reader
    c.take_blocks.new.self (none-ends c.args.self.now.reader c.args.self.now.pending.items none) c.take_blocks.ensures.passed all left c.in_ok-used.ensures.took c.in_ok-used.ensures.partial

pub returns-in_err-used-clause-err : goal.returns-in_err-used-clause-err
returns-in_err-used-clause-err g c =
    let none : c.args.self.now.pending.items ≡ [] = nil_from_length c.args.self.now.pending.items (search rules) in
    let all : c.args.piece.now ≡ c.args.self.now.pending.items ++ c.args.piece.now = ap (λ (t : List ℕ). t ++ c.args.piece.now) (sym none) in
    let fails : PieceFails c.args.self.now.reader c.args.self.now.pending.items c.args.piece.now c.in_err-used.field-0.0 =
    fails-here c.args.self.now.reader c.args.self.now.pending.items c.args.piece.now c.args.piece.now c.in_err-used.field-0.0 (none-ends c.args.self.now.reader c.args.self.now.pending.items none) all
    c.in_err-used.ensures.stops in
    search (rules, fails)

pub returns-in_err-used-clause-memory : goal.returns-in_err-used-clause-memory
returns-in_err-used-clause-memory g c =
    let none : c.args.self.now.pending.items ≡ [] = nil_from_length c.args.self.now.pending.items (search rules) in
    let exit = err_from_is_err_and c.from_residual.result c.from_residual.ensures.1 in
    rw (exit.1, exit.2) (λ memory. inr (needs-here c.args.self.now.reader c.args.self.now.pending.items c.args.piece.now none (c.in_err-used.ensures.memory memory)))

pub returns-then-is_empty-clause-ok : goal.returns-then-is_empty-clause-ok
returns-then-is_empty-clause-ok g c =
    let none : c.args.self.now.pending.items ≡ [] = nil_from_length c.args.self.now.pending.items (search rules) in
    let nothing : c.split_at.result.1.now ≡ [] = nil_from_length c.split_at.result.1.now (search rules) in
    sinks-next g.S.Sink.has c.args.sink.now c.take_blocks.new.sink c.args.piece.now c.args.self.now.pending.items c.args.piece.now c.args.self.now.pending.items c.in_ok-used.used c.args.self.now.reader
    c.take_blocks.new.self (none-ends c.args.self.now.reader c.args.self.now.pending.items none) c.take_blocks.ensures.passed (ap (λ (t : List ℕ). t ++ c.args.piece.now) (sym none))
    (none ∙ sym nothing ∙ c.split_at.ensures.back) c.in_ok-used.ensures.took c.in_ok-used.ensures.partial

pub returns-in_err-extend_from_slice-clause-memory : goal.returns-in_err-extend_from_slice-clause-memory
returns-in_err-extend_from_slice-clause-memory g c =
    let none : c.args.self.now.pending.items ≡ [] = nil_from_length c.args.self.now.pending.items (search rules) in
    let some : c.split_at.result.1.now ≢ [] = grind (arith, common_steps) in
    if-memory c.from_residual-in_err-extend_from_slice.result _ (inr (needs-here c.args.self.now.reader c.args.self.now.pending.items c.args.piece.now none (λ limit read lead.
    needs-behind limit c.args.self.now.reader.gathering.wanted read c.args.piece.now c.in_ok-used.used c.take_blocks.new.self c.in_ok-used.ensures.wanted (c.in_ok-used.ensures.took.are_read limit read lead).0
    (inl (c.in_ok-used.ensures.partial, subst (λ (t : List ℕ). t ≢ []) c.split_at.ensures.back some)))))

pub returns-in_err-used-clause-stopped : goal.returns-in_err-used-clause-stopped
returns-in_err-used-clause-stopped g c =
    let none : c.args.self.now.pending.items ≡ [] = nil_from_length c.args.self.now.pending.items (search rules) in
    any-err c.from_residual.result (sinks-stop g.S.Sink.has c.args.sink.now c.take_blocks.new.sink _ _ _ _ (none-ends c.args.self.now.reader c.args.self.now.pending.items none)
    (ap (λ (t : List ℕ). t ++ c.args.piece.now) (sym none)) c.in_err-used.ensures.stopped)

pub returns-in_err-extend_from_slice-clause-stopped : goal.returns-in_err-extend_from_slice-clause-stopped
returns-in_err-extend_from_slice-clause-stopped g c =
    let none : c.args.self.now.pending.items ≡ [] = nil_from_length c.args.self.now.pending.items (search rules) in
    any-err c.from_residual-in_err-extend_from_slice.result (sinks-stop g.S.Sink.has c.args.sink.now c.take_blocks.new.sink _ _ _ _
    (none-ends c.args.self.now.reader c.args.self.now.pending.items none) (ap (λ (t : List ℕ). t ++ c.args.piece.now) (sym none))
    (sinks-led g.S.Sink.has c.args.sink.now c.take_blocks.new.sink _ c.take_blocks.new.self _ c.in_ok-used.used c.in_ok-used.ensures.wanted c.in_ok-used.ensures.took))
