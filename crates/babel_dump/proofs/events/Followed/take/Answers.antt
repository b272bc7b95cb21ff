use Rattle.std.proofs.Common.{◌<◌, ◌++◌, ap, subst, sym, ◌∙◌}
use Rattle.babel_dump.specs.EventsRun.{WroteLines}
use Rattle.babel_dump.specs.Run.{output}
use Rattle.babel_dump.proofs.EventCauses.{err_exit, fails_so, of_backwards, of_fault, of_octets, of_stop, piece_refused, record_in_piece, too_late}
use Rattle.babel_dump.proofs.StartLaws.{on_err_so}
use Rattle.babel_dump.proofs.StartRuns.{start_before, start_in_piece, wrote_nothing, wrote_some}
use Rattle.babel_dump.proofs.TakeLaws.{followed_on}
use Rattle.babel_dump.specs.EventsStart.{WroteSome}
use Rattle.babel_dump.specs.EventsCause.{RefusesOctets, RefusesPiece}
use Rattle.babel_dump.specs.declared.input_fault.InputFault.TheVariants as input_faults
use Rattle.babel_dump.proofs.events.Followed.take.Goals as goal

pub returns-in-Ok-clause-followed : goal.returns-in-Ok-clause-followed
returns-in-Ok-clause-followed g c fed told is =
    let sunk = c.feed-fed.new.sink in
    let said = c.say.ensures.same in
    let same = c.write.ensures.same in
    let writer = output (g.W.ByteOut.state c.args.writer.now) (g.W.ByteOut.state c.write.new.writer) in
    record {
      more = sunk.told.items;
      is_followed = followed_on c.args.events.now fed c.args.piece.now told c.args.self.now is c.feed-fed.new.self sunk c.write.new.self c.feed-fed.ensures.same.0 c.feed-fed.ensures.same.1
          c.in-Ok.ensures.ok.1 c.in-Ok.ensures.sunk (sym said.3 ∙ sym same.3 ∙ c.in_ok-fault.ensures.none) same.0 (same.1 ∙ ap (λ e. e.now) said.0) (same.2 ∙ said.1) (same.3 ∙ said.3)
          (c.write.ensures.senders ∙ c.say.ensures.senders) (c.write.ensures.others ∙ c.say.ensures.others)
          c.in_ok-write.ensures.told;
      wrote = subst (λ t. WroteLines c.args.events.now t.items writer) said.2 c.in_ok-write.ensures.lines;
    }

pub returns-in_err-in_order-clause-cause : goal.returns-in_err-in_order-clause-cause
returns-in_err-in_order-clause-cause g c =
    err_exit c.from_residual.result c.from_residual.ensures.1 (λ trouble same fed told is. of_backwards c.args.events.now (RefusesPiece c.args.events.now (fed ++ c.args.piece.now)) ⊥ ⊥ ((g.W.ByteOut.state c.args.writer.now).failures < (g.W.ByteOut.state c.args.writer.now).failures) (RefusesOctets c.args.events.now (fed ++ c.args.piece.now)) trouble (rw same c.in_err-in_order.ensures.0) (too_late c.args.events.now (fed ++ c.args.piece.now) trouble (rw same c.in_err-in_order.ensures)))

pub returns-in_err-write-clause-cause : goal.returns-in_err-write-clause-cause
returns-in_err-write-clause-cause g c =
    err_exit c.from_residual-in_err-write.result c.from_residual-in_err-write.ensures.1 (λ trouble same fed told is.
    fails_so c.args.events.now (λ _. ⊥) (RefusesPiece c.args.events.now (fed ++ c.args.piece.now)) ⊥ ⊥ ⊥ ⊥ ((g.W.ByteOut.state c.args.writer.now).failures < (g.W.ByteOut.state c.write.new.writer).failures) ((g.W.ByteOut.state c.args.writer.now).failures < (g.W.ByteOut.state c.write.new.writer).failures) (λ _. ⊥) (RefusesOctets c.args.events.now (fed ++ c.args.piece.now)) (λ fault none. absurd none) (λ none. none) (λ none. none) (λ failed. failed) (λ told none. absurd none) trouble (rw same c.in_err-write.ensures.cause))

pub returns-in_err-fault-clause-cause : goal.returns-in_err-fault-clause-cause
returns-in_err-fault-clause-cause g c =
    err_exit c.from_residual-in_err-fault.result c.from_residual-in_err-fault.ensures.1 (λ trouble same fed told is.
    let some = c.in_err-fault.ensures.some in
    of_stop c.args.events.now (RefusesPiece c.args.events.now (fed ++ c.args.piece.now)) ⊥ ⊥ ((g.W.ByteOut.state c.args.writer.now).failures < (g.W.ByteOut.state c.write.new.writer).failures) (RefusesOctets c.args.events.now (fed ++ c.args.piece.now)) some.0 trouble (same ∙ some.2)
    (λ not_memory. of_octets c.args.events.now (fed ++ c.args.piece.now) some.0 (record_in_piece c.args.events.now fed told c.args.self.now is c.feed-fed.new.sink some.0
    (sym c.say.ensures.same.3 ∙ sym c.in_ok-write.ensures.same.3 ∙ some.1) not_memory c.args.piece.now c.feed-fed.new.self c.feed-fed.result c.feed-fed.ensures.sunk (c.feed-fed.ensures.stopped is.no_fault) c.feed-fed.ensures.same.1)))

pub returns-in-Err-clause-cause : goal.returns-in-Err-clause-cause
returns-in-Err-clause-cause g c fed told is =
    of_fault c.args.events.now (RefusesPiece c.args.events.now (fed ++ c.args.piece.now)) ⊥ ⊥ ((g.W.ByteOut.state c.args.writer.now).failures < (g.W.ByteOut.state c.write.new.writer).failures) (RefusesOctets c.args.events.now (fed ++ c.args.piece.now)) (input_faults.Capture c.in-Err.fault) c.of_capture.result c.of_capture.ensures (λ not_memory. piece_refused _ fed c.args.piece.now told c.args.self.now _ _ is c.feed-fed.ensures.fed c.feed-fed.ensures.same c.in-Err.ensures.err not_memory)

pub returns-in_err-in_order-clause-start : goal.returns-in_err-in_order-clause-start
returns-in_err-in_order-clause-start g c =
    on_err_so c.from_residual.result (λ fed told is. start_before c.args.events.now fed c.args.piece.now told c.args.self.now is _ c.requires.told (wrote_nothing c.args.events.now (g.W.ByteOut.state c.args.writer.now)))

pub returns-in_err-write-clause-start : goal.returns-in_err-write-clause-start
returns-in_err-write-clause-start g c =
    let writer = output (g.W.ByteOut.state c.args.writer.now) (g.W.ByteOut.state c.write.new.writer) in
    on_err_so c.from_residual-in_err-write.result (λ fed told is.
    start_in_piece c.args.events.now fed c.args.piece.now told c.args.self.now is c.feed-fed.new.sink writer (subst (λ t. WroteSome c.args.events.now t.items writer) c.say.ensures.same.2 c.in_err-write.ensures.some)
    c.feed-fed.new.self c.feed-fed.result c.feed-fed.ensures.sunk (c.feed-fed.ensures.stopped is.no_fault) c.feed-fed.ensures.same.1)

pub returns-in_err-fault-clause-start : goal.returns-in_err-fault-clause-start
returns-in_err-fault-clause-start g c =
    let writer = output (g.W.ByteOut.state c.args.writer.now) (g.W.ByteOut.state c.write.new.writer) in
    on_err_so c.from_residual-in_err-fault.result (λ fed told is.
    start_in_piece c.args.events.now fed c.args.piece.now told c.args.self.now is c.feed-fed.new.sink writer
    (wrote_some c.args.events.now c.feed-fed.new.sink.told.items writer (subst (λ t. WroteLines c.args.events.now t.items writer) c.say.ensures.same.2 c.in_ok-write.ensures.lines))
    c.feed-fed.new.self c.feed-fed.result c.feed-fed.ensures.sunk (c.feed-fed.ensures.stopped is.no_fault) c.feed-fed.ensures.same.1)

pub returns-in-Err-clause-start : goal.returns-in-Err-clause-start
returns-in-Err-clause-start g c fed told is =
    let writer = output (g.W.ByteOut.state c.args.writer.now) (g.W.ByteOut.state c.write.new.writer) in
    start_in_piece c.args.events.now fed c.args.piece.now told c.args.self.now is c.feed-fed.new.sink writer
    (wrote_some c.args.events.now c.feed-fed.new.sink.told.items writer (subst (λ t. WroteLines c.args.events.now t.items writer) c.say.ensures.same.2 c.in_ok-write.ensures.lines))
    c.feed-fed.new.self c.feed-fed.result c.feed-fed.ensures.sunk (c.feed-fed.ensures.stopped is.no_fault) c.feed-fed.ensures.same.1
