-- The parts of a piece, one after the other, are taken as the piece is.
use Rattle.std.proofs.lemmas.Result.{IfErr-weaker, err_from_is_err_and, on_ok_weaker}
use Rattle.babel_capture.specs.Reading.{PieceFails}
use Rattle.babel_capture.proofs.SinkLaws.{any-err, sinks-as, sinks-both}
use Rattle.babel_capture.proofs.StreamLaws.{fails-first, fails-later, feed-both, split-whole, stop-first, stop-later, takes-sunk}
use Rattle.babel_capture.proofs.stream.Stream.take.Goals as goal

pub returns-in_err-take_behind-clause-err : goal.returns-in_err-take_behind-clause-err
returns-in_err-take_behind-clause-err g c =
    let exit = err_from_is_err_and c.from_residual.result c.from_residual.ensures.1 in
    let piece = c.args.piece.now in
    let old = c.args.self.now in
    let header = c.split_at.result.0.now in
    let rest = c.split_at.result.1.now in
    let whole = split-whole c.lacking_of.result header rest piece c.split_at.ensures.front c.split_at.ensures.back in
    rw (exit.1, exit.2) (fails-first header rest piece whole old.reader old.pending.items _ c.in_err-take_behind.ensures.err)

pub returns-in_err-take_behind-2-clause-err : goal.returns-in_err-take_behind-2-clause-err
returns-in_err-take_behind-2-clause-err g c =
    let exit = err_from_is_err_and c.from_residual-in_err-take_behind-2.result c.from_residual-in_err-take_behind-2.ensures.1 in
    let piece = c.args.piece.now in
    let old = c.args.self.now in
    let next = c.take_behind.new.self in
    let header = c.split_at.result.0.now in
    let rest = c.split_at.result.1.now in
    let block = c.split_at-2.result.0.now in
    let behind = c.split_at-2.result.1.now in
    let whole = split-whole c.lacking_of.result header rest piece c.split_at.ensures.front c.split_at.ensures.back in
    let whole_rest = split-whole c.lacking_of-2.result block behind rest c.split_at-2.ensures.front c.split_at-2.ensures.back in
    rw (exit.1, exit.2) (fails-later header rest piece whole old.reader next.reader old.pending.items next.pending.items _ c.in_ok-take_behind.ensures.wanted
    (takes-sunk g.S.Sink.has c.args.sink.now c.take_behind.new.sink old.reader next.reader old.pending.items next.pending.items header c.in_ok-take_behind.ensures.ok)
    (fails-first block behind rest whole_rest next.reader next.pending.items _ c.in_err-take_behind-2.ensures.err))

pub returns-clause-ok : goal.returns-clause-ok
returns-clause-ok g c =
    let piece = c.args.piece.now in
    let old = c.args.self.now in
    let next = c.take_behind.new.self in
    let last = c.take_behind-2.new.self in
    let new = c.take_in_place-2.new.self in
    let header = c.split_at.result.0.now in
    let rest = c.split_at.result.1.now in
    let block = c.split_at-2.result.0.now in
    let behind = c.split_at-2.result.1.now in
    let whole = split-whole c.lacking_of.result header rest piece c.split_at.ensures.front c.split_at.ensures.back in
    let whole_rest = split-whole c.lacking_of-2.result block behind rest c.split_at-2.ensures.front c.split_at-2.ensures.back in
    on_ok_weaker c.take_in_place-2.result
    (λ sunk. sinks-both g.S.Sink.has c.args.sink.now c.take_behind.new.sink c.take_in_place-2.new.sink _ _ _
    (feed-both header rest piece whole old.reader next.reader new.reader old.pending.items next.pending.items new.pending.items) c.in_ok-take_behind.ensures.ok
    (sinks-both g.S.Sink.has c.take_behind.new.sink c.take_behind-2.new.sink c.take_in_place-2.new.sink _ _ _
    (feed-both block behind rest whole_rest next.reader last.reader new.reader next.pending.items last.pending.items new.pending.items) c.in_ok-take_behind-2.ensures.ok sunk))
    c.take_in_place-2.ensures.ok

pub returns-clause-err : goal.returns-clause-err
returns-clause-err g c =
    let piece = c.args.piece.now in
    let old = c.args.self.now in
    let next = c.take_behind.new.self in
    let last = c.take_behind-2.new.self in
    let header = c.split_at.result.0.now in
    let rest = c.split_at.result.1.now in
    let block = c.split_at-2.result.0.now in
    let behind = c.split_at-2.result.1.now in
    let whole = split-whole c.lacking_of.result header rest piece c.split_at.ensures.front c.split_at.ensures.back in
    let whole_rest = split-whole c.lacking_of-2.result block behind rest c.split_at-2.ensures.front c.split_at-2.ensures.back in
    IfErr-weaker c.take_in_place-2.result (PieceFails last.reader last.pending.items behind) (PieceFails old.reader old.pending.items piece)
    (λ fault fails. fails-later header rest piece whole old.reader next.reader old.pending.items next.pending.items fault c.in_ok-take_behind.ensures.wanted
    (takes-sunk g.S.Sink.has c.args.sink.now c.take_behind.new.sink old.reader next.reader old.pending.items next.pending.items header c.in_ok-take_behind.ensures.ok)
    (fails-later block behind rest whole_rest next.reader last.reader next.pending.items last.pending.items fault c.in_ok-take_behind-2.ensures.wanted
    (takes-sunk g.S.Sink.has c.take_behind.new.sink c.take_behind-2.new.sink next.reader last.reader next.pending.items last.pending.items block c.in_ok-take_behind-2.ensures.ok) fails))
    c.take_in_place-2.ensures.err

pub returns-in_err-take_behind-clause-stopped : goal.returns-in_err-take_behind-clause-stopped
returns-in_err-take_behind-clause-stopped g c =
    let header = c.split_at.result.0.now in
    let rest = c.split_at.result.1.now in
    let whole = split-whole c.lacking_of.result header rest c.args.piece.now c.split_at.ensures.front c.split_at.ensures.back in
    any-err c.from_residual.result (sinks-as g.S.Sink.has c.args.sink.now c.take_behind.new.sink _ _ (stop-first header rest c.args.piece.now whole _ _) c.in_err-take_behind.ensures.stopped)

pub returns-in_err-take_behind-2-clause-stopped : goal.returns-in_err-take_behind-2-clause-stopped
returns-in_err-take_behind-2-clause-stopped g c =
    let piece = c.args.piece.now in
    let header = c.split_at.result.0.now in
    let rest = c.split_at.result.1.now in
    let block = c.split_at-2.result.0.now in
    let behind = c.split_at-2.result.1.now in
    let whole = split-whole c.lacking_of.result header rest piece c.split_at.ensures.front c.split_at.ensures.back in
    let whole_rest = split-whole c.lacking_of-2.result block behind rest c.split_at-2.ensures.front c.split_at-2.ensures.back in
    any-err c.from_residual-in_err-take_behind-2.result
    (sinks-both g.S.Sink.has c.args.sink.now c.take_behind.new.sink c.take_behind-2.new.sink _ _ _
    (λ one two goes stops. stop-later header rest piece whole _ _ _ _ one two c.in_ok-take_behind.ensures.wanted goes
    (stop-first block behind rest whole_rest _ _ two stops)) c.in_ok-take_behind.ensures.ok c.in_err-take_behind-2.ensures.stopped)

pub returns-clause-stopped : goal.returns-clause-stopped
returns-clause-stopped g c =
    let piece = c.args.piece.now in
    let header = c.split_at.result.0.now in
    let rest = c.split_at.result.1.now in
    let block = c.split_at-2.result.0.now in
    let behind = c.split_at-2.result.1.now in
    let whole = split-whole c.lacking_of.result header rest piece c.split_at.ensures.front c.split_at.ensures.back in
    let whole_rest = split-whole c.lacking_of-2.result block behind rest c.split_at-2.ensures.front c.split_at-2.ensures.back in
    IfErr-weaker c.take_in_place-2.result _ _
    (λ fault stopped. sinks-both g.S.Sink.has c.args.sink.now c.take_behind.new.sink c.take_in_place-2.new.sink _ _ _
    (λ one two. stop-later header rest piece whole _ _ _ _ one two c.in_ok-take_behind.ensures.wanted) c.in_ok-take_behind.ensures.ok
    (sinks-both g.S.Sink.has c.take_behind.new.sink c.take_behind-2.new.sink c.take_in_place-2.new.sink _ _ _
    (λ one two. stop-later block behind rest whole_rest _ _ _ _ one two c.in_ok-take_behind-2.ensures.wanted) c.in_ok-take_behind-2.ensures.ok stopped))
    c.take_in_place-2.ensures.stopped
