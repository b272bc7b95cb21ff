use Rattle.babel_capture.proofs.PieceLaws.{last-of}
use Rattle.babel_capture.proofs.pieces.last_before.Goals as goal

pub returns-clause-greatest : goal.returns-clause-greatest
returns-clause-greatest c =
    last-of c.args.pieces.now c.args.end c.range.result (c.in_ok-at.at.now, c.in_ok-at.piece.now) c.next_back.new.self (c.range.ensures.in_range tt) c.in_ok-at.ensures.steps
