use Rattle.std.proofs.Common.{sym, ◌∙◌}
use Rattle.babel_capture.proofs.KnownLaws.{first-of}
use Rattle.babel_capture.proofs.known.Known.oldest.Goals as goal

pub returns-clause-some : goal.returns-clause-some
returns-clause-some c =
    let oldest = c.in_ok-oldest.oldest in
    let first = first-of c.self.inside.datagrams.entries (oldest.0.now, oldest.1.now) c.in_ok-oldest.ensures.first in
    (oldest.0.now, first.0, sym c.self.view_is ∙ first.1)
