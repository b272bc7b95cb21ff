-- What listing the sender needs, its packet does.
use Rattle.std.proofs.Common.{ap, subst, sym}
use Rattle.std.proofs.lemmas.Result.{err_from_is_err_and}
use Rattle.babel_capture.specs.Findings.{Found, finding_of}
use Rattle.babel_capture.specs.Gathering.{FoundNeedsMemory}
use Rattle.babel_capture.proofs.tallies.Tallies.take.Goals as goal

pub returns-in_err-add-clause-memory : goal.returns-in_err-add-clause-memory
returns-in_err-add-clause-memory c =
    let exit = err_from_is_err_and c.from_residual.result c.from_residual.ensures.1 in
    rw (exit.1, exit.2) (λ memory.
    subst (λ (what : Found). FoundNeedsMemory c.args.self.now what) (sym (ap finding_of c.in-Packet.is)) (c.in_err-add.ensures.memory memory))
