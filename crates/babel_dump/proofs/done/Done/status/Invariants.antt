-- It is the greatest of that of the run and those of the senders so far.
use Rattle.std.proofs.Common.{◌≡◌, fold, max, take}
use Rattle.babel_dump.specs.Trouble.{read_status}
use Rattle.babel_dump.specs.declared.done.ToldSender.{ToldSender}
use Rattle.babel_dump.proofs.done.Done.status.Given as goal

abbrev pub invariant-loop-sender : goal.invariant-loop-sender
invariant-loop-sender l =
    l.status ≡ fold (λ status (sender : ToldSender). max status (read_status sender.read)) l.self.status (take l.sender-index l.sender-items)
