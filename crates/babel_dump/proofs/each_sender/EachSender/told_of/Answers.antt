-- What is looked up is led by the sender.
use Rattle.std.proofs.Common.{sym, subst}
use Rattle.std.specs.Prelude.{IfOk}
use Rattle.babel_dump.specs.EachSender.{IsToldOf}
use Rattle.babel_dump.specs.declared.each_sender.SenderTask.{SenderTask}
use Rattle.babel_dump.proofs.each_sender.EachSender.told_of.Goals as goal

pub returns-in-Each-clause-ok : goal.returns-in-Each-clause-ok
returns-in-Each-clause-ok c =
    let each = c.args.self.now in
    subst (λ (t : SenderTask). IfOk c.led_of.result (λ key. IsToldOf t each c.args.reading c.args.origin c.args.name.now key c.args.table)) (sym c.in-Each.is) c.led_of.ensures.ok
