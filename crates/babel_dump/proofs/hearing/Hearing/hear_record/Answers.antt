use Rattle.std.proofs.Common.{ap, subst, sym}
use Rattle.babel_dump.specs.Followed.{RefusesUnheard}
use Rattle.babel_dump.proofs.EventCauses.{err_exit}
use Rattle.babel_dump.proofs.SinceLaws.{tells_next}
use Rattle.babel_dump.proofs.hearing.Hearing.hear_record.Goals as goal

pub returns-clause-from : goal.returns-clause-from
returns-clause-from c =
    tells_next c.hear-heard.result c.args.events.now.since c.args.said.now.time c.nanoseconds.result c.args.self.now.since c.begin.new.self c.hear-heard.new.self.since c.tell.new.self.since
    c.hear-heard.new.self.heard.items c.tell.new.self.printed.items c.tell.new.self.heard.items (ap (λ v. v.items) c.tell.ensures.same.2) c.begin.ensures.same c.begin.ensures.moment c.hear-heard.ensures.same.1 c.nanoseconds.ensures c.in_ok-tell.ensures.from

pub returns-in_err-tell-clause-refused : goal.returns-in_err-tell-clause-refused
returns-in_err-tell-clause-refused c suits =
    err_exit c.from_residual.result c.from_residual.ensures.1 (λ why memory. subst (RefusesUnheard c.args.events.now c.args.said.now c.args.self.now.teller) (sym memory) tt)
