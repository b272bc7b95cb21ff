-- The time is set, and then packets are taken to their end.
use Rattle.std.proofs.Common.{◌≡◌, [], length, drop, arith, ap, length-drop}
use Rattle.std.proofs.lemmas.List.{drop_all}
use Rattle.std.proofs.lemmas.Result.{err_from_is_err_and}
use Rattle.babel_table.specs.Feeding.{Progress}
use Rattle.babel_table.proofs.TimedLaws.{fed-cut, fed-failed, fed-fault, fed-memory, fed-whole}
use Rattle.babel_table.proofs.timed_feeder.TimedFeeder.feed_at.Goals as goal

pub returns-in_err-used-clause-heard : goal.returns-in_err-used-clause-heard
returns-in_err-used-clause-heard c = λ not given heard.
    let same = c.take.ensures.same in
    fed-failed c.args.self.now c.set_time.new.self c.take.new.self c.args.time c.set_time.ensures given heard c.args.packets.now same.0 same.1 same.2
    c.in_err-used.field-0.0 c.in_err-used.ensures.err.0 c.in_err-used.ensures.read c.take.ensures.time.0 c.take.ensures.time.1

pub returns-in_err-used-clause-fault : goal.returns-in_err-used-clause-fault
returns-in_err-used-clause-fault c =
    let same = c.take.ensures.same in
    let exit = err_from_is_err_and c.from_residual.result c.from_residual.ensures.1 in
    rw (exit.1, exit.2) (λ not_memory not given more heard.
    fed-fault c.args.self.now c.set_time.new.self c.take.new.self c.args.time c.set_time.ensures given heard c.args.packets.now same.0 same.1 same.2
    c.in_err-used.field-0.0 c.in_err-used.ensures.err.0 c.in_err-used.ensures.read not_memory more)

pub returns-in_err-used-clause-memory : goal.returns-in_err-used-clause-memory
returns-in_err-used-clause-memory c =
    let same = c.take.ensures.same in
    let exit = err_from_is_err_and c.from_residual.result c.from_residual.ensures.1 in
    rw (exit.1, exit.2) (λ memory given heard.
    fed-memory c.args.self.now c.set_time.new.self c.take.new.self c.args.time c.set_time.ensures given heard c.args.packets.now same.0 same.1 same.2
    c.in_err-used.field-0.0 c.in_err-used.ensures.err.0 c.in_err-used.ensures.read memory)

pub returns-then-used-packets-clause-truncated : goal.returns-then-used-packets-clause-truncated
returns-then-used-packets-clause-truncated c = λ cut given heard.
    let same = c.take.ensures.same in
    let ok = c.in_ok-used.ensures.ok in
    let left = drop c.in_ok-used.used c.args.packets.now in
    rw (ap (λ (p : Progress). p.at) c.self.view_is) (fed-cut c.args.self.now c.set_time.new.self c.take.new.self c.args.time c.set_time.ensures given heard c.args.packets.now same.0 same.1 same.2
    ok.1 left ok.2 (λ none. absurd (omega (arith, c.if-used-packets.true, ap length none, length-drop c.in_ok-used.used c.args.packets.now))))

pub returns-clause-heard : goal.returns-clause-heard
returns-clause-heard c = λ not given heard.
    let same = c.take.ensures.same in
    let ok = c.in_ok-used.ensures.ok in
    let left = drop c.in_ok-used.used c.args.packets.now in
    let whole : left ≡ [] = drop_all c.in_ok-used.used c.args.packets.now (omega (arith, c.if-used-packets.false)) in
    fed-whole c.args.self.now c.set_time.new.self c.take.new.self c.args.time c.set_time.ensures given heard c.args.packets.now same.0 same.1 same.2
    ok.1 left ok.2 ok.0 c.take.ensures.time.0 c.take.ensures.time.1 same.3 whole c.in_ok-used.ensures.words
