use Rattle.std.proofs.Common.{subst}
use Rattle.babel_dump.specs.Filter.{kept_rows}
use Rattle.babel_dump.specs.Originated.{TakesMore}
use Rattle.babel_dump.specs.declared.originated.Originated.{Originated}
use Rattle.babel_dump.proofs.OriginsTold.{Taking, taking_all, taking_more, taking_none}
use Rattle.babel_dump.proofs.ToldSenders.{Entries}
use Rattle.babel_dump.proofs.told_origins.ToldOrigins.take.Goals as goal

pub loop-origin-init : goal.loop-origin-init
loop-origin-init c =
    let captured = c.args.captured.now in
    let gives = c.into_iter-origin-iterator.ensures.into_iter_gives in
    taking_none c.args.filter.now captured.side captured.each.now captured.read.now c.args.tables.entries c.args.self.now.originated.all.entries _ gives.0 gives.5

pub loop-origin-preserved : goal.loop-origin-preserved
loop-origin-preserved c =
    let captured = c.args.captured.now in
    let before = c.args.self.now.originated.all.entries in
    let now = c.loop-origin.self.originated.all.entries in
    let own = c.in_ok-table.table in
    let after = c.take.new.self.all.entries in
    taking_more c.args.filter.now captured.side captured.each.now captured.read.now c.args.tables.entries before c.in-Some.origin c.in-Some.table _ own now after
    (subst (λ (left : Entries). Taking c.args.filter.now captured.side captured.each.now captured.read.now c.args.tables.entries left before now) c.in-Some.ensures.steps c.loop-origin.invariant)
    c.in_ok-table.ensures.own
    (subst (λ (o : Originated). TakesMore captured.side (kept_rows c.args.filter.now own.rows) o.all.entries after) c.in_ok-table.ensures.same c.in_ok-take.ensures)

pub returns-clause-taken : goal.returns-clause-taken
returns-clause-taken c =
    let captured = c.args.captured.now in
    taking_all c.args.filter.now captured.side captured.each.now captured.read.now c.args.tables.entries c.args.self.now.originated.all.entries c.loop-origin.origin-iterator _
    c.in-None.ensures.steps.0 c.loop-origin.invariant
