-- What feeding and finishing say of the octets is said of the dump.
use Rattle.std.proofs.Common.{ℕ, List, [], subst, ◌∙◌}
use Rattle.std.proofs.lemmas.List.{append-nil}
use Rattle.std.proofs.lemmas.Result.{err_from_is_err_and}
use Rattle.babel_table.specs.TableOf.{IsTableOf}
use Rattle.babel_table.specs.DumpFault.{DumpFault, HasNoFault}
use Rattle.babel_table.proofs.FeedLaws.{at-settings, each-table, each-fault}
use Rattle.babel_table.proofs.feeder.read_dump.Goals as goal

pub returns-in_err-feed-clause-fault : goal.returns-in_err-feed-clause-fault
returns-in_err-feed-clause-fault c =
    let made = c.in_ok-feeder.ensures.ok in
    let dump = c.args.dump.now in
    let exit = err_from_is_err_and c.from_residual-in_err-feed.result c.from_residual-in_err-feed.ensures.1 in
    rw (exit.1, exit.2) (λ not.
    at-settings c.args.limits _ c.args.mode _ c.args.sender _ made.1 made.2 made.3 (λ l m s. DumpFault l m s dump c.in_err-feed.field-0.0)
    (subst (λ (t : List ℕ). DumpFault c.in_ok-feeder.feeder.limits c.in_ok-feeder.feeder.mode c.in_ok-feeder.feeder.sender t c.in_err-feed.field-0.0) (append-nil dump)
    (c.in_err-feed.ensures.fault not [] [] made.0)))

pub returns-clause-ok : goal.returns-clause-ok
returns-clause-ok c =
    let made = c.in_ok-feeder.ensures.ok in
    let same = c.feed.ensures.same in
    each-table c.finish.result (λ table all.
    at-settings c.args.limits _ c.args.mode _ c.args.sender _ (same.0 ∙ made.1) (same.1 ∙ made.2) (same.2 ∙ made.3) (λ l m s. HasNoFault l m s c.args.dump.now × IsTableOf l m s c.args.dump.now table)
    (all c.args.dump.now (c.feed.ensures.fed [] made.0))) c.finish.ensures.ok

pub returns-clause-fault : goal.returns-clause-fault
returns-clause-fault c =
    let made = c.in_ok-feeder.ensures.ok in
    let same = c.feed.ensures.same in
    each-fault c.finish.result (λ fault all not.
    at-settings c.args.limits _ c.args.mode _ c.args.sender _ (same.0 ∙ made.1) (same.1 ∙ made.2) (same.2 ∙ made.3) (λ l m s. DumpFault l m s c.args.dump.now fault)
    (all not c.args.dump.now (c.feed.ensures.fed [] made.0))) c.finish.ensures.fault
