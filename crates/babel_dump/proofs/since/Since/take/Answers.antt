use Rattle.std.proofs.Common.{◌≡◌, Some, None, rules}
use Rattle.std.proofs.lemmas.Result.{on_ok_weaker}
use Rattle.babel_dump.proofs.SinceLaws.{told_all, told_then}
use Rattle.babel_dump.proofs.since.Since.take.Goals as goal

pub returns-in_default : goal.returns-in_default
returns-in_default c =
    let none : c.args.self.now.moment ≡ None = search rules in
    told_all c.args.time c.args.self.now none c.args.heard.now c.append.new.told.items (search rules)

pub returns : goal.returns
returns c =
    let known : c.args.self.now.moment ≡ Some c.in-Some.moment = search rules in
    on_ok_weaker c.add_from.result
    (λ told. told_then c.in-Some.moment c.args.time c.args.self.now c.come.new.self known c.args.heard.now c.come.new.told.items c.add_from.new.told.items c.in_ok-come.ensures told) c.add_from.ensures
