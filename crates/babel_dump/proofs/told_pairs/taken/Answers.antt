use Rattle.std.proofs.Common.{rules, ◌≡◌}
use Rattle.std.specs.Prelude.{Some}
use Rattle.std.specs.BTreeMap.{is_at}
use Rattle.std.specs.Map.{lookup}
use Rattle.babel_capture.specs.contracts.tallies.OriginOrd.TheImpl.{ghosts}
use Rattle.babel_dump.proofs.OwnTables.{there_so}
use Rattle.babel_dump.proofs.PairsMade.{leaves_so}
use Rattle.babel_dump.proofs.told_pairs.taken.Goals as goal

pub returns-in-Some-clause-there : goal.returns-in-Some-clause-there
returns-in-Some-clause-there c =
    let is : lookup (is_at (ghosts.cmp c.args.origin)) c.args.tables.now.entries ≡ Some c.in-Some.table = search rules in
    there_so c.args.tables.now.entries c.args.origin (Some c.in-Some.table) is

pub returns-in-Some-clause-left : goal.returns-in-Some-clause-left
returns-in-Some-clause-left c = leaves_so c.args.tables.now.entries c.remove.new.self.entries c.args.origin c.remove.ensures.updates.0
