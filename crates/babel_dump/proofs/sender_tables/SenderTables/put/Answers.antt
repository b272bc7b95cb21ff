-- The table is put at its sender.
use Rattle.std.proofs.Common.{rules, ◌≡◌}
use Rattle.std.specs.BTreeMap.{insert_entry}
use Rattle.babel_capture.specs.contracts.tallies.OriginOrd.TheImpl.{ghosts}
use Rattle.babel_dump.proofs.OwnTables.{put_so}
use Rattle.babel_dump.proofs.sender_tables.SenderTables.put.Goals as goal

pub returns-in-Ok-clause-put : goal.returns-in-Ok-clause-put
returns-in-Ok-clause-put c =
    let put : c.insert.new.self.entries ≡ insert_entry ghosts.cmp c.args.self.now.tables.entries c.args.origin c.args.table = search rules in
    put_so c.args.self.now.tables.entries c.insert.new.self.entries c.args.origin c.args.table put
