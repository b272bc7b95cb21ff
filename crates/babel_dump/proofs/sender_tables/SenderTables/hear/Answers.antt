-- The tables are those of the record's packets besides.
use Rattle.std.proofs.Common.{sym, ◌∙◌}
use Rattle.babel_dump.proofs.OwnTables.{missed_noted, missed_passed, on_ok, packet_fed, packet_passed}
use Rattle.babel_dump.proofs.sender_tables.SenderTables.hear.Goals as goal

pub returns-then-asks_for-clause-heard : goal.returns-then-asks_for-clause-heard
returns-then-asks_for-clause-heard c =
    on_ok c.feed.result c.feed.ensures.fed (λ fed made one is are. packet_fed c.args.self.now.each.now made one c.args.told.now is c.args.self.now.tables.entries are c.in-Packet.packet c.in-Packet.is
    c.feed.new.self.tables.entries fed.0 (sym c.asks_for.ensures ∙ c.if-asks_for.true) fed.1 fed.2)

pub returns-else-asks_for-clause-heard : goal.returns-else-asks_for-clause-heard
returns-else-asks_for-clause-heard c made one is are =
    packet_passed c.args.self.now.each.now made one c.args.told.now is c.args.self.now.tables.entries are c.in-Packet.packet c.in-Packet.is (sym c.asks_for.ensures ∙ c.if-asks_for.false)

pub returns-then-asks_for-2-clause-heard : goal.returns-then-asks_for-2-clause-heard
returns-then-asks_for-2-clause-heard c =
    on_ok c.miss.result c.miss.ensures.missed (λ missed made one is are. missed_noted c.args.self.now.each.now made one c.args.told.now is c.args.self.now.tables.entries are c.in-Missed.missed c.in-Missed.is
    c.miss.new.self.tables.entries missed.0 (sym c.asks_for-in-Missed.ensures ∙ c.if-asks_for-2.true) missed.1 missed.2)

pub returns-else-asks_for-2-clause-heard : goal.returns-else-asks_for-2-clause-heard
returns-else-asks_for-2-clause-heard c made one is are =
    missed_passed c.args.self.now.each.now made one c.args.told.now is c.args.self.now.tables.entries are c.in-Missed.missed c.in-Missed.is (sym c.asks_for-in-Missed.ensures ∙ c.if-asks_for-2.false)
