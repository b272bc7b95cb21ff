-- The table of the packet's sender hears it, one that is there or a new one.
use Rattle.std.proofs.Common.{rules, ◌≡◌, List, refl, sym, ap, subst, ◌∙◌}
use Rattle.std.specs.Prelude.{None, Option, Some}
use Rattle.std.specs.BTreeMap.{insert_entry, is_at}
use Rattle.std.specs.Map.{lookup}
use Rattle.std.specs.Option.{unwrap_or}
use Rattle.babel_capture.specs.Tallies.{origin_cmp}
use Rattle.babel_capture.specs.declared.tallies.Origin.{Origin}
use Rattle.babel_capture.specs.contracts.tallies.OriginOrd.TheImpl.{ghosts}
use Rattle.babel_dump.specs.EachSender.{FeedsOwn}
use Rattle.babel_dump.specs.declared.sender_tables.SenderTable.{SenderTable}
use Rattle.babel_dump.proofs.OwnTables.{fed_again, fed_first, on_ok, there_so, written_so}
use Rattle.babel_dump.proofs.sender_tables.SenderTables.feed.Goals as goal

pub returns-in-Some-clause-fed : goal.returns-in-Some-clause-fed
returns-in-Some-clause-fed c =
    let entries = c.args.self.now.tables.entries in
    let origin = c.args.packet.now.origin in
    let old : SenderTable = c.in-Some.table.now in
    let new : SenderTable = record { packets = c.feed.new.self; missed = c.in-Some.table.now.missed } in
    let there : lookup (is_at (ghosts.cmp origin)) entries ≡ Some old = search rules in (
      new,
      written_so entries (c.get_mut.follows.lender new).entries origin old new there c.get_mut.ensures.ordered (c.get_mut.follows.holds new).0,
      subst (λ (t : Option SenderTable). FeedsOwn c.args.self.now.each.now origin t (unwrap_or c.args.time 0, c.args.packet.now.octets.now) new) (sym (there_so entries origin (Some old) there))
          (fed_again c.args.self.now.each.now origin _ old new c.feed.ensures refl),
    )

pub returns-clause-fed : goal.returns-clause-fed
returns-clause-fed c =
    let entries = c.args.self.now.tables.entries in
    let origin = c.args.packet.now.origin in
    let new : SenderTable = record { packets = c.feed-2.new.self; missed = c.in_ok-table.table.missed } in
    let none : lookup (is_at (ghosts.cmp origin)) entries ≡ None = search rules in
    let kept : c.get_mut.follows.lender-at-none.entries ≡ entries = search rules in
    on_ok c.put.result c.put.ensures.put (λ put. (
      new,
      put ∙ ap (λ (e : List (Origin × SenderTable)). insert_entry origin_cmp e origin new) kept,
      subst (λ (t : Option SenderTable). FeedsOwn c.args.self.now.each.now origin t (unwrap_or c.args.time 0, c.args.packet.now.octets.now) new) (sym (there_so entries origin None none))
          (fed_first c.args.self.now.each.now origin _ c.in_ok-table.table new c.in_ok-table.ensures c.feed-2.ensures refl),
    ))
