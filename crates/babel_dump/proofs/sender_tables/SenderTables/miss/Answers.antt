-- The datagram is noted at its sender, where none was before.
use Rattle.std.proofs.Common.{rules, ◌≡◌, List, refl, sym, ap, subst, ◌∙◌}
use Rattle.std.specs.Prelude.{None, Option, Some}
use Rattle.std.specs.BTreeMap.{insert_entry, is_at}
use Rattle.std.specs.Map.{lookup}
use Rattle.std.specs.Option.{option_or}
use Rattle.babel_capture.specs.Tallies.{origin_cmp}
use Rattle.babel_capture.specs.declared.tallies.Origin.{Origin}
use Rattle.babel_capture.specs.contracts.tallies.OriginOrd.TheImpl.{ghosts}
use Rattle.babel_dump.specs.EachSender.{MissesOwn}
use Rattle.babel_dump.specs.declared.sender_tables.SenderTable.{SenderTable}
use Rattle.babel_dump.proofs.OwnTables.{missed_again, missed_first, on_ok, there_so, written_so}
use Rattle.babel_dump.proofs.sender_tables.SenderTables.miss.Goals as goal

pub returns-in-Some-clause-missed : goal.returns-in-Some-clause-missed
returns-in-Some-clause-missed c =
    let entries = c.args.self.now.tables.entries in
    let origin = c.args.origin in
    let old : SenderTable = c.in-Some.table.now in
    let new : SenderTable = record { packets = c.in-Some.table.now.packets; missed = c.or-table.result } in
    let there : lookup (is_at (ghosts.cmp origin)) entries ≡ Some old = search rules in
    let or : c.or-table.result ≡ option_or c.in-Some.table.now.missed (Some c.args.datagram) = search rules in (
      new,
      written_so entries (c.get_mut.follows.lender new).entries origin old new there c.get_mut.ensures.ordered (c.get_mut.follows.holds new).0,
      subst (λ (t : Option SenderTable). MissesOwn c.args.self.now.each.now origin t c.args.datagram new) (sym (there_so entries origin (Some old) there))
          (missed_again c.args.self.now.each.now origin c.args.datagram old new refl or),
    )

pub returns-clause-missed : goal.returns-clause-missed
returns-clause-missed c =
    let entries = c.args.self.now.tables.entries in
    let origin = c.args.origin in
    let new : SenderTable = record { packets = c.in_ok-table.table.packets; missed = Some c.args.datagram } in
    let none : lookup (is_at (ghosts.cmp origin)) entries ≡ None = search rules in
    let kept : c.get_mut.follows.lender-at-none.entries ≡ entries = search rules in
    on_ok c.put.result c.put.ensures.put (λ put. (
      new,
      put ∙ ap (λ (e : List (Origin × SenderTable)). insert_entry origin_cmp e origin new) kept,
      subst (λ (t : Option SenderTable). MissesOwn c.args.self.now.each.now origin t c.args.datagram new) (sym (there_so entries origin None none))
          (missed_first c.args.self.now.each.now origin c.args.datagram c.in_ok-table.table new c.in_ok-table.ensures refl refl),
    ))
