-- The entry in the subject's place is another one.
use Rattle.std.proofs.Common.{ap, arith, sym, ◌∙◌}
use Rattle.std.specs.BTreeMap.{is_at}
use Rattle.std.specs.Map.{set_value}
use Rattle.babel_timeline.specs.Places.{Entries}
use Rattle.babel_timeline.specs.Rows.{subject_cmp}
use Rattle.babel_timeline.proofs.PlaceLaws.{absent, none_set, replaced_entries, replaced_placed, within}
use Rattle.babel_timeline.proofs.cells.Cells.replace.Goals as goal

pub index_mut-requires : goal.index_mut-requires
index_mut-requires g c =
    omega (arith, c.self.inside.cells.ok.0, within g.met.S.Ord.total g.met.S.Sender.exact c.self.invariant c.args.subject.now c.in-Some.place (sym c.in-Some.ensures))

pub invariant_of-self : goal.invariant_of-self
invariant_of-self g c =
    replaced_placed g.met.S.Ord.total g.met.S.Sender.exact c.self.invariant c.args.subject.now c.in-Some.place (sym c.in-Some.ensures)
    c.index_mut.result.now c.index_mut.ensures.value c.args.entry.now

pub returns-in-Some : goal.returns-in-Some
returns-in-Some g c =
    replaced_entries g.met.S.Ord.total g.met.S.Sender.exact c.self.invariant c.args.subject.now c.in-Some.place (sym c.in-Some.ensures)
    c.index_mut.result.now c.index_mut.ensures.value c.args.entry.now
    ∙ ap (λ (entries : Entries g.row.S.Denot). set_value (is_at (subject_cmp g.S.Ord.cmp c.args.subject.now)) entries c.args.entry.now) c.self.view_is

pub returns-in_default : goal.returns-in_default
returns-in_default g c =
    sym (none_set (is_at (subject_cmp g.S.Ord.cmp c.args.subject.now)) c.args.self.now c.args.entry.now
    (absent g.met.S.Ord.total g.met.S.Sender.exact c.self.invariant c.self.view_is c.args.subject.now (sym c.in_default.ensures)))
