-- What is left is said in place of what was.
use Rattle.std.proofs.Common.{◌∙◌, ap}
use Rattle.std.specs.Prelude.{count_by, is_some}
use Rattle.std.specs.Option.{option_and_then}
use Rattle.babel_table.specs.Live.{kept_at}
use Rattle.babel_table.specs.Said.{Words, standing}
use Rattle.babel_table.specs.Words.{replaced}
use Rattle.babel_table.proofs.ExpiredLaws.{changed-whole, counted-said, standing-said}
use Rattle.babel_table.proofs.family_rows.FamilyRows.leave.Goals as goal

pub invariant_of-self : goal.invariant_of-self
invariant_of-self g c =
    let give = kept_at c.args.moment.now in
    let items = c.self.inside.rows.items in
    let all = changed-whole (λ word. (word.0, option_and_then give word.1)) items c.leave_all.new.rows c.deref_mut.result.now _
    c.leave_all.ensures c.deref_mut.ensures.value c.deref_mut.ensures.len in
    let count = c.count_said-self-inside.ensures ∙ ap (λ (ws : Words). count_by (λ word. is_some word.1) ws) (c.deref.ensures.value ∙ all) in
    rw all (counted-said give c.self.inside.count c.count_said-self-inside.result items c.self.inside.rising c.self.inside.places count c.self.invariant)

pub returns : goal.returns
returns g c =
    let give = kept_at c.args.moment.now in
    let items = c.self.inside.rows.items in
    ap standing (changed-whole (λ word. (word.0, option_and_then give word.1)) items c.leave_all.new.rows c.deref_mut.result.now _
    c.leave_all.ensures c.deref_mut.ensures.value c.deref_mut.ensures.len)
    ∙ standing-said give items ∙ ap (replaced give) c.self.view_is
