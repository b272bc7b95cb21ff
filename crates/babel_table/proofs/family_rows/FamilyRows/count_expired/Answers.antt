-- What has expired and what has not are all that stands.
use Rattle.std.proofs.Common.{◌∙◌, ap, arith}
use Rattle.babel_table.specs.Live.{is_expired}
use Rattle.babel_table.specs.Said.{Words, said_count}
use Rattle.babel_table.proofs.ExpiredLaws.{count-said}
use Rattle.babel_table.proofs.family_rows.FamilyRows.count_expired.Goals as goal

pub returns-clause-count : goal.returns-clause-count
returns-clause-count g c =
    let test = is_expired c.args.moment.now in
    let items = c.self.inside.rows.items in
    let is = c.count_expired.ensures ∙ ap (λ (ws : Words). said_count test ws) c.deref.ensures.value in
    rw (← c.self.view_is, is) (count-said test items c.self.invariant.indexed.distinct)

pub returns-clause-small : goal.returns-clause-small
returns-clause-small g c =
    let test = is_expired c.args.moment.now in
    let items = c.self.inside.rows.items in
    let is = c.count_expired.ensures ∙ ap (λ (ws : Words). said_count test ws) c.deref.ensures.value in
    omega (arith, is, count-said test items c.self.invariant.indexed.distinct, c.self.invariant.count, c.self.invariant.small)
