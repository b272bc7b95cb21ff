-- A key is greater than all exactly if it is greater than the last.
use Rattle.std.proofs.Common.{sym, ◌∙◌}
use Rattle.babel_table.proofs.SaidLaws.{above-read, above-last-read}
use Rattle.babel_table.proofs.family_rows.is_past.Goals as goal

pub returns-in-Some : goal.returns-in-Some
returns-in-Some g c = (
  λ less. above-read c.args.key.now c.args.rows.now c.in-Some.row.now c.requires c.in-Some.ensures.value (sym c.lt.ensures ∙ less),
  λ above. c.lt.ensures ∙ above-last-read c.args.key.now c.args.rows.now c.in-Some.row.now c.in-Some.ensures.value above,
)
