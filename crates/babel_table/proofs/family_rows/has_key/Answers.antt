-- The key of a row at a place is compared whole.
use Rattle.std.proofs.Common.{◌∙◌, sym}
use Rattle.babel_table.proofs.SaidLaws.{place-read, place-same}
use Rattle.babel_table.proofs.family_rows.has_key.Goals as goal

pub returns-then-place-rows : goal.returns-then-place-rows
returns-then-place-rows g c = (
  λ same. place-read c.args.rows.now c.args.key.now c.args.place c.index-rows-place.result c.if-place-rows.true (sym c.eq.ensures ∙ same),
  λ place. c.eq.ensures ∙ place-same c.args.rows.now c.args.key.now c.args.place c.index-rows-place.result place,
)
