-- Each route that has expired counts one.
use Rattle.std.proofs.Common.{◌∙◌, ap, arith}
use mir.Val.{bool_byte}
use Rattle.babel_table.specs.Live.{is_expired}
use Rattle.babel_table.specs.Said.{is_said}
use Rattle.babel_table.proofs.ExpiredLaws.{counted-more}
use Rattle.babel_table.proofs.SaidLaws.{byte_small}
use Rattle.babel_table.proofs.family_rows.count_expired.Goals as goal

pub loop-row-preserved : goal.loop-row-preserved
loop-row-preserved g c =
    let at = c.args.moment.now in
    record {
      count = counted-more (λ word. is_said (is_expired at) word.1) c.args.rows.now c.loop-row.row-index c.loop-row.count c.from-count.result c.row-item.result
          c.loop-row-test.true c.loop-row.invariant.count
          (c.from-count.ensures ∙ ap bool_byte (c.has_expired.ensures ∙ ap (λ word. is_said (is_expired at) word.1) c.row-item.is));
      few = omega (arith, c.loop-row.invariant.few, byte_small _ c.from-count.result c.from-count.ensures);
    }

pub overflow_add-count : goal.overflow_add-count
overflow_add-count g c = omega (arith, c.loop-row.invariant.few, byte_small _ c.from-count.result c.from-count.ensures)
