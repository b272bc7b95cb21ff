-- Each row in which something was said counts one.
use Rattle.std.proofs.Common.{◌∙◌, ap, arith}
use mir.Val.{bool_byte}
use Rattle.std.specs.Prelude.{is_some}
use Rattle.babel_table.proofs.ExpiredLaws.{counted-more}
use Rattle.babel_table.proofs.SaidLaws.{byte_small}
use Rattle.babel_table.proofs.family_rows.count_said.Goals as goal

pub loop-row-preserved : goal.loop-row-preserved
loop-row-preserved g c =
    record {
      count = counted-more (λ word. is_some word.1) c.args.rows.now c.loop-row.row-index c.loop-row.count c.from-count.result c.row-item.result
          c.loop-row-test.true c.loop-row.invariant.count
          (c.from-count.ensures ∙ ap bool_byte (c.is_some.ensures ∙ ap (λ word. is_some word.1) c.row-item.is));
      few = omega (arith, c.loop-row.invariant.few, byte_small _ c.from-count.result c.from-count.ensures);
    }

pub overflow_add-count : goal.overflow_add-count
overflow_add-count g c = omega (arith, c.loop-row.invariant.few, byte_small _ c.from-count.result c.from-count.ensures)
