use Rattle.std.proofs.Common.{sym, arith}
use Rattle.std.proofs.lemmas.Grind.{common_steps}
use Rattle.babel_dump.proofs.JsonLaws.{comma_after-more, objects_more, text_more}
use Rattle.babel_dump.proofs.TextLemmas.{appended}
use Rattle.babel_dump.proofs.push_report.push_counted_json.Goals as goal
use Rattle.babel_dump.proofs.push_report.push_counted_json.Goals.{in-Some, in_default}

pub loop-reason-preserved : goal.loop-reason-preserved
loop-reason-preserved g c =
    let found = objects_more g.R.CountedReason.name_of (g.R.CountedReason.counted c.args.report.now) c.args.reasons.now c.loop-reason.reason-index c.reason-item.result c.counted.result
    c.loop-reason-test.true c.reason-item.is c.counted.ensures in
    elim c.match-counted.branch [
      | in-Some w ↦
          let more = rw w.in-Some.is at found in
          record {
            text = rw w.buffer-is (text_more _ _ _ _ _ _ _ c.loop-reason.invariant.text c.loop-reason.invariant.comma more
                (appended _ _ _ _ _ w.push_text.ensures.text (rw w.name.ensures.text at w.push_counted_object.ensures.text)));
            comma = rw w.comma-is (rw more (sym (comma_after-more _ _)));
            short = rw w.comma-is (omega arith);
            took = rw w.buffer-is (omega (arith, c.loop-reason.invariant.took, c.loop-reason.invariant.short, w.push_text.ensures.room, w.push_counted_object.ensures.room));
            room = rw w.buffer-is (omega (arith, c.loop-reason.invariant.room, w.push_text.ensures.room, w.push_counted_object.ensures.room));
          }
      | in_default w ↦
          let more = rw w.in_default.is at found in
          grind (arith, common_steps, more, w.buffer-is, w.comma-is, c.loop-reason.invariant.text, c.loop-reason.invariant.comma)
    ]
