use Rattle.babel_dump.proofs.TextLemmas.{appended}
use Rattle.babel_dump.proofs.push_time.push_time.Goals as goal

pub returns-clause-text : goal.returns-clause-text
returns-clause-text c =
    let before = c.args.buffer.now.items in
    let is = c.nanoseconds-nanoseconds.ensures.value in
    let mark = appended before _ _ _ _ (rw (c.from.ensures, is) at c.push_day.ensures.text) c.push_text.ensures.text in
    let clock = appended before _ _ _ _ mark (rw (c.from-2.ensures, is) at c.push_clock.ensures.text) in
    appended before _ _ _ _ clock c.push_text-2.ensures.text
