use Rattle.babel_dump.proofs.TextLemmas.{appended}
use Rattle.babel_dump.proofs.push_time.push_day.Goals as goal

pub returns-clause-text : goal.returns-clause-text
returns-clause-text c =
    let before = c.args.buffer.now.items in
    let date = c.date_of-date.ensures in
    let year = appended before _ _ _ _ (rw date.year at c.push_four_digits.ensures.text) c.push_text.ensures.text in
    let month = appended before _ _ _ _ year (rw date.month at c.push_two_digits.ensures.text) in
    let mark = appended before _ _ _ _ month c.push_text-2.ensures.text in
    appended before _ _ _ _ mark (rw date.day at c.push_two_digits-2.ensures.text)
