use Rattle.babel_dump.proofs.TextLemmas.{appended}
use Rattle.babel_dump.proofs.push_time.push_clock.Goals as goal

pub returns-clause-text : goal.returns-clause-text
returns-clause-text c =
    let before = c.args.buffer.now.items in
    let hour = appended before _ _ _ _ c.push_two_digits.ensures.text c.push_text.ensures.text in
    let minute = appended before _ _ _ _ (appended before _ _ _ _ hour c.push_two_digits-2.ensures.text) c.push_text-2.ensures.text in
    let second = appended before _ _ _ _ (appended before _ _ _ _ minute c.push_two_digits-3.ensures.text) c.push_text-3.ensures.text in
    appended before _ _ _ _ second c.push_nine_digits.ensures.text
