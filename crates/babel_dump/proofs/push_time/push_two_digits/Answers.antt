use Rattle.babel_dump.proofs.TextLemmas.{appended}
use Rattle.babel_dump.proofs.push_time.push_two_digits.Goals as goal

pub returns-clause-text : goal.returns-clause-text
returns-clause-text c =
    let before = c.args.buffer.now.items in
    appended before _ _ _ _ (rw c.digit.ensures at c.push_octet.ensures.text) (rw c.digit-2.ensures at c.push_octet-2.ensures.text)
