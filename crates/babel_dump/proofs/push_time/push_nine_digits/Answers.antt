use Rattle.babel_dump.proofs.TextLemmas.{appended}
use Rattle.babel_dump.proofs.push_time.push_nine_digits.Goals as goal

pub returns-clause-text : goal.returns-clause-text
returns-clause-text c =
    let before = c.args.buffer.now.items in
    let to_2 = appended before _ _ _ _ (rw c.digit.ensures at c.push_octet.ensures.text) (rw c.digit-2.ensures at c.push_octet-2.ensures.text) in
    let to_3 = appended before _ _ _ _ to_2 (rw c.digit-3.ensures at c.push_octet-3.ensures.text) in
    let to_4 = appended before _ _ _ _ to_3 (rw c.digit-4.ensures at c.push_octet-4.ensures.text) in
    let to_5 = appended before _ _ _ _ to_4 (rw c.digit-5.ensures at c.push_octet-5.ensures.text) in
    let to_6 = appended before _ _ _ _ to_5 (rw c.digit-6.ensures at c.push_octet-6.ensures.text) in
    let to_7 = appended before _ _ _ _ to_6 (rw c.digit-7.ensures at c.push_octet-7.ensures.text) in
    let to_8 = appended before _ _ _ _ to_7 (rw c.digit-8.ensures at c.push_octet-8.ensures.text) in
    appended before _ _ _ _ to_8 (rw c.digit-9.ensures at c.push_octet-9.ensures.text)
