use Rattle.babel_dump.proofs.TextLemmas.{appended}
use Rattle.babel_dump.proofs.push.push_sender_end.Goals as goal

pub returns-clause-text : goal.returns-clause-text
returns-clause-text c =
    let before = c.args.buffer.now.items in
    let vlans = appended before _ _ _ _ c.push_link.ensures.text (rw c.numbers.ensures at c.push_marked.ensures.text) in
    let packets = appended before _ _ _ _ (appended before _ _ _ _ vlans c.push_text.ensures.text) c.push_decimal.ensures.text in
    let octets = appended before _ _ _ _ (appended before _ _ _ _ packets c.push_text-2.ensures.text) c.push_decimal-2.ensures.text in
    let updates = appended before _ _ _ _ (appended before _ _ _ _ octets c.push_text-3.ensures.text) c.push_decimal-3.ensures.text in
    let interval = appended before _ _ _ _ (appended before _ _ _ _ updates c.push_text-4.ensures.text) c.push_interval.ensures.text in
    let first = appended before _ _ _ _ (appended before _ _ _ _ interval c.push_text-5.ensures.text) c.push_time_or.ensures.text in
    let last = appended before _ _ _ _ (appended before _ _ _ _ first c.push_text-6.ensures.text) c.push_time_or-2.ensures.text in
    let trailers = appended before _ _ _ _ (appended before _ _ _ _ last c.push_text-7.ensures.text) c.push_decimal-4.ensures.text in
    appended before _ _ _ _ trailers c.push_octet.ensures.text
