use Rattle.babel_dump.proofs.TextLemmas.{appended}
use Rattle.babel_dump.proofs.push_json.push_announcement_json.Goals as goal

pub returns-clause-text : goal.returns-clause-text
returns-clause-text c =
    let before = c.args.buffer.now.items in
    let next_hop = appended before _ _ _ _ c.push_text.ensures.text (rw c.next_hop.ensures.value at c.push_next_hop.ensures.text) in
    let id = appended before _ _ _ _ (appended before _ _ _ _ next_hop c.push_text-2.ensures.text) (rw c.router_id.ensures.value at c.push_kept_id.ensures.text) in
    let seqno = appended before _ _ _ _ (appended before _ _ _ _ id c.push_text-3.ensures.text) (rw c.seqno.ensures.value at c.push_number.ensures.text) in
    let metric = appended before _ _ _ _ (appended before _ _ _ _ seqno c.push_text-4.ensures.text) (rw c.metric.ensures.value at c.push_number-2.ensures.text) in
    appended before _ _ _ _ metric c.push_text-5.ensures.text
