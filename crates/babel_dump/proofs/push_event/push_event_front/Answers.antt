use Rattle.babel_dump.proofs.TextLemmas.{appended}
use Rattle.babel_dump.proofs.push_event.push_event_front.Goals as goal

pub returns-clause-text : goal.returns-clause-text
returns-clause-text c =
    let before = c.args.buffer.now.items in
    let when = rw c.time_of.ensures at (rw c.new.ensures at c.push_time_or.ensures.text) in
    let sender = rw c.speaker_of-speaker.ensures at c.push_named_addr.ensures.text in
    let address = appended before _ _ _ _ (appended before _ _ _ _ when c.push_text.ensures.text) sender in
    appended before _ _ _ _ address (rw c.speaker_of-speaker.ensures at c.push_interface.ensures.text)
