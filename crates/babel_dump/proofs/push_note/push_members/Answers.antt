use Rattle.babel_dump.proofs.TextLemmas.{appended}
use Rattle.babel_dump.proofs.push_note.push_members.Goals as goal

pub returns-in-ShortSpan-clause-text : goal.returns-in-ShortSpan-clause-text
returns-in-ShortSpan-clause-text c =
    rw c.in-ShortSpan.is
    (appended c.args.buffer.now.items _ _ _ _ c.push_seconds_member.ensures.text (rw c.from.ensures at c.push_seconds_member-in-ShortSpan.ensures.text))

pub returns-in-Feasibility-clause-text : goal.returns-in-Feasibility-clause-text
returns-in-Feasibility-clause-text c =
    let first = appended c.args.buffer.now.items _ _ _ _ c.push_address.ensures.text c.push_member-in-Feasibility.ensures.text in
    rw c.in-Feasibility.is (appended c.args.buffer.now.items _ _ _ _ first c.push_member-in-Feasibility-2.ensures.text)
