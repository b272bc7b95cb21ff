use Rattle.babel_dump.proofs.EventCauses.{err_exit}
use Rattle.babel_dump.proofs.RefusedRecords.{alone_refuses, read_refuses, told_read, told_unheard}
-- A packet of which no TLV is ignored was heard whole; of another, the TLVs before the first that is.
use Rattle.std.proofs.Common.{ap, refl, subst, ◌∙◌}
use Rattle.babel_tlv.specs.declared.start.Start.{Start}
use Rattle.babel_timeline.specs.Hearing.{octets_heard}
use Rattle.babel_dump.specs.Speakers.{speaker_cmp}
use Rattle.babel_dump.specs.StrictPackets.{IsFirstOf}
use Rattle.babel_dump.proofs.StrictHearing.{refused_told, whole_told}
use Rattle.babel_dump.specs.declared.hearing.Unheard.TheVariants as unheard
use Rattle.babel_dump.proofs.follower.Follower.hear_packet_strictly.Goals as goal

pub returns-in_ok-hear_whole-in-Ok-None-clause-whole : goal.returns-in_ok-hear_whole-in-Ok-None-clause-whole
returns-in_ok-hear_whole-in-Ok-None-clause-whole c =
    let start : Start = record { sender = c.args.packet.now.origin.sender; via_v6 = c.via_v6.result } in
    let here = c.octets-at.ensures ∙ ap (octets_heard speaker_cmp c.args.self.now.hearing.teller.heard.entries) c.speaker_at.ensures in
    whole_told c.args.self.now.events.now c.args.told.now c.args.packet.now c.args.self.now start c.octets-at.result c.requires
    (ap (λ v. record { sender = c.args.packet.now.origin.sender; via_v6 = v }) c.via_v6.ensures.value) here
    (subst (IsFirstOf start c.octets-at.result c.args.packet.now.octets.now) c.in-Ok-None.field-0-is c.in-Ok-None.ensures.first)

pub returns-in_ok-hear_front-in-Ok-Some-clause-refused : goal.returns-in_ok-hear_front-in-Ok-Some-clause-refused
returns-in_ok-hear_front-in-Ok-Some-clause-refused c =
    let start : Start = record { sender = c.args.packet.now.origin.sender; via_v6 = c.via_v6.result } in
    let here = c.octets-at.ensures ∙ ap (octets_heard speaker_cmp c.args.self.now.hearing.teller.heard.entries) c.speaker_at.ensures in
    refused_told c.args.self.now.events.now c.args.told.now c.args.packet.now c.args.self.now start c.octets-at.result c.requires
    (ap (λ v. record { sender = c.args.packet.now.origin.sender; via_v6 = v }) c.via_v6.ensures.value) here c.in-Ok-Some.unread
    (subst (IsFirstOf start c.octets-at.result c.args.packet.now.octets.now) c.in-Ok-Some.field-0-is c.in-Ok-Some.ensures.first)
    c.hear_front.new.self c.in_ok-hear_front-in-Ok-Some.ensures.heard

pub returns-in_err-hear_whole-in-Ok-None-clause-refused : goal.returns-in_err-hear_whole-in-Ok-None-clause-refused
returns-in_err-hear_whole-in-Ok-None-clause-refused c =
    err_exit c.from_residual.result c.from_residual.ensures.1 (λ stop is.
    told_unheard c.args.self.now.events.now c.args.told.now c.args.self.now c.hear_whole.new.self _ c.in_err-hear_whole-in-Ok-None.ensures.refused stop is)

pub returns-in_err-hear_front-in-Ok-Some-clause-refused : goal.returns-in_err-hear_front-in-Ok-Some-clause-refused
returns-in_err-hear_front-in-Ok-Some-clause-refused c =
    let start : Start = record { sender = c.args.packet.now.origin.sender; via_v6 = c.via_v6.result } in
    let here = c.octets-at.ensures ∙ ap (octets_heard speaker_cmp c.args.self.now.hearing.teller.heard.entries) c.speaker_at.ensures in
    err_exit c.from_residual-in_err-hear_front-in-Ok-Some.result c.from_residual-in_err-hear_front-in-Ok-Some.ensures.1 (λ stop is.
    told_read c.args.self.now.events.now c.args.told.now c.args.self.now c.hear_front.new.self c.args.packet.now c.requires _
    (λ suits. read_refuses c.args.self.now.events.now c.args.told.now c.args.packet.now c.args.self.now start c.octets-at.result
    (ap (λ v. record { sender = c.args.packet.now.origin.sender; via_v6 = v }) c.via_v6.ensures.value) here c.in-Ok-Some.unread
    (subst (IsFirstOf start c.octets-at.result c.args.packet.now.octets.now) c.in-Ok-Some.field-0-is c.in-Ok-Some.ensures.first) _ (c.in_err-hear_front-in-Ok-Some.ensures.refused suits)) stop is)

pub returns-in_err-hear_whole-in-Err-clause-refused : goal.returns-in_err-hear_whole-in-Err-clause-refused
returns-in_err-hear_whole-in-Err-clause-refused c =
    err_exit c.from_residual-in_err-hear_whole-in-Err.result c.from_residual-in_err-hear_whole-in-Err.ensures.1 (λ stop is.
    told_unheard c.args.self.now.events.now c.args.told.now c.args.self.now c.hear_whole-in-Err.new.self _ c.in_err-hear_whole-in-Err.ensures.refused stop is)

pub returns-in_ok-hear_whole-in-Err-clause-refused : goal.returns-in_ok-hear_whole-in-Err-clause-refused
returns-in_ok-hear_whole-in-Err-clause-refused c =
    let start : Start = record { sender = c.args.packet.now.origin.sender; via_v6 = c.via_v6.result } in
    let here = c.octets-at.ensures ∙ ap (octets_heard speaker_cmp c.args.self.now.hearing.teller.heard.entries) c.speaker_at.ensures in
    told_read c.args.self.now.events.now c.args.told.now c.args.self.now c.hear_whole-in-Err.new.self c.args.packet.now c.requires (unheard.Sender c.args.packet.now.origin c.in-Err.fault)
    (λ suits. alone_refuses c.args.self.now.events.now c.args.told.now c.args.packet.now c.args.self.now start c.octets-at.result
    (ap (λ v. record { sender = c.args.packet.now.origin.sender; via_v6 = v }) c.via_v6.ensures.value) here c.in-Err.fault c.in-Err.ensures.refused) _ refl
