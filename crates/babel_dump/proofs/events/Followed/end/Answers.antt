use Rattle.std.proofs.Common.{◌≡◌, ◌<◌, true, [], ap, inr, rules, subst, sym, ◌∙◌}
use Rattle.babel_capture.specs.Counts.{Counts}
use Rattle.babel_capture.specs.Capture.{State, moment_read}
use Rattle.babel_dump.specs.EventsRun.{AreReadWhole, NotesSome, heard_status}
use Rattle.babel_dump.specs.Followed.{KnowsOthers}
use Rattle.babel_dump.specs.declared.hearing.Hearing.{Hearing}
use Rattle.babel_dump.specs.Run.{output}
use Rattle.babel_dump.specs.declared.outcome.Outcome.{Outcome}
use Rattle.babel_dump.specs.declared.outcome.Reports.TheVariants as reports
use Rattle.babel_dump.specs.declared.trouble.Trouble.{Trouble}
use Rattle.babel_dump.specs.EventsCause.{HasNobody, HasUnread, IsUnreadIn, RefusesToEnd, RefusesWhole}
use Rattle.babel_dump.proofs.EventCauses.{err_exit, fails_so, has_nobody, has_unread, of_memory, of_unread}
use Rattle.babel_dump.proofs.StartLaws.{on_err_so}
use Rattle.babel_dump.proofs.StartRuns.{start_at_last, start_of_all, wrote_nothing, wrote_some}
use Rattle.babel_dump.proofs.TakeLaws.{ending}
use Rattle.babel_dump.proofs.events.Followed.end.Goals as goal

pub returns-clause-ends : goal.returns-clause-ends
returns-clause-ends g c fed told is =
    let outcome_of : Counts → Outcome = λ report. record { status = c.in_ok-status.status; reports = reports.Capture report c.in_ok-cut.cut } in
    let report : c.report-report.result ≡ c.end_capture.new.self.capture.progress.gathering.report = search rules in
    let ended = c.in_ok-cut.ensures.ended fed told is in
    ending c.args.events.now fed told (output (g.W.ByteOut.state c.args.writer.now) (g.W.ByteOut.state c.write.new.writer)) c.end_capture.new.self c.expire.new.self c.in_ok-status.status c.in_ok-cut.cut
    (record { outcome = outcome_of c.report-report.result; senders = c.in_ok-senders.senders; not_followed = c.not_followed.result; other_sources = c.in_ok-other_sources.other_sources }) ended (c.in_ok-expire.ensures.ends ended.has_heard.1.suits)
    c.in_ok-write.ensures.lines (c.in_ok-status.ensures.status ∙ ap heard_status c.deref.ensures.value) (ap outcome_of report) c.in_ok-senders.ensures
    (λ strict. subst (λ (r : Counts). AreReadWhole r c.in_ok-senders.senders.items) report (rw (← c.deref-2.ensures.value) (c.in_ok-refuse_senders.ensures.whole strict)))
    (λ made moment knows.
    subst (λ (k : State). NotesSome c.args.events.now (moment_read k) made c.in_ok-other_sources.other_sources) (c.write.ensures.same.0 ∙ c.expire.ensures.same.0)
    (c.in_ok-other_sources.ensures c.args.events.now made (ap (λ (h : Hearing). h.since.moment) c.write.ensures.same.2 ∙ moment)
    (subst (KnowsOthers c.args.events.now made) (sym (c.write.ensures.others ∙ c.expire.ensures.others)) knows)))

pub returns-in_err-cut-clause-cause : goal.returns-in_err-cut-clause-cause
returns-in_err-cut-clause-cause g c =
    err_exit c.from_residual.result c.from_residual.ensures.1 (λ trouble same fed told is.
    fails_so c.args.events.now (RefusesWhole c.args.events.now fed) (RefusesWhole c.args.events.now fed) ⊥ (HasNobody c.args.events.now fed) ⊥ ⊥ ⊥ ((g.W.ByteOut.state c.args.writer.now).failures < (g.W.ByteOut.state c.args.writer.now).failures) (RefusesToEnd c.args.events.now fed) (HasUnread c.args.events.now fed) (λ fault refused. refused) (λ none. absurd none) (λ none. none) (λ none. absurd none) (λ told refused. inr refused) trouble (rw same (c.in_err-cut.ensures.cause fed told is)))

pub returns-in_err-status-clause-cause : goal.returns-in_err-status-clause-cause
returns-in_err-status-clause-cause g c =
    err_exit c.from_residual-in_err-status.result c.from_residual-in_err-status.ensures.1 (λ trouble same fed told is.
    fails_so c.args.events.now (λ _. ⊥) (RefusesWhole c.args.events.now fed) (c.deref.result.now ≡ []) (HasNobody c.args.events.now fed) ⊥ ⊥ ⊥ ((g.W.ByteOut.state c.args.writer.now).failures < (g.W.ByteOut.state c.args.writer.now).failures) (λ _. ⊥) (HasUnread c.args.events.now fed) (λ fault none. absurd none)
    (λ none. has_nobody c.args.events.now fed told c.in_ok-cut.cut c.end_capture.new.self (c.in_ok-cut.ensures.ended fed told is) c.in_ok-senders.senders.items c.in_ok-senders.ensures (sym c.deref.ensures.value ∙ none)) (λ none. none) (λ none. absurd none) (λ told none. absurd none) trouble
    (rw same c.in_err-status.ensures.cause))

pub returns-in_err-senders-clause-cause : goal.returns-in_err-senders-clause-cause
returns-in_err-senders-clause-cause g c =
    err_exit c.from_residual-in_err-senders.result c.from_residual-in_err-senders.ensures.1 (λ trouble memory fed told is. of_memory c.args.events.now (RefusesWhole c.args.events.now fed) (HasNobody c.args.events.now fed) ⊥ ((g.W.ByteOut.state c.args.writer.now).failures < (g.W.ByteOut.state c.args.writer.now).failures) (HasUnread c.args.events.now fed) trouble memory)

pub returns-in_err-expire-clause-cause : goal.returns-in_err-expire-clause-cause
returns-in_err-expire-clause-cause g c =
    err_exit c.from_residual-in_err-expire.result c.from_residual-in_err-expire.ensures.1 (λ trouble memory fed told is. of_memory c.args.events.now (RefusesWhole c.args.events.now fed) (HasNobody c.args.events.now fed) ⊥ ((g.W.ByteOut.state c.args.writer.now).failures < (g.W.ByteOut.state c.args.writer.now).failures) (HasUnread c.args.events.now fed) trouble memory)

pub returns-in_err-write-clause-cause : goal.returns-in_err-write-clause-cause
returns-in_err-write-clause-cause g c =
    err_exit c.from_residual-in_err-write.result c.from_residual-in_err-write.ensures.1 (λ trouble same fed told is.
    fails_so c.args.events.now (λ _. ⊥) (RefusesWhole c.args.events.now fed) ⊥ (HasNobody c.args.events.now fed) ⊥ ⊥ ((g.W.ByteOut.state c.args.writer.now).failures < (g.W.ByteOut.state c.write.new.writer).failures) ((g.W.ByteOut.state c.args.writer.now).failures < (g.W.ByteOut.state c.write.new.writer).failures) (λ _. ⊥) (HasUnread c.args.events.now fed) (λ fault none. absurd none) (λ none. absurd none) (λ none. none) (λ failed. failed) (λ told none. absurd none) trouble (rw same c.in_err-write.ensures.cause))

pub returns-in_err-other_sources-clause-cause : goal.returns-in_err-other_sources-clause-cause
returns-in_err-other_sources-clause-cause g c =
    err_exit c.from_residual-in_err-other_sources.result c.from_residual-in_err-other_sources.ensures.1 (λ trouble memory fed told is. of_memory c.args.events.now (RefusesWhole c.args.events.now fed) (HasNobody c.args.events.now fed) ⊥ ((g.W.ByteOut.state c.args.writer.now).failures < (g.W.ByteOut.state c.write.new.writer).failures) (HasUnread c.args.events.now fed) trouble memory)

pub returns-in_err-refuse_senders-clause-cause : goal.returns-in_err-refuse_senders-clause-cause
returns-in_err-refuse_senders-clause-cause g c =
    let report : c.report-report.result ≡ c.end_capture.new.self.capture.progress.gathering.report = search rules in
    err_exit c.from_residual-in_err-refuse_senders.result c.from_residual-in_err-refuse_senders.ensures.1 (λ trouble same fed told is.
    let unread = subst (λ (t : Trouble). (c.args.events.now.strict ≡ true) × IsUnreadIn c.report-report.result c.deref-2.result.now t) (sym same) c.in_err-refuse_senders.ensures.unread in
    of_unread c.args.events.now (RefusesWhole c.args.events.now fed) (HasNobody c.args.events.now fed) ⊥ ((g.W.ByteOut.state c.args.writer.now).failures < (g.W.ByteOut.state c.write.new.writer).failures) (HasUnread c.args.events.now fed) c.report-report.result c.deref-2.result.now trouble unread.1
    (has_unread c.args.events.now fed told c.in_ok-cut.cut c.end_capture.new.self (c.in_ok-cut.ensures.ended fed told is) c.in_ok-senders.senders.items c.in_ok-senders.ensures trouble unread.0
    (subst (λ (r : Counts). IsUnreadIn r c.in_ok-senders.senders.items trouble) report (rw (← c.deref-2.ensures.value) unread.1))))

pub returns-in_err-cut-clause-start : goal.returns-in_err-cut-clause-start
returns-in_err-cut-clause-start g c =
    on_err_so c.from_residual.result (λ fed told is. start_of_all c.args.events.now fed told c.args.self.now is _ c.requires.told (wrote_nothing c.args.events.now (g.W.ByteOut.state c.args.writer.now)))

pub returns-in_err-senders-clause-start : goal.returns-in_err-senders-clause-start
returns-in_err-senders-clause-start g c =
    on_err_so c.from_residual-in_err-senders.result (λ fed told is. start_of_all c.args.events.now fed told c.args.self.now is _ c.requires.told (wrote_nothing c.args.events.now (g.W.ByteOut.state c.args.writer.now)))

pub returns-in_err-status-clause-start : goal.returns-in_err-status-clause-start
returns-in_err-status-clause-start g c =
    on_err_so c.from_residual-in_err-status.result (λ fed told is. start_of_all c.args.events.now fed told c.args.self.now is _ c.requires.told (wrote_nothing c.args.events.now (g.W.ByteOut.state c.args.writer.now)))

pub returns-in_err-expire-clause-start : goal.returns-in_err-expire-clause-start
returns-in_err-expire-clause-start g c =
    on_err_so c.from_residual-in_err-expire.result (λ fed told is. start_of_all c.args.events.now fed told c.args.self.now is _ c.requires.told (wrote_nothing c.args.events.now (g.W.ByteOut.state c.args.writer.now)))

pub returns-in_err-write-clause-start : goal.returns-in_err-write-clause-start
returns-in_err-write-clause-start g c =
    on_err_so c.from_residual-in_err-write.result (λ fed told is. start_at_last c.args.events.now fed told c.in_ok-cut.cut _ c.end_capture.new.self c.expire.new.self (c.in_ok-cut.ensures.ended fed told is)
    (c.in_ok-expire.ensures.ends (c.in_ok-cut.ensures.ended fed told is).has_heard.1.suits) _ c.in_err-write.ensures.some)

pub returns-in_err-refuse_senders-clause-start : goal.returns-in_err-refuse_senders-clause-start
returns-in_err-refuse_senders-clause-start g c =
    on_err_so c.from_residual-in_err-refuse_senders.result (λ fed told is. start_at_last c.args.events.now fed told c.in_ok-cut.cut _ c.end_capture.new.self c.expire.new.self (c.in_ok-cut.ensures.ended fed told is)
    (c.in_ok-expire.ensures.ends (c.in_ok-cut.ensures.ended fed told is).has_heard.1.suits) _
    (wrote_some c.args.events.now c.expire.new.self.follower.told.items _ c.in_ok-write.ensures.lines))

pub returns-in_err-other_sources-clause-start : goal.returns-in_err-other_sources-clause-start
returns-in_err-other_sources-clause-start g c =
    on_err_so c.from_residual-in_err-other_sources.result (λ fed told is. start_at_last c.args.events.now fed told c.in_ok-cut.cut _ c.end_capture.new.self c.expire.new.self (c.in_ok-cut.ensures.ended fed told is)
    (c.in_ok-expire.ensures.ends (c.in_ok-cut.ensures.ended fed told is).has_heard.1.suits) _
    (wrote_some c.args.events.now c.expire.new.self.follower.told.items _ c.in_ok-write.ensures.lines))
