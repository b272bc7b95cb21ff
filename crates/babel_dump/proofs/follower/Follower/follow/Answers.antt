-- A record is heard as it is; one of a sender that is not followed, as one of nobody.
use Rattle.std.proofs.Common.{◌++◌, true, false, sym, ap, subst, ◌∙◌}
use Rattle.std.proofs.lemmas.Result.{on_ok_weaker}
use Rattle.babel_capture.specs.declared.sink.Record.{Record}
use Rattle.babel_capture.specs.declared.sink.Said.TheVariants as saids
use Rattle.babel_dump.specs.Followed.{HearsOthers, HearsTold, Stops}
use Rattle.babel_dump.specs.FollowedSenders.{Senders, is_followed, with_followed}
use Rattle.babel_dump.specs.declared.events_job.Events.{Events}
use Rattle.babel_dump.specs.declared.stop.Stop.TheVariants as stops
use Rattle.babel_dump.proofs.EventCauses.{err_exit, if_err_so}
use Rattle.babel_dump.proofs.EventsFollowed.{both_ok}
use Rattle.babel_dump.proofs.FollowedLaws.{heard_followed, told_nothing}
use Rattle.babel_dump.proofs.RefusedRecords.{stops_followed}
use Rattle.babel_dump.proofs.follower.Follower.follow.Goals as goal

pub returns-then-branch-clause-heard : goal.returns-then-branch-clause-heard
returns-then-branch-clause-heard c =
    let old = c.args.self.now in
    let mid = c.follows.new.self in
    let new = c.hear_all.new.self in
    let told = c.args.told.now in
    let same = c.follows.ensures.same in
    on_ok_weaker c.hear_all.result (λ both made one before is was.
    let follows = c.in_ok-follows.ensures.follows one is in
    heard_followed old.events.now told told made one before old mid new true
    (sym c.if-branch.true ∙ follows.0 ∙ ap (λ (s : Senders). is_followed s one.what) was.0) is
    (follows.1 ∙ ap (λ (s : Senders). with_followed s one.what) was.0) c.hear_all.ensures.senders same.1 same.2
    (subst (λ (e : Events). HearsTold e told mid new) same.0 both.0) was.1 c.follows.ensures.others
    (subst (λ (e : Events). HearsOthers e told new.hearing.since.moment mid.other_sources new.other_sources) same.0 both.1) was.2) (both_ok _ _ c.hear_all.result c.hear_all.ensures.heard c.hear_all.ensures.others)

pub returns-clause-heard : goal.returns-clause-heard
returns-clause-heard c =
    let old = c.args.self.now in
    let mid = c.follows.new.self in
    let new = c.hear_all-2.new.self in
    let told = c.args.told.now in
    let front : Record = record { number = told.number; time = told.time; said = saids.Nothing } in
    let same = c.follows.ensures.same in
    on_ok_weaker c.hear_all-2.result (λ both made one before is was.
    let follows = c.in_ok-follows.ensures.follows one is in
    heard_followed old.events.now told front made one before old mid new false
    (sym c.if-branch.false ∙ follows.0 ∙ ap (λ (s : Senders). is_followed s one.what) was.0) (told_nothing told one is)
    (follows.1 ∙ ap (λ (s : Senders). with_followed s one.what) was.0) c.hear_all-2.ensures.senders same.1 same.2
    (subst (λ (e : Events). HearsTold e front mid new) same.0 both.0) was.1 c.follows.ensures.others
    (subst (λ (e : Events). HearsOthers e front new.hearing.since.moment mid.other_sources new.other_sources) same.0 both.1) was.2) (both_ok _ _ c.hear_all-2.result c.hear_all-2.ensures.heard c.hear_all-2.ensures.others)

pub returns-in_err-follows-clause-stops : goal.returns-in_err-follows-clause-stops
returns-in_err-follows-clause-stops c =
    err_exit c.from_residual.result c.from_residual.ensures.1 (λ stop same made one before is was not_memory. absurd (not_memory (same ∙ ap stops.Unheard c.in_err-follows.ensures.memory)))

pub returns-then-branch-clause-stops : goal.returns-then-branch-clause-stops
returns-then-branch-clause-stops c =
    let old = c.args.self.now in
    let mid = c.follows.new.self in
    let new = c.hear_all.new.self in
    let told = c.args.told.now in
    let same = c.follows.ensures.same in
    if_err_so c.hear_all.result (λ stop stops made one before is was.
    let follows = c.in_ok-follows.ensures.follows one is in
    stops_followed old.events.now told made one (before ++ old.told.items) old mid new true
    (sym c.if-branch.true ∙ follows.0 ∙ ap (λ (s : Senders). is_followed s one.what) was.0) is same.1 was.1 c.follows.ensures.others was.2 stop
    (subst (λ (e : Events). Stops e told mid new stop) same.0 stops)) c.hear_all.ensures.stops

pub returns-clause-stops : goal.returns-clause-stops
returns-clause-stops c =
    let old = c.args.self.now in
    let mid = c.follows.new.self in
    let new = c.hear_all-2.new.self in
    let told = c.args.told.now in
    let front : Record = record { number = told.number; time = told.time; said = saids.Nothing } in
    let same = c.follows.ensures.same in
    if_err_so c.hear_all-2.result (λ stop stops made one before is was.
    let follows = c.in_ok-follows.ensures.follows one is in
    stops_followed old.events.now front made one (before ++ old.told.items) old mid new false
    (sym c.if-branch.false ∙ follows.0 ∙ ap (λ (s : Senders). is_followed s one.what) was.0) (told_nothing told one is) same.1 was.1 c.follows.ensures.others was.2 stop
    (subst (λ (e : Events). Stops e front mid new stop) same.0 stops)) c.hear_all-2.ensures.stops
