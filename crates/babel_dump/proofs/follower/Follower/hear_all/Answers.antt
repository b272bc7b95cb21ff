use Rattle.std.proofs.Common.{subst, sym}
use Rattle.babel_dump.specs.Followed.{HearsOthers, RefusesOthers, Stops}
use Rattle.babel_dump.specs.declared.events_job.Events.{Events}
use Rattle.babel_dump.specs.declared.hearing.Hearing.{Hearing}
use Rattle.babel_dump.proofs.EventCauses.{err_exit}
use Rattle.babel_dump.proofs.RefusedRecords.{stops_by, stops_others}
-- The routes for other sources have no say in what is told.
use Rattle.babel_dump.proofs.follower.Follower.hear_all.Goals as goal

pub returns-clause-heard : goal.returns-clause-heard
returns-clause-heard c made one before is was =
    let same = c.hear_others.ensures.same in
    rw (same.1, same.2) (c.in_ok-hear.ensures.heard made one before is was)

pub returns-clause-others : goal.returns-clause-others
returns-clause-others c =
    let old = c.args.self.now in
    let mid = c.hear.new.self in
    let new = c.hear_others.new.self in
    subst (λ (e : Events). HearsOthers e c.args.told.now new.hearing.since.moment old.other_sources new.other_sources) c.hear.ensures.same.0
    (subst (λ (h : Hearing). HearsOthers mid.events.now c.args.told.now h.since.moment old.other_sources new.other_sources) (sym c.hear_others.ensures.same.1)
    (subst (λ others. HearsOthers mid.events.now c.args.told.now mid.hearing.since.moment others new.other_sources) c.hear.ensures.others c.in_ok-hear_others.ensures.others))

pub returns-in_err-hear-clause-stops : goal.returns-in_err-hear-clause-stops
returns-in_err-hear-clause-stops c =
    err_exit c.from_residual.result c.from_residual.ensures.1 (λ stop same. subst (Stops c.args.self.now.events.now c.args.told.now c.args.self.now c.hear.new.self) (sym same)
    (stops_by c.args.self.now.events.now c.args.told.now c.args.self.now c.hear.new.self _ c.in_err-hear.ensures.refused c.in_err-hear.ensures.usually))

pub returns-in_err-hear_others-clause-stops : goal.returns-in_err-hear_others-clause-stops
returns-in_err-hear_others-clause-stops c =
    let old = c.args.self.now in
    let mid = c.hear.new.self in
    let why = c.in_err-hear_others.field-0.0 in
    err_exit c.from_residual-in_err-hear_others.result c.from_residual-in_err-hear_others.ensures.1 (λ stop is.
    stops_others old.events.now c.args.told.now old c.hear_others.new.self why
    (subst (λ (e : Events). RefusesOthers e c.args.told.now old.other_sources why) c.hear.ensures.same.0
    (subst (λ others. RefusesOthers mid.events.now c.args.told.now others why) c.hear.ensures.others c.in_err-hear_others.ensures.refused)) stop is)
