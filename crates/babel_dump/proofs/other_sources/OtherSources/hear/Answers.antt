use Rattle.std.proofs.Common.{subst, sym, ◌∙◌}
use Rattle.babel_dump.specs.EventsRun.{without_pair}
use Rattle.babel_dump.specs.Followed.{HearsRecord, RefusesUnheard}
use Rattle.babel_dump.proofs.EventCauses.{err_exit}
use Rattle.babel_dump.proofs.HeardOthers.{others_more}
use Rattle.babel_dump.proofs.other_sources.OtherSources.hear.Goals as goal

pub returns-clause-heard : goal.returns-clause-heard
returns-clause-heard c made one told moment was =
    let old = c.args.self.now in
    let hears = c.in_ok-hear_said.ensures.heard (without_pair c.args.events.now) c.via_v6-via_v6.ensures.value was.suits one told in
    others_more c.args.events.now made one old c.keep.new.self c.hear_said.new.told.items c.args.since.now.moment was
    (subst (λ teller. HearsRecord (without_pair c.args.events.now) one old.teller teller c.hear_said.new.told.items) (sym c.keep.ensures.same.0) hears)
    (λ none. c.hear_said.ensures.untimed (told.time ∙ none)) moment c.keep.ensures.same.1 c.in_ok-keep.ensures.held

pub returns-in_err-keep-clause-refused : goal.returns-in_err-keep-clause-refused
returns-in_err-keep-clause-refused c suits =
    err_exit c.from_residual-in_err-keep.result c.from_residual-in_err-keep.ensures.1 (λ why memory. subst (RefusesUnheard (without_pair c.args.events.now) c.args.said.now c.args.self.now.teller) (sym memory) tt)
