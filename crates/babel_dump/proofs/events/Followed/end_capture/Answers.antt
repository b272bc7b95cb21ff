-- What is seen at the end of a capture was heard.
use Rattle.std.proofs.Common.{◌≡◌, Ok, Some, rules, ap, refl, sym, ◌∙◌}
use Rattle.babel_capture.specs.declared.fault.Fault.TheVariants as capture_faults
use Rattle.babel_dump.specs.EventsCause.{RefusesToEnd, RefusesWhole}
use Rattle.babel_dump.specs.declared.input_fault.InputFault.TheVariants as input_faults
use Rattle.babel_dump.proofs.EventCauses.{cut_refused, err_exit, if_ok_at, of_fault, of_stop, record_at_end, whole_refused}
use Rattle.babel_dump.proofs.TakeLaws.{followed_to_end}
use Rattle.babel_dump.proofs.events.Followed.end_capture.Goals as goal

pub returns-in_err-fault-clause-cause : goal.returns-in_err-fault-clause-cause
returns-in_err-fault-clause-cause g c =
    err_exit c.from_residual.result c.from_residual.ensures.1 (λ trouble same fed told is.
    let some = c.in_err-fault.ensures.some in
    of_stop c.args.events.now (RefusesWhole c.args.events.now fed) ⊥ ⊥ ⊥ (RefusesToEnd c.args.events.now fed) some.0 trouble (same ∙ some.2)
    (λ not_memory. record_at_end c.args.events.now fed told c.args.self.now is c.end-end.new.sink some.0
    (sym c.say.ensures.same.3 ∙ some.1) not_memory c.end-end.new.self c.end-end.result c.end-end.ensures.sunk (c.end-end.ensures.stopped is.no_fault) c.end-end.ensures.wanted))

pub returns-in-Ok-Some-clause-cause : goal.returns-in-Ok-Some-clause-cause
returns-in-Ok-Some-clause-cause g c fed told is =
    let at_cut : c.end-end.result ≡ Ok (Some c.in-Ok-Some.at) = search rules in
    of_fault c.args.events.now (RefusesWhole c.args.events.now fed) ⊥ ⊥ ⊥ (RefusesToEnd c.args.events.now fed) (input_faults.Capture (capture_faults.CutShort c.in-Ok-Some.at)) c.of_capture.result c.of_capture.ensures
    (λ not_memory. cut_refused c.args.events.now fed told c.args.self.now c.end-end.new.self c.in-Ok-Some.at is (if_ok_at _ c.end-end.result (Some c.in-Ok-Some.at) at_cut c.end-end.ensures.ok) c.end-end.ensures.wanted (search rules))

pub returns-in-Ok-clause-ended : goal.returns-in-Ok-clause-ended
returns-in-Ok-clause-ended g c fed told is =
    let said = c.say.ensures.same in
    followed_to_end c.args.events.now fed told c.args.self.now c.in-Ok.cut is c.end-end.new.self c.end-end.new.sink _ refl said.1 (ap (λ t. t.items) said.2) c.say.ensures.senders c.say.ensures.others c.in-Ok.ensures.sunk
    (sym said.3 ∙ c.in_ok-fault.ensures.none) (search rules) c.end-end.ensures.same.0 c.end-end.ensures.same.1 c.end-end.ensures.wanted

pub returns-in-Err-clause-cause : goal.returns-in-Err-clause-cause
returns-in-Err-clause-cause g c fed told is =
    of_fault c.args.events.now (RefusesWhole c.args.events.now fed) ⊥ ⊥ ⊥ (RefusesToEnd c.args.events.now fed) (input_faults.Capture c.in-Err.fault) c.of_capture-in-Err.result c.of_capture-in-Err.ensures
    (λ not_memory. whole_refused c.args.events.now fed told c.args.self.now c.in-Err.fault is not_memory (c.in-Err.ensures.not_cut is.no_fault) c.in-Err.ensures.fault)
