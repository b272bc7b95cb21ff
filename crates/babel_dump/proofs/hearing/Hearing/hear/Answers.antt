use Rattle.std.proofs.lemmas.Result.{on_ok_weaker}
use Rattle.babel_capture.specs.Counts.{Made}
use Rattle.babel_capture.specs.Sinking.{IsTold}
use Rattle.babel_dump.specs.Followed.{HearsRecord, Suits}
use Rattle.babel_dump.proofs.EventsFollowed.{under}
use Rattle.babel_dump.proofs.hearing.Hearing.hear.Goals as goal

pub returns-clause-heard : goal.returns-clause-heard
returns-clause-heard c =
    let events = c.args.events.now in
    let teller = c.args.self.now.teller in
    on_ok_weaker c.hear_said.result (λ hears one suits told. hears suits one told)
    (under (Suits events teller) ((one : Made) → IsTold one c.args.said.now → HearsRecord events one teller c.hear_said.new.teller c.hear_said.new.told.items) c.hear_said.result
    (c.hear_said.ensures.heard events c.via_v6.ensures.value))

pub returns-clause-refused : goal.returns-clause-refused
returns-clause-refused c suits = c.hear_said.ensures.refused c.args.events.now c.via_v6.ensures.value suits
