-- A Router-Id and a Next Hop say what their bodies do, and an Update sets the state by its type and body.
use Rattle.std.proofs.Common.{◌≡◌, ◌∙◌, List, Result, Ok, Err, refl, ap, rules}
use Rattle.std.specs.Prelude.{OnOk}
use Rattle.babel_tlv.specs.declared.fault.Fault.{Fault}
use Rattle.babel_tlv.specs.declared.start.Start.{Start}
use Rattle.babel_tlv.specs.Context.{Context, context_after, updated}
use Rattle.babel_tlv.specs.Frames.{tlv_value}
use Rattle.babel_tlv.specs.Framing.{TlvAt}
use Rattle.babel_tlv.specs.Reading.{unplaced}
use Rattle.babel_tlv.proofs.state.State.step_into.Goals as goal

goes_on : {T : Type 0} (taken : Result T Fault) (old new : Context) (tlv : TlvAt) → tlv.kind ≡ 8 → OnOk taken (new ≡ updated old (unplaced 8 tlv.body))
    → OnOk taken ((start : Start) (earlier : List TlvAt) → old ≡ context_after start earlier → new ≡ updated (context_after start earlier) tlv)
goes_on (Ok x) old new tlv is set = λ start earlier e. set ∙ ap (λ (c : Context). updated c (unplaced 8 tlv.body)) e ∙ rw is refl
goes_on (Err fault) old new tlv is set = tt

pub returns-in-8-clause-state : goal.returns-in-8-clause-state
returns-in-8-clause-state c = goes_on c.take_update.result c.args.self.now c.take_update.new.self (tlv_value c.args.tlv.now) (search rules) c.take_update.ensures.state
