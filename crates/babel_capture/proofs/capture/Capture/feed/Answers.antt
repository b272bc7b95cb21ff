use Rattle.std.proofs.Common.{◌≡◌, ◌≢◌, ◌++◌, ℕ, List, [], ap, refl, sym, subst, ◌∙◌}
use Rattle.std.specs.Prelude.{◌⊎◌, Some}
use Rattle.babel_capture.specs.declared.fault.Fault.TheVariants as faults
use Rattle.babel_capture.specs.Capture.{CaptureFault, HasRead, State}
use Rattle.babel_capture.specs.contracts.capture.Capture.{the_view}
use Rattle.babel_capture.specs.Reading.{NeedsMemory}
use Rattle.babel_capture.specs.Sinking.{Sinks, StopMore}
use Rattle.babel_capture.proofs.StreamLaws.{read-more, stays-read, failed-fault, failed-next, needs-fed}
use Rattle.babel_capture.proofs.capture.Capture.feed.Goals as goal

pub returns-in-Some-clause-fed : goal.returns-in-Some-clause-fed
returns-in-Some-clause-fed g c fed = stays-read c.args.self.now c.in-Some.fault fed c.args.piece.now (ap (λ (s : State). s.fault) (sym c.self.view_is) ∙ c.in-Some.is)

pub returns-in-Some-clause-fault : goal.returns-in-Some-clause-fault
returns-in-Some-clause-fault g c not fed more read =
    let is = ap (λ (s : State). s.fault) (sym c.self.view_is) ∙ c.in-Some.is in
    let both = stays-read c.args.self.now c.in-Some.fault fed c.args.piece.now is read in
    failed-fault c.args.self.now c.in-Some.fault ((fed ++ c.args.piece.now) ++ more) is not (stays-read c.args.self.now c.in-Some.fault (fed ++ c.args.piece.now) more is both)

pub returns-in-Err-clause-fault : goal.returns-in-Err-clause-fault
returns-in-Err-clause-fault g c =
    subst (λ (s : State). c.in-Err.fault ≢ faults.Memory → (fed more : List ℕ) → HasRead s fed → CaptureFault s.limit s.progress.gathering.wanted ((fed ++ c.args.piece.now) ++ more) c.in-Err.fault)
    c.self.view_is
    (failed-next (the_view c.self.inside) c.in-Err.fault c.args.piece.now c.in_default.is c.in-Err.ensures.err)

pub returns-in-Err-clause-memory : goal.returns-in-Err-clause-memory
returns-in-Err-clause-memory g c =
    subst (λ (s : State). c.in-Err.fault ≡ faults.Memory
    → (s.fault ≡ Some faults.Memory) ⊎ (s.pending ≢ []) ⊎ ((fed : List ℕ) → HasRead s fed → NeedsMemory s.limit s.progress.gathering.wanted fed c.args.piece.now)) c.self.view_is
    (needs-fed (the_view c.self.inside) c.in-Err.fault c.args.piece.now c.in_default.is c.in-Err.ensures.memory)

pub returns-in-Ok-clause-fed : goal.returns-in-Ok-clause-fed
returns-in-Ok-clause-fed g c fed =
    let old = the_view c.self.inside in
    let new = the_view (record { limit = c.self.inside.limit; window = c.self.inside.window; to_cut = c.self.inside.to_cut; stream = c.take.new.self; fault = c.self.inside.fault }) in
    subst (λ (s : State). HasRead s fed → HasRead new (fed ++ c.args.piece.now)) c.self.view_is
    (read-more g.S.Sink.has c.args.sink.now c.take.new.sink old new c.args.piece.now c.in_default.is c.in_default.is refl c.in-Ok.ensures.ok fed)

pub returns-in-Err-clause-stopped : goal.returns-in-Err-clause-stopped
returns-in-Err-clause-stopped g c none =
    subst (λ (s : State). Sinks g.S.Sink.has c.args.sink.now c.take.new.sink (StopMore s.progress s.pending c.args.piece.now)) c.self.view_is c.in-Err.ensures.stopped
