-- What was fed and had no fault is read to its end.
use Rattle.std.proofs.Common.{rules, ◌≡◌, ◌≢◌, ℕ, List, Option, None, IfOk, IfErr, subst}
use Rattle.std.proofs.lemmas.Result.{IfErr-weaker, IfOk-weaker}
use Rattle.babel_capture.specs.declared.fault.Fault.{Fault}
use Rattle.babel_capture.specs.declared.fault.Fault.TheVariants as faults
use Rattle.babel_capture.specs.Capture.{CaptureFault, HasRead, HasReadTo, IsReadToCut, State}
use Rattle.babel_capture.specs.contracts.capture.Capture.{the_view}
use Rattle.babel_capture.proofs.capture.Capture.end.Goals as goal

pub returns-clause-ok : goal.returns-clause-ok
returns-clause-ok g c =
    let old = the_view c.self.inside in
    let none : old.fault ≡ None = search rules in
    subst (λ (s : State). IfOk c.end.result (λ cut. (fed : List ℕ) → HasRead s fed → IsReadToCut s.limit fed c.end.new.self.reader.gathering cut)) c.self.view_is
    (IfOk-weaker c.end.result _ _ (λ cut sunk fed read. (sunk.are_read old.limit fed (subst (λ (f : Option Fault). HasReadTo old f fed) none read)).0) c.end.ensures.ok)

pub returns-clause-fault : goal.returns-clause-fault
returns-clause-fault g c =
    let old = the_view c.self.inside in
    let none : old.fault ≡ None = search rules in
    subst (λ (s : State). IfErr c.end.result (λ fault. fault ≢ faults.Memory → (fed : List ℕ) → HasRead s fed → CaptureFault s.limit s.progress.gathering.wanted fed fault)) c.self.view_is
    (IfErr-weaker c.end.result _ _ (λ fault fails not fed read. fails old.limit fed (subst (λ (f : Option Fault). HasReadTo old f fed) none read)) c.end.ensures.fault)
