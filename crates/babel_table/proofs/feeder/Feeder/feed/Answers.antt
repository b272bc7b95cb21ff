-- A fault stays; without one, the stream takes the octets or stops within them.
use Rattle.std.proofs.Common.{◌≡◌, ◌≢◌, ◌++◌, ℕ, List, Some, arith, refl, sym, ap, subst, ◌∙◌}
use Rattle.babel_tlv.specs.declared.fault.Fault.TheVariants as faults
use Rattle.babel_tlv.specs.declared.start.Start.{Start}
use Rattle.babel_table.specs.Bounds.{start_of}
use Rattle.babel_table.specs.DumpFault.{DumpFault, MayGoOn}
use Rattle.babel_table.specs.Feeding.{Progress, HasRead, NeedsMemory, TookPackets}
use Rattle.babel_table.specs.contracts.feeder.Feeder.{the_view}
use Rattle.babel_table.proofs.FeedLaws.{stays-read, stays-failed, failed-fault, failed-memory, started, taken-next, taken-read, failed-next, stops-failed, stops-within, may_go_on-next}
use Rattle.babel_table.proofs.feeder.Feeder.feed.Goals as goal

pub returns-in-Some-clause-fed : goal.returns-in-Some-clause-fed
returns-in-Some-clause-fed c =
    let failed = ap (λ (p : Progress). p.fault) (sym c.self.view_is) ∙ c.in-Some.is in
    λ fed read. stays-read c.args.self.now c.args.piece.now fed c.in-Some.fault failed read

pub returns-in-Some-clause-fault : goal.returns-in-Some-clause-fault
returns-in-Some-clause-fault c =
    let failed = ap (λ (p : Progress). p.fault) (sym c.self.view_is) ∙ c.in-Some.is in
    λ not fed more read. failed-fault c.args.self.now (fed ++ c.args.piece.now) c.in-Some.fault (stays-failed c.args.self.now c.args.piece.now fed c.in-Some.fault failed read) not more

pub returns-in-Some-clause-memory : goal.returns-in-Some-clause-memory
returns-in-Some-clause-memory c =
    let failed = ap (λ (p : Progress). p.fault) (sym c.self.view_is) ∙ c.in-Some.is in
    λ memory fed read. failed-memory c.args.self.now (fed ++ c.args.piece.now) c.in-Some.fault (stays-failed c.args.self.now c.args.piece.now fed c.in-Some.fault failed read) memory

pub returns-in-Ok-clause-fed : goal.returns-in-Ok-clause-fed
returns-in-Ok-clause-fed c =
    let old = the_view c.self.inside in
    let new = the_view (record { alloc = c.self.inside.alloc; limits = c.self.inside.limits; stream = c.take_within.new.self; fault = c.self.inside.fault }) in
    let took = subst (λ (s : Start). TookPackets old.mode old.limits.entries s old.at (old.pending ++ c.args.piece.now) old.table new.table new.pending new.at)
    (started c.self.inside.stream.start c.self.inside.limits c.self.invariant.1)
    (subst (λ (n : ℕ). TookPackets old.mode n c.self.inside.stream.start old.at (old.pending ++ c.args.piece.now) old.table new.table new.pending new.at) c.self.invariant.0 c.in-Ok.ensures.took) in
    subst (λ (p : Progress). (fed : List ℕ) → HasRead p fed → HasRead new (fed ++ c.args.piece.now)) c.self.view_is
    (λ fed read. taken-read new (fed ++ c.args.piece.now) c.in_default.is
    (taken-next old new refl c.take_within.ensures.settings.0 (ap (λ (s : Start). s.sender) c.take_within.ensures.settings.2) c.args.piece.now fed c.in_default.is
    (omega (arith, c.bytes.ensures.value, c.in-Ok.ensures.ready.in_limit)) took c.in-Ok.ensures.ready.partial read))

pub returns-in-Ok-clause-ok : goal.returns-in-Ok-clause-ok
returns-in-Ok-clause-ok c =
    let old = the_view c.self.inside in
    let new = the_view (record { alloc = c.self.inside.alloc; limits = c.self.inside.limits; stream = c.take_within.new.self; fault = c.self.inside.fault }) in
    let took = subst (λ (s : Start). TookPackets old.mode old.limits.entries s old.at (old.pending ++ c.args.piece.now) old.table new.table new.pending new.at)
    (started c.self.inside.stream.start c.self.inside.limits c.self.invariant.1)
    (subst (λ (n : ℕ). TookPackets old.mode n c.self.inside.stream.start old.at (old.pending ++ c.args.piece.now) old.table new.table new.pending new.at) c.self.invariant.0 c.in-Ok.ensures.took) in (
      ap (λ (p : Progress). p.fault) (sym c.self.view_is) ∙ c.in_default.is,
      c.in_default.is,
      subst (λ (p : Progress). (fed : List ℕ) → HasRead p fed → MayGoOn p.limits p.mode p.sender (fed ++ c.args.piece.now)) c.self.view_is
          (λ fed read. may_go_on-next old new refl c.take_within.ensures.settings.0 (ap (λ (s : Start). s.sender) c.take_within.ensures.settings.2) (fed ++ c.args.piece.now)
          (taken-next old new refl c.take_within.ensures.settings.0 (ap (λ (s : Start). s.sender) c.take_within.ensures.settings.2) c.args.piece.now fed c.in_default.is
          (omega (arith, c.bytes.ensures.value, c.in-Ok.ensures.ready.in_limit)) took c.in-Ok.ensures.ready.partial read)),
    )

pub returns-in-Err-clause-fed : goal.returns-in-Err-clause-fed
returns-in-Err-clause-fed c =
    let old = the_view c.self.inside in
    let new = the_view (record { alloc = c.self.inside.alloc; limits = c.self.inside.limits; stream = c.take_within.new.self; fault = Some c.in-Err.fault }) in
    let stops = stops-within old.limits.bytes c.bytes.result old.mode old.limits.entries c.self.inside.stream.so_far.rows.entries
    (start_of old.limits old.sender) c.self.inside.stream.start old.at
    old.pending c.args.piece.now old.table c.in-Err.fault c.bytes.ensures.value c.self.invariant.0
    (started c.self.inside.stream.start c.self.inside.limits c.self.invariant.1) c.in-Err.ensures.stops in
    subst (λ (p : Progress). (fed : List ℕ) → HasRead p fed → HasRead new (fed ++ c.args.piece.now)) c.self.view_is
    (λ fed read. failed-next old new refl c.take_within.ensures.settings.0 (ap (λ (s : Start). s.sender) c.take_within.ensures.settings.2) (fed ++ c.args.piece.now) c.in-Err.fault
    (stops-failed old c.args.piece.now fed c.in-Err.fault c.in_default.is stops read))

pub returns-in-Err-clause-fault : goal.returns-in-Err-clause-fault
returns-in-Err-clause-fault c =
    let old = the_view c.self.inside in
    let stops = stops-within old.limits.bytes c.bytes.result old.mode old.limits.entries c.self.inside.stream.so_far.rows.entries
    (start_of old.limits old.sender) c.self.inside.stream.start old.at
    old.pending c.args.piece.now old.table c.in-Err.fault c.bytes.ensures.value c.self.invariant.0
    (started c.self.inside.stream.start c.self.inside.limits c.self.invariant.1) c.in-Err.ensures.stops in
    subst (λ (p : Progress). c.in-Err.fault ≢ faults.Memory → (fed more : List ℕ) → HasRead p fed
    → DumpFault p.limits p.mode p.sender ((fed ++ c.args.piece.now) ++ more) c.in-Err.fault) c.self.view_is
    (λ not fed more read. failed-fault old (fed ++ c.args.piece.now) c.in-Err.fault (stops-failed old c.args.piece.now fed c.in-Err.fault c.in_default.is stops read) not more)

pub returns-in-Err-clause-memory : goal.returns-in-Err-clause-memory
returns-in-Err-clause-memory c =
    let old = the_view c.self.inside in
    let stops = stops-within old.limits.bytes c.bytes.result old.mode old.limits.entries c.self.inside.stream.so_far.rows.entries
    (start_of old.limits old.sender) c.self.inside.stream.start old.at
    old.pending c.args.piece.now old.table c.in-Err.fault c.bytes.ensures.value c.self.invariant.0
    (started c.self.inside.stream.start c.self.inside.limits c.self.invariant.1) c.in-Err.ensures.stops in
    subst (λ (p : Progress). c.in-Err.fault ≡ faults.Memory → (fed : List ℕ) → HasRead p fed → NeedsMemory p.mode (start_of p.limits p.sender) (fed ++ c.args.piece.now)) c.self.view_is
    (λ memory fed read. failed-memory old (fed ++ c.args.piece.now) c.in-Err.fault (stops-failed old c.args.piece.now fed c.in-Err.fault c.in_default.is stops read) memory)
