-- A fault stays; without one, packets are taken, or one of them fails.
use Rattle.std.proofs.Common.{◌+◌, ℕ, List, ◌++◌, Some, drop, arith, refl, sym, ap, subst, ◌∙◌, length-drop}
use Rattle.std.specs.Box.{with_value}
use Rattle.babel_tlv.specs.declared.start.Start.{Start}
use Rattle.babel_table.specs.Bounds.{start_of}
use Rattle.babel_table.specs.Feeding.{HasFailed, HasRead, HasTaken, Progress, TookPackets}
use Rattle.babel_table.specs.contracts.timed_feeder.TimedFeeder.{the_view}
use Rattle.babel_table.proofs.FeedLaws.{failed-next, started, stays-read, stops-failed, stops-within, taken-next}
use Rattle.babel_table.proofs.timed_feeder.TimedFeeder.take.Goals as goal

pub returns-in-Some-clause-read : goal.returns-in-Some-clause-read
returns-in-Some-clause-read c =
    let failed = ap (λ (p : Progress). p.fault) (sym c.self.view_is) ∙ c.in-Some.is in
    λ fed read. stays-read c.args.self.now c.args.octets.now fed c.in-Some.fault failed read

pub returns-in-Ok-clause-ok : goal.returns-in-Ok-clause-ok
returns-in-Ok-clause-ok c =
    let f = c.self.inside in
    let old = the_view f in
    let octets = c.args.octets.now in
    let left = drop c.in-Ok.used octets in
    let so_far = with_value f.so_far c.take_within.new.self in
    let new : Progress = record (the_view (record { alloc = f.alloc; limits = f.limits; start = f.start; so_far = so_far; at = f.at + c.in-Ok.used; fault = f.fault })) { pending = left } in
    let here = c.deref_mut.ensures.value in
    let told = c.in-Ok.ensures in
    let took = subst (λ (s : Start). TookPackets old.mode old.limits.entries s old.at octets old.table new.table left new.at) (started f.start f.limits c.self.invariant.1)
    (subst (λ (n : ℕ). TookPackets old.mode n f.start old.at octets old.table new.table left new.at) c.self.invariant.0 (rw here at told.took)) in (
      ap (λ (p : Progress). p.fault) (sym c.self.view_is) ∙ c.in_default.is,
      c.in_default.is,
      subst (λ (p : Progress). (fed : List ℕ) → HasRead p fed → HasTaken new (fed ++ octets)) c.self.view_is
          (λ fed read. taken-next old new refl (rw here at told.mode) refl octets fed c.in_default.is
          (omega (arith, told.used, told.in_limit, length-drop c.in-Ok.used octets, c.bytes-bytes.ensures.value)) took told.partial read),
    )

pub returns-in-Err-clause-read : goal.returns-in-Err-clause-read
returns-in-Err-clause-read c =
    let f = c.self.inside in
    let old = the_view f in
    let octets = c.args.octets.now in
    let so_far = with_value f.so_far c.take_within.new.self in
    let new : Progress = the_view (record { alloc = f.alloc; limits = f.limits; start = f.start; so_far = so_far; at = f.at; fault = Some c.in-Err.fault }) in
    let here = c.deref_mut.ensures.value in
    let stops = stops-within old.limits.bytes c.bytes-bytes.result old.mode old.limits.entries f.so_far.value.rows.entries
    (start_of old.limits old.sender) f.start old.at old.pending octets old.table c.in-Err.fault c.bytes-bytes.ensures.value c.self.invariant.0
    (started f.start f.limits c.self.invariant.1) (rw here at c.in-Err.ensures.stops) in
    subst (λ (p : Progress). (fed : List ℕ) → HasRead p fed → HasFailed new c.in-Err.fault (fed ++ octets)) c.self.view_is
    (λ fed read. failed-next old new refl (rw here at c.in-Err.ensures.mode) refl (fed ++ octets) c.in-Err.fault (stops-failed old octets fed c.in-Err.fault c.in_default.is stops read))
