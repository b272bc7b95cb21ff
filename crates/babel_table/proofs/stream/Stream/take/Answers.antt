-- The pending packet and those behind it are taken, one after the other.
use Rattle.std.proofs.Common.{◌≢◌, ◌++◌, [], ℕ, List, arith, sym, ap, subst, ◌∙◌}
use Rattle.std.proofs.lemmas.List.{append-nil, length-append}
use Rattle.babel_table.specs.Feeding.{TookPackets, routes}
use Rattle.babel_table.proofs.DumpLaws.{took-last, stops-last, took-end, is_none, is_some, none_left}
use Rattle.babel_table.proofs.stream.Stream.take.Goals as goal

pub take_in_place-requires-clause-none : goal.take_in_place-requires-clause-none
take_in_place-requires-clause-none c = sym c.octets.ensures ∙ is_none c.octets.result.now c.if-is_empty.ensures

pub returns-then-is_empty-clause-took : goal.returns-then-is_empty-clause-took
returns-then-is_empty-clause-took c = rw (sym c.octets.ensures ∙ is_none c.octets.result.now c.if-is_empty.ensures) c.take_in_place.ensures.took

pub returns-then-is_empty-clause-stops : goal.returns-then-is_empty-clause-stops
returns-then-is_empty-clause-stops c = rw (sym c.octets.ensures ∙ is_none c.octets.result.now c.if-is_empty.ensures) c.take_in_place.ensures.stops

pub returns-then-not-is_empty-clause-took : goal.returns-then-not-is_empty-clause-took
returns-then-not-is_empty-clause-took c =
    let pending = c.take_pending.new.self.pending in
    let some = subst (λ (t : List ℕ). t ≢ []) c.octets-2.ensures (is_some c.octets-2.result.now c.if-not-is_empty.ensures) in
    let none = none_left c.in_ok-rest.rest.now pending c.in_ok-rest.ensures.whole some in
    subst (λ (t : List ℕ). TookPackets c.args.self.now.so_far.rows.mode c.args.self.now.so_far.rows.entries c.args.self.now.start c.args.self.now.at (c.args.self.now.pending ++ c.args.octets.now)
    (routes c.args.self.now.so_far.rows.rows c.args.self.now.so_far.report) (routes c.take_pending.new.self.so_far.rows.rows c.take_pending.new.self.so_far.report) t c.take_pending.new.self.at)
    (ap (λ (t : List ℕ). pending ++ t) none ∙ append-nil pending) c.in_ok-rest.ensures.took

pub take_in_place-requires-2-clause-none : goal.take_in_place-requires-2-clause-none
take_in_place-requires-2-clause-none c = sym c.octets-2.ensures ∙ is_none c.octets-2.result.now c.if-not-is_empty.ensures

pub take_in_place-requires-2-clause-fits : goal.take_in_place-requires-2-clause-fits
take_in_place-requires-2-clause-fits c =
    omega (
      arith,
      c.requires.fits,
      length-append c.args.self.now.pending c.args.octets.now,
      length-append c.take_pending.new.self.pending c.in_ok-rest.rest.now,
      took-end _ _ _ c.args.self.now.at c.take_pending.new.self.at _ _ _ _ c.in_ok-rest.ensures.took,
    )

pub returns-clause-took : goal.returns-clause-took
returns-clause-took c =
    took-last _ _ _ _ _ _ c.take_pending.ensures.settings c.take_in_place-2.result c.args.self.now.at c.take_pending.new.self.at _ _ c.take_pending.new.self.pending c.in_ok-rest.rest.now _ _ _ _
    c.in_ok-rest.ensures.took (sym c.octets-2.ensures ∙ is_none c.octets-2.result.now c.if-not-is_empty.ensures) c.take_in_place-2.ensures.took

pub returns-clause-stops : goal.returns-clause-stops
returns-clause-stops c =
    stops-last _ _ _ _ _ _ c.take_pending.ensures.settings c.take_in_place-2.result c.args.self.now.at c.take_pending.new.self.at _ c.take_pending.new.self.pending c.in_ok-rest.rest.now _ _
    c.in_ok-rest.ensures.took (sym c.octets-2.ensures ∙ is_none c.octets-2.result.now c.if-not-is_empty.ensures) c.take_in_place-2.ensures.stops
