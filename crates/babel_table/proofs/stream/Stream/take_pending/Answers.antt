-- A pending packet that is made whole is taken alone, and leaves nothing pending.
use Rattle.std.proofs.Common.{◌≡◌, ◌≤◌, ◌+◌, ◌++◌, ℕ, List, length, drop, arith, sym, ap, subst, ◌∙◌, inl, inr}
use Rattle.std.proofs.lemmas.List.{length-append}
use Rattle.std.proofs.lemmas.Result.{err_from_is_err_and}
use Rattle.babel_tlv.specs.FrameFaults.{HasHeader, body_len}
use Rattle.babel_table.specs.Feeding.{IsPartial, StopsBehind, TookPackets, routes}
use Rattle.babel_table.proofs.DumpLaws.{took-more, stops-more, one-taken}
use Rattle.babel_table.proofs.stream.Stream.take_pending.Goals as goal

packet-within : (packet now rest pending octets : List ℕ) → packet ≡ now → now ++ rest ≡ pending ++ octets → length packet ≤ length pending + length octets
packet-within packet now rest pending octets is whole = omega (arith, ap length is, ap length whole, length-append now rest, length-append pending octets)

partial-not_full : (octets : List ℕ) → IsPartial octets → HasHeader octets × (length octets ≡ 4 + body_len octets) → ⊥
partial-not_full octets (inl short) full = omega (arith, short, full.0)
partial-not_full octets (inr lacks) full = omega (arith, lacks.3, full.1)

pub take_packets-requires-clause-fits : goal.take_packets-requires-clause-fits
take_packets-requires-clause-fits c =
    omega (arith, packet-within c.octets.result.now c.fill-rest.new.self c.fill-rest.result.now c.args.self.now.pending c.args.octets.now c.octets.ensures c.fill-rest.ensures.whole, c.requires.fits)

pub take_packets-requires-clause-room : goal.take_packets-requires-clause-room
take_packets-requires-clause-room c =
    omega (
      arith,
      packet-within c.octets.result.now c.fill-rest.new.self c.fill-rest.result.now c.args.self.now.pending c.args.octets.now
          c.octets.ensures c.fill-rest.ensures.whole,
      c.requires.fits,
      c.requires.counted,
    )

pub returns-then-used-eq0-clause-partial : goal.returns-then-used-eq0-clause-partial
returns-then-used-eq0-clause-partial c = rw (← c.octets.ensures) (rw c.if-used-eq0.true at c.in_ok-used.ensures.partial)

pub returns-then-used-eq0-clause-whole : goal.returns-then-used-eq0-clause-whole
returns-then-used-eq0-clause-whole c = λ some.
    absurd (partial-not_full c.fill-rest.new.self (rw (← c.octets.ensures) (rw c.if-used-eq0.true at c.in_ok-used.ensures.partial)) (c.fill-rest.ensures.full some))

pub returns-then-used-eq0-clause-took : goal.returns-then-used-eq0-clause-took
returns-then-used-eq0-clause-took c =
    let packet = c.octets.result.now in
    let at = c.args.self.now.at in
    let here : at + c.in_ok-used.used ≡ at = omega (arith, c.if-used-eq0.true) in
    rw (← c.fill-rest.ensures.whole, ← c.octets.ensures)
    (took-more _ _ _ at at packet packet c.fill-rest.result.now _ _ (rw (here, c.if-used-eq0.true) at c.in_ok-used.ensures.took))

pub returns-in_err-used-clause-stops : goal.returns-in_err-used-clause-stops
returns-in_err-used-clause-stops c =
    let rest = c.fill-rest.result.now in
    let old = routes c.args.self.now.so_far.rows.rows c.args.self.now.so_far.report in
    let fault = c.in_err-used.field-0.0 in
    let exit = err_from_is_err_and c.from_residual.result c.from_residual.ensures.1 in
    rw (exit.1, exit.2) (subst (λ (t : List ℕ). StopsBehind c.args.self.now.so_far.rows.mode c.args.self.now.so_far.rows.entries c.args.self.now.start c.args.self.now.at t old fault)
    (ap (λ (t : List ℕ). t ++ rest) c.octets.ensures ∙ c.fill-rest.ensures.whole)
    (stops-more _ _ _ c.args.self.now.at c.octets.result.now rest old fault c.in_err-used.ensures.stops))

pub overflow_add-self : goal.overflow_add-self
overflow_add-self c =
    omega (
      arith,
      c.in_ok-used.ensures.used,
      packet-within c.octets.result.now c.fill-rest.new.self c.fill-rest.result.now c.args.self.now.pending
          c.args.octets.now c.octets.ensures c.fill-rest.ensures.whole,
      c.requires.fits,
    )

pub returns-clause-took : goal.returns-clause-took
returns-clause-took c =
    let packet = c.octets.result.now in
    let rest = c.fill-rest.result.now in
    let used = c.in_ok-used.used in
    let at = c.args.self.now.at in
    let old = routes c.args.self.now.so_far.rows.rows c.args.self.now.so_far.report in
    let new = routes c.take_packets.new.self.rows.rows c.take_packets.new.self.report in
    let one = subst (λ (t : List ℕ). HasHeader t → length t ≤ 4 + body_len t) (sym c.octets.ensures) c.fill-rest.ensures.one in
    let none = one-taken _ _ _ at used packet (drop used packet) old new c.in_ok-used.ensures.took one c.if-used-eq0.false in
    let took = took-more _ _ _ at (at + used) packet (drop used packet) rest old new c.in_ok-used.ensures.took in
    let left = subst (λ (t : List ℕ). TookPackets c.args.self.now.so_far.rows.mode c.args.self.now.so_far.rows.entries c.args.self.now.start at (packet ++ rest) old new (t ++ rest) (at + used))
    (none ∙ sym c.clear.ensures) took in
    subst (λ (t : List ℕ). TookPackets c.args.self.now.so_far.rows.mode c.args.self.now.so_far.rows.entries c.args.self.now.start at t old new (c.clear.new.self ++ rest) (at + used))
    (ap (λ (t : List ℕ). t ++ rest) c.octets.ensures ∙ c.fill-rest.ensures.whole) left
