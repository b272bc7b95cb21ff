-- The first of the map, which no other is before.
use Rattle.std.proofs.Common.{◌∙◌, ap, arith, sym}
use Rattle.std.specs.Prelude.{is_some}
use Rattle.babel_timeline.specs.Kept.{keys_in}
use Rattle.babel_timeline.specs.Rows.{expiry_cmp}
use Rattle.babel_timeline.proofs.KeptLaws.{first_soonest, keys_have, least_law}
use Rattle.babel_timeline.proofs.queue.Queue.first_by.Goals as goal

pub returns-then-until-first-clause-none : goal.returns-then-until-first-clause-none
returns-then-until-first-clause-none g c expiry held =
    omega (
      arith,
      first_soonest g.S.Ord.cmp g.met.S.Ord.total (keys_in c.self.inside.places) c.in_ok-expiry.expiry.now
          (λ other there. c.in_ok-expiry.ensures.least other (keys_have (expiry_cmp g.S.Ord.cmp) c.self.inside.places other ∙ there)) expiry held,
      c.if-until-first.true,
    )

pub invariant_of-self : goal.invariant_of-self
invariant_of-self g c =
    first_soonest g.S.Ord.cmp g.met.S.Ord.total (keys_in c.self.inside.places) c.in_ok-expiry.expiry.now
    (λ other there. c.in_ok-expiry.ensures.least other (keys_have (expiry_cmp g.S.Ord.cmp) c.self.inside.places other ∙ there))

pub invariant_of-self-2 : goal.invariant_of-self-2
invariant_of-self-2 g c =
    first_soonest g.S.Ord.cmp g.met.S.Ord.total (keys_in c.self.inside.places) c.in_ok-expiry.expiry.now
    (λ other there. c.in_ok-expiry.ensures.least other (keys_have (expiry_cmp g.S.Ord.cmp) c.self.inside.places other ∙ there))

pub returns-clause-some : goal.returns-clause-some
returns-clause-some g c =
    sym (keys_have (expiry_cmp g.S.Ord.cmp) c.self.inside.places c.in_ok-expiry.expiry.now) ∙ ap is_some c.in_ok-expiry.ensures.value

pub returns-clause-least : goal.returns-clause-least
returns-clause-least g c other held =
    least_law g.S.Ord.cmp g.met.S.Ord.total c.in_ok-expiry.expiry.now other
    (c.in_ok-expiry.ensures.least other (keys_have (expiry_cmp g.S.Ord.cmp) c.self.inside.places other ∙ held))
