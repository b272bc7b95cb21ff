-- The IHU has a larger number than all others, and is the last one of its pair.
use Rattle.std.proofs.Common.{refl, subst, arith}
use Rattle.babel_selection.specs.declared.ihus.Numbered.{Numbered}
use Rattle.babel_selection.specs.Hearing.{LastIhus, TakesNamed}
use Rattle.babel_selection.proofs.HearingLaws.{numbered_named, takes_named}
use Rattle.babel_selection.proofs.ihus.Ihus.hear_named.Goals as goal

pub invariant_of-self-2 : goal.invariant_of-self-2
invariant_of-self-2 g c =
    let x : Numbered = record { said = c.args.said.now; number = c.in-Some.number } in
    let old : LastIhus g.row.S.Denot = record { named = c.self.inside.named.entries; to_all = c.self.inside.to_all.entries; heard = c.self.inside.heard } in
    let new : LastIhus g.row.S.Denot = record { named = c.insert.new.self.entries; to_all = c.self.inside.to_all.entries; heard = c.in-Some.number } in
    numbered_named g.S.Ord.cmp c.args.pair.now x old new c.self.invariant c.in_ok-insert.ensures.updates.0 refl (omega (arith, c.in-Some.ensures)) (omega arith)

pub returns : goal.returns
returns g c =
    let x : Numbered = record { said = c.args.said.now; number = c.in-Some.number } in
    let old : LastIhus g.row.S.Denot = record { named = c.self.inside.named.entries; to_all = c.self.inside.to_all.entries; heard = c.self.inside.heard } in
    let new : LastIhus g.row.S.Denot = record { named = c.insert.new.self.entries; to_all = c.self.inside.to_all.entries; heard = c.in-Some.number } in
    subst (λ (w : LastIhus g.row.S.Denot). TakesNamed g.S.Ord.cmp c.args.pair.now c.args.said.now w new) c.self.view_is
    (takes_named g.S.Ord.cmp c.args.pair.now x old new c.self.invariant (omega (arith, c.in-Some.ensures)) c.in_ok-insert.ensures.updates.0 refl)
