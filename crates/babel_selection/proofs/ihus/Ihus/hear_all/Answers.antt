-- The IHU has a larger number than all others, and is the last one for each that sends there.
use Rattle.std.proofs.Common.{refl, subst, arith}
use Rattle.babel_selection.specs.declared.ihus.Numbered.{Numbered}
use Rattle.babel_selection.specs.Hearing.{LastIhus, TakesAll}
use Rattle.babel_selection.proofs.HearingLaws.{takes_all}
use Rattle.babel_selection.proofs.ihus.Ihus.hear_all.Goals as goal

pub returns : goal.returns
returns g c =
    let x : Numbered = record { said = c.args.said.now; number = c.in-Some.number } in
    let old : LastIhus g.row.S.Denot = record { named = c.self.inside.named.entries; to_all = c.self.inside.to_all.entries; heard = c.self.inside.heard } in
    let new : LastIhus g.row.S.Denot = record { named = c.self.inside.named.entries; to_all = c.insert.new.self.entries; heard = c.in-Some.number } in
    subst (λ (w : LastIhus g.row.S.Denot). TakesAll g.S.Ord.cmp c.args.router c.args.said.now w new) c.self.view_is
    (takes_all g.S.Ord.cmp c.args.router x old new c.self.invariant (omega (arith, c.in-Some.ensures)) c.in_ok-insert.ensures.updates.0 refl)
