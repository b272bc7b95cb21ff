-- A row that is better is the best so far; each other row leaves it.
use Rattle.std.proofs.Common.{◌≡◌, ◌+◌, ◌++◌, ◌∷◌, [], None, ◌∙◌, ap, sym, take}
use Rattle.std.proofs.lemmas.List.{take_more}
use Rattle.babel_prefix.specs.Address.{Address}
use Rattle.babel_table.specs.Compact.{address_in}
use Rattle.babel_table.proofs.StandingLaws.{best-better, best-found, best-retracted, best-stays}
use Rattle.babel_table.proofs.family_rows.best_standing.Goals.{in-Some+then-is_better, in-Some+else-is_better, in_default}
use Rattle.babel_table.proofs.family_rows.best_standing.Goals as goal

pub loop-key-preserved : goal.loop-key-preserved
loop-key-preserved g c =
    let d : Address = address_in g.W.Word.family (g.W.Word.number c.args.dst) in
    let s : Address = address_in g.W.Word.family (g.W.Word.number c.args.src) in
    let before = take c.loop-key.key-index c.args.rows.now in
    let word = c.loop-key-item.result in
    let more : take (c.loop-key.key-index + 1) c.args.rows.now ≡ before ++ word ∷ [] =
    take_more c.args.rows.now c.loop-key.key-index word c.loop-key-test.true ∙ ap (λ w. before ++ w ∷ []) (sym c.loop-key-item.is) in
    rw more (elim c.match-said.branch [
      | in-Some+then-is_better w ↦
          rw (w.best-is, w.copied.ensures, w.held.ensures)
          (best-better c.args.wipes before d s c.loop-key.best c.loop-key.invariant word w.in-Some.stored w.in-Some.is (w.is_better.ensures.0 w.if-is_better.true))
      | in-Some+else-is_better w ↦
          rw w.best-is
          (best-stays c.args.wipes before d s c.loop-key.best c.loop-key.invariant word w.in-Some.stored w.in-Some.is
          (λ is. let yes = w.is_better.ensures.1 is in absurd cc))
      | in_default w ↦
          rw w.best-is
          (best-retracted c.args.wipes before d s c.loop-key.best c.loop-key.invariant word w.in_default.is)
    ])

pub returns-in-Some-best : goal.returns-in-Some-best
returns-in-Some-best g c =
    rw c.key.ensures.value (best-found c.args.wipes c.args.rows.now c.requires _ _ c.loop-key.best _ c.loop-key.key-index c.loop-key-test.false c.in-Some-best.is c.loop-key.invariant)

pub returns-in-None : goal.returns-in-None
returns-in-None g c = best-found c.args.wipes c.args.rows.now c.requires _ _ c.loop-key.best None c.loop-key.key-index c.loop-key-test.false c.in-None.is c.loop-key.invariant
