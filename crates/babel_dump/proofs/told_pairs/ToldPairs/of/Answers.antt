use Rattle.std.proofs.Common.{◌≡◌, ◌+◌, ◌∷◌, ◌++◌, [], take, refl, sym, ap, subst, ◌∙◌}
use Rattle.std.specs.Map.{keys_of}
use Rattle.babel_dump.specs.Fellows.{AreFellows}
use Rattle.std.proofs.lemmas.List.{take_all, take_more}
use Rattle.babel_dump.specs.declared.fellows.Fellows.{Fellows}
use Rattle.babel_dump.proofs.PairsMade.{making_all, making_more, making_none}
use Rattle.babel_dump.proofs.told_pairs.ToldPairs.of.Goals as goal

pub loop-fellows-init : goal.loop-fellows-init
loop-fellows-init c = making_none c.args.pairs.now c.args.read.now c.args.other_read.now c.args.tables.entries c.args.other_tables.entries _ c.new-2.ensures.items refl

pub loop-fellows-preserved : goal.loop-fellows-preserved
loop-fellows-preserved c =
    let list = c.deref-fellows-items.result.now in
    let i = c.loop-fellows.fellows-index in
    let one = c.fellows-item.result in
    let more : take (i + 1) list ≡ take i list ++ one ∷ [] = take_more list i one c.loop-fellows-test.true ∙ ap (λ (f : Fellows). take i list ++ f ∷ []) (sym c.fellows-item.is) in
    making_more c.args.pairs.now c.args.read.now c.args.other_read.now c.args.tables.entries c.args.other_tables.entries (take i list) (take (i + 1) list) one
    c.loop-fellows.left.left.entries c.loop-fellows.left.right.entries _ _ c.loop-fellows.told _ more c.loop-fellows.invariant c.in_ok-tell.ensures.left c.in_ok-tell.ensures.right c.in_ok-tell.ensures.told

pub returns : goal.returns
returns c =
    let list = c.deref-fellows-items.result.now in
    let i = c.loop-fellows.fellows-index in
    making_all c.args.pairs.now c.args.read.now c.args.other_read.now c.args.tables.entries c.args.other_tables.entries (take i list) list _ _ c.loop-fellows.told
    (take_all i list c.loop-fellows-test.false) (subst (AreFellows (keys_of c.args.tables.entries) (keys_of c.args.other_tables.entries)) (sym c.deref-fellows-items.ensures.value) c.in_ok-list.ensures) c.loop-fellows.invariant
