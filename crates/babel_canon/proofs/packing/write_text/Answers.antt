use Rattle.std.proofs.Common.{◌≡◌, ◌+◌, [], ◌∷◌, ◌++◌, List, take, sym, ap, subst, ◌∙◌}
use Rattle.std.proofs.lemmas.List.{take_more, take_all}
use Rattle.babel_tlv.specs.Group.{IsCanonicalText}
use Rattle.babel_tlv.specs.Pair.{Pair}
use Rattle.babel_canon.specs.Writing.{IsTextOf}
use Rattle.babel_canon.proofs.packing.write_text.Goals as goal

pub loop-key-preserved : goal.loop-key-preserved
loop-key-preserved c =
    let pairs = c.args.pairs.now in
    let done = take c.loop-key.key-index pairs in
    let pair = c.loop-key-item.result in
    let more : take (c.loop-key.key-index + 1) pairs ≡ done ++ pair ∷ [] =
    take_more pairs c.loop-key.key-index pair c.loop-key-test.true ∙ ap (λ (p : Pair). done ++ p ∷ []) (sym c.loop-key-item.is) in
    subst (λ (ps : List Pair). IsTextOf c.args.body c.push.new.self ps) (sym more) (c.in_ok-push.ensures c.args.body done c.loop-key.invariant)

pub returns : goal.returns
returns c =
    subst (λ (ps : List Pair). IsCanonicalText c.args.body ps c.into_octets.result.items) (take_all c.loop-key.key-index c.args.pairs.now c.loop-key-test.false)
    (c.into_octets.ensures c.args.body (take c.loop-key.key-index c.args.pairs.now) c.loop-key.invariant)
