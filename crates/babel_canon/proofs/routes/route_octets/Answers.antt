use Rattle.std.proofs.Common.{◌≡◌, ◌++◌, ◌∷◌, List, [], append_assoc, ap, subst, sym, ◌∙◌}
use Rattle.std.proofs.lemmas.List.{append-nil}
use Rattle.babel_tlv.specs.Group.{IsCanonicalText}
use Rattle.babel_tlv.specs.Pair.{Pair}
use Rattle.babel_table.specs.Left.{rows_left}
use Rattle.babel_canon.proofs.routes.route_octets.Goals as goal

pub loop-key-preserved : goal.loop-key-preserved
loop-key-preserved c =
    let row : Pair = (c.in-Some.key, c.in-Some.held) in
    let so_far = c.loop-key.yielded in
    let rest = rows_left c.next.new.self in
    let is : rows_left c.loop-key.key-iterator ≡ row ∷ rest = c.in-Some.ensures.steps in
    record {
      whole = append_assoc so_far (row ∷ []) rest ∙ ap (λ (t : List Pair). so_far ++ t) (sym is) ∙ c.loop-key.invariant.whole;
      text = c.in_ok-push.ensures c.args.body so_far c.loop-key.invariant.text;
    }

pub returns : goal.returns
returns c =
    let so_far = c.loop-key.yielded in
    let all : so_far ≡ c.args.table.now.rows = sym (append-nil so_far) ∙ ap (λ (t : List Pair). so_far ++ t) (sym c.in-None.ensures.steps.0) ∙ c.loop-key.invariant.whole in
    subst (λ (rows : List Pair). IsCanonicalText c.args.body rows c.into_octets.result.items) all (c.into_octets.ensures c.args.body so_far c.loop-key.invariant.text)
