-- One row more has the destination.
use Rattle.std.proofs.Common.{◌≡◌, inl, inr, [], ◌∷◌, ◌++◌, length, sym, ◌∙◌, ap, subst, arith, rules}
use Rattle.std.proofs.lemmas.List.{length-append}
use Rattle.babel_prefix.specs.Address.{block_of}
use Rattle.babel_prefix.proofs.Members.{Listed, Listed-append_cases}
use Rattle.babel_trie.specs.Split.{rows_of_split}
use Rattle.babel_trie.proofs.Lists.{one_more}
use Rattle.babel_trie.proofs.SplitLaws.{rows-split}
use Rattle.babel_trie.proofs.pass.first_destination.Goals as goal

pub loop-others-init : goal.loop-others-init
loop-others-init g c =
    let rows = g.R.Rows.rows in
    let first = c.args.first in
    let pushed : c.push.new.self.items ≡ first ∷ [] = c.in_ok-push.ensures.items ∙ ap (λ ys. ys ++ first ∷ []) c.clear.ensures.items in
    let others = rows_of_split rows c.split-others.result in
    record {
      some = omega (arith, ap length pushed);
      parts = ap (λ ys. first ∷ ys) (rows-split rows (rows c.args.behind) c.split-others.result c.split-others.ensures) ∙ ap (λ ys. ys ++ others) (sym pushed);
      one = λ y t. elim (subst (λ ys. Listed ys y) pushed t) [ inl e ↦ sym (ap (λ z. block_of z.0) e) | inr none ↦ elim none [ ] ];
    }

pub loop-others-preserved : goal.loop-others-preserved
loop-others-preserved g c =
    let so = c.loop-others.invariant in
    let rows = g.R.Rows.rows in
    let own = c.loop-others.own.items in
    let x = c.in-Some.row in
    let behind = rows c.in-Some.behind in
    let others = rows_of_split rows c.split-others-in-Some.result in
    let pushed = c.in_ok-push-2.ensures.items in
    let same : x.0 ≡ c.args.first.0 = search rules in
    let next : rows_of_split rows c.loop-others.others ≡ x ∷ others = ap (rows_of_split rows) c.in-Some.is
    ∙ ap (λ ys. x ∷ ys) (rows-split rows behind c.split-others-in-Some.result c.split-others-in-Some.ensures) in
    record {
      some = omega (arith, ap length pushed, length-append own (x ∷ []));
      parts = one_more (c.args.first ∷ rows c.args.behind) own (rows_of_split rows c.loop-others.others) others x so.parts next ∙ ap (λ ys. ys ++ others) (sym pushed);
      one = λ y t. elim (Listed-append_cases own (x ∷ []) y (subst (λ ys. Listed ys y) pushed t)) [
        | inl before ↦ so.one y before
        | inr last ↦ elim last [ inl e ↦ sym (ap (λ z. block_of z.0) e) ∙ ap block_of same | inr none ↦ elim none [ ] ]
      ];
    }
