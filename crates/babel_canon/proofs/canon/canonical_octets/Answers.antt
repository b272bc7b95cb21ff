use Rattle.std.proofs.Common.{[], ℕ, sym, subst}
use Rattle.babel_canon.specs.Writing.{IsTextOf}
use Rattle.babel_canon.proofs.canon.canonical_octets.Goals as goal

pub returns-clause-ok : goal.returns-clause-ok
returns-clause-ok c =
    let begun = c.in_ok-text.ensures in
    let written = c.in_ok-put.ensures.ok c.in_ok-text.text [] (subst (λ (b : ℕ). IsTextOf b c.in_ok-text.text []) (sym begun.limit) begun) in
    record {
      pairs = _;
      are_canonical = c.in_ok-pairs.ensures.ok;
      text = c.into_octets.ensures c.args.body _ (subst (λ (b : ℕ). IsTextOf b c.put.new.out c.in_ok-pairs.pairs) begun.limit written);
    }
