-- The rows below the partition point have the length.
use Rattle.std.proofs.Common.{◌≡◌, ◌==◌, true, false, sym, ◌∙◌, eqb-true, eq-eqb}
use Rattle.std.proofs.lemmas.Bool.{false≢true}
use Rattle.babel_trie.specs.Rows.{source_block}
use Rattle.babel_trie.proofs.PlaceLaws.{first_part, other_part}
use Rattle.babel_trie.proofs.rows.own_and_rest.Goals as goal

pub returns-clause-own : goal.returns-clause-own
returns-clause-own g c x listed =
    let rows = c.args.rows.now in
    eqb-true _ _ (first_part (λ y. (source_block y).len == c.args.len ≡ true) rows c.split_at.result.0.now c.split_at.result.1.now
    c.own_count-own.result c.split_at.ensures.by_index.0 c.split_at.ensures.front_len c.own_count-own.ensures.point.0 x listed)

pub returns-clause-rest : goal.returns-clause-rest
returns-clause-rest g c x listed same =
    let rows = c.args.rows.now in
    false≢true (sym (other_part (λ y. (source_block y).len == c.args.len ≡ false) rows c.split_at.result.0.now c.split_at.result.1.now
    c.own_count-own.result c.split_at.ensures.by_index.0 c.split_at.ensures.front_len c.own_count-own.ensures.point.1 x listed) ∙ eq-eqb _ _ same)
