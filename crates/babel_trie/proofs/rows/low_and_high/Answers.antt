-- The rows below the partition point start below the address.
use Rattle.std.proofs.Common.{◌≡◌, nat_lt, true, false, inl, inr, sym, ◌∙◌}
use Rattle.std.proofs.lemmas.Bool.{false≢true, ltb-true, lt-ltb, cases_lt}
use Rattle.babel_trie.specs.Rows.{source_block}
use Rattle.babel_trie.proofs.PlaceLaws.{first_part, other_part}
use Rattle.babel_trie.proofs.rows.low_and_high.Goals as goal

pub returns-clause-low : goal.returns-clause-low
returns-clause-low g c x listed =
    let rows = c.args.rows.now in
    ltb-true _ _ (first_part (λ y. nat_lt (source_block y).start c.args.middle ≡ true) rows c.split_at.result.0.now c.split_at.result.1.now
    c.low_count-low.result c.split_at.ensures.by_index.0 c.split_at.ensures.front_len c.low_count-low.ensures.point.0 x listed)

pub returns-clause-high : goal.returns-clause-high
returns-clause-high g c x listed =
    let rows = c.args.rows.now in
    let no : nat_lt (source_block x).start c.args.middle ≡ false =
    other_part (λ y. nat_lt (source_block y).start c.args.middle ≡ false) rows c.split_at.result.0.now c.split_at.result.1.now
    c.low_count-low.result c.split_at.ensures.by_index.0 c.split_at.ensures.front_len c.low_count-low.ensures.point.1 x listed in
    elim (cases_lt (source_block x).start c.args.middle) [ inl lt ↦ absurd (false≢true (sym no ∙ lt-ltb _ _ lt)) | inr ge ↦ ge ]
