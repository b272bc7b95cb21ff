-- The block starts at the place, shifted.
use Rattle.std.proofs.Common.{ℕ, sym, ◌∙◌, ap, subst}
use Rattle.babel_prefix.specs.Covers.{IsBlock}
use Rattle.babel_prefix.specs.Width.{width_of}
use Rattle.babel_trie.specs.Cut.{block_from}
use Rattle.babel_trie.proofs.Leaves.{node_is_prefix}
use Rattle.babel_trie.proofs.listing.node_prefix.Goals as goal

pub block_prefix-requires-clause-block : goal.block_prefix-requires-clause-block
block_prefix-requires-clause-block c =
    let w = width_of c.args.family in
    subst (λ (n : ℕ). IsBlock w (block_from w n c.args.bits)) (sym c.shifted.ensures) (node_is_prefix w c.args.bits c.args.place c.requires.bits c.requires.place)

pub returns-clause-block : goal.returns-clause-block
returns-clause-block c = c.block_prefix.ensures.block ∙ ap (λ (n : ℕ). block_from (width_of c.args.family) n c.args.bits) c.shifted.ensures
