-- An address of which the free bits are 0 is its prefix.
use Rattle.std.proofs.Common.{◌≡◌, ◌-◌, sym, ◌∙◌, ap, subst, rules}
use Rattle.babel_prefix.specs.Address.{Address, block_of, prefix_at}
use Rattle.babel_prefix.specs.Width.{width_of}
use Rattle.babel_prefix.specs.Block.{Block}
use Rattle.babel_prefix.specs.Covers.{IsBlock}
use Rattle.babel_prefix.proofs.BlockLaws.{block_at-itself}
use Rattle.babel_trie.specs.Cut.{block_from}
use Rattle.babel_trie.proofs.listing.block_prefix.Goals as goal

pub unwrap-requires : goal.unwrap-requires
unwrap-requires c = c.new.ensures.fits.1 c.requires.block.start_in_range

pub returns-clause-block : goal.returns-clause-block
returns-clause-block c =
    let w = width_of c.args.family in
    let len = c.width.result - c.args.bits in
    let block : Block = record { start = c.args.start; len = len } in
    let is : block ≡ block_from w c.args.start c.args.bits = ap (λ n. block_from n c.args.start c.args.bits) c.width.ensures in
    let addr : c.unwrap.result ≡ record { family = c.args.family; bits = c.args.start } = search rules in
    let prefix : c.unwrap-2.result ≡ prefix_at len c.unwrap.result = search rules in
    ap block_of prefix ∙ ap (λ (a : Address). block_of (prefix_at len a)) addr ∙ block_at-itself w block (subst (IsBlock w) (sym is) c.requires.block) ∙ is
