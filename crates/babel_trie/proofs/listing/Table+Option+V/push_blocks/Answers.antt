-- One block's rows after another's.
use Rattle.std.proofs.Common.{◌≡◌, ℕ, ◌+◌, ◌^◌, ◌≤◌, List, [], ◌∷◌, ◌++◌, Option, map, refl, sym, ◌∙◌, ap, subst, arith}
use Rattle.std.proofs.lemmas.Result.{err_from_is_err_and}
use Rattle.babel_prefix.specs.Address.{AddressPrefix, block_of}
use Rattle.babel_prefix.specs.Block.{Block}
use Rattle.babel_prefix.specs.Entries.{Entry}
use Rattle.babel_prefix.specs.Width.{width_of}
use Rattle.babel_trie.specs.Cut.{block_from, largest_in}
use Rattle.babel_trie.specs.Held.{sources_at}
use Rattle.babel_trie.specs.Interned.{IsTrie}
use Rattle.babel_trie.specs.Nested.{entry_at, leaves, rows_at, rows_of}
use Rattle.babel_trie.specs.Shape.{Shape}
use Rattle.babel_trie.specs.Spans.{each_with}
use Rattle.babel_trie.proofs.Cuts.{nothing_cut, one_more_cut, cut_to, cut_whole}
use Rattle.babel_trie.proofs.Fits.{fit_in_width, fit_is_block}
use Rattle.babel_trie.proofs.FormLaws.{opened_trie, opened_stands, Represents-in}
use Rattle.babel_trie.proofs.HeldLaws.{sources_at-stands}
use Rattle.babel_trie.proofs.Largest.{largest_is, cut_goes_on}
use Rattle.babel_trie.proofs.PutLaws.{put_none, put_both, stop_first, stop_then}
use Rattle.babel_trie.proofs.SpanRows.{each_with-append, each_with-push}
use Rattle.babel_trie.proofs.listing.Table+Option+V.push_blocks.Goals as goal

-- the rows of one block more
block_more : {V : Type 0} (w : ℕ) (t u : Shape (Option V)) (blocks : List Block) (b : Block) (dst : AddressPrefix) (bits : ℕ) → bits ≡ w → block_of dst ≡ b → t ≡ u →
    rows_of w (each_with t (blocks ++ b ∷ [])) ≡ rows_of w (each_with t blocks) ++ rows_at (block_of dst) (leaves w bits 0 u)
block_more w t u blocks b dst bits bits_is b_is t_is =
    let rows = ap (λ (d : Block). rows_at d (leaves w w 0 t)) (sym b_is) ∙ ap (λ n. rows_at (block_of dst) (leaves w n 0 t)) (sym bits_is) ∙ ap (λ v. rows_at (block_of dst) (leaves w bits 0 v))
    t_is in
    each_with-push w t blocks b ∙ ap (λ more. rows_of w (each_with t blocks) ++ more) rows

pub opened-whole-requires : goal.opened-whole-requires
opened-whole-requires g c = Represents-in c.args.self.now.nodes.items c.args.sources c.requires.trie.trie c.requires.trie.stands

pub push_rows-requires-clause-trie : goal.push_rows-requires-clause-trie
push_rows-requires-clause-trie g c =
    subst (λ n. IsTrie n c.args.self.now.nodes.items c.opened-whole.result) (sym c.width.ensures)
    (opened_trie c.args.self.now.nodes.items (width_of c.args.family) c.args.sources c.opened-whole.result c.opened-whole.ensures c.requires.trie)

pub loop-end-init : goal.loop-end-init
loop-end-init g c =
    record {
      from_in = omega arith;
      at_in = c.requires.some;
      blocks = [];
      cut = nothing_cut (width_of c.args.family) c.args.from c.args.last;
      can = c.requires.can;
      put = λ start given has. put_none c.args.family (g.S.Sink.has start c.args.out.now) given [] refl has;
    }

pub block_prefix-dst-requires-clause-bits : goal.block_prefix-dst-requires-clause-bits
block_prefix-dst-requires-clause-bits g c =
    fit_in_width (width_of c.args.family) c.loop-end.at c.args.last c.first_bits-bits.result c.first_bits-bits.ensures.fit.room c.requires.fits

pub block_prefix-dst-requires-clause-block : goal.block_prefix-dst-requires-clause-block
block_prefix-dst-requires-clause-block g c =
    fit_is_block (width_of c.args.family) c.loop-end.at c.args.last c.first_bits-bits.result c.loop-end.invariant.at_in c.requires.fits c.first_bits-bits.ensures.fit

pub returns-then-end-last-clause-ok : goal.returns-then-end-last-clause-ok
returns-then-end-last-clause-ok g c =
    let w = width_of c.args.family in
    let so = c.loop-end.invariant in
    let at = c.loop-end.at in
    let bits = c.first_bits-bits.result in
    let b : Block = block_from w at bits in
    let h = c.requires.trie in
    let t = sources_at w c.args.self.now.nodes.items c.args.sources in
    let is = block_more w t h.trie so.blocks b c.block_prefix-dst.result c.width.result c.width.ensures c.block_prefix-dst.ensures.block
    (sources_at-stands w c.args.self.now.nodes.items c.args.sources h) in
    let stands = opened_stands c.args.self.now.nodes.items c.args.sources c.opened-whole.result h.trie c.opened-whole.ensures h.stands in
    let pushed = λ (start : g.row.S.Denot) (given : List (Entry g.row.V.Denot)) (has : g.S.Sink.has start c.args.out.now given).
    put_both c.args.family (g.S.Sink.has start c.push_rows.new.out) given _ _ _ is (c.in_ok-push_rows.ensures.ok h.trie stands start _ (so.put start given has)) in
    let cut = cut_to w c.args.from c.args.last at bits c.last_address-end.result so.blocks so.from_in so.at_in c.requires.fits c.first_bits-bits.ensures.fit c.last_address-end.ensures so.cut in
    λ start given has. subst (λ bs. g.S.Sink.has start c.push_rows.new.out (given ++ map (entry_at c.args.family) (rows_of w (each_with t bs))))
    (largest_is w c.args.from c.args.last c.requires.fits (so.blocks ++ b ∷ []) (cut_whole w c.args.from c.args.last c.last_address-end.result (so.blocks ++ b ∷ []) c.if-end-last.true cut))
    (pushed start given has)

pub loop-end-preserved : goal.loop-end-preserved
loop-end-preserved g c =
    let w = width_of c.args.family in
    let so = c.loop-end.invariant in
    let at = c.loop-end.at in
    let bits = c.first_bits-bits.result in
    let b : Block = block_from w at bits in
    let h = c.requires.trie in
    let t = sources_at w c.args.self.now.nodes.items c.args.sources in
    let is = block_more w t h.trie so.blocks b c.block_prefix-dst.result c.width.result c.width.ensures c.block_prefix-dst.ensures.block
    (sources_at-stands w c.args.self.now.nodes.items c.args.sources h) in
    let stands = opened_stands c.args.self.now.nodes.items c.args.sources c.opened-whole.result h.trie c.opened-whole.ensures h.stands in
    let pushed = λ (start : g.row.S.Denot) (given : List (Entry g.row.V.Denot)) (has : g.S.Sink.has start c.args.out.now given).
    put_both c.args.family (g.S.Sink.has start c.push_rows.new.out) given _ _ _ is (c.in_ok-push_rows.ensures.ok h.trie stands start _ (so.put start given has)) in
    let room : at + 2 ^ bits ≤ c.args.last + 1 = c.first_bits-bits.ensures.fit.room in
    record {
      from_in = omega arith;
      at_in = omega arith;
      blocks = so.blocks ++ b ∷ [];
      cut = cut_to w c.args.from c.args.last at bits c.last_address-end.result so.blocks so.from_in so.at_in c.requires.fits c.first_bits-bits.ensures.fit c.last_address-end.ensures so.cut;
      can = c.in_ok-push_rows.ensures.can;
      put = pushed;
    }

pub returns-in_err-push_rows-clause-err : goal.returns-in_err-push_rows-clause-err
returns-in_err-push_rows-clause-err g c =
    let w = width_of c.args.family in
    let so = c.loop-end.invariant in
    let at = c.loop-end.at in
    let bits = c.first_bits-bits.result in
    let b : Block = block_from w at bits in
    let h = c.requires.trie in
    let t = sources_at w c.args.self.now.nodes.items c.args.sources in
    let is = block_more w t h.trie so.blocks b c.block_prefix-dst.result c.width.result c.width.ensures c.block_prefix-dst.ensures.block
    (sources_at-stands w c.args.self.now.nodes.items c.args.sources h) in
    let stands = opened_stands c.args.self.now.nodes.items c.args.sources c.opened-whole.result h.trie c.opened-whole.ensures h.stands in
    let Stopped = λ (start : g.row.S.Denot). g.S.Sink.stopped start c.push_rows.new.out in
    let more = largest_in w (at + 2 ^ bits) c.args.last in
    let cut = one_more_cut w c.args.from c.args.last at bits so.blocks so.from_in so.at_in c.requires.fits c.first_bits-bits.ensures.fit so.cut in
    let exit = err_from_is_err_and c.from_residual.result c.from_residual.ensures.1 in
    rw exit.1 (λ start given has.
    stop_first c.args.family (Stopped start) given (rows_of w (each_with t (so.blocks ++ b ∷ []))) (rows_of w (each_with t more)) (rows_of w (each_with t (largest_in w c.args.from c.args.last)))
    (ap (λ bs. rows_of w (each_with t bs)) (sym (cut_goes_on w c.args.from c.args.last (at + 2 ^ bits) (so.blocks ++ b ∷ [])
    (omega arith) c.requires.fits cut)) ∙ each_with-append w t (so.blocks ++ b ∷ []) more)
    (stop_then c.args.family (Stopped start) given _ _ _ is (c.in_err-push_rows.ensures.err h.trie stands start _ (so.put start given has))))
