-- What is laid over what the sources are, stored; one row from all sources is a constant.
use Rattle.std.proofs.Common.{◌≡◌, ◌+◌, Some, map, refl, ◌∙◌, ap, sym, subst, arith}
use Rattle.babel_prefix.specs.Best.{Row}
use Rattle.babel_prefix.specs.Covers.{BlockCovers}
use Rattle.babel_prefix.specs.Entries.{row_of}
use Rattle.babel_trie.specs.Rows.{Overlays}
use Rattle.babel_trie.specs.Shape.{value_at}
use Rattle.babel_trie.proofs.OverlayLaws.{overlays_same}
use Rattle.babel_trie.proofs.PartLaws.{from_map}
use Rattle.babel_trie.specs.Rows.{IsPlace}
use Rattle.babel_trie.specs.declared.table.Loose.TheVariants.{Same}
use Rattle.babel_trie.proofs.SourceLaws.{overlaid_one}
use Rattle.babel_trie.proofs.NumberLaws.{Stands-grows, opened-normal, form_from_sound}
use Rattle.babel_trie.proofs.FormLaws.{opened_trie, opened_stands, Represents-in}
use Rattle.babel_trie.proofs.PathLaws.{loose_below}
use Rattle.babel_trie.proofs.overlay.Table+Option+V.overlaid.Goals as goal

pub returns-then-says_all-clause-overlaid : goal.returns-then-says_all-clause-overlaid
returns-then-says_all-clause-overlaid g c t p =
    let w = c.args.width in
    let rows = c.args.rows.now in
    let says = c.says_all.ensures c.if-says_all.true in
    record {
      new = t;
      stands = p;
      fits = λ f. f;
      reduced = λ r. r;
      values = λ d a _ _.
          let e : a ≡ 0 + a = omega arith in
          subst (λ n. Overlays w (map row_of rows) d n (value_at t w a) (value_at t w a)) e (overlays_same w (map row_of rows) d a (value_at t w a) c.requires.table
          (λ row m covers. let x = from_map row_of rows row m in
          says x.0 x.1 t a p (subst (λ (r : Row g.row.V.Denot). BlockCovers w r.src a) (sym x.2) covers) ∙ ap (λ (r : Row g.row.V.Denot). Some r.value) x.2));
    }

pub opened-trie-requires : goal.opened-trie-requires
opened-trie-requires g c = Represents-in c.args.self.now.nodes.items c.args.old c.requires.trie.trie c.requires.trie.stands

pub lay-requires-clause-trie : goal.lay-requires-clause-trie
lay-requires-clause-trie g c = opened_trie c.args.self.now.nodes.items c.args.width c.args.old c.opened-trie.result c.opened-trie.ensures c.requires.trie

pub lay-requires-clause-normal : goal.lay-requires-clause-normal
lay-requires-clause-normal g c =
    let nodes = c.args.self.now.nodes.items in
    opened-normal nodes (form_from_sound _ nodes c.args.self.now.numbers c.requires.sound) c.args.old c.opened-trie.result c.opened-trie.ensures

pub stored-requires-clause-below : goal.stored-requires-clause-below
stored-requires-clause-below g c =
    let nodes = c.args.self.now.nodes.items in
    let trie = opened_trie nodes c.args.width c.args.old c.opened-trie.result c.opened-trie.ensures c.requires.trie in
    let laid = c.in_ok-lay.ensures.laid trie.trie trie.stands in
    loose_below c.lay.new.self.nodes.items c.lay.new.trie laid.new c.in_ok-lay.ensures.normal laid.stands

pub returns-clause-keeps : goal.returns-clause-keeps
returns-clause-keeps g c i node e = c.in_ok-sources.ensures.keeps i node (c.in_ok-lay.ensures.keeps i node e)

pub returns-clause-overlaid : goal.returns-clause-overlaid
returns-clause-overlaid g c t p =
    let old = c.args.self.now.nodes.items in
    let mid = c.lay.new.self.nodes.items in
    let new = c.stored.new.self.nodes.items in
    let laid = c.in_ok-lay.ensures.laid t (opened_stands old c.args.old c.opened-trie.result t c.opened-trie.ensures p) in
    record {
      new = laid.new;
      stands = (c.lay.new.trie, c.in_ok-sources.ensures.opens, Stands-grows mid new c.in_ok-sources.ensures.keeps c.lay.new.trie laid.new laid.stands);
      fits = laid.fits;
      reduced = laid.reduced;
      values = laid.values;
    }

pub returns-in-Some-clause-overlaid : goal.returns-in-Some-clause-overlaid
returns-in-Some-clause-overlaid g c t p =
    let one = c.in-Some.ensures in
    let whole : IsPlace c.args.width c.args.width 0 = record { bits_in = omega arith; index = 0; start_is = omega arith; room = omega arith } in
    let laid = overlaid_one c.args.width c.args.width 0 c.args.rows.now one.0 c.args.self.now.nodes.items t c.in-Some.value whole c.requires.rows c.requires.one one.1 (omega (arith, one.2)) one.3 in
    record {
      new = laid.new;
      stands = (Same (Some c.in-Some.value), refl, laid.stands);
      fits = laid.fits;
      reduced = laid.reduced;
      values = laid.values;
    }
