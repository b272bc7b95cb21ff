-- Pair by pair, and once all are told that are looked at.
use Rattle.std.proofs.Common.{◌≡◌, ◌<◌, ◌≤◌, List, None, Option, arith, cond, length, subst, sym, take, ◌∙◌}
use Rattle.std.specs.BTreeMap.{is_at}
use Rattle.std.specs.List.{list_any}
use Rattle.std.proofs.lemmas.List.{take_all}
use Rattle.babel_selection.specs.declared.ihu_from.IhuSaid.{IhuSaid}
use Rattle.babel_selection.specs.declared.ihus.Pair.{Pair}
use Rattle.babel_selection.specs.Hearing.{entry_at, last_kept, pair_cmp, pair_of}
use Rattle.babel_selection.specs.LinkPairs.{pairs_kept, sends_beside}
use Rattle.babel_selection.proofs.LinkLaws.{told_all, told_next}
use Rattle.babel_selection.proofs.link_pairs.links.Goals as goal

pub loop-pair-preserved : goal.loop-pair-preserved
loop-pair-preserved g c =
    let pairs = c.deref-pair-items.result.now in
    let last : Pair g.row.S.Denot → Option IhuSaid = λ p.
    last_kept g.S.Ord.cmp c.args.ihus.now p.router p.neighbour (sends_beside g.S.Ord.cmp g.S.LinkNode.are_beside c.args.senders.now p.router p.neighbour) in
    let inside : c.loop-pair.pair-index < length pairs = omega arith in record {
      in_order = c.add_link.ensures.in_order c.loop-pair.invariant.in_order;
      told = told_next g.S.Ord.cmp g.met.S.Ord.total g.met.S.Sender.exact last pairs c.loop-pair.pair-index c.pair-item.result c.loop-pair.links.entries c.add_link.new.links.entries inside
          (sym c.pair-item.is) c.loop-pair.invariant.told c.in_ok-add_link.ensures.last;
    }

pub returns : goal.returns
returns g c = λ said are.
    let pairs = c.deref-pair-items.result.now in
    let ended : length pairs ≤ c.loop-pair.pair-index = omega arith in
    let all : take c.loop-pair.pair-index pairs ≡ pairs_kept g.S.LinkNode.are_beside c.args.ihus.now c.args.senders.now.keys =
    take_all c.loop-pair.pair-index pairs ended ∙ c.deref-pair-items.ensures.value ∙ c.in_ok-pairs.ensures in
    let links = c.loop-pair.links.entries in record {
      in_order = c.loop-pair.invariant.in_order;
      last = λ router neighbour.
          let sends = sends_beside g.S.Ord.cmp g.S.LinkNode.are_beside c.args.senders.now router neighbour in
          told_all g.S.Ord.cmp g.met.S.Ord.total g.met.S.Sender.exact g.S.LinkNode.are_beside c.args.ihus.now c.args.senders.now router neighbour links
          (subst (λ (l : List (Pair g.row.S.Denot)). entry_at (pair_cmp g.S.Ord.cmp) links (pair_of router neighbour)
          ≡ cond (list_any (is_at (pair_cmp g.S.Ord.cmp (pair_of router neighbour))) l) (last_kept g.S.Ord.cmp c.args.ihus.now router neighbour sends) None) all
          (c.loop-pair.invariant.told (pair_of router neighbour)))
          ∙ are router neighbour sends;
    }
