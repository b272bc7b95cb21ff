-- Line by line, until no link is left.
use Rattle.std.proofs.Common.{◌++◌, ap, ◌∙◌}
use Rattle.babel_dump.specs.LinksTold.{line_of}
use Rattle.babel_dump.specs.contracts.node.NodeOrd.TheImpl.{ghosts}
use Rattle.babel_dump.specs.declared.link_row.LinkRow.{LinkRow}
use Rattle.babel_dump.proofs.LinkLines.{all_lines, in_node_order, lines_kept, next_line, tells_links}
use Rattle.babel_dump.proofs.NodeLaws.{node_order}
use Rattle.babel_dump.proofs.links.links_text.Goals as goal

pub loop-pair-preserved : goal.loop-pair-preserved
loop-pair-preserved c =
    let text = c.loop-pair.text.items in
    next_line c.args.format.now c.args.judged.now c.args.heard.now c.args.gathered.now text c.push_link.new.text.items
    (lines_kept c.args.format.now c.args.judged.now c.args.heard.now c.args.gathered.now c.into_iter-pair-iterator.result) c.loop-pair.pair-iterator c.next.new.self
    (c.in-Some.pair.now, c.in-Some.said.now) c.loop-pair.invariant c.in-Some.ensures.steps
    (c.in_ok-push_link.ensures ∙ ap (λ (row : LinkRow). text ++ line_of c.args.format.now c.args.gathered.now c.in-Some.pair.now.router row) c.row-row.ensures)

pub returns : goal.returns
returns c = λ hellos ihus counts last.
    let links = c.in_ok-links.links.entries in
    let text = c.loop-pair.text.items in
    tells_links c.args.format.now c.args.judged.now c.args.heard.now c.args.gathered.now hellos ihus c.in_ok-senders.senders links text counts last c.in_ok-senders.ensures
    (in_node_order ghosts.cmp c.args.heard.now.ihus c.in_ok-senders.senders ihus links node_order (c.in_ok-links.ensures ihus) last)
    (all_lines c.args.format.now c.args.judged.now c.args.heard.now c.args.gathered.now text c.loop-pair.pair-iterator c.into_iter-pair-iterator.result c.loop-pair.invariant c.in-None.ensures.steps.0
    ∙ ap (lines_kept c.args.format.now c.args.judged.now c.args.heard.now c.args.gathered.now) c.into_iter-pair-iterator.ensures.into_iter_gives.0)
