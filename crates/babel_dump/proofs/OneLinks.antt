-- What links tells of what was heard is one text.
use Rattle.std.proofs.Common.{◌≡◌, ℕ, List, ap, sym, ◌∙◌}
use Rattle.std.specs.List.{flat_map}
use Rattle.std.specs.Cmp.{IsTotalOrder}
use Rattle.std.proofs.lemmas.Cmp.{on_total, then_total}
use Rattle.babel_capture.specs.Gathering.{Gathering}
use Rattle.babel_prefix.proofs.OrderLaws.{address_total}
use Rattle.babel_capture.proofs.TallyLaws.{place_total}
use Rattle.babel_tlv.specs.declared.hello.Hello.{Hello}
use Rattle.babel_selection.specs.declared.ihu_from.IhuFrom.{IhuFrom}
use Rattle.babel_selection.specs.declared.ihu_from.IhuSaid.{IhuSaid}
use Rattle.babel_selection.specs.declared.ihus.Pair.{Pair}
use Rattle.babel_selection.proofs.LinkLaws.{entries_one, pair_exact, pair_total}
use Rattle.babel_dump.specs.LinksTold.{TellsLinks, line_of, row_of}
use Rattle.babel_dump.specs.Nodes.{node_cmp, node_exact}
use Rattle.babel_dump.specs.declared.format.Format.{Format}
use Rattle.babel_dump.specs.declared.node.Node.{Node}

pub node_total : IsTotalOrder node_cmp
node_total = then_total (on_total (λ (n : Node). n.place) place_total) (on_total (λ (n : Node). n.address) address_total)

pub links_one : (format : Format) (factor moment : ℕ) (gathering : Gathering) (hellos : List (Node × Hello)) (ihus : List (IhuFrom Node)) (text too : List ℕ)
    → TellsLinks format factor moment gathering hellos ihus text → TellsLinks format factor moment gathering hellos ihus too → text ≡ too
links_one format factor moment gathering hellos ihus text too is is_too =
    let lines : List (Pair Node × IhuSaid) → List ℕ =
    flat_map (λ (link : Pair Node × IhuSaid). line_of format gathering link.0.router (row_of factor moment hellos ihus link)) in
    let same = entries_one (pair_total node_cmp node_total node_exact) (pair_exact node_cmp node_total node_exact) is.links is_too.links is.are.in_order is_too.are.in_order
    (λ pair. is.are.last pair.router pair.neighbour ∙ sym (is_too.are.last pair.router pair.neighbour)) in
    is.text_is ∙ ap lines same ∙ sym is_too.text_is
