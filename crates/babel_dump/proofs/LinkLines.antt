-- The lines of links by what is kept of Hellos and IHUs are those by what was heard.
use Rattle.std.proofs.Common.{◌≡◌, ℕ, Bool, true, List, [], ◌∷◌, ◌++◌, Option, refl, sym, ap, subst, ◌∙◌, append-nil, append_assoc}
use Rattle.std.specs.Prelude.{◌&&◌}
use Rattle.std.specs.declared.cmp.Ordering.{Ordering}
use Rattle.std.specs.BTreeSet.{BTreeSet, contains}
use Rattle.std.specs.List.{flat_map}
use Rattle.std.specs.Option.{is_some}
use Rattle.babel_capture.specs.Gathering.{Gathering}
use Rattle.babel_capture.specs.Tallies.{Senders, tally_of}
use Rattle.babel_tlv.specs.declared.hello.Hello.{Hello}
use Rattle.babel_selection.specs.HeardLinks.{AreLinks}
use Rattle.babel_selection.specs.Hearing.{AreCounts, AreLast, LastIhus, entry_at, last_kept}
use Rattle.babel_selection.specs.LinkPairs.{sends_beside}
use Rattle.babel_selection.specs.Links.{hello_count, last_ihu}
use Rattle.babel_selection.specs.declared.hello_count.HelloCount.{HelloCount}
use Rattle.babel_selection.specs.declared.ihu_from.IhuFrom.{IhuFrom}
use Rattle.babel_selection.specs.declared.ihu_from.IhuSaid.{IhuSaid}
use Rattle.babel_selection.specs.declared.ihus.Pair.{Pair}
use Rattle.babel_selection.specs.declared.link_hearing.LinkHearing.{LinkHearing}
use Rattle.babel_dump.specs.LinksTold.{TellsLinks, line_of, row_of, row_with, sends_at}
use Rattle.babel_dump.specs.Nodes.{are_beside, node_cmp, origin_of}
use Rattle.babel_dump.specs.declared.format.Format.{Format}
use Rattle.babel_dump.specs.declared.link_row.LinkRow.{LinkRow}
use Rattle.babel_dump.specs.declared.links.Judged.{Judged}
use Rattle.babel_dump.specs.declared.node.Node.{Node}

-- the line of a link by what is kept
abbrev pub row_kept : Judged → LinkHearing Node → Pair Node × IhuSaid → LinkRow
row_kept judged heard link = row_with judged.factor judged.moment (entry_at node_cmp heard.hellos link.0.neighbour) (last_kept node_cmp heard.ihus link.0.neighbour link.0.router true) link

abbrev pub line_kept : Format → Judged → LinkHearing Node → Gathering → Pair Node × IhuSaid → List ℕ
line_kept format judged heard gathering link = line_of format gathering link.0.router (row_kept judged heard link)

abbrev pub lines_kept : Format → Judged → LinkHearing Node → Gathering → List (Pair Node × IhuSaid) → List ℕ
lines_kept format judged heard gathering links = flat_map (line_kept format judged heard gathering) links

-- by what was heard it is the same line
lines_same : (format : Format) (judged : Judged) (heard : LinkHearing Node) (gathering : Gathering) (hellos : List (Node × Hello)) (ihus : List (IhuFrom Node)) → AreCounts node_cmp hellos heard.hellos
    → AreLast node_cmp ihus heard.ihus → (links : List (Pair Node × IhuSaid))
    → lines_kept format judged heard gathering links ≡ flat_map (λ link. line_of format gathering link.0.router (row_of judged.factor judged.moment hellos ihus link)) links
lines_same format judged heard gathering hellos ihus counts last [] = refl
lines_same format judged heard gathering hellos ihus counts last (link ∷ links) =
    let of : Option HelloCount → Option IhuSaid → List ℕ = λ count back. line_of format gathering link.0.router (row_with judged.factor judged.moment count back link) in
    ap (λ (count : Option HelloCount). of count (last_kept node_cmp heard.ihus link.0.neighbour link.0.router true) ++ lines_kept format judged heard gathering links) (counts link.0.neighbour)
    ∙ ap (λ (back : Option IhuSaid). of (hello_count node_cmp hellos link.0.neighbour) back ++ lines_kept format judged heard gathering links) (last link.0.neighbour link.0.router true)
    ∙ ap (λ (rest : List ℕ). of (hello_count node_cmp hellos link.0.neighbour) (last_ihu node_cmp ihus link.0.neighbour link.0.router true) ++ rest)
    (lines_same format judged heard gathering hellos ihus counts last links)

-- the links of the nodes that send are those of the senders
links_at : (nodes : BTreeSet Node) (senders : Senders) (ihus : List (IhuFrom Node)) (links : List (Pair Node × IhuSaid))
    → ((node : Node) → contains node_cmp nodes node ≡ is_some (tally_of senders (origin_of node)))
    → AreLinks node_cmp (sends_beside node_cmp are_beside nodes) ihus links → AreLinks node_cmp (sends_at senders) ihus links
links_at nodes senders ihus links nodes_are are = record {
  in_order = are.in_order;
  last = λ router neighbour. are.last router neighbour
      ∙ ap (λ (sends : Bool). last_ihu node_cmp ihus router neighbour (are_beside router neighbour && sends)) (nodes_are neighbour);
}

pub tells_links : (format : Format) (judged : Judged) (heard : LinkHearing Node) (gathering : Gathering) (hellos : List (Node × Hello)) (ihus : List (IhuFrom Node)) (nodes : BTreeSet Node)
    (links : List (Pair Node × IhuSaid)) (text : List ℕ) → AreCounts node_cmp hellos heard.hellos → AreLast node_cmp ihus heard.ihus
    → ((node : Node) → contains node_cmp nodes node ≡ is_some (tally_of gathering.senders (origin_of node)))
    → AreLinks node_cmp (sends_beside node_cmp are_beside nodes) ihus links → text ≡ lines_kept format judged heard gathering links
    → TellsLinks format judged.factor judged.moment gathering hellos ihus text
tells_links format judged heard gathering hellos ihus nodes links text counts last nodes_are are text_is = record {
  links = links;
  are = links_at nodes gathering.senders ihus links nodes_are are;
  text_is = text_is ∙ lines_same format judged heard gathering hellos ihus counts last links;
}

-- a line more
pub next_line : (format : Format) (judged : Judged) (heard : LinkHearing Node) (gathering : Gathering) (text new all : List ℕ) (left rest : List (Pair Node × IhuSaid)) (link : Pair Node × IhuSaid)
    → text ++ lines_kept format judged heard gathering left ≡ all → left ≡ link ∷ rest → new ≡ text ++ line_kept format judged heard gathering link
    → new ++ lines_kept format judged heard gathering rest ≡ all
next_line format judged heard gathering text new all left rest link before is more =
    let lines : List (Pair Node × IhuSaid) → List ℕ = lines_kept format judged heard gathering in
    ap (λ (t : List ℕ). t ++ lines rest) more ∙ append_assoc text (line_kept format judged heard gathering link) (lines rest)
    ∙ ap (λ (l : List (Pair Node × IhuSaid)). text ++ lines l) (sym is) ∙ before

-- once none is left
pub all_lines : (format : Format) (judged : Judged) (heard : LinkHearing Node) (gathering : Gathering) (text : List ℕ) (left links : List (Pair Node × IhuSaid))
    → text ++ lines_kept format judged heard gathering left ≡ lines_kept format judged heard gathering links → left ≡ [] → text ≡ lines_kept format judged heard gathering links
all_lines format judged heard gathering text left links so none =
    sym (append-nil text) ∙ ap (λ (l : List (Pair Node × IhuSaid)). text ++ lines_kept format judged heard gathering l) (sym none) ∙ so

-- links in an order that is that of nodes
pub in_node_order : (cmp : Node → Node → Ordering) (kept : LastIhus Node) (nodes : BTreeSet Node) (ihus : List (IhuFrom Node)) (links : List (Pair Node × IhuSaid)) → cmp ≡ node_cmp
    → (AreLast cmp ihus kept → AreLinks cmp (sends_beside cmp are_beside nodes) ihus links) → AreLast node_cmp ihus kept
    → AreLinks node_cmp (sends_beside node_cmp are_beside nodes) ihus links
in_node_order cmp kept nodes ihus links order made =
    subst (λ (k : Node → Node → Ordering). AreLast k ihus kept → AreLinks k (sends_beside k are_beside nodes) ihus links) order made
