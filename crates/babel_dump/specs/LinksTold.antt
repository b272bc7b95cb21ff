-- What `links` tells of a capture: of each router and each neighbour that an IHU of it names, what
-- both say of their link. RFC 8966, 3.4, appendix B.
use Rattle.std.specs.Prelude.{◌≡◌, ℕ, Bool, true, ◌==◌, ◌&&◌, if◌then◌else◌, List, ◌++◌}
use Rattle.std.specs.Prelude.{Option, None, Some}
use Rattle.std.specs.List.{flat_map}
use Rattle.std.specs.Option.{is_some, option_and_then, unwrap_or}
use Rattle.babel_capture.specs.Gathering.{Gathering, name_of}
use Rattle.babel_capture.specs.Tallies.{Senders, tally_of}
use Rattle.babel_tlv.specs.declared.hello.Hello.{Hello}
use Rattle.babel_selection.specs.HeardLinks.{AreLinks}
use Rattle.babel_selection.specs.Links.{hello_count, last_ihu, no_hellos, rxcost_at}
use Rattle.babel_selection.specs.declared.hello_count.HelloCount.{HelloCount}
use Rattle.babel_selection.specs.declared.ihu_from.IhuFrom.{IhuFrom}
use Rattle.babel_selection.specs.declared.ihu_from.IhuSaid.{IhuSaid}
use Rattle.babel_selection.specs.declared.ihus.Pair.{Pair}
use Rattle.babel_dump.specs.Led.{lead_in}
use Rattle.babel_dump.specs.LinkText.{link_in}
use Rattle.babel_dump.specs.Nodes.{are_beside, node_cmp, origin_of}
use Rattle.babel_dump.specs.declared.format.Format.{Format}
use Rattle.babel_dump.specs.declared.link_row.LinkRow.{LinkRow}
use Rattle.babel_dump.specs.declared.node.Node.{Node}

-- whether a node sends at the place of the router
abbrev pub sends_at : Senders → (router node : Node) → Bool
sends_at senders router node =
    are_beside router node && is_some (tally_of senders (origin_of node))

-- the Interval of what was counted, where one is said
abbrev pub interval_of : HelloCount → Option ℕ
interval_of count = if count.interval == 0 then None else Some count.interval

-- what is told of a link at the moment, where an IHU counts so many times its Interval: by what is
-- counted of the neighbour's Hellos, and its last IHU for the router
abbrev pub row_with : (factor moment : ℕ) → Option HelloCount → (back : Option IhuSaid)
    → Pair Node × IhuSaid → LinkRow
row_with factor moment count back link =
    let counted = unwrap_or count no_hellos in
    record {
      neighbour = link.0.neighbour.address;
      rxcost = rxcost_at factor moment link.1;
      back = option_and_then (rxcost_at factor moment) back;
      last = link.1.when.time;
      hellos = counted.heard;
      missed = counted.missed;
      interval = interval_of counted;
    }

abbrev pub row_of : (factor moment : ℕ) → List (Node × Hello) → List (IhuFrom Node)
    → Pair Node × IhuSaid → LinkRow
row_of factor moment hellos ihus link = row_with factor moment
    (hello_count node_cmp hellos link.0.neighbour)
    (last_ihu node_cmp ihus link.0.neighbour link.0.router true) link

-- its line, led by the router and its place
abbrev pub line_of : Format → Gathering → (router : Node) → LinkRow → List ℕ
line_of format gathering router row =
    lead_in format (origin_of router) (name_of gathering router.place.interface)
    ++ link_in format row

-- the lines of all links, of these Hellos and IHUs
pub record TellsLinks (format : Format) (factor moment : ℕ) (gathering : Gathering)
    (hellos : List (Node × Hello)) (ihus : List (IhuFrom Node)) (text : List ℕ) : Type 0 where
  pub links : List (Pair Node × IhuSaid)
  pub are : AreLinks node_cmp (sends_at gathering.senders) ihus links
  pub text_is : text ≡ flat_map (λ link. line_of format gathering link.0.router
      (row_of factor moment hellos ihus link)) links
