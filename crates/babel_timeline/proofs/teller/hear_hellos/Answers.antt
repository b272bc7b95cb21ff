-- The Hellos of a packet, one after another.
use Rattle.std.proofs.Common.{◌≡◌, ◌∷◌, ◌++◌, ◌-◌, ◌∙◌, List, [], ap, arith, drop, length, length-drop, append-nil, append_assoc, refl, subst, sym}
use Rattle.std.proofs.lemmas.List.{take_all}
use Rattle.babel_tlv.specs.Frames.{tlv_value}
use Rattle.babel_tlv.specs.Framing.{TlvAt, tlvs_of}
use Rattle.babel_tlv.specs.Left.{tlvs_left}
use Rattle.babel_table.specs.Moments.{Stamp}
use Rattle.babel_timeline.specs.SilencesTold.{TellsReturns, hellos_among}
use Rattle.babel_timeline.proofs.CountTold.{returns_more, returns_none}
use Rattle.babel_timeline.proofs.WatchTold.{first_hello, nothing, returns_then}
use Rattle.babel_timeline.proofs.teller.hear_hellos.Goals as goal

pub loop-tlv-init : goal.loop-tlv-init
loop-tlv-init g c =
    let packet = c.args.packet.now in
    record {
      rows = refl;
      only = returns_none c.args.time c.args.told.now.items;
      returns = (
        [],
        ap (hellos_among c.args.sender c.args.time) (c.new-tlvs.ensures.left ∙ ap (tlvs_of 0) (take_all (length packet - 4) (drop 4 packet) (omega (arith, length-drop 4 packet)))),
        λ hellos before. nothing g.S.Ord.cmp g.met.S.Ord.total g.met.S.Sender.exact hellos c.args.time _ c.args.watch.now,
      );
    }

pub loop-tlv-preserved : goal.loop-tlv-preserved
loop-tlv-preserved g c =
    let before = c.loop-tlv.invariant.returns in
    let tlv : TlvAt = tlv_value c.in-Some.tlv in
    let here : List (g.row.S.Denot × Stamp) = hellos_among c.args.sender c.args.time (tlv ∷ []) in
    let left : List TlvAt = tlvs_left c.advance.new.self in
    record {
      rows = c.in_ok-hear_hello.ensures.rows ∙ c.loop-tlv.invariant.rows;
      only = returns_more c.args.time c.args.told.now.items c.loop-tlv.told.items c.hear_hello.new.told.items c.loop-tlv.invariant.only c.in_ok-hear_hello.ensures.only;
      returns = (
        before.0 ++ here,
        append_assoc before.0 here (hellos_among c.args.sender c.args.time left)
            ∙ ap (λ (h : List (g.row.S.Denot × Stamp)). before.0 ++ h) (sym (ap (hellos_among c.args.sender c.args.time) c.in-Some.ensures.next ∙ first_hello c.args.sender c.args.time tlv left)) ∙ before.1,
        returns_then g.S.Ord.cmp g.met.S.Ord.total g.met.S.Sender.exact c.args.time before.0 here c.args.told.now.items c.loop-tlv.told.items c.hear_hello.new.told.items
            c.args.watch.now c.loop-tlv.watch c.hear_hello.new.watch before.2 c.in_ok-hear_hello.ensures.returns,
      );
    }

pub returns-clause-returns : goal.returns-clause-returns
returns-clause-returns g c =
    let last = c.loop-tlv.invariant.returns in
    let none : tlvs_left c.loop-tlv.tlvs ≡ [] = (rw c.in_default-advance.is at c.advance.ensures.next).0 in
    subst (λ (h : List (g.row.S.Denot × Stamp)). TellsReturns g.S.Ord.cmp h c.args.time c.args.told.now.items c.loop-tlv.told.items c.args.watch.now c.loop-tlv.watch)
    (sym (append-nil last.0) ∙ ap (λ (t : List TlvAt). last.0 ++ hellos_among c.args.sender c.args.time t) (sym none) ∙ last.1) last.2

pub returns-clause-only : goal.returns-clause-only
returns-clause-only g c = c.loop-tlv.invariant.only
