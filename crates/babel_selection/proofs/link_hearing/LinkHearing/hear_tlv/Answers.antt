-- The TLV as a Hello, and as an IHU.
use Rattle.std.proofs.Common.{[], ◌∷◌, List, append-nil, subst}
use Rattle.std.proofs.lemmas.Result.{on_ok_weaker}
use Rattle.babel_tlv.specs.Frames.{tlv_value}
use Rattle.babel_tlv.specs.declared.hello.Hello.{Hello}
use Rattle.babel_selection.specs.HeardLinks.{Hears, hellos_among, ihus_among}
use Rattle.babel_selection.proofs.HeardLaws.{hears_then}
use Rattle.babel_selection.proofs.link_hearing.LinkHearing.hear_tlv.Goals as goal

pub returns : goal.returns
returns g c =
    let tlvs = tlv_value c.args.tlv.now ∷ [] in
    let hellos = hellos_among c.args.node tlvs in
    let ihus = ihus_among g.S.LinkNode.beside c.args.node c.args.destination c.args.time tlvs in
    on_ok_weaker c.hear_ihu.result
    (λ heard. subst (λ (h : List (g.row.S.Denot × Hello)). Hears g.S.Ord.cmp h ihus c.args.self.now c.hear_ihu.new.self) (append-nil hellos)
    (hears_then g.S.Ord.cmp hellos [] [] ihus c.args.self.now c.hear_hello.new.self c.hear_ihu.new.self c.in_ok-hear_hello.ensures heard))
    c.hear_ihu.ensures
