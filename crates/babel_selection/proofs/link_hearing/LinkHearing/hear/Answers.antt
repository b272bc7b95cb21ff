-- A packet is heard TLV by TLV, or not at all.
use Rattle.std.proofs.Common.{rules, ◌≡◌, [], true, false, subst, ◌∙◌}
use Rattle.std.specs.Prelude.{is_err, List}
use Rattle.babel_tlv.specs.Framing.{TlvAt}
use Rattle.babel_tlv.specs.Left.{tlvs_left}
use Rattle.babel_selection.specs.HeardLinks.{whole_tlvs}
use Rattle.babel_selection.proofs.HeardLaws.{HearsTlvs, all_whole, body_all, hears_all, hears_next, hears_none, none_whole}
use Rattle.babel_selection.proofs.link_hearing.LinkHearing.hear.Goals as goal

pub returns-then-is_err : goal.returns-then-is_err
returns-then-is_err g c =
    let failed : is_err c.check_body.result ≡ true = search rules in
    let none : whole_tlvs c.args.packet.now ≡ [] = none_whole c.args.packet.now _ c.check_body.result failed c.check_body.ensures (body_all c.args.packet.now) in
    rw none (hears_none g.S.Ord.cmp c.args.self.now)

pub loop-tlv-init : goal.loop-tlv-init
loop-tlv-init g c =
    let sound : is_err c.check_body.result ≡ false = search rules in
    let all = c.new-tlvs.ensures.left ∙ all_whole c.args.packet.now _ c.check_body.result sound c.check_body.ensures (body_all c.args.packet.now) in
    λ end more. subst (λ (tlvs : List TlvAt). HearsTlvs g.S.Ord.cmp g.S.LinkNode.beside c.args.node c.args.destination c.args.time tlvs c.args.self.now end) all more

pub loop-tlv-preserved : goal.loop-tlv-preserved
loop-tlv-preserved g c =
    hears_next g.S.Ord.cmp g.S.LinkNode.beside c.args.node c.args.destination c.args.time (whole_tlvs c.args.packet.now) _ _ _ c.args.self.now c.loop-tlv.self c.hear_tlv.new.self
    c.loop-tlv.invariant c.in-Some.ensures.next c.in_ok-hear_tlv.ensures

pub returns : goal.returns
returns g c =
    let none : tlvs_left c.loop-tlv.tlvs ≡ [] = search rules in
    hears_all g.S.Ord.cmp g.S.LinkNode.beside c.args.node c.args.destination c.args.time (whole_tlvs c.args.packet.now) (tlvs_left c.loop-tlv.tlvs) c.args.self.now c.loop-tlv.self
    c.loop-tlv.invariant none
