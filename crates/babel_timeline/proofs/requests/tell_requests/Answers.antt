-- All TLVs of the body are left.
use Rattle.std.proofs.Common.{◌++◌, ◌-◌, ◌∙◌, List, ap, arith, drop, length, length-drop, map}
use Rattle.std.specs.List.{filter_map}
use Rattle.std.proofs.lemmas.List.{take_all}
use Rattle.babel_tlv.specs.Framing.{TlvAt, tlvs_of}
use Rattle.babel_tlv.specs.Requests.{requested}
use Rattle.babel_timeline.specs.declared.telling.Telling.TheVariants as tellings
use Rattle.babel_timeline.proofs.requests.tell_requests.Goals as goal

pub loop-tlv-init : goal.loop-tlv-init
loop-tlv-init g c =
    let packet = c.args.packet.now in
    ap (λ (tlvs : List TlvAt). c.args.told.now.items ++ map (tellings.Request c.args.time c.args.sender c.args.to.now) (filter_map (requested c.args.via_v6) tlvs))
    (c.new-tlvs.ensures.left ∙ ap (tlvs_of 0) (take_all (length packet - 4) (drop 4 packet) (omega (arith, length-drop 4 packet))))
