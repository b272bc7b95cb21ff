-- What the packet that is told says is what its record does.
use Rattle.std.proofs.Common.{ap, subst, rules}
use Rattle.std.specs.declared.cmp.Ordering.{Ordering}
use Rattle.std.proofs.lemmas.Result.{on_ok_weaker}
use Rattle.babel_capture.specs.Sinking.{packet_said}
use Rattle.babel_selection.specs.HeardLinks.{Hears}
use Rattle.babel_dump.specs.declared.node.Node.{Node}
use Rattle.babel_dump.proofs.LinksHeard.{hears_nothing, hears_packet, hellos_sent, ihus_sent}
use Rattle.babel_dump.proofs.NodeLaws.{node_order}
use Rattle.babel_dump.proofs.PacketsFed.{none_said}
use Rattle.babel_dump.proofs.link_sink.LinkSink.hear.Goals as goal

pub returns-in_default-clause-heard : goal.returns-in_default-clause-heard
returns-in_default-clause-heard c one told = hears_nothing one c.args.told.now c.args.self.now.heard told (none_said c.args.told.now.said c.in_default.not-Packet)

pub returns-in-Packet-clause-heard : goal.returns-in-Packet-clause-heard
returns-in-Packet-clause-heard c =
    on_ok_weaker c.hear.result
    (λ hears one told. hears_packet one c.args.told.now c.in-Packet.packet c.nanoseconds-time.result c.args.self.now.heard c.hear.new.self told (ap packet_said c.in-Packet.is) (search rules)
    (subst (λ (k : Node → Node → Ordering). Hears k (hellos_sent c.in-Packet.packet) (ihus_sent c.nanoseconds-time.result c.in-Packet.packet) c.args.self.now.heard c.hear.new.self) node_order (search rules)))
    c.hear.ensures
