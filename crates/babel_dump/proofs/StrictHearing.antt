-- A packet that is read strictly is heard up to its first TLV that is ignored.
use Rattle.std.proofs.Common.{◌≡◌, ℕ, ◌∷◌, take, drop, refl, sym, subst}
use Rattle.std.specs.Prelude.{Option, Some, None, IfSome}
use Rattle.babel_capture.specs.Sinking.{left_said, packet_said}
use Rattle.babel_capture.specs.declared.sink.BabelPacket.{BabelPacket}
use Rattle.babel_capture.specs.declared.sink.Record.{Record}
use Rattle.babel_capture.specs.declared.sink.Said.{Said}
use Rattle.babel_capture.specs.declared.sink.Said.TheVariants as saids
use Rattle.babel_tlv.specs.declared.start.Start.{Start}
use Rattle.babel_tlv.specs.Framing.{framed}
use Rattle.babel_dump.specs.Followed.{HearsFront, IsWholeTold, RefusesTold, octets_before}
use Rattle.babel_dump.specs.EventsCause.{start_of}
use Rattle.babel_dump.specs.StrictPackets.{IsFirstOf, IsReadTo, IsReadWholly, fault_of}
use Rattle.babel_dump.specs.declared.events_job.Events.{Events}
use Rattle.babel_dump.specs.declared.follower.Follower.{Follower}
use Rattle.babel_dump.specs.declared.stop.Stop.TheVariants as stops
use Rattle.babel_dump.specs.declared.unread_tlv.UnreadTlv.{UnreadTlv}
use Rattle.babel_dump.proofs.UnreadTlvs.{front_of_packet}

packet_not_left : (said : Said) (packet : BabelPacket) → packet_said said ≡ Some packet → left_said said ≡ None
packet_not_left (saids.Packet one) packet is = refl
packet_not_left saids.Nothing packet is = refl
packet_not_left (saids.Missed missed) packet is = absurd cc
packet_not_left (saids.LeftOut origin reason) packet is = absurd cc

module _ (events : Events) (told : Record) (packet : BabelPacket) (old : Follower) (start : Start) (at : ℕ) (is : packet_said told.said ≡ Some packet)
    (begins : start ≡ start_of events packet.origin) (here : at ≡ octets_before old packet.origin) where
  pub whole_told : IsFirstOf start at packet.octets.now None → IsWholeTold events told old
  whole_told reads = (
    packet_not_left told.said packet is,
    subst (λ (p : Option BabelPacket). IfSome p (λ (q : BabelPacket). IsReadWholly (start_of events q.origin) (octets_before old q.origin) q.octets.now)) (sym is)
        (subst (λ (n : ℕ). IsReadWholly (start_of events packet.origin) n packet.octets.now) here (subst (λ (s : Start). IsReadWholly s at packet.octets.now) begins reads)),
  )

  module _ (unread : UnreadTlv) (reads : IsFirstOf start at packet.octets.now (Some unread)) where
    pub refused_told : (new : Follower) → HearsFront events told packet (framed (take unread.before (drop 4 packet.octets.now))) old new
        → RefusesTold events told old new (stops.Ignored packet.origin unread.tlv unread.ignores_encoding_4)
    refused_told new heard =
        let front = reads.0 in
        let to = reads.1 in (
          packet,
          front,
          is,
          refl,
          subst (λ (n : ℕ). IsReadTo (start_of events packet.origin) n packet.octets.now front (fault_of unread)) here
              (subst (λ (s : Start). IsReadTo s at packet.octets.now front (fault_of unread)) begins to),
          subst (λ octets. HearsFront events told packet octets old new) (front_of_packet at packet.octets.now front (to.last ∷ to.back) unread.before to.of_tlvs reads.2) heard,
        )
