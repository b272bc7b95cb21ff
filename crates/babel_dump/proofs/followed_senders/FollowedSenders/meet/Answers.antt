-- A sender that is followed is noted in its place, and a new one only where there is room.
use Rattle.std.proofs.Common.{rules, ◌≡◌, None, Some, false}
use Rattle.std.specs.Prelude.{◌||◌}
use Rattle.std.specs.BTreeMap.{is_at}
use Rattle.std.specs.Map.{lookup}
use Rattle.babel_capture.specs.contracts.tallies.OriginOrd.TheImpl.{ghosts}
use Rattle.babel_dump.specs.FollowedSenders.{has_room}
use Rattle.babel_dump.proofs.FollowedLaws.{follows_so, met_again}
use Rattle.babel_dump.proofs.followed_senders.FollowedSenders.meet.Goals as goal
use Rattle.babel_dump.proofs.followed_senders.FollowedSenders.meet.Goals.{then-is_packet, else-is_packet}

pub returns-in-Some : goal.returns-in-Some
returns-in-Some c =
    let senders = c.args.self.now.senders.entries in
    let origin = c.args.origin.now in
    let had = c.in-Some.has_packets.now in
    let noted = c.if-is_packet.has_packets in
    let is : noted ≡ c.args.is_packet || had = elim c.if-is_packet.branch [ then-is_packet w ↦ search rules | else-is_packet w ↦ search rules ] in
    let there : lookup (is_at (ghosts.cmp origin)) senders ≡ Some had = search rules in
    met_again senders (c.get_mut.follows.lender noted).entries origin c.args.octets.now c.args.is_packet had noted is there c.get_mut.ensures.ordered (c.get_mut.follows.holds noted).0
