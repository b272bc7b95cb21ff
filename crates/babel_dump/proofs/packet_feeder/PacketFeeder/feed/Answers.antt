-- The feeder hears the packet at its time.
use Rattle.std.proofs.Common.{rules, ◌≡◌, ℕ, [], ◌∷◌, subst}
use Rattle.std.specs.Option.{unwrap_or}
use Rattle.babel_dump.specs.Fed.{HearsMore}
use Rattle.babel_dump.proofs.PacketsFed.{hears_packet}
use Rattle.babel_dump.proofs.packet_feeder.PacketFeeder.feed.Goals as goal

pub returns : goal.returns
returns c =
    let old = c.args.self.now.feeder in
    let new = c.feed_at.new.self in
    let time : c.nanoseconds-time.result ≡ unwrap_or c.args.time 0 = search rules in
    let told = c.feed_at.ensures in
    subst (λ (t : ℕ). HearsMore old new ((t, c.args.packet.now) ∷ [])) time
    (hears_packet old new c.nanoseconds-time.result c.args.packet.now c.feed_at.result told.same told.heard told.truncated)
