use Rattle.std.proofs.Common.{rules, ◌≡◌}
use Rattle.std.specs.BTreeMap.{insert_entry}
use Rattle.babel_capture.specs.contracts.tallies.OriginOrd.TheImpl.{ghosts}
use Rattle.babel_dump.proofs.FollowedLaws.{put_so}
use Rattle.babel_dump.proofs.followed_senders.FollowedSenders.put.Goals as goal

pub returns-in-Ok : goal.returns-in-Ok
returns-in-Ok c =
    let put : c.insert.new.self.entries ≡ insert_entry ghosts.cmp c.args.self.now.senders.entries c.args.origin c.args.has_packets = search rules in
    put_so c.args.self.now.senders.entries c.insert.new.self.entries c.args.origin c.args.has_packets put
