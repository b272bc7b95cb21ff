-- It is added where it has packets.
use Rattle.std.proofs.Common.{◌≡◌, false, rules, true}
use Rattle.babel_dump.proofs.HeardLaws.{heard_none, heard_one}
use Rattle.babel_dump.proofs.events.Followed.add_heard.Goals as goal

pub returns-then-not-has_packets : goal.returns-then-not-has_packets
returns-then-not-has_packets c =
    let no : c.args.has_packets ≡ false = search rules in heard_none c.args.self.now c.args.senders.now.items c.args.origin c.args.has_packets no

pub returns : goal.returns
returns c =
    let yes : c.args.has_packets ≡ true = search rules in
    heard_one c.args.self.now c.args.senders.now.items c.args.origin c.args.has_packets c.push.new.self.items _ yes c.in_ok-push.ensures.items c.in_ok-heard.ensures
