use Rattle.std.proofs.Common.{ap, rules}
use Rattle.babel_dump.proofs.HeardOthers.{others_none}
use Rattle.babel_dump.proofs.other_sources.OtherSources.new.Goals as goal

pub returns : goal.returns
returns c =
    others_none c.args.events.now _ c.requires.any c.requires.of (record { factor = search rules; limit = search rules; view = c.new.ensures.view; asked = search rules })
    (ap (λ t. t.rows) c.new.ensures.rows) c.new.ensures.heard (search rules)
