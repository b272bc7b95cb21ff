use Rattle.babel_dump.proofs.Forms.{normal_of}
use Rattle.babel_dump.proofs.normalise.normal_octets.Goals as goal

pub returns-clause-ok : goal.returns-clause-ok
returns-clause-ok c =
    normal_of c.args.reading c.args.view c.args.body c.args.table c.seen.result c.seen.ensures
    c.canonical_octets_tell_answers.ensures c.canonical_octets_tell_answers_under.ensures.headline c.canonical_octets_tell_answers_under.ensures.all
    c.answers_are_told.ensures.headline c.entries.ensures.valid c.octets.ensures.valid c.in_ok-octets.octets.items c.in_ok-octets.ensures.ok
