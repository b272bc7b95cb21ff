use Rattle.std.proofs.Common.{[], List, sym, subst}
use Rattle.babel_tlv.specs.Pair.{Pair}
use Rattle.babel_canon.specs.Canonical.{AreCanonical}
use Rattle.babel_canon.proofs.canon.canonical_pairs.Goals as goal

pub returns-clause-ok : goal.returns-clause-ok
returns-clause-ok c =
    subst (λ (ps : List Pair). AreCanonical c.args.limits c.args.table.now.rows ps) (sym (c.in_ok-put.ensures.ok c.in_ok-list.list [] c.in_ok-list.ensures.items)) c.in_ok-pairs.ensures.ok
