-- The value is that of the first row.
use Rattle.std.proofs.Common.{Some, inr, refl, sym}
use Rattle.babel_trie.specs.Shape.{leaf}
use Rattle.babel_trie.proofs.PartLaws.{first_listed}
use Rattle.babel_trie.proofs.overlay.set.Goals as goal

pub returns-in-Some-clause-is : goal.returns-in-Some-clause-is
returns-in-Some-clause-is g c nodes t p =
    record { new = leaf (Some c.in-Some.row.now.2); stands = refl; is = inr (c.in-Some.row.now, first_listed c.args.rows.now c.in-Some.row.now (sym c.in-Some.ensures.value), refl) }
