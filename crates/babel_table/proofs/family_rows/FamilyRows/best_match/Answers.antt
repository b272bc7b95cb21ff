-- The rows that stand are those that are looked through.
use Rattle.std.proofs.Common.{◌≡◌, refl}
use Rattle.babel_table.specs.Compact.{address_in}
use Rattle.babel_table.proofs.family_rows.FamilyRows.best_match.Goals as goal

pub best_standing-requires : goal.best_standing-requires
best_standing-requires g c = rw c.deref.ensures.value c.self.invariant.indexed.distinct

pub returns : goal.returns
returns g c =
    let dst : address_in g.W.Word.family (g.W.Word.number c.of.result) ≡ c.args.dst.now = rw (c.of.ensures, ← c.requires.dst_family) refl in
    let src : address_in g.W.Word.family (g.W.Word.number c.of-2.result) ≡ c.args.src.now = rw (c.of-2.ensures, ← c.requires.src_family) refl in
    rw (← c.self.view_is, ← dst, ← src, ← c.deref.ensures.value) c.best_standing.ensures
