-- The tag is that of the key's numbers.
use Rattle.std.proofs.Common.{refl}
use Rattle.babel_table.specs.Said.{tag_of}
use Rattle.babel_table.proofs.compact_key.CompactKey.tag.Goals as goal

pub returns : goal.returns
unfolding tag_of
returns g c =
    rw (c.mixed.ensures, c.fold.ensures, c.fold-2.ensures, c.from.ensures, c.from-2.ensures, ← c.self.view_is) refl
