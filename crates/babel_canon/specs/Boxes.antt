-- The boxes of what a table answers (RFC 9079, 4), in both families. Boxes are this project's own.
use Rattle.std.specs.Prelude.{List}
use Rattle.babel_prefix.specs.declared.family.Family.{Family}
use Rattle.babel_prefix.specs.Width.{width_of}
use Rattle.babel_prefix.specs.Entries.{rows_in, answers_in}
use Rattle.babel_trie.specs.Boxes.{Answers, IsBoxList}
use Rattle.babel_tlv.specs.declared.held.Held.{Held}
use Rattle.babel_tlv.specs.Pair.{Pair}
use Rattle.babel_table.specs.Rows.{entries_of}
use Rattle.babel_table.specs.TableRows.{AreRows}

-- what rows answer for the addresses of a family
abbrev pub answers_of : Family → List Pair → Answers Held
answers_of family rows = answers_in family (entries_of rows)

-- The boxes of the answers of rows: of each family the largest destination blocks on which all
-- answers are the same, and for each the largest source blocks that have one answer, with that
-- answer; IPv4 first, then by destination, then by source.
pub record AreBoxes (rows boxes : List Pair) : Type 0 where
  pub are_rows : AreRows boxes
  pub exact : (family : Family)
      → IsBoxList (width_of family) (answers_of family rows) (rows_in family (entries_of boxes))
