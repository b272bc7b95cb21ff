-- The least difference of two tables, family by family, as it is looked for.
use Rattle.std.specs.Prelude.{◌≡◌, List, Option, Some, None}
use Rattle.babel_prefix.specs.declared.family.Family.{Family}
use Rattle.babel_prefix.specs.Width.{width_of}
use Rattle.babel_prefix.specs.Address.{Address}
use Rattle.babel_prefix.specs.Entries.{answer_for}
use Rattle.babel_trie.specs.Boxes.{SameAnswers}
use Rattle.babel_trie.specs.Boxes.{IsLeastDifference as IsLeastPair}
use Rattle.babel_tlv.specs.Pair.{Pair}
use Rattle.babel_table.specs.Rows.{entries_of}
use Rattle.babel_canon.specs.Boxes.{answers_of}
use Rattle.babel_canon.specs.Answers.{AnswerTheSame}
use Rattle.babel_canon.specs.Verdict.{IsLeastDifference}

-- no pair, where the answers are the same everywhere, or the pair of the least difference
abbrev pub IsFirstDifference : List Pair → List Pair → Option (Address × Address) → Type 0
IsFirstDifference rows others None = AnswerTheSame rows others
IsFirstDifference rows others (Some (dst, src)) =
    IsLeastDifference rows others dst src
    (answer_for (entries_of rows) dst src) (answer_for (entries_of others) dst src)

-- the same answers in one family
abbrev pub SameInFamily : Family → List Pair → List Pair → Type 0
SameInFamily family rows others =
    SameAnswers (width_of family) (answers_of family rows) (answers_of family others)

-- the least difference in one family
pub record IsLeastInFamily (family : Family) (rows others : List Pair) (dst src : Address) :
    Type 0 where
  pub dst_of : dst.family ≡ family
  pub src_of : src.family ≡ family
  pub least : IsLeastPair (width_of family) (answers_of family rows) (answers_of family others)
      dst.bits src.bits

-- no pair, where the answers in one family are the same, or the pair of the least difference in it
abbrev pub IsFirstInFamily : Family → List Pair → List Pair → Option (Address × Address) → Type 0
IsFirstInFamily family rows others None = SameInFamily family rows others
IsFirstInFamily family rows others (Some (dst, src)) = IsLeastInFamily family rows others dst src
