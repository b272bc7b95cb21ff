-- The least pair of addresses at which two tables answer (RFC 9079, 4) differently. Their order is
-- this project's own.
use Rattle.std.specs.Prelude.{◌≡◌, ◌≢◌, ◌⊎◌, ◌<◌, List, Option}
use Rattle.babel_prefix.specs.Order.{family_rank}
use Rattle.babel_prefix.specs.Address.{Address, IsAddress}
use Rattle.babel_prefix.specs.Entries.{answer_for}
use Rattle.babel_tlv.specs.declared.held.Held.{Held}
use Rattle.babel_tlv.specs.Pair.{Pair}
use Rattle.babel_table.specs.Rows.{entries_of}
use Rattle.babel_canon.specs.Answers.{AnswerTheSame}
use Rattle.babel_canon.specs.declared.verdict.Verdict.{Verdict}
use Rattle.babel_canon.specs.declared.verdict.Verdict.TheVariants as verdicts

-- the first pair of addresses is lower: by family, IPv4 first, then by destination, then by source
abbrev pub IsLower : Address → Address → Address → Address → Type 0
IsLower d s dst src =
    (family_rank d.family < family_rank dst.family)
    ⊎ ((d.family ≡ dst.family)
    × ((d.bits < dst.bits) ⊎ ((d.bits ≡ dst.bits) × (s.bits < src.bits))))

-- At this destination and source, of one family, the tables answer so, and differently; and at each
-- lower pair they answer the same.
pub record IsLeastDifference (rows others : List Pair) (dst src : Address)
    (left right : Option Held) : Type 0 where
  pub dst_fits : IsAddress dst
  pub src_fits : IsAddress src
  pub one_family : dst.family ≡ src.family
  pub left_is : left ≡ answer_for (entries_of rows) dst src
  pub right_is : right ≡ answer_for (entries_of others) dst src
  pub differs : left ≢ right
  pub same_below :
      (d s : Address) → IsAddress d → IsAddress s → d.family ≡ s.family → IsLower d s dst src
      → answer_for (entries_of rows) d s ≡ answer_for (entries_of others) d s

-- the same answers everywhere, or the least difference
abbrev pub IsVerdict : List Pair → List Pair → Verdict → Type 0
IsVerdict rows others verdicts.Same = AnswerTheSame rows others
IsVerdict rows others (verdicts.Differ dst src left right) =
    IsLeastDifference rows others dst src left right
