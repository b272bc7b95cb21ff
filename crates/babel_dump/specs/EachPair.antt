-- What is told of the senders in two captures where there is no `--from`: of each with its fellow
-- in the other capture, or alone. It is this project's own.
use Rattle.std.specs.Prelude.{ℕ, true, ◌≡◌, List, ◌++◌, codes, length, map, None, Some}
use Rattle.std.specs.List.{flat_map}
use Rattle.babel_capture.specs.declared.tallies.Origin.{Origin}
use Rattle.babel_tlv.specs.Pair.{Pair}
use Rattle.babel_tlv.specs.declared.view.View.{View}
use Rattle.babel_table.specs.Rows.{Routes}
use Rattle.babel_table.specs.Seen.{seen_rows, seen_table}
use Rattle.babel_canon.specs.declared.every_difference.Difference.{Difference}
use Rattle.babel_dump.specs.DiffText.{change_text, head_lines, stat_after}
use Rattle.babel_dump.specs.EachSender.{read_by}
use Rattle.babel_dump.specs.Files.{name_of}
use Rattle.babel_dump.specs.InFormat.{difference_in, in_format}
use Rattle.babel_dump.specs.Led.{lead_in, led}
use Rattle.babel_dump.specs.Names.{style_of}
use Rattle.babel_dump.specs.RunText.{newline}
use Rattle.babel_dump.specs.Tasks.{ComparisonFinds}
use Rattle.babel_dump.specs.declared.each_pair.EachPair.{EachPair}
use Rattle.babel_dump.specs.declared.format.Format.{Format}
use Rattle.babel_dump.specs.declared.format.Format.TheVariants as formats
use Rattle.babel_dump.specs.declared.job.Comparison.{Comparison}
use Rattle.babel_dump.specs.declared.job.Comparison.TheVariants as comparisons
use Rattle.babel_dump.specs.declared.job.DiffStyle.{DiffStyle}
use Rattle.babel_dump.specs.declared.outcome.Outcome.{Outcome}
use Rattle.babel_dump.specs.declared.run_fault.Side.{Side}
use Rattle.babel_dump.specs.declared.run_fault.Side.TheVariants as sides

-- each line led by the sender, but not where `diff` names it before the rows, as people read them
abbrev pub told_in : Comparison → Format → (lead : List ℕ) → List ℕ → List ℕ
told_in (comparisons.Diff style) (formats.Text of_text) lead text = text
told_in (comparisons.Diff style) (formats.Json of_json) lead text =
    led (formats.Json of_json) lead true text
told_in (comparisons.Compare form listed) format lead text = led format lead true text

-- What is told of a sender at its place and its fellow at its own, whose interface has this name:
-- what the comparison finds of their tables.
pub record IsPairText (pairs : EachPair) (left right : Origin) (name : List ℕ)
    (table other : Routes) (lines : List ℕ) (status : ℕ) : Type 0 where
  pub text : List ℕ
  pub outcome : Outcome
  pub finds : ComparisonFinds pairs.task pairs.left.format pairs.view (name_of pairs.left.file)
      (name_of pairs.right.file) (read_by pairs.left left 0) (read_by pairs.right right 0)
      (seen_table pairs.view table) (seen_table pairs.view other) text outcome
  pub lines_are :
      lines ≡ told_in pairs.task pairs.left.format (lead_in pairs.left.format left name) text
  pub status_is : status ≡ outcome.status

-- ---- a sender that has no fellow

-- `only left`, `only right`, of `compare`
abbrev pub only_in : Format → Side → List ℕ
only_in format sides.First = in_format format (codes "only left" ++ newline)
    (codes "{\"same\":false,\"only\":\"left\"}" ++ newline)
only_in format sides.Other = in_format format (codes "only right" ++ newline)
    (codes "{\"same\":false,\"only\":\"right\"}" ++ newline)

-- a row that the sender on this side holds, and no other
abbrev pub lone_row : Side → Pair → Difference
lone_row sides.First row = record { key = row.0; left = Some row.1; right = None }
lone_row sides.Other row = record { key = row.0; left = None; right = Some row.1 }

-- of so many rows, those of the first capture
abbrev pub first_rows : Side → ℕ → ℕ
first_rows sides.First rows = rows
first_rows sides.Other rows = 0

-- all its rows, of `diff`, with the lines that name both captures also where it has no row
abbrev pub all_rows_in : Format → DiffStyle → View → (heads : List ℕ) → Side → List Pair → List ℕ
all_rows_in (formats.Text of_text) style view heads side rows =
    (heads ++ flat_map (change_text of_text style.coloured view) (map (lone_row side) rows))
    ++ stat_after (formats.Text of_text) style.stat (first_rows side (length rows))
    (map (lone_row side) rows)
all_rows_in (formats.Json of_json) style view heads side rows =
    flat_map (difference_in (formats.Json of_json) view) (map (lone_row side) rows)
    ++ stat_after (formats.Json of_json) style.stat (first_rows side (length rows))
    (map (lone_row side) rows)

abbrev pub alone_by : Comparison → EachPair → Side → Origin → List Pair → List ℕ
alone_by (comparisons.Compare form listed) pairs side origin rows =
    only_in pairs.left.format side
alone_by (comparisons.Diff style) pairs side origin rows =
    all_rows_in pairs.left.format style pairs.view
    (head_lines (style_of pairs.left.format) (name_of pairs.left.file) (name_of pairs.right.file)
    (read_by pairs.left origin 0) (read_by pairs.right origin 0)) side rows

abbrev pub alone_in : EachPair → Side → Origin → List Pair → List ℕ
alone_in pairs side origin rows = alone_by pairs.task pairs side origin rows

-- What is told of a sender that the capture on this side alone has: that, or its rows. It counts as
-- a difference.
pub record IsAloneText (pairs : EachPair) (side : Side) (origin : Origin) (name : List ℕ)
    (table : Routes) (lines : List ℕ) (status : ℕ) : Type 0 where
  pub lines_are : lines ≡ told_in pairs.task pairs.left.format
      (lead_in pairs.left.format origin name)
      (alone_in pairs side origin (seen_rows pairs.view table.rows))
  pub status_is : status ≡ 1
