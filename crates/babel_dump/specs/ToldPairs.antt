-- What is told of the senders in two captures, all together, where there is no `--from`: it is this
-- project's own.
use Rattle.std.specs.Prelude.{ℕ, ◌≡◌, List, [], fold, map, max, Option, None, Some, true}
use Rattle.std.specs.List.{AllByRecursion, flat_map}
use Rattle.babel_capture.specs.Counts.{Made}
use Rattle.babel_capture.specs.Gathering.{Gathering, name_of}
use Rattle.babel_capture.specs.declared.tallies.Origin.{Origin}
use Rattle.babel_table.specs.Rows.{Routes}
use Rattle.babel_dump.specs.EachPair.{IsAloneText, IsPairText}
use Rattle.babel_dump.specs.EachSender.{IsOwnTable, NoSenderText}
use Rattle.babel_dump.specs.Fellows.{AreFellows}
use Rattle.babel_dump.specs.Strict.{IsReadWhole}
use Rattle.babel_dump.specs.declared.each_pair.EachPair.{EachPair}
use Rattle.babel_dump.specs.declared.each_sender.EachSender.{EachSender}
use Rattle.babel_dump.specs.declared.fellows.Fellows.{Fellows}
use Rattle.babel_dump.specs.declared.fellows.Fellows.TheVariants as fellows
use Rattle.babel_dump.specs.declared.input_fault.InputFault.{InputFault}
use Rattle.babel_dump.specs.declared.run_fault.Side.{Side}
use Rattle.babel_dump.specs.declared.run_fault.Side.TheVariants as sides
use Rattle.babel_dump.specs.declared.told_pairs.ToldPairs.{ToldPairs}

-- what the records of a capture made, up to when it was read, and what was gathered of it
pub record Heard : Type 0 where
  pub made : List Made
  pub moment : Option ℕ
  pub gathering : Gathering

-- the table of a sender's own packets, or that its dump is refused
abbrev pub IsOwnRead : EachSender → Heard → Origin → Option Routes → Type 0
IsOwnRead each heard origin (Some table) = IsOwnTable each heard.made heard.moment origin table
    × (each.strict ≡ true → IsReadWhole None table.report)
IsOwnRead each heard origin None =
    (fault : InputFault) × NoSenderText each heard.made heard.moment origin fault

-- what is told of a sender and its fellow: nothing where one is refused
abbrev pub TellsBoth : EachPair → (left right : Origin) → (name : List ℕ)
    → (table other : Option Routes) → (lines : List ℕ) → (status : ℕ) → Type 0
TellsBoth pairs left right name (Some table) (Some other) lines status =
    IsPairText pairs left right name table other lines status
TellsBoth pairs left right name table other lines status = (lines ≡ []) × (status ≡ 0)

-- and of one that has none
abbrev pub TellsAlone : EachPair → Side → Origin → (name : List ℕ) → (table : Option Routes)
    → (lines : List ℕ) → (status : ℕ) → Type 0
TellsAlone pairs side origin name (Some table) lines status =
    IsAloneText pairs side origin name table lines status
TellsAlone pairs side origin name None lines status = (lines ≡ []) × (status ≡ 0)

abbrev pub interface_name : Heard → Origin → List ℕ
interface_name heard origin = name_of heard.gathering origin.place.interface

abbrev pub IsPairTold : EachPair → (left right : Heard) → Fellows → (lines : List ℕ)
    → (status : ℕ) → Type 0
IsPairTold pairs heard other_heard (fellows.Both left right) lines status =
    (table : Option Routes) × (other : Option Routes) × IsOwnRead pairs.left heard left table
    × IsOwnRead pairs.right other_heard right other
    × TellsBoth pairs left right (interface_name heard left) table other lines status
IsPairTold pairs heard other_heard (fellows.Left origin) lines status =
    (table : Option Routes) × IsOwnRead pairs.left heard origin table
    × TellsAlone pairs sides.First origin (interface_name heard origin) table lines status
IsPairTold pairs heard other_heard (fellows.Right origin) lines status =
    (table : Option Routes) × IsOwnRead pairs.right other_heard origin table
    × TellsAlone pairs sides.Other origin (interface_name other_heard origin) table lines status

-- a pair, or a sender alone, and what is told of it
pub record PairTold : Type 0 where
  pub fellows : Fellows
  pub lines : List ℕ
  pub status : ℕ

-- each sender in two captures is in one pair with its fellow, or alone; and this is told of them, in
-- their order, with the greatest status
pub record ArePairsTold (pairs : EachPair) (heard other_heard : Heard) (senders others : List Origin)
    (made : ToldPairs) : Type 0 where
  pub told : List PairTold
  pub are_fellows : AreFellows senders others (map (λ one. one.fellows) told)
  pub are_told : AllByRecursion
      (λ one. IsPairTold pairs heard other_heard one.fellows one.lines one.status) told
  pub lines : made.lines.items ≡ flat_map (λ one. one.lines) told
  pub status : made.status ≡ fold (λ status one. max status one.status) 0 told
