-- What is told of the senders in a capture, all together, where there is no `--from`: it is this
-- project's own.
use Rattle.std.specs.Prelude.{ℕ, ◌≡◌, ◌+◌, ◌≤◌, List, [], ◌∷◌, fold, map, min, Option}
use Rattle.std.specs.Prelude.{Result, Ok, Err, MatchResult}
use Rattle.std.specs.List.{AllByRecursion, flat_map, zip}
use Rattle.babel_capture.specs.Counts.{Made}
use Rattle.babel_capture.specs.Gathering.{Gathering, name_of}
use Rattle.babel_capture.specs.declared.tallies.Origin.{Origin}
use Rattle.babel_dump.specs.EachSender.{IsSenderText, NoSenderText}
use Rattle.babel_dump.specs.declared.addr_pair.AddrPair.{AddrPair}
use Rattle.babel_dump.specs.declared.done.DumpRead.{DumpRead}
use Rattle.babel_dump.specs.declared.done.ToldSender.{ToldSender}
use Rattle.babel_dump.specs.declared.input_fault.InputFault.{InputFault}
use Rattle.babel_dump.specs.declared.key.TableText.{TableText}
use Rattle.babel_dump.specs.declared.told_senders.ToldSenders.{ToldSenders}
use Rattle.babel_dump.specs.declared.each_sender.EachSender.{EachSender}
use Rattle.babel_dump.specs.declared.each_sender.SenderTask.{SenderTask}
use Rattle.babel_dump.specs.declared.each_sender.SenderTask.TheVariants as sender_tasks

-- a sender at its place, and its key, or why it has none
pub record FoundText : Type 0 where
  pub origin : Origin
  pub key : Result TableText InputFault

abbrev pub IsFound :
    EachSender → List Made → (moment : Option ℕ) → Gathering → FoundText → Type 0
IsFound each made moment gathering found =
    MatchResult found.key
    (IsSenderText each made moment found.origin (name_of gathering found.origin.place.interface))
    (NoSenderText each made moment found.origin)

-- its line, the rows of its table, and what was read for it
abbrev pub line_of : Result TableText InputFault → List ℕ
line_of (Ok key) = key.line.items
line_of (Err fault) = []

abbrev pub rows_of : Result TableText InputFault → ℕ
rows_of (Ok key) = key.rows
rows_of (Err fault) = 0

-- 1 for each thing that is asked; and the lesser of two statuses of each, with those of one more
abbrev pub first_statuses : SenderTask → (asked : List AddrPair) → List ℕ
first_statuses (sender_tasks.Dump task) asked = 1 ∷ []
first_statuses (sender_tasks.Each file with_prefix) asked = map (λ pair. 1) asked

abbrev pub lesser : (before statuses : List ℕ) → List ℕ
lesser before statuses = map (λ two. min two.0 two.1) (zip before statuses)

abbrev pub statuses_with : List ℕ → Result TableText InputFault → List ℕ
statuses_with before (Ok key) = lesser before key.statuses.items
statuses_with before (Err fault) = before

abbrev pub read_of : Result TableText InputFault → Result DumpRead InputFault
read_of (Ok key) = Ok (record {
  report = key.report;
  expired_rows = key.expired_rows;
  note = key.source;
})
read_of (Err fault) = Err fault

-- what is told of a sender
pub record Told : Type 0 where
  pub origin : Origin
  pub name : List ℕ
  pub read : Result DumpRead InputFault

abbrev pub told_by : ToldSender → Told
told_by sender =
    record { origin = sender.origin; name = sender.name.items; read = sender.read }

abbrev pub told_of : Gathering → FoundText → Told
told_of gathering found = record {
  origin = found.origin;
  name = name_of gathering found.origin.place.interface;
  read = read_of found.key;
}

-- these are told of, with these lines and so many rows in all, which are no more than the limit
pub record TellsSenders (each : EachSender) (gathering : Gathering) (found : List FoundText)
    (made : ToldSenders) : Type 0 where
  pub senders : map told_by made.senders.items ≡ map (told_of gathering) found
  pub lines : made.lines.items ≡ flat_map (λ one. line_of one.key) found
  pub rows : made.rows ≡ fold (λ sum one. sum + rows_of one.key) 0 found
  pub few : made.rows ≤ each.limits.entries
  pub statuses : made.statuses.items ≡ fold (λ before one. statuses_with before one.key)
      (first_statuses each.task each.asked.items) found

-- each of these senders has its key or its fault, by what a capture's records made of its packets,
-- and all of them are told of
pub record AreTexts (each : EachSender) (records : List Made) (moment : Option ℕ)
    (gathering : Gathering) (senders : List Origin) (made : ToldSenders) : Type 0 where
  pub found : List FoundText
  pub of_each : map (λ one. one.origin) found ≡ senders
  pub are_found : AllByRecursion (IsFound each records moment gathering) found
  pub told : TellsSenders each gathering found made
