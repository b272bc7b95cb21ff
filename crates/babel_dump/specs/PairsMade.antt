-- How what is told of the senders in two captures is made, one pair after another: this project's
-- own.
use Rattle.std.specs.Prelude.{ℕ, ◌≡◌, List, ◌++◌, max, Some}
use Rattle.babel_capture.specs.Counts.{Made}
use Rattle.babel_capture.specs.declared.tallies.Origin.{Origin}
use Rattle.babel_dump.specs.EachSender.{IsFedOwn, first_missed, own_packets, table_at}
use Rattle.babel_dump.specs.ToldPairs.{Heard}
use Rattle.babel_dump.specs.declared.capture_input.CaptureRead.{CaptureRead}
use Rattle.babel_dump.specs.declared.each_sender.EachSender.{EachSender}
use Rattle.babel_dump.specs.declared.sender_tables.SenderTable.{SenderTable}
use Rattle.babel_dump.specs.declared.told_pairs.ToldPairs.{ToldPairs}

-- what is known of a capture of which this was read, and whose records made this
abbrev pub heard_in : CaptureRead → List Made → Heard
heard_in read made =
    record { made = made; moment = read.moment; gathering = read.gathered }

-- tables of senders, each of its own packets
abbrev pub HasTables : EachSender → List Made → List (Origin × SenderTable) → Type 0
HasTables each made tables = (origin : Origin) (table : SenderTable)
    → table_at tables origin ≡ Some table
    → IsFedOwn each origin (own_packets origin made) (first_missed origin made) table

-- some of the tables are left
abbrev pub Leaves : (old new : List (Origin × SenderTable)) → Type 0
Leaves old new = (origin : Origin) (table : SenderTable) → table_at new origin ≡ Some table
    → table_at old origin ≡ Some table

-- lines and a status of which this holds are told besides
pub record TellsMore (old new : ToldPairs) (Are : (lines : List ℕ) → (status : ℕ) → Type 0) :
    Type 0 where
  pub lines : List ℕ
  pub status : ℕ
  pub are : Are lines status
  pub lines_are : new.lines.items ≡ old.lines.items ++ lines
  pub status_is : new.status ≡ max old.status status
