-- The sender that alone announces in a capture, whose dump is read where there is no `--from`. It is
-- this project's own.
use Rattle.std.specs.Prelude.{ℕ, ◌≡◌, ◌≢◌, is_some, if◌then◌else◌, List, [], ◌∷◌, ◌++◌, codes}
use Rattle.std.specs.Prelude.{Option, None, Some, true}
use Rattle.std.specs.Io.KnownBytes.{Keeps}
use Rattle.std.specs.List.{flat_map}
use Rattle.babel_capture.specs.Gathering.{Gathering, name_of}
use Rattle.babel_capture.specs.declared.tallies.Origin.{Origin}
use Rattle.babel_capture.specs.declared.tallies.Tally.{Tally}
use Rattle.babel_dump.specs.Begun.{BeginsSo}
use Rattle.babel_dump.specs.CaptureGiven.{CaptureInput, GaveSound, capture_from}
use Rattle.babel_dump.specs.CaptureText.{place_json}
use Rattle.babel_dump.specs.JsonText.{quoted}
use Rattle.babel_dump.specs.NameText.{name_json}
use Rattle.babel_dump.specs.Names.{style_of}
use Rattle.babel_dump.specs.Given.{Reads}
use Rattle.babel_dump.specs.RunText.{newline}
use Rattle.babel_dump.specs.Spelling.{address_text}
use Rattle.babel_dump.specs.declared.begun.Begins.{Begins}
use Rattle.babel_dump.specs.declared.begun.Begins.TheVariants as beginnings
use Rattle.babel_dump.specs.declared.format.Format.{Format}
use Rattle.babel_dump.specs.declared.job.CaptureTask.{CaptureTask}
use Rattle.babel_dump.specs.declared.job.CaptureTask.TheVariants as capture_tasks
use Rattle.babel_dump.specs.declared.job.DumpSource.{DumpSource}
use Rattle.babel_dump.specs.declared.job.Work.{Work}
use Rattle.babel_dump.specs.declared.job.Work.TheVariants as works
use Rattle.babel_dump.specs.declared.lone_sender.Lone.{Lone}
use Rattle.babel_dump.specs.declared.lone_sender.LoneSender.{LoneSender}
use Rattle.babel_dump.specs.declared.spelling.Spelling.{Spelling}

-- the senders that announce, each at its place: of the Updates of each one announces, so that these
-- have a greatest Interval
abbrev pub announcing : List (Origin × Tally) → List Origin
announcing = flat_map (λ entry. if is_some entry.1.interval then entry.0 ∷ [] else [])

-- `{"note":"from","sender":"ADDRESS","interface":N,"link":N,"vlans":[N,N],"name":"NAME"}`
abbrev pub from_note : Spelling → Origin → (name : List ℕ) → List ℕ
from_note spelling origin name =
    codes "{\"note\":\"from\",\"sender\":" ++ quoted (address_text spelling origin.sender)
    ++ place_json origin.place ++ name_json name ++ codes "}" ++ newline

-- how a format writes addresses
abbrev pub spelling_of : Format → Spelling
spelling_of format = (style_of format).spelling

-- one alone announces, and is told so
pub record IsLoneIn (spelling : Spelling) (gathering : Gathering) (lone : LoneSender) : Type 0 where
  pub alone : announcing gathering.senders ≡ lone.origin ∷ []
  pub name_is : lone.name.items ≡ name_of gathering lone.origin.place.interface
  pub note_is : lone.note.items ≡ from_note spelling lone.origin lone.name.items

-- a dump that is read, or written, is then that of this sender at its place
abbrev pub source_with : Origin → DumpSource → DumpSource
source_with origin source = record source
    { reading = record source.reading { sender = origin.sender; place = Some origin.place } }

abbrev pub task_with : Origin → CaptureTask → CaptureTask
task_with origin (capture_tasks.Extract sender place hex) =
    capture_tasks.Extract origin.sender (Some origin.place) hex
task_with origin task = task

abbrev pub with_sender : Origin → Work → Work
with_sender origin (works.Dump source task) = works.Dump (source_with origin source) task
with_sender origin (works.Capture reading file task) =
    works.Capture reading file (task_with origin task)
with_sender origin work = work

-- the stream is a capture, in which this sender alone announces, at the place that is named if one
-- is; its dump is the one that is asked for
abbrev pub lone_from : Lone → Reads → CaptureInput
lone_from lone reader = capture_from reader.old reader.new lone.reading
    (record {
      sender = None;
      place = lone.place;
      are_listed = true;
      accepts_missing = lone.reading.accept_missing;
    })

pub record FoundLone (asked : Lone) (stream : Option (List ℕ)) (lone : Lone) : Type 0 where
  pub begins : Begins
  pub begun : BeginsSo stream begins
  pub no_dump : begins ≢ beginnings.Dump
  pub reader : Reads
  pub keeps : Keeps stream reader.old.left
  pub gathering : Gathering
  pub cut : Option ℕ
  pub gave : GaveSound (lone_from asked reader) gathering cut
  pub sender : LoneSender
  pub is_lone : IsLoneIn (spelling_of asked.job.format) gathering sender
  pub found : lone ≡ record asked {
    job = record asked.job { work = with_sender sender.origin asked.job.work };
    sender = Some sender;
  }
