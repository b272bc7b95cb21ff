-- What was heard of each sender, as the code has it: this project's own.
use Rattle.std.specs.Prelude.{ℕ, List}
use Rattle.babel_capture.specs.Gathering.{name_of}
use Rattle.babel_capture.specs.declared.tallies.Origin.{Origin}
use Rattle.babel_table.specs.Counts.{Counts}
use Rattle.babel_timeline.specs.Hearing.{report_of}
use Rattle.babel_dump.specs.Speakers.{speaker_cmp}
use Rattle.babel_dump.specs.declared.events.Followed.{Followed}
use Rattle.babel_dump.specs.declared.events_outcome.HeardSender.{HeardSender}

-- the sender, the name of its interface and its report
abbrev pub heard_told : HeardSender → Origin × List ℕ × Counts
heard_told heard = (heard.origin, heard.name.items, heard.report)

abbrev pub heard_of : Followed → Origin → Origin × List ℕ × Counts
heard_of followed origin = (
  origin,
  name_of followed.capture.progress.gathering origin.place.interface,
  report_of speaker_cmp followed.follower.hearing.teller.heard.entries
      (record { sender = origin.sender; place = origin.place }),
)
