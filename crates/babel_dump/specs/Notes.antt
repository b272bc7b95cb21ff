-- The notes about a capture, in their order, and the numbers that they have: this project's own.
use Rattle.std.specs.Prelude.{ℕ, ◌*◌, ◌/◌, ◌-◌, ◌==◌, nat_lt, if◌then◌else◌, List, [], ◌∷◌}
use Rattle.std.specs.Prelude.{Option, Some, None}
use Rattle.std.specs.Option.{option_and_then, option_map}
use Rattle.babel_capture.specs.declared.timing.Timing.{Timing}
use Rattle.babel_capture.specs.Counts.{Counts}
use Rattle.babel_table.specs.Counts.{Counts as DumpCounts}
use Rattle.babel_dump.specs.declared.ignored_note.IgnoredNote.{IgnoredNote}
use Rattle.babel_dump.specs.declared.left_out.LeftOutNote.{LeftOutNote}
use Rattle.babel_dump.specs.declared.note.Note.{Note}
use Rattle.babel_dump.specs.declared.note.Note.TheVariants as notes
use Rattle.babel_dump.specs.declared.note.SideNote.{SideNote}
use Rattle.babel_dump.specs.declared.run_fault.Side.{Side}

-- a note about the input on this side, if there is one
abbrev pub told : Side → Option Note → List SideNote
told side None = []
told side (Some note) = record { side = side; note = note } ∷ []

-- the note, if so many are more than these
abbrev pub above : ℕ → ℕ → Note → Option Note
above count most note = if nat_lt most count then Some note else None

-- from the earliest packet to the latest, in nanoseconds, where each has a time
abbrev pub span_of : Timing → Option ℕ
span_of timing =
    if timing.has_untimed then None
    else option_and_then (λ earliest. option_map (λ latest. latest - earliest) timing.latest)
    timing.earliest

-- that, in hundredths of a second, if it is less than the Interval
abbrev pub short_span : Timing → Option ℕ → Option Note
short_span timing None = None
short_span timing (Some interval) =
    option_and_then (λ span. if nat_lt span (interval * 10000000)
    then Some (notes.ShortSpan (span / 10000000) interval) else None) (span_of timing)

-- what was left out, if anything; frames without an interface; sections; trailers; where the
-- capture is cut short; the packet at which times run backwards; a span below this Interval
abbrev pub about_capture : Option LeftOutNote → Counts → Option ℕ → Option ℕ → List (Option Note)
about_capture left counts cut interval =
    option_map notes.LeftOut left
    ∷ above counts.cooked 0 notes.Cooked
    ∷ above counts.sections.count 1 (notes.Sections counts.sections.count)
    ∷ above counts.trailers 0 (notes.Trailers counts.trailers)
    ∷ option_map notes.CaptureCut cut
    ∷ option_map notes.Backwards counts.timing.backwards
    ∷ short_span counts.timing interval
    ∷ []

abbrev pub no_updates : DumpCounts → Option Note
no_updates counts = if counts.updates == 0 then Some notes.NoUpdates else None

-- of the dump of a sender: what was ignored, if anything; how many rows of its table were not
-- announced again in time; that it has no Update; and this note, if there is one
abbrev pub about_sender : Option IgnoredNote → DumpCounts → ℕ → Option Note → List (Option Note)
about_sender ignored counts expired_rows source =
    option_map notes.Ignored ignored ∷ above expired_rows 0 (notes.Expired expired_rows)
    ∷ no_updates counts ∷ source ∷ []
