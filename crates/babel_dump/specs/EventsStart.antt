-- What `events` has written where it fails: the start of its account. This project's own.
use Rattle.std.specs.Prelude.{ℕ, ◌≡◌, ◌⊎◌, List, ◌∷◌, ◌++◌, []}
use Rattle.std.specs.Io.KnownBytes.{Appends}
use Rattle.babel_capture.specs.Counts.{Made}
use Rattle.babel_capture.specs.Gathering.{Gathering}
use Rattle.babel_timeline.specs.declared.telling.Telling.{Telling}
use Rattle.babel_dump.specs.CaptureGiven.{BeginsWith}
use Rattle.babel_dump.specs.Device.{AppendsPrefix, Gave, InputState}
use Rattle.babel_dump.specs.EventsCause.{IsRefused, IsWhole, reading_by}
use Rattle.babel_dump.specs.EventsRun.{AreLines, CountsRoutes, HaveToldSo, OpensRightly, Step}
use Rattle.babel_dump.specs.EventsRun.{TellsSilent, followed_by, last_time, made_in, told_in}
use Rattle.babel_dump.specs.EventsRun.{written_in}
use Rattle.babel_dump.specs.FollowedSenders.{followed}
use Rattle.babel_dump.specs.Run.{Output}
use Rattle.babel_dump.specs.declared.events_job.Events.{Events}
use Rattle.babel_dump.specs.declared.speaker.Speaker.{Speaker}
use Rattle.babel_dump.specs.declared.trouble.Trouble.{Trouble}

-- The records told what they say, one after another, as where a run ends well; and of that this is to
-- be written.
pub record TellsRecords (events : Events) (made : List Made) (written : List (Telling Speaker)) :
    Type 0 where
  pub steps : List Step
  pub are_made : made_in steps ≡ made
  pub each : (front back : List Step) → steps ≡ front ++ back → HaveToldSo events front
  pub opens : (front back : List Step) (step : Step) → steps ≡ front ++ step ∷ back
      → OpensRightly events front step
  pub silent : (front back : List Step) → steps ≡ front ++ back
      → TellsSilent events (last_time (made_in front)) (made_in front) (told_in front)
  pub counts : (front back : List Step) (step : Step) → steps ≡ front ++ step ∷ back
      → CountsRoutes events (made_in front) (told_in front) step.told
  pub written_is : written ≡ written_in events [] steps

-- behind these first of the records the next is refused
abbrev pub IsNextRefused : Events → (front all : List Made) → Type 0
IsNextRefused events front all = (one : Made) × (back : List Made) × (all ≡ front ++ one ∷ back)
    × ((trouble : Trouble) × IsRefused events front one trouble)

-- these are all records of a capture, also of datagrams of which fragments are missing at its end
abbrev pub AreWhole : Events → (octets : List ℕ) → List Made → Type 0
AreWhole events octets made = (gathering : Gathering) × (whole : IsWhole events octets gathering)
    × (made ≡ whole.is_read.is_read.gathered.made)

-- The start of what is told of octets of a capture: what the first records tell, as far as their
-- senders are followed. Behind these there may be something of the next only where that is refused,
-- and of what has ended only where they are all.
pub record BeginsTold (events : Events) (octets : List ℕ) (written : List (Telling Speaker)) :
    Type 0 where
  pub made : List Made
  pub begins : BeginsWith (reading_by events) (followed_by events) octets made
      ⊎ AreWhole events octets made
  pub front : List Made
  pub back : List Made
  pub are : followed made ≡ front ++ back
  pub first : List (Telling Speaker)
  pub tells : TellsRecords events front first
  pub besides : List (Telling Speaker)
  pub written_is : written ≡ first ++ besides
  pub may : (besides ≡ []) ⊎ IsNextRefused events front (followed made)
      ⊎ (AreWhole events octets made × (back ≡ []))

-- the writer took the first octets of the lines of what is told and the filter keeps
pub record WroteSome (events : Events) (told : List (Telling Speaker)) (writer : Output) :
    Type 0 where
  pub text : List ℕ
  pub lines : AreLines events told text
  pub wrote : AppendsPrefix writer.old.taken writer.new.taken text

-- behind what was written before, the writer took the first octets of more, which these octets tell
pub record WroteBehind (events : Events) (octets : List ℕ) (before : List (Telling Speaker))
    (writer : Output) : Type 0 where
  pub more : List (Telling Speaker)
  pub told : BeginsTold events octets (before ++ more)
  pub wrote : WroteSome events more writer

-- the same of all octets that the reader gave
pub record WroteStart (events : Events) (old new : InputState) (writer : Output) : Type 0 where
  pub octets : List ℕ
  pub gave : Gave old new octets
  pub wrote : WroteBehind events octets [] writer

-- nothing was written, or the start of what is told
abbrev pub StartsEvents : Events → (old new : InputState) → Output → Type 0
StartsEvents events old new writer = Appends writer.old.taken writer.new.taken []
    ⊎ WroteStart events old new writer
