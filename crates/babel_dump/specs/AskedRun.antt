-- What comes of what was asked for, over streams: this project's own.
use Rattle.std.specs.Prelude.{ℕ, ◌≡◌, ◌≢◌, ◌⊎◌, List, [], ◌∷◌, codes, map, Option, None, Some, IfSome}
use Rattle.std.specs.Io.KnownBytes.{Appends, Keeps}
use Rattle.std.specs.List.{AllByRecursion, Any, flat_map}
use Rattle.std.specs.Map.{keys_of}
use Rattle.babel_dump.specs.Begun.{BeginsSo}
use Rattle.babel_dump.specs.CaptureGiven.{CaptureInput, made_in}
use Rattle.babel_dump.specs.EventsCause.{EventsCause}
use Rattle.babel_dump.specs.EventsRun.{TellsEvents}
use Rattle.babel_dump.specs.EventsStart.{StartsEvents}
use Rattle.babel_dump.specs.Files.{reading_of}
use Rattle.babel_dump.specs.Given.{Reads}
use Rattle.babel_dump.specs.JobRun.{SaysBy}
use Rattle.babel_dump.specs.Originated.{AreOriginated}
use Rattle.babel_dump.specs.OriginText.{origins_in, origins_status}
use Rattle.babel_dump.specs.SelectHeard.{GaveSelecting}
use Rattle.babel_dump.specs.SelectTold.{TellsSelection}
use Rattle.babel_dump.specs.ToldOrigins.{AreAllRead, OwnRoutes, rows_of_all}
use Rattle.babel_dump.specs.ToldPairs.{ArePairsTold, Heard}
use Rattle.babel_dump.specs.ToldSenders.{AreTexts}
use Rattle.babel_dump.specs.Misplaced.{begun_work, misplaced_by}
use Rattle.babel_dump.specs.Run.{Output}
use Rattle.babel_dump.specs.RunText.{status_of_all}
use Rattle.babel_dump.specs.EachSender.{AsksPairs, GaveSenders, each_from}
use Rattle.babel_dump.specs.declared.asked.Asked.{Asked}
use Rattle.babel_dump.specs.declared.asked.Asked.TheVariants as askeds
use Rattle.babel_dump.specs.declared.begun.Begins.{Begins}
use Rattle.babel_dump.specs.declared.begun.Begins.TheVariants as beginnings
use Rattle.babel_dump.specs.declared.done.Done.{Done}
use Rattle.babel_dump.specs.declared.events_job.Events.{Events}
use Rattle.babel_dump.specs.declared.events_outcome.EventsOutcome.{EventsOutcome}
use Rattle.babel_dump.specs.declared.job.Job.{Job}
use Rattle.babel_dump.specs.declared.originated.OnSides.{OnSides}
use Rattle.babel_dump.specs.declared.originated.Origination.{Origination}
use Rattle.babel_dump.specs.declared.origins_job.Origins.{Origins}
use Rattle.babel_dump.specs.declared.told_pairs.ToldPairs.{ToldPairs}
use Rattle.babel_dump.specs.declared.told_senders.ToldSenders.{ToldSenders}
use Rattle.babel_dump.specs.declared.outcome.Outcome.{Outcome}
use Rattle.babel_dump.specs.declared.run_fault.Side.TheVariants as sides
use Rattle.babel_dump.specs.declared.each_pair.EachPair.{EachPair}
use Rattle.babel_dump.specs.declared.each_sender.EachSender.{EachSender}
use Rattle.babel_dump.specs.declared.each_sender.SendersRead.{SendersRead}
use Rattle.babel_dump.specs.declared.select_job.Select.{Select}
use Rattle.babel_dump.specs.declared.selection_read.SelectionRead.{SelectionRead}
use Rattle.babel_dump.specs.declared.trouble.Trouble.{Trouble}
use Rattle.babel_dump.specs.declared.trouble.Trouble.TheVariants as troubles

-- what the inputs of a job begin with: the other is looked at where a dump is read of it
pub record Beginnings (job : Job) (stream other : Option (List ℕ)) : Type 0 where
  pub first : Begins
  pub second : Begins
  pub begins : BeginsSo stream first
  pub other_begins : IfSome (reading_of sides.Other job.work) (λ reading. BeginsSo other second)

-- the option that was given for a dump, and is for captures alone
abbrev pub misplaced_at : {job : Job} {stream other : Option (List ℕ)}
    → Beginnings job stream other → Option (List ℕ)
misplaced_at {job} begun = misplaced_by begun.first begun.second job.work

-- A job was done: its dumps were read of captures where the streams begin as such, and no option was
-- misplaced; and the text was written that says what was found.
pub record DidJob (job : Job) (seed : ℕ) (stream other : Option (List ℕ)) (writer : Output)
    (done : Done) : Type 0 where
  pub begun : Beginnings job stream other
  pub placed : misplaced_at begun ≡ None
  pub reader : Reads
  pub second : Reads
  pub keeps : Keeps stream reader.old.left
  pub other_keeps : Keeps other second.old.left
  pub text : List ℕ
  pub outcome : Outcome
  pub says : SaysBy (begun_work begun.first begun.second seed job.work)
      (record job { work = begun_work begun.first begun.second seed job.work })
      reader second text outcome
  pub wrote : Appends writer.old.taken writer.new.taken text
  pub status : done.status ≡ outcome.status

-- The stream is no dump, but a capture, and what is told of its senders was written: of each that is
-- asked for and has a packet, or a datagram that is missed, its text is written, or its fault told.
-- The pairs that are looked up in each are those of the other stream.
pub record WroteSenders (each : EachSender) (stream other : Option (List ℕ)) (writer : Output)
    (done : Done) : Type 0 where
  pub begins : Begins
  pub begun : BeginsSo stream begins
  pub no_dump : begins ≢ beginnings.Dump
  pub second : Reads
  pub other_keeps : Keeps other second.old.left
  pub asking : EachSender
  pub asks : AsksPairs each second asking
  pub reader : Reads
  pub keeps : Keeps stream reader.old.left
  pub senders : SendersRead
  pub gave : GaveSenders asking (each_from asking reader.old reader.new) senders
  pub made : ToldSenders
  pub are_keys : AreTexts asking (made_in gave.gave.given) senders.read.moment senders.read.gathered
      (keys_of senders.tables.entries) made
  pub told : done.senders ≡ made.senders
  pub wrote : Appends writer.old.taken writer.new.taken made.lines.items
  pub status : done.status ≡ status_of_all made.statuses.items

-- the stream is no dump, but a capture, and this was read of its senders
pub record GaveOn (each : EachSender) (stream : Option (List ℕ)) (senders : SendersRead) :
    Type 0 where
  pub begins : Begins
  pub begun : BeginsSo stream begins
  pub no_dump : begins ≢ beginnings.Dump
  pub reader : Reads
  pub keeps : Keeps stream reader.old.left
  pub gave : GaveSenders each (each_from each reader.old reader.new) senders

-- what is known of the capture
abbrev pub heard_of : {each : EachSender} {stream : Option (List ℕ)} → (senders : SendersRead)
    → GaveOn each stream senders → Heard
heard_of senders on = record {
  made = made_in on.gave.gave.given;
  moment = senders.read.moment;
  gathering = senders.read.gathered;
}

-- The streams are such captures, and what is told of each sender with its fellow was written.
pub record WrotePairs (pairs : EachPair) (stream other : Option (List ℕ)) (writer : Output)
    (done : Done) : Type 0 where
  pub senders : SendersRead
  pub other_senders : SendersRead
  pub first : GaveOn pairs.left stream senders
  pub second : GaveOn pairs.right other other_senders
  pub made : ToldPairs
  pub are_told : ArePairsTold pairs (heard_of senders first)
      (heard_of other_senders second) (keys_of senders.tables.entries)
      (keys_of other_senders.tables.entries) made
  pub told : done.senders ≡ made.senders.told
  pub wrote : Appends writer.old.taken writer.new.taken made.lines.items
  pub status : done.status ≡ made.status

-- the stream is such a capture, and these are the tables of its senders, of which none is refused
pub record AreReadOn (each : EachSender) (stream : Option (List ℕ)) (found : List OwnRoutes) :
    Type 0 where
  pub senders : SendersRead
  pub on : GaveOn each stream senders
  pub are_read : AreAllRead each (heard_of senders on) (keys_of senders.tables.entries) found

-- a capture, and the tables of its senders
pub record CaptureRoutes : Type 0 where
  pub stream : Option (List ℕ)
  pub found : List OwnRoutes

-- each of the streams is such a capture, read by itself, and these are the tables of all senders
pub record AreAllReadOn (each : EachSender) (streams : List (Option (List ℕ)))
    (found : List OwnRoutes) : Type 0 where
  pub captures : List CaptureRoutes
  pub of_each : map (λ one. one.stream) captures ≡ streams
  pub are_read : AllByRecursion (λ one. AreReadOn each one.stream one.found) captures
  pub of_all : found ≡ flat_map (λ one. one.found) captures

-- none where there is no capture
abbrev pub IsReadOn : Option EachSender → List (Option (List ℕ)) → List OwnRoutes → Type 0
IsReadOn None streams found = found ≡ []
IsReadOn (Some each) streams found = AreAllReadOn each streams found

-- What the senders in the captures originate was written: by all rows that the filter keeps, of all
-- captures on a side.
pub record WroteOrigins (origins : Origins) (streams others : List (Option (List ℕ)))
    (writer : Output) (done : Done) : Type 0 where
  pub left : List OwnRoutes
  pub right : List OwnRoutes
  pub first : AreAllReadOn origins.left streams left
  pub second : IsReadOn origins.right others right
  pub all : List (Origination × OnSides)
  pub are : AreOriginated all (rows_of_all origins.filter left) (rows_of_all origins.filter right)
  pub wrote : Appends writer.old.taken writer.new.taken (origins_in origins all)
  pub status : done.status ≡ origins_status origins all

-- what is known of the capture of which this was read for a router that selects
abbrev pub heard_selecting : {select : Select} {reader : CaptureInput} → (read : SelectionRead)
    → GaveSelecting select reader read → Heard
heard_selecting read gave = record {
  made = made_in gave.gave.given;
  moment = read.senders.read.moment;
  gathering = read.senders.read.gathered;
}

-- What a router selects, of what its neighbours announce in a capture, was written.
pub record WroteSelection (select : Select) (stream : Option (List ℕ)) (writer : Output)
    (done : Done) : Type 0 where
  pub reader : Reads
  pub keeps : Keeps stream reader.old.left
  pub read : SelectionRead
  pub gave : GaveSelecting select (each_from select.each reader.old reader.new) read
  pub text : List ℕ
  pub tells : TellsSelection select (heard_selecting read gave)
      (keys_of read.senders.tables.entries) text done.status
  pub wrote : Appends writer.old.taken writer.new.taken text

-- what changed in a capture was told
pub record ToldEvents (events : Events) (stream : Option (List ℕ)) (writer : Output)
    (done : Done) : Type 0 where
  pub reader : Reads
  pub keeps : Keeps stream reader.old.left
  pub answer : EventsOutcome
  pub tells : TellsEvents events reader.old reader.new writer answer
  pub status : done.status ≡ answer.outcome.status

-- what was asked for was done, of the first stream and of the other, and of more on either side
abbrev pub Did : Asked → (seed : ℕ) → (stream other : Option (List ℕ))
    → (more other_more : List (Option (List ℕ))) → Output → Done → Type 0
Did (askeds.Job job) seed stream other more other_more = DidJob job seed stream other
Did (askeds.Lone lone) seed stream other more other_more = DidJob lone.job seed stream other
Did (askeds.EachSender each) seed stream other more other_more = WroteSenders each stream other
Did (askeds.EachPair pairs) seed stream other more other_more = WrotePairs pairs stream other
Did (askeds.Origins origins) seed stream other more other_more =
    WroteOrigins origins (stream ∷ more) (other ∷ other_more)
Did (askeds.Events events) seed stream other more other_more = ToldEvents events stream
Did (askeds.Select select) seed stream other more other_more = WroteSelection select stream

-- the option that is told as misplaced
abbrev pub misplaced_told : Trouble → Option (List ℕ)
misplaced_told (troubles.Misplaced side option) = Some option.now
misplaced_told trouble = None

-- only an option that was misplaced is told so
abbrev pub IsJobRefused : Job → (stream other : Option (List ℕ)) → Trouble → Type 0
IsJobRefused job stream other trouble =
    IfSome (misplaced_told trouble)
    (λ option. (begun : Beginnings job stream other) × (misplaced_at begun ≡ Some option))

-- `--origins` alone is told so, and only where this is so
abbrev pub IsMisplacedIn : Type 0 → Trouble → Type 0
IsMisplacedIn IsSo trouble =
    IfSome (misplaced_told trouble) (λ option. (option ≡ codes "--origins") × IsSo)

abbrev pub IsDump : Option (List ℕ) → Type 0
IsDump stream = BeginsSo stream beginnings.Dump

-- one of the streams is a dump
abbrev pub HaveDump : List (Option (List ℕ)) → Type 0
HaveDump streams = Any IsDump streams

-- that is one of these, or of those on the other side
abbrev pub IsOriginsRefused : (streams others : List (Option (List ℕ))) → Trouble → Type 0
IsOriginsRefused streams others = IsMisplacedIn (HaveDump streams ⊎ HaveDump others)

abbrev pub IsRefused : Asked → (stream other : Option (List ℕ))
    → (more other_more : List (Option (List ℕ))) → Trouble → Type 0
IsRefused (askeds.Job job) stream other more other_more = IsJobRefused job stream other
IsRefused (askeds.Lone lone) stream other more other_more = IsJobRefused lone.job stream other
IsRefused (askeds.Origins origins) stream other more other_more =
    IsOriginsRefused (stream ∷ more) (other ∷ other_more)
IsRefused (askeds.Select select) stream other more other_more =
    λ trouble. misplaced_told trouble ≡ None
IsRefused asked stream other more other_more = λ trouble. Unit {0}

-- what changed in a capture was not told to its end, for this cause: only its start was
pub record FailedEvents (events : Events) (stream : Option (List ℕ)) (writer : Output)
    (trouble : Trouble) : Type 0 where
  pub reader : Reads
  pub keeps : Keeps stream reader.old.left
  pub cause : EventsCause events reader.old reader.new writer trouble
  pub start : StartsEvents events reader.old reader.new writer

-- why what was asked for was not done: of `events`
abbrev pub Failed : Asked → (stream : Option (List ℕ)) → Output → Trouble → Type 0
Failed (askeds.Events events) stream writer trouble = FailedEvents events stream writer trouble
Failed asked stream writer trouble = Unit {0}
