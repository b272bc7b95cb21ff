-- What comes of what was asked for, over streams.
use Rattle.std.proofs.Common.{◌≡◌, ◌≢◌, ℕ, Bool, List, Option, None, Some, Err, Ok, Result, refl, sym, ap, subst, ◌∙◌}
use Rattle.std.specs.Prelude.{IfErr, IfOk, IfSome}
use Rattle.std.specs.Io.KnownBytes.{Appends, Keeps}
use Rattle.std.specs.Map.{keys_of}
use Rattle.babel_capture.specs.Counts.{Made}
use Rattle.babel_dump.specs.CaptureGiven.{made_in}
use Rattle.babel_dump.specs.Device.{InputState}
use Rattle.babel_dump.specs.EventsCause.{EventsCause}
use Rattle.babel_dump.specs.EventsStart.{StartsEvents}
use Rattle.babel_dump.specs.EventsRun.{TellsEvents}
use Rattle.babel_dump.specs.Fed.{AreWhole}
use Rattle.babel_dump.specs.PairsMade.{heard_in}
use Rattle.babel_dump.specs.ToldPairs.{ArePairsTold}
use Rattle.babel_dump.specs.ToldSenders.{AreTexts}
use Rattle.babel_dump.specs.declared.each_pair.EachPair.{EachPair}
use Rattle.babel_dump.specs.declared.told_pairs.ToldPairs.{ToldPairs}
use Rattle.babel_dump.specs.Packets.{packets_made}
use Rattle.babel_dump.specs.EachSender.{AreOwn, AsksPairs, GaveSenders, each_from}
use Rattle.babel_dump.specs.declared.begun.Begins.TheVariants as beginnings
use Rattle.babel_dump.specs.declared.events_job.Events.{Events}
use Rattle.babel_dump.specs.declared.events_outcome.EventsOutcome.{EventsOutcome}
use Rattle.babel_dump.specs.declared.told_senders.ToldSenders.{ToldSenders}
use Rattle.babel_dump.specs.declared.each_sender.EachSender.{EachSender}
use Rattle.babel_dump.specs.declared.each_sender.SendersRead.{SendersRead}
use Rattle.babel_dump.specs.AskedRun.{Beginnings, Did, DidJob, Failed, FailedEvents, GaveOn, ToldEvents, WrotePairs, WroteSenders, misplaced_at}
use Rattle.babel_dump.specs.Begun.{BeginsSo}
use Rattle.babel_dump.specs.Files.{reading_of}
use Rattle.babel_dump.specs.Given.{Reads}
use Rattle.babel_dump.specs.JobRun.{RanJob, SaysBy}
use Rattle.babel_dump.specs.Misplaced.{begun_work, misplaced_by}
use Rattle.babel_dump.specs.Run.{Output}
use Rattle.babel_dump.specs.RunText.{status_of_all}
use Rattle.babel_dump.specs.declared.asked.Asked.{Asked}
use Rattle.babel_dump.specs.declared.begun.Begins.{Begins}
use Rattle.babel_dump.specs.declared.done.Done.{Done}
use Rattle.babel_dump.specs.declared.format.Format.{Format}
use Rattle.babel_dump.specs.declared.job.Job.{Job}
use Rattle.babel_dump.specs.declared.job.Work.{Work}
use Rattle.babel_dump.specs.declared.outcome.Outcome.{Outcome}
use Rattle.babel_tlv.specs.declared.fault.Fault.TheVariants as faults
use Rattle.babel_dump.specs.declared.input_fault.InputFault.TheVariants as input_faults
use Rattle.babel_dump.specs.declared.run_fault.RunFault.TheVariants as run_faults
use Rattle.babel_dump.specs.declared.run_fault.Side.TheVariants as sides
use Rattle.babel_dump.specs.declared.trouble.Trouble.{Trouble}
use Rattle.babel_dump.specs.declared.trouble.Trouble.TheVariants as troubles

-- a device gives what a stream has
pub keeps_left : (stream left given : Option (List ℕ)) → left ≡ given → Keeps stream given → Keeps stream left
keeps_left stream left given gives kept = subst (Keeps stream) (sym gives) kept

module _ (job : Job) (stream other : Option (List ℕ)) (first second told told_too : Begins) (begins : BeginsSo stream first)
    (other_begins : IfSome (reading_of sides.Other job.work) (λ _. BeginsSo other second)) (same : told ≡ first) (same_too : told_too ≡ second) where
  abbrev begun : Beginnings job stream other
  begun = record { first = first; second = second; begins = begins; other_begins = other_begins }

  so : (option : Option (List ℕ)) → misplaced_by told told_too job.work ≡ option → misplaced_at begun ≡ option
  so option is = subst (λ (b : Begins). misplaced_by b second job.work ≡ option) same (subst (λ (b : Begins). misplaced_by told b job.work ≡ option) same_too is)

  pub refused_so : (option : List ℕ) → misplaced_by told told_too job.work ≡ Some option → (begun : Beginnings job stream other) × (misplaced_at begun ≡ Some option)
  refused_so option is = (begun, so (Some option) is)

  job_so : (seed : ℕ) (now : Job) → now.work ≡ begun_work told told_too seed job.work → now.format ≡ job.format → now.quiet ≡ job.quiet
      → now ≡ record job { work = begun_work first second seed job.work }
  job_so seed now work format quiet =
      let make : Work → Format → Bool → Job = λ w f q. record { work = w; format = f; quiet = q } in
      ap (λ w. make w now.format now.quiet) (work ∙ ap (λ (b : Begins). begun_work b told_too seed job.work) same ∙ ap (λ (b : Begins). begun_work first b seed job.work) same_too)
      ∙ ap (λ f. make (begun_work first second seed job.work) f now.quiet) format ∙ ap (λ q. make (begun_work first second seed job.work) job.format q) quiet

  pub did_so : (seed : ℕ) (now : Job) (reader second_reader : Reads) (writer : Output) (untouched : Type 0) (outcome : Outcome) (done : Done)
      → now.work ≡ begun_work told told_too seed job.work → now.format ≡ job.format → now.quiet ≡ job.quiet → misplaced_by told told_too job.work ≡ None
      → Keeps stream reader.old.left → Keeps other second_reader.old.left → RanJob now reader second_reader writer untouched (Ok outcome) → done.status ≡ outcome.status
      → DidJob job seed stream other writer done
  did_so seed now reader second_reader writer untouched outcome done work format quiet placed keeps other_keeps ran status =
      let wrote = ran.ran.wrote in
      record {
        begun = begun;
        placed = so None placed;
        reader = reader;
        second = second_reader;
        keeps = keeps;
        other_keeps = other_keeps;
        text = wrote.0;
        outcome = outcome;
        says = subst (λ (j : Job). SaysBy j.work j reader second_reader wrote.0 outcome) (job_so seed now work format quiet) wrote.1;
        wrote = wrote.2;
        status = status;
      }

-- ---- events, and keys

pub keeps_itself : (stream : Option (List ℕ)) → Keeps stream stream
keeps_itself None = tt
keeps_itself (Some octets) = refl

pub told_so : (events : Events) (stream : Option (List ℕ)) (old new given : InputState) (writer : Output) (answer : EventsOutcome) (done : Done) → old ≡ given → given.left ≡ stream
    → TellsEvents events old new writer answer → done.status ≡ answer.outcome.status → ToldEvents events stream writer done
told_so events stream old new given writer answer done is left tells status = record {
  reader = record { old = old; new = new };
  keeps = keeps_left stream old.left stream (ap (λ (s : InputState). s.left) is ∙ left) (keeps_itself stream);
  answer = answer;
  tells = tells;
  status = status;
}

pub wrote_so : (each asking : EachSender) (stream other : Option (List ℕ)) (begins told : Begins) (second : Reads) (old new : InputState) (writer : Output) (senders : SendersRead)
    (made : ToldSenders) (text : List ℕ) (done : Done) → BeginsSo stream begins → told ≡ begins → told ≢ beginnings.Dump → Keeps other second.old.left → AsksPairs each second asking
    → Keeps stream old.left → GaveSenders asking (each_from asking old new) senders
    → ((records : List Made) → AreWhole (packets_made records) → AreOwn asking records senders.tables.entries
    → AreTexts asking records senders.read.moment senders.read.gathered (keys_of senders.tables.entries) made)
    → done.senders ≡ made.senders → text ≡ made.lines.items → Appends writer.old.taken writer.new.taken text
    → done.status ≡ status_of_all made.statuses.items → WroteSenders each stream other writer done
wrote_so each asking stream other begins told second old new writer senders made text done begun is no_dump other_keeps asks keeps gave are same lines wrote status = record {
  begins = begins;
  begun = begun;
  no_dump = λ dump. no_dump (is ∙ dump);
  second = second;
  other_keeps = other_keeps;
  asking = asking;
  asks = asks;
  reader = record { old = old; new = new };
  keeps = keeps;
  senders = senders;
  gave = gave;
  made = made;
  are_keys = are (made_in gave.gave.given) gave.whole gave.are_own;
  told = same;
  wrote = subst (Appends writer.old.taken writer.new.taken) lines wrote;
  status = status;
}

-- ---- of two captures

pub gave_so : (each : EachSender) (stream : Option (List ℕ)) (begins told : Begins) (old new : InputState) (senders : SendersRead)
    → BeginsSo stream begins → told ≡ begins → told ≢ beginnings.Dump → Keeps stream old.left → GaveSenders each (each_from each old new) senders → GaveOn each stream senders
gave_so each stream begins told old new senders begun is no_dump keeps gave = record {
  begins = begins;
  begun = begun;
  no_dump = λ dump. no_dump (is ∙ dump);
  reader = record { old = old; new = new };
  keeps = keeps;
  gave = gave;
}

pub wrote_pairs : (pairs : EachPair) (stream other : Option (List ℕ)) (writer : Output) (senders other_senders : SendersRead) (made : ToldPairs) (text : List ℕ) (done : Done)
    → GaveOn pairs.left stream senders → GaveOn pairs.right other other_senders
    → ((records others : List Made) → AreWhole (packets_made records) → AreOwn pairs.left records senders.tables.entries → AreWhole (packets_made others)
    → AreOwn pairs.right others other_senders.tables.entries
    → ArePairsTold pairs (heard_in senders.read records) (heard_in other_senders.read others) (keys_of senders.tables.entries) (keys_of other_senders.tables.entries) made)
    → done.senders ≡ made.senders.told → text ≡ made.lines.items → Appends writer.old.taken writer.new.taken text → done.status ≡ made.status → WrotePairs pairs stream other writer done
wrote_pairs pairs stream other writer senders other_senders made text done first second are same lines wrote status = record {
  senders = senders;
  other_senders = other_senders;
  first = first;
  second = second;
  made = made;
  are_told = are (made_in first.gave.gave.given) (made_in second.gave.gave.given) first.gave.whole first.gave.are_own second.gave.whole second.gave.are_own;
  told = same;
  wrote = subst (Appends writer.old.taken writer.new.taken) lines wrote;
  status = status;
}

-- ---- whatever was asked for

pub did_as : (asked known : Asked) (seed : ℕ) (stream other : Option (List ℕ)) (more other_more : List (Option (List ℕ))) (writer : Output) (result : Result Done Trouble) → asked ≡ known
    → IfOk result (Did known seed stream other more other_more writer) → IfOk result (Did asked seed stream other more other_more writer)
did_as asked known seed stream other more other_more writer result is did = subst (λ (a : Asked). IfOk result (Did a seed stream other more other_more writer)) (sym is) did

pub failed_as : (asked known : Asked) (stream : Option (List ℕ)) (writer : Output) (result : Result Done Trouble) → asked ≡ known → IfErr result (Failed known stream writer)
    → IfErr result (Failed asked stream writer)
failed_as asked known stream writer result is failed = subst (λ (a : Asked). IfErr result (Failed a stream writer)) (sym is) failed

pub not_told : (result : Result Done Trouble) → IfErr result (λ _. Unit {0})
not_told (Ok done) = tt
not_told (Err trouble) = tt

pub failed_so : (events : Events) (stream : Option (List ℕ)) (old new given : InputState) (writer : Output) (trouble : Trouble) → old ≡ given → given.left ≡ stream
    → EventsCause events old new writer trouble → StartsEvents events old new writer → FailedEvents events stream writer trouble
failed_so events stream old new given writer trouble is left cause start = record {
  reader = record { old = old; new = new };
  keeps = keeps_left stream old.left stream (ap (λ (s : InputState). s.left) is ∙ left) (keeps_itself stream);
  cause = cause;
  start = start;
}

-- memory ran out
pub no_memory : (events : Events) (stream : Option (List ℕ)) (old new given : InputState) (writer : Output) (trouble : Trouble) → old ≡ given → given.left ≡ stream
    → trouble ≡ troubles.Fault (run_faults.Input sides.First (input_faults.Dump faults.Memory)) → StartsEvents events old new writer → FailedEvents events stream writer trouble
no_memory events stream old new given writer trouble is left memory start = failed_so events stream old new given writer trouble is left (subst (EventsCause events old new writer) (sym memory) refl) start

-- where the fault that is told is this one
pub failed_with : (events : Events) (stream : Option (List ℕ)) (old new given : InputState) (writer : Output) (error trouble : Trouble) → old ≡ given → given.left ≡ stream → trouble ≡ error
    → EventsCause events old new writer error → StartsEvents events old new writer → FailedEvents events stream writer trouble
failed_with events stream old new given writer error trouble is left same cause start =
    failed_so events stream old new given writer trouble is left (subst (EventsCause events old new writer) (sym same) cause) start
