-- What a record tells stands behind what was told before it, and begins what is told.
use Rattle.std.proofs.Common.{◌≡◌, List, [], ◌++◌, Result, Ok, Err, refl, sym, ap, subst, ◌∙◌, append_assoc, append-nil}
use Rattle.std.specs.Prelude.{OnErr}
use Rattle.babel_capture.specs.Counts.{Made}
use Rattle.babel_dump.specs.EventsStart.{TellsRecords}
use Rattle.babel_dump.specs.Followed.{HasHeard, HasHeardFollowed, KnowsOthers, TellsBehind}
use Rattle.babel_dump.specs.FollowedSenders.{followed}
use Rattle.babel_dump.specs.declared.events_job.Events.{Events}
use Rattle.babel_dump.specs.declared.follower.Follower.{Follower}
use Rattle.babel_dump.specs.declared.followed_senders.FollowedSenders.{FollowedSenders}
use Rattle.babel_dump.specs.declared.hearing.Hearing.{Hearing}
use Rattle.babel_dump.specs.declared.stop.Stop.{Stop}
use Rattle.babel_dump.proofs.EventsRuns.{Tellings}

pub on_err_so : {T E : Type 0} {P : Type 0} (r : Result T E) → P → OnErr r P
on_err_so (Ok x) holds = tt
on_err_so (Err y) holds = holds

pub on_err_more : {T E : Type 0} {P Q : Type 0} (r : Result T E) → (P → Q) → OnErr r P → OnErr r Q
on_err_more (Ok x) leads holds = tt
on_err_more (Err y) leads holds = leads holds

pub nothing_behind : (old new : Tellings) → new ≡ old → (stop : Stop) → TellsBehind old new stop
nothing_behind old new same stop = ([], same ∙ sym (append-nil old), λ memory. refl)

module _ (events : Events) (made : List Made) (written : Tellings) where
  -- nothing is told yet behind what was told before
  pub apart : (old mid : Follower) → mid.senders ≡ old.senders → mid.hearing ≡ old.hearing → mid.other_sources ≡ old.other_sources → mid.told.items ≡ []
      → HasHeardFollowed events made written old → HasHeardFollowed events made (written ++ old.told.items) mid
  apart old mid senders hearing others none was = (
    ap (λ (s : FollowedSenders). s.senders.entries) senders ∙ was.0,
    subst (λ (h : Hearing). HasHeard events (followed made) ((written ++ old.told.items) ++ mid.told.items) h) (sym hearing)
        (subst (λ (t : Tellings). HasHeard events (followed made) t old.hearing)
        (sym (ap (λ (t : Tellings). (written ++ old.told.items) ++ t) none ∙ append-nil (written ++ old.told.items))) was.1),
    subst (KnowsOthers events (followed made)) (sym others) was.2,
  )

  -- what is told now is put behind it
  pub together : (first : Tellings) (now new : Follower) → new.senders ≡ now.senders → new.hearing ≡ now.hearing → new.other_sources ≡ now.other_sources
      → new.told.items ≡ first ++ now.told.items → HasHeardFollowed events made (written ++ first) now → HasHeardFollowed events made written new
  together first now new senders hearing others told was = (
    ap (λ (s : FollowedSenders). s.senders.entries) senders ∙ was.0,
    subst (λ (h : Hearing). HasHeard events (followed made) (written ++ new.told.items) h) (sym hearing)
        (subst (λ (t : Tellings). HasHeard events (followed made) t now.hearing) (append_assoc written first now.told.items ∙ ap (λ (t : Tellings). written ++ t) (sym told)) was.1),
    subst (KnowsOthers events (followed made)) (sym others) was.2,
  )

-- what was heard is told
pub tells_heard : (events : Events) (made : List Made) (heard : Tellings) (hearing : Hearing) → HasHeard events made heard hearing → TellsRecords events made heard
tells_heard events made heard hearing was = record {
  steps = was.steps;
  are_made = was.are_made;
  each = was.each;
  opens = was.opens;
  silent = was.silent;
  counts = was.counts;
  written_is = was.written_is;
}
