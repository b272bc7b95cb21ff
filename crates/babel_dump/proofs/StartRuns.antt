-- What is written where a run of `events` fails, piece by piece.
use Rattle.std.proofs.Common.{◌≡◌, ◌≢◌, ◌⊎◌, ℕ, ◌≤◌, false, inl, inr, List, [], ◌∷◌, ◌++◌, Option, None, Some, Result, Ok, Err, refl, sym, ap, subst, ◌∙◌, append_assoc, append-nil, length, arith}
use Rattle.std.specs.Prelude.{IfErr, OnOk}
use Rattle.std.specs.Io.KnownBytes.{Appends}
use Rattle.std.specs.List.{flat_map}
use Rattle.std.proofs.KnownBytes.{Appends-nil}
use Rattle.std.proofs.lemmas.List.{take_all}
use Rattle.babel_capture.specs.Blocks.{octets_of}
use Rattle.babel_capture.specs.Gathering.{Gathering}
use Rattle.babel_capture.specs.Capture.{State}
use Rattle.babel_capture.specs.Counts.{Made}
use Rattle.babel_capture.specs.Sinking.{FeedMore, Sinks, StopMore}
use Rattle.babel_dump.specs.CaptureGiven.{BeginsWith}
use Rattle.babel_dump.specs.Device.{AppendsPrefix, Gave, InputState, OutputState}
use Rattle.babel_dump.specs.EventsCause.{IsRefused, IsWhole, reading_by}
use Rattle.babel_dump.specs.EventsRun.{AreLines, TellsEvents, WroteLines, followed_by, followed_extent, made_in, since_in, told_from, unlost, written_in}
use Rattle.babel_dump.specs.EventsStart.{AreWhole, IsNextRefused, WroteBehind, WroteSome, WroteStart}
use Rattle.babel_dump.specs.Followed.{EndsAt, Follows, HasFollowed, HasHeardFollowed, HasStopped, IsFollowed, IsFollowedToEnd, named_event, trouble_of, unlost_by}
use Rattle.babel_dump.specs.FollowedSenders.{followed as followed_in}
use Rattle.babel_dump.specs.Run.{Output, output}
use Rattle.babel_dump.specs.Slices.{Broke, Took}
use Rattle.babel_dump.specs.declared.events.Followed.{Followed}
use Rattle.babel_dump.specs.declared.events_job.Events.{Events}
use Rattle.babel_dump.specs.declared.events_outcome.EventsOutcome.{EventsOutcome}
use Rattle.babel_dump.specs.declared.follower.Follower.{Follower}
use Rattle.babel_dump.specs.declared.hearing.Unheard.TheVariants as unheard
use Rattle.babel_dump.specs.declared.stop.Stop.{Stop}
use Rattle.babel_dump.specs.declared.stop.Stop.TheVariants as stops
use Rattle.babel_dump.proofs.EventCauses.{begins_behind, begins_more, is_whole}
use Rattle.babel_dump.proofs.Devices.{gave_more, gave_none}
use Rattle.babel_dump.proofs.EventLineLaws.{are_lines, lines_both}
use Rattle.babel_dump.proofs.EventsRuns.{Tellings}
use Rattle.babel_dump.proofs.FollowRuns.{IsFollowedSoFar, lines_none}
use Rattle.babel_dump.proofs.SliceLaws.{prefix_on}
use Rattle.babel_dump.proofs.StartLaws.{tells_heard}
use Rattle.babel_dump.proofs.TakeLaws.{follows_none}

-- lines that were written whole
pub wrote_some : (events : Events) (told : Tellings) (writer : Output) → WroteLines events told writer → WroteSome events told writer
wrote_some events told writer wrote = record {
  text = wrote.text;
  lines = wrote.lines;
  wrote = (length wrote.text, subst (λ (t : List ℕ). Appends writer.old.taken writer.new.taken t) (sym (take_all (length wrote.text) wrote.text refl_le)) wrote.wrote);
}
  where
    refl_le : length wrote.text ≤ length wrote.text
    refl_le = omega arith

-- nothing was
pub wrote_nothing : (events : Events) (w : OutputState) → WroteSome events [] (output w w)
wrote_nothing events w = record { text = []; lines = lines_none events; wrote = (0, Appends-nil w.taken) }

-- lines, and then the first octets of more
pub some_both : (events : Events) (a b c : OutputState) (first then : Tellings) → WroteLines events first (output a b) → WroteSome events then (output b c) → WroteSome events (first ++ then) (output a c)
some_both events a b c first then one two = record {
  text = one.text ++ two.text;
  lines = lines_both events first then one.text two.text one.lines two.lines;
  wrote = prefix_on a b c one.text two.text one.wrote two.wrote;
}

-- a write of the lines failed: but for those that the buffer had, or of these
pub broke_lines : (events : Events) (gathering : Gathering) (told : Tellings) (a b : OutputState) → Broke (output a b) (flat_map (named_event events gathering) told) → WroteSome events told (output a b)
broke_lines events gathering told a b broke = record { text = flat_map (named_event events gathering) told; lines = are_lines events gathering told; wrote = broke.prefix }

pub broke_last : (events : Events) (gathering : Gathering) (told : Tellings) (a b c : OutputState) (left : List ℕ) → Took (output a b) (flat_map (named_event events gathering) told) left
    → AppendsPrefix b.taken c.taken left → WroteSome events told (output a c)
broke_last events gathering told a b c left took prefix = record {
  text = took.front ++ left;
  lines = subst (λ (l : List ℕ). AreLines events told l) took.parts (are_lines events gathering told);
  wrote = prefix_on a b c took.front left took.took prefix;
}

-- ---- what is told of what was read

-- all records that were read, and nothing besides
pub start_of_all : (events : Events) (fed : List ℕ) (told : Tellings) (followed : Followed) → IsFollowed events fed told followed → (writer : Output) → followed.follower.told.items ≡ []
    → WroteSome events [] writer → WroteBehind events fed told writer
start_of_all events fed told followed is writer none wrote =
    let made = is.read.leads.gathered.made in
    record {
      more = [];
      told = record {
        made = made;
        begins = inl (begins_more events fed followed.capture.progress followed.capture.pending made is.wanted is.read refl);
        front = followed_in made;
        back = [];
        are = sym (append-nil (followed_in made));
        first = told ++ followed.follower.told.items;
        tells = tells_heard events (followed_in made) (told ++ followed.follower.told.items) followed.follower.hearing is.has_heard.1;
        besides = [];
        written_is = ap (λ (t : Tellings). told ++ t) (sym none) ∙ sym (append-nil (told ++ followed.follower.told.items));
        may = inl refl;
      };
      wrote = wrote;
    }

-- of more octets, too
pub start_before : (events : Events) (fed rest : List ℕ) (told : Tellings) (followed : Followed) → IsFollowed events fed told followed → (writer : Output) → followed.follower.told.items ≡ []
    → WroteSome events [] writer → WroteBehind events (fed ++ rest) told writer
start_before events fed rest told followed is writer none wrote =
    let made = is.read.leads.gathered.made in
    let begins = begins_more events fed followed.capture.progress followed.capture.pending made is.wanted is.read refl in
    record {
      more = [];
      told = record {
        made = made;
        begins = inl (record {
          blocks = begins.blocks;
          rest = begins.rest ++ rest;
          whole = ap (λ (t : List ℕ). t ++ rest) begins.whole ∙ append_assoc (octets_of begins.blocks) begins.rest rest;
          are_blocks = begins.are_blocks;
          front = begins.front;
          back = begins.back;
          parts = begins.parts;
          are_made = begins.are_made;
        });
        front = followed_in made;
        back = [];
        are = sym (append-nil (followed_in made));
        first = told ++ followed.follower.told.items;
        tells = tells_heard events (followed_in made) (told ++ followed.follower.told.items) followed.follower.hearing is.has_heard.1;
        besides = [];
        written_is = ap (λ (t : Tellings). told ++ t) (sym none) ∙ sym (append-nil (told ++ followed.follower.told.items));
        may = inl refl;
      };
      wrote = wrote;
    }

-- what has ended is put behind what was told
ended_behind : (events : Events) (moment : Option ℕ) (old new : Followed) → EndsAt events moment old new
    → (besides : Tellings) × (new.follower.told.items ≡ old.follower.told.items ++ besides)
ended_behind events None old new same = ([], ap (λ (f : Follower). f.told.items) same ∙ sym (append-nil old.follower.told.items))
ended_behind events (Some moment) old new ends = (unlost_by old.follower.hearing.lost ends.printed, ends.written)

-- all records of a capture, and then what has ended
pub start_at_last : (events : Events) (fed : List ℕ) (told : Tellings) (cut moment : Option ℕ) (followed new : Followed) → IsFollowedToEnd events fed told cut followed
    → EndsAt events moment followed new → (writer : Output) → WroteSome events new.follower.told.items writer → WroteBehind events fed told writer
start_at_last events fed told cut moment followed new is ends writer wrote =
    let made = is.is_read.is_read.gathered.made in
    let all : AreWhole events fed made = (followed.capture.progress.gathering, is_whole events fed told cut followed is, refl) in
    let last = ended_behind events moment followed new ends in
    record {
      more = new.follower.told.items;
      told = record {
        made = made;
        begins = inr all;
        front = followed_in made;
        back = [];
        are = sym (append-nil (followed_in made));
        first = told ++ followed.follower.told.items;
        tells = tells_heard events (followed_in made) (told ++ followed.follower.told.items) followed.follower.hearing is.has_heard.1;
        besides = last.0;
        written_is = ap (λ (t : Tellings). told ++ t) last.1 ∙ sym (append_assoc told followed.follower.told.items last.0);
        may = inr (inr (all, refl));
      };
      wrote = wrote;
    }

-- why there may be something of the next record
may_of : (events : Events) (front all back : List Made) (one : Made) (stop : Stop) (besides : Tellings) → all ≡ front ++ one ∷ back → (stop ≡ stops.Unheard unheard.Memory → besides ≡ [])
    → (stop ≢ stops.Unheard unheard.Memory → IsRefused events front one (trouble_of stop)) → (besides ≡ []) ⊎ IsNextRefused events front all
may_of events front all back one (stops.Unheard unheard.Memory) besides are kept refused = inl (kept refl)
may_of events front all back one (stops.Unheard (unheard.Sender origin fault)) besides are kept refused =
    inr (one, back, are, (trouble_of (stops.Unheard (unheard.Sender origin fault)), refused (λ same. absurd cc)))
may_of events front all back one (stops.LeftOut datagram) besides are kept refused = inr (one, back, are, (trouble_of (stops.LeftOut datagram), refused (λ same. absurd cc)))
may_of events front all back one (stops.Ignored origin tlv ignores_4) besides are kept refused =
    inr (one, back, are, (trouble_of (stops.Ignored origin tlv ignores_4), refused (λ same. absurd cc)))

module _ (events : Events) (fed piece : List ℕ) (told : Tellings) (old : Followed) (is : IsFollowed events fed told old) (follower : Follower) (writer : Output)
    (wrote : WroteSome events follower.told.items writer) where
  behind : (more : List Made) → ((start : Follower) (made : List Made) → Follows start old.follower made → Follows start follower (made ++ more))
      → BeginsWith (reading_by events) (followed_by events) (fed ++ piece) (is.read.leads.gathered.made ++ more) → WroteBehind events (fed ++ piece) told writer
  behind more took begins = by follower.fault refl
    where
      made : List Made
      made = is.read.leads.gathered.made

      follows : Follows old.follower follower more
      follows = took old.follower [] (follows_none old.follower)

      was : HasHeardFollowed old.follower.events.now made told old.follower
      was = subst (λ (e : Events). HasHeardFollowed e made told old.follower) (sym is.events_are) is.has_heard

      by : (fault : Option Stop) → follower.fault ≡ fault → WroteBehind events (fed ++ piece) told writer
      by None sound =
          let heard = subst (λ (e : Events). HasHeardFollowed e (made ++ more) told follower) is.events_are ((follows.1 sound).1 made told was) in
          record {
            more = follower.told.items;
            told = record {
              made = made ++ more;
              begins = inl begins;
              front = followed_in (made ++ more);
              back = [];
              are = sym (append-nil (followed_in (made ++ more)));
              first = told ++ follower.told.items;
              tells = tells_heard events (followed_in (made ++ more)) (told ++ follower.told.items) follower.hearing heard.1;
              besides = [];
              written_is = sym (append-nil (told ++ follower.told.items));
              may = inl refl;
            };
            wrote = wrote;
          }
      by (Some stop) stopped =
          let has = subst (λ (e : Events). HasStopped e (made ++ more) stop (told ++ follower.told.items)) is.events_are (follows.2 stop stopped is.sound made told was) in
          record {
            more = follower.told.items;
            told = record {
              made = made ++ more;
              begins = inl begins;
              front = has.front;
              back = has.one ∷ has.back;
              are = has.are;
              first = has.first;
              tells = has.tells;
              besides = has.besides;
              written_is = has.written_is;
              may = elim (may_of events has.front (followed_in (made ++ more)) has.back has.one stop has.besides has.are has.kept has.refused) [
                | inl none ↦ inl none
                | inr next ↦ inr (inl next)
              ];
            };
            wrote = wrote;
          }

  -- of a piece, which was fed whole or up to a fault
  pub start_in_piece : {T E : Type 0} (new : State) (result : Result T E)
      → OnOk result (Sinks Follows old.follower follower (FeedMore old.capture.progress old.capture.pending new.progress new.pending piece))
      → IfErr result (λ _. Sinks Follows old.follower follower (StopMore old.capture.progress old.capture.pending piece))
      → new.progress.gathering.wanted ≡ old.capture.progress.gathering.wanted → WroteBehind events (fed ++ piece) told writer
  start_in_piece new (Ok done) sunk stopped wanted =
      let read = sunk.are_read (followed_extent events) fed is.read in
      behind sunk.more sunk.took (begins_more events (fed ++ piece) new.progress new.pending (is.read.leads.gathered.made ++ sunk.more) (wanted ∙ is.wanted) read.0 read.1)
  start_in_piece new (Err fault) sunk stopped wanted =
      behind stopped.more stopped.took
      (begins_behind events (fed ++ piece) old.capture.progress.gathering.wanted (is.read.leads.gathered.made ++ stopped.more) is.wanted (stopped.are_read (followed_extent events) fed is.read))

-- ---- of a run

-- a piece more was not taken
pub start_at_piece : (events : Events) (old mid new : InputState) (u v w : OutputState) (turns : ℕ) (followed : Followed) (piece : List ℕ) → IsFollowedSoFar events old mid (output u v) turns followed
    → Gave mid new piece → ((fed : List ℕ) (told : Tellings) → IsFollowed events fed told followed → WroteBehind events (fed ++ piece) told (output v w)) → WroteStart events old new (output u w)
start_at_piece events old mid new u v w turns followed piece so_far gave starts =
    let first = so_far.goes in
    let behind = starts so_far.octets first.more first.is_followed in
    record {
      octets = so_far.octets ++ piece;
      gave = gave_more old mid new so_far.octets piece so_far.gave gave;
      wrote = record { more = first.more ++ behind.more; told = behind.told; wrote = some_both events u v w first.more behind.more first.wrote behind.wrote };
    }

-- a read failed after it
pub start_at_read : (events : Events) (old mid new : InputState) (writer : Output) (turns : ℕ) (followed : Followed) → IsFollowedSoFar events old mid writer turns followed → Gave mid new []
    → followed.follower.told.items ≡ [] → WroteStart events old new writer
start_at_read events old mid new writer turns followed so_far gave none =
    let first = so_far.goes in
    let behind : WroteBehind events so_far.octets first.more (output writer.new writer.new) = start_of_all events so_far.octets first.more followed first.is_followed (output writer.new writer.new) none (wrote_nothing events writer.new) in
    record {
      octets = so_far.octets;
      gave = gave_none old mid new so_far.octets [] so_far.gave gave;
      wrote = record { more = first.more ++ behind.more; told = behind.told; wrote = some_both events writer.old writer.new writer.new first.more behind.more first.wrote behind.wrote };
    }

-- it was followed to its end, and did not end well
pub start_at_end : (events : Events) (old new : InputState) (u v w : OutputState) (followed : Followed) → HasFollowed events old new (output u v) followed
    → ((fed : List ℕ) (told : Tellings) → IsFollowed events fed told followed → WroteBehind events fed told (output v w)) → WroteStart events old new (output u w)
start_at_end events old new u v w followed has starts =
    let first = has.goes in
    let behind = starts has.octets first.more first.is_followed in
    record {
      octets = has.octets;
      gave = has.gave.gave;
      wrote = record { more = first.more ++ behind.more; told = behind.told; wrote = some_both events u v w first.more behind.more first.wrote behind.wrote };
    }

-- all was written
pub start_of_run : (events : Events) (old new : InputState) (writer : Output) (answer : EventsOutcome) → TellsEvents events old new writer answer → WroteStart events old new writer
start_of_run events old new writer answer tells =
    let all = tells.tells in
    let made = all.is_read.is_read.gathered.made in
    let whole : IsWhole events tells.octets all.gathering = record { cut = all.cut; is_read = all.is_read; accepted = all.accepted; wanted = all.wanted } in
    let are_all : AreWhole events tells.octets made = (all.gathering, whole, refl) in
    record {
      octets = tells.octets;
      gave = tells.gave.gave;
      wrote = record {
        more = tells.written;
        told = record {
          made = made;
          begins = inr are_all;
          front = followed_in made;
          back = [];
          are = sym (append-nil (followed_in made));
          first = written_in events [] all.steps;
          tells = record {
            steps = all.steps;
            are_made = all.are_made;
            each = all.each;
            opens = all.opens;
            silent = all.silent;
            counts = all.counts;
            written_is = refl;
          };
          besides = unlost (made_in all.steps) (all.opening ++ told_from (since_in events.since (made_in all.steps)) all.ended);
          written_is = all.written_is;
          may = inr (inr (are_all, refl));
        };
        wrote = wrote_some events tells.written writer tells.wrote;
      };
    }
