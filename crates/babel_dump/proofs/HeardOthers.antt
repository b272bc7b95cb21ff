-- What is heard of the routes for other sources, record by record.
use Rattle.std.proofs.Common.{◌≡◌, ℕ, Bool, true, false, ◌∷◌, List, [], ◌++◌, Option, None, Some, refl, sym, ap, subst, ◌∙◌}
use Rattle.std.specs.Prelude.{if◌then◌else◌}
use Rattle.std.specs.BTreeMap.{is_at}
use Rattle.std.specs.BTreeSet.{BTreeSet}
use Rattle.std.specs.List.{list_any}
use Rattle.babel_prefix.specs.Address.{Address}
use Rattle.babel_capture.specs.Counts.{Made}
use Rattle.babel_capture.specs.Times.{time_of}
use Rattle.babel_timeline.specs.Rows.{Rows, subject_cmp}
use Rattle.babel_timeline.specs.Telling.{TellsEnds, of_rows}
use Rattle.babel_timeline.specs.declared.subject.Subject.{Subject}
use Rattle.babel_dump.specs.EventsRun.{AreOthers, HaveTold, NotesOthers, NotesSome, asked_by, first_time, since_in, without_pair}
use Rattle.babel_dump.specs.Followed.{HasHeardOthers, HearsRecord, KnowsOthers, Suits}
use Rattle.babel_dump.specs.Speakers.{speaker_cmp}
use Rattle.babel_dump.specs.declared.addr_pair.AddrPair.{AddrPair}
use Rattle.babel_dump.specs.declared.events_job.Events.{Events}
use Rattle.babel_dump.specs.declared.other_sources.OtherSources.{OtherSources}
use Rattle.babel_dump.specs.declared.speaker.Speaker.{Speaker}
use Rattle.babel_dump.proofs.EventsRuns.{Tellings, told_of_none, told_so, told_until}
use Rattle.babel_dump.proofs.HeardRecords.{none_heard}
use Rattle.babel_dump.proofs.SinceLaws.{quiet_more, since_known}

pub others_none : (events : Events) (others : OtherSources) → events.is_any_source ≡ true → events.pair ≡ Some others.pair → Suits (without_pair events) others.teller → others.teller.timeline.rows ≡ []
    → others.teller.heard.entries ≡ [] → others.held.keys ≡ [] → HasHeardOthers events [] others
others_none events others any of suits rows nothing empty = record {
  is_any = any;
  of = of;
  suits = suits;
  told = [];
  have_told = subst (λ (r : Rows Speaker). HaveTold (without_pair events) None [] [] r) (sym rows) (told_of_none (without_pair events));
  heard = none_heard (without_pair events) others.teller.heard.entries nothing;
  quiet = λ none. refl;
  are = λ subject. (
    λ has. absurd (let bad : false ≡ true = sym (ap (list_any (is_at (subject_cmp speaker_cmp subject))) empty) ∙ has in cc),
    λ is. absurd (let bad : false ≡ true = is.1 in cc),
  );
}

-- the moment that is asked for counts from a record that has a time, and nothing was told before
others_begun : (events : Events) (made : List Made) (one : Made) (dst : Address) (told : Tellings) (held : BTreeSet (Subject Speaker)) → (first_time made ≡ None → told ≡ [])
    → AreOthers dst (since_in events.since made) told held → AreOthers dst (since_in events.since (made ++ one ∷ [])) told held
others_begun events made one dst told held quiet are = by (first_time made) refl
  where
    by : (t : Option ℕ) → first_time made ≡ t → AreOthers dst (since_in events.since (made ++ one ∷ [])) told held
    by (Some time) first = subst (λ (s : Option ℕ). AreOthers dst s told held) (sym (since_known events.since made one time first)) are
    by None first =
        let none : told ≡ [] = quiet first in
        let was : AreOthers dst (since_in events.since made) [] held = subst (λ (t : Tellings). AreOthers dst (since_in events.since made) t held) none are in
        let now : AreOthers dst (since_in events.since (made ++ one ∷ [])) [] held = was in
        subst (λ (t : Tellings). AreOthers dst (since_in events.since (made ++ one ∷ [])) t held) (sym none) now

-- of one record more
pub others_more : (events : Events) (made : List Made) (one : Made) (old new : OtherSources) (told : Tellings) (since : Option ℕ) → HasHeardOthers events made old
    → HearsRecord (without_pair events) one old.teller new.teller told → (time_of one.came ≡ None → told ≡ []) → since ≡ since_in events.since (made ++ one ∷ []) → new.pair ≡ old.pair
    → ((earlier : Tellings) → AreOthers old.pair.dst since earlier old.held → AreOthers old.pair.dst since (earlier ++ told) new.held) → HasHeardOthers events (made ++ one ∷ []) new
others_more events made one old new told since was hears untimed moment pair keeps = record {
  is_any = was.is_any;
  of = was.of ∙ ap Some (sym pair);
  suits = hears.suits;
  told = was.told ++ told;
  have_told = hears.tells made was.told was.have_told;
  heard = λ speaker. hears.heard made speaker (was.heard speaker);
  quiet = quiet_more made one was.told told was.quiet untimed;
  are = subst (λ (p : AddrPair). AreOthers p.dst (since_in events.since (made ++ one ∷ [])) (was.told ++ told) new.held) (sym pair)
      (subst (λ (s : Option ℕ). AreOthers old.pair.dst s (was.told ++ told) new.held) moment
      (keeps was.told (subst (λ (s : Option ℕ). AreOthers old.pair.dst s was.told old.held) (sym moment) (others_begun events made one old.pair.dst was.told old.held was.quiet was.are))));
}

-- up to a moment besides
pub others_until : (events : Events) (made : List Made) (until : ℕ) (old new : OtherSources) (ended : Tellings) (since : Option ℕ) → (was : HasHeardOthers events made old)
    → TellsEnds speaker_cmp (without_pair events).expiry (asked_by (without_pair events)) until old.teller.timeline.rows new.teller.timeline.rows [] (of_rows (asked_by (without_pair events)) ended)
    → since ≡ since_in events.since made → new.pair ≡ old.pair
    → ((earlier : Tellings) → AreOthers old.pair.dst since earlier old.held → AreOthers old.pair.dst since (earlier ++ ended) new.held) → NotesOthers events (Some until) made new
others_until events made until old new ended since was ends moment pair keeps = record {
  is_any = was.is_any;
  of = was.of ∙ ap Some (sym pair);
  told = was.told ++ ended;
  rows = new.teller.timeline.rows;
  have_told = told_until (without_pair events) made until old.teller.timeline.rows new.teller.timeline.rows was.told ended ends was.have_told;
  are = subst (λ (p : AddrPair). AreOthers p.dst (since_in events.since made) (was.told ++ ended) new.held) (sym pair)
      (subst (λ (s : Option ℕ). AreOthers old.pair.dst s (was.told ++ ended) new.held) moment
      (keeps was.told (subst (λ (s : Option ℕ). AreOthers old.pair.dst s was.told old.held) (sym moment) was.are)));
}

-- what is known of them is noted
pub knows_notes : (events : Events) (made : List Made) (others : Option OtherSources) → KnowsOthers events made others → NotesSome events None made others
knows_notes events made None knows = knows
knows_notes events made (Some others) knows =
    record { is_any = knows.is_any; of = knows.of; told = knows.told; rows = others.teller.timeline.rows; have_told = knows.have_told; are = knows.are }

pub notes_until : (events : Events) (made : List Made) (moment : Option ℕ) (others : Option OtherSources) (until : Bool) → NotesSome events (if until then None else moment) made others
    → NotesSome events moment made others
notes_until events made moment others false notes = notes
notes_until events made moment None true notes = notes
notes_until events made moment (Some others) true notes = record {
  is_any = notes.is_any;
  of = notes.of;
  told = notes.told;
  rows = notes.rows;
  have_told = told_so (without_pair events) made moment notes.told notes.rows notes.have_told;
  are = notes.are;
}
