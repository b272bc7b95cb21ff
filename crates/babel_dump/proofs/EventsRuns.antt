-- What records tell, one after another.
use Rattle.std.proofs.Common.{◌≡◌, ℕ, ◌≤◌, List, [], ◌∷◌, ◌++◌, map, Option, None, Some, refl, sym, ap, subst, ◌∙◌, append_assoc, arith}
use Rattle.std.specs.Prelude.{IfSome}
use Rattle.std.proofs.lemmas.List.{append-nil, map-append}
use Rattle.std.proofs.lemmas.List.Elements.{filter-append}
use Rattle.babel_capture.specs.declared.tallies.Origin.{Origin}
use Rattle.babel_capture.specs.Counts.{Made}
use Rattle.babel_capture.specs.Findings.{Found, passed, untold, left, refused, found}
use Rattle.babel_capture.specs.Findings.{octets_found, origin_found}
use Rattle.babel_capture.specs.Times.{time_of}
use Rattle.babel_timeline.specs.declared.change.Change.{Change}
use Rattle.babel_timeline.specs.declared.telling.Telling.{Telling}
use Rattle.babel_timeline.specs.declared.telling.Telling.TheVariants as tellings
use Rattle.babel_timeline.specs.Accounts.{Said}
use Rattle.babel_timeline.specs.Rows.{Rows}
use Rattle.babel_timeline.specs.Telling.{AreAnswers, AskedFor, IsTold, Tells, TellsEnds, is_of_rows, of_rows}
use Rattle.babel_timeline.proofs.AccountLaws.{begins}
use Rattle.babel_timeline.proofs.AnswerLaws.{no_answers}
use Rattle.babel_timeline.proofs.MakingLaws.{none_said}
use Rattle.babel_timeline.proofs.TellingLaws.{ends_tell, expired_account, none_expire}
use Rattle.babel_dump.specs.EventsRun.{AreInOrder, AreSaid, AreTold, AreUpTo, HaveTold, IsSaid, Says, asked_by}
use Rattle.babel_dump.specs.Speakers.{speaker_cmp, speaker_exact}
use Rattle.babel_dump.proofs.SpeakerLaws.{speaker_total}
use Rattle.babel_dump.specs.declared.events_job.Events.{Events}
use Rattle.babel_dump.specs.declared.speaker.Speaker.{Speaker}

abbrev pub Tellings : Type 0
Tellings = List (Telling Speaker)

-- ---- what is said

are_said_more : (events : Events) (made : List Made) (one : Made) (said here : List (Said Speaker)) → AreSaid events made said
    → Says events (time_of one.came) one.what here → AreSaid events (made ++ one ∷ []) (said ++ here)
are_said_more events [] one said here none says =
    subst (λ (s : List (Said Speaker)). AreSaid events (one ∷ []) (s ++ here)) (sym none) (here, [], sym (append-nil here), says, refl)
are_said_more events (first ∷ made) one said here (front, later, is, says_first, are) says = (
  front,
  later ++ here,
  ap (λ (s : List (Said Speaker)). s ++ here) is ∙ append_assoc front later here,
  says_first,
  are_said_more events made one later here are says,
)

-- a record that gives no packet says nothing, and one with a packet what its TLVs do
pub says_nothing : (events : Events) (time : ℕ) (what : Found) → None ≡ origin_found what → Says events (Some time) what []
says_nothing events time passed none = refl
says_nothing events time untold none = refl
says_nothing events time (left reason missed) none = refl
says_nothing events time (refused lack) none = refl
says_nothing events time (found place ends packet has_trailer) none = absurd (let origin : Origin = record { place = place; sender = ends.sender } in let bad : None ≡ Some origin = none in cc)

pub says_packet : (events : Events) (time : ℕ) (what : Found) (origin : Origin) (packet : List ℕ) (said : List (Said Speaker)) → Some origin ≡ origin_found what → packet ≡ octets_found what
    → IsSaid events time origin.place origin.sender packet said → Says events (Some time) what said
says_packet events time passed origin packet said is octets is_said = absurd (let bad : Some origin ≡ None = is in cc)
says_packet events time untold origin packet said is octets is_said = absurd (let bad : Some origin ≡ None = is in cc)
says_packet events time (left reason missed) origin packet said is octets is_said = absurd (let bad : Some origin ≡ None = is in cc)
says_packet events time (refused lack) origin packet said is octets is_said = absurd (let bad : Some origin ≡ None = is in cc)
says_packet events time (found place ends found_octets has_trailer) origin packet said is octets is_said =
    let own : Origin = record { place = place; sender = ends.sender } in
    let some : Some origin ≡ Some own = is in
    let same : origin ≡ own = cc in
    subst (λ (o : Origin). IsSaid events time o.place o.sender found_octets said) same
    (subst (λ (t : List ℕ). IsSaid events time origin.place origin.sender t said) octets is_said)

-- ---- in order

pub up_to_front : (time : ℕ) (made : List Made) (one : Made) → AreUpTo time (made ++ one ∷ []) → AreUpTo time made × IfSome (time_of one.came) (λ came. came ≤ time)
up_to_front time [] one (here, none) = (tt, here)
up_to_front time (first ∷ made) one (here, are) = let on = up_to_front time made one are in ((here, on.0), on.1)

pub in_order_front : (made : List Made) (one : Made) → AreInOrder (made ++ one ∷ []) → AreInOrder made
in_order_front made one order front back at time split came =
    order front (back ++ one ∷ []) at time (ap (λ (m : List Made). m ++ one ∷ []) split ∙ append_assoc front (at ∷ back) (one ∷ [])) came

-- ---- what is told

told_more : (asked : AskedFor) (changes more : List (Change Speaker)) (rows after : Rows Speaker) (before here : Tellings)
    → AreTold asked changes rows before → IsTold speaker_cmp asked more rows after [] (of_rows asked here) → AreTold asked (changes ++ more) after (before ++ here)
told_more None changes more rows after before here are is =
    filter-append is_of_rows before here ∙ ap (λ (t : Tellings). of_rows None before ++ t) is ∙ ap (λ (t : Tellings). t ++ map tellings.Change more) are ∙ sym (map-append tellings.Change changes more)
told_more (Some pair) changes more rows after before here are (answers, is, keeps) =
    subst (λ (t : Tellings). AreAnswers speaker_cmp pair (changes ++ more) (before ++ t) after) (sym is) (keeps changes before are)

-- ---- records

pub of_none : (asked : AskedFor) → of_rows {S = Speaker} asked [] ≡ []
of_none None = refl
of_none (Some pair) = refl

told_none : (asked : AskedFor) → AreTold asked [] [] []
told_none None = refl
told_none (Some pair) = no_answers speaker_cmp speaker_total speaker_exact pair

module _ (events : Events) where
  -- no records tell nothing
  pub told_of_none : HaveTold events None [] [] []
  told_of_none = record {
    said = [];
    are_said = refl;
    changes = [];
    account = λ order. record {
      moment = 0;
      account = begins speaker_cmp speaker_total speaker_exact events.expiry;
      reached = λ time up bound. omega arith;
    };
    said_last = λ none. none_said speaker_cmp;
    are_told = told_none (asked_by events);
  }

  module _ (made : List Made) (one : Made) (before : Tellings) where
    -- a record without a time tells nothing
    pub told_untimed : (told : Tellings) (rows : Rows Speaker) → time_of one.came ≡ None → HaveTold events None made told rows → HaveTold events None (made ++ one ∷ []) told rows
    told_untimed told rows none have = record {
      said = have.said;
      are_said = subst (λ (s : List (Said Speaker)). AreSaid events (made ++ one ∷ []) s) (append-nil have.said)
          (are_said_more events made one have.said [] have.are_said (subst (λ (t : Option ℕ). Says events t one.what []) (sym none) refl));
      changes = have.changes;
      account = λ order.
          let was = have.account (in_order_front made one order) in
          record { moment = was.moment; account = was.account; reached = λ time up bound. was.reached time (up_to_front time made one up).0 bound };
      said_last = have.said_last;
      are_told = have.are_told;
    }

    -- a record with a time, of which this is told
    told_timed : (time : ℕ) (said : List (Said Speaker)) (rows after : Rows Speaker) (here : Tellings) → time_of one.came ≡ Some time → Says events (Some time) one.what said
        → Tells speaker_cmp events.expiry (asked_by events) said time rows after [] (of_rows (asked_by events) here) → HaveTold events None made before rows
        → HaveTold events None (made ++ one ∷ []) (before ++ here) after
    told_timed time said rows after here came says tells have = record {
      said = have.said ++ said;
      are_said = are_said_more events made one have.said said have.are_said (subst (λ (t : Option ℕ). Says events t one.what said) (sym came) says);
      changes = have.changes ++ tells.changes;
      account = λ order.
          let was = have.account (in_order_front made one order) in
          let there : was.moment ≤ time = was.reached time (order made [] one time refl came) tt in
          record {
            moment = time;
            account = tells.account have.said was.moment have.changes there was.account;
            reached = λ bound up none. subst (λ (t : Option ℕ). IfSome t (λ c. c ≤ bound)) came (up_to_front bound made one up).1;
          };
      said_last = λ none. tells.said_last none have.said have.changes (have.said_last none);
      are_told = told_more (asked_by events) have.changes tells.changes rows after before here have.are_told tells.told;
    }

    -- one that gives no packet: what has expired is told
    pub told_of_no_packet : (time : ℕ) (rows after : Rows Speaker) (here : Tellings) → time_of one.came ≡ Some time → None ≡ origin_found one.what
        → TellsEnds speaker_cmp events.expiry (asked_by events) time rows after [] (of_rows (asked_by events) here) → HaveTold events None made before rows
        → HaveTold events None (made ++ one ∷ []) (before ++ here) after
    told_of_no_packet time rows after here came none ends have =
        told_timed time [] rows after here came (says_nothing events time one.what none)
        (ends_tell speaker_cmp speaker_total speaker_exact events.expiry (asked_by events) time rows after [] (of_rows (asked_by events) here) ends) have

    -- one that gives a packet
    pub told_of_packet : (time : ℕ) (origin : Origin) (packet : List ℕ) (said : List (Said Speaker)) (rows after : Rows Speaker) (here : Tellings) → time_of one.came ≡ Some time
        → Some origin ≡ origin_found one.what → packet ≡ octets_found one.what → IsSaid events time origin.place origin.sender packet said
        → Tells speaker_cmp events.expiry (asked_by events) said time rows after (of_rows (asked_by events) []) (of_rows (asked_by events) here)
        → HaveTold events None made before rows → HaveTold events None (made ++ one ∷ []) (before ++ here) after
    told_of_packet time origin packet said rows after here came is octets is_said tells have =
        told_timed time said rows after here came (says_packet events time one.what origin packet said is octets is_said)
        (subst (λ (t : Tellings). Tells speaker_cmp events.expiry (asked_by events) said time rows after t (of_rows (asked_by events) here)) (of_none (asked_by events)) tells) have

  -- what expires besides, up to a moment
  pub told_until : (made : List Made) (moment : ℕ) (rows after : Rows Speaker) (before here : Tellings)
      → TellsEnds speaker_cmp events.expiry (asked_by events) moment rows after [] (of_rows (asked_by events) here) → HaveTold events None made before rows
      → HaveTold events (Some moment) made (before ++ here) after
  told_until made moment rows after before here ends have = record {
    said = have.said;
    are_said = have.are_said;
    changes = have.changes ++ ends.changes;
    account = λ order.
        let was = have.account order in
        let is = expired_account speaker_cmp speaker_total speaker_exact events.expiry moment ends.changes rows after ends.ends have.said was.moment have.changes was.account in
        record { moment = is.0; account = is.1; reached = λ bound up last. is.2 bound (was.reached bound up tt) last };
    said_last = λ none.
        none_expire speaker_cmp speaker_total speaker_exact events.expiry none moment ends.changes rows after ends.ends have.said have.changes (have.said_last none);
    are_told = told_more (asked_by events) have.changes ends.changes rows after before here have.are_told ends.told;
  }

  pub told_so : (made : List Made) (until : Option ℕ) (told : Tellings) (rows : Rows Speaker) → HaveTold events None made told rows → HaveTold events until made told rows
  told_so made until told rows have = record {
    said = have.said;
    are_said = have.are_said;
    changes = have.changes;
    account = λ order.
        let was = have.account order in
        record { moment = was.moment; account = was.account; reached = λ bound up last. was.reached bound up tt };
    said_last = have.said_last;
    are_told = have.are_told;
  }
