-- Who is told to be silent, record by record.
use Rattle.std.proofs.Common.{◌≡◌, ℕ, ◌≤◌, true, List, [], ◌∷◌, ◌++◌, fold, Option, None, Some, refl, sym, ap, subst, ◌∙◌, arith}
use Rattle.std.specs.Prelude.{IfSome}
use Rattle.std.specs.Option.{unwrap_or}
use Rattle.std.proofs.lemmas.List.{append-nil}
use Rattle.std.proofs.lemmas.List.Concat.{flat_map-append}
use Rattle.std.proofs.lemmas.List.Sums.{fold-append}
use Rattle.babel_capture.specs.declared.tallies.Origin.{Origin}
use Rattle.babel_capture.specs.Counts.{Made}
use Rattle.babel_capture.specs.Findings.{Found, found, left, passed, refused, untold}
use Rattle.babel_capture.specs.Findings.{octets_found, origin_found}
use Rattle.babel_capture.specs.Times.{time_of}
use Rattle.babel_table.specs.Moments.{Stamp}
use Rattle.babel_timeline.specs.declared.teller.Teller.{Teller}
use Rattle.babel_timeline.specs.Rows.{Rows}
use Rattle.babel_timeline.specs.SilencesTold.{EachCounts, IsWatched, IsWatchedWhole, TellsCounts, TellsSilences, hellos_heard, watches}
use Rattle.babel_timeline.specs.SilencesTold.{LeavesRows as LeftRows}
use Rattle.babel_timeline.specs.Telling.{AskedFor, TellsEnds, of_rows}
use Rattle.babel_timeline.proofs.CountTold.{all_end-last, each_also}
use Rattle.babel_timeline.proofs.WatchLaws.{begins}
use Rattle.babel_timeline.proofs.WatchTold.{told_who, watches_all}
use Rattle.babel_dump.specs.EventsRun.{AreInOrder, AreUpTo, CountsRoutes, HaveTold, LeavesRows, TellsSilent, asked_by, hellos_found, hellos_made, last_time, speaker_at}
use Rattle.babel_dump.specs.Followed.{KnowsSilent}
use Rattle.babel_dump.specs.Speakers.{speaker_cmp, speaker_exact}
use Rattle.babel_dump.proofs.EventsRuns.{Tellings, in_order_front, told_until}
use Rattle.babel_dump.proofs.SpeakerLaws.{speaker_total}
use Rattle.babel_dump.specs.declared.events_job.Events.{Events}
use Rattle.babel_dump.specs.declared.speaker.Speaker.{Speaker}

-- ---- Hellos and times

hellos_more : (made : List Made) (one : Made) → hellos_made (made ++ one ∷ []) ≡ hellos_made made ++ hellos_found (time_of one.came) one.what
hellos_more made one =
    flat_map-append (λ (m : Made). hellos_found (time_of m.came) m.what) made (one ∷ [])
    ∙ ap (λ (h : List (Speaker × Stamp)). hellos_made made ++ h) (append-nil (hellos_found (time_of one.came) one.what))

last_more : (made : List Made) (one : Made) → last_time (made ++ one ∷ []) ≡ unwrap_or (time_of one.came) (last_time made)
last_more made one = fold-append (λ (last : ℕ) (m : Made). unwrap_or (time_of m.came) last) 0 made (one ∷ [])

first_up_to : (time : ℕ) (came : Option ℕ) (first : ℕ) → first ≤ time → IfSome came (λ c. c ≤ time) → unwrap_or came first ≤ time
first_up_to time None first le up = le
first_up_to time (Some came) first le up = up

all_up_to : (time : ℕ) (made : List Made) (first : ℕ) → first ≤ time → AreUpTo time made → fold (λ (last : ℕ) (m : Made). unwrap_or (time_of m.came) last) first made ≤ time
all_up_to time [] first le up = le
all_up_to time (next ∷ made) first le up = all_up_to time made (unwrap_or (time_of next.came) first) (first_up_to time (time_of next.came) first le up.0) up.1

last_in_order : (made : List Made) (one : Made) (time : ℕ) → time_of one.came ≡ Some time → AreInOrder (made ++ one ∷ []) → last_time made ≤ time
last_in_order made one time came order = all_up_to time made 0 (omega arith) (order made [] one time refl came)

-- a record that gives no packet has no Hellos, and one with a packet those of its TLVs
pub no_hellos : (time : ℕ) (what : Found) → None ≡ origin_found what → hellos_found (Some time) what ≡ []
no_hellos time passed none = refl
no_hellos time untold none = refl
no_hellos time (left reason missed) none = refl
no_hellos time (refused lack) none = refl
no_hellos time (found place ends packet has_trailer) none = absurd (let origin : Origin = record { place = place; sender = ends.sender } in let bad : None ≡ Some origin = none in cc)

pub its_hellos : (time : ℕ) (what : Found) (origin : Origin) (packet : List ℕ) → Some origin ≡ origin_found what → packet ≡ octets_found what
    → hellos_found (Some time) what ≡ hellos_heard (speaker_at origin) time packet
its_hellos time passed origin packet is octets = absurd (let bad : Some origin ≡ None = is in cc)
its_hellos time untold origin packet is octets = absurd (let bad : Some origin ≡ None = is in cc)
its_hellos time (left reason missed) origin packet is octets = absurd (let bad : Some origin ≡ None = is in cc)
its_hellos time (refused lack) origin packet is octets = absurd (let bad : Some origin ≡ None = is in cc)
its_hellos time (found place ends found_octets has_trailer) origin packet is octets =
    let own : Origin = record { place = place; sender = ends.sender } in
    let some : Some origin ≡ Some own = is in
    let same : own ≡ origin = cc in
    ap (λ (o : Origin). hellos_heard (speaker_at o) time found_octets) same ∙ ap (hellos_heard (speaker_at origin) time) (sym octets)

-- ---- one after another

module _ (events : Events) where
  pub knows_none : (teller : Teller Speaker) → teller.watch ≡ record { rows = []; silent = record { keys = [] } } → KnowsSilent events [] [] teller
  knows_none teller none order watching = subst (IsWatchedWhole speaker_cmp [] 0 []) (sym none) (
    record { watch = begins speaker_cmp speaker_total speaker_exact; told_is = λ sender. refl; so = tt },
    λ sender hello time is end. absurd (let bad : None ≡ Some hello = is in cc),
  )

  pub tells_now : (made : List Made) (told : Tellings) (teller : Teller Speaker) → KnowsSilent events made told teller → TellsSilent events (last_time made) made told
  tells_now made told teller knows order watching =
      told_who speaker_cmp speaker_total speaker_exact (hellos_made made) (last_time made) told teller.watch (knows order watching)

  module _ (made : List Made) where
    -- a record without a time tells nothing
    pub knows_untimed : (one : Made) (told : Tellings) (teller : Teller Speaker) → time_of one.came ≡ None → KnowsSilent events made told teller → KnowsSilent events (made ++ one ∷ []) told teller
    knows_untimed one told teller none knows order watching =
        subst (λ (h : List (Speaker × Stamp)). IsWatchedWhole speaker_cmp h (last_time (made ++ one ∷ [])) told teller.watch)
        (sym (hellos_more made one ∙ ap (λ (t : Option ℕ). hellos_made made ++ hellos_found t one.what) none ∙ append-nil (hellos_made made)))
        (subst (λ (n : ℕ). IsWatchedWhole speaker_cmp (hellos_made made) n told teller.watch) (sym (last_more made one ∙ ap (λ (t : Option ℕ). unwrap_or t (last_time made)) none))
        (knows (in_order_front made one order) watching))

    -- what was told by then, in front of what is told
    nothing_yet : (before : Tellings) (teller : Teller Speaker) → IsWatchedWhole speaker_cmp (hellos_made made) (last_time made) before teller.watch
        → IsWatched speaker_cmp (hellos_made made) (last_time made) (before ++ []) teller.watch
    nothing_yet before teller whole = subst (λ (t : Tellings). IsWatched speaker_cmp (hellos_made made) (last_time made) t teller.watch) (sym (append-nil before)) whole.0

    pub knows_timed : (one : Made) (before here : Tellings) (time : ℕ) (more : List (Speaker × Stamp)) (old new : Teller Speaker) → time_of one.came ≡ Some time → hellos_found (Some time) one.what ≡ more
        → (watches events.expiry (asked_by events) ≡ true → TellsSilences speaker_cmp more time [] here old.watch new.watch)
        → KnowsSilent events made before old → KnowsSilent events (made ++ one ∷ []) (before ++ here) new
    knows_timed one before here time more old new came are silences knows order watching =
        subst (λ (h : List (Speaker × Stamp)). IsWatchedWhole speaker_cmp h (last_time (made ++ one ∷ [])) (before ++ here) new.watch)
        (sym (hellos_more made one ∙ ap (λ (t : Option ℕ). hellos_made made ++ hellos_found t one.what) came ∙ ap (λ (h : List (Speaker × Stamp)). hellos_made made ++ h) are))
        (subst (λ (n : ℕ). IsWatchedWhole speaker_cmp (hellos_made made ++ more) n (before ++ here) new.watch) (sym (last_more made one ∙ ap (λ (t : Option ℕ). unwrap_or t (last_time made)) came))
        (silences watching (hellos_made made) (last_time made) before (last_in_order made one time came order) (nothing_yet before old (knows (in_order_front made one order) watching))))

    -- who falls silent besides, up to a moment
    pub silent_until : (moment : ℕ) (before here : Tellings) (old new : Teller Speaker) → (watches events.expiry (asked_by events) ≡ true → TellsSilences speaker_cmp [] moment [] here old.watch new.watch)
        → KnowsSilent events made before old → last_time made ≤ moment → TellsSilent events moment made (before ++ here)
    silent_until moment before here old new silences knows le order watching =
        told_who speaker_cmp speaker_total speaker_exact (hellos_made made) moment (before ++ here) new.watch
        (subst (λ (h : List (Speaker × Stamp)). IsWatchedWhole speaker_cmp h moment (before ++ here) new.watch) (append-nil (hellos_made made))
        (silences watching (hellos_made made) (last_time made) before le (nothing_yet before old (knows order watching))))

    -- ---- how many rows who falls silent holds

    pub counts_none : (before : Tellings) → CountsRoutes events made before []
    counts_none before watching = tt

    pub counts_so : (rows : Rows Speaker) (before here : Tellings) → (watches events.expiry (asked_by events) ≡ true → TellsCounts speaker_cmp events.expiry rows [] here)
        → HaveTold events None made before rows → CountsRoutes events made before here
    counts_so rows before here counts have watching =
        let told = counts watching in
        subst (λ (t : Tellings). EachCounts (LeavesRows events made) t here) (append-nil before)
        (subst (EachCounts (LeavesRows events made) (before ++ [])) (sym told.1) (each_also (LeftRows speaker_cmp events.expiry rows []) (LeavesRows events made) before leaves [] told.0 told.2))
      where
        leaves : (told : Tellings) (time : ℕ) (speaker : Speaker) (routes : ℕ) → LeftRows speaker_cmp events.expiry rows [] told time speaker routes
            → LeavesRows events made (before ++ told) time speaker routes
        leaves told time speaker routes these = record {
          rows = these.left;
          have_told = told_until events made time rows these.left before told
              (subst (λ (q : AskedFor). TellsEnds speaker_cmp events.expiry q time rows these.left [] (of_rows q told)) (sym (watches_all events.expiry (asked_by events) watching)) these.ends) have;
          last = all_end-last speaker_cmp events.expiry time these.ends.changes rows these.left these.ends.ends;
          are = these.are;
        }
