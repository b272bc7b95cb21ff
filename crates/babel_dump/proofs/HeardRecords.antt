-- What is heard of senders, record by record, and what of it is to be written.
use Rattle.std.proofs.Common.{◌≡◌, ℕ, Bool, true, false, ◌+◌, ◌<◌, ◌||◌, ◌&&◌, not, cond, ◌⊎◌, inl, inr, List, [], ◌∷◌, ◌++◌, length, take, get_or, map, filter, flat_map, Option, None, Some}
use Rattle.std.proofs.Common.{refl, sym, ap, subst, ◌∙◌, append_assoc, arith, length-append}
use Rattle.std.specs.Prelude.{if◌then◌else◌}
use Rattle.std.specs.declared.cmp.Ordering.{Ordering}
use Rattle.std.specs.List.{list_any}
use Rattle.std.specs.Option.{is_some, option_map, unwrap_or}
use Rattle.std.specs.BTreeMap.{is_at}
use Rattle.std.specs.BTreeSet.{BTreeSet, contains}
use Rattle.std.specs.Map.{lookup}
use Rattle.std.specs.Ordering.{is_eq}
use Rattle.std.proofs.Math.Bool.{or-false}
use Rattle.std.proofs.Math.Path.{fun_ext}
use Rattle.std.proofs.lemmas.Cmp.{tied_itself}
use Rattle.std.proofs.lemmas.List.{append-nil, map-append}
use Rattle.std.proofs.lemmas.List.Concat.{flat_map-append}
use Rattle.std.proofs.lemmas.List.Elements.{filter-append, filter_more}
use Rattle.std.proofs.lemmas.List.Folds.{list_any-append}
use Rattle.babel_prefix.proofs.Insertion.{equal_of, lookup-insert}
use Rattle.babel_capture.specs.declared.missed.Missed.{Missed}
use Rattle.babel_capture.specs.declared.tallies.Origin.{Origin}
use Rattle.babel_capture.specs.Counts.{Made}
use Rattle.babel_capture.specs.Findings.{missed_in}
use Rattle.babel_capture.specs.Findings.{octets_found, origin_found}
use Rattle.babel_capture.specs.Times.{time_of}
use Rattle.babel_tlv.specs.declared.start.Start.{Start}
use Rattle.babel_tlv.specs.Framing.{ArePlaced, TlvAt, packet_octets}
use Rattle.babel_tlv.specs.Says.{Saying, sayings, sayings_after}
use Rattle.babel_table.specs.Counts.{counts_of}
use Rattle.babel_timeline.specs.declared.heard.Heard.{Heard}
use Rattle.babel_timeline.specs.Hearing.{CountsPacket, heard_of, nothing_heard}
use Rattle.babel_timeline.proofs.WordLaws.{IsInner, snoc_split}
use Rattle.babel_timeline.specs.declared.teller.Teller.{Teller}
use Rattle.babel_timeline.specs.declared.telling.Telling.{Telling}
use Rattle.babel_timeline.specs.SilencesTold.{TellsCounts, TellsSilences, hellos_heard, watches}
use Rattle.babel_timeline.specs.Telling.{TellsEnds, of_rows}
use Rattle.babel_dump.specs.EventText.{speaker_of}
use Rattle.babel_dump.specs.EventText.{time_of as time_told}
use Rattle.babel_dump.specs.EventsRun.{AreTlvsOf, CountsRoutes, HaveTold, HaveToldSo, OpensRightly, Step, TellsSilent, asked_by, first_time, have_come, is_from, is_heard, is_lost, is_of, last_time, made_in, packets_heard, requests_made, since_in, speaker_at, told_from, told_in, unlost, written_in}
use Rattle.babel_dump.specs.Followed.{HasHeard, HearsPacket, HearsRecord, IsHeardOf, KnowsSilent, Suits, TellsFrom, TellsNext, unlost_by}
use Rattle.babel_dump.specs.Speakers.{speaker_cmp, speaker_exact}
use Rattle.babel_dump.specs.declared.events_job.Events.{Events}
use Rattle.babel_dump.specs.declared.hearing.Hearing.{Hearing}
use Rattle.babel_dump.specs.declared.speaker.Speaker.{Speaker}
use Rattle.babel_dump.proofs.EventsFollowed.{suits_still}
use Rattle.babel_dump.proofs.SilentRuns.{counts_none, counts_so, its_hellos, knows_none, knows_timed, knows_untimed, no_hellos, tells_now}
use Rattle.babel_dump.proofs.EventsRuns.{Tellings, told_of_no_packet, told_of_none, told_of_packet, told_untimed}
use Rattle.babel_dump.specs.declared.since.Since.{Since}
use Rattle.babel_dump.proofs.SinceLaws.{AwaitsAfter, awaits_begun, awaits_none, awaits_on, quiet_more}
use Rattle.babel_dump.proofs.SpeakerLaws.{speaker_total}

abbrev start_by : Events → Speaker → Start
start_by events speaker = record { sender = speaker.sender; via_v6 = events.limits.via_v6 }

abbrev size : List (List ℕ) → ℕ
size packets = length (flat_map (λ packet. packet) packets)

size_more : (packets : List (List ℕ)) (packet : List ℕ) → size (packets ++ packet ∷ []) ≡ size packets + length packet
size_more packets packet =
    ap length (flat_map-append (λ (p : List ℕ). p) packets (packet ∷ []) ∙ ap (λ (t : List ℕ). flat_map (λ (p : List ℕ). p) packets ++ t) (append-nil packet))
    ∙ length-append (flat_map (λ (p : List ℕ). p) packets) packet

-- ---- what is told now

module _ (cmp : Speaker → Speaker → Ordering) (order : cmp ≡ speaker_cmp) (lost : BTreeSet Speaker) (heard : Tellings) (i : ℕ) (one : Telling Speaker) (within : i < length heard) (item : one ≡ get_or heard i one) where
  unlost_next : unlost_by lost (take (i + 1) heard) ≡ unlost_by lost (take i heard) ++ cond (not (contains speaker_cmp lost (speaker_of one))) (one ∷ []) []
  unlost_next =
      filter_more (λ (t : Telling Speaker). not (contains speaker_cmp lost (speaker_of t))) heard i one within
      ∙ ap (λ (t : Telling Speaker). unlost_by lost (take i heard) ++ cond (not (contains speaker_cmp lost (speaker_of t))) (t ∷ []) []) (sym item)

  pub told_next : (told now all : Tellings) → told ≡ all ++ unlost_by lost (take i heard) → (b : Bool) → b ≡ contains cmp lost (speaker_of one) → now ≡ (if b then told else told ++ one ∷ [])
      → now ≡ all ++ unlost_by lost (take (i + 1) heard)
  told_next told now all was b is put =
      put ∙ by b ∙ ap (λ (c : Bool). all ++ (unlost_by lost (take i heard) ++ cond (not c) (one ∷ []) [])) (is ∙ ap (λ (k : Speaker → Speaker → Ordering). contains k lost (speaker_of one)) order)
      ∙ ap (λ (t : Tellings). all ++ t) (sym unlost_next)
    where
      by : (b : Bool) → (if b then told else told ++ one ∷ []) ≡ all ++ (unlost_by lost (take i heard) ++ cond (not b) (one ∷ []) [])
      by true = was ∙ ap (λ (t : Tellings). all ++ t) (sym (append-nil (unlost_by lost (take i heard))))
      by false = ap (λ (t : Tellings). t ++ one ∷ []) was ∙ append_assoc all (unlost_by lost (take i heard)) (one ∷ [])

-- one more is lost
pub lost_more : (cmp : Speaker → Speaker → Ordering) → cmp ≡ speaker_cmp → (old new : BTreeSet Speaker) (one : Missed) (missed : Option Missed) → missed ≡ Some one
    → ((q : Speaker) → contains cmp new q ≡ cond (is_at (cmp (speaker_at one.origin)) q) true (contains cmp old q)) → (speaker : Speaker)
    → contains speaker_cmp new speaker ≡ contains speaker_cmp old speaker || is_of speaker (option_map (λ (m : Missed). m.origin) missed)
lost_more cmp order old new one missed is updates speaker =
    subst (λ (k : Speaker → Speaker → Ordering). contains k new speaker ≡ cond (is_at (k (speaker_at one.origin)) speaker) true (contains k old speaker)) order (updates speaker)
    ∙ by (is_at (speaker_cmp (speaker_at one.origin)) speaker) (contains speaker_cmp old speaker)
    ∙ ap (λ (m : Option Missed). contains speaker_cmp old speaker || is_of speaker (option_map (λ (m : Missed). m.origin) m)) (sym is)
  where
    by : (a b : Bool) → cond a true b ≡ b || a
    by true true = refl
    by true false = refl
    by false true = refl
    by false false = refl

-- ---- the packets of a sender

module _ (made : List Made) (one : Made) (speaker : Speaker) where
  heard_with : (b : Bool) → is_heard speaker one ≡ b → packets_heard speaker (made ++ one ∷ []) ≡ packets_heard speaker made ++ (if b then octets_found one.what ∷ [] else [])
  heard_with b is =
      let octets : Made → List ℕ = λ m. octets_found m.what in
      let here : map octets (filter (is_heard speaker) (one ∷ [])) ≡ (if b then octets_found one.what ∷ [] else []) = by b is in
      ap (map octets) (filter-append (is_heard speaker) made (one ∷ []))
      ∙ map-append octets (filter (is_heard speaker) made) (filter (is_heard speaker) (one ∷ []))
      ∙ ap (λ (l : List (List ℕ)). packets_heard speaker made ++ l) here
    where
      by : (b : Bool) → is_heard speaker one ≡ b → map (λ (m : Made). octets_found m.what) (filter (is_heard speaker) (one ∷ [])) ≡ (if b then octets_found one.what ∷ [] else [])
      by true is = ap (λ (c : Bool). map (λ (m : Made). octets_found m.what) (cond c (one ∷ []) [])) is
      by false is = ap (λ (c : Bool). map (λ (m : Made). octets_found m.what) (cond c (one ∷ []) [])) is

tlvs_more : (at : ℕ) (octets : List (List ℕ)) (packets : List (List TlvAt)) (packet : List ℕ) (tlvs : List TlvAt) (rest : List ℕ) → AreTlvsOf at octets packets
    → packet ≡ packet_octets tlvs ++ rest → ArePlaced (at + size octets + 4) tlvs → AreTlvsOf at (octets ++ packet ∷ []) (packets ++ tlvs ∷ [])
tlvs_more at [] packets packet tlvs rest none is placed =
    subst (λ (l : List (List TlvAt)). AreTlvsOf at (packet ∷ []) (l ++ tlvs ∷ [])) (sym none)
    (tlvs, [], rest, refl, is, subst (λ (n : ℕ). ArePlaced (n + 4) tlvs) (omega arith) placed, refl)
tlvs_more at (first ∷ octets) packets packet tlvs rest (here, later, left, split, is_first, placed_first, are) is placed = (
  here,
  later ++ tlvs ∷ [],
  left,
  ap (λ (l : List (List TlvAt)). l ++ tlvs ∷ []) split,
  is_first,
  placed_first,
  tlvs_more (at + length first) octets later packet tlvs rest are is
      (subst (λ (n : ℕ). ArePlaced (n + 4) tlvs) (omega (arith, length-append first (flat_map (λ (p : List ℕ). p) octets))) placed),
)

module _ (events : Events) where
  pub none_heard : (entries : List (Speaker × Heard)) → entries ≡ [] → (speaker : Speaker) → IsHeardOf events [] entries speaker
  none_heard entries none speaker =
      subst (λ (es : List (Speaker × Heard)). IsHeardOf events [] es speaker) (sym none) (record { report = record { packets = []; are_tlvs = refl; counts = refl }; octets = refl })

  module _ (made : List Made) (one : Made) (old new : List (Speaker × Heard)) (speaker : Speaker) where
    -- one that gives this sender no packet changes nothing of it
    heard_other : is_heard speaker one ≡ false → heard_of speaker_cmp new speaker ≡ heard_of speaker_cmp old speaker → IsHeardOf events made old speaker → IsHeardOf events (made ++ one ∷ []) new speaker
    heard_other none same was =
        let packets : packets_heard speaker (made ++ one ∷ []) ≡ packets_heard speaker made = heard_with made one speaker false none ∙ append-nil (packets_heard speaker made) in
        record {
          report = record {
            packets = was.report.packets;
            are_tlvs = subst (λ (l : List (List ℕ)). AreTlvsOf 0 l was.report.packets) (sym packets) was.report.are_tlvs;
            counts = ap (λ (h : Heard). h.report) same ∙ was.report.counts;
          };
          octets = ap (λ (h : Heard). h.octets) same ∙ was.octets ∙ ap size (sym packets);
        }

    -- one that gives it a packet counts that
    heard_own : is_heard speaker one ≡ true → (packet : List ℕ) → packet ≡ octets_found one.what → CountsPacket speaker_cmp speaker (start_by events speaker) packet old new
        → IsHeardOf events made old speaker → IsHeardOf events (made ++ one ∷ []) new speaker
    heard_own some packet octets counts was =
        let before : List (List ℕ) = packets_heard speaker made in
        let packets : packets_heard speaker (made ++ one ∷ []) ≡ before ++ packet ∷ [] = heard_with made one speaker true some ∙ ap (λ (p : List ℕ). before ++ p ∷ []) (sym octets) in
        let at = counts.counts in
        let own : Heard = record { octets = (heard_of speaker_cmp old speaker).octets + length packet; report = counts.report } in
        let itself : is_at (speaker_cmp speaker) speaker ≡ true = ap is_eq (tied_itself speaker_total speaker) in
        let now : heard_of speaker_cmp new speaker ≡ own =
        ap (λ (es : List (Speaker × Heard)). heard_of speaker_cmp es speaker) counts.heard
        ∙ ap (λ (h : Option Heard). unwrap_or h nothing_heard) (lookup-insert speaker_total speaker speaker own old ∙ ap (λ (b : Bool). cond b (Some own) (lookup (is_at (speaker_cmp speaker)) old)) itself) in
        let placed : ArePlaced (0 + size before + 4) at.tlvs = subst (λ (n : ℕ). ArePlaced (n + 4) at.tlvs) (omega (arith, was.octets)) at.placed.1 in
        let said : sayings (start_by events speaker) (was.report.packets ++ at.tlvs ∷ []) ≡ sayings (start_by events speaker) was.report.packets ++ sayings_after (start_by events speaker) [] at.tlvs =
        flat_map-append (sayings_after (start_by events speaker) []) was.report.packets (at.tlvs ∷ [])
        ∙ ap (λ (l : List Saying). sayings (start_by events speaker) was.report.packets ++ l) (append-nil (sayings_after (start_by events speaker) [] at.tlvs)) in
        record {
          report = record {
            packets = was.report.packets ++ at.tlvs ∷ [];
            are_tlvs = subst (λ (l : List (List ℕ)). AreTlvsOf 0 l (was.report.packets ++ at.tlvs ∷ [])) (sym packets) (tlvs_more 0 before was.report.packets packet at.tlvs at.rest was.report.are_tlvs at.whole placed);
            counts = ap (λ (h : Heard). h.report) now ∙ at.counts (sayings (start_by events speaker) was.report.packets) was.report.counts ∙ ap counts_of (sym said);
          };
          octets = ap (λ (h : Heard). h.octets) now ∙ ap (λ (n : ℕ). n + length packet) was.octets ∙ sym (size_more before packet) ∙ ap size (sym packets);
        }

    -- one that gives a packet counts it for its sender alone
    pub heard_packet : (time : ℕ) (origin : Origin) (packet : List ℕ) → time_of one.came ≡ Some time → Some origin ≡ origin_found one.what → packet ≡ octets_found one.what
        → CountsPacket speaker_cmp (speaker_at origin) (start_by events (speaker_at origin)) packet old new → IsHeardOf events made old speaker → IsHeardOf events (made ++ one ∷ []) new speaker
    heard_packet time origin packet came is octets counts was = by (is_at (speaker_cmp (speaker_at origin)) speaker) refl
      where
        from : is_heard speaker one ≡ is_at (speaker_cmp (speaker_at origin)) speaker
        from = ap (λ (t : Option ℕ). is_some t && is_of speaker (origin_found one.what)) came ∙ ap (is_of speaker) (sym is)

        by : (b : Bool) → is_at (speaker_cmp (speaker_at origin)) speaker ≡ b → IsHeardOf events (made ++ one ∷ []) new speaker
        by true own =
            let same : speaker_at origin ≡ speaker = speaker_exact (speaker_at origin) speaker (equal_of (speaker_cmp (speaker_at origin) speaker) own) in
            heard_own (from ∙ own) packet octets (subst (λ (s : Speaker). CountsPacket speaker_cmp s (start_by events s) packet old new) same counts) was
        by false other =
            let put : Heard = record { octets = (heard_of speaker_cmp old (speaker_at origin)).octets + length packet; report = counts.report } in
            heard_other (from ∙ other)
            (ap (λ (es : List (Speaker × Heard)). heard_of speaker_cmp es speaker) counts.heard
            ∙ ap (λ (h : Option Heard). unwrap_or h nothing_heard) (lookup-insert speaker_total speaker (speaker_at origin) put old
            ∙ ap (λ (b : Bool). cond b (Some put) (lookup (is_at (speaker_cmp speaker)) old)) other)) was

  -- a record without a time, or without a packet, is heard of nobody
  pub heard_nothing : (made : List Made) (one : Made) (entries : List (Speaker × Heard)) → ((speaker : Speaker) → is_heard speaker one ≡ false) → (speaker : Speaker)
      → IsHeardOf events made entries speaker → IsHeardOf events (made ++ one ∷ []) entries speaker
  heard_nothing made one entries none speaker = heard_other made one entries entries speaker (none speaker) refl

  pub untimed_heard : (one : Made) → time_of one.came ≡ None → (speaker : Speaker) → is_heard speaker one ≡ false
  untimed_heard one none speaker = ap (λ (t : Option ℕ). is_some t && is_of speaker (origin_found one.what)) none

  pub no_packet_heard : (one : Made) (time : ℕ) → time_of one.came ≡ Some time → None ≡ origin_found one.what → (speaker : Speaker) → is_heard speaker one ≡ false
  no_packet_heard one time came none speaker =
      ap (λ (t : Option ℕ). is_some t && is_of speaker (origin_found one.what)) came ∙ ap (is_of speaker) (sym none)

  -- ---- one after another

  abbrev TellsNow : List Step → Type 0
  TellsNow steps = TellsSilent events (last_time (made_in steps)) (made_in steps) (told_in steps)

  told_so : (front : List Step) (all : List Step) → front ≡ all → HaveToldSo events all → HaveToldSo events front
  told_so front all is = subst (HaveToldSo events) (sym is)

  -- nothing was heard
  pub has_heard_none : (hearing : Hearing) → Suits events hearing.teller → hearing.teller.timeline.rows ≡ [] → hearing.lost.keys ≡ [] → hearing.teller.heard.entries ≡ []
      → hearing.since.moment ≡ None → hearing.since.has_come ≡ false → hearing.since.answers.entries ≡ []
      → hearing.teller.watch ≡ record { rows = []; silent = record { keys = [] } } → HasHeard events [] [] hearing
  has_heard_none hearing suits rows lost heard moment come answers watch =
      let have : HaveTold events None [] [] hearing.teller.timeline.rows = subst (HaveTold events None [] []) (sym rows) (told_of_none events) in
      let knows = knows_none events hearing.teller watch in
      record {
        suits = suits;
        steps = [];
        are_made = refl;
        each = λ front back split. told_so front [] (no_front front back split) (hearing.teller.timeline.rows, have);
        have_told = have;
        written_is = refl;
        opens = λ front back step split. absurd (no_step front step back split);
        awaits = awaits_none events.since hearing.since moment come answers;
        quiet = λ none. refl;
        silent = λ front back split. subst TellsNow (sym (no_front front back split)) (tells_now events [] [] hearing.teller knows);
        knows = knows;
        counts = λ front back step split. absurd (no_step front step back split);
        lost = λ speaker. ap (list_any (is_at (speaker_cmp speaker))) lost;
        heard = none_heard hearing.teller.heard.entries heard;
      }
    where
      no_front : (front back : List Step) → [] ≡ front ++ back → front ≡ []
      no_front [] back split = refl
      no_front (step ∷ front) back split = absurd (let bad : [] ≡ step ∷ (front ++ back) = split in cc)

      no_step : (front : List Step) (step : Step) (back : List Step) → [] ≡ front ++ step ∷ back → ⊥
      no_step [] step back split = let bad : [] ≡ step ∷ back = split in cc
      no_step (first ∷ front) step back split = let bad : [] ≡ first ∷ (front ++ step ∷ back) = split in cc

  -- what is written of a step, behind these records
  abbrev written_of : Step → List Made → Tellings
  written_of step made = unlost made (step.opening ++ told_from (since_in events.since (made ++ step.made ∷ [])) (step.told ++ requests_made events step.made))

  written_more : (before : List Made) (steps : List Step) (step : Step)
      → written_in events before (steps ++ step ∷ []) ≡ written_in events before steps ++ written_of step (before ++ made_in steps)
  written_more before [] step = append-nil (written_of step before) ∙ ap (written_of step) (sym (append-nil before))
  written_more before (first ∷ steps) step =
      let made = before ++ first.made ∷ [] in
      let one : Tellings = written_of first before in
      ap (λ (t : Tellings). one ++ t) (written_more made steps step
      ∙ ap (λ (m : List Made). written_in events made steps ++ written_of step m) (append_assoc before (first.made ∷ []) (made_in steps)))
      ∙ sym (append_assoc one (written_in events made steps) (written_of step (before ++ made_in (first ∷ steps))))

  pub unlost_is : (made : List Made) (written : Tellings) (old : Hearing) (was : HasHeard events made written old) (told : Tellings) → unlost_by old.lost told ≡ unlost (made_in was.steps) told
  unlost_is made written old was told = ap (λ (p : Speaker → Bool). filter (λ t. not (p (speaker_of t))) told) (fun_ext was.lost)

  module _ (made : List Made) (written : Tellings) (one : Made) (old new : Hearing) (was : HasHeard events made written old) where
    -- a record more was heard
    pub has_heard_more : (told : Tellings) → HearsRecord events one old.teller new.teller told → (time_of one.came ≡ None → told ≡ []) → (printed : Tellings)
        → (let since = since_in events.since (made_in was.steps ++ one ∷ []) in TellsFrom since (have_come since (made_in was.steps)) (time_of one.came) (told_in was.steps) told new.since printed)
        → ((speaker : Speaker) → contains speaker_cmp new.lost speaker
        ≡ contains speaker_cmp old.lost speaker || is_of speaker (option_map (λ (m : Missed). m.origin) (missed_in one.what)))
        → HasHeard events (made ++ one ∷ []) (written ++ unlost_by old.lost (printed ++ told_from new.since.moment (requests_made events one))) new
    has_heard_more told hears untimed printed from lost = record {
      suits = hears.suits;
      steps = steps;
      are_made = made_is ∙ ap (λ (m : List Made). m ++ one ∷ []) was.are_made;
      each = fronts (HaveToldSo events) (new.teller.timeline.rows, have) was.each;
      have_told = have;
      written_is = ap (λ (t : Tellings). t ++ unlost_by old.lost all) was.written_is
          ∙ ap (λ (t : Tellings). written_in events [] was.steps ++ t) (unlost_is made written old was all ∙ ap (unlost (made_in was.steps)) all_is)
          ∙ sym (written_more [] was.steps step);
      opens = opens;
      awaits = subst (λ (m : List Made). AwaitsAfter events.since m (told_in steps) new.since) (sym made_is)
          (subst (λ (t : Tellings). AwaitsAfter events.since (made_in was.steps ++ one ∷ []) t new.since) (sym told_is)
          (awaits_on (since_in events.since (made_in was.steps ++ one ∷ [])) (made_in was.steps) one (told_in was.steps ++ told) new.since from.awaits));
      silent = fronts TellsNow (tells_now events (made_in steps) (told_in steps) new.teller knows) was.silent;
      knows = knows;
      counts = counts;
      quiet = λ none. told_is ∙ quiet_more (made_in was.steps) one (told_in was.steps) told was.quiet untimed (ap first_time (sym made_is) ∙ none);
      lost = λ speaker. lost speaker ∙ ap (λ (b : Bool). b || missed speaker) (was.lost speaker) ∙ sym (lost_here speaker) ∙ ap (λ (m : List Made). is_lost m speaker) (sym made_is);
      heard = λ speaker. subst (λ (m : List Made). IsHeardOf events m new.teller.heard.entries speaker) (sym made_is) (hears.heard (made_in was.steps) speaker (was.heard speaker));
    }
      where
        step : Step
        step = record { made = one; told = told; opening = from.opening }

        steps : List Step
        steps = was.steps ++ step ∷ []

        requests : Tellings
        requests = requests_made events one

        all : Tellings
        all = printed ++ told_from new.since.moment requests

        since : Option ℕ
        since = since_in events.since (made_in was.steps ++ one ∷ [])

        all_is : all ≡ from.opening ++ told_from since (told ++ requests)
        all_is = ap (λ (t : Tellings). t ++ told_from new.since.moment requests) from.told_is
            ∙ ap (λ (s : Option ℕ). (from.opening ++ told_from since told) ++ told_from s requests) from.awaits.moment
            ∙ append_assoc from.opening (told_from since told) (told_from since requests)
            ∙ ap (λ (t : Tellings). from.opening ++ t) (sym (filter-append (λ (t : Telling Speaker). is_from since (time_told t)) told requests))

        made_is : made_in steps ≡ made_in was.steps ++ one ∷ []
        made_is = map-append (λ (s : Step). s.made) was.steps (step ∷ [])

        told_is : told_in steps ≡ told_in was.steps ++ told
        told_is = flat_map-append (λ (s : Step). s.told) was.steps (step ∷ []) ∙ ap (λ (t : Tellings). told_in was.steps ++ t) (append-nil told)

        have : HaveTold events None (made_in steps) (told_in steps) new.teller.timeline.rows
        have = subst (λ (m : List Made). HaveTold events None m (told_in steps) new.teller.timeline.rows) (sym made_is)
            (subst (λ (t : Tellings). HaveTold events None (made_in was.steps ++ one ∷ []) t new.teller.timeline.rows) (sym told_is)
            (hears.tells (made_in was.steps) (told_in was.steps) was.have_told))

        knows : KnowsSilent events (made_in steps) (told_in steps) new.teller
        knows = subst (λ (m : List Made). KnowsSilent events m (told_in steps) new.teller) (sym made_is)
            (subst (λ (t : Tellings). KnowsSilent events (made_in was.steps ++ one ∷ []) t new.teller) (sym told_is)
            (hears.silences (made_in was.steps) (told_in was.steps) was.knows))

        -- what holds of all steps, and of those that were first before, holds of all that are first
        fronts : (P : List Step → Type 0) → P steps → ((front back : List Step) → was.steps ≡ front ++ back → P front) → (front back : List Step) → steps ≡ front ++ back → P front
        fronts P whole before front [] split = subst P (split ∙ append-nil front) whole
        fronts P whole before front (here ∷ later) split = by (snoc_split was.steps step front here later split)
          where
            by : ((front ≡ was.steps) × (here ≡ step)) ⊎ IsInner was.steps step front here later → P front
            by (inl (all, last)) = subst P (sym all) (before was.steps [] (sym (append-nil was.steps)))
            by (inr inner) = before front (here ∷ inner.rest) inner.whole

        opens : (front back : List Step) (here : Step) → steps ≡ front ++ here ∷ back → OpensRightly events front here
        opens front back here split = by (snoc_split was.steps step front here back split)
          where
            by : ((front ≡ was.steps) × (here ≡ step)) ⊎ IsInner was.steps step front here back → OpensRightly events front here
            by (inl (all, last)) = subst (λ (f : List Step). OpensRightly events f here) (sym all) (subst (OpensRightly events was.steps) (sym last) from.opens)
            by (inr inner) = was.opens front inner.rest here inner.whole

        counts : (front back : List Step) (here : Step) → steps ≡ front ++ here ∷ back → CountsRoutes events (made_in front) (told_in front) here.told
        counts front back here split = by (snoc_split was.steps step front here back split)
          where
            by : ((front ≡ was.steps) × (here ≡ step)) ⊎ IsInner was.steps step front here back → CountsRoutes events (made_in front) (told_in front) here.told
            by (inl (all, last)) = subst (λ (f : List Step). CountsRoutes events (made_in f) (told_in f) here.told) (sym all)
                (subst (λ (s : Step). CountsRoutes events (made_in was.steps) (told_in was.steps) s.told) (sym last) (hears.counts (made_in was.steps) (told_in was.steps) was.have_told))
            by (inr inner) = was.counts front inner.rest here inner.whole

        missed : Speaker → Bool
        missed speaker = is_of speaker (option_map (λ (m : Missed). m.origin) (missed_in one.what))

        lost_here : (speaker : Speaker) → is_lost (made_in was.steps ++ one ∷ []) speaker ≡ is_lost (made_in was.steps) speaker || missed speaker
        lost_here speaker =
            list_any-append (λ (m : Made). is_of speaker (option_map (λ (m : Missed). m.origin) (missed_in m.what))) (made_in was.steps) (one ∷ [])
            ∙ ap (λ (b : Bool). is_lost (made_in was.steps) speaker || b) (or-false (missed speaker))

  -- ---- a record

  module _ (one : Made) (old : Teller Speaker) where
    pub hears_untimed : Suits events old → time_of one.came ≡ None → HearsRecord events one old old []
    hears_untimed suits none = record {
      suits = suits;
      tells = λ made before have. subst (λ (t : Tellings). HaveTold events None (made ++ one ∷ []) t old.timeline.rows) (sym (append-nil before))
          (told_untimed events made one before before old.timeline.rows none have);
      silences = λ made before knows. subst (λ (t : Tellings). KnowsSilent events (made ++ one ∷ []) t old) (sym (append-nil before)) (knows_untimed events made one before old none knows);
      counts = λ made before have. counts_none events made before;
      heard = λ made speaker. heard_nothing made one old.heard.entries (untimed_heard one none) speaker;
    }

    module _ (mid : Teller Speaker) where
      pub hears_no_packet : Suits events old → (mid.timeline.factor ≡ old.timeline.factor) × (mid.interest ≡ old.interest) → mid.timeline.limit ≡ old.timeline.limit → mid.heard ≡ old.heard → (time : ℕ) (told : Tellings)
          → time_of one.came ≡ Some time → None ≡ origin_found one.what → TellsEnds speaker_cmp events.expiry (asked_by events) time old.timeline.rows mid.timeline.rows [] (of_rows (asked_by events) told)
          → (watches events.expiry (asked_by events) ≡ true → TellsSilences speaker_cmp [] time [] told old.watch mid.watch)
          → (watches events.expiry (asked_by events) ≡ true → TellsCounts speaker_cmp events.expiry old.timeline.rows [] told) → HearsRecord events one old mid told
      hears_no_packet suits same limit heard time told came none ends silences counts = record {
        suits = suits_still old mid events same limit suits;
        tells = λ made before have. told_of_no_packet events made one before time old.timeline.rows mid.timeline.rows told came none ends have;
        silences = λ made before knows. knows_timed events made one before told time [] old mid came (no_hellos time one.what none) silences knows;
        counts = λ made before have. counts_so events made old.timeline.rows before told counts have;
        heard = λ made speaker was. subst (λ h. IsHeardOf events (made ++ one ∷ []) h speaker) (ap (λ h. h.entries) (sym heard))
            (heard_nothing made one old.heard.entries (no_packet_heard one time came none) speaker was);
      }

      pub hears_one_packet : (time : ℕ) (origin : Origin) (packet : List ℕ) (told : Tellings) → time_of one.came ≡ Some time → Some origin ≡ origin_found one.what → packet ≡ octets_found one.what
          → HearsPacket events origin time packet old mid [] told → HearsRecord events one old mid told
      hears_one_packet time origin packet told came is octets here = record {
        suits = here.suits;
        tells = λ made before have. told_of_packet events made one before time origin packet here.said old.timeline.rows mid.timeline.rows told came is octets here.is_said here.tells have;
        silences = λ made before knows.
            knows_timed events made one before told time (hellos_heard (speaker_at origin) time packet) old mid came (its_hellos time one.what origin packet is octets) here.silences knows;
        counts = λ made before have. counts_so events made old.timeline.rows before told here.counts_rows have;
        heard = λ made speaker was. heard_packet made one old.heard.entries mid.heard.entries speaker time origin packet came is octets here.counts was;
      }

  -- a record was heard, and then a sender is lost, if a datagram of it is missed there
  pub heard_and_lost : (made : List Made) (one : Made) (before told told_too : Tellings) (old mid new : Hearing) → mid.lost ≡ old.lost → (new.teller ≡ mid.teller) × (new.since ≡ mid.since)
      → (missed : Option Missed) → missed ≡ missed_in one.what → (came : Option ℕ) → came ≡ time_of one.came
      → (Suits events old.teller → HearsRecord events one old.teller mid.teller mid.heard.items) → (came ≡ None → mid.heard.items ≡ [])
      → TellsNext events.since came old.since mid.heard.items mid.since mid.printed.items
      → told_too ≡ told ++ unlost_by old.lost (mid.printed.items ++ told_from mid.since.moment (requests_made events one))
      → ((speaker : Speaker) → contains speaker_cmp new.lost speaker ≡ contains speaker_cmp mid.lost speaker || is_of speaker (option_map (λ (m : Missed). m.origin) missed))
      → HasHeard events made (before ++ told) old → HasHeard events (made ++ one ∷ []) (before ++ told_too) new
  heard_and_lost made one before told told_too old mid new lost same missed is came time hears untimed from told_is lose was =
      let printed : Tellings = mid.printed.items in
      let since = since_in events.since (made_in was.steps ++ one ∷ []) in
      let begun = awaits_begun events.since (made_in was.steps) one came time (told_in was.steps) old.since was.quiet was.awaits in
      let tells = from since (have_come since (made_in was.steps)) (told_in was.steps) begun in
      let requests : Tellings = requests_made events one in
      subst (λ (t : Tellings). HasHeard events (made ++ one ∷ []) t new) (append_assoc before told (unlost_by old.lost (printed ++ told_from new.since.moment requests))
      ∙ ap (λ (k : Since). before ++ (told ++ unlost_by old.lost (printed ++ told_from k.moment requests))) same.1 ∙ ap (λ (t : Tellings). before ++ t) (sym told_is))
      (has_heard_more made (before ++ told) one old new was mid.heard.items
      (subst (λ (t : Teller Speaker). HearsRecord events one old.teller t mid.heard.items) (sym same.0) (hears was.suits)) (λ none. untimed (time ∙ none)) printed
      (subst (λ (k : Since). TellsFrom since (have_come since (made_in was.steps)) (time_of one.came) (told_in was.steps) mid.heard.items k printed) (sym same.1)
      (subst (λ (t : Option ℕ). TellsFrom since (have_come since (made_in was.steps)) t (told_in was.steps) mid.heard.items mid.since printed) time tells))
      (λ speaker. lose speaker ∙ ap (λ (l : BTreeSet Speaker). contains speaker_cmp l speaker || is_of speaker (option_map (λ (m : Missed). m.origin) missed)) lost
      ∙ ap (λ (m : Option Missed). contains speaker_cmp old.lost speaker || is_of speaker (option_map (λ (m : Missed). m.origin) m)) is))
