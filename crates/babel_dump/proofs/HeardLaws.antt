-- What was heard of each sender, one after the other.
use Rattle.std.proofs.Common.{◌≡◌, Bool, true, false, List, [], ◌∷◌, ◌++◌, map, refl, ap, sym, subst, ◌∙◌, append_assoc, append-nil, ℕ}
use Rattle.std.specs.Prelude.{if◌then◌else◌}
use Rattle.std.specs.List.{AllByRecursion}
use Rattle.std.proofs.lemmas.List.{map-append}
use Rattle.babel_capture.specs.declared.tallies.Origin.{Origin}
use Rattle.babel_capture.specs.Counts.{Made}
use Rattle.babel_capture.specs.Gathering.{Gathering, name_of}
use Rattle.babel_timeline.specs.Hearing.{report_of}
use Rattle.babel_dump.specs.EventsRun.{IsHeardSender, IsReportOf, speaker_at}
use Rattle.babel_dump.specs.Followed.{IsHeardOf}
use Rattle.babel_dump.specs.FollowedSenders.{with_packets}
use Rattle.babel_dump.specs.HeardSenders.{heard_of, heard_told}
use Rattle.babel_dump.specs.Speakers.{speaker_cmp}
use Rattle.babel_dump.specs.declared.events.Followed.{Followed}
use Rattle.babel_dump.specs.declared.events_job.Events.{Events}
use Rattle.babel_dump.specs.declared.events_outcome.HeardSender.{HeardSender}
use Rattle.babel_dump.specs.declared.speaker.Speaker.{Speaker}
use Rattle.babel_table.specs.Counts.{Counts}

abbrev pub Entries : Type 0
Entries = List (Origin × Bool)

module _ (followed : Followed) (all : List (Origin × List ℕ × Counts)) where
  abbrev those : Entries → List (Origin × List ℕ × Counts)
  those entries = map (heard_of followed) (with_packets entries)

  those_next : (entry : Origin × Bool) (rest : Entries) → those (entry ∷ rest) ≡ (if entry.1 then heard_of followed entry.0 ∷ [] else []) ++ those rest
  those_next (origin, true) rest = refl
  those_next (origin, false) rest = refl

  -- of the next sender too, if it has packets
  pub heard_next : (heard now : List HeardSender) (left rest : Entries) (entry : Origin × Bool) → map heard_told heard ++ those left ≡ all → left ≡ entry ∷ rest
      → map heard_told now ≡ map heard_told heard ++ (if entry.1 then heard_of followed entry.0 ∷ [] else []) → map heard_told now ++ those rest ≡ all
  heard_next heard now left rest entry before is told =
      ap (λ (l : List (Origin × List ℕ × Counts)). l ++ those rest) told
      ∙ append_assoc (map heard_told heard) (if entry.1 then heard_of followed entry.0 ∷ [] else []) (those rest)
      ∙ ap (λ (l : List (Origin × List ℕ × Counts)). map heard_told heard ++ l) (sym (those_next entry rest))
      ∙ ap (λ (l : Entries). map heard_told heard ++ those l) (sym is)
      ∙ before

  -- of all of them
  pub heard_all : (heard : List HeardSender) (left : Entries) → map heard_told heard ++ those left ≡ all → left ≡ [] → map heard_told heard ≡ all
  heard_all heard left before none = sym (append-nil (map heard_told heard)) ∙ ap (λ (l : Entries). map heard_told heard ++ those l) (sym none) ∙ before

-- one more, if it has packets
module _ (followed : Followed) (heard : List HeardSender) (origin : Origin) (has : Bool) where
  abbrev with_it : Bool → List (Origin × List ℕ × Counts)
  with_it b = map heard_told heard ++ (if b then heard_of followed origin ∷ [] else [])

  pub heard_none : has ≡ false → map heard_told heard ≡ with_it has
  heard_none lacks = sym (append-nil (map heard_told heard)) ∙ ap with_it (sym lacks)

  pub heard_one : (now : List HeardSender) (one : HeardSender) → has ≡ true → now ≡ heard ++ one ∷ [] → heard_told one ≡ heard_of followed origin → map heard_told now ≡ with_it has
  heard_one now one some put told =
      ap (map heard_told) put ∙ map-append heard_told heard (one ∷ []) ∙ ap (λ (t : Origin × List ℕ × Counts). map heard_told heard ++ t ∷ []) told ∙ ap with_it (sym some)

-- what is answered of each sender is its name and its report
pub heard_senders : (events : Events) (made : List Made) (followed : Followed) → ((speaker : Speaker) → IsHeardOf events made followed.follower.hearing.teller.heard.entries speaker)
    → (heard : List HeardSender) (origins : List Origin) → map heard_told heard ≡ map (heard_of followed) origins
    → (map (λ (h : HeardSender). h.origin) heard ≡ origins) × AllByRecursion (IsHeardSender events made followed.capture.progress.gathering) heard
heard_senders events made followed of [] [] are = (refl, tt)
heard_senders events made followed of [] (origin ∷ origins) are = absurd cc
heard_senders events made followed of (one ∷ heard) [] are = absurd cc
heard_senders events made followed of (one ∷ heard) (next ∷ origins) are =
    let here : heard_told one ≡ heard_of followed next = cc in
    let later : map heard_told heard ≡ map (heard_of followed) origins = cc in
    let origin : one.origin ≡ next = ap (λ (t : Origin × List ℕ × Counts). t.0) here in
    let gathering : Gathering = followed.capture.progress.gathering in
    let reports : Origin → Counts = λ o. report_of speaker_cmp followed.follower.hearing.teller.heard.entries (speaker_at o) in
    let on = heard_senders events made followed of heard origins later in (
      ap (λ (o : Origin). o ∷ map (λ (h : HeardSender). h.origin) heard) origin ∙ ap (λ (l : List Origin). next ∷ l) on.0,
      (
        (
          ap (λ (t : Origin × List ℕ × Counts). t.1) here ∙ ap (λ (o : Origin). name_of gathering o.place.interface) (sym origin),
          subst (IsReportOf events made (speaker_at one.origin)) (ap reports origin ∙ sym (ap (λ (t : Origin × List ℕ × Counts). t.2) here)) (of (speaker_at one.origin)).report,
        ),
        on.1,
      ),
    )
