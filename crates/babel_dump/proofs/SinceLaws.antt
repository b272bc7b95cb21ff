-- From which moment on it is told, record by record.
use Rattle.std.proofs.Common.{◌≡◌, ℕ, Bool, true, false, ◌||◌, ◌&&◌, not, cond, List, [], ◌∷◌, ◌++◌, map, length, take, get_or, ◌+◌, ◌<◌, ◌≤◌, append_assoc, arith, Option, None, Some}
use Rattle.std.proofs.Common.{refl, sym, ap, subst, ◌∙◌}
use Rattle.std.specs.Prelude.{nat_le, Result, Ok, Err, OnOk}
use Rattle.std.specs.declared.cmp.Ordering.{Ordering}
use Rattle.std.specs.BTreeMap.{BTreeMap, get, is_at}
use Rattle.std.specs.List.Sorted.{IsStrictlySortedBy}
use Rattle.std.specs.Map.{keys_of, lookup}
use Rattle.std.specs.Option.{option_or}
use Rattle.std.proofs.Math.Bool.{or-false}
use Rattle.std.proofs.lemmas.List.{append-nil}
use Rattle.std.proofs.lemmas.List.Elements.{filter-append, filter_more}
use Rattle.std.proofs.lemmas.List.Folds.{list_any-append}
use Rattle.std.proofs.lemmas.List.Sums.{fold-append}
use Rattle.babel_prefix.proofs.Insertion.{is_at-sym}
use Rattle.babel_capture.specs.declared.window.Moment.{Moment}
use Rattle.babel_capture.specs.Counts.{Made}
use Rattle.babel_capture.specs.Times.{time_of}
use Rattle.babel_timeline.specs.declared.best_match.BestMatch.{BestMatch}
use Rattle.babel_timeline.specs.declared.telling.Telling.{Telling}
use Rattle.babel_timeline.specs.declared.telling.Telling.TheVariants as tellings
use Rattle.babel_timeline.specs.Telling.{answer_after, answered}
use Rattle.babel_dump.specs.EventText.{time_of as time_told}
use Rattle.babel_dump.specs.EventsRun.{Opens, answer_told, first_time, has_come, have_come, is_from, since_at, since_in, told_early, told_from}
use Rattle.babel_dump.specs.Followed.{Awaits, ComesBy, HasAnswers, TellsFrom, TellsNext, TellsThen}
use Rattle.babel_dump.specs.Speakers.{speaker_cmp}
use Rattle.babel_dump.specs.declared.since.Since.{Since}
use Rattle.babel_dump.specs.declared.speaker.Speaker.{Speaker}
use Rattle.babel_dump.proofs.EventsRuns.{Tellings}
use Rattle.babel_dump.proofs.SpeakerLaws.{speaker_total}

-- ---- the moment

first_more : (made : List Made) (one : Made) → first_time (made ++ one ∷ []) ≡ option_or (first_time made) (time_of one.came)
first_more [] one = by (time_of one.came)
  where
    by : (t : Option ℕ) → option_or t None ≡ t
    by None = refl
    by (Some time) = refl
first_more (first ∷ made) one = by (first_more made one) (time_of first.came)
  where
    by : first_time (made ++ one ∷ []) ≡ option_or (first_time made) (time_of one.came) → (t : Option ℕ)
        → option_or t (first_time (made ++ one ∷ [])) ≡ option_or (option_or t (first_time made)) (time_of one.came)
    by rest None = rest
    by rest (Some time) = refl

-- a record more makes a moment known, or leaves it as it was
pub since_more : (asked : Option Moment) (made : List Made) (one : Made) → since_in asked (made ++ one ∷ []) ≡ option_or (since_in asked made) (since_at asked (time_of one.came))
since_more asked made one = ap (since_at asked) (first_more made one) ∙ by asked (first_time made)
  where
    by : (a : Option Moment) (t : Option ℕ) → since_at a (option_or t (time_of one.came)) ≡ option_or (since_at a t) (since_at a (time_of one.came))
    by None t = refl
    by (Some moment) None = refl
    by (Some moment) (Some time) = refl

-- once it is known it stays
pub since_known : (asked : Option Moment) (made : List Made) (one : Made) (time : ℕ) → first_time made ≡ Some time → since_in asked (made ++ one ∷ []) ≡ since_in asked made
since_known asked made one time first =
    since_more asked made one ∙ ap (λ (t : Option ℕ). option_or (since_at asked t) (since_at asked (time_of one.came))) first ∙ known asked (time_of one.came) ∙ ap (since_at asked) (sym first)
  where
    known : (a : Option Moment) (t : Option ℕ) → option_or (since_at a (Some time)) (since_at a t) ≡ since_at a (Some time)
    known None t = refl
    known (Some m) t = refl

untimed : (since : Option ℕ) → has_come since None ≡ false
untimed None = refl
untimed (Some moment) = refl

-- where no record has a time, no moment has come
none_come : (since : Option ℕ) (made : List Made) → first_time made ≡ None → have_come since made ≡ false
none_come since [] none = refl
none_come since (first ∷ made) none = by (none_come since made) (time_of first.came) none
  where
    by : (first_time made ≡ None → have_come since made ≡ false) → (t : Option ℕ) → option_or t (first_time made) ≡ None → has_come since t || have_come since made ≡ false
    by rest None none = ap (λ (b : Bool). b || have_come since made) (untimed since) ∙ rest none
    by rest (Some time) none = absurd (let bad : Some time ≡ None = none in cc)

come_more : (since : Option ℕ) (made : List Made) (one : Made) → have_come since (made ++ one ∷ []) ≡ have_come since made || has_come since (time_of one.came)
come_more since made one =
    list_any-append (λ (m : Made). has_come since (time_of m.came)) made (one ∷ []) ∙ ap (λ (b : Bool). have_come since made || b) (or-false (has_come since (time_of one.came)))

abbrev pub AwaitsAfter : Option Moment → List Made → Tellings → Since → Type 0
AwaitsAfter asked made told kept = Awaits (since_in asked made) (have_come (since_in asked made) made) told kept

-- before a record is heard, a moment may count from it
pub awaits_begun : (asked : Option Moment) (made : List Made) (one : Made) (came : Option ℕ) → came ≡ time_of one.came → (told : Tellings) (kept : Since) → (first_time made ≡ None → told ≡ [])
    → AwaitsAfter asked made told kept
    → Awaits (since_in asked (made ++ one ∷ [])) (have_come (since_in asked (made ++ one ∷ [])) made) told (record kept { moment = option_or kept.moment (since_at asked came) })
awaits_begun asked made one came is told kept quiet awaits = by (first_time made) refl
  where
    now : Option ℕ
    now = since_in asked (made ++ one ∷ [])

    moment : option_or kept.moment (since_at asked came) ≡ now
    moment = ap (λ (m : Option ℕ). option_or m (since_at asked came)) awaits.moment ∙ ap (λ (t : Option ℕ). option_or (since_in asked made) (since_at asked t)) is ∙ sym (since_more asked made one)

    by : (t : Option ℕ) → first_time made ≡ t → Awaits now (have_come now made) told (record kept { moment = option_or kept.moment (since_at asked came) })
    by (Some time) first =
        let same : now ≡ since_in asked made = since_known asked made one time first in
        record {
          moment = moment;
          has_come = awaits.has_come ∙ ap (λ (s : Option ℕ). have_come s made) (sym same);
          answers = λ early. subst (λ (s : Option ℕ). HasAnswers (told_early s told) kept) (sym same) (awaits.answers (ap (λ (s : Option ℕ). have_come s made) (sym same) ∙ early));
        }
    by None first =
        let none : told ≡ [] = quiet first in
        let was : HasAnswers (told_early (since_in asked made) told) kept = awaits.answers (none_come (since_in asked made) made first) in
        record {
          moment = moment;
          has_come = awaits.has_come ∙ none_come (since_in asked made) made first ∙ sym (none_come now made first);
          answers = λ early speaker. was speaker ∙ ap (λ (t : Tellings). answered speaker_cmp (told_early (since_in asked made) t) speaker) none ∙ ap (λ (t : Tellings). answered speaker_cmp (told_early now t) speaker) (sym none);
        }

-- nothing was told while no record has a time
pub quiet_more : (made : List Made) (one : Made) (before told : Tellings) → (first_time made ≡ None → before ≡ []) → (time_of one.came ≡ None → told ≡ []) → first_time (made ++ one ∷ []) ≡ None → before ++ told ≡ []
quiet_more made one before told quiet untimed_is none = by (first_time made) refl (sym (first_more made one) ∙ none)
  where
    by : (t : Option ℕ) → first_time made ≡ t → option_or (first_time made) (time_of one.came) ≡ None → before ++ told ≡ []
    by None first both =
        ap (λ (t : Tellings). t ++ told) (quiet first) ∙ untimed_is (ap (λ (t : Option ℕ). option_or t (time_of one.came)) (sym first) ∙ both)
    by (Some time) first both = absurd (let bad : Some time ≡ None = ap (λ (t : Option ℕ). option_or t (time_of one.came)) (sym first) ∙ both in cc)

-- no record was heard
pub awaits_none : (asked : Option Moment) (kept : Since) → kept.moment ≡ None → kept.has_come ≡ false → kept.answers.entries ≡ [] → AwaitsAfter asked [] [] kept
awaits_none asked kept none not_yet no_answers = record {
  moment = none ∙ sym (by asked);
  has_come = not_yet;
  answers = λ early speaker. ap (λ (es : List (Speaker × BestMatch)). lookup (is_at (speaker_cmp speaker)) es) no_answers;
}
  where
    by : (a : Option Moment) → since_at a None ≡ None
    by None = refl
    by (Some moment) = refl

pub awaits_on : (since : Option ℕ) (made : List Made) (one : Made) (told : Tellings) (kept : Since) → Awaits since (have_come since made || has_come since (time_of one.came)) told kept
    → Awaits since (have_come since (made ++ one ∷ [])) told kept
awaits_on since made one told kept awaits = subst (λ (b : Bool). Awaits since b told kept) (sym (come_more since made one)) awaits

-- ---- what is kept

-- one answer more is kept
pub answer_kept : (cmp : Speaker → Speaker → Ordering) → cmp ≡ speaker_cmp → (old new : BTreeMap Speaker BestMatch) (sender : Speaker) (answer put : Option BestMatch)
    → answer ≡ put → ((q : Speaker) → get cmp new q ≡ cond (is_at (cmp sender) q) put (get cmp old q)) → (speaker : Speaker)
    → lookup (is_at (speaker_cmp speaker)) new.entries ≡ cond (is_at (speaker_cmp speaker) sender) answer (lookup (is_at (speaker_cmp speaker)) old.entries)
answer_kept cmp order old new sender answer put is updates speaker =
    subst (λ (k : Speaker → Speaker → Ordering). get k new speaker ≡ cond (is_at (k sender) speaker) put (get k old speaker)) order (updates speaker)
    ∙ ap (λ (a : Option BestMatch). cond (is_at (speaker_cmp sender) speaker) a (get speaker_cmp old speaker)) (sym is)
    ∙ ap (λ (b : Bool). cond b answer (get speaker_cmp old speaker)) (is_at-sym speaker_total sender speaker)

module _ (moment : ℕ) (earlier : Tellings) (old new : Since) (was : HasAnswers earlier old) where
  -- what is no answer
  pub other_kept : (told : Telling Speaker) → ((speaker : Speaker) (answer : Option BestMatch) → answer_after speaker_cmp speaker answer told ≡ answer) → new ≡ old
      → HasAnswers (earlier ++ told_early (Some moment) (told ∷ [])) new
  other_kept told none same speaker = ap (λ (k : Since). lookup (is_at (speaker_cmp speaker)) k.answers.entries) same ∙ was speaker ∙ sym (by (nat_le moment (time_told told)))
    where
      by : (b : Bool) → answered speaker_cmp (earlier ++ cond (not b) (told ∷ []) []) speaker ≡ answered speaker_cmp earlier speaker
      by true = ap (λ (t : Tellings). answered speaker_cmp t speaker) (append-nil earlier)
      by false = fold-append (answer_after speaker_cmp speaker) None earlier (told ∷ []) ∙ none speaker (answered speaker_cmp earlier speaker)

  module _ (time : ℕ) (sender : Speaker) (answer before : Option BestMatch) where
    -- an answer of the moment or later is not kept
    pub late_kept : moment ≤ time → new ≡ old → HasAnswers (earlier ++ told_early (Some moment) (tellings.Answer time sender answer before ∷ [])) new
    late_kept le same speaker =
        let late : nat_le moment time ≡ true = grind arith in
        ap (λ (k : Since). lookup (is_at (speaker_cmp speaker)) k.answers.entries) same ∙ was speaker
        ∙ sym (ap (λ (b : Bool). answered speaker_cmp (earlier ++ cond (not b) (tellings.Answer time sender answer before ∷ []) []) speaker) late ∙ ap (λ (t : Tellings). answered speaker_cmp t speaker) (append-nil earlier))

    pub early_kept : time < moment
        → ((speaker : Speaker) → lookup (is_at (speaker_cmp speaker)) new.answers.entries
        ≡ cond (is_at (speaker_cmp speaker) sender) answer (lookup (is_at (speaker_cmp speaker)) old.answers.entries))
        → HasAnswers (earlier ++ told_early (Some moment) (tellings.Answer time sender answer before ∷ [])) new
    early_kept lt puts speaker =
        let early : nat_le moment time ≡ false = grind arith in
        puts speaker ∙ ap (cond (is_at (speaker_cmp speaker) sender) answer) (was speaker)
        ∙ sym (ap (λ (b : Bool). answered speaker_cmp (earlier ++ cond (not b) (tellings.Answer time sender answer before ∷ []) []) speaker) early
        ∙ fold-append (answer_after speaker_cmp speaker) None earlier (tellings.Answer time sender answer before ∷ []))

-- of the next telling too
pub early_next : (moment : ℕ) (heard : Tellings) (i : ℕ) (one : Telling Speaker) → i < length heard → one ≡ get_or heard i one → (earlier : Tellings)
    → (earlier ++ told_early (Some moment) (take i heard)) ++ told_early (Some moment) (one ∷ []) ≡ earlier ++ told_early (Some moment) (take (i + 1) heard)
early_next moment heard i one within item earlier =
    append_assoc earlier (told_early (Some moment) (take i heard)) (told_early (Some moment) (one ∷ []))
    ∙ ap (λ (t : Telling Speaker). earlier ++ (told_early (Some moment) (take i heard) ++ told_early (Some moment) (t ∷ []))) item
    ∙ ap (λ (t : Tellings). earlier ++ t) (sym (filter_more (λ (t : Telling Speaker). not (is_from (Some moment) (time_told t))) heard i one within))

pub from_next : (moment : ℕ) (heard : Tellings) (i : ℕ) (one : Telling Speaker) → i < length heard → one ≡ get_or heard i one → (told now all : Tellings)
    → told ≡ all ++ told_from (Some moment) (take i heard) → (b : Bool) → nat_le moment (time_told one) ≡ b → now ≡ cond b (told ++ one ∷ []) told → now ≡ all ++ told_from (Some moment) (take (i + 1) heard)
from_next moment heard i one within item told now all was b test put =
    put ∙ by b ∙ ap (λ (c : Bool). all ++ (told_from (Some moment) (take i heard) ++ cond c (one ∷ []) [])) (sym test)
    ∙ ap (λ (t : Telling Speaker). all ++ (told_from (Some moment) (take i heard) ++ told_from (Some moment) (t ∷ []))) item
    ∙ ap (λ (t : Tellings). all ++ t) (sym (filter_more (λ (t : Telling Speaker). is_from (Some moment) (time_told t)) heard i one within))
  where
    by : (b : Bool) → cond b (told ++ one ∷ []) told ≡ all ++ (told_from (Some moment) (take i heard) ++ cond b (one ∷ []) [])
    by true = ap (λ (t : Tellings). t ++ one ∷ []) was ∙ append_assoc all (told_from (Some moment) (take i heard)) (one ∷ [])
    by false = was ∙ ap (λ (t : Tellings). all ++ t) (sym (append-nil (told_from (Some moment) (take i heard))))

-- ---- where the moment comes

module _ (since : ℕ) (time : Option ℕ) (old : Since) (heard : Tellings) where
  -- it had come before
  pub come_before : old.has_come ≡ true → (told : Tellings) → told ≡ [] → ComesBy since time old heard old told
  come_before before told none come earlier awaits =
      let is : come ≡ true = sym awaits.has_come ∙ before in
      subst (λ (c : Bool). Awaits (Some since) (c || has_come (Some since) time) (earlier ++ heard) old × Opens (Some since) (not c && has_come (Some since) time) (earlier ++ heard) told) (sym is)
      (record { moment = awaits.moment; has_come = before; answers = λ early. absurd (let bad : true ≡ false = early in cc) }, none)

  module _ (kept : Since) (not_yet : old.has_come ≡ false) (same : (kept.moment ≡ old.moment) × (kept.has_come ≡ old.has_come))
      (keeps : (earlier : Tellings) → HasAnswers earlier old → HasAnswers (earlier ++ told_early (Some since) heard) kept) where
    answers_now : (earlier : Tellings) → Awaits (Some since) false earlier old → HasAnswers (told_early (Some since) (earlier ++ heard)) kept
    answers_now earlier awaits =
        subst (λ (t : Tellings). HasAnswers t kept) (sym (filter-append (λ (t : Telling Speaker). not (is_from (Some since) (time_told t))) earlier heard))
        (keeps (told_early (Some since) earlier) (awaits.answers refl))

    -- it has not come yet
    pub come_later : has_come (Some since) time ≡ false → (told : Tellings) → told ≡ [] → ComesBy since time old heard kept told
    come_later not_now told none come earlier awaits =
        let is : come ≡ false = sym awaits.has_come ∙ not_yet in
        subst (λ (c : Bool). Awaits (Some since) (c || has_come (Some since) time) (earlier ++ heard) kept × Opens (Some since) (not c && has_come (Some since) time) (earlier ++ heard) told) (sym is)
        (subst (λ (h : Bool). Awaits (Some since) h (earlier ++ heard) kept × Opens (Some since) h (earlier ++ heard) told) (sym not_now) (
          record {
            moment = same.0 ∙ awaits.moment;
            has_come = same.1 ∙ not_yet;
            answers = λ early. answers_now earlier (subst (λ (c : Bool). Awaits (Some since) c earlier old) is awaits);
          },
          none,
        ))

    -- it comes
    pub come_now : has_come (Some since) time ≡ true → (told : Tellings) → IsStrictlySortedBy speaker_cmp (keys_of kept.answers.entries)
        → told ≡ map (answer_told since) kept.answers.entries → ComesBy since time old heard (record kept { has_come = true }) told
    come_now now told rising told_is come earlier awaits =
        let is : come ≡ false = sym awaits.has_come ∙ not_yet in
        let new : Since = record kept { has_come = true } in
        subst (λ (c : Bool). Awaits (Some since) (c || has_come (Some since) time) (earlier ++ heard) new × Opens (Some since) (not c && has_come (Some since) time) (earlier ++ heard) told) (sym is)
        (subst (λ (h : Bool). Awaits (Some since) h (earlier ++ heard) new × Opens (Some since) h (earlier ++ heard) told) (sym now) (
          record { moment = same.0 ∙ awaits.moment; has_come = refl; answers = λ early. absurd (let bad : true ≡ false = early in cc) },
          record {
            answers = kept.answers.entries;
            rising = rising;
            last = answers_now earlier (subst (λ (c : Bool). Awaits (Some since) c earlier old) is awaits);
            are = told_is;
          },
        ))

-- ---- what is told of it

-- no moment is known
pub told_all : (time : Option ℕ) (kept : Since) → kept.moment ≡ None → (heard told : Tellings) → told ≡ heard → TellsThen time kept heard kept told
told_all time kept none heard told is since come earlier awaits =
    subst (λ (s : Option ℕ). TellsFrom s come time earlier heard kept told) (sym none_is)
    (record {
      opening = [];
      opens = by (not come && false);
      awaits = record {
        moment = none;
        has_come = awaits.has_come ∙ sym (or-false come);
        answers = λ early speaker. subst (λ (s : Option ℕ). HasAnswers (told_early s earlier) kept) none_is (awaits.answers (sym (or-false come) ∙ early)) speaker
            ∙ ap (λ (t : Tellings). answered speaker_cmp t speaker) (none_early earlier ∙ sym (none_early (earlier ++ heard)));
      };
      told_is = is ∙ sym (all_from heard);
    })
  where
    none_is : since ≡ None
    none_is = sym awaits.moment ∙ none

    by : (b : Bool) → Opens None b (earlier ++ heard) []
    by b = refl

    none_early : (t : Tellings) → told_early None t ≡ []
    none_early [] = refl
    none_early (one ∷ t) = none_early t

    all_from : (t : Tellings) → told_from None t ≡ t
    all_from [] = refl
    all_from (one ∷ t) = ap (λ (r : Tellings). one ∷ r) (all_from t)

-- one is known
pub told_then : (moment : ℕ) (time : Option ℕ) (old new : Since) → old.moment ≡ Some moment → (heard opening told : Tellings) → ComesBy moment time old heard new opening
    → told ≡ opening ++ told_from (Some moment) heard → TellsThen time old heard new told
told_then moment time old new known heard opening told comes is since come earlier awaits =
    subst (λ (s : Option ℕ). TellsFrom s come time earlier heard new told) (sym same)
    (let both = comes come earlier (subst (λ (s : Option ℕ). Awaits s come earlier old) same awaits) in record { opening = opening; opens = both.1; awaits = both.0; told_is = is })
  where
    same : since ≡ Some moment
    same = sym awaits.moment ∙ known

-- ---- one answer after the other

pub answers_next : (moment : ℕ) (all told now : Tellings) (left rest : List (Speaker × BestMatch)) (one : Speaker × BestMatch) → told ++ map (answer_told moment) left ≡ all → left ≡ one ∷ rest
    → now ≡ told ++ answer_told moment one ∷ [] → now ++ map (answer_told moment) rest ≡ all
answers_next moment all told now left rest one before is put =
    ap (λ (t : Tellings). t ++ map (answer_told moment) rest) put ∙ append_assoc told (answer_told moment one ∷ []) (map (answer_told moment) rest)
    ∙ ap (λ (l : List (Speaker × BestMatch)). told ++ map (answer_told moment) l) (sym is) ∙ before

pub answers_all : (moment : ℕ) (all told : Tellings) (left : List (Speaker × BestMatch)) → told ++ map (answer_told moment) left ≡ all → left ≡ [] → told ≡ all
answers_all moment all told left before none =
    sym (append-nil told) ∙ ap (λ (l : List (Speaker × BestMatch)). told ++ map (answer_told moment) l) (sym none) ∙ before

-- ---- with a record

-- the same of a record from which a moment may count
pub tells_next : {T E : Type 0} (result : Result T E) (asked : Option Moment) (came time : Option ℕ) (old begun mid new : Since) (heard printed all : Tellings)
    → all ≡ heard → (begun.has_come ≡ old.has_come) × (begun.answers ≡ old.answers) → begun.moment ≡ option_or old.moment (since_at asked came) → mid ≡ begun → time ≡ came → TellsThen time mid heard new printed
    → OnOk result (TellsNext asked came old all new printed)
tells_next (Err fault) asked came time old begun mid new heard printed all whole same moment is at tells = tt
tells_next (Ok done) asked came time old begun mid new heard printed all whole same moment is at tells = λ since come earlier awaits.
    subst (λ (h : Tellings). TellsFrom since come came earlier h new printed) (sym whole) (subst (λ (t : Option ℕ). TellsFrom since come t earlier heard new printed) at
    (tells since come earlier (subst (Awaits since come earlier) (sym is) (record {
      moment = moment ∙ awaits.moment;
      has_come = same.0 ∙ awaits.has_come;
      answers = λ early speaker. ap (λ (m : BTreeMap Speaker BestMatch). lookup (is_at (speaker_cmp speaker)) m.entries) same.1 ∙ awaits.answers early speaker;
    }))))
