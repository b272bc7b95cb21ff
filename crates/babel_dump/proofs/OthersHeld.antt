-- Which routes for other sources are kept, change by change.
use Rattle.std.proofs.Common.{◌≡◌, ℕ, ◌<◌, ◌++◌, ◌∷◌, Bool, true, false, cond, List, [], length, take, get_or, ◌+◌, Option, None, Some, zero, suc, ◌⊎◌, inl, inr, refl, sym, ap, subst, ◌∙◌, append_assoc, arith}
use Rattle.std.specs.Prelude.{◌↔◌, Any}
use Rattle.std.specs.BTreeMap.{is_at}
use Rattle.std.specs.BTreeSet.{BTreeSet, contains}
use Rattle.std.specs.declared.cmp.Ordering.{Ordering}
use Rattle.std.specs.Option.{option_or}
use Rattle.std.proofs.lemmas.List.{take_more}
use Rattle.std.proofs.lemmas.List.Sums.{fold-append}
use Rattle.babel_prefix.specs.Address.{Address}
use Rattle.babel_prefix.proofs.Insertion.{equal_of, is_at-sym}
use Rattle.babel_timeline.specs.declared.change.Change.{Change}
use Rattle.babel_timeline.specs.declared.subject.Subject.{Subject}
use Rattle.babel_timeline.specs.declared.telling.Telling.{Telling}
use Rattle.babel_timeline.specs.declared.telling.Telling.TheVariants as tellings
use Rattle.babel_timeline.specs.Rows.{subject_cmp}
use Rattle.babel_timeline.proofs.Subjects.{subject_exact, subject_total}
use Rattle.babel_dump.specs.AnySource.{IsSourceSpecific}
use Rattle.babel_dump.specs.EventsRun.{AreOthers, change_of, last_change, was_held}
use Rattle.babel_dump.specs.Speakers.{speaker_cmp, speaker_exact}
use Rattle.babel_dump.specs.declared.speaker.Speaker.{Speaker}
use Rattle.babel_dump.proofs.EventsRuns.{Tellings}
use Rattle.babel_dump.proofs.SpeakerLaws.{speaker_total}

one_of : (a b : Subject Speaker) → is_at (subject_cmp speaker_cmp a) b ≡ true → a ≡ b
one_of a b at = subject_exact speaker_cmp speaker_exact a b (equal_of (subject_cmp speaker_cmp a b) at)

-- what a set becomes, by another name of the order of senders
pub updated_so : (cmp : Speaker → Speaker → Ordering) → cmp ≡ speaker_cmp → (old new : BTreeSet (Subject Speaker)) (subject : Subject Speaker) (kept : Bool)
    → ((q : Subject Speaker) → contains (subject_cmp cmp) new q ≡ cond (is_at (subject_cmp cmp subject) q) kept (contains (subject_cmp cmp) old q))
    → (q : Subject Speaker) → contains (subject_cmp speaker_cmp) new q ≡ cond (is_at (subject_cmp speaker_cmp subject) q) kept (contains (subject_cmp speaker_cmp) old q)
updated_so cmp same old new subject kept updates = subst
    (λ (k : Speaker → Speaker → Ordering). (q : Subject Speaker) → contains (subject_cmp k) new q ≡ cond (is_at (subject_cmp k subject) q) kept (contains (subject_cmp k) old q))
    same updates

last_more : (told : Tellings) (one : Telling Speaker) (subject : Subject Speaker) → last_change (told ++ one ∷ []) subject ≡ option_or (change_of subject one) (last_change told subject)
last_more told one subject = fold-append (λ (last : Option (Change Speaker)) (t : Telling Speaker). option_or (change_of subject t) last) None told (one ∷ [])

module _ (dst : Address) (since : Option ℕ) (told : Tellings) where
  -- what is told is of no route that counts
  pub others_same : (one : Telling Speaker) (held : BTreeSet (Subject Speaker)) → ((subject : Subject Speaker) → IsSourceSpecific dst subject.key → change_of subject one ≡ None)
      → AreOthers dst since told held → AreOthers dst since (told ++ one ∷ []) held
  others_same one held none are subject = (
    λ has. (let is = (are subject).0 has in (is.0, ap (was_held since) (same is.0) ∙ is.1)),
    λ is. (are subject).1 (is.0, ap (was_held since) (sym (same is.0)) ∙ is.1),
  )
    where
      same : IsSourceSpecific dst subject.key → last_change (told ++ one ∷ []) subject ≡ last_change told subject
      same specific = last_more told one subject ∙ ap (λ (c : Option (Change Speaker)). option_or c (last_change told subject)) (none subject specific)

  module _ (change : Change Speaker) where
    -- a change of a route that does not count
    pub others_passed : (held : BTreeSet (Subject Speaker)) → ¬ IsSourceSpecific dst change.subject.key → AreOthers dst since told held → AreOthers dst since (told ++ tellings.Change change ∷ []) held
    others_passed held other = others_same (tellings.Change change) held none
      where
        none : (subject : Subject Speaker) → IsSourceSpecific dst subject.key → change_of subject (tellings.Change change) ≡ None
        none subject specific = by (is_at (subject_cmp speaker_cmp subject) change.subject) refl
          where
            by : (here : Bool) → is_at (subject_cmp speaker_cmp subject) change.subject ≡ here → cond here (Some change) None ≡ None
            by true at = absurd (other (subst (λ (s : Subject Speaker). IsSourceSpecific dst s.key) (one_of subject change.subject at) specific))
            by false at = refl

    -- a change of one that does
    pub others_changed : (old new : BTreeSet (Subject Speaker)) (kept : Bool) → IsSourceSpecific dst change.subject.key → was_held since (Some change) ≡ kept
        → ((q : Subject Speaker) → contains (subject_cmp speaker_cmp) new q ≡ cond (is_at (subject_cmp speaker_cmp change.subject) q) kept (contains (subject_cmp speaker_cmp) old q))
        → AreOthers dst since told old → AreOthers dst since (told ++ tellings.Change change ∷ []) new
    others_changed old new kept specific was updates are subject = by (is_at (subject_cmp speaker_cmp change.subject) subject) refl
      where
        last : (here : Bool) → is_at (subject_cmp speaker_cmp change.subject) subject ≡ here
            → last_change (told ++ tellings.Change change ∷ []) subject ≡ option_or (cond here (Some change) None) (last_change told subject)
        last here at = last_more told (tellings.Change change) subject
            ∙ ap (λ (b : Bool). option_or (cond b (Some change) None) (last_change told subject)) (is_at-sym (subject_total speaker_cmp speaker_total) subject change.subject ∙ at)

        has : (here : Bool) → is_at (subject_cmp speaker_cmp change.subject) subject ≡ here
            → contains (subject_cmp speaker_cmp) new subject ≡ cond here kept (contains (subject_cmp speaker_cmp) old subject)
        has here at = updates subject ∙ ap (λ (b : Bool). cond b kept (contains (subject_cmp speaker_cmp) old subject)) at

        by : (here : Bool) → is_at (subject_cmp speaker_cmp change.subject) subject ≡ here → (contains (subject_cmp speaker_cmp) new subject ≡ true)
            ↔ (IsSourceSpecific dst subject.key × (was_held since (last_change (told ++ tellings.Change change ∷ []) subject) ≡ true))
        by true at = (
          λ is. (subst (λ (s : Subject Speaker). IsSourceSpecific dst s.key) (one_of change.subject subject at) specific, ap (was_held since) (last true at) ∙ was ∙ sym (has true at) ∙ is),
          λ is. has true at ∙ sym was ∙ ap (was_held since) (sym (last true at)) ∙ is.1,
        )
        by false at = (
          λ is. (let it = (are subject).0 (sym (has false at) ∙ is) in (it.0, ap (was_held since) (last false at) ∙ it.1)),
          λ is. has false at ∙ (are subject).1 (is.0, ap (was_held since) (sym (last false at)) ∙ is.1),
        )

-- the next of what is told
pub others_next : (told : Tellings) (i : ℕ) (one : Telling Speaker) → i < length told → one ≡ get_or told i one → (earlier : Tellings) → (earlier ++ take i told) ++ one ∷ [] ≡ earlier ++ take (i + 1) told
others_next told i one within item earlier =
    append_assoc earlier (take i told) (one ∷ []) ∙ ap (λ (t : Telling Speaker). earlier ++ (take i told ++ t ∷ [])) item ∙ ap (λ (t : Tellings). earlier ++ t) (sym (take_more told i one within))

-- ---- whether a sender has one

module _ (sender : Speaker) where
  abbrev pub HasOne : List (Subject Speaker) → Type 0
  HasOne subjects = Any (λ subject. subject.sender ≡ sender) subjects

  split_one : (first : Subject Speaker) (rest : List (Subject Speaker)) → HasOne (first ∷ rest) → (first.sender ≡ sender) ⊎ HasOne rest
  split_one first rest (zero, x, within, at, own) = inl (subst (λ (s : Subject Speaker). s.sender ≡ sender) (sym at) own)
  split_one first rest (suc k, x, within, at, own) = inr (k, x, omega (arith, within), at, own)

  pub one_here : (first : Subject Speaker) (rest left : List (Subject Speaker)) → left ≡ first ∷ rest → first.sender ≡ sender → HasOne left
  one_here first rest left is own = subst HasOne (sym is) (0, first, omega arith, refl, own)

  pub one_later : (first : Subject Speaker) (rest left : List (Subject Speaker)) → left ≡ first ∷ rest → HasOne rest → HasOne left
  one_later first rest left is has = subst HasOne (sym is) (suc has.0, has.1, omega (arith, has.2), has.3, has.4)

  pub one_behind : (first : Subject Speaker) (rest left : List (Subject Speaker)) → left ≡ first ∷ rest → ¬ (first.sender ≡ sender) → HasOne left → HasOne rest
  one_behind first rest left is other has = by (split_one first rest (subst HasOne is has))
    where
      by : (first.sender ≡ sender) ⊎ HasOne rest → HasOne rest
      by (inl own) = absurd (other own)
      by (inr has) = has

  pub none_has : ¬ HasOne []
  none_has (k, x, within, at, own) = absurd (omega (arith, within))
