-- What makes a change.
use Rattle.std.proofs.Common.{◌≡◌, ℕ, zero, suc, Bool, true, false, cond, ◌⊎◌, inl, inr, List, [], ◌∷◌, ◌++◌, map, Option, Some, None, refl, sym, ap, subst, ◌∙◌, arith}
use Rattle.std.specs.Prelude.{IfSome, option_to_list}
use Rattle.std.specs.declared.cmp.Ordering.{Ordering}
use Rattle.std.specs.BTreeMap.{is_at}
use Rattle.std.specs.List.{AllByRecursion, Contains, filter}
use Rattle.std.proofs.lemmas.List.{append-nil}
use Rattle.std.proofs.lemmas.List.Elements.{Contains-append_cases, Contains-append_left, Contains-append_right}
use Rattle.std.proofs.lemmas.Map.Lookups.{CmpEqualImpliesEq}
use Rattle.babel_prefix.proofs.Insertion.{equal_of}
use Rattle.babel_tlv.specs.declared.event.Event.{Event}
use Rattle.babel_tlv.specs.declared.event.Event.TheVariants as events
use Rattle.babel_tlv.specs.declared.held.Held.TheVariants as helds
use Rattle.babel_tlv.specs.declared.mode.Mode.TheVariants as modes
use Rattle.babel_tlv.specs.declared.reason.Reason.{Reason}
use Rattle.babel_tlv.specs.Route.{Announcement, RouteKey}
use Rattle.babel_table.specs.Holds.{same_key}
use Rattle.babel_table.specs.Moments.{Stamp, Word, word}
use Rattle.babel_table.proofs.HoldsLaws.{same_key-decides}
use Rattle.babel_table.proofs.MomentLaws.{words_from}
use Rattle.babel_timeline.specs.declared.change.Change.{Change}
use Rattle.babel_timeline.specs.declared.change.ChangeKind.{ChangeKind}
use Rattle.babel_timeline.specs.declared.change.ChangeKind.TheVariants as kinds
use Rattle.babel_timeline.specs.declared.row.Row.{Row}
use Rattle.babel_timeline.specs.declared.subject.Subject.{Subject}
use Rattle.babel_timeline.specs.Accounts.{IsMade, Makes, Said, said, said_by, word_on}
use Rattle.babel_timeline.specs.Changes.{TellsAnnouncement, change, ending}
use Rattle.babel_timeline.specs.Rows.{end_of}
use Rattle.babel_timeline.proofs.WordLaws.{all_more, next, none_left}

-- ---- lists

pub has_first : {X : Type 0} (x : X) (xs : List X) → Contains (x ∷ xs) x
has_first x xs = Contains-append_left (x ∷ []) xs x (0, omega arith, refl)

pub has_later : {X : Type 0} (x : X) (xs : List X) (y : X) → Contains xs y → Contains (x ∷ xs) y
has_later x xs y has = Contains-append_right (x ∷ []) xs y has

is_one : {X : Type 0} (x y : X) → Contains (x ∷ []) y → x ≡ y
is_one x y (zero, lt, is) = is
is_one x y (suc k, lt, is) = absurd (omega (arith, lt))

pub all_map : {X : Type 0} (P Q : X → Type 0) (xs : List X) → ((x : X) → P x → Q x) → AllByRecursion P xs → AllByRecursion Q xs
all_map P Q [] to all = tt
all_map P Q (x ∷ xs) to all = (to x all.0, all_map P Q xs to all.1)

pub has_last : {X : Type 0} (xs : List X) (x : X) → Contains (xs ++ x ∷ []) x
has_last xs x = Contains-append_right xs (x ∷ []) x (has_first x [])

-- ---- what makes a change

module _ {S : Type 0} (factor : Option ℕ) where
  made_then : (all more : List (Said S)) (told : Change S) → IsMade factor all told → IsMade factor (all ++ more) told
  made_then all more told made = record { one = made.one; said = Contains-append_left all more made.one made.said; own = made.own; makes = made.makes }

  -- more is said
  pub all_then : (all more : List (Said S)) (changes : List (Change S)) → AllByRecursion (IsMade factor all) changes → AllByRecursion (IsMade factor (all ++ more)) changes
  all_then all more changes made = all_map (IsMade factor all) (IsMade factor (all ++ more)) changes (made_then all more) made

  -- a change is told, or none
  pub made_more : (all : List (Said S)) (changes : List (Change S)) (told : Option (Change S)) → AllByRecursion (IsMade factor all) changes → IfSome told (IsMade factor all)
      → AllByRecursion (IsMade factor all) (changes ++ option_to_list told)
  made_more all changes None made here = subst (λ (cs : List (Change S)). AllByRecursion (IsMade factor all) cs) (sym (append-nil changes)) made
  made_more all changes (Some told) made here = all_more (IsMade factor all) changes told made here

  -- the last that was said announced the key
  pub made_announcement : (all : List (Said S)) (subject : Subject S) (when : Stamp) (old : Option Row) (ann : Announcement) (told : Option (Change S)) → TellsAnnouncement when.time subject old ann told
      → IfSome told (IsMade factor (all ++ said subject.sender when (events.Announce subject.key ann) ∷ []))
  made_announcement all subject when None ann None tells = tt
  made_announcement all subject when None ann (Some told) tells =
      let one : Said S = said subject.sender when (events.Announce subject.key ann) in
      let is : change when.time subject (kinds.Announced ann) ≡ told = cc in
      subst (λ (t : Change S). IsMade factor (all ++ one ∷ []) t) is (record { one = one; said = has_last all one; own = refl; makes = (refl, refl) })
  made_announcement all subject when (Some row) ann None tells = tt
  made_announcement all subject when (Some row) ann (Some told) tells =
      let one : Said S = said subject.sender when (events.Announce subject.key ann) in
      subst (λ (t : Change S). IsMade factor (all ++ one ∷ []) t) (sym tells.1) (record { one = one; said = has_last all one; own = refl; makes = (refl, refl) })

  -- something that was said then took the key back
  pub made_retraction : (all : List (Said S)) (subject : Subject S) (when : Stamp) (event : Event) (old : Option Row) → Contains all (said subject.sender when event)
      → ((events.Retract subject.key ≡ event) ⊎ (events.RetractAll ≡ event)) → IfSome (ending kinds.Retracted when.time subject old) (IsMade factor all)
  made_retraction all subject when event None has takes = tt
  made_retraction all subject when event (Some row) has takes = record {
    one = said subject.sender when event;
    said = has;
    own = refl;
    makes = (refl, elim takes [ inl one ↦ inl (sym one) | inr every ↦ inr (sym every) ]);
  }

  -- what is ignored makes none
  no_makes : (told : Change S) (one : Said S) (reason : Reason) → events.Ignored reason ≡ one.told.event → Makes factor told.time told.subject.key told.kind one.told → ⊥
  no_makes told one reason is makes = by told.kind makes
    where
      by : (kind : ChangeKind) → Makes factor told.time told.subject.key kind one.told → ⊥
      by (kinds.Announced now) makes = let bad : events.Ignored reason ≡ events.Announce told.subject.key now = is ∙ makes.1 in cc
      by (kinds.Changed before now) makes = let bad : events.Ignored reason ≡ events.Announce told.subject.key now = is ∙ makes.1 in cc
      by (kinds.Retracted before) makes = elim makes.1 [
        | inl one ↦ (let bad : events.Ignored reason ≡ events.Retract told.subject.key = is ∙ one in cc)
        | inr every ↦ (let bad : events.Ignored reason ≡ events.RetractAll = is ∙ every in cc)
      ]
      by (kinds.Expired before) makes = let bad : events.Ignored reason ≡ events.Announce told.subject.key before = is ∙ makes.1 in cc

  -- instead of what is ignored something else may have been said
  pub made_other : (all : List (Said S)) (sender : S) (when : Stamp) (reason : Reason) (other : Said S) (changes : List (Change S)) → AllByRecursion (IsMade factor (all ++ said sender when (events.Ignored reason) ∷ [])) changes
      → AllByRecursion (IsMade factor (all ++ other ∷ [])) changes
  made_other all sender when reason other changes made =
      all_map (IsMade factor (all ++ one ∷ [])) (IsMade factor (all ++ other ∷ [])) changes as_other made
    where
      one : Said S
      one = said sender when (events.Ignored reason)

      as_other : (told : Change S) → IsMade factor (all ++ one ∷ []) told → IsMade factor (all ++ other ∷ []) told
      as_other told made = elim (Contains-append_cases all (one ∷ []) made.one made.said) [
        | inl front ↦ record { one = made.one; said = Contains-append_left all (other ∷ []) made.one front; own = made.own; makes = made.makes }
        | inr last ↦ absurd (no_makes told made.one reason (ap (λ (s : Said S). s.told.event) (is_one one made.one last)) made.makes)
      ]

-- ---- the last word was said

-- this was said, and is the word
pub record IsSaidWord {S : Type 0} (all : List (Said S)) (subject : Subject S) (when : Stamp) (ann : Announcement) : Type 0 where
  pub one : Said S
  pub said : Contains all one
  pub own : one.sender ≡ subject.sender
  pub when_is : one.told.when ≡ when
  pub announces : one.told.event ≡ events.Announce subject.key ann

module _ {S : Type 0} (cmp : S → S → Ordering) (exact : CmpEqualImpliesEq cmp) where
  -- a word after an event is the word before it, or the event announces it
  word_of_event : (key : RouteKey) (at when : Stamp) (ann : Announcement) (event : Event) (old : Option Word) → next key at event old ≡ Some (word when (helds.Route ann))
      → (old ≡ Some (word when (helds.Route ann))) ⊎ ((at ≡ when) × (event ≡ events.Announce key ann))
  word_of_event key at when ann (events.Announce other new) old is = by (same_key other key) refl is
    where
      by : (same : Bool) → same_key other key ≡ same → cond same (Some (word at (helds.Route new))) old ≡ Some (word when (helds.Route ann))
          → (old ≡ Some (word when (helds.Route ann))) ⊎ ((at ≡ when) × (events.Announce other new ≡ events.Announce key ann))
      by true same is =
          let words : word at (helds.Route new) ≡ word when (helds.Route ann) = cc in
          let at_when : at ≡ when = ap (λ (w : Word). w.when) words in
          let routes : helds.Route new ≡ helds.Route ann = ap (λ (w : Word). w.held) words in
          let anns : new ≡ ann = cc in
          let keys : other ≡ key = let decides = same_key-decides other key in decides.0 same in
          inr (at_when, ap (λ (k : RouteKey). events.Announce k new) keys ∙ ap (λ (a : Announcement). events.Announce key a) anns)
      by false same is = inl is
  word_of_event key at when ann (events.Retract other) old is = by (same_key other key) is
    where
      by : (same : Bool) → cond same None old ≡ Some (word when (helds.Route ann)) → (old ≡ Some (word when (helds.Route ann))) ⊎ ((at ≡ when) × (events.Retract other ≡ events.Announce key ann))
      by true is = absurd cc
      by false is = inl is
  word_of_event key at when ann events.RetractAll old is = absurd (let bad : None ≡ Some (word when (helds.Route ann)) = sym (none_left key at old) ∙ is in cc)
  word_of_event key at when ann events.Nothing old is = inl is
  word_of_event key at when ann (events.Ignored reason) old is = inl is

  word_from : (all : List (Said S)) (subject : Subject S) (when : Stamp) (ann : Announcement) (old : Option Word) → words_from modes.Plain 0 subject.key old (said_by cmp subject.sender all) ≡ Some (word when (helds.Route ann))
      → (old ≡ Some (word when (helds.Route ann))) ⊎ IsSaidWord all subject when ann
  word_from [] subject when ann old is = inl is
  word_from (first ∷ all) subject when ann old is = by (is_at (cmp subject.sender) first.sender) refl (λ before then. word_from all subject when ann before then) is
    where
      later : IsSaidWord all subject when ann → IsSaidWord (first ∷ all) subject when ann
      later spoken = record { one = spoken.one; said = has_later first all spoken.one spoken.said; own = spoken.own; when_is = spoken.when_is; announces = spoken.announces }

      by : (own : Bool) → is_at (cmp subject.sender) first.sender ≡ own
          → ((before : Option Word) → words_from modes.Plain 0 subject.key before (said_by cmp subject.sender all) ≡ Some (word when (helds.Route ann)) → (before ≡ Some (word when (helds.Route ann))) ⊎ IsSaidWord all subject when ann)
          → words_from modes.Plain 0 subject.key old (map (λ (one : Said S). one.told) (cond own (first ∷ filter (λ (one : Said S). is_at (cmp subject.sender) one.sender) all) (filter (λ (one : Said S). is_at (cmp subject.sender) one.sender) all)))
          ≡ Some (word when (helds.Route ann)) → (old ≡ Some (word when (helds.Route ann))) ⊎ IsSaidWord (first ∷ all) subject when ann
      by true own again is = elim (again (next subject.key first.told.when first.told.event old) is) [
        | inl here ↦ (elim (word_of_event subject.key first.told.when when ann first.told.event old here) [
          | inl before ↦ inl before
          | inr said ↦ inr (record { one = first; said = has_first first all; own = sym (exact subject.sender first.sender (equal_of (cmp subject.sender first.sender) own)); when_is = said.0; announces = said.1 })
        ])
        | inr spoken ↦ inr (later spoken)
      ]
      by false own again is = elim (again old is) [
        | inl here ↦ inl here
        | inr spoken ↦ inr (later spoken)
      ]

  pub last_said : (all : List (Said S)) (subject : Subject S) (when : Stamp) (ann : Announcement) → word_on cmp all subject ≡ Some (word when (helds.Route ann)) → IsSaidWord all subject when ann
  last_said all subject when ann is = elim (word_from all subject when ann None is) [
    | inl none ↦ absurd cc
    | inr spoken ↦ spoken
  ]

  -- what was announced last ends
  pub made_expiry : (factor : Option ℕ) (all : List (Said S)) (subject : Subject S) (time : ℕ) (row : Row) → word_on cmp all subject ≡ Some (word row.when (helds.Route row.ann)) → end_of factor row.when ≡ Some time
      → IsMade factor all (change time subject (kinds.Expired row.ann))
  made_expiry factor all subject time row is end =
      let last = last_said all subject row.when row.ann is in
      record { one = last.one; said = last.said; own = last.own; makes = (ap (end_of factor) last.when_is ∙ end, last.announces) }
