-- What keeps an account, and what it tells.
use Rattle.std.proofs.Common.{◌≡◌, ◌≢◌, ℕ, ◌+◌, ◌*◌, ◌<◌, ◌≤◌, Bool, true, false, cond, inl, inr, List, [], ◌∷◌, ◌++◌, Option, Some, None}
use Rattle.std.proofs.Common.{refl, sym, ap, subst, ◌∙◌, arith}
use Rattle.std.specs.Prelude.{IfSome, nat_lt, option_to_list}
use Rattle.std.specs.declared.cmp.Ordering.{Ordering}
use Rattle.std.specs.Ordering.{ordering_then}
use Rattle.std.specs.Cmp.{IsTotalOrder}
use Rattle.std.specs.BTreeMap.{insert_entry, is_at}
use Rattle.std.specs.List.{AllByRecursion}
use Rattle.std.specs.List.Sorted.{IsStrictlySortedBy}
use Rattle.std.specs.Option.{option_map}
use Rattle.std.proofs.lemmas.List.{append-nil}
use Rattle.std.proofs.lemmas.List.Sums.{fold-append}
use Rattle.std.proofs.lemmas.Map.Lookups.{CmpEqualImpliesEq}
use Rattle.babel_prefix.proofs.Insertion.{is_at-sym, sorted-insert}
use Rattle.babel_tlv.specs.declared.event.Event.{Event}
use Rattle.babel_tlv.specs.declared.event.Event.TheVariants as events
use Rattle.babel_tlv.specs.declared.held.Held.TheVariants as helds
use Rattle.babel_tlv.specs.Route.{Announcement}
use Rattle.babel_tlv.specs.Keys.{key_cmp}
use Rattle.babel_table.specs.Moments.{Stamp, Word, word}
use Rattle.babel_table.proofs.Entries.{sorted-remove}
use Rattle.babel_timeline.specs.declared.change.Change.{Change}
use Rattle.babel_timeline.specs.declared.change.ChangeKind.{ChangeKind}
use Rattle.babel_timeline.specs.declared.change.ChangeKind.TheVariants as kinds
use Rattle.babel_timeline.specs.declared.row.Row.{Row}
use Rattle.babel_timeline.specs.declared.subject.Subject.{Subject}
use Rattle.babel_timeline.specs.Accounts.{EachTurns, HasExpired, IsAccount, IsLeft, IsMade, Said, SayEach, Turns, said, word_on}
use Rattle.babel_timeline.specs.Changes.{TellsAnnouncement, change, ending, held_after, held_before, told_by}
use Rattle.babel_timeline.specs.Laws as laws
use Rattle.babel_timeline.specs.Rows.{AllLast, Rows, end_of, row_at, subject_cmp, subject_of}
use Rattle.babel_timeline.proofs.HeldLaws.{Ahead, Left, SaysRows, all_later, ann_of, each_later, each_said, each_told, says_held}
use Rattle.babel_timeline.proofs.KeptLaws.{below_is, not_before}
use Rattle.babel_timeline.proofs.MadeLaws.{all_then, has_last, made_announcement, made_expiry, made_more, made_retraction}
use Rattle.babel_timeline.proofs.WordLaws.{all_more, next, none_left, sender_or, sender_same, snoc_split, word_more, words_become}
use Rattle.babel_timeline.proofs.Subjects.{Becomes, becomes_cases, becomes_inserted, becomes_removed, same_of, subject_total}

-- ---- when something ends

end_is : (factor : ℕ) (when : Stamp) (positive : Bool) → nat_lt 0 when.interval ≡ positive → (time : ℕ) → cond positive (Some (when.time + factor * when.interval)) None ≡ Some time
    → (0 < when.interval) × (when.time + factor * when.interval ≡ time)
end_is factor when true e time is = (below_is 0 when.interval e, (let same : when.time + factor * when.interval ≡ time = cc in same))
end_is factor when false e time is = absurd cc

-- it ends no earlier than it was said
end_later : (factor : Option ℕ) (when : Stamp) (time : ℕ) → end_of factor when ≡ Some time → when.time ≤ time
end_later None when time is = absurd cc
end_later (Some factor) when time is = let both = end_is factor when (nat_lt 0 when.interval) refl time is in omega (arith, both.1)

expired_later : (factor : Option ℕ) (moment later : ℕ) (when : Stamp) → moment ≤ later → HasExpired factor moment when → HasExpired factor later when
expired_later factor moment later when le ended = record { time = ended.time; end = ended.end; past = omega (arith, ended.past) }

-- ---- what is left

abbrev pub word_of : Option Row → Option Word
word_of row = option_map (λ (r : Row). word r.when (helds.Route r.ann)) row

module _ (factor : Option ℕ) where
  left_itself : (moment : ℕ) (new : Option Row) → IsLeft factor moment new (word_of new)
  left_itself moment None = refl
  left_itself moment (Some row) = refl

  pub left_later : (moment later : ℕ) (row : Option Row) (said : Option Word) → moment ≤ later → IsLeft factor moment row said → IsLeft factor later row said
  left_later moment later None None le left = left
  left_later moment later None (Some said) le left = expired_later factor moment later said.when le left
  left_later moment later (Some row) None le left = left
  left_later moment later (Some row) (Some said) le left = left

  left_more : (moment later : ℕ) (here : Bool) (new old : Option Row) (said : Option Word) → moment ≤ later → IsLeft factor moment old said
      → IsLeft factor later (cond here new old) (cond here (word_of new) said)
  left_more moment later true new old said le left = left_itself later new
  left_more moment later false new old said le left = left_later moment later old said le left

  left_ended : (moment time : ℕ) (held : Option Row) (row : Row) (said : Option Word) → held ≡ Some row → end_of factor row.when ≡ Some time → IsLeft factor moment held said
      → IsLeft factor time None said
  left_ended moment time None row said is end left = absurd cc
  left_ended moment time (Some held) row said is end left =
      let same : held ≡ row = cc in
      let ended : HasExpired factor time held.when = record { time = time; end = ap (λ (r : Row). end_of factor r.when) same ∙ end; past = omega arith } in
      subst (λ (w : Option Word). IsLeft factor time None w) left ended

-- ---- what a change says

-- a change, or none, tells what was held and what is held
abbrev pub Tells : {S : Type 0} → ℕ → Subject S → Option Announcement → Option Announcement → Option (Change S) → Type 0
Tells time subject old new None = old ≡ new
Tells time subject old new (Some told) = (told.time ≡ time) × (told.subject ≡ subject) × (held_after told.kind ≡ new) × (old ≢ new) × (held_before told.kind ≡ old)

pub tells_announcement : {S : Type 0} (time : ℕ) (subject : Subject S) (old : Option Row) (ann : Announcement) (told : Option (Change S)) → TellsAnnouncement time subject old ann told
    → Tells time subject (ann_of old) (Some ann) told
tells_announcement time subject None ann None e = absurd cc
tells_announcement {S} time subject None ann (Some told) e =
    let is : told ≡ change time subject (kinds.Announced ann) = cc in
    (ap (λ (t : Change S). t.time) is, ap (λ (t : Change S). t.subject) is, ap (λ (t : Change S). held_after t.kind) is, λ bad. absurd cc, ap (λ (t : Change S). held_before t.kind) is)
tells_announcement time subject (Some row) ann None e = ap Some e
tells_announcement {S} time subject (Some row) ann (Some told) e = (
  ap (λ (t : Change S). t.time) e.1,
  ap (λ (t : Change S). t.subject) e.1,
  ap (λ (t : Change S). held_after t.kind) e.1,
  λ bad. e.0 (let same : row.ann ≡ ann = cc in same),
  ap (λ (t : Change S). held_before t.kind) e.1,
)

pub tells_ending : {S : Type 0} (kind : Announcement → ChangeKind) → ((ann : Announcement) → held_after (kind ann) ≡ None) → ((ann : Announcement) → held_before (kind ann) ≡ Some ann)
    → (time : ℕ) (subject : Subject S) (old : Option Row) → Tells time subject (ann_of old) None (ending kind time subject old)
tells_ending kind after before time subject None = refl
tells_ending kind after before time subject (Some row) = (refl, refl, after row.ann, λ bad. absurd cc, before row.ann)

tells_time : {S : Type 0} (time : ℕ) (subject : Subject S) (old new : Option Announcement) (told : Option (Change S)) → Tells time subject old new told → IfSome told (λ (t : Change S). t.time ≡ time)
tells_time time subject old new None tells = tt
tells_time time subject old new (Some told) tells = tells.0

past_step : {S : Type 0} (moment time : ℕ) (changes : List (Change S)) (subject : Subject S) (old new : Option Announcement) (told : Option (Change S)) → moment ≤ time
    → AllByRecursion (λ told. told.time ≤ moment) changes → Tells time subject old new told → AllByRecursion (λ told. told.time ≤ time) (changes ++ option_to_list told)
past_step {S} moment time changes subject old new None le past tells =
    subst (λ (cs : List (Change S)). AllByRecursion (λ told. told.time ≤ time) cs) (sym (append-nil changes)) (all_later (λ (t : Change S). t.time) moment time changes le past)
past_step {S} moment time changes subject old new (Some told) le past tells =
    all_more (λ (t : Change S). t.time ≤ time) changes told (all_later (λ (t : Change S). t.time) moment time changes le past) (omega (arith, tells.0))

module _ {S : Type 0} (cmp : S → S → Ordering) (total : IsTotalOrder cmp) (exact : CmpEqualImpliesEq cmp) where
  told_by_more : (changes : List (Change S)) (told : Change S) (subject : Subject S) → told_by cmp (changes ++ told ∷ []) subject
      ≡ cond (is_at (subject_cmp cmp subject) told.subject) (held_after told.kind) (told_by cmp changes subject)
  told_by_more changes told subject =
      fold-append (λ (held : Option Announcement) (t : Change S). cond (is_at (subject_cmp cmp subject) t.subject) (held_after t.kind) held) None changes (told ∷ [])

  pub says_step : (changes : List (Change S)) (rows after : Rows S) (subject : Subject S) (new : Option Row) (time : ℕ) (told : Option (Change S)) → Becomes cmp rows subject new after
      → SaysRows cmp changes rows → Tells time subject (ann_of (row_at cmp rows subject)) (ann_of new) told → SaysRows cmp (changes ++ option_to_list told) after
  says_step changes rows after subject new time None becomes was tells other =
      ap (λ (cs : List (Change S)). told_by cmp cs other) (append-nil changes) ∙ was other ∙ (elim (becomes_cases cmp exact rows subject new after becomes other) [
        | inl at ↦ ap (λ (s : Subject S). ann_of (row_at cmp rows s)) (sym at.0) ∙ tells ∙ ap ann_of (sym at.1)
        | inr apart ↦ ap ann_of (sym apart.1)
      ])
  says_step changes rows after subject new time (Some told) becomes was tells other =
      told_by_more changes told other ∙ (elim (becomes_cases cmp exact rows subject new after becomes other) [
        | inl at ↦
            let hit : is_at (subject_cmp cmp other) told.subject ≡ true = same_of cmp total other told.subject (sym (tells.1 ∙ at.0)) in
            ap (λ (b : Bool). cond b (held_after told.kind) (told_by cmp changes other)) hit ∙ tells.2 ∙ ap ann_of (sym at.1)
        | inr apart ↦
            let miss : is_at (subject_cmp cmp other) told.subject ≡ false =
            ap (λ (s : Subject S). is_at (subject_cmp cmp other) s) tells.1 ∙ is_at-sym (subject_total cmp total) other subject ∙ apart.0 in
            ap (λ (b : Bool). cond b (held_after told.kind) (told_by cmp changes other)) miss ∙ was other ∙ ap ann_of (sym apart.1)
      ])

  turns_step : (changes : List (Change S)) (rows : Rows S) (subject : Subject S) (new : Option Announcement) (moment time : ℕ) (told : Option (Change S)) → moment ≤ time
      → SaysRows cmp changes rows → AllByRecursion (λ told. told.time ≤ moment) changes → Tells time subject (ann_of (row_at cmp rows subject)) new told
      → EachTurns cmp changes → EachTurns cmp (changes ++ option_to_list told)
  turns_step changes rows subject new moment time None le was past tells turns = subst (λ (cs : List (Change S)). EachTurns cmp cs) (sym (append-nil changes)) turns
  turns_step changes rows subject new moment time (Some told) le was past tells turns = λ before later here split.
      let turn : Turns cmp changes told = record {
        was = ap (λ (s : Subject S). told_by cmp changes s) tells.1 ∙ was subject ∙ sym tells.4;
        changes = λ same. tells.3 (sym (was subject) ∙ ap (λ (s : Subject S). told_by cmp changes s) (sym tells.1) ∙ same ∙ tells.2);
        in_time = all_later (λ (t : Change S). t.time) moment told.time changes (omega (arith, tells.0)) past;
      } in
      elim (snoc_split changes told before here later split) [
        | inl at ↦ subst (λ (b : List (Change S)). Turns cmp b here) (sym at.0) (subst (λ (t : Change S). Turns cmp changes t) (sym at.1) turn)
        | inr inner ↦ turns before inner.rest here inner.whole
      ]

  -- ---- what is left of what was said

  left_step : (factor : Option ℕ) (all more : List (Said S)) (moment time : ℕ) (rows after : Rows S) (subject : Subject S) (new : Option Row) → moment ≤ time
      → Becomes cmp rows subject new after
      → ((other : Subject S) → word_on cmp more other ≡ cond (is_at (subject_cmp cmp subject) other) (word_of new) (word_on cmp all other))
      → Left cmp factor None all moment rows → Left cmp factor None more time after
  left_step factor all more moment time rows after subject new le becomes words was other stays =
      let here : Bool = is_at (subject_cmp cmp subject) other in
      let old : Option Row = row_at cmp rows other in
      let said : Option Word = word_on cmp all other in
      subst (λ (r : Option Row). IsLeft factor time r (word_on cmp more other)) (sym (becomes other))
      (subst (λ (w : Option Word). IsLeft factor time (cond here new old) w) (sym (words other))
      (left_more factor moment time here new old said le (was other stays)))

  ahead_step : (factor : Option ℕ) (time : ℕ) (rows after : Rows S) (subject : Subject S) (new : Option Row) → Becomes cmp rows subject new after
      → ((row : Row) → new ≡ Some row → row.when.time ≡ time) → AllLast cmp factor time rows → Ahead cmp factor time after
  ahead_step factor time rows after subject new becomes when lasts other end ends = elim (becomes_cases cmp exact rows subject new after becomes other) [
    | inl at ↦
        let said_then : ends.row.when.time ≡ time = when ends.row (sym at.1 ∙ ends.held) in
        let later : ends.row.when.time ≤ end = end_later factor ends.row.when end ends.end in
        omega (arith, said_then, later)
    | inr apart ↦ let later : time < end = lasts other end (record { row = ends.row; held = sym apart.1 ∙ ends.held; end = ends.end }) in omega (arith, later)
  ]

  module _ (factor : Option ℕ) where
    -- once all that ends by a time has been told of, the changes say what is held at each moment before
    pub each_by : (all : List (Said S)) (moment time : ℕ) (changes : List (Change S)) (rows : Rows S) → IsAccount cmp factor None all moment changes rows → AllLast cmp factor time rows
        → SayEach cmp factor time all changes
    each_by all moment time changes rows account last = each_later cmp factor all moment time changes rows account.told account.left account.past account.heard
        (λ subject end ends. let later : time < end = last subject end ends in omega (arith, later)) account.each

    -- what is said then is said by then
    heard_step : (all : List (Said S)) (moment : ℕ) (one : Said S) → moment ≤ one.told.when.time → AllByRecursion (λ s. s.told.when.time ≤ moment) all
        → AllByRecursion (λ s. s.told.when.time ≤ one.told.when.time) (all ++ one ∷ [])
    heard_step all moment one le heard =
        all_more (λ (s : Said S). s.told.when.time ≤ one.told.when.time) all one (all_later (λ (s : Said S). s.told.when.time) moment one.told.when.time all le heard) (omega arith)

    pub begins : laws.BeginsAccount cmp factor
    unfolding IsStrictlySortedBy
    begins = record {
      rising = tt;
      told = λ subject. refl;
      turns = λ before after told split. absurd (none before told after split);
      past = tt;
      left = λ subject stays. refl;
      gone = λ subject gone. absurd gone;
      ahead = λ subject time ends. absurd (let held = ends.held in cc);
      heard = tt;
      each = λ earlier subject ann lt. absurd (omega (arith, lt));
      made = tt;
      leaves = tt;
    }
      where
        none : (before : List (Change S)) (told : Change S) (after : List (Change S)) → [] ≡ before ++ told ∷ after → ⊥
        none [] told after e = cc
        none (first ∷ before) told after e = cc

    pub announcing : laws.AnnouncingKeepsAccount cmp factor
    announcing all moment changes rows subject row told account time tells =
        let after : Rows S = insert_entry (subject_cmp cmp) rows subject row in
        let becomes : Becomes cmp rows subject (Some row) after = becomes_inserted cmp total rows subject row in
        let step : Tells row.when.time subject (ann_of (row_at cmp rows subject)) (Some row.ann) told = tells_announcement row.when.time subject (row_at cmp rows subject) row.ann told tells in
        let event : Event = events.Announce subject.key row.ann in
        let one : Said S = said subject.sender row.when event in
        record {
          rising = sorted-insert (subject_total cmp total) subject row rows account.rising;
          told = says_step changes rows after subject (Some row) row.when.time told becomes account.told step;
          turns = turns_step changes rows subject (Some row.ann) moment row.when.time told time.0 account.told account.past step account.turns;
          past = past_step moment row.when.time changes subject (ann_of (row_at cmp rows subject)) (Some row.ann) told time.0 account.past step;
          left = left_step factor all (all ++ said subject.sender row.when event ∷ []) moment row.when.time rows after subject (Some row) time.0 becomes
              (words_become cmp total all subject row.when event (word_of (Some row)) (λ key old. refl)) account.left;
          gone = λ other gone. absurd gone;
          ahead = ahead_step factor row.when.time rows after subject (Some row) becomes (λ other e. (let same : row ≡ other = cc in ap (λ (r : Row). r.when.time) (sym same))) time.1;
          heard = heard_step all moment one time.0 account.heard;
          each = each_told cmp factor row.when.time (all ++ one ∷ []) changes told (tells_time row.when.time subject (ann_of (row_at cmp rows subject)) (Some row.ann) told step)
              (each_said cmp factor row.when.time all changes one refl (each_by all moment row.when.time changes rows account time.1));
          made = made_more factor (all ++ one ∷ []) changes told (all_then factor all (one ∷ []) changes account.made)
              (made_announcement factor all subject row.when (row_at cmp rows subject) row.ann told tells);
          leaves = tt;
        }

    pub retracting : laws.RetractingKeepsAccount cmp factor
    retracting all moment changes rows subject when account time =
        let after : Rows S = laws.without cmp subject rows in
        let becomes : Becomes cmp rows subject None after = becomes_removed cmp total rows subject account.rising in
        let told : Option (Change S) = ending kinds.Retracted when.time subject (row_at cmp rows subject) in
        let step : Tells when.time subject (ann_of (row_at cmp rows subject)) None told =
        tells_ending kinds.Retracted (λ ann. refl) (λ ann. refl) when.time subject (row_at cmp rows subject) in
        let event : Event = events.Retract subject.key in
        let one : Said S = said subject.sender when event in
        record {
          rising = sorted-remove (subject_total cmp total) (is_at (subject_cmp cmp subject)) rows account.rising;
          told = says_step changes rows after subject None when.time told becomes account.told step;
          turns = turns_step changes rows subject None moment when.time told time.0 account.told account.past step account.turns;
          past = past_step moment when.time changes subject (ann_of (row_at cmp rows subject)) None told time.0 account.past step;
          left = left_step factor all (all ++ said subject.sender when event ∷ []) moment when.time rows after subject None time.0 becomes
              (words_become cmp total all subject when event None (λ key old. refl)) account.left;
          gone = λ other gone. absurd gone;
          ahead = ahead_step factor when.time rows after subject None becomes (λ other e. absurd cc) time.1;
          heard = heard_step all moment one time.0 account.heard;
          each = each_told cmp factor when.time (all ++ one ∷ []) changes told (tells_time when.time subject (ann_of (row_at cmp rows subject)) None told step)
              (each_said cmp factor when.time all changes one refl (each_by all moment when.time changes rows account time.1));
          made = made_more factor (all ++ one ∷ []) changes told (all_then factor all (one ∷ []) changes account.made)
              (made_retraction factor (all ++ one ∷ []) subject when event (row_at cmp rows subject) (has_last all one) (inl refl));
          leaves = tt;
        }

    pub silence : laws.SilenceKeepsAccount cmp factor
    silence all moment changes rows sender when event account time quiet = record {
      rising = account.rising;
      told = account.told;
      turns = account.turns;
      past = all_later (λ (t : Change S). t.time) moment when.time changes time.0 account.past;
      left = λ other stays. subst (λ (w : Option Word). IsLeft factor when.time (row_at cmp rows other) w) (sym (same other))
          (left_later factor moment when.time (row_at cmp rows other) (word_on cmp all other) time.0 (account.left other stays));
      gone = λ other gone. absurd gone;
      ahead = λ other end ends. let later : when.time < end = time.1 other end ends in omega (arith, later);
      heard = heard_step all moment (said sender when event) time.0 account.heard;
      each = each_said cmp factor when.time all changes (said sender when event) refl (each_by all moment when.time changes rows account time.1);
      made = all_then factor all (said sender when event ∷ []) changes account.made;
      leaves = tt;
    }
      where
        by : (own : Bool) (old new : Option Word) → new ≡ old → cond own new old ≡ old
        by true old new e = e
        by false old new e = refl

        same : (other : Subject S) → word_on cmp (all ++ said sender when event ∷ []) other ≡ word_on cmp all other
        same other =
            let old : Option Word = word_on cmp all other in
            word_more cmp all (said sender when event) other ∙ by (is_at (cmp other.sender) sender) old (next other.key when event old) (quiet other.key old)

    pub leaving : laws.RetractingAllKeepsAccount cmp factor
    leaving all moment changes rows sender when account time = record {
      rising = account.rising;
      told = account.told;
      turns = account.turns;
      past = all_later (λ (t : Change S). t.time) moment when.time changes time.0 account.past;
      left = λ other stays. elim (sender_or cmp total exact other.sender sender) [
        | inl same ↦ absurd (stays same)
        | inr apart ↦
            subst (λ (w : Option Word). IsLeft factor when.time (row_at cmp rows other) w) (sym (more other false apart))
            (left_later factor moment when.time (row_at cmp rows other) (word_on cmp all other) time.0 (account.left other (λ gone. gone)))
      ];
      gone = λ other same. more other true (sender_same cmp total other.sender sender same) ∙ none_left other.key when (word_on cmp all other);
      ahead = λ other end ends. let later : when.time < end = time.1 other end ends in omega (arith, later);
      heard = heard_step all moment (said sender when events.RetractAll) time.0 account.heard;
      each = each_said cmp factor when.time all changes (said sender when events.RetractAll) refl (each_by all moment when.time changes rows account time.1);
      made = all_then factor all (said sender when events.RetractAll ∷ []) changes account.made;
      leaves = (when, refl, has_last all (said sender when events.RetractAll));
    }
      where
        more : (other : Subject S) (own : Bool) → is_at (cmp other.sender) sender ≡ own
            → word_on cmp (all ++ said sender when events.RetractAll ∷ []) other ≡ cond own (next other.key when events.RetractAll (word_on cmp all other)) (word_on cmp all other)
        more other own is =
            let old : Option Word = word_on cmp all other in
            word_more cmp all (said sender when events.RetractAll) other ∙ ap (λ (b : Bool). cond b (next other.key when events.RetractAll old) old) is

    pub each : laws.EachRetractedKeepsAccount cmp factor
    each all moment changes rows subject one account is =
        let after : Rows S = laws.without cmp subject rows in
        let becomes : Becomes cmp rows subject None after = becomes_removed cmp total rows subject account.rising in
        let told : Option (Change S) = Some one in
        let step : Tells moment subject (ann_of (row_at cmp rows subject)) None told =
        subst (λ (t : Option (Change S)). Tells moment subject (ann_of (row_at cmp rows subject)) None t) (sym is) (tells_ending kinds.Retracted (λ ann. refl) (λ ann. refl) moment subject (row_at cmp rows subject)) in
        let now : moment ≤ moment = omega arith in
        record {
          rising = sorted-remove (subject_total cmp total) (is_at (subject_cmp cmp subject)) rows account.rising;
          told = says_step changes rows after subject None moment told becomes account.told step;
          turns = turns_step changes rows subject None moment moment told now account.told account.past step account.turns;
          past = past_step moment moment changes subject (ann_of (row_at cmp rows subject)) None told now account.past step;
          left = λ other stays. elim (becomes_cases cmp exact rows subject None after becomes other) [
            | inl at ↦ absurd (stays (ap (λ (s : Subject S). s.sender) (sym at.0)))
            | inr apart ↦ subst (λ (r : Option Row). IsLeft factor moment r (word_on cmp all other)) (sym apart.1) (account.left other stays)
          ];
          gone = account.gone;
          ahead = λ other end ends. elim (becomes_cases cmp exact rows subject None after becomes other) [
            | inl at ↦ absurd (let bad : None ≡ Some ends.row = sym at.1 ∙ ends.held in cc)
            | inr apart ↦ account.ahead other end (record { row = ends.row; held = sym apart.1 ∙ ends.held; end = ends.end })
          ];
          heard = account.heard;
          each = each_told cmp factor moment all changes told (tells_time moment subject (ann_of (row_at cmp rows subject)) None told step) account.each;
          made = made_more factor all changes told account.made
              (subst (λ (t : Option (Change S)). IfSome t (IsMade factor all)) (sym is)
              (subst (λ (n : ℕ). IfSome (ending kinds.Retracted n subject (row_at cmp rows subject)) (IsMade factor all)) account.leaves.1
              (made_retraction factor all subject account.leaves.0 events.RetractAll (row_at cmp rows subject) account.leaves.2 (inr refl))));
          leaves = account.leaves;
        }

    pub left : laws.AllRetractedKeepsAccount cmp factor
    left all moment changes rows sender account none = record {
      rising = account.rising;
      told = account.told;
      turns = account.turns;
      past = account.past;
      left = λ other stays. elim (sender_or cmp total exact other.sender sender) [
        | inl same ↦
            let at : subject_of sender other.key ≡ other = ap (λ (s : S). subject_of s other.key) (sym same) in
            let no_row : row_at cmp rows other ≡ None = ap (λ (s : Subject S). row_at cmp rows s) (sym at) ∙ none other.key in
            subst (λ (r : Option Row). IsLeft factor moment r (word_on cmp all other)) (sym no_row)
            (subst (λ (w : Option Word). IsLeft factor moment None w) (sym (account.gone other same)) refl)
        | inr apart ↦ account.left other (λ same. let hit : is_at (cmp other.sender) sender ≡ true = sender_same cmp total other.sender sender same in absurd cc)
      ];
      gone = λ other gone. absurd gone;
      ahead = account.ahead;
      heard = account.heard;
      each = account.each;
      made = account.made;
      leaves = tt;
    }

    pub expiring : laws.ExpiringKeepsAccount cmp factor
    expiring all moment changes rows subject time one account first is =
        let after : Rows S = laws.without cmp subject rows in
        let becomes : Becomes cmp rows subject None after = becomes_removed cmp total rows subject account.rising in
        let told : Option (Change S) = Some one in
        let ends = first.ends in
        let le : moment ≤ time = account.ahead subject time ends in
        let ahead : Ahead cmp factor time rows = λ other end later. not_before end time (ordering_then (key_cmp other.key subject.key) (cmp other.sender subject.sender)) (first.first other end later) in
        let step : Tells time subject (ann_of (row_at cmp rows subject)) None told =
        subst (λ (t : Option (Change S)). Tells time subject (ann_of (row_at cmp rows subject)) None t) (sym is) (tells_ending kinds.Expired (λ ann. refl) (λ ann. refl) time subject (row_at cmp rows subject)) in
        record {
          rising = sorted-remove (subject_total cmp total) (is_at (subject_cmp cmp subject)) rows account.rising;
          told = says_step changes rows after subject None time told becomes account.told step;
          turns = turns_step changes rows subject None moment time told le account.told account.past step account.turns;
          past = past_step moment time changes subject (ann_of (row_at cmp rows subject)) None told le account.past step;
          left = λ other stays. elim (becomes_cases cmp exact rows subject None after becomes other) [
            | inl at ↦
                let held : row_at cmp rows other ≡ Some ends.row = ap (λ (s : Subject S). row_at cmp rows s) (sym at.0) ∙ ends.held in
                subst (λ (r : Option Row). IsLeft factor time r (word_on cmp all other)) (sym at.1)
                (left_ended factor moment time (row_at cmp rows other) ends.row (word_on cmp all other) held ends.end (account.left other stays))
            | inr apart ↦
                subst (λ (r : Option Row). IsLeft factor time r (word_on cmp all other)) (sym apart.1)
                (left_later factor moment time (row_at cmp rows other) (word_on cmp all other) le (account.left other stays))
          ];
          gone = λ other gone. absurd gone;
          ahead = λ other end later. elim (becomes_cases cmp exact rows subject None after becomes other) [
            | inl at ↦ absurd (let bad : None ≡ Some later.row = sym at.1 ∙ later.held in cc)
            | inr apart ↦ ahead other end (record { row = later.row; held = sym apart.1 ∙ later.held; end = later.end })
          ];
          heard = all_later (λ (s : Said S). s.told.when.time) moment time all le account.heard;
          each = each_told cmp factor time all changes told (tells_time time subject (ann_of (row_at cmp rows subject)) None told step)
              (each_later cmp factor all moment time changes rows account.told account.left account.past account.heard ahead account.each);
          made = made_more factor all changes told account.made
              (subst (λ (t : Option (Change S)). IfSome t (IsMade factor all)) (sym (is ∙ ap (ending kinds.Expired time subject) ends.held))
              (made_expiry cmp exact factor all subject time ends.row (sym (subst (λ (r : Option Row). IsLeft factor moment r (word_on cmp all subject)) ends.held (account.left subject (λ gone. gone)))) ends.end));
          leaves = tt;
        }

    -- ---- what changes say

    pub say_held : laws.ChangesSayWhatIsHeld cmp factor
    say_held all moment later changes rows subject ann account time = says_held cmp factor all moment later changes rows subject ann account.told account.left time.0 (time.1 subject)

    pub say_each : laws.ChangesSayEach cmp factor
    say_each all moment changes rows account = account.each
