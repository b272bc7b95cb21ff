-- What is held at a moment, by the last that was said of a key.
use Rattle.std.proofs.Common.{◌≡◌, ℕ, ◌+◌, ◌*◌, ◌<◌, ◌≤◌, ◌⊎◌, inl, inr, Bool, true, false, cond, List, [], ◌∷◌, ◌++◌, Option, Some, None, refl, sym, ap, subst, ◌∙◌, arith}
use Rattle.std.specs.Prelude.{◌↔◌, not, nat_lt, nat_le, is_none}
use Rattle.std.specs.List.{AllByRecursion, Contains, filter}
use Rattle.std.specs.Option.{option_and_then, option_map, option_map_or}
use Rattle.std.proofs.lemmas.Bool.Decides.{nat_tests}
use Rattle.babel_tlv.specs.declared.event.Event.{Event}
use Rattle.babel_tlv.specs.declared.event.Event.TheVariants as events
use Rattle.babel_tlv.specs.declared.held.Held.{Held}
use Rattle.babel_tlv.specs.declared.held.Held.TheVariants as helds
use Rattle.babel_tlv.specs.declared.mode.Mode.{Mode}
use Rattle.babel_tlv.specs.declared.mode.Mode.TheVariants as modes
use Rattle.babel_tlv.specs.Route.{RouteKey, Announcement}
use Rattle.babel_table.specs.Holds.{Names, retracted, same_key}
use Rattle.babel_table.specs.LastTold.{AllStay, AreHoldRows, HasExpired, IsGone, IsLast, Lasts, SpeaksOf, Stays, retracts_all}
use Rattle.babel_table.specs.Moments.{AreRowsAt, HoldsAt, Told, Stamp, Word, has_expired, last_word, left_at, times, word, word_after}
use Rattle.babel_table.proofs.HoldsLaws.{same-is, same-of, same_key-is}
use Rattle.babel_table.proofs.MomentLaws.{words_from}

-- ---- tests of keys

key-is : (a b : RouteKey) → same_key a b ≡ true → a ≡ b
key-is a b e = same-is a b (sym (same_key-is a b) ∙ e)

key-of : (a b : RouteKey) → a ≡ b → same_key a b ≡ true
key-of a b e = same_key-is a b ∙ same-of a b e

cond_false : {T : Type 0} (b : Bool) (x y : T) → ¬ (b ≡ true) → cond b x y ≡ y
cond_false true x y no_way = absurd (no_way refl)
cond_false false x y no_way = refl

one_key : (a b : RouteKey) → (a ≡ b) ⊎ ¬ (a ≡ b)
one_key a b = by (same_key a b) refl
  where
    by : (same : Bool) → same_key a b ≡ same → (a ≡ b) ⊎ ¬ (a ≡ b)
    by true e = inl (key-is a b e)
    by false e = inr (λ is. let t = key-of a b is in cc)

names_or : (key : RouteKey) (event : Event) → Names key event ⊎ ¬ Names key event
names_or key (events.Announce other ann) = one_key other key
names_or key (events.Retract other) = one_key other key
names_or key events.RetractAll = inr (λ e. e)
names_or key events.Nothing = inr (λ e. e)
names_or key (events.Ignored reason) = inr (λ e. e)

speaks_or : (key : RouteKey) (event : Event) → SpeaksOf key event ⊎ ¬ SpeaksOf key event
speaks_or key (events.Announce other ann) = one_key other key
speaks_or key (events.Retract other) = one_key other key
speaks_or key events.RetractAll = inl tt
speaks_or key events.Nothing = inr (λ e. e)
speaks_or key (events.Ignored reason) = inr (λ e. e)

-- ---- the last that is so

module _ (Is : Event → Type 0) (tells_apart : (event : Event) → Is event ⊎ ¬ Is event) where
  abbrev NoneIs : List Told → Type 0
  NoneIs told = AllByRecursion (λ one. ¬ Is one.event) told

  last_or : (told : List Told) → ((one : Told) × IsLast Is told one) ⊎ NoneIs told
  last_or [] = inr tt
  last_or (first ∷ later) = by (last_or later)
    where
      here : NoneIs later → Is first.event ⊎ ¬ Is first.event → ((one : Told) × IsLast Is (first ∷ later) one) ⊎ NoneIs (first ∷ later)
      here none (inl is) = inl (first, record { before = []; after = later; whole = refl; is = is; none = none })
      here none (inr not_so) = inr (not_so, none)

      by : ((one : Told) × IsLast Is later one) ⊎ NoneIs later → ((one : Told) × IsLast Is (first ∷ later) one) ⊎ NoneIs (first ∷ later)
      by (inl found) = let last = found.1 in inl (
        found.0,
        record {
          before = first ∷ last.before;
          after = last.after;
          whole = ap (λ (t : List Told). first ∷ t) last.whole;
          is = last.is;
          none = last.none;
        },
      )
      by (inr none) = here none (tells_apart first.event)

-- ---- words

module _ (mode : Mode) (factor : ℕ) (key : RouteKey) where
  abbrev next : Option Word → Told → Option Word
  next old one = word_after mode factor key one.when one.event old

  abbrev leads : Option Word → List Told → Option Word
  leads old told = words_from mode factor key old told

  next-silent : (old : Option Word) (when : Stamp) (event : Event) → ¬ SpeaksOf key event → word_after mode factor key when event old ≡ old
  next-silent old when (events.Announce other ann) silent = cond_false (same_key other key) (Some (word when (helds.Route ann))) old (λ e. silent (key-is other key e))
  next-silent old when (events.Retract other) silent = cond_false (same_key other key) (option_map (word when) (retracted mode)) old (λ e. silent (key-is other key e))
  next-silent old when events.RetractAll silent = absurd (silent tt)
  next-silent old when events.Nothing silent = refl
  next-silent old when (events.Ignored reason) silent = refl

  silent-stands : (old : Option Word) (later : List Told) → AllByRecursion (λ one. ¬ SpeaksOf key one.event) later → leads old later ≡ old
  silent-stands old [] silent = refl
  silent-stands old (one ∷ later) silent = silent-stands (next old one) later silent.1 ∙ next-silent old one.when one.event silent.0

  leads-append : (old : Option Word) (front back : List Told) → leads old (front ++ back) ≡ leads (leads old front) back
  leads-append old [] back = refl
  leads-append old (one ∷ front) back = leads-append (next old one) front back

  leads-last : (Is : Event → Type 0) (told : List Told) (one : Told) (last : IsLast Is told one) → leads None told ≡ leads (next (leads None last.before) one) last.after
  leads-last Is told one last = ap (λ (t : List Told). leads None t) last.whole ∙ leads-append None last.before (one ∷ last.after)

  -- the last that speaks of the key makes its word
  leads-spoken : (told : List Told) (one : Told) (last : IsLast (SpeaksOf key) told one) → leads None told ≡ next (leads None last.before) one
  leads-spoken told one last = leads-last (SpeaksOf key) told one last ∙ silent-stands (next (leads None last.before) one) last.after last.none

-- ---- what has expired

expired-is : (factor moment : ℕ) (when : Stamp) → has_expired factor moment when ≡ true → HasExpired factor moment when
expired-is factor moment when = by (nat_lt 0 when.interval) refl
  where
    lt-true : (a b : ℕ) → nat_lt a b ≡ true → a < b
    lt-true a b e = grind (arith, nat_tests)

    le-true : (a b : ℕ) → nat_le a b ≡ true → a ≤ b
    le-true a b e = grind (arith, nat_tests)

    by : (a : Bool) → nat_lt 0 when.interval ≡ a → option_map_or (λ end. nat_le end moment) (cond a (Some (when.time + factor * when.interval)) None) false ≡ true → HasExpired factor moment when
    by true e is = (lt-true 0 when.interval e, le-true (when.time + factor * when.interval) moment is)
    by false e is = absurd cc

is-expired : (factor moment : ℕ) (when : Stamp) → HasExpired factor moment when → has_expired factor moment when ≡ true
is-expired factor moment when expired = rw (lt-of 0 when.interval expired.0) (le-of (when.time + factor * when.interval) moment expired.1)
  where
    lt-of : (a b : ℕ) → a < b → nat_lt a b ≡ true
    lt-of a b lt = grind (arith, nat_tests)

    le-of : (a b : ℕ) → a ≤ b → nat_le a b ≡ true
    le-of a b le = grind (arith, nat_tests)

not-expired : (factor moment : ℕ) (when : Stamp) → has_expired factor moment when ≡ false → ¬ HasExpired factor moment when
not-expired factor moment when e expired = let is = is-expired factor moment when expired in cc

expired-not : (factor moment : ℕ) (when : Stamp) → ¬ HasExpired factor moment when → has_expired factor moment when ≡ false
expired-not factor moment when lasts = by (has_expired factor moment when) refl
  where
    by : (b : Bool) → has_expired factor moment when ≡ b → b ≡ false
    by true e = absurd (lasts (expired-is factor moment when e))
    by false e = refl

-- ---- what is left

-- what is left of what was said, where it has expired and is gone or not
abbrev left : Bool → Bool → Held → Option Held
left expired gone held = cond (not expired) (Some held) (cond (not gone) (Some helds.Unreachable) None)

module _ (mode : Mode) (factor moment : ℕ) where
  left-route : (when : Stamp) (ann other : Announcement) → left_at mode factor moment (word when (helds.Route other)) ≡ Some (helds.Route ann)
      → (other ≡ ann) × ¬ HasExpired factor moment when
  left-route when ann other = by (has_expired factor moment when) refl (has_expired (times mode (helds.Route other) * factor) moment when)
    where
      by : (expired : Bool) → has_expired factor moment when ≡ expired → (gone : Bool) → left expired gone (helds.Route other) ≡ Some (helds.Route ann)
          → (other ≡ ann) × ¬ HasExpired factor moment when
      by false e gone is = (cc, not-expired factor moment when e)
      by true e true is = absurd cc
      by true e false is = absurd cc

  left-retracted : (when : Stamp) (ann : Announcement) → ¬ (left_at mode factor moment (word when helds.Unreachable) ≡ Some (helds.Route ann))
  left-retracted when ann = by (has_expired factor moment when) (has_expired (times mode helds.Unreachable * factor) moment when)
    where
      by : (expired gone : Bool) → ¬ (left expired gone helds.Unreachable ≡ Some (helds.Route ann))
      by false gone is = cc
      by true true is = cc
      by true false is = cc

  -- ---- what is held as a route

  module _ (told : List Told) (key : RouteKey) where
    abbrev now : Option Word → Option Held
    now old = option_and_then (left_at mode factor moment) old

    retracted-no_route : (when : Stamp) (ann : Announcement) (b : Bool) → ¬ (now (cond b None (option_map (word when) (retracted mode))) ≡ Some (helds.Route ann))
    retracted-no_route when ann b = by mode refl b
      where
        by : (m : Mode) → mode ≡ m → (b : Bool) → ¬ (now (cond b None (option_map (word when) (retracted m))) ≡ Some (helds.Route ann))
        by m e true is = cc
        by modes.Plain e false is = cc
        by modes.Hold e false is = left-retracted when ann is

    route-spoken : (ann : Announcement) (when : Stamp) (event : Event) (last : IsLast (SpeaksOf key) told (record { when = when; event = event }))
        → now (word_after mode factor key when event (leads mode factor key None last.before)) ≡ Some (helds.Route ann) → Lasts factor moment told key ann
    route-spoken ann when (events.Announce other route) last is =
        let named : other ≡ key = last.is in
        let shown = left-route when ann route (rw (key-of other key named) at is) in
        record {
          when = when;
          last = subst (λ (k : RouteKey). IsLast (SpeaksOf key) told (record { when = when; event = events.Announce k ann })) named
              (subst (λ (a : Announcement). IsLast (SpeaksOf key) told (record { when = when; event = events.Announce other a })) shown.0 last);
          lasts = shown.1;
        }
    route-spoken ann when (events.Retract other) last is = absurd (retracted-no_route when ann false (rw (key-of other key last.is) at is))
    route-spoken ann when events.RetractAll last is =
        absurd (retracted-no_route when ann (is_none (option_and_then (left_at mode factor when.time) (leads mode factor key None last.before))) is)
    route-spoken ann when events.Nothing last is = absurd last.is
    route-spoken ann when (events.Ignored reason) last is = absurd last.is

    held-lasts : (ann : Announcement) → HoldsAt mode factor moment told key (helds.Route ann) → Lasts factor moment told key ann
    held-lasts ann holds = by (last_or (SpeaksOf key) (speaks_or key) told)
      where
        by : ((one : Told) × IsLast (SpeaksOf key) told one) ⊎ AllByRecursion (λ one. ¬ SpeaksOf key one.event) told → Lasts factor moment told key ann
        by (inl found) = route-spoken ann found.0.when found.0.event found.1 (ap now (sym (leads-spoken mode factor key told found.0 found.1)) ∙ holds)
        by (inr none) = absurd (let e = ap now (silent-stands mode factor key None told none) in cc)

    lasts-held : (ann : Announcement) → Lasts factor moment told key ann → HoldsAt mode factor moment told key (helds.Route ann)
    lasts-held ann lasts =
        let one : Told = record { when = lasts.when; event = events.Announce key ann } in
        let here : next mode factor key (leads mode factor key None lasts.last.before) one ≡ Some (word lasts.when (helds.Route ann)) = rw (key-of key key refl) refl in
        let stays = expired-not factor moment lasts.when lasts.lasts in
        ap now (leads-spoken mode factor key told one lasts.last ∙ here) ∙ rw stays refl

    pub route-lasts : (ann : Announcement) → HoldsAt mode factor moment told key (helds.Route ann) ↔ Lasts factor moment told key ann
    route-lasts ann = (held-lasts ann, lasts-held ann)

-- ---- mode Plain

module _ (factor moment : ℕ) (told : List Told) (key : RouteKey) where
  no-route : (when : Stamp) (route : Announcement) → ¬ (left_at modes.Plain factor moment (word when (helds.Route route)) ≡ Some helds.Unreachable)
  no-route when route is = by (has_expired factor moment when) (rw (once factor) at is)
    where
      once : (n : ℕ) → 1 * n ≡ n
      once n = omega arith

      by : (b : Bool) → ¬ (left b b (helds.Route route) ≡ Some helds.Unreachable)
      by true is = cc
      by false is = cc

  spoken-routes : (old : Option Word) (when : Stamp) (event : Event) → SpeaksOf key event
      → ¬ (option_and_then (left_at modes.Plain factor moment) (word_after modes.Plain factor key when event old) ≡ Some helds.Unreachable)
  spoken-routes old when (events.Announce other route) speaks is = no-route when route (rw (key-of other key speaks) at is)
  spoken-routes old when (events.Retract other) speaks is = absurd (let none = rw (key-of other key speaks) at is in cc)
  spoken-routes old when events.RetractAll speaks is = by (is_none (option_and_then (left_at modes.Plain factor when.time) old)) is
    where
      by : (b : Bool) → ¬ (option_and_then (left_at modes.Plain factor moment) (cond b None None) ≡ Some helds.Unreachable)
      by true is = cc
      by false is = cc
  spoken-routes old when events.Nothing speaks is = speaks
  spoken-routes old when (events.Ignored reason) speaks is = speaks

  pub plain-last : ((ann : Announcement) → HoldsAt modes.Plain factor moment told key (helds.Route ann) ↔ Lasts factor moment told key ann)
      × ¬ HoldsAt modes.Plain factor moment told key helds.Unreachable
  plain-last = (route-lasts modes.Plain factor moment told key, by (last_or (SpeaksOf key) (speaks_or key) told))
    where
      now : Option Word → Option Held
      now old = option_and_then (left_at modes.Plain factor moment) old

      by : ((one : Told) × IsLast (SpeaksOf key) told one) ⊎ AllByRecursion (λ one. ¬ SpeaksOf key one.event) told → ¬ HoldsAt modes.Plain factor moment told key helds.Unreachable
      by (inl found) holds = let one = found.0 in
          spoken-routes (leads modes.Plain factor key None found.1.before) one.when one.event found.1.is
          (ap (option_and_then (left_at modes.Plain factor moment)) (sym (leads-spoken modes.Plain factor key told one found.1)) ∙ holds)
      by (inr none) holds = let e = ap (option_and_then (left_at modes.Plain factor moment)) (silent-stands modes.Plain factor key None told none) in cc

-- ---- mode Hold

-- what names a key, or retracts all, leaves this of the key
abbrev held_of : Event → Held
held_of (events.Announce key ann) = helds.Route ann
held_of event = helds.Unreachable

abbrev said_by : Told → Word
said_by one = word one.when (held_of one.event)

-- either it stays and something is left, or neither
abbrev Fate : Type 0 → Option Held → Type 0
Fate Stay now = (Stay × ((held : Held) × (now ≡ Some held))) ⊎ (¬ Stay × (now ≡ None))

module _ (factor : ℕ) where
  word-fate : (moment : ℕ) (when : Stamp) (held : Held) (long : ℕ) → times modes.Hold held * factor ≡ long → (HasExpired long moment when → HasExpired factor moment when)
      → Fate (¬ HasExpired long moment when) (left_at modes.Hold factor moment (word when held))
  word-fate moment when held long e once = by (has_expired long moment when) refl
    where
      some : (b : Bool) → (now : Held) × (left b false held ≡ Some now)
      some true = (helds.Unreachable, refl)
      some false = (held, refl)

      by : (b : Bool) → has_expired long moment when ≡ b → Fate (¬ HasExpired long moment when) (left_at modes.Hold factor moment (word when held))
      by false is = inl (not-expired long moment when is, rw (e, is) (some (has_expired factor moment when)))
      by true is =
          let expired = expired-is long moment when is in
          let first : has_expired factor moment when ≡ true = is-expired factor moment when (once expired) in
          inr (λ stays. stays expired, rw (e, is, first) refl)

  event-fate : (moment : ℕ) (when : Stamp) (event : Event) → Fate (¬ IsGone factor moment when event) (left_at modes.Hold factor moment (word when (held_of event)))
  event-fate moment when (events.Announce key ann) = word-fate moment when (helds.Route ann) (2 * factor) refl (λ twice. (twice.0, let e = twice.1 in omega arith))
  event-fate moment when event = word-fate moment when helds.Unreachable factor (omega arith) (λ expired. expired)

  module _ (key : RouteKey) where
    abbrev words : Option Word → List Told → Option Word
    words old told = leads modes.Hold factor key old told

    named-next : (old : Option Word) (when : Stamp) (event : Event) → Names key event → word_after modes.Hold factor key when event old ≡ Some (word when (held_of event))
    named-next old when (events.Announce other ann) names = rw (key-of other key names) refl
    named-next old when (events.Retract other) names = rw (key-of other key names) refl
    named-next old when events.RetractAll names = absurd names
    named-next old when events.Nothing names = absurd names
    named-next old when (events.Ignored reason) names = absurd names

    unnamed-next : (when : Stamp) (event : Event) → ¬ Names key event → word_after modes.Hold factor key when event None ≡ None
    unnamed-next when events.RetractAll unnamed = refl
    unnamed-next when event unnamed = next-silent modes.Hold factor key None when event unnamed

    -- what was never named, and what is gone, stays so
    none-stays : (told : List Told) → AllByRecursion (λ one. ¬ Names key one.event) told → words None told ≡ None
    none-stays [] none = refl
    none-stays (one ∷ later) none = ap (λ (old : Option Word). words old later) (unnamed-next one.when one.event none.0) ∙ none-stays later none.1

    module _ (moment : ℕ) where
      abbrev left_now : Option Word → Option Held
      left_now old = option_and_then (left_at modes.Hold factor moment) old

      abbrev FateFrom : Told → List Told → Type 0
      FateFrom one later = Fate (AllStay factor moment one (filter (λ one. retracts_all one.event) later)) (left_now (words (Some (said_by one)) later))

      fate-next : (one : Told) (when : Stamp) (event : Event) (later : List Told) → AllByRecursion (λ one. ¬ Names key one.event) later → ¬ Names key event
          → ((first : Told) → FateFrom first later) → FateFrom one (record { when = when; event = event } ∷ later)
      fate-next one when events.RetractAll later none unnamed from = by (event-fate when.time one.when one.event)
        where
          wipe : Told
          wipe = record { when = when; event = events.RetractAll }

          kept : {Stay First : Type 0} {now : Option Held} → First → Fate Stay now → Fate (First × Stay) now
          kept first (inl stays) = inl ((first, stays.0), stays.1)
          kept first (inr gone) = inr (λ stay. gone.0 stay.1, gone.1)

          by : Fate (¬ IsGone factor when.time one.when one.event) (left_at modes.Hold factor when.time (said_by one)) → FateFrom one (record { when = when; event = events.RetractAll } ∷ later)
          by (inl stays) = rw stays.1.1 (kept stays.0 (from wipe))
          by (inr gone) = rw gone.1 (inr (λ stay. gone.0 stay.0, ap left_now (none-stays later none)))
      fate-next one when event later none unnamed from = rw (next-silent modes.Hold factor key (Some (said_by one)) when event unnamed) (from one)

      fate : (one : Told) (later : List Told) → AllByRecursion (λ one. ¬ Names key one.event) later → FateFrom one later
      fate one [] none = event-fate moment one.when one.event
      fate one (first ∷ later) none = fate-next one first.when first.event later none.1 none.0 (λ next. fate next later none.1)

      module _ (told : List Told) where
        fate-named : (named : Told) (last : IsLast (Names key) told named)
            → Fate (AllStay factor moment named (filter (λ one. retracts_all one.event) last.after)) (left_now (last_word modes.Hold factor told key))
        fate-named named last = rw (leads-last modes.Hold factor key (Names key) told named last, named-next (words None last.before) named.when named.event last.is) (fate named last.after last.none)

        stays-held : Stays factor moment told key → (held : Held) × HoldsAt modes.Hold factor moment told key held
        stays-held stays = by (fate-named stays.named stays.last)
          where
            by : Fate (AllStay factor moment stays.named (filter (λ one. retracts_all one.event) stays.last.after)) (left_now (last_word modes.Hold factor told key))
                → (held : Held) × HoldsAt modes.Hold factor moment told key held
            by (inl some) = some.1
            by (inr none) = absurd (none.0 stays.stay)

        held-stays : (held : Held) → HoldsAt modes.Hold factor moment told key held → Stays factor moment told key
        held-stays held holds = by (last_or (Names key) (names_or key) told)
          where
            apart : left_now (last_word modes.Hold factor told key) ≡ None → ⊥
            apart none = cc

            from : (named : Told) (last : IsLast (Names key) told named)
                → Fate (AllStay factor moment named (filter (λ one. retracts_all one.event) last.after)) (left_now (last_word modes.Hold factor told key)) → Stays factor moment told key
            from named last (inl some) = record { named = named; last = last; stay = some.0 }
            from named last (inr none) = absurd (apart none.1)

            by : ((one : Told) × IsLast (Names key) told one) ⊎ AllByRecursion (λ one. ¬ Names key one.event) told → Stays factor moment told key
            by (inl found) = from found.0 found.1 (fate-named found.0 found.1)
            by (inr none) = absurd (apart (ap left_now (none-stays told none)))

pub hold-last : (factor moment : ℕ) (told : List Told) (rows : List (RouteKey × Held)) → AreRowsAt modes.Hold factor moment told rows → AreHoldRows factor moment told rows
hold-last factor moment told rows are = record {
  route = λ key ann.
      let lasts = route-lasts modes.Hold factor moment told key ann in
      (λ listed. lasts.0 (are.held key (helds.Route ann) listed), λ last. are.all key (helds.Route ann) (lasts.1 last));
  unreachable = λ key. (
    λ listed.
        let holds : HoldsAt modes.Hold factor moment told key helds.Unreachable = are.held key helds.Unreachable listed in (
          held-stays factor key moment told helds.Unreachable holds,
          λ ann last. let route = (route-lasts modes.Hold factor moment told key ann).1 last in cc,
        ),
    λ stays. else_unreachable key stays.1 (stays-held factor key moment told stays.0),
  );
  gone = λ key. (
    λ none stays. let some = stays-held factor key moment told stays in none some.0 (are.all key some.0 some.1),
    λ gone held listed. gone (held-stays factor key moment told held (are.held key held listed)),
  );
}
  where
    else_unreachable : (key : RouteKey) → ((ann : Announcement) → ¬ Lasts factor moment told key ann) → (held : Held) × HoldsAt modes.Hold factor moment told key held
        → Contains rows (key, helds.Unreachable)
    else_unreachable key none (helds.Unreachable, holds) = are.all key helds.Unreachable holds
    else_unreachable key none (helds.Route ann, holds) = absurd (none ann ((route-lasts modes.Hold factor moment told key ann).0 holds))
