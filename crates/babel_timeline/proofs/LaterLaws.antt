-- What the changes from a moment on make of what was held before it.
use Rattle.std.proofs.Common.{◌≡◌, ℕ, ◌≤◌, Bool, true, false, not, cond, List, [], ◌∷◌, ◌++◌, fold, Option, None, refl, sym, ap, subst, ◌∙◌, arith}
use Rattle.std.specs.Prelude.{nat_le}
use Rattle.std.specs.declared.cmp.Ordering.{Ordering}
use Rattle.std.specs.List.{AllByRecursion, filter}
use Rattle.std.proofs.lemmas.List.Sums.{fold-append}
use Rattle.babel_tlv.specs.Route.{Announcement}
use Rattle.babel_timeline.specs.declared.change.Change.{Change}
use Rattle.babel_timeline.specs.Changes.{before, from_on, held_after, up_to}
use Rattle.babel_timeline.specs.Laws as laws
use Rattle.babel_timeline.specs.Rows.{subject_cmp}
use Rattle.std.specs.BTreeMap.{is_at}

abbrev Changes : Type 0 → Type 0
Changes S = List (Change S)

-- each is told by the time of those behind it
abbrev AreRising : {S : Type 0} → Changes S → Type 0
AreRising [] = Unit {0}
AreRising (first ∷ changes) = AllByRecursion (λ told. first.time ≤ told.time) changes × AreRising changes

abbrev AreInTime : {S : Type 0} → Changes S → Type 0
AreInTime {S} changes = (front back : Changes S) (told : Change S) → changes ≡ front ++ told ∷ back → AllByRecursion (λ earlier. earlier.time ≤ told.time) front

later_ones : {S : Type 0} (first : Change S) (changes : Changes S) → AreInTime (first ∷ changes) → AreInTime changes
later_ones {S} first changes rising front back told split = let all = rising (first ∷ front) back told (ap (λ (cs : Changes S). first ∷ cs) split) in all.1

without_next : {S : Type 0} (first next : Change S) (changes : Changes S) → AreInTime (first ∷ next ∷ changes) → AreInTime (first ∷ changes)
without_next first next changes rising [] back told split = tt
without_next {S} first next changes rising (one ∷ front) back told split =
    let same : first ≡ one = cc in
    let rest : changes ≡ front ++ told ∷ back = cc in
    let all = rising (first ∷ next ∷ front) back told (ap (λ (cs : Changes S). first ∷ next ∷ cs) rest) in
    (subst (λ (c : Change S). c.time ≤ told.time) same all.0, all.1.1)

behind : {S : Type 0} (first : Change S) (changes : Changes S) → AreInTime (first ∷ changes) → AllByRecursion (λ told. first.time ≤ told.time) changes
behind first [] rising = tt
behind first (told ∷ changes) rising =
    let here = rising (first ∷ []) changes told refl in
    (here.0, behind first changes (without_next first told changes rising))

are_rising : {S : Type 0} (changes : Changes S) → AreInTime changes → AreRising changes
are_rising [] rising = tt
are_rising (first ∷ changes) rising = (behind first changes rising, are_rising changes (later_ones first changes rising))

-- ---- parts of them

kept : {S : Type 0} (P : Change S → Type 0) (test : Change S → Bool) (changes : Changes S) → AllByRecursion P changes → AllByRecursion P (filter test changes)
kept P test [] all = tt
kept {S} P test (first ∷ changes) all = by (kept P test changes all.1) (test first)
  where
    by : AllByRecursion P (filter test changes) → (b : Bool) → AllByRecursion P (cond b (first ∷ filter test changes) (filter test changes))
    by rest true = (all.0, rest)
    by rest false = rest

kept_rising : {S : Type 0} (test : Change S → Bool) (changes : Changes S) → AreRising changes → AreRising (filter test changes)
kept_rising test [] rising = tt
kept_rising {S} test (first ∷ changes) rising = by (kept_rising test changes rising.1) (test first)
  where
    by : AreRising (filter test changes) → (b : Bool) → AreRising (cond b (first ∷ filter test changes) (filter test changes))
    by rest true = (kept (λ (told : Change S). first.time ≤ told.time) test changes rising.0, rest)
    by rest false = rest

all_from : {S : Type 0} (since : ℕ) (least : ℕ) (changes : Changes S) → since ≤ least → AllByRecursion (λ told. least ≤ told.time) changes → (before since changes ≡ []) × (from_on since changes ≡ changes)
all_from since least [] le all = (refl, refl)
all_from {S} since least (told ∷ changes) le all =
    let here : least ≤ told.time = all.0 in
    let is : nat_le since told.time ≡ true = grind arith in
    let rest = all_from since least changes le all.1 in (
      ap (λ (b : Bool). cond (not b) (told ∷ before since changes) (before since changes)) is ∙ rest.0,
      ap (λ (b : Bool). cond b (told ∷ from_on since changes) (from_on since changes)) is ∙ ap (λ (cs : Changes S). told ∷ cs) rest.1,
    )

-- those before the moment, and then those from it on
parted : {S : Type 0} (since : ℕ) (changes : Changes S) → AreRising changes → before since changes ++ from_on since changes ≡ changes
parted since [] rising = refl
parted {S} since (first ∷ changes) rising = by (parted since changes rising.1) (nat_le since first.time) refl
  where
    by : before since changes ++ from_on since changes ≡ changes → (b : Bool) → nat_le since first.time ≡ b → cond (not b) (first ∷ before since changes) (before since changes) ++ cond b (first ∷ from_on since changes) (from_on since changes) ≡ first ∷ changes
    by rest true is =
        let le : since ≤ first.time = grind (arith, is) in
        let all = all_from since first.time changes le rising.0 in
        ap (λ (cs : Changes S). cs ++ first ∷ from_on since changes) all.0 ∙ ap (λ (cs : Changes S). first ∷ cs) all.1
    by rest false is = ap (λ (cs : Changes S). first ∷ cs) rest

-- what is before the moment is up to a later one
before_up_to : {S : Type 0} (since later : ℕ) (changes : Changes S) → since ≤ later → before since (up_to later changes) ≡ before since changes
before_up_to since later [] le = refl
before_up_to {S} since later (told ∷ changes) le = by (before_up_to since later changes le) (nat_le told.time later) refl (nat_le since told.time) refl
  where
    by : before since (up_to later changes) ≡ before since changes → (a : Bool) → nat_le told.time later ≡ a → (b : Bool) → nat_le since told.time ≡ b
        → before since (cond a (told ∷ up_to later changes) (up_to later changes)) ≡ cond (not b) (told ∷ before since changes) (before since changes)
    by again true is b test = ap (λ (c : Bool). cond (not c) (told ∷ before since (up_to later changes)) (before since (up_to later changes))) test ∙ ap (λ (cs : Changes S). cond (not b) (told ∷ cs) cs) again
    by again false is true test = again
    by again false is false test = absurd (grind (arith, is, test, le))

pub turn_rows : {S : Type 0} (cmp : S → S → Ordering) (factor : Option ℕ) → laws.LaterChangesTurnRows cmp factor
turn_rows {S} cmp factor all moment changes rows since later subject account le =
    let step : Option Announcement → Change S → Option Announcement = λ held told. cond (is_at (subject_cmp cmp subject) told.subject) (held_after told.kind) held in
    let rising : AreInTime changes = λ front back told split. let turns = account.turns front back told split in turns.in_time in
    let some : Changes S = up_to later changes in
    let part : before since some ++ from_on since some ≡ some = parted since some (kept_rising (λ (told : Change S). nat_le told.time later) changes (are_rising changes rising)) in
    let early : before since some ≡ before since changes = before_up_to since later changes le in
    sym (fold-append step None (before since changes) (from_on since some)) ∙ ap (λ (cs : Changes S). fold step None (cs ++ from_on since some)) (sym early) ∙ ap (fold step None) part
