-- What changes say is held at a moment, and at each one before it.
use Rattle.std.proofs.Common.{◌≡◌, ℕ, ◌<◌, ◌≤◌, Bool, true, false, cond, inl, inr, List, [], ◌∷◌, ◌++◌, Option, Some, None, refl, sym, ap, subst, ◌∙◌, arith}
use Rattle.std.specs.Prelude.{◌↔◌, IfSome, nat_le, option_to_list}
use Rattle.std.specs.declared.cmp.Ordering.{Ordering}
use Rattle.std.specs.List.{AllByRecursion, filter}
use Rattle.std.specs.Option.{option_and_then, option_map}
use Rattle.std.proofs.lemmas.Bool.{cases_lt}
use Rattle.std.proofs.lemmas.List.{append-nil}
use Rattle.std.proofs.lemmas.List.Elements.{filter-append}
use Rattle.babel_tlv.specs.declared.held.Held.{Held}
use Rattle.babel_tlv.specs.declared.held.Held.TheVariants as helds
use Rattle.babel_tlv.specs.declared.mode.Mode.TheVariants as modes
use Rattle.babel_tlv.specs.Route.{Announcement}
use Rattle.babel_table.specs.Moments.{Told, Word, last_word, left_at, word}
use Rattle.babel_timeline.specs.declared.change.Change.{Change}
use Rattle.babel_timeline.specs.declared.row.Row.{Row}
use Rattle.babel_timeline.specs.declared.subject.Subject.{Subject}
use Rattle.babel_timeline.specs.Accounts.{IsHeldAt, IsLeaving, IsLeft, Said, SayEach, said_by, said_up_to, word_on}
use Rattle.babel_timeline.specs.Changes.{told_by, up_to}
use Rattle.babel_timeline.specs.Rows.{Ends, Rows, end_of, row_at}
use Rattle.babel_timeline.proofs.WordLaws.{expired_by, last_any, lasts_by, left_plain}

abbrev pub ann_of : Option Row → Option Announcement
ann_of row = option_map (λ (r : Row). r.ann) row

-- what is left is held
all_held : (moment : ℕ) (row : Option Row) (said : Option Word) → IsLeft None moment row said → option_map (λ (w : Word). w.held) said ≡ option_map helds.Route (ann_of row)
all_held moment None None left = refl
all_held moment None (Some said) left = absurd (let end = left.end in cc)
all_held moment (Some row) said left = ap (option_map (λ (w : Word). w.held)) (sym left)

left_held : (factor moment later : ℕ) (row : Option Row) (said : Option Word) → moment ≤ later → IsLeft (Some factor) moment row said
    → ((held : Row) → row ≡ Some held → (end : ℕ) → end_of (Some factor) held.when ≡ Some end → later < end)
    → option_and_then (left_at modes.Plain factor later) said ≡ option_map helds.Route (ann_of row)
left_held factor moment later None None le left lasts = refl
left_held factor moment later None (Some said) le left lasts =
    left_plain factor later said
    ∙ ap (λ (b : Bool). cond b None (Some said.held)) (expired_by factor later said.when left.time left.end (omega (arith, left.past, le)))
left_held factor moment later (Some row) said le left lasts =
    ap (option_and_then (left_at modes.Plain factor later)) (sym left)
    ∙ left_plain factor later (word row.when (helds.Route row.ann))
    ∙ ap (λ (b : Bool). cond b None (Some (helds.Route row.ann))) (lasts_by factor later row.when (lasts row refl))

route_some : (told : Option Announcement) (ann : Announcement) → (told ≡ Some ann) ↔ (option_map helds.Route told ≡ Some (helds.Route ann))
route_some None ann = (λ e. absurd cc, λ e. absurd cc)
route_some (Some told) ann = (λ e. ap (option_map helds.Route) e, λ e. cc)

-- the route that is told is the one that is held
says : (told : Option Announcement) (row : Option Row) (held : Option Held) (ann : Announcement) → told ≡ ann_of row → held ≡ option_map helds.Route (ann_of row)
    → (told ≡ Some ann) ↔ (held ≡ Some (helds.Route ann))
says told row held ann e f =
    let both = route_some (ann_of row) ann in
    (λ is. f ∙ both.0 (sym e ∙ is), λ is. e ∙ both.1 (sym f ∙ is))

-- ---- lists up to a moment

abbrev UpTo : {X : Type 0} → (X → ℕ) → ℕ → List X → List X
UpTo time moment xs = filter (λ x. nat_le (time x) moment) xs

all_up_to : {X : Type 0} (time : X → ℕ) (moment later : ℕ) (xs : List X) → moment ≤ later → AllByRecursion (λ x. time x ≤ moment) xs → UpTo time later xs ≡ xs
all_up_to time moment later [] le all = refl
all_up_to {X} time moment later (x ∷ xs) le all =
    let here : time x ≤ moment = all.0 in
    let test : nat_le (time x) later ≡ true = grind (arith, here, le) in
    ap (λ (b : Bool). cond b (x ∷ UpTo time later xs) (UpTo time later xs)) test ∙ ap (λ (ys : List X). x ∷ ys) (all_up_to time moment later xs le all.1)

none_later : {X : Type 0} (time : X → ℕ) (moment later : ℕ) (xs : List X) (x : X) → moment < later → time x ≡ later → UpTo time moment (xs ++ x ∷ []) ≡ UpTo time moment xs
none_later {X} time moment later xs x lt is =
    let test : nat_le (time x) moment ≡ false = grind (arith, is, lt) in
    filter-append (λ (y : X). nat_le (time y) moment) xs (x ∷ [])
    ∙ ap (λ (b : Bool). UpTo time moment xs ++ cond b (x ∷ []) []) test
    ∙ append-nil (UpTo time moment xs)

pub all_later : {X : Type 0} (time : X → ℕ) (moment later : ℕ) (xs : List X) → moment ≤ later → AllByRecursion (λ x. time x ≤ moment) xs → AllByRecursion (λ x. time x ≤ later) xs
all_later time moment later [] le all = tt
all_later time moment later (x ∷ xs) le all = (omega (arith, all.0), all_later time moment later xs le all.1)

-- the last element is another one
pub all_other : {X : Type 0} (P : X → Type 0) (xs : List X) (one other : X) → P other → AllByRecursion P (xs ++ one ∷ []) → AllByRecursion P (xs ++ other ∷ [])
all_other P [] one other here all = (here, tt)
all_other P (x ∷ xs) one other here all = (all.0, all_other P xs one other here all.1)

module _ {S : Type 0} (cmp : S → S → Ordering) where
  -- the changes say what the rows are
  abbrev pub SaysRows : List (Change S) → Rows S → Type 0
  SaysRows changes rows = (subject : Subject S) → told_by cmp changes subject ≡ ann_of (row_at cmp rows subject)

  abbrev pub Left : Option ℕ → Option S → List (Said S) → ℕ → Rows S → Type 0
  Left factor leaving all moment rows = (subject : Subject S) → ¬ IsLeaving leaving subject.sender → IsLeft factor moment (row_at cmp rows subject) (word_on cmp all subject)

  -- nothing ends before the time
  abbrev pub Ahead : Option ℕ → ℕ → Rows S → Type 0
  Ahead factor moment rows = (subject : Subject S) (time : ℕ) → Ends cmp factor rows subject time → moment ≤ time

  -- the changes say what is held at a later moment, if nothing ends up to it
  pub says_held : (factor : Option ℕ) (all : List (Said S)) (moment later : ℕ) (changes : List (Change S)) (rows : Rows S) (subject : Subject S) (ann : Announcement) → SaysRows changes rows
      → Left factor None all moment rows → moment ≤ later → ((time : ℕ) → Ends cmp factor rows subject time → later < time)
      → (told_by cmp changes subject ≡ Some ann) ↔ IsHeldAt factor later (said_by cmp subject.sender all) subject.key ann
  says_held None all moment later changes rows subject ann told left le lasts =
      let row : Option Row = row_at cmp rows subject in
      let said : Option Word = word_on cmp all subject in
      says (told_by cmp changes subject) row (option_map (λ (w : Word). w.held) said) ann (told subject) (all_held moment row said (left subject (λ gone. gone)))
  says_held (Some factor) all moment later changes rows subject ann told left le lasts =
      let row : Option Row = row_at cmp rows subject in
      let said : List Told = said_by cmp subject.sender all in
      says (told_by cmp changes subject) row (option_and_then (left_at modes.Plain factor later) (last_word modes.Plain factor said subject.key)) ann (told subject)
      (ap (option_and_then (left_at modes.Plain factor later)) (last_any factor said subject.key)
      ∙ left_held factor moment later row (word_on cmp all subject) le (left subject (λ gone. gone)) (λ held is end ends. lasts end (record { row = held; held = is; end = ends })))

  -- ---- at each moment before

  -- nothing else is told or said before the time
  each_same : (factor : Option ℕ) (time : ℕ) (all more_said : List (Said S)) (changes more : List (Change S)) → ((earlier : ℕ) → earlier < time → said_up_to earlier more_said ≡ said_up_to earlier all)
      → ((earlier : ℕ) → earlier < time → up_to earlier more ≡ up_to earlier changes) → SayEach cmp factor time all changes → SayEach cmp factor time more_said more
  each_same factor time all more_said changes more same_said same each earlier subject ann lt =
      subst (λ (cs : List (Change S)). (told_by cmp cs subject ≡ Some ann) ↔ IsHeldAt factor earlier (said_by cmp subject.sender (said_up_to earlier more_said)) subject.key ann) (sym (same earlier lt))
      (subst (λ (s : List (Said S)). (told_by cmp (up_to earlier changes) subject ≡ Some ann) ↔ IsHeldAt factor earlier (said_by cmp subject.sender s) subject.key ann) (sym (same_said earlier lt))
      (each earlier subject ann lt))

  -- nothing ends before a later time
  pub each_later : (factor : Option ℕ) (all : List (Said S)) (moment time : ℕ) (changes : List (Change S)) (rows : Rows S) → SaysRows changes rows → Left factor None all moment rows
      → AllByRecursion (λ told. told.time ≤ moment) changes → AllByRecursion (λ one. one.told.when.time ≤ moment) all → Ahead factor time rows → SayEach cmp factor moment all changes
      → SayEach cmp factor time all changes
  each_later factor all moment time changes rows told left past heard ahead each earlier subject ann lt = elim (cases_lt earlier moment) [
    | inl before ↦ each earlier subject ann before
    | inr le ↦
        let all_told : up_to earlier changes ≡ changes = all_up_to (λ (t : Change S). t.time) moment earlier changes le past in
        let all_said : said_up_to earlier all ≡ all = all_up_to (λ (one : Said S). one.told.when.time) moment earlier all le heard in
        subst (λ (cs : List (Change S)). (told_by cmp cs subject ≡ Some ann) ↔ IsHeldAt factor earlier (said_by cmp subject.sender (said_up_to earlier all)) subject.key ann) (sym all_told)
        (subst (λ (s : List (Said S)). (told_by cmp changes subject ≡ Some ann) ↔ IsHeldAt factor earlier (said_by cmp subject.sender s) subject.key ann) (sym all_said)
        (says_held factor all moment earlier changes rows subject ann told left le (λ end ends. let after : time ≤ end = ahead subject end ends in omega (arith, lt, after))))
  ]

  -- what is said at the time, and what changes then
  pub each_said : (factor : Option ℕ) (time : ℕ) (all : List (Said S)) (changes : List (Change S)) (one : Said S) → one.told.when.time ≡ time → SayEach cmp factor time all changes
      → SayEach cmp factor time (all ++ one ∷ []) changes
  each_said factor time all changes one is each =
      each_same factor time all (all ++ one ∷ []) changes changes (λ earlier lt. none_later (λ (s : Said S). s.told.when.time) earlier time all one lt is) (λ earlier lt. refl) each

  pub each_told : (factor : Option ℕ) (time : ℕ) (all : List (Said S)) (changes : List (Change S)) (told : Option (Change S)) → IfSome told (λ (t : Change S). t.time ≡ time)
      → SayEach cmp factor time all changes → SayEach cmp factor time all (changes ++ option_to_list told)
  each_told factor time all changes None is each = each_same factor time all all changes (changes ++ []) (λ earlier lt. refl) (λ earlier lt. ap (up_to earlier) (append-nil changes)) each
  each_told factor time all changes (Some told) is each =
      each_same factor time all all changes (changes ++ told ∷ []) (λ earlier lt. refl) (λ earlier lt. none_later (λ (t : Change S). t.time) earlier time changes told lt is) each

  pub each_other : (factor : Option ℕ) (time : ℕ) (all : List (Said S)) (changes : List (Change S)) (one other : Said S) → one.told.when.time ≡ time → other.told.when.time ≡ time
      → SayEach cmp factor time (all ++ one ∷ []) changes → SayEach cmp factor time (all ++ other ∷ []) changes
  each_other factor time all changes one other is too each =
      each_same factor time (all ++ one ∷ []) (all ++ other ∷ []) changes changes
      (λ earlier lt. none_later (λ (s : Said S). s.told.when.time) earlier time all other lt too ∙ sym (none_later (λ (s : Said S). s.told.when.time) earlier time all one lt is)) (λ earlier lt. refl) each
