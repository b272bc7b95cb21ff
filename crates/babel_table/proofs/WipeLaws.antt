-- What a retraction of all makes of words that are kept.
use Rattle.std.proofs.Common.{◌≡◌, ℕ, ◌+◌, ◌*◌, ◌<◌, ◌≤◌, Bool, true, false, cond, List, [], ◌∷◌, ◌++◌, Option, Some, None, refl, sym, ap, ◌∙◌, arith}
use Rattle.std.specs.Prelude.{not, nat_lt, is_some}
use Rattle.std.specs.List.{AllByRecursion}
use Rattle.std.specs.Option.{option_and_then, option_map, option_or}
use Rattle.std.proofs.lemmas.Bool.Decides.{nat_tests}
use Rattle.babel_tlv.specs.declared.held.Held.{Held}
use Rattle.babel_tlv.specs.declared.held.Held.TheVariants as helds
use Rattle.babel_tlv.specs.declared.mode.Mode.TheVariants as modes
use Rattle.babel_tlv.specs.Route.{RouteKey}
use Rattle.babel_table.specs.Live.{AreFirsts, AreKept, IsKept, Kept, word_found, word_kept, word_of, words_of}
use Rattle.babel_table.specs.Moments.{Stamp, Word, has_expired, left_at, times, word}
use Rattle.babel_table.specs.Words.{Timing, Wiping, first_after, is_route, replaced, wiped, wiped_at}
use Rattle.babel_table.proofs.ReplacedLaws.{replaced-replaced, replaced-same}

pub lt-of : (a b : ℕ) → a < b → nat_lt a b ≡ true
lt-of a b lt = grind (arith, nat_tests)

pub le-of : (a b : ℕ) → b ≤ a → nat_lt a b ≡ false
le-of a b le = grind (arith, nat_tests)

pub lt-is : (a b : ℕ) → nat_lt a b ≡ true → a < b
lt-is a b e = grind (arith, nat_tests)

pub le-is : (a b : ℕ) → nat_lt a b ≡ false → b ≤ a
le-is a b e = grind (arith, nat_tests)

-- ---- the first one after a mark

first_after-push : (mark last : ℕ) (when : Stamp) (firsts : List (ℕ × Stamp)) → first_after mark (firsts ++ (last, when) ∷ [])
    ≡ option_or (first_after mark firsts) (cond (nat_lt last mark) None (Some when))
first_after-push mark last when [] = refl
first_after-push mark last when (first ∷ later) = by (first_after-push mark last when later) (nat_lt first.0 mark)
  where
    by : first_after mark (later ++ (last, when) ∷ []) ≡ option_or (first_after mark later) (cond (nat_lt last mark) None (Some when)) → (b : Bool)
        → cond b (first_after mark (later ++ (last, when) ∷ [])) (Some first.1) ≡ option_or (cond b (first_after mark later) (Some first.1)) (cond (nat_lt last mark) None (Some when))
    by again true = again
    by again false = refl

none-past : (mark wipes last : ℕ) (firsts : List (ℕ × Stamp)) → wipes ≤ mark → AllByRecursion (λ first. (first.0 < wipes) × (first.0 ≤ last)) firsts → first_after mark firsts ≡ None
none-past mark wipes last [] past all = refl
none-past mark wipes last (first ∷ later) past all =
    let below : first.0 < mark = omega (arith, all.0.0, past) in
    rw (lt-of first.0 mark below) (none-past mark wipes last later past all.1)

pub past-last : (wipes last : ℕ) (firsts : List (ℕ × Stamp)) → AllByRecursion (λ first. (first.0 < wipes) × (first.0 ≤ last)) firsts → AllByRecursion (λ first. first.0 ≤ last) firsts
past-last wipes last [] all = tt
past-last wipes last (first ∷ firsts) all = (all.0.1, past-last wipes last firsts all.1)

-- ---- what is unreachable

unreachable-left : (factor time : ℕ) (when : Stamp) → left_at modes.Hold factor time (word when helds.Unreachable) ≡ cond (has_expired factor time when) None (Some helds.Unreachable)
unreachable-left factor time when =
    let one : 1 * factor ≡ factor = omega arith in
    ap (λ (k : ℕ). cond (not (has_expired factor time when)) (Some helds.Unreachable) (cond (not (has_expired k time when)) (Some helds.Unreachable) None)) one ∙ by (has_expired factor time when)
  where
    by : (b : Bool) → cond (not b) (Some helds.Unreachable) (cond (not b) (Some helds.Unreachable) None) ≡ cond b None (Some helds.Unreachable)
    by true = refl
    by false = refl

-- ---- one more

module _ (timing : Timing) (wipes last : ℕ) (are : AreFirsts timing.wiping wipes last) (near : wipes ≤ last + 1) where
  abbrev left_if : Bool → Wiping
  left_if gone = cond gone (record timing.wiping { firsts = []; gone = wipes }) timing.wiping

  abbrev wiping_if : Bool → Wiping
  wiping_if gone = record {
    firsts = cond (left_if gone).due ((left_if gone).firsts ++ (last, timing.when) ∷ []) (left_if gone).firsts;
    due = false;
    gone = (left_if gone).gone;
    last = timing.when;
  }

  is_due : (mark : ℕ) → wipes ≤ mark → mark ≤ last → timing.wiping.due ≡ true
  is_due mark stands here = by timing.wiping.due refl
    where
      by : (b : Bool) → timing.wiping.due ≡ b → b ≡ true
      by true is = refl
      by false is = absurd (omega (arith, are.not_due is, stands, here))

  -- what stands is found now
  fresh-gone : (mark : ℕ) → wipes ≤ mark → (gone : Bool) → nat_lt mark (wiping_if gone).gone ≡ false
  fresh-gone mark stands true = le-of mark wipes stands
  fresh-gone mark stands false = le-of mark timing.wiping.gone (omega (arith, are.below, stands))

  fresh-first : (mark : ℕ) → wipes ≤ mark → mark ≤ last → (gone : Bool) → first_after mark (wiping_if gone).firsts ≡ Some timing.when
  fresh-first mark stands here true = rw (is_due mark stands here, le-of last mark here) refl
  fresh-first mark stands here false =
      let none = none-past mark wipes last timing.wiping.firsts stands are.past in
      rw (is_due mark stands here) (first_after-push mark last timing.when timing.wiping.firsts
      ∙ ap (λ (o : Option Stamp). option_or o (cond (nat_lt last mark) None (Some timing.when))) none
      ∙ ap (λ (b : Bool). cond b None (Some timing.when)) (le-of last mark here))

  -- what is stale was found first when it was, if what was left then is not gone
  stale-first : (mark : ℕ) (first : Stamp) → first_after mark timing.wiping.firsts ≡ Some first → first_after mark (wiping_if false).firsts ≡ Some first
  stale-first mark first is = by timing.wiping.due
    where
      by : (due : Bool) → first_after mark (cond due (timing.wiping.firsts ++ (last, timing.when) ∷ []) timing.wiping.firsts) ≡ Some first
      by true = first_after-push mark last timing.when timing.wiping.firsts ∙ ap (λ (o : Option Stamp). option_or o (cond (nat_lt last mark) None (Some timing.when))) is
      by false = is

  abbrev later : Bool → Timing
  later gone = record timing { wiping = wiping_if gone }

  abbrev is_gone : Bool
  is_gone = has_expired timing.factor timing.when.time timing.wiping.last

  abbrev found_now : Word → Option Word
  found_now said = wiped timing.factor timing.when said

  still : (gone : Bool) → is_gone ≡ gone → found_now (word timing.wiping.last helds.Unreachable) ≡ cond gone None (Some (word timing.when helds.Unreachable))
  still gone is =
      ap (option_map (λ (held : Held). word timing.when helds.Unreachable))
      (unreachable-left timing.factor timing.when.time timing.wiping.last ∙ ap (λ (b : Bool). cond b None (Some helds.Unreachable)) is)
      ∙ by gone
    where
      by : (b : Bool) → option_map (λ (held : Held). word timing.when helds.Unreachable) (cond b None (Some helds.Unreachable)) ≡ cond b None (Some (word timing.when helds.Unreachable))
      by true = refl
      by false = refl

  -- a word that stands
  fresh-word : (said : Kept) → wipes ≤ said.mark → said.mark ≤ last → (gone : Bool) → word_found (later gone) said ≡ found_now (word_kept timing said)
  fresh-word said stands here gone = rw (fresh-gone said.mark stands gone, fresh-first said.mark stands here gone) refl

  abbrev left_then : Kept → Stamp → Option Held
  left_then said first = left_at modes.Hold timing.factor first.time (word_kept timing said)

  -- a word that is stale
  stale-word : (said : Kept) → said.mark < wipes → (gone : Bool) → is_gone ≡ gone → word_found (later gone) said ≡ option_and_then found_now (word_found timing said)
  stale-word said stale true is =
      rw (lt-of said.mark wipes stale) (sym (nothing (nat_lt said.mark timing.wiping.gone)
      (option_and_then (λ (first : Stamp). left_at modes.Hold timing.factor first.time (word_kept timing said)) (first_after said.mark timing.wiping.firsts))))
    where
      nothing : (b : Bool) (o : Option Held) → option_and_then found_now (cond b None (option_map (λ (held : Held). word timing.wiping.last helds.Unreachable) o)) ≡ None
      nothing true o = refl
      nothing false None = refl
      nothing false (Some held) = still true is
  stale-word said stale false is = by (nat_lt said.mark timing.wiping.gone) refl (first_after said.mark timing.wiping.firsts) refl
    where
      each : (o : Option Held) → option_map (λ (held : Held). word timing.when helds.Unreachable) o
          ≡ option_and_then found_now (option_map (λ (held : Held). word timing.wiping.last helds.Unreachable) o)
      each None = refl
      each (Some held) = sym (still false is)

      by : (b : Bool) → nat_lt said.mark timing.wiping.gone ≡ b → (o : Option Stamp) → first_after said.mark timing.wiping.firsts ≡ o
          → word_found (later false) said ≡ option_and_then found_now (word_found timing said)
      by true gone o first = rw gone refl
      by false here (Some when) first = rw (here, first, stale-first said.mark when first) (each (left_then said when))
      by false here None first =
          let known : is_some (first_after said.mark timing.wiping.firsts) ≡ true = are.known said.mark (le-is said.mark timing.wiping.gone here) stale in
          absurd (let is : is_some (first_after said.mark timing.wiping.firsts) ≡ false = ap is_some first in cc)

  pub word-wiped : (said : Kept) → said.mark ≤ last → word_of (record timing { wiping = wiped_at timing.factor wipes last timing.when timing.wiping }) (last + 1) said
      ≡ option_and_then (wiped timing.factor timing.when) (word_of timing wipes said)
  word-wiped said here = by (nat_lt said.mark wipes) refl
    where
      past : nat_lt said.mark (last + 1) ≡ true
      past = lt-of said.mark (last + 1) (omega (arith, here))

      by : (b : Bool) → nat_lt said.mark wipes ≡ b → word_of (later is_gone) (last + 1) said ≡ option_and_then found_now (word_of timing wipes said)
      by true is = rw (past, is) (stale-word said (lt-is said.mark wipes is) is_gone refl)
      by false is = rw (past, is) (fresh-word said (le-is said.mark wipes is) here is_gone)

  pub words-wiped : (es : List (RouteKey × Kept)) → AreKept last es
      → words_of (record timing { wiping = wiped_at timing.factor wipes last timing.when timing.wiping }) (last + 1) es ≡ replaced (wiped timing.factor timing.when) (words_of timing wipes es)
  words-wiped es kept =
      replaced-same {P = IsKept last} (word_of (later is_gone) (last + 1)) (λ said. option_and_then (wiped timing.factor timing.when) (word_of timing wipes said))
      (λ row fits. word-wiped row.1 fits.0) es kept
      ∙ sym (replaced-replaced (word_of timing wipes) (wiped timing.factor timing.when) es)

  pub firsts-wiped : AreFirsts (wiped_at timing.factor wipes last timing.when timing.wiping) (last + 1) last
  firsts-wiped = by is_gone
    where
      by : (gone : Bool) → AreFirsts (wiping_if gone) (last + 1) last
      by gone = record {
        due = λ is. absurd cc;
        not_due = λ is. omega arith;
        below = below gone;
        known = λ mark from to. known gone mark from to (nat_lt mark wipes) refl;
        past = past gone (left_if gone).due;
      }
        where
          below : (gone : Bool) → (wiping_if gone).gone ≤ last + 1
          below true = near
          below false = omega (arith, are.below, near)

          some : (o : Option Stamp) (when : Stamp) → o ≡ Some when → is_some o ≡ true
          some o when is = ap is_some is

          known : (gone : Bool) (mark : ℕ) → (wiping_if gone).gone ≤ mark → mark < last + 1 → (b : Bool) → nat_lt mark wipes ≡ b → is_some (first_after mark (wiping_if gone).firsts) ≡ true
          known gone mark from to false is = some _ timing.when (fresh-first mark (le-is mark wipes is) (omega (arith, to)) gone)
          known true mark from to true is = absurd (omega (arith, from, lt-is mark wipes is))
          known false mark from to true is = by_first (first_after mark timing.wiping.firsts) refl
            where
              by_first : (o : Option Stamp) → first_after mark timing.wiping.firsts ≡ o → is_some (first_after mark (wiping_if false).firsts) ≡ true
              by_first (Some when) first = some _ when (stale-first mark when first)
              by_first None first =
                  let yes : is_some (first_after mark timing.wiping.firsts) ≡ true = are.known mark from (lt-is mark wipes is) in
                  let no : is_some (first_after mark timing.wiping.firsts) ≡ false = ap is_some first in
                  absurd cc

          one_past : (firsts : List (ℕ × Stamp)) → AllByRecursion (λ first. (first.0 < wipes) × (first.0 ≤ last)) firsts
              → AllByRecursion (λ first. (first.0 < last + 1) × (first.0 ≤ last)) firsts
          one_past [] all = tt
          one_past (first ∷ firsts) all = ((omega (arith, all.0.1), all.0.1), one_past firsts all.1)

          pushed : (firsts : List (ℕ × Stamp)) → AllByRecursion (λ first. (first.0 < last + 1) × (first.0 ≤ last)) firsts
              → AllByRecursion (λ first. (first.0 < last + 1) × (first.0 ≤ last)) (firsts ++ (last, timing.when) ∷ [])
          pushed [] all = ((omega arith, omega arith), tt)
          pushed (first ∷ firsts) all = (all.0, pushed firsts all.1)

          past : (gone due : Bool) → AllByRecursion (λ first. (first.0 < last + 1) × (first.0 ≤ last))
              (cond due ((left_if gone).firsts ++ (last, timing.when) ∷ []) (left_if gone).firsts)
          past true true = ((omega arith, omega arith), tt)
          past true false = tt
          past false true = pushed timing.wiping.firsts (one_past timing.wiping.firsts are.past)
          past false false = one_past timing.wiping.firsts are.past

-- ---- a clock that runs or not

pub still-runs : (old new : Timing) (wiping : Wiping) → new ≡ cond old.runs (record old { wiping = wiping }) old → new.runs ≡ old.runs
still-runs old new wiping is = ap (λ (t : Timing). t.runs) is ∙ by old.runs
  where
    by : (b : Bool) → (cond b (record old { wiping = wiping }) old).runs ≡ old.runs
    by true = refl
    by false = refl

pub wiped-timing : (old new : Timing) (wiping : Wiping) → new ≡ cond old.runs (record old { wiping = wiping }) old → old.runs ≡ true → new ≡ record old { wiping = wiping }
wiped-timing old new wiping is runs = is ∙ ap (λ (b : Bool). cond b (record old { wiping = wiping }) old) runs

-- how many times it lasts
pub lasts-hold : (b : Bool) (factor : ℕ) (held : Held) → is_route held ≡ b → cond b (2 * factor) factor ≡ times modes.Hold held * factor
lasts-hold b factor (helds.Route ann) is = ap (λ (x : Bool). cond x (2 * factor) factor) (sym is)
lasts-hold b factor helds.Unreachable is = ap (λ (x : Bool). cond x (2 * factor) factor) (sym is) ∙ (let once : factor ≡ 1 * factor = omega arith in once)

pub lasts-plain : (factor : ℕ) (held : Held) → factor ≡ times modes.Plain held * factor
lasts-plain factor held = let once : factor ≡ 1 * factor = omega arith in once
