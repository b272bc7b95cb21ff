-- Words that are kept, when they were said, and what is left of them.
use Rattle.std.proofs.Common.{◌⊎◌, inl, inr, ◌*◌}
use Rattle.std.proofs.Common.{◌≡◌, ℕ, suc, ◌+◌, ◌<◌, ◌≤◌, Bool, true, false, cond, List, [], ◌∷◌, length, Option, Some, None, Result, Ok, Err, OnOk, refl, sym, ap, subst, ◌∙◌, arith}
use Rattle.std.specs.Prelude.{not, ◌&&◌, nat_lt}
use Rattle.std.specs.List.{AllByRecursion}
use Rattle.std.specs.Option.{option_and_then, option_map}
use Rattle.std.specs.BTreeMap.{insert_entry}
use Rattle.babel_tlv.specs.declared.held.Held.{Held}
use Rattle.babel_tlv.specs.declared.held.Held.TheVariants as helds
use Rattle.babel_tlv.specs.declared.mode.Mode.{Mode}
use Rattle.babel_tlv.specs.declared.mode.Mode.TheVariants as modes
use Rattle.babel_tlv.specs.Route.{RouteKey}
use Rattle.babel_tlv.specs.Keys.{key_cmp}
use Rattle.babel_tlv.specs.Pairs.{IsPair}
use Rattle.babel_table.specs.Live.{AreFirsts, AreKept, Asked, IsInTime, IsKept, Kept, current, kept, kept_at, lasting, left_of, live_rows, is_expired, word_found}
use Rattle.babel_table.specs.Live.{word_kept, word_of, words_of}
use Rattle.babel_table.specs.Moments.{Stamp, Word, has_expired, left_at, times, word}
use Rattle.babel_table.specs.Rows.{IsRising}
use Rattle.babel_table.specs.Words.{IsMark, TimedRows, Timing, Wiping, first_after, is_route, lasting_words, replaced, rows_at, stamp_at, with_value}
use Rattle.babel_table.proofs.ReplacedLaws.{all-replaced, replaced-insert, replaced-map, replaced-replaced, replaced-same}
use Rattle.babel_table.proofs.WipeLaws.{le-of}

-- ---- new stamps

abbrev found_in : Wiping → ℕ → Word → ℕ → Option Word
found_in wiping factor said mark =
    cond (nat_lt mark wiping.gone) None (option_map (λ (held : Held). word wiping.last helds.Unreachable)
    (option_and_then (λ (first : Stamp). left_at modes.Hold factor first.time said) (first_after mark wiping.firsts)))

word-same : (old new : Timing) (wipes last mark : ℕ) (said : Kept) → old.runs ≡ true → IsMark old new last mark → said.mark ≤ last → word_of new wipes said ≡ word_of old wipes said
word-same old new wipes last mark said runs is here =
    let same : word_kept new said ≡ word_kept old said = ap (λ (w : Stamp). word w said.held) (is.others said.mark here) in
    let found : word_found new said ≡ word_found old said =
    ap (λ (w : Wiping). found_in w new.factor (word_kept new said) said.mark) (is.wiping runs)
    ∙ ap (λ (f : ℕ). found_in old.wiping f (word_kept new said) said.mark) is.factor
    ∙ ap (λ (w : Word). found_in old.wiping old.factor w said.mark) same in
    ap (λ (o : Option Word). cond (nat_lt said.mark wipes) o (Some (word_kept new said))) found
    ∙ ap (λ (w : Word). cond (nat_lt said.mark wipes) (word_found old said) (Some w)) same

words-still : (old new : Timing) (wipes last mark : ℕ) (es : List (RouteKey × Kept)) → old.runs ≡ true → IsMark old new last mark → AreKept last es → words_of new wipes es ≡ words_of old wipes es
words-still old new wipes last mark es runs is are =
    replaced-same {P = IsKept last} (word_of new wipes) (word_of old wipes) (λ row fits. word-same old new wipes last mark row.1 runs is fits.0) es are

pub words-put : {T E : Type 0} (r : Result T E) (old new : Timing) (wipes last mark : ℕ) (es after : List (RouteKey × Kept)) (k : RouteKey) (h : Held) → IsMark old new last mark → wipes ≤ mark
    → IsRising es → AreKept last es → OnOk r (after ≡ insert_entry key_cmp es k (kept h mark)) → old.runs ≡ true
    → OnOk r (words_of new wipes after ≡ insert_entry key_cmp (words_of old wipes es) k (word old.when h))
words-put (Ok x) old new wipes last mark es after k h is stands rising are ok runs =
    let now : word_of new wipes (kept h mark) ≡ Some (word old.when h) =
    ap (λ (b : Bool). cond b (word_found new (kept h mark)) (Some (word_kept new (kept h mark)))) (le-of mark wipes stands) ∙ ap (λ (w : Stamp). Some (word w h)) (is.now runs) in
    ap (words_of new wipes) ok ∙ replaced-insert (word_of new wipes) es k (kept h mark) (word old.when h) now rising
    ∙ ap (λ (t : TimedRows). insert_entry key_cmp t k (word old.when h)) (words-still old new wipes last mark es runs is are)
words-put (Err e) old new wipes last mark es after k h is stands rising are ok runs = tt

-- a mark is not stale
pub mark-stands : (old new : Timing) (wipes last mark : ℕ) → old.runs ≡ true → IsMark old new last mark → IsInTime old wipes last → wipes ≤ last + 1 → wipes ≤ mark
mark-stands old new wipes last mark runs is time near = by old.wiping.due refl
  where
    by : (b : Bool) → old.wiping.due ≡ b → wipes ≤ mark
    by true due = omega (arith, time.firsts.due due, is.past)
    by false due = omega (arith, is.fresh runs due, near)

pub marked-firsts : (old new : Timing) (wipes last mark : ℕ) → old.runs ≡ true → IsMark old new last mark → IsInTime old wipes last → wipes ≤ last + 1 → IsInTime new wipes mark
marked-firsts old new wipes last mark runs is time near = record {
  counted = is.counted runs;
  firsts = subst (λ (w : Wiping). AreFirsts w wipes mark) (sym (is.wiping runs)) (record {
    due = λ due. mark-stands old new wipes last mark runs is time near;
    not_due = λ due. absurd cc;
    below = time.firsts.below;
    known = time.firsts.known;
    past = more old.wiping.firsts time.firsts.past;
  });
}
  where
    more : (firsts : List (ℕ × Stamp)) → AllByRecursion (λ first. (first.0 < wipes) × (first.0 ≤ last)) firsts → AllByRecursion (λ first. (first.0 < wipes) × (first.0 ≤ mark)) firsts
    more [] all = tt
    more (first ∷ firsts) all = ((all.0.0, omega (arith, all.0.1, is.past)), more firsts all.1)

-- ---- what is left

unreachable-left : (mode : Mode) (factor moment : ℕ) (when : Stamp) (held : Held) → left_at mode factor moment (word when helds.Unreachable) ≡ Some held → held ≡ helds.Unreachable
unreachable-left mode factor moment when held = by (has_expired factor moment when) (has_expired (times mode helds.Unreachable * factor) moment when)
  where
    by : (a b : Bool) → cond (not a) (Some helds.Unreachable) (cond (not b) (Some helds.Unreachable) None) ≡ Some held → held ≡ helds.Unreachable
    by false b is = cc
    by true false is = cc
    by true true is = absurd cc

left-held : (mode : Mode) (factor moment : ℕ) (said : Word) (held : Held) → left_at mode factor moment said ≡ Some held → (held ≡ said.held) ⊎ (held ≡ helds.Unreachable)
left-held mode factor moment said held = by (has_expired factor moment said.when) (has_expired (times mode said.held * factor) moment said.when)
  where
    by : (a b : Bool) → cond (not a) (Some said.held) (cond (not b) (Some helds.Unreachable) None) ≡ Some held → (held ≡ said.held) ⊎ (held ≡ helds.Unreachable)
    by false b is = inl (let same : held ≡ said.held = cc in same)
    by true false is = inr (let same : held ≡ helds.Unreachable = cc in same)
    by true true is = absurd cc

module _ (asked : Asked) where
  left-kept : (said : Kept) → option_and_then (λ now. Some (current asked.wipes now)) (kept_at asked said) ≡ left_of asked said
  left-kept said = by (nat_lt said.mark asked.wipes) refl
    where
      each : (b : Bool) → nat_lt said.mark asked.wipes ≡ b → (o : Option Held) → ((held : Held) → o ≡ Some held → b ≡ true → held ≡ helds.Unreachable)
          → option_and_then (λ now. Some (current asked.wipes now)) (option_map (λ held. kept held said.mark) o) ≡ o
      each b is None gone = refl
      each true is (Some held) gone = rw is (ap (λ (h : Held). Some h) (sym (gone held refl refl)))
      each false is (Some held) gone = rw is refl

      stale : (o : Option Held) (b : Bool) (held : Held) → option_and_then (left_at asked.mode asked.timing.factor asked.time)
          (cond b None (option_map (λ (h : Held). word asked.timing.wiping.last helds.Unreachable) o)) ≡ Some held → held ≡ helds.Unreachable
      stale o true held is = absurd cc
      stale None false held is = absurd cc
      stale (Some h) false held is = unreachable-left asked.mode asked.timing.factor asked.time asked.timing.wiping.last held is

      by : (b : Bool) → nat_lt said.mark asked.wipes ≡ b → option_and_then (λ now. Some (current asked.wipes now)) (kept_at asked said) ≡ left_of asked said
      by true is = each true is (left_of asked said)
          (λ held gives yes. stale (option_and_then (λ (first : Stamp). left_at modes.Hold asked.timing.factor first.time
          (word_kept asked.timing said)) (first_after said.mark asked.timing.wiping.firsts))
          (nat_lt said.mark asked.timing.wiping.gone) held
          (ap (λ (b : Bool). option_and_then (left_at asked.mode asked.timing.factor asked.time) (cond b (word_found asked.timing said) (Some (word_kept asked.timing said)))) (sym is) ∙ gives))
      by false is = each false is (left_of asked said) (λ held gives no. absurd cc)

  -- what is left fits its key
  left-is : (said : Kept) (held : Held) → left_of asked said ≡ Some held → (held ≡ said.held) ⊎ (held ≡ helds.Unreachable)
  left-is said held = by (nat_lt said.mark asked.wipes) (nat_lt said.mark asked.timing.wiping.gone)
      (option_and_then (λ (first : Stamp). left_at modes.Hold asked.timing.factor first.time (word_kept asked.timing said)) (first_after said.mark asked.timing.wiping.firsts))
    where
      by : (stale gone : Bool) (o : Option Held) → option_and_then (left_at asked.mode asked.timing.factor asked.time)
          (cond stale (cond gone None (option_map (λ (h : Held). word asked.timing.wiping.last helds.Unreachable) o)) (Some (word_kept asked.timing said))) ≡ Some held
          → (held ≡ said.held) ⊎ (held ≡ helds.Unreachable)
      by true true o is = absurd cc
      by true false None is = absurd cc
      by true false (Some h) is = inr (unreachable-left asked.mode asked.timing.factor asked.time asked.timing.wiping.last held is)
      by false gone o is = left-held asked.mode asked.timing.factor asked.time (word_kept asked.timing said) held is

  fits-left : (last : ℕ) (row : RouteKey × Kept) (now : Kept) → IsKept last row → kept_at asked row.1 ≡ Some now → IsKept last (row.0, now)
  fits-left last row now fits = by (left_of asked row.1) (left-is row.1)
    where
      some_is : (a b : Kept) → Some a ≡ Some b → a ≡ b
      some_is a b e = cc

      pair : (held : Held) → (held ≡ row.1.held) ⊎ (held ≡ helds.Unreachable) → IsPair (row.0, held)
      pair held (inl same) = subst (λ (h : Held). IsPair (row.0, h)) (sym same) fits.1
      pair held (inr none) = subst (λ (h : Held). IsPair (row.0, h)) (sym none) (record { dst = fits.1.dst; src = fits.1.src; one_family = fits.1.one_family; fits = tt })

      by : (o : Option Held) → ((held : Held) → o ≡ Some held → (held ≡ row.1.held) ⊎ (held ≡ helds.Unreachable)) → option_map (λ held. kept held row.1.mark) o ≡ Some now → IsKept last (row.0, now)
      by None each gives = absurd cc
      by (Some held) each gives = subst (λ (k : Kept). IsKept last (row.0, k)) (some_is (kept held row.1.mark) now gives) (fits.0, pair held (each held refl))

  pub kept-left : (last : ℕ) (es : List (RouteKey × Kept)) → AreKept last es → AreKept last (replaced (kept_at asked) es)
  kept-left last es are = all-replaced (kept_at asked) (IsKept last) (IsKept last) (λ row now fits is. fits-left last row now fits is) es are

  pub live-at : (last : ℕ) (es : List (RouteKey × Kept)) → AreKept last es
      → live_rows asked.wipes (replaced (kept_at asked) es) ≡ rows_at asked.mode asked.timing.factor asked.time (words_of asked.timing asked.wipes es)
  live-at last es are =
      replaced-map (current asked.wipes) (replaced (kept_at asked) es)
      ∙ replaced-replaced (kept_at asked) (λ now. Some (current asked.wipes now)) es
      ∙ replaced-same {P = IsKept last} (λ said. option_and_then (λ now. Some (current asked.wipes now)) (kept_at asked said)) (left_of asked) (λ row fits. left-kept row.1) es are
      ∙ sym (replaced-replaced (word_of asked.timing asked.wipes) (left_at asked.mode asked.timing.factor asked.time) es)

  -- ---- how many have expired

  quiet : (b : Bool) → b && false ≡ false
  quiet true = refl
  quiet false = refl

  abbrev words : List (RouteKey × Kept) → TimedRows
  words es = words_of asked.timing asked.wipes es

  abbrev has : Kept → Bool
  has said = has_expired asked.timing.factor asked.time (stamp_at asked.timing.stamps said.mark)

  abbrev found : Kept → Option Held
  found said = option_and_then (λ (first : Stamp). left_at modes.Hold asked.timing.factor first.time (word_kept asked.timing said)) (first_after said.mark asked.timing.wiping.firsts)

  abbrev old_word : Option Held → Option Word
  old_word o = option_map (λ (held : Held). word asked.timing.wiping.last helds.Unreachable) o

  -- so many expire, where the first row does or not, and this is its word
  abbrev Adds : RouteKey × Kept → List (RouteKey × Kept) → Bool → Option Word → Type 0
  Adds e es p o = length (cond (not p) (e ∷ lasting asked es) (lasting asked es)) + length (with_value e.0 o (words es))
      ≡ suc (length es) + length (lasting_words asked.timing.factor asked.time (with_value e.0 o (words es)))

  abbrev AddUp : List (RouteKey × Kept) → Type 0
  AddUp es = length (lasting asked es) + length (words es) ≡ length es + length (lasting_words asked.timing.factor asked.time (words es))

  adds-kept : (e : RouteKey × Kept) (es : List (RouteKey × Kept)) → AddUp es → (p : Bool) → length (cond (not p) (e ∷ lasting asked es) (lasting asked es)) + suc (length (words es))
      ≡ suc (length es) + length (cond (not p) ((e.0, word_kept asked.timing e.1) ∷ lasting_words asked.timing.factor asked.time (words es)) (lasting_words asked.timing.factor asked.time (words es)))
  adds-kept e es again true = omega (arith, again)
  adds-kept e es again false = omega (arith, again)

  adds-stale : (e : RouteKey × Kept) (es : List (RouteKey × Kept)) → AddUp es → (gone : Bool) (o : Option Held) → Adds e es false (cond gone None (old_word o))
  adds-stale e es again true o = omega (arith, again)
  adds-stale e es again false None = omega (arith, again)
  adds-stale e es again false (Some held) = omega (arith, again)

  adds : (e : RouteKey × Kept) (es : List (RouteKey × Kept)) → AddUp es → (b : Bool) → nat_lt e.1.mark asked.wipes ≡ b → Adds e es (is_expired asked e.1) (word_of asked.timing asked.wipes e.1)
  adds e es again true is =
      let none : is_expired asked e.1 ≡ false = ap (λ (b : Bool). is_route e.1.held && (not b && has e.1)) is ∙ quiet (is_route e.1.held) in
      let word_is : word_of asked.timing asked.wipes e.1 ≡ cond (nat_lt e.1.mark asked.timing.wiping.gone) None (old_word (found e.1)) =
      ap (λ (b : Bool). cond b (word_found asked.timing e.1) (Some (word_kept asked.timing e.1))) is in
      subst (λ (p : Bool). Adds e es p (word_of asked.timing asked.wipes e.1)) (sym none)
      (subst (Adds e es false) (sym word_is) (adds-stale e es again (nat_lt e.1.mark asked.timing.wiping.gone) (found e.1)))
  adds e es again false is =
      let same : is_expired asked e.1 ≡ is_route e.1.held && has e.1 = ap (λ (b : Bool). is_route e.1.held && (not b && has e.1)) is in
      let word_is : word_of asked.timing asked.wipes e.1 ≡ Some (word_kept asked.timing e.1) =
      ap (λ (b : Bool). cond b (word_found asked.timing e.1) (Some (word_kept asked.timing e.1))) is in
      subst (λ (p : Bool). Adds e es p (word_of asked.timing asked.wipes e.1)) (sym same)
      (subst (Adds e es (is_route e.1.held && has e.1)) (sym word_is) (adds-kept e es again (is_route e.1.held && has e.1)))

  pub expired-words : (es : List (RouteKey × Kept)) → AddUp es
  expired-words [] = refl
  expired-words (e ∷ es) = adds e es (expired-words es) (nat_lt e.1.mark asked.wipes) refl

pub on_ok : {T E : Type 0} (r : Result T E) (P : Type 0) → P → OnOk r P
on_ok (Ok x) P p = p
on_ok (Err e) P p = tt
