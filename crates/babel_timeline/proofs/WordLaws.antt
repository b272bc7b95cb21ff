-- The last word on a subject, after one thing more.
use Rattle.std.proofs.Common.{◌≡◌, ℕ, ◌+◌, ◌*◌, ◌<◌, ◌≤◌, Bool, true, false, cond, ◌⊎◌, inl, inr, List, [], ◌∷◌, ◌++◌, map, Option, Some, None, refl, sym, ap, ◌∙◌, arith}
use Rattle.std.specs.Prelude.{not, nat_le, nat_lt, is_none}
use Rattle.std.specs.declared.cmp.Ordering.{Ordering}
use Rattle.std.specs.declared.cmp.Ordering.TheVariants.{Less, Equal, Greater}
use Rattle.std.specs.Ordering.{is_eq, ordering_then}
use Rattle.std.specs.Cmp.{IsTotalOrder}
use Rattle.std.specs.BTreeMap.{is_at}
use Rattle.std.specs.List.{AllByRecursion, filter}
use Rattle.std.specs.Option.{option_and_then, option_map_or}
use Rattle.std.proofs.lemmas.Bool.Decides.{nat_tests}
use Rattle.std.proofs.lemmas.Cmp.{tied_itself}
use Rattle.std.proofs.lemmas.List.Sums.{fold-append}
use Rattle.std.proofs.lemmas.Map.Lookups.{CmpEqualImpliesEq}
use Rattle.babel_prefix.proofs.Insertion.{equal_of, is_at-sym}
use Rattle.babel_tlv.specs.declared.event.Event.{Event}
use Rattle.babel_tlv.specs.declared.event.Event.TheVariants as events
use Rattle.babel_tlv.specs.declared.held.Held.TheVariants as helds
use Rattle.babel_tlv.specs.declared.mode.Mode.TheVariants as modes
use Rattle.babel_tlv.specs.Keys.{key_cmp}
use Rattle.babel_tlv.specs.Route.{RouteKey}
use Rattle.babel_table.specs.Holds.{same_key}
use Rattle.babel_table.specs.Moments.{Told, Stamp, Word, has_expired, last_word, left_at, word_after}
use Rattle.babel_table.proofs.HoldsLaws.{same_key-is}
use Rattle.babel_table.proofs.MomentLaws.{none_either, words_from}
use Rattle.babel_timeline.specs.declared.subject.Subject.{Subject}
use Rattle.babel_timeline.specs.Accounts.{Said, said, said_by, word_on}
use Rattle.babel_timeline.specs.Rows.{end_of, subject_cmp}

-- ---- lists with one element more

no_end : {X : Type 0} (before : List X) (here : X) (after : List X) → [] ≡ before ++ here ∷ after → ⊥
no_end [] here after e = cc
no_end (first ∷ before) here after e = cc

-- the element stands before the last one
pub record IsInner {X : Type 0} (xs : List X) (last : X) (before : List X) (here : X) (after : List X) : Type 0 where
  pub rest : List X
  pub ends : after ≡ rest ++ last ∷ []
  pub whole : xs ≡ before ++ here ∷ rest

pub snoc_split : {X : Type 0} (xs : List X) (last : X) (before : List X) (here : X) (after : List X) → xs ++ last ∷ [] ≡ before ++ here ∷ after
    → ((before ≡ xs) × (here ≡ last)) ⊎ IsInner xs last before here after
snoc_split [] last [] here after e = inl (refl, (let same : here ≡ last = cc in same))
snoc_split [] last (first ∷ before) here after e = absurd (let tail : [] ≡ before ++ here ∷ after = cc in no_end before here after tail)
snoc_split (x ∷ xs) last [] here after e = inr (record {
  rest = xs;
  ends = (let tail : after ≡ xs ++ last ∷ [] = cc in tail);
  whole = (let head : x ∷ xs ≡ here ∷ xs = cc in head);
})
snoc_split (x ∷ xs) last (first ∷ before) here after e =
    let tail : xs ++ last ∷ [] ≡ before ++ here ∷ after = cc in
    let head : x ≡ first = cc in
    elim (snoc_split xs last before here after tail) [
      | inl at ↦ inl ((let at_0 = at.0 in let whole : first ∷ before ≡ x ∷ xs = cc in whole), at.1)
      | inr inner ↦ inr (record { rest = inner.rest; ends = inner.ends; whole = (let at_0 = inner.whole in let whole : x ∷ xs ≡ first ∷ (before ++ here ∷ inner.rest) = cc in whole) })
    ]

pub all_more : {X : Type 0} (P : X → Type 0) (xs : List X) (last : X) → AllByRecursion P xs → P last → AllByRecursion P (xs ++ last ∷ [])
all_more P [] last all here = (here, tt)
all_more P (x ∷ xs) last all here = (all.0, all_more P xs last all.1 here)

-- ---- the last word on a key in mode Plain

abbrev pub next : RouteKey → Stamp → Event → Option Word → Option Word
next key when event old = word_after modes.Plain 0 key when event old

-- a wildcard leaves none
pub none_left : (key : RouteKey) (when : Stamp) (old : Option Word) → next key when events.RetractAll old ≡ None
none_left key when old = sym (none_either (is_none (option_and_then (left_at modes.Plain 0 when.time) old)) None)

-- it is the same by any factor
next_any : (factor : ℕ) (key : RouteKey) (when : Stamp) (event : Event) (old : Option Word) → word_after modes.Plain factor key when event old ≡ next key when event old
next_any factor key when (events.Announce other ann) old = refl
next_any factor key when (events.Retract other) old = refl
next_any factor key when events.RetractAll old = sym (none_either (is_none (option_and_then (left_at modes.Plain factor when.time) old)) None) ∙ sym (none_left key when old)
next_any factor key when events.Nothing old = refl
next_any factor key when (events.Ignored reason) old = refl

from_any : (factor : ℕ) (key : RouteKey) (old : Option Word) (told : List Told) → words_from modes.Plain factor key old told ≡ words_from modes.Plain 0 key old told
from_any factor key old [] = refl
from_any factor key old (one ∷ later) =
    ap (λ (o : Option Word). words_from modes.Plain factor key o later) (next_any factor key one.when one.event old)
    ∙ from_any factor key (next key one.when one.event old) later

pub last_any : (factor : ℕ) (told : List Told) (key : RouteKey) → last_word modes.Plain factor told key ≡ last_word modes.Plain 0 told key
last_any factor told key = from_any factor key None told

-- ---- what has expired

module _ (factor moment : ℕ) where
  -- all is left of a word that has not expired, and nothing of one that has
  pub left_plain : (said : Word) → left_at modes.Plain factor moment said ≡ cond (has_expired factor moment said.when) None (Some said.held)
  left_plain said =
      ap (λ (k : ℕ). cond (not (has_expired factor moment said.when)) (Some said.held) (cond (not (has_expired k moment said.when)) (Some helds.Unreachable) None)) once
      ∙ by (has_expired factor moment said.when)
    where
      once : 1 * factor ≡ factor
      once = omega arith

      by : (expired : Bool) → cond (not expired) (Some said.held) (cond (not expired) (Some helds.Unreachable) None) ≡ cond expired None (Some said.held)
      by true = refl
      by false = refl

  pub expired_by : (when : Stamp) (end : ℕ) → end_of (Some factor) when ≡ Some end → end ≤ moment → has_expired factor moment when ≡ true
  expired_by when end is le = by (nat_lt 0 when.interval) is
    where
      below : (time : ℕ) → time ≤ moment → nat_le time moment ≡ true
      below time lt = grind (arith, nat_tests)

      by : (ends : Bool) → cond ends (Some (when.time + factor * when.interval)) None ≡ Some end
          → option_map_or (λ time. nat_le time moment) (cond ends (Some (when.time + factor * when.interval)) None) false ≡ true
      by true e = let same : when.time + factor * when.interval ≡ end = cc in below (when.time + factor * when.interval) (omega (arith, same, le))
      by false e = absurd cc

  pub lasts_by : (when : Stamp) → ((end : ℕ) → end_of (Some factor) when ≡ Some end → moment < end) → has_expired factor moment when ≡ false
  lasts_by when later = by (nat_lt 0 when.interval) later
    where
      above : (time : ℕ) → moment < time → nat_le time moment ≡ false
      above time lt = grind (arith, nat_tests)

      by : (ends : Bool) → ((end : ℕ) → cond ends (Some (when.time + factor * when.interval)) None ≡ Some end → moment < end)
          → option_map_or (λ time. nat_le time moment) (cond ends (Some (when.time + factor * when.interval)) None) false ≡ false
      by true after = above (when.time + factor * when.interval) (after (when.time + factor * when.interval) refl)
      by false after = refl

-- ---- many senders

module _ {S : Type 0} (cmp : S → S → Ordering) where
  abbrev mine : S → List (Said S) → List (Said S)
  mine sender all = filter (λ (one : Said S). is_at (cmp sender) one.sender) all

abbrev tolds : {S : Type 0} → List (Said S) → List Told
tolds all = map (λ one. one.told) all

module _ {S : Type 0} (cmp : S → S → Ordering) where
  said_by_more : (sender : S) (all : List (Said S)) (one : Said S) → said_by cmp sender (all ++ one ∷ [])
      ≡ cond (is_at (cmp sender) one.sender) (said_by cmp sender all ++ one.told ∷ []) (said_by cmp sender all)
  said_by_more sender [] one = by (is_at (cmp sender) one.sender)
    where
      by : (own : Bool) → tolds (cond own (one ∷ []) []) ≡ cond own (one.told ∷ []) []
      by true = refl
      by false = refl
  said_by_more sender (first ∷ all) one = by (is_at (cmp sender) first.sender) (is_at (cmp sender) one.sender) (said_by_more sender all one)
    where
      by : (front own : Bool) → tolds (mine cmp sender (all ++ one ∷ [])) ≡ cond own (tolds (mine cmp sender all) ++ one.told ∷ []) (tolds (mine cmp sender all))
          → tolds (cond front (first ∷ mine cmp sender (all ++ one ∷ [])) (mine cmp sender (all ++ one ∷ [])))
          ≡ cond own (tolds (cond front (first ∷ mine cmp sender all) (mine cmp sender all)) ++ one.told ∷ []) (tolds (cond front (first ∷ mine cmp sender all) (mine cmp sender all)))
      by true true again = ap (λ (t : List Told). first.told ∷ t) again
      by true false again = ap (λ (t : List Told). first.told ∷ t) again
      by false own again = again

  pub word_more : (all : List (Said S)) (one : Said S) (subject : Subject S) → word_on cmp (all ++ one ∷ []) subject
      ≡ cond (is_at (cmp subject.sender) one.sender) (next subject.key one.told.when one.told.event (word_on cmp all subject)) (word_on cmp all subject)
  word_more all one subject =
      ap (λ (t : List Told). last_word modes.Plain 0 t subject.key) (said_by_more subject.sender all one)
      ∙ by (is_at (cmp subject.sender) one.sender) (said_by cmp subject.sender all)
    where
      by : (own : Bool) (told : List Told) → last_word modes.Plain 0 (cond own (told ++ one.told ∷ []) told) subject.key
          ≡ cond own (next subject.key one.told.when one.told.event (last_word modes.Plain 0 told subject.key)) (last_word modes.Plain 0 told subject.key)
      by true told = fold-append (λ (old : Option Word) (t : Told). next subject.key t.when t.event old) None told (one.told ∷ [])
      by false told = refl

-- one key of one sender
cond_then : (a b : Ordering) (new old : Option Word) → cond (is_eq a) (cond (is_eq b) new old) old ≡ cond (is_eq (ordering_then a b)) new old
cond_then Less b new old = refl
cond_then Equal b new old = refl
cond_then Greater b new old = refl

module _ {S : Type 0} (cmp : S → S → Ordering) (total : IsTotalOrder cmp) where
  -- what is said of one key alone changes the word on one subject alone
  pub words_become : (all : List (Said S)) (subject : Subject S) (when : Stamp) (event : Event) (new : Option Word)
      → ((key : RouteKey) (old : Option Word) → next key when event old ≡ cond (same_key subject.key key) new old) → (other : Subject S)
      → word_on cmp (all ++ said subject.sender when event ∷ []) other ≡ cond (is_at (subject_cmp cmp subject) other) new (word_on cmp all other)
  words_become all subject when event new becomes other =
      let old : Option Word = word_on cmp all other in
      word_more cmp all (said subject.sender when event) other
      ∙ ap (λ (b : Bool). cond b (next other.key when event old) old) (is_at-sym total other.sender subject.sender)
      ∙ ap (λ (w : Option Word). cond (is_at (cmp subject.sender) other.sender) w old) (becomes other.key old ∙ ap (λ (b : Bool). cond b new old) (same_key-is subject.key other.key))
      ∙ cond_then (cmp subject.sender other.sender) (key_cmp subject.key other.key) new old

  pub sender_same : (a b : S) → a ≡ b → is_at (cmp a) b ≡ true
  sender_same a b e = ap (λ (s : S). is_at (cmp a) s) (sym e) ∙ ap is_eq (tied_itself total a)

  module _ (exact : CmpEqualImpliesEq cmp) where
    pub sender_or : (a b : S) → (a ≡ b) ⊎ (is_at (cmp a) b ≡ false)
    sender_or a b = by (is_at (cmp a) b) refl
      where
        by : (same : Bool) → is_at (cmp a) b ≡ same → (a ≡ b) ⊎ (is_at (cmp a) b ≡ false)
        by true e = inl (exact a b (equal_of (cmp a b) e))
        by false e = inr e
