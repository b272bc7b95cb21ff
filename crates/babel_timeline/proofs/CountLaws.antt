-- How many rows a sender has: they lie together, from its first key on.
use Rattle.std.proofs.Common.{◌≡◌, ℕ, suc, ◌≤◌, Bool, true, false, cond, List, [], ◌∷◌, length, map, refl, sym, ap, ◌∙◌, arith}
use Rattle.std.specs.Prelude.{not, ◌&&◌}
use Rattle.std.specs.declared.cmp.Ordering.{Ordering}
use Rattle.std.specs.declared.cmp.Ordering.TheVariants.{Less, Equal, Greater}
use Rattle.std.specs.declared.ops.Bound.TheVariants.{Included, Unbounded}
use Rattle.std.specs.Ordering.{is_eq, is_gt, is_le, ordering_reverse, ordering_then}
use Rattle.std.specs.Cmp.{IsTotalOrder}
use Rattle.std.specs.BTreeMap.{is_at}
use Rattle.std.specs.BTreeMap.Range.{IsLeBy, entries_between}
use Rattle.std.specs.List.{AllByRecursion, filter}
use Rattle.std.specs.List.Sorted.{IsStrictlySortedBy}
use Rattle.std.specs.Map.{keys_of}
use Rattle.babel_tlv.specs.Keys.{key_cmp}
use Rattle.babel_tlv.specs.Route.{RouteKey}
use Rattle.babel_timeline.specs.declared.subject.Subject.{Subject}
use Rattle.babel_timeline.specs.Rows.{subject_cmp, subject_of}
use Rattle.babel_timeline.specs.Silence.{row_count}

module _ {S : Type 0} (cmp : S → S → Ordering) where
  abbrev pub is_own : {X : Type 0} → S → Subject S × X → Bool
  is_own sender e = is_at (cmp sender) e.0.sender

  -- how many entries at the front are the sender's
  pub front : {X : Type 0} → S → List (Subject S × X) → ℕ
  front sender [] = 0
  front sender (e ∷ es) = cond (is_own sender e) (suc (front sender es)) 0

  pub front-own : {X : Type 0} (sender : S) (e : Subject S × X) (es : List (Subject S × X)) → is_own sender e ≡ true → front sender (e ∷ es) ≡ suc (front sender es)
  unfolding front
  front-own sender e es own = ap (λ (b : Bool). cond b (suc (front sender es)) 0) own

  pub front-other : {X : Type 0} (sender : S) (e : Subject S × X) (es : List (Subject S × X)) → is_own sender e ≡ false → front sender (e ∷ es) ≡ 0
  unfolding front
  front-other sender e es other = ap (λ (b : Bool). cond b (suc (front sender es)) 0) other

  pub front-none : {X : Type 0} (sender : S) (es : List (Subject S × X)) → es ≡ [] → front sender es ≡ 0
  unfolding front
  front-none sender es none = ap (front sender) none

  pub front-few : {X : Type 0} (sender : S) (es : List (Subject S × X)) → front sender es ≤ length es
  unfolding front
  front-few sender [] = omega arith
  front-few sender (e ∷ es) = by (is_own sender e) (front-few sender es)
    where
      by : (own : Bool) → front sender es ≤ length es → cond own (suc (front sender es)) 0 ≤ length (e ∷ es)
      by true few = omega (arith, few)
      by false few = omega arith

  -- the values don't count
  pub count-map : {X Y : Type 0} (f : X → Y) (sender : S) (es : List (Subject S × X)) → row_count cmp sender (map (λ (e : Subject S × X). (e.0, f e.1)) es) ≡ row_count cmp sender es
  count-map f sender [] = refl
  count-map {X} {Y} f sender (e ∷ es) = by (is_own sender e) (count-map f sender es)
    where
      by : (own : Bool) → row_count cmp sender (map (λ (o : Subject S × X). (o.0, f o.1)) es) ≡ row_count cmp sender es
          → length (cond own ((e.0, f e.1) ∷ filter (λ (o : Subject S × Y). is_at (cmp sender) o.0.sender) (map (λ (o : Subject S × X). (o.0, f o.1)) es))
          (filter (λ (o : Subject S × Y). is_at (cmp sender) o.0.sender) (map (λ (o : Subject S × X). (o.0, f o.1)) es)))
          ≡ length (cond own (e ∷ filter (λ (o : Subject S × X). is_at (cmp sender) o.0.sender) es) (filter (λ (o : Subject S × X). is_at (cmp sender) o.0.sender) es))
      by true same = ap suc same
      by false same = same

then_less : (a b : Ordering) → ordering_then a b ≡ Less → is_gt a ≡ false
then_less Less b e = refl
then_less Equal b e = refl
then_less Greater b e = absurd cc

le_then : (a b : Ordering) → is_eq a ≡ true → is_gt b ≡ false → (is_le (ordering_then a b) && not false) ≡ true
le_then Less b e f = absurd cc
le_then Greater b e f = absurd cc
le_then Equal Less e f = refl
le_then Equal Equal e f = refl
le_then Equal Greater e f = absurd cc

less_then : (a b : Ordering) → is_eq a ≡ false → (is_le (ordering_then a b) && not false) ≡ true → a ≡ Less
less_then Less b e f = refl
less_then Equal b e f = absurd cc
less_then Greater b e f = absurd cc

module _ {S : Type 0} (cmp : S → S → Ordering) (total : IsTotalOrder cmp) (sender : S) where
  -- a sender after one that is after this one is another
  past : (x y : S) → cmp sender x ≡ Less → is_gt (cmp x y) ≡ false → cmp sender y ≡ Less
  past x y less upto = by (cmp x y) refl upto
    where
      by : (order : Ordering) → cmp x y ≡ order → is_gt order ≡ false → cmp sender y ≡ Less
      by Less e le = total.trans sender x y less e
      by Equal e le = total.antisymm sender y ∙ ap ordering_reverse (sym (total.congr x y sender e) ∙ total.antisymm x sender ∙ ap ordering_reverse less)
      by Greater e le = absurd cc

  none_after : {X : Type 0} (x : Subject S) → cmp sender x.sender ≡ Less → (es : List (Subject S × X)) → AllByRecursion (λ y. subject_cmp cmp x y ≡ Less) (keys_of es) → filter (is_own cmp sender) es ≡ []
  none_after x less [] below = refl
  none_after x less (e ∷ es) below =
      let other : is_own cmp sender e ≡ false = ap is_eq (past x.sender e.0.sender less (then_less (cmp x.sender e.0.sender) (key_cmp x.key e.0.key) below.0)) in
      ap (λ (b : Bool). cond b (e ∷ filter (is_own cmp sender) es) (filter (is_own cmp sender) es)) other ∙ none_after x less es below.1

  abbrev in_range : {X : Type 0} → RouteKey → Subject S × X → Bool
  in_range key e = is_le (subject_cmp cmp (subject_of sender key) e.0) && not false

  pub front_is : {X : Type 0} (key : RouteKey) → ((other : RouteKey) → IsLeBy key_cmp key other) → (es : List (Subject S × X)) → IsStrictlySortedBy (subject_cmp cmp) (keys_of es)
      → front cmp sender (entries_between (subject_cmp cmp) (Included (subject_of sender key)) Unbounded es) ≡ row_count cmp sender es
  unfolding IsStrictlySortedBy
  front_is key least [] sorted = front-none cmp sender [] refl
  front_is key least (e ∷ es) sorted = by (is_own cmp sender e) refl (in_range key e) refl (front_is key least es sorted.1)
    where
      by : (mine : Bool) → is_own cmp sender e ≡ mine → (within : Bool) → in_range key e ≡ within → front cmp sender (filter (in_range key) es) ≡ length (filter (is_own cmp sender) es)
          → front cmp sender (cond (in_range key e) (e ∷ filter (in_range key) es) (filter (in_range key) es)) ≡ length (cond (is_own cmp sender e) (e ∷ filter (is_own cmp sender) es) (filter (is_own cmp sender) es))
      by true is true inside again =
          ap (λ (b : Bool). front cmp sender (cond b (e ∷ filter (in_range key) es) (filter (in_range key) es))) inside
          ∙ front-own cmp sender e (filter (in_range key) es) is ∙ ap suc again ∙ sym (ap (λ (b : Bool). length (cond b (e ∷ filter (is_own cmp sender) es) (filter (is_own cmp sender) es))) is)
      by true is false inside again =
          let within : in_range key e ≡ true = le_then (cmp sender e.0.sender) (key_cmp key e.0.key) is (least e.0.key) in
          absurd cc
      by false is true inside again =
          let less : cmp sender e.0.sender ≡ Less = less_then (cmp sender e.0.sender) (key_cmp key e.0.key) is inside in
          ap (λ (b : Bool). front cmp sender (cond b (e ∷ filter (in_range key) es) (filter (in_range key) es))) inside
          ∙ front-other cmp sender e (filter (in_range key) es) is ∙ sym (ap length (none_after e.0 less es sorted.0))
          ∙ sym (ap (λ (b : Bool). length (cond b (e ∷ filter (is_own cmp sender) es) (filter (is_own cmp sender) es))) is)
      by false is false inside again =
          ap (λ (b : Bool). front cmp sender (cond b (e ∷ filter (in_range key) es) (filter (in_range key) es))) inside ∙ again
          ∙ sym (ap (λ (b : Bool). length (cond b (e ∷ filter (is_own cmp sender) es) (filter (is_own cmp sender) es))) is)
