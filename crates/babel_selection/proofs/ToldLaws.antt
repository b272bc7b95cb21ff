-- It is told of the keys than which no key that is used and matches is longer.
use Rattle.std.proofs.Common.{◌≡◌, ◌⊎◌, inl, inr, ◌<◌, ◌≤◌, Bool, true, false, cond, not, List, [], ◌∷◌, Option, Some, None, refl, sym, ap, ◌∙◌, arith, eqb-true, eq-eqb}
use Rattle.std.specs.Prelude.{◌&&◌, ◌||◌, fold}
use Rattle.std.specs.List.{list_any}
use Rattle.std.proofs.lemmas.Bool.{and_parts, and_from, or_cases, or_left, or_right, ltb-true, lt-ltb, cases_lt, cases_order, false≢true}
use Rattle.babel_prefix.specs.Address.{Address}
use Rattle.babel_tlv.specs.Route.{RouteKey}
use Rattle.babel_selection.specs.declared.told_keys.UsedKey.{UsedKey}
use Rattle.babel_selection.specs.ToldKeys.{ToldAreOfAnswer, best_used, contains_both, is_chosen, is_longer, is_told}

abbrev IsLonger : RouteKey → RouteKey → Type 0
IsLonger a b = (b.dst.len < a.dst.len) ⊎ ((a.dst.len ≡ b.dst.len) × (b.src.len < a.src.len))

longer-true : (a b : RouteKey) → is_longer a b ≡ true → IsLonger a b
longer-true a b e =
    elim (or_cases _ _ e) [
      | inl lt ↦ inl (ltb-true _ _ lt)
      | inr same ↦ let parts = and_parts _ _ same in inr (eqb-true _ _ parts.0, ltb-true _ _ parts.1)
    ]

longer-from : (a b : RouteKey) → IsLonger a b → is_longer a b ≡ true
longer-from a b (inl lt) = or_left _ _ (lt-ltb _ _ lt)
longer-from a b (inr same) = or_right _ _ (and_from _ _ (eq-eqb _ _ same.0) (lt-ltb _ _ same.1))

chain : (a b c : RouteKey) → IsLonger a b → IsLonger b c → IsLonger a c
chain a b c (inl p) (inl q) = inl (omega arith)
chain a b c (inl p) (inr q) = inl (omega (arith, q.0))
chain a b c (inr p) (inl q) = inl (omega (arith, p.0))
chain a b c (inr p) (inr q) = inr (p.0 ∙ q.0, omega (arith, p.1, q.1))

-- of three keys, one is longer than another, or the third one is not
split : (a b c : RouteKey) → IsLonger a c → IsLonger a b ⊎ IsLonger b c
split a b c ac =
    elim (cases_order a.dst.len b.dst.len) [
      | inl e ↦ elim (cases_lt b.src.len a.src.len) [ inl lt ↦ inl (inr (e, lt)) | inr ge ↦ inr (at e ge ac) ]
      | inr other ↦ elim other [ inl lt ↦ inr (below lt ac) | inr gt ↦ inl (inl gt) ]
    ]
  where
    at : a.dst.len ≡ b.dst.len → a.src.len ≤ b.src.len → IsLonger a c → IsLonger b c
    at e ge (inl p) = inl (omega (arith, e, p))
    at e ge (inr p) = inr (sym e ∙ p.0, omega (arith, ge, p.1))

    below : a.dst.len < b.dst.len → IsLonger a c → IsLonger b c
    below lt (inl p) = inl (omega (arith, lt, p))
    below lt (inr p) = inl (omega (arith, lt, p.0))

abbrev beaten : Option RouteKey → RouteKey → Bool
beaten None key = false
beaten (Some best) key = is_longer best key

or_none : (b : Bool) → b ≡ (b || false)
or_none true = refl
or_none false = refl

or_swap : (a b c : Bool) → ((a || b) || c) ≡ (a || (b || c))
or_swap true b c = refl
or_swap false b c = refl

-- the longer one of two stands for both
one_stands : (one best key : RouteKey) (longer : Bool) → is_longer one best ≡ longer
    → beaten (cond longer (Some one) (Some best)) key ≡ (is_longer best key || is_longer one key)
one_stands one best key true e = by (is_longer best key) refl
  where
    by : (b : Bool) → is_longer best key ≡ b → is_longer one key ≡ (b || is_longer one key)
    by true is = longer-from one key (chain one best key (longer-true one best e) (longer-true best key is))
    by false is = refl
one_stands one best key false e = by (is_longer one key) refl
  where
    found : is_longer one key ≡ true → is_longer best key ≡ true
    found is =
        elim (split one best key (longer-true one key is)) [
          | inl longer ↦ absurd (false≢true (sym e ∙ longer-from one best longer))
          | inr it ↦ longer-from best key it
        ]

    by : (b : Bool) → is_longer one key ≡ b → is_longer best key ≡ (is_longer best key || b)
    by true is = found is ∙ sym (or_right (is_longer best key) true refl)
    by false is = or_none (is_longer best key)

module _ (dst src : Address) (key : RouteKey) where
  abbrev beats : UsedKey → Bool
  beats one = one.is_used && contains_both dst src one.key && is_longer one.key key

  abbrev next : Option RouteKey → UsedKey → Option RouteKey
  next best one = cond (is_chosen dst src best one) (Some one.key) best

  one_more : (best : Option RouteKey) (one : UsedKey) → beaten (next best one) key ≡ (beaten best key || beats one)
  one_more None one = by one.is_used (contains_both dst src one.key)
    where
      by : (used contained : Bool) → beaten (cond (used && contained) (Some one.key) None) key ≡ (used && contained && is_longer one.key key)
      by true true = refl
      by true false = refl
      by false contained = refl
  one_more (Some best) one = by one.is_used (contains_both dst src one.key)
    where
      by : (used contained : Bool) → beaten (cond (used && contained && is_longer one.key best) (Some one.key) (Some best)) key ≡ (is_longer best key || (used && contained && is_longer one.key key))
      by true true = one_stands one.key best key (is_longer one.key best) refl
      by true false = or_none (is_longer best key)
      by false contained = or_none (is_longer best key)

  all_more : (best : Option RouteKey) (keys : List UsedKey) → beaten (fold next best keys) key ≡ (beaten best key || list_any beats keys)
  all_more best [] = or_none (beaten best key)
  all_more best (one ∷ keys) =
      all_more (next best one) keys ∙ ap (λ (b : Bool). b || list_any beats keys) (one_more best one) ∙ or_swap (beaten best key) (beats one) (list_any beats keys)

told_beaten : (dst src : Address) (best : Option RouteKey) (key : RouteKey) → is_told dst src best key ≡ (contains_both dst src key && not (beaten best key))
told_beaten dst src None key = by (contains_both dst src key)
  where
    by : (b : Bool) → b ≡ (b && true)
    by true = refl
    by false = refl
told_beaten dst src (Some best) key = refl

pub told_are_of_answer : ToldAreOfAnswer
told_are_of_answer dst src keys key =
    told_beaten dst src (best_used dst src keys) key
    ∙ ap (λ (b : Bool). contains_both dst src key && not b) (all_more dst src key None keys)
