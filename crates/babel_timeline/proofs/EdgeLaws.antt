-- The first and the last subjects of a sender.
use Rattle.std.proofs.Common.{◌≡◌, true, false, List, [], ◌∷◌, ◌++◌, Option, Some, None, refl, sym, ap, subst, ◌∙◌}
use Rattle.std.specs.Prelude.{IsSome}
use Rattle.std.specs.declared.cmp.Ordering.{Ordering}
use Rattle.std.specs.declared.cmp.Ordering.TheVariants.{Less, Equal, Greater}
use Rattle.std.specs.declared.ops.Bound.TheVariants.{Included, Unbounded}
use Rattle.std.specs.Ordering.{is_gt, is_lt, ordering_reverse, ordering_then}
use Rattle.std.specs.Cmp.{IsTotalOrder}
use Rattle.std.specs.BTreeMap.{BTreeMap, get}
use Rattle.std.specs.BTreeMap.Range.{IsLeBy, IsRangeOf}
use Rattle.std.proofs.lemmas.Cmp.{tied_itself}
use Rattle.std.proofs.lemmas.Map.Lookups.{CmpEqualImpliesEq}
use Rattle.babel_tlv.specs.Route.{RouteKey}
use Rattle.babel_tlv.specs.Keys.{key_cmp}
use Rattle.babel_timeline.specs.declared.row.Row.{Row}
use Rattle.babel_timeline.specs.declared.subject.Subject.{Subject}
use Rattle.babel_timeline.specs.Rows.{HasNone, HasNoneUpTo, IsFirstOf, IsLastUpTo, Rows, row_at, subject_cmp, subject_of}

-- ---- orders one after the other

gt_then : (a b : Ordering) → is_gt a ≡ false → is_gt b ≡ false → is_gt (ordering_then a b) ≡ false
gt_then Less b e f = refl
gt_then Equal b e f = f
gt_then Greater b e f = absurd cc

-- ---- ranges

lt_turned : (a b : Ordering) → a ≡ ordering_reverse b → is_lt b ≡ false → is_gt a ≡ false
lt_turned a Less e f = absurd cc
lt_turned a Equal e f = ap is_gt e
lt_turned a Greater e f = ap is_gt e

pub to_greatest : {K X : Type 0} {R : K → K → Ordering} (total : IsTotalOrder R) (m : BTreeMap K X) (most : K) (range : List (K × X)) (last : K × X) (rest : List (K × X))
    → IsRangeOf R Unbounded (Included most) m range → range ≡ rest ++ last ∷ [] → (other : K) → IsLeBy R other most → IsSome (get R m other) → IsLeBy R other last.0
to_greatest {R = R} total m most range last rest is whole other le held =
    lt_turned (R other last.0) (R last.0 other) (total.antisymm other last.0) (is.4 last rest whole other (tt, le) held)

-- ---- the subjects of a sender

not_some : (row : Option Row) → ¬ IsSome row → row ≡ None
not_some None without = refl
not_some (Some row) without = absurd (without refl)

module _ {S : Type 0} (cmp : S → S → Ordering) (total : IsTotalOrder cmp) (exact : CmpEqualImpliesEq cmp) where
  own_le : (sender : S) (key other : RouteKey) → IsLeBy key_cmp key other → IsLeBy (subject_cmp cmp) (subject_of sender key) (subject_of sender other)
  own_le sender key other le =
      gt_then (cmp sender sender) (key_cmp key other) (ap is_gt (tied_itself total sender)) le

  key_le : (sender : S) (key other : RouteKey) → IsLeBy (subject_cmp cmp) (subject_of sender key) (subject_of sender other) → IsLeBy key_cmp key other
  key_le sender key other le = sym (ap (λ (o : Ordering). is_gt (ordering_then o (key_cmp key other))) (tied_itself total sender)) ∙ le

  gt_first : (a b : Ordering) → a ≡ Greater → is_gt (ordering_then a b) ≡ true
  gt_first a b e = ap (λ (o : Ordering). is_gt (ordering_then o b)) e

  -- a subject between two of a sender is one of that sender
  between : (sender : S) (low high : RouteKey) (subject : Subject S) → IsLeBy (subject_cmp cmp) (subject_of sender low) subject → IsLeBy (subject_cmp cmp) subject (subject_of sender high)
      → subject.sender ≡ sender
  between sender low high subject above below = by (cmp subject.sender sender) refl
    where
      by : (order : Ordering) → cmp subject.sender sender ≡ order → subject.sender ≡ sender
      by Less e =
          let turned : cmp sender subject.sender ≡ Greater = total.antisymm sender subject.sender ∙ ap ordering_reverse e in
          absurd (let bad = gt_first (cmp sender subject.sender) (key_cmp low subject.key) turned in cc)
      by Equal e = exact subject.sender sender e
      by Greater e = absurd (let bad = gt_first (cmp subject.sender sender) (key_cmp subject.key high) e in cc)

  -- what is known of the first row from one on
  module _ (rows : Rows S) (sender : S) (least : RouteKey) (is_least : (key : RouteKey) → IsLeBy key_cmp least key) where
    pub first_none : ((other : Subject S) → IsLeBy (subject_cmp cmp) (subject_of sender least) other → row_at cmp rows other ≡ None) → HasNone cmp sender rows
    first_none none key = none (subject_of sender key) (own_le sender least key (is_least key))

    pub first_own : (first : Subject S) → first.sender ≡ sender → IsSome (row_at cmp rows first)
        → ((other : Subject S) → IsLeBy (subject_cmp cmp) (subject_of sender least) other → IsSome (row_at cmp rows other) → IsLeBy (subject_cmp cmp) first other)
        → IsFirstOf cmp sender rows first
    first_own first own held all = record {
      own = own;
      held = held;
      first = λ key there.
          let le : IsLeBy (subject_cmp cmp) first (subject_of sender key) = all (subject_of sender key) (own_le sender least key (is_least key)) there in
          key_le sender first.key key (subst (λ (s : S). IsLeBy (subject_cmp cmp) (subject_of s first.key) (subject_of sender key)) own le);
    }

    pub first_other : (first : Subject S) → (first.sender ≡ sender → ⊥) → IsLeBy (subject_cmp cmp) (subject_of sender least) first
        → ((other : Subject S) → IsLeBy (subject_cmp cmp) (subject_of sender least) other → IsSome (row_at cmp rows other) → IsLeBy (subject_cmp cmp) first other)
        → HasNone cmp sender rows
    first_other first other_one above all key =
        not_some (row_at cmp rows (subject_of sender key))
        (λ there. other_one (between sender least key first above (all (subject_of sender key) (own_le sender least key (is_least key)) there)))

  -- what is known of the last row up to one
  module _ (rows : Rows S) (sender : S) (most : RouteKey) where
    pub last_none : ((other : Subject S) → IsLeBy (subject_cmp cmp) other (subject_of sender most) → row_at cmp rows other ≡ None) → HasNoneUpTo cmp sender most rows
    last_none none key le = none (subject_of sender key) (own_le sender key most le)

    pub last_own : (last : Subject S) (row : Row) → last.sender ≡ sender → IsLeBy (subject_cmp cmp) last (subject_of sender most) → row_at cmp rows last ≡ Some row
        → ((other : Subject S) → IsLeBy (subject_cmp cmp) other (subject_of sender most) → IsSome (row_at cmp rows other) → IsLeBy (subject_cmp cmp) other last)
        → IsLastUpTo cmp sender most rows (last.key, row)
    last_own last row own below held all = record {
      near = key_le sender last.key most (subst (λ (s : S). IsLeBy (subject_cmp cmp) (subject_of s last.key) (subject_of sender most)) own below);
      held = ap (λ (s : S). row_at cmp rows (subject_of s last.key)) (sym own) ∙ held;
      last = λ other le there.
          let up_to : IsLeBy (subject_cmp cmp) (subject_of sender other) last = all (subject_of sender other) (own_le sender other most le) there in
          key_le sender other last.key (subst (λ (s : S). IsLeBy (subject_cmp cmp) (subject_of sender other) (subject_of s last.key)) own up_to);
    }

    pub last_other : (last : Subject S) → (last.sender ≡ sender → ⊥) → IsLeBy (subject_cmp cmp) last (subject_of sender most)
        → ((other : Subject S) → IsLeBy (subject_cmp cmp) other (subject_of sender most) → IsSome (row_at cmp rows other) → IsLeBy (subject_cmp cmp) other last)
        → HasNoneUpTo cmp sender most rows
    last_other last other_one below all key le =
        not_some (row_at cmp rows (subject_of sender key))
        (λ there. other_one (between sender key most last (all (subject_of sender key) (own_le sender key most le) there) below))
