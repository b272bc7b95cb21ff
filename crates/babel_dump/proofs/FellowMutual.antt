-- Each is its fellow's fellow.
use Rattle.std.proofs.Common.{◌≡◌, Bool, true, false, cond, ◌||◌, List, [], ◌∷◌, Option, None, Some, refl, sym, ap, subst, ◌∙◌, filter, if◌then◌else◌}
use Rattle.std.specs.BTreeMap.{is_at}
use Rattle.std.specs.List.{list_any}
use Rattle.std.specs.Ordering.{is_eq}
use Rattle.std.specs.Option.{unwrap_or}
use Rattle.std.proofs.lemmas.Cmp.{tied_itself}
use Rattle.babel_prefix.specs.Address.{Address}
use Rattle.babel_prefix.specs.Order.{address_cmp}
use Rattle.babel_prefix.proofs.Insertion.{equal_of}
use Rattle.babel_prefix.proofs.OrderLaws.{address_equality, address_total}
use Rattle.babel_capture.specs.Tallies.{origin_cmp}
use Rattle.babel_capture.specs.declared.tallies.Origin.{Origin}
use Rattle.babel_capture.proofs.TallyLaws.{origin_exact, origin_total}
use Rattle.babel_dump.specs.Fellows.{FellowsAreMutual, at_place, fellow_by, fellow_of, only, places_of}

-- ---- lists

same_some : (a b : Origin) → Some a ≡ Some b → a ≡ b
same_some a b is = ap (λ (o : Option Origin). unwrap_or o a) is

only_head : (first one : Origin) (more : List Origin) → only (first ∷ more) ≡ Some one → first ≡ one
only_head first one [] is = same_some first one is
only_head first one (second ∷ more) is = absurd (let bad : None ≡ Some one = is in cc)

-- the only one of those that pass does
only_passes : (passes : Origin → Bool) (origins : List Origin) (one : Origin) → only (filter passes origins) ≡ Some one → passes one ≡ true
only_passes passes [] one is = absurd (let bad : None ≡ Some one = is in cc)
only_passes passes (first ∷ origins) one is = by (only_passes passes origins one) (passes first) refl is
  where
    by : (only (filter passes origins) ≡ Some one → passes one ≡ true) → (b : Bool) → passes first ≡ b → only (cond b (first ∷ filter passes origins) (filter passes origins)) ≡ Some one
        → passes one ≡ true
    by again true passed is = subst (λ (o : Origin). passes o ≡ true) (only_head first one (filter passes origins) is) passed
    by again false failed is = again is

-- of those that pass one is, so of all
among_filtered : (test passes : Origin → Bool) (origins : List Origin) → list_any test (filter passes origins) ≡ true → list_any test origins ≡ true
among_filtered test passes [] is = is
among_filtered test passes (first ∷ origins) is = by (among_filtered test passes origins) (passes first) (test first) refl is
  where
    by : (list_any test (filter passes origins) ≡ true → list_any test origins ≡ true) → (b t : Bool) → test first ≡ t
        → list_any test (cond b (first ∷ filter passes origins) (filter passes origins)) ≡ true → (test first || list_any test origins) ≡ true
    by again b true tested is = ap (λ (x : Bool). x || list_any test origins) tested
    by again true false tested is =
        ap (λ (x : Bool). x || list_any test origins) tested ∙ again (sym (ap (λ (x : Bool). x || list_any test (filter passes origins)) tested) ∙ is)
    by again false false tested is = ap (λ (x : Bool). x || list_any test origins) tested ∙ again is

-- one that passes is still there
among_passed : (test passes : Origin → Bool) (origins : List Origin) → ((o : Origin) → test o ≡ true → passes o ≡ true) → list_any test origins ≡ true
    → list_any test (filter passes origins) ≡ true
among_passed test passes [] all is = is
among_passed test passes (first ∷ origins) all is = by (among_passed test passes origins all) (passes first) (test first) refl refl is
  where
    by : (list_any test origins ≡ true → list_any test (filter passes origins) ≡ true) → (b t : Bool) → passes first ≡ b → test first ≡ t → (test first || list_any test origins) ≡ true
        → list_any test (cond b (first ∷ filter passes origins) (filter passes origins)) ≡ true
    by rest true true passed tested is = ap (λ (x : Bool). x || list_any test (filter passes origins)) tested
    by rest true false passed tested is =
        ap (λ (x : Bool). x || list_any test (filter passes origins)) tested ∙ rest (sym (ap (λ (x : Bool). x || list_any test origins) tested) ∙ is)
    by rest false true passed tested is = absurd (let bad = sym (all first tested) ∙ passed in cc)
    by rest false false passed tested is = rest (sym (ap (λ (x : Bool). x || list_any test origins) tested) ∙ is)

-- where one passes, the only one does
only_tested : (test : Origin → Bool) (origins : List Origin) (one : Origin) → only origins ≡ Some one → list_any test origins ≡ true → test one ≡ true
only_tested test [] one is any = absurd (let bad : None ≡ Some one = is in cc)
only_tested test (first ∷ []) one is any = subst (λ (o : Origin). test o ≡ true) (same_some first one is) (by (test first) refl any)
  where
    by : (t : Bool) → test first ≡ t → (test first || false) ≡ true → test first ≡ true
    by true tested any = tested
    by false tested any = absurd (let bad = sym (ap (λ (x : Bool). x || false) tested) ∙ any in cc)
only_tested test (first ∷ second ∷ more) one is any = absurd (let bad : None ≡ Some one = is in cc)

-- the only one is there
only_among : (origins : List Origin) (one : Origin) → only origins ≡ Some one → list_any (is_at (origin_cmp one)) origins ≡ true
only_among [] one is = absurd (let bad : None ≡ Some one = is in cc)
only_among (first ∷ []) one is =
    ap (λ (b : Bool). b || false) (subst (λ (o : Origin). is_at (origin_cmp one) o ≡ true) (sym (same_some first one is)) (ap is_eq (tied_itself origin_total one)))
only_among (first ∷ second ∷ more) one is = absurd (let bad : None ≡ Some one = is in cc)

-- ---- one at a place

here : (others : List Origin) (origin : Origin) → list_any (is_at (origin_cmp origin)) others ≡ true → at_place others origin ≡ Some origin
here others origin is = ap (λ (b : Bool). if b then Some origin else None) is

at_is : (others : List Origin) (origin other : Origin) → at_place others origin ≡ Some other → (list_any (is_at (origin_cmp origin)) others ≡ true) × (origin ≡ other)
at_is others origin other is = by (list_any (is_at (origin_cmp origin)) others) refl is
  where
    by : (b : Bool) → list_any (is_at (origin_cmp origin)) others ≡ b → (if b then Some origin else None) ≡ Some other
        → (list_any (is_at (origin_cmp origin)) others ≡ true) × (origin ≡ other)
    by true any is = (any, same_some origin other is)
    by false any is = absurd (let bad : None ≡ Some other = is in cc)

same_address : (origin one : Origin) → is_at (origin_cmp origin) one ≡ true → is_at (address_cmp origin.sender) one.sender ≡ true
same_address origin one at =
    subst (λ (o : Origin). is_at (address_cmp origin.sender) o.sender ≡ true) (origin_exact origin one at) (ap is_eq (tied_itself address_total origin.sender))

-- the only one of its address is itself
only_itself : (own : List Origin) (origin one : Origin) → at_place own origin ≡ Some origin → only (places_of origin.sender own) ≡ Some one → one ≡ origin
only_itself own origin one there is =
    let among = among_passed (is_at (origin_cmp origin)) (λ o. is_at (address_cmp origin.sender) o.sender) own (same_address origin) (at_is own origin origin there).0 in
    sym (origin_exact origin one (only_tested (is_at (origin_cmp origin)) (places_of origin.sender own) one is among))

-- ---- fellows

abbrev IsMutual : (own others : List Origin) → (origin other : Origin) → Type 0
IsMutual own others origin other = (at_place others other ≡ Some other) × (fellow_of others own other ≡ Some origin)

module _ (own others : List Origin) (origin other : Origin) (there : at_place own origin ≡ Some origin) where
  abbrev mine : Address → Option Origin
  mine sender = only (places_of sender own)

  abbrev theirs : Address → Option Origin
  theirs sender = only (places_of sender others)

  by_only : (one two : Origin) → mine origin.sender ≡ Some one → theirs origin.sender ≡ Some two → two ≡ other → IsMutual own others origin other
  by_only one two left right same =
      let is : theirs origin.sender ≡ Some other = right ∙ ap Some same in
      let passes : Origin → Bool = λ o. is_at (address_cmp origin.sender) o.sender in
      let address : origin.sender ≡ other.sender = (address_equality origin.sender other.sender).0 (equal_of (address_cmp origin.sender other.sender) (only_passes passes others other is)) in
      let left_at : mine other.sender ≡ Some origin = ap mine (sym address) ∙ left ∙ ap Some (only_itself own origin one there left) in
      let right_at : theirs other.sender ≡ Some other = ap theirs (sym address) ∙ is in (
        here others other (among_filtered (is_at (origin_cmp other)) passes others (only_among (places_of origin.sender others) other is)),
        ap (λ (m : Option Origin). fellow_by m (mine other.sender) (at_place own other)) right_at ∙ ap (λ (t : Option Origin). fellow_by (Some other) t (at_place own other)) left_at,
      )

  by_place : at_place others origin ≡ Some other → ((same : Option Origin) → fellow_by (theirs origin.sender) (mine origin.sender) same ≡ same) → IsMutual own others origin other
  by_place is otherwise =
      let found = at_is others origin other is in
      let back : fellow_of others own origin ≡ Some origin = otherwise (at_place own origin) ∙ there in
      subst (λ (o : Origin). IsMutual own others origin o) found.1 (here others origin found.0, back)

  mutual_by : (left right : Option Origin) → mine origin.sender ≡ left → theirs origin.sender ≡ right → fellow_by left right (at_place others origin) ≡ Some other
      → IsMutual own others origin other
  mutual_by (Some one) (Some two) left right is = by_only one two left right (same_some two other is)
  mutual_by (Some one) None left right is = by_place is (λ same. ap (λ (t : Option Origin). fellow_by t (mine origin.sender) same) right)
  mutual_by None None left right is = by_place is (λ same. ap (λ (t : Option Origin). fellow_by t (mine origin.sender) same) right)
  mutual_by None (Some two) left right is =
      by_place is (λ same. ap (λ (t : Option Origin). fellow_by t (mine origin.sender) same) right ∙ ap (λ (m : Option Origin). fellow_by (Some two) m same) left)

pub fellows_mutual : FellowsAreMutual
fellows_mutual own others origin other there is =
    mutual_by own others origin other there (only (places_of origin.sender own)) (only (places_of origin.sender others)) refl refl is
