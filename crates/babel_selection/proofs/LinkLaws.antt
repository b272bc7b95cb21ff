-- The pairs that are looked at are those that an IHU may name, and of each the last one is told.
use Rattle.std.proofs.Common.{◌≡◌, ℕ, ◌+◌, ◌<◌, Bool, true, false, cond, List, [], ◌∷◌, Option, Some, None, length, take, get_or, map, refl, sym, ap, subst, ◌∙◌}
use Rattle.std.specs.Prelude.{◌&&◌, ◌||◌, not}
use Rattle.std.specs.declared.cmp.Ordering.{Ordering}
use Rattle.std.specs.declared.cmp.Ordering.TheVariants.{Less, Equal, Greater}
use Rattle.std.specs.Cmp.{IsTotalOrder}
use Rattle.std.specs.Ordering.{is_eq}
use Rattle.std.specs.BTreeMap.{is_at}
use Rattle.std.specs.BTreeSet.{BTreeSet, contains}
use Rattle.std.specs.List.{filter, flat_map, list_any}
use Rattle.std.specs.List.Sorted.{IsStrictlySortedBy}
use Rattle.std.specs.Map.{keys_of, lookup}
use Rattle.std.specs.Option.{is_some, option_or}
use Rattle.std.proofs.lemmas.Cmp.{on_total, then_total, tied_itself}
use Rattle.std.proofs.lemmas.List.Folds.{list_any-append, list_any_more}
use Rattle.std.proofs.lemmas.Map.Lookups.{CmpEqualImpliesEq}
use Rattle.std.proofs.lemmas.Map.Made.{is_some-lookup}
use Rattle.babel_prefix.proofs.Insertion.{below_all, equal_of, is_at-sym}
use Rattle.babel_prefix.proofs.OrderLaws.{then_parts}
use Rattle.babel_table.proofs.Entries.{miss_below}
use Rattle.babel_selection.specs.declared.ihu_from.IhuSaid.{IhuSaid}
use Rattle.babel_selection.specs.declared.ihus.Numbered.{Numbered}
use Rattle.babel_selection.specs.declared.ihus.Pair.{Pair}
use Rattle.babel_selection.specs.Hearing.{LastIhus, entry_at, last_kept, later, pair_cmp, pair_of}
use Rattle.babel_selection.specs.LinkPairs.{pairs_beside, pairs_kept, sends_beside}

either : (a b : Bool) → b ≡ true → (a || b) ≡ true
either true b e = refl
either false b e = e

-- what passes for an item passes for a list that is made of it
any_flat : {A B : Type 0} (p : B → Bool) (q : A → Bool) (f : A → List B) → ((x : A) → q x ≡ true → list_any p (f x) ≡ true) → (xs : List A) → list_any q xs ≡ true
    → list_any p (flat_map f xs) ≡ true
any_flat p q f each [] some = absurd cc
any_flat p q f each (x ∷ xs) some = list_any-append p (f x) (flat_map f xs) ∙ by (any_flat p q f each xs) (q x) refl some
  where
    by : (list_any q xs ≡ true → list_any p (flat_map f xs) ≡ true) → (b : Bool) → q x ≡ b → (b || list_any q xs) ≡ true → (list_any p (f x) || list_any p (flat_map f xs)) ≡ true
    by again true e any = rw (each x e) refl
    by again false e any = either (list_any p (f x)) (list_any p (flat_map f xs)) (again any)

-- and for a list of those that are kept
any_kept : {A B : Type 0} (p : B → Bool) (q keep : A → Bool) (f : A → B) → ((x : A) → q x ≡ true → (keep x ≡ true) × (p (f x) ≡ true)) → (xs : List A) → list_any q xs ≡ true
    → list_any p (map f (filter keep xs)) ≡ true
any_kept p q keep f each [] some = absurd cc
any_kept p q keep f each (x ∷ xs) some = by (any_kept p q keep f each xs) (q x) refl some
  where
    behind : (b : Bool) → list_any p (map f (filter keep xs)) ≡ true → list_any p (map f (cond b (x ∷ filter keep xs) (filter keep xs))) ≡ true
    behind true e = either (p (f x)) (list_any p (map f (filter keep xs))) e
    behind false e = e

    by : (list_any q xs ≡ true → list_any p (map f (filter keep xs)) ≡ true) → (b : Bool) → q x ≡ b → (b || list_any q xs) ≡ true
        → list_any p (map f (cond (keep x) (x ∷ filter keep xs) (filter keep xs))) ≡ true
    by again true e any = rw (each x e).0 (rw (each x e).1 refl)
    by again false e any = behind (keep x) (again any)

none_either : (a b : Bool) → (a || b) ≡ false → (a ≡ false) × (b ≡ false)
none_either true b e = absurd cc
none_either false b e = (refl, e)

both_hold : (a b : Bool) → (a && b) ≡ true → (a ≡ true) × (b ≡ true)
both_hold true b e = (refl, e)
both_hold false b e = absurd cc

none_there : {X : Type 0} (found : Option X) → is_some found ≡ false → found ≡ None
none_there None e = refl
none_there (Some x) e = absurd cc

module _ {S : Type 0} (cmp : S → S → Ordering) where
  -- of the pairs so far the last IHU is told, if there is one
  abbrev pub AreToldOf : (last : Pair S → Option IhuSaid) → List (Pair S) → List (Pair S × IhuSaid) → Type 0
  AreToldOf last pairs links = (other : Pair S) → entry_at (pair_cmp cmp) links other ≡ cond (list_any (is_at (pair_cmp cmp other)) pairs) (last other) None

  abbrev pub TellsOf : (last : Option IhuSaid) → Pair S → List (Pair S × IhuSaid) → List (Pair S × IhuSaid) → Type 0
  TellsOf last pair old new = (other : Pair S) → entry_at (pair_cmp cmp) new other
      ≡ cond (is_at (pair_cmp cmp pair) other) (option_or last (entry_at (pair_cmp cmp) old other)) (entry_at (pair_cmp cmp) old other)

module _ {S : Type 0} (cmp : S → S → Ordering) (total : IsTotalOrder cmp) (exact : CmpEqualImpliesEq cmp) where
  pub pair_total : IsTotalOrder (pair_cmp cmp)
  pair_total = then_total (on_total (λ (p : Pair S). p.router) total) (on_total (λ (p : Pair S). p.neighbour) total)

  pub pair_exact : CmpEqualImpliesEq (pair_cmp cmp)
  pair_exact a b e =
      let parts = then_parts (cmp a.router b.router) (cmp a.neighbour b.neighbour) e in
      ap (λ (r : S). pair_of r a.neighbour) (exact a.router b.router parts.0) ∙ ap (pair_of b.router) (exact a.neighbour b.neighbour parts.1)

  at_itself : (pair : Pair S) → is_at (pair_cmp cmp pair) pair ≡ true
  at_itself pair = ap is_eq (tied_itself pair_total pair)

  same_at : (a b : S) → is_at (cmp a) b ≡ true → a ≡ b
  same_at a b e = exact a b (equal_of (cmp a b) e)

  -- ---- which pairs are looked at

  module _ (are_beside : S → S → Bool) (ihus : LastIhus S) (senders : BTreeSet S) (router neighbour : S) where
    abbrev pub is_it : Pair S → Bool
    is_it = is_at (pair_cmp cmp (pair_of router neighbour))

    beside_looked : sends_beside cmp are_beside senders router neighbour ≡ true → list_any is_it (pairs_beside are_beside router senders.keys) ≡ true
    beside_looked sends =
        let are = both_hold (are_beside router neighbour) (contains cmp senders neighbour) sends in
        any_kept is_it (is_at (cmp neighbour)) (are_beside router) (pair_of router) (λ other e. (
          subst (λ (n : S). are_beside router n ≡ true) (same_at neighbour other e) are.0,
          subst (λ (n : S). is_it (pair_of router n) ≡ true) (same_at neighbour other e) (at_itself (pair_of router neighbour)),
        )) senders.keys are.1

    all_looked : sends_beside cmp are_beside senders router neighbour ≡ true → list_any (is_at (cmp router)) (keys_of ihus.to_all) ≡ true
        → list_any is_it (flat_map (λ (r : S). pairs_beside are_beside r senders.keys) (keys_of ihus.to_all)) ≡ true
    all_looked sends there =
        any_flat is_it (is_at (cmp router)) (λ (r : S). pairs_beside are_beside r senders.keys)
        (λ other e. subst (λ (r : S). list_any is_it (pairs_beside are_beside r senders.keys) ≡ true) (same_at router other e) (beside_looked sends)) (keys_of ihus.to_all) there

    -- of a pair that is not looked at there is no last IHU
    not_looked : list_any is_it (pairs_kept are_beside ihus senders.keys) ≡ false → last_kept cmp ihus router neighbour (sends_beside cmp are_beside senders router neighbour) ≡ None
    not_looked none =
        let parts = none_either (list_any is_it (keys_of ihus.named)) _ (sym (list_any-append is_it (keys_of ihus.named) _) ∙ none) in
        let unnamed : entry_at (pair_cmp cmp) ihus.named (pair_of router neighbour) ≡ None = none_there _ (is_some-lookup is_it ihus.named ∙ parts.0) in
        rw unnamed (by (sends_beside cmp are_beside senders router neighbour) refl (entry_at cmp ihus.to_all router) refl parts.1)
      where
        by : (sends : Bool) → sends_beside cmp are_beside senders router neighbour ≡ sends → (found : Option Numbered) → entry_at cmp ihus.to_all router ≡ found
            → list_any is_it (flat_map (λ (r : S). pairs_beside are_beside r senders.keys) (keys_of ihus.to_all)) ≡ false
            → later None (cond (sends && not (is_at (cmp router) neighbour)) found None) ≡ None
        by false e found is nobody = refl
        by true e None is nobody = never (not (is_at (cmp router) neighbour))
          where
            never : (b : Bool) → later None (cond b None None) ≡ None
            never true = refl
            never false = refl
        by true e (Some one) is nobody =
            let there : list_any (is_at (cmp router)) (keys_of ihus.to_all) ≡ true = sym (is_some-lookup (is_at (cmp router)) ihus.to_all) ∙ ap is_some is in
            let no : true ≡ false = sym (all_looked e there) ∙ nobody in absurd cc

    -- so it has what is told of those that are looked at
    pub told_all : (links : List (Pair S × IhuSaid))
        → entry_at (pair_cmp cmp) links (pair_of router neighbour)
        ≡ cond (list_any is_it (pairs_kept are_beside ihus senders.keys)) (last_kept cmp ihus router neighbour (sends_beside cmp are_beside senders router neighbour)) None
        → entry_at (pair_cmp cmp) links (pair_of router neighbour) ≡ last_kept cmp ihus router neighbour (sends_beside cmp are_beside senders router neighbour)
    told_all links is = is ∙ by (list_any is_it (pairs_kept are_beside ihus senders.keys)) refl
      where
        by : (b : Bool) → list_any is_it (pairs_kept are_beside ihus senders.keys) ≡ b
            → cond b (last_kept cmp ihus router neighbour (sends_beside cmp are_beside senders router neighbour)) None
            ≡ last_kept cmp ihus router neighbour (sends_beside cmp are_beside senders router neighbour)
        by true e = refl
        by false e = sym (not_looked e)

  -- ---- one pair after the other

  or_none : (last : Option IhuSaid) (b : Bool) → option_or last (cond b last None) ≡ last
  or_none (Some said) b = refl
  or_none None true = refl
  or_none None false = refl

  or_true : (b : Bool) → (b || true) ≡ true
  or_true true = refl
  or_true false = refl

  or_false : (b : Bool) → (b || false) ≡ b
  or_false true = refl
  or_false false = refl

  pub told_next : (last : Pair S → Option IhuSaid) (pairs : List (Pair S)) (i : ℕ) (pair : Pair S) (old new : List (Pair S × IhuSaid)) → i < length pairs → get_or pairs i pair ≡ pair
      → AreToldOf cmp last (take i pairs) old → TellsOf cmp (last pair) pair old new → AreToldOf cmp last (take (i + 1) pairs) new
  told_next last pairs i pair old new inside is before tells = λ other.
      tells other ∙ by other (is_at (pair_cmp cmp pair) other) refl ∙ ap (λ (b : Bool). cond b (last other) None) (sym (more other))
    where
      more : (other : Pair S) → list_any (is_at (pair_cmp cmp other)) (take (i + 1) pairs) ≡ (list_any (is_at (pair_cmp cmp other)) (take i pairs) || is_at (pair_cmp cmp pair) other)
      more other = list_any_more (is_at (pair_cmp cmp other)) pairs i pair inside
          ∙ ap (λ (p : Pair S). list_any (is_at (pair_cmp cmp other)) (take i pairs) || is_at (pair_cmp cmp other) p) is
          ∙ ap (λ (b : Bool). list_any (is_at (pair_cmp cmp other)) (take i pairs) || b) (is_at-sym pair_total other pair)

      by : (other : Pair S) (b : Bool) → is_at (pair_cmp cmp pair) other ≡ b
          → cond b (option_or (last pair) (entry_at (pair_cmp cmp) old other)) (entry_at (pair_cmp cmp) old other)
          ≡ cond (list_any (is_at (pair_cmp cmp other)) (take i pairs) || b) (last other) None
      by other true e =
          let same : pair ≡ other = pair_exact pair other (equal_of (pair_cmp cmp pair other) e) in
          let so_far : Bool = list_any (is_at (pair_cmp cmp other)) (take i pairs) in
          ap (λ (p : Pair S). option_or (last p) (entry_at (pair_cmp cmp) old other)) same
          ∙ ap (option_or (last other)) (before other)
          ∙ or_none (last other) so_far
          ∙ ap (λ (b : Bool). cond b (last other) None) (sym (or_true so_far))
      by other false e = before other ∙ ap (λ (b : Bool). cond b (last other) None) (sym (or_false (list_any (is_at (pair_cmp cmp other)) (take i pairs))))

-- ---- entries in order

-- entries in order in which the same is found are one
module _ {K X : Type 0} {R : K → K → Ordering} (o : IsTotalOrder R) (exact : CmpEqualImpliesEq R) where
  first_there : (e : K × X) (es : List (K × X)) → lookup (is_at (R e.0)) (e ∷ es) ≡ Some e.1
  first_there e es = rw (tied_itself o e.0) refl

  not_below : (e f : K × X) (es fs : List (K × X)) → IsStrictlySortedBy R (keys_of (f ∷ fs)) → R e.0 f.0 ≡ Less
      → lookup (is_at (R e.0)) (e ∷ es) ≡ lookup (is_at (R e.0)) (f ∷ fs) → ⊥
  unfolding IsStrictlySortedBy
  not_below e f es fs sorted less same =
      let none : lookup (is_at (R e.0)) (f ∷ fs) ≡ None = miss_below o e.0 (f ∷ fs) (less, below_all o e.0 f.0 (keys_of fs) less sorted.0) in
      let bad : Some e.1 ≡ None = sym (first_there e es) ∙ same ∙ none in absurd cc

  -- behind the first, which no other entry is at
  behind : (q : K) (e : K × X) (es : List (K × X)) → IsStrictlySortedBy R (keys_of (e ∷ es)) → lookup (is_at (R q)) es ≡ cond (is_at (R q) e.0) None (lookup (is_at (R q)) (e ∷ es))
  unfolding IsStrictlySortedBy
  behind q e es sorted = by (is_at (R q) e.0) refl
    where
      by : (b : Bool) → is_at (R q) e.0 ≡ b → lookup (is_at (R q)) es ≡ cond b None (cond b (Some e.1) (lookup (is_at (R q)) es))
      by false is = refl
      by true is =
          let same : q ≡ e.0 = exact q e.0 (equal_of (R q e.0) is) in
          ap (λ (k : K). lookup (is_at (R k)) es) same ∙ miss_below o e.0 es sorted.0

  pub entries_one : (es fs : List (K × X)) → IsStrictlySortedBy R (keys_of es) → IsStrictlySortedBy R (keys_of fs)
      → ((q : K) → lookup (is_at (R q)) es ≡ lookup (is_at (R q)) fs) → es ≡ fs
  unfolding IsStrictlySortedBy
  entries_one [] [] up down same = refl
  entries_one [] (f ∷ fs) up down same = let bad : None ≡ Some f.1 = same f.0 ∙ first_there f fs in absurd cc
  entries_one (e ∷ es) [] up down same = let bad : None ≡ Some e.1 = sym (same e.0) ∙ first_there e es in absurd cc
  entries_one (e ∷ es) (f ∷ fs) up down same = by (entries_one es fs up.1 down.1) (R e.0 f.0) refl
    where
      by : (((q : K) → lookup (is_at (R q)) es ≡ lookup (is_at (R q)) fs) → es ≡ fs) → (r : Ordering) → R e.0 f.0 ≡ r → e ∷ es ≡ f ∷ fs
      by again Less is = absurd (not_below e f es fs down is (same e.0))
      by again Greater is = let less : R f.0 e.0 ≡ Less = rw is at (o.antisymm f.0 e.0) in absurd (not_below f e fs es up less (sym (same f.0)))
      by again Equal is =
          let key : e.0 ≡ f.0 = exact e.0 f.0 is in
          let value : Some e.1 ≡ Some f.1 = sym (first_there e es) ∙ same e.0 ∙ ap (λ (k : K). lookup (is_at (R k)) (f ∷ fs)) key ∙ first_there f fs in
          let inner : e.1 ≡ f.1 = cc in
          let first : e ≡ f = ap (λ (k : K). let pair : K × X = (k, e.1) in pair) key ∙ ap (λ (x : X). let pair : K × X = (f.0, x) in pair) inner in
          let rest : es ≡ fs = again
          (λ q. behind q e es up ∙ ap (λ (x : Option X). cond (is_at (R q) e.0) None x) (same q)
          ∙ ap (λ (k : K). cond (is_at (R q) k) None (lookup (is_at (R q)) (f ∷ fs))) key ∙ sym (behind q f fs down)) in
          ap (λ (x : K × X). x ∷ es) first ∙ ap (λ (xs : List (K × X)). f ∷ xs) rest
