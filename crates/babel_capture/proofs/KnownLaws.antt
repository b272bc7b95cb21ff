-- The datagrams that are known, by their numbers and by their identifications.
use Rattle.std.proofs.Common.{◌≡◌, ◌≤◌, ◌+◌, ℕ, Bool, true, false, ◌||◌, cond, Option, None, Some, List, [], ◌∷◌, arith, refl, rules, sym, ap, subst, ◌-◌, ◌∙◌, Bor, MutBor, Result, Ok, Err}
use Rattle.std.specs.Prelude.{◌↔◌, IsSome, slice_get}
use Rattle.std.specs.Cmp.{IsTotalOrder}
use Rattle.std.specs.declared.cmp.Ordering.{Ordering}
use Rattle.std.proofs.Math.Path.{fun_ext}
use Rattle.std.specs.BTreeMap.{insert_entry, is_at}
use Rattle.std.specs.List.{find, list_any}
use Rattle.std.specs.List.Sorted.{IsStrictlySortedBy}
use Rattle.std.specs.Map.{keys_of, lookup, remove_entry, set_value}
use Rattle.std.specs.Option.{option_copied, option_copied_mut, option_map, unwrap_or}
use Rattle.std.specs.Result.{OnErr}
use Rattle.std.specs.Ordering.{nat_cmp}
use Rattle.std.specs.Option.{is_some}
use Rattle.std.specs.Ordering.{is_eq}
use Rattle.std.proofs.lemmas.Cmp.{eq_by_cmp_equiv, nat_cmp_total, on_total, then_total, tied_itself}
use Rattle.std.proofs.lemmas.Map.{keys-set_value, lookup-remove_entry, lookup-set_value}
use Rattle.std.proofs.lemmas.Map.Keys.{IsDistinct-from_sorted}
use Rattle.std.proofs.lemmas.Map.Entries.{sum_by-insert_entry, sum_by-remove_entry, sum_by-set_value}
use Rattle.std.proofs.lemmas.Map.Lookups.{exact_unsigned}
use Rattle.babel_prefix.specs.Address.{Address}
use Rattle.babel_prefix.specs.Order.{address_cmp}
use Rattle.babel_prefix.specs.TotalOrder.{address_total}
use Rattle.babel_prefix.specs.contracts.addr.AddrOrd.TheImpl.{ghosts as address_ghosts}
use Rattle.babel_prefix.proofs.Insertion.{equal_of, lookup-insert, sorted-insert}
use Rattle.babel_prefix.proofs.OrderLaws.{address_equality, then_parts}
use Rattle.babel_capture.specs.contracts.fragment.DatagramIdOrd.TheImpl.{ghosts}
use Rattle.babel_capture.specs.contracts.tallies.OriginOrd.TheImpl.{ghosts as origin_ghosts}
use Rattle.babel_capture.specs.declared.datagram.Datagram.{Datagram}
use Rattle.babel_capture.specs.declared.fragment.DatagramId.{DatagramId}
use Rattle.babel_capture.specs.declared.tallies.Origin.{Origin}
use Rattle.babel_capture.specs.declared.datagram.Step.{Step}
use Rattle.babel_capture.specs.declared.datagram.Step.TheVariants as steps
use Rattle.babel_capture.specs.Fragments.{Known, changed, changed_with, forgotten, forgotten_with, id_cmp, octets_in, of_id, of_id_after, step_in, step_of, stepped}
use Rattle.babel_capture.specs.Indexing.{Holds, IsIndexed}
use Rattle.babel_capture.specs.Pieces.{Fragment, len_of}
use Rattle.babel_capture.specs.Tallies.{origin_cmp}
use Rattle.babel_capture.proofs.PieceLaws.{head-found, none-of, none_some, self-at, tail-found}
use Rattle.babel_capture.proofs.TallyLaws.{origin_exact, origin_order, origin_total}

-- ---- identifications

-- the orders of the types are the stated ones
address_order : (a b : Address) → address_ghosts.cmp a b ≡ address_cmp a b
address_order a b = search rules

pub id_order : ghosts.cmp ≡ id_cmp
id_order = fun_ext (λ a. fun_ext (λ b. one a b))
  where
    one : (a b : DatagramId) → ghosts.cmp a b ≡ id_cmp a b
    one a b =
        let origins : origin_ghosts.cmp a.origin b.origin ≡ origin_cmp a.origin b.origin = ap (λ (k : Origin → Origin → Ordering). k a.origin b.origin) origin_order in
        let destinations : address_ghosts.cmp a.destination b.destination ≡ address_cmp a.destination b.destination = address_order a.destination b.destination in
        rw (origins, destinations) refl

pub id_total : IsTotalOrder id_cmp
id_total =
    then_total (on_total (λ (i : DatagramId). i.origin) origin_total)
    (then_total (on_total (λ (i : DatagramId). i.destination) address_total) (on_total (λ (i : DatagramId). i.identification) nat_cmp_total))

pub id_exact : (a b : DatagramId) → is_at (id_cmp a) b ≡ true → a ≡ b
id_exact a b at =
    let one = then_parts (origin_cmp a.origin b.origin) _ (equal_of (id_cmp a b) at) in
    let two = then_parts (address_cmp a.destination b.destination) (nat_cmp a.identification b.identification) one.1 in
    let of : Origin → Address → ℕ → DatagramId = λ o d i. record { origin = o; destination = d; identification = i } in
    ap (λ o. of o a.destination a.identification) (origin_exact a.origin b.origin (ap is_eq one.0))
    ∙ ap (λ d. of b.origin d a.identification) ((address_equality a.destination b.destination).0 two.0)
    ∙ ap (λ i. of b.origin b.destination i) (exact_unsigned a.identification b.identification two.1)

pub by-id : {X : Type 0} (entries : List (DatagramId × X)) (id : DatagramId) → lookup (is_at (ghosts.cmp id)) entries ≡ lookup (is_at (id_cmp id)) entries
by-id entries id = ap (λ (k : DatagramId → DatagramId → Ordering). lookup (is_at (k id)) entries) id_order

pub put-by-id : {X : Type 0} (entries : List (DatagramId × X)) (id : DatagramId) (x : X) → insert_entry ghosts.cmp entries id x ≡ insert_entry id_cmp entries id x
put-by-id entries id x = ap (λ (k : DatagramId → DatagramId → Ordering). insert_entry k entries id x) id_order

pub removed-by-id : {X : Type 0} (entries : List (DatagramId × X)) (id : DatagramId) → remove_entry (is_at (ghosts.cmp id)) entries ≡ remove_entry (is_at (id_cmp id)) entries
removed-by-id entries id = ap (λ (k : DatagramId → DatagramId → Ordering). remove_entry (is_at (k id)) entries) id_order

own-at : (id : DatagramId) → is_at (id_cmp id) id ≡ true
own-at id = ap is_eq (tied_itself id_total id)

-- ---- entries without one, or with another value for it, under any order

module _ {K : Type 0} {R : K → K → Ordering} (o : IsTotalOrder R) where
  one-key : (x y z : K) → is_at (R x) y ≡ true → is_at (R x) z ≡ is_at (R y) z
  one-key x y z at = ap is_eq (o.congr x y z (equal_of (R x y) at))

module _ {K X : Type 0} {R : K → K → Ordering} (o : IsTotalOrder R) where
  pub lookup-set : (q k : K) (w v : X) (es : List (K × X)) → lookup (is_at (R k)) es ≡ Some v → lookup (is_at (R q)) (set_value (is_at (R k)) es w) ≡ cond (is_at (R k) q) (Some w) (lookup (is_at (R q)) es)
  lookup-set q k w v es found = lookup-set_value (eq_by_cmp_equiv o) (is_at (R k)) (one-key o k) q w es (is-some found)
    where
      is-some : {o : Option X} {x : X} → o ≡ Some x → IsSome o
      is-some e = ap is_some e

  pub lookup-without : (q k : K) (es : List (K × X)) → IsStrictlySortedBy R (keys_of es) → lookup (is_at (R q)) (remove_entry (is_at (R k)) es) ≡ cond (is_at (R k) q) None (lookup (is_at (R q)) es)
  lookup-without q k es rising = lookup-remove_entry (eq_by_cmp_equiv o) (is_at (R k)) (one-key o k) q es (IsDistinct-from_sorted R (keys_of es) rising)

  pub there-set : (k : K) (w v : X) (es : List (K × X)) → lookup (is_at (R k)) es ≡ Some v → IsStrictlySortedBy R (keys_of es) → IsStrictlySortedBy R (keys_of (set_value (is_at (R k)) es w))
  there-set k w v es found rising = subst (IsStrictlySortedBy R) (sym (keys-set_value (is_at (R k)) es w)) rising

-- what is found then
pub found-set : {X : Type 0} (number : ℕ) (old new : X) (es now : List (ℕ × X)) → lookup (is_at (nat_cmp number)) es ≡ Some old → now ≡ set_value (is_at (nat_cmp number)) es new
    → lookup (is_at (nat_cmp number)) now ≡ Some new
found-set number old new es now found put =
    ap (lookup (is_at (nat_cmp number))) put ∙ lookup-set nat_cmp_total number number new old es found
    ∙ ap (λ b. cond b (Some new) (lookup (is_at (nat_cmp number)) es)) (self-at number)

-- with the value that is there
pub set_value-same : {K X : Type 0} (test : K → Bool) (v : X) (es : List (K × X)) → lookup test es ≡ Some v → set_value test es v ≡ es
set_value-same test v [] found = none_some v found
set_value-same test v (e ∷ es) found = by (test e.0) found (set_value-same test v es)
  where
    by : (b : Bool) → cond b (Some e.1) (lookup test es) ≡ Some v → (lookup test es ≡ Some v → set_value test es v ≡ es) → cond b ((e.0, v) ∷ es) (e ∷ set_value test es v) ≡ e ∷ es
    by true f again = (let value : e.1 ≡ v = cc in ap (λ x. (e.0, x) ∷ es) (sym value))
    by false f again = ap (λ l. e ∷ l) (again f)

-- what a step leaves of a datagram has its identification
stepped-id : (datagram : Datagram) (fragment : Fragment) (step : Step) → (stepped datagram fragment step).id ≡ datagram.id
stepped-id datagram fragment steps.Added = refl
stepped-id datagram fragment steps.Completes = refl
stepped-id datagram fragment steps.Overlaps = refl
stepped-id datagram fragment steps.Ignored = refl
stepped-id datagram fragment steps.Anew = refl

-- what is lent is there where its value is
pub some-lent : {X : Type 0} (lent : Option (Bor X)) (found : Option X) → option_copied lent ≡ found → IsSome found → IsSome lent
some-lent None found is some = subst IsSome (sym is) some
some-lent (Some one) found is some = refl

pub some-mut : {X : Type 0} (lent : Option (MutBor X)) (found : Option X) → option_copied_mut lent ≡ found → IsSome found → IsSome lent
some-mut None found is some = subst IsSome (sym is) some
some-mut (Some one) found is some = refl

pub on-err : {T E : Type 0} (result : Result T E) (P : Type 0) → P → OnErr result P
on-err (Ok value) P holds = tt
on-err (Err error) P holds = holds

-- the first of a list that has one
pub first-of : {X : Type 0} (xs : List X) (x : X) → slice_get xs 0 ≡ Some x → (others : List X) × (xs ≡ x ∷ others)
first-of [] x e = none_some x e
first-of (y ∷ ys) x e = (ys, (let value : y ≡ x = cc in ap (λ z. z ∷ ys) value))

-- ---- what a test finds

module _ {X : Type 0} where
  find-none : (test : X → Bool) (es : List X) → list_any test es ≡ false → find test es ≡ None
  find-none test [] none = refl
  find-none test (e ∷ es) none = by (test e) none (find-none test es)
    where
      by : (b : Bool) → (b || list_any test es) ≡ false → (list_any test es ≡ false → find test es ≡ None) → cond b (Some e) (find test es) ≡ None
      by true is again = absurd cc
      by false is again = again is

  -- the one that passes
  find-one : (test : ℕ × X → Bool) (k : ℕ) (v : X) (es : List (ℕ × X)) → IsStrictlySortedBy nat_cmp (keys_of es) → lookup (is_at (nat_cmp k)) es ≡ Some v → test (k, v) ≡ true
      → ((l : ℕ) (w : X) → lookup (is_at (nat_cmp l)) es ≡ Some w → test (l, w) ≡ true → l ≡ k) → find test es ≡ Some (k, v)
  unfolding IsStrictlySortedBy
  find-one test k v [] rising found holds one = none_some v found
  find-one test k v (e ∷ es) rising found holds one =
      by (λ later. find-one test k v es rising.1 later holds (λ l w there passes. one l w (tail-found e es rising l w there).1 passes)) (test e) (is_at (nat_cmp k) e.0) refl refl found
    where
      same-number : is_at (nat_cmp k) e.0 ≡ true → k ≡ e.0
      same-number at = exact_unsigned k e.0 (equal_of (nat_cmp k e.0) at)

      head : k ≡ e.0 → e.1 ≡ v → Some e ≡ Some (k, v)
      head number value = ap (λ (n : ℕ). Some (n, e.1)) (sym number) ∙ ap (λ (x : X). Some (k, x)) value

      value-of : e.0 ≡ k → e.1 ≡ v
      value-of number = (let here : lookup (is_at (nat_cmp k)) (e ∷ es) ≡ Some e.1 = subst (λ (n : ℕ). lookup (is_at (nat_cmp n)) (e ∷ es) ≡ Some e.1) number (head-found e es) in cc)

      by : (lookup (is_at (nat_cmp k)) es ≡ Some v → find test es ≡ Some (k, v)) → (b a : Bool) → test e ≡ b → is_at (nat_cmp k) e.0 ≡ a
          → cond a (Some e.1) (lookup (is_at (nat_cmp k)) es) ≡ Some v → cond b (Some e) (find test es) ≡ Some (k, v)
      by again true a passes at f =
          let number : e.0 ≡ k = one e.0 e.1 (head-found e es) passes in
          head (sym number) (value-of number)
      by again false true passes at f =
          let number = same-number at in
          let here : test e ≡ true = subst (λ (p : ℕ × X). test p ≡ true) (sym (same-pair number (value-of (sym number)))) holds in
          absurd cc
        where
          same-pair : k ≡ e.0 → e.1 ≡ v → e ≡ (k, v)
          same-pair number value = ap (λ (n : ℕ). (n, e.1)) (sym number) ∙ ap (λ (x : X). (k, x)) value
      by again false false passes at f = again f

-- ---- by identification

pub indexed_none : (numbers : List (DatagramId × ℕ)) (known : Known) → numbers ≡ [] → known ≡ [] → IsIndexed numbers known 0
unfolding IsStrictlySortedBy
indexed_none numbers known no_number nothing = subst (λ k. IsIndexed numbers k 0) (sym nothing) (subst (λ n. IsIndexed n [] 0) (sym no_number) none)
  where
    none : IsIndexed [] [] 0
    none = record {
      rising = tt;
      ids = tt;
      held = λ id number. (λ named. none_some number named, λ holds. none_some holds.datagram holds.found);
      octets_are = refl;
    }

module _ (numbers : List (DatagramId × ℕ)) (known : Known) (octets : ℕ) (indexed : IsIndexed numbers known octets) where
  pub known-by : (id : DatagramId) (number : ℕ) (datagram : Datagram) → lookup (is_at (ghosts.cmp id)) numbers ≡ Some number → lookup (is_at (nat_cmp number)) known ≡ Some datagram
      → of_id id known ≡ Some (number, datagram)
  known-by id number datagram named found =
      let by_id : lookup (is_at (id_cmp id)) numbers ≡ Some number = sym (by-id numbers id) ∙ named in
      let holds = (indexed.held id number).0 by_id in
      let same : holds.datagram ≡ datagram = (let there = holds.found in cc) in
      let own : id ≡ datagram.id = sym holds.own ∙ ap (λ (d : Datagram). d.id) same in
      find-one (λ one. is_at (id_cmp id) one.1.id) number datagram known indexed.rising found (subst (λ (i : DatagramId). is_at (id_cmp id) i ≡ true) own (own-at id))
      (λ l w there passes.
      let other = (indexed.held id l).1 (record { datagram = w; found = there; own = sym (id_exact id w.id passes) }) in
      let both : Some l ≡ Some number = sym other ∙ by_id in cc)

  pub known-held : (number : ℕ) (datagram : Datagram) → lookup (is_at (nat_cmp number)) known ≡ Some datagram → of_id datagram.id known ≡ Some (number, datagram)
  known-held number datagram found =
      known-by datagram.id number datagram (by-id numbers datagram.id ∙ (indexed.held datagram.id number).1 (record { datagram = datagram; found = found; own = refl })) found

  -- it has the identification that it is found by
  pub own-by : (id : DatagramId) (number : ℕ) (datagram : Datagram) → lookup (is_at (ghosts.cmp id)) numbers ≡ Some number → lookup (is_at (nat_cmp number)) known ≡ Some datagram → datagram.id ≡ id
  own-by id number datagram named found =
      let holds = (indexed.held id number).0 (sym (by-id numbers id) ∙ named) in
      let same : holds.datagram ≡ datagram = (let there = holds.found in cc) in
      sym (ap (λ (d : Datagram). d.id) same) ∙ holds.own

  -- and its number is free once it is removed
  pub gone-by : (number : ℕ) (known_now : Known) → known_now ≡ remove_entry (is_at (nat_cmp number)) known → lookup (is_at (nat_cmp number)) known_now ≡ None
  gone-by number known_now removed =
      ap (lookup (is_at (nat_cmp number))) removed ∙ lookup-without nat_cmp_total number number known indexed.rising
      ∙ ap (λ (b : Bool). cond b None (lookup (is_at (nat_cmp number)) known)) (self-at number)

  pub unknown-by : (id : DatagramId) → lookup (is_at (ghosts.cmp id)) numbers ≡ None → of_id id known ≡ None
  unknown-by id none = find-none test known (none-of test known indexed.rising each)
    where
      test : ℕ × Datagram → Bool
      test one = is_at (id_cmp id) one.1.id

      each : (l : ℕ) (w : Datagram) → lookup (is_at (nat_cmp l)) known ≡ Some w → test (l, w) ≡ false
      each l w there = by (is_at (id_cmp id) w.id) refl
        where
          by : (b : Bool) → is_at (id_cmp id) w.id ≡ b → b ≡ false
          by false passes = refl
          by true passes =
              let named = (indexed.held id l).1 (record { datagram = w; found = there; own = sym (id_exact id w.id passes) }) in
              none_some l (sym (sym (by-id numbers id) ∙ none) ∙ named)

  -- a number that is named is one that is known
  pub held-by : (id : DatagramId) (number : ℕ) → lookup (is_at (ghosts.cmp id)) numbers ≡ Some number → IsSome (lookup (is_at (nat_cmp number)) known)
  held-by id number named = (let holds = (indexed.held id number).0 (sym (by-id numbers id) ∙ named) in ap is_some holds.found)

  -- ---- one of them changed, removed or added

  number-at : (a b : ℕ) → is_at (nat_cmp a) b ≡ true → a ≡ b
  number-at a b at = exact_unsigned a b (equal_of (nat_cmp a b) at)

  -- with another value under a number, of the same identification
  pub indexed-set : (number : ℕ) (old new : Datagram) (known_now : Known) (octets_now : ℕ) → lookup (is_at (nat_cmp number)) known ≡ Some old → new.id ≡ old.id
      → known_now ≡ set_value (is_at (nat_cmp number)) known new → octets_now + len_of old.pieces ≡ octets + len_of new.pieces → IsIndexed numbers known_now octets_now
  indexed-set number old new known_now octets_now found same put more = subst (λ (k : Known). IsIndexed numbers k octets_now) (sym put) (record {
    rising = there-set nat_cmp_total number new old known found indexed.rising;
    ids = indexed.ids;
    held = λ id m. (λ named. kept id m ((indexed.held id m).0 named), λ holds. (indexed.held id m).1 (was id m holds));
    octets_are = (let sum = sum_by-set_value (λ (d : Datagram). len_of d.pieces) (is_at (nat_cmp number)) known old new found in let all = indexed.octets_are in omega (arith, sum, all, more));
  })
    where
      after : Known
      after = set_value (is_at (nat_cmp number)) known new

      looked : (m : ℕ) → lookup (is_at (nat_cmp m)) after ≡ cond (is_at (nat_cmp number) m) (Some new) (lookup (is_at (nat_cmp m)) known)
      looked m = lookup-set nat_cmp_total m number new old known found

      old-at : (m : ℕ) (d : Datagram) → is_at (nat_cmp number) m ≡ true → lookup (is_at (nat_cmp m)) known ≡ Some d → d ≡ old
      old-at m d at there =
          let here : lookup (is_at (nat_cmp m)) known ≡ Some old = subst (λ (n : ℕ). lookup (is_at (nat_cmp n)) known ≡ Some old) (number-at number m at) found in
          let both : Some d ≡ Some old = sym there ∙ here in cc

      kept : (id : DatagramId) (m : ℕ) → Holds known id m → Holds after id m
      kept id m holds = by (is_at (nat_cmp number) m) refl
        where
          by : (b : Bool) → is_at (nat_cmp number) m ≡ b → Holds after id m
          by true at = record {
            datagram = new;
            found = looked m ∙ ap (λ (b : Bool). cond b (Some new) (lookup (is_at (nat_cmp m)) known)) at;
            own = same ∙ ap (λ (d : Datagram). d.id) (sym (old-at m holds.datagram at holds.found)) ∙ holds.own;
          }
          by false at = record {
            datagram = holds.datagram;
            found = looked m ∙ ap (λ (b : Bool). cond b (Some new) (lookup (is_at (nat_cmp m)) known)) at ∙ holds.found;
            own = holds.own;
          }

      was : (id : DatagramId) (m : ℕ) → Holds after id m → Holds known id m
      was id m holds = by (is_at (nat_cmp number) m) refl (sym (looked m) ∙ holds.found)
        where
          by : (b : Bool) → is_at (nat_cmp number) m ≡ b → cond b (Some new) (lookup (is_at (nat_cmp m)) known) ≡ Some holds.datagram → Holds known id m
          by true at there = record {
            datagram = old;
            found = subst (λ (n : ℕ). lookup (is_at (nat_cmp n)) known ≡ Some old) (number-at number m at) found;
            own = sym same ∙ ap (λ (d : Datagram). d.id) (let value : new ≡ holds.datagram = cc in value) ∙ holds.own;
          }
          by false at there = record { datagram = holds.datagram; found = there; own = holds.own }

  -- without one
  pub indexed-without : (id : DatagramId) (number : ℕ) (old : Datagram) (numbers_now : List (DatagramId × ℕ)) (known_now : Known) (len : ℕ)
      → lookup (is_at (ghosts.cmp id)) numbers ≡ Some number → lookup (is_at (nat_cmp number)) known ≡ Some old
      → numbers_now ≡ remove_entry (is_at (ghosts.cmp id)) numbers → known_now ≡ remove_entry (is_at (nat_cmp number)) known
      → IsStrictlySortedBy ghosts.cmp (keys_of numbers_now) → IsStrictlySortedBy nat_cmp (keys_of known_now)
      → len ≡ len_of old.pieces → IsIndexed numbers_now known_now (octets - len)
  indexed-without id number old numbers_now known_now len named found unnamed removed ids rising is_len = record {
    rising = rising;
    ids = subst (λ (k : DatagramId → DatagramId → Ordering). IsStrictlySortedBy k (keys_of numbers_now)) id_order ids;
    held = λ other m. (later other m, earlier other m);
    octets_are =
        let f : Datagram → ℕ = λ d. len_of d.pieces in
        let sum = sum_by-remove_entry f (is_at (nat_cmp number)) known in
        let one : unwrap_or (option_map f (lookup (is_at (nat_cmp number)) known)) 0 ≡ len_of old.pieces = ap (λ (o : Option Datagram). unwrap_or (option_map f o) 0) found in
        let now : octets_in known_now ≡ octets_in (remove_entry (is_at (nat_cmp number)) known) = ap octets_in removed in
        let all = indexed.octets_are in
        omega (arith, sum, one, now, all, is_len);
  }
    where
      by_id : lookup (is_at (id_cmp id)) numbers ≡ Some number
      by_id = sym (by-id numbers id) ∙ named

      numbered : (other : DatagramId) → lookup (is_at (id_cmp other)) numbers_now ≡ cond (is_at (id_cmp id) other) None (lookup (is_at (id_cmp other)) numbers)
      numbered other = ap (lookup (is_at (id_cmp other))) (unnamed ∙ removed-by-id numbers id) ∙ lookup-without id_total other id numbers indexed.ids

      looked : (m : ℕ) → lookup (is_at (nat_cmp m)) known_now ≡ cond (is_at (nat_cmp number) m) None (lookup (is_at (nat_cmp m)) known)
      looked m = ap (lookup (is_at (nat_cmp m))) removed ∙ lookup-without nat_cmp_total m number known indexed.rising

      -- another identification has another number
      id-of : (other : DatagramId) (m : ℕ) → lookup (is_at (id_cmp other)) numbers ≡ Some m → is_at (nat_cmp number) m ≡ true → id ≡ other
      id-of other m given at =
          let holds = (indexed.held other m).0 given in
          let own = (indexed.held id number).0 by_id in
          let there : lookup (is_at (nat_cmp number)) known ≡ Some holds.datagram = subst (λ (n : ℕ). lookup (is_at (nat_cmp n)) known ≡ Some holds.datagram) (sym (number-at number m at)) holds.found in
          let same : Some own.datagram ≡ Some holds.datagram = sym own.found ∙ there in
          let value : own.datagram ≡ holds.datagram = cc in
          sym own.own ∙ ap (λ (d : Datagram). d.id) value ∙ holds.own

      later : (other : DatagramId) (m : ℕ) → lookup (is_at (id_cmp other)) numbers_now ≡ Some m → Holds known_now other m
      later other m given = by (is_at (id_cmp id) other) refl (sym (numbered other) ∙ given)
        where
          by : (b : Bool) → is_at (id_cmp id) other ≡ b → cond b None (lookup (is_at (id_cmp other)) numbers) ≡ Some m → Holds known_now other m
          by true at e = none_some m e
          by false at e =
              let holds = (indexed.held other m).0 e in record {
                datagram = holds.datagram;
                found = far (is_at (nat_cmp number) m) refl holds.datagram holds.found;
                own = holds.own;
              }
            where
              far : (a : Bool) → is_at (nat_cmp number) m ≡ a → (d : Datagram) → lookup (is_at (nat_cmp m)) known ≡ Some d → lookup (is_at (nat_cmp m)) known_now ≡ Some d
              far true is d there =
                  let wrong : is_at (id_cmp id) other ≡ true = subst (λ (i : DatagramId). is_at (id_cmp id) i ≡ true) (id-of other m e is) (own-at id) in absurd cc
              far false is d there = looked m ∙ ap (λ (b : Bool). cond b None (lookup (is_at (nat_cmp m)) known)) is ∙ there

      earlier : (other : DatagramId) (m : ℕ) → Holds known_now other m → lookup (is_at (id_cmp other)) numbers_now ≡ Some m
      earlier other m holds = by (is_at (nat_cmp number) m) refl (sym (looked m) ∙ holds.found)
        where
          by : (a : Bool) → is_at (nat_cmp number) m ≡ a → cond a None (lookup (is_at (nat_cmp m)) known) ≡ Some holds.datagram → lookup (is_at (id_cmp other)) numbers_now ≡ Some m
          by true at e = none_some holds.datagram e
          by false at e = far (is_at (id_cmp id) other) refl ((indexed.held other m).1 (record { datagram = holds.datagram; found = e; own = holds.own }))
            where
              far : (b : Bool) → is_at (id_cmp id) other ≡ b → lookup (is_at (id_cmp other)) numbers ≡ Some m → lookup (is_at (id_cmp other)) numbers_now ≡ Some m
              far true is given =
                  let also : lookup (is_at (id_cmp id)) numbers ≡ Some m = subst (λ (i : DatagramId). lookup (is_at (id_cmp i)) numbers ≡ Some m) (sym (id_exact id other is)) given in
                  let both : Some number ≡ Some m = sym by_id ∙ also in
                  let same : number ≡ m = cc in
                  let wrong : is_at (nat_cmp number) m ≡ true = subst (λ (n : ℕ). is_at (nat_cmp number) n ≡ true) same (self-at number) in absurd cc
              far false is given = numbered other ∙ ap (λ (b : Bool). cond b None (lookup (is_at (id_cmp other)) numbers)) is ∙ given

  -- no number is named for what is not known
  pub unnamed-by : (id : DatagramId) → of_id id known ≡ None → lookup (is_at (id_cmp id)) numbers ≡ None
  unnamed-by id none = by (lookup (is_at (id_cmp id)) numbers) refl
    where
      by : (o : Option ℕ) → lookup (is_at (id_cmp id)) numbers ≡ o → o ≡ None
      by None is = refl
      by (Some m) is =
          let holds = (indexed.held id m).0 is in
          none_some (m, holds.datagram) (sym none ∙ known-by id m holds.datagram (by-id numbers id ∙ is) holds.found)

  -- with one more
  pub indexed-with : (number : ℕ) (new : Datagram) (numbers_now : List (DatagramId × ℕ)) (known_now : Known) (octets_now : ℕ) → of_id new.id known ≡ None
      → lookup (is_at (nat_cmp number)) known ≡ None → numbers_now ≡ insert_entry ghosts.cmp numbers new.id number → known_now ≡ insert_entry nat_cmp known number new
      → octets_now ≡ octets + len_of new.pieces → IsIndexed numbers_now known_now octets_now
  indexed-with number new numbers_now known_now octets_now none free named put more = record {
    rising = subst (λ (k : Known). IsStrictlySortedBy nat_cmp (keys_of k)) (sym put) (sorted-insert nat_cmp_total number new known indexed.rising);
    ids = subst (λ (n : List (DatagramId × ℕ)). IsStrictlySortedBy id_cmp (keys_of n)) (sym (named ∙ put-by-id numbers new.id number)) (sorted-insert id_total new.id number numbers indexed.ids);
    held = λ other m. (later other m, earlier other m);
    octets_are =
        let f : Datagram → ℕ = λ d. len_of d.pieces in
        let sum = sum_by-insert_entry f nat_cmp_total known number new indexed.rising in
        let zero : unwrap_or (option_map f (lookup (is_at (nat_cmp number)) known)) 0 ≡ 0 = ap (λ (o : Option Datagram). unwrap_or (option_map f o) 0) free in
        let now : octets_in known_now ≡ octets_in (insert_entry nat_cmp known number new) = ap octets_in put in
        let all = indexed.octets_are in
        omega (arith, sum, zero, now, all, more);
  }
    where
      numbered : (other : DatagramId) → lookup (is_at (id_cmp other)) numbers_now ≡ cond (is_at (id_cmp new.id) other) (Some number) (lookup (is_at (id_cmp other)) numbers)
      numbered other = ap (lookup (is_at (id_cmp other))) (named ∙ put-by-id numbers new.id number) ∙ lookup-insert id_total other new.id number numbers

      looked : (m : ℕ) → lookup (is_at (nat_cmp m)) known_now ≡ cond (is_at (nat_cmp number) m) (Some new) (lookup (is_at (nat_cmp m)) known)
      looked m = ap (lookup (is_at (nat_cmp m))) put ∙ lookup-insert nat_cmp_total m number new known

      later : (other : DatagramId) (m : ℕ) → lookup (is_at (id_cmp other)) numbers_now ≡ Some m → Holds known_now other m
      later other m given = by (is_at (id_cmp new.id) other) refl (sym (numbered other) ∙ given)
        where
          by : (b : Bool) → is_at (id_cmp new.id) other ≡ b → cond b (Some number) (lookup (is_at (id_cmp other)) numbers) ≡ Some m → Holds known_now other m
          by true at e =
              let same : number ≡ m = cc in record {
                datagram = new;
                found = looked m ∙ ap (λ (b : Bool). cond b (Some new) (lookup (is_at (nat_cmp m)) known)) (subst (λ (n : ℕ). is_at (nat_cmp number) n ≡ true) same (self-at number));
                own = id_exact new.id other at;
              }
          by false at e =
              let holds = (indexed.held other m).0 e in record {
                datagram = holds.datagram;
                found = far (is_at (nat_cmp number) m) refl holds.datagram holds.found;
                own = holds.own;
              }
            where
              far : (a : Bool) → is_at (nat_cmp number) m ≡ a → (d : Datagram) → lookup (is_at (nat_cmp m)) known ≡ Some d → lookup (is_at (nat_cmp m)) known_now ≡ Some d
              far true is d there = none_some d (sym (subst (λ (n : ℕ). lookup (is_at (nat_cmp n)) known ≡ None) (number-at number m is) free) ∙ there)
              far false is d there = looked m ∙ ap (λ (b : Bool). cond b (Some new) (lookup (is_at (nat_cmp m)) known)) is ∙ there

      earlier : (other : DatagramId) (m : ℕ) → Holds known_now other m → lookup (is_at (id_cmp other)) numbers_now ≡ Some m
      earlier other m holds = by (is_at (nat_cmp number) m) refl (sym (looked m) ∙ holds.found)
        where
          by : (a : Bool) → is_at (nat_cmp number) m ≡ a → cond a (Some new) (lookup (is_at (nat_cmp m)) known) ≡ Some holds.datagram → lookup (is_at (id_cmp other)) numbers_now ≡ Some m
          by true at e =
              let value : new ≡ holds.datagram = cc in
              let id : new.id ≡ other = ap (λ (d : Datagram). d.id) value ∙ holds.own in
              numbered other ∙ ap (λ (b : Bool). cond b (Some number) (lookup (is_at (id_cmp other)) numbers)) (subst (λ (i : DatagramId). is_at (id_cmp new.id) i ≡ true) id (own-at new.id))
              ∙ ap Some (number-at number m at)
          by false at e = far (is_at (id_cmp new.id) other) refl ((indexed.held other m).1 (record { datagram = holds.datagram; found = e; own = holds.own }))
            where
              far : (b : Bool) → is_at (id_cmp new.id) other ≡ b → lookup (is_at (id_cmp other)) numbers ≡ Some m → lookup (is_at (id_cmp other)) numbers_now ≡ Some m
              far true is given =
                  none_some m (sym (unnamed-by new.id none) ∙ subst (λ (i : DatagramId). lookup (is_at (id_cmp i)) numbers ≡ Some m) (sym (id_exact new.id other is)) given)
              far false is given = numbered other ∙ ap (λ (b : Bool). cond b (Some number) (lookup (is_at (id_cmp other)) numbers)) is ∙ given

  -- without the one that was just added to the numbers
  pub indexed-back : (id : DatagramId) (number : ℕ) (put back : List (DatagramId × ℕ)) → of_id id known ≡ None → put ≡ insert_entry ghosts.cmp numbers id number
      → back ≡ remove_entry (is_at (ghosts.cmp id)) put → IsStrictlySortedBy ghosts.cmp (keys_of back) → IsIndexed back known octets
  indexed-back id number put back none named undone ids = record {
    rising = indexed.rising;
    ids = subst (λ (k : DatagramId → DatagramId → Ordering). IsStrictlySortedBy k (keys_of back)) id_order ids;
    held = λ other m. subst (λ (o : Option ℕ). (o ≡ Some m) ↔ Holds known other m) (sym (same other)) (indexed.held other m);
    octets_are = indexed.octets_are;
  }
    where
      one : List (DatagramId × ℕ)
      one = insert_entry id_cmp numbers id number

      same : (other : DatagramId) → lookup (is_at (id_cmp other)) back ≡ lookup (is_at (id_cmp other)) numbers
      same other =
          ap (lookup (is_at (id_cmp other))) (undone ∙ removed-by-id put id ∙ ap (remove_entry (is_at (id_cmp id))) (named ∙ put-by-id numbers id number))
          ∙ lookup-without id_total other id one (sorted-insert id_total id number numbers indexed.ids)
          ∙ ap (cond (is_at (id_cmp id) other) None) (lookup-insert id_total other id number numbers)
          ∙ by (is_at (id_cmp id) other) refl
        where
          by : (b : Bool) → is_at (id_cmp id) other ≡ b → cond b None (cond b (Some number) (lookup (is_at (id_cmp other)) numbers)) ≡ lookup (is_at (id_cmp other)) numbers
          by true at = sym (subst (λ (i : DatagramId). lookup (is_at (id_cmp i)) numbers ≡ None) (id_exact id other at) (unnamed-by id none))
          by false at = refl

  -- without the oldest
  pub indexed-pop : (number : ℕ) (oldest : Datagram) (others : Known) (numbers_now : List (DatagramId × ℕ)) (len : ℕ) → known ≡ (number, oldest) ∷ others
      → numbers_now ≡ remove_entry (is_at (ghosts.cmp oldest.id)) numbers → IsStrictlySortedBy ghosts.cmp (keys_of numbers_now) → IsStrictlySortedBy nat_cmp (keys_of others)
      → len ≡ len_of oldest.pieces → IsIndexed numbers_now others (octets - len)
  indexed-pop number oldest others numbers_now len is unnamed ids rising is_len =
      indexed-without oldest.id number oldest numbers_now others len (by-id numbers oldest.id ∙ (indexed.held oldest.id number).1 (record { datagram = oldest; found = found; own = refl })) found unnamed removed ids
      rising is_len
    where
      found : lookup (is_at (nat_cmp number)) known ≡ Some oldest
      found = ap (lookup (is_at (nat_cmp number))) is ∙ head-found (number, oldest) others

      removed : others ≡ remove_entry (is_at (nat_cmp number)) known
      removed = sym (ap (remove_entry (is_at (nat_cmp number))) is ∙ rw (self-at number) refl)

  -- one of them has no more octets than all
  pub len-of-found : (number : ℕ) (datagram : Datagram) → lookup (is_at (nat_cmp number)) known ≡ Some datagram → len_of datagram.pieces ≤ octets
  len-of-found number datagram found =
      let f : Datagram → ℕ = λ d. len_of d.pieces in
      let sum = sum_by-remove_entry f (is_at (nat_cmp number)) known in
      let one : unwrap_or (option_map f (lookup (is_at (nat_cmp number)) known)) 0 ≡ len_of datagram.pieces = ap (λ (o : Option Datagram). unwrap_or (option_map f o) 0) found in
      let all = indexed.octets_are in
      omega (arith, sum, one, all)

  pub forgotten-unnamed : (id : DatagramId) → lookup (is_at (ghosts.cmp id)) numbers ≡ None → known ≡ forgotten id known
  forgotten-unnamed id none = ap (forgotten_with known) (sym (unknown-by id none))

  module _ (id : DatagramId) (number : ℕ) (datagram : Datagram) (named : lookup (is_at (ghosts.cmp id)) numbers ≡ Some number) (found : lookup (is_at (nat_cmp number)) known ≡ Some datagram) where
    pub forgotten-named : remove_entry (is_at (nat_cmp number)) known ≡ forgotten id known
    forgotten-named = ap (forgotten_with known) (sym (known-by id number datagram named found))

    pub step-named : (fragment : Fragment) → fragment.id ≡ id → Some (step_in datagram fragment) ≡ step_of known fragment
    step-named fragment own = ap (option_map (λ (one : ℕ × Datagram). step_in one.1 fragment)) (sym (ap (λ (i : DatagramId). of_id i known) own ∙ known-by id number datagram named found))

    pub changed-named : (fragment : Fragment) → fragment.id ≡ id → set_value (is_at (nat_cmp number)) known (stepped datagram fragment (step_in datagram fragment)) ≡ changed known fragment
    changed-named fragment own = ap (changed_with known fragment) (sym (ap (λ (i : DatagramId). of_id i known) own ∙ known-by id number datagram named found))

  pub indexed-stepped : (number : ℕ) (old new : Datagram) (fragment : Fragment) (step : Step) (known_now : Known) (octets_now : ℕ) → lookup (is_at (nat_cmp number)) known ≡ Some old
      → new ≡ stepped old fragment step → known_now ≡ set_value (is_at (nat_cmp number)) known new → octets_now + len_of old.pieces ≡ octets + len_of new.pieces → IsIndexed numbers known_now octets_now
  indexed-stepped number old new fragment step known_now octets_now found is put more =
      indexed-set number old new known_now octets_now found (ap (λ (d : Datagram). d.id) is ∙ stepped-id old fragment step) put more

  -- the one of an identification after a step
  pub kept-named : (number : ℕ) (old new : Datagram) (fragment : Fragment) (step : Step) (known_now : Known) → of_id fragment.id known_now ≡ Some (number, new) → lookup (is_at (ghosts.cmp fragment.id)) numbers ≡ Some number
      → lookup (is_at (nat_cmp number)) known ≡ Some old → new ≡ stepped old fragment step → step ≡ step_in old fragment → of_id fragment.id known_now ≡ of_id_after known fragment
  kept-named number old new fragment step known_now now named found is told =
      let after : ℕ × Datagram → ℕ × Datagram = λ one. (one.0, stepped one.1 fragment (step_in one.1 fragment)) in
      now
      ∙ ap (λ (d : Datagram). Some (number, d)) (is ∙ ap (stepped old fragment) told)
      ∙ sym (ap (option_map after) (known-by fragment.id number old named found))

-- one that was just added is found by its identification
pub found-with : (numbers : List (DatagramId × ℕ)) (known : Known) (octets : ℕ) → IsIndexed numbers known octets → (number : ℕ) (new : Datagram) (numbers_now : List (DatagramId × ℕ)) (known_now : Known) → of_id new.id known ≡ None
    → lookup (is_at (nat_cmp number)) known ≡ None → numbers_now ≡ insert_entry ghosts.cmp numbers new.id number → known_now ≡ insert_entry nat_cmp known number new → of_id new.id known_now ≡ Some (number, new)
found-with numbers known octets indexed number new numbers_now known_now none free named put =
    let more = octets + len_of new.pieces in
    let now = indexed-with numbers known octets indexed number new numbers_now known_now more none free named put refl in
    known-held numbers_now known_now more now number new
    (ap (lookup (is_at (nat_cmp number))) put ∙ lookup-insert nat_cmp_total number number new known ∙ ap (λ (b : Bool). cond b (Some new) (lookup (is_at (nat_cmp number)) known)) (self-at number))
