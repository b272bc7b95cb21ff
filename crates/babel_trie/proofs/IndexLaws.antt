-- What is found by its slot stays found where a free slot is filled, and what fills it is found.
use Rattle.std.proofs.Common.{◌≡◌, inl, inr, ℕ, zero, suc, ◌+◌, ◌-◌, ◌*◌, ◌/◌, ◌%◌, ◌^◌, ◌<◌, ◌≤◌, cond, List, [], ◌∷◌, ◌++◌}
use Rattle.std.proofs.Common.{length, take, get_or, Some, refl, sym, ◌∙◌, ap, subst, arith, length-append}
use Rattle.std.specs.List.{slice_get}
use Rattle.std.specs.BTreeMap.{BTreeMap, get, is_at}
use Rattle.std.specs.Ordering.{is_eq}
use Rattle.std.specs.declared.cmp.Ordering.{Ordering}
use Rattle.std.specs.declared.cmp.Ordering.TheVariants.{Less, Equal, Greater}
use Rattle.std.proofs.Math.ListN.{set}
use Rattle.std.proofs.lemmas.Bool.{cases_lt}
use Rattle.std.proofs.lemmas.Option.{slice_get_within}
use Rattle.std.proofs.lemmas.List.{get_or-set_same, get_or-set_other, get_or_past, length-set}
use Rattle.babel_trie.specs.Index.{IsAmong, IsNotAmong, IsFreeAmong, IsFull, IsAbsent, window, first_slot, slot_of, IsFound, IsIndexedTo, IsIndexed}
use Rattle.babel_trie.specs.declared.index.Index.{Index}
use Rattle.babel_trie.specs.declared.table.NodeNumber.{NodeNumber}
use Rattle.babel_trie.proofs.NumberLaws.{slice_get-push, slice_get-push_cases, slice_get-taken}

-- the free slot is in the list
pub free_slot : (slots : List ℕ) (left at place : ℕ) → IsFreeAmong slots left at place →
    (place < length slots) × (get_or slots place 0 ≡ 0)
free_slot slots zero at place none = elim none [ ]
free_slot slots (suc left) at place (inl here) =
    (subst (λ (p : ℕ). p < length slots) (sym here.2) here.0, ap (λ p. get_or slots p 0) here.2 ∙ here.1)
free_slot slots (suc left) at place (inr later) = free_slot slots left (at + 1) place later.1

-- a slot that is taken is none that is filled
pub taken_stays : (slots : List ℕ) (place value at : ℕ) → get_or slots place 0 ≡ 0 → 0 < get_or slots at 0 →
    get_or (set slots place value) at 0 ≡ get_or slots at 0
taken_stays slots place value at free taken =
    get_or-set_other slots place at value 0 (λ e. let same = ap (λ p. get_or slots p 0) e in omega (arith, same, free, taken))

-- what fills the free slot is among those looked at
pub filled_among : (slots : List ℕ) (left at place slot : ℕ) → 0 < slot → IsFreeAmong slots left at place →
    IsAmong (set slots place slot) left at slot
filled_among slots zero at place slot some none = elim none [ ]
filled_among slots (suc left) at place slot some (inl here) =
    let same : get_or (set slots place slot) at 0 ≡ slot =
    ap (λ p. get_or (set slots p slot) at 0) here.2 ∙ get_or-set_same slots at slot 0 here.0 in
    (omega (arith, same), inl same)
filled_among slots (suc left) at place slot some (inr later) =
    let free = free_slot slots left (at + 1) place later.1 in (
      subst (λ (n : ℕ). 0 < n) (sym (taken_stays slots place slot at free.1 later.0)) later.0,
      inr (filled_among slots left (at + 1) place slot some later.1),
    )

-- what was among them still is
pub still_among : (slots : List ℕ) (place value left at slot : ℕ) → get_or slots place 0 ≡ 0 →
    IsAmong slots left at slot → IsAmong (set slots place value) left at slot
still_among slots place value zero at slot free none = elim none [ ]
still_among slots place value (suc left) at slot free among =
    let same = taken_stays slots place value at free among.0 in (
      subst (λ (n : ℕ). 0 < n) (sym same) among.0,
      elim among.1 [
        | inl here ↦ inl (same ∙ here)
        | inr later ↦ inr (still_among slots place value left (at + 1) slot free later)
      ],
    )

-- where a search begins goes with the number of slots alone
pub still_found : (slots : List ℕ) (place value mark slot : ℕ) → get_or slots place 0 ≡ 0 →
    IsAmong slots window (first_slot slots mark) slot →
    IsAmong (set slots place value) window (first_slot (set slots place value) mark) slot
still_found slots place value mark slot free among =
    subst (λ (k : ℕ). IsAmong (set slots place value) window (mark / 2 ^ 32 * k % 2 ^ 64 / 2 ^ 32) slot)
    (sym (length-set slots place value))
    (still_among slots place value window (first_slot slots mark) slot free among)

pub newly_found : (slots : List ℕ) (place value mark slot : ℕ) → value ≡ slot → 0 < slot →
    IsFreeAmong slots window (first_slot slots mark) place →
    IsAmong (set slots place value) window (first_slot (set slots place value) mark) slot
newly_found slots place value mark slot is some free =
    subst (λ (k : ℕ). IsAmong (set slots place value) window (mark / 2 ^ 32 * k % 2 ^ 64 / 2 ^ 32) slot)
    (sym (length-set slots place value))
    (subst (λ (v : ℕ). IsAmong (set slots place v) window (first_slot slots mark) slot) (sym is)
    (filled_among slots window (first_slot slots mark) place slot some free))

-- behind a slot that is taken, a free one is that of the slots from the next one on
pub free_later : (slots : List ℕ) (left at place : ℕ) → 0 < left → 0 < get_or slots at 0 →
    IsFreeAmong slots (left - 1) (at + 1) place → IsFreeAmong slots left at place
free_later slots zero at place some taken free = absurd (omega arith)
free_later slots (suc left) at place some taken free =
    let one : suc left - 1 ≡ left = omega arith in
    inr (taken, subst (λ (n : ℕ). IsFreeAmong slots n (at + 1) place) one free)

-- a free one among the slots from a taken one on is behind that
pub free_behind : (slots : List ℕ) (left at place : ℕ) → 0 < left → 0 < get_or slots at 0 →
    IsFreeAmong slots left at place → IsFreeAmong slots (left - 1) (at + 1) place
free_behind slots zero at place some taken free = absurd (omega arith)
free_behind slots (suc left) at place some taken (inl here) =
    absurd (let none = here.1 in omega (arith, none, taken))
free_behind slots (suc left) at place some taken (inr later) =
    let one : left ≡ suc left - 1 = omega arith in
    subst (λ (n : ℕ). IsFreeAmong slots n (at + 1) place) one later.1

-- behind the last slot, and where none is left, none is free
pub full_at_end : (slots : List ℕ) (left at : ℕ) → (0 < left → length slots ≤ at) → IsFull slots left at
full_at_end slots zero at end = λ place free. elim free [ ]
full_at_end slots (suc left) at end = λ place free. elim free [
  | inl here ↦ (let far = end (omega arith) in let near = here.0 in omega (arith, far, near))
  | inr later ↦ (let far = end (omega arith) in
      let none : get_or slots at 0 ≡ 0 = get_or_past slots at 0 far in
      let some = later.0 in omega (arith, none, some))
]

-- slots of which none is free are so after a free one elsewhere is filled
pub full_stays : (slots : List ℕ) (place value left at : ℕ) → place < length slots → get_or slots place 0 ≡ 0 →
    0 < value → IsFull slots left at → IsFull (set slots place value) left at
full_stays slots place value zero at inside free some full = λ p none. elim none [ ]
full_stays slots place value (suc left) at inside free some full = λ p among. elim (cases_lt 0 (get_or slots at 0)) [
  | inl taken ↦
      let same = taken_stays slots place value at free taken in
      let taken_now : 0 < get_or (set slots place value) at 0 = omega (arith, same, taken) in
      let one : suc left - 1 ≡ left = omega arith in
      let rest : IsFull slots left (at + 1) = λ q later. full q (inr (taken, later)) in
      full_stays slots place value left (at + 1) inside free some rest p
      (subst (λ (n : ℕ). IsFreeAmong (set slots place value) n (at + 1) p) one
      (free_behind (set slots place value) (suc left) at p (omega arith) taken_now among))
  | inr none ↦
      let here : get_or slots at 0 ≡ 0 = omega (arith, none) in
      elim (cases_lt at (length slots)) [
        | inl near ↦ full at (inl (near, here, refl))
        | inr far ↦
            full_at_end (set slots place value) (suc left) at
            (λ _. (let len = length-set slots place value in omega (arith, far, len))) p among
      ]
]

pub still_full : (slots : List ℕ) (place value mark : ℕ) → place < length slots → get_or slots place 0 ≡ 0 → 0 < value →
    IsFull slots window (first_slot slots mark) →
    IsFull (set slots place value) window (first_slot (set slots place value) mark)
still_full slots place value mark inside free some full =
    subst (λ (k : ℕ). IsFull (set slots place value) window (mark / 2 ^ 32 * k % 2 ^ 64 / 2 ^ 32))
    (sym (length-set slots place value))
    (full_stays slots place value window (first_slot slots mark) inside free some full)

-- the first of the slots is free
pub free_first : (slots : List ℕ) (left at : ℕ) → 0 < left → at < length slots → get_or slots at 0 ≡ 0 →
    IsFreeAmong slots left at at
free_first slots zero at some inside free = absurd (omega arith)
free_first slots (suc left) at some inside free = inl (inside, free, refl)

module _ {K : Type 0} where
  -- where neither this slot's number nor one of the later ones is the element's, none is
  pub none_among : (slots : List ℕ) (list : List K) (element : K) (mark left at : ℕ) → 0 < left →
      ((n : NodeNumber) → slice_get list n.0 ≡ Some element → n.0 + 1 < 2 ^ 32 → get_or slots at 0 ≡ slot_of mark n.0 → ⊥) →
      IsNotAmong list element mark slots (left - 1) (at + 1) → IsNotAmong list element mark slots left at
  none_among slots list element mark zero at some other later = absurd (omega arith)
  none_among slots list element mark (suc left) at some other later = λ n is fits among.
      let one : suc left - 1 ≡ left = omega arith in
      elim among.1 [
        | inl here ↦ other n is fits here
        | inr there ↦ later n is fits (subst (λ (k : ℕ). IsAmong slots k (at + 1) (slot_of mark n.0)) (sym one) there)
      ]

  -- at a slot that has no number, and where no slot is left, there is none
  pub none_at : (slots : List ℕ) (list : List K) (element : K) (mark left at : ℕ) →
      (0 < left → get_or slots at 0 ≡ 0) → IsNotAmong list element mark slots left at
  none_at slots list element mark zero at free = λ n is fits among. elim among [ ]
  none_at slots list element mark (suc left) at free = λ n is fits among.
      (let none = free (omega arith) in let some = among.0 in omega (arith, none, some))

  module _ (cmp : K → K → Ordering) (exact : (a b : K) → cmp a b ≡ Equal → a ≡ b) where
    -- what the map has is kept where another number is not written
    pub kept_in_map : (map after : BTreeMap K NodeNumber) (element x : K) (number n : NodeNumber) →
        ((q : K) → get cmp after q ≡ cond (is_at (cmp element) q) (Some number) (get cmp map q)) →
        (x ≡ element → n ≡ number) → get cmp map x ≡ Some n → get cmp after x ≡ Some n
    kept_in_map map after element x number n update same there = update x ∙ by (cmp element x) refl
      where
        by : (o : Ordering) → cmp element x ≡ o → cond (is_eq o) (Some number) (get cmp map x) ≡ Some n
        by Less is = there
        by Equal is = ap Some (sym (same (sym (exact element x is))))
        by Greater is = there

module _ {K : Type 0} (cmp : K → K → Ordering) (mark : K → ℕ) where
  -- with the number of one element more, so many more are found
  pub index_step : (list : List K) (old new : Index K) (element : K) (number : NodeNumber) →
      IsIndexedTo cmp mark number.0 list old → slice_get list number.0 ≡ Some element →
      ((n : NodeNumber) → n.0 < number.0 → slice_get list n.0 ≡ Some element → ⊥) →
      IsFound cmp mark new element number →
      ((x : K) (n : NodeNumber) → (x ≡ element → n ≡ number) → IsFound cmp mark old x n → IsFound cmp mark new x n) →
      IsIndexedTo cmp mark (number.0 + 1) list new
  index_step list old new element number indexed at before kept others = record { found = found }
    where
      one_at : (n : NodeNumber) → n.0 ≡ number.0 → n ≡ number
      one_at n e = ap (λ (k : ℕ). let m : NodeNumber = record { 0 = k } in m) e

      found : (x : K) (n : NodeNumber) → n.0 < number.0 + 1 → slice_get list n.0 ≡ Some x → IsFound cmp mark new x n
      found x n below is = elim (cases_lt n.0 number.0) [
        | inl lt ↦ others x n (λ same. absurd (before n lt (is ∙ ap Some same))) (indexed.found x n lt is)
        | inr ge ↦
            let equal : n.0 ≡ number.0 = omega arith in
            let there : Some x ≡ Some element = sym is ∙ ap (slice_get list) equal ∙ at in
            let same : element ≡ x = cc in
            subst (λ (y : K). IsFound cmp mark new y n) same
            (subst (λ (m : NodeNumber). IsFound cmp mark new element m) (sym (one_at n equal)) kept)
      ]

  -- a list with one element more, which it did not have
  pub index_push : (list : List K) (old new : Index K) (element : K) (number : NodeNumber) →
      IsIndexed cmp mark list old → number.0 ≡ length list →
      ((n : NodeNumber) → slice_get list n.0 ≡ Some element → ⊥) →
      IsFound cmp mark new element number →
      ((x : K) (n : NodeNumber) → (x ≡ element → n ≡ number) → IsFound cmp mark old x n → IsFound cmp mark new x n) →
      IsIndexed cmp mark (list ++ element ∷ []) new
  index_push list old new element number indexed is_next absent kept others =
      let longer = list ++ element ∷ [] in
      let before : IsIndexedTo cmp mark number.0 longer old =
      record {
        found = λ x n below is. elim (slice_get-push_cases list element n.0 x is) [
          | inl there ↦ indexed.found x n (omega arith) there
          | inr last ↦ absurd (let e = last.0 in omega arith)
        ];
      } in
      let at : slice_get longer number.0 ≡ Some element = ap (slice_get longer) is_next ∙ slice_get-push list element in
      let none : (n : NodeNumber) → n.0 < number.0 → slice_get longer n.0 ≡ Some element → ⊥ =
      λ n below is. elim (slice_get-push_cases list element n.0 element is) [
        | inl there ↦ absent n there
        | inr last ↦ (let e = last.0 in omega arith)
      ] in
      let all = index_step longer old new element number before at none kept others in
      let count : number.0 + 1 ≡ length longer = omega (arith, is_next, length-append list (element ∷ [])) in
      subst (λ (k : ℕ). IsIndexedTo cmp mark k longer new) count all

  -- an element is absent if no slot has its number, nor the map where no slot is free
  pub absent_of : (list : List K) (index : Index K) (element : K) (slots : List ℕ) (m first : ℕ) →
      slots ≡ index.slots.items → m ≡ mark element → first ≡ first_slot index.slots.items m →
      IsIndexed cmp mark list index → IsNotAmong list element m slots window first →
      ((n : NodeNumber) → slice_get list n.0 ≡ Some element → IsFull slots window first →
      get cmp index.crowded element ≡ Some n → ⊥) →
      IsAbsent list element
  absent_of list index element slots m first is_slots is_mark is_first indexed none other = λ n is.
      elim (indexed.found element n (slice_get_within list n.0 element is) is) [
        | inl among ↦
            let by_mark = subst (λ (k : ℕ). IsAmong index.slots.items window (first_slot index.slots.items k) (slot_of k n.0)) (sym is_mark) among.1 in
            let by_first = subst (λ (k : ℕ). IsAmong index.slots.items window k (slot_of m n.0)) (sym is_first) by_mark in
            none n is among.0 (subst (λ (xs : List ℕ). IsAmong xs window first (slot_of m n.0)) (sym is_slots) by_first)
        | inr there ↦
            let by_mark = subst (λ (k : ℕ). IsFull index.slots.items window (first_slot index.slots.items k)) (sym is_mark) there.0 in
            let by_first = subst (λ (k : ℕ). IsFull index.slots.items window k) (sym is_first) by_mark in
            other n is (subst (λ (xs : List ℕ). IsFull xs window first) (sym is_slots) by_first) there.1
      ]

  -- the index of a list is one of what comes first in it
  pub index_take : (list : List K) (len : ℕ) (index : Index K) → IsIndexed cmp mark list index → IsIndexed cmp mark (take len list) index
  index_take list len index indexed = record {
    found = λ x n below is.
        let there = slice_get-taken list len n.0 x is in
        indexed.found x n (slice_get_within list n.0 x there) there;
  }

-- the index of a list is that of an equal list
pub indexed_as : {K : Type 0} {cmp : K → K → Ordering} {mark : K → ℕ} (list other : List K) (index : Index K) → list ≡ other →
    IsIndexed cmp mark list index → IsIndexed cmp mark other index
indexed_as {cmp} {mark} list other index same indexed = subst (λ xs. IsIndexed cmp mark xs index) same indexed
