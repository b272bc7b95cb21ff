-- Where the elements of a list are found again: this project's own.
use Rattle.std.specs.Prelude.{◌≡◌, ◌⊎◌, ℕ, zero, suc, ◌+◌, ◌*◌, ◌/◌, ◌%◌, ◌^◌, ◌<◌, List, length}
use Rattle.std.specs.Prelude.{get_or, Some, slice_get}
use Rattle.std.specs.BTreeMap.{get}
use Rattle.std.specs.declared.cmp.Ordering.{Ordering}
use Rattle.babel_trie.specs.declared.index.Index.{Index}
use Rattle.babel_trie.specs.declared.table.NodeNumber.{NodeNumber}

-- what a slot has: the lower half of an element's mark, and one more than its number
abbrev pub slot_of : ℕ → ℕ → ℕ
slot_of mark number = mark % 2 ^ 32 * 2 ^ 32 + (number + 1)

-- one of so many slots from this one on has this, and none before it is free
abbrev pub IsAmong : List ℕ → ℕ → ℕ → ℕ → Type 0
IsAmong slots zero at slot = ⊥
IsAmong slots (suc left) at slot =
    (0 < get_or slots at 0) × ((get_or slots at 0 ≡ slot) ⊎ IsAmong slots left (at + 1) slot)

-- the first of so many slots from this one on that is free
abbrev pub IsFreeAmong : List ℕ → ℕ → ℕ → ℕ → Type 0
IsFreeAmong slots zero at place = ⊥
IsFreeAmong slots (suc left) at place =
    ((at < length slots) × (get_or slots at 0 ≡ 0) × (place ≡ at))
    ⊎ ((0 < get_or slots at 0) × IsFreeAmong slots left (at + 1) place)

-- none of so many slots from this one on is free
abbrev pub IsFull : List ℕ → ℕ → ℕ → Type 0
IsFull slots left at = (place : ℕ) → IsFreeAmong slots left at place → ⊥

-- in how many slots an element can stand
abbrev pub window : ℕ
window = 16

-- the slot at which a search for a mark begins: as far among the slots as the upper half of the
-- mark among all
abbrev pub first_slot : List ℕ → ℕ → ℕ
first_slot slots mark = mark / 2 ^ 32 * length slots % 2 ^ 64 / 2 ^ 32

-- no element stands twice
abbrev pub HasDistinct : {K : Type 0} → List K → Type 0
HasDistinct list = (i j : ℕ) (x : _) → slice_get list i ≡ Some x → slice_get list j ≡ Some x → i ≡ j

module _ {K : Type 0} where
  -- the list does not have the element
  abbrev pub IsAbsent : List K → K → Type 0
  IsAbsent list x = (n : NodeNumber) → slice_get list n.0 ≡ Some x → ⊥

  -- no number of the element, beside this mark, is among the slots
  abbrev pub IsNotAmong : List K → K → ℕ → List ℕ → ℕ → ℕ → Type 0
  IsNotAmong list x mark slots left at =
      (n : NodeNumber) → slice_get list n.0 ≡ Some x → n.0 + 1 < 2 ^ 32 →
      IsAmong slots left at (slot_of mark n.0) → ⊥

module _ {K : Type 0} (cmp : K → K → Ordering) (mark : K → ℕ) where
  -- a search for the element comes to this number: in a slot, or where none is free in the map
  abbrev pub IsFound : Index K → K → NodeNumber → Type 0
  IsFound index x number =
      ((number.0 + 1 < 2 ^ 32) × IsAmong index.slots.items window
      (first_slot index.slots.items (mark x)) (slot_of (mark x) number.0))
      ⊎ (IsFull index.slots.items window (first_slot index.slots.items (mark x))
      × (get cmp index.crowded x ≡ Some number))

  -- a search for each of so many elements comes to its number
  pub record IsIndexedTo (count : ℕ) (list : List K) (index : Index K) : Type 0 where
    pub found : (x : K) (number : NodeNumber) → number.0 < count →
        slice_get list number.0 ≡ Some x → IsFound index x number

  -- a search for each element comes to its number
  abbrev pub IsIndexed : List K → Index K → Type 0
  IsIndexed list index = IsIndexedTo (length list) list index

  -- what a search came to it comes to, but for another number of this element
  abbrev pub KeepsFound : Index K → Index K → K → NodeNumber → Type 0
  KeepsFound old new element number = (x : K) (n : NodeNumber) → (x ≡ element → n ≡ number) →
      IsFound old x n → IsFound new x n
