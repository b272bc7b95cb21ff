-- The parts of the rows of a block.
use Rattle.std.proofs.Common.{◌≡◌, inl, inr, ℕ, ◌+◌, ◌-◌, ◌^◌, ◌<◌, ◌≤◌, List, [], ◌∷◌, ◌++◌, Option, Some, None, map, refl, sym, ◌∙◌, ap, subst, arith, Bool, false, length, ◌==◌, nat_lt}
use Rattle.std.proofs.lemmas.Bool.{cases_order, false≢true}
use Rattle.std.specs.List.{slice_get}
use Rattle.std.specs.Option.{IfSome, IfNone}
use Rattle.std.specs.Prelude.{Result, Ok, Err, IfOk, OnOk}
use Rattle.std.specs.List.Sorted.{IsPartitionedBy}
use Rattle.babel_prefix.specs.Block.{Block}
use Rattle.babel_prefix.specs.Covers.{BlockCovers}
use Rattle.babel_prefix.proofs.Members.{Listed}
use Rattle.babel_trie.specs.Rows.{IsPlace, InBlock, AreParted}
use Rattle.babel_prefix.proofs.Members.{Listed-append_left}
use Rattle.babel_trie.proofs.PlaceLaws.{place_high, block_rest, lower_first, some_bit, block_low, block_high, high_misses, low_misses, whole_covers}

-- a member of a mapped list comes from a member
pub from_map : {P Q : Type 0} (f : P → Q) (xs : List P) (y : Q) → Listed (map f xs) y → (x : P) × Listed xs x × (f x ≡ y)
from_map f [] y none = elim none [ ]
from_map f (x ∷ xs) y (inl e) = (x, inl refl, e)
from_map f (x ∷ xs) y (inr t) = let r = from_map f xs y t in (r.0, inr r.1, r.2)

pub to_map : {P Q : Type 0} (f : P → Q) (xs : List P) (x : P) → Listed xs x → Listed (map f xs) (f x)
to_map f [] x none = elim none [ ]
to_map f (y ∷ xs) x (inl e) = inl (ap f e)
to_map f (y ∷ xs) x (inr t) = inr (to_map f xs x t)

-- what is said of a value, if there is one, holds of the one that is there
pub some_holds : {X : Type 0} (P : X → Type 0) {o : Option X} {x : X} → IfSome o P → o ≡ Some x → P x
some_holds P holds is = subst (λ o. IfSome o P) is holds

pub if_ok_then : {X E : Type 0} {P Q : X → Type 0} (r : Result X E) → IfOk r P → ((x : X) → P x → Q x) → IfOk r Q
if_ok_then (Ok x) holds then = then x holds
if_ok_then (Err e) holds then = tt

pub on_ok_then : {X E P Q : Type 0} (r : Result X E) → OnOk r P → (P → Q) → OnOk r Q
on_ok_then (Ok x) holds then = then holds
on_ok_then (Err e) holds then = tt

pub none_holds : {X : Type 0} {P : Type 0} {o : Option X} → IfNone o P → o ≡ None → P
none_holds {P = P} holds is = subst (λ o. IfNone o P) is holds

-- a list that is not empty has a member
some_member : {X : Type 0} (xs : List X) (b : Bool) → b ≡ (length xs == 0) → b ≡ false → (x : X) × Listed xs x
some_member [] b is not_empty = absurd (false≢true (sym not_empty ∙ is))
some_member (x ∷ xs) b is not_empty = (x, inl refl)

module _ {X : Type 0} {key : X → Block} {w bits start : ℕ} where
  -- the rows left behind those of the whole block, of which the lower half comes first
  pub rest_sorted : {rows : List X} (own rest : List X) (middle : ℕ) → InBlock key w bits start rows → rows ≡ own ++ rest → IsPartitionedBy (λ x. nat_lt (key x).start middle) rest
  rest_sorted {rows} own rest middle rows_in whole = lower_first key w bits start rest (block_rest key w bits start rows own rest rows_in whole) middle

  -- where some are left a bit is left
  pub bit_left : {rows : List X} {empty : Bool} (own rest : List X) → IsPlace w bits start → InBlock key w bits start rows → rows ≡ own ++ rest
      → ((x : X) → Listed rest x → (key x).len ≡ w - bits → ⊥) →
      empty ≡ (length rest == 0) → empty ≡ false → 0 < bits
  bit_left {rows} {empty} own rest place rows_in whole other is not_empty =
      let member = some_member rest empty is not_empty in
      some_bit key w bits start (w - bits) rest place (block_rest key w bits start rows own rest rows_in whole) refl other member.0 member.1

  -- the parts, as they are split off one after the other
  pub parts_of : {middle : ℕ} {rows own rest low high : List X} → 0 < bits → IsPlace w bits start → InBlock key w bits start rows →
      rows ≡ own ++ rest → ((x : X) → Listed own x → (key x).len ≡ w - bits) → ((x : X) → Listed rest x → (key x).len ≡ w - bits → ⊥) → middle ≡ start + 2 ^ (bits - 1) →
      rest ≡ low ++ high → ((x : X) → Listed low x → (key x).start < middle) → ((x : X) → Listed high x → middle ≤ (key x).start) → AreParted key w bits start rows own low high
  parts_of {middle} {rows} {own} {rest} {low} {high} some place rows_in whole own_len other middle_is halves below above =
      let rest_in = block_rest key w bits start rows own rest rows_in whole in
      record {
        some = some;
        place = place;
        rows_in = rows_in;
        whole = whole ∙ ap (λ r. own ++ r) halves;
        own_len = own_len;
        longer = λ x t.
            let in_rest : Listed rest x = subst (λ r. Listed r x) (sym halves) t in
            let ge : w - bits ≤ (key x).len = rest_in.no_shorter x in_rest in
            elim (cases_order (key x).len (w - bits)) [ inl same ↦ absurd (other x in_rest same) | inr either ↦ elim either [ inl lt ↦ absurd (omega arith) | inr gt ↦ omega arith ] ];
        low_in = block_low key w bits start (w - bits) rest low high some place rest_in halves refl other (λ x t. subst (λ m. (key x).start < m) middle_is (below x t));
        high_in = block_high key w bits start (w - bits) rest low high some place rest_in halves refl other (λ x t. subst (λ m. m ≤ (key x).start) middle_is (above x t));
      }

  -- the upper half, from its start on
  pub upper_place : {middle : ℕ} {rows own low high : List X} → middle ≡ start + 2 ^ (bits - 1) → AreParted key w bits start rows own low high → IsPlace w (bits - 1) middle
  upper_place is p = subst (IsPlace w (bits - 1)) (sym is) (place_high w bits start p.place p.some)

  pub upper_rows : {middle : ℕ} {rows own low high : List X} → middle ≡ start + 2 ^ (bits - 1) → AreParted key w bits start rows own low high → InBlock key w (bits - 1) middle high
  upper_rows {high = high} is p = subst (λ m. InBlock key w (bits - 1) m high) (sym is) p.high_in

module _ {X : Type 0} (key : X → Block) where
  module _ (w bits start : ℕ) (rows own low high : List X) (p : AreParted key w bits start rows own low high) where
    -- a prefix of the upper half covers no address of the lower
    pub high_is_apart : (x : X) → Listed high x → (a : ℕ) → a < 2 ^ (bits - 1) → BlockCovers w (key x) (start + a) → ⊥
    high_is_apart x t a a_in =
        high_misses w (bits - 1) (start + 2 ^ (bits - 1)) (key x) (start + a) (place_high w bits start p.place p.some) (p.high_in.no_shorter x t) (p.high_in.from_start x t) (omega arith)

    -- nor the other way round
    pub low_is_apart : (x : X) → Listed low x → (a : ℕ) → BlockCovers w (key x) (start + 2 ^ (bits - 1) + a) → ⊥
    low_is_apart x t a =
        low_misses w (bits - 1) (start + 2 ^ (bits - 1)) (key x) (start + 2 ^ (bits - 1) + a) (place_high w bits start p.place p.some) (p.low_in.no_shorter x t) (p.low_in.before_end x t) (omega arith)

    -- the rows of the whole block cover each address of the block
    pub own_covers : (x : X) → Listed own x → (a : ℕ) → a < 2 ^ bits → BlockCovers w (key x) (start + a)
    own_covers x t a a_in =
        let in_rows : Listed rows x = subst (λ r. Listed r x) (sym p.whole) (Listed-append_left own (low ++ high) x t) in
        whole_covers w bits start (key x) p.place (p.rows_in.from_start x in_rows) (p.rows_in.before_end x in_rows) (p.own_len x t) a a_in

-- the first member
pub first_listed : {X : Type 0} (xs : List X) (x : X) → slice_get xs 0 ≡ Some x → Listed xs x
first_listed [] x e = absurd (cc)
first_listed (y ∷ ys) x e = inl (cc)
