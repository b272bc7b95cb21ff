-- Answers and boxes by number are those by value.
use Rattle.std.proofs.Common.{◌≡◌, ℕ, zero, suc, ◌<◌, Bool, true, false, not, cond, ◌&&◌, ◌||◌, List, [], ◌∷◌, length, map, get_or, Option, Some, None, refl, sym, ap, subst, ◌∙◌, arith}
use Rattle.std.specs.List.{All, find, list_all, slice_get}
use Rattle.std.specs.Option.{option_map}
use Rattle.babel_prefix.specs.Best.{Row, matches, is_no_longer, is_best, answer}
use Rattle.babel_prefix.proofs.Members.{Contains-from_Listed, find-Some, find-same}
use Rattle.babel_trie.specs.Boxes.{Answers, IsBoxList, SameAnswers, IsLeastDifference}
use Rattle.babel_tlv.specs.declared.held.Held.{Held}
use Rattle.babel_canon.specs.declared.values.PackedValue.{PackedValue}
use Rattle.babel_canon.specs.Values.{HasValue, IsPacked, origin_of, value_of, valued}
use Rattle.babel_canon.specs.NumberOrder.{same_packed}
use Rattle.babel_canon.proofs.MappedBoxes.{mapped_boxes, mapped_row}

-- ---- the best row depends on prefixes alone

module _ {A B : Type 0} (h : A → B) where
  found-map : (test : Row B → Bool) (rows : List (Row A)) → find test (map (mapped_row h) rows) ≡ option_map (mapped_row h) (find (λ row. test (mapped_row h row)) rows)
  found-map test [] = refl
  found-map test (row ∷ rows) = by (test (mapped_row h row)) (found-map test rows)
    where
      by : (b : Bool) → find test (map (mapped_row h) rows) ≡ option_map (mapped_row h) (find (λ other. test (mapped_row h other)) rows)
          → cond b (Some (mapped_row h row)) (find test (map (mapped_row h) rows)) ≡ option_map (mapped_row h) (cond b (Some row) (find (λ other. test (mapped_row h other)) rows))
      by true later = refl
      by false later = later

  all-map : (test : Row B → Bool) (rows : List (Row A)) → list_all test (map (mapped_row h) rows) ≡ list_all (λ row. test (mapped_row h row)) rows
  all-map test [] = refl
  all-map test (row ∷ rows) = ap (λ b. test (mapped_row h row) && b) (all-map test rows)

  value-map : (found : Option (Row A)) → option_map (λ (row : Row B). row.value) (option_map (mapped_row h) found) ≡ option_map h (option_map (λ (row : Row A). row.value) found)
  value-map None = refl
  value-map (Some row) = refl

  pub answer-map : (w : ℕ) (rows : List (Row A)) (d s : ℕ) → answer w (map (mapped_row h) rows) d s ≡ option_map h (answer w rows d s)
  answer-map w rows d s =
      ap (option_map (λ (row : Row B). row.value)) (
      found-map (is_best w (map (mapped_row h) rows) d s) rows
      ∙ ap (option_map (mapped_row h)) (find-same (λ row. is_best w (map (mapped_row h) rows) d s (mapped_row h row)) (is_best w rows d s) rows
      (λ row listed. ap (λ b. matches w d s row && b) (all-map (λ other. not (matches w d s other) || is_no_longer other (mapped_row h row)) rows)))
      )
      ∙ value-map (find (is_best w rows d s) rows)

-- ---- a number says its value

-- no origin has two numbers
abbrev pub AreDistinct : List Held → Type 0
AreDistinct origins = (i j : ℕ) (held : Held) → slice_get origins i ≡ Some held → slice_get origins j ≡ Some held → i ≡ j

module _ (values : List Held) where
  -- what is answered in eight octets is this by value
  abbrev pub Says : Option PackedValue → Option Held → Type 0
  Says None None = Unit {0}
  Says None (Some h) = ⊥
  Says (Some n) None = ⊥
  Says (Some n) (Some h) = IsPacked values h n

  says_one : (n : Option PackedValue) (h k : Option Held) → Says n h → Says n k → h ≡ k
  says_one None None None a b = refl
  says_one None None (Some k) a b = absurd b
  says_one None (Some h) k a b = absurd a
  says_one (Some n) None k a b = absurd a
  says_one (Some n) (Some h) None a b = absurd b
  says_one (Some n) (Some h) (Some k) a b = ap Some (sym a.restores ∙ b.restores)

  pub said_once : AreDistinct values → (n m : Option PackedValue) (h : Option Held) → Says n h → Says m h → n ≡ m
  said_once distinct None None h a b = refl
  said_once distinct None (Some m) None a b = absurd b
  said_once distinct None (Some m) (Some h) a b = absurd a
  said_once distinct (Some n) None None a b = absurd a
  said_once distinct (Some n) None (Some h) a b = absurd b
  said_once distinct (Some n) (Some m) None a b = absurd a
  said_once distinct (Some n) (Some m) (Some h) a b =
      ap Some (same_packed n m (distinct n.origin m.origin (origin_of h) a.origin b.origin) (a.seqno ∙ sym b.seqno) (a.metric ∙ sym b.metric))

  says_value : (n : PackedValue) (h : Option Held) → Says (Some n) h → (h ≡ Some (value_of values n)) × HasValue values n
  says_value n None e = absurd e
  says_value n (Some h) e = (ap Some (sym e.restores), subst (λ (k : Held). IsPacked values k n) (sym e.restores) e)

  -- the answer that one in eight octets stands for
  pub says_map : (n : Option PackedValue) (h : Option Held) → Says n h → h ≡ option_map (value_of values) n
  says_map None None e = refl
  says_map None (Some h) e = absurd e
  says_map (Some n) None e = absurd e
  says_map (Some n) (Some h) e = ap Some (sym e.restores)

  -- ---- rows by number answer what they answer by value

  pub rows_say : (w : ℕ) (rows : List (Row PackedValue)) → All (λ row. HasValue values row.value) rows → (d s : ℕ) → Says (answer w rows d s) (answer w (map (valued values) rows) d s)
  rows_say w rows all d s = subst (λ (o : Option Held). Says (answer w rows d s) o) (sym (answer-map (value_of values) w rows d s)) (by (find (is_best w rows d s) rows) refl)
    where
      by : (found : Option (Row PackedValue)) → find (is_best w rows d s) rows ≡ found
          → Says (option_map (λ (row : Row PackedValue). row.value) found) (option_map (value_of values) (option_map (λ (row : Row PackedValue). row.value) found))
      by None is = tt
      by (Some row) is =
          let c = Contains-from_Listed rows row (find-Some (is_best w rows d s) rows row is).0 in
          subst (λ (r : Row PackedValue). HasValue values r.value) c.2 (all c.0 row c.1)

  -- ---- boxes by number are the boxes by value

  module _ (distinct : AreDistinct values) (w : ℕ) (g : Answers PackedValue) (f : Answers Held) (says : (d s : ℕ) → Says (g d s) (f d s)) where
    to_number : (d s e t : ℕ) → f d s ≡ f e t → g d s ≡ g e t
    to_number d s e t same = said_once distinct (g d s) (g e t) (f e t) (subst (λ (h : Option Held). Says (g d s) h) same (says d s)) (says e t)

    pub boxes_by_value : (boxes : List (Row PackedValue)) → IsBoxList w g boxes → IsBoxList w f (map (valued values) boxes)
    boxes_by_value = mapped_boxes (value_of values) w g f (λ d s. says_map (g d s) (f d s) (says d s)) (λ d s e t _ _ _ _ same. to_number d s e t same)

    pub numbers_of_boxes : (boxes : List (Row PackedValue)) → IsBoxList w g boxes → All (λ row. HasValue values row.value) boxes
    numbers_of_boxes boxes are i d i_in =
        let box = get_or boxes i d in
        let b = (are.exact box).0 (i, i_in, same_default boxes i d i_in) in
        let at = b.answered box.dst.start box.src.start b.dst_is_prefix.start_in_range b.src_is_prefix.start_in_range refl refl in
        (says_value box.value (f box.dst.start box.src.start) (subst (λ (n : Option PackedValue). Says n (f box.dst.start box.src.start)) at (says box.dst.start box.src.start))).1
      where
        same_default : (xs : List (Row PackedValue)) (i : ℕ) (d : Row PackedValue) → i < length xs → get_or xs i (get_or xs i d) ≡ get_or xs i d
        same_default [] i d i_in = absurd (omega arith)
        same_default (x ∷ xs) zero d i_in = refl
        same_default (x ∷ xs) (suc i) d i_in = same_default xs i d (omega arith)

  -- ---- where answers by number differ, they differ by value

  module _ (w : ℕ) (g h : Answers PackedValue) (f k : Answers Held) (left : (d s : ℕ) → Says (g d s) (f d s)) (right : (d s : ℕ) → Says (h d s) (k d s)) where
    same_at : (d s : ℕ) → g d s ≡ h d s → f d s ≡ k d s
    same_at d s same = says_one (h d s) (f d s) (k d s) (subst (λ (n : Option PackedValue). Says n (f d s)) same (left d s)) (right d s)

    pub same_by_value : SameAnswers w g h → SameAnswers w f k
    same_by_value same d s d_in s_in = same_at d s (same d s d_in s_in)

    pub difference_by_value : AreDistinct values → (dst src : ℕ) → IsLeastDifference w g h dst src → IsLeastDifference w f k dst src
    difference_by_value distinct dst src least = record {
      dst_in_range = least.dst_in_range;
      src_in_range = least.src_in_range;
      differs = λ same. least.differs (said_once distinct (g dst src) (h dst src) (k dst src) (subst (λ (held : Option Held). Says (g dst src) held) same (left dst src)) (right dst src));
      same_below = λ d s d_in s_in below. same_at d s (least.same_below d s d_in s_in below);
    }
