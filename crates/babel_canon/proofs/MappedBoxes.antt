-- The boxes of a function whose values are mapped, where no two values that it has become one.
use Rattle.std.proofs.Common.{◌≡◌, ℕ, zero, suc, ◌^◌, ◌<◌, List, [], ◌∷◌, length, map, get_or, Option, Some, None, refl, sym, ap, subst, ◌∙◌, arith, Contains}
use Rattle.std.specs.List.{AllPairs}
use Rattle.std.specs.Option.{option_map}
use Rattle.std.proofs.lemmas.List.{length-map}
use Rattle.babel_prefix.specs.Block.{Block}
use Rattle.babel_prefix.specs.Best.{Row}
use Rattle.babel_prefix.proofs.EntryLaws.{Listed-map, map-Listed}
use Rattle.babel_prefix.proofs.Members.{Listed-from_Contains, Contains-from_Listed}
use Rattle.babel_trie.specs.Boxes.{Answers, IsUniform, IsConstant, IsBox, IsBefore, IsBoxList}

module _ {A B : Type 0} (h : A → B) where
  -- a row with its value mapped
  abbrev pub mapped_row : Row A → Row B
  mapped_row row = record { dst = row.dst; src = row.src; value = h row.value }

  some_value : (n : Option A) (v : B) → option_map h n ≡ Some v → (m : A) × (n ≡ Some m) × (h m ≡ v)
  some_value None v e = cc
  some_value (Some m) v e = let same : h m ≡ v = cc in (m, refl, same)

  at_place : (xs : List (Row A)) (i : ℕ) (d : Row B) (e : Row A) → i < length xs → get_or (map mapped_row xs) i d ≡ mapped_row (get_or xs i e)
  at_place [] i d e i_in = absurd (omega arith)
  at_place (x ∷ xs) zero d e i_in = refl
  at_place (x ∷ xs) (suc i) d e i_in = at_place xs i d e (omega arith)

  in_order : (boxes : List (Row A)) → AllPairs IsBefore boxes → AllPairs IsBefore (map mapped_row boxes)
  in_order [] order i j d lt j_in = absurd (omega arith)
  in_order (first ∷ rest) order i j d lt j_in =
      let boxes = first ∷ rest in
      let j_is : j < length boxes = subst (λ (n : ℕ). j < n) (length-map boxes mapped_row) j_in in
      let i_at = at_place boxes i d first (omega arith) in
      let j_at = at_place boxes j d first j_is in
      subst (λ (r : Row B). IsBefore r (get_or (map mapped_row boxes) j d)) (sym i_at)
      (subst (λ (r : Row B). IsBefore (mapped_row (get_or boxes i first)) r) (sym j_at) (order i j first lt j_is))

  module _ (w : ℕ) (g : Answers A) (f : Answers B) (maps : (d s : ℕ) → f d s ≡ option_map h (g d s))
      (back : (d s e t : ℕ) → d < 2 ^ w → s < 2 ^ w → e < 2 ^ w → t < 2 ^ w → f d s ≡ f e t → g d s ≡ g e t) where
    on : (d s e t : ℕ) → g d s ≡ g e t → f d s ≡ f e t
    on d s e t same = maps d s ∙ ap (option_map h) same ∙ sym (maps e t)

    uniform_on : (block : Block) → IsUniform w g block → IsUniform w f block
    uniform_on block u d e s d_in e_in s_in in_d in_e = on d s e s (u d e s d_in e_in s_in in_d in_e)

    uniform_back : (block : Block) → IsUniform w f block → IsUniform w g block
    uniform_back block u d e s d_in e_in s_in in_d in_e = back d s e s d_in s_in e_in s_in (u d e s d_in e_in s_in in_d in_e)

    constant_on : (dst : ℕ) (block : Block) → IsConstant w g dst block → IsConstant w f dst block
    constant_on dst block c s t s_in t_in in_s in_t = on dst s dst t (c s t s_in t_in in_s in_t)

    constant_back : (dst : ℕ) (block : Block) → dst < 2 ^ w → IsConstant w f dst block → IsConstant w g dst block
    constant_back dst block d_in c s t s_in t_in in_s in_t = back dst s dst t d_in s_in d_in t_in (c s t s_in t_in in_s in_t)

    box_on : (box : Row A) → IsBox w g box → IsBox w f (mapped_row box)
    box_on box b = record {
      dst_is_prefix = b.dst_is_prefix;
      src_is_prefix = b.src_is_prefix;
      uniform = uniform_on box.dst b.uniform;
      dst_is_longest = λ some u. b.dst_is_longest some (uniform_back _ u);
      constant = λ d d_in in_d. constant_on d box.src (b.constant d d_in in_d);
      src_is_longest = λ d d_in in_d some c. b.src_is_longest d d_in in_d some (constant_back d _ d_in c);
      answered = λ d s d_in s_in in_d in_s. maps d s ∙ ap (option_map h) (b.answered d s d_in s_in in_d in_s);
    }

    -- the box whose value is mapped to that of this box
    box_back : (box : Row B) → IsBox w f box → (from : Row A) × IsBox w g from × (mapped_row from ≡ box)
    box_back box b =
        let d = box.dst.start in
        let s = box.src.start in
        let d_start = b.dst_is_prefix.start_in_range in
        let s_start = b.src_is_prefix.start_in_range in
        let here : f d s ≡ Some box.value = b.answered d s d_start s_start refl refl in
        let value = some_value (g d s) box.value (sym (maps d s) ∙ here) in
        let from : Row A = record { dst = box.dst; src = box.src; value = value.0 } in (
          from,
          record {
            dst_is_prefix = b.dst_is_prefix;
            src_is_prefix = b.src_is_prefix;
            uniform = uniform_back box.dst b.uniform;
            dst_is_longest = λ some u. b.dst_is_longest some (uniform_on _ u);
            constant = λ e e_in in_e. constant_back e box.src e_in (b.constant e e_in in_e);
            src_is_longest = λ e e_in in_e some c. b.src_is_longest e e_in in_e some (constant_on e _ c);
            answered = λ e t e_in t_in in_e in_t. back e t d s e_in t_in d_start s_start (b.answered e t e_in t_in in_e in_t ∙ sym here) ∙ value.1;
          },
          ap (λ (v : B). let r : Row B = record { dst = box.dst; src = box.src; value = v } in r) value.2,
        )

    -- the boxes of the mapped function are the mapped boxes
    pub mapped_boxes : (boxes : List (Row A)) → IsBoxList w g boxes → IsBoxList w f (map mapped_row boxes)
    mapped_boxes boxes are = record {
      in_order = in_order boxes are.in_order;
      exact = λ box. (
        (λ c. let found = Listed-map mapped_row boxes box (Listed-from_Contains (map mapped_row boxes) box c) in
            subst (IsBox w f) found.2 (box_on found.0 ((are.exact found.0).0 (Contains-from_Listed boxes found.0 found.1)))),
        (λ b. let from = box_back box b in
            subst (Contains (map mapped_row boxes)) from.2
            (Contains-from_Listed (map mapped_row boxes) (mapped_row from.0)
            (map-Listed mapped_row boxes from.0 (Listed-from_Contains boxes from.0 ((are.exact from.0).1 from.1))))),
      );
    }
