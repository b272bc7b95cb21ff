-- Each function of two addresses has a list of boxes.
use Rattle.std.proofs.Common.{◌≡◌, ◌≢◌, ◌⊎◌, inl, inr, ℕ, zero, suc, ◌^◌, ◌<◌, List, [], ◌∷◌, ◌++◌, Option, Some, None, refl, sym, ◌∙◌, ap, subst, arith}
use Rattle.std.proofs.lemmas.Bool.{cases_lt, cases_eq}
use Rattle.std.specs.Cmp.{IsTotalOrder}
use Rattle.std.specs.Ordering.{ordering_reverse}
use Rattle.std.specs.declared.cmp.Ordering.{Ordering}
use Rattle.std.specs.declared.cmp.Ordering.TheVariants.{Less, Equal, Greater}
use Rattle.babel_prefix.specs.Best.{Row}
use Rattle.babel_prefix.specs.Covers.{BlockCovers}
use Rattle.babel_prefix.proofs.Members.{Listed, Contains-from_Listed, Listed-from_Contains, Listed-append_cases, Listed-append_left, Listed-append_right}
use Rattle.babel_trie.specs.Boxes.{Answers, HasEqualityTest, IsBefore, IsBox, IsBoxList}
use Rattle.babel_trie.proofs.BoxLaws.{in_a_box}
use Rattle.babel_trie.proofs.Lists.{InOrder, InOrder-append, AllPairs-from_order}
use Rattle.babel_trie.proofs.Ranges.{start_covered}
use Rattle.babel_trie.proofs.TableLaws.{same_box}

-- an order that is equal only where two are one tells any two apart
pub test_by : {V : Type 0} (cmp : V → V → Ordering) → IsTotalOrder cmp → ((a b : V) → cmp a b ≡ Equal → a ≡ b) → HasEqualityTest V
test_by cmp total exact a b = by (cmp a b) refl
  where
    turned : (o : Ordering) → cmp a b ≡ o → a ≡ b → o ≡ ordering_reverse o
    turned o is e = let own : cmp a a ≡ o = subst (λ c. cmp a c ≡ o) (sym e) is in sym own ∙ total.antisymm a a ∙ ap ordering_reverse own

    by : (o : Ordering) → cmp a b ≡ o → (a ≡ b) ⊎ (a ≢ b)
    by Less is = inr (λ e. let no = turned Less is e in cc)
    by Equal is = inl (exact a b is)
    by Greater is = inr (λ e. let no = turned Greater is e in cc)

module _ {X : Type 0} (R : X → X → Type 0) where
  -- what has a property, in order
  record Exact (P : X → Type 0) : Type 0 where
    pub list : List X
    pub in_order : InOrder R list
    pub each : (x : X) → Listed list x → P x
    pub all : (x : X) → P x → Listed list x

  -- what has one of so many properties, by their numbers
  gathered : (n : ℕ) (P : ℕ → X → Type 0) → ((k : ℕ) → k < n → Exact (P k)) → ((j k : ℕ) (x y : X) → j < k → P j x → P k y → R x y) → Exact (λ x. (k : ℕ) × (k < n) × P k x)
  gathered zero P one across = record { list = []; in_order = tt; each = λ x t. elim t [ ]; all = λ x p. absurd (omega (arith, p.1)) }
  gathered (suc n) P one across =
      let front = gathered n P (λ k lt. one k (omega arith)) across in
      let last = one n (omega arith) in
      record {
        list = front.list ++ last.list;
        in_order = InOrder-append R front.list last.list front.in_order last.in_order (λ x y t u. let p = front.each x t in across p.0 n x y p.1 p.2 (last.each y u));
        each = λ x t. elim (Listed-append_cases front.list last.list x t) [
          | inl u ↦ let p = front.each x u in (p.0, omega (arith, p.1), p.2)
          | inr u ↦ (n, omega arith, last.each x u)
        ];
        all = λ x p. elim (cases_lt p.0 n) [
          | inl lt ↦ Listed-append_left front.list last.list x (front.all x (p.0, lt, p.2))
          | inr ge ↦ let e : p.0 ≡ n = omega (arith, p.1) in Listed-append_right front.list last.list x (last.all x (subst (λ k. P k x) e p.2))
        ];
      }

module _ {V : Type 0} (test : HasEqualityTest V) (w : ℕ) (f : Answers V) where
  -- a box whose prefixes have these addresses
  abbrev StartsAt : ℕ → ℕ → Row V → Type 0
  StartsAt d s box = IsBox w f box × (box.dst.start ≡ d) × (box.src.start ≡ s)

  covers_start : (d s : ℕ) (box : Row V) → StartsAt d s box → BlockCovers w box.dst d × BlockCovers w box.src s
  covers_start d s box at = (subst (BlockCovers w box.dst) at.1 (start_covered w box.dst), subst (BlockCovers w box.src) at.2 (start_covered w box.src))

  answered_at : (d s : ℕ) (box : Row V) → d < 2 ^ w → s < 2 ^ w → StartsAt d s box → f d s ≡ Some box.value
  answered_at d s box d_in s_in at = let c = covers_start d s box at in at.0.answered d s d_in s_in c.0 c.1

  at_pair : (d s : ℕ) → d < 2 ^ w → s < 2 ^ w → Exact IsBefore (StartsAt d s)
  at_pair d s d_in s_in = by (f d s) refl
    where
      by : (v : Option V) → f d s ≡ v → Exact IsBefore (StartsAt d s)
      by None is = record { list = []; in_order = tt; each = λ x t. elim t [ ]; all = λ box at. let no : None ≡ Some box.value = sym is ∙ answered_at d s box d_in s_in at in absurd cc }
      by (Some v) is =
          let b = in_a_box test w f d s v d_in s_in is in
          let one : (box : Row V) → StartsAt d s box → b.box ≡ box =
          λ box at. same_box w f b.box box b.is_box at.0 d s d_in s_in (b.dst_in, b.src_in) (covers_start d s box at) in
          elim (cases_eq b.box.dst.start d) [
            | inl dst ↦ elim (cases_eq b.box.src.start s) [
              | inl src ↦ record {
                list = b.box ∷ [];
                in_order = ((λ y t. elim t [ ]), tt);
                each = λ box t. elim t [ inl e ↦ subst (StartsAt d s) e (b.is_box, dst, src) | inr none ↦ elim none [ ] ];
                all = λ box at. inl (one box at);
              }
              | inr differ ↦ record { list = []; in_order = tt; each = λ x t. elim t [ ]; all = λ box at. absurd (differ (subst (λ (r : Row V). r.src.start ≡ s) (sym (one box at)) at.2)) }
            ]
            | inr differ ↦ record { list = []; in_order = tt; each = λ x t. elim t [ ]; all = λ box at. absurd (differ (subst (λ (r : Row V). r.dst.start ≡ d) (sym (one box at)) at.1)) }
          ]

  at_destination : (d : ℕ) → d < 2 ^ w → Exact IsBefore (λ box. (s : ℕ) × (s < 2 ^ w) × StartsAt d s box)
  at_destination d d_in = gathered IsBefore (2 ^ w) (StartsAt d) (λ s s_in. at_pair d s d_in s_in) (λ j k x y lt at other. inr (at.1 ∙ sym other.1, omega (arith, lt, at.2, other.2)))

  pub boxes_exist : (boxes : List (Row V)) × IsBoxList w f boxes
  boxes_exist =
      let all = gathered IsBefore (2 ^ w) (λ d box. (s : ℕ) × (s < 2 ^ w) × StartsAt d s box) at_destination (λ j k x y lt at other. inl (omega (arith, lt, at.2.1, other.2.1))) in (
        all.list,
        record {
          in_order = AllPairs-from_order IsBefore all.list all.in_order;
          exact = λ box. (
            λ c. (all.each box (Listed-from_Contains all.list box c)).2.2.0,
            λ b. Contains-from_Listed all.list box (all.all box (box.dst.start, b.dst_is_prefix.start_in_range, (box.src.start, b.src_is_prefix.start_in_range, (b, refl, refl)))),
          );
        },
      )
