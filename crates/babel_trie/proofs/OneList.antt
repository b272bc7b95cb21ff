-- Lists in a strict order with the same members are one.
use Rattle.std.proofs.Common.{◌≡◌, inl, inr, ℕ, suc, List, [], ◌∷◌, refl, sym, ◌∙◌, ap, subst, arith}
use Rattle.babel_prefix.specs.Block.{Block}
use Rattle.babel_prefix.proofs.Members.{Listed, Listed-from_Contains, Contains-from_Listed}
use Rattle.babel_trie.proofs.Lists.{InOrder}
use Rattle.std.specs.List.{AllPairs}
use Rattle.babel_trie.specs.Cut.{StartsBefore, AreLargestIn}

module _ {X : Type 0} where
  order_from_pairs : (R : X → X → Type 0) (xs : List X) → AllPairs R xs → InOrder R xs
  order_from_pairs R [] pairs = tt
  order_from_pairs R (x ∷ xs) pairs = (
    λ y t. let c = Contains-from_Listed xs y t in subst (R x) c.2 (pairs 0 (suc c.0) y (omega arith) (omega (arith, c.1))),
    order_from_pairs R xs (λ i j d lt j_in. pairs (suc i) (suc j) d (omega arith) (omega arith)),
  )

module _ {X : Type 0} (R : X → X → Type 0) (strict : (x y : X) → R x y → R y x → ⊥) where
  head_same : (x y : X) (xs ys : List X) → InOrder R (x ∷ xs) → InOrder R (y ∷ ys) → Listed (y ∷ ys) x → Listed (x ∷ xs) y → x ≡ y
  head_same x y xs ys o p (inl e) t = sym e
  head_same x y xs ys o p (inr s) (inl e) = e
  head_same x y xs ys o p (inr s) (inr t) = absurd (strict x y (o.0 y t) (p.0 x s))

  rest_in : (x y : X) (xs ys : List X) → InOrder R (x ∷ xs) → x ≡ y → ((z : X) → Listed (x ∷ xs) z → Listed (y ∷ ys) z) → (z : X) → Listed xs z → Listed ys z
  rest_in x y xs ys o e in_ys z t = elim (in_ys z (inr t)) [
    | inl f ↦ let same : x ≡ z = e ∙ f in let less : R x z = o.0 z t in absurd (strict x z less (subst (λ u. R u x) same (subst (R x) (sym same) less)))
    | inr s ↦ s
  ]

  pub one_list : (xs ys : List X) → InOrder R xs → InOrder R ys → ((z : X) → Listed xs z → Listed ys z) → ((z : X) → Listed ys z → Listed xs z) → xs ≡ ys
  one_list [] [] o p in_ys in_xs = refl
  one_list [] (y ∷ ys) o p in_ys in_xs = elim (in_xs y (inl refl)) [ ]
  one_list (x ∷ xs) [] o p in_ys in_xs = elim (in_ys x (inl refl)) [ ]
  one_list (x ∷ xs) (y ∷ ys) o p in_ys in_xs =
      let e : x ≡ y = head_same x y xs ys o p (in_ys x (inl refl)) (in_xs y (inl refl)) in
      let rest : xs ≡ ys = one_list xs ys o.1 p.1 (rest_in x y xs ys o e in_ys) (rest_in y x ys xs p (sym e) in_xs) in
      ap (λ (u : X). u ∷ xs) e ∙ ap (λ (us : List X). y ∷ us) rest

-- a range has one list of largest blocks
pub largest_are_one_list : (w from last : ℕ) (xs ys : List Block) → AreLargestIn w from last xs → AreLargestIn w from last ys → xs ≡ ys
largest_are_one_list w from last xs ys p q =
    one_list StartsBefore (λ x y lt gt. omega arith) xs ys (order_from_pairs StartsBefore xs p.in_order) (order_from_pairs StartsBefore ys q.in_order)
    (λ z t. Listed-from_Contains ys z ((q.exact z).1 ((p.exact z).0 (Contains-from_Listed xs z t))))
    (λ z t. Listed-from_Contains xs z ((p.exact z).1 ((q.exact z).0 (Contains-from_Listed ys z t))))
