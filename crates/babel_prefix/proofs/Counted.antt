-- How many elements of a list have a property, and which is the first, and one element more.
use Rattle.std.proofs.Common.{◌≡◌, ℕ, ◌+◌, Bool, true, false, cond, List, [], ◌∷◌, ◌++◌, map, Option, Some, None, refl, ap, ◌∙◌, arith}
use Rattle.std.specs.Prelude.{count_by}
use Rattle.std.specs.List.{find}
use Rattle.std.specs.Option.{option_map, option_or}
use Rattle.std.proofs.lemmas.List.Folds.{find-append}
use Rattle.std.proofs.lemmas.List.Sums.{sum_by-append}

module _ {X : Type 0} where
  count-cons : (p : X → Bool) (x : X) (xs : List X) → count_by p (x ∷ xs) ≡ cond (p x) 1 0 + count_by p xs
  count-cons p x xs = sum_by-append (λ s. cond (p s) 1 0) (x ∷ []) xs ∙ ap (λ (n : ℕ). n + count_by p xs) (zero_more (cond (p x) 1 0))
    where
      zero_more : (n : ℕ) → 0 + n ≡ n
      zero_more n = omega arith

  pub count-none : (p : X → Bool) (xs : List X) → find p xs ≡ None → count_by p xs ≡ 0
  count-none p [] none = refl
  count-none p (x ∷ xs) none = count-cons p x xs ∙ by (count-none p xs) (p x) none
    where
      by : (find p xs ≡ None → count_by p xs ≡ 0) → (b : Bool) → cond b (Some x) (find p xs) ≡ None → cond b 1 0 + count_by p xs ≡ 0
      by again true e = absurd cc
      by again false e = (let none : count_by p xs ≡ 0 = again e in omega arith)

  pub count-push : (p : X → Bool) (xs : List X) (x : X) → count_by p (xs ++ x ∷ []) ≡ count_by p xs + cond (p x) 1 0
  count-push p xs x = sum_by-append (λ y. cond (p y) 1 0) xs (x ∷ []) ∙ ap (λ (n : ℕ). count_by p xs + n) (zero_more (cond (p x) 1 0))
    where
      zero_more : (n : ℕ) → 0 + n ≡ n
      zero_more n = omega arith

  -- how many have the property, and where the first of them is
  abbrev counted : (X → ℕ) → (X → Bool) → List X → Option (ℕ × ℕ)
  counted place p xs = option_map (λ x. (count_by p xs, place x)) (find p xs)

  -- and one more of them
  module _ (place : X → ℕ) (more : ℕ → Option (ℕ × ℕ) → Option (ℕ × ℕ)) (first : (at : ℕ) → more at None ≡ Some (1, at)) (again : (at n here : ℕ) → more at (Some (n, here)) ≡ Some (n + 1, here)) where
    merged : (n m : ℕ) (x : X) (b : Bool) (found : Option X) → m ≡ n + cond b 1 0 → (found ≡ None → n ≡ 0)
        → option_map (λ y. (m, place y)) (option_or found (cond b (Some x) None)) ≡ cond b (more (place x) (option_map (λ y. (n, place y)) found)) (option_map (λ y. (n, place y)) found)
    merged n m x true None is none = (let one : m ≡ 1 = is ∙ (rw (none refl) refl) in rw (one, first (place x)) refl)
    merged n m x false None is none = refl
    merged n m x true (Some y) is none = rw (is, again (place x) n (place y)) refl
    merged n m x false (Some y) is none = (let e : m ≡ n = omega arith in ap (λ (k : ℕ). Some (k, place y)) e)

    pub counted-push : (p : X → Bool) (xs : List X) (x : X) → counted place p (xs ++ x ∷ []) ≡ cond (p x) (more (place x) (counted place p xs)) (counted place p xs)
    counted-push p xs x =
        ap (λ (f : Option X). option_map (λ y. (count_by p (xs ++ x ∷ []), place y)) f) (find-append p xs (x ∷ []))
        ∙ merged (count_by p xs) (count_by p (xs ++ x ∷ [])) x (p x) (find p xs) (count-push p xs x) (count-none p xs)

pub map-same : {X Y : Type 0} (f g : X → Y) → ((x : X) → f x ≡ g x) → (xs : List X) → map f xs ≡ map g xs
map-same f g same [] = refl
map-same {Y = Y} f g same (x ∷ xs) = ap (λ (y : Y). y ∷ map f xs) (same x) ∙ ap (λ (ys : List Y). g x ∷ ys) (map-same f g same xs)
