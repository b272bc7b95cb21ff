-- A row for a destination that is source-specific, among rows that are looked through.
use Rattle.std.proofs.Common.{◌≡◌, refl, zero, suc, List, [], ◌∷◌, ◌⊎◌, inl, inr, Option, Some, None, arith, sym, subst}
use Rattle.std.specs.Option.{SomeIff}
use Rattle.babel_prefix.specs.Address.{Address}
use Rattle.babel_tlv.specs.Pair.{Pair}
use Rattle.babel_dump.specs.AnySource.{HasSourceSpecific, IsSourceSpecific}

pub here : (dst : Address) (row : Pair) (rows left : List Pair) → left ≡ row ∷ rows → IsSourceSpecific dst row.0 → HasSourceSpecific dst left
here dst row rows left is specific = subst (λ (l : List Pair). HasSourceSpecific dst l) (sym is) (0, row, omega arith, refl, specific)

pub later : (dst : Address) (row : Pair) (rows left : List Pair) → left ≡ row ∷ rows → HasSourceSpecific dst rows → HasSourceSpecific dst left
later dst row rows left is has =
    subst (λ (l : List Pair). HasSourceSpecific dst l) (sym is) (suc has.0, has.1, omega (arith, has.2), has.3, has.4)

split : (dst : Address) (row : Pair) (rows : List Pair) → HasSourceSpecific dst (row ∷ rows) → IsSourceSpecific dst row.0 ⊎ HasSourceSpecific dst rows
split dst row rows (zero, x, within, at, specific) = inl (subst (λ (r : Pair). IsSourceSpecific dst r.0) (sym at) specific)
split dst row rows (suc k, x, within, at, specific) = inr (k, x, omega (arith, within), at, specific)

-- the first row is not, so another one is
pub not_here : (dst : Address) (row : Pair) (rows left : List Pair) → left ≡ row ∷ rows → ¬ IsSourceSpecific dst row.0
    → HasSourceSpecific dst left → HasSourceSpecific dst rows
not_here dst row rows left is other has =
    by (split dst row rows (subst (λ (l : List Pair). HasSourceSpecific dst l) is has)) where
      by : IsSourceSpecific dst row.0 ⊎ HasSourceSpecific dst rows → HasSourceSpecific dst rows
      by (inl specific) = absurd (other specific)
      by (inr rest) = rest

pub none_left : (dst : Address) (left : List Pair) → left ≡ [] → ¬ HasSourceSpecific dst left
none_left dst left is has = let of_none : HasSourceSpecific dst [] = subst (λ (l : List Pair). HasSourceSpecific dst l) is has in absurd (omega (arith, of_none.2))

-- where it says so, the value is one
pub told_one : {T : Type 0} (told too : Option T) (P : Type 0) (v : T) → SomeIff told P v → SomeIff too P v → told ≡ too
told_one None None P v one two = refl
told_one None (Some x) P v one two = absurd (one two.0)
told_one (Some x) None P v one two = absurd (two one.0)
told_one (Some x) (Some y) P v one two = rw (one.1, two.1) refl
