-- The text is cut at its first point.
use Rattle.std.proofs.Common.{Bor, ◌≡◌, ℕ, ◌⊎◌, inl, inr, List, [], ◌∷◌, ◌++◌, Some, refl, sym, subst, ◌∙◌, arith, lit<}
use Rattle.std.specs.Str.Parse.{AllDigits}
use Rattle.std.proofs.lemmas.Str.Pattern.{IsSplitOnceResult, split_parts}
use Rattle.babel_dump.specs.Decimals.{ArePlaces, FractionText, units_of}
use Rattle.babel_dump.proofs.WordLaws.{cut_none, cut_some}
use Rattle.babel_dump.proofs.decimal.cut_fraction.Goals as goal

begins : (most : ℕ) (fraction : List ℕ) (units : ℕ) → FractionText most fraction units → (fraction ≡ []) ⊎ ((digits : List ℕ) × (fraction ≡ 46 ∷ digits))
begins most fraction units (inl none) = inl none.0
begins most fraction units (inr some) = inr (some.0, some.1)

no_units : (most : ℕ) (fraction : List ℕ) (units : ℕ) → FractionText most fraction units → fraction ≡ [] → 0 ≡ units
no_units most fraction units (inl none) e = sym none.1
no_units most fraction units (inr some) e = absurd (let no : 46 ∷ some.0 ≡ [] = sym some.1 ∙ e in cc)

-- what is after the point are the places, if the word is digits and a fraction
at_point : (most : ℕ) (word digits fraction : List ℕ) (units : ℕ) (x : Bor (List ℕ) × Bor (List ℕ)) → IsSplitOnceResult 46 word (Some x) → AllDigits 10 digits → word ≡ digits ++ fraction
    → FractionText most fraction units → (x.0.now ≡ digits) × ArePlaces most x.1.now × (units ≡ units_of most x.1.now)
at_point most word digits fraction units x is are e its =
    let cut = cut_some 46 (λ r. omega arith) (lit< tt) word digits are fraction e (begins most fraction units its) x is in
    by its cut
  where
    by : FractionText most fraction units → (x.0.now ≡ digits) × (fraction ≡ 46 ∷ x.1.now) → (x.0.now ≡ digits) × ArePlaces most x.1.now × (units ≡ units_of most x.1.now)
    by (inl none) cut = absurd (let no : 46 ∷ x.1.now ≡ [] = sym cut.1 ∙ none.0 in cc)
    by (inr some) cut =
        let same : some.0 ≡ x.1.now = cc in
        (cut.0, subst (ArePlaces most) same some.2, subst (λ (t : List ℕ). units ≡ units_of most t) same some.3)

pub returns-in_err-parse_places-in-Some-clause-reads : goal.returns-in_err-parse_places-in-Some-clause-reads
returns-in_err-parse_places-in-Some-clause-reads c = λ digits fraction units are e its.
    let cut = at_point c.args.most c.args.word.now digits fraction units (c.in-Some.front, c.in-Some.digits) c.in-Some.ensures.cases are e its in
    absurd (c.in_err-parse_places-in-Some.ensures cut.1)

pub returns-in_ok-parse_places-in-Some-clause-is : goal.returns-in_ok-parse_places-in-Some-clause-is
returns-in_ok-parse_places-in-Some-clause-is c =
    let read = c.in_ok-parse_places-in-Some.ensures in
    (46 ∷ c.in-Some.digits.now, (split_parts 46 c.args.word.now (Some (c.in-Some.front, c.in-Some.digits)) c.in-Some.ensures.cases (lit< tt)).0, inr (c.in-Some.digits.now, refl, read.0, read.1))

pub returns-in_ok-parse_places-in-Some-clause-reads : goal.returns-in_ok-parse_places-in-Some-clause-reads
returns-in_ok-parse_places-in-Some-clause-reads c = λ digits fraction units are e its.
    let cut = at_point c.args.most c.args.word.now digits fraction units (c.in-Some.front, c.in-Some.digits) c.in-Some.ensures.cases are e its in
    (cut.0, c.in_ok-parse_places-in-Some.ensures.1 ∙ sym cut.2)

pub returns-in-None-clause-reads : goal.returns-in-None-clause-reads
returns-in-None-clause-reads c = λ digits fraction units are e its.
    let cut = cut_none 46 (λ r. omega arith) (lit< tt) c.args.word.now digits are fraction e (begins c.args.most fraction units its) c.in-None.ensures.cases in
    (cut.0, no_units c.args.most fraction units its cut.1)
