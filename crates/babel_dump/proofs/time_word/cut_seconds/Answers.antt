-- The word is cut at its first colon.
use Rattle.std.proofs.Common.{Bor, ◌≡◌, ◌⊎◌, inl, inr, ◌∷◌, ◌++◌, [], ℕ, List, Some, refl, sym, subst, ◌∙◌, arith, lit<}
use Rattle.std.specs.Str.Parse.{AllDigits}
use Rattle.std.proofs.lemmas.Str.Pattern.{IsSplitOnceResult, split_parts}
use Rattle.babel_dump.specs.MomentWords.{SecondText, SecondsText}
use Rattle.babel_dump.proofs.WordLaws.{cut_none, cut_some}
use Rattle.babel_dump.proofs.time_word.cut_seconds.Goals as goal

begins : (rest : List ℕ) (seconds nanoseconds : ℕ) → SecondsText rest seconds nanoseconds → (rest ≡ []) ⊎ ((second : List ℕ) × (rest ≡ 58 ∷ second))
begins rest seconds nanoseconds (inl none) = inl none.0
begins rest seconds nanoseconds (inr some) = inr (some.0, some.1)

-- what is after the colon are the seconds, if the word is digits and seconds
at_colon : (word front rest : List ℕ) (seconds nanoseconds : ℕ) (x : Bor (List ℕ) × Bor (List ℕ)) → IsSplitOnceResult 58 word (Some x) → AllDigits 10 front → word ≡ front ++ rest
    → SecondsText rest seconds nanoseconds → (x.0.now ≡ front) × SecondText x.1.now seconds nanoseconds
at_colon word front rest seconds nanoseconds x is are e its =
    by its (cut_some 58 (λ r. omega arith) (lit< tt) word front are rest e (begins rest seconds nanoseconds its) x is)
  where
    by : SecondsText rest seconds nanoseconds → (x.0.now ≡ front) × (rest ≡ 58 ∷ x.1.now) → (x.0.now ≡ front) × SecondText x.1.now seconds nanoseconds
    by (inl none) cut = absurd (let no : 58 ∷ x.1.now ≡ [] = sym cut.1 ∙ none.0 in cc)
    by (inr some) cut = let same : some.0 ≡ x.1.now = cc in (cut.0, subst (λ (t : List ℕ). SecondText t seconds nanoseconds) same some.2)

none_are : (rest : List ℕ) (seconds nanoseconds : ℕ) → SecondsText rest seconds nanoseconds → rest ≡ [] → (seconds ≡ 0) × (nanoseconds ≡ 0)
none_are rest seconds nanoseconds (inl none) e = (none.1, none.2)
none_are rest seconds nanoseconds (inr some) e = absurd (let no : 58 ∷ some.0 ≡ [] = sym some.1 ∙ e in cc)

pub returns-in_err-parse_second-in-Some-clause-reads : goal.returns-in_err-parse_second-in-Some-clause-reads
returns-in_err-parse_second-in-Some-clause-reads c = λ front rest seconds nanoseconds are e its.
    let cut = at_colon c.args.word.now front rest seconds nanoseconds (c.in-Some.front, c.in-Some.second) c.in-Some.ensures.cases are e its in
    absurd (let read = c.in_err-parse_second-in-Some.ensures.reads seconds nanoseconds cut.1 in cc)

pub returns-in_ok-parse_second-in-Some-clause-is : goal.returns-in_ok-parse_second-in-Some-clause-is
returns-in_ok-parse_second-in-Some-clause-is c =
    let second = c.in-Some.second.now in
    (58 ∷ second, (split_parts 58 c.args.word.now (Some (c.in-Some.front, c.in-Some.second)) c.in-Some.ensures.cases (lit< tt)).0, inr (second, refl, c.in_ok-parse_second-in-Some.ensures.is))

pub returns-in_ok-parse_second-in-Some-clause-reads : goal.returns-in_ok-parse_second-in-Some-clause-reads
returns-in_ok-parse_second-in-Some-clause-reads c = λ front rest seconds nanoseconds are e its.
    let cut = at_colon c.args.word.now front rest seconds nanoseconds (c.in-Some.front, c.in-Some.second) c.in-Some.ensures.cases are e its in
    (cut.0, let read = c.in_ok-parse_second-in-Some.ensures.reads seconds nanoseconds cut.1 in cc)

pub returns-in-None-clause-reads : goal.returns-in-None-clause-reads
returns-in-None-clause-reads c = λ front rest seconds nanoseconds are e its.
    let cut = cut_none 58 (λ r. omega arith) (lit< tt) c.args.word.now front are rest e (begins rest seconds nanoseconds its) c.in-None.ensures.cases in
    let none = none_are rest seconds nanoseconds its cut.1 in
    (cut.0, rw (none.0, none.1) refl)
