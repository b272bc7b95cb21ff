-- Steps, of which something comes, or a fault: where one thing comes of each, or one fault, it comes of all.
use Rattle.std.proofs.Common.{◌≡◌, ◌⊎◌, Bool, true, Result, Ok, Err, ap, sym, ◌∙◌, inl, inr}
use Rattle.babel_dump.specs.declared.input_fault.InputFault.{InputFault}
use Rattle.babel_dump.specs.declared.run_fault.RunFault.TheVariants as run_faults
use Rattle.babel_dump.specs.declared.run_fault.RunFault.{RunFault}
use Rattle.babel_dump.specs.declared.run_fault.Side.{Side}

-- two results are one thing, or one fault
abbrev pub AreOne : {A E : Type 0} → Result A E → Result A E → Type 0
AreOne (Ok a) (Ok b) = a ≡ b
AreOne (Err e) (Err f) = e ≡ f
AreOne x y = ⊥

abbrev pub IsOne : {A E : Type 0} → (Result A E → Type 0) → Type 0
IsOne {A} {E} Comes = (x y : Result A E) → Comes x → Comes y → AreOne x y

-- what is so alone, without a fault
abbrev pub Always : {A E : Type 0} → (A → Type 0) → Result A E → Type 0
Always Is (Ok a) = Is a
Always Is (Err e) = ⊥

pub always_one : {A E : Type 0} {Is : A → Type 0} → ((a b : A) → Is a → Is b → a ≡ b) → IsOne {A = A} {E = E} (Always Is)
always_one one (Ok a) (Ok b) is is_too = one a b is is_too
always_one one (Ok a) (Err f) is never = absurd never
always_one one (Err e) y never is_too = absurd never

-- a step, and the next, by what came of it
abbrev pub Then : {A B E : Type 0} → (Result A E → Type 0) → (A → Result B E → Type 0) → Result B E → Type 0
Then {A} {B} {E} First Next result = ((a : A) × First (Ok a) × Next a result) ⊎ ((e : E) × First (Err e) × (result ≡ Err e))

pub then_one : {A B E : Type 0} {First : Result A E → Type 0} {Next : A → Result B E → Type 0} → IsOne First → ((a : A) → IsOne (Next a)) → IsOne (Then First Next)
then_one {A} first next x y (inl (a, is, goes)) (inl (b, is_too, goes_too)) =
    let same : a ≡ b = first (Ok a) (Ok b) is is_too in
    next b x y (rw same at goes) goes_too
then_one first next x y (inl (a, is, goes)) (inr (f, is_too, ends)) = absurd (first (Ok a) (Err f) is is_too)
then_one first next x y (inr (e, is, ends)) (inl (b, is_too, goes)) = absurd (first (Err e) (Ok b) is is_too)
then_one first next x y (inr (e, is, ends)) (inr (f, is_too, ends_too)) = rw (ends, ends_too) (first (Err e) (Err f) is is_too)

-- a value that is whole, or, where that is asked, refused
abbrev pub Checked : {A E : Type 0} → A → (strict : Bool) → (Whole : Type 0) → (Refused : E → Type 0) → Result A E → Type 0
Checked a strict Whole Refused (Ok b) = (b ≡ a) × (strict ≡ true → Whole)
Checked a strict Whole Refused (Err e) = (strict ≡ true) × Refused e

pub checked_one : {A E : Type 0} (a : A) (strict : Bool) {Whole : Type 0} {Refused : E → Type 0} → ((e : E) → Whole → Refused e → ⊥)
    → ((e f : E) → Refused e → Refused f → e ≡ f) → IsOne (Checked a strict Whole Refused)
checked_one a strict never one (Ok x) (Ok y) is is_too = is.0 ∙ sym is_too.0
checked_one a strict never one (Ok x) (Err f) is is_too = absurd (never f (is.1 is_too.0) is_too.1)
checked_one a strict never one (Err e) (Ok y) is is_too = absurd (never e (is_too.1 is.0) is.1)
checked_one a strict never one (Err e) (Err f) is is_too = one e f is.1 is_too.1

-- of the input on a side
abbrev pub At : {A : Type 0} → Side → (Result A InputFault → Type 0) → Result A RunFault → Type 0
At side Comes (Ok a) = Comes (Ok a)
At side Comes (Err fault) = (of_input : InputFault) × (fault ≡ run_faults.Input side of_input) × Comes (Err of_input)

pub at_one : {A : Type 0} (side : Side) {Comes : Result A InputFault → Type 0} → IsOne Comes → IsOne (At side Comes)
at_one side one (Ok a) (Ok b) is is_too = one (Ok a) (Ok b) is is_too
at_one side one (Ok a) (Err h) is (g, at, is_too) = absurd (one (Ok a) (Err g) is is_too)
at_one side one (Err e) (Ok b) (f, at, is) is_too = absurd (one (Err f) (Ok b) is is_too)
at_one side one (Err e) (Err h) (f, at, is) (g, at_too, is_too) = at ∙ ap (λ (i : InputFault). run_faults.Input side i) (one (Err f) (Err g) is is_too) ∙ sym at_too
