-- The short text is the one that RFC 5952 recommends, and a text of the address.
use Rattle.std.proofs.Common.{◌≡◌, ℕ, ◌+◌, ◌^◌, ◌-◌, ◌<◌, List, [], ◌∷◌, ◌++◌, length, take, drop, replicate, refl, sym, ◌∙◌, ap, subst, arith, inl, inr, lt-ltb, le-ltb}
use Rattle.std.proofs.Common.{append_assoc, length-append, take-add, take-append-drop, length-take-le}
use Rattle.std.proofs.lemmas.Bool.{cases_lt}
use Rattle.std.proofs.lemmas.List.{take_at, drop_at, length-replicate}
use Rattle.std.proofs.NetLemmas.Texts.{IsZeroRun, IsZeroRun-longest_zero_run, longest_zero_run_first}
use Rattle.std.specs.Net.Text.{longest_zero_run}
use Rattle.std.specs.Int.Digits.{AllBelowBase, number_from_digits}
use Rattle.babel_prefix.specs.declared.family.Family.{Family}
use Rattle.babel_prefix.specs.declared.family.Family.TheVariants.{V4, V6}
use Rattle.babel_prefix.specs.Width.{width_of}
use Rattle.babel_prefix.specs.Address.{Address, IsAddress}
use Rattle.babel_prefix.specs.Text.{AddressText, FamilyText, GroupsText, groups_from, groups_text}
use Rattle.babel_prefix.specs.Short.{IsShortened, IsShortest, short, short_bits, short_groups}
use Rattle.babel_prefix.proofs.PrintLaws.{printed_bits-text, groups-text, groups_from-below, number-groups}
use Rattle.babel_prefix.proofs.TextLaws.{one_address}

-- a run of zeros among the groups
run_at : (gs xs ys : List ℕ) (m : ℕ) → gs ≡ xs ++ replicate m 0 ++ ys → IsZeroRun gs (length xs) m
run_at gs xs ys m e = (
  omega (arith, ap length e, length-append (xs ++ replicate m 0) ys, length-append xs (replicate m 0), length-replicate {A = ℕ} m 0),
  ap (λ (t : List ℕ). take m (drop (length xs) t)) (e ∙ append_assoc xs (replicate m 0) ys)
      ∙ ap (take m) (drop_at xs (replicate m 0 ++ ys) (length xs) refl) ∙ take_at (replicate m 0) ys m (length-replicate {A = ℕ} m 0),
)

shortened : (gs : List ℕ) → let run = longest_zero_run gs in 1 < run.1 → IsShortened gs (take run.0 gs) run.1 (drop (run.0 + run.1) gs)
shortened gs long =
    let run = longest_zero_run gs in
    let (within, zeros) = IsZeroRun-longest_zero_run gs in
    record {
      run = rw (← zeros, ← take-add run.0 run.1 gs) (sym (take-append-drop (run.0 + run.1) gs));
      two = omega arith;
      longest = λ xs ys m e. (longest_zero_run_first gs (length xs) m (run_at gs xs ys m e)).0;
      first = λ xs ys e. omega (arith, length-take-le run.0 gs (omega arith), (longest_zero_run_first gs (length xs) run.1 (run_at gs xs ys run.1 e)).1 refl);
    }

pub shortest : (gs : List ℕ) → IsShortest gs (short_groups gs)
shortest gs =
    let run = longest_zero_run gs in
    elim (cases_lt 1 run.1) [
      | inl long ↦ rw (lt-ltb 1 run.1 long) (inl (take run.0 gs, drop (run.0 + run.1) gs, run.1, shortened gs long, refl))
      | inr few ↦ rw (le-ltb 1 run.1 few) (inr (λ xs ys e. omega (arith, (longest_zero_run_first gs (length xs) 2 (run_at gs xs ys 2 e)).0), refl))
    ]

-- the short text of eight groups is a text of their number
below-parts : (xs ys : List ℕ) → AllBelowBase 65536 (xs ++ ys) → AllBelowBase 65536 xs × AllBelowBase 65536 ys
below-parts [] ys h = (tt, h)
below-parts (x ∷ xs) ys h = let parts = below-parts xs ys h.1 in ((h.0, parts.0), parts.1)

reads : (gs text : List ℕ) (n : ℕ) → length gs ≡ 8 → AllBelowBase 65536 gs → number_from_digits 65536 gs ≡ n → IsShortest gs text → FamilyText V6 text n
reads gs text n eight below number (inr (none, e)) = inl (gs, eight, subst (λ (t : List ℕ). GroupsText t gs) (sym e) (groups-text gs below), sym number)
reads gs text n eight below number (inl (left, right, m, s, e)) =
    let parts = below-parts (left ++ replicate m 0) right (subst (AllBelowBase 65536) s.run below) in
    let front = below-parts left (replicate m 0) parts.0 in
    let sum : length left + length right + m ≡ 8 =
    omega (arith, ap length s.run, length-append (left ++ replicate m 0) right, length-append left (replicate m 0), length-replicate {A = ℕ} m 0) in
    let all : left ++ replicate (8 - (length left + length right)) 0 ++ right ≡ gs = ap (λ (k : ℕ). left ++ replicate k 0 ++ right) (omega arith) ∙ sym s.run in
    inr (
      left,
      right,
      groups_text left,
      groups_text right,
      groups-text left front.0,
      groups-text right parts.1,
      omega (arith, s.two),
      e,
      sym (ap (number_from_digits 65536) all ∙ number),
    )

short_bits-text : (f : Family) (n : ℕ) → n < 2 ^ width_of f → FamilyText f (short_bits f n) n
short_bits-text V4 n small = printed_bits-text V4 n small
short_bits-text V6 n small = reads (groups_from 8 n) (short_groups (groups_from 8 n)) n refl (groups_from-below 8 n) (number-groups n small) (shortest (groups_from 8 n))

pub short-text : (a : Address) → IsAddress a → AddressText (short a) a
short-text a small = short_bits-text a.family a.bits small

-- so no two addresses have one
pub one_short : (a b : Address) → IsAddress a → IsAddress b → short a ≡ short b → a ≡ b
one_short a b h k e = one_address (short b) a b (subst (λ (t : List ℕ). AddressText t a) e (short-text a h)) (short-text b k)
