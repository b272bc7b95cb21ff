-- The text of groups, piece by piece.
use Rattle.std.proofs.Common.{◌≡◌, ℕ, zero, suc, ◌+◌, ◌*◌, ◌/◌, ◌%◌, ◌^◌, ◌<◌, ◌≤◌, List, false, [], ◌∷◌, ◌++◌, take, drop, refl, sym, ◌∙◌, ap, arith, inl, inr, ◌⊎◌, append_assoc, Some, None}
use Rattle.std.specs.Fmt.{digits}
use Rattle.std.proofs.lemmas.List.{append-nil}
use Rattle.babel_prefix.specs.declared.family.Family.{Family}
use Rattle.babel_prefix.specs.declared.family.Family.TheVariants.{V4, V6}
use Rattle.babel_prefix.specs.declared.gap.Gap.{Gap}
use Rattle.babel_prefix.specs.Address.{Address}
use Rattle.babel_prefix.specs.Short.{short, short_bits, gap_at, with_gap}
use Rattle.babel_prefix.specs.Text.{groups_from, groups_text, printed_bits}

pub all_groups : (k n : ℕ) → take k (groups_from k n) ≡ groups_from k n
all_groups zero n = refl
all_groups (suc k) n = ap (λ (gs : List ℕ). n / 2 ^ (16 * k) % 2 ^ 16 ∷ gs) (all_groups k n)

-- what follows a group
abbrev pub IsMark : ℕ → List ℕ → Type 0
IsMark left mark = ((left ≡ 0) × (mark ≡ [])) ⊎ ((0 < left) × (mark ≡ 58 ∷ []))

first_group : (left place n : ℕ) (mark : List ℕ) → left ≤ place → IsMark left mark →
    groups_text (take (suc left) (groups_from (suc place) n)) ≡ digits 16 false (n / 2 ^ (16 * place) % 2 ^ 16) ++ mark ++ groups_text (take left (groups_from place n))
first_group zero place n mark few (inl last) = sym (ap (λ (m : List ℕ). (digits 16 false (n / 2 ^ (16 * place) % 2 ^ 16) ++ m) ++ []) last.1 ∙ append-nil _ ∙ append-nil _)
first_group zero place n mark few (inr more) = absurd (omega (arith, more.0))
first_group (suc left) zero n mark few is = absurd (omega arith)
first_group (suc left) (suc place) n mark few (inl last) = absurd (omega (arith, last.0))
first_group (suc left) (suc place) n mark few (inr more) =
    let hex = digits 16 false (n / 2 ^ (16 * suc place) % 2 ^ 16) in
    let rest = groups_text (take (suc left) (groups_from (suc place) n)) in
    sym (ap (λ (m : List ℕ). (hex ++ m) ++ rest) more.1 ∙ append_assoc hex (58 ∷ []) rest)

-- a group and what follows it, after what is written
pub one_more : (p q all left n group : ℕ) (mark written whole : List ℕ) → p ≡ suc q → all ≡ suc left → left ≤ q → IsMark left mark → group ≡ n / 2 ^ (16 * q) % 2 ^ 16 →
    written ++ groups_text (take all (groups_from p n)) ≡ whole → (written ++ (digits 16 false group ++ mark)) ++ groups_text (take left (groups_from q n)) ≡ whole
one_more p q all left n group mark written whole at more few is g e =
    let rest = groups_text (take left (groups_from q n)) in
    let piece : (digits 16 false group ++ mark) ++ rest ≡ groups_text (take (suc left) (groups_from (suc q) n)) =
    ap (λ (m : ℕ). (digits 16 false m ++ mark) ++ rest) g ∙ sym (first_group left q n mark few is) in
    append_assoc written (digits 16 false group ++ mark) rest ∙ ap (λ (t : List ℕ). written ++ t) piece
    ∙ ap (λ (m : ℕ). written ++ groups_text (take m (groups_from (suc q) n))) (sym more)
    ∙ ap (λ (m : ℕ). written ++ groups_text (take all (groups_from m n))) (sym at) ∙ e

-- the last groups
drop-groups_from : (k m n : ℕ) → drop k (groups_from (k + m) n) ≡ groups_from m n
drop-groups_from zero m n = ap (λ (j : ℕ). groups_from j n) {x = 0 + m} {y = m} (omega arith)
drop-groups_from (suc k) m n = ap (λ (j : ℕ). drop (suc k) (groups_from j n)) {x = suc k + m} {y = suc (k + m)} (omega arith) ∙ drop-groups_from k m n

last_groups : (k m n : ℕ) → k + m ≡ 8 → take m (groups_from m n) ≡ drop k (groups_from 8 n)
last_groups k m n all = all_groups m n ∙ sym (drop-groups_from k m n) ∙ ap (λ (j : ℕ). drop k (groups_from j n)) all

-- the groups around a gap
gap_text : (f : Family) (n : ℕ) (gap : Gap) → Some gap ≡ gap_at f n → with_gap (groups_from 8 n) (Some gap) ≡ short_bits f n
gap_text V4 n gap e = cc
gap_text V6 n gap e = ap (with_gap (groups_from 8 n)) e

pub around : (a : Address) (gap : Gap) (left n : ℕ) → n ≡ a.bits → Some gap ≡ gap_at a.family a.bits → gap.start + gap.len + left ≡ 8 →
    groups_text (take gap.start (groups_from 8 n)) ++ 58 ∷ 58 ∷ groups_text (take left (groups_from left n)) ≡ short a
around a gap left n same found all =
    let before : ℕ → List ℕ = λ m. groups_text (take gap.start (groups_from 8 m)) in
    let after : List ℕ = groups_text (drop (gap.start + gap.len) (groups_from 8 a.bits)) in
    ap (λ (m : ℕ). before m ++ 58 ∷ 58 ∷ groups_text (take left (groups_from left m))) same
    ∙ ap (λ (gs : List ℕ). before a.bits ++ 58 ∷ 58 ∷ groups_text gs) (last_groups (gap.start + gap.len) left a.bits all)
    ∙ sym (append_assoc (before a.bits) (58 ∷ 58 ∷ []) after)
    ∙ gap_text a.family a.bits gap found

-- no gap: the text is the long one
pub no_gap : (f : Family) (n : ℕ) → None ≡ gap_at f n → printed_bits f n ≡ short_bits f n
no_gap V4 n e = refl
no_gap V6 n e = ap (with_gap (groups_from 8 n)) e
