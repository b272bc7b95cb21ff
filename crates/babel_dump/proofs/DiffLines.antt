-- The lines of `diff`, one after the other.
use Rattle.std.proofs.Common.{◌≡◌, ℕ, Bool, List, [], ◌∷◌, ◌++◌, flat_map, Result, Ok, Err}
use Rattle.std.proofs.Common.{ap, refl, subst, sym, ◌∙◌, append_assoc, append-nil}
use Rattle.babel_tlv.specs.declared.view.View.{View}
use Rattle.babel_canon.specs.declared.every_difference.Difference.{Difference}
use Rattle.babel_dump.specs.Device.{OutputState}
use Rattle.babel_dump.specs.DiffText.{change_text, marked_row}
use Rattle.babel_dump.specs.Run.{output}
use Rattle.babel_dump.specs.Slices.{Broke, Took, WroteFront}
use Rattle.babel_dump.specs.declared.run_fault.Side.TheVariants as sides
use Rattle.babel_dump.specs.declared.style.Style.{Style}
use Rattle.babel_dump.proofs.SenderLines.{broke_at_line, took_line, took_with}
use Rattle.babel_dump.proofs.SliceLaws.{broke_on, took_more}

-- the rows of the next difference come before those of the later ones
pub next_change : (style : Style) (coloured : Bool) (view : View) (left rest : List Difference) (x : Difference) → left ≡ x ∷ rest
    → flat_map (change_text style coloured view) left
    ≡ marked_row style coloured view sides.First x.key x.left ++ (marked_row style coloured view sides.Other x.key x.right ++ flat_map (change_text style coloured view) rest)
next_change style coloured view left rest x is =
    let rows = flat_map (change_text style coloured view) in
    ap rows is ∙ append_assoc (marked_row style coloured view sides.First x.key x.left) (marked_row style coloured view sides.Other x.key x.right) (rows rest)

-- the second of a difference's rows could not be written after the first
pub broke_second : (style : Style) (coloured : Bool) (view : View) (left rest : List Difference) (x : Difference) → left ≡ x ∷ rest → (a b c d : OutputState) (text had then : List ℕ)
    → Took (output a b) text (had ++ flat_map (change_text style coloured view) left) → Took (output b c) (had ++ marked_row style coloured view sides.First x.key x.left) then
    → Broke (output c d) (then ++ marked_row style coloured view sides.Other x.key x.right) → Broke (output a d) text
broke_second style coloured view left rest x is a b c d text had then took first broke =
    let second = marked_row style coloured view sides.Other x.key x.right in
    let later = flat_map (change_text style coloured view) rest in
    broke_at_line a c d text then (second ++ later) second later (took_line a b c text had then _ _ (second ++ later) took (next_change style coloured view left rest x is) first) refl broke

-- a row was put after what is left
pub took_row : (a b : OutputState) (had left row now : List ℕ) → Took (output a b) had left → now ≡ left ++ row → Took (output a b) (had ++ row) now
took_row a b had left row now took put = subst (λ (l : List ℕ). Took (output a b) (had ++ row) l) (sym put) (took_with (output a b) had left row took)

-- lines were written after the heads
pub wrote_after : {T E : Type 0} (a b c : OutputState) (heads lines left : List ℕ) (r : Result T E) → Took (output a b) heads []
    → WroteFront (output b c) lines left r → WroteFront (output a c) (heads ++ lines) left r
wrote_after a b c heads lines left (Ok t) first next =
    let moved = subst (λ (l : List ℕ). Took (output a b) (heads ++ lines) l) (sym (append-nil lines)) (took_with (output a b) heads [] lines first) in
    subst (λ (l : List ℕ). Took (output a c) (heads ++ lines) l) (append-nil left) (took_more a b c (heads ++ lines) lines left [] moved next)
wrote_after a b c heads lines left (Err e) first next =
    let moved = subst (λ (l : List ℕ). Took (output a b) (heads ++ lines) l) (sym (append-nil lines)) (took_with (output a b) heads [] lines first) in
    broke_on a b c (heads ++ lines) lines [] moved next
