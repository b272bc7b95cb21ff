use Rattle.std.proofs.Common.{◌≡◌, ℕ, ◌+◌, ◌≤◌, List, ◌++◌, rules, length, take, sym, ap, ◌∙◌, subst}
use Rattle.std.proofs.lemmas.List.{length-take-le, take-append-le}
use Rattle.std.proofs.Math.Seq.{take-append-add}
use Rattle.std.specs.Io.KnownBytes.{Consumes}
use Rattle.std.proofs.KnownBytes.{Consumes-trans}
use borrow.Rule.Slice.PartMut.{put_mid, post_of}
use Rattle.babel_dump.proofs.begun.read_first.Goals as goal

-- octets that were written at a place stand behind those before it
behind : (a k n : ℕ) (xs ys : List ℕ) → a ≤ length xs → n ≤ length ys → take (a + n) (put_mid a k xs ys) ≡ take a xs ++ take n ys
behind a k n xs ys within fits =
    let after = post_of a k xs in
    ap (λ (m : ℕ). take (m + n) (put_mid a k xs ys)) (sym (length-take-le a xs within))
    ∙ take-append-add (take a xs) (ys ++ after) n
    ∙ ap (λ (l : List ℕ). take a xs ++ l) (take-append-le n ys after fits)

pub loop-len-preserved : goal.loop-len-preserved
loop-len-preserved g c =
    let joined = behind c.loop-len.len _ c.in-Ok.n c.loop-len.first c.read.new.buf c.loop-len.invariant.0 c.in-Ok.ensures.bound.0 in
    (search rules, search rules, subst (Consumes _ _) (sym joined) (Consumes-trans _ _ _ _ _ c.loop-len.invariant.2 c.in-Ok.ensures.bytes.0))
