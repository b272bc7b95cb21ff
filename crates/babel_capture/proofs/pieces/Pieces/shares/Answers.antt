-- The last that begins before the fragment's end tells.
use Rattle.std.proofs.Common.{◌≡◌, ◌+◌, ℕ, false, sym, subst}
use Rattle.std.specs.Prelude.{nat_lt}
use Rattle.std.specs.List.{list_any}
use Rattle.babel_capture.specs.Pieces.{KeptPiece, KeptPieces, fragment_of, piece_of, share}
use Rattle.babel_capture.proofs.PieceLaws.{share-last, share-none}
use Rattle.babel_capture.proofs.pieces.Pieces.shares.Goals as goal

pub returns-in-None : goal.returns-in-None
returns-in-None c =
    let one : ℕ × KeptPiece = (c.args.fragment.now.offset, piece_of (fragment_of c.args.fragment.now)) in
    subst (λ (pieces : KeptPieces). false ≡ list_any (share one) pieces) c.self.view_is
    (sym (share-none one c.self.inside.by_offset.entries c.self.invariant.rising c.in-None.ensures.none))

pub returns-in-Some : goal.returns-in-Some
returns-in-Some c =
    let one : ℕ × KeptPiece = (c.args.fragment.now.offset, piece_of (fragment_of c.args.fragment.now)) in
    let some = c.in-Some.ensures.some in
    let ends : c.from-in-Some.result + c.from-in-Some-2.result ≡ c.in-Some.at + some.0.len = (let at = c.from-in-Some.ensures in let len = c.from-in-Some-2.ensures in let kept = some.3 in cc) in
    let told = share-last one c.self.inside.by_offset.entries c.self.invariant.rising c.self.invariant.apart c.in-Some.at some.0 some.1 some.2 c.in-Some.ensures.greatest in
    subst (λ (pieces : KeptPieces). nat_lt c.from.result (c.from-in-Some.result + c.from-in-Some-2.result) ≡ list_any (share one) pieces) c.self.view_is
    (rw (c.from.ensures, ends) told)
