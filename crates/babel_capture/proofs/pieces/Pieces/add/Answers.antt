-- What is kept of the others, and of the fragment.
use Rattle.std.proofs.Common.{rules, ◌≡◌, ◌+◌, arith, sym, subst}
use Rattle.std.specs.BTreeMap.{insert_entry}
use Rattle.std.specs.Ordering.{nat_cmp}
use Rattle.babel_capture.specs.Pieces.{KeptPieces, fragment_of, len_of, meeting, piece_of}
use Rattle.babel_capture.specs.declared.pieces.Meeting.TheVariants as meetings
use Rattle.babel_capture.proofs.PieceLaws.{kept-as, kept-fits, kept-len, or-last, or-not-last}
use Rattle.babel_capture.proofs.pieces.Pieces.add.Goals as goal

pub overflow_add-self : goal.overflow_add-self
overflow_add-self c =
    let fragment = fragment_of c.args.fragment.now in
    let apart = subst (λ (pieces : KeptPieces). meeting pieces fragment ≡ meetings.Apart) (sym c.self.view_is) c.requires.apart in
    let fits = kept-fits c.self.inside.by_offset.entries c.self.inside.len c.self.inside.end c.self.inside.has_last fragment.offset (piece_of fragment) c.self.invariant c.requires.fits apart in
    omega (arith, fits)

pub invariant_of-self-then-not-fragment : goal.invariant_of-self-then-not-fragment
invariant_of-self-then-not-fragment c =
    let fragment = fragment_of c.args.fragment.now in
    let apart = subst (λ (pieces : KeptPieces). meeting pieces fragment ≡ meetings.Apart) (sym c.self.view_is) c.requires.apart in
    let put : c.insert.new.self.entries ≡ insert_entry nat_cmp c.self.inside.by_offset.entries fragment.offset c.in_ok-piece.piece = search rules in
    kept-as c.self.inside.by_offset.entries c.self.inside.len c.self.inside.end c.self.inside.has_last fragment.offset (piece_of fragment) c.self.invariant c.requires.fits apart
    c.insert.new.self.entries c.in_ok-piece.piece _ _ put c.in_ok-piece.ensures c.max-self-inside.ensures (or-last c.self.inside.has_last fragment.more c.if-not-fragment.true)

pub invariant_of-self-else-not-fragment : goal.invariant_of-self-else-not-fragment
invariant_of-self-else-not-fragment c =
    let fragment = fragment_of c.args.fragment.now in
    let apart = subst (λ (pieces : KeptPieces). meeting pieces fragment ≡ meetings.Apart) (sym c.self.view_is) c.requires.apart in
    let put : c.insert.new.self.entries ≡ insert_entry nat_cmp c.self.inside.by_offset.entries fragment.offset c.in_ok-piece.piece = search rules in
    kept-as c.self.inside.by_offset.entries c.self.inside.len c.self.inside.end c.self.inside.has_last fragment.offset (piece_of fragment) c.self.invariant c.requires.fits apart
    c.insert.new.self.entries c.in_ok-piece.piece _ _ put c.in_ok-piece.ensures c.max-self-inside.ensures (or-not-last c.self.inside.has_last fragment.more c.if-not-fragment.false)

pub returns-then-not-fragment-clause-len : goal.returns-then-not-fragment-clause-len
returns-then-not-fragment-clause-len c =
    let fragment = fragment_of c.args.fragment.now in
    let apart = subst (λ (pieces : KeptPieces). meeting pieces fragment ≡ meetings.Apart) (sym c.self.view_is) c.requires.apart in
    let put : c.insert.new.self.entries ≡ insert_entry nat_cmp c.self.inside.by_offset.entries fragment.offset c.in_ok-piece.piece = search rules in
    subst (λ (pieces : KeptPieces). len_of c.insert.new.self.entries ≡ len_of pieces + fragment.len) c.self.view_is
    (kept-len c.self.inside.by_offset.entries c.self.inside.len c.self.inside.end c.self.inside.has_last fragment.offset (piece_of fragment) c.self.invariant c.requires.fits apart
    c.insert.new.self.entries c.in_ok-piece.piece put c.in_ok-piece.ensures)

pub returns-else-not-fragment-clause-len : goal.returns-else-not-fragment-clause-len
returns-else-not-fragment-clause-len c =
    let fragment = fragment_of c.args.fragment.now in
    let apart = subst (λ (pieces : KeptPieces). meeting pieces fragment ≡ meetings.Apart) (sym c.self.view_is) c.requires.apart in
    let put : c.insert.new.self.entries ≡ insert_entry nat_cmp c.self.inside.by_offset.entries fragment.offset c.in_ok-piece.piece = search rules in
    subst (λ (pieces : KeptPieces). len_of c.insert.new.self.entries ≡ len_of pieces + fragment.len) c.self.view_is
    (kept-len c.self.inside.by_offset.entries c.self.inside.len c.self.inside.end c.self.inside.has_last fragment.offset (piece_of fragment) c.self.invariant c.requires.fits apart
    c.insert.new.self.entries c.in_ok-piece.piece put c.in_ok-piece.ensures)
