-- The first pair by destination, then source, is the least.
use Rattle.std.proofs.Common.{◌≡◌, ℕ, ◌<◌, ◌^◌, sym, subst, rules}
use Rattle.babel_prefix.specs.Address.{Address}
use Rattle.babel_prefix.specs.Width.{width_of}
use Rattle.babel_trie.specs.Boxes.{IsLeastDifference}
use Rattle.babel_trie.specs.Differs.{AgreeBelowBoth, DifferFirstAt}
use Rattle.babel_trie.specs.Runs.{HasRuns}
use Rattle.babel_trie.proofs.DifferLaws.{least_from_first}
use Rattle.babel_trie.proofs.apart.Table+Option+V.least_difference.Goals as goal

pub returns-in_err-dst-clause-least : goal.returns-in_err-dst-clause-least
returns-in_err-dst-clause-least g c f f' p q =
    let here = subst (λ (n : ℕ). HasRuns n c.args.self.now.nodes.items c.args.left.now f) (sym c.width.ensures) p in
    let there = subst (λ (n : ℕ). HasRuns n c.args.other.now.nodes.items c.args.right.now f') (sym c.width.ensures) q in
    let same = subst (λ (n : ℕ). AgreeBelowBoth (2 ^ n) (2 ^ n) f f') c.width.ensures (c.in_err-dst.ensures f f' here there) in
    rw c.from_residual.ensures (λ d s d_in s_in. same d d_in s s_in)

pub unwrap-dst-requires : goal.unwrap-dst-requires
unwrap-dst-requires g c =
    let p = c.requires.left in
    let q = c.requires.right in
    let here = subst (λ (n : ℕ). HasRuns n c.args.self.now.nodes.items c.args.left.now p.0) (sym c.width.ensures) p.1 in
    let there = subst (λ (n : ℕ). HasRuns n c.args.other.now.nodes.items c.args.right.now q.0) (sym c.width.ensures) q.1 in
    c.new.ensures.fits.1 (subst (λ (n : ℕ). c.in_ok-dst.dst < 2 ^ n) c.width.ensures (c.in_ok-dst.ensures p.0 q.0 here there).in_range)

pub unwrap-src-requires : goal.unwrap-src-requires
unwrap-src-requires g c =
    let p = c.requires.left in
    let q = c.requires.right in
    let here = subst (λ (n : ℕ). HasRuns n c.args.self.now.nodes.items c.args.left.now p.0) (sym c.width.ensures) p.1 in
    let there = subst (λ (n : ℕ). HasRuns n c.args.other.now.nodes.items c.args.right.now q.0) (sym c.width.ensures) q.1 in
    c.new-2.ensures.fits.1 (subst (λ (n : ℕ). c.in_ok-dst.src < 2 ^ n) c.width.ensures (c.in_ok-dst.ensures p.0 q.0 here there).differ.in_range)

pub returns-clause-least : goal.returns-clause-least
returns-clause-least g c f f' p q =
    let w = width_of c.args.family in
    let here = subst (λ (n : ℕ). HasRuns n c.args.self.now.nodes.items c.args.left.now f) (sym c.width.ensures) p in
    let there = subst (λ (n : ℕ). HasRuns n c.args.other.now.nodes.items c.args.right.now f') (sym c.width.ensures) q in
    let first = subst (λ (n : ℕ). DifferFirstAt (2 ^ n) (2 ^ n) f f' (c.in_ok-dst.dst, c.in_ok-dst.src)) c.width.ensures (c.in_ok-dst.ensures f f' here there) in
    let dst : c.unwrap-dst.result ≡ record { family = c.args.family; bits = c.in_ok-dst.dst } = search rules in
    let src : c.unwrap-src.result ≡ record { family = c.args.family; bits = c.in_ok-dst.src } = search rules in
    let P : Address → Address → Type 0 = λ x y. IsLeastDifference w f f' x.bits y.bits in
    subst (λ x. P x c.unwrap-src.result) (sym dst) (subst (P (record { family = c.args.family; bits = c.in_ok-dst.dst })) (sym src) (least_from_first w f f' (c.in_ok-dst.dst, c.in_ok-dst.src) first))
