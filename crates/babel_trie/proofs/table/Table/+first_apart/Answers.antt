-- Two constants differ at the first address or nowhere; else the lower halves are looked at before the upper.
use Rattle.std.proofs.Common.{◌≡◌, ◌-◌, ◌^◌, ◌<◌, sym, ◌∙◌, subst, arith, rules}
use Rattle.std.proofs.lemmas.Bool.{false≢true}
use Rattle.babel_trie.specs.Differs.{DifferFirst, IsFirstDifference}
use Rattle.babel_trie.specs.Interned.{IsTrie}
use Rattle.babel_trie.specs.Shape.{value_at}
use Rattle.babel_trie.proofs.DifferLaws.{agree_at_leaves, agree_in_one, differ_at_leaves, sides, in_both, differ_low, differ_high, in_width}
use Rattle.babel_trie.proofs.HalfLaws.{halved, half_tries}
use Rattle.babel_trie.proofs.table.Table.+first_apart.Goals as goal

pub overflow_sub-bits : goal.overflow_sub-bits
overflow_sub-bits g t c = c.in_default.ensures.fork c.args.bits c.args.self.now.nodes.items c.args.other.now.nodes.items c.requires.trie c.requires.other_trie

pub first_apart-requires : goal.first_apart-requires
first_apart-requires g t c κs within =
    let a = c.args in
    let some : 0 < a.bits = c.in_default.ensures.fork a.bits a.self.now.nodes.items a.other.now.nodes.items c.requires.trie c.requires.other_trie in
    let falls : a.bits - 1 < t = omega (arith, c.decreases) in
    let own = half_tries a.bits a.self.now.nodes.items a.whole _ _ some c.requires.trie c.halves.ensures.one c.halves.ensures.node in
    let theirs = half_tries a.bits a.other.now.nodes.items a.other_whole _ _ some c.requires.other_trie c.halves-2.ensures.one c.halves-2.ensures.node in
    let left : IsTrie (a.bits - 1) a.self.now.nodes.items c.halves.result.0 = own.0 in
    let right : IsTrie (a.bits - 1) a.other.now.nodes.items c.halves-2.result.0 = theirs.0 in
    search rules

pub overflow_sub-bits-2 : goal.overflow_sub-bits-2
overflow_sub-bits-2 g t c = c.in_default.ensures.fork c.args.bits c.args.self.now.nodes.items c.args.other.now.nodes.items c.requires.trie c.requires.other_trie

pub first_apart-requires-2 : goal.first_apart-requires-2
first_apart-requires-2 g t c κs within =
    let a = c.args in
    let some : 0 < a.bits = c.in_default.ensures.fork a.bits a.self.now.nodes.items a.other.now.nodes.items c.requires.trie c.requires.other_trie in
    let falls : a.bits - 1 < t = omega (arith, c.decreases) in
    let own = half_tries a.bits a.self.now.nodes.items a.whole _ _ some c.requires.trie c.halves.ensures.one c.halves.ensures.node in
    let theirs = half_tries a.bits a.other.now.nodes.items a.other_whole _ _ some c.requires.other_trie c.halves-2.ensures.one c.halves-2.ensures.node in
    let left : IsTrie (a.bits - 1) a.self.now.nodes.items c.halves.result.1 = own.1 in
    let right : IsTrie (a.bits - 1) a.other.now.nodes.items c.halves-2.result.1 = theirs.1 in
    search rules

pub in_upper_half-requires-clause-some : goal.in_upper_half-requires-clause-some
in_upper_half-requires-clause-some g t c = c.in_default.ensures.fork c.args.bits c.args.self.now.nodes.items c.args.other.now.nodes.items c.requires.trie c.requires.other_trie

pub in_upper_half-requires-clause-room : goal.in_upper_half-requires-clause-room
in_upper_half-requires-clause-room g t c =
    let a = c.args in
    let p = halved c.args.self.now.nodes.items c.args.whole c.halves.result.0 c.halves.result.1 c.halves.ensures.one c.halves.ensures.node c.requires.trie.trie c.requires.trie.stands in
    let q = halved c.args.other.now.nodes.items c.args.other_whole _ _ c.halves-2.ensures.one c.halves-2.ensures.node c.requires.other_trie.trie c.requires.other_trie.stands in
    let above : DifferFirst (2 ^ (a.bits - 1)) (value_at p.high_half (a.bits - 1)) (value_at q.high_half (a.bits - 1)) c.in_ok-at.at =
    c.in_ok-at.ensures p.high_half q.high_half p.high_stands q.high_stands in
    in_width a.bits c.in_ok-at.at (c.in_default.ensures.fork a.bits a.self.now.nodes.items a.other.now.nodes.items c.requires.trie c.requires.other_trie) c.requires.width above.in_range

pub returns-then-are_one_trie : goal.returns-then-are_one_trie
returns-then-are_one_trie g t c u v p q =
    let a = c.args in
    agree_in_one a.self.now.nodes.items a.other.now.nodes.items a.whole a.other_whole a.bits u v
    (c.requires.one (c.are_one_trie.ensures.one c.if-are_one_trie.true)) (c.are_one_trie.ensures.same c.if-are_one_trie.true) p q

pub returns-then-are_same : goal.returns-then-are_same
returns-then-are_same g t c u v p q =
    let a = c.args in
    agree_at_leaves a.self.now.nodes.items a.other.now.nodes.items a.whole a.other_whole a.bits _ _ c.in-Some.ensures.constants.0
    c.in-Some.ensures.constants.1 u v p q (c.are_same.ensures.0 c.if-are_same.true)

pub returns-else-are_same : goal.returns-else-are_same
returns-else-are_same g t c u v p q =
    let a = c.args in
    differ_at_leaves a.self.now.nodes.items a.other.now.nodes.items a.whole a.other_whole a.bits _ _ c.in-Some.ensures.constants.0 c.in-Some.ensures.constants.1 u v p q
    (λ e. false≢true (sym c.if-are_same.false ∙ c.are_same.ensures.1 e))

pub returns-in-Some-first_apart : goal.returns-in-Some-first_apart
returns-in-Some-first_apart g t c u v stands stands' =
    let p = halved c.args.self.now.nodes.items c.args.whole c.halves.result.0 c.halves.result.1 c.halves.ensures.one c.halves.ensures.node u stands in
    let q = halved c.args.other.now.nodes.items c.args.other_whole c.halves-2.result.0 c.halves-2.result.1 c.halves-2.ensures.one c.halves-2.ensures.node v stands' in
    differ_low (sides c.requires.trie c.requires.other_trie
    (λ b. c.in_default.ensures.fork b c.args.self.now.nodes.items c.args.other.now.nodes.items) stands stands' p q) c.in-Some-first_apart.at
    (c.in-Some-first_apart.ensures p.low_half q.low_half p.low_stands q.low_stands)

pub returns-in_err-at : goal.returns-in_err-at
returns-in_err-at g t c u v stands stands' =
    let a = c.args in
    let p = halved c.args.self.now.nodes.items c.args.whole c.halves.result.0 c.halves.result.1 c.halves.ensures.one c.halves.ensures.node u stands in
    let q = halved c.args.other.now.nodes.items c.args.other_whole c.halves-2.result.0 c.halves-2.result.1 c.halves-2.ensures.one c.halves-2.ensures.node v stands' in
    subst (IsFirstDifference (2 ^ a.bits) (value_at u a.bits) (value_at v a.bits)) (sym c.from_residual.ensures)
    (in_both (sides c.requires.trie c.requires.other_trie (λ b. c.in_default.ensures.fork b c.args.self.now.nodes.items c.args.other.now.nodes.items) stands stands' p q) (λ x y. x ≡ y)
    (c.in_default-first_apart.ensures p.low_half q.low_half p.low_stands q.low_stands) (c.in_err-at.ensures p.high_half q.high_half p.high_stands q.high_stands))

pub returns : goal.returns
returns g t c u v stands stands' =
    let a = c.args in
    let p = halved c.args.self.now.nodes.items c.args.whole c.halves.result.0 c.halves.result.1 c.halves.ensures.one c.halves.ensures.node u stands in
    let q = halved c.args.other.now.nodes.items c.args.other_whole c.halves-2.result.0 c.halves-2.result.1 c.halves-2.ensures.one c.halves-2.ensures.node v stands' in
    subst (DifferFirst (2 ^ a.bits) (value_at u a.bits) (value_at v a.bits)) (sym c.in_upper_half.ensures)
    (differ_high (sides c.requires.trie c.requires.other_trie (λ b. c.in_default.ensures.fork b c.args.self.now.nodes.items c.args.other.now.nodes.items) stands stands' p q) c.in_ok-at.at
    (c.in_default-first_apart.ensures p.low_half q.low_half p.low_stands q.low_stands) (c.in_ok-at.ensures p.high_half q.high_half p.high_stands q.high_stands))
