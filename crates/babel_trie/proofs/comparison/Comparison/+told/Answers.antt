-- What tells the halves apart is joined.
use Rattle.std.proofs.Common.{◌-◌, ◌<◌, ◌≤◌, subst, arith, rules}
use Rattle.babel_trie.specs.Interned.{IsTrie}
use Rattle.babel_trie.specs.Shape.{height, IsReduced}
use Rattle.babel_trie.proofs.FormLaws.{IsTrie-grows}
use Rattle.babel_trie.proofs.HalfLaws.{halved, half_tries}
use Rattle.babel_trie.proofs.NumberLaws.{one_shape, Stands-grows, IsNormalLoose-grows}
use Rattle.babel_trie.proofs.TellLaws.{told_one, told_same, told_halves}
use Rattle.babel_trie.proofs.comparison.Comparison.+told.Goals as goal

pub returns-then-are_one-clause-told : goal.returns-then-are_one-clause-told
returns-then-are_one-clause-told g t c =
    let a = c.args in
    told_one a.table.now.nodes.items a.self.now.differences.nodes.items a.left.now a.right.now (c.are_one.ensures c.if-are_one.true)

pub returns-in-Some-clause-told : goal.returns-in-Some-clause-told
returns-in-Some-clause-told g t c =
    let a = c.args in
    let constants = c.in-Some.ensures.constants in
    told_same a.table.now.nodes.items a.self.now.differences.nodes.items a.left.now a.right.now c.in-Some.value c.in-Some.other c.told_apart.result constants.0 constants.1 c.told_apart.ensures

pub overflow_sub-bits : goal.overflow_sub-bits
overflow_sub-bits g t c = c.in_default.ensures.fork c.args.bits c.args.table.now.nodes.items c.args.table.now.nodes.items c.requires.left c.requires.right

pub told-requires : goal.told-requires
told-requires g t c κs within =
    let a = c.args in
    let nodes = a.table.now.nodes.items in
    let some : 0 < a.bits = c.in_default.ensures.fork a.bits nodes nodes c.requires.left c.requires.right in
    let falls : a.bits - 1 < t = omega (arith, c.decreases) in
    let lefts = half_tries a.bits nodes a.left.now _ _ some c.requires.left c.halves-left_low.ensures.one c.halves-left_low.ensures.node in
    let rights = half_tries a.bits nodes a.right.now _ _ some c.requires.right c.halves-right_low.ensures.one c.halves-right_low.ensures.node in
    let left : IsTrie (a.bits - 1) nodes c.halves-left_low.result.0 = lefts.0 in
    let right : IsTrie (a.bits - 1) nodes c.halves-right_low.result.0 = rights.0 in
    search rules

pub overflow_sub-bits-2 : goal.overflow_sub-bits-2
overflow_sub-bits-2 g t c = c.in_default.ensures.fork c.args.bits c.args.table.now.nodes.items c.args.table.now.nodes.items c.requires.left c.requires.right

pub told-requires-2 : goal.told-requires-2
told-requires-2 g t c κs within =
    let a = c.args in
    let nodes = a.table.now.nodes.items in
    let some : 0 < a.bits = c.in_default.ensures.fork a.bits nodes nodes c.requires.left c.requires.right in
    let falls : a.bits - 1 < t = omega (arith, c.decreases) in
    let lefts = half_tries a.bits nodes a.left.now _ _ some c.requires.left c.halves-left_low.ensures.one c.halves-left_low.ensures.node in
    let rights = half_tries a.bits nodes a.right.now _ _ some c.requires.right c.halves-right_low.ensures.one c.halves-right_low.ensures.node in
    let left : IsTrie (a.bits - 1) nodes c.halves-left_low.result.1 = lefts.1 in
    let right : IsTrie (a.bits - 1) nodes c.halves-right_low.result.1 = rights.1 in
    search rules

pub join-requires-clause-low : goal.join-requires-clause-low
join-requires-clause-low g t c =
    let a = c.args in
    let nodes = a.table.now.nodes.items in
    let some : 0 < a.bits = c.in_default.ensures.fork a.bits nodes nodes c.requires.left c.requires.right in
    let p = halved nodes a.left.now c.halves-left_low.result.0 c.halves-left_low.result.1 c.halves-left_low.ensures.one c.halves-left_low.ensures.node c.requires.left.trie c.requires.left.stands in
    let q = halved nodes a.right.now _ _ c.halves-right_low.ensures.one c.halves-right_low.ensures.node c.requires.right.trie c.requires.right.stands in
    let low = c.in_ok-low.ensures.told p.low_half q.low_half p.low_stands q.low_stands in
    let fits : height low.0 ≤ 127 = low.2.fits 127 (omega (arith, p.low_lower, c.requires.left.fits, c.requires.width)) (omega (arith, q.low_lower, c.requires.right.fits, c.requires.width)) in
    IsTrie-grows c.told.new.self.differences.nodes.items c.told-2.new.self.differences.nodes.items c.in_ok-high.ensures.keeps 127 c.in_ok-low.low
    (record { trie = low.0; stands = low.1; fits = fits; reduced = low.2.reduced })

pub join-requires-clause-high : goal.join-requires-clause-high
join-requires-clause-high g t c =
    let a = c.args in
    let nodes = a.table.now.nodes.items in
    let p = halved nodes a.left.now c.halves-left_low.result.0 c.halves-left_low.result.1 c.halves-left_low.ensures.one c.halves-left_low.ensures.node c.requires.left.trie c.requires.left.stands in
    let q = halved nodes a.right.now _ _ c.halves-right_low.ensures.one c.halves-right_low.ensures.node c.requires.right.trie c.requires.right.stands in
    let high = c.in_ok-high.ensures.told p.high_half q.high_half p.high_stands q.high_stands in
    let fits : height high.0 ≤ 127 = high.2.fits 127 (omega (arith, p.high_lower, c.requires.left.fits, c.requires.width)) (omega (arith, q.high_lower, c.requires.right.fits, c.requires.width)) in
    record { trie = high.0; stands = high.1; fits = fits; reduced = high.2.reduced }

pub join-requires-clause-low_normal : goal.join-requires-clause-low_normal
join-requires-clause-low_normal g t c =
    IsNormalLoose-grows c.told.new.self.differences.nodes.items c.told-2.new.self.differences.nodes.items c.in_ok-high.ensures.keeps c.in_ok-low.low c.in_ok-low.ensures.normal

pub returns-clause-told : goal.returns-clause-told
returns-clause-told g t c u v stands stands' =
    let a = c.args in
    let nodes = a.table.now.nodes.items in
    let nodes2 = c.told.new.self.differences.nodes.items in
    let nodes3 = c.told-2.new.self.differences.nodes.items in
    let p = halved nodes a.left.now c.halves-left_low.result.0 c.halves-left_low.result.1 c.halves-left_low.ensures.one c.halves-left_low.ensures.node u stands in
    let q = halved nodes a.right.now c.halves-right_low.result.0 c.halves-right_low.result.1 c.halves-right_low.ensures.one c.halves-right_low.ensures.node v stands' in
    let low = c.in_ok-low.ensures.told p.low_half q.low_half p.low_stands q.low_stands in
    let high = c.in_ok-high.ensures.told p.high_half q.high_half p.high_stands q.high_stands in
    let joined = c.in_ok-join.ensures.joins low.0 high.0 (Stands-grows nodes2 nodes3 c.in_ok-high.ensures.keeps c.in_ok-low.low low.0 low.1) high.1 in
    told_halves nodes c.join.new.self.nodes.items a.left.now a.right.now c.halves-left_low.result.0 c.halves-left_low.result.1 c.halves-right_low.result.0 c.halves-right_low.result.1
    c.join.new.whole u v low.0 high.0 p q
    (λ bits t_in u_in. c.in_default.ensures.fork bits nodes nodes
    (record {
      trie = u;
      stands = stands;
      fits = t_in;
      reduced =
          subst IsReduced (one_shape nodes a.left.now c.requires.left.trie u c.requires.left.stands stands) c.requires.left.reduced;
    })
    (record {
      trie = v;
      stands = stands';
      fits = u_in;
      reduced =
          subst IsReduced (one_shape nodes a.right.now c.requires.right.trie v c.requires.right.stands stands') c.requires.right.reduced;
    })) low.2 high.2 joined
