-- The first bits of both paths are the same.
use Rattle.std.proofs.Common.{◌+◌, ◌-◌, ◌/◌, ◌^◌, ◌≤◌, sym, ◌∙◌, ap, arith}
use Rattle.babel_trie.proofs.SharedLaws.{own_bits, other_bits, shifted_same, shared_start}
use Rattle.babel_trie.proofs.rows.Inner.shared.Goals as goal

pub returns-clause-own : goal.returns-clause-own
returns-clause-own c =
    let a = c.args in
    own_bits a.self.path a.bits a.self.bits c.min-least.result c.common_bits-differing.result c.in_ok-shared.shared
    (omega (arith, c.min-least.ensures)) (omega (arith, c.in_ok-shared.ensures.0, c.in_ok-shared.ensures.1))

pub overflow_add-result : goal.overflow_add-result
overflow_add-result c =
    let a = c.args in
    let shared = c.in_ok-shared.shared in
    let few : shared ≤ a.bits - a.self.bits = omega (arith, c.min-least.ensures, c.in_ok-shared.ensures.1) in
    let at = shared_start a.self.bits a.bits (a.bits - shared) a.self.path _ (omega (arith, few, c.requires.smaller))
    (omega (arith, few, c.if-shared-eq0.false, c.requires.smaller)) c.requires.path_in (returns-clause-own c) a.start c.requires.room in
    omega (arith, at.0, at.1)

pub returns-clause-other : goal.returns-clause-other
returns-clause-other c =
    let a = c.args in
    let least = c.min-least.result in
    let differing = c.common_bits-differing.result in
    let same = shifted_same (a.self.path / 2 ^ (a.bits - a.self.bits - least)) (a.path / 2 ^ (a.skip - least)) (2 ^ differing)
    (ap (λ n. n / 2 ^ differing) (sym c.min.ensures) ∙ c.common_bits-differing.ensures.same ∙ ap (λ n. n / 2 ^ differing) c.max.ensures) in
    same ∙ other_bits a.path a.bits a.skip least differing c.in_ok-shared.shared (omega (arith, c.min-least.ensures))
    (omega (arith, c.min-least.ensures)) (omega (arith, c.in_ok-shared.ensures.0, c.in_ok-shared.ensures.1))

pub returns-clause-start : goal.returns-clause-start
returns-clause-start c =
    let a = c.args in
    let shared = c.in_ok-shared.shared in
    let few : shared ≤ a.bits - a.self.bits = omega (arith, c.min-least.ensures, c.in_ok-shared.ensures.1) in
    let at = shared_start a.self.bits a.bits (a.bits - shared) a.self.path _ (omega (arith, few, c.requires.smaller))
    (omega (arith, few, c.if-shared-eq0.false, c.requires.smaller)) c.requires.path_in (returns-clause-own c) a.start c.requires.room in
    ap (λ n. a.start + n) at.0
