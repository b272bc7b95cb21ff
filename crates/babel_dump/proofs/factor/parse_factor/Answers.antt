-- The sum does not end at the greatest number, where it is a factor's.
use Rattle.std.proofs.Common.{◌≡◌, ℕ, Some, ap, ◌∙◌, arith}
use Rattle.babel_dump.proofs.WordLaws.{made}
use Rattle.babel_dump.proofs.factor.parse_factor.Goals as goal

pub returns-clause-reads : goal.returns-clause-reads
returns-clause-reads c = λ factor text.
    let read = c.in_ok-whole.ensures.reads text.whole text.units text.decimal (omega (arith, text.is, text.most)) in
    let whole : c.in_ok-whole.field-0.whole ≡ text.whole = cc in
    let units : c.in_ok-whole.field-0.units ≡ text.units = cc in
    let sum : c.saturating_add.result ≡ factor = omega (arith, c.saturating_add.ensures, c.saturating_mul.ensures, c.from.ensures, whole, units, text.is, text.most) in
    made c.new.result _ c.saturating_add.result c.new.ensures (omega (arith, sum, text.some), omega (arith, sum, text.most)) ∙ ap (λ (k : ℕ). Some k) sum
