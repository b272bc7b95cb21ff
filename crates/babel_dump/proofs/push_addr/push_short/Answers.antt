-- The groups around the gap that was found, or the long text.
use Rattle.std.proofs.Common.{ℕ, List, [], ◌∷◌, ◌++◌, take, ◌-◌, ◌∙◌, ap, arith, append_assoc}
use Rattle.babel_prefix.specs.Text.{groups_from, groups_text}
use Rattle.babel_prefix.proofs.PieceLaws.{around}
use Rattle.babel_dump.proofs.push_addr.push_short.Goals as goal

pub returns-clause-text : goal.returns-clause-text
returns-clause-text c =
    let gap = c.in-Some.gap in
    let found = c.in-Some.ensures in
    let left = 8 - gap.start - gap.len in
    let bits = c.bits-bits.result in
    let old = c.args.buffer.now.items in
    let before = groups_text (take gap.start (groups_from 8 bits)) in
    let after = groups_text (take left (groups_from left bits)) in
    c.push_some-2.ensures.text ∙ ap (λ (t : List ℕ). t ++ after) (c.push_text.ensures.text ∙ ap (λ (t : List ℕ). t ++ 58 ∷ 58 ∷ []) c.push_some.ensures.text)
    ∙ append_assoc (old ++ before) (58 ∷ 58 ∷ []) after ∙ append_assoc old before (58 ∷ 58 ∷ after)
    ∙ ap (λ (t : List ℕ). old ++ t) (around c.args.addr gap left bits c.bits-bits.ensures.value found.value (omega (arith, found.within)))
