use Rattle.std.proofs.Common.{◌≡◌, false, true, inl, inr, refl}
use Rattle.babel_dump.proofs.StartLaws.{nothing_behind}
use Rattle.babel_dump.proofs.follower.put_refused.Goals as goal

pub returns-then-is_memory-clause-behind : goal.returns-then-is_memory-clause-behind
returns-then-is_memory-clause-behind c = nothing_behind _ _ refl _

pub returns-then-is_memory-clause-why : goal.returns-then-is_memory-clause-why
returns-then-is_memory-clause-why c = inr refl

pub returns-in-Ok-clause-behind : goal.returns-in-Ok-clause-behind
returns-in-Ok-clause-behind c = (c.args.told.now, c.in-Ok.ensures.items, λ memory. absurd (let both : false ≡ true = c.if-is_memory.ensures.1 memory in cc))

pub returns-in-Ok-clause-why : goal.returns-in-Ok-clause-why
returns-in-Ok-clause-why c = inr refl

pub returns-in-Err-clause-behind : goal.returns-in-Err-clause-behind
returns-in-Err-clause-behind c = nothing_behind _ _ c.in-Err.ensures.items _

pub returns-in-Err-clause-why : goal.returns-in-Err-clause-why
returns-in-Err-clause-why c = inl refl
