-- The rows of the key's family lose it, and the others stay.
use Rattle.std.proofs.Common.{◌≡◌, sym}
use Rattle.babel_prefix.specs.declared.family.Family.TheVariants.{V4, V6}
use Rattle.babel_table.proofs.KeptLaws.{of-remove, remove-v4, remove-v6}
use Rattle.babel_table.proofs.kept_rows.KeptRows.forget.Goals as goal

pub invariant_of-self : goal.invariant_of-self
invariant_of-self c = (rw c.forget.ensures (of-remove V4 _ c.self.inside.v4 c.self.invariant.0), c.self.invariant.1)

pub invariant_of-self-in-V6 : goal.invariant_of-self-in-V6
invariant_of-self-in-V6 c = (c.self.invariant.0, rw c.forget-in-V6.ensures (of-remove V6 _ c.self.inside.v6 c.self.invariant.1))

pub returns-in-V4 : goal.returns-in-V4
returns-in-V4 c =
    let is : c.args.key.now.dst.address.family ≡ V4 = cc in
    rw (← c.self.view_is, c.forget.ensures) (sym (remove-v4 c.args.key.now c.self.inside.v4 c.self.inside.v6 is c.self.invariant.1))

pub returns-in-V6 : goal.returns-in-V6
returns-in-V6 c =
    let is : c.args.key.now.dst.address.family ≡ V6 = cc in
    rw (← c.self.view_is, c.forget-in-V6.ensures) (sym (remove-v6 c.args.key.now c.self.inside.v4 c.self.inside.v6 is c.self.invariant.0))
