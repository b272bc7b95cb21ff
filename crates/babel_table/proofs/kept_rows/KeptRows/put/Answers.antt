-- The rows of the key's family change, and the others stay.
use Rattle.std.proofs.Common.{◌≡◌}
use Rattle.babel_prefix.specs.declared.family.Family.TheVariants.{V4, V6}
use Rattle.babel_table.specs.Live.{kept}
use Rattle.babel_table.proofs.KeptLaws.{lookup-v4, lookup-v6, of-put, put-v4, put-v6, len-v4, len-v6}
use Rattle.babel_table.proofs.kept_rows.KeptRows.put.Goals as goal

pub invariant_of-self : goal.invariant_of-self
invariant_of-self c =
    let is : c.args.key.now.dst.address.family ≡ V4 = cc in
    (of-put c.put.result V4 c.args.key.now (kept c.args.held c.args.mark) c.self.inside.v4 c.put.new.self c.put.ensures.ok c.put.ensures.err is c.self.invariant.0, c.self.invariant.1)

pub invariant_of-self-in-V6 : goal.invariant_of-self-in-V6
invariant_of-self-in-V6 c =
    let is : c.args.key.now.dst.address.family ≡ V6 = cc in (
      c.self.invariant.0,
      of-put c.put-in-V6.result V6 c.args.key.now (kept c.args.held c.args.mark) c.self.inside.v6 c.put-in-V6.new.self
          c.put-in-V6.ensures.ok c.put-in-V6.ensures.err is c.self.invariant.1,
    )

pub returns-in-V4-clause-ok : goal.returns-in-V4-clause-ok
returns-in-V4-clause-ok c =
    let is : c.args.key.now.dst.address.family ≡ V4 = cc in
    rw (← c.self.view_is) (put-v4 c.put.result c.args.key.now (kept c.args.held c.args.mark) c.self.inside.v4 c.put.new.self c.self.inside.v6 is c.self.invariant.1 c.put.ensures.ok)

pub returns-in-V4-clause-len : goal.returns-in-V4-clause-len
returns-in-V4-clause-len c =
    let is : c.args.key.now.dst.address.family ≡ V4 = cc in
    rw (← c.self.view_is) (len-v4 c.put.result c.args.key.now c.self.inside.v4 c.put.new.self c.self.inside.v6 is c.self.invariant.1 c.put.ensures.len)

pub returns-in-V4-clause-room : goal.returns-in-V4-clause-room
returns-in-V4-clause-room c =
    let is : c.args.key.now.dst.address.family ≡ V4 = cc in
    rw (← c.self.view_is, lookup-v4 c.args.key.now c.self.inside.v4 c.self.inside.v6 is c.self.invariant.1) c.put.ensures.room

pub returns-in-V6-clause-room : goal.returns-in-V6-clause-room
returns-in-V6-clause-room c =
    let is : c.args.key.now.dst.address.family ≡ V6 = cc in
    rw (← c.self.view_is, lookup-v6 c.args.key.now c.self.inside.v4 c.self.inside.v6 is c.self.invariant.0) c.put-in-V6.ensures.room

pub returns-in-V4-clause-cause : goal.returns-in-V4-clause-cause
returns-in-V4-clause-cause c =
    let is : c.args.key.now.dst.address.family ≡ V4 = cc in
    rw (← c.self.view_is, lookup-v4 c.args.key.now c.self.inside.v4 c.self.inside.v6 is c.self.invariant.1) c.put.ensures.cause

pub returns-in-V6-clause-cause : goal.returns-in-V6-clause-cause
returns-in-V6-clause-cause c =
    let is : c.args.key.now.dst.address.family ≡ V6 = cc in
    rw (← c.self.view_is, lookup-v6 c.args.key.now c.self.inside.v4 c.self.inside.v6 is c.self.invariant.0) c.put-in-V6.ensures.cause

pub returns-in-V6-clause-ok : goal.returns-in-V6-clause-ok
returns-in-V6-clause-ok c =
    let is : c.args.key.now.dst.address.family ≡ V6 = cc in
    rw (← c.self.view_is) (put-v6 c.put-in-V6.result c.args.key.now (kept c.args.held c.args.mark) c.self.inside.v4 c.self.inside.v6 c.put-in-V6.new.self is c.self.invariant.0 c.put-in-V6.ensures.ok)

pub returns-in-V6-clause-len : goal.returns-in-V6-clause-len
returns-in-V6-clause-len c =
    let is : c.args.key.now.dst.address.family ≡ V6 = cc in
    rw (← c.self.view_is) (len-v6 c.put-in-V6.result c.args.key.now c.self.inside.v4 c.self.inside.v6 c.put-in-V6.new.self is c.self.invariant.0 c.put-in-V6.ensures.len)
