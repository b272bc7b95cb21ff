-- In the octets of the family.
use Rattle.std.proofs.Common.{sym, ◌∙◌}
use Rattle.babel_prefix.specs.declared.family.Family.TheVariants.{V4, V6}
use Rattle.babel_tlv.proofs.SharedOctets.{shared_in}
use Rattle.babel_tlv.proofs.group.shared_by.Goals as goal
use Rattle.babel_tlv.proofs.group.shared_by.Goals.{in-V4, in-V6}

pub returns : goal.returns
returns c =
    let last = c.args.last in
    let addr = c.args.addr in
    elim c.match-family.branch [
      | in-V4 w ↦
          let is = sym c.family.ensures ∙ w.in-V4.is in
          rw (w.zeros-is, c.bits.ensures.value, c.bits-2.ensures.value) (sym (shared_in V4 last addr (c.requires ∙ is) is c.bits.ensures.fits c.bits-2.ensures.fits))
      | in-V6 w ↦
          let is = sym c.family.ensures ∙ w.in-V6.is in
          rw (w.zeros-is, c.bits.ensures.value, c.bits-2.ensures.value) (sym (shared_in V6 last addr (c.requires ∙ is) is c.bits.ensures.fits c.bits-2.ensures.fits))
    ]
