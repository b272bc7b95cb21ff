-- The packet's body is TLVs, and the first of them that is ignored is the packet's.
use Rattle.std.proofs.Common.{inl, inr, subst, sym}
use Rattle.babel_dump.specs.EventsCause.{RefusesAlone}
use Rattle.babel_dump.proofs.EventCauses.{err_exit, if_err_so}
use Rattle.std.proofs.lemmas.Result.{IfOk-weaker}
use Rattle.babel_dump.proofs.UnreadTlvs.{first_of_packet}
use Rattle.babel_dump.proofs.unread_tlv.UnreadTlv.first.Goals as goal

pub returns-clause-first : goal.returns-clause-first
returns-clause-first c = IfOk-weaker c.first_in.result _ _
    (λ found. first_of_packet c.args.start.now c.args.at c.args.packet.now c.in-Whole.body.now found c.in-Whole.ensures.0 c.in_ok-check_body.ensures) c.first_in.ensures.first

pub returns-clause-refused : goal.returns-clause-refused
returns-clause-refused c = if_err_so c.first_in.result (λ fault refused. inr (inr (c.in-Whole.body.now, c.in-Whole.ensures.0, refused))) c.first_in.ensures.refused

pub returns-in_err-check_body-clause-refused : goal.returns-in_err-check_body-clause-refused
returns-in_err-check_body-clause-refused c =
    err_exit c.from_residual.result c.from_residual.ensures.1 (λ fault same. subst (RefusesAlone c.args.start.now c.args.at c.args.packet.now) (sym same)
    (inr (inl (inr (inr (c.in-Whole.body.now, c.in-Whole.ensures.0, c.in_err-check_body.ensures))))))
