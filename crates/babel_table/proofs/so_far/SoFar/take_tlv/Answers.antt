-- What the state says of the TLV is taken, or makes the packet fail.
use Rattle.std.proofs.Common.{sym}
use Rattle.std.proofs.lemmas.Result.{err_from_is_err_and}
use Rattle.babel_tlv.specs.Frames.{tlv_value}
use Rattle.babel_tlv.specs.EventKinds.{event_of}
use Rattle.babel_table.specs.Feeding.{routes}
use Rattle.babel_table.proofs.TookLaws.{took-refused, tlv-taken, tlv-failed}
use Rattle.babel_table.proofs.HeardLaws.{told-taken}
use Rattle.babel_table.proofs.TimeLaws.{on_ok}
use Rattle.babel_table.proofs.so_far.SoFar.take_tlv.Goals as goal

pub returns-clause-ok : goal.returns-clause-ok
returns-clause-ok c = tlv-taken c.args.self.now.rows.mode c.args.self.now.rows.entries (routes c.args.self.now.rows.rows c.args.self.now.report) _ c.args.state.now _ (tlv_value c.args.tlv.now)
    (event_of c.in_ok-kind.kind c.step_into.new.route) c.take.result c.in_ok-kind.ensures.said c.in_ok-kind.ensures.state c.take.ensures.ok

pub returns-clause-fails : goal.returns-clause-fails
returns-clause-fails c = tlv-failed c.args.self.now.rows.mode c.args.self.now.rows.entries (routes c.args.self.now.rows.rows c.args.self.now.report)
    (routes c.args.self.now.rows.rows c.args.self.now.report) c.args.state.now c.args.state.now (tlv_value c.args.tlv.now)
    (event_of c.in_ok-kind.kind c.step_into.new.route) c.take.result c.in_ok-kind.ensures.said c.take.ensures.refused

pub returns-in_err-kind-clause-fails : goal.returns-in_err-kind-clause-fails
returns-in_err-kind-clause-fails c =
    let exit = err_from_is_err_and c.from_residual.result c.from_residual.ensures.1 in
    rw (exit.1, exit.2) (λ start old all left some. took-refused c.args.self.now.rows.mode c.args.self.now.rows.entries start old all
    (routes c.args.self.now.rows.rows c.args.self.now.report) c.args.state.now (tlv_value c.args.tlv.now) left
    c.in_err-kind.field-0.0 some (sym c.in_err-kind.ensures.said))

pub returns-clause-words : goal.returns-clause-words
returns-clause-words c = λ runs.
    told-taken c.args.self.now.rows.mode c.args.self.now.rows.factor c.take.result c.args.self.now.rows.when.time c.args.state.now
    (tlv_value c.args.tlv.now) (event_of c.in_ok-kind.kind c.step_into.new.route)
    c.args.self.now.rows.words _ c.in_ok-kind.ensures.said (c.take.ensures.words runs)

pub returns-clause-state : goal.returns-clause-state
returns-clause-state c = on_ok c.take.result _ c.in_ok-kind.ensures.state
