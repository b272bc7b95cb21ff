-- Each TLV is taken; behind one that fails, the rest of the body may still be no TLVs.
use Rattle.std.proofs.Common.{◌≡◌, ◌≤◌, [], rules, length, arith, refl, ap, ◌∙◌, inl, inr}
use Rattle.std.proofs.lemmas.Result.{err_from_is_err_and}
use Rattle.babel_tlv.specs.Framing.{tlvs_of}
use Rattle.babel_tlv.specs.Frames.{tlv_value}
use Rattle.babel_tlv.specs.Left.{tlvs_left}
use Rattle.babel_table.specs.Feeding.{routes}
use Rattle.babel_table.proofs.TookLaws.{took-start, body-failed, body-taken, length-tlvs_of}
use Rattle.babel_table.proofs.HeardLaws.{leads-begin, leads-end, leads-next, told-as}
use Rattle.babel_table.proofs.TimeLaws.{on_ok}
use Rattle.babel_table.proofs.so_far.SoFar.take_body.Goals as goal

pub loop-tlv-init : goal.loop-tlv-init
loop-tlv-init c = record {
  mode = refl;
  entries = refl;
  room = (let le : length (tlvs_left c.new-tlvs.result) ≤ length c.args.body.now = rw c.new-tlvs.ensures.left (length-tlvs_of c.args.at c.args.body.now) in omega arith);
  read = c.new-tlvs.ensures.start;
  some = took-start c.args.self.now.rows.mode c.args.self.now.rows.entries c.args.start.now (routes c.args.self.now.rows.rows c.args.self.now.report)
      (tlvs_of c.args.at c.args.body.now) c.at-state.result _ c.at-state.ensures c.new-tlvs.ensures.left;
  time = (refl, refl, refl);
  leads = λ runs. leads-begin c.args.self.now.rows.mode c.args.self.now.rows.factor c.args.self.now.rows.when.time c.args.start.now c.at-state.result
      (tlvs_of c.args.at c.args.body.now) _ c.args.self.now.rows.words
      c.at-state.ensures c.new-tlvs.ensures.left;
}

pub returns-in_err-check_rest-clause-fails : goal.returns-in_err-check_rest-clause-fails
returns-in_err-check_rest-clause-fails c =
    let exit = err_from_is_err_and c.from_residual.result c.from_residual.ensures.1 in
    let read = c.in-Some.ensures.read c.args.at c.args.body.now c.loop-tlv.invariant.read in
    rw (exit.1, exit.2) (inl (c.in_err-check_rest.ensures.past_end c.args.at c.args.body.now read))

pub returns-in-Err-clause-fails : goal.returns-in-Err-clause-fails
returns-in-Err-clause-fails c =
    let read = c.in-Some.ensures.read c.args.at c.args.body.now c.loop-tlv.invariant.read in
    inr (
      c.in_ok-check_rest.ensures.whole c.args.at c.args.body.now read,
      body-failed c.args.self.now.rows.mode c.loop-tlv.self.rows.mode c.args.self.now.rows.entries c.loop-tlv.self.rows.entries c.loop-tlv.invariant.mode
          c.loop-tlv.invariant.entries c.args.start.now _ _ (routes c.loop-tlv.self.rows.rows c.loop-tlv.self.report) c.loop-tlv.state (tlv_value c.in-Some.tlv) (tlvs_left c.loop-tlv.tlvs)
          (tlvs_left c.advance.new.self) c.in-Some.ensures.next c.in-Err.fault c.loop-tlv.invariant.some
          (c.in-Err.ensures.fails c.args.start.now _ _ _),
    )

pub loop-tlv-preserved : goal.loop-tlv-preserved
loop-tlv-preserved c = record {
  mode = c.take_tlv.ensures.mode ∙ c.loop-tlv.invariant.mode;
  entries = c.take_tlv.ensures.entries ∙ c.loop-tlv.invariant.entries;
  room = omega (arith, ap length c.in-Some.ensures.next, c.take_tlv.ensures.tlvs, c.loop-tlv.invariant.room);
  read = c.in-Some.ensures.read c.args.at c.args.body.now c.loop-tlv.invariant.read;
  some = body-taken c.args.self.now.rows.mode c.loop-tlv.self.rows.mode c.args.self.now.rows.entries c.loop-tlv.self.rows.entries
      c.loop-tlv.invariant.mode c.loop-tlv.invariant.entries c.args.start.now _ _
      (routes c.loop-tlv.self.rows.rows c.loop-tlv.self.report) c.loop-tlv.state (tlv_value c.in-Some.tlv) (tlvs_left c.loop-tlv.tlvs)
      (tlvs_left c.advance.new.self) c.in-Some.ensures.next _ _ c.loop-tlv.invariant.some
      (c.in_default-take_tlv.ensures.ok c.args.start.now _ _ _);
  time = (c.take_tlv.ensures.time.0 ∙ c.loop-tlv.invariant.time.0, c.take_tlv.ensures.time.1 ∙ c.loop-tlv.invariant.time.1, c.take_tlv.ensures.time.2 ∙ c.loop-tlv.invariant.time.2);
  leads = λ runs.
      let here = told-as _ _ _ _ _ _ c.loop-tlv.state (tlv_value c.in-Some.tlv) c.loop-tlv.self.rows.words c.take_tlv.new.self.rows.words c.loop-tlv.invariant.mode
      c.loop-tlv.invariant.time.1 c.loop-tlv.invariant.time.2 (c.in_default-take_tlv.ensures.words (c.loop-tlv.invariant.time.0 ∙ runs)) in
      leads-next c.args.self.now.rows.mode c.args.self.now.rows.factor c.args.self.now.rows.when.time c.args.start.now c.loop-tlv.state _
      (tlv_value c.in-Some.tlv) (tlvs_left c.loop-tlv.tlvs) (tlvs_left c.advance.new.self)
      c.loop-tlv.self.rows.words _ _ c.in-Some.ensures.next c.in_default-take_tlv.ensures.state here (c.loop-tlv.invariant.leads runs);
}

pub returns-in_err-check_rest-clause-time : goal.returns-in_err-check_rest-clause-time
returns-in_err-check_rest-clause-time c = (
  c.take_tlv.ensures.time.0 ∙ c.loop-tlv.invariant.time.0,
  c.take_tlv.ensures.time.1 ∙ c.loop-tlv.invariant.time.1,
  c.take_tlv.ensures.time.2 ∙ c.loop-tlv.invariant.time.2,
)

pub returns-in-Err-clause-time : goal.returns-in-Err-clause-time
returns-in-Err-clause-time c = (
  c.take_tlv.ensures.time.0 ∙ c.loop-tlv.invariant.time.0,
  c.take_tlv.ensures.time.1 ∙ c.loop-tlv.invariant.time.1,
  c.take_tlv.ensures.time.2 ∙ c.loop-tlv.invariant.time.2,
)

pub returns-clause-words : goal.returns-clause-words
returns-clause-words c =
    let none : tlvs_left c.loop-tlv.tlvs ≡ [] = search rules in λ runs. on_ok c.check_rest-2.result _
    (leads-end c.args.self.now.rows.mode c.args.self.now.rows.factor c.args.self.now.rows.when.time c.args.start.now c.loop-tlv.state (tlvs_left c.loop-tlv.tlvs)
    c.loop-tlv.self.rows.words _ none (c.loop-tlv.invariant.leads runs))
