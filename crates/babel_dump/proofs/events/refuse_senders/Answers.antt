use Rattle.std.proofs.Common.{None, refl, rules, subst, sym}
use Rattle.std.specs.Prelude.{Contains}
use Rattle.babel_dump.specs.EventsCause.{IsUnreadIn}
use Rattle.babel_dump.specs.Strict.{IsReadWhole}
use Rattle.babel_dump.specs.declared.events_outcome.HeardSender.{HeardSender}
use Rattle.babel_dump.proofs.EventCauses.{err_exit, left_out_of}
use Rattle.babel_dump.proofs.StrictLaws.{all_from, all_past}
use Rattle.babel_dump.proofs.events.refuse_senders.Goals as goal

pub loop-heard-init : goal.loop-heard-init
loop-heard-init c = λ strict all. all

pub loop-heard-preserved : goal.loop-heard-preserved
loop-heard-preserved c = λ strict later. c.loop-heard.invariant strict (
  later.0,
  all_from (λ (heard : HeardSender). IsReadWhole None heard.report) c.args.senders.now c.loop-heard.heard-index c.heard-item.result
      c.loop-heard-test.true c.heard-item.is (c.in_default.ensures.whole strict) later.1,
)

pub returns-clause-whole : goal.returns-clause-whole
returns-clause-whole c = λ strict. c.loop-heard.invariant strict (
  c.in_ok-refuse_left_out.ensures.none strict,
  all_past (λ (heard : HeardSender). IsReadWhole None heard.report) c.args.senders.now c.loop-heard.heard-index c.loop-heard-test.false,
)

pub returns-in_err-refuse_left_out-clause-unread : goal.returns-in_err-refuse_left_out-clause-unread
returns-in_err-refuse_left_out-clause-unread c =
    let first = c.in_err-refuse_left_out.ensures.first in
    err_exit c.from_residual.result c.from_residual.ensures.1 (λ trouble tells. (first.0, left_out_of c.args.report.now c.args.senders.now _ first.1 trouble tells first.2 first.3))

pub returns-in-Err-clause-unread : goal.returns-in-Err-clause-unread
returns-in-Err-clause-unread c =
    let has : Contains c.args.senders.now c.heard-item.result = search rules in (
      c.in-Err.ensures.unread.0,
      subst (IsUnreadIn c.args.report.now c.args.senders.now) (sym c.of_sender.ensures) (c.heard-item.result, has, refl, c.in-Err.ensures.unread.1),
    )
