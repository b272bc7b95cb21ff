-- The table is that of the sender's own packets.
use Rattle.std.proofs.Common.{◌≡◌, true, subst}
use Rattle.std.specs.Prelude.{None}
use Rattle.std.proofs.lemmas.Result.{err_from_is_err_and}
use Rattle.babel_table.specs.Counts.{Counts}
use Rattle.babel_dump.specs.Strict.{IsNotReadWhole, IsReadWhole}
use Rattle.babel_dump.proofs.OwnTexts.{own_fault, own_table, own_unread}
use Rattle.babel_dump.proofs.own_table.read_own.Goals as goal

pub returns-in_err-table-clause-err : goal.returns-in_err-table-clause-err
returns-in_err-table-clause-err c =
    let exit = err_from_is_err_and c.from_residual.result c.from_residual.ensures.1 in
    rw (exit.1, exit.2) (λ made origin whole fed. own_fault c.args.each.now made c.args.moment origin c.args.table whole fed c.in_err-table.field-0.0 c.in_err-table.ensures.fault)

pub returns-in_err-refuse_unread-clause-err : goal.returns-in_err-refuse_unread-clause-err
returns-in_err-refuse_unread-clause-err c =
    let exit = err_from_is_err_and c.from_residual-in_err-refuse_unread.result c.from_residual-in_err-refuse_unread.ensures.1 in
    let fault = c.in_err-refuse_unread.field-0.0 in
    rw (exit.1, exit.2) (λ made origin whole fed. own_unread c.args.each.now made c.args.moment origin c.in_ok-table.table fault
    (own_table c.args.each.now made c.args.moment origin c.args.table whole fed c.in_default.is c.what_expired-expired.result c.what_expired-expired.ensures c.in_ok-table.table
    c.in_ok-table.ensures.whole c.in_ok-table.ensures.at)
    (subst (λ (r : Counts). (c.args.each.now.strict ≡ true) × IsNotReadWhole None r fault) c.report.ensures c.in_err-refuse_unread.ensures.unread))

pub returns-clause-ok : goal.returns-clause-ok
returns-clause-ok c = λ made origin whole fed. (
  own_table c.args.each.now made c.args.moment origin c.args.table whole fed c.in_default.is c.what_expired-expired.result c.what_expired-expired.ensures c.in_ok-table.table
      c.in_ok-table.ensures.whole c.in_ok-table.ensures.at,
  λ strict. subst (λ (r : Counts). IsReadWhole None r) c.report.ensures (c.in_ok-refuse_unread.ensures.whole strict),
)
