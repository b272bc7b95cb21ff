use Rattle.std.proofs.Common.{◌≡◌, None, rules}
use Rattle.std.proofs.lemmas.Result.{IfErr-weaker, IfOk-weaker, err_from_is_err_and}
use Rattle.babel_dump.proofs.FedTables.{fed_fault, whole_answer}
use Rattle.babel_dump.proofs.input.answered.Goals as goal

pub returns-then-is_none-clause-ok : goal.returns-then-is_none-clause-ok
returns-then-is_none-clause-ok c =
    let none : c.args.fed.expired ≡ None = search rules in
    IfOk-weaker c.answer.result _ _ (λ answer told input is. whole_answer input c.args.fed c.args.pair.now.dst c.args.pair.now.src answer none told is) c.answer.ensures.ok

pub returns-then-is_none-clause-fault : goal.returns-then-is_none-clause-fault
returns-then-is_none-clause-fault c =
    IfErr-weaker c.answer.result _ _ (λ fault told not_memory input is. fed_fault input c.args.fed fault (told not_memory) is) c.answer.ensures.fault

pub returns-in_err-table-clause-fault : goal.returns-in_err-table-clause-fault
returns-in_err-table-clause-fault c =
    let exit = err_from_is_err_and c.from_residual.result c.from_residual.ensures.1 in
    rw (exit.1, exit.2) c.in_err-table.ensures.fault

pub returns-clause-ok : goal.returns-clause-ok
returns-clause-ok c input is =
    record { table = c.in_ok-table.table; gave = c.in_ok-table.ensures.ok input is; row = c.best.ensures.row; report = search rules }
