use Rattle.std.proofs.Common.{refl, rules}
use Rattle.std.proofs.lemmas.Result.{IfErr-weaker, IfOk-weaker}
use Rattle.babel_dump.proofs.FedTables.{IsTimed, fed_fault, timed_table, whole_table}
use Rattle.babel_dump.proofs.input.finished.Goals as goal

pub returns-in-Some-clause-ok : goal.returns-in-Some-clause-ok
returns-in-Some-clause-ok c =
    let at = c.in-Some.field-0 in
    IfOk-weaker c.finish_at.result (λ table. IsTimed c.args.fed.feeder table at.moment) _ (λ table told input is. timed_table input c.args.fed table at.moment at c.in-Some.is refl told is)
    (search rules)

pub returns-in-Some-clause-fault : goal.returns-in-Some-clause-fault
returns-in-Some-clause-fault c =
    IfErr-weaker c.finish_at.result _ _ (λ fault told not_memory input is. fed_fault input c.args.fed fault (told not_memory) is) c.finish_at.ensures.fault

pub returns-in-None-clause-ok : goal.returns-in-None-clause-ok
returns-in-None-clause-ok c = IfOk-weaker c.finish.result _ _ (λ table told input is. whole_table input c.args.fed table c.in-None.is told is) c.finish.ensures.ok

pub returns-in-None-clause-fault : goal.returns-in-None-clause-fault
returns-in-None-clause-fault c =
    IfErr-weaker c.finish.result _ _ (λ fault told not_memory input is. fed_fault input c.args.fed fault (told not_memory) is) c.finish.ensures.fault
