use Rattle.std.specs.Prelude.{IfOk}
use Rattle.std.proofs.lemmas.Result.{IfErr-weaker, IfOk-weaker}
use Rattle.babel_canon.specs.Sent.{sent}
use Rattle.babel_canon.specs.Normalises.{Normalises, as_they_are}
use Rattle.babel_canon.proofs.AnswersTell.{answers_are_told}
use Rattle.babel_canon.proofs.Fewest.{says_fewest}
use Rattle.babel_canon.proofs.Headline.{headline}
use Rattle.babel_canon.proofs.Views.{all_faults, all_normalises}
use Rattle.babel_canon.proofs.normal_form.normalise.Goals as goal
use Rattle.babel_canon.proofs.normal_form.normalise.Goals.{After-normalise_under}

-- what is answered under the view that keeps all is the canonical form
normal : (c : After-normalise_under) → IfOk c.normalise_under.result (λ text. Normalises as_they_are c.args.limits c.args.mode c.args.body (sent c.args.sender c.args.dump.now) text.items)
normal c = IfOk-weaker c.normalise_under.result _ _
    (λ text under. (all_normalises c.args.limits c.args.mode c.args.body (sent c.args.sender c.args.dump.now) text.items).0 under) (rw c.all.ensures at c.normalise_under.ensures.ok)

pub returns-clause-ok : goal.returns-clause-ok
returns-clause-ok c = normal c

pub returns-clause-err : goal.returns-clause-err
returns-clause-err c = IfErr-weaker c.normalise_under.result _ _
    (all_faults c.args.limits c.args.mode (sent c.args.sender c.args.dump.now)) (rw c.all.ensures at c.normalise_under.ensures.err)

pub returns-clause-tells_apart : goal.returns-clause-tells_apart
returns-clause-tells_apart c = IfOk-weaker c.normalise_under.result _ _
    (λ text is. (headline c.args.limits c.args.mode c.args.body c.entries.ensures.valid c.octets.ensures.valid (sent c.args.sender c.args.dump.now) text.items is).0) (normal c)

pub returns-clause-reads_again : goal.returns-clause-reads_again
returns-clause-reads_again c = IfOk-weaker c.normalise_under.result _ _
    (λ text is. (headline c.args.limits c.args.mode c.args.body c.entries.ensures.valid c.octets.ensures.valid (sent c.args.sender c.args.dump.now) text.items is).1) (normal c)

pub returns-clause-answers_tell : goal.returns-clause-answers_tell
returns-clause-answers_tell c = IfOk-weaker c.normalise_under.result _ _
    (λ text is. answers_are_told c.args.limits c.args.mode c.args.body c.entries.ensures.valid c.octets.ensures.valid (sent c.args.sender c.args.dump.now) text.items is) (normal c)

pub returns-clause-fewest : goal.returns-clause-fewest
returns-clause-fewest c = IfOk-weaker c.normalise_under.result _ _
    (λ text is. says_fewest as_they_are c.args.limits c.args.mode c.args.body (sent c.args.sender c.args.dump.now) text.items is) (normal c)
