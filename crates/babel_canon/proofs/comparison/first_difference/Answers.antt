use Rattle.std.proofs.Common.{Option, subst}
use Rattle.std.proofs.lemmas.Result.{IfOk-weaker}
use Rattle.babel_prefix.specs.declared.family.Family.TheVariants.{V4, V6}
use Rattle.babel_prefix.specs.Address.{Address}
use Rattle.babel_canon.specs.FirstDifference.{IsFirstDifference, IsFirstInFamily, SameInFamily}
use Rattle.babel_canon.proofs.Verdicts.{difference_v4, difference_v6}
use Rattle.babel_canon.proofs.comparison.first_difference.Goals as goal

pub returns-in-None : goal.returns-in-None
returns-in-None c =
    let rows = c.args.left.now.rows in
    let others = c.args.right.now.rows in
    let v4 : SameInFamily V4 rows others = subst (λ (found : Option (Address × Address)). IsFirstInFamily V4 rows others found) c.in-None.is c.in_ok-found.ensures in
    IfOk-weaker c.family_difference-in-None.result (IsFirstInFamily V6 rows others) (IsFirstDifference rows others) (λ found. difference_v6 rows others found v4) c.family_difference-in-None.ensures

pub returns-in_default : goal.returns-in_default
returns-in_default c = difference_v4 c.args.left.now.rows c.args.right.now.rows c.in_ok-found.found c.in_default.not-None c.in_ok-found.ensures
