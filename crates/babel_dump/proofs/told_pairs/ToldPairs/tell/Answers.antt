use Rattle.std.proofs.Common.{List, ℕ, sym, subst, ◌∙◌}
use Rattle.babel_dump.specs.PairsMade.{heard_in}
use Rattle.babel_dump.specs.ToldPairs.{IsPairTold, TellsAlone, TellsBoth}
use Rattle.babel_dump.specs.declared.fellows.Fellows.{Fellows}
use Rattle.babel_dump.specs.declared.run_fault.Side.TheVariants as sides
use Rattle.babel_dump.proofs.PairsMade.{on_ok, tells_after}
use Rattle.babel_dump.proofs.told_pairs.ToldPairs.tell.Goals as goal

pub returns-in_ok-fellow-in-Both-clause-told : goal.returns-in_ok-fellow-in-Both-clause-told
returns-in_ok-fellow-in-Both-clause-told c =
    let pairs = c.args.pairs.now in
    let table = c.in_ok-table-in-Both in
    let fellow = c.in_ok-fellow-in-Both in
    on_ok c.tell_both.result c.tell_both.ensures (λ more. tells_after c.args.self.now _ c.tell_both.new.self _ _ (fellow.ensures.same.0 ∙ table.ensures.same.0) (fellow.ensures.same.1 ∙ table.ensures.same.1)
    (λ lines status are made other_made whole has other_whole other_has.
    subst (λ (f : Fellows). IsPairTold pairs (heard_in c.args.read.now made) (heard_in c.args.other_read.now other_made) f lines status) (sym c.in-Both.is) (
      table.table,
      fellow.fellow,
      table.ensures.own made whole (has c.in-Both.left _ c.in_ok-taken-in-Both.ensures.there),
      fellow.ensures.own other_made other_whole (other_has c.in-Both.right _ c.in_ok-taken-in-Both-2.ensures.there),
      subst (λ (n : List ℕ). TellsBoth pairs c.in-Both.left c.in-Both.right n table.table fellow.fellow lines status) c.name.ensures are,
    )) more)

pub returns-in_ok-table-in-Left-clause-told : goal.returns-in_ok-table-in-Left-clause-told
returns-in_ok-table-in-Left-clause-told c =
    let pairs = c.args.pairs.now in
    let table = c.in_ok-table-in-Left in
    on_ok c.tell_alone.result c.tell_alone.ensures (λ more. tells_after c.args.self.now _ c.tell_alone.new.self _ _ table.ensures.same.0 table.ensures.same.1
    (λ lines status are made other_made whole has other_whole other_has.
    subst (λ (f : Fellows). IsPairTold pairs (heard_in c.args.read.now made) (heard_in c.args.other_read.now other_made) f lines status) (sym c.in-Left.is) (
      table.table,
      table.ensures.own made whole (has c.in-Left.origin _ c.in_ok-taken-in-Left.ensures.there),
      subst (λ (n : List ℕ). TellsAlone pairs sides.First c.in-Left.origin n table.table lines status) c.name-in-Left.ensures are,
    )) more)

pub returns-in_ok-table-in-Right-clause-told : goal.returns-in_ok-table-in-Right-clause-told
returns-in_ok-table-in-Right-clause-told c =
    let pairs = c.args.pairs.now in
    let table = c.in_ok-table-in-Right in
    on_ok c.tell_alone-in-Right.result c.tell_alone-in-Right.ensures (λ more. tells_after c.args.self.now _ c.tell_alone-in-Right.new.self _ _ table.ensures.same.0 table.ensures.same.1
    (λ lines status are made other_made whole has other_whole other_has.
    subst (λ (f : Fellows). IsPairTold pairs (heard_in c.args.read.now made) (heard_in c.args.other_read.now other_made) f lines status) (sym c.in-Right.is) (
      table.table,
      table.ensures.own other_made other_whole (other_has c.in-Right.origin _ c.in_ok-taken-in-Right.ensures.there),
      subst (λ (n : List ℕ). TellsAlone pairs sides.Other c.in-Right.origin n table.table lines status) c.name-in-Right.ensures are,
    )) more)
