use Rattle.std.proofs.Common.{rules, subst}
use Rattle.std.proofs.lemmas.Result.{err_from_is_err_and}
use Rattle.babel_table.specs.Counts.{Counts}
use Rattle.babel_dump.specs.Strict.{IsNotReadWhole, IsReadWhole}
use Rattle.babel_dump.specs.Given.{read_from}
use Rattle.babel_dump.proofs.FedTables.{gave_table, gave_unread}
use Rattle.babel_dump.proofs.input.read_table.Goals as goal

pub returns : goal.returns
returns g c =
    let reader = read_from (g.R.ByteIn.state c.args.reader.now) (g.R.ByteIn.state c.read_fed.new.reader) c.args.reading in
    let fed = c.in_ok-fed.fed in
    let has = c.in_ok-table.ensures.ok reader c.in_ok-fed.ensures.made in
    record {
      made = (gave_table reader fed c.in_ok-table.table has (λ strict. subst (IsReadWhole fed.left_out) c.report.ensures (c.in_ok-refuse_unread.ensures.whole strict)), c.in_ok-fed.ensures.made.notes);
      cause = tt;
      called = search rules;
    }

pub returns-in_err-refuse_unread : goal.returns-in_err-refuse_unread
returns-in_err-refuse_unread g c =
    let reader = read_from (g.R.ByteIn.state c.args.reader.now) (g.R.ByteIn.state c.read_fed.new.reader) c.args.reading in
    let fed = c.in_ok-fed.fed in
    let has = c.in_ok-table.ensures.ok reader c.in_ok-fed.ensures.made in
    let exit = err_from_is_err_and c.from_residual-in_err-refuse_unread.result c.from_residual-in_err-refuse_unread.ensures.1 in
    let unread = c.in_err-refuse_unread.ensures.unread in
    record {
      made = search rules;
      cause = rw (exit.1, exit.2) (gave_unread reader fed c.in_ok-table.table has _ _ unread.0 (subst (λ (r : Counts). IsNotReadWhole fed.left_out r c.in_err-refuse_unread.field-0.0) c.report.ensures unread.1));
      called = search rules;
    }
