use Rattle.std.proofs.Common.{rules}
use Rattle.std.proofs.lemmas.Result.{err_from_is_err_and}
use Rattle.babel_dump.specs.Given.{read_from}
use Rattle.babel_dump.proofs.FedTables.{gave_answer, unread_answer}
use Rattle.babel_dump.proofs.input.look_up.Goals as goal

pub returns : goal.returns
returns g c =
    let reader = read_from (g.R.ByteIn.state c.args.reader.now) (g.R.ByteIn.state c.read_fed.new.reader) c.args.reading in
    let has = c.in_ok-answer.ensures.ok reader c.in_ok-fed.ensures.made in
    record {
      made = (
        gave_answer reader c.in_ok-fed.fed c.args.pair.now.dst c.args.pair.now.src c.in_ok-answer.answer has c.in_ok-refuse_unread.ensures.whole,
        c.in_ok-fed.ensures.made.notes,
      );
      cause = tt;
      called = search rules;
    }

pub returns-in_err-refuse_unread : goal.returns-in_err-refuse_unread
returns-in_err-refuse_unread g c =
    let reader = read_from (g.R.ByteIn.state c.args.reader.now) (g.R.ByteIn.state c.read_fed.new.reader) c.args.reading in
    let has = c.in_ok-answer.ensures.ok reader c.in_ok-fed.ensures.made in
    let exit = err_from_is_err_and c.from_residual-in_err-refuse_unread.result c.from_residual-in_err-refuse_unread.ensures.1 in
    let unread = c.in_err-refuse_unread.ensures.unread in
    record {
      made = search rules;
      cause = rw (exit.1, exit.2) (unread_answer reader c.in_ok-fed.fed c.args.pair.now.dst c.args.pair.now.src c.in_ok-answer.answer _ _ has unread.0 unread.1);
      called = search rules;
    }
