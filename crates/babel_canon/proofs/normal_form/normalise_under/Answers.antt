use Rattle.std.proofs.Common.{subst}
use Rattle.std.proofs.lemmas.Result.{err_from_is_err_and}
use Rattle.babel_table.specs.Rows.{Routes}
use Rattle.babel_canon.specs.Boxes.{AreBoxes}
use Rattle.babel_table.specs.Seen.{seen_rows}
use Rattle.babel_canon.specs.Sent.{sent}
use Rattle.babel_canon.specs.Normalises.{Normalises}
use Rattle.babel_canon.proofs.Normal.{of_dump_under, of_form_under}
use Rattle.babel_canon.proofs.Fewest.{says_fewest}
use Rattle.babel_canon.proofs.Views.{headline_under}
use Rattle.babel_canon.proofs.normal_form.normalise_under.Goals as goal
use Rattle.babel_canon.proofs.normal_form.normalise_under.Goals.{After-drop-seen-inside-7}

pub returns-in_err-table-clause-err : goal.returns-in_err-table-clause-err
returns-in_err-table-clause-err c =
    let exit = err_from_is_err_and c.from_residual.result c.from_residual.ensures.1 in
    rw (exit.1, exit.2) (of_dump_under c.args.view c.args.limits c.args.mode (sent c.args.sender c.args.dump.now) c.in_err-table.field-0.0 c.in_err-table.ensures.fault)

pub returns-in_err-octets-clause-err : goal.returns-in_err-octets-clause-err
returns-in_err-octets-clause-err c =
    let exit = err_from_is_err_and c.from_residual-in_err-octets.result c.from_residual-in_err-octets.ensures.1 in
    rw (exit.1, exit.2) (of_form_under c.args.view c.args.limits c.args.mode (sent c.args.sender c.args.dump.now) c.in_ok-table.table c.seen-seen.result c.in_err-octets.field-0.0
    c.in_ok-table.ensures.ok.0 c.in_ok-table.ensures.ok.1 c.seen-seen.ensures c.in_err-octets.ensures.err)

-- what is answered is the text of the boxes of what is seen of the dump's answers
normal : (c : After-drop-seen-inside-7) → Normalises (seen_rows c.args.view) c.args.limits c.args.mode c.args.body (sent c.args.sender c.args.dump.now) c.in_ok-octets.octets.items
normal c = record {
  no_fault = c.in_ok-table.ensures.ok.0;
  table = c.in_ok-table.table;
  is_table = c.in_ok-table.ensures.ok.1;
  boxes = c.in_ok-octets.ensures.ok.pairs;
  are_boxes = subst (λ (table : Routes). AreBoxes table.rows c.in_ok-octets.ensures.ok.pairs) c.seen-seen.ensures c.in_ok-octets.ensures.ok.are_canonical.boxes;
  few = c.in_ok-octets.ensures.ok.are_canonical.few;
  text = c.in_ok-octets.ensures.ok.text;
}

pub returns-clause-ok : goal.returns-clause-ok
returns-clause-ok c = normal c

pub returns-clause-tells_apart : goal.returns-clause-tells_apart
returns-clause-tells_apart c =
    (headline_under c.args.view c.args.limits c.args.mode c.args.body c.entries.ensures.valid c.octets.ensures.valid (sent c.args.sender c.args.dump.now) c.in_ok-octets.octets.items (normal c)).0

pub returns-clause-reads_again : goal.returns-clause-reads_again
returns-clause-reads_again c =
    (headline_under c.args.view c.args.limits c.args.mode c.args.body c.entries.ensures.valid c.octets.ensures.valid (sent c.args.sender c.args.dump.now) c.in_ok-octets.octets.items (normal c)).1

pub returns-clause-fewest : goal.returns-clause-fewest
returns-clause-fewest c = says_fewest (seen_rows c.args.view) c.args.limits c.args.mode c.args.body (sent c.args.sender c.args.dump.now) c.in_ok-octets.octets.items (normal c)
