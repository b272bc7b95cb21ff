-- What is told is of the table of the sender's own packets.
use Rattle.std.proofs.Common.{List, ℕ, sym, subst, inr}
use Rattle.std.proofs.lemmas.Result.{err_from_is_err_and}
use Rattle.babel_capture.specs.Gathering.{name_of as interface_name}
use Rattle.babel_dump.specs.EachSender.{IsToldOf, SenderFindsTooMany, own_reading}
use Rattle.babel_dump.specs.declared.key.TableText.{TableText}
use Rattle.babel_dump.specs.declared.reading.Reading.{Reading}
use Rattle.babel_dump.proofs.OwnTexts.{told_again}
use Rattle.babel_dump.proofs.each_sender.EachSender.sender_text.Goals as goal

pub returns-in_err-table-clause-err : goal.returns-in_err-table-clause-err
returns-in_err-table-clause-err c =
    let exit = err_from_is_err_and c.from_residual.result c.from_residual.ensures.1 in
    rw (exit.1, exit.2) (λ made whole fed. c.in_err-table.ensures.err made c.args.origin whole fed)

pub returns-in_err-key-clause-err : goal.returns-in_err-key-clause-err
returns-in_err-key-clause-err c =
    let exit = err_from_is_err_and c.from_residual-in_err-key.result c.from_residual-in_err-key.ensures.1 in
    let each = c.args.self.now in
    let table = c.in_ok-table.field-0.table in
    rw (exit.1, exit.2) (λ made whole fed not_memory. let found = c.in_err-key.ensures.err not_memory in inr (
      table,
      (c.in_ok-table.ensures.ok made c.args.origin whole fed).0,
      found.0,
      subst (λ (r : Reading). SenderFindsTooMany each.task r.limits table) c.of-reading.ensures found.1,
    ))

pub returns-clause-ok : goal.returns-clause-ok
returns-clause-ok c =
    let each = c.args.self.now in
    let own = c.in_ok-table.field-0 in
    let key = c.in_ok-key.key in
    let origin = c.args.origin in
    let name = interface_name c.args.read.now.gathered origin.place.interface in
    let told = subst (λ (r : Reading). IsToldOf each.task each r origin c.name-name.result.now key own.table) c.of-reading.ensures c.in_ok-key.ensures.ok in
    let named = subst (λ (n : List ℕ). IsToldOf each.task each (own_reading each origin) origin n key own.table) c.name-name.ensures told in
    λ made whole fed. record {
      table = own.table;
      is_own = (c.in_ok-table.ensures.ok made origin whole fed).0;
      strict = (c.in_ok-table.ensures.ok made origin whole fed).1;
      is_told = subst (λ (k : TableText). IsToldOf each.task each (own_reading each origin) origin name k own.table) (sym c.with_expired_rows.ensures)
          (told_again each.task each (own_reading each origin) origin name key own.expired_rows own.table named);
    }
