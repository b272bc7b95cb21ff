-- A record is heard, unless memory ran out.
use Rattle.std.proofs.Common.{rules, ◌≡◌, false, true}
use Rattle.std.specs.Prelude.{is_err}
use Rattle.babel_dump.proofs.OwnTables.{not_err}
use Rattle.babel_dump.proofs.SelectHeard.{hears_more}
use Rattle.babel_dump.proofs.selecting.SelectingSink.take.Goals as goal

pub returns-then-not-self : goal.returns-then-not-self
returns-then-not-self c start made one is held = record {
  select = held.select;
  tables = c.take.ensures start.tables made one is held.tables;
  links = c.take-2.ensures start.links made one is held.links;
  updates = λ done.
      let sound : c.args.self.now.has_failed ≡ false = search rules in
      let ok : is_err c.hear_updates.result ≡ false = search rules in
      let before = held.updates sound in (
        before.0,
        hears_more start.select.now c.args.self.now.select.now start.sources c.args.self.now.sources c.hear_updates.new.sources made one held.select before.1
            (not_err c.hear_updates.result ok c.hear_updates.ensures one is),
      );
}

pub returns-else-not-self : goal.returns-else-not-self
returns-else-not-self c start made one is held = record {
  select = held.select;
  tables = c.take.ensures start.tables made one is held.tables;
  links = c.take-2.ensures start.links made one is held.links;
  updates = λ done. absurd (
      let failed : c.args.self.now.has_failed ≡ true = search rules in
      let sound : c.args.self.now.has_failed ≡ false = done in
      cc);
}
