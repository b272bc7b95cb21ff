-- A record is heard, unless memory ran out.
use Rattle.std.proofs.Common.{rules, ◌≡◌, false}
use Rattle.std.specs.Prelude.{is_err}
use Rattle.babel_dump.proofs.LinksHeard.{hears_more}
use Rattle.babel_dump.proofs.OwnTables.{not_err}
use Rattle.babel_dump.proofs.link_sink.LinkSinkSink.take.Goals as goal

pub returns-then-not-self : goal.returns-then-not-self
returns-then-not-self c start made one is held done =
    let sound : c.args.self.now.has_failed ≡ false = search rules in
    let ok : is_err c.hear.result ≡ false = search rules in
    let before = held sound in (
      before.0,
      hears_more start.heard c.args.self.now.heard c.hear.new.self.heard made one before.1 (not_err c.hear.result ok c.hear.ensures.heard one is),
    )
