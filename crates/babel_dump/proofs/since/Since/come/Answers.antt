use Rattle.std.proofs.Common.{◌≡◌, ◌++◌, ◌∙◌, Some, false, true, map, ap, rules}
use Rattle.std.proofs.lemmas.Result.{on_ok_weaker}
use Rattle.babel_dump.specs.EventsRun.{answer_told, has_come}
use Rattle.babel_dump.proofs.SinceLaws.{come_later, come_now}
use Rattle.babel_dump.proofs.EventsRuns.{Tellings}
use Rattle.babel_dump.proofs.since.Since.come.Goals as goal

pub returns-then-not-has_come : goal.returns-then-not-has_come
returns-then-not-has_come c =
    let not_yet : c.args.self.now.has_come ≡ false = search rules in
    let no : has_come (Some c.args.moment) c.args.time ≡ false = cc in
    come_later c.args.moment c.args.time c.args.self.now c.args.heard.now c.keep_early.new.self not_yet c.keep_early.ensures.same c.in_ok-keep_early.ensures.answers no c.args.told.now.items c.requires

pub returns : goal.returns
returns c =
    let not_yet : c.args.self.now.has_come ≡ false = search rules in
    let yes : has_come (Some c.args.moment) c.args.time ≡ true = cc in
    on_ok_weaker c.open.result
    (λ told. come_now c.args.moment c.args.time c.args.self.now c.args.heard.now c.keep_early.new.self not_yet c.keep_early.ensures.same c.in_ok-keep_early.ensures.answers yes
    c.open.new.told.items c.open.ensures.rising (told ∙ ap (λ (t : Tellings). t ++ map (answer_told c.args.moment) c.keep_early.new.self.answers.entries) c.requires)) c.open.ensures.told
