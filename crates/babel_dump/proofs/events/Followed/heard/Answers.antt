use Rattle.std.proofs.Common.{◌≡◌, ◌∙◌, ap, rules, ℕ, List}
use Rattle.babel_capture.specs.Gathering.{name_of}
use Rattle.babel_table.specs.Counts.{Counts}
use Rattle.babel_dump.proofs.events.Followed.heard.Goals as goal

pub returns : goal.returns
returns c =
    let named = name_of c.args.self.now.capture.progress.gathering c.args.origin.place.interface in
    let name : c.extend_from_slice.new.self.items ≡ named = search rules in
    ap (λ (n : List ℕ). (c.args.origin, n, c.report-report.result)) name ∙ ap (λ (r : Counts). (c.args.origin, named, r)) c.report-report.ensures
