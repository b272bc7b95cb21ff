use Rattle.std.proofs.Common.{◌++◌, ◌∙◌, Option, ap, sym}
use Rattle.babel_timeline.specs.declared.best_match.BestMatch.{BestMatch}
use Rattle.babel_dump.specs.EventText.{route_json}
use Rattle.babel_dump.proofs.TextLemmas.{appended}
use Rattle.babel_dump.proofs.push_event.push_route.Goals as goal

pub returns-in-Some-clause-text : goal.returns-in-Some-clause-text
returns-in-Some-clause-text c =
    let before = c.args.buffer.now.items in
    appended before _ _ _ _ (appended before _ _ _ _ c.push_text.ensures.text c.push_key_json.ensures.text) c.push_text-in-Some.ensures.text
    ∙ ap (λ (b : Option BestMatch). before ++ route_json c.args.spelling b) (sym c.in-Some.is)
