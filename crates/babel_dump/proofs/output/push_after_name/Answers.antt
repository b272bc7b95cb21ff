use Rattle.std.proofs.Common.{ℕ, List, ◌++◌, sym, ap, ◌∙◌}
use Rattle.babel_dump.specs.declared.format.Format.{Format}
use Rattle.babel_dump.specs.CaptureText.{sender_end, sender_end_json}
use Rattle.babel_dump.specs.InFormat.{in_format}
use Rattle.babel_dump.specs.TextParts.{closing}
use Rattle.babel_dump.proofs.TextLemmas.{appended}
use Rattle.babel_dump.proofs.output.push_after_name.Goals as goal

pub returns-in-Json-clause-text : goal.returns-in-Json-clause-text
returns-in-Json-clause-text c =
    let before = c.args.buffer.now.items in
    let end = sender_end_json c.args.tally in
    let text = sender_end c.args.origin.place c.args.tally in
    appended before _ _ _ _ c.push_text.ensures.text c.push_sender_end_json.ensures.text
    ∙ ap (λ (t : List ℕ). before ++ (t ++ end)) c.closing.ensures.text
    ∙ ap (λ (t : List ℕ). before ++ (closing c.args.format.now c.args.name.now ++ t)) (sym (ap (λ (f : Format). in_format f text end) c.in-Json.is))
