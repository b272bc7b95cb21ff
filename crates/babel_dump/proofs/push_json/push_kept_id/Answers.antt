use Rattle.std.proofs.Common.{Bool, ◌++◌, ◌∙◌, ap, sym}
use Rattle.babel_dump.specs.JsonText.{router_json}
use Rattle.babel_dump.proofs.TextLemmas.{appended}
use Rattle.babel_dump.proofs.push_json.push_kept_id.Goals as goal

pub returns-then-kept-clause-text : goal.returns-then-kept-clause-text
returns-then-kept-clause-text c =
    let before = c.args.buffer.now.items in
    let id = appended before _ _ _ _ (appended before _ _ _ _ c.push_text.ensures.text c.push_router_id.ensures.text) c.push_text-then-kept.ensures.text in
    appended before _ _ _ _ id (rw c.of_router.ensures.name at c.push_name_member.ensures.text)
    ∙ ap (λ (kept : Bool). before ++ router_json c.args.style.now kept c.args.router_id) (sym c.if-kept.true)
