-- A key, and what is appended after it.
use Rattle.std.proofs.Common.{◌≡◌, ℕ, List, ◌++◌, ap, sym, append_assoc, ◌∙◌}
use Rattle.babel_tlv.specs.declared.request.Request.{Request}
use Rattle.babel_dump.specs.RequestText.{request_json}
use Rattle.babel_dump.proofs.push_request.push_request_json.Goals as goal

on : (old x y t u : List ℕ) → t ≡ old ++ x → u ≡ t ++ y → u ≡ old ++ (x ++ y)
on old x y t u first second = second ∙ ap (λ (z : List ℕ). z ++ y) first ∙ append_assoc old x y

pub returns-in-Route-clause-text : goal.returns-in-Route-clause-text
returns-in-Route-clause-text c =
    let old = c.args.buffer.now.items in
    on old _ _ _ _ c.push_key_json.ensures.text c.push_text-in-Route.ensures.text
    ∙ ap (λ (r : Request). old ++ request_json c.args.style.now r) (sym c.in-Route.is)

pub returns-in-Seqno-clause-text : goal.returns-in-Seqno-clause-text
returns-in-Seqno-clause-text c =
    let old = c.args.buffer.now.items in
    let front = on old _ _ _ _ c.push_key_json-in-Seqno.ensures.text c.push_text-in-Seqno.ensures.text in
    let id = on old _ _ _ _ front c.push_kept_id.ensures.text in
    on old _ _ _ _ (on old _ _ _ _ id c.push_text-in-Seqno-2.ensures.text) c.push_decimal.ensures.text
    ∙ ap (λ (r : Request). old ++ request_json c.args.style.now r) (sym c.in-Seqno.is)
