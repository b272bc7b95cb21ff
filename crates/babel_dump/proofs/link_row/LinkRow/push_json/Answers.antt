-- The text is what is appended, part by part.
use Rattle.std.proofs.Common.{rules, ◌≡◌, ◌++◌, ℕ, List, Option, ap, ◌∙◌, append_assoc}
use Rattle.std.specs.Prelude.{codes}
use Rattle.babel_capture.specs.Times.{within_years}
use Rattle.babel_dump.specs.CaptureText.{number_json}
use Rattle.babel_dump.specs.LinkText.{counts_json}
use Rattle.babel_dump.specs.Spelling.{address_text}
use Rattle.babel_dump.specs.TimeText.{time_json}
use Rattle.babel_dump.proofs.link_row.LinkRow.push_json.Goals as goal

then_more : (old now new first second : List ℕ) → now ≡ old ++ first → new ≡ now ++ second → new ≡ old ++ (first ++ second)
then_more old now new first second one more = more ∙ ap (λ (t : List ℕ). t ++ second) one ∙ append_assoc old first second

pub returns-clause-text : goal.returns-clause-text
returns-clause-text c =
    let row = c.args.self.now in
    let old = c.args.buffer.now.items in
    let time : c.new.result ≡ within_years row.last = search rules in
    let timed : c.push_time_json.new.buffer.items ≡ c.push_text-4.new.buffer.items ++ time_json (within_years row.last) =
    c.push_time_json.ensures.text ∙ ap (λ (t : Option ℕ). c.push_text-4.new.buffer.items ++ time_json t) time in
    let p1 : List ℕ = codes "\"neighbour\":\"" in
    let p2 : List ℕ = address_text c.args.spelling row.neighbour in
    let p3 : List ℕ = codes "\",\"rxcost\":" in
    let p4 : List ℕ = number_json row.rxcost in
    let p5 : List ℕ = codes ",\"back\":" in
    let p6 : List ℕ = number_json row.back in
    let p7 : List ℕ = codes ",\"last\":" in
    let p8 : List ℕ = time_json (within_years row.last) in
    let p9 : List ℕ = counts_json row in
    let e2 : c.push_addr.new.buffer.items ≡ old ++ (p1 ++ p2) = then_more old c.push_text.new.buffer.items c.push_addr.new.buffer.items (p1) p2 c.push_text.ensures.text c.push_addr.ensures.text in
    let e3 : c.push_text-2.new.buffer.items ≡ old ++ ((p1 ++ p2) ++ p3) = then_more old c.push_addr.new.buffer.items c.push_text-2.new.buffer.items ((p1 ++ p2)) p3 e2 c.push_text-2.ensures.text in
    let e4 : c.push_cost_json.new.buffer.items ≡ old ++ (((p1 ++ p2) ++ p3) ++ p4) = then_more old c.push_text-2.new.buffer.items c.push_cost_json.new.buffer.items (((p1 ++ p2) ++ p3)) p4 e3 c.push_cost_json.ensures.text in
    let e5 : c.push_text-3.new.buffer.items ≡ old ++ ((((p1 ++ p2) ++ p3) ++ p4) ++ p5) = then_more old c.push_cost_json.new.buffer.items c.push_text-3.new.buffer.items ((((p1 ++ p2) ++ p3) ++ p4)) p5 e4 c.push_text-3.ensures.text in
    let e6 : c.push_cost_json-2.new.buffer.items ≡ old ++ (((((p1 ++ p2) ++ p3) ++ p4) ++ p5) ++ p6) = then_more old c.push_text-3.new.buffer.items c.push_cost_json-2.new.buffer.items (((((p1 ++ p2) ++ p3) ++ p4) ++ p5)) p6 e5 c.push_cost_json-2.ensures.text in
    let e7 : c.push_text-4.new.buffer.items ≡ old ++ ((((((p1 ++ p2) ++ p3) ++ p4) ++ p5) ++ p6) ++ p7) = then_more old c.push_cost_json-2.new.buffer.items c.push_text-4.new.buffer.items ((((((p1 ++ p2) ++ p3) ++ p4) ++ p5) ++ p6)) p7 e6 c.push_text-4.ensures.text in
    let e8 : c.push_time_json.new.buffer.items ≡ old ++ (((((((p1 ++ p2) ++ p3) ++ p4) ++ p5) ++ p6) ++ p7) ++ p8) = then_more old c.push_text-4.new.buffer.items c.push_time_json.new.buffer.items (((((((p1 ++ p2) ++ p3) ++ p4) ++ p5) ++ p6) ++ p7)) p8 e7 timed in
    let e9 : c.push_counts_json.new.buffer.items ≡ old ++ ((((((((p1 ++ p2) ++ p3) ++ p4) ++ p5) ++ p6) ++ p7) ++ p8) ++ p9) = then_more old c.push_time_json.new.buffer.items c.push_counts_json.new.buffer.items ((((((((p1 ++ p2) ++ p3) ++ p4) ++ p5) ++ p6) ++ p7) ++ p8)) p9 e8 c.push_counts_json.ensures.text in
    e9
