use Rattle.std.proofs.Common.{◌+◌, ◌++◌, nat_eq, slice_index_or, ap, sym, ◌∙◌, drop, append_assoc, append-nil, List, ℕ}
use Rattle.std.proofs.lemmas.List.{at_drop_more, drop_all}
use Rattle.babel_dump.specs.Led.{led}
use Rattle.babel_dump.proofs.led.push_led.Goals as goal

pub loop-octet-preserved : goal.loop-octet-preserved
unfolding led
loop-octet-preserved c =
    let lines = c.args.lines.now in
    let i = c.loop-octet.octet-index in
    let more = at_drop_more (led c.args.format.now c.args.lead.now c.loop-octet.is_first) lines i 0 c.loop-octet-test.true in
    let left = led c.args.format.now c.args.lead.now (nat_eq (slice_index_or lines i 0) 10) (drop (i + 1) lines) in
    record {
      text = ap (λ (t : List ℕ). t ++ left) c.in_ok-push_led_octet.ensures ∙ append_assoc c.loop-octet.text.items _ left ∙ ap (λ (l : List ℕ). c.loop-octet.text.items ++ l) (sym more)
          ∙ c.loop-octet.invariant.text;
    }

pub returns : goal.returns
unfolding led
returns c =
    let text = c.loop-octet.text.items in
    let lead = c.args.lead.now in
    sym (append-nil text) ∙ ap (λ (left : List ℕ). text ++ led c.args.format.now lead c.loop-octet.is_first left) (sym (drop_all c.loop-octet.octet-index c.args.lines.now c.loop-octet-test.false))
    ∙ c.loop-octet.invariant.text
