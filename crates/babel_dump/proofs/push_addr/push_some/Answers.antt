-- Each turn appends a group, and `:` unless it is the last.
use Rattle.std.proofs.Common.{◌≡◌, ℕ, List, false, [], ◌∷◌, ◌++◌, ◌-◌, take, refl, sym, ◌∙◌, ap, arith, inl, inr, append_assoc}
use Rattle.std.proofs.lemmas.List.{append-nil}
use Rattle.std.specs.Fmt.{digits}
use Rattle.babel_prefix.specs.Text.{groups_from, groups_text}
use Rattle.babel_prefix.proofs.PieceLaws.{one_more}
use Rattle.babel_dump.proofs.push_addr.push_some.Goals as goal

pub loop-place-preserved-then-place-last : goal.loop-place-preserved-then-place-last
loop-place-preserved-then-place-last c =
    let place = c.loop-place.place in
    let last = c.args.below - c.args.count in
    let written = c.loop-place.buffer.items in
    let hex = digits 16 false c.group.result in
    let now : c.push_octet.new.buffer.items ≡ written ++ (hex ++ 58 ∷ []) =
    c.push_octet.ensures.text ∙ ap (λ (t : List ℕ). t ++ 58 ∷ []) c.push_group.ensures.text ∙ append_assoc written hex (58 ∷ []) in
    record {
      text = ap (λ (t : List ℕ). t ++ groups_text (take (place - 1 - last) (groups_from (place - 1) c.args.bits))) now
          ∙ one_more place (place - 1) (place - last) (place - 1 - last) c.args.bits c.group.result (58 ∷ []) written _
          (omega arith) (omega arith) (omega arith) (inr (omega arith, refl)) c.group.ensures c.loop-place.invariant.text;
      took = omega (arith, c.loop-place.invariant.took, c.push_group.ensures.room, c.push_octet.ensures.room);
      room = omega (arith, c.loop-place.invariant.room, c.push_group.ensures.room, c.push_octet.ensures.room);
    }

pub loop-place-preserved : goal.loop-place-preserved
loop-place-preserved c =
    let place = c.loop-place.place in
    let last = c.args.below - c.args.count in
    let written = c.loop-place.buffer.items in
    let hex = digits 16 false c.group.result in
    let now : c.push_group.new.buffer.items ≡ written ++ (hex ++ []) = c.push_group.ensures.text ∙ ap (λ (t : List ℕ). written ++ t) (sym (append-nil hex)) in
    record {
      text = ap (λ (t : List ℕ). t ++ groups_text (take (place - 1 - last) (groups_from (place - 1) c.args.bits))) now
          ∙ one_more place (place - 1) (place - last) (place - 1 - last) c.args.bits c.group.result [] written _
          (omega arith) (omega arith) (omega arith) (inl (omega arith, refl)) c.group.ensures c.loop-place.invariant.text;
      took = omega (arith, c.loop-place.invariant.took, c.push_group.ensures.room);
      room = omega (arith, c.loop-place.invariant.room, c.push_group.ensures.room);
    }
