use Rattle.std.proofs.Common.{◌≡◌, ap, ◌∙◌}
use Rattle.std.specs.Prelude.{is_some}
use Rattle.std.specs.BTreeMap.{insert_entry, is_at}
use Rattle.std.specs.Map.{lookup}
use Rattle.std.specs.declared.cmp.Ordering.{Ordering}
use Rattle.babel_prefix.specs.Address.{Address}
use Rattle.babel_prefix.specs.contracts.addr.AddrOrd.TheImpl.{ghosts}
use Rattle.babel_prefix.specs.Order.{address_cmp}
use Rattle.babel_dump.proofs.SummaryLaws.{hop_order}
use Rattle.babel_dump.proofs.FellowLaws.{filling_more}
use Rattle.babel_dump.proofs.fellows.Occurring.new.Goals as goal

pub loop-origin-preserved : goal.loop-origin-preserved
loop-origin-preserved g c =
    let lone = c.loop-origin.lone.entries in
    let origin = c.in-Some.origin.now in
    let has : c.contains_key.result ≡ is_some (lookup (is_at (ghosts.cmp origin.sender)) lone) = c.contains_key.ensures in
    let put : c.insert.new.self.entries ≡ insert_entry ghosts.cmp lone origin.sender c.only_with-place.result = c.in-Ok.ensures.entries in
    filling_more c.args.senders.now.entries (origin, c.in-Some.field-0-1.now) c.loop-origin.origin-iterator c.next.new.self lone c.insert.new.self.entries c.contains_key.result
    c.in-Some.ensures.steps c.loop-origin.invariant (has ∙ ap (λ (k : Address → Address → Ordering). is_some (lookup (is_at (k origin.sender)) lone)) hop_order)
    (put ∙ ap (λ (k : Address → Address → Ordering). insert_entry k lone origin.sender c.only_with-place.result) hop_order ∙ ap (insert_entry address_cmp lone origin.sender) c.only_with-place.ensures)
