use Rattle.std.proofs.Common.{Some, ap, sym, ◌∙◌}
use Rattle.std.specs.BTreeSet.{insert_key}
use Rattle.std.specs.Cmp.Lexicographic.{slice_cmp}
use Rattle.std.specs.Ordering.{nat_cmp}
use Rattle.std.specs.declared.cmp.Ordering.{Ordering}
use Rattle.babel_prefix.specs.Address.{Address}
use Rattle.babel_prefix.specs.Order.{address_cmp}
use Rattle.babel_tlv.specs.Pair.{Pair}
use Rattle.babel_dump.specs.Summary.{next_hop_of, router_id_of}
use Rattle.babel_dump.proofs.SummaryLaws.{hop_order, set_more, set_same}
use Rattle.babel_dump.proofs.summary.Origins.add.Goals as goal

pub returns-in_ok-insert-2 : goal.returns-in_ok-insert-2
returns-in_ok-insert-2 c rows key are =
    let row : Pair = (key, c.args.held) in record {
      router_ids = c.in_ok-insert.ensures.keys
          ∙ ap (λ keys. insert_key (slice_cmp nat_cmp) keys c.router_id.result) are.router_ids
          ∙ sym (set_more (slice_cmp nat_cmp) router_id_of rows row c.router_id.result (ap router_id_of c.in-Route.is ∙ ap Some (sym c.router_id.ensures.value)));
      next_hops = c.in_ok-insert-2.ensures.keys
          ∙ ap (λ (cmp : Address → Address → Ordering). insert_key cmp c.args.self.now.next_hops.keys c.next_hop.result) hop_order
          ∙ ap (λ keys. insert_key address_cmp keys c.next_hop.result) are.next_hops
          ∙ sym (set_more address_cmp next_hop_of rows row c.next_hop.result (ap next_hop_of c.in-Route.is ∙ ap Some (sym c.next_hop.ensures.value)));
    }

pub returns-in_default : goal.returns-in_default
returns-in_default c rows key are =
    let row : Pair = (key, c.args.held) in record {
      router_ids = are.router_ids ∙ sym (set_same (slice_cmp nat_cmp) router_id_of rows row (ap router_id_of c.in_default.is));
      next_hops = are.next_hops ∙ sym (set_same address_cmp next_hop_of rows row (ap next_hop_of c.in_default.is));
    }
