-- With a metric of 65535 and no prefix, the sub-TLVs decide.
use Rattle.std.proofs.Common.{◌≡◌, ℕ, ◌+◌, List, drop, Option, Result, Ok, Err, refl, sym, ap, ◌∙◌, arith}
use Rattle.std.specs.Result.{result_err}
use Rattle.babel_prefix.specs.Address.{AddressPrefix}
use Rattle.babel_tlv.specs.declared.event.Event.TheVariants as events
use Rattle.babel_tlv.specs.declared.place.Place.TheVariants as places
use Rattle.babel_tlv.specs.declared.reason.Reason.{Reason}
use Rattle.babel_tlv.specs.Forming.{field_len, omitted, prefix_len, update_metric}
use Rattle.babel_tlv.specs.Says.{unless_ignored, wildcard_reason, wildcard_tells}
use Rattle.babel_tlv.specs.SubTlv.{sub_tlvs}
use Rattle.babel_tlv.proofs.update.Update.wildcard.Goals as goal

wildcard_says : (body octets : List ℕ) (given : Result (Option AddressPrefix) Reason) → update_metric body ≡ 65535 → prefix_len body ≡ 0 → omitted body ≡ 0
    → octets ≡ drop (10 + field_len body) body → given ≡ sub_tlvs places.InWildcard octets
    → unless_ignored (wildcard_reason body) (wildcard_tells body) ≡ unless_ignored (result_err given) events.RetractAll
wildcard_says body octets given infinite no_prefix none_omitted here is =
    let after : drop (10 + field_len body) body ≡ drop 10 body = rw (none_omitted, no_prefix) refl in
    by given (sym (is ∙ ap (sub_tlvs places.InWildcard) (here ∙ after)))
  where
    by : (given : Result (Option AddressPrefix) Reason) → sub_tlvs places.InWildcard (drop 10 body) ≡ given
        → unless_ignored (wildcard_reason body) (wildcard_tells body) ≡ unless_ignored (result_err given) events.RetractAll
    by (Ok source) read = rw (infinite, no_prefix, none_omitted, read) refl
    by (Err reason) read = rw (infinite, no_prefix, none_omitted, read) refl

pub returns-in-Ok-clause-said : goal.returns-in-Ok-clause-said
returns-in-Ok-clause-said c = λ route.
    let fields = c.args.self.now.fields in
    sym (wildcard_says c.args.self.now.body.now c.sub_tlvs.result.now (Ok c.in-Ok.field-0) (sym fields.metric_is ∙ search (arith, c.if-self.false))
    (omega (arith, fields.plen_is)) (omega (arith, fields.omitted_is)) c.sub_tlvs.ensures c.in-Ok.ensures)

pub returns-in-Err-clause-said : goal.returns-in-Err-clause-said
returns-in-Err-clause-said c = λ route.
    let fields = c.args.self.now.fields in
    sym (wildcard_says c.args.self.now.body.now c.sub_tlvs.result.now (Err c.in-Err.reason) (sym fields.metric_is ∙ search (arith, c.if-self.false))
    (omega (arith, fields.plen_is)) (omega (arith, fields.omitted_is)) c.sub_tlvs.ensures c.in-Err.ensures)
