-- The source prefix, or that of length 0, is of the family.
use Rattle.std.proofs.Common.{◌≡◌, ◌∙◌, Option, None, Some, Result, refl, sym, ap, subst}
use Rattle.std.specs.Prelude.{IfOk, IfSome, unwrap_or}
use Rattle.babel_prefix.specs.declared.family.Family.{Family}
use Rattle.babel_prefix.specs.Address.{AddressPrefix, whole_family}
use Rattle.babel_tlv.specs.declared.reason.Reason.{Reason}
use Rattle.babel_tlv.proofs.SubTlvLaws.{sub_tlvs_are}
use Rattle.babel_tlv.proofs.sub_tlv.read_source.Goals as goal

abbrev IsOf : Family → AddressPrefix → Type 0
IsOf family p = p.address.family ≡ family

unwrap_or-family : (source : Option AddressPrefix) (family : Family) → IfSome source (IsOf family) → IsOf family (unwrap_or source (whole_family family))
unwrap_or-family None family is = refl
unwrap_or-family (Some p) family is = is

pub returns-clause-family : goal.returns-clause-family
returns-clause-family c =
    let family = c.args.family in
    let source = c.in_ok-source.source in
    let is : c.unwrap_or.result ≡ unwrap_or source (whole_family family) = c.unwrap_or.ensures ∙ ap (λ (p : AddressPrefix). unwrap_or source p) c.whole-2.ensures in
    ap (λ (p : AddressPrefix). p.address.family) is
    ∙ unwrap_or-family source family (subst (λ (r : Result (Option AddressPrefix) Reason). IfOk r (λ given. IfSome given (IsOf family))) (sym c.in_ok-source.ensures)
    (sub_tlvs_are (IsOf family) family (λ body. refl) c.args.sub_tlvs.now))
