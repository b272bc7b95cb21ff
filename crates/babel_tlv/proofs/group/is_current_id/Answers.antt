-- Two router-ids are one exactly if their numbers are.
use Rattle.std.proofs.Common.{◌≡◌, nat_eq, subst, sym, rules}
use Rattle.babel_tlv.specs.Group.{is_id}
use Rattle.babel_tlv.proofs.IdLaws.{same_ids}
use Rattle.babel_tlv.proofs.group.is_current_id.Goals as goal

pub returns : goal.returns
returns c =
    let same = same_ids c.in-Some.current c.args.id.now c.from_be_bytes.result c.from_be_bytes-2.result (search rules)
    (λ i. search rules) (search rules) (λ i. search rules) c.from_be_bytes.ensures c.from_be_bytes-2.ensures in
    subst (λ x. nat_eq c.from_be_bytes.result c.from_be_bytes-2.result ≡ is_id x c.args.id.now) (sym c.in-Some.is) same
