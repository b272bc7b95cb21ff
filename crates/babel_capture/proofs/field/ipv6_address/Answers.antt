use Rattle.std.proofs.Common.{◌≡◌, ℕ, ◌∙◌, ap, rules}
use Rattle.babel_prefix.specs.Address.{Address}
use Rattle.babel_prefix.specs.declared.family.Family.TheVariants.{V6}
use Rattle.babel_capture.proofs.OctetLaws.{number-is}
use Rattle.babel_capture.proofs.field.ipv6_address.Goals as goal

pub returns : goal.returns
returns c =
    let number = c.read_u128.ensures ∙ number-is 16 c.args.at c.args.octets.now in
    let read : c.unwrap.result ≡ record { family = V6; bits = c.read_u128.result } = search rules in
    read ∙ ap (λ (n : ℕ). let a : Address = record { family = V6; bits = n } in a) number
