use Rattle.std.proofs.Common.{ℕ, List, sym, subst}
use Rattle.babel_tlv.specs.Group.{IsCanonicalText}
use Rattle.babel_canon.proofs.Packets.{text_none, text_whole}
use Rattle.babel_canon.proofs.text.Text.into_octets.Goals as goal

pub returns-then-len-eq0 : goal.returns-then-len-eq0
returns-then-len-eq0 c body pairs is = subst (λ (o : List ℕ). IsCanonicalText body pairs o) (sym c.clear.ensures.items) (text_none body c.args.self pairs is c.if-len-eq0.true)

pub returns-else-len-eq0 : goal.returns-else-len-eq0
returns-else-len-eq0 c body pairs is = text_whole body c.args.self pairs is c.if-len-eq0.false
