-- The others are indexed.
use Rattle.std.proofs.Common.{rules, ◌≡◌, ◌∷◌, ◌∙◌}
use Rattle.std.specs.BTreeMap.{is_at}
use Rattle.std.specs.Map.{remove_entry}
use Rattle.babel_capture.specs.contracts.fragment.DatagramIdOrd.TheImpl.{ghosts}
use Rattle.babel_capture.proofs.KnownLaws.{indexed-pop}
use Rattle.babel_capture.proofs.known.Known.pop.Goals as goal

pub invariant_of-self-2 : goal.invariant_of-self-2
invariant_of-self-2 c =
    let number = c.in_ok-number.number in
    let oldest = c.in_ok-number.oldest in
    let is : c.self.inside.datagrams.entries ≡ (number, oldest) ∷ c.pop_first.new.self.entries = search rules in
    let unnamed : c.remove.new.self.entries ≡ remove_entry (is_at (ghosts.cmp oldest.id)) c.self.inside.numbers.entries = search rules in
    indexed-pop c.self.inside.numbers.entries c.self.inside.datagrams.entries c.self.inside.octets c.self.invariant number oldest c.pop_first.new.self.entries c.remove.new.self.entries c.from.result
    is unnamed c.remove.ensures.ordered c.pop_first.ensures.ordered (c.from.ensures ∙ c.len.ensures)
