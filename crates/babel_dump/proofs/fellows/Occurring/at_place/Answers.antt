use Rattle.std.proofs.Common.{◌≡◌, Bool, if◌then◌else◌, None, Some, subst}
use Rattle.std.specs.Prelude.{is_some}
use Rattle.std.specs.BTreeMap.{is_at}
use Rattle.std.specs.Map.{keys_of, lookup}
use Rattle.babel_capture.specs.contracts.tallies.OriginOrd.TheImpl.{ghosts}
use Rattle.babel_dump.specs.Fellows.{at_place}
use Rattle.babel_dump.proofs.FellowLaws.{at_place_so}
use Rattle.babel_dump.proofs.fellows.Occurring.at_place.Goals as goal

pub returns-then-contains_key : goal.returns-then-contains_key
returns-then-contains_key g c =
    let entries = c.args.self.now.senders.now.entries in
    let has : c.contains_key.result ≡ is_some (lookup (is_at (ghosts.cmp c.args.origin)) entries) = c.contains_key.ensures in
    subst (λ (b : Bool). (if b then Some c.args.origin else None) ≡ at_place (keys_of entries) c.args.origin) c.if-contains_key.true
    (at_place_so entries c.args.origin c.contains_key.result has)

pub returns-else-contains_key : goal.returns-else-contains_key
returns-else-contains_key g c =
    let entries = c.args.self.now.senders.now.entries in
    let has : c.contains_key.result ≡ is_some (lookup (is_at (ghosts.cmp c.args.origin)) entries) = c.contains_key.ensures in
    subst (λ (b : Bool). (if b then Some c.args.origin else None) ≡ at_place (keys_of entries) c.args.origin) c.if-contains_key.false
    (at_place_so entries c.args.origin c.contains_key.result has)
