-- Rows of the lower half come first, and then those of the upper.
use Rattle.std.proofs.Common.{get_or, length, ◌≡◌, ℕ, ◌≤◌, ◌<◌, ◌+◌, ◌-◌, ◌*◌, List, Option, ap, subst, arith, rules}
use Rattle.std.proofs.lemmas.Option.{slice_get_within}
use Rattle.std.proofs.lemmas.Result.{err_from_is_err_and, on_err_weaker, on_ok_weaker}
use Rattle.babel_prefix.specs.Width.{width_of}
use Rattle.babel_trie.specs.Interned.{Represents, IsTrie, HasTrie, Stands}
use Rattle.babel_trie.specs.Shape.{Shape, leaf}
use Rattle.babel_trie.specs.declared.table.Loose.{Loose}
use Rattle.babel_trie.specs.declared.table.Loose.TheVariants.{Split}
use Rattle.babel_trie.specs.declared.table.Node.{Node}
use Rattle.babel_trie.specs.declared.table.NodeNumber.{NodeNumber}
use Rattle.babel_trie.specs.declared.table.Sources.{Sources}
use Rattle.babel_trie.specs.declared.table.Sources.TheVariants.{Stored}
use Rattle.babel_trie.proofs.FormLaws.{some_bits}
use Rattle.babel_trie.proofs.HalfLaws.{half_tries}
use Rattle.babel_trie.proofs.ListLaws.{width_le}
use Rattle.babel_trie.proofs.NumberLaws.{one_shape, stored_node}
use Rattle.babel_trie.proofs.PushLaws as push
use Rattle.babel_trie.proofs.listing.Table+Option+V.+push_rows.Goals as goal

module _ {V : Type 0} (nodes list : List (Node V)) (s : Sources V) (number : NodeNumber) (i : ℕ) (t : Shape V) where
  -- what is read at the number of the sources is their node
  stored_stands : (node : Node V) → s ≡ Stored number → list ≡ nodes → i ≡ number.0 → node ≡ get_or list i node → Represents nodes s t → Stands nodes (Split node) t
  stored_stands node is list_is i_is read p =
      let opens = subst (λ (r : Sources V). Represents nodes r t) is p in
      let here : node ≡ get_or nodes number.0 node = subst (λ (xs : List (Node V)). node ≡ get_or xs number.0 node) list_is (subst (λ k. node ≡ get_or list k node) i_is read) in
      let same = stored_node nodes number.0 opens.1.0 node opens.1.1 here in
      subst (λ (m : Node V). Stands nodes (Split m) t) same (subst (λ (x : Loose V). Stands nodes x t) opens.1.2 opens.2)

  stored_within : s ≡ Stored number → list ≡ nodes → i ≡ number.0 → Represents nodes s t → i < length list
  stored_within is list_is i_is p =
      let opens = subst (λ (r : Sources V). Represents nodes r t) is p in
      omega (arith, slice_get_within nodes number.0 opens.1.0 opens.1.1, ap length list_is)

pub push_node-block_of_node-bits-requires-clause-skip : goal.push_node-block_of_node-bits-requires-clause-skip
push_node-block_of_node-bits-requires-clause-skip g t c = some_bits c.args.self.now.nodes.items c.args.bits c.args.node.now c.requires.trie

pub push_node-overflow_sub-bits : goal.push_node-overflow_sub-bits
push_node-overflow_sub-bits g t c =
    let some = some_bits c.args.self.now.nodes.items c.args.bits c.args.node.now c.requires.trie in
    omega (arith, some, c.block_of_node-bits.ensures.bits)

pub push_node-overflow_sub-bits-then-has_nothing_beside : goal.push_node-overflow_sub-bits-then-has_nothing_beside
push_node-overflow_sub-bits-then-has_nothing_beside g t c =
    let some = some_bits c.args.self.now.nodes.items c.args.bits c.args.node.now c.requires.trie in
    omega (arith, some, c.block_of_node-bits.ensures.bits)

pub push_node-places-low_place-requires-clause-some : goal.push_node-places-low_place-requires-clause-some
push_node-places-low_place-requires-clause-some g t c =
    let some = some_bits c.args.self.now.nodes.items c.args.bits c.args.node.now c.requires.trie in
    omega (arith, some, c.block_of_node-bits.ensures.bits)

pub push_node-overflow_sub-bits-2 : goal.push_node-overflow_sub-bits-2
push_node-overflow_sub-bits-2 g t c =
    let some = some_bits c.args.self.now.nodes.items c.args.bits c.args.node.now c.requires.trie in
    omega (arith, some)

pub push_node-overflow_sub-bits-3 : goal.push_node-overflow_sub-bits-3
push_node-overflow_sub-bits-3 g t c =
    let some = some_bits c.args.self.now.nodes.items c.args.bits c.args.node.now c.requires.trie in
    omega (arith, some)

pub push_node-places-low_place-requires-2-clause-some : goal.push_node-places-low_place-requires-2-clause-some
push_node-places-low_place-requires-2-clause-some g t c =
    let some = some_bits c.args.self.now.nodes.items c.args.bits c.args.node.now c.requires.trie in
    omega (arith, some)

pub push_node-push_sources-requires : goal.push_node-push_sources-requires
push_node-push_sources-requires g t c κs within =
    let nodes = c.args.self.now.nodes.items in
    let some = some_bits nodes c.args.bits c.args.node.now c.requires.trie in
    let b = c.block_of_node-bits.result.0 in
    let tries = push.half_tries nodes (width_of c.args.family) c.args.bits c.args.place c.args.node.now
    (c.has_nothing_beside.ensures.yes c.if-has_nothing_beside.true) b c.block_of_node-bits.ensures.bits c.requires.trie in
    let falls : 2 * (b - 1) + 1 < t = omega (arith, c.decreases, some, c.block_of_node-bits.ensures.bits) in
    let half : HasTrie (b - 1) nodes c.args.node.now.low = tries.0 in
    let fewer : b - 1 ≤ width_of c.args.family = omega (arith, c.block_of_node-bits.ensures.bits, c.requires.bits) in
    search rules

pub push_node-push_sources-requires-then-has_nothing_beside : goal.push_node-push_sources-requires-then-has_nothing_beside
push_node-push_sources-requires-then-has_nothing_beside g t c κs within =
    let nodes = c.args.self.now.nodes.items in
    let some = some_bits nodes c.args.bits c.args.node.now c.requires.trie in
    let b = c.block_of_node-bits.result.0 in
    let tries = push.half_tries nodes (width_of c.args.family) c.args.bits c.args.place c.args.node.now
    (c.has_nothing_beside.ensures.yes c.if-has_nothing_beside.true) b c.block_of_node-bits.ensures.bits c.requires.trie in
    let falls : 2 * (b - 1) + 1 < t = omega (arith, c.decreases, some, c.block_of_node-bits.ensures.bits) in
    let half : HasTrie (b - 1) nodes c.args.node.now.high = tries.1 in
    let fewer : b - 1 ≤ width_of c.args.family = omega (arith, c.block_of_node-bits.ensures.bits, c.requires.bits) in
    search rules

pub push_node-returns-in_err-push_sources-clause-err : goal.push_node-returns-in_err-push_sources-clause-err
push_node-returns-in_err-push_sources-clause-err g t c = let exit = err_from_is_err_and c.from_residual.result c.from_residual.ensures.1 in rw exit.1 (λ u p.
    let two = push.block_halves c.args.self.now.nodes.items (width_of c.args.family) c.args.bits c.args.place c.args.node.now (c.has_nothing_beside.ensures.yes c.if-has_nothing_beside.true) u p
    c.block_of_node-bits.result.0 c.block_of_node-bits.result.1 c.places-low_place.result.0 c.places-low_place.result.1 c.block_of_node-bits.ensures.bits c.block_of_node-bits.ensures.place
    c.places-low_place.ensures.low c.places-low_place.ensures.high in
    push.low_stops c.args.family c.args.dst two g.S.Sink.has g.S.Sink.stopped c.args.out.now c.push_sources.new.out c.push_sources.new.out c.in_err-push_sources.ensures.err)

pub push_node-returns-then-has_nothing_beside-clause-ok : goal.push_node-returns-then-has_nothing_beside-clause-ok
push_node-returns-then-has_nothing_beside-clause-ok g t c = on_ok_weaker c.push_sources-then-has_nothing_beside.result (λ there u p.
    let two = push.block_halves c.args.self.now.nodes.items (width_of c.args.family) c.args.bits c.args.place c.args.node.now (c.has_nothing_beside.ensures.yes c.if-has_nothing_beside.true) u p
    c.block_of_node-bits.result.0 c.block_of_node-bits.result.1 c.places-low_place.result.0 c.places-low_place.result.1 c.block_of_node-bits.ensures.bits c.block_of_node-bits.ensures.place
    c.places-low_place.ensures.low c.places-low_place.ensures.high in
    push.both_put c.args.family c.args.dst two g.S.Sink.has g.S.Sink.stopped c.args.out.now c.push_sources.new.out c.push_sources-then-has_nothing_beside.new.out c.in_ok-push_sources.ensures.ok
    there) c.push_sources-then-has_nothing_beside.ensures.ok

pub push_node-returns-then-has_nothing_beside-clause-err : goal.push_node-returns-then-has_nothing_beside-clause-err
push_node-returns-then-has_nothing_beside-clause-err g t c = on_err_weaker c.push_sources-then-has_nothing_beside.result (λ there u p.
    let two = push.block_halves c.args.self.now.nodes.items (width_of c.args.family) c.args.bits c.args.place c.args.node.now (c.has_nothing_beside.ensures.yes c.if-has_nothing_beside.true) u p
    c.block_of_node-bits.result.0 c.block_of_node-bits.result.1 c.places-low_place.result.0 c.places-low_place.result.1 c.block_of_node-bits.ensures.bits c.block_of_node-bits.ensures.place
    c.places-low_place.ensures.low c.places-low_place.ensures.high in
    push.high_stops c.args.family c.args.dst two g.S.Sink.has g.S.Sink.stopped c.args.out.now c.push_sources.new.out c.push_sources-then-has_nothing_beside.new.out c.in_ok-push_sources.ensures.ok
    there) c.push_sources-then-has_nothing_beside.ensures.err

pub push_node-push_rows-requires : goal.push_node-push_rows-requires
push_node-push_rows-requires g t c κs within =
    let nodes = c.args.self.now.nodes.items in
    let some = some_bits nodes c.args.bits c.args.node.now c.requires.trie in
    let tries = half_tries c.args.bits nodes (Split c.args.node.now) _ _ (omega (arith, some)) c.requires.trie c.halves-low.ensures.one c.halves-low.ensures.node in
    let falls : 2 * (c.args.bits - 1) + 1 < t = omega (arith, c.decreases, some) in
    let half : IsTrie (c.args.bits - 1) nodes c.halves-low.result.0 = tries.0 in
    let fewer : c.args.bits - 1 ≤ width_of c.args.family = omega (arith, c.requires.bits) in
    search rules

pub push_node-push_rows-requires-2 : goal.push_node-push_rows-requires-2
push_node-push_rows-requires-2 g t c κs within =
    let nodes = c.args.self.now.nodes.items in
    let some = some_bits nodes c.args.bits c.args.node.now c.requires.trie in
    let tries = half_tries c.args.bits nodes (Split c.args.node.now) _ _ (omega (arith, some)) c.requires.trie c.halves-low.ensures.one c.halves-low.ensures.node in
    let falls : 2 * (c.args.bits - 1) + 1 < t = omega (arith, c.decreases, some) in
    let half : IsTrie (c.args.bits - 1) nodes c.halves-low.result.1 = tries.1 in
    let fewer : c.args.bits - 1 ≤ width_of c.args.family = omega (arith, c.requires.bits) in
    search rules

pub push_node-returns-in_err-push_rows-clause-err : goal.push_node-returns-in_err-push_rows-clause-err
push_node-returns-in_err-push_rows-clause-err g t c = let exit = err_from_is_err_and c.from_residual-in_err-push_rows.result c.from_residual-in_err-push_rows.ensures.1 in rw exit.1 (λ u p.
    let two = push.two_halves c.args.self.now.nodes.items (width_of c.args.family) c.args.bits c.args.place c.args.node.now c.halves-low.result.0 c.halves-low.result.1 c.halves-low.ensures.node u p
    c.places-low_place-2.result.0 c.places-low_place-2.result.1 c.places-low_place-2.ensures.low c.places-low_place-2.ensures.high in
    push.low_stops c.args.family c.args.dst two g.S.Sink.has g.S.Sink.stopped c.args.out.now c.push_rows.new.out c.push_rows.new.out c.in_err-push_rows.ensures.err)

pub push_node-returns-clause-ok : goal.push_node-returns-clause-ok
push_node-returns-clause-ok g t c = on_ok_weaker c.push_rows-2.result (λ there u p.
    let two = push.two_halves c.args.self.now.nodes.items (width_of c.args.family) c.args.bits c.args.place c.args.node.now c.halves-low.result.0 c.halves-low.result.1 c.halves-low.ensures.node u p
    c.places-low_place-2.result.0 c.places-low_place-2.result.1 c.places-low_place-2.ensures.low c.places-low_place-2.ensures.high in
    push.both_put c.args.family c.args.dst two g.S.Sink.has g.S.Sink.stopped c.args.out.now c.push_rows.new.out c.push_rows-2.new.out c.in_ok-push_rows.ensures.ok there) c.push_rows-2.ensures.ok

pub push_node-returns-clause-err : goal.push_node-returns-clause-err
push_node-returns-clause-err g t c = on_err_weaker c.push_rows-2.result (λ there u p.
    let two = push.two_halves c.args.self.now.nodes.items (width_of c.args.family) c.args.bits c.args.place c.args.node.now c.halves-low.result.0 c.halves-low.result.1 c.halves-low.ensures.node u p
    c.places-low_place-2.result.0 c.places-low_place-2.result.1 c.places-low_place-2.ensures.low c.places-low_place-2.ensures.high in
    push.high_stops c.args.family c.args.dst two g.S.Sink.has g.S.Sink.stopped c.args.out.now c.push_rows.new.out c.push_rows-2.new.out c.in_ok-push_rows.ensures.ok there) c.push_rows-2.ensures.err

pub push_rows-returns-in-Same-clause-ok : goal.push_rows-returns-in-Same-clause-ok
push_rows-returns-in-Same-clause-ok g t c = on_ok_weaker c.push_constant.result (λ there u p. there u
    (one_shape c.args.self.now.nodes.items c.args.whole.now (leaf c.in-Same.constant) u c.in-Same.is p)) c.push_constant.ensures.ok

pub push_sources-returns-in-Constant-clause-ok : goal.push_sources-returns-in-Constant-clause-ok
push_sources-returns-in-Constant-clause-ok g t c = on_ok_weaker c.push_constant.result (λ there u p.
    let nodes = c.args.self.now.nodes.items in
    let opens = subst (λ (s : Sources (Option g.row.V.Denot)). Represents nodes s u) c.in-Constant.is p in
    there u (one_shape nodes opens.0 (leaf c.in-Constant.constant) u opens.1 opens.2)) c.push_constant.ensures.ok

pub push_sources-returns-in-Stored-clause-ok : goal.push_sources-returns-in-Stored-clause-ok
push_sources-returns-in-Stored-clause-ok g t c = on_ok_weaker c.push_node.result (λ there u p. there u
    (stored_stands c.args.self.now.nodes.items c.nodes.result.now c.args.sources.now c.in-Stored.number c.index.result u
    c.index-nodes-index.result c.in-Stored.is c.nodes.ensures c.index.ensures c.index-nodes-index.is p)) c.push_node.ensures.ok

pub push_rows-returns-in-Same-clause-err : goal.push_rows-returns-in-Same-clause-err
push_rows-returns-in-Same-clause-err g t c = on_err_weaker c.push_constant.result (λ there u p. there u
    (one_shape c.args.self.now.nodes.items c.args.whole.now (leaf c.in-Same.constant) u c.in-Same.is p)) c.push_constant.ensures.err

pub push_sources-returns-in-Constant-clause-err : goal.push_sources-returns-in-Constant-clause-err
push_sources-returns-in-Constant-clause-err g t c = on_err_weaker c.push_constant.result (λ there u p.
    let nodes = c.args.self.now.nodes.items in
    let opens = subst (λ (s : Sources (Option g.row.V.Denot)). Represents nodes s u) c.in-Constant.is p in
    there u (one_shape nodes opens.0 (leaf c.in-Constant.constant) u opens.1 opens.2)) c.push_constant.ensures.err

pub push_sources-returns-in-Stored-clause-err : goal.push_sources-returns-in-Stored-clause-err
push_sources-returns-in-Stored-clause-err g t c = on_err_weaker c.push_node.result (λ there u p. there u
    (stored_stands c.args.self.now.nodes.items c.nodes.result.now c.args.sources.now c.in-Stored.number c.index.result u
    c.index-nodes-index.result c.in-Stored.is c.nodes.ensures c.index.ensures c.index-nodes-index.is p)) c.push_node.ensures.err

pub push_node-halves-low-requires : goal.push_node-halves-low-requires
push_node-halves-low-requires g t c = (c.args.bits, omega (arith, c.requires.bits, width_le c.args.family), c.requires.trie)

pub push_rows-push_node-requires : goal.push_rows-push_node-requires
push_rows-push_node-requires g t c κs within =
    let nodes = c.args.self.now.nodes.items in
    let falls : 2 * c.args.bits < t = omega (arith, c.decreases) in
    let trie : IsTrie c.args.bits nodes (Split c.in-Split.node) = subst (IsTrie c.args.bits nodes) c.in-Split.is c.requires.trie in
    search rules

pub push_sources-bounds-nodes-index : goal.push_sources-bounds-nodes-index
push_sources-bounds-nodes-index g t c =
    let whole = c.requires.trie in
    stored_within c.args.self.now.nodes.items c.nodes.result.now c.args.sources.now c.in-Stored.number c.index.result whole.trie c.in-Stored.is c.nodes.ensures c.index.ensures whole.stands

pub push_sources-push_node-requires : goal.push_sources-push_node-requires
push_sources-push_node-requires g t c κs within =
    let nodes = c.args.self.now.nodes.items in
    let node = c.index-nodes-index.result in
    let whole = c.requires.trie in
    let falls : 2 * c.args.bits < t = omega (arith, c.decreases) in
    let stands = stored_stands nodes c.nodes.result.now c.args.sources.now c.in-Stored.number c.index.result whole.trie node c.in-Stored.is
    c.nodes.ensures c.index.ensures c.index-nodes-index.is whole.stands in
    let trie : IsTrie c.args.bits nodes (Split node) = record { trie = whole.trie; stands = stands; fits = whole.fits; reduced = whole.reduced } in
    search rules

pub push_node-places-low_place-requires-clause-bits : goal.push_node-places-low_place-requires-clause-bits
push_node-places-low_place-requires-clause-bits g t c = omega (arith, c.block_of_node-bits.ensures.bits, c.requires.bits)

pub push_node-places-low_place-requires-clause-place : goal.push_node-places-low_place-requires-clause-place
push_node-places-low_place-requires-clause-place g t c = c.block_of_node-bits.ensures.inside

pub push_rows-returns-in-Split-clause-ok : goal.push_rows-returns-in-Split-clause-ok
push_rows-returns-in-Split-clause-ok g t c = on_ok_weaker c.push_node.result (λ there u p. there u (subst (λ (x : Loose (Option g.row.V.Denot)). Stands c.args.self.now.nodes.items x u)
    c.in-Split.is p)) c.push_node.ensures.ok

pub push_rows-returns-in-Split-clause-err : goal.push_rows-returns-in-Split-clause-err
push_rows-returns-in-Split-clause-err g t c = on_err_weaker c.push_node.result (λ there u p. there u (subst (λ (x : Loose (Option g.row.V.Denot)). Stands c.args.self.now.nodes.items x u)
    c.in-Split.is p)) c.push_node.ensures.err
