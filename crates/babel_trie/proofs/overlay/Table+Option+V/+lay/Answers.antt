-- The rows of the whole block set a constant, and the others are laid over its halves.
use Rattle.std.proofs.Common.{◌≡◌, ℕ, ◌-◌, ◌+◌, ◌*◌, ◌^◌, ◌<◌, ◌≤◌, [], ◌++◌, Some, map, subst, arith, rules}
use Rattle.babel_trie.specs.declared.table.Loose.TheVariants.{Same}
use Rattle.babel_trie.specs.Inner.{IsInner}
use Rattle.babel_trie.specs.Interned.{IsTrie, IsNormalLoose}
use Rattle.babel_trie.specs.Laid.{HasOneDestination, IsLaid}
use Rattle.babel_prefix.specs.Entries.{row_of}
use Rattle.babel_trie.specs.Shape.{height, IsReduced}
use Rattle.babel_trie.specs.Rows.{source_block, AreParted, InBlock, IsPlace}
use Rattle.babel_trie.proofs.NumberLaws.{one_shape, Opens-grows, Stands-grows, IsNormalLoose-grows, form_from_sound}
use Rattle.babel_trie.specs.Sound.{IsLooseBelow}
use Rattle.babel_trie.proofs.FormLaws.{IsTrie-grows}
use Rattle.babel_trie.proofs.OneHalf.{only_place, only_rows, only_one, tries_by, normal_by, laid_by, opening, stored_trie}
use Rattle.babel_trie.proofs.PathLaws.{loose_below}
use Rattle.babel_trie.proofs.HalfLaws.{halved, half_tries, halves_normal, set_trie}
use Rattle.babel_trie.proofs.PlaceLaws.{place_low}
use Rattle.babel_trie.proofs.PartLaws.{some_holds, none_holds, on_ok_then, upper_place, upper_rows}
use Rattle.babel_trie.proofs.SourceLaws.{overlaid_set, overlaid_one, overlaid_joined, laid_over_set, rest_parted, one_left, one_right}
use Rattle.babel_trie.proofs.LaidAlong.{laid_along}
use Rattle.babel_trie.proofs.overlay.Table+Option+V.+lay.Goals as goal

pub lay_inside-returns-in-Some-clause-normal : goal.lay_inside-returns-in-Some-clause-normal
lay_inside-returns-in-Some-clause-normal g t c = c.alone.ensures.normal c.args.self.now.nodes.items

pub lay_inside-returns-in-Some-clause-laid : goal.lay_inside-returns-in-Some-clause-laid
lay_inside-returns-in-Some-clause-laid g t c start u inner inside =
    let a = c.args in
    let block = a.narrowed.now.block in
    let nodes = a.self.now.nodes.items in
    let one = c.in-Some.ensures in
    let fits : height inside.inside ≤ block.bits =
    subst (λ x. height x ≤ block.bits) (one_shape nodes a.narrowed.now.trie c.requires.trie.trie inside.inside c.requires.trie.stands
    inside.stands) c.requires.trie.fits in
    let laid = overlaid_one a.width block.bits block.start a.rows.now one.0 nodes inside.inside c.in-Some.only inner.place inner.rows_in c.requires.one one.1 one.2 one.3 in
    laid_along a.width a.bits start block.bits block.start block.path a.rows.now inner nodes nodes nodes a.narrowed.now.trie
    (Same (Some c.in-Some.only)) c.alone.result a.narrowed.now.beside u inside fits laid (c.alone.ensures.along nodes laid.new laid.stands)

pub lay_inside-lead_to-requires-clause-inside : goal.lay_inside-lead_to-requires-clause-inside
lay_inside-lead_to-requires-clause-inside g t c =
    let laid = c.in_ok-lay.ensures.laid c.requires.trie.trie c.requires.trie.stands in
    let fits : height laid.new ≤ 128 - (c.args.bits - c.args.narrowed.now.block.bits) = omega (arith, laid.fits c.requires.trie.fits, c.requires.inner.1.smaller, c.requires.bits, c.requires.width) in
    record { trie = laid.new; stands = laid.stands; fits = fits; reduced = laid.reduced c.requires.trie.reduced }

pub lay_inside-returns-clause-keeps : goal.lay_inside-returns-clause-keeps
lay_inside-returns-clause-keeps g t c = on_ok_then c.lead_to.result c.lead_to.ensures.keeps (λ keeps i node e. keeps i node (c.in_ok-lay.ensures.keeps i node e))

pub lay_inside-returns-clause-laid : goal.lay_inside-returns-clause-laid
lay_inside-returns-clause-laid g t c = on_ok_then c.lead_to.result c.lead_to.ensures.along (λ along start u inner inside.
    let a = c.args in
    let block = a.narrowed.now.block in
    let nodes = a.self.now.nodes.items in
    let fits : height inside.inside ≤ block.bits =
    subst (λ x. height x ≤ block.bits) (one_shape nodes a.narrowed.now.trie c.requires.trie.trie inside.inside c.requires.trie.stands
    inside.stands) c.requires.trie.fits in
    let laid = c.in_ok-lay.ensures.laid inside.inside inside.stands in
    laid_along a.width a.bits start block.bits block.start block.path a.rows.now inner nodes c.lay.new.self.nodes.items c.lead_to.new.self.nodes.items
    a.narrowed.now.trie c.lay.new.trie c.lead_to.new.trie a.narrowed.now.beside u inside fits laid
    (along laid.new laid.stands))

pub lay-lay_inside-requires : goal.lay-lay_inside-requires
lay-lay_inside-requires g t c κs within =
    let a = c.args in
    let nodes = a.self.now.nodes.items in
    let narrowed = c.in-Some.narrowed in
    let block = narrowed.block in
    let ensures = c.in-Some.ensures in
    let inside = ensures.inside nodes c.requires.trie.trie c.requires.normal c.requires.trie.stands in
    let falls : 3 * block.bits + 1 < t = omega (arith, c.decreases, ensures.inner.smaller) in
    let inner : (start : ℕ) × IsInner source_block a.width a.bits start a.rows.now block.bits block.start block.path = (a.start, ensures.inner) in
    let trie : IsTrie block.bits nodes narrowed.trie =
    record {
      trie = inside.inside;
      stands = inside.stands;
      fits =
          inside.lower block.bits (omega (arith, c.requires.trie.fits, ensures.inner.smaller));
      reduced = inside.reduced c.requires.trie.reduced;
    } in
    let normal : IsNormalLoose nodes narrowed.trie = ensures.normal nodes c.requires.normal in
    let bits : a.bits ≤ a.width = c.requires.place.bits_in in
    search rules

pub lay-returns-in-Some-clause-laid : goal.lay-returns-in-Some-clause-laid
lay-returns-in-Some-clause-laid g t c =
    let ensures = c.in-Some.ensures in
    on_ok_then c.lay_inside.result c.lay_inside.ensures.laid (λ laid u p. laid c.args.start u ensures.inner (ensures.inside c.args.self.now.nodes.items u c.requires.normal p))

pub lay-returns-in_default-rest-clause-laid : goal.lay-returns-in_default-rest-clause-laid
lay-returns-in_default-rest-clause-laid g t c u p =
    let a = c.args in
    overlaid_set a.width a.bits a.start a.rows.now c.parts.result.0.now c.args.self.now.nodes.items c.set.new.trie u c.requires.place c.requires.rows c.requires.one
    (none_holds c.parts.ensures.none c.in_default-rest.is) c.parts.ensures.own (c.set.ensures.is c.args.self.now.nodes.items u p)

pub lay-returns-in_default-rest-clause-normal : goal.lay-returns-in_default-rest-clause-normal
lay-returns-in_default-rest-clause-normal g t c = c.set.ensures.normal c.args.self.now.nodes.items c.requires.normal

pub lay-half-requires : goal.lay-half-requires
lay-half-requires g t c =
    let nodes = c.args.self.now.nodes.items in
    let set = c.set.ensures.is nodes c.requires.trie.trie c.requires.trie.stands in
    let below = subst (IsLooseBelow _) c.in-Split-Some.is-0 (loose_below nodes c.set.new.trie set.new (c.set.ensures.normal nodes c.requires.normal) set.stands) in
    record { below = below }

pub lay-lay-requires : goal.lay-lay-requires
lay-lay-requires g t c κs within =
    let a = c.args in
    let nodes = a.self.now.nodes.items in
    let only = c.in-Split-Some.only in
    let rest = c.in-Some-rest.rest in
    let parts = some_holds _ c.parts.ensures.halves c.in-Some-rest.is in
    let middle = some_holds _ c.parts.ensures.middle c.in-Some-rest.is in
    let half = some_holds _ c.only_half.ensures c.in-Split-Some.is-1 in
    let set = c.set.ensures.is nodes c.requires.trie.trie c.requires.trie.stands in
    let x = opening nodes c.in-Some-half.beside (some_holds _ c.half.ensures.beside c.in-Some-half.is) in
    let have = some_holds _ c.half.ensures.halves c.in-Some-half.is x.0 x.1 in
    let tries = tries_by a.width a.bits a.start rest.middle a.rows.now c.parts.result.0.now rest.low.now rest.high.now parts middle c.requires.one
    nodes c.set.new.trie c.in-Split-Some.node c.requires.trie.trie set c.in-Split-Some.is-0 c.requires.trie.fits c.requires.trie.reduced
    c.in-Some-half.inside x.0 only.low have in
    let falls : 3 * (a.bits - 1) < t = omega (arith, c.decreases, parts.some) in
    let trie : IsTrie (a.bits - 1) nodes c.in-Some-half.inside = tries.0 in
    let normal : IsNormalLoose nodes c.in-Some-half.inside = normal_by a.width a.bits a.start rest.middle a.rows.now c.parts.result.0.now rest.low.now
    rest.high.now parts middle c.requires.one nodes c.set.new.trie c.in-Split-Some.node c.requires.trie.trie set c.in-Split-Some.is-0
    c.requires.trie.fits c.requires.trie.reduced c.in-Some-half.inside x.0 only.low have
    (form_from_sound _ nodes a.self.now.numbers c.requires.sound) (c.set.ensures.normal nodes c.requires.normal) in
    let place : IsPlace a.width (a.bits - 1) only.start = only_place a.width a.bits a.start rest.middle a.rows.now c.parts.result.0.now rest.low.now
    rest.high.now parts middle c.requires.one only.low only.rows.now only.start half in
    let rows : InBlock source_block a.width (a.bits - 1) only.start only.rows.now =
    only_rows a.width a.bits a.start rest.middle a.rows.now c.parts.result.0.now rest.low.now rest.high.now parts middle c.requires.one only.low
    only.rows.now only.start half in
    let one : HasOneDestination only.rows.now = only_one a.width a.bits a.start rest.middle a.rows.now c.parts.result.0.now rest.low.now rest.high.now
    parts middle c.requires.one only.low only.rows.now only.start half in
    search rules

pub lay-join_beside-requires-clause-inside : goal.lay-join_beside-requires-clause-inside
lay-join_beside-requires-clause-inside g t c =
    let a = c.args in
    let nodes = a.self.now.nodes.items in
    let rest = c.in-Some-rest.rest in
    let parts = some_holds _ c.parts.ensures.halves c.in-Some-rest.is in
    let middle = some_holds _ c.parts.ensures.middle c.in-Some-rest.is in
    let set = c.set.ensures.is nodes c.requires.trie.trie c.requires.trie.stands in
    let x = opening nodes c.in-Some-half.beside (some_holds _ c.half.ensures.beside c.in-Some-half.is) in
    let have = some_holds _ c.half.ensures.halves c.in-Some-half.is x.0 x.1 in
    let tries = tries_by a.width a.bits a.start rest.middle a.rows.now c.parts.result.0.now rest.low.now rest.high.now parts middle c.requires.one
    nodes c.set.new.trie c.in-Split-Some.node c.requires.trie.trie set c.in-Split-Some.is-0 c.requires.trie.fits c.requires.trie.reduced
    c.in-Some-half.inside x.0 c.in-Split-Some.only.low have in
    let laid = c.in_ok-lay.ensures.laid tries.0.trie tries.0.stands in
    let fits : height laid.new ≤ 127 = omega (arith, laid.fits tries.0.fits, c.requires.place.bits_in, c.requires.width) in
    record { trie = laid.new; stands = laid.stands; fits = fits; reduced = laid.reduced tries.0.reduced }

pub lay-join_beside-requires-clause-beside : goal.lay-join_beside-requires-clause-beside
lay-join_beside-requires-clause-beside g t c =
    let a = c.args in
    let nodes = a.self.now.nodes.items in
    let rest = c.in-Some-rest.rest in
    let parts = some_holds _ c.parts.ensures.halves c.in-Some-rest.is in
    let middle = some_holds _ c.parts.ensures.middle c.in-Some-rest.is in
    let set = c.set.ensures.is nodes c.requires.trie.trie c.requires.trie.stands in
    let x = opening nodes c.in-Some-half.beside (some_holds _ c.half.ensures.beside c.in-Some-half.is) in
    let have = some_holds _ c.half.ensures.halves c.in-Some-half.is x.0 x.1 in
    let tries = tries_by a.width a.bits a.start rest.middle a.rows.now c.parts.result.0.now rest.low.now rest.high.now parts middle c.requires.one
    nodes c.set.new.trie c.in-Split-Some.node c.requires.trie.trie set c.in-Split-Some.is-0 c.requires.trie.fits c.requires.trie.reduced
    c.in-Some-half.inside x.0 c.in-Split-Some.only.low have in
    stored_trie (a.bits - 1) nodes c.lay.new.self.nodes.items c.in-Some-half.beside x.0 c.in_ok-lay.ensures.keeps x.1 tries.1 (omega (arith, c.requires.place.bits_in, c.requires.width))

pub lay-returns-in-Some-half-clause-keeps : goal.lay-returns-in-Some-half-clause-keeps
lay-returns-in-Some-half-clause-keeps g t c = on_ok_then c.join_beside.result c.join_beside.ensures.keeps (λ keeps i node e. keeps i node (c.in_ok-lay.ensures.keeps i node e))

pub lay-returns-in-Some-half-clause-laid : goal.lay-returns-in-Some-half-clause-laid
lay-returns-in-Some-half-clause-laid g t c = on_ok_then c.join_beside.result c.join_beside.ensures.joins (λ joins u p.
    let a = c.args in
    let nodes = a.self.now.nodes.items in
    let nodes2 = c.lay.new.self.nodes.items in
    let only = c.in-Split-Some.only in
    let rest = c.in-Some-rest.rest in
    let parts = some_holds _ c.parts.ensures.halves c.in-Some-rest.is in
    let middle = some_holds _ c.parts.ensures.middle c.in-Some-rest.is in
    let half = some_holds _ c.only_half.ensures c.in-Split-Some.is-1 in
    let same = one_shape nodes a.trie.now c.requires.trie.trie u c.requires.trie.stands p in
    let fits : height u ≤ a.bits = subst (λ x. height x ≤ a.bits) same c.requires.trie.fits in
    let reduced : IsReduced u = subst IsReduced same c.requires.trie.reduced in
    let set = c.set.ensures.is nodes u p in
    let beside = c.in-Some-half.beside in
    let x = opening nodes beside (some_holds _ c.half.ensures.beside c.in-Some-half.is) in
    let have = some_holds _ c.half.ensures.halves c.in-Some-half.is x.0 x.1 in
    let keeps = c.in_ok-lay.ensures.keeps in
    laid_by a.width a.bits a.start rest.middle a.rows.now c.parts.result.0.now rest.low.now rest.high.now parts middle c.requires.one nodes
    c.set.new.trie c.in-Split-Some.node u set c.in-Split-Some.is-0 fits reduced c.in-Some-half.inside x.0 only.low only.rows.now only.start half have
    nodes2 c.join_beside.new.self.nodes.items c.lay.new.trie c.join_beside.new.whole keeps c.in_ok-lay.ensures.laid
    (joins x.0 (Opens-grows nodes nodes2 keeps beside x.0 x.1)))

pub lay-lay_halves-requires : goal.lay-lay_halves-requires
lay-lay_halves-requires g t c κs within =
    let a = c.args in
    let nodes = a.self.now.nodes.items in
    let own = c.parts.result.0.now in
    let rest = c.in-Some-rest.rest in
    let parts = some_holds _ c.parts.ensures.halves c.in-Some-rest.is in
    let set = c.set.ensures.is nodes c.requires.trie.trie c.requires.trie.stands in
    let falls : 3 * a.bits - 1 < t = omega (arith, c.decreases, parts.some) in
    let trie : IsTrie a.bits nodes c.set.new.trie = set_trie a.bits own nodes c.set.new.trie c.requires.trie.trie set c.requires.trie.fits c.requires.trie.reduced in
    let normal : IsNormalLoose nodes c.set.new.trie = c.set.ensures.normal nodes c.requires.normal in
    let middle : rest.middle ≡ a.start + 2 ^ (a.bits - 1) = some_holds _ c.parts.ensures.middle c.in-Some-rest.is in
    let rows : AreParted source_block a.width a.bits a.start (rest.low.now ++ rest.high.now) [] rest.low.now rest.high.now =
    rest_parted a.width a.bits a.start a.rows.now own rest.low.now rest.high.now parts in
    let one : HasOneDestination (rest.low.now ++ rest.high.now) = one_right own (rest.low.now ++ rest.high.now) (subst HasOneDestination parts.whole c.requires.one) in
    search rules

pub lay-returns-clause-laid : goal.lay-returns-clause-laid
lay-returns-clause-laid g t c = on_ok_then c.lay_halves.result c.lay_halves.ensures.laid (λ laid u p.
    let a = c.args in
    let nodes = a.self.now.nodes.items in
    let rest = c.in-Some-rest.rest in
    let parts = some_holds _ c.parts.ensures.halves c.in-Some-rest.is in
    let set = c.set.ensures.is nodes u p in
    laid_over_set a.width a.bits a.start a.rows.now c.parts.result.0.now rest.low.now rest.high.now parts c.requires.one nodes
    c.lay_halves.new.self.nodes.items c.set.new.trie c.lay_halves.new.trie u set
    (laid set.new set.stands))

pub lay_halves-lay-requires : goal.lay_halves-lay-requires
lay_halves-lay-requires g t c κs within =
    let a = c.args in
    let nodes = a.self.now.nodes.items in
    let low = c.halves-low.result.0 in
    let high = c.halves-low.result.1 in
    let halves = c.halves-low.ensures in
    let parts = c.requires.rows in
    let tries = half_tries a.bits nodes a.trie.now low high parts.some c.requires.trie halves.one halves.node in
    let normals = halves_normal nodes (form_from_sound _ nodes a.self.now.numbers c.requires.sound) a.trie.now low high halves.one halves.node c.requires.normal in
    let falls : 3 * (a.bits - 1) < t = omega (arith, c.decreases, parts.some) in
    let trie : IsTrie (a.bits - 1) nodes low = tries.0 in
    let normal : IsNormalLoose nodes low = normals.0 in
    let place : IsPlace a.width (a.bits - 1) a.start = place_low a.width a.bits a.start parts.place parts.some in
    let rows : InBlock source_block a.width (a.bits - 1) a.start a.rows.now.low.now = parts.low_in in
    let one : HasOneDestination a.rows.now.low.now = one_left a.rows.now.low.now a.rows.now.high.now c.requires.one in
    search rules

pub lay_halves-lay-requires-2 : goal.lay_halves-lay-requires-2
lay_halves-lay-requires-2 g t c κs within =
    let a = c.args in
    let nodes = a.self.now.nodes.items in
    let new = c.lay.new.self.nodes.items in
    let keeps = c.in_ok-lay.ensures.keeps in
    let low = c.halves-low.result.0 in
    let high = c.halves-low.result.1 in
    let halves = c.halves-low.ensures in
    let parts = c.requires.rows in
    let tries = half_tries a.bits nodes a.trie.now low high parts.some c.requires.trie halves.one halves.node in
    let normals = halves_normal nodes (form_from_sound _ nodes a.self.now.numbers c.requires.sound) a.trie.now low high halves.one halves.node c.requires.normal in
    let falls : 3 * (a.bits - 1) < t = omega (arith, c.decreases, parts.some) in
    let trie : IsTrie (a.bits - 1) new high = IsTrie-grows nodes new keeps (a.bits - 1) high tries.1 in
    let normal : IsNormalLoose new high = IsNormalLoose-grows nodes new keeps high normals.1 in
    let place : IsPlace a.width (a.bits - 1) a.rows.now.middle = upper_place c.requires.middle parts in
    let rows : InBlock source_block a.width (a.bits - 1) a.rows.now.middle a.rows.now.high.now = upper_rows c.requires.middle parts in
    let one : HasOneDestination a.rows.now.high.now = one_right a.rows.now.low.now a.rows.now.high.now c.requires.one in
    search rules

pub lay_halves-join-requires-clause-low : goal.lay_halves-join-requires-clause-low
lay_halves-join-requires-clause-low g t c =
    let a = c.args in
    let nodes = a.self.now.nodes.items in
    let trie = (half_tries a.bits nodes a.trie.now _ _ c.requires.rows.some c.requires.trie c.halves-low.ensures.one c.halves-low.ensures.node).0 in
    let laid = c.in_ok-lay.ensures.laid trie.trie trie.stands in
    let fits : height laid.new ≤ 127 = omega (arith, laid.fits trie.fits, c.requires.rows.place.bits_in, c.requires.width) in
    IsTrie-grows c.lay.new.self.nodes.items c.lay-2.new.self.nodes.items c.in_ok-lay-2.ensures.keeps 127 c.lay.new.trie
    (record { trie = laid.new; stands = laid.stands; fits = fits; reduced = laid.reduced trie.reduced })

pub lay_halves-join-requires-clause-high : goal.lay_halves-join-requires-clause-high
lay_halves-join-requires-clause-high g t c =
    let a = c.args in
    let nodes = a.self.now.nodes.items in
    let high = c.halves-low.result.1 in
    let trie = (half_tries a.bits nodes a.trie.now _ high c.requires.rows.some c.requires.trie c.halves-low.ensures.one c.halves-low.ensures.node).1 in
    let laid = c.in_ok-lay-2.ensures.laid trie.trie (Stands-grows nodes c.lay.new.self.nodes.items c.in_ok-lay.ensures.keeps high trie.trie trie.stands) in
    let fits : height laid.new ≤ 127 = omega (arith, laid.fits trie.fits, c.requires.rows.place.bits_in, c.requires.width) in
    record { trie = laid.new; stands = laid.stands; fits = fits; reduced = laid.reduced trie.reduced }

pub lay_halves-join-requires-clause-low_normal : goal.lay_halves-join-requires-clause-low_normal
lay_halves-join-requires-clause-low_normal g t c =
    IsNormalLoose-grows c.lay.new.self.nodes.items c.lay-2.new.self.nodes.items c.in_ok-lay-2.ensures.keeps c.lay.new.trie c.in_ok-lay.ensures.normal

pub lay_halves-returns-clause-keeps : goal.lay_halves-returns-clause-keeps
lay_halves-returns-clause-keeps g t c =
    on_ok_then c.join.result c.join.ensures.keeps (λ keeps i node e. keeps i node (c.in_ok-lay-2.ensures.keeps i node (c.in_ok-lay.ensures.keeps i node e)))

pub lay_halves-returns-clause-laid : goal.lay_halves-returns-clause-laid
lay_halves-returns-clause-laid g t c = on_ok_then c.join.result c.join.ensures.joins (λ joins u p.
    let a = c.args in
    let low = a.rows.now.low.now in
    let high = a.rows.now.high.now in
    let low_half = c.halves-low.result.0 in
    let high_half = c.halves-low.result.1 in
    let nodes1 = a.self.now.nodes.items in
    let nodes2 = c.lay.new.self.nodes.items in
    let nodes3 = c.lay-2.new.self.nodes.items in
    let fits : height u ≤ a.bits = subst (λ x. height x ≤ a.bits) (one_shape nodes1 a.trie.now c.requires.trie.trie u c.requires.trie.stands p) c.requires.trie.fits in
    let halved = halved nodes1 a.trie.now low_half high_half c.halves-low.ensures.one c.halves-low.ensures.node u p in
    let in_low = c.in_ok-lay.ensures.laid halved.low_half halved.low_stands in
    let there = c.in_ok-lay-2.ensures.laid halved.high_half (Stands-grows nodes1 nodes2 c.in_ok-lay.ensures.keeps high_half halved.high_half halved.high_stands) in
    let in_high = subst (λ m. IsLaid a.width (a.bits - 1) m (map row_of high) nodes3 c.lay-2.new.trie halved.high_half) c.requires.middle there in
    let joined = joins in_low.new in_high.new (Stands-grows nodes2 nodes3 c.in_ok-lay-2.ensures.keeps c.lay.new.trie in_low.new in_low.stands) in_high.stands in
    overlaid_joined a.width a.bits a.start low high c.requires.rows nodes1 nodes2 nodes3 c.join.new.self.nodes.items low_half high_half c.lay.new.trie c.lay-2.new.trie c.join.new.whole u
    halved in_low in_high joined fits)
