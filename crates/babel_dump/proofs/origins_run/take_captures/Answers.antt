use Rattle.std.proofs.Common.{◌+◌, ◌∷◌, List, drop, get_or, map, slice_set, arith, subst, sym, ap}
use Rattle.babel_dump.specs.AskedRun.{IsDump, IsMisplacedIn}
use Rattle.babel_dump.proofs.EventCauses.{err_exit}
use Rattle.babel_dump.proofs.OriginsTold.{Stream, TakingMore, left_at, none_left, refused_more, taking_capture, taking_captures, taking_no_capture}
use Rattle.babel_dump.proofs.origins_run.take_captures.Goals as goal

pub loop-stream-init : goal.loop-stream-init
loop-stream-init g c =
    let rest = map g.R.Read.remaining c.args.inputs.now.more.items in
    let first = g.R.Read.remaining c.args.inputs.now.first in
    let filter = c.args.origins.now.filter in
    let each = c.args.each.now in
    let before = c.args.told.now.originated.all.entries in
    let now = c.take_capture.new.told.originated.all.entries in
    subst (λ (left : List Stream). TakingMore filter c.args.side each (first ∷ rest) left before now) (sym (ap (map g.R.Read.remaining) c.deref_mut-stream-items.ensures.value))
    (taking_capture filter c.args.side each (first ∷ rest) before first rest before now (taking_no_capture filter c.args.side each (first ∷ rest) before) c.in_ok-take_capture.ensures.taken)

pub loop-stream-preserved : goal.loop-stream-preserved
loop-stream-preserved g c =
    let rest = map g.R.Read.remaining c.args.inputs.now.more.items in
    let first = g.R.Read.remaining c.args.inputs.now.first in
    let filter = c.args.origins.now.filter in
    let each = c.args.each.now in
    let before = c.args.told.now.originated.all.entries in
    let now = c.loop-stream.told.originated.all.entries in
    let items = c.loop-stream.stream-items in
    let place = c.loop-stream.stream-index in
    let item = get_or items place c.stream-item.result in
    taking_capture filter c.args.side each (first ∷ rest) before (g.R.Read.remaining item) _ now c.take_capture-in-loop-stream.new.told.originated.all.entries
    (subst (λ (left : List Stream). TakingMore filter c.args.side each (first ∷ rest) left before now)
    (left_at g.R.Read.remaining items place c.stream-item.result _ (omega (arith, c.loop-stream.auto.stream-items))) c.loop-stream.invariant)
    c.in_ok-take_capture-2.ensures.taken

pub returns-clause-taken : goal.returns-clause-taken
returns-clause-taken g c =
    let rest = map g.R.Read.remaining c.args.inputs.now.more.items in
    let first = g.R.Read.remaining c.args.inputs.now.first in
    taking_captures c.args.origins.now.filter c.args.side c.args.each.now (first ∷ rest) c.args.told.now.originated.all.entries
    (map g.R.Read.remaining (drop c.loop-stream.stream-index c.loop-stream.stream-items)) c.loop-stream.told.originated.all.entries
    (none_left g.R.Read.remaining c.loop-stream.stream-items c.loop-stream.stream-index (omega arith)) c.loop-stream.invariant

pub returns-in_err-take_capture-2-clause-refused : goal.returns-in_err-take_capture-2-clause-refused
returns-in_err-take_capture-2-clause-refused g c =
    let rest = map g.R.Read.remaining c.args.inputs.now.more.items in
    let first = g.R.Read.remaining c.args.inputs.now.first in
    let filter = c.args.origins.now.filter in
    let each = c.args.each.now in
    let before = c.args.told.now.originated.all.entries in
    let now = c.loop-stream.told.originated.all.entries in
    let items = c.loop-stream.stream-items in
    let place = c.loop-stream.stream-index in
    let item = get_or items place c.stream-item.result in
    let stream = g.R.Read.remaining item in
    let left = map g.R.Read.remaining (drop (place + 1) (slice_set items place item)) in
    err_exit c.from_residual-in_err-take_capture-2.result c.from_residual-in_err-take_capture-2.ensures.1 (λ trouble same.
    refused_more filter c.args.side each (first ∷ rest) stream left before now trouble
    (subst (λ (l : List Stream). TakingMore filter c.args.side each (first ∷ rest) l before now)
    (left_at g.R.Read.remaining items place c.stream-item.result item (omega (arith, c.loop-stream.auto.stream-items))) c.loop-stream.invariant)
    (subst (IsMisplacedIn (IsDump stream)) (sym same) c.in_err-take_capture-2.ensures.refused))
