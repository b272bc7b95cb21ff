-- The sender's entries lie together at the front of the range.
use Rattle.std.proofs.Common.{◌≡◌, ◌∙◌, ◌≤◌, suc, false, true, length, ap, arith, sym}
use Rattle.babel_timeline.specs.Silence.{row_count}
use Rattle.babel_timeline.proofs.CountLaws.{front, front-few, front-none, front-other, front-own, front_is}
use Rattle.babel_timeline.proofs.cells.count_from.Goals as goal

pub loop-subject-init : goal.loop-subject-init
loop-subject-init g c =
    let is : front g.S.Ord.cmp c.args.from.sender c.range-subjects.result ≡ row_count g.S.Ord.cmp c.args.from.sender c.args.places.now.entries =
    ap (front g.S.Ord.cmp c.args.from.sender) (c.range-subjects.ensures.between tt)
    ∙ front_is g.S.Ord.cmp g.met.S.Ord.total c.args.from.sender c.args.from.key c.requires c.args.places.now.entries c.range-subjects.ensures.ordered in
    omega (arith, is)

pub returns-then-not-has_sender : goal.returns-then-not-has_sender
returns-then-not-has_sender g c =
    let other : c.has_sender.result ≡ false = grind (arith, c.if-not-has_sender.true) in
    let none : front g.S.Ord.cmp c.args.from.sender c.loop-subject.subjects ≡ 0 =
    ap (front g.S.Ord.cmp c.args.from.sender) c.in-Some.ensures.steps
    ∙ front-other g.S.Ord.cmp c.args.from.sender (c.in-Some.subject.now, c.in-Some.field-0-1.now) c.next.new.self (sym c.has_sender.ensures ∙ other) in
    omega (arith, none, c.loop-subject.invariant)

pub overflow_add-count : goal.overflow_add-count
overflow_add-count g c =
    let is : front g.S.Ord.cmp c.args.from.sender c.range-subjects.result ≡ row_count g.S.Ord.cmp c.args.from.sender c.args.places.now.entries =
    ap (front g.S.Ord.cmp c.args.from.sender) (c.range-subjects.ensures.between tt)
    ∙ front_is g.S.Ord.cmp g.met.S.Ord.total c.args.from.sender c.args.from.key c.requires c.args.places.now.entries c.range-subjects.ensures.ordered in
    let few : front g.S.Ord.cmp c.args.from.sender c.range-subjects.result ≤ length c.range-subjects.result = front-few g.S.Ord.cmp c.args.from.sender c.range-subjects.result in
    let own : c.has_sender.result ≡ true = grind (arith, c.if-not-has_sender.false) in
    let one : front g.S.Ord.cmp c.args.from.sender c.loop-subject.subjects ≡ suc (front g.S.Ord.cmp c.args.from.sender c.next.new.self) =
    ap (front g.S.Ord.cmp c.args.from.sender) c.in-Some.ensures.steps
    ∙ front-own g.S.Ord.cmp c.args.from.sender (c.in-Some.subject.now, c.in-Some.field-0-1.now) c.next.new.self (sym c.has_sender.ensures ∙ own) in
    omega (arith, is, few, one, c.loop-subject.invariant, c.range-subjects.ensures.fits)

pub loop-subject-preserved : goal.loop-subject-preserved
loop-subject-preserved g c =
    let own : c.has_sender.result ≡ true = grind (arith, c.if-not-has_sender.false) in
    let one : front g.S.Ord.cmp c.args.from.sender c.loop-subject.subjects ≡ suc (front g.S.Ord.cmp c.args.from.sender c.next.new.self) =
    ap (front g.S.Ord.cmp c.args.from.sender) c.in-Some.ensures.steps
    ∙ front-own g.S.Ord.cmp c.args.from.sender (c.in-Some.subject.now, c.in-Some.field-0-1.now) c.next.new.self (sym c.has_sender.ensures ∙ own) in
    omega (arith, one, c.loop-subject.invariant)

pub returns : goal.returns
returns g c =
    let none : front g.S.Ord.cmp c.args.from.sender c.loop-subject.subjects ≡ 0 =
    front-none g.S.Ord.cmp c.args.from.sender c.loop-subject.subjects c.in_default.ensures.steps.0 in
    omega (arith, none, c.loop-subject.invariant)
