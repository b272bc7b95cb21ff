-- From one change of either list to the next both say one thing each.
use Rattle.std.proofs.Common.{◌+◌, ◌-◌, ◌^◌, ◌<◌, ◌≤◌, Some, None, ◌∙◌, arith}
use Rattle.std.proofs.Math.Pow.{pow_mono}
use Rattle.babel_trie.specs.Runs.{StartAfter}
use Rattle.babel_trie.proofs.AgreeLaws.{agree-more, differ-here}
use Rattle.babel_trie.proofs.ApartLaws.{no_sources, said-first, list_at, first-same}
use Rattle.babel_trie.proofs.RunBoxes.{some_change, from_zero}
use Rattle.babel_trie.proofs.apart.Table+Option+V.first_pair.Goals as goal

pub last_address-last-requires : goal.last_address-last-requires
last_address-last-requires g c = omega (arith, pow_mono {i = c.args.width} {j = 128} c.requires.width)

pub bounds-left-0 : goal.bounds-left-0
bounds-left-0 g c = some_change c.args.width c.args.self.now.nodes.items c.args.left.now c.requires.left.0 c.requires.left.1

pub bounds-right-0 : goal.bounds-right-0
bounds-right-0 g c = some_change c.args.width c.args.other.now.nodes.items c.args.right.now c.requires.right.0 c.requires.right.1

pub bounds-left-0-2 : goal.bounds-left-0-2
bounds-left-0-2 g c = some_change c.args.width c.args.self.now.nodes.items c.args.left.now c.requires.left.0 c.requires.left.1

pub bounds-right-0-2 : goal.bounds-right-0-2
bounds-right-0-2 g c = some_change c.args.width c.args.other.now.nodes.items c.args.right.now c.requires.right.0 c.requires.right.1

pub loop-src-smaller : goal.loop-src-smaller
loop-src-smaller g c =
    let from : c.loop-src.at ≤ c.nearer-end.result = c.nearer-end.ensures.from c.loop-src.at c.last_before.ensures.from c.last_before-in-loop-src.ensures.from in
    let falls : 2 ^ 128 - (c.nearer-end.result + 1) < 2 ^ 128 - c.loop-src.at =
    omega (arith, from, c.if-last-end.false, c.last_address-last.ensures, pow_mono {i = c.args.width} {j = 128} c.requires.width) in
    falls

pub loop-src-init : goal.loop-src-init
loop-src-init g c =
    let a = c.args in
    let w = a.width in
    let p = c.requires.left.1 in
    let q = c.requires.right.1 in
    let some = some_change w a.self.now.nodes.items a.left.now c.requires.left.0 p in
    let other_some = some_change w a.other.now.nodes.items a.right.now c.requires.right.0 q in
    let first = from_zero w a.self.now.nodes.items a.left.now c.requires.left.0 p in
    let other_first = from_zero w a.other.now.nodes.items a.right.now c.requires.right.0 q in
    record {
      in_range = omega arith;
      below = λ d none. absurd (omega arith);
      left_same = λ d le. said-first a.left.now c.index-left-0.result no_sources (2 ^ w) some first d;
      right_same = λ d le. said-first a.right.now c.index-right-0.result no_sources (2 ^ w) other_some other_first d;
      left_runs = p.runs;
      right_runs = q.runs;
      left_from = λ x t. omega arith;
      right_from = λ x t. omega arith;
    }

pub first_difference-requires-clause-trie : goal.first_difference-requires-clause-trie
first_difference-requires-clause-trie g c =
    let at_in : c.loop-src.at < 2 ^ c.args.width = omega (arith, c.loop-src.invariant.in_range, c.last_address-last.ensures) in
    (list_at c.requires.left.1 c.loop-src.here c.behind.result.1 c.loop-src.lefts.now c.behind.result.0.now c.loop-src.at at_in c.loop-src.invariant.left_same c.behind.ensures.same
    c.behind.ensures.behind).held

pub first_difference-requires-clause-other_trie : goal.first_difference-requires-clause-other_trie
first_difference-requires-clause-other_trie g c =
    let at_in : c.loop-src.at < 2 ^ c.args.width = omega (arith, c.loop-src.invariant.in_range, c.last_address-last.ensures) in
    (list_at c.requires.right.1 c.loop-src.there c.behind-in-loop-src.result.1 c.loop-src.rights.now c.behind-in-loop-src.result.0.now c.loop-src.at at_in c.loop-src.invariant.right_same
    c.behind-in-loop-src.ensures.same c.behind-in-loop-src.ensures.behind).held

pub returns-in-Some : goal.returns-in-Some
returns-in-Some g c f f' p q =
    let at_in : c.loop-src.at < 2 ^ c.args.width = omega (arith, c.loop-src.invariant.in_range, c.last_address-last.ensures) in
    let l = list_at c.requires.left.1 c.loop-src.here c.behind.result.1 c.loop-src.lefts.now c.behind.result.0.now c.loop-src.at at_in c.loop-src.invariant.left_same c.behind.ensures.same
    c.behind.ensures.behind in
    let r = list_at c.requires.right.1 c.loop-src.there c.behind-in-loop-src.result.1 c.loop-src.rights.now c.behind-in-loop-src.result.0.now c.loop-src.at at_in c.loop-src.invariant.right_same
    c.behind-in-loop-src.ensures.same c.behind-in-loop-src.ensures.behind in
    let first = differ-here l r c.loop-src.invariant.below at_in c.in-Some.src (c.in-Some.ensures l.held.trie r.held.trie l.held.stands r.held.stands) in
    first-same c.args.width _ _ f f' (p.answers no_sources) (q.answers no_sources) (Some (c.loop-src.at, c.in-Some.src)) first

pub returns-then-last-end : goal.returns-then-last-end
returns-then-last-end g c f f' p q =
    let at_in : c.loop-src.at < 2 ^ c.args.width = omega (arith, c.loop-src.invariant.in_range, c.last_address-last.ensures) in
    let l = list_at c.requires.left.1 c.loop-src.here c.behind.result.1 c.loop-src.lefts.now c.behind.result.0.now c.loop-src.at at_in c.loop-src.invariant.left_same c.behind.ensures.same
    c.behind.ensures.behind in
    let r = list_at c.requires.right.1 c.loop-src.there c.behind-in-loop-src.result.1 c.loop-src.rights.now c.behind-in-loop-src.result.0.now c.loop-src.at at_in c.loop-src.invariant.right_same
    c.behind-in-loop-src.ensures.same c.behind-in-loop-src.ensures.behind in
    let same = agree-more l r c.loop-src.invariant.below (2 ^ c.args.width) (omega arith) (λ d lt. (
      λ x t. omega (arith, c.last_before.ensures.behind x t, c.nearer-end.ensures.first, c.if-last-end.true, c.last_address-last.ensures),
      λ x t. omega (arith, c.last_before-in-loop-src.ensures.behind x t, c.nearer-end.ensures.second, c.if-last-end.true, c.last_address-last.ensures),
    )) (c.in_default.ensures l.held.trie r.held.trie l.held.stands r.held.stands) in
    first-same c.args.width _ _ f f' (p.answers no_sources) (q.answers no_sources) None same

pub loop-src-preserved : goal.loop-src-preserved
loop-src-preserved g c =
    let i = c.loop-src.invariant in
    let end = c.nearer-end.result in
    let from : c.loop-src.at ≤ end = c.nearer-end.ensures.from c.loop-src.at c.last_before.ensures.from c.last_before-in-loop-src.ensures.from in
    let ahead : StartAfter end c.behind.result.0.now = λ x t. omega (arith, c.last_before.ensures.behind x t, c.nearer-end.ensures.first) in
    let ahead' : StartAfter end c.behind-in-loop-src.result.0.now = λ x t. omega (arith, c.last_before-in-loop-src.ensures.behind x t, c.nearer-end.ensures.second) in
    let at_in : c.loop-src.at < 2 ^ c.args.width = omega (arith, c.loop-src.invariant.in_range, c.last_address-last.ensures) in
    let l = list_at c.requires.left.1 c.loop-src.here c.behind.result.1 c.loop-src.lefts.now c.behind.result.0.now c.loop-src.at at_in c.loop-src.invariant.left_same c.behind.ensures.same
    c.behind.ensures.behind in
    let r = list_at c.requires.right.1 c.loop-src.there c.behind-in-loop-src.result.1 c.loop-src.rights.now c.behind-in-loop-src.result.0.now c.loop-src.at at_in c.loop-src.invariant.right_same
    c.behind-in-loop-src.ensures.same c.behind-in-loop-src.ensures.behind in
    record {
      in_range = omega (arith, c.if-last-end.false);
      below = agree-more l r i.below (end + 1) (omega (arith, c.if-last-end.false, c.last_address-last.ensures)) (λ d lt. ((λ x t. omega (arith, ahead x t)), (λ x t. omega (arith, ahead' x t))))
          (c.in_default.ensures l.held.trie r.held.trie l.held.stands r.held.stands);
      left_same = λ d le. c.behind.ensures.same d (omega arith) ∙ i.left_same d (omega arith);
      right_same = λ d le. c.behind-in-loop-src.ensures.same d (omega arith) ∙ i.right_same d (omega arith);
      left_runs = c.behind.ensures.runs;
      right_runs = c.behind-in-loop-src.ensures.runs;
      left_from = λ x t. omega (arith, ahead x t);
      right_from = λ x t. omega (arith, ahead' x t);
    }
