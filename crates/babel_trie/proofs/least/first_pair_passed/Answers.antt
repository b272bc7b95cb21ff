-- Up to the next change of either both passes have come to one thing each.
use Rattle.std.proofs.Common.{ℕ, ◌^◌, ◌<◌, Option, refl, sym, subst, arith}
use Rattle.std.proofs.lemmas.Nat.{pow_pos}
use Rattle.std.specs.Option.{IfSome}
use Rattle.babel_trie.specs.Pass.{ahead_of, rows_left}
use Rattle.babel_trie.proofs.NodeLaws.{sound_by}
use Rattle.babel_trie.proofs.AgreeLaws.{agree-more, differ-here}
use Rattle.babel_trie.proofs.PairLaws.{come, rows_from}
use Rattle.babel_trie.proofs.least.first_pair_passed.Goals as goal

pub loop-other-init : goal.loop-other-init
loop-other-init g c =
    let w = c.args.width in
    let table = c.new-table.result in
    record {
      sound = sound_by (λ _ _. refl) (λ _ _. refl) (λ _ _. refl) (λ _ _. refl) c.new-table.ensures.sound;
      pass = c.new-pass.ensures.pass w table.nodes.items c.requires.left_order c.requires.left_table;
      other = c.new-other.ensures.pass w table.nodes.items c.requires.right_order c.requires.right_table;
      reached = omega (arith, c.new-pass.ensures.start);
      other_reached = omega (arith, c.new-other.ensures.start);
      rows = λ row t. omega arith;
      other_rows = λ row t. omega arith;
      within = pow_pos w;
      below = λ d lt. absurd (omega arith);
    }

pub reach_both-requires-clause-sound : goal.reach_both-requires-clause-sound
reach_both-requires-clause-sound g c = sound_by (λ _ _. refl) (λ _ _. refl) (λ _ _. refl) (λ _ _. refl) c.loop-other.invariant.sound

pub first_difference-requires-clause-trie : goal.first_difference-requires-clause-trie
first_difference-requires-clause-trie g c =
    let i = c.loop-other.invariant in
    let at = c.loop-other.at in
    let reach = c.in_ok-next.ensures in
    (come (reach.pass _ i.pass) at reach.reached i.within ((reach.next at).0 reach.behind).0 c.sources-here.result c.sources-here.ensures).held

pub first_difference-requires-clause-other_trie : goal.first_difference-requires-clause-other_trie
first_difference-requires-clause-other_trie g c =
    let i = c.loop-other.invariant in
    let at = c.loop-other.at in
    let reach = c.in_ok-next.ensures in
    (come (reach.other _ i.other) at reach.other_reached i.within ((reach.next at).0 reach.behind).1 c.sources-there.result c.sources-there.ensures).held

pub returns-in-Some : goal.returns-in-Some
returns-in-Some g c =
    let i = c.loop-other.invariant in
    let at = c.loop-other.at in
    let reach = c.in_ok-next.ensures in
    let quiet = (reach.next at).0 reach.behind in
    let l = come (reach.pass _ i.pass) at reach.reached i.within quiet.0 c.sources-here.result c.sources-here.ensures in
    let r = come (reach.other _ i.other) at reach.other_reached i.within quiet.1 c.sources-there.result c.sources-there.ensures in
    differ-here l r i.below i.within c.in-Some.src (c.in-Some.ensures l.held.trie r.held.trie l.held.stands r.held.stands)

pub returns-in_default-next : goal.returns-in_default-next
returns-in_default-next g c =
    let i = c.loop-other.invariant in
    let at = c.loop-other.at in
    let reach = c.in_ok-next.ensures in
    let quiet = (reach.next at).0 reach.behind in
    let l = come (reach.pass _ i.pass) at reach.reached i.within quiet.0 c.sources-here.result c.sources-here.ensures in
    let r = come (reach.other _ i.other) at reach.other_reached i.within quiet.1 c.sources-there.result c.sources-there.ensures in
    agree-more l r i.below (2 ^ c.args.width) (omega arith) (λ d lt. (reach.next d).0 (subst (λ (o : Option ℕ). IfSome o (λ start. d < start)) (sym c.in_default-next.is) tt))
    (c.in_default.ensures l.held.trie r.held.trie l.held.stands r.held.stands)

pub loop-other-preserved : goal.loop-other-preserved
loop-other-preserved g c =
    let i = c.loop-other.invariant in
    let at = c.loop-other.at in
    let reach = c.in_ok-next.ensures in
    let pass = c.reach_both.new.pass in
    let other = c.reach_both.new.other in
    let quiet = (reach.next at).0 reach.behind in
    let l = come (reach.pass _ i.pass) at reach.reached i.within quiet.0 c.sources-here.result c.sources-here.ensures in
    let r = come (reach.other _ i.other) at reach.other_reached i.within quiet.1 c.sources-there.result c.sources-there.ensures in
    let start = c.in-Some-next.start in
    let near = λ (d : ℕ) (lt : d < start). (reach.next d).0 (subst (λ (o : Option ℕ). IfSome o (λ next. d < next)) (sym c.in-Some-next.is) lt) in
    let behind : at < start = subst (λ (o : Option ℕ). IfSome o (λ next. at < next)) c.in-Some-next.is reach.behind in
    let within : start < 2 ^ c.args.width = subst (λ (o : Option ℕ). IfSome o (λ next. next < 2 ^ c.args.width)) c.in-Some-next.is reach.within in
    record {
      sound = sound_by (λ _ _. refl) (λ _ _. refl) (λ _ _. refl) (λ _ _. refl) reach.sound;
      pass = reach.pass _ i.pass;
      other = reach.other _ i.other;
      reached = omega (arith, reach.reached);
      other_reached = omega (arith, reach.other_reached);
      rows = rows_from (ahead_of pass) (rows_left g.L.Rows.rows pass) start (λ d lt. (near d lt).0);
      other_rows = rows_from (ahead_of other) (rows_left g.R.Rows.rows other) start (λ d lt. (near d lt).1);
      within = within;
      below = agree-more l r i.below start (omega arith) near (c.in_default.ensures l.held.trie r.held.trie l.held.stands r.held.stands);
    }
