-- Up to the next change of either both passes have come to one thing each, which are told apart once.
use Rattle.std.proofs.Common.{◌≡◌, ℕ, ◌^◌, ◌<◌, List, [], ◌∷◌, map, Option, refl, sym, subst, arith}
use Rattle.std.proofs.lemmas.Nat.{pow_pos}
use Rattle.std.specs.Option.{IfSome, option_cmp}
use Rattle.babel_prefix.specs.Best.{answer}
use Rattle.babel_prefix.specs.Entries.{row_of}
use Rattle.babel_trie.specs.Boxes.{Answers}
use Rattle.babel_trie.specs.Early.{AgreeUpTo}
use Rattle.babel_trie.specs.Marks.{option_mark, differing_mark, sources_mark}
use Rattle.babel_trie.specs.Pass.{ahead_of, rows_left}
use Rattle.babel_trie.specs.Runs.{AreRuns, StartBelow, HasRuns}
use Rattle.babel_trie.specs.Sound.{IsSound}
use Rattle.babel_trie.specs.declared.differing.Differing.{Differing}
use Rattle.babel_trie.specs.declared.runs.Change.{Change}
use Rattle.babel_trie.specs.declared.table.Node.{Node}
use Rattle.babel_trie.specs.declared.table.Sources.{Sources}
use Rattle.babel_trie.specs.declared.table.Table.{Table}
use Rattle.babel_trie.proofs.BoxesExist.{test_by}
use Rattle.babel_trie.proofs.EarlyRuns.{agree_so_far, has_runs_so_far, so_far}
use Rattle.babel_trie.proofs.NodeLaws.{sources_cmp, sound_by}
use Rattle.babel_trie.proofs.PairLaws.{come, rows_from}
use Rattle.babel_trie.proofs.RunLaws.{Says, says-all}
use Rattle.babel_trie.proofs.TellLaws.{differing_cmp}
use Rattle.babel_trie.proofs.ToldRuns.{apart, boxes_apart, is_apart, told-more}
use Rattle.babel_trie.proofs.comparison.Comparison.runs.Goals as goal

-- nothing is said
none_said : {V : Type 0} (w : ℕ) (nodes : List (Node (Option V))) (list : List (Change (Sources (Option V)))) → list ≡ [] →
    AreRuns list × StartBelow 0 list × ((h : Answers V) → Says w 0 h nodes list)
none_said w nodes [] is = (tt, (λ x t. elim t [ ]), (λ h none d lt. absurd (omega arith)))
none_said w nodes (x ∷ list) is = cc

pub loop-list-init : goal.loop-list-init
loop-list-init g c =
    let w = c.args.width in
    let table = c.new-table.result in
    let differing = c.args.self.now.differences in
    let none = none_said w differing.nodes.items c.new-list.result.items c.new-list.ensures.items in
    record {
      differing = sound_by (λ _ _. refl) (λ _ _. refl) (λ _ _. refl) (λ _ _. refl) c.requires.sound;
      sound = sound_by (λ _ _. refl) (λ _ _. refl) (λ _ _. refl) (λ _ _. refl) c.new-table.ensures.sound;
      pass = c.new-pass.ensures.pass w table.nodes.items c.requires.left_order c.requires.left_table;
      other = c.new-other.ensures.pass w table.nodes.items c.requires.right_order c.requires.right_table;
      reached = omega (arith, c.new-pass.ensures.start);
      other_reached = omega (arith, c.new-other.ensures.start);
      rows = λ row t. omega arith;
      other_rows = λ row t. omega arith;
      within = pow_pos w;
      runs = none.0;
      below = none.1;
      says = λ h _. none.2 h;
    }

pub reach_both-requires-clause-sound : goal.reach_both-requires-clause-sound
reach_both-requires-clause-sound g c = sound_by (λ _ _. refl) (λ _ _. refl) (λ _ _. refl) (λ _ _. refl) c.loop-list.invariant.sound

pub told_sources-requires-clause-sound : goal.told_sources-requires-clause-sound
told_sources-requires-clause-sound g c = sound_by (λ _ _. refl) (λ _ _. refl) (λ _ _. refl) (λ _ _. refl) c.loop-list.invariant.differing

pub told_sources-requires-clause-left : goal.told_sources-requires-clause-left
told_sources-requires-clause-left g c =
    let i = c.loop-list.invariant in
    let at = c.loop-list.at in
    let reach = c.in_ok-next.ensures in
    (come (reach.pass _ i.pass) at reach.reached i.within ((reach.next at).0 reach.behind).0 c.sources-here.result c.sources-here.ensures).held

pub told_sources-requires-clause-right : goal.told_sources-requires-clause-right
told_sources-requires-clause-right g c =
    let i = c.loop-list.invariant in
    let at = c.loop-list.at in
    let reach = c.in_ok-next.ensures in
    (come (reach.other _ i.other) at reach.other_reached i.within ((reach.next at).0 reach.behind).1 c.sources-there.result c.sources-there.ensures).held

pub say-requires-clause-runs : goal.say-requires-clause-runs
say-requires-clause-runs g c = c.loop-list.invariant.runs

pub say-requires-clause-below : goal.say-requires-clause-below
say-requires-clause-below g c = c.loop-list.invariant.below

pub returns-in_default-clause-difference : goal.returns-in_default-clause-difference
returns-in_default-clause-difference g c =
    let w = c.args.width in
    let i = c.loop-list.invariant in
    let at = c.loop-list.at in
    let reach = c.in_ok-next.ensures in
    let quiet = (reach.next at).0 reach.behind in
    let l = come (reach.pass _ i.pass) at reach.reached i.within quiet.0 c.sources-here.result c.sources-here.ensures in
    let r = come (reach.other _ i.other) at reach.other_reached i.within quiet.1 c.sources-there.result c.sources-there.ensures in
    let old = c.loop-list.self.differences.nodes.items in
    let new = c.told_sources.new.self.differences.nodes.items in
    let list = c.say.new.out.items in
    let sources = c.in_ok-sources.ensures in
    let near = λ (d : ℕ) (_ : d < 2 ^ w). (reach.next d).0 (subst (λ (o : Option ℕ). IfSome o (λ start. d < start)) (sym c.in_default.is) tt) in
    let filled = c.in_ok-say.ensures.filled (2 ^ w) i.within in
    let f = answer w (map row_of (g.L.Rows.rows c.args.left)) in
    let f' = answer w (map row_of (g.R.Rows.rows c.args.right)) in
    let test = test_by g.V.Ord.cmp g.met.V.Ord.total g.met.V.LawfulOrd.exact in
    let h = apart test f f' in
    let is = is_apart test f f' w in
    let says = told-more l r h is (2 ^ w) old new c.loop-list.list.items list c.in_ok-sources.sources sources.keeps sources.told filled (omega arith) near (i.says h is) in
    (h, is, says-all w h new list filled.runs filled.below says)

pub has_more-requires-clause-runs : goal.has_more-requires-clause-runs
has_more-requires-clause-runs g c =
    let w = c.args.width in
    let i = c.loop-list.invariant in
    let at = c.loop-list.at in
    let reach = c.in_ok-next.ensures in
    let quiet = (reach.next at).0 reach.behind in
    let l = come (reach.pass _ i.pass) at reach.reached i.within quiet.0 c.sources-here.result c.sources-here.ensures in
    let r = come (reach.other _ i.other) at reach.other_reached i.within quiet.1 c.sources-there.result c.sources-there.ensures in
    let old = c.loop-list.self.differences.nodes.items in
    let new = c.told_sources.new.self.differences.nodes.items in
    let list = c.say.new.out.items in
    let sources = c.in_ok-sources.ensures in
    let start = c.in-Some.start in
    let behind : at < start = subst (λ (o : Option ℕ). IfSome o (λ next. at < next)) c.in-Some.is reach.behind in
    let within : start < 2 ^ w = subst (λ (o : Option ℕ). IfSome o (λ next. next < 2 ^ w)) c.in-Some.is reach.within in
    let near = λ (d : ℕ) (lt : d < start). (reach.next d).0 (subst (λ (o : Option ℕ). IfSome o (λ next. d < next)) (sym c.in-Some.is) lt) in
    let filled = c.in_ok-say.ensures.filled start behind in
    let f = answer w (map row_of (g.L.Rows.rows c.args.left)) in
    let f' = answer w (map row_of (g.R.Rows.rows c.args.right)) in
    let test = test_by g.V.Ord.cmp g.met.V.Ord.total g.met.V.LawfulOrd.exact in
    let h = apart test f f' in
    let is = is_apart test f f' w in
    let says = told-more l r h is start old new c.loop-list.list.items list c.in_ok-sources.sources sources.keeps sources.told filled (omega (arith, within)) near (i.says h is) in
    let front = so_far w start h new list filled.runs filled.below in
    let runs = subst (λ (xs : List (Change (Sources (Option (Differing g.row.V.Denot))))). HasRuns w new xs front) (sym c.deref.ensures.value)
    (has_runs_so_far w start h new list filled.runs filled.below says (omega (arith, behind)) (omega (arith, within))) in
    (w, front, runs)

pub returns-then-branch-clause-sound : goal.returns-then-branch-clause-sound
returns-then-branch-clause-sound g c =
    let told : Table (Option (Differing g.row.V.Denot)) = c.told_sources.new.self.differences in
    let after : Table (Option (Differing g.row.V.Denot)) = c.has_more.new.self.differences in
    let sound = sound_by (λ _ _. refl) (λ _ _. refl) (λ _ _. refl) (λ _ _. refl) c.in_ok-sources.ensures.sound in
    sound_by (λ _ _. refl) (λ _ _. refl) (λ _ _. refl) (λ _ _. refl)
    (subst (λ (t : Table (Option (Differing g.row.V.Denot))). IsSound (sources_cmp (option_cmp (differing_cmp g.V.Ord.cmp)))
    (sources_mark (option_mark (differing_mark (option_mark g.V.LawfulOrd.mark)))) t.nodes.items t.numbers)
    (sym c.in_ok-has_more.ensures.same) sound)

pub returns-then-branch-clause-difference : goal.returns-then-branch-clause-difference
returns-then-branch-clause-difference g c =
    let w = c.args.width in
    let i = c.loop-list.invariant in
    let at = c.loop-list.at in
    let reach = c.in_ok-next.ensures in
    let quiet = (reach.next at).0 reach.behind in
    let l = come (reach.pass _ i.pass) at reach.reached i.within quiet.0 c.sources-here.result c.sources-here.ensures in
    let r = come (reach.other _ i.other) at reach.other_reached i.within quiet.1 c.sources-there.result c.sources-there.ensures in
    let old = c.loop-list.self.differences.nodes.items in
    let new = c.told_sources.new.self.differences.nodes.items in
    let list = c.say.new.out.items in
    let sources = c.in_ok-sources.ensures in
    let start = c.in-Some.start in
    let behind : at < start = subst (λ (o : Option ℕ). IfSome o (λ next. at < next)) c.in-Some.is reach.behind in
    let within : start < 2 ^ w = subst (λ (o : Option ℕ). IfSome o (λ next. next < 2 ^ w)) c.in-Some.is reach.within in
    let near = λ (d : ℕ) (lt : d < start). (reach.next d).0 (subst (λ (o : Option ℕ). IfSome o (λ next. d < next)) (sym c.in-Some.is) lt) in
    let filled = c.in_ok-say.ensures.filled start behind in
    let f = answer w (map row_of (g.L.Rows.rows c.args.left)) in
    let f' = answer w (map row_of (g.R.Rows.rows c.args.right)) in
    let test = test_by g.V.Ord.cmp g.met.V.Ord.total g.met.V.LawfulOrd.exact in
    let h = apart test f f' in
    let is = is_apart test f f' w in
    let says = told-more l r h is start old new c.loop-list.list.items list c.in_ok-sources.sources sources.keeps sources.told filled (omega (arith, within)) near (i.says h is) in
    let front = so_far w start h new list filled.runs filled.below in
    let runs = subst (λ (xs : List (Change (Sources (Option (Differing g.row.V.Denot))))). HasRuns w new xs front) (sym c.deref.ensures.value)
    (has_runs_so_far w start h new list filled.runs filled.below says (omega (arith, behind)) (omega (arith, within))) in
    let agree = subst (λ (xs : List (Change (Sources (Option (Differing g.row.V.Denot))))). AgreeUpTo w xs h front) (sym c.deref.ensures.value)
    (agree_so_far w start h new list filled.runs filled.below) in
    let boxes = boxes_apart test f f' w in
    (boxes.0, record { difference = h; is_difference = is; box_list = boxes.1 }, c.in_ok-has_more.ensures.more c.if-branch.true w h front boxes.0 runs agree boxes.1)

pub returns-then-branch-clause-all : goal.returns-then-branch-clause-all
returns-then-branch-clause-all g c all = absurd (c.in_ok-has_more.ensures.any all c.if-branch.true)

pub loop-list-preserved : goal.loop-list-preserved
loop-list-preserved g c =
    let w = c.args.width in
    let i = c.loop-list.invariant in
    let at = c.loop-list.at in
    let reach = c.in_ok-next.ensures in
    let quiet = (reach.next at).0 reach.behind in
    let l = come (reach.pass _ i.pass) at reach.reached i.within quiet.0 c.sources-here.result c.sources-here.ensures in
    let r = come (reach.other _ i.other) at reach.other_reached i.within quiet.1 c.sources-there.result c.sources-there.ensures in
    let old = c.loop-list.self.differences.nodes.items in
    let new = c.told_sources.new.self.differences.nodes.items in
    let list = c.say.new.out.items in
    let sources = c.in_ok-sources.ensures in
    let start = c.in-Some.start in
    let behind : at < start = subst (λ (o : Option ℕ). IfSome o (λ next. at < next)) c.in-Some.is reach.behind in
    let within : start < 2 ^ w = subst (λ (o : Option ℕ). IfSome o (λ next. next < 2 ^ w)) c.in-Some.is reach.within in
    let near = λ (d : ℕ) (lt : d < start). (reach.next d).0 (subst (λ (o : Option ℕ). IfSome o (λ next. d < next)) (sym c.in-Some.is) lt) in
    let filled = c.in_ok-say.ensures.filled start behind in
    let pass = c.reach_both.new.pass in
    let other = c.reach_both.new.other in
    let after : Table (Option (Differing g.row.V.Denot)) = c.has_more.new.self.differences in
    let same : after ≡ c.told_sources.new.self.differences = c.in_ok-has_more.ensures.same in
    record {
      differing = subst (λ (t : Table (Option (Differing g.row.V.Denot))). IsSound (sources_cmp (option_cmp (differing_cmp g.V.Ord.cmp)))
          (sources_mark (option_mark (differing_mark (option_mark g.V.LawfulOrd.mark)))) t.nodes.items t.numbers)
          (sym same) (sound_by (λ _ _. refl) (λ _ _. refl) (λ _ _. refl) (λ _ _. refl) sources.sound);
      sound = sound_by (λ _ _. refl) (λ _ _. refl) (λ _ _. refl) (λ _ _. refl) reach.sound;
      pass = reach.pass _ i.pass;
      other = reach.other _ i.other;
      reached = omega (arith, reach.reached, behind);
      other_reached = omega (arith, reach.other_reached, behind);
      rows = rows_from (ahead_of pass) (rows_left g.L.Rows.rows pass) start (λ d lt. (near d lt).0);
      other_rows = rows_from (ahead_of other) (rows_left g.R.Rows.rows other) start (λ d lt. (near d lt).1);
      within = within;
      runs = filled.runs;
      below = filled.below;
      says = λ h is. subst (λ (t : Table (Option (Differing g.row.V.Denot))). Says w start h t.nodes.items list) (sym same)
          (told-more l r h is start old new c.loop-list.list.items list c.in_ok-sources.sources sources.keeps sources.told filled (omega (arith, within)) near (i.says h is));
    }
