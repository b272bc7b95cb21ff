-- What the pass has come to is said up to the next change.
use Rattle.std.proofs.Common.{◌≡◌, ◌⊎◌, ℕ, ◌^◌, ◌<◌, inl, inr, List, [], ◌∷◌, length, map, take, Option, Some, refl, sym, ◌∙◌, ap, subst, arith}
use Rattle.std.proofs.lemmas.Nat.{pow_pos}
use Rattle.std.proofs.Math.Seq.{take-length}
use Rattle.std.specs.List.{slice_get}
use Rattle.std.specs.Option.{IfSome}
use Rattle.babel_prefix.specs.Best.{answer}
use Rattle.babel_prefix.specs.Entries.{row_of}
use Rattle.babel_trie.specs.Boxes.{Answers}
use Rattle.babel_trie.specs.Early.{AgreeUpTo}
use Rattle.babel_trie.specs.Pass.{IsQuietUpTo, ahead_of, rows_left}
use Rattle.babel_trie.specs.Runs.{AreRuns, StartBelow, HasRuns}
use Rattle.babel_trie.specs.declared.runs.Change.{Change}
use Rattle.babel_trie.specs.declared.table.Node.{Node}
use Rattle.babel_trie.specs.declared.table.NodeNumber.{NodeNumber}
use Rattle.babel_trie.specs.declared.table.Sources.{Sources}
use Rattle.babel_trie.specs.declared.table.Sources.TheVariants.{Constant, Stored}
use Rattle.babel_trie.proofs.NodeLaws.{sound_by}
use Rattle.babel_trie.proofs.BoxesExist.{boxes_exist, test_by}
use Rattle.babel_trie.proofs.EarlyRuns.{agree_so_far, has_runs_so_far, so_far, some_below}
use Rattle.babel_trie.proofs.NumberLaws.{slice_get-taken}
use Rattle.babel_trie.proofs.AgreeLaws.{at-values}
use Rattle.babel_trie.proofs.PairLaws.{come, rows_from}
use Rattle.babel_trie.proofs.RunLaws.{Says, IsKeptWith, keeps-kept, says-all, says-grows, says-kept, says-more}
use Rattle.babel_trie.proofs.pass.Table+Option+V.table_runs.Goals as goal
use Rattle.babel_trie.proofs.pass.Table+Option+V.table_runs.Goals.{then-due-len+then-nodes-ge-FEW_NODES+in_ok-early_count+else-branch-most, else-due-len}

all_taken : {A : Type 0} (xs ys : List A) → ys ≡ xs → take (length ys) xs ≡ xs
all_taken {A = A} xs ys is = ap (λ (zs : List A). take (length zs) xs) is ∙ take-length xs

kept_so : {V : Type 0} (kept : ℕ) (s : Sources (Option V)) (more nodes : List (Node (Option V))) (after : ℕ) → nodes ≡ more
    → ((v : Option V) × (s ≡ Constant v) × (after ≡ kept)) ⊎ ((n : NodeNumber) × (s ≡ Stored n) × (after ≡ length nodes)) → IsKeptWith kept s more after
kept_so kept s more nodes after is (inl one) = inl one
kept_so kept s more nodes after is (inr all) = inr (all.2 ∙ ap length is)

-- nothing is said
none_said : {V : Type 0} (w : ℕ) (f : Answers V) (nodes : List (Node (Option V))) (list : List (Change (Sources (Option V)))) → list ≡ []
    → AreRuns list × StartBelow 0 list × Says w 0 f nodes list × (length list ≡ 0)
none_said w f nodes [] is = (tt, (λ x t. elim t [ ]), (λ none d lt. absurd (omega arith)), refl)
none_said w f nodes (x ∷ list) is = cc

pub loop-due-init : goal.loop-due-init
loop-due-init g c =
    let a = c.args in
    let table = a.self.now in
    let rows = g.R.Rows.rows a.rows in
    let none = none_said a.width (answer a.width (map row_of rows)) (take (length c.nodes-kept.result.now) table.nodes.items) c.in_ok-list.list.items c.in_ok-list.ensures.items in
    record {
      sound = sound_by (λ _ _. refl) (λ _ _. refl) (λ _ _. refl) (λ _ _. refl) c.requires.sound;
      keeps = λ k node e. subst (λ xs. slice_get xs k ≡ Some node) (sym (all_taken table.nodes.items c.nodes-kept.result.now c.nodes-kept.ensures)) e;
      pass = c.new-pass.ensures.pass a.width table.nodes.items c.requires.order c.requires.table;
      reached = omega (arith, c.new-pass.ensures.start);
      rows = λ row t. omega arith;
      within = pow_pos a.width;
      runs = none.0;
      below = none.1;
      due = omega arith;
      says = none.2;
      few = inl (none.3, omega (arith, c.new-pass.ensures.few));
    }

pub early_count-requires-clause-sound : goal.early_count-requires-clause-sound
early_count-requires-clause-sound g c = sound_by (λ _ _. refl) (λ _ _. refl) (λ _ _. refl) (λ _ _. refl) c.loop-due.invariant.sound

pub early_count-requires-clause-runs : goal.early_count-requires-clause-runs
early_count-requires-clause-runs g c =
    let w = c.args.width in
    let rows = g.R.Rows.rows c.args.rows in
    let nodes = c.loop-due.self.nodes.items in
    let list = c.loop-due.list.items in
    let i = c.loop-due.invariant in
    let is = c.deref.ensures.value in
    let some : 0 < length list = omega (arith, c.if-due-len.true, c.len.ensures, i.due) in
    let begun = some_below c.loop-due.at list i.below some in
    let h = so_far w c.loop-due.at (answer w (map row_of rows)) nodes list i.runs i.below in
    let f = answer w (map row_of rows) in
    let says = says-grows w c.loop-due.at f (take c.loop-due.kept nodes) nodes list (λ k n e. slice_get-taken nodes c.loop-due.kept k n e) i.says in
    let runs = has_runs_so_far w c.loop-due.at f nodes list i.runs i.below says begun (omega (arith, i.within)) in
    (w, h, subst (λ (xs : List (Change (Sources (Option g.row.V.Denot)))). HasRuns w nodes xs h) (sym is) runs)

pub returns-then-branch-most-clause-sound : goal.returns-then-branch-most-clause-sound
returns-then-branch-most-clause-sound g c = sound_by (λ _ _. refl) (λ _ _. refl) (λ _ _. refl) (λ _ _. refl) c.loop-due.invariant.sound

pub returns-then-branch-most-clause-runs : goal.returns-then-branch-most-clause-runs
returns-then-branch-most-clause-runs g c =
    let V = g.row.V.Denot in
    let w = c.args.width in
    let rows = g.R.Rows.rows c.args.rows in
    let nodes = c.loop-due.self.nodes.items in
    let list = c.loop-due.list.items in
    let i = c.loop-due.invariant in
    let is = c.deref.ensures.value in
    let f = answer w (map row_of rows) in
    let some : 0 < length list = omega (arith, c.if-due-len.true, c.len.ensures, i.due) in
    let begun = some_below c.loop-due.at list i.below some in
    let says = says-grows w c.loop-due.at f (take c.loop-due.kept nodes) nodes list (λ k n e. slice_get-taken nodes c.loop-due.kept k n e) i.says in
    let h = so_far w c.loop-due.at f nodes list i.runs i.below in
    let runs = subst (λ (xs : List (Change (Sources (Option V)))). HasRuns w nodes xs h) (sym is)
    (has_runs_so_far w c.loop-due.at f nodes list i.runs i.below says begun (omega (arith, i.within))) in
    let agree = subst (λ (xs : List (Change (Sources (Option V)))). AgreeUpTo w xs f h) (sym is) (agree_so_far w c.loop-due.at f nodes list i.runs i.below) in
    let boxes = boxes_exist (test_by g.V.Ord.cmp g.met.V.Ord.total g.met.V.LawfulOrd.exact) w f in
    let few = c.in_ok-early_count.ensures w f h boxes.0 runs agree boxes.1 in
    (boxes.0, boxes.1, omega (arith, few, c.if-branch-most.true))

pub returns-then-branch-most-clause-keeps : goal.returns-then-branch-most-clause-keeps
returns-then-branch-most-clause-keeps g c k node e = slice_get-taken c.loop-due.self.nodes.items c.loop-due.kept k node (c.loop-due.invariant.keeps k node e)

pub reach_keeping-requires-clause-sound : goal.reach_keeping-requires-clause-sound
reach_keeping-requires-clause-sound g c = sound_by (λ _ _. refl) (λ _ _. refl) (λ _ _. refl) (λ _ _. refl) c.loop-due.invariant.sound

pub returns-in_default-clause-keeps : goal.returns-in_default-clause-keeps
returns-in_default-clause-keeps g c k node e = c.in_ok-next.ensures.keeps k node (c.loop-due.invariant.keeps k node e)

pub returns-in_default-clause-runs : goal.returns-in_default-clause-runs
returns-in_default-clause-runs g c =
    let V = g.row.V.Denot in
    let w = c.args.width in
    let rows = g.R.Rows.rows c.args.rows in
    let i = c.loop-due.invariant in
    let at = c.loop-due.at in
    let reach = c.in_ok-next.ensures in
    let new = c.reach_keeping.new.self in
    let nodes = c.reach_keeping.new.table.nodes.items in
    let f = answer w (map row_of rows) in
    let list = c.say.new.out.items in
    let quiet : (d : ℕ) → IsQuietUpTo d g.R.Rows.rows new = λ d. (reach.next d).1 (subst (λ (o : Option ℕ). IfSome o (λ start. d < start)) (sym c.in_default.is) tt) in
    let filled = c.in_ok-say.ensures.filled (2 ^ w) i.within in
    let here = come (reach.pass rows i.pass) at reach.reached i.within (quiet at) c.sources-sources.result c.sources-sources.ensures in
    let says = says-more w at (2 ^ w) f (take c.loop-due.kept c.loop-due.self.nodes.items) nodes c.loop-due.list.items list c.sources-sources.result reach.keeps filled
    (λ d le lt. at-values here d le lt (quiet d)) i.says in
    says-all w f nodes list filled.runs filled.below says

pub loop-due-preserved : goal.loop-due-preserved
loop-due-preserved g c =
    let V = g.row.V.Denot in
    let w = c.args.width in
    let rows = g.R.Rows.rows c.args.rows in
    let i = c.loop-due.invariant in
    let at = c.loop-due.at in
    let start = c.in-Some.start in
    let reach = c.in_ok-next.ensures in
    let new = c.reach_keeping.new.self in
    let table = c.reach_keeping.new.table in
    let list = c.say.new.out.items in
    let behind : at < start = subst (λ (o : Option ℕ). IfSome o (λ next. at < next)) c.in-Some.is reach.behind in
    let within : start < 2 ^ w = subst (λ (o : Option ℕ). IfSome o (λ next. next < 2 ^ w)) c.in-Some.is reach.within in
    let quiet : (d : ℕ) → d < start → IsQuietUpTo d g.R.Rows.rows new = λ d lt. (reach.next d).1 (subst (λ (o : Option ℕ). IfSome o (λ next. d < next)) (sym c.in-Some.is) lt) in
    let filled = c.in_ok-say.ensures.filled start behind in
    let here = come (reach.pass rows i.pass) at reach.reached i.within (quiet at behind) c.sources-sources.result c.sources-sources.ensures in
    let kept = kept_so c.loop-due.kept c.sources-sources.result table.nodes.items c.nodes-in-loop-due.result.now c.kept_with-kept.result c.nodes-in-loop-due.ensures c.kept_with-kept.ensures in
    let comes : IsQuietUpTo start g.R.Rows.rows new → ⊥ =
    λ q. let lt : start < start = subst (λ (o : Option ℕ). IfSome o (λ next. start < next)) c.in-Some.is ((reach.next start).0 q) in omega arith in
    record {
      sound = sound_by (λ _ _. refl) (λ _ _. refl) (λ _ _. refl) (λ _ _. refl) reach.sound;
      keeps = keeps-kept c.loop-due.kept c.kept_with-kept.result c.args.self.now.nodes.items c.loop-due.self.nodes.items table.nodes.items c.sources-sources.result i.keeps reach.keeps kept;
      pass = reach.pass rows i.pass;
      reached = omega (arith, reach.reached);
      rows = rows_from (ahead_of new) (rows_left g.R.Rows.rows new) start quiet;
      within = within;
      runs = filled.runs;
      below = filled.below;
      due = elim c.if-due-len.branch [
        | then-due-len+then-nodes-ge-FEW_NODES+in_ok-early_count+else-branch-most w ↦ omega
            (arith, w.due-is, w.saturating_mul-due.ensures, w.len-then-nodes-ge-FEW_NODES.ensures, w.if-due-len.true, c.len.ensures, i.due)
        | else-due-len w ↦ omega (arith, w.due-is, i.due)
      ];
      says = says-kept w at start (answer w (map row_of rows)) c.loop-due.kept c.kept_with-kept.result c.loop-due.self.nodes.items table.nodes.items c.loop-due.list.items list
          c.sources-sources.result reach.keeps filled kept
          (λ d le lt. at-values here d le (omega (arith, within)) (quiet d lt)) i.says;
      few = inr (
        comes,
        elim i.few [
          | inl first ↦ omega (arith, first.0, first.1, reach.few, c.in_ok-say.ensures.one)
          | inr later ↦ omega (arith, later.1, reach.fewer later.0, c.in_ok-say.ensures.one)
        ],
      );
    }

pub returns-in_default-clause-sound : goal.returns-in_default-clause-sound
returns-in_default-clause-sound g c = c.in_ok-next.ensures.sound

pub returns-in_default-clause-few : goal.returns-in_default-clause-few
returns-in_default-clause-few g c =
    elim c.loop-due.invariant.few [
      | inl first ↦ omega (arith, first.0, c.in_ok-say.ensures.one)
      | inr later ↦ omega (arith, later.1, c.in_ok-next.ensures.fewer later.0, c.in_ok-say.ensures.one)
    ]
