-- A list that says what a function answers below an address has, as far as that, its answers.
use Rattle.std.proofs.Common.{◌≡◌, inl, inr, ℕ, ◌-◌, ◌^◌, ◌<◌, ◌≤◌, cond, min, List, [], ◌∷◌, length, Option, None, Some, refl, sym, ◌∙◌, ap, subst, arith}
use Rattle.std.proofs.lemmas.Bool.{cases_lt}
use Rattle.std.specs.Prelude.{MatchOption}
use Rattle.babel_prefix.proofs.Members.{Listed}
use Rattle.babel_trie.specs.Boxes.{Answers, SameAnswers}
use Rattle.babel_trie.specs.Early.{AgreeUpTo, HasMoreBoxes}
use Rattle.babel_trie.specs.Runs.{said_at, AreRuns, StartBelow, HasRuns}
use Rattle.babel_trie.specs.declared.runs.Change.{Change}
use Rattle.babel_trie.specs.declared.table.Node.{Node}
use Rattle.babel_trie.specs.declared.table.Sources.{Sources}
use Rattle.babel_trie.proofs.BoxLaws.{SameAnswers-sym, IsBox-same}
use Rattle.babel_trie.proofs.RunLaws.{HasValues, Says, reached, runs-same, says-all}

-- behind all changes nothing changes
said-still : {F : Type 0} (none : F) (list : List (Change F)) (e d : ℕ) → ((x : Change F) → Listed list x → x.start ≤ e) → e ≤ d → said_at none list d ≡ said_at none list e
said-still none [] e d under le = refl
said-still none (x ∷ xs) e d under le =
    let first = under x (inl refl) in
    ap (λ b. said_at (cond b x.sources none) xs d) (reached x d (omega arith))
    ∙ said-still x.sources xs e d (λ y t. under y (inr t)) le ∙ sym (ap (λ b. said_at (cond b x.sources none) xs e) (reached x e first))

-- where there is a change below an address, that is not the first one
pub some_below : {F : Type 0} (at : ℕ) (list : List (Change F)) → StartBelow at list → 0 < length list → 0 < at
some_below at [] below some = absurd (omega arith)
some_below at (x ∷ xs) below some = omega (arith, below x (inl refl))

module _ {V : Type 0} (w at : ℕ) (f : Answers V) (nodes : List (Node (Option V))) (list : List (Change (Sources (Option V)))) (runs : AreRuns list) (below : StartBelow at list) where
  -- what the function answers for the destinations below the address, and from there on for the last of them
  abbrev pub so_far : Answers V
  so_far d = f (min d (at - 1))

  pub has_runs_so_far : Says w at f nodes list → 0 < at → at ≤ 2 ^ w → HasRuns w nodes list so_far
  has_runs_so_far says some at_in =
      let same : (none : Sources (Option V)) (d : ℕ) → said_at none list d ≡ said_at none list (min d (at - 1)) =
      λ none d. elim (cases_lt d at) [
        | inl lt ↦ ap (said_at none list) (omega arith)
        | inr ge ↦ said-still none list (at - 1) d (λ x t. omega (arith, below x t)) (omega arith) ∙ ap (said_at none list) (omega arith)
      ] in
      says-all w so_far nodes list runs (λ x t. omega (arith, below x t))
      (λ none d d_in. subst (HasValues w (so_far d) nodes) (sym (same none d)) (says none (min d (at - 1)) (omega arith)))

  pub agree_so_far : AgreeUpTo w list f so_far
  agree_so_far x t d s le s_in = ap (λ (e : ℕ). f e s) (omega (arith, below x t))

module _ {V L : Type 0} (items : L → List (Change (Sources (Option V)))) (most w : ℕ) (nodes : List (Node (Option V))) where
  -- what is known of the changes of answers, or that their boxes are more, holds of the same answers
  pub RunsOrMore-same : (f g : Answers V) (runs : Option L) → SameAnswers w f g
      → MatchOption runs (HasMoreBoxes most w f) (λ l. HasRuns w nodes (items l) f) → MatchOption runs (HasMoreBoxes most w g) (λ l. HasRuns w nodes (items l) g)
  RunsOrMore-same f g None same more =
      let back = SameAnswers-sym w f g same in (
        more.0,
        record {
          in_order = more.1.in_order;
          exact = λ box. ((λ c. IsBox-same w f g box same ((more.1.exact box).0 c)), (λ b. (more.1.exact box).1 (IsBox-same w g f box back b)));
        },
        more.2,
      )
  RunsOrMore-same f g (Some l) same runs = runs-same w nodes (items l) f g same runs
