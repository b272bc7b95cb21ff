-- What is said behind the first change, and before it.
use Rattle.std.proofs.Common.{◌≡◌, inl, inr, ℕ, ◌-◌, ◌^◌, ◌<◌, ◌≤◌, cond, List, [], ◌∷◌, length, get_or, take, drop, Option, Some, None, refl, sym, ◌∙◌, ap, subst, arith}
use Rattle.std.proofs.Math.Seq.{take-length}
use Rattle.babel_prefix.proofs.Members.{Listed}
use Rattle.babel_trie.specs.Boxes.{Answers, SameAnswers}
use Rattle.babel_trie.specs.Runs.{said_at, AreRuns, StartAfter, HasRuns, run_answers}
use Rattle.babel_trie.specs.Spans.{start_or}
use Rattle.babel_trie.specs.Differs.{IsFirstPair}
use Rattle.babel_trie.specs.Held.{sources_at}
use Rattle.babel_trie.specs.Interned.{HasTrie}
use Rattle.babel_trie.specs.Shape.{value_at}
use Rattle.babel_trie.specs.declared.table.Node.{Node}
use Rattle.babel_trie.specs.declared.table.Sources.{Sources}
use Rattle.babel_trie.specs.declared.table.Sources.TheVariants.{Stored}
use Rattle.babel_trie.proofs.AgreeLaws.{IsAt}
use Rattle.babel_trie.proofs.HeldLaws.{sources_at-stands}
use Rattle.babel_trie.specs.declared.runs.Change.{Change}
use Rattle.babel_trie.proofs.RunLaws.{reached, above}

module _ {F : Type 0} where
  -- before all changes nothing changes
  pub said-before : (none : F) (xs : List (Change F)) (d : ℕ) → ((x : Change F) → Listed xs x → d < x.start) → said_at none xs d ≡ none
  said-before none [] d ahead = refl
  said-before none (x ∷ xs) d ahead = ap (λ b. said_at (cond b x.sources none) xs d) (above x d (ahead x (inl refl))) ∙ said-before none xs d (λ y t. ahead y (inr t))

  pub runs-rest : (x : Change F) (xs : List (Change F)) → AreRuns (x ∷ xs) → AreRuns xs
  runs-rest x [] runs = tt
  runs-rest x (y ∷ ys) runs = runs.2

  -- starts rise
  pub runs-above : (x : Change F) (xs : List (Change F)) → AreRuns (x ∷ xs) → StartAfter x.start xs
  runs-above x [] runs y t = elim t [ ]
  runs-above x (y ∷ ys) runs z t = elim t [
    | inl here ↦ subst (λ (a : Change F). x.start < a.start) here runs.0
    | inr there ↦ let lt : x.start < y.start = runs.0 in omega (arith, runs-above y ys runs.2 z there)
  ]

  -- all start with the first or behind it
  pub first-lowest : (list : List (Change F)) (other : Change F) (at : ℕ) → 0 < length list → AreRuns list → at < (get_or list 0 other).start → StartAfter at list
  first-lowest [] other at some runs lt y t = elim t [ ]
  first-lowest (x ∷ xs) other at some runs lt y (inl here) = subst (λ (a : Change F). at < a.start) here lt
  first-lowest (x ∷ xs) other at some runs lt y (inr there) = omega (arith, runs-above x xs runs y there)

  tail-is : (x : Change F) (xs : List (Change F)) → xs ≡ take (length (x ∷ xs) - 1) (drop 1 (x ∷ xs))
  tail-is x xs =
      let count : length (x ∷ xs) - 1 ≡ length xs = omega arith in
      sym (ap (λ n. take n xs) count ∙ take-length xs)

  -- the changes behind the first
  pub tail-behind : (list : List (Change F)) (other : Change F) (at : ℕ) → 0 < length list → AreRuns list → at ≤ (get_or list 0 other).start → StartAfter at (take (length list - 1) (drop 1 list))
  tail-behind [] other at some runs le = absurd (omega arith)
  tail-behind (x ∷ xs) other at some runs le = subst (StartAfter at) (tail-is x xs) (λ y t. omega (arith, runs-above x xs runs y t))

  -- a list that says something of the first address says the same whatever came before
  pub said-first : (list : List (Change F)) (other : Change F) (none : F) (end : ℕ) → 0 < length list → start_or end list ≡ 0 → (d : ℕ)
      → said_at (get_or list 0 other).sources list d ≡ said_at none list d
  said-first [] other none end some first d = absurd (omega arith)
  said-first (x ∷ xs) other none end some first d =
      let at = reached x d (omega arith) in
      ap (λ b. said_at (cond b x.sources x.sources) xs d) at ∙ sym (ap (λ b. said_at (cond b x.sources none) xs d) at)

-- sources, where any will do
abbrev pub no_sources : {V : Type 0} → Sources V
no_sources = Stored (record { 0 = 0 })

-- from an address up to its next change a list answers as what it says there
pub list_at : {V : Type 0} {w : ℕ} {nodes : List (Node (Option V))} {list : List (Change (Sources (Option V)))} {f : Answers V} → HasRuns w nodes list f →
    (here says : Sources (Option V)) (rest tail : List (Change (Sources (Option V)))) (at : ℕ) → at < 2 ^ w → ((d : ℕ) → at ≤ d → said_at here rest d ≡ said_at no_sources list d)
    → ((d : ℕ) → at ≤ d → said_at says tail d ≡ said_at here rest d) → StartAfter at tail → IsAt w at (run_answers w nodes no_sources list) nodes says (λ d. StartAfter d tail)
list_at {V} {w} {nodes} {list} runs here says rest tail at at_in p q behind =
    let is = λ (d : ℕ) (le : at ≤ d) (ahead : StartAfter d tail). sym (p d le) ∙ sym (q d le) ∙ said-before says tail d ahead in
    let held = subst (HasTrie w nodes) (is at (omega arith) behind) (runs.each no_sources at at_in) in
    record {
      held = held;
      quiet = behind;
      answers = λ d le d_in ahead src src_in. ap (λ (s : Sources (Option V)). value_at (sources_at w nodes s) w src) (is d le ahead) ∙ ap (λ t. value_at t w src) (sources_at-stands w nodes says held);
    }

-- functions that agree with two others differ first where those do
pub first-same : {V : Type 0} (w : ℕ) (f g f' g' : Answers V) → SameAnswers w f f' → SameAnswers w g g' → (found : Option (ℕ × ℕ))
    → IsFirstPair (2 ^ w) (2 ^ w) f g found → IsFirstPair (2 ^ w) (2 ^ w) f' g' found
first-same w f g f' g' p q None same = λ d d_in s s_in. sym (p d s d_in s_in) ∙ same d d_in s s_in ∙ q d s d_in s_in
first-same w f g f' g' p q (Some at) first =
    let at_in : at.0 < 2 ^ w = first.in_range in
    let src_in : at.1 < 2 ^ w = first.differ.in_range in
    record {
      in_range = at_in;
      differ = record {
        in_range = src_in;
        differ = λ e. first.differ.differ (p at.0 at.1 at_in src_in ∙ e ∙ sym (q at.0 at.1 at_in src_in));
        agree_below = λ s s_in. sym (p at.0 s at_in (omega arith)) ∙ first.differ.agree_below s s_in ∙ q at.0 s at_in (omega arith);
      };
      agree_below = λ d d_in s s_in. sym (p d s (omega arith) s_in) ∙ first.agree_below d d_in s s_in ∙ q d s (omega arith) s_in;
    }
