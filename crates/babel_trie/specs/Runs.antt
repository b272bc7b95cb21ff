-- What is answered from an address on, as a list of the addresses at which that changes: this
-- project's own, over the best match of RFC 9079, 4.
use Rattle.std.specs.Prelude.{◌≢◌, ℕ, ◌^◌, ◌<◌, ◌≤◌, cond, nat_le, List, [], ◌∷◌, Option}
use Rattle.babel_prefix.specs.Members.{Listed}
use Rattle.babel_trie.specs.Boxes.{Answers, SameAnswers}
use Rattle.babel_trie.specs.Held.{sources_at}
use Rattle.babel_trie.specs.Shape.{value_at}
use Rattle.babel_trie.specs.Interned.{HasTrie}
use Rattle.babel_trie.specs.declared.runs.Change.{Change}
use Rattle.babel_trie.specs.declared.table.Node.{Node}
use Rattle.babel_trie.specs.declared.table.Sources.{Sources}

module _ {F : Type 0} where
  -- what the last change that is not above the address says, or `none` where there is none
  abbrev pub said_at : F → List (Change F) → ℕ → F
  said_at none [] d = none
  said_at none (x ∷ xs) d = said_at (cond (nat_le x.start d) x.sources none) xs d

  -- starts rise, and neighbours differ
  abbrev pub AreRuns : List (Change F) → Type 0
  AreRuns [] = Unit {0}
  AreRuns (x ∷ []) = Unit {0}
  AreRuns (x ∷ y ∷ ys) = (x.start < y.start) × (x.sources ≢ y.sources) × AreRuns (y ∷ ys)

  -- each starts below the address
  abbrev pub StartBelow : ℕ → List (Change F) → Type 0
  StartBelow at list = (x : Change F) → Listed list x → x.start < at

  -- each starts after the address
  abbrev pub StartAfter : ℕ → List (Change F) → Type 0
  StartAfter at list = (x : Change F) → Listed list x → at < x.start

  -- each starts there or later
  abbrev pub StartFrom : ℕ → List (Change F) → Type 0
  StartFrom at list = (x : Change F) → Listed list x → at ≤ x.start

module _ {V : Type 0} where
  -- the answers of a list of changes
  abbrev pub run_answers : ℕ → List (Node (Option V)) → Sources (Option V) →
      List (Change (Sources (Option V))) → Answers V
  run_answers w nodes none list d = value_at (sources_at w nodes (said_at none list d)) w

  -- the list says at each address sources that stand for a trie, and all together have these
  -- answers
  pub record HasRuns (w : ℕ) (nodes : List (Node (Option V)))
      (list : List (Change (Sources (Option V))))
      (f : Answers V) : Type 0 where
    pub runs : AreRuns list
    pub below : StartBelow (2 ^ w) list
    pub each : (none : Sources (Option V)) (d : ℕ) → d < 2 ^ w →
        HasTrie w nodes (said_at none list d)
    pub answers : (none : Sources (Option V)) → SameAnswers w (run_answers w nodes none list) f
