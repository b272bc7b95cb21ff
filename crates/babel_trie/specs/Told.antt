-- The trie of what two tries tell apart: this project's own.
use Rattle.std.specs.Prelude.{ℕ, ◌≤◌, List, Option}
use Rattle.babel_trie.specs.Boxes.{Answers}
use Rattle.babel_trie.specs.Differences.{TellsApart, IsDifference}
use Rattle.babel_trie.specs.Interned.{Stands, Represents}
use Rattle.babel_trie.specs.Runs.{HasRuns}
use Rattle.babel_trie.specs.Shape.{Shape, value_at, height, IsReduced}
use Rattle.babel_trie.specs.declared.differing.Differing.{Differing}
use Rattle.babel_trie.specs.declared.runs.Change.{Change}
use Rattle.babel_trie.specs.declared.table.Loose.{Loose}
use Rattle.babel_trie.specs.declared.table.Node.{Node}
use Rattle.babel_trie.specs.declared.table.Sources.{Sources}

module _ {V : Type 0} where
  -- a trie that tells the values of two others apart, and is no higher than they are
  pub record TellsTriesApart (t u : Shape (Option V))
      (told : Shape (Option (Differing V))) : Type 0 where
    pub values : (bits a : ℕ) →
        TellsApart (value_at t bits a) (value_at u bits a) (value_at told bits a)
    pub fits : (bits : ℕ) → height t ≤ bits → height u ≤ bits → height told ≤ bits
    pub reduced : IsReduced told

  -- it stands for such a trie of whatever tries the two stand for
  abbrev pub IsTold : List (Node (Option V)) → Loose (Option V) → Loose (Option V) →
      List (Node (Option (Differing V))) → Loose (Option (Differing V)) → Type 0
  IsTold nodes left right differing x =
      (t u : Shape (Option V)) → Stands nodes left t → Stands nodes right u →
      (told : Shape (Option (Differing V))) × Stands differing x told × TellsTriesApart t u told

  -- they stand for such a trie of whatever tries the two stand for
  abbrev pub AreTold : List (Node (Option V)) → Sources (Option V) → Sources (Option V) →
      List (Node (Option (Differing V))) → Sources (Option (Differing V)) → Type 0
  AreTold nodes left right differing s =
      (t u : Shape (Option V)) → Represents nodes left t → Represents nodes right u →
      (told : Shape (Option (Differing V))) × Represents differing s told × TellsTriesApart t u told

  -- the list has the difference of the two functions
  abbrev pub HasDifference : ℕ → Answers V → Answers V → List (Node (Option (Differing V))) →
      List (Change (Sources (Option (Differing V)))) → Type 0
  HasDifference w f g differing list =
      (difference : Answers (Differing V)) × IsDifference w f g difference
      × HasRuns w differing list difference
