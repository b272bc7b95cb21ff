-- What one pass over sorted rows has come to, and what it has still to come to: this project's own,
-- over the best match of RFC 9079, 4.
use Rattle.std.specs.Prelude.{◌≡◌, ℕ, ◌+◌, ◌*◌, ◌-◌, ◌^◌, ◌<◌, ◌≤◌, List, [], ◌∷◌, ◌++◌}
use Rattle.std.specs.Prelude.{length, map, take, reverse, Option, None}
use Rattle.babel_prefix.specs.Address.{block_of}
use Rattle.babel_prefix.specs.BestRow.{IsTable}
use Rattle.babel_prefix.specs.Entries.{Entry, row_of}
use Rattle.babel_prefix.specs.Members.{Listed}
use Rattle.babel_trie.specs.Held.{RowOrder}
use Rattle.babel_trie.specs.Interned.{HasTrie}
use Rattle.babel_trie.specs.Rows.{InOrder, Overlays}
use Rattle.babel_trie.specs.Runs.{said_at, AreRuns, StartBelow, StartAfter}
use Rattle.babel_trie.specs.Shape.{value_at}
use Rattle.babel_trie.specs.Split.{rows_of_split}
use Rattle.babel_trie.specs.declared.pass.Pass.{Pass}
use Rattle.babel_trie.specs.declared.pass.Reached.{Reached}
use Rattle.babel_trie.specs.declared.runs.Change.{Change}
use Rattle.babel_trie.specs.declared.table.Node.{Node}
use Rattle.babel_trie.specs.declared.table.Sources.{Sources}

module _ {F : Type 0} where
  -- from one address up to another the list says this, and below them what it did
  pub record IsFilled (from to : ℕ) (f : F) (before after : List (Change F)) : Type 0 where
    pub runs : AreRuns after
    pub below : StartBelow to after
    pub kept : (none : F) (d : ℕ) → d < from → said_at none after d ≡ said_at none before d
    pub said : (none : F) (d : ℕ) → from ≤ d → d < to → said_at none after d ≡ f

  -- the changes start in order
  abbrev pub StartInOrder : List (Change F) → Type 0
  StartInOrder = InOrder (λ x y. x.start ≤ y.start)

module _ {V : Type 0} where
  -- the sources stand for what the rows answer for this destination
  pub record IsLaidAt (w d : ℕ) (rows : List (Entry V)) (nodes : List (Node (Option V)))
      (s : Sources (Option V)) : Type 0 where
    pub held : HasTrie w nodes s
    pub values : (src : ℕ) → src < 2 ^ w →
        Overlays w (map row_of rows) d src None (value_at held.trie w src)

  -- so many nodes at the front are enough for what the rows answer for this destination
  abbrev pub IsReachedAt : ℕ → ℕ → List (Entry V) → List (Node (Option V)) → Reached V → Type 0
  IsReachedAt w d rows nodes s = IsLaidAt w d rows (take s.made nodes) s.trie

  -- the sources of each change stand for what the rows answer, up to the next change, for which no
  -- more nodes are needed
  abbrev pub AreLaid : ℕ → List (Entry V) → List (Node (Option V)) → Change (Reached V) →
      List (Change (Reached V)) → Type 0
  AreLaid w rows nodes now [] =
      (d : ℕ) → now.start ≤ d → d < 2 ^ w → IsReachedAt w d rows nodes now.sources
  AreLaid w rows nodes now (next ∷ ahead) =
      ((d : ℕ) → now.start ≤ d → d < next.start → IsReachedAt w d rows nodes now.sources)
      × (next.sources.made ≤ now.sources.made) × AreLaid w rows nodes next ahead

  -- the destination of each row starts there or later
  abbrev pub StartRowsFrom : ℕ → List (Entry V) → Type 0
  StartRowsFrom at left = (row : Entry V) → Listed left row → at ≤ (block_of row.0).start

  -- a change come to and those ahead of it are the answers of the rows that are gone: the rows that
  -- are left start there or later, and none of their blocks has the start of a change ahead inside
  pub record IsUnderWay (w : ℕ) (rows : List (Entry V)) (nodes : List (Node (Option V)))
      (now : Change (Reached V)) (ahead : List (Change (Reached V)))
      (left : List (Entry V)) : Type 0 where
    pub table : IsTable w (map row_of rows)
    pub rows_in_order : InOrder RowOrder rows
    pub gone : List (Entry V)
    pub whole : rows ≡ gone ++ left
    pub in_order : StartInOrder (now ∷ ahead)
    pub below : StartBelow (2 ^ w) (now ∷ ahead)
    pub laid : AreLaid w gone nodes now ahead
    pub made : now.sources.made ≤ length nodes
    pub from : StartRowsFrom now.start left
    pub nested : (x : Change (Reached V)) → Listed ahead x →
        (row : Entry V) → Listed left row → (block_of row.0).start < x.start →
        (block_of row.0).start + 2 ^ (w - (block_of row.0).len) ≤ x.start

  -- no change ahead and no row that is left starts up to the address
  pub record AreQuietUpTo (at : ℕ) (ahead : List (Change (Reached V)))
      (left : List (Entry V)) : Type 0 where
    pub changes : StartAfter at ahead
    pub rows : (row : Entry V) → Listed left row → at < (block_of row.0).start

module _ {V R : Type 0} where
  -- the changes ahead, the nearest first
  abbrev pub ahead_of : Pass V R → List (Change (Reached V))
  ahead_of pass = reverse pass.ahead.items

  -- the rows that are left
  abbrev pub rows_left : (R → List (Entry V)) → Pass V R → List (Entry V)
  rows_left rows pass = rows_of_split rows pass.rest

  -- a pass over these rows
  abbrev pub IsPassOver : ℕ → (R → List (Entry V)) → List (Entry V) → List (Node (Option V)) →
      Pass V R → Type 0
  IsPassOver w of all nodes pass =
      IsUnderWay w all nodes pass.now (ahead_of pass) (rows_left of pass)

  -- it comes to nothing up to the address
  abbrev pub IsQuietUpTo : ℕ → (R → List (Entry V)) → Pass V R → Type 0
  IsQuietUpTo at of pass = AreQuietUpTo at (ahead_of pass) (rows_left of pass)

  -- how many changes it may still come to: each row that is left may make one and one back
  abbrev pub changes_left : (R → List (Entry V)) → Pass V R → ℕ
  changes_left of pass = length pass.ahead.items + 2 * length (rows_left of pass)
