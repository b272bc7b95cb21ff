-- The rows of blocks that are listed one by one.
use Rattle.std.proofs.Common.{◌≡◌, ℕ, ◌-◌, List, [], ◌∷◌, ◌++◌, Option, None, refl, sym, ◌∙◌, ap, append_assoc, subst}
use Rattle.babel_prefix.specs.Best.{Row}
use Rattle.babel_prefix.specs.Block.{Block}
use Rattle.babel_trie.specs.Nested.{leaves, rows_at, rows_of}
use Rattle.babel_trie.specs.Shape.{Shape, leaf}
use Rattle.babel_trie.specs.Cut.{largest_in}
use Rattle.babel_trie.specs.Held.{sources_at}
use Rattle.babel_trie.specs.Interned.{Represents, HasTrie}
use Rattle.babel_trie.specs.Spans.{start_or, spans, each_with, span_blocks, span_rows}
use Rattle.babel_trie.specs.declared.runs.Change.{Change}
use Rattle.babel_trie.specs.declared.table.Loose.TheVariants.{Same}
use Rattle.babel_trie.specs.declared.table.Node.{Node}
use Rattle.babel_trie.specs.declared.table.Sources.{Sources}
use Rattle.babel_trie.specs.declared.table.Sources.TheVariants.{Constant}
use Rattle.babel_trie.proofs.HeldLaws.{sources_at-stands}
use Rattle.babel_trie.proofs.ListLaws.{append_none, rows_of-append}
use Rattle.babel_trie.proofs.NumberLaws.{one_trie}

module _ {V : Type 0} (w : ℕ) where
  -- the rows of one block more
  pub each_with-push : (t : Shape (Option V)) (bs : List Block) (b : Block) → rows_of w (each_with t (bs ++ b ∷ [])) ≡ rows_of w (each_with t bs) ++ rows_at b (leaves w w 0 t)
  each_with-push t [] b = append_none (rows_at b (leaves w w 0 t))
  each_with-push t (c ∷ bs) b =
      ap (λ rows. rows_at c (leaves w w 0 t) ++ rows) (each_with-push t bs b) ∙ sym (append_assoc (rows_at c (leaves w w 0 t)) (rows_of w (each_with t bs)) (rows_at b (leaves w w 0 t)))

  -- the rows of some blocks, and then of others
  pub each_with-append : (t : Shape (Option V)) (bs cs : List Block) → rows_of w (each_with t (bs ++ cs)) ≡ rows_of w (each_with t bs) ++ rows_of w (each_with t cs)
  each_with-append t [] cs = refl
  each_with-append t (b ∷ bs) cs =
      ap (λ rows. rows_at b (leaves w w 0 t) ++ rows) (each_with-append t bs cs) ∙ sym (append_assoc (rows_at b (leaves w w 0 t)) (rows_of w (each_with t bs)) (rows_of w (each_with t cs)))

  -- blocks on which nothing is answered have no rows
  pub no_rows : (t : Shape (Option V)) → t ≡ leaf None → (bs : List Block) → rows_of w (each_with t bs) ≡ []
  no_rows t is [] = refl
  no_rows t is (b ∷ bs) = ap (λ u. rows_at b (leaves w w 0 u) ++ rows_of w (each_with t bs)) is ∙ no_rows t is bs

  -- the rows of one change more
  pub rows_more : (sources : List (Node (Option V))) (end last : ℕ) (run : Change (Sources (Option V))) (later : List (Change (Sources (Option V))))
      (before after all : List (Row V)) → last ≡ start_or end later - 1 →
      after ≡ before ++ rows_of w (each_with (sources_at w sources run.sources) (largest_in w run.start last))
      → before ++ span_rows w sources (spans end (run ∷ later)) ≡ all → after ++ span_rows w sources (spans end later) ≡ all
  rows_more sources end last run later before after all last_is p q =
      let here = each_with (sources_at w sources run.sources) (largest_in w run.start (start_or end later - 1)) in
      let rest = span_blocks w (sources_at w sources) (spans end later) in
      ap (λ rows. rows ++ rows_of w rest) (p ∙ ap (λ (n : ℕ). before ++ rows_of w (each_with (sources_at w sources run.sources) (largest_in w run.start n))) last_is)
      ∙ append_assoc before (rows_of w here) (rows_of w rest) ∙ ap (λ rows. before ++ rows) (sym (rows_of-append w here rest)) ∙ q

  -- those of a change to nothing
  pub rows_none : (sources : List (Node (Option V))) (end : ℕ) (run : Change (Sources (Option V))) (later : List (Change (Sources (Option V))))
      (before all : List (Row V)) → HasTrie w sources run.sources → run.sources ≡ Constant None →
      before ++ span_rows w sources (spans end (run ∷ later)) ≡ all → before ++ span_rows w sources (spans end later) ≡ all
  rows_none sources end run later before all h nothing q =
      let t : Shape (Option V) = sources_at w sources run.sources in
      let is : t ≡ leaf None = sources_at-stands w sources run.sources h ∙ one_trie sources run.sources h.trie (leaf None) h.stands
      (subst (λ (s : Sources (Option V)). Represents sources s (leaf None)) (sym nothing) (Same None, refl, refl)) in
      let none = no_rows t is (largest_in w run.start (start_or end later - 1)) in
      rows_more sources end (start_or end later - 1) run later before before all refl (sym (append_none before) ∙ ap (λ rows. before ++ rows) (sym none)) q
