-- What a pass has come to is what its rows answer up to its next change.
use Rattle.std.proofs.Common.{◌≡◌, inl, inr, ℕ, ◌^◌, ◌<◌, ◌≤◌, List, map, Option, sym, subst, arith}
use Rattle.std.proofs.lemmas.Bool.{cases_lt}
use Rattle.babel_prefix.specs.Address.{block_of}
use Rattle.babel_prefix.specs.Best.{answer}
use Rattle.babel_prefix.specs.Entries.{Entry, row_of}
use Rattle.babel_trie.specs.Interned.{HasTrie}
use Rattle.babel_trie.specs.Pass.{IsLaidAt, IsUnderWay, StartRowsFrom, AreQuietUpTo}
use Rattle.babel_trie.specs.declared.pass.Reached.{Reached}
use Rattle.babel_trie.specs.declared.runs.Change.{Change}
use Rattle.babel_trie.specs.declared.table.Node.{Node}
use Rattle.babel_trie.specs.declared.table.Sources.{Sources}
use Rattle.babel_trie.proofs.AgreeLaws.{IsAt}
use Rattle.babel_trie.proofs.PassLaws.{laid-answers, way-held, way-here}

module _ {V : Type 0} where
  module _ {w : ℕ} {rows left : List (Entry V)} {nodes : List (Node (Option V))} {now : Change (Reached V)} {ahead : List (Change (Reached V))} where
    pub come : (p : IsUnderWay w rows nodes now ahead left) → (at : ℕ) → now.start ≤ at → at < 2 ^ w → AreQuietUpTo at ahead left → (here : Sources (Option V)) → here ≡ now.sources.trie →
        IsAt w at (answer w (map row_of rows)) nodes here (λ d. AreQuietUpTo d ahead left)
    come p at low at_in quiet here is =
        let h = subst (HasTrie w nodes) (sym is) (way-held p at low at_in quiet.changes) in
        record {
          held = h;
          quiet = quiet;
          answers = λ d le d_in so. laid-answers w d rows nodes here p.table (subst (IsLaidAt w d rows nodes) (sym is) (way-here p d (omega arith) d_in so)) h;
        }

  -- where nothing comes before an address no row does
  pub rows_from : (ahead : List (Change (Reached V))) (left : List (Entry V)) (start : ℕ) → ((d : ℕ) → d < start → AreQuietUpTo d ahead left) → StartRowsFrom start left
  rows_from ahead left start quiet row t =
      elim (cases_lt (block_of row.0).start start) [
        | inl lt ↦ absurd (let never : (block_of row.0).start < (block_of row.0).start = (quiet (block_of row.0).start lt).rows row t in omega arith)
        | inr ge ↦ ge
      ]
