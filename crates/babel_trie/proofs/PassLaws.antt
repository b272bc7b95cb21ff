-- One pass over sorted rows: what it has come to and what is ahead of it are the answers of the rows so far.
use Rattle.std.proofs.Common.{◌≡◌, ◌≢◌, inl, inr, ℕ, ◌+◌, ◌-◌, ◌%◌, ◌^◌, ◌<◌, ◌≤◌, cond, List, [], ◌∷◌, ◌++◌, take, reverse, suc, length, Option, Some, None, map, refl, sym, ◌∙◌, ap, subst, arith}
use Rattle.std.specs.List.{slice_get}
use Rattle.std.proofs.lemmas.List.{map-append, reverse-append, append_assoc, length-take, take_all}
use Rattle.std.proofs.lemmas.Option.{slice_get_within}
use Rattle.std.proofs.lemmas.Bool.{cases_lt}
use Rattle.std.proofs.lemmas.Nat.{pow_pos}
use Rattle.babel_prefix.specs.Address.{block_of}
use Rattle.babel_prefix.specs.Best.{Row, answer}
use Rattle.babel_prefix.specs.BestRow.{Matches, IsNoLonger, IsTable}
use Rattle.babel_prefix.specs.Block.{Block}
use Rattle.babel_prefix.specs.Covers.{BlockCovers, IsBlock}
use Rattle.babel_prefix.specs.Entries.{Entry, row_of}
use Rattle.babel_prefix.proofs.BlockLaws.{within_shorter, same_block}
use Rattle.babel_prefix.proofs.Members.{Listed, Listed-append_left, Listed-append_right, Listed-append_cases, Contains-from_Listed}
use Rattle.babel_trie.specs.Held.{RowOrder}
use Rattle.babel_trie.specs.Interned.{Represents, HasTrie}
use Rattle.babel_trie.specs.Laid.{HasOneDestination, IsOverlaid}
use Rattle.babel_trie.specs.Pass.{IsFilled, StartInOrder, IsLaidAt, IsReachedAt, AreLaid, IsUnderWay, AreQuietUpTo}
use Rattle.babel_trie.specs.Rows.{InOrder, IsNoLater, InBlock, Overlays, source_block}
use Rattle.babel_trie.specs.Runs.{said_at, AreRuns, StartBelow, StartAfter}
use Rattle.babel_trie.specs.Shape.{Shape, leaf, value_at}
use Rattle.babel_trie.specs.Sound.{KeepsNodes}
use Rattle.babel_trie.specs.declared.pass.Reached.{Reached}
use Rattle.babel_trie.specs.declared.runs.Change.{Change}
use Rattle.babel_trie.specs.declared.table.Node.{Node}
use Rattle.babel_trie.specs.declared.table.Sources.{Sources}
use Rattle.babel_trie.proofs.HeldLaws.{sources_at-stands}
use Rattle.babel_trie.proofs.NumberLaws.{Represents-grows, slice_get-take, slice_get-taken}
use Rattle.babel_trie.proofs.OverlayLaws.{overlays_left, overlays_then, answer-overlays}
use Rattle.babel_trie.proofs.PartLaws.{from_map, to_map}
use Rattle.babel_trie.proofs.PlaceLaws.{InOrder-left, InOrder-right}
use Rattle.babel_trie.proofs.Multiples.{next_multiple, fewer_zeros, power_added}
use Rattle.babel_trie.proofs.Ranges.{size, covers_range, range_covers, block_ends}
use Rattle.babel_trie.proofs.RunLaws.{reached, above, said-append, said-last, runs-push}

module _ {F : Type 0} where
  -- the last change says it already
  pub filled-same : (xs : List (Change F)) (x : Change F) (f : F) (from to : ℕ) → from < to → AreRuns xs → StartBelow from xs
      → slice_get xs (length xs - 1) ≡ Some x → x.sources ≡ f → IsFilled from to f xs xs
  filled-same xs x f from to lt runs below at is =
      record {
        runs = runs;
        below = λ y t. omega (arith, below y t);
        kept = λ none d under. refl;
        said = λ none d low high. said-last none xs x d (λ y t. omega (arith, below y t)) at ∙ is;
      }

  -- one more change says it
  pub filled-push : (xs after : List (Change F)) (x : Change F) (to : ℕ) → after ≡ xs ++ x ∷ [] → x.start < to → AreRuns xs → StartBelow x.start xs →
      ((y : Change F) → slice_get xs (length xs - 1) ≡ Some y → y.sources ≢ x.sources) → IsFilled x.start to x.sources xs after
  filled-push xs after x to is lt runs below other =
      subst (IsFilled x.start to x.sources xs) (sym is) (record {
        runs = runs-push xs x runs below other;
        below = λ y t. elim (Listed-append_cases xs (x ∷ []) y t) [
          | inl before ↦ omega (arith, below y before)
          | inr last ↦ elim last [ inl here ↦ subst (λ (z : Change F). z.start < to) here lt | inr never ↦ elim never [ ] ]
        ];
        kept = λ none d under. said-append none xs (x ∷ []) d ∙ ap (λ b. cond b x.sources (said_at none xs d)) (above x d under);
        said = λ none d low high. said-append none xs (x ∷ []) d ∙ ap (λ b. cond b x.sources (said_at none xs d)) (reached x d low);
      })

  -- where the nearest change ahead lies behind an address all do
  pub nearest-behind : (ahead rest : List (Change F)) (next : Change F) (at : ℕ) → ahead ≡ next ∷ rest → StartInOrder ahead → at < next.start → StartAfter at ahead
  nearest-behind ahead rest next at is order lt x t =
      let both : StartInOrder (next ∷ rest) = subst StartInOrder is order in
      elim (subst (λ xs. Listed xs x) is t) [ inl here ↦ subst (λ (y : Change F). at < y.start) here lt | inr there ↦ omega (arith, both.0 x there) ]

-- the last, behind those before it
pub split-last : {X : Type 0} (xs : List X) (x : X) → slice_get xs (length xs - 1) ≡ Some x → xs ≡ take (length xs - 1) xs ++ x ∷ []
split-last [] x at = absurd (cc)
split-last (y ∷ []) x at =
    let none : length (y ∷ []) - 1 ≡ 0 = omega arith in
    let here : slice_get (y ∷ []) 0 ≡ Some x = subst (λ k. slice_get (y ∷ []) k ≡ Some x) none at in
    let is : y ≡ x = cc in
    ap (λ z. z ∷ []) is ∙ ap (λ k. take k (y ∷ []) ++ x ∷ []) (sym none)
split-last (y ∷ z ∷ zs) x at =
    let next : length (y ∷ z ∷ zs) - 1 ≡ suc (length (z ∷ zs) - 1) = omega arith in
    let later = split-last (z ∷ zs) x (subst (λ k. slice_get (y ∷ z ∷ zs) k ≡ Some x) next at) in
    ap (λ ys. y ∷ ys) later ∙ ap (λ k. take k (y ∷ z ∷ zs) ++ x ∷ []) (sym next)

-- the last becomes the first
pub reverse-push : {X : Type 0} (xs : List X) (x : X) → reverse (xs ++ x ∷ []) ≡ x ∷ reverse xs
reverse-push xs x = reverse-append xs (x ∷ [])

-- the last of changes, as a slice gives it, is the nearest ahead
pub nearest : {F : Type 0} (items slice : List (Change F)) (next : Change F) → slice ≡ items → Some next ≡ slice_get slice (length slice - 1)
    → (rest : List (Change F)) × (reverse items ≡ next ∷ reverse rest)
nearest {F = F} items slice next same at =
    let here = subst (λ (xs : List (Change F)). slice_get xs (length xs - 1) ≡ Some next) same (sym at) in
    (take (length items - 1) items, ap reverse (split-last items next here) ∙ reverse-push (take (length items - 1) items) next)

InOrder-across : {X : Type 0} (R : X → X → Type 0) (xs ys : List X) → InOrder R (xs ++ ys) → (x y : X) → Listed xs x → Listed ys y → R x y
InOrder-across R [] ys o x y t u = elim t [ ]
InOrder-across R (z ∷ xs) ys o x y (inl here) u = subst (λ a. R a y) here (o.0 y (Listed-append_right xs ys y u))
InOrder-across R (z ∷ xs) ys o x y (inr t) u = InOrder-across R xs ys o.1 x y t u

module _ (w : ℕ) (a b : Block) (a_block : IsBlock w a) (b_block : IsBlock w b) (order : IsNoLater a b) where
  -- a prefix that starts in one before it ends in it
  ends_within : b.start < a.start + size w a → b.start + size w b ≤ a.start + size w a
  ends_within lt =
      elim (cases_lt b.len a.len) [
        | inl shorter ↦ elim order [
          | inl before ↦
              let zeros : b.start % size w a ≡ 0 = fewer_zeros b.start (w - b.len) (w - a.len) (omega arith) b_block.rest_is_zero in
              absurd (omega (arith, next_multiple (size w a) a.start b.start a_block.rest_is_zero zeros before))
          | inr same ↦ let le : a.len ≤ b.len = same.1 in absurd (omega arith)
        ]
        | inr ge ↦
            let zeros : a.start % size w b ≡ 0 = fewer_zeros a.start (w - a.len) (w - b.len) (omega arith) a_block.rest_is_zero in
            next_multiple (size w b) b.start (a.start + size w a) b_block.rest_is_zero (power_added a.start (w - b.len) (w - a.len) (omega arith) zeros) lt
      ]

  -- of two with a common address the one before is no longer
  no_longer : (d : ℕ) → BlockCovers w a d → BlockCovers w b d → a.len ≤ b.len
  no_longer d in_a in_b =
      elim (cases_lt b.len a.len) [
        | inl shorter ↦
            let low : b.start ≤ a.start = (covers_range w b a.start b_block (within_shorter w b a d (omega arith) in_b in_a a.start refl)).0 in
            elim order [ inl before ↦ absurd (omega arith) | inr same ↦ let le : a.len ≤ b.len = same.1 in absurd (omega arith) ]
        | inr ge ↦ ge
      ]

-- the nodes at the front are kept where all are
keeps-front : {N : Type 0} (old new : List (Node N)) (n : ℕ) → KeepsNodes old new → KeepsNodes (take n old) (take n new)
keeps-front old new n keeps i x e =
    let within = slice_get_within (take n old) i x e in
    slice_get-take new n i x (omega (arith, within, length-take n old)) (keeps i x (slice_get-taken old n i x e))

-- and where so many are left
keeps-cut : {N : Type 0} (nodes : List (Node N)) (n len : ℕ) → n ≤ len → KeepsNodes (take n nodes) (take n (take len nodes))
keeps-cut nodes n len le i x e =
    let inside : i < n = omega (arith, slice_get_within (take n nodes) i x e, length-take n nodes) in
    slice_get-take (take len nodes) n i x inside (slice_get-take nodes len i x (omega arith) (slice_get-taken nodes n i x e))

-- a table that keeps its nodes gets no shorter
keeps-length : {N : Type 0} (old new : List (Node N)) → KeepsNodes old new → length old ≤ length new
keeps-length [] new keeps = omega arith
keeps-length (x ∷ old) [] keeps = absurd (let e = keeps 0 x refl in cc)
keeps-length (x ∷ old) (y ∷ new) keeps = let rest = keeps-length old new (λ i z e. keeps (suc i) z e) in omega arith

module _ {V : Type 0} where
  laid-grows : (w d : ℕ) (rows : List (Entry V)) (nodes more : List (Node (Option V))) (s : Sources (Option V)) → KeepsNodes nodes more → IsLaidAt w d rows nodes s → IsLaidAt w d rows more s
  laid-grows w d rows nodes more s keeps l =
      let h = l.held in
      record { held = record { trie = h.trie; stands = Represents-grows nodes more keeps s h.trie h.stands; fits = h.fits; reduced = h.reduced }; values = l.values }

  -- what the sources stand for is what the rows answer
  pub laid-answers : (w d : ℕ) (rows : List (Entry V)) (nodes : List (Node (Option V))) (s : Sources (Option V)) → IsTable w (map row_of rows) → IsLaidAt w d rows nodes s → (h : HasTrie w nodes s) →
      (src : ℕ) → src < 2 ^ w → answer w (map row_of rows) d src ≡ value_at h.trie w src
  laid-answers w d rows nodes s table l h src src_in =
      sym (answer-overlays w (map row_of rows) d src (value_at l.held.trie w src) table (l.values src src_in))
      ∙ ap (λ t. value_at t w src) (sym (sources_at-stands w nodes s l.held) ∙ sources_at-stands w nodes s h)

  module _ (w d : ℕ) (gone own : List (Entry V)) (nodes more : List (Node (Option V))) (n : Sources (Option V)) (l : IsLaidAt w d gone nodes n) where
    both : map row_of (gone ++ own) ≡ map row_of gone ++ map row_of own
    both = map-append row_of gone own

    -- rows that do not match change nothing
    laid-other : KeepsNodes nodes more → ((x : Entry V) → Listed own x → BlockCovers w (block_of x.0) d → ⊥) → IsLaidAt w d (gone ++ own) more n
    laid-other keeps never =
        let g = laid-grows w d gone nodes more n keeps l in
        record {
          held = g.held;
          values = λ s s_in. subst (λ r. Overlays w r d s None (value_at g.held.trie w s)) (sym both) (overlays_left w (map row_of gone) (map row_of own) d s None (value_at g.held.trie w s)
              (λ row t m. let f = from_map row_of own row t in never f.0 f.1 (subst (λ (r : Row V). BlockCovers w r.dst d) (sym f.2) m.0)) (g.values s s_in));
        }

    -- rows of one destination that has the address are laid over
    laid-own : (x : Sources (Option V)) → ((t : Shape (Option V)) → Represents nodes n t → IsOverlaid w w 0 (map row_of own) more x t)
        → ((x : Entry V) → Listed own x → BlockCovers w (block_of x.0) d) →
        ((x y : Row V) → Listed (map row_of gone) x → Listed (map row_of own) y → (s : ℕ) → Matches w d s x → Matches w d s y → IsNoLonger x y) → IsLaidAt w d (gone ++ own) more x
    laid-own x overlaid covers shorter =
        let o = overlaid l.held.trie l.held.stands in
        record {
          held = record { trie = o.new; stands = o.stands; fits = o.fits l.held.fits; reduced = o.reduced l.held.reduced };
          values = λ s s_in.
              let e : 0 + s ≡ s = omega arith in
              let all : (row : Row V) → Listed (map row_of own) row → BlockCovers w row.dst d = λ row t. let f = from_map row_of own row t in
              subst (λ (r : Row V). BlockCovers w r.dst d) f.2 (covers f.0 f.1) in
              let here = subst (λ k. Overlays w (map row_of own) d k (value_at l.held.trie w s) (value_at o.new w s)) e (o.values d s all s_in) in
              subst (λ r. Overlays w r d s None (value_at o.new w s)) (sym both)
              (overlays_then w (map row_of gone) (map row_of own) d s None (value_at l.held.trie w s) (value_at o.new w s) (λ a b t u. shorter a b t u s) (l.values s s_in) here);
        }

  -- of rows in order that both match the earlier is no longer
  order-no_longer : (w d s : ℕ) (x y : Entry V) → IsBlock w (block_of x.0) × IsBlock w (block_of x.1) → IsBlock w (block_of y.0) × IsBlock w (block_of y.1) → RowOrder x y →
      Matches w d s (row_of x) → Matches w d s (row_of y) → IsNoLonger (row_of x) (row_of y)
  order-no_longer w d s x y p q r m n =
      let le = no_longer w (block_of x.0) (block_of y.0) p.0 q.0 r.destinations d m.0 n.0 in
      elim (cases_lt (block_of x.0).len (block_of y.0).len) [
        | inl lt ↦ inl lt
        | inr ge ↦
            let same : block_of x.0 ≡ block_of y.0 = same_block w (block_of x.0) (block_of y.0) d p.0 q.0 (omega arith) m.0 n.0 in
            inr (same, no_longer w (block_of x.1) (block_of y.1) p.1 q.1 (r.sources same) s m.1 n.1)
      ]

  -- of rows in order none starts before the first
  pub first-least : (list rest : List (Entry V)) (first : Entry V) → list ≡ first ∷ rest → InOrder RowOrder list → (row : Entry V) → Listed list row → (block_of first.0).start ≤ (block_of row.0).start
  first-least list rest first is order row t =
      let both : InOrder RowOrder (first ∷ rest) = subst (InOrder RowOrder) is order in
      elim (subst (λ xs. Listed xs row) is t) [
        | inl here ↦ subst (λ (x : Entry V). (block_of first.0).start ≤ (block_of x.0).start) here (omega arith)
        | inr there ↦ elim (both.0 row there).destinations [
          | inl before ↦ omega arith
          | inr same ↦ let e : (block_of first.0).start ≡ (block_of row.0).start = same.0 in omega arith
        ]
      ]

  -- a table that grows keeps what the changes stand for
  are_laid-grows : (w : ℕ) (rows : List (Entry V)) (nodes more : List (Node (Option V))) → KeepsNodes nodes more
      → (now : Change (Reached V)) (ahead : List (Change (Reached V))) → AreLaid w rows nodes now ahead →
      AreLaid w rows more now ahead
  are_laid-grows w rows nodes more keeps now [] l = λ d low high. laid-grows w d rows (take now.sources.made nodes) (take now.sources.made more)
      now.sources.trie (keeps-front nodes more now.sources.made keeps) (l d low high)
  are_laid-grows w rows nodes more keeps now (next ∷ ahead) l = (
    λ d low high. laid-grows w d rows (take now.sources.made nodes) (take now.sources.made more) now.sources.trie
        (keeps-front nodes more now.sources.made keeps) (l.0 d low high),
    l.1,
    are_laid-grows w rows nodes more keeps next ahead l.2,
  )

  -- so does one that is cut, where it has so many nodes as the first change needs
  are_laid-cut : (w : ℕ) (rows : List (Entry V)) (nodes : List (Node (Option V))) (len : ℕ) (now : Change (Reached V))
      (ahead : List (Change (Reached V))) → now.sources.made ≤ len → AreLaid w rows nodes now ahead →
      AreLaid w rows (take len nodes) now ahead
  are_laid-cut w rows nodes len now [] le l = λ d low high. laid-grows w d rows (take now.sources.made nodes) (take now.sources.made (take len nodes))
      now.sources.trie (keeps-cut nodes now.sources.made len le) (l d low high)
  are_laid-cut w rows nodes len now (next ∷ ahead) le l = (
    λ d low high. laid-grows w d rows (take now.sources.made nodes) (take now.sources.made (take len nodes)) now.sources.trie
        (keeps-cut nodes now.sources.made len le) (l.0 d low high),
    l.1,
    are_laid-cut w rows nodes len next ahead (omega (arith, l.1)) l.2,
  )

  -- rows of which no block has an address from the first change on change nothing
  are_laid-other : (w : ℕ) (gone own : List (Entry V)) (nodes more : List (Node (Option V))) → KeepsNodes nodes more → (at : ℕ)
      → ((d : ℕ) → at ≤ d → (x : Entry V) → Listed own x → BlockCovers w (block_of x.0) d → ⊥) →
      (now : Change (Reached V)) (ahead : List (Change (Reached V))) → at ≤ now.start → StartInOrder (now ∷ ahead) → AreLaid w gone nodes now ahead → AreLaid w (gone ++ own) more now ahead
  are_laid-other w gone own nodes more keeps at never now [] from order l = λ d low high. laid-other w d gone own (take now.sources.made nodes)
      (take now.sources.made more) now.sources.trie (l d low high) (keeps-front nodes more now.sources.made keeps) (never d (omega arith))
  are_laid-other w gone own nodes more keeps at never now (next ∷ ahead) from order l =
      let le : now.start ≤ next.start = order.0 next (inl refl) in (
        λ d low high. laid-other w d gone own (take now.sources.made nodes) (take now.sources.made more) now.sources.trie (l.0 d low high)
            (keeps-front nodes more now.sources.made keeps) (never d (omega arith)),
        l.1,
        are_laid-other w gone own nodes more keeps at never next ahead
            (omega arith) order.1 l.2,
      )

  -- before all changes ahead the one come to counts
  are_laid-here : (w : ℕ) (rows : List (Entry V)) (nodes : List (Node (Option V))) (now : Change (Reached V)) (ahead : List (Change (Reached V))) → AreLaid w rows nodes now ahead →
      (d : ℕ) → now.start ≤ d → d < 2 ^ w → StartAfter d ahead → IsLaidAt w d rows nodes now.sources.trie
  are_laid-here w rows nodes now [] l d low d_in behind = laid-grows w d rows (take now.sources.made nodes) nodes now.sources.trie (slice_get-taken nodes now.sources.made) (l d low d_in)
  are_laid-here w rows nodes now (next ∷ ahead) l d low d_in behind = laid-grows w d rows (take now.sources.made nodes) nodes now.sources.trie
      (slice_get-taken nodes now.sources.made) (l.0 d low (behind next (inl refl)))

  -- the change come to may come again
  are_laid-later : (w : ℕ) (rows : List (Entry V)) (nodes : List (Node (Option V))) (now back : Change (Reached V))
      (ahead : List (Change (Reached V))) → now.start ≤ back.start → now.sources ≡ back.sources →
      AreLaid w rows nodes now ahead → AreLaid w rows nodes back ahead
  are_laid-later w rows nodes now back [] le is l = λ d low high. subst (IsReachedAt w d rows nodes) is (l d (omega arith) high)
  are_laid-later w rows nodes now back (next ∷ ahead) le is l =
      (λ d low high. subst (IsReachedAt w d rows nodes) is (l.0 d (omega arith) high), subst (λ (s : Reached V). next.sources.made ≤ s.made) is l.1, l.2)

  -- nothing is ahead
  are_laid-last : (w : ℕ) (rows : List (Entry V)) (nodes : List (Node (Option V))) (now : Change (Reached V)) (ahead : List (Change (Reached V))) → ((x : Change (Reached V)) → Listed ahead x → ⊥) →
      ((d : ℕ) → now.start ≤ d → d < 2 ^ w → IsReachedAt w d rows nodes now.sources) → AreLaid w rows nodes now ahead
  are_laid-last w rows nodes now [] never l = l
  are_laid-last w rows nodes now (next ∷ ahead) never l = absurd (never next (inl refl))

  -- no row is gone yet
  pub way-first : (w : ℕ) (rows left : List (Entry V)) (nodes : List (Node (Option V))) (now : Change (Reached V)) (ahead : List (Change (Reached V)))
      → IsTable w (map row_of rows) → InOrder RowOrder rows → rows ≡ left →
      now.start ≡ 0 → now.sources.made ≡ 0 → Represents [] now.sources.trie (leaf None) → ahead ≡ [] → IsUnderWay w rows nodes now (reverse ahead) left
  way-first w rows left nodes now [] table order whole start made stands none =
      record {
        table = table;
        rows_in_order = order;
        gone = [];
        whole = whole;
        in_order = ((λ x t. elim t [ ]), tt);
        below = λ x t. elim t [ inl here ↦ let e : now.start ≡ x.start = ap (λ (c : Change (Reached V)). c.start) here in omega (arith, pow_pos w) | inr never ↦ elim never [ ] ];
        laid = λ d low d_in. record {
          held = record {
            trie = leaf None;
            stands = subst (λ n. Represents (take n nodes) now.sources.trie (leaf None))
                (sym made) stands;
            fits = omega arith;
            reduced = tt;
          };
          values = λ s s_in. inr (λ row t m. elim t [ ], refl);
        };
        made = omega (arith, made);
        from = λ y t. omega arith;
        nested = λ x t. elim t [ ];
      }
  way-first w rows left nodes now (x ∷ ahead) table order whole start made stands none = cc

  -- the next change ahead is come to
  pub way-back : (w : ℕ) (rows left : List (Entry V)) (nodes : List (Node (Option V))) (now next : Change (Reached V))
      (ahead : List (Change (Reached V))) → ((y : Entry V) → Listed left y → next.start ≤ (block_of y.0).start) →
      IsUnderWay w rows nodes now (next ∷ ahead) left → IsUnderWay w rows nodes next ahead left
  way-back w rows left nodes now next ahead from p =
      record {
        table = p.table;
        rows_in_order = p.rows_in_order;
        gone = p.gone;
        whole = p.whole;
        in_order = p.in_order.1;
        below = λ x t. p.below x (inr t);
        laid = p.laid.2;
        made = omega (arith, p.laid.1, p.made);
        from = from;
        nested = λ x t. p.nested x (inr t);
      }

  -- a table that grows keeps it
  pub way-grows : (w : ℕ) (rows left : List (Entry V)) (nodes more : List (Node (Option V))) (now : Change (Reached V))
      (ahead : List (Change (Reached V))) → KeepsNodes nodes more → IsUnderWay w rows nodes now ahead left →
      IsUnderWay w rows more now ahead left
  way-grows w rows left nodes more now ahead keeps p =
      record {
        table = p.table;
        rows_in_order = p.rows_in_order;
        gone = p.gone;
        whole = p.whole;
        in_order = p.in_order;
        below = p.below;
        laid = are_laid-grows w p.gone nodes more keeps now ahead p.laid;
        made = omega (arith, p.made, keeps-length nodes more keeps);
        from = p.from;
        nested = p.nested;
      }

  -- so does one that is cut, where it has so many nodes as the change come to needs
  pub way-cut : (w : ℕ) (rows left : List (Entry V)) (nodes : List (Node (Option V))) (len : ℕ) (now : Change (Reached V))
      (ahead : List (Change (Reached V))) → now.sources.made ≤ len → IsUnderWay w rows nodes now ahead left →
      IsUnderWay w rows (take len nodes) now ahead left
  way-cut w rows left nodes len now ahead le p =
      record {
        table = p.table;
        rows_in_order = p.rows_in_order;
        gone = p.gone;
        whole = p.whole;
        in_order = p.in_order;
        below = p.below;
        laid = are_laid-cut w p.gone nodes len now ahead le p.laid;
        made = omega (arith, p.made, length-take len nodes);
        from = p.from;
        nested = p.nested;
      }

  module _ {w : ℕ} {rows left : List (Entry V)} {nodes : List (Node (Option V))} {now : Change (Reached V)} {ahead : List (Change (Reached V))} (p : IsUnderWay w rows nodes now ahead left) where
    listed : (x : Entry V) → Listed left x → Listed rows x
    listed x t = subst (λ xs. Listed xs x) (sym p.whole) (Listed-append_right p.gone left x t)

    prefixes : (x : Entry V) → Listed rows x → IsBlock w (block_of x.0) × IsBlock w (block_of x.1)
    prefixes x t = p.table.prefixes (row_of x) (Contains-from_Listed (map row_of rows) (row_of x) (to_map row_of rows x t))

    -- a row that is left has a prefix as its destination
    pub left_block : (x : Entry V) → Listed left x → IsBlock w (block_of x.0)
    left_block x t = (prefixes x (listed x t)).0

    -- so it starts below the end of all
    pub left_in : (x : Entry V) → Listed left x → (block_of x.0).start < 2 ^ w
    left_in x t = (left_block x t).start_in_range

    -- the rows that are left are in order
    pub left_order : InOrder RowOrder left
    left_order = InOrder-right RowOrder p.gone left (subst (InOrder RowOrder) p.whole p.rows_in_order)

    -- up to the next change the sources come to are the answers of all rows
    pub way-here : (d : ℕ) → now.start ≤ d → d < 2 ^ w → AreQuietUpTo d ahead left → IsLaidAt w d rows nodes now.sources.trie
    way-here d low d_in quiet =
        subst (λ xs. IsLaidAt w d xs nodes now.sources.trie) (sym p.whole)
        (laid-other w d p.gone left nodes nodes now.sources.trie (are_laid-here w p.gone nodes now ahead p.laid d low d_in quiet.changes) (λ k node e. e)
        (λ x t c. let low : (block_of x.0).start ≤ d = (covers_range w (block_of x.0) d (prefixes x (listed x t)).0 c).0 in omega (arith, quiet.rows x t)))

    -- they stand for a trie
    pub way-held : (d : ℕ) → now.start ≤ d → d < 2 ^ w → StartAfter d ahead → HasTrie w nodes now.sources.trie
    way-held d low d_in behind = (are_laid-here w p.gone nodes now ahead p.laid d low d_in behind).held

  -- the rows that are left begin with those of a next destination
  pub record IsNext (w : ℕ) (own others : List (Entry V)) (b : Block) : Type 0 where
    pub some : 0 < length own
    pub one : (x : Entry V) → Listed own x → block_of x.0 ≡ b

  module _ {w : ℕ} {rows own others : List (Entry V)} {b : Block} (n : IsNext w own others b) {nodes : List (Node (Option V))} {now : Change (Reached V)} {ahead : List (Change (Reached V))}
      (p : IsUnderWay w rows nodes now ahead (own ++ others)) where
    own_in : (x : Entry V) → Listed own x → Listed rows x
    own_in x t = listed p x (Listed-append_left own others x t)

    first : (xs : List (Entry V)) → 0 < length xs → (x : Entry V) × Listed xs x
    first [] none = absurd (omega arith)
    first (x ∷ xs) more = (x, inl refl)

    -- the destination has a prefix
    pub block : IsBlock w b
    block = let f = first own n.some in subst (IsBlock w) (n.one f.0 f.1) (prefixes p f.0 (own_in f.0 f.1)).0

    -- which none of the other rows stands before
    later : (y : Entry V) → Listed others y → IsNoLater b (block_of y.0)
    later y u = let f = first own n.some in subst (λ a. IsNoLater a (block_of y.0)) (n.one f.0 f.1) (InOrder-across RowOrder own others (left_order p) f.0 y f.1 u).destinations

    -- the rest starts with it
    rest_from : (y : Entry V) → Listed others y → b.start ≤ (block_of y.0).start
    rest_from y u = elim (later y u) [ inl lt ↦ omega arith | inr same ↦ let e : b.start ≡ (block_of y.0).start = same.0 in omega arith ]

    -- the sources of its rows are in order
    pub sources_in : InBlock source_block w w 0 own
    sources_in =
        record {
          prefixes = λ x t. (prefixes p x (own_in x t)).1;
          from_start = λ x t. omega arith;
          before_end = λ x t. omega (arith, (prefixes p x (own_in x t)).1.start_in_range);
          no_shorter = λ x t. omega arith;
          in_order = ordered own (λ x y t u. n.one x t ∙ sym (n.one y u)) (InOrder-left RowOrder own others (left_order p));
        }
      where
        ordered : (xs : List (Entry V)) → HasOneDestination xs → InOrder RowOrder xs → InOrder (λ x y. IsNoLater (block_of x.1) (block_of y.1)) xs
        ordered [] same o = tt
        ordered (x ∷ xs) same o = ((λ y t. (o.0 y t).sources (same x y (inl refl) (inr t))), ordered xs (λ p q t u. same p q (inr t) (inr u)) o.1)

    -- the pass has come no further than it
    pub starts_before : now.start ≤ b.start
    starts_before =
        let f = first own n.some in subst (λ (a : Block). now.start ≤ a.start) (n.one f.0 f.1) (p.from f.0 (Listed-append_left own others f.0 f.1))

    module _ (behind : StartAfter b.start ahead) where
      -- no block ahead ends before the destination does
      ends_ahead : (x : Change (Reached V)) → Listed ahead x → b.start + size w b ≤ x.start
      ends_ahead x t =
          let f = first own n.some in
          let is : block_of f.0.0 ≡ b = n.one f.0 f.1 in
          subst (λ (a : Block). a.start + size w a ≤ x.start) is (p.nested x t f.0 (Listed-append_left own others f.0 f.1) (subst (λ (a : Block). a.start < x.start) (sym is) (behind x t)))

      shorter : (d : ℕ) (x y : Row V) → Listed (map row_of p.gone) x → Listed (map row_of own) y → (s : ℕ) → Matches w d s x → Matches w d s y → IsNoLonger x y
      shorter d x y t u s at_x at_y =
          let fx = from_map row_of p.gone x t in
          let fy = from_map row_of own y u in
          let x_in : Listed rows fx.0 = subst (λ xs. Listed xs fx.0) (sym p.whole) (Listed-append_left p.gone (own ++ others) fx.0 fx.1) in
          let before = InOrder-across RowOrder p.gone (own ++ others) (subst (InOrder RowOrder) p.whole p.rows_in_order) fx.0 fy.0 fx.1 (Listed-append_left own others fy.0 fy.1) in
          let here = order-no_longer w d s fx.0 fy.0 (prefixes p fx.0 x_in) (prefixes p fy.0 (own_in fy.0 fy.1)) before
          (subst (Matches w d s) (sym fx.2) at_x) (subst (Matches w d s) (sym fy.2) at_y) in
          subst (λ r. IsNoLonger r y) fx.2 (subst (IsNoLonger (row_of fx.0)) fy.2 here)

      module _ (more : List (Node (Option V))) (here : Sources (Option V)) (keeps : KeepsNodes nodes more)
          (overlaid : (t : Shape (Option V)) → Represents nodes now.sources.trie t → IsOverlaid w w 0 (map row_of own) more here t)
          (new : Change (Reached V)) (start_is : new.start ≡ b.start) (new_is : here ≡ new.sources.trie) (made_is : new.sources.made ≡ length more) where
        -- inside the block the rows of the destination are laid over what the pass had come to
        inside : (d : ℕ) → b.start ≤ d → d < b.start + size w b → IsReachedAt w d (p.gone ++ own) more new.sources
        inside d low high =
            let le : b.start + size w b ≤ 2 ^ w = block_ends w b block in
            let l = are_laid-here w p.gone nodes now ahead p.laid d (omega (arith, starts_before)) (omega arith) (λ x t. omega (arith, ends_ahead x t)) in
            subst (λ xs. IsLaidAt w d (p.gone ++ own) xs new.sources.trie) (sym (take_all new.sources.made more (omega (arith, made_is)))) (subst (IsLaidAt w d (p.gone ++ own) more) new_is
            (laid-own w d p.gone own nodes more now.sources.trie l here overlaid (λ x t. subst (λ a. BlockCovers w a d) (sym (n.one x t)) (range_covers w b d block low high)) (shorter d)))

        -- behind the block they change nothing
        never : (d : ℕ) → b.start + size w b ≤ d → (x : Entry V) → Listed own x → BlockCovers w (block_of x.0) d → ⊥
        never d low x t c =
            let high : d < b.start + size w b = (covers_range w b d block (subst (λ a. BlockCovers w a d) (n.one x t) c)).1 in
            omega arith

        -- a block that ends before the end of all is entered, and behind it comes what was come to before
        pub way-entered : (back : Change (Reached V)) → back.start ≡ b.start + size w b → now.sources ≡ back.sources → back.start < 2 ^ w → IsUnderWay w rows more new (back ∷ ahead) others
        way-entered back back_is same within =
            let order : StartInOrder (back ∷ ahead) = ((λ x t. omega (arith, ends_ahead x t)), p.in_order.1) in
            record {
              table = p.table;
              rows_in_order = p.rows_in_order;
              gone = p.gone ++ own;
              whole = p.whole ∙ sym (append_assoc p.gone own others);
              in_order = ((λ x t. elim t [ inl here ↦ subst (λ (c : Change (Reached V)). new.start ≤ c.start) here (omega arith) | inr there ↦ omega (arith, ends_ahead x there) ]), order);
              below = λ x t. elim t [
                | inl here ↦ subst (λ (c : Change (Reached V)). c.start < 2 ^ w) here (omega (arith, block.start_in_range))
                | inr there ↦ elim there [ inl here ↦ subst (λ (c : Change (Reached V)). c.start < 2 ^ w) here within | inr old ↦ p.below x (inr old) ]
              ];
              laid = (
                λ d low high. inside d (omega arith) (omega arith),
                (let e = ap (λ (s : Reached V). s.made) same in omega (arith, e, p.made, made_is, keeps-length nodes more keeps)),
                are_laid-other w p.gone own nodes more keeps back.start (λ d low. never d (omega arith)) back ahead (omega arith) order
                    (are_laid-later w p.gone nodes now back ahead (omega (arith, starts_before)) same p.laid),
              );
              made = omega (arith, made_is);
              from = λ y t. omega (arith, rest_from y t);
              nested = λ x t y u lt. elim t [
                | inl here ↦
                    let is : back.start ≡ x.start = ap (λ (c : Change (Reached V)). c.start) here in
                    let within = ends_within w b (block_of y.0) block (prefixes p y (listed p y (Listed-append_right own others y u))).0 (later y u) (omega arith) in
                    omega arith
                | inr old ↦ p.nested x old y (Listed-append_right own others y u) lt
              ];
            }

        -- a block up to the end of all is entered
        pub way-entered_last : 2 ^ w ≤ b.start + size w b → IsUnderWay w rows more new ahead others
        way-entered_last all =
            let none : (x : Change (Reached V)) → Listed ahead x → ⊥ = λ x t. omega (arith, ends_ahead x t, p.below x (inr t)) in
            record {
              table = p.table;
              rows_in_order = p.rows_in_order;
              gone = p.gone ++ own;
              whole = p.whole ∙ sym (append_assoc p.gone own others);
              in_order = ((λ x t. absurd (none x t)), p.in_order.1);
              below = λ x t. elim t [
                | inl here ↦ subst (λ (c : Change (Reached V)). c.start < 2 ^ w) here (omega (arith, block.start_in_range))
                | inr old ↦ p.below x (inr old)
              ];
              laid = are_laid-last w (p.gone ++ own) more new ahead none (λ d low high. inside d (omega arith) (omega arith));
              made = omega (arith, made_is);
              from = λ y t. omega (arith, rest_from y t);
              nested = λ x t. absurd (none x t);
            }
