-- What a sink has once rows are put into it, one list after another.
use Rattle.std.proofs.Common.{◌≡◌, List, [], ◌∷◌, ◌++◌, map, refl, sym, ◌∙◌, ap, subst, append_assoc}
use Rattle.std.proofs.lemmas.List.{append-nil, map-append}
use Rattle.babel_prefix.specs.declared.family.Family.{Family}
use Rattle.babel_prefix.specs.Address.{AddressPrefix, block_of, prefix_of}
use Rattle.babel_prefix.specs.Best.{Row}
use Rattle.babel_prefix.specs.Block.{Block}
use Rattle.babel_prefix.specs.Entries.{Entry, row_of}
use Rattle.babel_trie.specs.Nested.{entry_at}
use Rattle.babel_trie.specs.Sinks.{StopsAmong}

-- rows of prefixes have the blocks of the rows
module _ {V : Type 0} (family : Family) where
  pub rows_back : (rows : List (Row V)) → map row_of (map (entry_at family) rows) ≡ rows
  rows_back [] = refl
  rows_back (row ∷ rows) = ap (λ (rest : List (Row V)). row ∷ rest) (rows_back rows)

module _ {V : Type 0} (family : Family) (Has : List (Entry V) → Type 0) (given : List (Entry V)) where
  -- no row
  pub put_none : (all : List (Row V)) → all ≡ [] → Has given → Has (given ++ map (entry_at family) all)
  put_none all none has = subst Has (sym (ap (λ rows. given ++ map (entry_at family) rows) none ∙ append-nil given)) has

  -- a row by its two prefixes
  pub put_one : (dst src : AddressPrefix) (block : Block) (value : V) → dst.address.family ≡ family → src.address.family ≡ family → block_of src ≡ block →
      Has (given ++ (dst, src, value) ∷ []) → Has (given ++ map (entry_at family) (record { dst = block_of dst; src = block; value = value } ∷ []))
  put_one dst src block value dst_of src_of is has =
      let dst_is : dst ≡ prefix_of family (block_of dst) = ap (λ (f : Family). prefix_of f (block_of dst)) dst_of in
      let src_is : src ≡ prefix_of family block = ap (λ (f : Family). prefix_of f (block_of src)) src_of ∙ ap (prefix_of family) is in
      subst (λ (p : AddressPrefix). Has (given ++ (prefix_of family (block_of dst), p, value) ∷ [])) src_is
      (subst (λ (p : AddressPrefix). Has (given ++ (p, src, value) ∷ [])) dst_is has)

  -- some rows, and then others
  pub put_both : (first others all : List (Row V)) → all ≡ first ++ others → Has ((given ++ map (entry_at family) first) ++ map (entry_at family) others) → Has (given ++ map (entry_at family) all)
  put_both first others all is has =
      let f = entry_at family in
      subst Has (append_assoc given (map f first) (map f others) ∙ ap (λ rows. given ++ rows) (sym (map-append f first others) ∙ ap (map f) (sym is))) has

module _ {A : Type 0} (Stopped : List A → Type 0) (earlier : List A) where
  -- what stops among some stops among these and others after them
  pub stops_early : (first others : List A) → StopsAmong Stopped earlier first → StopsAmong Stopped earlier (first ++ others)
  stops_early first others s = record {
    first = s.first;
    rest = s.rest ++ others;
    whole = ap (λ xs. xs ++ others) s.whole ∙ append_assoc s.first s.rest others;
    stopped = s.stopped;
  }

  -- what stops among others after some stops among all of them
  pub stops_late : (first others : List A) → StopsAmong Stopped (earlier ++ first) others → StopsAmong Stopped earlier (first ++ others)
  stops_late first others s = record {
    first = first ++ s.first;
    rest = s.rest;
    whole = ap (λ xs. first ++ xs) s.whole ∙ sym (append_assoc first s.first s.rest);
    stopped = subst Stopped (append_assoc earlier first s.first) s.stopped;
  }

  -- the last of these rows was not taken
  pub stops_at_last : (rows : List A) → Stopped (earlier ++ rows) → StopsAmong Stopped earlier rows
  stops_at_last rows stopped = record { first = rows; rest = []; whole = sym (append-nil rows); stopped = stopped }

module _ {V : Type 0} (family : Family) (Stopped : List (Entry V) → Type 0) (given : List (Entry V)) where
  -- the same of rows whose blocks are these
  pub stop_first : (first others all : List (Row V)) → all ≡ first ++ others → StopsAmong Stopped given (map (entry_at family) first) → StopsAmong Stopped given (map (entry_at family) all)
  stop_first first others all is s =
      let f = entry_at family in
      subst (StopsAmong Stopped given) (sym (map-append f first others) ∙ ap (map f) (sym is)) (stops_early Stopped given (map f first) (map f others) s)

  pub stop_then : (first others all : List (Row V)) → all ≡ first ++ others → StopsAmong Stopped (given ++ map (entry_at family) first)
      (map (entry_at family) others) → StopsAmong Stopped given (map (entry_at family) all)
  stop_then first others all is s =
      let f = entry_at family in
      subst (StopsAmong Stopped given) (sym (map-append f first others) ∙ ap (map f) (sym is)) (stops_late Stopped given (map f first) (map f others) s)
