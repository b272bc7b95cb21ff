-- What two lists of rows begin with both tells them apart nowhere.
use Rattle.std.proofs.Common.{cond, Contains, ◌≡◌, ◌↔◌, inl, inr, ℕ, zero, suc, ◌-◌, ◌/◌, ◌^◌, ◌<◌, ◌≤◌, Bool, true, false}
use Rattle.std.proofs.Common.{List, [], ◌∷◌, ◌++◌, Option, Some, None, map, filter, refl, sym, ◌∙◌, ap, subst, arith}
use Rattle.std.specs.Option.{IfSome, IfNone, MatchOption}
use Rattle.babel_prefix.specs.Address.{block_of}
use Rattle.babel_prefix.specs.Best.{Row, answer}
use Rattle.babel_prefix.specs.BestRow.{IsTable, Matches}
use Rattle.babel_prefix.specs.Covers.{BlockCovers}
use Rattle.babel_prefix.specs.Entries.{Entry, row_of}
use Rattle.babel_prefix.proofs.AnswerLaws.{IsTop, answer-top, top-from_answer, top_is_one}
use Rattle.babel_prefix.proofs.Members.{Listed, Listed-append_cases, Listed-from_Contains, Contains-from_Listed, Listed-append_left, Listed-filter, filter-Listed}
use Rattle.babel_trie.specs.Boxes.{Answers}
use Rattle.babel_trie.specs.Differs.{IsFirstPair}
use Rattle.babel_trie.specs.Front.{reaches, ShareFront}
use Rattle.babel_trie.specs.Pass.{StartRowsFrom}
use Rattle.babel_trie.specs.Rows.{InOrder}
use Rattle.babel_trie.specs.Split.{rows_of_split}
use Rattle.std.proofs.Math.Nat.{div-mul-le_self}
use Rattle.std.proofs.lemmas.Bool.{cases_lt, le-leb}
use Rattle.std.proofs.lemmas.Nat.{le-div, pow_pos}
use Rattle.babel_trie.proofs.PartLaws.{from_map, to_map}
use Rattle.babel_trie.proofs.Ranges.{covers_range}

-- what holds wherever there is something, and where there is nothing
pub if_some : {X : Type 0} (P : X → Type 0) (o : Option X) → ((x : X) → o ≡ Some x → P x) → IfSome o P
if_some P None all = tt
if_some P (Some x) all = all x refl

pub if_none : {X P : Type 0} (o : Option X) → (o ≡ None → P) → IfNone o P
if_none None all = all refl
if_none (Some x) all = tt

-- ---- the next rows of both lists

module _ {V : Type 0} where
  no_rows : (rows : List (Entry V)) → ((row : Entry V) → Listed rows row → ⊥) → rows ≡ []
  no_rows [] none = refl
  no_rows (row ∷ rows) none = absurd (none row (inl refl))

  pub split_rows : {R : Type 0} (rows : R → List (Entry V)) (left : R) (split : Option (Entry V × R))
      → MatchOption split (rows left ≡ []) (λ parts. rows left ≡ parts.0 ∷ rows parts.1) → rows_of_split rows split ≡ rows left
  split_rows rows left None is = sym is
  split_rows rows left (Some parts) is = sym is

  -- all of these start behind an address exactly if the first of them does, which starts here
  abbrev pub StartsFirst : List (Entry V) → Option ℕ → Type 0
  StartsFirst rows first = (at : ℕ) → ((row : Entry V) → Listed rows row → at < (block_of row.0).start) ↔ IfSome first (λ start. at < start)

  module _ (rest other : List (Entry V)) (first other_first nearer : Option ℕ) (starts : StartsFirst rest first) (other_starts : StartsFirst other other_first)
      (both : (at : ℕ) → IfSome nearer (λ start. at < start) ↔ (IfSome first (λ start. at < start) × IfSome other_first (λ start. at < start))) where
    pub from_nearer : (at : ℕ) → nearer ≡ Some at → StartRowsFrom at rest × StartRowsFrom at other
    from_nearer zero is = ((λ row t. omega arith), (λ row t. omega arith))
    from_nearer (suc n) is =
        let here : IfSome nearer (λ start. n < start) = subst (λ (o : Option ℕ). IfSome o (λ start. n < start)) (sym is) (omega arith) in
        let each = (both n).0 here in (
          (λ row t. let lt : n < (block_of row.0).start = (starts n).1 each.0 row t in omega (arith, lt)),
          (λ row t. let lt : n < (block_of row.0).start = (other_starts n).1 each.1 row t in omega (arith, lt)),
        )

    pub none_nearer : nearer ≡ None → (rest ≡ []) × (other ≡ [])
    none_nearer is =
        let each = λ (at : ℕ). (both at).0 (subst (λ (o : Option ℕ). IfSome o (λ start. at < start)) (sym is) tt) in (
          no_rows rest (λ row t. let lt : (block_of row.0).start < (block_of row.0).start = (starts (block_of row.0).start).1 (each (block_of row.0).start).0 row t in omega (arith, lt)),
          no_rows other (λ row t. let lt : (block_of row.0).start < (block_of row.0).start = (other_starts (block_of row.0).start).1 (each (block_of row.0).start).1 row t in omega (arith, lt)),
        )

-- ---- rows that matter for a destination

module _ {X : Type 0} (R : X → X → Type 0) (p : X → Bool) where
  pub filter-in_order : (xs : List X) → InOrder R xs → InOrder R (filter p xs)
  filter-in_order [] order = tt
  filter-in_order (x ∷ xs) order = step (filter-in_order xs order.1) (p x) refl
    where
      step : InOrder R (filter p xs) → (b : Bool) → p x ≡ b → InOrder R (cond b (x ∷ filter p xs) (filter p xs))
      step rest true e = ((λ y t. order.0 y (Listed-filter p xs y t).0), rest)
      step rest false e = rest

module _ {V : Type 0} (w : ℕ) where
  -- rows with the same matches have the same answer
  answer_by_matches : (rows others : List (Row V)) → IsTable w others → (d s : ℕ)
      → ((row : Row V) → Listed rows row → Matches w d s row → Listed others row)
      → ((row : Row V) → Listed others row → Matches w d s row → Listed rows row) → (v : V) →
      answer w rows d s ≡ Some v → answer w others d s ≡ Some v
  answer_by_matches rows others table d s there back v is =
      let at = top-from_answer w rows d s v is in
      let top : IsTop w others d s at.0 = record { listed = there at.0 at.1.listed at.1.matching; matching = at.1.matching; longest = λ other t m. at.1.longest other (back other t m) m } in
      answer-top w others d s at.0 top (λ other too. ap (λ (r : Row V). r.value) (top_is_one w others d s at.0 other table top too)) ∙ ap (λ (u : V). Some u) at.2

  same_option : (a b : Option V) → ((v : V) → a ≡ Some v → b ≡ Some v) → ((v : V) → b ≡ Some v → a ≡ Some v) → a ≡ b
  same_option None None there back = refl
  same_option None (Some v) there back = let e = back v refl in absurd (cc)
  same_option (Some v) b there back = sym (there v refl)

  pub answers_by_matches : (rows others : List (Entry V)) → IsTable w (map row_of rows) → IsTable w (map row_of others) → (d s : ℕ)
      → ((row : Entry V) → Listed rows row → Matches w d s (row_of row) → Listed others row)
      → ((row : Entry V) → Listed others row → Matches w d s (row_of row) → Listed rows row) →
      answer w (map row_of rows) d s ≡ answer w (map row_of others) d s
  answers_by_matches rows others table other_table d s there back =
      same_option (answer w (map row_of rows) d s) (answer w (map row_of others) d s)
      (answer_by_matches (map row_of rows) (map row_of others) other_table d s (mapped rows others there) (mapped others rows back))
      (answer_by_matches (map row_of others) (map row_of rows) table d s (mapped others rows back) (mapped rows others there))
    where
      mapped : (xs ys : List (Entry V)) → ((row : Entry V) → Listed xs row → Matches w d s (row_of row) → Listed ys row) → (row : Row V)
          → Listed (map row_of xs) row → Matches w d s row → Listed (map row_of ys) row
      mapped xs ys all row t m =
          let from = from_map row_of xs row t in
          subst (Listed (map row_of ys)) from.2 (to_map row_of ys from.0 (all from.0 from.1 (subst (Matches w d s) (sym from.2) m)))

  -- some rows of a table are a table
  pub part_table : (part rows : List (Entry V)) → ((row : Entry V) → Listed part row → Listed rows row) → IsTable w (map row_of rows) → IsTable w (map row_of part)
  part_table part rows all table = record {
    prefixes = λ row c. table.prefixes row (whole row c);
    one_row = λ row other c d. table.one_row row other (whole row c) (whole other d);
  }
    where
      whole : (row : Row V) → Contains (map row_of part) row → Contains (map row_of rows) row
      whole row c =
          let from = from_map row_of part row (Listed-from_Contains (map row_of part) row c) in
          Contains-from_Listed (map row_of rows) row (subst (Listed (map row_of rows)) from.2 (to_map row_of rows from.0 (all from.0 from.1)))

  pub filter-table : (p : Entry V → Bool) (rows : List (Entry V)) → IsTable w (map row_of rows) → IsTable w (map row_of (filter p rows))
  filter-table p rows = part_table (filter p rows) rows (λ row t. (Listed-filter p rows row t).0)

-- ---- where two pairs of functions agree and differ at the same places

pub first_pair-by : {V : Type 0} (n m : ℕ) (f g f' g' : Answers V) → ((d s : ℕ) → d < n → s < m → (f' d s ≡ g' d s) ↔ (f d s ≡ g d s))
    → (found : Option (ℕ × ℕ)) → IsFirstPair n m f' g' found → IsFirstPair n m f g found
first_pair-by n m f g f' g' same None agree = λ d d_in s s_in. (same d s d_in s_in).0 (agree d d_in s s_in)
first_pair-by n m f g f' g' same (Some at) first =
    let s_in = first.differ.in_range in
    record {
      in_range = first.in_range;
      differ = record {
        in_range = s_in;
        differ = λ e. first.differ.differ ((same at.0 at.1 first.in_range s_in).1 e);
        agree_below = λ s lt. (same at.0 s first.in_range (omega (arith, lt, s_in))).0 (first.differ.agree_below s lt);
      };
      agree_below = λ d lt s lt_s. (same d s (omega (arith, lt, first.in_range)) lt_s).0 (first.agree_below d lt s lt_s);
    }

-- ---- what both begin with, passed over but for the rows that reach behind it

module _ {V : Type 0} (w at : ℕ) (left right : List (Entry V)) (table : IsTable w (map row_of left)) (other_table : IsTable w (map row_of right)) (shared : ShareFront left right at) where
  abbrev p : Entry V → Bool
  p = reaches w at

  matching_reaches : (d : ℕ) → at ≤ d → (row : Entry V) → BlockCovers w (block_of row.0) d → p row ≡ true
  matching_reaches d le row covers =
      let n : ℕ = 2 ^ (w - (block_of row.0).len) in
      le-leb (at / n) ((block_of row.0).start / n) (subst (λ k. at / n ≤ k) covers (le-div (at / n) d n (pow_pos (w - (block_of row.0).len)) (omega (arith, div-mul-le_self at n, le))))

  behind_same : (rows : List (Entry V)) → IsTable w (map row_of rows) → (d s : ℕ) → at ≤ d → answer w (map row_of (filter p rows)) d s ≡ answer w (map row_of rows) d s
  behind_same rows of d s le =
      answers_by_matches w (filter p rows) rows (filter-table w p rows of) of d s
      (λ row t m. (Listed-filter p rows row t).0) (λ row t m. filter-Listed p rows row t (matching_reaches d le row m.0))

  -- in front of the others all that match stand in both
  stands_in_both : (rows others front rest other_rest : List (Entry V)) → rows ≡ front ++ rest → others ≡ front ++ other_rest → StartRowsFrom at rest
      → IsTable w (map row_of rows) → (d s : ℕ) → d < at → (row : Entry V) → Listed rows row → Matches w d s (row_of row) → Listed others row
  stands_in_both rows others front rest other_rest whole other_whole from of d s lt row t m =
      elim (Listed-append_cases front rest row (subst (λ (xs : List (Entry V)). Listed xs row) whole t)) [
        | inl in_front ↦ subst (λ (xs : List (Entry V)). Listed xs row) (sym other_whole) (Listed-append_left front other_rest row in_front)
        | inr behind ↦
            let block = (of.prefixes (row_of row) (Contains-from_Listed (map row_of rows) (row_of row) (to_map row_of rows row t))).0 in
            let start = (covers_range w (block_of row.0) d block m.0).0 in
            absurd (omega (arith, from row behind, start, lt))
      ]

  there : (d s : ℕ) → d < at → (row : Entry V) → Listed left row → Matches w d s (row_of row) → Listed right row
  there = let b = shared.behind in stands_in_both left right b.front shared.rest shared.other_rest b.whole b.other_whole shared.from table

  back : (d s : ℕ) → d < at → (row : Entry V) → Listed right row → Matches w d s (row_of row) → Listed left row
  back = let b = shared.behind in stands_in_both right left b.front shared.other_rest shared.rest b.other_whole b.whole shared.other_from other_table

  pub front-same : (d s : ℕ) → (answer w (map row_of (filter p left)) d s ≡ answer w (map row_of (filter p right)) d s) ↔ (answer w (map row_of left) d s ≡ answer w (map row_of right) d s)
  front-same d s = elim (cases_lt d at) [
    | inl lt ↦
        let whole = answers_by_matches w left right table other_table d s (there d s lt) (back d s lt) in
        let some = answers_by_matches w (filter p left) (filter p right) (filter-table w p left table) (filter-table w p right other_table) d s
        (λ row t m. let f = Listed-filter p left row t in filter-Listed p right row (there d s lt row f.0 m) f.1)
        (λ row t m. let f = Listed-filter p right row t in filter-Listed p left row (back d s lt row f.0 m) f.1) in
        ((λ e. whole), (λ e. some))
    | inr ge ↦
        let l = behind_same left table d s ge in
        let r = behind_same right other_table d s ge in
        ((λ e. sym l ∙ e ∙ r), (λ e. l ∙ e ∙ sym r))
  ]
