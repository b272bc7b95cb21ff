-- What is passed by is what the first row holds.
use Rattle.std.proofs.Common.{◌≡◌, ◌-◌, ◌∷◌, ◌++◌, ◌<◌, ◌≤◌, [], List, ap, ◌∙◌, refl, sym, arith, get_or, length, take, drop}
use Rattle.std.proofs.Math.Seq.{take-length}
use Rattle.babel_tlv.specs.Pair.{Pair}
use Rattle.babel_tlv.specs.Route.{RouteKey}
use Rattle.babel_table.proofs.table_rows.TableRows.next_key.Goals as goal

first_and_rest : (rows : List Pair) (row : Pair) (key : RouteKey) → 1 ≤ length rows → key ≡ (get_or rows 0 row).0 → rows ≡ (key, (get_or rows 0 row).1) ∷ take (length rows - 1) (drop 1 rows)
first_and_rest [] row key some is = absurd (omega arith)
first_and_rest (first ∷ rest) row key some is =
    let all : length rest ≡ length (first ∷ rest) - 1 = omega arith in
    ap (λ (k : RouteKey). (k, first.1) ∷ rest) (sym is) ∙ ap (λ (rs : List Pair). (key, first.1) ∷ rs) (sym (take-length rest) ∙ ap (λ n. take n rest) all)

none_left : (rows : List Pair) → length rows < 1 → rows ≡ []
none_left [] few = refl
none_left (row ∷ rows) few = absurd (omega arith)

-- the rows before are none
passed : (none rows more rest : List Pair) (row : Pair) → none ≡ [] → rows ≡ row ∷ rest → (none ++ rows) ++ more ≡ row ∷ ((none ++ rest) ++ more)
passed [] rows more rest row empty is = ap (λ (rs : List Pair). rs ++ more) is
passed (x ∷ none) rows more rest row empty is = absurd cc

passed_both : (none other rows rest : List Pair) (row : Pair) → none ≡ [] → other ≡ [] → rows ≡ row ∷ rest → (none ++ other) ++ rows ≡ row ∷ ((none ++ other) ++ rest)
passed_both [] [] rows rest row empty empty_too is = is
passed_both [] (x ∷ other) rows rest row empty empty_too is = absurd cc
passed_both (x ∷ none) other rows rest row empty empty_too is = absurd cc

pub returns-in-len1-up : goal.returns-in-len1-up
returns-in-len1-up c =
    let v4 : List Pair = c.args.self.now.v4.now in
    let any : List Pair = c.args.self.now.v4_any_hop.now in
    let v6 : List Pair = c.args.self.now.v6.now in
    let row : Pair = c.index-key-0.result in
    ((get_or v4 0 row).1, ap (λ (rs : List Pair). (rs ++ any) ++ v6) (first_and_rest v4 row c.key.result c.in-len1-up.len_at_least c.key.ensures.value))

pub returns-in-len1-up-v4_any_hop : goal.returns-in-len1-up-v4_any_hop
returns-in-len1-up-v4_any_hop c =
    let v4 : List Pair = c.args.self.now.v4.now in
    let any : List Pair = c.args.self.now.v4_any_hop.now in
    let v6 : List Pair = c.args.self.now.v6.now in
    let row : Pair = c.index-key-0-2.result in (
      (get_or any 0 row).1,
      passed v4 any v6 _ _ (none_left v4 c.in_default.len_below)
          (first_and_rest any row c.key-in-len1-up-v4_any_hop.result c.in-len1-up-v4_any_hop.len_at_least c.key-in-len1-up-v4_any_hop.ensures.value),
    )

pub returns : goal.returns
returns c =
    let v4 : List Pair = c.args.self.now.v4.now in
    let any : List Pair = c.args.self.now.v4_any_hop.now in
    let v6 : List Pair = c.args.self.now.v6.now in
    let row : Pair = c.index-key-0-3.result in (
      (get_or v6 0 row).1,
      passed_both v4 any v6 _ _ (none_left v4 c.in_default.len_below) (none_left any c.in_default-v4_any_hop.len_below)
          (first_and_rest v6 row c.key-2.result c.in-len1-up-v6.len_at_least c.key-2.ensures.value),
    )
