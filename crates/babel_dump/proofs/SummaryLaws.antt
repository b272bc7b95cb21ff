-- The router-ids and next hops of one row more, and two filters in either order.
use Rattle.std.proofs.Common.{◌≡◌, Bool, true, false, List, [], ◌∷◌, ◌++◌, Option, None, Some, refl, ap, ◌∙◌, append-nil, filter_map, rules}
use Rattle.std.proofs.Math.Path.{fun_ext}
use Rattle.std.proofs.lemmas.List.Elements.{filter_map-append}
use Rattle.std.proofs.lemmas.List.Sums.{fold-append}
use Rattle.std.specs.BTreeSet.{insert_key}
use Rattle.std.specs.List.{cons_option, fold}
use Rattle.std.specs.Prelude.{filter, cond}
use Rattle.std.specs.declared.cmp.Ordering.{Ordering}
use Rattle.babel_prefix.specs.Address.{Address}
use Rattle.babel_prefix.specs.Order.{address_cmp}
use Rattle.babel_prefix.specs.contracts.addr.AddrOrd.TheImpl.{ghosts}
use Rattle.babel_tlv.specs.declared.held.Held.{Held}
use Rattle.babel_tlv.specs.Pair.{Pair}
use Rattle.babel_dump.specs.Summary.{set_of}

-- the order of next hops is the stated one
pub hop_order : ghosts.cmp ≡ address_cmp
hop_order = fun_ext (λ a. fun_ext (λ b. one a b))
  where
    one : (a b : Address) → ghosts.cmp a b ≡ address_cmp a b
    one a b = search rules

module _ {A : Type 0} (cmp : A → A → Ordering) (value_of : Held → Option A) (rows : List Pair) (row : Pair) where
  abbrev of_row : Pair → Option A
  of_row row = value_of row.1

  pub set_more : (a : A) → value_of row.1 ≡ Some a → set_of cmp value_of (rows ++ row ∷ []) ≡ insert_key cmp (set_of cmp value_of rows) a
  set_more a is =
      ap (fold (insert_key cmp) []) (filter_map-append of_row rows (row ∷ []) ∙ ap (λ (o : Option A). filter_map of_row rows ++ cons_option o []) is)
      ∙ fold-append (insert_key cmp) [] (filter_map of_row rows) (a ∷ [])

  pub set_same : value_of row.1 ≡ None → set_of cmp value_of (rows ++ row ∷ []) ≡ set_of cmp value_of rows
  set_same is =
      ap (fold (insert_key cmp) [])
      (filter_map-append of_row rows (row ∷ []) ∙ ap (λ (o : Option A). filter_map of_row rows ++ cons_option o []) is ∙ append-nil (filter_map of_row rows))

-- two filters keep the same in either order
swapped : (a b : Bool) (row : Pair) (p q : Pair → Bool) (ps qs : List Pair) → p row ≡ a → q row ≡ b → filter p qs ≡ filter q ps
    → filter p (cond b (row ∷ qs) qs) ≡ filter q (cond a (row ∷ ps) ps)
swapped true true row p q ps qs is_p is_q so = rw (is_p, is_q, so) refl
swapped true false row p q ps qs is_p is_q so = rw (is_q, so) refl
swapped false true row p q ps qs is_p is_q so = rw (is_p, so) refl
swapped false false row p q ps qs is_p is_q so = so

pub filters_swap : (p q : Pair → Bool) (rows : List Pair) → filter p (filter q rows) ≡ filter q (filter p rows)
filters_swap p q [] = refl
filters_swap p q (row ∷ rows) = swapped (p row) (q row) row p q (filter p rows) (filter q rows) refl refl (filters_swap p q rows)
