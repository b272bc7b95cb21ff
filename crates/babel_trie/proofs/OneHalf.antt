-- Rows of one half of a block, laid over that half alone.
use Rattle.std.proofs.Common.{get_or, ◌≡◌, ℕ, ◌+◌, ◌-◌, ◌^◌, ◌<◌, ◌≤◌, Bool, true, false, List, [], ◌++◌, length, Option, Some, None, ◌⊎◌, inl, inr, map, refl, sym, subst, arith}
use Rattle.std.specs.List.{slice_get}
use Rattle.std.proofs.lemmas.Option.{slice_get_cases}
use Rattle.babel_prefix.specs.Entries.{Entry, row_of}
use Rattle.babel_trie.specs.Shape.{Shape, height, value_at, IsReduced}
use Rattle.babel_trie.specs.Interned.{Opens, HaveHalves, HaveHalvesBy, Stands, IsNormalLoose, IsTrie, HasTrie, IsHalved, JoinsBy, HasOneForm}
use Rattle.babel_trie.specs.Laid.{HasOneDestination, IsSet, IsLaid}
use Rattle.babel_trie.specs.Rows.{IsPlace, InBlock, IsOnlyHalf, AreParted, Overlays, source_block}
use Rattle.babel_trie.specs.Sound.{IsBelow, KeepsNodes}
use Rattle.babel_trie.specs.declared.table.Loose.{Loose}
use Rattle.babel_trie.specs.declared.table.Loose.TheVariants.{Same, Split}
use Rattle.babel_trie.specs.declared.table.Node.{Node}
use Rattle.babel_trie.specs.declared.table.Sources.{Sources}
use Rattle.babel_trie.specs.declared.table.Sources.TheVariants.{Constant, Stored}
use Rattle.babel_trie.proofs.FormLaws.{halved_split}
use Rattle.babel_trie.proofs.NumberLaws.{Stands-grows, Opens-grows, halves-normal}
use Rattle.babel_trie.proofs.OverlayLaws.{overlays_none}
use Rattle.babel_trie.proofs.PartLaws.{upper_place, upper_rows}
use Rattle.babel_trie.proofs.PlaceLaws.{place_low}
use Rattle.babel_trie.proofs.SourceLaws.{overlaid_joined, laid_over_set, rest_parted, set_fits, halved_tries, one_left, one_right}

module _ {V : Type 0} (w bits start middle : ℕ) (rows own low high : List (Entry V)) (parts : AreParted source_block w bits start rows own low high)
    (middle_is : middle ≡ start + 2 ^ (bits - 1)) (one : HasOneDestination rows) where
  rest_one : HasOneDestination (low ++ high)
  rest_one = one_right own (low ++ high) (subst HasOneDestination parts.whole one)

  -- they are rows of a block
  pub only_place : (is_low : Bool) (only : List (Entry V)) (at : ℕ) → IsOnlyHalf low high start middle is_low only at → IsPlace w (bits - 1) at
  only_place true only at half = subst (IsPlace w (bits - 1)) (sym half.2) (place_low w bits start parts.place parts.some)
  only_place false only at half = subst (IsPlace w (bits - 1)) (sym half.2) (upper_place middle_is parts)

  pub only_rows : (is_low : Bool) (only : List (Entry V)) (at : ℕ) → IsOnlyHalf low high start middle is_low only at → InBlock source_block w (bits - 1) at only
  only_rows true only at half = subst (λ n. InBlock source_block w (bits - 1) n only) (sym half.2) (subst (InBlock source_block w (bits - 1) start) (sym half.1) parts.low_in)
  only_rows false only at half = subst (λ n. InBlock source_block w (bits - 1) n only) (sym half.2) (subst (InBlock source_block w (bits - 1) middle) (sym half.1) (upper_rows middle_is parts))

  pub only_one : (is_low : Bool) (only : List (Entry V)) (at : ℕ) → IsOnlyHalf low high start middle is_low only at → HasOneDestination only
  only_one true only at half = subst HasOneDestination (sym half.1) (one_left low high rest_one)
  only_one false only at half = subst HasOneDestination (sym half.1) (one_right low high rest_one)

  -- no rows leave the trie as it is
  none_laid : (k at : ℕ) (none : List (Entry V)) → none ≡ [] → (nodes : List (Node (Option V))) (x : Loose (Option V)) (t : Shape (Option V))
      → Stands nodes x t → IsLaid w k at (map row_of none) nodes x t
  none_laid k at none is nodes x t stands = record {
    new = t;
    stands = stands;
    fits = λ f. f;
    reduced = λ r. r;
    values = λ d a dst a_in. subst (λ (xs : List (Entry V)). Overlays w (map row_of xs) d (at + a) (value_at t k a) (value_at t k a)) (sym is) (overlays_none w d (at + a) (value_at t k a));
  }

  module _ (nodes : List (Node (Option V))) (n : Loose (Option V)) (node : Node (Option V)) (u : Shape (Option V)) (set : IsSet own nodes n u)
      (is : n ≡ Split node) (fits : height u ≤ bits) (reduced : IsReduced u) (inside x : Loose (Option V)) where
    rest : AreParted source_block w bits start (low ++ high) [] low high
    rest = rest_parted w bits start rows own low high parts

    set_low : height set.new ≤ bits
    set_low = set_fits own u set.new bits set.is fits

    halved_at : (l h : Loose (Option V)) → HaveHalves nodes node l h → IsHalved nodes set.new l h
    halved_at l h have = halved_split nodes (Split node) l h have set.new (subst (λ (y : Loose (Option V)). Stands nodes y set.new) is set.stands)

    pub tries_by : (is_low : Bool) → HaveHalvesBy is_low nodes node inside x → IsTrie (bits - 1) nodes inside × IsTrie (bits - 1) nodes x
    tries_by true have = halved_tries bits own nodes n inside x u set fits reduced parts.some (halved_at inside x have)
    tries_by false have = let tries = halved_tries bits own nodes n x inside u set fits reduced parts.some (halved_at x inside have) in (tries.1, tries.0)

    pub normal_by : (is_low : Bool) → HaveHalvesBy is_low nodes node inside x → HasOneForm nodes → IsNormalLoose nodes n → IsNormalLoose nodes inside
    normal_by true have form normal = (halves-normal nodes form (Split node) inside x have (subst (IsNormalLoose nodes) is normal)).0
    normal_by false have form normal = (halves-normal nodes form (Split node) x inside have (subst (IsNormalLoose nodes) is normal)).1

    pub laid_by : (is_low : Bool) (only : List (Entry V)) (at : ℕ) → IsOnlyHalf low high start middle is_low only at
        → HaveHalvesBy is_low nodes node inside x → (nodes2 nodes3 : List (Node (Option V))) (y whole : Loose (Option V)) → KeepsNodes nodes nodes2 →
        ((t : Shape (Option V)) → Stands nodes inside t → IsLaid w (bits - 1) at (map row_of only) nodes2 y t)
        → JoinsBy is_low nodes2 y x nodes3 whole → IsLaid w bits start (map row_of rows) nodes3 whole u
    laid_by true only at half have nodes2 nodes3 y whole keeps laid joins =
        let halved = halved_at inside x have in
        let there = laid halved.low_half halved.low_stands in
        let in_low = subst (λ m. IsLaid w (bits - 1) m (map row_of low) nodes2 y halved.low_half) half.2
        (subst (λ (xs : List (Entry V)). IsLaid w (bits - 1) at (map row_of xs) nodes2 y halved.low_half) half.1 there) in
        let in_high = none_laid (bits - 1) (start + 2 ^ (bits - 1)) high half.0 nodes2 x halved.high_half (Stands-grows nodes nodes2 keeps x halved.high_half halved.high_stands) in
        laid_over_set w bits start rows own low high parts one nodes nodes3 n whole u set
        (overlaid_joined w bits start low high rest nodes nodes2 nodes2 nodes3 inside x y x whole set.new halved in_low in_high (joins in_low.new in_high.new in_low.stands in_high.stands) set_low)
    laid_by false only at half have nodes2 nodes3 y whole keeps laid joins =
        let halved = halved_at x inside have in
        let there = laid halved.high_half halved.high_stands in
        let in_high = subst (λ m. IsLaid w (bits - 1) m (map row_of high) nodes2 y halved.high_half) middle_is
        (subst (λ m. IsLaid w (bits - 1) m (map row_of high) nodes2 y halved.high_half) half.2
        (subst (λ (xs : List (Entry V)). IsLaid w (bits - 1) at (map row_of xs) nodes2 y halved.high_half) half.1 there)) in
        let in_low = none_laid (bits - 1) start low half.0 nodes2 x halved.low_half (Stands-grows nodes nodes2 keeps x halved.low_half halved.low_stands) in
        laid_over_set w bits start rows own low high parts one nodes nodes3 n whole u set
        (overlaid_joined w bits start low high rest nodes nodes2 nodes2 nodes3 x inside x y whole set.new halved in_low in_high (joins in_low.new in_high.new in_low.stands in_high.stands) set_low)

-- what is stored beside a half is a trie
pub stored_trie : {V : Type 0} (bits : ℕ) (nodes new : List (Node V)) (s : Sources V) (x : Loose V) → KeepsNodes nodes new → Opens nodes s x → IsTrie bits nodes x → bits ≤ 127 → HasTrie 127 new s
stored_trie bits nodes new s x keeps opens h few = record {
  trie = h.trie;
  stands = (x, Opens-grows nodes new keeps s x opens, Stands-grows nodes new keeps x h.trie h.stands);
  fits = omega (arith, h.fits);
  reduced = h.reduced;
}

-- what is in the table has an opening
pub opening : {V : Type 0} (nodes : List (Node V)) (s : Sources V) → IsBelow (length nodes) s → (x : Loose V) × Opens nodes s x
opening nodes (Constant v) below = (Same v, refl)
opening {V} nodes (Stored number) below = by (slice_get_cases nodes number.0)
  where
    by : (slice_get nodes number.0 ≡ slice_get nodes number.0)
        × (((x : Node V) × (number.0 < length nodes) × (slice_get nodes number.0 ≡ Some x) × (get_or nodes number.0 x ≡ x))
        ⊎ ((length nodes ≤ number.0) × (slice_get nodes number.0 ≡ None))) → (x : Loose V) × Opens nodes (Stored number) x
    by (e, inl (node, within, is, again)) = (Split node, (node, is, refl))
    by (e, inr (past, none)) = absurd (omega (arith, past, below))
