-- The rows of a node are those of its two halves, also where nothing is answered beside its block.
use Rattle.std.proofs.Common.{◌≡◌, inl, inr, ℕ, ◌+◌, ◌-◌, ◌*◌, ◌%◌, ◌^◌, ◌<◌, ◌≤◌, List, ◌++◌, map, Option, None, sym, ◌∙◌, ap, subst, arith}
use Rattle.babel_prefix.specs.Address.{AddressPrefix, block_of}
use Rattle.babel_prefix.specs.Best.{Row}
use Rattle.babel_prefix.specs.Block.{Block}
use Rattle.babel_prefix.specs.Entries.{Entry}
use Rattle.babel_prefix.specs.Width.{width_of}
use Rattle.babel_prefix.specs.declared.family.Family.{Family}
use Rattle.babel_trie.specs.Interned.{HaveHalves, Stands, Represents, IsTrie, HasTrie}
use Rattle.babel_trie.specs.Nested.{block_rows, entry_at, leaves, rows_at}
use Rattle.babel_trie.specs.Shape.{Shape, leaf, fork, height, IsReduced}
use Rattle.babel_trie.specs.Sinks.{GoesOn, StopsIn}
use Rattle.babel_trie.specs.declared.table.Loose.{Loose}
use Rattle.babel_trie.specs.declared.table.Loose.TheVariants.{Split}
use Rattle.babel_trie.specs.declared.table.Node.{Node}
use Rattle.babel_trie.specs.declared.table.Sources.TheVariants.{Constant}
use Rattle.babel_trie.proofs.HalfLaws.{fork_halves}
use Rattle.babel_trie.proofs.ListLaws.{rows_at-append}
use Rattle.babel_trie.proofs.PutLaws.{put_both, stop_first, stop_then}
use Rattle.babel_trie.proofs.SkipLaws.{block_node, skipped_rows, rows_trie}

-- rows are those of the lower half of a block, and then those of its upper half
pub record TwoHalves {V : Type 0} (w : ℕ) (LowStands HighStands : Shape (Option V) → Type 0) (all : Block → List (Row V)) (bits low_place high_place : ℕ) : Type 0 where
  pub low : Shape (Option V)
  pub high : Shape (Option V)
  pub low_stands : LowStands low
  pub high_stands : HighStands high
  pub rows : (dst : Block) → all dst ≡ rows_at dst (leaves w bits low_place low) ++ rows_at dst (leaves w bits high_place high)

-- the rows of one half are put out after those of the other
module _ {V S : Type 0} {LowStands HighStands : Shape (Option V) → Type 0} {rows : Block → List (Row V)} {bits low_place high_place : ℕ} (family : Family) (dst : AddressPrefix)
    (halves : TwoHalves (width_of family) LowStands HighStands rows bits low_place high_place) (has stopped : S → S → List (Entry V) → Type 0) (old mid new : S) where
  pub both_put : ((t : Shape (Option V)) → LowStands t → GoesOn has old mid (block_rows family dst bits low_place t))
      → ((t : Shape (Option V)) → HighStands t → GoesOn has mid new (block_rows family dst bits high_place t)) → GoesOn has old new (map (entry_at family) (rows (block_of dst)))
  both_put first second start given so =
      put_both family (has start new) given _ _ _ (halves.rows (block_of dst)) (second halves.high halves.high_stands start _ (first halves.low halves.low_stands start given so))

  pub low_stops : ((t : Shape (Option V)) → LowStands t → StopsIn has stopped old mid (block_rows family dst bits low_place t)) → StopsIn has stopped old mid
      (map (entry_at family) (rows (block_of dst)))
  low_stops first start given so = stop_first family (stopped start mid) given _ _ _ (halves.rows (block_of dst)) (first halves.low halves.low_stands start given so)

  pub high_stops : ((t : Shape (Option V)) → LowStands t → GoesOn has old mid (block_rows family dst bits low_place t))
      → ((t : Shape (Option V)) → HighStands t → StopsIn has stopped mid new (block_rows family dst bits high_place t)) → StopsIn has stopped old new (map (entry_at family) (rows (block_of dst)))
  high_stops first second start given so =
      stop_then family (stopped start new) given _ _ _ (halves.rows (block_of dst)) (second halves.high halves.high_stands start _ (first halves.low halves.low_stands start given so))

-- the halves of a trie that is no single value
pub two_halves : {V : Type 0} (nodes : List (Node (Option V))) (w bits place : ℕ) (node : Node (Option V)) (x y : Loose (Option V))
    → ((m : Node (Option V)) → Split node ≡ Split m → HaveHalves nodes m x y) → (t : Shape (Option V)) → Stands nodes (Split node) t → (low high : ℕ) → low ≡ place * 2 → high ≡ place * 2 + 1 →
    TwoHalves w (Stands nodes x) (Stands nodes y) (λ dst. rows_at dst (leaves w bits place t)) (bits - 1) low high
two_halves {V} nodes w bits place node x y halves t p low high low_is high_is =
    let f = fork_halves nodes (Split node) x y (λ v e. absurd (cc)) halves t p in
    record {
      low = f.low_half;
      high = f.high_half;
      low_stands = f.low_stands;
      high_stands = f.high_stands;
      rows = λ dst. ap (λ u. rows_at dst (leaves w bits place u)) (sym f.is) ∙ rows_at-append dst (leaves w (bits - 1) (place * 2) f.low_half) (leaves w (bits - 1) (place * 2 + 1) f.high_half)
          ∙ ap (λ k. rows_at dst (leaves w (bits - 1) k f.low_half) ++ rows_at dst (leaves w (bits - 1) (place * 2 + 1) f.high_half)) (sym low_is)
          ∙ ap (λ k. rows_at dst (leaves w (bits - 1) low f.low_half) ++ rows_at dst (leaves w (bits - 1) k f.high_half)) (sym high_is);
    }

module _ {V : Type 0} (nodes : List (Node (Option V))) (w bits place : ℕ) (node : Node (Option V)) (none : 0 < node.skip → node.outside ≡ Constant None) where
  abbrev its_bits : ℕ
  its_bits = bits - node.skip

  abbrev its_place : ℕ
  its_place = place * 2 ^ node.skip + node.path % 2 ^ node.skip

  -- the halves of the block, by its bits and its place
  pub block_halves : (t : Shape (Option V)) → Stands nodes (Split node) t → (b k low high : ℕ) → b ≡ its_bits → k ≡ its_place → low ≡ k * 2 → high ≡ k * 2 + 1 →
      TwoHalves w (Represents nodes node.low) (Represents nodes node.high) (λ dst. rows_at dst (leaves w bits place t)) (b - 1) low high
  block_halves t stands b k low_place high_place b_is k_is low_is high_is =
      let of = skipped_rows nodes t node none stands w bits place in
      let at_low : low_place ≡ its_place * 2 = low_is ∙ ap (λ n. n * 2) k_is in
      let at_high : high_place ≡ its_place * 2 + 1 = high_is ∙ ap (λ n. n * 2 + 1) k_is in
      let at : ℕ → ℕ → ℕ → Type 0 =
      TwoHalves w (Represents nodes node.low) (Represents nodes node.high) (λ dst. rows_at dst (leaves w bits place t)) in
      subst (λ n. at (n - 1) low_place high_place) (sym b_is) (subst (λ n. at (its_bits - 1) n high_place) (sym at_low)
      (subst (at (its_bits - 1) (its_place * 2)) (sym at_high) (by of.inside of.stands of.rows)))
    where
      by : (inside : Shape (Option V)) → Stands nodes (Split (block_node nodes node)) inside → ((dst : Block) → rows_at dst (leaves w its_bits its_place inside) ≡ rows_at dst (leaves w bits place t))
          → TwoHalves w (Represents nodes node.low) (Represents nodes node.high) (λ dst. rows_at dst (leaves w bits place t)) (its_bits - 1) (its_place * 2) (its_place * 2 + 1)
      by (leaf v) p rows = absurd (cc)
      by (fork low high) (l, h, inl e, p, q) rows = record {
        low = low;
        high = high;
        low_stands = (l, e.1, p);
        high_stands = (h, e.2, q);
        rows = λ dst. sym (rows dst) ∙ rows_at-append dst (leaves w (its_bits - 1) (its_place * 2) low) (leaves w (its_bits - 1) (its_place * 2 + 1) high);
      }
      by (fork low high) (l, h, inr (inl e), p, q) rows = let some = e.0 in absurd (omega (arith, some))
      by (fork low high) (l, h, inr (inr e), p, q) rows = let some = e.0 in absurd (omega (arith, some))

  -- both are tries
  pub half_tries : (b : ℕ) → b ≡ its_bits → IsTrie bits nodes (Split node) → HasTrie (b - 1) nodes node.low × HasTrie (b - 1) nodes node.high
  half_tries b b_is h =
      let block = rows_trie nodes w bits place its_bits its_place (Split node) (Split (block_node nodes node)) h (skipped_rows nodes h.trie node none h.stands w bits place) in
      subst (λ n. HasTrie (n - 1) nodes node.low × HasTrie (n - 1) nodes node.high) (sym b_is) (by block.trie block.stands block.fits block.reduced)
    where
      by : (t : Shape (Option V)) → Stands nodes (Split (block_node nodes node)) t → height t ≤ its_bits → IsReduced t → HasTrie (its_bits - 1) nodes node.low × HasTrie (its_bits - 1) nodes node.high
      by (leaf v) p fits reduced = absurd (cc)
      by (fork low high) (l, h, inl e, p, q) fits reduced = (
        record { trie = low; stands = (l, e.1, p); fits = omega (arith, fits); reduced = reduced.1 },
        record { trie = high; stands = (h, e.2, q); fits = omega (arith, fits); reduced = reduced.2 },
      )
      by (fork low high) (l, h, inr (inl e), p, q) fits reduced = let some = e.0 in absurd (omega (arith, some))
      by (fork low high) (l, h, inr (inr e), p, q) fits reduced = let some = e.0 in absurd (omega (arith, some))
