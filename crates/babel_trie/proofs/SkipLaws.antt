-- Where nothing is beside a path, the rows are those of the block that it leads to.
use Rattle.std.proofs.Common.{◌≡◌, inl, inr, ℕ, zero, suc, ◌+◌, ◌-◌, ◌*◌, ◌/◌, ◌%◌, ◌^◌, ◌<◌, ◌≤◌, nat_eq, false, List, Option, None, refl, sym, ◌∙◌, ap, subst, arith, eqb-true}
use Rattle.std.proofs.lemmas.Bool.{false≢true}
use Rattle.std.proofs.lemmas.Nat.{pow_pos, pow-add, mul-add-lt, mod_below}
use Rattle.std.proofs.Math.Arith.{mod-mul}
use Rattle.std.proofs.Math.Nat.{mod-mod}
use Rattle.babel_trie.specs.Interned.{inner, Opens, Stands, IsTrie}
use Rattle.babel_trie.specs.Nested.{HasRowsOf, leaves, rows_at}
use Rattle.babel_trie.specs.Shape.{Shape, leaf, fork}
use Rattle.babel_trie.specs.declared.table.Loose.{Loose}
use Rattle.babel_trie.specs.declared.table.Loose.TheVariants.{Split}
use Rattle.babel_trie.specs.declared.table.Node.{Node}
use Rattle.babel_trie.specs.declared.table.Sources.{Sources}
use Rattle.babel_trie.specs.declared.table.Sources.TheVariants.{Constant}
use Rattle.babel_trie.proofs.BitLaws.{pow_twice}
use Rattle.babel_trie.proofs.ListLaws.{rows_at-append, append_none}
use Rattle.babel_trie.proofs.NumberLaws.{inner-more, one_shape}

one_bit : (n : ℕ) → n < 2 → nat_eq n 0 ≡ false → n ≡ 1
one_bit zero lt e = absurd (false≢true (sym e))
one_bit (suc zero) lt e = refl
one_bit (suc (suc n)) lt e = absurd (omega arith)

-- the place that a path leads to, by its first bit
place_on : (s path k b j : ℕ) → 0 < s → path / 2 ^ (s - 1) % 2 ≡ b → j ≡ k * 2 + b → j * 2 ^ (s - 1) + path % 2 ^ (s - 1) % 2 ^ (s - 1) ≡ k * 2 ^ s + path % 2 ^ s
place_on s path k b j some bit is =
    let m : ℕ = 2 ^ (s - 1) in
    let twice : 2 ^ s ≡ 2 * m = pow_twice s some in
    let first : path % 2 ^ s ≡ b * m + path % m = ap (λ n. path % n) twice ∙ mod-mul path {m = 2} {c = m} (omega arith) (pow_pos (s - 1)) ∙ ap (λ n. n * m + path % m) bit in
    ap (λ n. j * m + n) (mod-mod path m) ∙ ap (λ n. n * m + path % m) is ∙ omega (arith, first, ap (λ n. k * n) twice)

-- it is one of the blocks of its size
pub place_in : (w bits skip path k : ℕ) → skip ≤ bits → bits ≤ w → k < 2 ^ (w - bits) → k * 2 ^ skip + path % 2 ^ skip < 2 ^ (w - (bits - skip))
place_in w bits skip path k few le k_in =
    let P : ℕ → Type 0 = λ n. k * 2 ^ skip + path % 2 ^ skip < 2 ^ n in
    let all : skip + (w - bits) ≡ w - (bits - skip) = omega (arith, few, le) in
    subst P all (subst (λ n. k * 2 ^ skip + path % 2 ^ skip < n) (sym (pow-add 2 skip (w - bits)))
    (mul-add-lt k (2 ^ skip) (path % 2 ^ skip) (2 ^ (w - bits)) k_in (mod_below path (2 ^ skip) (pow_pos skip))))

module _ {V : Type 0} (nodes : List (Node (Option V))) where
  nothing : (s : Sources (Option V)) (x : Loose (Option V)) (t : Shape (Option V)) → s ≡ Constant None → Opens nodes s x → Stands nodes x t → leaf None ≡ t
  nothing s x t is o p = one_shape nodes x (leaf None) t (subst (λ (r : Sources (Option V)). Opens nodes r x) is o) p

  -- the node of the block that a path leads to
  abbrev pub block_node : Node (Option V) → Node (Option V)
  block_node node = record { skip = 0; path = 0; outside = node.low; low = node.low; high = node.high }

  pub same_rows : (w bits k : ℕ) (x : Loose (Option V)) (t : Shape (Option V)) → Stands nodes x t → HasRowsOf w bits k t nodes x bits k
  same_rows w bits k x t p = record { inside = t; stands = p; fits = λ f. f; reduced = λ r. r; rows = λ dst. refl }

  pub skipped_rows : (t : Shape (Option V)) (node : Node (Option V)) → (0 < node.skip → node.outside ≡ Constant None) → Stands nodes (Split node) t → (w bits k : ℕ) →
      HasRowsOf w bits k t nodes (Split (block_node node)) (bits - node.skip) (k * 2 ^ node.skip + node.path % 2 ^ node.skip)
  skipped_rows (leaf v) node none p w bits k = absurd (cc)
  skipped_rows (fork low high) node none (l, h, inl e, p, q) w bits k =
      let t : Shape (Option V) = fork low high in
      let all : bits - node.skip ≡ bits = omega (arith, e.0) in
      let at : k * 2 ^ node.skip + node.path % 2 ^ node.skip ≡ k = ap (λ n. k * 2 ^ n + node.path % 2 ^ n) e.0 ∙ omega arith in
      record {
        inside = t;
        stands = (l, h, inl (refl, e.1, e.2), p, q);
        fits = λ f. omega (arith, f, e.0);
        reduced = λ r. r;
        rows = λ dst. ap (λ n. rows_at dst (leaves w n (k * 2 ^ node.skip + node.path % 2 ^ node.skip) t)) all ∙ ap (λ n. rows_at dst (leaves w bits n t)) at;
      }
  skipped_rows (fork low high) node none (l, h, inr (inl e), p, q) w bits k =
      let rest = skipped_rows low (inner node) (λ more. inner-more node (λ one. omega (arith, more, one)) ∙ none e.0)
      (subst (λ (x : Loose (Option V)). Stands nodes x low) e.2 p) w (bits - 1) (k * 2) in
      let beside : leaf None ≡ high = nothing node.outside h high (none e.0) e.3 q in
      let left : bits - node.skip ≡ bits - 1 - (node.skip - 1) = omega (arith, e.0) in
      let at = place_on node.skip node.path k 0 (k * 2) e.0 (eqb-true _ _ e.1) (omega arith) in
      record {
        inside = rest.inside;
        stands = rest.stands;
        fits = λ f. omega (arith, rest.fits (omega (arith, f)), e.0);
        reduced = λ r. rest.reduced r.1;
        rows = λ dst. ap (λ n. rows_at dst (leaves w n (k * 2 ^ node.skip + node.path % 2 ^ node.skip) rest.inside)) left
            ∙ ap (λ n. rows_at dst (leaves w (bits - 1 - (node.skip - 1)) n rest.inside)) (sym at) ∙ rest.rows dst
            ∙ sym (rows_at-append dst (leaves w (bits - 1) (k * 2) low) (leaves w (bits - 1) (k * 2 + 1) (leaf None)) ∙ append_none (rows_at dst (leaves w (bits - 1) (k * 2) low)))
            ∙ ap (λ x. rows_at dst (leaves w bits k (fork low x))) beside;
      }
  skipped_rows (fork low high) node none (l, h, inr (inr e), p, q) w bits k =
      let rest = skipped_rows high (inner node) (λ more. inner-more node (λ one. omega (arith, more, one)) ∙ none e.0)
      (subst (λ (x : Loose (Option V)). Stands nodes x high) e.3 q) w (bits - 1) (k * 2 + 1) in
      let beside : leaf None ≡ low = nothing node.outside l low (none e.0) e.2 p in
      let left : bits - node.skip ≡ bits - 1 - (node.skip - 1) = omega (arith, e.0) in
      let bit = one_bit (node.path / 2 ^ (node.skip - 1) % 2) (mod_below (node.path / 2 ^ (node.skip - 1)) 2 (omega arith)) e.1 in
      let at = place_on node.skip node.path k 1 (k * 2 + 1) e.0 bit refl in
      record {
        inside = rest.inside;
        stands = rest.stands;
        fits = λ f. omega (arith, rest.fits (omega (arith, f)), e.0);
        reduced = λ r. rest.reduced r.2;
        rows = λ dst. ap (λ n. rows_at dst (leaves w n (k * 2 ^ node.skip + node.path % 2 ^ node.skip) rest.inside)) left
            ∙ ap (λ n. rows_at dst (leaves w (bits - 1 - (node.skip - 1)) n rest.inside)) (sym at) ∙ rest.rows dst
            ∙ ap (λ x. rows_at dst (leaves w bits k (fork x high))) beside;
      }

  -- what has the rows of a trie is one
  pub rows_trie : (w bits k its_bits its_place : ℕ) (x y : Loose (Option V)) (h : IsTrie bits nodes x) → HasRowsOf w bits k h.trie nodes y its_bits its_place → IsTrie its_bits nodes y
  rows_trie w bits k its_bits its_place x y h r = record { trie = r.inside; stands = r.stands; fits = r.fits h.fits; reduced = r.reduced h.reduced }
