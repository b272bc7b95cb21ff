-- Rows of a block that some bits lead to, laid over a trie with one value beside it.
use Rattle.std.proofs.Common.{◌≡◌, ◌⊎◌, inl, inr, ℕ, zero, suc, ◌+◌, ◌-◌, ◌*◌, ◌%◌, ◌^◌, ◌<◌, ◌≤◌, cond, true, false, List, Option, map, sym, ◌∙◌, ap, subst, arith}
use Rattle.std.proofs.lemmas.Bool.{cases_lt}
use Rattle.std.proofs.lemmas.Nat.{pow_pos, pow-add}
use Rattle.std.proofs.Math.Nat.{mul-add-mod_self_right, mod-eq_of_lt, mul-le-mul_right}
use Rattle.babel_prefix.specs.Address.{block_of}
use Rattle.babel_prefix.specs.Best.{Row}
use Rattle.babel_prefix.specs.Covers.{BlockCovers}
use Rattle.babel_prefix.specs.Entries.{Entry, row_of}
use Rattle.babel_trie.specs.Held.{along}
use Rattle.babel_trie.specs.Inner.{IsInner, IsInside}
use Rattle.babel_trie.specs.Laid.{IsAlong, IsLaid}
use Rattle.babel_trie.specs.Rows.{NoneMatches, Overlays, source_block}
use Rattle.babel_trie.specs.Shape.{Shape, leaf, fork, is_low, height, value_at}
use Rattle.babel_trie.specs.declared.table.Loose.{Loose}
use Rattle.babel_trie.specs.declared.table.Node.{Node}
use Rattle.babel_trie.proofs.AlongLaws.{along-lower, longer_path}
use Rattle.babel_trie.proofs.BitLaws.{pow_twice, is_low-below, is_low-above}
use Rattle.babel_trie.proofs.PartLaws.{from_map}
use Rattle.babel_trie.proofs.PlaceLaws.{outside_misses}
use Rattle.babel_trie.proofs.Reduced.{halves_of_fork, value_at-low, value_at-high}

module _ {X : Type 0} (v : X) (t : Shape X) where
  -- the first bit of a path
  step_low : (k path : ℕ) → path < 2 ^ k → along (suc k) path (leaf v) t ≡ fork (along k path (leaf v) t) (leaf v)
  step_low k path lt =
      let less : suc k - 1 ≡ k = omega arith in
      let rest : path % 2 ^ k ≡ path = mod-eq_of_lt lt in
      let first : is_low (suc k) path ≡ true = is_low-below (suc k) path (subst (λ n. path < 2 ^ n) (sym less) lt) in
      ap (λ n. cond (is_low (suc k) path) (fork (along k n (leaf v) t) (leaf v)) (fork (leaf v) (along k n (leaf v) t))) rest
      ∙ ap (λ b. cond b (fork (along k path (leaf v) t) (leaf v)) (fork (leaf v) (along k path (leaf v) t))) first

  step_high : (k path : ℕ) → path < 2 ^ k → along (suc k) (1 * 2 ^ k + path) (leaf v) t ≡ fork (leaf v) (along k path (leaf v) t)
  step_high k path lt =
      let less : suc k - 1 ≡ k = omega arith in
      let whole : ℕ = 1 * 2 ^ k + path in
      let rest : whole % 2 ^ k ≡ path = mul-add-mod_self_right 1 (2 ^ k) path ∙ mod-eq_of_lt lt in
      let first : is_low (suc k) whole ≡ false = ap (λ n. is_low (suc k) (1 * 2 ^ n + path)) (sym less) ∙ is_low-above (suc k) path (subst (λ n. path < 2 ^ n) (sym less) lt) in
      ap (λ n. cond (is_low (suc k) whole) (fork (along k n (leaf v) t) (leaf v)) (fork (leaf v) (along k n (leaf v) t))) rest
      ∙ ap (λ b. cond b (fork (along k path (leaf v) t) (leaf v)) (fork (leaf v) (along k path (leaf v) t))) first

  module _ (n : ℕ) (fits : height t ≤ n) where
    -- the addresses that the bits lead to
    abbrev pub IsLedTo : ℕ → ℕ → Type 0
    IsLedTo path a = (path * 2 ^ n ≤ a) × (a < path * 2 ^ n + 2 ^ n)

    -- in the block it is the trie's value, and beside it this one
    pub record Values (k path a : ℕ) : Type 0 where
      pub inside : IsLedTo path a → value_at (along k path (leaf v) t) (n + k) a ≡ value_at t n (a - path * 2 ^ n)
      pub beside : (IsLedTo path a → ⊥) → value_at (along k path (leaf v) t) (n + k) a ≡ v

    size : (k : ℕ) → 2 ^ (n + k) ≡ 2 ^ k * 2 ^ n
    size k = ap (λ (m : ℕ). 2 ^ m) {x = n + k} {y = k + n} (omega arith) ∙ pow-add 2 k n

    less_bits : (k : ℕ) → n + suc k - 1 ≡ n + k
    less_bits k = omega arith

    in_lower : (k a : ℕ) (low high : Shape X) → a < 2 ^ (n + k) → value_at (fork low high) (n + suc k) a ≡ value_at low (n + k) a
    in_lower k a low high lt =
        value_at-low (fork low high) low high (halves_of_fork low high) (n + suc k) a (subst (λ m. a < 2 ^ m) (sym (less_bits k)) lt) ∙ ap (λ m. value_at low m a) (less_bits k)

    in_upper : (k a : ℕ) (low high : Shape X) → height high ≤ n + k → a < 2 ^ (n + k) → value_at (fork low high) (n + suc k) (1 * 2 ^ (n + k) + a) ≡ value_at high (n + k) a
    in_upper k a low high few lt =
        ap (λ m. value_at (fork low high) (n + suc k) (1 * 2 ^ m + a)) (sym (less_bits k))
        ∙ value_at-high (fork low high) low high (halves_of_fork low high) (n + suc k) a (omega (arith, few))
        (subst (λ m. a < 2 ^ m) (sym (less_bits k)) lt) ∙ ap (λ m. value_at high m a) (less_bits k)

    pub values : (k path a : ℕ) → path < 2 ^ k → a < 2 ^ (n + k) → Values k path a
    values zero path a path_in a_in =
        let none : path ≡ 0 = omega arith in
        let start : path * 2 ^ n ≡ 0 = omega (arith, ap (λ m. m * 2 ^ n) none) in
        let all : n + 0 ≡ n = omega arith in
        let within : a < 2 ^ n = subst (λ m. a < 2 ^ m) all a_in in
        record {
          inside = λ _. ap (λ m. value_at t m a) all ∙ ap (value_at t n) {x = a} {y = a - path * 2 ^ n} (omega (arith, start));
          beside = λ out. absurd (out (omega (arith, start), omega (arith, start, within)));
        }
    values (suc k) path a path_in a_in =
        let m : ℕ = 2 ^ k in
        let half : ℕ = 2 ^ (n + k) in
        let half_is : half ≡ m * 2 ^ n = size k in
        let whole : 2 ^ suc k ≡ 2 * m = let e : suc k - 1 ≡ k = omega arith in pow_twice (suc k) (omega arith) ∙ ap (λ j. 2 * 2 ^ j) e in
        let all : 2 ^ (n + suc k) ≡ 2 * half = pow_twice (n + suc k) (omega arith) ∙ ap (λ j. 2 * 2 ^ j) (less_bits k) in
        elim (cases_lt path m) [
          | inl lt ↦
              let inner : Shape X = along k path (leaf v) t in
              let is : along (suc k) path (leaf v) t ≡ fork inner (leaf v) = step_low k path lt in
              let end : path * 2 ^ n + 2 ^ n ≤ half = omega (arith, longer_path n 0 k path (pow_pos n) lt, half_is, room path m (2 ^ n) lt) in
              elim (cases_lt a half) [
                | inl low ↦
                    let rest = values k path a lt low in
                    let here : value_at (along (suc k) path (leaf v) t) (n + suc k) a ≡ value_at inner (n + k) a = ap (λ x. value_at x (n + suc k) a) is ∙ in_lower k a inner (leaf v) low in
                    record { inside = λ in_block. here ∙ rest.inside in_block; beside = λ out. here ∙ rest.beside out }
                | inr high ↦
                    let b : ℕ = a - half in
                    let parts : a ≡ 1 * half + b = omega arith in
                    let here : value_at (along (suc k) path (leaf v) t) (n + suc k) a ≡ v = ap (λ x. value_at x (n + suc k) a) is
                    ∙ ap (value_at (fork inner (leaf v)) (n + suc k)) parts ∙ in_upper k b inner (leaf v) (omega arith) (omega (arith, a_in, all)) in
                    record { inside = λ in_block. absurd (omega (arith, in_block.1, end, high)); beside = λ out. here }
              ]
          | inr ge ↦
              let r : ℕ = path - m in
              let r_in : r < m = omega (arith, path_in, whole) in
              let path_is : path ≡ 1 * m + r = omega arith in
              let inner : Shape X = along k r (leaf v) t in
              let is : along (suc k) path (leaf v) t ≡ fork (leaf v) inner = ap (λ p. along (suc k) p (leaf v) t) path_is ∙ step_high k r r_in in
              let start : path * 2 ^ n ≡ half + r * 2 ^ n = ap (λ p. p * 2 ^ n) path_is ∙ omega (arith, half_is) in
              elim (cases_lt a half) [
                | inl low ↦
                    let here : value_at (along (suc k) path (leaf v) t) (n + suc k) a ≡ v = ap (λ x. value_at x (n + suc k) a) is ∙ in_lower k a (leaf v) inner low in
                    record { inside = λ in_block. absurd (omega (arith, in_block.0, start, low)); beside = λ out. here }
                | inr high ↦
                    let b : ℕ = a - half in
                    let parts : a ≡ 1 * half + b = omega arith in
                    let b_in : b < half = omega (arith, a_in, all) in
                    let rest = values k r b r_in b_in in
                    let few : height inner ≤ n + k = omega (arith, along-lower v k r t, fits) in
                    let here : value_at (along (suc k) path (leaf v) t) (n + suc k) a ≡ value_at inner (n + k) b =
                    ap (λ x. value_at x (n + suc k) a) is ∙ ap (value_at (fork (leaf v) inner) (n + suc k)) parts ∙ in_upper k b (leaf v) inner few b_in in
                    record {
                      inside = λ in_block. here ∙ rest.inside (omega (arith, in_block.0, start), omega (arith, in_block.1, start))
                          ∙ ap (value_at t n) {x = b - r * 2 ^ n} {y = a - path * 2 ^ n} (omega (arith, start));
                      beside = λ out. here ∙ rest.beside (λ led. out (omega (arith, led.0, start), omega (arith, led.1, start, parts)));
                    }
              ]
        ]
      where
        room : (path m s : ℕ) → path < m → path * s + s ≤ m * s
        room path m s lt = let most : suc path * s ≤ m * s = mul-le-mul_right s (omega arith) in omega (arith, most)

module _ {V : Type 0} (w bits start n s path : ℕ) (rows : List (Entry V)) (inner : IsInner source_block w bits start rows n s path) where
  -- outside the block no row matches
  none_outside : (d a : ℕ) → ((a < s) ⊎ (s + 2 ^ n ≤ a)) → NoneMatches w (map row_of rows) d a
  none_outside d a out row t match =
      let f = from_map row_of rows row t in
      let covers : BlockCovers w (block_of f.0.1) a = subst (λ (r : Row V). BlockCovers w r.src a) (sym f.2) match.1 in
      outside_misses w n s (block_of f.0.1) a inner.place (inner.rows_in.no_shorter f.0 f.1) (inner.rows_in.from_start f.0 f.1) (inner.rows_in.before_end f.0 f.1) out covers

  -- what is laid over the trie in the block, with the bits before, is laid over the whole
  pub laid_along : (nodes nodes1 nodes2 : List (Node (Option V))) (z x y : Loose (Option V)) (v : Option V) (u : Shape (Option V))
      → (old : IsInside nodes z (bits - n) path v u) → height old.inside ≤ n →
      (laid : IsLaid w n s (map row_of rows) nodes1 x old.inside) → IsAlong nodes2 y (bits - n) path v laid.new → IsLaid w bits start (map row_of rows) nodes2 y u
  laid_along nodes nodes1 nodes2 z x y v u old old_fits laid whole =
      let fits : height laid.new ≤ n = laid.fits old_fits in
      let all : n + (bits - n) ≡ bits = omega (arith, inner.smaller) in
      record {
        new = whole.whole;
        stands = whole.stands;
        fits = λ _. omega (arith, whole.lower, fits, inner.smaller);
        reduced = λ r. whole.reduced (laid.reduced (old.reduced r));
        values = λ d a dst a_in.
            let within : a < 2 ^ (n + (bits - n)) = subst (λ m. a < 2 ^ m) (sym all) a_in in
            let before = values v old.inside n old_fits (bits - n) path a inner.path_in within in
            let after = values v laid.new n fits (bits - n) path a inner.path_in within in
            let was : value_at u bits a ≡ value_at (along (bits - n) path (leaf v) old.inside) (n + (bits - n)) a = old.values bits a
            ∙ ap (λ m. value_at (along (bits - n) path (leaf v) old.inside) m a) (sym all) in
            let is : value_at whole.whole bits a ≡ value_at (along (bits - n) path (leaf v) laid.new) (n + (bits - n)) a = whole.values bits a
            ∙ ap (λ m. value_at (along (bits - n) path (leaf v) laid.new) m a) (sym all) in
            let beside : ((start + a < s) ⊎ (s + 2 ^ n ≤ start + a)) → Overlays w (map row_of rows) d (start + a) (value_at u bits a) (value_at whole.whole bits a) = λ out.
            let apart : IsLedTo v laid.new n fits path a → ⊥ = λ led. elim out [ inl lt ↦ omega (arith, led.0, inner.start_is, lt) | inr ge ↦ omega (arith, led.1, inner.start_is, ge) ] in
            inr (none_outside d (start + a) out, is ∙ after.beside apart ∙ sym (was ∙ before.beside apart)) in
            elim (cases_lt (start + a) s) [
              | inl lt ↦ beside (inl lt)
              | inr from ↦ elim (cases_lt (start + a) (s + 2 ^ n)) [
                | inl ends ↦
                    let b : ℕ = a - path * 2 ^ n in
                    let at : s + b ≡ start + a = omega (arith, inner.start_is, from) in
                    let led : IsLedTo v laid.new n fits path a = (omega (arith, inner.start_is, from), omega (arith, inner.start_is, ends)) in
                    let there : Overlays w (map row_of rows) d (s + b) (value_at old.inside n b) (value_at laid.new n b) = laid.values d b dst (omega (arith, inner.start_is, ends)) in
                    subst (λ p. Overlays w (map row_of rows) d p (value_at u bits a) (value_at whole.whole bits a)) at
                    (subst (λ q. Overlays w (map row_of rows) d (s + b) q (value_at whole.whole bits a)) (sym (was ∙ before.inside led))
                    (subst (Overlays w (map row_of rows) d (s + b) (value_at old.inside n b)) (sym (is ∙ after.inside led)) there))
                | inr ge ↦ beside (inr ge)
              ]
            ];
      }
