-- What some bits lead to, with one value beside it.
use Rattle.std.proofs.Common.{◌≡◌, ◌⊎◌, inl, inr, ℕ, zero, suc, ◌+◌, ◌-◌, ◌*◌, ◌/◌, ◌%◌, ◌^◌, ◌<◌, ◌≤◌, cond, Bool, true, false, ◌==◌, List, refl, sym, ◌∙◌, ap, subst, arith}
use Rattle.std.proofs.lemmas.Bool.{cases_lt}
use Rattle.std.proofs.lemmas.Nat.{pow_pos, pow-add, shl_whole}
use Rattle.std.proofs.Math.Nat.{mul-le-mul_right, mod-eq_of_lt}
use Rattle.std.proofs.Math.Pow.{pow_mono}
use Rattle.std.proofs.Math.Nat.{div-add-mod', mul-add-mod_self_right}
use Rattle.std.proofs.lemmas.Nat.{shr-shr}
use Rattle.babel_trie.specs.Held.{along}
use Rattle.babel_trie.specs.Shape.{Shape, leaf, fork, is_low, height, value_at, IsReduced}
use Rattle.babel_trie.specs.Interned.{Opens, Stands, IsNormal, HaveHalves, HalvesAt, AreUnited, IsTrie}
use Rattle.babel_trie.specs.Laid.{AreHalvesBy, IsAlong}
use Rattle.babel_trie.specs.declared.table.Loose.{Loose}
use Rattle.babel_trie.specs.declared.table.Loose.TheVariants.{Same, Split}
use Rattle.babel_trie.specs.declared.table.Node.{Node}
use Rattle.babel_trie.specs.declared.table.Sources.{Sources}
use Rattle.babel_trie.specs.declared.table.Sources.TheVariants.{Constant, Stored}
use Rattle.babel_trie.proofs.BitLaws.{pow_twice, is_low-below, is_low-above}
use Rattle.babel_trie.proofs.NumberLaws.{node_is, is_low-mod, one_shape}
use Rattle.babel_trie.proofs.FormLaws.{fork_node, united_values, longer_node, united_low, united_high, halves_are_not_one, path-lower}

-- a longer path is below its power of two
pub longer_path : (skip path more bits : ℕ) → path < 2 ^ skip → bits < 2 ^ more → path + bits * 2 ^ skip < 2 ^ (skip + more)
longer_path skip path more bits path_in bits_in =
    let size : 2 ^ (skip + more) ≡ 2 ^ more * 2 ^ skip = ap (λ (n : ℕ). 2 ^ n) {x = skip + more} {y = more + skip} (omega arith) ∙ pow-add 2 more skip in
    let most : suc bits * 2 ^ skip ≤ 2 ^ more * 2 ^ skip = mul-le-mul_right (2 ^ skip) (omega arith) in
    omega (arith, most, size)

pub shifted_fits : (skip more bits : ℕ) → skip + more < 128 → bits < 2 ^ more → (bits * 2 ^ skip) % 2 ^ 128 ≡ bits * 2 ^ skip
shifted_fits skip more bits few bits_in = shl_whole bits more skip 128 bits_in (omega (arith, few))

pub longer_in : (skip path more bits : ℕ) → skip + more < 128 → path < 2 ^ skip → bits < 2 ^ more → path + bits * 2 ^ skip % 2 ^ 128 < 2 ^ 128
longer_in skip path more bits few path_in bits_in =
    omega (arith, shifted_fits skip more bits few bits_in, longer_path skip path more bits path_in bits_in, pow_mono {i = skip + more} {j = 128} (omega (arith, few)))

module _ {V : Type 0} (o : Shape V) where
  pick : (P : Shape V → Type 0) (b : Bool) (x y : Shape V) → P x → P y → P (cond b x y)
  pick P true x y p q = p
  pick P false x y p q = q

  -- a trie along a path is one along the bits before the last, of one along the last bit
  pub along-last : (k path : ℕ) (t : Shape V) → along (suc k) path o t ≡ along k (path / 2) o (along 1 path o t)
  along-last zero path t = refl
  along-last (suc k) path t =
      let m : ℕ = 2 ^ k in
      let r : ℕ = path % 2 ^ suc k in
      let q : ℕ = path / 2 ^ suc k in
      let size : 2 ^ suc k ≡ 2 * m = let e : suc k - 1 ≡ k = omega arith in pow_twice (suc k) (omega arith) ∙ ap (λ n. 2 * 2 ^ n) e in
      let whole : q * (2 * m) + r ≡ path = ap (λ n. q * n + r) (sym size) ∙ div-add-mod' path (2 ^ suc k) in
      let less : r < 2 * m = omega (arith, mod_below path (suc k), size) in
      let half : path / 2 ≡ q * m + r / 2 = omega (arith, whole) in
      let rest : (path / 2) % m ≡ r / 2 = ap (λ n. n % m) half ∙ mul-add-mod_self_right q m (r / 2) ∙ mod-eq_of_lt (omega (arith, less)) in
      let first : is_low (suc (suc k)) path ≡ is_low (suc k) (path / 2) =
      let a : suc (suc k) - 1 ≡ 1 + k = omega arith in
      let b : suc k - 1 ≡ k = omega arith in
      ap (λ n. path / 2 ^ n % 2 == 0) a ∙ ap (λ n. n % 2 == 0) (sym (shr-shr path 1 k)) ∙ ap (λ n. path / 2 / 2 ^ n % 2 == 0) (sym b) in
      let last : is_low 1 r ≡ is_low 1 path = is_low-mod 1 (suc k) path (omega arith) (omega arith) in
      let inside : along (suc k) r o t ≡ along k ((path / 2) % m) o (along 1 path o t) =
      along-last k r t ∙ ap (λ n. along k n o (along 1 r o t)) (sym rest) ∙ ap (λ b. along k ((path / 2) % m) o (cond b (fork t o) (fork o t))) last in
      ap (λ x. cond (is_low (suc (suc k)) path) (fork x o) (fork o x)) inside
      ∙ ap (λ b. cond b (fork (along k ((path / 2) % m) o (along 1 path o t)) o) (fork o (along k ((path / 2) % m) o (along 1 path o t)))) first
    where
      mod_below : (a n : ℕ) → a % 2 ^ n < 2 ^ n
      mod_below a n = omega (arith, pow_pos n)

module _ {V : Type 0} (v : V) where
  -- of one value alone it is that value
  pub along-same : (k path bits a : ℕ) → value_at (along k path (leaf v) (leaf v)) bits a ≡ v
  along-same zero path bits a = refl
  along-same (suc k) path bits a =
      pick (leaf v) (λ t. value_at t bits a ≡ v) (is_low (suc k) path) (fork (along k (path % 2 ^ k) (leaf v) (leaf v)) (leaf v)) (fork (leaf v) (along k (path % 2 ^ k) (leaf v) (leaf v)))
      (either (is_low bits a) _ _ (along-same k (path % 2 ^ k) (bits - 1) a) refl) (either (is_low bits a) _ _ refl (along-same k (path % 2 ^ k) (bits - 1) a))
    where
      either : (b : Bool) (x y : V) → x ≡ v → y ≡ v → cond b x y ≡ v
      either true x y p q = p
      either false x y p q = q

  pub along-lower : (k path : ℕ) (t : Shape V) → height (along k path (leaf v) t) ≤ height t + k
  along-lower zero path t = omega arith
  along-lower (suc k) path t =
      let inner = along k (path % 2 ^ k) (leaf v) t in
      let less : height inner ≤ height t + k = along-lower k (path % 2 ^ k) t in
      pick (leaf v) (λ x. height x ≤ height t + suc k) (is_low (suc k) path) (fork inner (leaf v)) (fork (leaf v) inner) (omega (arith, less)) (omega (arith, less))

  pub along-reduced : (k path : ℕ) (t : Shape V) → (t ≡ leaf v → ⊥) → IsReduced t → IsReduced (along k path (leaf v) t) × (along k path (leaf v) t ≡ leaf v → ⊥)
  along-reduced zero path t other r = (r, other)
  along-reduced (suc k) path t other r =
      let inner : Shape V = along k (path % 2 ^ k) (leaf v) t in
      let rest = along-reduced k (path % 2 ^ k) t other r in
      pick (leaf v) (λ x. IsReduced x × (x ≡ leaf v → ⊥)) (is_low (suc k) path) (fork inner (leaf v)) (fork (leaf v) inner)
      ((λ w e f. rest.1 (e ∙ sym f), rest.0, tt), λ e. absurd (cc)) ((λ w e f. rest.1 (f ∙ sym e), tt, rest.0), λ e. absurd (cc))

module _ {V : Type 0} (nodes : List (Node V)) (v : V) where
  -- in its one form, with this value beside it, it stands for the trie
  pub record IsLong (node : Node V) (t : Shape V) : Type 0 where
    pub normal : IsNormal nodes node
    pub takes : 0 < node.skip → node.outside ≡ Constant v
    pub stands : Stands nodes (Split node) t

  split_halves : (low high : Loose V) (m node : Node V) → AreUnited nodes low high (Split m) → (low ≡ Split node) ⊎ (high ≡ Split node) → HalvesAt nodes (Split m) low high × IsNormal nodes m
  split_halves low high m node (inl (w, p, q, is)) e = absurd (cc)
  split_halves low high m node (inr p) e = p

  one_low : (node m : Node V) (t : Shape V) → IsLong node t → m ≡ longer_node nodes node node.path v → IsLong m (fork t (leaf v))
  one_low node m t p is =
      let made : AreUnited nodes (Split node) (Same v) (Split m) = subst (λ (n : Node V). AreUnited nodes (Split node) (Same v) (Split n)) (sym is) (united_low nodes node v p.normal p.takes) in
      let both = split_halves (Split node) (Same v) m node made (inl refl) in
      record { normal = both.1; takes = λ _. ap (λ (n : Node V). n.outside) is; stands = (Split node, Same v, both.0, p.stands, refl) }

  one_high : (node m : Node V) (t : Shape V) → IsLong node t → m ≡ longer_node nodes node (node.path + 2 ^ node.skip) v → IsLong m (fork (leaf v) t)
  one_high node m t p is =
      let made : AreUnited nodes (Same v) (Split node) (Split m) = subst (λ (n : Node V). AreUnited nodes (Same v) (Split node) (Split n)) (sym is) (united_high nodes node v p.normal p.takes) in
      let both = split_halves (Same v) (Split node) m node made (inr refl) in
      record { normal = both.1; takes = λ _. ap (λ (n : Node V). n.outside) is; stands = (Same v, Split node, both.0, refl, p.stands) }

  module _ (node : Node V) where
    -- the node with a path that is longer by these bits, and the value beside it
    abbrev pub longer_by : ℕ → ℕ → Node V
    longer_by zero path = node
    longer_by (suc k) path = record { skip = node.skip + suc k; path = node.path + path * 2 ^ node.skip; outside = Constant v; low = node.low; high = node.high }

    longer-skip : (k path : ℕ) → (longer_by k path).skip ≡ node.skip + k
    longer-skip zero path = omega arith
    longer-skip (suc k) path = refl

    longer-path : (k path : ℕ) → path < 2 ^ k → (longer_by k path).path ≡ node.path + path * 2 ^ node.skip
    longer-path zero path path_in = let none : path ≡ 0 = omega arith in omega (arith, ap (λ n. n * 2 ^ node.skip) none)
    longer-path (suc k) path path_in = refl

    longer-low : (k path : ℕ) → (longer_by k path).low ≡ node.low
    longer-low zero path = refl
    longer-low (suc k) path = refl

    longer-high : (k path : ℕ) → (longer_by k path).high ≡ node.high
    longer-high zero path = refl
    longer-high (suc k) path = refl

    -- with each bit it stands for the trie along one bit more
    pub long : (k path : ℕ) (t : Shape V) → path < 2 ^ k → IsLong node t → IsLong (longer_by k path) (along k path (leaf v) t)
    long zero path t path_in p = p
    long (suc k) path t path_in p =
        let m : ℕ = 2 ^ k in
        let less : suc k - 1 ≡ k = omega arith in
        let size : 2 ^ suc k ≡ 2 * m = pow_twice (suc k) (omega arith) ∙ ap (λ n. 2 * 2 ^ n) less in
        let r : ℕ = path % m in
        let r_in : r < m = omega (arith, pow_pos k) in
        let before = long k r t r_in p in
        let last = longer_by k r in
        let skip_is : node.skip + suc k ≡ last.skip + 1 = omega (arith, longer-skip k r) in
        let inner : Shape V = along k r (leaf v) t in
        elim (cases_lt path m) [
          | inl lt ↦
              let same : r ≡ path = mod-eq_of_lt lt in
              let path_is : node.path + path * 2 ^ node.skip ≡ last.path = ap (λ n. node.path + n * 2 ^ node.skip) (sym same) ∙ sym (longer-path k r r_in) in
              let first : is_low (suc k) path ≡ true = is_low-below (suc k) path (subst (λ n. path < 2 ^ n) (sym less) lt) in
              subst (λ b. IsLong (longer_by (suc k) path) (cond b (fork inner (leaf v)) (fork (leaf v) inner))) (sym first)
              (one_low last (longer_by (suc k) path) inner before (node_is _ _ skip_is path_is refl (sym (longer-low k r)) (sym (longer-high k r))))
          | inr ge ↦
              let parts : path ≡ 1 * m + (path - m) = omega arith in
              let rest_in : path - m < m = omega (arith, path_in, size) in
              let same : r ≡ path - m = ap (λ n. n % m) parts ∙ mul-add-mod_self_right 1 m (path - m) ∙ mod-eq_of_lt rest_in in
              let power : 2 ^ last.skip ≡ m * 2 ^ node.skip = ap (λ (n : ℕ). 2 ^ n) {x = last.skip} {y = k + node.skip} (omega (arith, longer-skip k r)) ∙ pow-add 2 k node.skip in
              let whole : path * 2 ^ node.skip ≡ (m + r) * 2 ^ node.skip = ap (λ n. n * 2 ^ node.skip) {x = path} {y = m + r} (omega (arith, same)) in
              let path_is : node.path + path * 2 ^ node.skip ≡ last.path + 2 ^ last.skip = omega (arith, whole, power, longer-path k r r_in) in
              let first : is_low (suc k) path ≡ false = ap (is_low (suc k)) (parts ∙ ap (λ n. 1 * 2 ^ n + (path - m)) (sym less))
              ∙ is_low-above (suc k) (path - m) (subst (λ n. path - m < 2 ^ n) (sym less) rest_in) in
              subst (λ b. IsLong (longer_by (suc k) path) (cond b (fork inner (leaf v)) (fork (leaf v) inner))) (sym first)
              (one_high last (longer_by (suc k) path) inner before (node_is _ _ skip_is path_is refl (sym (longer-low k r)) (sym (longer-high k r))))
        ]

  constant_of : (s : Sources V) → Opens nodes s (Same v) → s ≡ Constant v
  constant_of (Constant w) e = let same : w ≡ v = cc in ap (λ (u : V). let z : Sources V = Constant u in z) same
  constant_of (Stored n) p = let e = p.2 in absurd (cc)

  takes_low : (node : Node V) (x : Loose V) → HaveHalves nodes node x (Same v) → 0 < node.skip → node.outside ≡ Constant v
  takes_low node x (inl p) some = let z : node.skip ≡ 0 = p.0 in absurd (omega arith)
  takes_low node x (inr (inl p)) some = constant_of node.outside p.3
  takes_low node x (inr (inr p)) some = let e = p.3 in absurd (cc)

  takes_high : (node : Node V) (x : Loose V) → HaveHalves nodes node (Same v) x → 0 < node.skip → node.outside ≡ Constant v
  takes_high node x (inl p) some = let z : node.skip ≡ 0 = p.0 in absurd (omega arith)
  takes_high node x (inr (inl p)) some = let e = p.2 in absurd (cc)
  takes_high node x (inr (inr p)) some = constant_of node.outside p.2

  module _ (inside : Loose V) (path : ℕ) (t : Shape V) (p : Stands nodes inside t) where
    -- a half beside the value
    pub first_bit : (b : Bool) (low high : Loose V) (node : Node V) → is_low 1 path ≡ b → AreHalvesBy b inside (Same v) low high
        → AreUnited nodes low high (Split node) → IsLong node (along 1 path (leaf v) t) × (t ≡ leaf v → ⊥)
    first_bit b low high node bit halves (inl (w, e, f, is)) = absurd (cc)
    first_bit true low high node bit halves (inr (at, normal)) =
        let from : HalvesAt nodes (Split node) inside (Same v) = subst (λ (x : Loose V). HalvesAt nodes (Split node) x (Same v)) halves.0
        (subst (λ (x : Loose V). HalvesAt nodes (Split node) low x) halves.1 at) in
        let here : IsLong node (fork t (leaf v)) = record { normal = normal; takes = takes_low node inside from; stands = (inside, Same v, from, p, refl) } in (
          subst (λ c. IsLong node (cond c (fork t (leaf v)) (fork (leaf v) t))) (sym bit) here,
          λ e. halves_are_not_one nodes (Split node) inside (Same v) v normal from (subst (Stands nodes inside) e p) refl,
        )
    first_bit false low high node bit halves (inr (at, normal)) =
        let from : HalvesAt nodes (Split node) (Same v) inside = subst (λ (x : Loose V). HalvesAt nodes (Split node) x inside) halves.0
        (subst (λ (x : Loose V). HalvesAt nodes (Split node) low x) halves.1 at) in
        let here : IsLong node (fork (leaf v) t) = record { normal = normal; takes = takes_high node inside from; stands = (Same v, inside, from, refl, p) } in (
          subst (λ c. IsLong node (cond c (fork t (leaf v)) (fork (leaf v) t))) (sym bit) here,
          λ e. halves_are_not_one nodes (Split node) (Same v) inside v normal from refl (subst (Stands nodes inside) e p),
        )

    -- where all is one value
    pub one_value : (skip : ℕ) (b : Bool) (low high x : Loose V) (w : V) → AreHalvesBy b inside (Same v) low high → AreUnited nodes low high x → x ≡ Same w → IsAlong nodes x skip path v t
    one_value skip b low high x w halves (inl (u, e, f, is)) known = all b halves
      where
        from_value : inside ≡ Same v → x ≡ Same v → IsAlong nodes x skip path v t
        from_value inside_is x_is =
            let t_is : leaf v ≡ t = one_shape nodes inside (leaf v) t inside_is p in
            subst (λ (y : Shape V). IsAlong nodes x skip path v y) t_is
            (record { whole = leaf v; stands = x_is; values = λ bits a. sym (along-same v skip path bits a); lower = omega arith; reduced = λ _. tt })

        all : (b : Bool) → AreHalvesBy b inside (Same v) low high → IsAlong nodes x skip path v t
        all true h =
            let same : v ≡ u = (let g : Same v ≡ Same u = sym h.1 ∙ f in cc) in
            from_value (sym h.0 ∙ e ∙ ap (λ (y : V). let z : Loose V = Same y in z) (sym same)) (is ∙ ap (λ (y : V). let z : Loose V = Same y in z) (sym same))
        all false h =
            let same : v ≡ u = (let g : Same v ≡ Same u = sym h.0 ∙ e in cc) in
            from_value (sym h.1 ∙ f ∙ ap (λ (y : V). let z : Loose V = Same y in z) (sym same)) (is ∙ ap (λ (y : V). let z : Loose V = Same y in z) (sym same))
    one_value skip b low high x w halves (inr (at, normal)) known = absurd (subst (λ (y : Loose V). HalvesAt nodes y low high) known at)

    -- the bits before the last one
    pub all_bits : (k : ℕ) (node : Node V) → path < 2 ^ suc k → IsLong node (along 1 path (leaf v) t) → (t ≡ leaf v → ⊥)
        → IsAlong nodes (Split (longer_by node k (path / 2))) (suc k) path v t × IsNormal nodes (longer_by node k (path / 2))
    all_bits k node path_in base other =
        let less : suc k - 1 ≡ k = omega arith in
        let size : 2 ^ suc k ≡ 2 * 2 ^ k = pow_twice (suc k) (omega arith) ∙ ap (λ n. 2 * 2 ^ n) less in
        let half : path / 2 < 2 ^ k = omega (arith, path_in, size) in
        let made = long node k (path / 2) (along 1 path (leaf v) t) half base in (
          record {
            whole = along (suc k) path (leaf v) t;
            stands = subst (Stands nodes (Split (longer_by node k (path / 2)))) (sym (along-last (leaf v) k path t)) made.stands;
            values = λ bits a. refl;
            lower = along-lower v (suc k) path t;
            reduced = λ r. (along-reduced v (suc k) path t other r).0;
          },
          made.normal,
        )

    pub one_bit : (skip : ℕ) (node : Node V) → skip ≡ 1 → path < 2 ^ skip → IsLong node (along 1 path (leaf v) t) → (t ≡ leaf v → ⊥) → IsAlong nodes (Split node) skip path v t
    one_bit skip node one path_in base other =
        let e : 1 ≡ skip = sym one in
        subst (λ n. IsAlong nodes (Split node) n path v t) e (all_bits 0 node (subst (λ n. path < 2 ^ n) one path_in) base other).0

    pub more_bits : (skip : ℕ) (node m : Node V) → 1 < skip → path < 2 ^ skip
        → m ≡ record { skip = node.skip + (skip - 1); path = node.path + path / 2 * 2 ^ node.skip; outside = Constant v; low = node.low; high = node.high } →
        IsLong node (along 1 path (leaf v) t) → (t ≡ leaf v → ⊥) → IsAlong nodes (Split m) skip path v t × IsNormal nodes m
    more_bits skip node m some path_in is base other =
        let k : ℕ = skip - 1 in
        let next : suc k ≡ skip = omega arith in
        let all = all_bits k node (subst (λ n. path < 2 ^ n) (sym next) path_in) base other in
        let m_is : longer_by node k (path / 2) ≡ m = by k (omega arith) ∙ sym is in
        (subst (λ (n : Node V). IsAlong nodes (Split n) skip path v t) m_is (subst (λ n. IsAlong nodes (Split (longer_by node k (path / 2))) n path v t) next all.0), subst (IsNormal nodes) m_is all.1)
      where
        by : (k : ℕ) → 0 < k → longer_by node k (path / 2) ≡ record { skip = node.skip + k; path = node.path + path / 2 * 2 ^ node.skip; outside = Constant v; low = node.low; high = node.high }
        by zero none = absurd (omega arith)
        by (suc k) some = refl

    -- the bits of its path, and these before them, are fewer than those of an address
    pub few_bits : (skip : ℕ) (node : Node V) → 0 < skip → skip ≤ 128 → height t ≤ 128 - skip → IsLong node (along 1 path (leaf v) t) → node.skip + (skip - 1) < 128
    few_bits skip node some few fits base =
        omega (arith, path-lower nodes (along 1 path (leaf v) t) node base.stands, along-lower v 1 path t)

  in_order-apart : (b : Bool) (inside low high : V) → AreHalvesBy b inside v low high → (inside ≡ v → ⊥) → low ≡ high → ⊥
  in_order-apart true inside low high h apart e = apart (sym h.0 ∙ e ∙ h.1)
  in_order-apart false inside low high h apart e = apart (sym h.1 ∙ sym e ∙ h.0)

  abbrev constant_trie : V → Loose V
  constant_trie w = Same w

  same_in_order : (b : Bool) (inside low high : V) → AreHalvesBy b inside v low high → AreHalvesBy b (constant_trie inside) (constant_trie v) (constant_trie low) (constant_trie high)
  same_in_order true inside low high h = (ap constant_trie h.0, ap constant_trie h.1)
  same_in_order false inside low high h = (ap constant_trie h.0, ap constant_trie h.1)

  -- two values that differ are the halves of a node
  pub alone_node : (inside low high : V) (path : ℕ) (node : Node V) (t : Shape V) → Stands nodes (Same inside) t → AreHalvesBy (is_low 1 path) inside v low high → (inside ≡ v → ⊥) →
      node ≡ fork_node nodes (Constant low) (Constant high) → IsLong node (along 1 path (leaf v) t) × (t ≡ leaf v → ⊥)
  alone_node inside low high path node t p halves apart is =
      let made : AreUnited nodes (Same low) (Same high) (Split node) = subst (λ (m : Node V). AreUnited nodes (Same low) (Same high) (Split m)) (sym is)
      (united_values nodes low high (in_order-apart (is_low 1 path) inside low high halves apart)) in
      first_bit (Same inside) path t p (is_low 1 path) (Same low) (Same high) node refl (same_in_order (is_low 1 path) inside low high halves) made

  pub halves_tries : (b : Bool) (inside low high : Loose V) → AreHalvesBy b inside (Same v) low high → IsTrie 127 nodes inside → IsTrie 127 nodes low × IsTrie 127 nodes high
  halves_tries b inside low high halves h = by b halves
    where
      beside : IsTrie 127 nodes (Same v)
      beside = record { trie = leaf v; stands = refl; fits = omega arith; reduced = tt }

      by : (b : Bool) → AreHalvesBy b inside (Same v) low high → IsTrie 127 nodes low × IsTrie 127 nodes high
      by true e = (subst (IsTrie 127 nodes) (sym e.0) h, subst (IsTrie 127 nodes) (sym e.1) beside)
      by false e = (subst (IsTrie 127 nodes) (sym e.0) beside, subst (IsTrie 127 nodes) (sym e.1) h)

  pub shorter_trie : (skip : ℕ) (x : Loose V) → 0 < skip → IsTrie (128 - skip) nodes x → IsTrie 127 nodes x
  shorter_trie skip x some h = record { trie = h.trie; stands = h.stands; fits = omega (arith, h.fits); reduced = h.reduced }
