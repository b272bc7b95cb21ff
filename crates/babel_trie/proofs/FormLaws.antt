-- What has two halves, in its one form.
use Rattle.std.proofs.Common.{◌≡◌, inl, inr, ℕ, zero, suc, ◌+◌, ◌-◌, ◌*◌, ◌%◌, ◌^◌, ◌<◌, ◌≤◌, cond, Bool, true, false, List, length, refl, sym, ◌∙◌, ap, subst, arith}
use Rattle.std.proofs.lemmas.Bool.{eq-eqb, ne_eqb}
use Rattle.std.proofs.Math.Nat.{mod-eq_of_lt, mul-add-mod_self_right}
use Rattle.babel_trie.specs.Shape.{Shape, leaf, fork, is_low, height, HasHalves, IsReduced}
use Rattle.babel_trie.specs.Interned.{Opens, inner, HaveHalves, HalvesAt, Stands, Represents, IsNoLonger, IsNormal, IsNormalLoose}
use Rattle.babel_trie.specs.Interned.{AreUnited, AreApart, IsBesidePath, Joins, JoinsBy, IsTrie, IsHalved, HasTrie}
use Rattle.babel_trie.specs.Laid.{AreHalvesBy}
use Rattle.babel_trie.specs.Sound.{KeepsNodes, IsBelow}
use Rattle.babel_trie.specs.declared.table.Loose.{Loose}
use Rattle.babel_trie.specs.declared.table.Loose.TheVariants.{Same, Split}
use Rattle.babel_trie.specs.declared.table.Node.{Node}
use Rattle.babel_trie.specs.declared.table.Sources.{Sources}
use Rattle.babel_trie.specs.declared.table.Sources.TheVariants.{Constant, Stored}
use Rattle.babel_trie.proofs.BitLaws.{pow_twice, is_low-below, is_low-above}
use Rattle.babel_trie.proofs.NumberLaws.{node_is, one_pair, one_shape, one_opening, Stands-grows, Represents-grows, slice_get_in}
use Rattle.babel_trie.proofs.Reduced.{halves_of_fork}
use Rattle.babel_trie.proofs.ShapeLaws.{halves_of_leaf}

module _ {V : Type 0} (nodes : List (Node V)) where
  -- a node that no bits lead to, of two halves
  abbrev pub fork_node : Sources V → Sources V → Node V
  fork_node low high = record { skip = 0; path = 0; outside = low; low = low; high = high }

  pub fork-normal : (low high : Sources V) → ((v : V) → low ≡ Constant v → high ≡ Constant v → ⊥) → IsNoLonger nodes low high → IsNoLonger nodes high low → IsNormal nodes (fork_node low high)
  fork-normal low high differ low_no high_no = record {
    path_in = omega arith;
    none_outside = λ _. refl;
    one_outside = λ some. absurd (omega arith);
    halves_differ = differ;
    low_no_longer = low_no;
    high_no_longer = high_no;
  }

  -- two values
  pub united_values : (v w : V) → (v ≡ w → ⊥) → AreUnited nodes (Same v) (Same w) (Split (fork_node (Constant v) (Constant w)))
  united_values v w apart = inr (
    inl (refl, refl, refl),
    fork-normal (Constant v) (Constant w) (λ u e f. let a : v ≡ u = cc in let b : w ≡ u = cc in apart (a ∙ sym b)) (λ u n e f. absurd (cc)) (λ u n e f. absurd (cc)),
  )

  -- a path that is longer by one bit, with this value beside it
  abbrev pub longer_node : Node V → ℕ → V → Node V
  longer_node node path v = record { skip = node.skip + 1; path = path; outside = Constant v; low = node.low; high = node.high }

  longer-inner : (node : Node V) (path : ℕ) (v : V) → IsNormal nodes node → (0 < node.skip → node.outside ≡ Constant v) → path % 2 ^ node.skip ≡ node.path → node ≡ inner (longer_node node path v)
  longer-inner node path v n takes rest =
      let more : node.skip ≡ node.skip + 1 - 1 = omega arith in
      node_is node (inner (longer_node node path v)) more (sym rest ∙ ap (λ k. path % 2 ^ k) more) (outside node.skip refl) refl refl
    where
      outside : (k : ℕ) → node.skip ≡ k → node.outside ≡ (inner (longer_node node path v)).outside
      outside zero e =
          let one : node.skip + 1 ≡ 1 = omega arith in
          n.none_outside e ∙ sym (ap (λ b. cond b node.low (Constant v)) (eq-eqb (node.skip + 1) 1 one))
      outside (suc k) e =
          let other : node.skip + 1 ≡ 1 → ⊥ = λ one. omega arith in
          takes (omega arith) ∙ sym (ap (λ b. cond b node.low (Constant v)) (ne_eqb (node.skip + 1) 1 other))

  longer-normal : (node : Node V) (path : ℕ) (v : V) → IsNormal nodes node → path < 2 ^ (node.skip + 1) → IsNormal nodes (longer_node node path v)
  longer-normal node path v n path_in = record {
    path_in = path_in;
    none_outside = λ z. absurd (omega arith);
    one_outside = λ _. (v, refl);
    halves_differ = n.halves_differ;
    low_no_longer = n.low_no_longer;
    high_no_longer = n.high_no_longer;
  }

  twice : (k : ℕ) → 2 ^ (k + 1) ≡ 2 * 2 ^ k
  twice k = let less : k + 1 - 1 ≡ k = omega arith in pow_twice (k + 1) (omega arith) ∙ ap (λ j. 2 * 2 ^ j) less

  pub united_low : (node : Node V) (v : V) → IsNormal nodes node → (0 < node.skip → node.outside ≡ Constant v) → AreUnited nodes (Split node) (Same v) (Split (longer_node node node.path v))
  united_low node v n takes =
      let less : node.skip + 1 - 1 ≡ node.skip = omega arith in
      let short : node.path < 2 ^ (node.skip + 1 - 1) = subst (λ k. node.path < 2 ^ k) (sym less) n.path_in in
      let whole : node.path < 2 ^ (node.skip + 1) = omega (arith, n.path_in, twice node.skip) in
      inr (
        inr (inl (
          omega arith,
          is_low-below (node.skip + 1) node.path short,
          ap (λ (m : Node V). let z : Loose V = Split m in z)
              (longer-inner node node.path v n takes (mod-eq_of_lt n.path_in)),
          refl,
        )),
        longer-normal node node.path v n whole,
      )

  pub united_high : (node : Node V) (v : V) → IsNormal nodes node → (0 < node.skip → node.outside ≡ Constant v)
      → AreUnited nodes (Same v) (Split node) (Split (longer_node node (node.path + 2 ^ node.skip) v))
  united_high node v n takes =
      let less : node.skip + 1 - 1 ≡ node.skip = omega arith in
      let short : node.path < 2 ^ (node.skip + 1 - 1) = subst (λ k. node.path < 2 ^ k) (sym less) n.path_in in
      let swap : 1 * 2 ^ (node.skip + 1 - 1) + node.path ≡ node.path + 2 ^ node.skip = ap (λ k. 1 * 2 ^ k + node.path) less ∙ omega arith in
      let high : is_low (node.skip + 1) (node.path + 2 ^ node.skip) ≡ false = ap (is_low (node.skip + 1)) (sym swap) ∙ is_low-above (node.skip + 1) node.path short in
      let whole : node.path + 2 ^ node.skip < 2 ^ (node.skip + 1) = omega (arith, n.path_in, twice node.skip) in
      let around : 1 * 2 ^ node.skip + node.path ≡ node.path + 2 ^ node.skip = omega arith in
      let rest : (node.path + 2 ^ node.skip) % 2 ^ node.skip ≡ node.path = ap (λ k. k % 2 ^ node.skip) (sym around) ∙ mul-add-mod_self_right 1 (2 ^ node.skip) node.path ∙ mod-eq_of_lt n.path_in in
      inr (
        inr (inr (omega arith, high, refl, ap (λ (m : Node V). let z : Loose V = Split m in z) (longer-inner node (node.path + 2 ^ node.skip) v n takes rest))),
        longer-normal node (node.path + 2 ^ node.skip) v n whole,
      )

  -- the halves of what is stored
  pub united_stored : (r s : Sources V) (low high : Loose V) → Opens nodes r low → Opens nodes s high → AreApart low high → HaveHalves nodes (fork_node r s) low high × IsNormal nodes (fork_node r s)
  united_stored r s low high p q apart = (
    inl (refl, p, q),
    fork-normal r s
        (λ v e f. apart.0 v v (subst (λ (k : Sources V). Opens nodes k low) e p) (subst (λ (k : Sources V). Opens nodes k high) f q))
        (no_longer r s low high p q apart.1) (no_longer s r high low q p apart.2),
  )
    where
      no_longer : (r s : Sources V) (x y : Loose V) → Opens nodes r x → Opens nodes s y → IsBesidePath x y → IsNoLonger nodes r s
      no_longer r s x y p q beside v n e f =
          let x_is : x ≡ Same v = subst (λ (k : Sources V). Opens nodes k x) e p in
          let found : Opens nodes (Stored n) y = subst (λ (k : Sources V). Opens nodes k y) f q in
          let b = beside v found.0 x_is found.2 in
          (found.0, found.1, b.0, b.1)

  -- not both halves in the one form are one value
  pub halves_are_not_one : (x l h : Loose V) (v : V) → IsNormalLoose nodes x → HalvesAt nodes x l h → l ≡ Same v → h ≡ Same v → ⊥
  halves_are_not_one (Same w) l h v n p e f = p
  halves_are_not_one (Split node) l h v n (inl p) e f =
      n.halves_differ v (constant node.low l p.1 e) (constant node.high h p.2 f)
    where
      constant : (s : Sources V) (x : Loose V) → Opens nodes s x → x ≡ Same v → s ≡ Constant v
      constant (Constant w) x p e = let same : w ≡ v = cc in ap (λ (u : V). let z : Sources V = Constant u in z) same
      constant (Stored k) x p e = let both = sym p.2 ∙ e in absurd (cc)
  halves_are_not_one (Split node) l h v n (inr (inl p)) e f = let both = sym p.2 ∙ e in cc
  halves_are_not_one (Split node) l h v n (inr (inr p)) e f = let both = sym p.3 ∙ f in cc

  -- what has these halves joins them
  nodes_apart : (x y : Loose V) (node other : Node V) → x ≡ Split node → y ≡ Split other → AreApart x y
  nodes_apart x y node other e f = (
    (λ v w is also. absurd (cc)),
    (λ v n is also. absurd (cc)),
    (λ v n is also. absurd (cc)),
  )

  pub joins_halves : (old : List (Node V)) → KeepsNodes old nodes → (low high x : Loose V) → HalvesAt nodes x low high → IsNormalLoose nodes x → Joins old low high nodes x
  joins_halves old keeps low high x p n l h lower upper = record {
    whole = fork l h;
    stands = (low, high, p, Stands-grows old nodes keeps low l lower, Stands-grows old nodes keeps high h upper);
    halves = halves_of_fork l h;
    lower = omega arith;
    reduced = λ rl rh. (λ v el eh. halves_are_not_one x low high v n p (subst (Stands old low) el lower) (subst (Stands old high) eh upper), rl, rh);
  }

  -- a node with one half inside, and what is stored beside it
  pub joins_beside : (old : List (Node V)) → KeepsNodes old nodes → (low : Bool) (inside beside : Loose V) (node other : Node V) → inside ≡ Split node
      → beside ≡ Split other → (r s first second : Sources V) → Opens nodes r inside → Opens nodes s beside →
      AreHalvesBy low r s first second → JoinsBy low old inside beside nodes (Split (fork_node first second)) × IsNormal nodes (fork_node first second)
  joins_beside old keeps true inside beside node other e f r s first second p q halves =
      let made = united_stored first second inside beside (subst (λ (k : Sources V). Opens nodes k inside) (sym halves.0) p)
      (subst (λ (k : Sources V). Opens nodes k beside) (sym halves.1) q) (nodes_apart inside beside node other e f) in
      (joins_halves old keeps inside beside (Split (fork_node first second)) made.0 made.1, made.1)
  joins_beside old keeps false inside beside node other e f r s first second p q halves =
      let made = united_stored first second beside inside (subst (λ (k : Sources V). Opens nodes k beside) (sym halves.0) q)
      (subst (λ (k : Sources V). Opens nodes k inside) (sym halves.1) p) (nodes_apart beside inside other node f e) in
      (joins_halves old keeps beside inside (Split (fork_node first second)) made.0 made.1, made.1)

  -- one value joins itself with itself
  pub joins_value : (low high : Loose V) (v : V) → low ≡ Same v → high ≡ Same v → (x : Loose V) → x ≡ Same v → Joins nodes low high nodes x
  joins_value low high v low_is high_is x is l h p q =
      let l_is : leaf v ≡ l = one_shape nodes low (leaf v) l low_is p in
      let h_is : leaf v ≡ h = one_shape nodes high (leaf v) h high_is q in
      record {
        whole = leaf v;
        stands = is;
        halves = subst (λ y. HasHalves (leaf v) y h) l_is (subst (HasHalves (leaf v) (leaf v)) h_is (halves_of_leaf v));
        lower = omega arith;
        reduced = λ _ _. tt;
      }

  pub joins_united : (low high x : Loose V) → AreUnited nodes low high x → Joins nodes low high nodes x
  joins_united low high x (inl (v, p, q, is)) = joins_value low high v p q x is
  joins_united low high x (inr p) = joins_halves nodes (λ i node e. e) low high x p.0 p.1

  pub normal_united : (low high x : Loose V) → AreUnited nodes low high x → IsNormalLoose nodes x
  normal_united low high x (inl (v, p, q, is)) = subst (IsNormalLoose nodes) (sym is) tt
  normal_united low high x (inr p) = p.1

  -- the path is shorter than the trie is high
  pub path-lower : (t : Shape V) (node : Node V) → Stands nodes (Split node) t → node.skip < height t
  path-lower (leaf v) node p = absurd (cc)
  path-lower (fork low high) node (l, h, inl e, p, q) = let z : node.skip ≡ 0 = e.0 in omega arith
  path-lower (fork low high) node (l, h, inr (inl e), p, q) = let lt = path-lower low (inner node) (subst (λ (x : Loose V). Stands nodes x low) e.2 p) in omega (arith, lt, e.0)
  path-lower (fork low high) node (l, h, inr (inr e), p, q) = let lt = path-lower high (inner node) (subst (λ (x : Loose V). Stands nodes x high) e.3 q) in omega (arith, lt, e.0)

  -- the halves of one value
  pub halved_same : (x : Loose V) (v : V) → x ≡ Same v → (t : Shape V) → Stands nodes x t → IsHalved nodes t x x
  halved_same x v is t p =
      let halved : IsHalved nodes (leaf v) x x = record {
        low_half = leaf v;
        high_half = leaf v;
        low_stands = is;
        high_stands = is;
        halves = halves_of_leaf v;
        low_lower = omega arith;
        high_lower = omega arith;
        reduced = λ _. (tt, tt);
      } in
      subst (λ u. IsHalved nodes u x x) (one_shape nodes x (leaf v) t is p) halved

  -- the halves of what a node stands for
  pub record ForkOf (low high : Loose V) (t : Shape V) : Type 0 where
    pub low_half : Shape V
    pub high_half : Shape V
    pub low_stands : Stands nodes low low_half
    pub high_stands : Stands nodes high high_half
    pub is : fork low_half high_half ≡ t

  pub fork_of : (x low high : Loose V) (t : Shape V) → HalvesAt nodes x low high → Stands nodes x t → ForkOf low high t
  fork_of x low high (leaf v) at p = absurd (subst (λ (y : Loose V). HalvesAt nodes y low high) p at)
  fork_of x low high (fork tl th) at p =
      let both = one_pair nodes x p.0 p.1 low high p.2 at in
      record {
        low_half = tl;
        high_half = th;
        low_stands = subst (λ (y : Loose V). Stands nodes y tl) both.0 p.3;
        high_stands = subst (λ (y : Loose V). Stands nodes y th) both.1 p.4;
        is = refl;
      }

  pub halved_split : (x low high : Loose V) → HalvesAt nodes x low high → (t : Shape V) → Stands nodes x t → IsHalved nodes t low high
  halved_split x low high at t p =
      let f = fork_of x low high t at p in
      let halved : IsHalved nodes (fork f.low_half f.high_half) low high = record {
        low_half = f.low_half;
        high_half = f.high_half;
        low_stands = f.low_stands;
        high_stands = f.high_stands;
        halves = halves_of_fork f.low_half f.high_half;
        low_lower = omega arith;
        high_lower = omega arith;
        reduced = λ r. (r.1, r.2);
      } in
      subst (λ u. IsHalved nodes u low high) f.is halved

  -- what stands for a trie is in the table
  pub Opens-in : (s : Sources V) (x : Loose V) → Opens nodes s x → IsBelow (length nodes) s
  Opens-in (Constant v) x p = tt
  Opens-in (Stored n) x p = slice_get_in nodes n.0 p.0 p.1

  pub Represents-in : (s : Sources V) (t : Shape V) → Represents nodes s t → IsBelow (length nodes) s
  Represents-in s t p = Opens-in s p.0 p.1

  -- what is stored is a trie
  pub opened_trie : (bits : ℕ) (s : Sources V) (x : Loose V) → Opens nodes s x → HasTrie bits nodes s → IsTrie bits nodes x
  opened_trie bits s x p h = record {
    trie = h.trie;
    stands = subst (λ (y : Loose V). Stands nodes y h.trie) (one_opening nodes s h.stands.0 x h.stands.1 p) h.stands.2;
    fits = h.fits;
    reduced = h.reduced;
  }

  pub opened_stands : (s : Sources V) (x : Loose V) (t : Shape V) → Opens nodes s x → Represents nodes s t → Stands nodes x t
  opened_stands s x t p h = subst (λ (y : Loose V). Stands nodes y t) (one_opening nodes s h.0 x h.1 p) h.2

  -- a node has halves, which are tries of one bit fewer
  pub record HalvesOf (bits : ℕ) (x : Loose V) : Type 0 where
    pub low : Loose V
    pub high : Loose V
    pub halves : HalvesAt nodes x low high
    pub some : 0 < bits
    pub low_trie : IsTrie (bits - 1) nodes low
    pub high_trie : IsTrie (bits - 1) nodes high

  pub halves_of_trie : (bits : ℕ) (node : Node V) → IsTrie bits nodes (Split node) → HalvesOf bits (Split node)
  halves_of_trie bits node h = by h.trie h.stands h.fits h.reduced
    where
      by : (t : Shape V) → Stands nodes (Split node) t → height t ≤ bits → IsReduced t → HalvesOf bits (Split node)
      by (leaf v) p fits reduced = absurd (cc)
      by (fork low high) (l, k, halves, p, q) fits reduced = record {
        low = l;
        high = k;
        halves = halves;
        some = omega arith;
        low_trie = record { trie = low; stands = p; fits = omega arith; reduced = reduced.1 };
        high_trie = record { trie = high; stands = q; fits = omega arith; reduced = reduced.2 };
      }

  pub some_bits : (bits : ℕ) (node : Node V) → IsTrie bits nodes (Split node) → node.skip < bits
  some_bits bits node h = omega (arith, path-lower h.trie node h.stands, h.fits)

-- a table that keeps its nodes keeps its tries
module _ {V : Type 0} (old new : List (Node V)) (keeps : KeepsNodes old new) where
  pub HasTrie-grows : (bits : ℕ) (s : Sources V) → HasTrie bits old s → HasTrie bits new s
  HasTrie-grows bits s h = record { trie = h.trie; stands = Represents-grows old new keeps s h.trie h.stands; fits = h.fits; reduced = h.reduced }

  pub IsTrie-grows : (bits : ℕ) (x : Loose V) → IsTrie bits old x → IsTrie bits new x
  IsTrie-grows bits x h = record { trie = h.trie; stands = Stands-grows old new keeps x h.trie h.stands; fits = h.fits; reduced = h.reduced }
