-- Tries as constants and numbers of a table of nodes: this project's own.
use Rattle.std.specs.Prelude.{◌≡◌, ◌↔◌, ◌⊎◌, ℕ, zero, suc, ◌+◌, ◌-◌, ◌%◌, ◌^◌, ◌<◌, ◌≤◌, ◌==◌}
use Rattle.std.specs.Prelude.{Bool, true, false, cond, max, List, Some, slice_get}
use Rattle.babel_trie.specs.Shape.{Shape, leaf, fork, is_low, height, HasHalves, IsReduced}
use Rattle.babel_trie.specs.declared.table.Loose.{Loose}
use Rattle.babel_trie.specs.declared.table.Loose.TheVariants.{Same, Split}
use Rattle.babel_trie.specs.declared.table.Node.{Node}
use Rattle.babel_trie.specs.declared.table.NodeNumber.{NodeNumber}
use Rattle.babel_trie.specs.declared.table.Sources.{Sources}
use Rattle.babel_trie.specs.declared.table.Sources.TheVariants.{Constant, Stored}

module _ {V : Type 0} where
  -- what the sources are, without the table
  abbrev pub Opens : List (Node V) → Sources V → Loose V → Type 0
  Opens nodes (Constant v) x = x ≡ Same v
  Opens nodes (Stored number) x =
      (node : Node V) × (slice_get nodes number.0 ≡ Some node) × (x ≡ Split node)

  -- the node from one bit further on its path, which is at its block once no bit is left
  abbrev pub inner : Node V → Node V
  inner node = record {
    skip = node.skip - 1;
    path = node.path % 2 ^ (node.skip - 1);
    outside = cond (node.skip == 1) node.low node.outside;
    low = node.low;
    high = node.high;
  }

  -- the halves of a node: at its block those that it names, and on its path to the block the rest
  -- of the path, and what is beside it
  abbrev pub HaveHalves : List (Node V) → Node V → Loose V → Loose V → Type 0
  HaveHalves nodes node low high =
      ((node.skip ≡ 0) × Opens nodes node.low low × Opens nodes node.high high)
      ⊎ ((0 < node.skip) × (is_low node.skip node.path ≡ true) × (low ≡ Split (inner node))
      × Opens nodes node.outside high)
      ⊎ ((0 < node.skip) × (is_low node.skip node.path ≡ false) × Opens nodes node.outside low
      × (high ≡ Split (inner node)))

  -- the same, of one half inside, the lower or the upper, and the other beside it
  abbrev pub HaveHalvesBy : Bool → List (Node V) → Node V → Loose V → Loose V → Type 0
  HaveHalvesBy low nodes node inside beside =
      HaveHalves nodes node (cond low inside beside) (cond low beside inside)

  abbrev pub HalvesAt : List (Node V) → Loose V → Loose V → Loose V → Type 0
  HalvesAt nodes (Same v) low high = ⊥
  HalvesAt nodes (Split node) low high = HaveHalves nodes node low high

  -- it stands for the trie
  abbrev pub Stands : List (Node V) → Loose V → Shape V → Type 0
  Stands nodes x (leaf v) = x ≡ Same v
  Stands nodes x (fork low high) =
      (l : Loose V) × (h : Loose V) × HalvesAt nodes x l h × Stands nodes l low
      × Stands nodes h high

  -- they stand for the trie
  abbrev pub Represents : List (Node V) → Sources V → Shape V → Type 0
  Represents nodes s t = (x : Loose V) × Opens nodes s x × Stands nodes x t

  -- what a stored node is from some bits further on its path, or the constant
  abbrev pub further : ℕ → Node V → Node V
  further zero node = node
  further (suc passed) node = inner (further passed node)

  abbrev pub OpensFrom : List (Node V) → Sources V → ℕ → Loose V → Type 0
  OpensFrom nodes (Constant v) passed x = x ≡ Same v
  OpensFrom nodes (Stored number) passed x =
      (node : Node V) × (slice_get nodes number.0 ≡ Some node) × (passed ≤ node.skip)
      × (x ≡ Split (further passed node))

  -- a bit more fits on its path
  abbrev pub FitsPath : Loose V → Type 0
  FitsPath (Same v) = Unit {0}
  FitsPath (Split node) = (node.skip < 127) × (node.path < 2 ^ node.skip)

  -- beside one value the other half has a path of its own, on which another value is beside it
  abbrev pub IsNoLonger : List (Node V) → Sources V → Sources V → Type 0
  IsNoLonger nodes s other =
      (v : V) (number : NodeNumber) → s ≡ Constant v → other ≡ Stored number →
      (node : Node V) × (slice_get nodes number.0 ≡ Some node) × (0 < node.skip)
      × (node.outside ≡ Constant v → ⊥)

  -- the one form of a node: the path is as long as it can be, and says nothing twice
  pub record IsNormal (nodes : List (Node V)) (node : Node V) : Type 0 where
    pub path_in : node.path < 2 ^ node.skip
    pub none_outside : node.skip ≡ 0 → node.outside ≡ node.low
    pub one_outside : 0 < node.skip → (v : V) × (node.outside ≡ Constant v)
    pub halves_differ : (v : V) → node.low ≡ Constant v → node.high ≡ Constant v → ⊥
    pub low_no_longer : IsNoLonger nodes node.low node.high
    pub high_no_longer : IsNoLonger nodes node.high node.low

  abbrev pub IsNormalLoose : List (Node V) → Loose V → Type 0
  IsNormalLoose nodes (Same v) = Unit {0}
  IsNormalLoose nodes (Split node) = IsNormal nodes node

  -- it has these halves and its one form, or is the one value that both are
  abbrev pub AreUnited : List (Node V) → Loose V → Loose V → Loose V → Type 0
  AreUnited nodes low high x =
      ((v : V) × (low ≡ Same v) × (high ≡ Same v) × (x ≡ Same v))
      ⊎ (HalvesAt nodes x low high × IsNormalLoose nodes x)

  -- no value is beside a path that it would make longer, and not both are one value
  abbrev pub IsBesidePath : Loose V → Loose V → Type 0
  IsBesidePath x y = (v : V) (node : Node V) → x ≡ Same v → y ≡ Split node →
      (0 < node.skip) × (node.outside ≡ Constant v → ⊥)

  abbrev pub AreApart : Loose V → Loose V → Type 0
  AreApart low high =
      ((v w : V) → low ≡ Same v → high ≡ Same w → ⊥) × IsBesidePath low high × IsBesidePath high low

  -- no node stands twice
  abbrev pub HasDistinctNodes : List (Node V) → Type 0
  HasDistinctNodes nodes =
      (i j : ℕ) (node : Node V) → slice_get nodes i ≡ Some node → slice_get nodes j ≡ Some node →
      i ≡ j

  -- no node stands twice, and each has its one form
  pub record HasOneForm (nodes : List (Node V)) : Type 0 where
    pub distinct : HasDistinctNodes nodes
    pub normal : (i : ℕ) (node : Node V) → slice_get nodes i ≡ Some node → IsNormal nodes node

  -- equal tries have equal sources, and equal sources stand for equal tries
  abbrev pub SourcesAreExact : List (Node V) → Type 0
  SourcesAreExact nodes =
      (r s : Sources V) (t u : Shape V) → Represents nodes r t → Represents nodes s u →
      (r ≡ s) ↔ (t ≡ u)

  -- it stands for the trie that has these halves
  pub record IsJoined (nodes : List (Node V)) (x : Loose V) (low high : Shape V) : Type 0 where
    pub whole : Shape V
    pub stands : Stands nodes x whole
    pub halves : HasHalves whole low high
    pub lower : height whole ≤ max (height low) (height high) + 1
    pub reduced : IsReduced low → IsReduced high → IsReduced whole

  -- it stands for the joined trie, whatever tries the two stand for
  abbrev pub Joins : List (Node V) → Loose V → Loose V → List (Node V) → Loose V → Type 0
  Joins old low high new x =
      (l h : Shape V) → Stands old low l → Stands old high h → IsJoined new x l h

  -- the same, of one half inside, the lower or the upper, and the other beside it
  abbrev pub JoinsBy : Bool → List (Node V) → Loose V → Loose V → List (Node V) → Loose V → Type 0
  JoinsBy low old inside beside new x =
      Joins old (cond low inside beside) (cond low beside inside) new x

  -- it stands for a reduced trie that looks at no more than this many bits
  pub record IsTrie (bits : ℕ) (nodes : List (Node V)) (x : Loose V) : Type 0 where
    pub trie : Shape V
    pub stands : Stands nodes x trie
    pub fits : height trie ≤ bits
    pub reduced : IsReduced trie

  -- they stand for a reduced trie that looks at no more than this many bits
  pub record HasTrie (bits : ℕ) (nodes : List (Node V)) (s : Sources V) : Type 0 where
    pub trie : Shape V
    pub stands : Represents nodes s trie
    pub fits : height trie ≤ bits
    pub reduced : IsReduced trie

  -- the two stand for the halves of the trie
  pub record IsHalved (nodes : List (Node V)) (t : Shape V) (low high : Loose V) : Type 0 where
    pub low_half : Shape V
    pub high_half : Shape V
    pub low_stands : Stands nodes low low_half
    pub high_stands : Stands nodes high high_half
    pub halves : HasHalves t low_half high_half
    pub low_lower : height low_half ≤ height t - 1
    pub high_lower : height high_half ≤ height t - 1
    pub reduced : IsReduced t → IsReduced low_half × IsReduced high_half

-- in a table with one form of each node, equal tries have equal sources, and equal sources stand
-- for equal tries
abbrev pub EqualTriesHaveEqualSources : Type 0 → Type 0
EqualTriesHaveEqualSources V = (nodes : List (Node V)) → HasOneForm nodes → SourcesAreExact nodes
