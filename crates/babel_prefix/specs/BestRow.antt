-- The best row as a relation, that answers are the values of best rows, and what rows have to keep
-- for it: RFC 9079, 3.2, 4.
use Rattle.std.specs.Prelude.{◌≡◌, ◌⊎◌, ℕ, ◌<◌, ◌≤◌, List, Contains, AllPairs, ◌↔◌, Some, None, All}
use Rattle.babel_prefix.specs.declared.family.Family.{Family}
use Rattle.babel_prefix.specs.Covers.{BlockCovers, IsBlock, IsAddressPrefix}
use Rattle.babel_prefix.specs.Best.{Row, answer}
use Rattle.babel_prefix.specs.Entries.{Entry}

module _ {V : Type 0} where
  -- both prefixes of the row contain their address
  abbrev pub Matches : ℕ → ℕ → ℕ → Row V → Type 0
  Matches width dst src row = BlockCovers width row.dst dst × BlockCovers width row.src src

  -- a shorter destination prefix, or the same one and a source prefix no longer
  abbrev pub IsNoLonger : Row V → Row V → Type 0
  IsNoLonger other row =
      (other.dst.len < row.dst.len) ⊎ ((other.dst ≡ row.dst) × (other.src.len ≤ row.src.len))

  -- RFC 9079, 4: of the rows that match both addresses the one with the longest destination prefix,
  -- and among these the longest source prefix
  pub record IsBest (width : ℕ) (rows : List (Row V)) (dst src : ℕ) (row : Row V) : Type 0 where
    pub listed : Contains rows row
    pub matching : Matches width dst src row
    pub longest : (other : Row V) → Contains rows other → Matches width dst src other →
        IsNoLonger other row

  -- no two rows have the same two prefixes
  abbrev pub HasDistinctKeys : List (Row V) → Type 0
  HasDistinctKeys rows = AllPairs (λ row later. row.dst ≡ later.dst → row.src ≡ later.src → ⊥) rows

  -- the rows have prefixes, and no two have the same two
  pub record IsTable (w : ℕ) (rows : List (Row V)) : Type 0 where
    pub prefixes : (row : Row V) → Contains rows row → IsBlock w row.dst × IsBlock w row.src
    pub one_row : (row other : Row V) → Contains rows row → Contains rows other →
        row.dst ≡ other.dst → row.src ≡ other.src → row ≡ other

  -- both are prefixes
  abbrev pub HasPrefixes : Entry V → Type 0
  HasPrefixes entry = IsAddressPrefix entry.0 × IsAddressPrefix entry.1

  -- both are of this family
  abbrev pub AreOfFamily : Family → Entry V → Type 0
  AreOfFamily family entry = (entry.0.address.family ≡ family) × (entry.1.address.family ≡ family)

  -- no two entries have the same two prefixes
  abbrev pub HasDistinctPrefixes : List (Entry V) → Type 0
  HasDistinctPrefixes entries =
      AllPairs (λ entry later. entry.0 ≡ later.0 → entry.1 ≡ later.1 → ⊥) entries

-- The answers are the values of the best rows, and none exactly where no row matches.
abbrev pub AnswersAreBest : Type 0 → Type 0
AnswersAreBest V =
    (width : ℕ) (rows : List (Row V)) →
    All (λ row. IsBlock width row.dst × IsBlock width row.src) rows →
    HasDistinctKeys rows →
    (dst src : ℕ) →
    ((v : V) → (answer width rows dst src ≡ Some v)
    ↔ ((row : Row V) × IsBest width rows dst src row × (row.value ≡ v)))
    × ((answer width rows dst src ≡ None)
    ↔ ((row : Row V) → Contains rows row → Matches width dst src row → ⊥))
