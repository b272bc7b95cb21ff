-- What is kept of Hellos and IHUs, what it becomes with one more, and that it says what all of them
-- do.
use Rattle.std.specs.Prelude.{◌≡◌, ℕ, ◌≤◌, Bool, not, ◌&&◌, nat_lt, if◌then◌else◌, List, []}
use Rattle.std.specs.Prelude.{◌∷◌, ◌++◌, Option, Some, None}
use Rattle.std.specs.declared.cmp.Ordering.{Ordering}
use Rattle.std.specs.Ordering.{on, then_cmp}
use Rattle.std.specs.BTreeMap.{is_at}
use Rattle.std.specs.Map.{lookup}
use Rattle.babel_tlv.specs.declared.hello.Hello.{Hello}
use Rattle.babel_selection.specs.declared.hello_count.HelloCount.{HelloCount}
use Rattle.babel_selection.specs.declared.ihu_from.IhuFrom.{IhuFrom}
use Rattle.babel_selection.specs.declared.ihu_from.IhuSaid.{IhuSaid}
use Rattle.babel_selection.specs.declared.ihus.Numbered.{Numbered}
use Rattle.babel_selection.specs.declared.ihus.Pair.{Pair}
use Rattle.babel_selection.specs.Links.{after_hello, hello_count, last_ihu, names}

-- what is kept for a key, of entries in the order of their keys
abbrev pub entry_at : {K X : Type 0} → (K → K → Ordering) → List (K × X) → K → Option X
entry_at cmp entries key = lookup (is_at (cmp key)) entries

-- ---- Hellos

module _ {S : Type 0} (cmp : S → S → Ordering) where
  -- a Hello changes the count of its sender alone, and that if it is multicast
  abbrev pub CountsHello : S → Hello → List (S × HelloCount) → List (S × HelloCount) → Type 0
  CountsHello sender hello old new = (other : S) → entry_at cmp new other
      ≡ (if not hello.is_unicast && is_at (cmp sender) other
      then Some (after_hello hello (entry_at cmp old sender)) else entry_at cmp old other)

  -- these are the counts of these Hellos
  abbrev pub AreCounts : List (S × Hello) → List (S × HelloCount) → Type 0
  AreCounts hellos counts =
      (sender : S) → entry_at cmp counts sender ≡ hello_count cmp hellos sender

  abbrev pub BeginsCounts : Type 0
  BeginsCounts = AreCounts [] []

  abbrev pub HelloKeepsCounts : Type 0
  HelloKeepsCounts = (hellos : List (S × Hello)) (sender : S) (hello : Hello)
      (old new : List (S × HelloCount)) → AreCounts hellos old → CountsHello sender hello old new
      → AreCounts (hellos ++ (sender, hello) ∷ []) new

-- ---- IHUs

-- by router, then by neighbour
abbrev pub pair_cmp : {S : Type 0} → (S → S → Ordering) → Pair S → Pair S → Ordering
pair_cmp cmp = then_cmp (on (λ p. p.router) cmp) (on (λ p. p.neighbour) cmp)

abbrev pub pair_of : {S : Type 0} → S → S → Pair S
pair_of router neighbour = record { router = router; neighbour = neighbour }

-- the last IHUs that name a neighbour, the last ones for all others, and how many were heard
pub record LastIhus (S : Type 0) : Type 0 where
  pub named : List (Pair S × Numbered)
  pub to_all : List (S × Numbered)
  pub heard : ℕ

abbrev pub no_ihus : {S : Type 0} → LastIhus S
no_ihus = record { named = []; to_all = []; heard = 0 }

-- the later of two
abbrev pub later : Option Numbered → Option Numbered → Option IhuSaid
later None None = None
later (Some one) None = Some one.said
later None (Some other) = Some other.said
later (Some one) (Some other) =
    if nat_lt one.number other.number then Some other.said else Some one.said

module _ {S : Type 0} (cmp : S → S → Ordering) where
  -- none has a number above that of those that were heard
  pub record AreNumbered (ihus : LastIhus S) : Type 0 where
    pub named : (pair : Pair S) (one : Numbered)
        → entry_at (pair_cmp cmp) ihus.named pair ≡ Some one → one.number ≤ ihus.heard
    pub to_all : (router : S) (one : Numbered)
        → entry_at cmp ihus.to_all router ≡ Some one → one.number ≤ ihus.heard

  -- the last one of a router that names the neighbour, which sends there or not
  abbrev pub last_kept : LastIhus S → S → S → Bool → Option IhuSaid
  last_kept ihus router neighbour sends =
      later (entry_at (pair_cmp cmp) ihus.named (pair_of router neighbour))
      (if sends && not (is_at (cmp router) neighbour)
      then entry_at cmp ihus.to_all router else None)

  -- an IHU is the last one of each pair that it names
  abbrev pub TakesIhu : IhuFrom S → LastIhus S → LastIhus S → Type 0
  TakesIhu ihu old new = (router neighbour : S) (sends : Bool)
      → last_kept new router neighbour sends
      ≡ (if names cmp ihu router neighbour sends then Some ihu.said
      else last_kept old router neighbour sends)

  -- the same of one that names a neighbour, and of one for all others
  abbrev pub TakesNamed : Pair S → IhuSaid → LastIhus S → LastIhus S → Type 0
  TakesNamed pair said = TakesIhu
      (record { router = pair.router; neighbour = Some pair.neighbour; said = said })

  abbrev pub TakesAll : S → IhuSaid → LastIhus S → LastIhus S → Type 0
  TakesAll router said = TakesIhu (record { router = router; neighbour = None; said = said })

  -- these are the last ones of these IHUs
  abbrev pub AreLast : List (IhuFrom S) → LastIhus S → Type 0
  AreLast ihus kept = (router neighbour : S) (sends : Bool)
      → last_kept kept router neighbour sends ≡ last_ihu cmp ihus router neighbour sends

  abbrev pub BeginsLast : Type 0
  BeginsLast = AreLast [] no_ihus

  abbrev pub IhuKeepsLast : Type 0
  IhuKeepsLast = (ihus : List (IhuFrom S)) (ihu : IhuFrom S) (old new : LastIhus S)
      → AreLast ihus old → TakesIhu ihu old new → AreLast (ihus ++ ihu ∷ []) new
