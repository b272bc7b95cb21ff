-- How the datagrams that are known are found, inside: this project's own.
use Rattle.std.specs.Prelude.{◌≡◌, ◌≤◌, ◌↔◌, ◌⊎◌, ℕ, List, None, Some}
use Rattle.std.specs.BTreeMap.{is_at}
use Rattle.std.specs.List.{All}
use Rattle.std.specs.List.Sorted.{IsStrictlySortedBy}
use Rattle.std.specs.Map.{keys_of, lookup}
use Rattle.std.specs.Ordering.{nat_cmp}
use Rattle.babel_capture.specs.declared.datagram.Datagram.{Datagram}
use Rattle.babel_capture.specs.declared.fragment.DatagramId.{DatagramId}
use Rattle.babel_capture.specs.Fragments.{Known, id_cmp, octets_in}

-- the datagram with this number has this identification
pub record Holds (known : Known) (id : DatagramId) (number : ℕ) : Type 0 where
  pub datagram : Datagram
  pub found : lookup (is_at (nat_cmp number)) known ≡ Some datagram
  pub own : datagram.id ≡ id

-- each is found by its identification, and so many octets they have
pub record IsIndexed (numbers : List (DatagramId × ℕ)) (known : Known) (octets : ℕ) : Type 0 where
  pub rising : IsStrictlySortedBy nat_cmp (keys_of known)
  pub ids : IsStrictlySortedBy id_cmp (keys_of numbers)
  pub held : (id : DatagramId) (number : ℕ)
      → (lookup (is_at (id_cmp id)) numbers ≡ Some number) ↔ Holds known id number
  pub octets_are : octets ≡ octets_in known

-- none of them has a number after this one
abbrev pub AreUpTo : ℕ → Known → Type 0
AreUpTo last known = All (λ number. number ≤ last) (keys_of known)

-- no number is of two of them
abbrev pub AreApart : (some others : Known) → Type 0
AreApart some others =
    (number : ℕ) → (lookup (is_at (nat_cmp number)) some ≡ None)
    ⊎ (lookup (is_at (nat_cmp number)) others ≡ None)

-- so far they have numbers, each of one of them
abbrev pub AreNumbered : (last : ℕ) → (unfinished others : Known) → Type 0
AreNumbered last unfinished others =
    AreUpTo last unfinished × AreUpTo last others × AreApart unfinished others
