-- The short text of an address: RFC 5952, 4.
use Rattle.std.specs.Prelude.{◌≡◌, ℕ, ◌+◌, ◌≤◌, List, ◌++◌, length, take, drop, replicate, ◌⊎◌}
use Rattle.std.specs.Prelude.{Option, None, Some, nat_lt, if◌then◌else◌, codes}
use Rattle.std.specs.Fmt.{decimal}
use Rattle.std.specs.Net.Text.{longest_zero_run}
use Rattle.babel_prefix.specs.declared.family.Family.{Family}
use Rattle.babel_prefix.specs.declared.family.Family.TheVariants.{V4, V6}
use Rattle.babel_prefix.specs.declared.gap.Gap.{Gap}
use Rattle.babel_prefix.specs.Address.{Address, AddressPrefix}
use Rattle.babel_prefix.specs.Text.{groups_from, groups_text, printed_bits}

-- RFC 5952, 4.2: `n` of the groups, between these, are zeros, there are two or more of them, no run
-- of zeros is longer, and none of the same length begins before it
pub record IsShortened (groups left : List ℕ) (n : ℕ) (right : List ℕ) : Type 0 where
  pub run : groups ≡ left ++ replicate n 0 ++ right
  pub two : 2 ≤ n
  pub longest : (xs ys : List ℕ) (m : ℕ) → groups ≡ xs ++ replicate m 0 ++ ys → m ≤ n
  pub first : (xs ys : List ℕ) → groups ≡ xs ++ replicate n 0 ++ ys → length left ≤ length xs

-- the groups' text has `::` for that run, and is the long one where no two zeros are side by side
abbrev pub IsShortest : List ℕ → List ℕ → Type 0
IsShortest groups text =
    ((left right : List ℕ) × (n : ℕ) × IsShortened groups left n right
    × (text ≡ groups_text left ++ codes "::" ++ groups_text right))
    ⊎ (((xs ys : List ℕ) → groups ≡ xs ++ replicate 2 0 ++ ys → ⊥) × (text ≡ groups_text groups))

-- the run that `::` stands for: of the first longest run std has the place and the length
abbrev pub gap_in : List ℕ → Option Gap
gap_in groups =
    let run = longest_zero_run groups in
    if nat_lt 1 run.1 then Some (record { start = run.0; len = run.1 }) else None

-- the groups' text with `::` for a run
abbrev pub with_gap : List ℕ → Option Gap → List ℕ
with_gap groups None = groups_text groups
with_gap groups (Some gap) =
    groups_text (take gap.start groups) ++ codes "::"
    ++ groups_text (drop (gap.start + gap.len) groups)

abbrev pub short_groups : List ℕ → List ℕ
short_groups groups = with_gap groups (gap_in groups)

-- the short text of an address, which of IPv4 is the long one
abbrev pub short_bits : Family → ℕ → List ℕ
short_bits V4 bits = printed_bits V4 bits
short_bits V6 bits = short_groups (groups_from 8 bits)

abbrev pub short : Address → List ℕ
short a = short_bits a.family a.bits

-- the short text of a prefix: the address, `/`, and the length in decimal
abbrev pub short_prefix : AddressPrefix → List ℕ
short_prefix p = short p.address ++ codes "/" ++ decimal p.len

-- the run that `::` stands for in the short text of an address
abbrev pub gap_at : Family → ℕ → Option Gap
gap_at V4 bits = None
gap_at V6 bits = gap_in (groups_from 8 bits)
