-- The options of a block: draft-ietf-opsawg-pcapng, 3.5; those of an interface: 4.2.
use Rattle.std.specs.Prelude.{ℕ, zero, suc, ◌+◌, ◌*◌, ◌/◌, Bool, true, false, ◌==◌, ◌&&◌, ◌||◌}
use Rattle.std.specs.Prelude.{nat_lt, not, if◌then◌else◌, List, [], length, take, drop, slice_index}
use Rattle.std.specs.Prelude.{Option, None, Some, is_none, ℤ}
use Rattle.std.specs.Int.{cast_signed, w64}
use Rattle.babel_capture.specs.declared.clock.Resolution.{Resolution}
use Rattle.babel_capture.specs.declared.order.Order.{Order}
use Rattle.babel_capture.specs.Numbers.{number_at}
use Rattle.babel_capture.specs.Times.{resolution_of}

-- the name that was found, which is empty where there is none, how many units of time a second has
-- and the seconds that are added to each time, where that was found; the octets that are left; and
-- whether an option ran past them, or had a length that it can't have
pub record Options : Type 0 where
  pub name : List ℕ
  pub resolution : Option Resolution
  pub offset : Option ℤ
  pub octets : List ℕ
  pub is_bad : Bool

-- draft-ietf-opsawg-pcapng, 3.5: the code and the length of an option, of two octets each; its
-- value comes after them, and octets up to a multiple of 4
abbrev pub option_code : Order → List ℕ → ℕ
option_code order octets = number_at order 2 octets 0

abbrev pub option_len : Order → List ℕ → ℕ
option_len order octets = number_at order 2 octets 2

abbrev pub padded : ℕ → ℕ
padded len = 4 + (len + 3) / 4 * 4

-- no option comes next: an option of code 0 is the last one, or there are none left
abbrev pub is_last : Order → List ℕ → Bool
is_last order octets = nat_lt (length octets) 4 || option_code order octets == 0

-- draft-ietf-opsawg-pcapng, 4.2: the name of an interface is the value of option 2; the first that
-- is not empty counts
abbrev pub name_with : Order → Options → List ℕ
name_with order options =
    if option_code order options.octets == 2 && length options.name == 0
    then take (option_len order options.octets) (drop 4 options.octets)
    else options.name

-- draft-ietf-opsawg-pcapng, 4.2: the resolution of an interface's times is the octet of option 9;
-- the first counts
abbrev pub resolution_with : Order → Options → Option Resolution
resolution_with order options =
    if is_none options.resolution && option_code order options.octets == 9
    then Some (resolution_of (slice_index options.octets 4))
    else options.resolution

-- draft-ietf-opsawg-pcapng, 4.2: their offset is the number of option 14, which has 64 bits and a
-- sign; the first counts
abbrev pub offset_with : Order → Options → Option ℤ
offset_with order options =
    if is_none options.offset && option_code order options.octets == 14
    then Some (cast_signed w64 (number_at order 8 options.octets 4))
    else options.offset

-- the next option runs past the octets, or is one of those of times and has not 1 or 8 octets
abbrev pub has_bad_len : Order → List ℕ → Bool
has_bad_len order octets =
    let code : ℕ = option_code order octets in
    let len : ℕ = option_len order octets in
    nat_lt (length octets) (4 + len) || (code == 9 && not (len == 1))
    || (code == 14 && not (len == 8))

-- past the next option, if one comes next
unfoldable pub past_option : Order → Options → Options
past_option order options =
    if options.is_bad || is_last order options.octets then options
    else if has_bad_len order options.octets then record options { is_bad = true }
    else record {
      name = name_with order options;
      resolution = resolution_with order options;
      offset = offset_with order options;
      octets = drop (padded (option_len order options.octets)) options.octets;
      is_bad = false;
    }

-- past as many options at most
unfoldable pub past_options : ℕ → Order → Options → Options
past_options zero order options = options
past_options (suc n) order options = past_option order (past_options n order options)

-- past all options of these octets, each of which has an octet at least
abbrev pub all_options : Order → List ℕ → Options
all_options order octets =
    past_options (length octets) order (record {
      name = [];
      resolution = None;
      offset = None;
      octets = octets;
      is_bad = false;
    })
