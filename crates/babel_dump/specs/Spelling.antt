-- How addresses are written: in long as RFC 4291, 2.2, form 1, has IPv6; in short as RFC 5952, 4.
-- What stands before a source is this project's own.
use Rattle.std.specs.Prelude.{ℕ, ◌==◌, if◌then◌else◌, List, [], ◌++◌, codes}
use Rattle.babel_prefix.specs.Address.{Address, AddressPrefix}
use Rattle.babel_prefix.specs.Short.{short, short_prefix}
use Rattle.babel_prefix.specs.Text.{printed, printed_prefix}
use Rattle.babel_dump.specs.declared.spelling.Spelling.{Spelling}
use Rattle.babel_dump.specs.declared.spelling.Spelling.TheVariants as spellings

abbrev pub address_text : Spelling → Address → List ℕ
address_text spellings.Long addr = printed addr
address_text spellings.Short addr = short addr

abbrev pub prefix_text : Spelling → AddressPrefix → List ℕ
prefix_text spellings.Long prefix = printed_prefix prefix
prefix_text spellings.Short prefix = short_prefix prefix

-- ` from ADDRESS`
abbrev pub from_address : Spelling → Address → List ℕ
from_address spelling addr = codes " from " ++ address_text spelling addr

-- ` from PREFIX`; in short nothing where its length is 0, since it has every source then
abbrev pub from_prefix : Spelling → AddressPrefix → List ℕ
from_prefix spellings.Long prefix = codes " from " ++ printed_prefix prefix
from_prefix spellings.Short prefix =
    if prefix.len == 0 then [] else codes " from " ++ short_prefix prefix
