-- The text of a prefix in either spelling, in parts.
use Rattle.std.proofs.Common.{◌≡◌, [], ◌∷◌, ◌++◌, refl, append_assoc}
use Rattle.std.specs.Fmt.{decimal}
use Rattle.babel_prefix.specs.Address.{AddressPrefix}
use Rattle.babel_prefix.specs.Short.{short, short_prefix}
use Rattle.babel_prefix.specs.Text.{printed, printed_prefix}
use Rattle.babel_dump.specs.Spelling.{address_text, prefix_text}
use Rattle.babel_dump.specs.declared.spelling.Spelling.{Spelling}
use Rattle.babel_dump.specs.declared.spelling.Spelling.TheVariants as spellings

long_parts : (p : AddressPrefix) → (printed p.address ++ (47 ∷ [])) ++ decimal p.len ≡ printed_prefix p
long_parts p = simp append_assoc refl

short_parts : (p : AddressPrefix) → (short p.address ++ (47 ∷ [])) ++ decimal p.len ≡ short_prefix p
short_parts p = simp append_assoc refl

pub prefix_parts : (spelling : Spelling) (p : AddressPrefix) → (address_text spelling p.address ++ (47 ∷ [])) ++ decimal p.len ≡ prefix_text spelling p
prefix_parts spellings.Long p = long_parts p
prefix_parts spellings.Short p = short_parts p
