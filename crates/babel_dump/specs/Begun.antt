-- What an input is, by its first octets: this project's own.
use Rattle.std.specs.Prelude.{ℕ, ◌≡◌, ◌⊎◌, ◌==◌, ◌&&◌, ◌||◌, nat_lt, Bool, false, if◌then◌else◌, List, [], ◌∷◌, length, Option}
use Rattle.std.specs.Io.KnownBytes.{Consumes, IsAtEnd}
use Rattle.std.specs.List.{list_any, starts_with}
use Rattle.babel_dump.specs.declared.begun.Begins.{Begins}
use Rattle.babel_dump.specs.declared.begun.Begins.TheVariants as beginnings

-- the first octets of captures: pcapng, and pcap in either byte order, with microseconds or
-- nanoseconds
abbrev pub magics : List (List ℕ)
magics =
    (0x0a ∷ 0x0d ∷ 0x0d ∷ 0x0a ∷ []) ∷ (0xd4 ∷ 0xc3 ∷ 0xb2 ∷ 0xa1 ∷ [])
    ∷ (0xa1 ∷ 0xb2 ∷ 0xc3 ∷ 0xd4 ∷ []) ∷ (0x4d ∷ 0x3c ∷ 0xb2 ∷ 0xa1 ∷ [])
    ∷ (0xa1 ∷ 0xb2 ∷ 0x3c ∷ 0x4d ∷ []) ∷ []

abbrev pub begins_capture : List ℕ → Bool
begins_capture octets = list_any (λ magic. starts_with ◌==◌ octets magic) magics

-- the first octets of dumps (RFC 8966, 4.2): Magic and Version
abbrev pub dump_magic : List ℕ
dump_magic = 42 ∷ 2 ∷ []

-- of a dump, or too few to tell
abbrev pub begins_dump : List ℕ → Bool
begins_dump octets = starts_with ◌==◌ octets dump_magic || starts_with ◌==◌ dump_magic octets

-- what the first octets of a stream are, or as many as came before a read failed
abbrev pub begins_with : (octets : List ℕ) → (has_failed : Bool) → Begins
begins_with octets has_failed =
    if has_failed && nat_lt (length octets) 4 then beginnings.Failed
    else if begins_capture octets then beginnings.Capture
    else if begins_dump octets then beginnings.Dump
    else beginnings.Other

-- A stream begins so: by its first 64 octets, or by all if it has fewer or a read of them failed.
pub record BeginsSo (stream : Option (List ℕ)) (begins : Begins) : Type 0 where
  pub first : List ℕ
  pub rest : Option (List ℕ)
  pub are_first : Consumes stream rest first
  pub has_failed : Bool
  pub begins_is : begins ≡ begins_with first has_failed
  pub enough : has_failed ≡ false → (length first ≡ 64) ⊎ IsAtEnd rest
