-- The fragments of one datagram: RFC 791, 3.2; RFC 8200, 4.5.
use Rattle.std.specs.Prelude.{ℕ, ◌+◌, Bool, not, ◌==◌, ◌&&◌, ◌||◌, nat_lt, max, sum_by}
use Rattle.std.specs.Prelude.{if◌then◌else◌, List, [], ◌∷◌, ◌++◌, length, Option, None, Some}
use Rattle.std.specs.Bool.{beq}
use Rattle.std.specs.BTreeMap.{is_at}
use Rattle.std.specs.List.{list_any}
use Rattle.std.specs.Map.{lookup, values_of}
use Rattle.std.specs.Ordering.{nat_cmp}
use Rattle.std.specs.Str.{bytes_eq}
use Rattle.babel_capture.specs.declared.fragment.DatagramId.{DatagramId}
use Rattle.babel_capture.specs.declared.fragment.Fragment.{Fragment as HeldFragment}
use Rattle.babel_capture.specs.declared.fragment.UdpPlace.{UdpPlace}
use Rattle.babel_capture.specs.declared.pieces.Meeting.{Meeting}
use Rattle.babel_capture.specs.declared.pieces.Meeting.TheVariants as meetings

-- A fragment: of which datagram, where in that it begins, in octets, whether more come after it,
-- how many octets of the datagram it had, and those of them that the recorder kept, its first ones;
-- where UDP begins, if this is the first fragment of a datagram from or to the port of Babel; and
-- whether it goes to a group of Babel, and says that it is of UDP
pub record Fragment : Type 0 where
  pub id : DatagramId
  pub offset : ℕ
  pub more : Bool
  pub len : ℕ
  pub octets : List ℕ
  pub udp : Option UdpPlace
  pub is_to_group : Bool

-- as the code holds it, without where its octets lie in memory
abbrev pub fragment_of : HeldFragment → Fragment
fragment_of held = record {
  id = held.id;
  offset = held.offset;
  more = held.more;
  len = held.len;
  octets = held.octets.now;
  udp = held.udp;
  is_to_group = held.is_to_group;
}

-- what is kept of one
pub record KeptPiece : Type 0 where
  pub more : Bool
  pub len : ℕ
  pub octets : List ℕ

-- those that came, each at its offset, which is where in the datagram it begins, in octets
abbrev pub KeptPieces : Type 0
KeptPieces = List (ℕ × KeptPiece)

abbrev pub piece_of : Fragment → KeptPiece
piece_of fragment = record {
  more = fragment.more;
  len = fragment.len;
  octets = fragment.octets;
}

abbrev pub end_of : ℕ × KeptPiece → ℕ
end_of piece = piece.0 + piece.1.len

abbrev pub is_last : ℕ × KeptPiece → Bool
is_last piece = not piece.1.more

-- two of them share octets
abbrev pub share : ℕ × KeptPiece → ℕ × KeptPiece → Bool
share one other = nat_lt one.0 (end_of other) && nat_lt other.0 (end_of one)

-- how many octets they had, and where the furthest one ends
abbrev pub len_of : KeptPieces → ℕ
len_of pieces = sum_by (λ piece. piece.len) (values_of pieces)

abbrev pub furthest : KeptPieces → ℕ
furthest [] = 0
furthest (piece ∷ pieces) = max (end_of piece) (furthest pieces)

-- RFC 5722, 4: one more, which overlaps those that came. So does a last one where another is the
-- last one or ends after it, and one that ends after the last one.
abbrev pub overlaps : KeptPieces → ℕ × KeptPiece → Bool
overlaps pieces piece =
    list_any (share piece) pieces
    || (if list_any is_last pieces then is_last piece || nat_lt (furthest pieces) (end_of piece)
    else is_last piece && nat_lt (end_of piece) (furthest pieces))

-- two are one fragment, octet by octet
abbrev pub is_same : KeptPiece → KeptPiece → Bool
is_same one other =
    beq one.more other.more && (one.len == other.len && bytes_eq one.octets other.octets)

-- One fragment more, at this offset: it repeats one of those that came, or overlaps one of them, as
-- another at the same offset does, or stands apart from each.
abbrev pub meeting_with : KeptPieces → ℕ × KeptPiece → Option KeptPiece → Meeting
meeting_with pieces piece (Some other) =
    if is_same other piece.1 then meetings.Repeats else meetings.Overlaps
meeting_with pieces piece None =
    if overlaps pieces piece then meetings.Overlaps else meetings.Apart

abbrev pub meeting : KeptPieces → Fragment → Meeting
meeting pieces fragment =
    meeting_with pieces (fragment.offset, piece_of fragment)
    (lookup (is_at (nat_cmp fragment.offset)) pieces)

-- The last one came, and they had as many octets as the datagram has up to its end, so that none
-- is missing where they stand apart.
abbrev pub is_whole : KeptPieces → Bool
is_whole pieces = list_any is_last pieces && len_of pieces == furthest pieces

-- the octets of these, end to end, up to the first that the recorder did not keep
abbrev pub joined : List KeptPiece → List ℕ
joined [] = []
joined (piece ∷ pieces) =
    if nat_lt (length piece.octets) piece.len then piece.octets else piece.octets ++ joined pieces
