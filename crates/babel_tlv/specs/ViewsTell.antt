-- What follows of views (RFC 8966, 4.6.9): when what is seen is equal, and that it fits.
use Rattle.std.specs.Prelude.{◌≡◌, ◌↔◌, Bool}
use Rattle.babel_prefix.specs.declared.family.Family.{Family}
use Rattle.babel_tlv.specs.declared.held.Held.{Held}
use Rattle.babel_tlv.specs.declared.view.View.{View}
use Rattle.babel_tlv.specs.Route.{RouteKey}
use Rattle.babel_tlv.specs.Pairs.{FitsKey, HopFits}
use Rattle.babel_tlv.specs.Views.{keeps_all, HeldSameUnder, seen}

-- two values for keys of one family are the same under a view exactly where what is seen of them
-- is equal
abbrev pub SeenTellsApart : Type 0
SeenTellsApart =
    (view : View) (family : Family) (held other : Held)
    → HeldSameUnder view held other ↔ (seen view family held ≡ seen view family other)

-- the view that keeps all changes nothing
abbrev pub AllIsSeen : Type 0
AllIsSeen = (family : Family) (held : Held) → seen keeps_all family held ≡ held

-- what is seen is seen so again
abbrev pub SeenTwiceIsSeen : Type 0
SeenTwiceIsSeen = (view : View) (family : Family) (held : Held)
    → seen view family (seen view family held) ≡ seen view family held

-- what is seen of what fits a key fits it too, and so does its next hop
abbrev pub SeenFits : Type 0
SeenFits = (view : View) (key : RouteKey) (held : Held) → FitsKey key held →
    FitsKey key (seen view key.dst.address.family held)

abbrev pub SeenHopFits : Type 0
SeenHopFits = (via_v6 : Bool) (view : View) (key : RouteKey) (held : Held)
    → HopFits via_v6 key held → HopFits via_v6 key (seen view key.dst.address.family held)
