-- What is held for a key is held without the reasons, too.
use Rattle.std.proofs.Common.{◌≡◌, Bool, true, false, cond, List, [], ◌∷◌, map, Option, Some, None, refl, ap, ◌∙◌}
use Rattle.std.specs.Prelude.{fold, IfSome, is_none}
use Rattle.babel_prefix.specs.Address.{Address}
use Rattle.babel_tlv.specs.declared.event.Event.{Event}
use Rattle.babel_tlv.specs.declared.event.Event.TheVariants as events
use Rattle.babel_tlv.specs.declared.held.Held.{Held}
use Rattle.babel_tlv.specs.declared.held.Held.TheVariants as helds
use Rattle.babel_tlv.specs.declared.mode.Mode.{Mode}
use Rattle.babel_tlv.specs.declared.mode.Mode.TheVariants as modes
use Rattle.babel_tlv.specs.Route.{RouteKey}
use Rattle.babel_table.specs.BestMatch.{IsBestAmong}
use Rattle.babel_table.specs.Holds.{held_after, same_key, Holds}
use Rattle.babel_canon.specs.RoundTrip.{IsRoute}
use Rattle.babel_canon.proofs.Told.{quiet}

-- what is held for a key after events, and what they answer
abbrev pub held_for : Mode → List Event → RouteKey → Option Held
held_for mode events key = fold (held_after mode key) None events

abbrev pub IsAnswer : Mode → List Event → Address → Address → Option Held → Type 0
IsAnswer mode events = IsBestAmong (Holds mode events)

after-quiet : (mode : Mode) (key : RouteKey) (old : Option Held) (event : Event) → held_after mode key old (quiet event) ≡ held_after mode key old event
after-quiet mode key old (events.Announce other ann) = refl
after-quiet mode key old (events.Retract other) = refl
after-quiet mode key old events.RetractAll = refl
after-quiet mode key old events.Nothing = refl
after-quiet mode key old (events.Ignored reason) = refl

pub held-quiet : (mode : Mode) (key : RouteKey) (old : Option Held) (said : List Event) → fold (held_after mode key) old (map quiet said) ≡ fold (held_after mode key) old said
held-quiet mode key old [] = refl
held-quiet mode key old (event ∷ later) =
    ap (λ (o : Option Held). fold (held_after mode key) o (map quiet later)) (after-quiet mode key old event) ∙ held-quiet mode key (held_after mode key old event) later

-- ---- in mode Plain only routes are held

one_of : (b : Bool) (new old : Option Held) → IfSome new IsRoute → IfSome old IsRoute → IfSome (cond b new old) IsRoute
one_of true new old is_new is_old = is_new
one_of false new old is_new is_old = is_old

after-plain : (key : RouteKey) (old : Option Held) (event : Event) → IfSome old IsRoute → IfSome (held_after modes.Plain key old event) IsRoute
after-plain key old (events.Announce other ann) is = one_of (same_key other key) (Some (helds.Route ann)) old tt is
after-plain key old (events.Retract other) is = one_of (same_key other key) None old tt is
after-plain key old events.RetractAll is = one_of (is_none old) None None tt tt
after-plain key old events.Nothing is = is
after-plain key old (events.Ignored reason) is = is

pub plain_held : (key : RouteKey) (old : Option Held) (said : List Event) → IfSome old IsRoute → IfSome (fold (held_after modes.Plain key) old said) IsRoute
plain_held key old [] is = is
plain_held key old (event ∷ later) is = plain_held key (held_after modes.Plain key old event) later (after-plain key old event is)
