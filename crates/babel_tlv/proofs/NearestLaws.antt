-- What stands before a TLV is what the nearest earlier one set.
use Rattle.std.proofs.Common.{inl, inr, ◌≡◌, List, [], ◌∷◌, ◌++◌, Option, Some, None, refl, sym, ap, subst}
use Rattle.std.specs.Prelude.{ℕ}
use Rattle.std.specs.Option.{option_or}
use Rattle.std.proofs.lemmas.List.{append-nil}
use Rattle.babel_prefix.specs.declared.family.Family.{Family}
use Rattle.babel_prefix.specs.declared.family.Family.TheVariants.{V4, V6}
use Rattle.babel_prefix.specs.Address.{Address}
use Rattle.babel_tlv.specs.declared.prefix_encoding.PrefixEncoding.{PrefixEncoding}
use Rattle.babel_tlv.specs.declared.prefix_encoding.PrefixEncoding.TheVariants.{Ipv4, Ipv6, Ipv4ViaIpv6}
use Rattle.babel_tlv.specs.Framing.{TlvAt}
use Rattle.babel_tlv.specs.Context.{context_after, given_default, given_next_hop, given_router_id, of_family}
use Rattle.babel_tlv.specs.Kept.{kept_for, prefix_for}
use Rattle.babel_tlv.specs.Nearest.{SetsNone, IsNearest, DefaultIsNearest, NextHopIsNearest, RouterIdIsNearest}

module _ (X : Type 0) (sets : List TlvAt → TlvAt → Option X) where
  none_of_none : (before : List TlvAt) → SetsNone X sets [] before
  none_of_none before [] tlv back e = absurd cc
  none_of_none before (x ∷ front) tlv back e = absurd cc

  none_on : (tlv : TlvAt) (later before : List TlvAt) → sets (later ++ before) tlv ≡ None → SetsNone X sets later before → SetsNone X sets (tlv ∷ later) before
  none_on tlv later before here none [] other back e =
      let tlvs : tlv ≡ other = cc in
      let backs : later ≡ back = cc in
      subst (λ (t : TlvAt). sets (back ++ before) t ≡ None) tlvs (subst (λ (b : List TlvAt). sets (b ++ before) tlv ≡ None) backs here)
  none_on tlv later before here none (x ∷ front) other back e = none front other back cc

  on_by : (begins stands : Option X) (tlv : TlvAt) (earlier : List TlvAt) → IsNearest X sets begins earlier stands → (here : Option X) → sets earlier tlv ≡ here
      → IsNearest X sets begins (tlv ∷ earlier) (option_or here stands)
  on_by begins stands tlv earlier nearest (Some value) is =
      inl (value, record { later = []; tlv = tlv; before = earlier; whole = refl; sets_it = is; none_later = none_of_none (tlv ∷ earlier) }, refl)
  on_by begins stands tlv earlier (inl (value, set, stands_is)) None is =
      inl (
        value,
        record {
          later = tlv ∷ set.later;
          tlv = set.tlv;
          before = set.before;
          whole = ap (λ (l : List TlvAt). tlv ∷ l) set.whole;
          sets_it = set.sets_it;
          none_later = none_on tlv set.later (set.tlv ∷ set.before) (subst (λ (l : List TlvAt). sets l tlv ≡ None) set.whole is) set.none_later;
        },
        stands_is,
      )
  on_by begins stands tlv earlier (inr (none, stands_is)) None is =
      inr (none_on tlv earlier [] (subst (λ (l : List TlvAt). sets l tlv ≡ None) (sym (append-nil earlier)) is) none, stands_is)

  -- what is looked for TLV by TLV is what the nearest one sets
  nearest : (begins : Option X) (stands : List TlvAt → Option X) → stands [] ≡ begins
      → ((tlv : TlvAt) (earlier : List TlvAt) → stands (tlv ∷ earlier) ≡ option_or (sets earlier tlv) (stands earlier))
      → (earlier : List TlvAt) → IsNearest X sets begins earlier (stands earlier)
  nearest begins stands at_first on [] = inr (none_of_none [], at_first)
  nearest begins stands at_first on (tlv ∷ earlier) =
      subst (IsNearest X sets begins (tlv ∷ earlier)) (sym (on tlv earlier))
      (on_by begins (stands earlier) tlv earlier (nearest begins stands at_first on earlier) (sets earlier tlv) refl)

pub default_is_nearest : DefaultIsNearest
default_is_nearest start encoding = nearest Address (λ before tlv. given_default (context_after start before) encoding tlv) None
    (λ earlier. prefix_for encoding (context_after start earlier).defaults) (first encoding) (on encoding)
  where
    first : (encoding : PrefixEncoding) → prefix_for encoding (context_after start []).defaults ≡ None
    first Ipv4 = refl
    first Ipv6 = refl
    first Ipv4ViaIpv6 = refl

    on : (encoding : PrefixEncoding) (tlv : TlvAt) (earlier : List TlvAt) → prefix_for encoding (context_after start (tlv ∷ earlier)).defaults
        ≡ option_or (given_default (context_after start earlier) encoding tlv) (prefix_for encoding (context_after start earlier).defaults)
    on Ipv4 tlv earlier = refl
    on Ipv6 tlv earlier = refl
    on Ipv4ViaIpv6 tlv earlier = refl

pub next_hop_is_nearest : NextHopIsNearest
next_hop_is_nearest start family = nearest Address (λ before tlv. given_next_hop family tlv) (of_family family start.sender)
    (λ earlier. kept_for family (context_after start earlier).next_hops) (first family) (on family)
  where
    first : (family : Family) → kept_for family (context_after start []).next_hops ≡ of_family family start.sender
    first V4 = refl
    first V6 = refl

    on : (family : Family) (tlv : TlvAt) (earlier : List TlvAt) → kept_for family (context_after start (tlv ∷ earlier)).next_hops
        ≡ option_or (given_next_hop family tlv) (kept_for family (context_after start earlier).next_hops)
    on V4 tlv earlier = refl
    on V6 tlv earlier = refl

pub ruleset of_a_family = (default_is_nearest, next_hop_is_nearest)

pub router_id_is_nearest : RouterIdIsNearest
router_id_is_nearest start = nearest (List ℕ) (λ before tlv. given_router_id (context_after start before) tlv) None
    (λ earlier. (context_after start earlier).router_id) refl (λ tlv earlier. refl)
