-- The encodings in which Updates have prefixes: by their numbers, and for pairs.
use Rattle.std.proofs.Common.{inl, inr, ◌≡◌, ℕ, Bool, true, false, cond, eqb, ltb, ◌||◌, Option, Some, None, refl, subst}
use Rattle.std.specs.Prelude.{◌&&◌, IfSome}
use Rattle.std.proofs.lemmas.Bool.{eqb-true}
use Rattle.babel_prefix.specs.declared.family.Family.{Family}
use Rattle.babel_prefix.specs.declared.family.Family.TheVariants.{V4, V6}
use Rattle.babel_tlv.specs.declared.held.Held.{Held}
use Rattle.babel_tlv.specs.declared.held.Held.TheVariants as helds
use Rattle.babel_tlv.specs.declared.prefix_encoding.PrefixEncoding.{PrefixEncoding}
use Rattle.babel_tlv.specs.declared.prefix_encoding.PrefixEncoding.TheVariants.{Ipv4, Ipv6, Ipv4ViaIpv6}
use Rattle.babel_tlv.specs.Encodings.{encoding_of, hop_family, number_of, prefix_family}
use Rattle.babel_tlv.specs.Pairs.{HopFits, IsHopFor}
use Rattle.babel_tlv.specs.Route.{Announcement, RouteKey}
use Rattle.babel_tlv.specs.Group.{encoding_for}

-- ---- numbers

abbrev pub is_read : Bool → PrefixEncoding → Bool
is_read via_v6 encoding = ltb (number_of encoding) 4 || via_v6

-- what a number names has this number, and is read
abbrev Names : Bool → ℕ → Option PrefixEncoding → Type 0
Names via_v6 n found = IfSome found (λ encoding. (n ≡ number_of encoding) × (is_read via_v6 encoding ≡ true))

names_by : (via_v6 : Bool) (n : ℕ) (a b c : Bool) → eqb n 1 ≡ a → eqb n 2 ≡ b → eqb n 4 ≡ c
    → Names via_v6 n (cond (a && true) (Some Ipv4) (cond (b && true) (Some Ipv6) (cond (c && via_v6) (Some Ipv4ViaIpv6) None)))
names_by via_v6 n true b c one two four = (eqb-true n 1 one, refl)
names_by via_v6 n false true c one two four = (eqb-true n 2 two, refl)
names_by true n false false true one two four = (eqb-true n 4 four, refl)
names_by false n false false true one two four = tt
names_by via_v6 n false false false one two four = tt

pub named : (via_v6 : Bool) (n : ℕ) (encoding : PrefixEncoding) → encoding_of via_v6 n ≡ Some encoding → (n ≡ number_of encoding) × (is_read via_v6 encoding ≡ true)
named via_v6 n encoding is = subst (Names via_v6 n) is (names_by via_v6 n (eqb n 1) (eqb n 2) (eqb n 4) refl refl refl)

pub named-some : (via_v6 : Bool) (n : ℕ) (encoding : PrefixEncoding) → encoding_of via_v6 n ≡ Some encoding → eqb n 0 ≡ false
named-some via_v6 n encoding is = some encoding (named via_v6 n encoding is).0
  where
    some : (encoding : PrefixEncoding) → n ≡ number_of encoding → eqb n 0 ≡ false
    some Ipv4 number = rw number refl
    some Ipv6 number = rw number refl
    some Ipv4ViaIpv6 number = rw number refl

-- an encoding that is read is named by its number
pub encoding_of-read : (via_v6 : Bool) (encoding : PrefixEncoding) → is_read via_v6 encoding ≡ true → encoding_of via_v6 (number_of encoding) ≡ Some encoding
encoding_of-read via_v6 Ipv4 read = refl
encoding_of-read via_v6 Ipv6 read = refl
encoding_of-read via_v6 Ipv4ViaIpv6 read = rw read refl

-- ---- families

-- a route's next hop is of the family that its encoding asks for
pub hop_for : (via_v6 : Bool) (encoding : PrefixEncoding) → is_read via_v6 encoding ≡ true → IsHopFor via_v6 (prefix_family encoding) (hop_family encoding)
hop_for via_v6 Ipv4 read = inl refl
hop_for via_v6 Ipv6 read = inl refl
hop_for via_v6 Ipv4ViaIpv6 read = inr (read, refl, refl)

-- ---- the encoding of a pair

pub prefix_family-for : (family : Family) (held : Held) → prefix_family (encoding_for family held) ≡ family
prefix_family-for V6 held = refl
prefix_family-for V4 helds.Unreachable = refl
prefix_family-for V4 (helds.Route ann) = by ann.next_hop.family refl
  where
    by : (hop : Family) → ann.next_hop.family ≡ hop → prefix_family (encoding_for V4 (helds.Route ann)) ≡ V4
    by V4 is = rw is refl
    by V6 is = rw is refl

pub hop_family-for : (family : Family) (ann : Announcement) → IsHopFor true family ann.next_hop.family → ann.next_hop.family ≡ hop_family (encoding_for family (helds.Route ann))
hop_family-for V6 ann (inl same) = same
hop_family-for V6 ann (inr (read, v4, v6)) = v6
hop_family-for V4 ann fits = by ann.next_hop.family refl
  where
    by : (hop : Family) → ann.next_hop.family ≡ hop → ann.next_hop.family ≡ hop_family (encoding_for V4 (helds.Route ann))
    by V4 is = rw is refl
    by V6 is = rw is refl

pub read-for : (via_v6 : Bool) (key : RouteKey) (held : Held) → HopFits via_v6 key held → is_read via_v6 (encoding_for key.dst.address.family held) ≡ true
read-for via_v6 key held fits = by_family key.dst.address.family held refl fits
  where
    by_hop : (ann : Announcement) (hop : Family) → ann.next_hop.family ≡ hop → IsHopFor via_v6 V4 hop → is_read via_v6 (encoding_for V4 (helds.Route ann)) ≡ true
    by_hop ann V4 is fits = rw is refl
    by_hop ann V6 is (inl same) = absurd cc
    by_hop ann V6 is (inr (read, v4, v6)) = rw is read

    by_family : (family : Family) (held : Held) → key.dst.address.family ≡ family → HopFits via_v6 key held → is_read via_v6 (encoding_for family held) ≡ true
    by_family V6 held is fits = refl
    by_family V4 helds.Unreachable is fits = refl
    by_family V4 (helds.Route ann) is fits = by_hop ann ann.next_hop.family refl (subst (λ (f : Family). IsHopFor via_v6 f ann.next_hop.family) is fits)
