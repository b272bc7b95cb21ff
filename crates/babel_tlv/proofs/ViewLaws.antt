-- What a view sees tells what is the same under it.
use Rattle.std.proofs.Common.{inl, ◌≡◌, ◌≢◌, ℕ, ◌<◌, ◌^◌, Bool, true, false, List, length, refl, ap, ◌∙◌, arith, rules}
use Rattle.std.specs.Prelude.{if◌then◌else◌, slice_index, IsFalse}
use Rattle.babel_prefix.specs.Address.{Address, IsAddress}
use Rattle.babel_tlv.specs.declared.held.Held.{Held}
use Rattle.babel_tlv.specs.declared.held.Held.TheVariants as helds
use Rattle.babel_tlv.specs.declared.view.View.{View}
use Rattle.babel_tlv.specs.Keys.{IsAnnouncement}
use Rattle.babel_tlv.specs.Route.{Announcement, is_reserved}
use Rattle.babel_tlv.specs.Views.{AgreeUnder, seen, seen_announcement, stated_id, no_address}
use Rattle.babel_tlv.specs.ViewsTell.{SeenTellsApart, AllIsSeen, SeenTwiceIsSeen, SeenFits, SeenHopFits}
use Rattle.babel_tlv.specs.Pairs.{IsHopFor}
use Rattle.babel_prefix.specs.declared.family.Family.{Family}

abbrev held_of : List ℕ → ℕ → ℕ → Address → Held
held_of router_id seqno metric next_hop =
    helds.Route (record { router_id = router_id; seqno = seqno; metric = metric; next_hop = next_hop })

-- equal fields make equal values
same_held : (i j : List ℕ) (s t m n : ℕ) (a b : Address) → i ≡ j → s ≡ t → m ≡ n → a ≡ b
    → held_of i s m a ≡ held_of j t n b
same_held i j s t m n a b e f g h =
    ap (λ (x : List ℕ). held_of x s m a) e ∙ ap (λ (x : ℕ). held_of j x m a) f
    ∙ ap (λ (x : ℕ). held_of j t x a) g ∙ ap (λ (x : Address). held_of j t n x) h

-- ---- a field, kept or ignored

kept_same : {A : Type 0} → (b : Bool) (x y s t : A) → s ≡ t → (b ≡ true → x ≡ y) → (if b then x else s) ≡ (if b then y else t)
kept_same true x y s t stated kept = kept refl
kept_same false x y s t stated kept = stated

same_kept : {A : Type 0} → (b : Bool) (x y s t : A) → (if b then x else s) ≡ (if b then y else t) → b ≡ true → x ≡ y
same_kept true x y s t same is = same
same_kept false x y s t same is = absurd cc

twice : {A : Type 0} → (b : Bool) (x s : A) → (if b then (if b then x else s) else s) ≡ (if b then x else s)
twice true x s = refl
twice false x s = refl

both_fit : {A : Type 0} → (P : A → Type 0) (b : Bool) (x s : A) → P x → P s → P (if b then x else s)
both_fit P true x s is stated = is
both_fit P false x s is stated = stated

-- ---- the laws

pub all_is_seen : AllIsSeen
all_is_seen family (helds.Route ann) = refl
all_is_seen family helds.Unreachable = refl

pub seen_twice_is_seen : SeenTwiceIsSeen
seen_twice_is_seen view family (helds.Route ann) =
    same_held _ _ _ _ _ _ _ _ (twice view.router_id ann.router_id stated_id) (twice view.seqno ann.seqno 0)
    (twice view.metric ann.metric 0) (twice view.next_hop ann.next_hop (no_address family))
seen_twice_is_seen view family helds.Unreachable = refl

seen_fits_route : (view : View) (family : Family) (ann : Announcement) → IsAnnouncement ann → IsAnnouncement (seen_announcement view family ann)
seen_fits_route view family ann is = record {
  eight = both_fit (λ (id : List ℕ). length id ≡ 8) view.router_id ann.router_id stated_id is.eight refl;
  octets = both_fit (λ (id : List ℕ). (i : ℕ) → slice_index id i < 2 ^ 8) view.router_id ann.router_id stated_id is.octets (λ i. search rules);
  unreserved = both_fit (λ (id : List ℕ). IsFalse (is_reserved id)) view.router_id ann.router_id stated_id is.unreserved (search rules);
  seqno_fits = both_fit (λ (n : ℕ). n < 2 ^ 16) view.seqno ann.seqno 0 is.seqno_fits (omega arith);
  metric_fits = both_fit (λ (n : ℕ). n < 2 ^ 16) view.metric ann.metric 0 is.metric_fits (omega arith);
  finite = both_fit (λ (n : ℕ). n ≢ 65535) view.metric ann.metric 0 is.finite (omega arith);
  next_hop_fits = both_fit IsAddress view.next_hop ann.next_hop (no_address family) is.next_hop_fits (search rules);
}

hop_fits : (via_v6 : Bool) (view : View) (family : Family) (ann : Announcement) → IsHopFor via_v6 family ann.next_hop.family
    → IsHopFor via_v6 family (seen_announcement view family ann).next_hop.family
hop_fits via_v6 view family ann fits = both_fit (λ (a : Address). IsHopFor via_v6 family a.family) view.next_hop ann.next_hop (no_address family) fits (inl refl)

pub seen_fits : SeenFits
seen_fits view key (helds.Route ann) fits = (seen_fits_route view key.dst.address.family ann fits.0, hop_fits true view key.dst.address.family ann fits.1)
seen_fits view key helds.Unreachable fits = tt

pub seen_hop_fits : SeenHopFits
seen_hop_fits via_v6 view key (helds.Route ann) fits = hop_fits via_v6 view key.dst.address.family ann fits
seen_hop_fits via_v6 view key helds.Unreachable fits = tt

pub seen_tells_apart : SeenTellsApart
seen_tells_apart view family (helds.Route ann) (helds.Route other) = (seen_equal, equal_seen)
  where
    seen_equal : AgreeUnder view ann other → seen view family (helds.Route ann) ≡ seen view family (helds.Route other)
    seen_equal agree =
        same_held _ _ _ _ _ _ _ _ (kept_same view.router_id ann.router_id other.router_id stated_id stated_id refl agree.router_id)
        (kept_same view.seqno ann.seqno other.seqno 0 0 refl agree.seqno)
        (kept_same view.metric ann.metric other.metric 0 0 refl agree.metric)
        (kept_same view.next_hop ann.next_hop other.next_hop (no_address family) (no_address family) refl agree.next_hop)

    equal_seen : seen view family (helds.Route ann) ≡ seen view family (helds.Route other) → AgreeUnder view ann other
    equal_seen equal =
        let anns : seen_announcement view family ann ≡ seen_announcement view family other = cc in
        record {
          next_hop = same_kept view.next_hop ann.next_hop other.next_hop _ _ (ap (λ (a : Announcement). a.next_hop) anns);
          router_id = same_kept view.router_id ann.router_id other.router_id _ _ (ap (λ (a : Announcement). a.router_id) anns);
          seqno = same_kept view.seqno ann.seqno other.seqno _ _ (ap (λ (a : Announcement). a.seqno) anns);
          metric = same_kept view.metric ann.metric other.metric _ _ (ap (λ (a : Announcement). a.metric) anns);
        }
seen_tells_apart view family (helds.Route ann) helds.Unreachable = ((λ never. absurd never), (λ equal. absurd cc))
seen_tells_apart view family helds.Unreachable (helds.Route other) = ((λ never. absurd never), (λ equal. absurd cc))
seen_tells_apart view family helds.Unreachable helds.Unreachable = ((λ _. refl), (λ _. tt))

-- what the law of views is proved by
pub ruleset views_tell = (seen_tells_apart, all_is_seen, seen_twice_is_seen, seen_fits, seen_hop_fits)
