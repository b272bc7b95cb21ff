-- A text that grows by a pair.
use Rattle.std.proofs.Common.{◌≡◌, ◌≢◌, ℕ, ◌+◌, ◌-◌, ◌<◌, ◌≤◌, List, [], ◌∷◌, ◌++◌, length, take, drop, refl, sym, ap, subst, ◌∙◌, arith, append_assoc, length-drop}
use Rattle.std.proofs.lemmas.List.{length-append, length-take, append-nil, drop_all, take_all, take_at, drop_at}
use Rattle.byteorder.specs.Endian.{big_bytes}
use borrow.Rule.Slice.PartMut.{mid_of, put_mid}
use Rattle.babel_tlv.specs.Framing.{framed}
use Rattle.babel_tlv.specs.Pair.{Pair}
use Rattle.babel_tlv.specs.Group.{group, groups_behind, body_of, route_tlvs, written_id, written_hop, written_dst, update_tlv}
use Rattle.babel_tlv.specs.Encodings.{hop_family}
use Rattle.babel_tlv.specs.Group.{pair_encoding, shared_octets, held_seqno, held_metric, ArePacked, IsCanonicalText}
use Rattle.babel_tlv.specs.Writing.{group_in, written_after, Written}
use Rattle.babel_tlv.proofs.WrittenLaws.{group_in-written_after}
use Rattle.babel_tlv.proofs.TextTold.{packed}
use Rattle.babel_canon.specs.Packing.{headed}
use Rattle.babel_canon.specs.Sizes.{IsBodySize}
use Rattle.babel_canon.specs.Writing.{latest_first, IsTextOf}
use Rattle.babel_canon.specs.declared.text.Text.{Text}
use Rattle.babel_canon.proofs.Groups.{latest_first-snoc, body-snoc}

-- ---- the body of the last packet

some_octets : (last : List Pair) → length (body_of last) ≡ 0 → last ≡ []
some_octets [] none = refl
some_octets (pair ∷ pairs) none =
    let encoding = pair_encoding pair in
    let route = route_tlvs (written_id []) (written_hop (hop_family encoding) []) pair.1 in
    let update = update_tlv encoding (shared_octets (written_dst encoding []) pair.0.dst) pair.0 (held_seqno pair.1) (held_metric pair.1) in
    absurd (omega (arith, none, length-append (group [] pair) (groups_behind (pair ∷ []) pairs), length-append route update))

-- the body with one pair more
body_more : (last : List Pair) (pair : Pair) (so_far : Written) → so_far ≡ written_after (latest_first [] last) → body_of last ++ group_in so_far pair ≡ body_of (last ++ pair ∷ [])
body_more last pair so_far writing = ap (λ (w : Written). body_of last ++ group_in w pair) writing
    ∙ ap (λ (o : List ℕ). body_of last ++ o) (group_in-written_after (latest_first [] last) pair) ∙ sym (body-snoc last pair)

length_more : (last : List Pair) (pair : Pair) (so_far : Written) → so_far ≡ written_after (latest_first [] last)
    → length (body_of (last ++ pair ∷ [])) ≡ length (body_of last) + length (group_in so_far pair)
length_more last pair so_far writing = sym (ap length (body_more last pair so_far writing)) ∙ length-append (body_of last) (group_in so_far pair)

-- a header says the length of its body
headed-framed : (len : ℕ) (body : List ℕ) → len ≡ length body → headed len body ≡ framed body
headed-framed len body long = ap (λ (n : ℕ). headed n body) long

not_none : (last : List Pair) (pair : Pair) → last ++ pair ∷ [] ≡ [] → ⊥
not_none [] pair e = cc
not_none (first ∷ last) pair e = cc

-- ---- one pair more

-- a group put behind a header and a body
abbrev pub Appended : Text → Text → List ℕ → Type 0
Appended old new group =
    (front body : List ℕ) → length front ≡ old.at → old.octets.items ≡ front ++ headed old.len body → new.octets.items ≡ front ++ headed new.len (body ++ group)

module _ (body : ℕ) (pairs : List Pair) (pair : Pair) where
  -- in the last packet
  pub in_last : (old new : Text) (so_far : Written) → IsTextOf body old pairs → so_far ≡ old.writing → new.body ≡ old.body → new.at ≡ old.at → new.len ≡ old.len + length (group_in so_far pair)
      → ((earlier : List Pair) → so_far ≡ written_after earlier → new.writing ≡ written_after (pair ∷ earlier))
      → Appended old new (group_in so_far pair) → old.len + length (group_in so_far pair) ≤ body
      → IsTextOf body new (pairs ++ pair ∷ [])
  in_last old new so_far text so_far_is same_body same_at longer after octets room =
      let last = text.last in
      let writing : so_far ≡ written_after (latest_first [] last) = so_far_is ∙ text.writing in
      let len : length (body_of (last ++ pair ∷ [])) ≡ length (body_of last) + length (group_in so_far pair) = length_more last pair so_far writing in
      let long : new.len ≡ length (body_of (last ++ pair ∷ [])) = omega (arith, len, text.long, longer) in
      record {
        front = text.front;
        last = last ++ pair ∷ [];
        limit = same_body ∙ text.limit;
        octets = octets text.front (body_of last) (sym text.at) (text.octets ∙ ap (λ (o : List ℕ). text.front ++ o) (sym (headed-framed old.len (body_of last) text.long)))
            ∙ ap (λ (o : List ℕ). text.front ++ headed new.len o) (body_more last pair so_far writing)
            ∙ ap (λ (o : List ℕ). text.front ++ o) (headed-framed new.len (body_of (last ++ pair ∷ [])) long);
        at = same_at ∙ text.at;
        long = long;
        fits = omega (arith, len, text.long, room);
        writing = after (latest_first [] last) writing ∙ ap written_after (sym (latest_first-snoc [] last pair));
        none = λ e. absurd (not_none last pair e);
        goes_on = λ more packets packs.
            subst (λ (ps : List Pair). IsCanonicalText body ps (text.front ++ packed packets)) (sym (append_assoc pairs (pair ∷ []) more))
            (text.goes_on (pair ∷ more) packets (subst (λ (ps : List Pair). ArePacked body ps packets) (append_assoc last (pair ∷ []) more) packs));
      }

  -- in a new packet
  pub in_next : (old begun new : Text) (so_far : Written) → IsBodySize body → IsTextOf body old pairs
      → so_far ≡ old.writing → body < old.len + length (group_in so_far pair) → length (group_in so_far pair) ≤ 96
      → begun.octets.items ≡ old.octets.items ++ headed 0 [] → begun.at ≡ length old.octets.items → begun.len ≡ 0 → begun.body ≡ old.body
      → new.body ≡ begun.body → new.at ≡ begun.at → new.len ≡ begun.len + length (group_in (written_after []) pair) → new.writing ≡ written_after (pair ∷ [])
      → Appended begun new (group_in (written_after []) pair) → length (group_in (written_after []) pair) ≤ 96 → IsTextOf body new (pairs ++ pair ∷ [])
  in_next old begun new so_far size text so_far_is past few begun_octets begun_at begun_len begun_body same_body same_at longer writing octets few_more =
      let last = text.last in
      let len : length (body_of (last ++ pair ∷ [])) ≡ length (body_of last) + length (group_in so_far pair) = length_more last pair so_far (so_far_is ∙ text.writing) in
      let full : body < length (body_of (last ++ pair ∷ [])) = omega (arith, len, text.long, past) in
      let some : last ≢ [] = λ e. let none : length (body_of last) ≡ 0 = ap (λ (ps : List Pair). length (body_of ps)) e in omega (arith, none, text.long, past, few, size.room) in
      let alone : group_in (written_after []) pair ≡ body_of (pair ∷ []) = body_more [] pair (written_after []) refl in
      let long : new.len ≡ length (body_of (pair ∷ [])) = omega (arith, longer, begun_len, ap length alone) in
      record {
        front = old.octets.items;
        last = pair ∷ [];
        limit = same_body ∙ begun_body ∙ text.limit;
        octets = octets old.octets.items [] (sym begun_at) (begun_octets ∙ ap (λ (n : ℕ). old.octets.items ++ headed n []) (sym begun_len))
            ∙ ap (λ (o : List ℕ). old.octets.items ++ headed new.len o) alone
            ∙ ap (λ (o : List ℕ). old.octets.items ++ o) (headed-framed new.len (body_of (pair ∷ [])) long);
        at = same_at ∙ begun_at;
        long = long;
        fits = omega (arith, ap length alone, few_more, size.room);
        writing = writing;
        none = λ e. absurd (not_none [] pair e);
        goes_on = λ more packets packs.
            subst (λ (ps : List Pair). IsCanonicalText body ps (old.octets.items ++ packed packets)) (sym (append_assoc pairs (pair ∷ []) more))
            (subst (λ (o : List ℕ). IsCanonicalText body (pairs ++ pair ∷ more) o)
            (sym (append_assoc text.front (framed (body_of last)) (packed packets)) ∙ ap (λ (o : List ℕ). o ++ packed packets) (sym text.octets))
            (text.goes_on (pair ∷ more) (last ∷ packets) (pair ∷ more, refl, some, text.fits, full, packs)));
      }

-- ---- all pairs

-- a text with no octet in its last packet is that of no pair
pub text_none : (body : ℕ) (text : Text) (pairs : List Pair) → IsTextOf body text pairs → text.len ≡ 0 → IsCanonicalText body pairs []
text_none body text pairs is none =
    let empty = is.none (some_octets is.last (sym is.long ∙ none)) in
    subst (λ (ps : List Pair). IsCanonicalText body ps []) (sym empty.1) ([], refl, refl)

pub text_whole : (body : ℕ) (text : Text) (pairs : List Pair) → IsTextOf body text pairs → text.len ≢ 0 → IsCanonicalText body pairs text.octets.items
text_whole body text pairs is some =
    let last = is.last in
    let not_empty : last ≢ [] = λ e. some (is.long ∙ ap (λ (ps : List Pair). length (body_of ps)) e) in
    subst (λ (ps : List Pair). IsCanonicalText body ps text.octets.items) (append-nil pairs)
    (subst (λ (o : List ℕ). IsCanonicalText body (pairs ++ []) o) (ap (λ (o : List ℕ). is.front ++ o) (append-nil (framed (body_of last))) ∙ sym is.octets)
    (is.goes_on [] (last ∷ []) ([], refl, not_empty, is.fits, tt, refl)))

-- ---- the length in a header

module _ (at len earlier : ℕ) (front body whole part : List ℕ) where
  -- the two octets of the length, put where a header has two others
  length_put : length front ≡ at → whole ≡ front ++ headed earlier body → part ≡ big_bytes 2 len ++ drop 2 (mid_of (at + 2) (length whole - (at + 2)) whole)
      → put_mid (at + 2) (length whole - (at + 2)) whole part ≡ front ++ headed len body
  length_put here is written =
      let before : List ℕ = front ++ 42 ∷ 2 ∷ [] in
      let behind : List ℕ = big_bytes 2 earlier ++ body in
      let split : whole ≡ before ++ behind = is ∙ sym (append_assoc front (42 ∷ 2 ∷ []) behind) in
      let long : length before ≡ at + 2 = omega (arith, here, length-append front (42 ∷ 2 ∷ [])) in
      let size : length whole - (at + 2) ≡ length behind = omega (arith, long, ap length split, length-append before behind) in
      let first : take (at + 2) whole ≡ before = ap (take (at + 2)) split ∙ take_at before behind (at + 2) long in
      let last : drop (at + 2) whole ≡ behind = ap (drop (at + 2)) split ∙ drop_at before behind (at + 2) long in
      let mid : mid_of (at + 2) (length whole - (at + 2)) whole ≡ behind = ap (take (length whole - (at + 2))) last ∙ take_all (length whole - (at + 2)) behind (omega (arith, size)) in
      let post : drop (length whole - (at + 2)) (drop (at + 2) whole) ≡ [] = ap (drop (length whole - (at + 2))) last ∙ drop_all (length whole - (at + 2)) behind (omega (arith, size)) in
      let octets : part ≡ big_bytes 2 len ++ body = written ∙ ap (λ (t : List ℕ). big_bytes 2 len ++ drop 2 t) mid in
      ap (λ (t : List ℕ). t ++ (part ++ drop (length whole - (at + 2)) (drop (at + 2) whole))) first
      ∙ ap (λ (t : List ℕ). before ++ (part ++ t)) post
      ∙ ap (λ (t : List ℕ). before ++ t) (append-nil part ∙ octets)
      ∙ append_assoc front (42 ∷ 2 ∷ []) (big_bytes 2 len ++ body)

pub length_written : (at len total earlier : ℕ) (front body items whole part : List ℕ) → length front ≡ at → items ≡ front ++ headed earlier body → whole ≡ items → total ≡ length items
    → part ≡ big_bytes 2 len ++ drop 2 (mid_of (at + 2) (length whole - (at + 2)) whole)
    → take total (put_mid (at + 2) (length whole - (at + 2)) whole part ++ drop (length (put_mid (at + 2) (length whole - (at + 2)) whole part)) items) ≡ front ++ headed len body
length_written at len total earlier front body items whole part here is same long written =
    let put : put_mid (at + 2) (length whole - (at + 2)) whole part ≡ front ++ headed len body = length_put at len earlier front body whole part here (same ∙ is) written in
    take_at (put_mid (at + 2) (length whole - (at + 2)) whole part) _ total
    (ap length put ∙ length-append front (headed len body) ∙ sym (long ∙ ap length is ∙ length-append front (headed earlier body))) ∙ put

-- and the text is as long as before
pub length_kept : (at len total : ℕ) (items whole part : List ℕ) → at + 4 ≤ length items → whole ≡ items → total ≡ length items
    → part ≡ big_bytes 2 len ++ drop 2 (mid_of (at + 2) (length whole - (at + 2)) whole)
    → length (take total (put_mid (at + 2) (length whole - (at + 2)) whole part ++ drop (length (put_mid (at + 2) (length whole - (at + 2)) whole part)) items)) ≡ length items
length_kept at len total items whole part placed same long written =
    let n = length whole - (at + 2) in
    let mid = mid_of (at + 2) n whole in
    let behind = drop n (drop (at + 2) whole) in
    let put = put_mid (at + 2) n whole part in
    let whole_len : length whole ≡ length items = ap length same in
    let part_is : length part ≡ length (big_bytes 2 len ++ drop 2 mid) = ap length written in
    let part_len : length part ≡ 2 + length (drop 2 mid) = omega (arith, part_is) in
    let put_len : length put ≡ length (take (at + 2) whole) + (length part + length behind) =
    length-append (take (at + 2) whole) (part ++ behind) ∙ ap (λ (k : ℕ). length (take (at + 2) whole) + k) (length-append part behind) in
    omega (
      arith,
      placed,
      long,
      whole_len,
      part_len,
      put_len,
      length-take total (put ++ drop (length put) items),
      length-append put (drop (length put) items),
      length-drop 2 mid,
      length-take n (drop (at + 2) whole),
      length-drop (at + 2) whole,
      length-drop n (drop (at + 2) whole),
      length-take (at + 2) whole,
      length-drop (length put) items,
    )
