-- Packets, each with its time, have one table at a moment.
use Rattle.std.proofs.Common.{◌≡◌, ℕ, ◌+◌, List, [], ◌∷◌, ◌++◌, length, map, refl, sym, ap, subst, ◌∙◌, append-nil, arith, inl, Option, None, Some}
use Rattle.std.specs.List.{Contains, flat_map}
use Rattle.std.specs.Map.{keys_of}
use Rattle.std.proofs.lemmas.Cmp.{eq_by_cmp_equiv}
use Rattle.std.proofs.lemmas.Map.Keys.{IsDistinct-from_sorted}
use Rattle.std.proofs.lemmas.Map.Views.{Contains-from_lookup, lookup-from_Contains}
use Rattle.babel_prefix.specs.Address.{Address}
use Rattle.babel_tlv.proofs.OrderLaws.{key_total}
use Rattle.babel_tlv.specs.Framing.{ArePackets, TlvAt, packet_octets}
use Rattle.babel_tlv.specs.Route.{RouteKey}
use Rattle.babel_tlv.specs.Keys.{key_cmp}
use Rattle.babel_tlv.specs.declared.held.Held.{Held}
use Rattle.babel_tlv.specs.declared.mode.Mode.{Mode}
use Rattle.babel_table.proofs.FineLaws.{routes}
use Rattle.babel_table.proofs.HoldsLaws.{same-is}
use Rattle.babel_table.proofs.OutcomeLaws.{table_is_one}
use Rattle.babel_table.proofs.ReadingLaws.{packets_one, partial-stuck, placed-drop}
use Rattle.babel_table.proofs.SaidLaws.{found, same_entries}
use Rattle.babel_table.specs.Bounds.{Bounds, start_of}
use Rattle.babel_table.specs.Counts.{Counts}
use Rattle.babel_table.specs.Moments.{AreRowsAt, Heard, IsTableAt, octets_heard, told_of}
use Rattle.babel_table.specs.Rows.{IsRising, Routes}

placed_first : (at : ℕ) (a b : List (List TlvAt)) → ArePackets at (a ++ b) → ArePackets at a
placed_first at [] b placed = tt
placed_first at (tlvs ∷ a) b placed = (placed.0, placed.1, placed_first (at + length (packet_octets tlvs)) a b placed.2)

-- octets are whole packets in one way, wherever they begin
packets_same : (at : ℕ) (packets others : List (List TlvAt)) → ArePackets at packets → ArePackets at others → flat_map packet_octets packets ≡ flat_map packet_octets others → packets ≡ others
packets_same at packets others placed placed_too same =
    let on = packets_one at (at + length (flat_map packet_octets packets)) packets others [] [] refl placed placed_too (partial-stuck _ [] (inl (omega arith))) (ap (λ (t : List ℕ). t ++ []) same) in
    by on.0 on.1 on.2
  where
    by : (more : List (List TlvAt)) → packets ≡ others ++ more → [] ≡ flat_map packet_octets more ++ [] → packets ≡ others
    by [] is none = is ∙ append-nil others
    by (tlvs ∷ more) is none = absurd cc

-- so what came at a time is known of its octets
heard_one : (at : ℕ) (all others : List Heard) → ArePackets at (flat_map (λ heard. heard.packets) all) → ArePackets at (flat_map (λ heard. heard.packets) others)
    → map octets_heard all ≡ map octets_heard others → all ≡ others
heard_one at [] [] placed placed_too same = refl
heard_one at [] (other ∷ others) placed placed_too same = absurd cc
heard_one at (one ∷ all) [] placed placed_too same = absurd cc
heard_one at (one ∷ all) (other ∷ others) placed placed_too same =
    let first : octets_heard one ≡ octets_heard other = cc in
    let later : map octets_heard all ≡ map octets_heard others = cc in
    let times : one.time ≡ other.time = ap (λ (piece : ℕ × List ℕ). piece.0) first in
    let packets : one.packets ≡ other.packets =
    packets_same at one.packets other.packets (placed_first at one.packets _ placed) (placed_first at other.packets _ placed_too) (ap (λ (piece : ℕ × List ℕ). piece.1) first) in
    let here : one ≡ other = one_heard times packets in
    let place = at + length (flat_map packet_octets one.packets) in
    let next : all ≡ others = heard_one place all others (placed-drop at one.packets _ placed)
    (subst (λ (ps : List (List TlvAt)). ArePackets (at + length (flat_map packet_octets ps)) (flat_map (λ heard. heard.packets) others)) (sym packets)
    (placed-drop at other.packets _ placed_too)) later in
    ap (λ (h : Heard). h ∷ all) here ∙ ap (λ (hs : List Heard). other ∷ hs) next
  where
    one_heard : {one other : Heard} → one.time ≡ other.time → one.packets ≡ other.packets → one ≡ other
    one_heard {one} {other} times packets =
        ap (λ (t : ℕ). let h : Heard = record { time = t; packets = one.packets } in h) times ∙ ap (λ (ps : List (List TlvAt)). let h : Heard = record { time = other.time; packets = ps } in h) packets

-- rows in order that list the same are one
listed_at : (rows : List (RouteKey × Held)) (key : RouteKey) (held : Held) → found key rows ≡ Some held → Contains rows (key, held)
listed_at rows key held is = Contains-from_lookup same-is key held rows is

found_at : (rows : List (RouteKey × Held)) (key : RouteKey) (held : Held) → IsRising rows → Contains rows (key, held) → found key rows ≡ Some held
found_at rows key held rising at = lookup-from_Contains (eq_by_cmp_equiv key_total) key held rows (IsDistinct-from_sorted key_cmp (keys_of rows) rising) at

rows_one : (one other : List (RouteKey × Held)) → IsRising one → IsRising other → ((key : RouteKey) (held : Held) → Contains one (key, held) → Contains other (key, held))
    → ((key : RouteKey) (held : Held) → Contains other (key, held) → Contains one (key, held)) → one ≡ other
rows_one one other up down to from = same_entries one other up down (λ key. by key (found key one) refl (found key other) refl)
  where
    by : (key : RouteKey) (a : Option Held) → found key one ≡ a → (b : Option Held) → found key other ≡ b → found key one ≡ found key other
    by key (Some held) is b is_too = is ∙ sym (found_at other key held down (to key held (listed_at one key held is)))
    by key None is None is_too = is ∙ sym is_too
    by key None is (Some held) is_too = found_at one key held up (from key held (listed_at other key held is_too)) ∙ sym is_too

pub table_at_is_one : (limits : Bounds) (mode : Mode) (sender : Address) (given : List (ℕ × List ℕ)) (factor moment : ℕ) (table other : Routes)
    → IsTableAt limits mode sender given factor moment table → IsTableAt limits mode sender given factor moment other → table ≡ other
table_at_is_one limits mode sender given factor moment table other is is_too =
    let all : is_too.all ≡ is.all = heard_one 0 is_too.all is.all is_too.heard.placed is.heard.placed (sym is_too.heard.octets ∙ is.heard.octets) in
    let rows_too : AreRowsAt mode factor moment (told_of (start_of limits sender) is.all) other.rows =
    subst (λ (hs : List Heard). AreRowsAt mode factor moment (told_of (start_of limits sender) hs) other.rows) all is_too.rows in
    let rows : table.rows ≡ other.rows =
    rows_one table.rows other.rows is.rows.rising rows_too.rising (λ key held at. rows_too.all key held (is.rows.held key held at)) (λ key held at. is.rows.all key held (rows_too.held key held at)) in
    let report : table.report ≡ other.report = is.report ∙ ap (λ (t : Routes). t.report) (table_is_one limits mode sender _ is.whole is_too.whole is.is_whole is_too.is_whole) ∙ sym is_too.report in
    ap (λ rows. routes rows table.report) rows ∙ ap (λ (counts : Counts). routes other.rows counts) report
