-- The last row from the source to the last destination is the best match; where there is none, the rows around that destination are next.
use Rattle.std.proofs.Common.{◌≡◌, ◌-◌, ◌<◌, true, get_or, length, sym, ◌∙◌, ap, subst, arith}
use Rattle.std.specs.List.{HoldsAt}
use Rattle.std.specs.Map.{keys_of}
use Rattle.std.specs.Ordering.{is_le}
use Rattle.std.proofs.lemmas.Map.Entries.{length-keys_of}
use Rattle.std.proofs.lemmas.Option.{slice_get-get_or, slice_get_past}
use Rattle.babel_prefix.specs.Address.{AddressPrefix}
use Rattle.babel_prefix.specs.Covers.{Covers}
use Rattle.babel_tlv.specs.Keys.{key_cmp}
use Rattle.babel_tlv.specs.Route.{RouteKey}
use Rattle.babel_table.specs.BestMatch.{ContainsBoth}
use Rattle.babel_table.specs.RowFor.{IsBestOf}
use Rattle.babel_table.specs.Nested.{ArePast, LeadsFrom, LeadsTo}
use Rattle.babel_table.specs.declared.nested_rows.Around.{Around}
use Rattle.babel_table.proofs.EntryLaws.{key_of}
use Rattle.babel_table.proofs.NestedLaws.{best_row, both_from, found_last, from_all, host_of, key_at, next_around, no_match, past_both}
use Rattle.babel_table.proofs.nested_rows.best_place.Goals as goal

pub loop-end-init : goal.loop-end-init
loop-end-init g c =
    let keys = keys_of c.args.rows.now in
    let d = c.args.dst.now in
    let s = c.args.src.now in
    let asked : c.new-asked.result ≡ key_of (host_of d) (host_of s) = c.new-asked.ensures ∙ ap (λ p. key_of p c.host-src.result) c.host.ensures ∙ ap (key_of (host_of d)) c.host-src.ensures in
    let past = subst (ArePast keys c.count_up_to-count.result) asked c.count_up_to-count.ensures.past in
    record {
      within = c.end_to-end.ensures.within;
      last = λ some. subst (λ (k : RouteKey). HoldsAt (LeadsTo k.dst.address) keys (c.end_to-end.result - 1)) asked (c.end_to-end.ensures.last some);
      none =
          both_from keys c.args.around.now c.requires.nested d s c.new-asked.result c.end_to-end.result c.count_up_to-count.result (length keys) asked c.end_to-end.ensures.none
          (past_both keys c.args.around.now c.requires.nested d s c.count_up_to-count.result past);
    }

pub returns-then-last-gt0 : goal.returns-then-last-gt0
returns-then-last-gt0 g c =
    let rows = c.args.rows.now in
    let around = c.args.around.now in
    let keys = keys_of rows in
    let d = c.args.dst.now in
    let s = c.args.src.now in
    let place = c.end_from-last.result - 1 in
    let some : 0 < c.loop-end.end = c.loop-end-test.true in
    let found : 0 < c.end_from-last.result = c.if-last-gt0.true in
    let long = length-keys_of rows in
    let end_in : c.loop-end.end - 1 < length rows = omega (arith, c.loop-end.invariant.within, c.count_up_to-count.ensures.within) in
    let key_in : c.loop-end.end - 1 < length keys = omega (arith, long) in
    let place_in : place < length rows = omega (arith, c.end_from-last.ensures.within, c.count_up_to-sources.ensures.within) in
    let to : AddressPrefix = (get_or rows (c.loop-end.end - 1) c.index-rows-end.result).0.dst in
    let key : c.new-key.result ≡ key_of to (host_of s) = c.new-key.ensures ∙ ap (λ p. key_of p c.host-src.result) c.dst.ensures ∙ ap (key_of to) c.host-src.ensures in
    let at : HoldsAt (λ (k : RouteKey). k.dst ≡ to) keys (c.loop-end.end - 1) = λ e. ap (λ (k : RouteKey). k.dst) (key_at rows (c.loop-end.end - 1) c.index-rows-end.result end_in e) in
    let none = from_all keys around c.requires.nested d s c.new-key.result to c.end_from-last.result c.count_up_to-sources.result key c.end_from-last.ensures.none c.count_up_to-sources.ensures.past in
    let leads : HoldsAt (LeadsFrom to s) keys place =
    subst (λ (k : RouteKey). HoldsAt (LeadsFrom k.dst k.src.address) keys place) key (c.end_from-last.ensures.last (λ e. absurd (omega (arith, e)))) in
    let e = c.index-rows-end.result in
    let here = leads e.0 in
    let covers : Covers to d = subst (λ (p : AddressPrefix). Covers p d) (at e.0) (c.loop-end.invariant.last (λ z. absurd (omega (arith, z))) e.0) in
    let both = subst (ContainsBoth d s) (key_at rows place e place_in e.0) (subst (λ (p : AddressPrefix). Covers p d) (sym here.0) covers, here.1) in
    let after =
    found_last keys around c.requires.nested d s to (c.loop-end.end - 1) at place key_in leads (λ k f low high has. none k f (omega (arith, low)) high has)
    (λ k f low high has. c.loop-end.invariant.none k f (omega (arith, low)) high has) in
    subst (IsBestOf rows d s) (sym (slice_get-get_or rows place e place_in)) (best_row rows around d s place e c.requires.nested place_in both after)

pub end_to-end-requires-in-loop-end-clause-up_to :
    goal.end_to-end-requires-in-loop-end-clause-up_to
end_to-end-requires-in-loop-end-clause-up_to g c k d low high =
    let some : 0 < c.loop-end.end = c.loop-end-test.true in
    let a : Around = record { dst = 0; src = 0 } in
    let inside : c.loop-end.end - 1 < length c.args.around.now = omega (arith, c.requires.whole, c.loop-end.invariant.within, c.count_up_to-count.ensures.within) in
    c.count_up_to-count.ensures.up_to k d low (omega (arith, high, (c.requires.nested.each (c.loop-end.end - 1) inside a).dst_before, c.loop-end.invariant.within))

pub loop-end-preserved : goal.loop-end-preserved
loop-end-preserved g c =
    let rows = c.args.rows.now in
    let around = c.args.around.now in
    let keys = keys_of rows in
    let d = c.args.dst.now in
    let s = c.args.src.now in
    let place = c.loop-end.end - 1 in
    let some : 0 < c.loop-end.end = c.loop-end-test.true in
    let a : Around = record { dst = 0; src = 0 } in
    let row_in : place < length rows = omega (arith, c.loop-end.invariant.within, c.count_up_to-count.ensures.within) in
    let inside : place < length around = omega (arith, c.requires.whole) in
    let before : place < c.count_up_to-count.result = omega (arith, c.loop-end.invariant.within) in
    let dst_before = (c.requires.nested.each place inside a).dst_before in
    let asked : c.new-asked.result ≡ key_of (host_of d) (host_of s) = c.new-asked.ensures ∙ ap (λ p. key_of p c.host-src.result) c.host.ensures ∙ ap (key_of (host_of d)) c.host-src.ensures in
    let to : AddressPrefix = (get_or rows place c.index-rows-end.result).0.dst in
    let key : c.new-key.result ≡ key_of to (host_of s) = c.new-key.ensures ∙ ap (λ p. key_of p c.host-src.result) c.dst.ensures ∙ ap (key_of to) c.host-src.ensures in
    let at : HoldsAt (λ (k : RouteKey). k.dst ≡ to) keys place = λ e. ap (λ (k : RouteKey). k.dst) (key_at rows place c.index-rows-end.result row_in e) in
    let none = from_all keys around c.requires.nested d s c.new-key.result to c.end_from-last.result c.count_up_to-sources.result key c.end_from-last.ensures.none c.count_up_to-sources.ensures.past in
    let below : HoldsAt (λ (k : RouteKey). is_le (key_cmp k (key_of (host_of d) (host_of s))) ≡ true) keys place =
    λ e. subst (λ (k : RouteKey). is_le (key_cmp (get_or keys place e) k) ≡ true) asked (c.count_up_to-count.ensures.up_to place e (omega arith) before) in
    let last = c.end_to-end-in-loop-end.result in
    record {
      within = omega (arith, c.end_to-end-in-loop-end.ensures.within, dst_before, before);
      last = λ one. subst (λ (k : RouteKey). HoldsAt (LeadsTo k.dst.address) keys (last - 1)) asked (c.end_to-end-in-loop-end.ensures.last one);
      none =
          both_from keys around c.requires.nested d s c.new-asked.result last (get_or around place a).dst (length keys) asked c.end_to-end-in-loop-end.ensures.none
          (next_around keys around c.requires.nested d s to place at a inside below (λ k e low high has. none k e (omega (arith, c.if-last-gt0.false)) high has)
          (λ k e low high has. c.loop-end.invariant.none k e (omega (arith, low)) high has));
    }

pub returns : goal.returns
returns g c =
    let rows = c.args.rows.now in
    let none = no_match rows c.args.dst.now c.args.src.now (λ k e low high has. c.loop-end.invariant.none k e (omega (arith, c.loop-end-test.false)) high has) in
    subst (IsBestOf rows c.args.dst.now c.args.src.now) (sym (slice_get_past rows 4294967295 (omega (arith, c.requires.few)))) none
