-- What a dump answers is what its table answers.
use Rattle.std.proofs.Common.{◌≡◌, ◌↔◌, inl, inr, ℕ, List, map, Option, Some, None}
use Rattle.std.proofs.Common.{refl, sym, ap, subst, ◌∙◌, arith, Contains}
use Rattle.std.specs.List.{flat_map}
use Rattle.std.proofs.lemmas.Bool.{cases_lt, cases_order}
use Rattle.std.proofs.lemmas.List.{append-nil}
use Rattle.babel_prefix.specs.declared.family.Family.{Family}
use Rattle.babel_prefix.specs.Width.{width_of}
use Rattle.babel_prefix.specs.Block.{Block}
use Rattle.babel_prefix.specs.Address.{Address, block_of}
use Rattle.babel_prefix.specs.Covers.{BlockCovers}
use Rattle.babel_prefix.specs.Best.{Row}
use Rattle.babel_prefix.specs.BestRow.{AreOfFamily, Matches, IsNoLonger}
use Rattle.babel_prefix.specs.Entries.{answer_for, row_of, rows_in}
use Rattle.babel_prefix.proofs.AnswerLaws.{IsTop, answer-top}
use Rattle.babel_prefix.proofs.EntryLaws.{HasBoth, Listed-map, answer_for-none}
use Rattle.babel_prefix.proofs.Members.{Listed, Listed-from_Contains, Contains-from_Listed}
use Rattle.babel_tlv.specs.declared.event.Event.{Event}
use Rattle.babel_tlv.specs.declared.held.Held.{Held}
use Rattle.babel_tlv.specs.declared.mode.Mode.{Mode}
use Rattle.babel_tlv.specs.Framing.{packet_octets}
use Rattle.babel_tlv.specs.Pair.{Pair}
use Rattle.babel_tlv.specs.Route.{RouteKey}
use Rattle.babel_table.specs.BestMatch.{ContainsBoth, IsBestMatch, IsMoreSpecific}
use Rattle.babel_table.specs.Bounds.{Bounds, start_of}
use Rattle.babel_table.specs.Rows.{Routes, entries_of}
use Rattle.babel_table.specs.TableOf.{IsTableOf}
use Rattle.babel_table.specs.RowFor.{IsBestOf, IsBestRow}
use Rattle.babel_canon.specs.AnswersAreTold.{TableAnswers, AnswerIsOne}
use Rattle.babel_canon.proofs.BestKeys.{best_of, clean_one, key_one}
use Rattle.babel_canon.proofs.Boxes.{FromPair, entry_of, pair_of_row, row_of_pair}
use Rattle.babel_canon.proofs.CleanKeys.{AreClean, held-clean}
use Rattle.babel_canon.proofs.HeldFor.{held_for, held-quiet, IsAnswer}
use Rattle.babel_canon.proofs.Told.{quiet, table-refuses, told-dump, told-table}

-- ---- rows that are held

-- the rows have exactly what is held after the events, for clean keys
record AreHeld (mode : Mode) (said : List Event) (rows : List Pair) : Type 0 where
  held : (key : RouteKey) (held : Held) → Contains rows (key, held)
      → held_for mode said key ≡ Some held
  all : (key : RouteKey) (held : Held) → held_for mode said key ≡ Some held
      → Contains rows (key, held)
  clean : (key : RouteKey) (held : Held) → held_for mode said key ≡ Some held → AreClean key

one_held : (mode : Mode) (said : List Event) (key other : RouteKey) (held its : Held) → key ≡ other
    → held_for mode said key ≡ Some held → held_for mode said other ≡ Some its → held ≡ its
one_held mode said key other held its same e f =
    let both : Some held ≡ Some its = sym e ∙ ap (held_for mode said) same ∙ f in
    cc

-- ---- the most specific row is the answer

module _ (mode : Mode) (said : List Event) (rows : List Pair) (are : AreHeld mode said rows)
    (d s : Address) (one_family : d.family ≡ s.family) where
  matches-from_both : (pair : Pair) → ContainsBoth d s pair.0
      → AreOfFamily d.family (entry_of pair) × Matches (width_of d.family) d.bits s.bits
      (row_of (entry_of pair))
  matches-from_both pair both = (
    (both.0.0, both.1.0 ∙ sym one_family),
    (
      subst (λ (f : Family). BlockCovers (width_of f) (block_of pair.0.dst) d.bits) both.0.0
          both.0.1,
      subst (λ (f : Family). BlockCovers (width_of f) (block_of pair.0.src) s.bits) (both.1.0
          ∙ sym one_family) both.1.1,
    ),
  )

  both-from_matches : (pair : Pair) → AreOfFamily d.family (entry_of pair)
      → Matches (width_of d.family) d.bits s.bits (row_of (entry_of pair)) → ContainsBoth d s pair.0
  both-from_matches pair of m = (
    (
      of.0,
      subst (λ (f : Family). BlockCovers (width_of f) (block_of pair.0.dst) d.bits)
          (sym of.0) m.0,
    ),
    (
      of.1 ∙ one_family,
      subst (λ (f : Family). BlockCovers (width_of f)
          (block_of pair.0.src) s.bits) (sym of.1) m.1,
    ),
  )

  clean_row : (pair : Pair) → Contains rows pair → AreClean pair.0
  clean_row pair c = are.clean pair.0 pair.1 (are.held pair.0 pair.1 c)

  no_longer : (pair best : Pair) → Contains rows pair → Contains rows best → ContainsBoth d s pair.0
      → ContainsBoth d s best.0 → ¬ IsMoreSpecific pair.0 best.0
      → IsNoLonger (row_of (entry_of pair)) (row_of (entry_of best))
  no_longer pair best c best_c both best_both not_more =
      elim (cases_order pair.0.dst.len best.0.dst.len) [
        | inl same ↦ elim (cases_lt best.0.src.len pair.0.src.len) [
          | inl longer ↦ absurd (not_more (inr (same, longer)))
          | inr ge ↦ inr (ap block_of (clean_one pair.0.dst best.0.dst d (clean_row pair c).0 (clean_row best best_c).0 both.0 best_both.0 same), ge)
        ]
        | inr (inl shorter) ↦ inl shorter
        | inr (inr longer) ↦ absurd (not_more (inl longer))
      ]

  not_more-specific : (pair best : Pair) → IsNoLonger (row_of (entry_of pair))
      (row_of (entry_of best)) → ¬ IsMoreSpecific pair.0 best.0
  not_more-specific pair best (inl shorter) (inl longer) = omega (arith, shorter, longer)
  not_more-specific pair best (inl shorter) (inr same) = omega (arith, shorter, same.0)
  not_more-specific pair best (inr same) (inl longer) = let len : pair.0.dst.len ≡ best.0.dst.len =
      ap (λ (b : Block). b.len) same.0 in omega (arith, len, longer)
  not_more-specific pair best (inr same) (inr longer) = omega (arith, same.1, longer.1)

  most-answer : (best : Pair) → IsBestRow rows d s best
      → answer_for (entries_of rows) d s ≡ Some best.1
  most-answer best most =
      let w = width_of d.family in
      let all = rows_in d.family (entries_of rows) in
      let here = matches-from_both best most.matching in
      let listed : Listed all (row_of (entry_of best)) =
      Listed-from_Contains all (row_of (entry_of best))
      (row_of_pair d.family rows best most.listed here.0) in
      let from_row : (row : Row Held) → Listed all row → FromPair d.family rows row = λ row t.
      pair_of_row d.family rows row (Contains-from_Listed all row t) in
      let matching_pair : (row : Row Held) (t : Listed all row) → Matches w d.bits s.bits row
      → ContainsBoth d s (from_row row t).pair.0 = λ row t m.
      both-from_matches (from_row row t).pair (from_row row t).of_family
      (subst (Matches w d.bits s.bits) (sym (from_row row t).is_row) m) in
      let top : IsTop w all d.bits s.bits (row_of (entry_of best)) = record {
        listed = listed;
        matching = here.1;
        longest = λ row t m.
            let from = from_row row t in
            let both = matching_pair row t m in
            subst (λ (r : Row Held). IsNoLonger r (row_of (entry_of best))) from.is_row
            (no_longer from.pair best from.member most.listed both most.matching
            (most.best from.pair from.member both));
      } in
      answer-top w all d.bits s.bits (row_of (entry_of best)) top (λ row too.
      let from = from_row row too.listed in
      let both = matching_pair row too.listed too.matching in
      let below : IsNoLonger (row_of (entry_of best)) (row_of (entry_of from.pair)) =
      subst (λ (r : Row Held). IsNoLonger (row_of (entry_of best)) r) (sym from.is_row)
      (too.longest (row_of (entry_of best)) listed here.1) in
      let same : from.pair.0 ≡ best.0 = key_one d s from.pair.0 best.0
      (clean_row from.pair from.member) (clean_row best most.listed) both most.matching
      (most.best from.pair from.member both) (not_more-specific best from.pair below) in
      sym (ap (λ (r : Row Held). r.value) from.is_row)
      ∙ one_held mode said from.pair.0 best.0 from.pair.1 best.1 same
      (are.held from.pair.0 from.pair.1 from.member) (are.held best.0 best.1 most.listed))

  none-answer : IsBestMatch rows d s None → answer_for (entries_of rows) d s ≡ None
  none-answer none = answer_for-none (entries_of rows) d s (sym one_family) (λ entry c both.
      let from = Listed-map entry_of rows entry (Listed-from_Contains (entries_of rows) entry c) in
      none from.0.0 from.0.1 (Contains-from_Listed rows from.0 from.1)
      (subst (HasBoth d s) (sym from.2) both))

  -- ---- the answer of the events

  -- an answer of the events, which the rows have too
  record Settled : Type 0 where
    pub answer : Option Held
    pub is_answer : IsAnswer mode said d s answer
    pub rows_too : answer_for (entries_of rows) d s ≡ answer

  settled_by : (best : Option Pair) → IsBestOf rows d s best → Settled
  settled_by None none = record {
    answer = None;
    is_answer = λ key held is. none key held (are.all key held is);
    rows_too = none-answer none;
  }
  settled_by (Some best) most = record {
    answer = Some best.1;
    is_answer = (
      best.0,
      are.held best.0 best.1 most.listed,
      most.matching,
      (λ key held is. most.best (key, held) (are.all key held is)),
    );
    rows_too = most-answer best most;
  }

  settled : Settled
  settled = let found = best_of rows d s in settled_by found.0 found.1

  answer_one : (answer other : Option Held) → IsAnswer mode said d s answer
      → IsAnswer mode said d s other → answer ≡ other
  answer_one None None is too = refl
  answer_one None (Some held) is too =
      absurd (is too.0 held too.1 too.2)
  answer_one (Some held) None is too = absurd (too is.0 held is.1 is.2)
  answer_one (Some held) (Some other) is too =
      let same : is.0 ≡ too.0 = key_one d s is.0 too.0 (are.clean is.0 held is.1)
      (are.clean too.0 other too.1) is.2 too.2 (too.3 is.0 held is.1 is.2)
      (is.3 too.0 other too.1 too.2) in
      ap Some (one_held mode said is.0 too.0 held other same is.1 too.1)

  -- the events and the rows have one answer
  answer_is : (answer : Option Held) → IsAnswer mode said d s answer
      ↔ (answer_for (entries_of rows) d s ≡ answer)
  answer_is answer = (
    (λ is. settled.rows_too ∙ answer_one settled.answer answer settled.is_answer is),
    (λ is. subst (IsAnswer mode said d s) (sym settled.rows_too ∙ is) settled.is_answer),
  )

-- ---- the answer of a dump

module _ (limits : Bounds) (mode : Mode) (sender : Address) (dump : List ℕ) (table : Routes)
    (is_table : IsTableOf limits mode sender dump table) where
  table_held : AreHeld mode (map quiet is_table.said) table.rows
  table_held = record {
    held = λ key held c. held-quiet mode key None is_table.said ∙ is_table.rows.held key held c;
    all = λ key held is. is_table.rows.all key held (sym (held-quiet mode key None is_table.said) ∙ is);
    clean = λ key held is. held-clean mode (start_of limits sender) is_table.packets key held
        (ap (λ (es : List Event). held_for mode es key)
        (told-table limits mode sender dump table is_table) ∙ is);
  }

pub table_answers : TableAnswers
table_answers limits mode one table is_table d s d_in s_in one_family answer =
    let is = answer_is mode (map quiet is_table.said) table.rows
    (table_held limits mode one.sender one.dump table is_table) d s one_family answer in (
      (λ answers. is.0 (subst (λ (es : List Event). IsAnswer mode es d s answer)
          (told-dump limits mode one.sender one.dump table is_table answers.packets
          (record {
            whole = answers.whole ∙ sym (append-nil (flat_map packet_octets answers.packets));
            placed = answers.placed;
          }))
          answers.answers)),
      (λ rows. record {
        packets = is_table.packets;
        whole = is_table.reads.whole ∙ append-nil (flat_map packet_octets is_table.packets);
        placed = is_table.reads.placed;
        none_refuses = table-refuses limits mode one.sender one.dump table is_table;
        answers = subst (λ (es : List Event). IsAnswer mode es d s answer)
            (sym (told-table limits mode one.sender one.dump table is_table)) (is.1 rows);
      }),
    )

pub answer_is_one : AnswerIsOne
answer_is_one limits mode one table is_table d s d_in s_in one_family answer other is too =
    let answers = table_answers limits mode one table is_table d s d_in s_in one_family in
    sym ((answers answer).0 is) ∙ (answers other).0 too
