-- Fragments of one datagram, none of which overlap, are put together in whatever order they come.
use Rattle.std.proofs.Common.{◌≡◌, ◌≤◌, ◌<◌, ◌+◌, ◌-◌, ℕ, ◌⊎◌, inl, inr, max, Bool, true, false, not, ◌||◌, ◌&&◌, ◌==◌, cond, Option, None, Some, List, [], ◌∷◌, ◌++◌, length, take, drop, refl, sym, ap, subst, ◌∙◌, arith, unwrap_or}
use Rattle.std.specs.Prelude.{nat_lt, if◌then◌else◌, sum_by, is_some}
use Rattle.std.specs.Cmp.{nat_cmp_is}
use Rattle.std.specs.declared.cmp.Ordering.TheVariants.{Less, Greater}
use Rattle.std.specs.BTreeMap.{insert_entry, is_at}
use Rattle.std.specs.List.{All, list_any}
use Rattle.std.specs.Map.{lookup, values_of}
use Rattle.std.specs.Option.{option_map, option_or}
use Rattle.std.specs.Ordering.{nat_cmp}
use Rattle.std.proofs.lemmas.Bool.{cases_lt}
use Rattle.std.proofs.lemmas.Bool.Decides.{nat_tests}
use Rattle.std.proofs.lemmas.List.{drop-drop, length-append, length-drop, length-take-le, take-append-drop, append-nil}
use Rattle.std.proofs.lemmas.List.Elements.{All-head, All-tail}
use Rattle.std.proofs.lemmas.List.Sums.{sum_by-cons}
use Rattle.std.proofs.Math.ListN.{drop_of_length-le}
use Rattle.std.proofs.Math.Seq.{drop-append_seam}
use Rattle.babel_capture.specs.declared.datagram.Datagram.{Datagram}
use Rattle.babel_capture.specs.declared.datagram.Standing.TheVariants as standings
use Rattle.babel_capture.specs.declared.datagram.Step.{Step}
use Rattle.babel_capture.specs.declared.datagram.Step.TheVariants as steps
use Rattle.babel_capture.specs.declared.fragment.DatagramId.{DatagramId}
use Rattle.babel_capture.specs.declared.fragment.UdpPlace.{UdpPlace}
use Rattle.babel_capture.specs.declared.pieces.Meeting.TheVariants as meetings
use Rattle.babel_capture.specs.Fragments.{begins, begun, ends_of, is_of_another, step_by, step_in, settled_step_of, step_to_open, stepped, whole_by, whole_sight, with_fragment}
use Rattle.babel_capture.specs.Passage.{Sighting, missing_at, sight_at, sighting_as}
use Rattle.babel_capture.specs.LaidOut.{udp_octets}
use Rattle.babel_capture.specs.Pieces.{Fragment, KeptPiece, KeptPieces, end_of, furthest, is_last, is_whole, joined, len_of, meeting, meeting_with, piece_of, share}
use Rattle.babel_capture.specs.PutTogether.{AreApart, ArePartsApart, IsPart, PutTogetherIsRead, PutTogetherIsWhole, after_fragments}
use Rattle.babel_capture.specs.Sight.{Sight}
use Rattle.babel_capture.specs.Udp.{udp_sight}
use Rattle.babel_capture.proofs.LaidOutLaws.{udp_laid_out}
use Rattle.babel_capture.proofs.PieceLaws.{any-insert}

or-none : (a b : Bool) → (a || b) ≡ false → (a ≡ false) × (b ≡ false)
or-none true b is = absurd cc
or-none false b is = (refl, is)

or-not : (a b : Bool) → a ≡ false → b ≡ false → (a || b) ≡ false
or-not a b first second = rw (first, second) refl

-- ---- pieces that share no octets

share-apart : (one other : ℕ × KeptPiece) → share one other ≡ false → (end_of other ≤ one.0) ⊎ (end_of one ≤ other.0)
share-apart one other none = elim (cases_lt one.0 (end_of other)) [
  | inr after ↦ inl after
  | inl before ↦ elim (cases_lt other.0 (end_of one)) [
    | inr apart ↦ inr apart
    | inl both ↦ (let shares : share one other ≡ true = grind (arith, nat_tests) in absurd cc)
  ]
]

apart-share : (one other : ℕ × KeptPiece) → (end_of one ≤ other.0) ⊎ (end_of other ≤ one.0) → share one other ≡ false
apart-share one other (inl before) = grind (arith, nat_tests)
apart-share one other (inr after) = grind (arith, nat_tests)

module _ (sent : List ℕ) where
  -- a piece of what was sent
  record IsPiece (one : ℕ × KeptPiece) : Type 0 where
    some : 0 < one.1.len
    within : end_of one ≤ length sent
    octets : one.1.octets ≡ take one.1.len (drop one.0 sent)
    more : one.1.more ≡ nat_lt (end_of one) (length sent)

  -- they follow one another from there on
  abbrev AreLaid : ℕ → KeptPieces → Type 0
  AreLaid from [] = Unit {0}
  AreLaid from (e ∷ es) = (from ≤ e.0) × IsPiece e × AreLaid (end_of e) es

  piece-last : (one : ℕ × KeptPiece) → IsPiece one → is_last one ≡ true → end_of one ≡ length sent
  piece-last one is last = elim (cases_lt (end_of one) (length sent)) [
    | inl less ↦ (let more : one.1.more ≡ true = is.more ∙ grind (arith, nat_tests) in let other : is_last one ≡ false = rw more refl in absurd cc)
    | inr no_less ↦ (let within = is.within in omega (arith, within, no_less))
  ]

  last-piece : (one : ℕ × KeptPiece) → IsPiece one → end_of one ≡ length sent → is_last one ≡ true
  last-piece one is ends = (let more : one.1.more ≡ false = is.more ∙ grind (arith, nat_tests) in rw more refl)

  free : (from : ℕ) (one : ℕ × KeptPiece) (es : KeptPieces) → AreLaid from es → 0 < one.1.len → list_any (share one) es ≡ false → lookup (is_at (nat_cmp one.0)) es ≡ None
  free from one [] laid some none = refl
  free from one (e ∷ es) laid some none =
      let not = or-none (share one e) (list_any (share one) es) none in
      let apart = share-apart one e not.0 in
      let has = laid.1.some in
      let other : is_at (nat_cmp one.0) e.0 ≡ false = elim apart [
        | inl before ↦ grind (arith, nat_tests)
        | inr after ↦ grind (arith, nat_tests)
      ] in
      rw other (free (end_of e) one es laid.2 some not.1)

  reach : (from : ℕ) (es : KeptPieces) → AreLaid from es → furthest es ≤ length sent
  reach from [] laid = omega arith
  reach from (e ∷ es) laid = (let later = reach (end_of e) es laid.2 in let within = laid.1.within in omega (arith, later, within))

  last-furthest : (from : ℕ) (es : KeptPieces) → AreLaid from es → list_any is_last es ≡ true → furthest es ≡ length sent
  last-furthest from [] laid last = absurd cc
  last-furthest from (e ∷ es) laid last = by (last-furthest (end_of e) es laid.2) (is_last e) refl last
    where
      by : (list_any is_last es ≡ true → furthest es ≡ length sent) → (b : Bool) → is_last e ≡ b → (b || list_any is_last es) ≡ true → max (end_of e) (furthest es) ≡ length sent
      by again true is any = (let ends = piece-last e laid.1 is in let later = reach (end_of e) es laid.2 in omega (arith, ends, later))
      by again false is any = (let ends = again any in let within = laid.1.within in omega (arith, ends, within))

  -- the last one is there, so that another that shares nothing is not the last
  no-last : (from : ℕ) (one : ℕ × KeptPiece) (es : KeptPieces) → AreLaid from es → IsPiece one → list_any (share one) es ≡ false → list_any is_last es ≡ true → is_last one ≡ false
  no-last from one [] laid is none last = absurd cc
  no-last from one (e ∷ es) laid is none last =
      let not = or-none (share one e) (list_any (share one) es) none in
      by (no-last (end_of e) one es laid.2 is not.1) (is_last e) (is_last one) refl refl not.0 last
    where
      by : (list_any is_last es ≡ true → is_last one ≡ false) → (a b : Bool) → is_last e ≡ a → is_last one ≡ b → share one e ≡ false → (a || list_any is_last es) ≡ true → b ≡ false
      by again a false here there apart any = refl
      by again false true here there apart any = sym there ∙ again any
      by again true true here there apart any =
          let ends = piece-last e laid.1 here in
          let end = piece-last one is there in
          let some = is.some in
          let has = laid.1.some in
          elim (share-apart one e apart) [
            | inl before ↦ absurd (omega (arith, ends, end, some, has, before))
            | inr after ↦ absurd (omega (arith, ends, end, some, has, after))
          ]

  -- one that shares octets with none stands apart
  stands-apart : (from : ℕ) (fragment : Fragment) (es : KeptPieces) → AreLaid from es → IsPiece (fragment.offset, piece_of fragment) → list_any (share (fragment.offset, piece_of fragment)) es ≡ false
      → meeting es fragment ≡ meetings.Apart
  stands-apart from fragment es laid is none =
      let one : ℕ × KeptPiece = (fragment.offset, piece_of fragment) in
      let here = free from one es laid is.some none in
      let not = by (list_any is_last es) (is_last one) refl refl in
      ap (meeting_with es one) here ∙ ap (λ (b : Bool). cond b meetings.Overlaps meetings.Apart) (or-not (list_any (share one) es) _ none not)
    where
      by : (a b : Bool) → list_any is_last es ≡ a → is_last (fragment.offset, piece_of fragment) ≡ b
          → (if a then b || nat_lt (furthest es) (fragment.offset + fragment.len) else b && nat_lt (fragment.offset + fragment.len) (furthest es)) ≡ false
      by true true any last = (let other = no-last from (fragment.offset, piece_of fragment) es laid is none any in absurd cc)
      by true false any last = (let ends = last-furthest from es laid any in let within = is.within in grind (arith, nat_tests))
      by false true any last = (let ends = piece-last (fragment.offset, piece_of fragment) is last in let far = reach from es laid in grind (arith, nat_tests))
      by false false any last = refl

  -- with one more
  inserted : (from : ℕ) (one : ℕ × KeptPiece) (es : KeptPieces) → AreLaid from es → IsPiece one → from ≤ one.0 → list_any (share one) es ≡ false
      → AreLaid from (insert_entry nat_cmp es one.0 one.1) × (len_of (insert_entry nat_cmp es one.0 one.1) ≡ len_of es + one.1.len)
  inserted from one [] laid is begin none = ((begin, is, tt), omega arith)
  inserted from one (e ∷ es) laid is begin none =
      let not = or-none (share one e) (list_any (share one) es) none in
      let some = is.some in
      let has = laid.1.some in
      elim (share-apart one e not.0) [
        | inl after ↦
            let greater : Greater ≡ nat_cmp one.0 e.0 = nat_cmp_is one.0 e.0 Greater (omega arith) in
            let later = inserted (end_of e) one es laid.2 is after not.1 in
            let lens = sum_by-cons (λ (p : KeptPiece). p.len) e.1 (values_of es) in
            let lens_after = sum_by-cons (λ (p : KeptPiece). p.len) e.1 (values_of (insert_entry nat_cmp es one.0 one.1)) in
            rw (sym greater) ((laid.0, laid.1, later.0), omega (arith, lens, lens_after, later.1))
        | inr before ↦
            let less : Less ≡ nat_cmp one.0 e.0 = nat_cmp_is one.0 e.0 Less (omega arith) in
            let lens = sum_by-cons (λ (p : KeptPiece). p.len) one.1 (values_of (e ∷ es)) in
            rw (sym less) ((begin, is, (before, laid.1, laid.2)), omega (arith, lens))
      ]

  -- they have no more octets than there are from there on
  fill : (from : ℕ) (es : KeptPieces) → AreLaid from es → from ≤ length sent → from + len_of es ≤ length sent
  fill from [] laid within = omega arith
  fill from (e ∷ es) laid within =
      let later = fill (end_of e) es laid.2 laid.1.within in
      let lens = sum_by-cons (λ (p : KeptPiece). p.len) e.1 (values_of es) in
      let begin = laid.0 in
      omega (arith, later, lens, begin)

  open-still : (es : KeptPieces) → AreLaid 0 es → len_of es < length sent → is_whole es ≡ false
  open-still es laid less = by (list_any is_last es) refl
    where
      by : (b : Bool) → list_any is_last es ≡ b → (b && (len_of es == furthest es)) ≡ false
      by true any = (let ends = last-furthest 0 es laid any in grind (arith, nat_tests))
      by false any = refl

  -- and where they have all of them, they are these octets
  record IsAll (from : ℕ) (es : KeptPieces) : Type 0 where
    are_joined : joined (values_of es) ≡ drop from sent
    last : 0 < len_of es → list_any is_last es ≡ true

  all-of : (from : ℕ) (es : KeptPieces) → AreLaid from es → from + len_of es ≡ length sent → IsAll from es
  all-of from [] laid all = record {
    are_joined = sym (drop_of_length-le sent (omega arith));
    last = λ some. absurd (omega arith);
  }
  all-of from (e ∷ es) laid all =
      let lens = sum_by-cons (λ (p : KeptPiece). p.len) e.1 (values_of es) in
      let filled = fill (end_of e) es laid.2 laid.1.within in
      let begin = laid.0 in
      let within = laid.1.within in
      let here : e.0 ≡ from = omega (arith, all, lens, filled, begin) in
      let rest : end_of e + len_of es ≡ length sent = omega (arith, all, lens, here) in
      let later = all-of (end_of e) es laid.2 rest in
      let room : e.1.len ≤ length (drop e.0 sent) = omega (arith, length-drop e.0 sent, within) in
      let kept : length e.1.octets ≡ e.1.len = ap (λ (l : List ℕ). length l) laid.1.octets ∙ length-take-le e.1.len (drop e.0 sent) room in
      let not_cut : nat_lt (length e.1.octets) e.1.len ≡ false = grind (arith, nat_tests) in
      record {
        are_joined = rw not_cut (ap (λ (l : List ℕ). e.1.octets ++ l) (later.are_joined ∙ sym (drop-drop e.1.len e.0 sent)) ∙ ap (λ (l : List ℕ). l ++ drop e.1.len (drop e.0 sent)) laid.1.octets
            ∙ take-append-drop e.1.len (drop e.0 sent) ∙ ap (λ (n : ℕ). drop n sent) here);
        last = λ some. elim (cases_lt 0 (len_of es)) [
          | inl more ↦ or-second (is_last e) (list_any is_last es) (later.last more)
          | inr none ↦ or-first (is_last e) (list_any is_last es) (last-piece e laid.1 (omega (arith, rest, none)))
        ];
      }
    where
      or-first : (a b : Bool) → a ≡ true → (a || b) ≡ true
      or-first true b is = refl
      or-first false b is = absurd cc

      or-second : (a b : Bool) → b ≡ true → (a || b) ≡ true
      or-second true b is = refl
      or-second false b is = is

  whole-of : (es : KeptPieces) → AreLaid 0 es → len_of es ≡ length sent → 0 < length sent → is_whole es ≡ true
  whole-of es laid all some =
      let last : list_any is_last es ≡ true = (all-of 0 es laid (omega (arith, all))).last (omega (arith, all, some)) in
      let ends = last-furthest 0 es laid last in
      rw last (grind (arith, nat_tests))

  -- ---- where UDP begins, once the first of them is there

  module _ (udp : UdpPlace) where
    abbrev place_in : KeptPieces → Option UdpPlace
    place_in [] = None
    place_in (e ∷ es) = if e.0 == 0 then Some udp else None

    placed : (fragment : Fragment) (es : KeptPieces) → AreLaid 0 es → IsPiece (fragment.offset, piece_of fragment) → list_any (share (fragment.offset, piece_of fragment)) es ≡ false
        → fragment.udp ≡ (if fragment.offset == 0 then Some udp else None) → option_or fragment.udp (place_in es) ≡ place_in (insert_entry nat_cmp es fragment.offset (piece_of fragment))
    placed fragment [] laid is none first = rw first (by (fragment.offset == 0))
      where
        by : (b : Bool) → option_or (if b then Some udp else None) None ≡ (if b then Some udp else None)
        by true = refl
        by false = refl
    placed fragment (e ∷ es) laid is none first =
        let one : ℕ × KeptPiece = (fragment.offset, piece_of fragment) in
        let not = or-none (share one e) (list_any (share one) es) none in
        let some = is.some in
        let has = laid.1.some in
        elim (share-apart one e not.0) [
          | inl after ↦
              let greater : Greater ≡ nat_cmp fragment.offset e.0 = nat_cmp_is fragment.offset e.0 Greater (omega arith) in
              let later : (fragment.offset == 0) ≡ false = grind (arith, nat_tests) in
              rw (sym greater, first, later) refl
          | inr before ↦
              let less : Less ≡ nat_cmp fragment.offset e.0 = nat_cmp_is fragment.offset e.0 Less (omega arith) in
              let later : (e.0 == 0) ≡ false = grind (arith, nat_tests) in
              rw (sym less, first, later) (by (fragment.offset == 0))
        ]
      where
        by : (b : Bool) → option_or (if b then Some udp else None) None ≡ (if b then Some udp else None)
        by true = refl
        by false = refl

    placed-all : (es : KeptPieces) → AreLaid 0 es → len_of es ≡ length sent → 0 < length sent → place_in es ≡ Some udp
    placed-all [] laid all some = absurd (omega (arith, all, some))
    placed-all (e ∷ es) laid all some =
        let lens = sum_by-cons (λ (p : KeptPiece). p.len) e.1 (values_of es) in
        let filled = fill (end_of e) es laid.2 laid.1.within in
        let here : (e.0 == 0) ≡ true = grind (arith, nat_tests) in
        rw here refl

    -- ---- one fragment after another

    part-piece : (fragment : Fragment) → IsPart sent udp fragment → IsPiece (fragment.offset, piece_of fragment)
    part-piece fragment is = record { some = is.some; within = is.within; octets = is.octets; more = is.more }

    not-another : (fragment : Fragment) → IsPart sent udp fragment → is_of_another fragment ≡ false
    not-another fragment is = by (fragment.offset == 0) refl
      where
        by : (b : Bool) → (fragment.offset == 0) ≡ b → (b && not (is_some fragment.udp)) ≡ false
        by true here = (let some : fragment.udp ≡ Some udp = is.first ∙ ap (λ (c : Bool). if c then Some udp else None) here in rw some refl)
        by false here = refl

    record IsOpen (id : DatagramId) (one : Datagram) : Type 0 where
      own : one.id ≡ id
      standing : one.standing ≡ standings.Open
      laid : AreLaid 0 one.pieces
      place : one.udp ≡ place_in one.pieces

    -- the step of one that shares octets with none
    step-as : (id : DatagramId) (one : Datagram) (fragment : Fragment) → IsOpen id one → IsPart sent udp fragment → list_any (share (fragment.offset, piece_of fragment)) one.pieces ≡ false
        → step_in one fragment ≡ (if is_whole (with_fragment one fragment).pieces then steps.Completes else steps.Added)
    step-as id one fragment is part none =
        let met = stands-apart 0 fragment one.pieces is.laid (part-piece fragment part) none in
        ap (step_by one fragment) is.standing ∙ ap (step_to_open one fragment) met
        ∙ ap (λ (b : Bool). cond b steps.Anew (cond (is_whole (with_fragment one fragment).pieces) steps.Completes steps.Added)) (not-another fragment part)

    with-one : (id : DatagramId) (one : Datagram) (fragment : Fragment) → IsOpen id one → IsPart sent udp fragment → list_any (share (fragment.offset, piece_of fragment)) one.pieces ≡ false
        → AreLaid 0 (with_fragment one fragment).pieces × (len_of (with_fragment one fragment).pieces ≡ len_of one.pieces + fragment.len)
        × ((with_fragment one fragment).udp ≡ place_in (with_fragment one fragment).pieces)
    with-one id one fragment is part none =
        let piece = part-piece fragment part in
        let more = inserted 0 (fragment.offset, piece_of fragment) one.pieces is.laid piece (omega arith) none in (
          more.0,
          more.1,
          ap (option_or fragment.udp) is.place ∙ placed fragment one.pieces is.laid piece none part.first,
        )

    -- none of them shares octets with those that came
    abbrev AreFree : KeptPieces → List Fragment → Type 0
    AreFree es [] = Unit {0}
    AreFree es (fragment ∷ later) = (list_any (share (fragment.offset, piece_of fragment)) es ≡ false) × AreFree es later

    free-with : (es : KeptPieces) (one : Fragment) (later : List Fragment) → AreLaid 0 es → IsPart sent udp one → list_any (share (one.offset, piece_of one)) es ≡ false → AreFree es later
        → All (AreApart one) later → AreFree (insert_entry nat_cmp es one.offset (piece_of one)) later
    free-with es one [] laid part none free_still apart = tt
    free-with es one (fragment ∷ later) laid part none free_still apart =
        let test : ℕ × KeptPiece → Bool = share (fragment.offset, piece_of fragment) in
        let here = free 0 (one.offset, piece_of one) es laid part.some none in
        let other : test (one.offset, piece_of one) ≡ false = apart-share (fragment.offset, piece_of fragment) (one.offset, piece_of one) (elim (All-head (AreApart one) fragment later apart) [
          | inl before ↦ inr before
          | inr after ↦ inl after
        ]) in (
          any-insert test one.offset (piece_of one) es here ∙ or-not (list_any test es) (test (one.offset, piece_of one)) free_still.0 other,
          free-with es one later laid part none free_still.1 (All-tail (AreApart one) fragment later apart),
        )

    lens-cons : (fragment : Fragment) (later : List Fragment) → sum_by (λ (f : Fragment). f.len) (fragment ∷ later) ≡ fragment.len + sum_by (λ (f : Fragment). f.len) later
    lens-cons fragment later = sum_by-cons (λ (f : Fragment). f.len) fragment later

    some-left : (between : List Fragment) (last : Fragment) → ArePartsApart sent udp (between ++ last ∷ []) → 0 < sum_by (λ (f : Fragment). f.len) (between ++ last ∷ [])
    some-left [] last are = (let lens = lens-cons last [] in let some = are.0.some in omega (arith, lens, some))
    some-left (next ∷ between) last are = (let lens = lens-cons next (between ++ last ∷ []) in let some = are.0.some in omega (arith, lens, some))

    -- the last one makes it whole, and all those before it leave it open
    to-last : (id : DatagramId) (one : Datagram) (between : List Fragment) (last : Fragment) → IsOpen id one → ArePartsApart sent udp (between ++ last ∷ []) → AreFree one.pieces (between ++ last ∷ [])
        → len_of one.pieces + sum_by (λ (f : Fragment). f.len) (between ++ last ∷ []) ≡ length sent
        → (step_in (after_fragments one between) last ≡ steps.Completes)
        × (whole_sight (stepped (after_fragments one between) last steps.Completes) ≡ udp_sight id.origin.place (ends_of id) false (drop udp.at sent) (length sent - udp.at))
    to-last id one [] last is are free_still all =
        let part = are.0 in
        let made = with_fragment one last in
        let after = with-one id one last is part free_still.0 in
        let lens = lens-cons last [] in
        let whole_len : len_of made.pieces ≡ length sent = omega (arith, after.1, all, lens) in
        let some : 0 < length sent = (let has = part.some in omega (arith, part.within, has)) in
        let whole = whole-of made.pieces after.0 whole_len some in
        let whole_all = all-of 0 made.pieces after.0 (omega (arith, whole_len)) in
        let octets : joined (values_of made.pieces) ≡ sent = whole_all.are_joined in
        let last_is = whole_all.last (omega (arith, whole_len, some)) in
        let ends : furthest made.pieces ≡ length sent = last-furthest 0 made.pieces after.0 last_is in
        let place : made.udp ≡ Some udp = after.2 ∙ placed-all made.pieces after.0 whole_len some in (
          step-as id one last is part free_still.0 ∙ ap (λ (b : Bool). cond b steps.Completes steps.Added) whole,
          ap (whole_by made) place ∙ ap (λ (l : List ℕ). udp_sight made.id.origin.place (ends_of made.id) false (drop udp.at l) (furthest made.pieces - udp.at)) octets
              ∙ ap (λ (n : ℕ). udp_sight made.id.origin.place (ends_of made.id) false (drop udp.at sent) (n - udp.at)) ends
              ∙ ap (λ (i : DatagramId). udp_sight i.origin.place (ends_of i) false (drop udp.at sent) (length sent - udp.at)) is.own,
        )
    to-last id one (next ∷ between) last is are free_still all =
        let part = are.0 in
        let made = with_fragment one next in
        let after = with-one id one next is part free_still.0 in
        let lens = lens-cons next (between ++ last ∷ []) in
        let left = some-left between last are.2 in
        let all_after : len_of made.pieces + sum_by (λ (f : Fragment). f.len) (between ++ last ∷ []) ≡ length sent = omega (arith, after.1, all, lens) in
        let open_still = open-still made.pieces after.0 (omega (arith, all_after, left)) in
        let step : step_in one next ≡ steps.Added = step-as id one next is part free_still.0 ∙ ap (λ (b : Bool). cond b steps.Completes steps.Added) open_still in
        let stands : made.standing ≡ standings.Open = ap (λ (b : Bool). cond b standings.Whole standings.Open) open_still in
        let now : IsOpen id made = record { own = is.own; standing = stands; laid = after.0; place = after.2 } in
        let free_after = free-with one.pieces next (between ++ last ∷ []) is.laid part free_still.0 free_still.1 are.1 in
        let there = to-last id made between last now are.2 free_after all_after in
        let seen : Datagram → Type 0 = λ d. (step_in (after_fragments d between) last ≡ steps.Completes)
        × (whole_sight (stepped (after_fragments d between) last steps.Completes) ≡ udp_sight id.origin.place (ends_of id) false (drop udp.at sent) (length sent - udp.at)) in
        subst (λ (s : Step). seen (stepped one next s)) (sym step) there

    -- the first one
    begins-part : (at came : ℕ) (ends_within : Bool) (first : Fragment) → IsPart sent udp first → begins at came ends_within first ≡ begun at came ends_within first
    begins-part at came ends_within first part =
        let one = begun at came ends_within first in
        ap (λ (b : Bool). cond b (record one { standing = standings.Other; pieces = [] }) one) (not-another first part)

    begun-open : (at came : ℕ) (ends_within : Bool) (first : Fragment) → IsPart sent udp first → IsOpen first.id (begun at came ends_within first)
    begun-open at came ends_within first part = record {
      own = refl;
      standing = refl;
      laid = (omega arith, part-piece first part, tt);
      place = part.first;
    }

    free-begun : (first : Fragment) (later : List Fragment) → All (AreApart first) later → AreFree ((first.offset, piece_of first) ∷ []) later
    free-begun first [] apart = tt
    free-begun first (fragment ∷ later) apart = (
      or-not (share (fragment.offset, piece_of fragment) (first.offset, piece_of first)) false
          (apart-share (fragment.offset, piece_of fragment) (first.offset, piece_of first) (elim (All-head (AreApart first) fragment later apart) [
            | inl before ↦ inr before
            | inr after ↦ inl after
          ])) refl,
      free-begun first later (All-tail (AreApart first) fragment later apart),
    )

pub is_whole_then : PutTogetherIsWhole
is_whole_then sent udp at came ends_within first between last is =
    let part = is.parts.0 in
    let lens = lens-cons sent udp first (between ++ last ∷ []) in
    let all = is.all in
    let whole = to-last sent udp first.id (begun at came ends_within first) between last (begun-open sent udp at came ends_within first part) is.parts.2
    (free-begun sent udp first (between ++ last ∷ []) is.parts.1) (omega (arith, lens, all)) in
    let seen : Datagram → Type 0 = λ d. (step_in (after_fragments d between) last ≡ steps.Completes)
    × (whole_sight (stepped (after_fragments d between) last steps.Completes) ≡ udp_sight first.id.origin.place (ends_of first.id) false (drop udp.at sent) (length sent - udp.at)) in
    subst (λ (d : Datagram). seen d) (sym (begins-part sent udp at came ends_within first part)) whole

pub is_read_then : PutTogetherIsRead
is_read_then headers babel udp at came ends_within first between last is_babel may place is before number block packet found =
    let sent = headers ++ udp_octets babel in
    let whole = is_whole_then sent udp at came ends_within first between last is in
    let one = after_fragments (begins at came ends_within first) between in
    let octets : drop udp.at sent ≡ udp_octets babel = ap (λ (n : ℕ). drop n sent) place ∙ drop-append_seam headers (udp_octets babel) in
    let len : length sent - udp.at ≡ length (udp_octets babel) = omega (arith, place, length-append headers (udp_octets babel)) in
    let told : Step → ℕ × Datagram → List Sighting = λ s d. missing_at s (Some d) ++ sighting_as (before.count + 1) block packet (sight_at s (Some d)) ∷ [] in
    let by : Option (ℕ × Datagram) → List Sighting = λ o.
    let f : ℕ × Datagram → ℕ × Datagram = λ d. (d.0, stepped d.1 last (step_in d.1 last)) in
    let step : Step = unwrap_or (option_or (option_map (λ (d : ℕ × Datagram). step_in d.1 last) o) (settled_step_of before.known.others last)) steps.Anew in
    missing_at step (option_map f o) ++ sighting_as (before.count + 1) block packet (sight_at step (option_map f o)) ∷ [] in
    let sight = whole.1 ∙ ap (λ (l : List ℕ). udp_sight first.id.origin.place (ends_of first.id) false l (length sent - udp.at)) (octets ∙ sym (append-nil (udp_octets babel)))
    ∙ ap (λ (n : ℕ). udp_sight first.id.origin.place (ends_of first.id) false (udp_octets babel ++ []) n) len
    ∙ udp_laid_out first.id.origin.place (ends_of first.id) babel [] (length (udp_octets babel)) is_babel may (omega arith) in
    ap by found ∙ ap (λ (s : Step). told s (number, stepped one last s)) whole.0 ∙ ap (λ (w : Sight). sighting_as (before.count + 1) block packet w ∷ []) sight
