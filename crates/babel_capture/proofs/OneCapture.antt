-- Octets are one capture, of whose packets one list is made, and which give one report and one list of senders.
use Rattle.std.proofs.Common.{◌≡◌, ◌≢◌, ℕ, ◌+◌, ◌*◌, ◌/◌, ◌%◌, ◌<◌, List, [], ◌∷◌, ◌++◌, length, take, drop, refl, sym, ap, subst, ◌∙◌, append_assoc, inl, inr, arith, length-append, nat_lt, slice_index}
use Rattle.std.specs.Prelude.{◌⊎◌, Option, Some, None, Result, Ok, Err}
use Rattle.std.specs.Result.{IsOkAnd}
use Rattle.std.proofs.lemmas.List.{append-nil, drop_at, take-append-le, take_at}
use Rattle.babel_capture.specs.declared.ends.Ends.{Ends}
use Rattle.babel_tlv.specs.FrameFaults.{BeginsPacket, HasHeader, LacksBody}
use Rattle.babel_tlv.specs.Framing.{framed}
use Rattle.babel_tlv.proofs.OneReading.{framed_one}
use Rattle.babel_capture.specs.declared.fault.Fault.{Fault}
use Rattle.babel_capture.specs.declared.layout.Layout.{Layout}
use Rattle.babel_capture.specs.declared.layout.Layout.TheVariants as layouts
use Rattle.babel_capture.specs.declared.link.Link.{Link}
use Rattle.babel_capture.specs.declared.place.Place.{Place}
use Rattle.babel_capture.specs.declared.wanted.Wanted.{Wanted}
use Rattle.babel_capture.specs.Blocks.{names_of, AreBlocks, BlockAt, IsBlock, IsPartial, context_behind, header_of, octets_of, sightings_to_end, start}
use Rattle.babel_capture.specs.Capture.{IsRead, IsReadToCut}
use Rattle.babel_capture.specs.Contents.{Content, block_said, context_after, nothing}
use Rattle.babel_capture.specs.Context.{Before}
use Rattle.babel_capture.specs.Counts.{Counts, Made, counts_of}
use Rattle.babel_capture.specs.Findings.{CarriedIs, Either, Finds, Found, IsWanted, PayloadIs, found, passed}
use Rattle.babel_capture.specs.Gathering.{AreMade, Gathering, IsGathered}
use Rattle.babel_capture.specs.Lengths.{block_len, header_len}
use Rattle.babel_capture.specs.OneCapture.{CaptureIsOne, CutCaptureIsOne}
use Rattle.babel_capture.specs.Passage.{Sighting}
use Rattle.babel_capture.specs.Sight.{Carried, Sight, datagram, fragmented, lacking, not_link_local, other, other_port, too_short, carries}
use Rattle.babel_capture.specs.Tallies.{Senders, senders_listed}
use Rattle.babel_capture.specs.Times.{Came}
use Rattle.babel_capture.specs.Window.{Extent}

-- ---- what is made of a packet

module _ (what again : Found) where
  same_of : (value : Found) → what ≡ value → again ≡ value → what ≡ again
  same_of value is is_again = is ∙ sym is_again

  either_one : (P M U N V : Type 0) → (M → N → what ≡ again) → (U → V → what ≡ again) → Either P M U → Either P N V → what ≡ again
  either_one P M U N V met unmet (inl (holds, is)) (inl (holds_too, is_again)) = met is is_again
  either_one P M U N V met unmet (inl (holds, is)) (inr (not, is_again)) = absurd (not holds)
  either_one P M U N V met unmet (inr (not, is)) (inl (holds, is_again)) = absurd (not holds)
  either_one P M U N V met unmet (inr (not, is)) (inr (not_too, is_again)) = unmet is is_again

-- a packet is no shorter than its header says
begins_whole : (payload body : List ℕ) → BeginsPacket payload body → (length payload < 4) ⊎ LacksBody payload → ⊥
begins_whole payload body (fits, rest, is) (inl short) =
    let long : length payload ≡ length (framed body) + length rest = ap length is ∙ length-append (framed body) rest in
    omega (arith, short, long)
begins_whole payload body (fits, rest, is) (inr lacks) =
    let lacks_too : LacksBody (framed body ++ rest) = subst LacksBody is lacks in
    let back : length body / 256 % 256 * 256 + length body % 256 ≡ length body = omega arith in
    let short : length (framed body ++ rest) < 4 + (length body / 256 % 256 * 256 + length body % 256) = lacks_too.3 in
    omega (arith, short, back, length-append body rest)

begins_magic : (payload body : List ℕ) → BeginsPacket payload body → slice_index payload 0 ≡ 42
begins_magic payload body begins = ap (λ (t : List ℕ). slice_index t 0) begins.2

begins_version : (payload body : List ℕ) → BeginsPacket payload body → slice_index payload 1 ≡ 2
begins_version payload body begins = ap (λ (t : List ℕ). slice_index t 1) begins.2

-- one that is shorter has either no header, or a good one
short_magic : (payload : List ℕ) → (length payload < 4) ⊎ LacksBody payload → HasHeader payload → slice_index payload 0 ≡ 42
short_magic payload (inl short) long = absurd (omega (arith, short, long))
short_magic payload (inr lacks) long = lacks.1

short_version : (payload : List ℕ) → (length payload < 4) ⊎ LacksBody payload → HasHeader payload → slice_index payload 1 ≡ 2
short_version payload (inl short) long = absurd (omega (arith, short, long))
short_version payload (inr lacks) long = lacks.2

payload_one : (place : Place) (ends : Ends) (payload : List ℕ) (what again : Found) → PayloadIs place ends payload what → PayloadIs place ends payload again → what ≡ again
payload_one place ends payload what again (inl (body, begins, is)) (inl (other_body, begins_again, is_again)) =
    let same : body ≡ other_body = (framed_one body other_body begins.1 begins_again.1 begins.0 begins_again.0 (sym begins.2 ∙ begins_again.2)).0 in
    is ∙ ap (λ (b : List ℕ). found place ends (framed b) (nat_lt (length (framed b)) (length payload))) same ∙ sym is_again
payload_one place ends payload what again (inl (body, begins, is)) (inr (inl (short, is_again))) = absurd (begins_whole payload body begins short)
payload_one place ends payload what again (inl (body, begins, is)) (inr (inr (inl (long, magic, is_again)))) = absurd (magic (begins_magic payload body begins))
payload_one place ends payload what again (inl (body, begins, is)) (inr (inr (inr (long, magic, version, is_again)))) = absurd (version (begins_version payload body begins))
payload_one place ends payload what again (inr (inl (short, is))) (inl (body, begins, is_again)) = absurd (begins_whole payload body begins short)
payload_one place ends payload what again (inr (inl (short, is))) (inr (inl (short_too, is_again))) = is ∙ sym is_again
payload_one place ends payload what again (inr (inl (short, is))) (inr (inr (inl (long, magic, is_again)))) = absurd (magic (short_magic payload short long))
payload_one place ends payload what again (inr (inl (short, is))) (inr (inr (inr (long, magic, version, is_again)))) = absurd (version (short_version payload short long))
payload_one place ends payload what again (inr (inr (inl (long, magic, is)))) (inl (body, begins, is_again)) = absurd (magic (begins_magic payload body begins))
payload_one place ends payload what again (inr (inr (inl (long, magic, is)))) (inr (inl (short, is_again))) = absurd (magic (short_magic payload short long))
payload_one place ends payload what again (inr (inr (inl (long, magic, is)))) (inr (inr (inl (long_too, magic_too, is_again)))) = is ∙ sym is_again
payload_one place ends payload what again (inr (inr (inl (long, magic, is)))) (inr (inr (inr (long_too, magic_too, version, is_again)))) = absurd (magic magic_too)
payload_one place ends payload what again (inr (inr (inr (long, magic, version, is)))) (inl (body, begins, is_again)) = absurd (version (begins_version payload body begins))
payload_one place ends payload what again (inr (inr (inr (long, magic, version, is)))) (inr (inl (short, is_again))) = absurd (version (short_version payload short long))
payload_one place ends payload what again (inr (inr (inr (long, magic, version, is)))) (inr (inr (inl (long_too, magic_too, is_again)))) = absurd (magic_too magic)
payload_one place ends payload what again (inr (inr (inr (long, magic, version, is)))) (inr (inr (inr (long_too, magic_too, version_too, is_again)))) = is ∙ sym is_again

carried_one : (wanted : Wanted) (place : Place) (ends : Ends) (carried : Carried) (what again : Found) → CarriedIs wanted place ends carried what → CarriedIs wanted place ends carried again
    → what ≡ again
carried_one wanted place ends other_port what again is is_again = is ∙ sym is_again
carried_one wanted place ends not_link_local what again is is_again = is ∙ sym is_again
carried_one wanted place ends (lacking lack) what again is is_again = is ∙ sym is_again
carried_one wanted place ends (carries payload) what again is is_again = payload_one place ends payload what again is is_again

pub finds_one : (wanted : Wanted) (sight : Sight) (what again : Found) → Finds wanted sight what → Finds wanted sight again → what ≡ again
finds_one wanted other what again is is_again = is ∙ sym is_again
finds_one wanted too_short what again is is_again = is ∙ sym is_again
finds_one wanted (fragmented fragment) what again is is_again = is ∙ sym is_again
finds_one wanted (datagram place ends carried) what again is is_again =
    either_one what again (IsWanted wanted ends.sender place) _ _ _ _ (carried_one wanted place ends carried what again) (same_of what again passed) is is_again

one_made : (made others : Made) → made.number ≡ others.number → made.link ≡ others.link → made.came ≡ others.came → made.what ≡ others.what → made ≡ others
one_made made others number link came what =
    let of : ℕ → Link → Came → Found → Made = λ n l c w. record { number = n; link = l; came = c; what = w } in
    let same : of made.number made.link made.came made.what ≡ of others.number others.link others.came others.what = cc in same

pub made_one : (wanted : Wanted) (sightings : List Sighting) (made others : List Made) → AreMade wanted sightings made → AreMade wanted sightings others → made ≡ others
made_one wanted [] made others are are_too = are ∙ sym are_too
made_one wanted (sighting ∷ later) made others (one, rest, is, number, link, came, finds, takes, are)
    (again, rest_again, is_again, number_again, link_again, came_again, finds_again, takes_again, are_again) =
    let what : one.what ≡ again.what = finds_one wanted sighting.what one.what again.what finds finds_again in
    let same : one ≡ again = one_made one again (number ∙ sym number_again) (link ∙ sym link_again) (came ∙ sym came_again) what in
    let behind : rest ≡ rest_again = made_one wanted later rest rest_again are are_again in
    is ∙ ap (λ (m : Made). m ∷ rest) same ∙ ap (λ (ms : List Made). again ∷ ms) behind ∙ sym is_again

-- ---- blocks

abbrev pub len_or_none : Result ℕ Fault → ℕ
len_or_none (Ok len) = len
len_or_none (Err fault) = 0

abbrev pub content_or_none : Result Content Fault → Content
content_or_none (Ok content) = content
content_or_none (Err fault) = nothing

pub some_header : (layout : Layout) → 0 < header_len layout
some_header layouts.Start = omega arith
some_header (layouts.Pcap order) = omega arith
some_header (layouts.Section order) = omega arith

module _ (before : Before) (at : ℕ) where
  -- the octets of a block are known from its front, and so is what stands behind it
  pub block_one : (block another rest behind : List ℕ) → IsBlock before at block → IsBlock before at another → block ++ rest ≡ another ++ behind → (block ≡ another) × (rest ≡ behind)
  block_one block another rest behind is is_too same =
      let header : header_of before block ≡ header_of before another =
      sym (take-append-le (header_len before.layout) block rest is.header) ∙ ap (take (header_len before.layout)) same
      ∙ take-append-le (header_len before.layout) another behind is_too.header in
      let len : length block ≡ length another =
      ap len_or_none (sym is.len ∙ ap (block_len before at) header ∙ is_too.len) in (
        sym (take_at block rest (length block) refl) ∙ ap (take (length block)) same ∙ take_at another behind (length block) (sym len),
        sym (drop_at block rest (length block) refl) ∙ ap (drop (length block)) same ∙ drop_at another behind (length block) (sym len),
      )

  -- less than a block begins with none
  pub partial_none : (block rest : List ℕ) → IsBlock before at block → IsPartial before at (block ++ rest) → ⊥
  partial_none block rest is (inl short) = omega (arith, short, is.header, length-append block rest)
  partial_none block rest is (inr (inl (header, less))) =
      let front : header_of before (block ++ rest) ≡ header_of before block = take-append-le (header_len before.layout) block rest is.header in
      let below : length (block ++ rest) < length block =
      subst (λ (r : Result ℕ Fault). IsOkAnd r (λ len. length (block ++ rest) < len)) (ap (block_len before at) front ∙ is.len) less in
      omega (arith, below, length-append block rest)
  partial_none block rest is (inr (inr ((header, ends), few))) =
      let front : header_of before (block ++ rest) ≡ header_of before block = take-append-le (header_len before.layout) block rest is.header in
      let none : length block ≡ 0 = ap len_or_none (sym is.len ∙ ap (block_len before at) (sym front) ∙ ends) in
      omega (arith, none, is.header, some_header before.layout)

pub one_block : (one another : BlockAt) → one.at ≡ another.at → one.octets ≡ another.octets → one.content ≡ another.content → one ≡ another
one_block one another at octets content =
    let of : ℕ → List ℕ → Content → BlockAt = λ n t c. record { at = n; octets = t; content = c } in
    let same : of one.at one.octets one.content ≡ of another.at another.octets another.content = cc in same

pub blocks_one : (before : Before) (at : ℕ) (blocks others : List BlockAt) (rest behind : List ℕ) → AreBlocks before at blocks → AreBlocks before at others
    → octets_of blocks ++ rest ≡ octets_of others ++ behind → IsPartial (context_behind before blocks) (at + length (octets_of blocks)) rest
    → IsPartial (context_behind before others) (at + length (octets_of others)) behind → (blocks ≡ others) × (rest ≡ behind)
blocks_one before at [] [] rest behind are are_too same partial partial_too = (refl, same)
blocks_one before at [] (another ∷ others) rest behind are (here, is, said, are_too) same partial partial_too =
    absurd (partial_none before at another.octets (octets_of others ++ behind) is
    (subst (λ (n : ℕ). IsPartial before n (another.octets ++ (octets_of others ++ behind))) (omega arith)
    (subst (λ (t : List ℕ). IsPartial before (at + 0) t) (same ∙ append_assoc another.octets (octets_of others) behind) partial)))
blocks_one before at (one ∷ blocks) [] rest behind (here, is, said, are) are_too same partial partial_too =
    absurd (partial_none before at one.octets (octets_of blocks ++ rest) is
    (subst (λ (n : ℕ). IsPartial before n (one.octets ++ (octets_of blocks ++ rest))) (omega arith)
    (subst (λ (t : List ℕ). IsPartial before (at + 0) t) (sym same ∙ append_assoc one.octets (octets_of blocks) rest) partial_too)))
blocks_one before at (one ∷ blocks) (another ∷ others) rest behind (here, is, said, are) (here_too, is_too, said_too, are_too) same partial partial_too =
    let first = block_one before at one.octets another.octets (octets_of blocks ++ rest) (octets_of others ++ behind) is is_too
    (sym (append_assoc one.octets (octets_of blocks) rest) ∙ same ∙ append_assoc another.octets (octets_of others) behind) in
    let content : one.content ≡ another.content =
    ap content_or_none (sym said ∙ ap (block_said before at) first.0 ∙ said_too) in
    let block : one ≡ another = one_block one another (here ∙ sym here_too) first.0 content in
    let place : at + length another.octets ≡ at + length one.octets = ap (λ (t : List ℕ). at + length t) (sym first.0) in
    let context : context_after before another.content ≡ context_after before one.content = ap (context_after before) (sym content) in
    let on = blocks_one (context_after before one.content) (at + length one.octets) blocks others rest behind are
    (subst (λ (c : Before). AreBlocks c (at + length one.octets) others) context (subst (λ (n : ℕ). AreBlocks (context_after before another.content) n others) place are_too)) first.1
    (subst (λ (n : ℕ). IsPartial (context_behind (context_after before one.content) blocks) n rest) (omega (arith, length-append one.octets (octets_of blocks))) partial)
    (subst (λ (c : Before). IsPartial (context_behind c others) (at + length one.octets + length (octets_of others)) behind) context
    (subst (λ (n : ℕ). IsPartial (context_behind (context_after before another.content) others) n behind) (omega (arith, length-append another.octets (octets_of others), place)) partial_too)) in
    (ap (λ (b : BlockAt). b ∷ blocks) block ∙ ap (λ (bs : List BlockAt). another ∷ bs) on.0, on.1)

-- ---- captures

one_gathering : (one another : Gathering) → one.wanted ≡ another.wanted → one.names ≡ another.names → one.report ≡ another.report → one.senders ≡ another.senders → one ≡ another
one_gathering one another wanted names report senders =
    let of : Wanted → List (List ℕ) → Counts → Senders → Gathering = λ w n r s. record { wanted = w; names = n; report = r; senders = s } in
    let same : of one.wanted one.names one.report one.senders ≡ of another.wanted another.names another.report another.senders = cc in same

-- two readings of the same octets, of any datagrams, have the same blocks
pub same_blocks : (limit : Extent) (octets : List ℕ) (one another : Gathering) (place other_place : Option ℕ) → (is : IsReadToCut limit octets one place)
    → (is_too : IsReadToCut limit octets another other_place) → (is.is_read.blocks ≡ is_too.is_read.blocks) × (is.rest ≡ is_too.rest)
same_blocks limit octets one another place other_place is is_too = blocks_one (start limit) 0 is.is_read.blocks is_too.is_read.blocks is.rest is_too.rest is.is_read.are_blocks
    is_too.is_read.are_blocks
    (ap (λ (t : List ℕ). t ++ is.rest) (sym is.is_read.whole) ∙ sym is.whole ∙ is_too.whole ∙ ap (λ (t : List ℕ). t ++ is_too.rest) is_too.is_read.whole)
    (subst (λ (n : ℕ). IsPartial (context_behind (start limit) is.is_read.blocks) n is.rest) (omega (arith, ap length is.is_read.whole)) is.partial)
    (subst (λ (n : ℕ). IsPartial (context_behind (start limit) is_too.is_read.blocks) n is_too.rest) (omega (arith, ap length is_too.is_read.whole)) is_too.partial)

pub cut_capture_is_one : CutCaptureIsOne
cut_capture_is_one limit octets one another place other_place is is_too wanted = (
  one_gathering one another wanted (is.is_read.names ∙ ap names_of same.0 ∙ sym is_too.is_read.names) (gathered.report ∙ ap counts_of made ∙ sym other.report)
      (gathered.senders ∙ ap (senders_listed one.wanted.are_listed) made ∙ ap (λ (w : Wanted). senders_listed w.are_listed other.made) wanted ∙ sym other.senders),
  places (is.is_read.whole ∙ ap octets_of same.0 ∙ sym is_too.is_read.whole) same.1 is.where_cut is_too.where_cut,
  made,
)
  where
    same : (is.is_read.blocks ≡ is_too.is_read.blocks) × (is.rest ≡ is_too.rest)
    same = same_blocks limit octets one another place other_place is is_too

    gathered : IsGathered (sightings_to_end is.is_read.blocks) one
    gathered = is.is_read.gathered

    other : IsGathered (sightings_to_end is_too.is_read.blocks) another
    other = is_too.is_read.gathered

    made : gathered.made ≡ other.made
    made = made_one one.wanted (sightings_to_end is.is_read.blocks) gathered.made other.made gathered.taken.are_made
        (subst (λ (bs : List BlockAt). AreMade one.wanted (sightings_to_end bs) other.made) (sym same.0)
        (subst (λ (w : Wanted). AreMade w (sightings_to_end is_too.is_read.blocks) other.made) (sym wanted) other.taken.are_made))

    places : is.read ≡ is_too.read → is.rest ≡ is_too.rest → ((is.rest ≡ []) × (place ≡ None)) ⊎ ((is.rest ≢ []) × (place ≡ Some (length is.read)))
        → ((is_too.rest ≡ []) × (other_place ≡ None)) ⊎ ((is_too.rest ≢ []) × (other_place ≡ Some (length is_too.read))) → place ≡ other_place
    places read rest (inl (none, at)) (inl (none_too, at_too)) = at ∙ sym at_too
    places read rest (inl (none, at)) (inr (some, at_too)) = absurd (some (sym rest ∙ none))
    places read rest (inr (some, at)) (inl (none, at_too)) = absurd (some (rest ∙ none))
    places read rest (inr (some, at)) (inr (some_too, at_too)) = at ∙ ap (λ (t : List ℕ). Some (length t)) read ∙ sym at_too

-- a whole capture is one that is cut nowhere
pub uncut : (limit : Extent) (octets : List ℕ) (gathering : Gathering) → IsRead limit octets gathering → IsReadToCut limit octets gathering None
uncut limit octets gathering is = record {
  read = octets;
  rest = [];
  whole = sym (append-nil octets);
  is_read = is;
  partial = inl (some_header (context_behind (start limit) is.blocks).layout);
  where_cut = inl (refl, refl);
}

pub capture_is_one : CaptureIsOne
unfolding uncut
capture_is_one limit octets one another is is_too wanted =
    let both = cut_capture_is_one limit octets one another None None (uncut limit octets one is) (uncut limit octets another is_too) wanted in (both.0, both.2)
