-- The octets of a capture make one list of records, but for those at its end.
use Rattle.std.proofs.Common.{◌≡◌, ℕ, ◌+◌, List, ◌++◌, length, sym, ap, subst, ◌∙◌, arith, Option}
use Rattle.babel_capture.specs.Blocks.{BlockAt, IsPartial, context_behind, octets_of, passage_of, sightings_of, sightings_to_end, start}
use Rattle.babel_capture.specs.Capture.{IsReadToCut}
use Rattle.babel_capture.specs.Context.{Before}
use Rattle.babel_capture.specs.Counts.{Made}
use Rattle.babel_capture.specs.Gathering.{AreMade, Gathering}
use Rattle.babel_capture.specs.Passage.{missing_in}
use Rattle.babel_capture.specs.Reading.{HasTaken, Progress}
use Rattle.babel_capture.specs.Window.{Extent}
use Rattle.babel_capture.specs.declared.wanted.Wanted.{Wanted}
use Rattle.babel_capture.proofs.OneCapture.{blocks_one, made_one}
use Rattle.babel_dump.proofs.CaptureEnds.{AreUncounted, MadeInTwo, made_in_two, uncounted_at_end}

-- what was read to the end is what was taken before, and datagrams of which fragments are missing
pub record IsSameRead (extent : Extent) (fed : List ℕ) (progress : Progress) (pending : List ℕ) (gathering : Gathering) (cut : Option ℕ)
    (was : HasTaken extent progress pending fed) (is : IsReadToCut extent fed gathering cut) : Type 0 where
  pub blocks : is.is_read.blocks ≡ was.leads.blocks
  pub later : List Made
  pub made : is.is_read.gathered.made ≡ was.leads.gathered.made ++ later
  pub uncounted : AreUncounted later

pub same_made : (extent : Extent) (fed : List ℕ) (progress : Progress) (pending : List ℕ) (gathering : Gathering) (cut : Option ℕ) → gathering.wanted ≡ progress.gathering.wanted
    → (was : HasTaken extent progress pending fed) → (is : IsReadToCut extent fed gathering cut)
    → IsSameRead extent fed progress pending gathering cut was is
same_made extent fed progress pending gathering cut wanted was is = by blocks
  where
    partial : IsPartial (context_behind (start extent) was.leads.blocks) (0 + length (octets_of was.leads.blocks)) was.rest
    partial = subst (λ (n : ℕ). IsPartial (context_behind (start extent) was.leads.blocks) n was.rest) (omega (arith, was.leads.place, ap length was.leads.whole))
        (subst (λ (c : Before). IsPartial c progress.at was.rest) was.leads.context was.partial)

    partial_too : IsPartial (context_behind (start extent) is.is_read.blocks) (0 + length (octets_of is.is_read.blocks)) is.rest
    partial_too = subst (λ (n : ℕ). IsPartial (context_behind (start extent) is.is_read.blocks) n is.rest) (omega (arith, ap length is.is_read.whole)) is.partial

    blocks : (is.is_read.blocks ≡ was.leads.blocks) × (is.rest ≡ was.rest)
    blocks = blocks_one (start extent) 0 is.is_read.blocks was.leads.blocks is.rest was.rest is.is_read.are_blocks was.leads.are_blocks
        (ap (λ (t : List ℕ). t ++ is.rest) (sym is.is_read.whole) ∙ sym is.whole ∙ was.whole ∙ ap (λ (t : List ℕ). t ++ was.rest) was.leads.whole) partial_too partial

    parts : MadeInTwo progress.gathering.wanted (sightings_of is.is_read.blocks) (missing_in (passage_of is.is_read.blocks).known.unfinished) is.is_read.gathered.made
    parts = made_in_two progress.gathering.wanted (sightings_of is.is_read.blocks) (missing_in (passage_of is.is_read.blocks).known.unfinished) is.is_read.gathered.made
        (subst (λ (w : Wanted). AreMade w (sightings_to_end is.is_read.blocks) is.is_read.gathered.made) wanted is.is_read.gathered.taken.are_made)

    by : (is.is_read.blocks ≡ was.leads.blocks) × (is.rest ≡ was.rest) → IsSameRead extent fed progress pending gathering cut was is
    by (same, rest) = record {
      blocks = same;
      later = parts.later;
      made = parts.whole ∙ ap (λ (m : List Made). m ++ parts.later)
          (made_one progress.gathering.wanted (sightings_of is.is_read.blocks) parts.first was.leads.gathered.made parts.are_first
          (subst (λ (bs : List BlockAt). AreMade progress.gathering.wanted (sightings_of bs) was.leads.gathered.made) (sym same) was.leads.gathered.taken.are_made));
      uncounted = uncounted_at_end progress.gathering.wanted (passage_of is.is_read.blocks).known.unfinished parts.later parts.are_later;
    }
