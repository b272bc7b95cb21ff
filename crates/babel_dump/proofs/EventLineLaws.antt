-- The lines of what is told, each with the name of its interface.
use Rattle.std.proofs.Common.{◌≡◌, ℕ, Bool, true, false, cond, List, [], ◌∷◌, ◌++◌, map, refl, sym, ap, subst, ◌∙◌}
use Rattle.std.specs.List.{filter, flat_map}
use Rattle.std.proofs.lemmas.List.Elements.{filter-append}
use Rattle.std.proofs.lemmas.List.{map-append}
use Rattle.std.proofs.lemmas.List.Concat.{flat_map-append}
use Rattle.std.specs.Io.KnownBytes.{Appends}
use Rattle.std.proofs.KnownBytes.{Appends-trans}
use Rattle.babel_capture.specs.Gathering.{Gathering, name_of}
use Rattle.babel_timeline.specs.declared.telling.Telling.{Telling}
use Rattle.babel_dump.specs.Device.{OutputState}
use Rattle.babel_dump.specs.EventText.{event_in, speaker_of}
use Rattle.babel_dump.specs.EventsRun.{AreLines, WroteLines, keeps_told}
use Rattle.babel_dump.specs.Followed.{named_event}
use Rattle.babel_dump.specs.Run.{output}
use Rattle.babel_dump.specs.Slices.{Took}
use Rattle.babel_dump.specs.declared.events_job.Events.{Events}
use Rattle.babel_dump.specs.declared.speaker.Speaker.{Speaker}

module _ (events : Events) where
  abbrev kept : List (Telling Speaker) → List (Telling Speaker)
  kept told = filter (keeps_told events.filter) told

  abbrev line : List ℕ × Telling Speaker → List ℕ
  line one = event_in events.format events.view events.pair one.0 one.1

  pub are_lines : (gathering : Gathering) (told : List (Telling Speaker)) → AreLines events told (flat_map (named_event events gathering) told)
  are_lines gathering told = record { named = map with_name (kept told); are = names (kept told); text_is = texts told }
    where
      with_name : Telling Speaker → List ℕ × Telling Speaker
      with_name one = (name_of gathering (speaker_of one).place.interface, one)

      names : (all : List (Telling Speaker)) → map (λ (one : List ℕ × Telling Speaker). one.1) (map with_name all) ≡ all
      names [] = refl
      names (one ∷ all) = ap (λ (t : List (Telling Speaker)). one ∷ t) (names all)

      texts : (all : List (Telling Speaker))
          → flat_map (named_event events gathering) all ≡ flat_map line (map with_name (kept all))
      texts [] = refl
      texts (one ∷ all) = by (keeps_told events.filter one) (texts all)
        where
          by : (b : Bool) → flat_map (named_event events gathering) all ≡ flat_map line (map with_name (kept all))
              → cond b (line (with_name one)) [] ++ flat_map (named_event events gathering) all ≡ flat_map line (map with_name (cond b (one ∷ kept all) (kept all)))
          by true again = ap (λ (t : List ℕ). line (with_name one) ++ t) again
          by false again = again

  pub lines_both : (a b : List (Telling Speaker)) (s t : List ℕ) → AreLines events a s → AreLines events b t → AreLines events (a ++ b) (s ++ t)
  lines_both a b s t one two = record {
    named = one.named ++ two.named;
    are = map-append (λ (x : List ℕ × Telling Speaker). x.1) one.named two.named ∙ ap (λ (l : List (Telling Speaker)). l ++ map (λ (x : List ℕ × Telling Speaker). x.1) two.named) one.are
        ∙ ap (λ (l : List (Telling Speaker)). kept a ++ l) two.are ∙ sym (filter-append (keeps_told events.filter) a b);
    text_is = ap (λ (l : List ℕ). l ++ t) one.text_is
        ∙ ap (λ (l : List ℕ). flat_map line one.named ++ l) two.text_is ∙ sym (flat_map-append line one.named two.named);
  }

  -- lines, and then more
  pub wrote_both : (a b c : OutputState) (first then : List (Telling Speaker)) → WroteLines events first (output a b) → WroteLines events then (output b c) → WroteLines events (first ++ then) (output a c)
  wrote_both a b c first then one two = record {
    text = one.text ++ two.text;
    lines = lines_both first then one.text two.text one.lines two.lines;
    wrote = Appends-trans a.taken b.taken c.taken one.text two.text one.wrote two.wrote;
  }

  -- the lines were written but for those that the buffer had, which were written then
  pub wrote_lines : (gathering : Gathering) (told : List (Telling Speaker)) (a b c : OutputState) (left : List ℕ) → Took (output a b) (flat_map (named_event events gathering) told) left
      → Appends b.taken c.taken left → WroteLines events told (output a c)
  wrote_lines gathering told a b c left took last = record {
    text = took.front ++ left;
    lines = subst (λ (l : List ℕ). AreLines events told l) took.parts (are_lines gathering told);
    wrote = Appends-trans a.taken b.taken c.taken took.front left took.took last;
  }
