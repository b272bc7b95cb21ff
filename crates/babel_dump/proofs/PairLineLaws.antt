-- The lines of pairs that are written one by one.
use Rattle.std.proofs.Common.{◌≡◌, ℕ, List, [], ◌∷◌, ◌++◌, Result, Ok, Err, refl, sym, subst, ◌∙◌, append-nil, flat_map, OnOk, OnErr, MatchResult}
use Rattle.std.proofs.lemmas.Grind.{flat_map-append}
use Rattle.std.proofs.lemmas.List.Elements.{filter-append}
use Rattle.babel_tlv.specs.Pair.{Pair}
use Rattle.babel_canon.specs.Sinks.{StopsAmong}
use Rattle.babel_dump.specs.Device.{OutputState}
use Rattle.babel_dump.specs.Filter.{is_kept, kept_rows}
use Rattle.babel_dump.specs.InFormat.{line_in, pairs_in}
use Rattle.babel_dump.specs.PairLines.{HasLines, StoppedAtLine}
use Rattle.babel_dump.specs.Run.{Output, output}
use Rattle.babel_dump.specs.Slices.{Broke, Took, WroteFront}
use Rattle.babel_dump.specs.declared.pair_lines.PairLines.{PairLines}
use Rattle.babel_dump.proofs.KeptLines.{both_kept}
use Rattle.babel_dump.proofs.SenderLines.{took_with}
use Rattle.babel_dump.proofs.SliceLaws.{begun, broke_on, broke_within, took_more}

module _ {W : Type 0} (state : W → OutputState) (start old new : PairLines W) (pairs : List Pair) (pair : Pair)
    (same : new.writer.ghost_name ≡ old.writer.ghost_name) (so : HasLines state start old pairs) where
  -- the lines of all pairs, if that of the last is by the first sink's words
  all_lines : pairs_in start.format.now start.view (kept_rows start.filter (pairs ++ pair ∷ []))
      ≡ pairs_in start.format.now start.view (kept_rows start.filter pairs) ++ pairs_in old.format.now old.view (kept_rows old.filter (pair ∷ []))
  all_lines = rw (so.same_format, so.same_view, so.same_filter) (both_kept start.format.now start.view start.filter pairs (pair ∷ []))

  abbrev line : List ℕ
  line = pairs_in old.format.now old.view (kept_rows old.filter (pair ∷ []))

  had : Took (output (state start.writer.now) (state old.writer.now)) (pairs_in start.format.now start.view (kept_rows start.filter pairs) ++ line) ((old.buffer.now.items ++ line) ++ [])
  had = rw (append-nil (old.buffer.now.items ++ line)) (took_with _ _ _ line so.took)

  pub one_more_line : new.buffer.ghost_name ≡ old.buffer.ghost_name → new.format ≡ old.format → new.filter ≡ old.filter → new.view ≡ old.view
      → Took (output (state old.writer.now) (state new.writer.now)) (old.buffer.now.items ++ line) new.buffer.now.items → HasLines state start new (pairs ++ pair ∷ [])
  one_more_line same_buffer same_format same_filter same_view next = record {
    same_writer = same ∙ so.same_writer;
    same_buffer = same_buffer ∙ so.same_buffer;
    same_format = same_format ∙ so.same_format;
    same_filter = same_filter ∙ so.same_filter;
    same_view = same_view ∙ so.same_view;
    took = rw all_lines (subst (λ (l : List ℕ). Took (output (state start.writer.now) (state new.writer.now)) (pairs_in start.format.now start.view (kept_rows start.filter pairs) ++ line) l)
        (append-nil new.buffer.now.items) (took_more _ _ _ _ (old.buffer.now.items ++ line) new.buffer.now.items [] had next));
  }

  pub stopped_at_line : Broke (output (state old.writer.now) (state new.writer.now)) (old.buffer.now.items ++ line) → StoppedAtLine state start new (pairs ++ pair ∷ [])
  stopped_at_line broke = record {
    same_writer = same ∙ so.same_writer;
    broke = rw all_lines (broke_on _ _ _ _ (old.buffer.now.items ++ line) [] had broke);
  }

module _ {W : Type 0} (state : W → OutputState) (start new : PairLines W) (all : List Pair) (writer : W) where
  nothing_yet : start.buffer.now.items ≡ [] → HasLines state start start []
  nothing_yet empty = record {
    same_writer = refl;
    same_buffer = refl;
    same_format = refl;
    same_filter = refl;
    same_view = refl;
    took = subst (λ (l : List ℕ). Took (output (state start.writer.now) (state start.writer.now)) [] l) (sym empty) (begun (state start.writer.now) []);
  }

  -- the lines of all pairs were written but for what the buffer has
  pub wrote_lines : (left : List ℕ) → ((begin : PairLines W) (pairs : List Pair) → HasLines state begin start pairs → HasLines state begin new (pairs ++ all))
      → start.buffer.now.items ≡ []
      → (start.writer.ghost_name ≡ new.writer.ghost_name → writer ≡ new.writer.now) → (start.buffer.ghost_name ≡ new.buffer.ghost_name → left ≡ new.buffer.now.items)
      → Took (output (state start.writer.now) (state writer)) (pairs_in start.format.now start.view (kept_rows start.filter all)) left
  wrote_lines left put empty writer_ends buffer_ends =
      let done = put start [] (nothing_yet empty) in
      rw (writer_ends (sym done.same_writer), buffer_ends (sym done.same_buffer)) done.took

  -- a write of them failed
  pub broke_lines : ((begin : PairLines W) (pairs : List Pair) → HasLines state begin start pairs → StopsAmong (StoppedAtLine state begin new) pairs all)
      → start.buffer.now.items ≡ [] → (start.writer.ghost_name ≡ new.writer.ghost_name → writer ≡ new.writer.now)
      → Broke (output (state start.writer.now) (state writer)) (pairs_in start.format.now start.view (kept_rows start.filter all))
  broke_lines stops empty writer_ends =
      let s = stops start [] (nothing_yet empty) in
      let line = line_in start.format.now start.view in
      let kept = kept_rows start.filter in
      rw (writer_ends (sym s.stopped.same_writer), s.whole, filter-append (is_kept start.filter) s.first s.rest, flat_map-append line (kept s.first) (kept s.rest))
      (broke_within _ (flat_map line (kept s.first)) (flat_map line (kept s.rest)) s.stopped.broke)

pub ok_front : {T E : Type 0} (writer : Output) (text left : List ℕ) (r : Result T E) → WroteFront writer text left r → OnOk r (Took writer text left)
ok_front writer text left (Ok t) took = took
ok_front writer text left (Err e) broke = tt

pub err_front : {T E : Type 0} (writer : Output) (text left : List ℕ) (r : Result T E) → WroteFront writer text left r → OnErr r (Broke writer text)
err_front writer text left (Ok t) took = tt
err_front writer text left (Err e) broke = broke

pub by_result : {T E : Type 0} (P Q : Type 0) (r : Result T E) → OnOk r P → OnErr r Q → MatchResult r (λ _. P) (λ _. Q)
by_result P Q (Ok t) ok err = ok
by_result P Q (Err e) ok err = err
