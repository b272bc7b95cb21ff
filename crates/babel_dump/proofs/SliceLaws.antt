-- A text that is written in slices, one after the other.
use Rattle.std.proofs.Common.{◌≡◌, ℕ, suc, ◌+◌, ◌<◌, ◌≤◌, List, [], ◌∷◌, ◌++◌, length, get_or, take, drop, drop-cons, flat_map, Result}
use Rattle.std.proofs.Common.{Ok, Err, refl, sym, ap, subst, ◌∙◌, append_assoc, append-nil, take-append-drop, arith}
use Rattle.std.proofs.lemmas.List.{drop_all, take_all}
use Rattle.std.proofs.Math.Seq.{take-append-add, take-append_seam}
use Rattle.std.specs.Prelude.{IsErr}
use Rattle.std.specs.Io.KnownBytes.{Appends, Keeps}
use Rattle.std.proofs.KnownBytes.{Appends-kept, Appends-nil, Appends-trans}
use Rattle.babel_dump.specs.Device.{AppendsPrefix, OutputState}
use Rattle.babel_dump.specs.Run.{Output, output}
use Rattle.babel_dump.specs.Slices.{Broke, Took, WroteFront, WroteText}

-- after a front, a prefix of more is one of both
pub prefix_on : (a b c : OutputState) (front more : List ℕ) → Appends a.taken b.taken front → AppendsPrefix b.taken c.taken more
    → AppendsPrefix a.taken c.taken (front ++ more)
prefix_on a b c front more took prefix =
    (length front + prefix.0, rw (take-append-add front more prefix.0) (Appends-trans a.taken b.taken c.taken front _ took prefix.1))

-- a prefix of a part is one of the whole
prefix_of : (a c : OutputState) (part rest : List ℕ) → AppendsPrefix a.taken c.taken part → AppendsPrefix a.taken c.taken (part ++ rest)
prefix_of a c part rest prefix =
    let front = take prefix.0 part in
    let parts : front ++ (drop prefix.0 part ++ rest) ≡ part ++ rest =
    sym (append_assoc front (drop prefix.0 part) rest) ∙ ap (λ (l : List ℕ). l ++ rest) (take-append-drop prefix.0 part) in
    let same : take (length front) (part ++ rest) ≡ front =
    ap (λ (l : List ℕ). take (length front) l) (sym parts) ∙ take-append_seam front (drop prefix.0 part ++ rest) in
    (length front, rw same prefix.1)

-- nothing of it was written yet
pub begun : (a : OutputState) (text : List ℕ) → Took (output a a) text text
begun a text = record { front = []; took = Appends-nil a.taken; parts = refl; no_failure = refl; no_flush = refl }

-- all of it was written
pub took_all : (a b : OutputState) (text : List ℕ) (i : ℕ) → Appends a.taken b.taken (take i text) → length text ≤ i
    → b.failures ≡ a.failures → b.flushes ≡ a.flushes → Took (output a b) text []
took_all a b text i took whole failures flushes = record {
  front = take i text;
  took = took;
  parts = sym (append-nil (take i text) ∙ take_all i text whole);
  no_failure = failures;
  no_flush = flushes;
}

-- of what was left a front was written
pub took_more : (a b c : OutputState) (text left left_then more : List ℕ) → Took (output a b) text (left ++ more) → Took (output b c) left left_then
    → Took (output a c) text (left_then ++ more)
took_more a b c text left left_then more first next = record {
  front = first.front ++ next.front;
  took = Appends-trans a.taken b.taken c.taken first.front next.front first.took next.took;
  parts = first.parts ∙ ap (λ (l : List ℕ). first.front ++ l) (ap (λ (l : List ℕ). l ++ more) next.parts ∙ append_assoc next.front left_then more)
      ∙ sym (append_assoc first.front next.front (left_then ++ more));
  no_failure = next.no_failure ∙ first.no_failure;
  no_flush = next.no_flush ∙ first.no_flush;
}

-- a write of what was left failed
pub broke_on : (a b c : OutputState) (text left more : List ℕ) → Took (output a b) text (left ++ more) → Broke (output b c) left
    → Broke (output a c) text
broke_on a b c text left more first broke = record {
  prefix = rw first.parts (prefix_on a b c first.front (left ++ more) first.took (prefix_of b c left more broke.prefix));
  one_failure = broke.one_failure ∙ ap (λ (n : ℕ). n + 1) first.no_failure;
  no_flush = broke.no_flush ∙ first.no_flush;
}

-- a text was written, but for what is left, which was then written with more, and flushed
pub wrote_last : {T E : Type 0} (a b c : OutputState) (text left after : List ℕ) (r : Result T E) → Took (output a b) text left
    → WroteText (output b c) (left ++ after) r → WroteText (output a c) (text ++ after) r
wrote_last a b c text left after (Ok t) first last =
    let same : text ++ after ≡ first.front ++ (left ++ after) = ap (λ (l : List ℕ). l ++ after) first.parts ∙ append_assoc first.front left after in record {
      whole = rw same (Appends-trans a.taken b.taken c.taken first.front (left ++ after) first.took last.whole);
      flushed = last.flushed ∙ ap (λ (n : ℕ). n + 1) first.no_flush;
      no_failure = last.no_failure ∙ first.no_failure;
      prefix = tt;
      cause = tt;
      one_failure = omega (arith, last.one_failure, first.no_failure);
      one_flush = omega (arith, last.one_flush, first.no_flush);
    }
wrote_last a b c text left after (Err e) first last =
    let same : text ++ after ≡ first.front ++ (left ++ after) = ap (λ (l : List ℕ). l ++ after) first.parts ∙ append_assoc first.front left after in record {
      whole = tt;
      flushed = tt;
      no_failure = tt;
      prefix = rw same (prefix_on a b c first.front (left ++ after) first.took last.prefix);
      cause = omega (arith, last.cause, first.no_failure);
      one_failure = omega (arith, last.one_failure, first.no_failure);
      one_flush = omega (arith, last.one_flush, first.no_flush);
    }

pub front_at_err : {T E : Type 0} (writer : Output) (text left : List ℕ) (r : Result T E) → IsErr r → Broke writer text → WroteFront writer text left r
front_at_err writer text left (Ok t) err broke = absurd cc
front_at_err writer text left (Err e) err broke = broke

-- a line was put behind what is left
pub pushed : (writer : Output) (text left line now more rest : List ℕ) → Took writer text (left ++ more) → now ≡ left ++ line → more ≡ line ++ rest
    → Took writer text (now ++ rest)
pushed writer text left line now more rest first put next =
    let same : left ++ more ≡ now ++ rest =
    ap (λ (l : List ℕ). left ++ l) next ∙ sym (append_assoc left line rest) ∙ ap (λ (l : List ℕ). l ++ rest) (sym put) in
    subst (λ (l : List ℕ). Took writer text l) same first

-- a write of the front of a text failed
pub broke_within : (writer : Output) (text after : List ℕ) → Broke writer text → Broke writer (text ++ after)
broke_within writer text after broke = record {
  prefix = prefix_of writer.old writer.new text after broke.prefix;
  one_failure = broke.one_failure;
  no_flush = broke.no_flush;
}

-- a write of a text failed, so it is not flushed
pub broke_text : {T E : Type 0} (writer : Output) (text : List ℕ) (e : E) → Broke writer text → WroteText {T = T} {E = E} writer text (Err e)
broke_text writer text e broke = record {
  whole = tt;
  flushed = tt;
  no_failure = tt;
  prefix = broke.prefix;
  cause = omega (arith, broke.one_failure);
  one_failure = omega (arith, broke.one_failure);
  one_flush = omega (arith, broke.no_flush);
}

whole_front : (text front : List ℕ) → text ≡ front ++ [] → front ≡ text
whole_front text front parts = sym (parts ∙ append-nil front)

-- a text was written whole, and flushed
pub flushed : {T E : Type 0} (a b c : OutputState) (text : List ℕ) (t : T) → Took (output a b) text [] → Keeps b.taken c.taken
    → c.failures ≡ b.failures → c.flushes ≡ b.flushes + 1 → WroteText {T = T} {E = E} (output a c) text (Ok t)
flushed a b c text t first kept failures flushes = record {
  whole = subst (λ (l : List ℕ). Appends a.taken c.taken l) (whole_front text first.front first.parts) (Appends-kept a.taken b.taken c.taken first.front first.took kept);
  flushed = flushes ∙ ap (λ (n : ℕ). n + 1) first.no_flush;
  no_failure = failures ∙ first.no_failure;
  prefix = tt;
  cause = tt;
  one_failure = omega (arith, failures, first.no_failure);
  one_flush = omega (arith, flushes, first.no_flush);
}

-- a text was written whole, and the flush failed
pub not_flushed : {T E : Type 0} (a b c : OutputState) (text : List ℕ) (e : E) → Took (output a b) text [] → Keeps b.taken c.taken
    → c.failures ≡ b.failures + 1 → c.flushes ≡ b.flushes + 1 → WroteText {T = T} {E = E} (output a c) text (Err e)
not_flushed a b c text e first kept failures flushes = record {
  whole = tt;
  flushed = tt;
  no_failure = tt;
  prefix = (
    length text,
    rw (take_all (length text) text (omega arith))
        (subst (λ (l : List ℕ). Appends a.taken c.taken l) (whole_front text first.front first.parts) (Appends-kept a.taken b.taken c.taken first.front first.took kept)),
  );
  cause = omega (arith, failures, first.no_failure);
  one_failure = omega (arith, failures, first.no_failure);
  one_flush = omega (arith, flushes, first.no_flush);
}

next : (i : ℕ) → suc i ≡ i + 1
next i = omega arith

-- the text of the items from one on
pub next_text : {A : Type 0} (f : A → List ℕ) (xs : List A) (i : ℕ) (x : A) → i < length xs → x ≡ get_or xs i x
    → flat_map f (drop i xs) ≡ f x ++ flat_map f (drop (i + 1) xs)
next_text f xs i x within is =
    ap (flat_map f) (drop-cons xs i x within ∙ ap (λ y. y ∷ drop (suc i) xs) (sym is)) ∙ ap (λ (k : ℕ). f x ++ flat_map f (drop k xs)) (next i)

-- the next of the lines was put behind what is left
pub pushed_next : {A : Type 0} (f : A → List ℕ) (xs : List A) (i : ℕ) (x : A) (writer : Output) (text left now : List ℕ)
    → Took writer text (left ++ flat_map f (drop i xs)) → i < length xs → x ≡ get_or xs i x → now ≡ left ++ f x → Took writer text (now ++ flat_map f (drop (i + 1) xs))
pushed_next f xs i x writer text left now first within is put =
    pushed writer text left (f x) now _ (flat_map f (drop (i + 1) xs)) first put (next_text f xs i x within is)

-- the next of the items was written by itself
pub wrote_next : {A : Type 0} (f : A → List ℕ) (xs : List A) (i : ℕ) (x : A) (a b c : OutputState) (text line : List ℕ)
    → Took (output a b) text (flat_map f (drop i xs)) → i < length xs → x ≡ get_or xs i x → line ≡ f x → Took (output b c) line []
    → Took (output a c) text (flat_map f (drop (i + 1) xs))
wrote_next f xs i x a b c text line first within is put next =
    took_more a b c text (f x) [] (flat_map f (drop (i + 1) xs)) (subst (λ (l : List ℕ). Took (output a b) text l) (next_text f xs i x within is) first)
    (subst (λ (l : List ℕ). Took (output b c) l []) put next)

-- or the write failed
pub broke_next : {A T E : Type 0} (f : A → List ℕ) (xs : List A) (i : ℕ) (x : A) (a b c : OutputState) (text line : List ℕ) (r : Result T E)
    → Took (output a b) text (flat_map f (drop i xs)) → i < length xs → x ≡ get_or xs i x → line ≡ f x → Broke (output b c) line → IsErr r
    → WroteText (output a c) text r
broke_next f xs i x a b c text line (Ok t) first within is put broke err = absurd cc
broke_next f xs i x a b c text line (Err e) first within is put broke err =
    broke_text (output a c) text e (broke_on a b c text (f x) (flat_map f (drop (i + 1) xs))
    (subst (λ (l : List ℕ). Took (output a b) text l) (next_text f xs i x within is) first) (subst (λ (l : List ℕ). Broke (output b c) l) put broke))

-- after the last of them there is nothing to write
pub wrote_none : {A T E : Type 0} (f : A → List ℕ) (xs : List A) (i : ℕ) (a b c : OutputState) (text : List ℕ) (r : Result T E)
    → Took (output a b) text (flat_map f (drop i xs)) → length xs ≤ i → WroteText (output b c) [] r → WroteText (output a c) text r
wrote_none f xs i a b c text r first past last =
    subst (λ (l : List ℕ). WroteText (output a c) l r) (append-nil text)
    (wrote_last a b c text [] [] r (subst (λ (l : List ℕ). Took (output a b) text l) (ap (flat_map f) (drop_all i xs past)) first) last)

-- the same of an item by its place
pub pushed_at : {A : Type 0} (f : A → List ℕ) (xs : List A) (i : ℕ) (d : A) (writer : Output) (text left now : List ℕ)
    → Took writer text (left ++ flat_map f (drop i xs)) → i < length xs → now ≡ left ++ f (get_or xs i d) → Took writer text (now ++ flat_map f (drop (i + 1) xs))
pushed_at f xs i d writer text left now first within put =
    pushed writer text left (f (get_or xs i d)) now _ (flat_map f (drop (i + 1) xs)) first put
    (ap (flat_map f) (drop-cons xs i d within) ∙ ap (λ (k : ℕ). f (get_or xs i d) ++ flat_map f (drop k xs)) (next i))
