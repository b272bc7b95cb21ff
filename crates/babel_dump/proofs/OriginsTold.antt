-- What the senders in captures originate, one after another.
use Rattle.std.proofs.Common.{◌≡◌, ℕ, List, [], ◌∷◌, ◌++◌, flat_map, map, Option, None, Some, refl, sym, ap, subst, ◌∙◌, append_assoc, append-nil, add-one, arith, Err, Ok, Result, ◌+◌, ◌<◌, ◌≤◌, suc, zero, length, drop, get_or, slice_set}
use Rattle.std.specs.Io.KnownBytes.{Appends}
use Rattle.std.specs.List.{AllByRecursion, Any}
use Rattle.std.specs.Prelude.{IfSome, OnOk}
use Rattle.std.specs.List.Sorted.{IsStrictlySortedBy}
use Rattle.std.specs.Map.{keys_of}
use Rattle.std.proofs.lemmas.Grind.{flat_map-append}
use Rattle.std.proofs.lemmas.List.{drop_all, map-append}
use Rattle.babel_capture.specs.Counts.{Made}
use Rattle.babel_capture.specs.contracts.tallies.OriginOrd.TheImpl.{ghosts}
use Rattle.babel_capture.specs.declared.tallies.Origin.{Origin}
use Rattle.babel_table.specs.Rows.{Routes}
use Rattle.babel_timeline.proofs.WordLaws.{all_more}
use Rattle.babel_tlv.specs.Pair.{Pair}
use Rattle.babel_dump.specs.AskedRun.{AreAllReadOn, AreReadOn, CaptureRoutes, GaveOn, HaveDump, IsDump, IsMisplacedIn, IsReadOn, WroteOrigins, misplaced_told}
use Rattle.babel_dump.specs.CaptureGiven.{made_in}
use Rattle.babel_dump.specs.EachSender.{AreOwn}
use Rattle.babel_dump.specs.Fed.{AreWhole}
use Rattle.babel_dump.specs.Filter.{kept_rows}
use Rattle.babel_dump.specs.Originated.{AreOriginated, TakesMore}
use Rattle.babel_dump.specs.OriginText.{origins_in, origins_status}
use Rattle.babel_dump.specs.OriginsMade.{TakesRead, TakesSenders}
use Rattle.babel_dump.specs.Packets.{packets_made}
use Rattle.babel_dump.specs.PairsMade.{heard_in}
use Rattle.babel_dump.specs.Run.{Output}
use Rattle.babel_dump.specs.ToldOrigins.{OwnRoutes, rows_of_all}
use Rattle.babel_dump.specs.ToldPairs.{IsOwnRead}
use Rattle.babel_dump.specs.declared.capture_input.CaptureRead.{CaptureRead}
use Rattle.babel_dump.specs.declared.done.Done.{Done}
use Rattle.babel_dump.specs.declared.each_sender.EachSender.{EachSender}
use Rattle.babel_dump.specs.declared.each_sender.SendersRead.{SendersRead}
use Rattle.babel_dump.specs.declared.filter.Filter.{Filter}
use Rattle.babel_dump.specs.declared.origins_job.Origins.{Origins}
use Rattle.babel_dump.specs.declared.run_fault.Side.{Side}
use Rattle.babel_dump.specs.declared.run_fault.Side.TheVariants as sides
use Rattle.babel_dump.specs.declared.sender_tables.SenderTable.{SenderTable}
use Rattle.babel_dump.specs.declared.trouble.Trouble.{Trouble}
use Rattle.babel_dump.proofs.OriginatedLaws.{All, takes_both, takes_none}
use Rattle.babel_dump.proofs.ToldSenders.{Entries, IsFedIn, all_fed}

-- what a stream gives, if that is known
abbrev pub Stream : Type 0
Stream = Option (List ℕ)

-- a sender's table is its own
abbrev pub IsReadOwn : EachSender → CaptureRead → List Made → OwnRoutes → Type 0
IsReadOwn each read made one = IsOwnRead each (heard_in read made) one.origin (Some one.table)

-- the rows of some senders are taken, and these are left
pub record Taking (filter : Filter) (side : Side) (each : EachSender) (read : CaptureRead) (entries left : Entries) (before now : All) : Type 0 where
  pub found : List OwnRoutes
  pub of_each : map (λ one. one.origin) found ++ keys_of left ≡ keys_of entries
  pub are_own : (made : List Made) → AreWhole (packets_made made) → AreOwn each made entries → AllByRecursion (IsReadOwn each read made) found
  pub fed : (made : List Made) → AreOwn each made entries → AllByRecursion (IsFedIn each made) left
  pub takes : TakesMore side (rows_of_all filter found) before now

module _ (filter : Filter) (side : Side) (each : EachSender) (read : CaptureRead) (entries : Entries) (before : All) where
  pub taking_none : (left : Entries) → left ≡ entries → IsStrictlySortedBy ghosts.cmp (keys_of entries) → Taking filter side each read entries left before before
  taking_none left all sorted = subst (λ (some : Entries). Taking filter side each read entries some before before) (sym all) (record {
    found = [];
    of_each = refl;
    are_own = λ made whole own. tt;
    fed = λ made own. all_fed each made entries sorted own;
    takes = takes_none side before;
  })

  pub taking_more : (origin : Origin) (table : SenderTable) (left : Entries) (own : Routes) (now after : All) → Taking filter side each read entries ((origin, table) ∷ left) before now
      → ((made : List Made) → AreWhole (packets_made made) → IsFedIn each made (origin, table) → IsOwnRead each (heard_in read made) origin (Some own))
      → TakesMore side (kept_rows filter own.rows) now after → Taking filter side each read entries left before after
  taking_more origin table left own now after was is_own takes =
      let one : OwnRoutes = record { origin = origin; table = own } in
      let origins = map-append (λ (o : OwnRoutes). o.origin) was.found (one ∷ []) in
      let assoc = append_assoc (map (λ (o : OwnRoutes). o.origin) was.found) (origin ∷ []) (keys_of left) in
      let were = was.of_each in
      let rows : rows_of_all filter (was.found ++ one ∷ []) ≡ rows_of_all filter was.found ++ kept_rows filter own.rows =
      flat_map-append (λ (o : OwnRoutes). kept_rows filter o.table.rows) was.found (one ∷ [])
      ∙ ap (λ (l : List Pair). rows_of_all filter was.found ++ l) (append-nil (kept_rows filter own.rows)) in
      record {
        found = was.found ++ one ∷ [];
        of_each = cc;
        are_own = λ made whole has. all_more (IsReadOwn each read made) was.found one (was.are_own made whole has) (is_own made whole (was.fed made has).0);
        fed = λ made has. (was.fed made has).1;
        takes = subst (λ (l : List Pair). TakesMore side l before after) (sym rows) (takes_both side (rows_of_all filter was.found) (kept_rows filter own.rows) before now after was.takes takes);
      }

  pub taking_all : (left : Entries) (after : All) → left ≡ [] → Taking filter side each read entries left before after → (made : List Made) → AreWhole (packets_made made) → AreOwn each made entries
      → TakesSenders filter side each (heard_in read made) (keys_of entries) before after
  taking_all left after none all made whole own = record {
    found = all.found;
    are_read = record {
      of_each = sym (append-nil (map (λ (o : OwnRoutes). o.origin) all.found)) ∙ ap (λ (l : Entries). map (λ (o : OwnRoutes). o.origin) all.found ++ keys_of l) (sym none) ∙ all.of_each;
      are_own = all.are_own made whole own;
    };
    takes = all.takes;
  }

-- ---- of a capture, and of more

-- what holds anyhow
pub on_any : {A E B : Type 0} (result : Result A E) → B → OnOk result B
on_any (Ok a) holds = holds
on_any (Err e) holds = tt

pub takes_read : (filter : Filter) (side : Side) (each : EachSender) (stream : Stream) (senders : SendersRead) (before after : All) → GaveOn each stream senders
    → ((made : List Made) → AreWhole (packets_made made) → AreOwn each made senders.tables.entries
    → TakesSenders filter side each (heard_in senders.read made) (keys_of senders.tables.entries) before after)
    → TakesRead filter side (AreReadOn each stream) before after
takes_read filter side each stream senders before after on takes =
    let of_all = takes (made_in on.gave.gave.given) on.gave.whole on.gave.are_own in
    record {
      found = of_all.found;
      read = record { senders = senders; on = on; are_read = of_all.are_read };
      takes = of_all.takes;
    }

found_of : CaptureRoutes → List OwnRoutes
found_of one = one.found

IsOneRead : EachSender → CaptureRoutes → Type 0
IsOneRead each one = AreReadOn each one.stream one.found

-- the captures of these streams are read
none_read : (each : EachSender) → AreAllReadOn each [] []
none_read each = record { captures = []; of_each = refl; are_read = tt; of_all = refl }

next_read : (each : EachSender) (streams : List Stream) (stream : Stream) (found more : List OwnRoutes) → AreAllReadOn each streams found → AreReadOn each stream more
    → AreAllReadOn each (streams ++ stream ∷ []) (found ++ more)
unfolding IsOneRead found_of
next_read each streams stream found more was read =
    let one : CaptureRoutes = record { stream = stream; found = more } in
    record {
      captures = was.captures ++ one ∷ [];
      of_each = map-append (λ (o : CaptureRoutes). o.stream) was.captures (one ∷ []) ∙ ap (λ (l : List Stream). l ++ stream ∷ []) was.of_each;
      are_read = all_more (IsOneRead each) was.captures one was.are_read read;
      of_all = ap (λ (l : List OwnRoutes). l ++ more) was.of_all ∙ ap (λ (l : List OwnRoutes). flat_map found_of was.captures ++ l) (sym (append-nil more))
          ∙ sym (flat_map-append found_of was.captures (one ∷ []));
    }

-- some of these streams are read, and these are left
pub record TakingMore (filter : Filter) (side : Side) (each : EachSender) (streams left : List Stream) (before now : All) : Type 0 where
  pub seen : List Stream
  pub of_all : seen ++ left ≡ streams
  pub taken : TakesRead filter side (AreAllReadOn each seen) before now

module _ (filter : Filter) (side : Side) (each : EachSender) (streams : List Stream) (before : All) where
  pub taking_no_capture : TakingMore filter side each streams streams before before
  taking_no_capture = record {
    seen = [];
    of_all = refl;
    taken = record { found = []; read = none_read each; takes = takes_none side before };
  }

  pub taking_capture : (stream : Stream) (left : List Stream) (now after : All) → TakingMore filter side each streams (stream ∷ left) before now
      → TakesRead filter side (AreReadOn each stream) now after → TakingMore filter side each streams left before after
  taking_capture stream left now after was more =
      let were = was.taken in
      let rows : rows_of_all filter (were.found ++ more.found) ≡ rows_of_all filter were.found ++ rows_of_all filter more.found =
      flat_map-append (λ (o : OwnRoutes). kept_rows filter o.table.rows) were.found more.found in
      record {
        seen = was.seen ++ stream ∷ [];
        of_all = append_assoc was.seen (stream ∷ []) left ∙ was.of_all;
        taken = record {
          found = were.found ++ more.found;
          read = next_read each was.seen stream were.found more.found were.read more.read;
          takes = subst (λ (l : List Pair). TakesMore side l before after) (sym rows)
              (takes_both side (rows_of_all filter were.found) (rows_of_all filter more.found) before now after were.takes more.takes);
        };
      }

  pub taking_captures : (left : List Stream) (after : All) → left ≡ [] → TakingMore filter side each streams left before after → TakesRead filter side (AreAllReadOn each streams) before after
  taking_captures left after none all =
      subst (λ (s : List Stream). TakesRead filter side (AreAllReadOn each s) before after)
      (sym (append-nil all.seen) ∙ ap (λ (l : List Stream). all.seen ++ l) (sym none) ∙ all.of_all) all.taken

pub takes_nothing : (filter : Filter) (side : Side) (each : Option EachSender) (streams : List Stream) (all : All) → None ≡ each → TakesRead filter side (IsReadOn each streams) all all
takes_nothing filter side each streams all none =
    subst (λ (e : Option EachSender). TakesRead filter side (IsReadOn e streams) all all) none (record { found = []; read = refl; takes = takes_none side all })

-- ---- a dump among them

some_so : {A : Type 0} {P Q : A → Type 0} (option : Option A) → ((a : A) → P a → Q a) → IfSome option P → IfSome option Q
some_so None then holds = tt
some_so (Some a) then holds = then a holds

pub misplaced_so : {A B : Type 0} (trouble : Trouble) → (A → B) → IsMisplacedIn A trouble → IsMisplacedIn B trouble
misplaced_so trouble then is = some_so (misplaced_told trouble) (λ option told. (told.0, then told.1)) is

any_at : {A : Type 0} (P : A → Type 0) (seen : List A) (one : A) (left : List A) → P one → Any P (seen ++ one ∷ left)
any_at P [] one left holds = (0, one, omega arith, refl, holds)
any_at P (first ∷ seen) one left holds =
    let there = any_at P seen one left holds in
    (suc there.0, there.1, omega arith, there.3, there.4)

pub have_dump : (streams seen : List Stream) (one : Stream) (left : List Stream) → seen ++ one ∷ left ≡ streams → IsDump one → HaveDump streams
have_dump streams seen one left all dump = subst HaveDump all (any_at IsDump seen one left dump)

-- where the streams that are left begin with this one, it is one of all
pub refused_more : (filter : Filter) (side : Side) (each : EachSender) (streams : List Stream) (stream : Stream) (left : List Stream) (before now : All) (trouble : Trouble)
    → TakingMore filter side each streams (stream ∷ left) before now → IsMisplacedIn (IsDump stream) trouble → IsMisplacedIn (HaveDump streams) trouble
refused_more filter side each streams stream left before now trouble was is = misplaced_so trouble (have_dump streams was.seen stream left was.of_all) is

-- ---- readers that are left, of which the first is read

left_suc : {A B : Type 0} (f : A → B) (xs : List A) (i : ℕ) (d v : A) → i < length xs → map f (drop i xs) ≡ f (get_or xs i d) ∷ map f (drop (suc i) (slice_set xs i v))
left_suc f [] i d v within = absurd (omega (arith, within))
left_suc f (y ∷ xs) zero d v within = refl
left_suc f (y ∷ xs) (suc i) d v within = left_suc f xs i d v (omega (arith, within))

pub left_at : {A B : Type 0} (f : A → B) (xs : List A) (i : ℕ) (d v : A) → i < length xs → map f (drop i xs) ≡ f (get_or xs i d) ∷ map f (drop (i + 1) (slice_set xs i v))
left_at f xs i d v within = rw add-one (left_suc f xs i d v within)

pub none_left : {A B : Type 0} (f : A → B) (xs : List A) (i : ℕ) → length xs ≤ i → map f (drop i xs) ≡ []
none_left f xs i past = ap (map f) (drop_all i xs past)

-- ---- what was written

pub wrote_origins : (origins : Origins) (streams others : List Stream) (writer : Output) (first mid all : All) (lines text : List ℕ) (status : ℕ) (done : Done)
    → AreOriginated first [] [] → TakesRead origins.filter sides.First (AreAllReadOn origins.left streams) first mid
    → TakesRead origins.filter sides.Other (IsReadOn origins.right others) mid all
    → lines ≡ origins_in origins all → status ≡ origins_status origins all → text ≡ lines → Appends writer.old.taken writer.new.taken text → done.status ≡ status
    → WroteOrigins origins streams others writer done
wrote_origins origins streams others writer first mid all lines text status done none left right lines_are status_is same wrote done_is = record {
  left = left.found;
  right = right.found;
  first = left.read;
  second = right.read;
  all = all;
  are = right.takes.takes _ _ (left.takes.takes [] [] none);
  wrote = subst (Appends writer.old.taken writer.new.taken) (same ∙ lines_are) wrote;
  status = done_is ∙ status_is;
}
