-- Octets that a feeder takes, within the limit on all.
use Rattle.std.proofs.Common.{◌≡◌, ◌≢◌, ℕ, ◌+◌, ◌-◌, ◌<◌, ◌≤◌, Bool, List, [], ◌∷◌, ◌++◌, length, take, drop, Option, Some, None, refl, sym, ap, subst, ◌∙◌, append_assoc, inl, inr, arith}
use Rattle.std.specs.Prelude.{◌⊎◌, Result, Ok, Err, IfOk, IfErr}
use Rattle.std.specs.List.{flat_map}
use Rattle.std.proofs.Math.Seq.{take-append-add}
use Rattle.std.proofs.lemmas.List.{append-nil, length-append, length-take, take-append-drop, take_all, take_at}
use Rattle.babel_prefix.specs.Address.{Address}
use Rattle.babel_prefix.specs.Entries.{answer_for}
use Rattle.babel_tlv.specs.declared.fault.Fault.{Fault}
use Rattle.babel_tlv.specs.declared.fault.Fault.TheVariants as faults
use Rattle.babel_tlv.specs.declared.held.Held.{Held}
use Rattle.babel_tlv.specs.declared.mode.Mode.{Mode}
use Rattle.babel_tlv.specs.declared.start.Start.{Start}
use Rattle.babel_tlv.specs.Route.{RouteKey}
use Rattle.babel_tlv.specs.Framing.{ReadsAs, packet_octets}
use Rattle.babel_tlv.specs.Says.{sayings}
use Rattle.babel_table.specs.Answers.{IsAnswerOf}
use Rattle.babel_table.specs.RowFor.{IsBestOf, held_of, row_for}
use Rattle.babel_table.specs.Bounds.{Bounds, start_of}
use Rattle.babel_table.specs.Counts.{Counts, counts_of}
use Rattle.babel_table.specs.TableOf.{IsTableOf}
use Rattle.babel_table.specs.DumpFault.{DumpFault, HasNoFault, IsTruncated, MayGoOn, StreamFault}
use Rattle.babel_table.specs.Feeding.{StandsBehind, TookPackets, StopsWithin, Progress, IsPartial, IsLasting, NeedsMemory, HasTaken, HasFailed, HasReadTo, HasRead, routes}
use Rattle.babel_table.specs.Rows.{Routes, entries_of}
use Rattle.babel_table.specs.Words.{TimedRows}
use Rattle.babel_table.specs.declared.answer.Answer.{Answer}
use Rattle.babel_table.proofs.FineLaws.{stands-none}
use Rattle.babel_table.proofs.DumpLaws.{HasTakenTo, HasStopped, taken-then, stopped-then, only_truncated, truncated}

-- ---- faults that last

lasting-memory : (fault : Fault) → fault ≡ faults.Memory → IsLasting fault → ⊥
lasting-memory fault is lasting = subst IsLasting is lasting

lasting-truncated : (fault : Fault) → IsLasting fault → IsTruncated fault → ⊥
lasting-truncated (faults.Truncated at) lasting truncated = lasting
lasting-truncated (faults.BadMagic at) lasting truncated = truncated
lasting-truncated (faults.BadVersion at) lasting truncated = truncated
lasting-truncated (faults.TlvPastEnd at) lasting truncated = truncated
lasting-truncated (faults.EncodingSetsRouterId at) lasting truncated = truncated
lasting-truncated (faults.TooManyRoutes at) lasting truncated = truncated
lasting-truncated faults.TooLong lasting truncated = truncated
lasting-truncated faults.TooManyPairs lasting truncated = truncated
lasting-truncated faults.Memory lasting truncated = truncated

-- ---- the limit on octets

take-within : (bytes : ℕ) (front more : List ℕ) → length front ≤ bytes → take bytes (front ++ more) ≡ front ++ take (bytes - length front) more
take-within bytes front more fits =
    ap (λ (n : ℕ). take n (front ++ more)) (omega (arith, fits)) ∙ take-append-add front more (bytes - length front)

module _ (limits : Bounds) (mode : Mode) (sender : Address) where
  -- a fault of octets within the limit stays that of the dump
  dump_fault : (front more : List ℕ) (fault : Fault) → length front ≤ limits.bytes → ¬ IsTruncated fault
      → ((more : List ℕ) → StreamFault mode limits.entries (start_of limits sender) (front ++ more) fault) → DumpFault limits mode sender (front ++ more) fault
  dump_fault front more fault fits whole stream = inl (
    subst (λ (t : List ℕ). StreamFault mode limits.entries (start_of limits sender) t fault) (sym (take-within limits.bytes front more fits))
        (stream (take (limits.bytes - length front) more)),
    λ cut. absurd (whole cut),
  )

  -- octets up to the limit that were taken, and more behind them
  too_long : (table : Routes) (at : ℕ) (pending front more : List ℕ) → HasTakenTo mode limits.entries (start_of limits sender) table at pending front → length front ≡ limits.bytes → more ≢ []
      → DumpFault limits mode sender (front ++ more) faults.TooLong
  too_long table at pending front [] taken fits some = absurd (some refl)
  too_long table at pending front (x ∷ more) taken fits some =
      inr (
        omega (arith, fits, length-append front (x ∷ more)),
        refl,
        λ other stream.
            (only_truncated mode limits.entries (start_of limits sender) table at pending front taken other
            (subst (λ (t : List ℕ). StreamFault mode limits.entries (start_of limits sender) t other) (take_at front (x ∷ more) limits.bytes fits) stream)).0,
      )

needs-more : (mode : Mode) (start : Start) (octets more : List ℕ) → NeedsMemory mode start octets → NeedsMemory mode start (octets ++ more)
needs-more mode start octets more (packets, rest, reads, grows) = (
  packets,
  rest ++ more,
  record { whole = ap (λ (t : List ℕ). t ++ more) reads.whole ∙ append_assoc (flat_map packet_octets packets) rest more; placed = reads.placed },
  grows,
)

-- ---- a feeder

module _ (p : Progress) where
  taken-to : (fed : List ℕ) → HasTaken p fed → HasTakenTo p.mode p.limits.entries (start_of p.limits p.sender) p.table p.at p.pending fed
  taken-to fed taken = record { packets = taken.packets; reads = taken.reads; partial = taken.partial; place = taken.place; stands = taken.stands }

  length-fed : (fed : List ℕ) → HasTaken p fed → length fed ≡ p.at + length p.pending
  length-fed fed taken = omega (arith, taken.place, ap length taken.reads.whole, length-append (flat_map packet_octets taken.packets) p.pending)

  -- octets that were taken are only cut off, where some are pending
  only_cut : (fed : List ℕ) (taken : HasTaken p fed) (fault : Fault) → DumpFault p.limits p.mode p.sender fed fault → IsTruncated fault × (p.pending ≡ [] → ⊥)
  only_cut fed taken fault (inl (stream, whole)) = only_truncated p.mode p.limits.entries (start_of p.limits p.sender) p.table p.at p.pending fed (taken-to fed taken) fault
      (subst (λ (t : List ℕ). StreamFault p.mode p.limits.entries (start_of p.limits p.sender) t fault) (take_all p.limits.bytes fed taken.in_limit) stream)
  only_cut fed taken fault (inr (past, is, all)) = absurd (omega (arith, past, taken.in_limit))

  pub may_go_on : (fed : List ℕ) → HasTaken p fed → MayGoOn p.limits p.mode p.sender fed
  may_go_on fed taken fault faulty = (only_cut fed taken fault faulty).0

  pub no_fault : (fed : List ℕ) → HasTaken p fed → p.pending ≡ [] → HasNoFault p.limits p.mode p.sender fed
  no_fault fed taken none fault faulty = (only_cut fed taken fault faulty).1 none

  -- octets that end within a packet are cut off
  pub cut_off : (fed : List ℕ) → HasTaken p fed → p.pending ≢ [] → DumpFault p.limits p.mode p.sender fed (faults.Truncated p.at)
  cut_off fed taken some = inl (
    subst (λ (t : List ℕ). StreamFault p.mode p.limits.entries (start_of p.limits p.sender) t (faults.Truncated p.at)) (sym (take_all p.limits.bytes fed taken.in_limit))
        (truncated p.mode p.limits.entries (start_of p.limits p.sender) p.table p.at p.pending fed (taken-to fed taken) some),
    λ cut. taken.in_limit,
  )

  pub table_of : (fed : List ℕ) → HasTaken p fed → p.pending ≡ [] → IsTableOf p.limits p.mode p.sender fed p.table
  table_of fed taken none = record {
    packets = taken.packets;
    said = taken.stands.events;
    reads = subst (λ (rest : List ℕ). ReadsAs fed taken.packets rest) none taken.reads;
    fine = taken.stands.fine;
    rows = taken.stands.rows;
    report = taken.stands.report;
  }

  -- why octets are not taken is why the feeder has failed
  failed-within : (octets fed : List ℕ) (fault : Fault) → HasTaken p fed → StopsWithin p.limits.bytes p.mode p.limits.entries (start_of p.limits p.sender) p.at p.pending
      octets p.table fault → HasFailed p fault (fed ++ octets)
  failed-within octets fed fault taken why =
      subst (HasFailed p fault) (append_assoc fed near far ∙ ap (λ (t : List ℕ). fed ++ t) (take-append-drop room octets)) (by why)
    where
      room : ℕ
      room = p.limits.bytes - (p.at + length p.pending)

      near : List ℕ
      near = take room octets

      far : List ℕ
      far = drop room octets

      fits : length (fed ++ near) ≤ p.limits.bytes
      fits = omega (arith, length-append fed near, length-take room octets, length-fed fed taken, taken.in_limit)

      exact : p.limits.bytes < p.at + length (p.pending ++ octets) → length (fed ++ near) ≡ p.limits.bytes
      exact long = omega (arith, long, length-append p.pending octets, length-append fed near, length-take room octets, length-fed fed taken, taken.in_limit)

      behind : p.limits.bytes < p.at + length (p.pending ++ octets) → far ≢ []
      behind long none =
          let all : octets ≡ near = sym (take-append-drop room octets) ∙ ap (λ (t : List ℕ). near ++ t) none ∙ append-nil near in
          absurd (omega (arith, long, length-append p.pending octets, ap length all, length-take room octets, length-fed fed taken, taken.in_limit))

      by : StopsWithin p.limits.bytes p.mode p.limits.entries (start_of p.limits p.sender) p.at p.pending octets p.table fault → HasFailed p fault ((fed ++ near) ++ far)
      by (inl stops) = settle (stopped-then p.mode p.limits.entries (start_of p.limits p.sender) p.table p.at p.pending fed near fault (taken-to fed taken) stops)
        where
          settle : HasStopped p.mode p.limits.entries (start_of p.limits p.sender) (fed ++ near) fault → HasFailed p fault ((fed ++ near) ++ far)
          settle (inl (memory, needs)) = inl (memory, needs-more p.mode (start_of p.limits p.sender) (fed ++ near) far needs)
          settle (inr (lasting, stream)) =
              inr (
                lasting,
                λ more. subst (λ (t : List ℕ). DumpFault p.limits p.mode p.sender t fault) (sym (append_assoc (fed ++ near) far more))
                    (dump_fault p.limits p.mode p.sender (fed ++ near) (far ++ more) fault fits (lasting-truncated fault lasting) stream),
              )
      by (inr (is, long, now, rest, place, took, partial)) =
          inr (
            subst IsLasting (sym is) tt,
            λ more. subst (λ (t : List ℕ). DumpFault p.limits p.mode p.sender t fault) (sym (append_assoc (fed ++ near) far more))
                (subst (λ (f : Fault). DumpFault p.limits p.mode p.sender ((fed ++ near) ++ (far ++ more)) f) (sym is)
                (too_long p.limits p.mode p.sender now place rest (fed ++ near) (far ++ more)
                (taken-then p.mode p.limits.entries (start_of p.limits p.sender) p.table now p.at place p.pending rest fed near (taken-to fed taken) took partial) (exact long)
                (some far more (behind long)))),
          )
        where
          some : (xs more : List ℕ) → xs ≢ [] → (xs ++ more) ≢ []
          some [] more not = absurd (not refl)
          some (x ∷ xs) more not = λ e. absurd cc

  failed-more : (octets fed : List ℕ) (fault : Fault) → HasFailed p fault fed → HasFailed p fault (fed ++ octets)
  failed-more octets fed fault (inl (memory, needs)) = inl (memory, needs-more p.mode (start_of p.limits p.sender) fed octets needs)
  failed-more octets fed fault (inr (lasting, dump)) =
      inr (lasting, λ more. subst (λ (t : List ℕ). DumpFault p.limits p.mode p.sender t fault) (sym (append_assoc fed octets more)) (dump (octets ++ more)))

  pub failed-fault : (octets : List ℕ) (fault : Fault) → HasFailed p fault octets → fault ≢ faults.Memory → (more : List ℕ) → DumpFault p.limits p.mode p.sender (octets ++ more) fault
  failed-fault octets fault (inl (memory, needs)) not = absurd (not memory)
  failed-fault octets fault (inr (lasting, dump)) not = dump

  pub failed-memory : (octets : List ℕ) (fault : Fault) → HasFailed p fault octets → fault ≡ faults.Memory → NeedsMemory p.mode (start_of p.limits p.sender) octets
  failed-memory octets fault (inl (memory, needs)) is = needs
  failed-memory octets fault (inr (lasting, dump)) is = absurd (lasting-memory fault is lasting)

  -- without a fault a feeder has taken what it was fed
  pub read-taken : (fed : List ℕ) → p.fault ≡ None → HasRead p fed → HasTaken p fed
  read-taken fed is read = subst (λ (f : Option Fault). HasReadTo p f fed) is read

  pub read-failed : (fed : List ℕ) (fault : Fault) → p.fault ≡ Some fault → HasRead p fed → HasFailed p fault fed
  read-failed fed fault is read = subst (λ (f : Option Fault). HasReadTo p f fed) is read

  pub stays-failed : (octets fed : List ℕ) (fault : Fault) → p.fault ≡ Some fault → HasRead p fed → HasFailed p fault (fed ++ octets)
  stays-failed octets fed fault is read = failed-more octets fed fault (read-failed fed fault is read)

  pub stays-read : (octets fed : List ℕ) (fault : Fault) → p.fault ≡ Some fault → HasRead p fed → HasRead p (fed ++ octets)
  stays-read octets fed fault is read = subst (λ (f : Option Fault). HasReadTo p f (fed ++ octets)) (sym is) (stays-failed octets fed fault is read)

  pub stops-failed : (octets fed : List ℕ) (fault : Fault) → p.fault ≡ None
      → StopsWithin p.limits.bytes p.mode p.limits.entries (start_of p.limits p.sender) p.at p.pending octets p.table fault → HasRead p fed → HasFailed p fault (fed ++ octets)
  stops-failed octets fed fault is why read = failed-within octets fed fault (read-taken fed is read) why

-- the next value of a feeder
module _ (p q : Progress) (same_limits : q.limits ≡ p.limits) (same_mode : q.mode ≡ p.mode) (same_sender : q.sender ≡ p.sender) where
  pub taken-next : (octets fed : List ℕ) → p.fault ≡ None → q.at + length q.pending ≤ p.limits.bytes
      → TookPackets p.mode p.limits.entries (start_of p.limits p.sender) p.at (p.pending ++ octets) p.table q.table q.pending q.at → IsPartial q.pending
      → HasRead p fed → HasTaken q (fed ++ octets)
  taken-next octets fed is fits took partial read =
      let taken : HasTaken p fed = read-taken p fed is read in
      let next : HasTakenTo p.mode p.limits.entries (start_of p.limits p.sender) q.table q.at q.pending (fed ++ octets) =
      taken-then p.mode p.limits.entries (start_of p.limits p.sender) p.table q.table p.at q.at p.pending q.pending fed octets (taken-to p fed taken) took partial in
      let at_sender = subst (λ (s : Address). StandsBehind p.mode p.limits.entries q.table (sayings (start_of p.limits s) next.packets)) (sym same_sender) next.stands in
      let at_mode = subst (λ (m : Mode). StandsBehind m p.limits.entries q.table (sayings (start_of p.limits q.sender) next.packets)) (sym same_mode) at_sender in
      record {
        packets = next.packets;
        in_limit = rw same_limits (omega (arith, fits, ap length next.reads.whole, length-append (flat_map packet_octets next.packets) q.pending, next.place));
        reads = next.reads;
        partial = partial;
        place = next.place;
        stands = subst (λ (b : Bounds). StandsBehind q.mode b.entries q.table (sayings (start_of b q.sender) next.packets)) (sym same_limits) at_mode;
      }

  pub may_go_on-next : (octets : List ℕ) → HasTaken q octets → MayGoOn p.limits p.mode p.sender octets
  may_go_on-next octets taken =
      subst (λ (b : Bounds). MayGoOn b p.mode p.sender octets) same_limits
      (subst (λ (m : Mode). MayGoOn q.limits m p.sender octets) same_mode
      (subst (λ (s : Address). MayGoOn q.limits q.mode s octets) same_sender (may_go_on q octets taken)))

  pub failed-next : (octets : List ℕ) (fault : Fault) → HasFailed p fault octets → HasFailed q fault octets
  failed-next octets fault (inl (memory, needs)) =
      inl (
        memory,
        subst (λ (b : Bounds). NeedsMemory q.mode (start_of b q.sender) octets) (sym same_limits)
            (subst (λ (m : Mode). NeedsMemory m (start_of p.limits q.sender) octets) (sym same_mode)
            (subst (λ (s : Address). NeedsMemory p.mode (start_of p.limits s) octets) (sym same_sender) needs)),
      )
  failed-next octets fault (inr (lasting, dump)) =
      inr (
        lasting,
        λ more.
            subst (λ (b : Bounds). DumpFault b q.mode q.sender (octets ++ more) fault) (sym same_limits)
            (subst (λ (m : Mode). DumpFault p.limits m q.sender (octets ++ more) fault) (sym same_mode)
            (subst (λ (s : Address). DumpFault p.limits p.mode s (octets ++ more) fault) (sym same_sender) (dump more))),
      )

-- a feeder without a fault stands where it has taken to
pub taken-read : (p : Progress) (octets : List ℕ) → p.fault ≡ None → HasTaken p octets → HasRead p octets
taken-read p octets is taken = subst (λ (f : Option Fault). HasReadTo p f octets) (sym is) taken

-- the limits as a feeder names them
pub stops-within : (bytes b : ℕ) (mode : Mode) (entries e : ℕ) (start s : Start) (at : ℕ) (pending octets : List ℕ) (old : Routes) (fault : Fault) → b ≡ bytes → e ≡ entries → s ≡ start
    → StopsWithin b mode e s at pending octets old fault → StopsWithin bytes mode entries start at pending octets old fault
stops-within bytes b mode entries e start s at pending octets old fault is_b is_e is_s stops =
    subst (λ (x : Start). StopsWithin bytes mode entries x at pending octets old fault) is_s
    (subst (λ (n : ℕ). StopsWithin bytes mode n s at pending octets old fault) is_e (subst (λ (n : ℕ). StopsWithin n mode e s at pending octets old fault) is_b stops))

abbrev begun : Address → Bool → Start
begun sender via_v6 = record { sender = sender; via_v6 = via_v6 }

-- packets begin with what the limits and the sender give
pub started : (start : Start) (limits : Bounds) → start.via_v6 ≡ limits.via_v6 → start ≡ start_of limits start.sender
started start limits is = ap (begun start.sender) is

-- a feeder that was fed nothing
pub taken-none : (limits : Bounds) (mode : Mode) (sender : Address) (rows : List (RouteKey × Held)) (report : Counts) (pending : List ℕ)
    (runs : Bool) (factor time : ℕ) (words : TimedRows) → rows ≡ [] → report ≡ counts_of [] → pending ≡ []
    → HasTaken (record {
      limits = limits;
      mode = mode;
      sender = sender;
      table = routes rows report;
      at = 0;
      pending = pending;
      fault = None;
      runs = runs;
      factor = factor;
      time = time;
      words = words;
    }) []
taken-none limits mode sender rows report pending runs factor time words is_rows is_report is_pending = record {
  packets = [];
  in_limit = omega arith;
  reads = record { whole = sym is_pending; placed = tt };
  partial = inl (omega (arith, ap length is_pending));
  place = refl;
  stands = subst (λ (r : List (RouteKey × Held)). StandsBehind mode limits.entries (routes r report) []) (sym is_rows)
      (subst (λ (counts : Counts). StandsBehind mode limits.entries (routes [] counts) []) (sym is_report) (stands-none mode limits.entries));
}

-- ---- a table that is answered

module _ (p : Progress) (none : p.fault ≡ None) (empty : p.pending ≡ []) where
  pub finished : (r : Result Routes Fault) → IfOk r (λ table. table ≡ p.table)
      → IfOk r (λ table. (fed : List ℕ) → HasRead p fed → HasNoFault p.limits p.mode p.sender fed × IsTableOf p.limits p.mode p.sender fed table)
  finished (Err fault) is = tt
  finished (Ok table) is = λ fed read.
      (no_fault p fed (read-taken p fed none read) empty, subst (λ (t : Routes). IsTableOf p.limits p.mode p.sender fed t) (sym is) (table_of p fed (read-taken p fed none read) empty))

  pub answered : (d s : Address) (answer : Answer) → IsBestOf p.table.rows d s answer.row → answer.row ≡ row_for p.table.rows d s
      → held_of answer.row ≡ answer_for (entries_of p.table.rows) d s → answer.report ≡ p.table.report
      → (fed : List ℕ) → HasRead p fed → HasNoFault p.limits p.mode p.sender fed × IsAnswerOf p.limits p.mode p.sender fed d s answer
  answered d s answer best row same report fed read = (
    no_fault p fed (read-taken p fed none read) empty,
    record { table = p.table; is_table = table_of p fed (read-taken p fed none read) empty; best = best; row = row; same = same; report = report },
  )

  pub unfinished : (r : Result Routes Fault) → IfErr r (λ fault. fault ≡ faults.Memory → (p.fault ≡ Some faults.Memory) ⊎ ((fed : List ℕ) → HasRead p fed → HasNoFault p.limits p.mode p.sender fed))
  unfinished (Ok table) = tt
  unfinished (Err fault) = λ memory. inr (λ fed read. no_fault p fed (read-taken p fed none read) empty)

pub failed-finish : (p : Progress) (fault : Fault) → p.fault ≡ Some fault → fault ≢ faults.Memory → (fed : List ℕ) → HasRead p fed → DumpFault p.limits p.mode p.sender fed fault
failed-finish p fault is not fed read = subst (λ (t : List ℕ). DumpFault p.limits p.mode p.sender t fault) (append-nil fed) (failed-fault p fed fault (read-failed p fed fault is read) not [])

-- what holds of settings holds of the same settings
pub at-settings : (limits l : Bounds) (mode m : Mode) (sender s : Address) → l ≡ limits → m ≡ mode → s ≡ sender → (P : Bounds → Mode → Address → Type 0) → P l m s → P limits mode sender
at-settings limits l mode m sender s is_l is_m is_s P here =
    subst (λ (b : Bounds). P b mode sender) is_l (subst (λ (x : Mode). P l x sender) is_m (subst (λ (x : Address). P l m x) is_s here))

pub each-table : {P Q : Routes → Type 0} (r : Result Routes Fault) → ((table : Routes) → P table → Q table) → IfOk r P → IfOk r Q
each-table (Ok table) goes holds = goes table holds
each-table (Err fault) goes holds = tt

pub each-fault : {P Q : Fault → Type 0} (r : Result Routes Fault) → ((fault : Fault) → P fault → Q fault) → IfErr r P → IfErr r Q
each-fault (Ok table) goes holds = tt
each-fault (Err fault) goes holds = goes fault holds
