-- A feeder that keeps times: what it has heard, and its table at a moment.
use Rattle.std.proofs.Common.{◌≡◌, ℕ, true, List, [], ◌∷◌, ◌++◌, length, Option, Some, None, Result, Ok, Err, refl, sym, ap, subst, ◌∙◌, arith, length-append}
use Rattle.std.specs.Prelude.{◌≢◌, IfOk}
use Rattle.std.specs.List.{flat_map}
use Rattle.babel_prefix.specs.Address.{Address}
use Rattle.babel_tlv.specs.declared.fault.Fault.{Fault}
use Rattle.babel_tlv.specs.declared.fault.Fault.TheVariants as faults
use Rattle.babel_tlv.specs.declared.mode.Mode.{Mode}
use Rattle.babel_tlv.specs.declared.start.Start.{Start}
use Rattle.babel_tlv.specs.Framing.{packet_octets}
use Rattle.babel_table.specs.Bounds.{Bounds, start_of}
use Rattle.babel_table.specs.DumpFault.{DumpFault, HasNoFault}
use Rattle.babel_table.specs.Feeding.{HasFailed, HasHeard, HasRead, HasReadTo, HasTaken, NeedsMemory, Progress}
use Rattle.babel_table.specs.Moments.{AreRowsAt, Heard, IsTableAt, dump_of, told_of}
use Rattle.babel_table.specs.Rows.{Routes}
use Rattle.babel_table.specs.Words.{HearsPackets, after_all, rows_at}
use Rattle.babel_table.proofs.FeedLaws.{at-settings, cut_off, failed-fault, failed-memory, no_fault, read-failed, read-taken, table_of, taken-read}
use Rattle.babel_table.proofs.HeardLaws.{are_heard, dump_of-push, heard_then, words_then}
use Rattle.babel_table.proofs.MomentLaws.{rows-held}

-- ---- the time that it is

abbrev pub timed : Progress → ℕ → Progress
timed p time = record p { time = time }

read-timed : (p : Progress) (time : ℕ) (fault : Option Fault) (fed : List ℕ) → HasReadTo p fault fed → HasReadTo (timed p time) fault fed
read-timed p time None fed taken = record {
  packets = taken.packets;
  in_limit = taken.in_limit;
  reads = taken.reads;
  partial = taken.partial;
  place = taken.place;
  stands = taken.stands;
}
read-timed p time (Some fault) fed failed = failed

pub heard-timed : (p : Progress) (time : ℕ) (given : List (ℕ × List ℕ)) → HasHeard p given → HasHeard (timed p time) given
heard-timed p time given heard = record {
  runs = heard.runs;
  read = read-timed p time p.fault (dump_of given) heard.read;
  told = λ none. let was = heard.told none in record { none = was.none; all = was.all; heard = was.heard; words = was.words };
}

-- one that was fed nothing has heard nothing
pub heard-none : (p : Progress) → p.fault ≡ None → p.pending ≡ [] → p.runs ≡ true → p.words ≡ [] → HasTaken p [] → HasHeard p []
heard-none p none empty runs wordless taken = record {
  runs = runs;
  read = taken-read p [] none taken;
  told = λ no_fault. record { none = empty; all = []; heard = record { octets = refl; placed = tt }; words = wordless };
}

-- ---- packets more

at-end : (p : Progress) (given : List (ℕ × List ℕ)) → p.fault ≡ None → p.pending ≡ [] → HasRead p (dump_of given) → p.at ≡ length (dump_of given)
at-end p given none empty read =
    let taken = read-taken p (dump_of given) none read in
    omega (arith, taken.place, ap length taken.reads.whole, length-append (flat_map packet_octets taken.packets) p.pending, ap length empty)

module _ (p q : Progress) (same_limits : q.limits ≡ p.limits) (same_mode : q.mode ≡ p.mode) (same_sender : q.sender ≡ p.sender) (same_runs : q.runs ≡ p.runs)
    (same_factor : q.factor ≡ p.factor) (octets : List ℕ) (read : (fed : List ℕ) → HasRead p fed → HasRead q (fed ++ octets)) (given : List (ℕ × List ℕ)) (heard : HasHeard p given) where
  -- a fault is kept
  pub heard-failed : (fault : Fault) → q.fault ≡ Some fault → HasHeard q (given ++ (p.time, octets) ∷ [])
  heard-failed fault failed = record {
    runs = same_runs ∙ heard.runs;
    read = subst (HasRead q) (sym (dump_of-push given p.time octets)) (read (dump_of given) heard.read);
    told = λ none. absurd (apart q.fault none failed);
  }
    where
      apart : (f : Option Fault) → f ≡ None → f ≡ Some fault → ⊥
      apart f a b = cc

  pub heard-more : p.fault ≡ None → q.pending ≡ [] → HearsPackets p.mode p.factor p.time (start_of p.limits p.sender) p.at octets p.words q.words q.pending
      → HasHeard q (given ++ (p.time, octets) ∷ [])
  heard-more none empty hears =
      let was = heard.told none in
      let start : Start = start_of p.limits p.sender in
      let here = at-end p given none was.none heard.read in
      let whole = subst (λ (rest : List ℕ). HearsPackets p.mode p.factor p.time start p.at octets p.words q.words rest) empty hears in
      let then : List Heard = heard_then p.mode p.factor given was.all was.heard start p.at p.time octets p.words q.words here was.words whole in
      let same : start ≡ start_of q.limits q.sender = ap (λ l. start_of l p.sender) (sym same_limits) ∙ ap (λ s. start_of q.limits s) (sym same_sender) in
      record {
        runs = same_runs ∙ heard.runs;
        read = subst (HasRead q) (sym (dump_of-push given p.time octets)) (read (dump_of given) heard.read);
        told = λ no_fault. record {
          none = empty;
          all = then;
          heard = are_heard p.mode p.factor given was.all was.heard start p.at p.time octets p.words q.words here was.words whole;
          words = words_then p.mode p.factor given was.all was.heard start p.at p.time octets p.words q.words here was.words whole
              ∙ ap (λ (m : Mode). after_all m p.factor (told_of start then) []) (sym same_mode)
              ∙ ap (λ (f : ℕ). after_all q.mode f (told_of start then) []) (sym same_factor)
              ∙ ap (λ (s : Start). after_all q.mode q.factor (told_of s then) []) same;
        };
      }

-- ---- as the code feeds them

-- the time is set, and then packets are fed
module _ (old p q : Progress) (time : ℕ) (set : p ≡ timed old time) (given : List (ℕ × List ℕ)) (heard : HasHeard old given) (octets : List ℕ)
    (same_limits : q.limits ≡ p.limits) (same_mode : q.mode ≡ p.mode) (same_sender : q.sender ≡ p.sender) where
  heard-set : HasHeard p given
  heard-set = subst (λ (x : Progress). HasHeard x given) (sym set) (heard-timed old time given heard)

  at-time : HasHeard q (given ++ (p.time, octets) ∷ []) → HasHeard q (given ++ (time, octets) ∷ [])
  at-time here = subst (λ (t : ℕ). HasHeard q (given ++ (t, octets) ∷ [])) (ap (λ (x : Progress). x.time) set) here

  -- what holds of the settings held before
  at-first : (P : Bounds → Mode → Address → Type 0) → P q.limits q.mode q.sender → P old.limits old.mode old.sender
  at-first =
      at-settings old.limits q.limits old.mode q.mode old.sender q.sender (same_limits ∙ ap (λ (x : Progress). x.limits) set) (same_mode ∙ ap (λ (x : Progress). x.mode) set)
      (same_sender ∙ ap (λ (x : Progress). x.sender) set)

  -- it took the packets that these begin with, and these octets are left
  module _ (none : q.fault ≡ None) (left : List ℕ) (taken : (fed : List ℕ) → HasRead p fed → HasTaken (record q { pending = left }) (fed ++ octets)) where
    pub fed-whole : p.fault ≡ None → q.runs ≡ p.runs → q.factor ≡ p.factor → q.pending ≡ [] → left ≡ []
        → (p.runs ≡ true → HearsPackets p.mode p.factor p.time (start_of p.limits p.sender) p.at octets p.words q.words left) → HasHeard q (given ++ (time, octets) ∷ [])
    fed-whole was_none same_runs same_factor empty whole hears =
        let pending : left ≡ q.pending = whole ∙ sym empty in
        let read : (fed : List ℕ) → HasRead p fed → HasRead q (fed ++ octets) =
        λ fed read. taken-read q (fed ++ octets) none (subst (λ (rest : List ℕ). HasTaken (record q { pending = rest }) (fed ++ octets)) pending (taken fed read)) in
        at-time (heard-more p q same_limits same_mode same_sender same_runs same_factor octets read given heard-set was_none empty
        (subst (λ (rest : List ℕ). HearsPackets p.mode p.factor p.time (start_of p.limits p.sender) p.at octets p.words q.words rest) pending (hears heard-set.runs)))

    pub fed-cut : left ≢ [] → DumpFault old.limits old.mode old.sender (dump_of given ++ octets) (faults.Truncated q.at)
    fed-cut some = at-first (λ l m a. DumpFault l m a (dump_of given ++ octets) (faults.Truncated q.at))
        (cut_off (record q { pending = left }) (dump_of given ++ octets) (taken (dump_of given) heard-set.read) some)

  -- or it has failed
  module _ (fault : Fault) (failed : q.fault ≡ Some fault) (read : (fed : List ℕ) → HasRead p fed → HasRead q (fed ++ octets)) where
    pub fed-failed : q.runs ≡ p.runs → q.factor ≡ p.factor → HasHeard q (given ++ (time, octets) ∷ [])
    fed-failed same_runs same_factor = at-time (heard-failed p q same_limits same_mode same_sender same_runs same_factor octets read given heard-set fault failed)

    failed-so : HasFailed q fault (dump_of given ++ octets)
    failed-so = read-failed q (dump_of given ++ octets) fault failed (read (dump_of given) heard-set.read)

    pub fed-fault : fault ≢ faults.Memory → (more : List ℕ) → DumpFault old.limits old.mode old.sender ((dump_of given ++ octets) ++ more) fault
    fed-fault not more = at-first (λ l m a. DumpFault l m a ((dump_of given ++ octets) ++ more) fault) (failed-fault q (dump_of given ++ octets) fault failed-so not more)

    pub fed-memory : fault ≡ faults.Memory → NeedsMemory old.mode (start_of old.limits old.sender) (dump_of given ++ octets)
    fed-memory is = at-first (λ l m a. NeedsMemory m (start_of l a) (dump_of given ++ octets)) (failed-memory q (dump_of given ++ octets) fault failed-so is)

-- ---- the table at a moment

-- the octets have no fault, whether times were kept or not
pub sound-at : {T : Type 0} (p : Progress) → p.fault ≡ None → p.pending ≡ [] → (r : Result T Fault)
    → IfOk r (λ table. (fed : List ℕ) → HasRead p fed → HasNoFault p.limits p.mode p.sender fed)
sound-at p none empty (Ok table) = λ fed read. no_fault p fed (read-taken p fed none read) empty
sound-at p none empty (Err fault) = tt

pub finished-at : (p : Progress) → p.fault ≡ None → p.pending ≡ [] → (moment : ℕ) (r : Result Routes Fault)
    → IfOk r (λ table. table.report ≡ p.table.report) → (p.runs ≡ true → IfOk r (λ table. table.rows ≡ rows_at p.mode p.factor moment p.words))
    → IfOk r (λ table. (given : List (ℕ × List ℕ)) → HasHeard p given → HasNoFault p.limits p.mode p.sender (dump_of given) × IsTableAt p.limits p.mode p.sender given p.factor moment table)
finished-at p none empty moment (Err fault) is are = tt
finished-at p none empty moment (Ok table) is are = λ given heard.
    let told = heard.told none in
    let taken = read-taken p (dump_of given) none heard.read in
    let words = told_of (start_of p.limits p.sender) told.all in (
      no_fault p (dump_of given) taken empty,
      record {
        all = told.all;
        heard = told.heard;
        rows = subst (AreRowsAt p.mode p.factor moment words) (sym (are heard.runs)) (rows-held p.mode p.factor moment words p.words told.words);
        whole = p.table;
        is_whole = table_of p (dump_of given) taken empty;
        report = is;
      },
    )
