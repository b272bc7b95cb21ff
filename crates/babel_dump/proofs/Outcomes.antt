-- What a job's run answers and writes is settled by the octets of its readers.
use Rattle.std.proofs.Common.{◌≡◌, ◌≢◌, refl, ℕ, List, ◌++◌, take, Option, None, Some, Result, Ok, Err, inl, inr, subst, ap, sym, ◌∙◌}
use Rattle.babel_dump.proofs.CaptureSteps.{capture_fault, capture_one, CaptureComes, gathering_comes, Read, read_of}
use Rattle.babel_dump.proofs.DumpSteps.{asked_by, dump_fault, dump_one, DumpComes, not_of_octets, pairs_fault, pairs_one, PairsCome, SourceComes, table_comes, table_fault}
use Rattle.babel_dump.proofs.Steps.{Always, always_one, At, at_one, IsOne, Then, then_one}
use Rattle.babel_dump.proofs.OneLinks.{links_one}
use Rattle.babel_dump.specs.CaptureRun.{IsCaptureText, capture_status, wanted_of}
use Rattle.babel_dump.specs.Command.{InTurn}
use Rattle.babel_dump.specs.Files.{name_of, reading_of}
use Rattle.babel_dump.specs.Given.{IsFaultOfGiven, dump_of, Input, Reads}
use Rattle.babel_dump.specs.JobRun.{capture_of, CauseBy, SaysBy}
use Rattle.babel_dump.specs.OneOutcome.{FaultIsOfAll, FaultIsOne, IsFaultOfOctets, IsOfDump, IsOfOctets, NothingWritten, octets_at, OutcomeIsOne, OutcomeOrFault, RanOver, WrittenIsPrefix}
use Rattle.babel_dump.specs.Run.{InputCause, OfFirst, UnlessWrite}
use Rattle.babel_dump.specs.declared.format.Format.{Format}
use Rattle.babel_dump.specs.declared.input_fault.InputFault.TheVariants as input_faults
use Rattle.babel_dump.specs.declared.input_fault.InputFault.{InputFault}
use Rattle.babel_dump.specs.LinksHeard.{hellos_made, ihus_made}
use Rattle.babel_dump.specs.declared.job.CaptureTask.TheVariants as capture_tasks
use Rattle.babel_dump.specs.declared.job.CaptureTask.{CaptureTask}
use Rattle.babel_dump.specs.declared.job.Job.{Job}
use Rattle.babel_dump.specs.declared.job.Work.TheVariants as works
use Rattle.babel_dump.specs.declared.job.Work.{Work}
use Rattle.babel_dump.specs.declared.outcome.Outcome.{Outcome}
use Rattle.babel_dump.specs.declared.outcome.Reports.TheVariants as reports
use Rattle.babel_dump.specs.declared.reading.Reading.{Reading}
use Rattle.babel_dump.specs.declared.run_fault.RunFault.TheVariants as run_faults
use Rattle.babel_dump.specs.declared.run_fault.RunFault.{RunFault}
use Rattle.babel_dump.specs.declared.run_fault.Side.TheVariants as sides
use Rattle.babel_dump.specs.declared.run_fault.Side.{Side}
use Rattle.babel_table.specs.Rows.{Routes}
use Rattle.babel_tlv.specs.declared.fault.Fault.TheVariants as faults
use Rattle.babel_tlv.specs.declared.fault.Fault.{Fault}
use Rattle.std.specs.Io.KnownBytes.{Appends}
use Rattle.std.specs.Option.{unwrap_or}
use Rattle.babel_dump.specs.Tasks.{TaskFindsTooMany}
use Rattle.babel_dump.proofs.OneFound.{comparison_one, ComparisonGives, each_one, EachOf, Said, said, task_one, TaskGives}

-- ---- what is said of a capture

abbrev pub CaptureOf : CaptureTask → Format → Read → Said → Type 0
CaptureOf task format read it = IsCaptureText task format read.moment read.gathering read.made it.text
    × (it.outcome ≡ record { status = capture_status task read.gathering it.text; reports = reports.Capture read.gathering.report read.cut })

capture_text_one : (task : CaptureTask) (format : Format) (read : Read) (text too : List ℕ) → IsCaptureText task format read.moment read.gathering read.made text
    → IsCaptureText task format read.moment read.gathering read.made too → text ≡ too
capture_text_one capture_tasks.Senders format read text too is is_too = is ∙ sym is_too
capture_text_one (capture_tasks.Extract sender place hex) format read text too is is_too = is ∙ sym is_too
capture_text_one (capture_tasks.Links place expiry) format read text too is is_too =
    links_one format expiry (unwrap_or read.moment 0) read.gathering (hellos_made read.made) (ihus_made read.made) text too is is_too

capture_of_one : (task : CaptureTask) (format : Format) (read : Read) (it too : Said) → CaptureOf task format read it → CaptureOf task format read too → it ≡ too
capture_of_one task format read it too (is, outcome) (is_too, outcome_too) =
    let texts : it.text ≡ too.text = capture_text_one task format read it.text too.text is is_too in
    let of : List ℕ → Outcome = λ text. record { status = capture_status task read.gathering text; reports = reports.Capture read.gathering.report read.cut } in
    said texts (outcome ∙ ap of texts ∙ sym outcome_too)

-- ---- what comes of a job's work

-- of two dumps, one after the other
abbrev pub BothCome : {A : Type 0} → (first other : Reading) → (contents others : List ℕ) → (Routes → Routes → Result A RunFault → Type 0) → Result A RunFault → Type 0
BothCome first other contents others Next =
    Then (At sides.First (DumpComes first contents)) (λ table. Then (At sides.Other (DumpComes other others)) (Next table))

abbrev pub Comes : Work → Job → (contents other : List ℕ) → Result Said RunFault → Type 0
Comes (works.Dump source task) job contents other =
    Then (At sides.First (DumpComes source.reading contents)) (TaskGives task job.format job.quiet (name_of source.file) source.reading)
Comes (works.Each source pairs with_prefix) job contents other =
    Then (PairsCome source.reading other) (λ is. Then (At sides.First (DumpComes source.reading contents)) (λ table. Always (EachOf job.format with_prefix source.reading other table)))
Comes (works.Two first second view task) job contents other =
    BothCome first.reading second.reading contents other
    (ComparisonGives task job.format view (name_of first.file) (name_of second.file) first.reading second.reading)
Comes (works.Capture reading file task) job contents other =
    Then (At sides.First (CaptureComes reading (wanted_of reading.accept_missing task) contents)) (λ read. Always (CaptureOf task job.format read))

-- it is one thing, or one fault
comes_one : (work : Work) (job : Job) (contents other : List ℕ) → IsOne (Comes work job contents other)
comes_one (works.Dump source task) job contents other =
    then_one (at_one sides.First (dump_one source.reading contents)) (task_one task job.format job.quiet (name_of source.file) source.reading)
comes_one (works.Each source pairs with_prefix) job contents other =
    then_one (pairs_one source.reading other)
    (λ is. then_one (at_one sides.First (dump_one source.reading contents)) (λ table. always_one (each_one job.format with_prefix source.reading other table)))
comes_one (works.Two first second view task) job contents other =
    then_one (at_one sides.First (dump_one first.reading contents)) (λ table. then_one (at_one sides.Other (dump_one second.reading other))
    (comparison_one task job.format view (name_of first.file) (name_of second.file) first.reading second.reading table))
comes_one (works.Capture reading file task) job contents other =
    then_one (at_one sides.First (capture_one reading (wanted_of reading.accept_missing task) contents)) (λ read. always_one (capture_of_one task job.format read))

-- what a job says of octets comes of them
says_comes : (work : Work) (job : Job) (reader second : Reads) (contents other text : List ℕ) (outcome : Outcome) → reader.old.left ≡ Some contents
    → second.old.left ≡ Some other → SaysBy work job reader second text outcome → Comes work job contents other (Ok (record { text = text; outcome = outcome }))
says_comes (works.Dump source task) job reader second contents other text outcome has other_has says =
    inl (says.table, table_comes (dump_of reader source.reading) contents has says.table says.gave, says.holds)
says_comes (works.Each source pairs with_prefix) job reader second contents other text outcome has other_has says =
    let are = asked_by (dump_of second source.reading) other says.asked other_has says.gave in
    let answers = says.answers in
    inl (tt, (says.asked, are), inl (answers.table, table_comes (dump_of reader source.reading) contents has answers.table answers.gave, (says.asked, are, answers.holds)))
says_comes (works.Two first another view task) job reader second contents other text outcome has other_has says = inl (
  says.table,
  table_comes (dump_of reader first.reading) contents has says.table says.gave,
  inl (says.other_table, table_comes (dump_of second another.reading) other other_has says.other_table says.other_gave, says.holds),
)
says_comes (works.Capture reading file task) job reader second contents other text outcome has other_has says =
    inl (read_of says.gave.given, gathering_comes (capture_of reader reading task) contents _ _ has says.gave, (says.text_is, says.outcome_is))

-- and so do its faults
at_first : (Cause : InputFault → Type 0) (Holds : RunFault → Type 0) (fault : RunFault)
    → ((of_input : InputFault) → IsOfDump of_input → Cause of_input → Holds (run_faults.Input sides.First of_input)) → IsOfOctets fault → OfFirst Cause fault → Holds fault
at_first Cause Holds (run_faults.Input sides.First fault) holds is cause = holds fault is cause
at_first Cause Holds (run_faults.Input sides.Other fault) holds is cause = absurd cause
at_first Cause Holds (run_faults.Pairs fault) holds is cause = absurd cause
at_first Cause Holds run_faults.Write holds is cause = absurd cause

dump_at_first : (reader : Input) (octets : List ℕ) (fault : RunFault) → reader.old.left ≡ Some octets → IsOfOctets fault
    → OfFirst (InputCause reader (IsFaultOfGiven reader)) fault → At sides.First (DumpComes reader.reading octets) (Err fault)
dump_at_first reader octets fault has =
    at_first _ (λ g. At sides.First (DumpComes reader.reading octets) (Err g)) fault (λ f is cause. (f, refl, dump_fault reader octets has f is cause))

both_fault : {A : Type 0} (Next : Routes → Routes → Result A RunFault → Type 0) (dump another : Input) (untouched : Type 0) (contents others : List ℕ) (fault : RunFault)
    → dump.old.left ≡ Some contents → another.old.left ≡ Some others → IsOfOctets fault → InTurn dump another untouched fault
    → BothCome dump.reading another.reading contents others Next (Err fault)
both_fault Next dump another untouched contents others (run_faults.Input sides.First fault) has other_has is cause =
    inr (run_faults.Input sides.First fault, (fault, refl, dump_fault dump contents has fault is cause.1), refl)
both_fault Next dump another untouched contents others (run_faults.Input sides.Other fault) has other_has is (sound, cause) =
    inl (sound.table, table_comes dump contents has sound.table sound.gave, inr (run_faults.Input sides.Other fault, (fault, refl, dump_fault another others other_has fault is cause), refl))
both_fault Next dump another untouched contents others (run_faults.Pairs fault) has other_has is cause = absurd cause
both_fault Next dump another untouched contents others run_faults.Write has other_has is cause = absurd cause

cause_comes : (work : Work) (job : Job) (reader second : Reads) (untouched : Type 0) (contents other : List ℕ) (fault : RunFault) → reader.old.left ≡ Some contents
    → second.old.left ≡ Some other → IsOfOctets fault → CauseBy work reader second untouched fault → Comes work job contents other (Err fault)
cause_comes (works.Dump source task) job reader second untouched contents other fault has other_has is cause =
    at_first _ (λ g. Comes (works.Dump source task) job contents other (Err g)) fault
    (λ f is cause. elim (table_fault (dump_of reader source.reading) contents has (TaskFindsTooMany task source.reading.limits) f is cause) [
      | inl comes ↦ inr (run_faults.Input sides.First f, (f, refl, comes), refl)
      | inr (table, comes, same, many) ↦ inl (table, comes, (ap (λ (g : InputFault). run_faults.Input sides.First g) same, many))
    ]) is cause
cause_comes (works.Each source pairs with_prefix) job reader second untouched contents other fault has other_has is (inl (refuses, unread)) =
    inr (fault, pairs_fault (dump_of second source.reading) other fault other_has is refuses, refl)
cause_comes (works.Each source pairs with_prefix) job reader second untouched contents other fault has other_has is (inr ((asked, gave), no_failure, cause)) =
    let are = asked_by (dump_of second source.reading) other asked other_has gave in
    inl (tt, (asked, are), inr (fault, dump_at_first (dump_of reader source.reading) contents fault has is cause, refl))
cause_comes (works.Two first another view task) job reader second untouched contents other fault has other_has is cause = elim cause [
  | inl turn ↦ both_fault (ComparisonGives task job.format view (name_of first.file) (name_of another.file) first.reading another.reading) (dump_of reader first.reading)
      (dump_of second another.reading) untouched contents other fault has other_has is turn
  | inr (inl (memory, gave)) ↦ absurd (not_of_octets fault memory is)
  | inr (inr (many, gave)) ↦ inl (
    gave.table,
    table_comes (dump_of reader first.reading) contents has gave.table gave.gave,
    inl (gave.other_table, table_comes (dump_of second another.reading) other other_has gave.other_table gave.other_gave, (many, gave.holds)),
  )
]
cause_comes (works.Capture reading file task) job reader second untouched contents other fault has other_has is cause =
    at_first _ (λ g. Comes (works.Capture reading file task) job contents other (Err g)) fault
    (λ f is cause. inr (run_faults.Input sides.First f, (f, refl, capture_fault (capture_of reader reading task) contents _ f has is cause), refl)) is cause

-- ---- the laws

-- what a writer took, in octets
pub appended : (old new : Option (List ℕ)) (before after text : List ℕ) → old ≡ Some before → new ≡ Some after → Appends old new text → after ≡ before ++ text
appended None new before after text took takes appends = absurd cc
appended (Some xs) None before after text took takes appends = absurd cc
appended (Some xs) (Some ys) before after text took takes appends = cc

-- a fault that is known of where no write failed
not_at_write : (fault : RunFault) (P Q : Type 0) → fault ≢ run_faults.Write → UnlessWrite fault P Q → P
not_at_write (run_faults.Input side fault) P Q not_write known = known
not_at_write (run_faults.Pairs fault) P Q not_write known = known
not_at_write run_faults.Write P Q not_write known = absurd (not_write refl)

not_write : (fault : RunFault) → IsOfOctets fault → fault ≢ run_faults.Write
not_write fault is same = subst IsOfOctets same is

-- a run's fault of octets comes of them
fault_of_run : (job : Job) (octets other : List ℕ) (before after : List ℕ) (fault : RunFault) → RanOver job octets other before after (Err fault) → IsOfOctets fault
    → Comes job.work job octets other (Err fault)
fault_of_run job octets other before after fault run is =
    cause_comes job.work job run.reader run.second _ octets other fault run.has run.other_has is (not_at_write fault _ _ (not_write fault is) run.ran.ran.cause)

-- what two runs say is the same
module _ (job : Job) (octets other : List ℕ) (one one_other two two_other : Reads) (has : one.old.left ≡ Some octets) (has_too : two.old.left ≡ Some octets)
    (other_has : one_other.old.left ≡ Some other) (other_has_too : two_other.old.left ≡ Some other) {text text_too : List ℕ} {outcome outcome_too : Outcome} where
  says_one : SaysBy job.work job one one_other text outcome → SaysBy job.work job two two_other text_too outcome_too → (text ≡ text_too) × (outcome ≡ outcome_too)
  says_one says again =
      let left : Said = record { text = text; outcome = outcome } in
      let right : Said = record { text = text_too; outcome = outcome_too } in
      let same : left ≡ right = comes_one job.work job octets other (Ok left) (Ok right) (says_comes job.work job one one_other octets other text outcome has other_has says)
      (says_comes job.work job two two_other octets other text_too outcome_too has_too other_has_too again) in
      (ap (λ (s : Said). s.text) same, ap (λ (s : Said). s.outcome) same)

pub outcome_is_one : OutcomeIsOne
outcome_is_one job octets other before after before_too after_too outcome outcome_too one two =
    let (text, says, wrote) = one.ran.ran.wrote in
    let (text_too, says_too, wrote_too) = two.ran.ran.wrote in
    let same = says_one job octets other one.reader one.second two.reader two.second one.has two.has one.other_has two.other_has says says_too in (
      same.1,
      (
        text,
        appended _ _ before after text one.took one.takes wrote,
        appended _ _ before_too after_too text_too two.took two.takes wrote_too ∙ ap (λ (t : List ℕ). before_too ++ t) (sym same.0),
      ),
    )

pub outcome_or_fault : OutcomeOrFault
outcome_or_fault job octets other before after before_too after_too outcome fault one two = λ is.
    let (text, says, wrote) = one.ran.ran.wrote in
    let it : Said = record { text = text; outcome = outcome } in
    comes_one job.work job octets other (Ok it) (Err fault) (says_comes job.work job one.reader one.second octets other text outcome one.has one.other_has says)
    (fault_of_run job octets other before_too after_too fault two is)

pub fault_is_one_too : FaultIsOne
fault_is_one_too job octets other before after before_too after_too fault fault_too one two is is_too =
    comes_one job.work job octets other (Err fault) (Err fault_too) (fault_of_run job octets other before after fault one is)
    (fault_of_run job octets other before_too after_too fault_too two is_too)

pub written_is_prefix : WrittenIsPrefix
written_is_prefix job octets other before after before_too after_too outcome one two =
    let (left, answer, says, (n, took)) = one.ran.ran.prefix in
    let (text, says_too, wrote) = two.ran.ran.wrote in
    let same = says_one job octets other one.reader one.second two.reader two.second one.has two.has one.other_has two.other_has says says_too in
    let part = appended _ _ before after (take n left) one.took one.takes took in
    (text, n, appended _ _ before_too after_too text two.took two.takes wrote, part ∙ ap (λ (t : List ℕ). before ++ take n t) same.0)

pub nothing_written : NothingWritten
nothing_written job octets other before after fault one not_write =
    let same = ap (λ (state : _). state.taken) (not_at_write fault _ _ not_write one.ran.ran.prefix) in
    let taken : Some after ≡ Some before = sym one.takes ∙ same ∙ one.took in
    cc

-- ---- a dump's fault is that of all octets

-- the fault that comes of a dump is its own
own_fault : (reading : Reading) (octets : List ℕ) (fault : Fault) → DumpComes reading octets (Err (input_faults.Dump fault)) → IsFaultOfOctets reading.is_capture reading octets fault
own_fault reading octets fault (inl (source, is, (strict, never))) = absurd never
own_fault reading octets fault (inr (of_input, comes, ends)) =
    let same : of_input ≡ input_faults.Dump fault = cc in subst (λ (f : InputFault). SourceComes reading.is_capture reading octets (Err f)) same comes

-- of the dump on the side that it is told of
own_at : {A : Type 0} (at side : Side) (reading : Reading) (dump : List ℕ) (fault : Fault) (of_run : RunFault) → At at (DumpComes reading dump) (Err of_run)
    → (let ended : Result A RunFault = Err (run_faults.Input side (input_faults.Dump fault)) in ended) ≡ Err of_run
    → (side ≡ at) × IsFaultOfOctets reading.is_capture reading dump fault
own_at at side reading dump fault of_run (of_input, is, comes) ends =
    let sides : side ≡ at = cc in
    let faults : of_input ≡ input_faults.Dump fault = cc in
    (sides, own_fault reading dump fault (rw faults at comes))

-- a dump is read on this side, whose fault it is
pub record HasDumpFault (work : Work) (side : Side) (octets : List ℕ) (fault : Fault) : Type 0 where
  pub reading : Reading
  pub is_read : reading_of side work ≡ Some reading
  pub has : IsFaultOfOctets reading.is_capture reading octets fault

on_side : (at side : Side) (work : Work) (reading : Reading) (octets other : List ℕ) (fault : Fault) → reading_of at work ≡ Some reading
    → (side ≡ at) × IsFaultOfOctets reading.is_capture reading (octets_at at octets other) fault → HasDumpFault work side (octets_at side octets other) fault
on_side at side work reading octets other fault is_read (same, has) = rw same (record { reading = reading; is_read = is_read; has = has })

dump_fault_of : (work : Work) (job : Job) (side : Side) (octets other : List ℕ) (fault : Fault) → fault ≢ faults.TooManyPairs
    → Comes work job octets other (Err (run_faults.Input side (input_faults.Dump fault))) → HasDumpFault work side (octets_at side octets other) fault
dump_fault_of (works.Dump source task) job side octets other fault not_pairs (inr (e, at, ends)) =
    on_side sides.First side (works.Dump source task) source.reading octets other fault refl (own_at sides.First side source.reading octets fault e at ends)
dump_fault_of (works.Dump source task) job side octets other fault not_pairs (inl (table, is, (many, pairs))) = absurd (not_pairs (cc))
dump_fault_of (works.Each source pairs with_prefix) job side octets other fault not_pairs (inr (e, inl (line, is, few, wrong), ends)) = absurd cc
dump_fault_of (works.Each source pairs with_prefix) job side octets other fault not_pairs (inr (e, inr (is, over), ends)) = absurd cc
dump_fault_of (works.Each source pairs with_prefix) job side octets other fault not_pairs (inl (asks, asked, inr (e, at, ends))) =
    on_side sides.First side (works.Each source pairs with_prefix) source.reading octets other fault refl (own_at sides.First side source.reading octets fault e at ends)
dump_fault_of (works.Each source pairs with_prefix) job side octets other fault not_pairs (inl (asks, asked, inl (table, is, never))) = absurd never
dump_fault_of (works.Two first second view task) job side octets other fault not_pairs (inr (e, at, ends)) =
    on_side sides.First side (works.Two first second view task) first.reading octets other fault refl (own_at sides.First side first.reading octets fault e at ends)
dump_fault_of (works.Two first second view task) job side octets other fault not_pairs (inl (table, is, inr (e, at, ends))) =
    on_side sides.Other side (works.Two first second view task) second.reading octets other fault refl (own_at sides.Other side second.reading other fault e at ends)
dump_fault_of (works.Two first second view task) job side octets other fault not_pairs (inl (table, is, inl (too, is_too, (many, differences)))) = absurd (not_pairs (cc))
dump_fault_of (works.Capture reading file task) job side octets other fault not_pairs (inr (e, (f, at, inl (read, is, (strict, (datagram, left, first)))), ends)) = absurd cc
dump_fault_of (works.Capture reading file task) job side octets other fault not_pairs (inr (e, (f, at, inr (g, never, same)), ends)) = absurd never
dump_fault_of (works.Capture reading file task) job side octets other fault not_pairs (inl (read, is, never)) = absurd never

pub dump_fault_of_run : (job : Job) (side : Side) (octets other : List ℕ) (before after : List ℕ) (fault : Fault)
    → RanOver job octets other before after (Err (run_faults.Input side (input_faults.Dump fault))) → fault ≢ faults.Memory → fault ≢ faults.TooManyPairs
    → HasDumpFault job.work side (octets_at side octets other) fault
dump_fault_of_run job side octets other before after fault run not_memory not_pairs =
    dump_fault_of job.work job side octets other fault not_pairs (fault_of_run job octets other before after (run_faults.Input side (input_faults.Dump fault)) run not_memory)

pub fault_is_of_all : FaultIsOfAll
fault_is_of_all job side reading octets other before after fault is_read run not_memory not_pairs =
    let found = dump_fault_of_run job side octets other before after fault run not_memory not_pairs in
    let readings : Some found.reading ≡ Some reading = sym found.is_read ∙ is_read in
    let same : found.reading ≡ reading = cc in
    rw same at found.has
