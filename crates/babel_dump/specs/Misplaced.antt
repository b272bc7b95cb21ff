-- Which option that is for captures alone is refused where a dump is read: this project's own.
use Rattle.std.specs.Prelude.{ℕ, Bool, true, false, ◌&&◌, not, is_some, if◌then◌else◌, List, [], ◌∷◌, codes}
use Rattle.std.specs.Prelude.{Option, None, Some}
use Rattle.std.specs.Option.{option_and_then, option_map}
use Rattle.babel_dump.specs.declared.begun.Begins.{Begins}
use Rattle.babel_dump.specs.declared.begun.Begins.TheVariants as beginnings
use Rattle.babel_dump.specs.declared.job.DumpSource.{DumpSource}
use Rattle.babel_dump.specs.declared.job.Work.{Work}
use Rattle.babel_dump.specs.declared.job.Work.TheVariants as works
use Rattle.babel_dump.specs.declared.reading.Reading.{Reading}
use Rattle.babel_dump.specs.declared.reading.TimeOption.{TimeOption}
use Rattle.babel_dump.specs.declared.reading.TimeOption.TheVariants as time_options

-- the option of times that was given, for the input, or the first of two
abbrev pub time_name : TimeOption → List ℕ
time_name time_options.Since = codes "--since"
time_name time_options.Until = codes "--until"
time_name time_options.Expiry = codes "--expiry"

-- and for the other; it has no factor of its own
abbrev pub other_time_name : TimeOption → Option (List ℕ)
other_time_name time_options.Since = Some (codes "--other-since")
other_time_name time_options.Until = Some (codes "--other-until")
other_time_name time_options.Expiry = None

abbrev pub when : Bool → Option (List ℕ) → Option (List ℕ)
when holds option = if holds then option else None

-- the first of these that there is
abbrev pub first_some : List (Option (List ℕ)) → Option (List ℕ)
first_some [] = None
first_some (None ∷ more) = first_some more
first_some (Some option ∷ more) = Some option

-- The first option that was given for a dump. A place, and times for the other of two inputs, are
-- for one of them; the other options are for both, and refused where neither is a capture.
abbrev pub misplaced :
    (first : Reading) → (other : Option Reading) → (is_capture other_is_capture : Bool)
    → Option (List ℕ)
misplaced first other is_capture other_is_capture =
    let has_none = not is_capture && not other_is_capture in
    let other_place = option_and_then (λ reading. reading.place) other in
    let other_times = option_and_then (λ reading. reading.time_option) other in
    first_some (
    when (is_some first.place && not is_capture) (Some (codes "--interface"))
    ∷ when (is_some other_place && not other_is_capture) (Some (codes "--other-interface"))
    ∷ when (first.accept_cut && has_none) (Some (codes "--accept-cut"))
    ∷ when (first.accept_missing && has_none) (Some (codes "--accept-missing"))
    ∷ when has_none (option_map time_name first.time_option)
    ∷ when (not other_is_capture) (option_and_then other_time_name other_times) ∷ [])

-- that of a job's work
abbrev pub misplaced_in : Work → (is_capture other_is_capture : Bool) → Option (List ℕ)
misplaced_in (works.Dump source task) = misplaced source.reading None
misplaced_in (works.Each source pairs with_prefix) = misplaced source.reading None
misplaced_in (works.Two first other view task) = misplaced first.reading (Some other.reading)
misplaced_in (works.Capture reading file task) = λ is_capture other_is_capture. None

-- ---- by the first octets of its inputs

-- they are not those of a dump: what is no dump may be a capture
abbrev pub is_no_dump : Begins → Bool
is_no_dump beginnings.Dump = false
is_no_dump begins = true

abbrev pub is_capture : Begins → Bool
is_capture beginnings.Capture = true
is_capture begins = false

-- that of work, where what FILE and OTHER begin with is known
abbrev pub misplaced_by : (first other : Begins) → Work → Option (List ℕ)
misplaced_by beginnings.Failed second work = None
misplaced_by first beginnings.Failed work = None
misplaced_by first second work = misplaced_in work (is_no_dump first) (is_no_dump second)

-- the work, whose dumps are read of captures or not, with keys found by this seed
abbrev pub source_begun : Bool → (seed : ℕ) → DumpSource → DumpSource
source_begun is_capture seed source = record source
    { reading = record source.reading { is_capture = is_capture; seed = seed } }

abbrev pub work_begun : (is_capture other_is_capture : Bool) → (seed : ℕ) → Work → Work
work_begun first second seed (works.Dump source task) =
    works.Dump (source_begun first seed source) task
work_begun first second seed (works.Each source pairs with_prefix) =
    works.Each (source_begun first seed source) pairs with_prefix
work_begun first second seed (works.Two one other view task) =
    works.Two (source_begun first seed one) (source_begun second seed other) view task
work_begun first second seed (works.Capture reading file task) = works.Capture reading file task

abbrev pub begun_work : (first other : Begins) → (seed : ℕ) → Work → Work
begun_work first other = work_begun (is_capture first) (is_capture other)
