-- The exit status of the program for what came of what was asked for: this project's own.
use Rattle.std.specs.Prelude.{ℕ, Bool, false, true, if◌then◌else◌, Option, None, Some, Result, Ok, Err, fold, max}
use Rattle.std.specs.IoError.{error_kind}
use Rattle.std.specs.declared.io.Error.{Error}
use Rattle.std.specs.declared.io.ErrorKind.{ErrorKind}
use Rattle.std.specs.declared.io.ErrorKind.TheVariants as kinds
use Rattle.babel_capture.specs.declared.fault.Fault.TheVariants as capture_faults
use Rattle.babel_dump.specs.Run.{fault_status, input_status}
use Rattle.babel_dump.specs.declared.done.Done.{Done}
use Rattle.babel_dump.specs.declared.done.DumpRead.{DumpRead}
use Rattle.babel_dump.specs.declared.done.ToldSender.{ToldSender}
use Rattle.babel_dump.specs.declared.input_fault.InputFault.{InputFault}
use Rattle.babel_dump.specs.declared.input_fault.InputFault.TheVariants as input_faults
use Rattle.babel_dump.specs.declared.names_fault.NamesFault.{NamesFault}
use Rattle.babel_dump.specs.declared.names_fault.NamesFault.TheVariants as names_faults
use Rattle.babel_dump.specs.declared.run_fault.RunFault.TheVariants as run_faults
use Rattle.babel_dump.specs.declared.trouble.Trouble.{Trouble}
use Rattle.babel_dump.specs.declared.trouble.Trouble.TheVariants as troubles

-- where a write failed, by why, if that is known: a shell's status for SIGPIPE where the reader of
-- the output has closed the pipe
abbrev pub status_of_kind : ErrorKind → ℕ
status_of_kind kinds.BrokenPipe = 141
status_of_kind kind = 4

abbrev pub unwritten_status : Option Error → ℕ
unwritten_status (Some error) = status_of_kind (error_kind error)
unwritten_status None = 4

-- where the names are refused
abbrev pub names_status : NamesFault → ℕ
names_status names_faults.Read = 4
names_status names_faults.Memory = 5
names_status fault = 2

-- where nothing came of it: 2 where the words don't suit the input, or else that of the fault
abbrev pub trouble_status : (unwritten : Option Error) → Trouble → ℕ
trouble_status unwritten (troubles.Misplaced side option) = 2
trouble_status unwritten (troubles.NoSender side) = 2
trouble_status unwritten (troubles.NotOneSender senders) = 2
trouble_status unwritten troubles.ReadOnce = 2
trouble_status unwritten (troubles.Backwards since until) = 2
trouble_status unwritten troubles.TooManyRoutes = 3
trouble_status unwritten (troubles.Names fault) = names_status fault
trouble_status unwritten (troubles.Fault run_faults.Write) = unwritten_status unwritten
trouble_status unwritten (troubles.Fault fault) = fault_status fault
trouble_status unwritten (troubles.Sender side origin name fault) = input_status fault

-- by the capture's first packet `--since` is later than `--until`
abbrev pub is_empty_window : InputFault → Bool
is_empty_window (input_faults.Capture (capture_faults.EmptyWindow at)) = true
is_empty_window fault = false

-- where an input has this fault
abbrev pub refused_status : InputFault → ℕ
refused_status fault = if is_empty_window fault then 2 else input_status fault

-- of a sender that is told by itself
abbrev pub read_status : Result DumpRead InputFault → ℕ
read_status (Ok read) = 0
read_status (Err fault) = input_status fault

-- the greatest of that of the run and those of the senders
abbrev pub done_status : Done → ℕ
done_status done =
    fold (λ status (sender : ToldSender). max status (read_status sender.read)) done.status
    done.senders.items
