-- What the commands over captures promise, by what their devices say. No RFC speaks of runs: these
-- are this project's own.
use Rattle.std.specs.Prelude.{ℕ, Bool, false, true, ◌≡◌, ◌≢◌, ◌<◌, ◌≤◌, List, ◌++◌, length}
use Rattle.std.specs.Prelude.{Option, None, Some}
use Rattle.std.specs.Option.{is_some, unwrap_or}
use Rattle.babel_capture.specs.Counts.{Counts, Made}
use Rattle.babel_capture.specs.Findings.{everyone}
use Rattle.babel_capture.specs.Gathering.{Gathering}
use Rattle.babel_capture.specs.declared.fault.Fault.TheVariants as capture_faults
use Rattle.babel_capture.specs.declared.wanted.Wanted.{Wanted}
use Rattle.babel_tlv.specs.declared.fault.Fault.TheVariants as faults
use Rattle.babel_table.specs.Moments.{dump_of}
use Rattle.babel_dump.specs.CaptureGiven.{CaptureInput, GaveLeftOut, GaveSound}
use Rattle.babel_dump.specs.CaptureGiven.{IsFaultOfCapture, made_in, moment_in}
use Rattle.babel_dump.specs.CaptureText.{dump_text, places_of}
use Rattle.babel_dump.specs.CaptureText.{senders_in, senders_status, text_status}
use Rattle.babel_dump.specs.LinksHeard.{hellos_made, ihus_made}
use Rattle.babel_dump.specs.LinksTold.{TellsLinks}
use Rattle.babel_dump.specs.Packets.{packets_made}
use Rattle.babel_dump.specs.declared.extract.PacketCopy.{PacketCopy}
use Rattle.babel_dump.specs.declared.format.Format.{Format}
use Rattle.babel_dump.specs.declared.input_fault.InputFault.{InputFault}
use Rattle.babel_dump.specs.declared.input_fault.InputFault.TheVariants as input_faults
use Rattle.babel_dump.specs.declared.interfaces.Interfaces.{Interfaces}
use Rattle.babel_dump.specs.declared.job.CaptureTask.{CaptureTask}
use Rattle.babel_dump.specs.declared.job.CaptureTask.TheVariants as capture_tasks
use Rattle.babel_dump.specs.declared.outcome.Outcome.{Outcome}
use Rattle.babel_dump.specs.declared.outcome.Reports.TheVariants as reports

-- why a capture was not read to its end: a read of its reader failed, or it has a fault. Out of
-- memory has no cause that a contract can see.
abbrev pub FeedCause : CaptureInput → InputFault → Type 0
FeedCause reader input_faults.Read = reader.old.failures < reader.new.failures
FeedCause reader (input_faults.Capture fault) =
    fault ≢ capture_faults.Memory → IsFaultOfCapture reader fault
FeedCause reader fault = ⊥

-- each fault of reading a capture has its cause: it was not read to its end, or what its reader
-- gave is refused
abbrev pub CaptureCause : CaptureInput → (Interfaces → Type 0) → InputFault → Type 0
CaptureCause reader Several (input_faults.LeftOut datagram) = GaveLeftOut reader datagram
CaptureCause reader Several (input_faults.SeveralInterfaces interfaces) = Several interfaces
CaptureCause reader Several (input_faults.Dump fault) = fault ≡ faults.Memory
CaptureCause reader Several fault = FeedCause reader fault

-- several places are no fault
abbrev pub IsNoFault : Interfaces → Type 0
IsNoFault interfaces = ⊥

-- the outcome has this status, and the report of a capture, which is cut short there
abbrev pub IsOutcomeOf : Outcome → ℕ → Counts → Option ℕ → Type 0
IsOutcomeOf outcome status report cut =
    outcome ≡ record { status = status; reports = reports.Capture report cut }

-- what was copied is what was there and the octets of the packets that were made besides, unless
-- memory ran out
abbrev pub Copies : PacketCopy → PacketCopy → List Made → Type 0
Copies first now made = now.has_failed ≡ false → (first.has_failed ≡ false)
    × (now.octets.items ≡ first.octets.items ++ dump_of (packets_made made))

-- the one sender that is wanted sent at several places, which are these
pub record IsOnSeveral (reader : CaptureInput) (interfaces : Interfaces) : Type 0 where
  pub gathering : Gathering
  pub cut : Option ℕ
  pub gave : GaveSound reader gathering cut
  pub one_wanted : is_some reader.wanted.sender ≡ true
  pub several : 2 ≤ length gathering.senders
  pub are : interfaces.0.items ≡ places_of gathering.senders

-- ---- tasks

-- whose datagrams are wanted
abbrev pub wanted_of : (accepts_missing : Bool) → CaptureTask → Wanted
wanted_of accepts_missing capture_tasks.Senders = everyone
wanted_of accepts_missing (capture_tasks.Extract sender place hex) = record {
  sender = Some sender;
  place = place;
  are_listed = true;
  accepts_missing = accepts_missing;
}
wanted_of accepts_missing (capture_tasks.Links place expiry) = record {
  sender = None;
  place = place;
  are_listed = true;
  accepts_missing = accepts_missing;
}

-- the text, by what is gathered of a capture, and made of each of its packets, up to this moment: a
-- line for each sender at each place; the packets, end to end; a line for each link
abbrev pub IsCaptureText :
    CaptureTask → Format → (moment : Option ℕ) → Gathering → List Made → List ℕ → Type 0
IsCaptureText capture_tasks.Senders format moment gathering made text =
    text ≡ senders_in format gathering
IsCaptureText (capture_tasks.Extract sender place hex) format moment gathering made text =
    text ≡ dump_text hex (dump_of (packets_made made))
IsCaptureText (capture_tasks.Links place expiry) format moment gathering made text =
    TellsLinks format expiry (unwrap_or moment 0) gathering (hellos_made made) (ihus_made made)
    text

-- the status: 1 if no packets were found, or no link
abbrev pub capture_status : CaptureTask → Gathering → (text : List ℕ) → ℕ
capture_status (capture_tasks.Links place expiry) gathering text = text_status text
capture_status task gathering text = senders_status gathering.senders

-- so it says; where one sender is wanted, it sent at one place at most
pub record SaysOfCapture (task : CaptureTask) (format : Format) (reader : CaptureInput)
    (text : List ℕ) (outcome : Outcome) : Type 0 where
  pub gathering : Gathering
  pub cut : Option ℕ
  pub gave : GaveSound reader gathering cut
  pub one_place : is_some reader.wanted.sender ≡ true → length gathering.senders ≤ 1
  pub text_is :
      IsCaptureText task format (moment_in gave.given) gathering (made_in gave.given) text
  pub outcome_is : IsOutcomeOf outcome (capture_status task gathering text) gathering.report cut
