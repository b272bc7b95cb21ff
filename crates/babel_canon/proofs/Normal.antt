-- What normalising gives, and why it gives nothing.
use Rattle.std.proofs.Common.{◌≡◌, refl, subst, inl, inr}
use Rattle.std.specs.Prelude.{◌≢◌, ◌⊎◌}
use Rattle.babel_tlv.specs.declared.fault.Fault.{Fault}
use Rattle.babel_tlv.specs.declared.fault.Fault.TheVariants as faults
use Rattle.babel_tlv.specs.declared.mode.Mode.{Mode}
use Rattle.babel_tlv.specs.declared.view.View.{View}
use Rattle.babel_table.specs.Bounds.{Bounds}
use Rattle.babel_table.specs.DumpFault.{DumpFault, HasNoFault}
use Rattle.babel_table.specs.Rows.{Routes}
use Rattle.babel_table.specs.Seen.{seen_rows, seen_table}
use Rattle.babel_table.specs.TableOf.{IsTableOf}
use Rattle.babel_canon.specs.Canonical.{CanonicalFault, HasManyBoxes}
use Rattle.babel_canon.specs.Sent.{Sent}
use Rattle.babel_canon.specs.Normalises.{NormaliseFault}
use Rattle.babel_canon.specs.Routes.{RoutesFault}

memory_or : (fault : Fault) → (fault ≡ faults.Memory) ⊎ (fault ≢ faults.Memory)
memory_or (faults.Truncated at) = inr (λ e. cc)
memory_or (faults.BadMagic at) = inr (λ e. cc)
memory_or (faults.BadVersion at) = inr (λ e. cc)
memory_or (faults.TlvPastEnd at) = inr (λ e. cc)
memory_or (faults.EncodingSetsRouterId at) = inr (λ e. cc)
memory_or (faults.TooManyRoutes at) = inr (λ e. cc)
memory_or faults.TooLong = inr (λ e. cc)
memory_or faults.TooManyPairs = inr (λ e. cc)
memory_or faults.Memory = inl refl

pub of_dump_under : (view : View) (limits : Bounds) (mode : Mode) (one : Sent) (fault : Fault) → (fault ≢ faults.Memory → DumpFault limits mode one.sender one.dump fault)
    → NormaliseFault (seen_rows view) limits mode one fault
of_dump_under view limits mode one fault refused = elim (memory_or fault) as (λ _. NormaliseFault (seen_rows view) limits mode one fault) [
  | inl memory ↦ inr (inr memory)
  | inr other ↦ inl (refused other)
]

pub of_form_under : (view : View) (limits : Bounds) (mode : Mode) (one : Sent) (table seen : Routes) (fault : Fault) → HasNoFault limits mode one.sender one.dump
    → IsTableOf limits mode one.sender one.dump table → seen ≡ seen_table view table → CanonicalFault limits seen.rows fault → NormaliseFault (seen_rows view) limits mode one fault
of_form_under view limits mode one table seen fault no_fault is_table seen_is (inl (is, many)) =
    inr (inl (is, no_fault, (table, is_table, subst (λ (t : Routes). HasManyBoxes limits t.rows) seen_is many)))
of_form_under view limits mode one table seen fault no_fault is_table seen_is (inr memory) = inr (inr memory)

pub of_dump_routes : (limits : Bounds) (mode : Mode) (one : Sent) (fault : Fault) → (fault ≢ faults.Memory → DumpFault limits mode one.sender one.dump fault) → RoutesFault limits mode one fault
of_dump_routes limits mode one fault refused = elim (memory_or fault) as (λ _. RoutesFault limits mode one fault) [
  | inl memory ↦ inr memory
  | inr other ↦ inl (refused other)
]
