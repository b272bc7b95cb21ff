-- Laws of the definitions: a dump has one canonical text or one fault, out of memory aside, and
-- two tables have one verdict. These are this project's own.
use Rattle.std.specs.Prelude.{◌≡◌, ◌≢◌, ℕ, List}
use Rattle.babel_tlv.specs.declared.fault.Fault.{Fault}
use Rattle.babel_tlv.specs.declared.fault.Fault.TheVariants as faults
use Rattle.babel_tlv.specs.declared.mode.Mode.{Mode}
use Rattle.babel_tlv.specs.Pair.{Pair}
use Rattle.babel_table.specs.Bounds.{Bounds}
use Rattle.babel_canon.specs.Sent.{Sent}
use Rattle.babel_canon.specs.Normalises.{NormaliseFault, Normalises, as_they_are}
use Rattle.babel_canon.specs.Verdict.{IsVerdict}
use Rattle.babel_canon.specs.declared.verdict.Verdict.{Verdict}

-- a dump has at most one canonical text
abbrev pub NormalFormIsOne : Type 0
NormalFormIsOne =
    (limits : Bounds) (mode : Mode) (body : ℕ) (one : Sent) (octets other : List ℕ)
    → Normalises as_they_are limits mode body one octets
    → Normalises as_they_are limits mode body one other → octets ≡ other

-- a dump has at most one fault that keeps it from a canonical text, out of memory aside
abbrev pub NormaliseFaultIsOne : Type 0
NormaliseFaultIsOne =
    (limits : Bounds) (mode : Mode) (one : Sent) (fault other : Fault)
    → NormaliseFault as_they_are limits mode one fault
    → NormaliseFault as_they_are limits mode one other
    → fault ≢ faults.Memory → other ≢ faults.Memory → fault ≡ other

-- a dump that has a canonical text has no such fault
abbrev pub NormalFormHasNoFault : Type 0
NormalFormHasNoFault =
    (limits : Bounds) (mode : Mode) (body : ℕ) (one : Sent) (octets : List ℕ) (fault : Fault)
    → Normalises as_they_are limits mode body one octets
    → NormaliseFault as_they_are limits mode one fault → fault ≡ faults.Memory

-- two tables have at most one verdict
abbrev pub VerdictIsOne : Type 0
VerdictIsOne =
    (rows others : List Pair) (verdict other : Verdict) → IsVerdict rows others verdict
    → IsVerdict rows others other
    → verdict ≡ other
