-- What check 21 notes of the gates before a gate: the sorts of their wires, and the sort at which each input was read, in a
-- table of 128 (document 01, "Gates"). Only functions inside the desk cite it.
use Rattle.std.specs.Prelude.{◌≡◌, ℕ, ◌<◌, Bool, cond, not, ◌&&◌, ◌||◌, ◌==◌, nat_lt, List, [], length, Option, None, Some, IfSome, Result, MatchResult, slice_get}
use Rattle.arrayvec.specs.ArrayVec.{ArrayVec}
use Rattle.words.specs.Words.{words}
use Rattle.std.proofs.Math.Option as maybe
use Rattle.rules.specs.Sorts as rules
use Rattle.rules.specs.Sorts.{arithmetic, boolean, bit, same}
use Rattle.rules.specs.Gates as rules_gates
use Rattle.rules.specs.Gates.{Gate, makes, wires, is_wire, clashes, keeps_rules}
use Rattle.rules.specs.Answers.{gates_of, failing21}
use Rattle.rules.specs.Refusals.{Lowest}
use Rattle.circuit.specs.declared.sorts.Sort.{Sort}
use Rattle.circuit.specs.declared.gates.Gate as code
use Rattle.circuit.specs.declared.checks.BrokenGate.{BrokenGate}
use Rattle.circuit.specs.Sorts.{meant_sort, as_sort}
use Rattle.circuit.specs.Gates.{read_by}
use Rattle.circuit.specs.Slots.{InTable, sort_at, other_than}

-- the sorts of the wires of gates, in order
pub record WiresNoted (gs : List Gate) (sorts : ArrayVec Sort) : Type 0 where
  pub count : length sorts.items ≡ (wires gs).count
  pub sorts_are : (k : ℕ) → k < (wires gs).count → slice_get sorts.items k ≡ Some (as_sort ((wires gs).sort k))

-- the table tells whether an input read at a sort clashes with an earlier gate
abbrev pub InputsNoted : List Gate → List (Option Sort) → Type 0
InputsNoted gs seen = (d n : ℕ) → InTable d n → (m : Sort) → clashes gs d n (meant_sort m) ≡ other_than (sort_at seen d n) m

-- what the rules ask of the arms of a mux, of the wire of a convert, and of an input
abbrev pub arms_alike : List Gate → ℕ → ℕ → Bool
arms_alike gs a b = is_wire gs a boolean && is_wire gs b boolean || is_wire gs a bit && is_wire gs b bit

abbrev pub converts_to : List Gate → ℕ → rules.Sort → Bool
converts_to gs x m = is_wire gs x arithmetic && same m boolean || is_wire gs x boolean && same m arithmetic

abbrev pub may_read : List Gate → ℕ → ℕ → rules.Sort → Bool
may_read gs d n m = (d == 1 || d == 2) && (nat_lt n 64 && ((same m arithmetic || same m bit) && not (clashes gs d n m)))

-- a gate, if it is one and keeps the rules
abbrev pub kept : List Gate → maybe.Option Gate → maybe.Option Gate
kept gs maybe.none = maybe.none
kept gs (maybe.some g) = cond (keeps_rules gs g) (maybe.some g) maybe.none

-- the sort of the wire that a gate makes, if it makes one
abbrev pub sort_if : maybe.Option ℕ → rules.Sort → Option Sort
sort_if maybe.none m = None
sort_if (maybe.some new) m = Some (as_sort m)

abbrev pub sort_made : List Gate → Gate → Option Sort
sort_made gs g = sort_if (makes g) (rules_gates.sort_made (wires gs).sort g)

-- an input that a gate reads has a place in the table
abbrev pub InputIn : code.Gate → Type 0
InputIn gate = IfSome (read_by gate) (λ read. InTable read.desk read.number)

-- what check 21 finds of a circuit's bytes
abbrev pub GatesChecked : List ℕ → ArrayVec Sort → Result (Unit {0}) BrokenGate → Type 0
GatesChecked circuit sorts r =
    MatchResult r (λ _. (failing21 (words circuit) ≡ []) × WiresNoted (gates_of circuit) sorts)
    (λ broken. Lowest broken.gate (failing21 (words circuit)))
