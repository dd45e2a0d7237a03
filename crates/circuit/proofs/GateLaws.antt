-- How many gates a circuit has, and the wires that gates make, for the crates that build on this one.
use Rattle.std.proofs.Common.{◌≡◌, ℕ, ◌/◌, ◌≤◌, T, List, length, true, false, refl, arith}
use Rattle.std.proofs.lemmas.Grind.{common_steps}
use mathlib.Core.Bool.{false≢true}
use mathlib.Core.Option.{none, some}
use Rattle.words.specs.Words.{words}
use Rattle.words.proofs.Words.{words-length}
use Rattle.rules.specs.Gates.{makes, gate_count, circuit_fits}
use Rattle.circuit.specs.declared.gates.Gate as code
use Rattle.circuit.specs.declared.gates.Gate.TheVariants.{Both, Mux, Constant, Convert, Input, Out}
use Rattle.circuit.specs.Gates.{meant, makes_wire}

-- a circuit has as many gates as it has twenties of bytes,
pub gates_in_lem : (circuit : List ℕ) → gate_count (words circuit) ≡ length circuit / 20
unfolding gate_count
gates_in_lem circuit = let n = words-length circuit in omega (arith, n)

-- and, if it passes check 20, at most 3,000
pub gates_at_most : (circuit : List ℕ) → T (circuit_fits circuit) → gate_count (words circuit) ≤ 3000
unfolding circuit_fits gate_count
gates_at_most circuit fits = let whole = words-length circuit in grind (arith, common_steps)

-- a gate makes a wire where the code says so,
pub makes_some : (gate : code.Gate) → makes_wire gate ≡ true → (new : ℕ) × (makes (meant gate) ≡ some new)
makes_some (Both o a b new) e = (new.0, refl)
makes_some (Mux g a b new) e = (new.0, refl)
makes_some (Constant v m new) e = (new.0, refl)
makes_some (Convert x m new) e = (new.0, refl)
makes_some (Input r new) e = (new.0, refl)
makes_some (Out x) e = absurd (false≢true e)

-- and none where it says not
pub makes_none : (gate : code.Gate) → makes_wire gate ≡ false → makes (meant gate) ≡ none
makes_none gate e = grind (arith, common_steps)
