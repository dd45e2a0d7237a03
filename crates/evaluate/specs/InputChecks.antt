-- Checks 22 and 23 as one test of an input that is read, and the lowest gate that fails one (document 01, "Order of refusals").
-- Only functions inside the desk cite it.
use Rattle.std.specs.Prelude.{ℕ, ◌≡◌, Bool, List, [], Option, MatchOption, ltb, length}
use Rattle.words.specs.Words.{words}
use Rattle.rules.specs.Places.{failing_below}
use Rattle.rules.specs.Sorts as rules
use Rattle.rules.specs.Gates.{gate_at, gate_count, entry_test}
use Rattle.rules.specs.Plain.{of_desk, inputs}
use Rattle.rules.specs.Answers.{failing22, failing23}
use Rattle.rules.specs.Refusals.{Lowest}
use Rattle.circuit.specs.Sorts.{meant_sort}
use Rattle.circuit.specs.declared.gates.Read.{Read}
use Rattle.evaluate.specs.declared.inputs.Inputs.{Inputs}
use Rattle.evaluate.specs.declared.Refusal.{Refusal}
use Rattle.evaluate.specs.declared.Refusal.TheVariants.{InputMissing, InputNoBool}

-- the words of a desk's inputs
abbrev pub desk_words : Inputs → ℕ → List ℕ
desk_words from desk = of_desk (words from.one.now) (words from.two.now) desk

-- check 22, that an input read is there, and check 23, that it fits the sort it is read at: a bool is 0 or 1
abbrev pub input_there : Inputs → ℕ → ℕ → rules.Sort → Bool
input_there from desk number sort = ltb number (length (desk_words from desk))

abbrev pub input_fits : Inputs → ℕ → ℕ → rules.Sort → Bool
input_fits from desk number sort = rules.fits_sort sort (inputs (words from.one.now) (words from.two.now) desk number)

-- a closure, by what its calls answer, is a test of an input: its desk, its number and the sort at which it is read
abbrev pub Tests : (Read → Bool → Type 0) → (ℕ → ℕ → rules.Sort → Bool) → Type 0
Tests answers ok = (read : Read) (r : Bool) → answers read r → r ≡ ok read.desk read.number (meant_sort read.sort)

-- the gates, of a circuit's words, that read an input that fails a test
abbrev pub failing_of : (ℕ → ℕ → rules.Sort → Bool) → List ℕ → List ℕ
failing_of ok c = failing_below (λ i. entry_test ok (gate_at c i)) (gate_count c)

-- the lowest of them, or none
abbrev pub Found : (ℕ → ℕ → rules.Sort → Bool) → List ℕ → Option ℕ → Type 0
Found ok c found = MatchOption found (failing_of ok c ≡ []) (λ i. Lowest i (failing_of ok c))

-- what checks 22 and 23 refuse, of the bytes of a circuit and of both desks' inputs
abbrev pub InputsRefused : List ℕ → List ℕ → List ℕ → Refusal → Type 0
InputsRefused circuit one two (InputMissing g) = Lowest g (failing22 (words circuit) (words one) (words two))
InputsRefused circuit one two (InputNoBool g) =
    (failing22 (words circuit) (words one) (words two) ≡ []) × Lowest g (failing23 (words circuit) (words one) (words two))
InputsRefused circuit one two _ = ⊥
