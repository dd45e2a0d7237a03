-- Demand 3 of what evaluation accepts: a circuit that passes 21, and two fit sets of inputs.
use Prim.Native.Nat.{ℕ}
use mathlib.Core.Path.{◌≡◌}
use mathlib.Core.List.{List, []}
use Rattle.words.specs.Words.{words, AllBytes}
use Rattle.words.proofs.Words.{bytes_are_words}
use Rattle.rules.specs.Gates.{gate_count}
use Rattle.rules.specs.Plain.{inputs}
use Rattle.rules.specs.Shares.{Private}
use Rattle.rules.specs.Answers.{gates_of, failing21, FitInputs}
use Rattle.rules.proofs.Decoded.{keeps_of, words_of, fit_of}
use Rattle.rules.proofs.Shares.{demand_three}

-- for any two sets of inputs that evaluation finds fit, of a circuit whose gates it finds to keep the rules
pub evaluated_private : (circuit i1 i2 j1 j2 : List ℕ) → AllBytes circuit → AllBytes i1 → AllBytes i2 → AllBytes j1 → AllBytes j2
    → failing21 (words circuit) ≡ [] → FitInputs circuit i1 i2 → FitInputs circuit j1 j2
    → Private (gates_of circuit) (inputs (words i1) (words i2)) (inputs (words j1) (words j2))
unfolding gates_of failing21
evaluated_private circuit i1 i2 j1 j2 b b1 b2 c1 c2 e f g =
    demand_three (gates_of circuit)
    (keeps_of (words circuit) (gate_count (words circuit)) e)
    (words_of (words circuit) (gate_count (words circuit)) (bytes_are_words circuit b))
    (fit_of (words circuit) (words i1) (words i2) f.no_23 (bytes_are_words i1 b1) (bytes_are_words i2 b2))
    (fit_of (words circuit) (words j1) (words j2) g.no_23 (bytes_are_words j1 c1) (bytes_are_words j2 c2))
