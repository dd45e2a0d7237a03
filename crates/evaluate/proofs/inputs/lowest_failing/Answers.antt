-- `inputs::lowest_failing` finds the lowest gate that fails the test.
use Rattle.std.proofs.Common.{◌≡◌, true, false, arith, rules, tests}
use Rattle.std.proofs.lemmas.Grind.{common_steps}
use Rattle.std.proofs.lemmas.Iterator.{first_from_Range, serves_from_Range}
use Rattle.evaluate.proofs.InputLaws.{passes_at, found_first}
use Rattle.evaluate.proofs.inputs.lowest_failing.Goals as goal

pub find-requires : goal.find-requires
find-requires g c = record { can = tt; finite = tt; callable = serves_from_Range (λ x q k. search (rules, tests)) (λ x low high. search rules) }

pub returns : goal.returns
returns g c = λ ok tests-input.
    found_first ok c.args.circuit.now _ c.gate_count.ensures
    (first_from_Range _ _ _ _ (λ i. passes_at ok c.args.circuit.now i ≡ false) (λ i. passes_at ok c.args.circuit.now i ≡ true) c.find.ensures.ran
    (λ x q k. grind (arith, tests, common_steps))
    (λ x q k. (search (rules, tests), grind (arith, tests, common_steps))))
