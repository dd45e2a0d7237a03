-- Check 21 gate by gate: what holds after the first gates, and what follows when a gate breaks the rules or none is left.
use Rattle.std.proofs.Common.{◌≡◌, ℕ, ◌+◌, ◌<◌, ◌≤◌, true, false, T, List, [], ◌∷◌, length, refl, add-one, arith}
use Rattle.std.specs.Prelude.{Option}
use mathlib.Core.Option as maybe
use Rattle.std.proofs.lemmas.Grind.{common_steps}
use Rattle.arrayvec.specs.ArrayVec.{ArrayVec}
use Rattle.words.specs.Words.{words}
use Rattle.rules.specs.Places.{failing_below}
use Rattle.rules.specs.Refusals.{Lowest}
use Rattle.rules.specs.Gates.{Gate, gate_at, gate_count, gates_to, keeps_rules, gate_keeps, check21}
use Rattle.rules.specs.Answers.{gates_of, failing21}
use Rattle.rules.proofs.Basics.{of_true}
use Rattle.rules.proofs.Places.{first_fails, passes_on}
use Rattle.rules.proofs.Earlier.{gates_step, wires-below}
use Rattle.circuit.specs.declared.sorts.Sort as code
use Rattle.circuit.specs.declared.gates.Gate as code_gate
use Rattle.circuit.specs.Gates.{meant}
use Rattle.circuit.specs.Slots.{sort_at}
use Rattle.circuit.specs.Noted.{WiresNoted, InputsNoted, InputIn, kept}
use Rattle.circuit.proofs.CheckLaws.{noted_none, nothing_noted, input_in}

-- the first i gates keep the rules, and what they make and read is noted
pub record Passed (circuit : List ℕ) (sorts : ArrayVec code.Sort) (seen : List (Option code.Sort)) (i : ℕ) : Type 0 where
  pub none_fails : failing_below (check21 (words circuit)) i ≡ []
  pub wires_noted : WiresNoted (gates_to (words circuit) i) sorts
  pub inputs_noted : InputsNoted (gates_to (words circuit) i) seen

-- before any gate
pub passed_none : (circuit : List ℕ) {sorts : ArrayVec code.Sort} {seen : List (Option code.Sort)} → sorts.items ≡ []
    → ((d n : ℕ) → sort_at seen d n ≡ Option.None) → Passed circuit sorts seen 0
unfolding failing_below gates_to
passed_none circuit {sorts} {seen} none unread = record {
  none_fails = refl;
  wires_noted = noted_none none;
  inputs_noted = nothing_noted seen unread;
}

-- where no gate is kept, there is none that keeps the rules,
kept_none : (gs : List Gate) (o : maybe.Option Gate) → maybe.none ≡ kept gs o → gate_keeps gs o ≡ false
kept_none gs o e = grind (arith, common_steps)

-- and one that is kept does
kept_some : (gs : List Gate) (o : maybe.Option Gate) {g : Gate} → maybe.some g ≡ kept gs o → (o ≡ maybe.some g) × (keeps_rules gs g ≡ true)
kept_some gs o e = grind (arith, common_steps)

module _ {circuit : List ℕ} {sorts : ArrayVec code.Sort} {seen : List (Option code.Sort)} {i : ℕ} (passed : Passed circuit sorts seen i) where
  -- there are no more wires than gates
  pub passed_wires : length sorts.items ≤ i
  passed_wires = omega (arith, passed.wires_noted.count, wires-below (words circuit) i)

  -- where gate i is not kept, it is the lowest that breaks the rules
  pub passed_breaks : i < gate_count (words circuit) → maybe.none ≡ kept (gates_to (words circuit) i) (gate_at (words circuit) i)
      → Lowest i (failing21 (words circuit))
  unfolding failing21 check21
  passed_breaks more breaks =
      first_fails (check21 (words circuit)) i (gate_count (words circuit)) passed.none_fails more
      (kept_none _ _ breaks)

  -- with a gate more that is kept
  pub passed_next : {g : Gate} → maybe.some g ≡ kept (gates_to (words circuit) i) (gate_at (words circuit) i)
      → {more : ArrayVec code.Sort} {seen' : List (Option code.Sort)}
      → (T (keeps_rules (gates_to (words circuit) i) g) → WiresNoted (g ∷ gates_to (words circuit) i) more)
      → (T (keeps_rules (gates_to (words circuit) i) g) → InputsNoted (g ∷ gates_to (words circuit) i) seen') → Passed circuit more seen' (i + 1)
  unfolding check21
  passed_next {g} found wires inputs =
      let (is, keeps) = kept_some _ _ found in
      let ok = of_true _ keeps in
      record {
        none_fails = rw add-one (passes_on (check21 (words circuit)) i passed.none_fails (rw is keeps));
        wires_noted = rw (add-one, gates_step (words circuit) i is) (wires ok);
        inputs_noted = rw (add-one, gates_step (words circuit) i is) (inputs ok);
      }

  -- and that gate's input has a place in the table
  pub passed_in : (gate : code_gate.Gate) → maybe.some (meant gate) ≡ kept (gates_to (words circuit) i) (gate_at (words circuit) i) → InputIn gate
  passed_in gate found = input_in gate _ (of_true _ (kept_some _ _ found).1)

  -- with all gates
  pub passed_all : i ≡ gate_count (words circuit) → (failing21 (words circuit) ≡ []) × WiresNoted (gates_of circuit) sorts
  unfolding failing21 gates_of
  passed_all all = (rw (← all) passed.none_fails, rw (← all) passed.wires_noted)
