-- What check 21 notes of a gate that keeps the rules.
use Rattle.std.proofs.Common.{◌≡◌, ℕ, T, List, [], ◌∷◌, ◌++◌, get_or, replicate, arith}
use Rattle.std.specs.Prelude.{Option, None, Some}
use Rattle.std.proofs.lemmas.Grind.{common_steps}
use Rattle.std.proofs.lemmas.Option.{gets}
use Rattle.arrayvec.specs.ArrayVec.{ArrayVec}
use Rattle.rules.specs.Gates.{Gate, wired, wires, clashes, is_next, keeps_rules}
use Rattle.circuit.specs.declared.sorts.Sort as code
use Rattle.circuit.specs.declared.gates.Gate as code_gate
use Rattle.circuit.specs.Gates.{meant}
use Rattle.circuit.specs.Slots.{slot_of, sort_at}
use Rattle.circuit.specs.Noted.{WiresNoted, InputsNoted, InputIn, sort_made}

-- a list of one element, read with that element past its end
all_alike : {A : Type 0} (n i : ℕ) (a : A) → get_or (replicate n a) i a ≡ a
all_alike n i a = grind (arith, common_steps)

-- a new table has no sort anywhere
pub unread : (d n : ℕ) → sort_at (replicate 128 None) d n ≡ None
unread d n = all_alike 128 (slot_of d n) None

-- before any gate there is no wire,
pub noted_none : {sorts : ArrayVec code.Sort} → sorts.items ≡ [] → WiresNoted [] sorts
unfolding wires
noted_none none = grind (arith, common_steps)

-- and no input is read
pub nothing_noted : (seen : List (Option code.Sort)) → ((d n : ℕ) → sort_at seen d n ≡ None) → InputsNoted [] seen
unfolding clashes
nothing_noted seen none d n place m = let unread = none d n in grind (arith, common_steps)

module _ {gs : List Gate} {sorts : ArrayVec code.Sort} (noted : WiresNoted gs sorts) (g : Gate) (ok : T (keeps_rules gs g)) where
  -- a wire that a gate makes is noted with its sort,
  pub wire_after : {m : code.Sort} → Some m ≡ sort_made gs g → {after : ArrayVec code.Sort} → after.items ≡ sorts.items ++ m ∷ [] → WiresNoted (g ∷ gs) after
  unfolding wires wired keeps_rules is_next
  wire_after is items =
      let count = noted.count in
      record {
        count = grind (arith, common_steps);
        sorts_are = λ k l. let before = noted.sorts_are k in grind (arith, common_steps, gets);
      }

  -- and an out makes none
  pub no_wire_after : None ≡ sort_made gs g → WiresNoted (g ∷ gs) sorts
  unfolding wires wired
  no_wire_after is = let count = noted.count in let before = noted.sorts_are in grind (arith, common_steps)

-- an input that a gate reads has a place in the table
pub input_in : (gate : code_gate.Gate) (gs : List Gate) → T (keeps_rules gs (meant gate)) → InputIn gate
unfolding keeps_rules
input_in gate gs ok = grind (arith, common_steps)
