-- What follows when a table is accepted: its outputs are those of the direct reading, and its circuit keeps the rules.
use Prim.Native.Nat.{ℕ, ◌≤◌}
use mathlib.Core.Path.{◌≡◌}
use mathlib.Core.List.{List, []}
use lib.Dec.{leb, leb→le}
use lib.ListN.{length, take}
use Rattle.words.specs.Words.{words, bytes_of, AllWords}
use Rattle.rules.specs.Places.{accepted}
use Rattle.rules.specs.Gates.{AllKeep, circuit_words, wires}
use Rattle.rules.specs.Run.{State}
use Rattle.rules.specs.Plain.{Given, plain}
use Rattle.rules.specs.Direct.{follow, begin}
use Rattle.rules.specs.Answers.{program_of, run_of, built, failing10, failing20, failing21, gates_of}
use Rattle.rules.proofs.Places.{fault_none}
use Rattle.rules.proofs.Refusals.{built_accepted}
use Rattle.rules.proofs.Making.{AllSound, sound_keeps}
use Rattle.rules.proofs.Circuits.{never_20_21, gates_of_bytes}
use Rattle.rules.proofs.Bounds.{sound_words}
use Rattle.rules.proofs.Passing.{sorts, in_step}
use Rattle.rules.specs.Refusals.{Clear, table_checks}

module _ (table : List ℕ) {s : State} (yes : built table ≡ accepted s) where
  -- the state is the end of its run, and checks 1 to 8 are passed
  is_run : s ≡ run_of table
  is_run = (built_accepted table yes).0

  pub clear : Clear (take 8 (table_checks table))
  clear = let (c1, (c2, (c3, (c4, (c5, (c6, (c7, (c8, rest)))))))) = (built_accepted table yes).1 in (c1, (c2, (c3, (c4, (c5, (c6, (c7, (c8, tt))))))))

  no_10 : failing10 table ≡ []
  no_10 = (built_accepted table yes).1.1.1.1.1.1.1.1.1.1.0

  few_gates : length (run_of table).gates ≤ 3000
  unfolding failing10
  few_gates = leb→le (length (run_of table).gates) 3000 (fault_none (leb (length (run_of table).gates) 3000) 0 no_10)

  -- DEMAND 2: the outputs of the plain reading of the circuit are those of the direct reading, for all inputs
  pub same_outs : (given : Given) → (plain given s.gates).outs ≡ (follow given (program_of table) begin).outs
  same_outs given = rw is_run (in_step table clear given).outs

  sound : AllSound (sorts table clear) s.gates
  sound = rw is_run (in_step table clear (λ d n. 0)).good.gates

  -- the circuit keeps the rules, its words are words, and its wires are those that the run counts
  pub keeps_rules_lem : AllKeep s.gates
  keeps_rules_lem = sound_keeps (sorts table clear) s.gates sound

  pub in_words : AllWords (circuit_words s.gates)
  in_words = sound_words (sorts table clear) s.gates sound (rw is_run few_gates)

  pub counts_wires : (wires s.gates).count ≡ s.wires
  counts_wires = rw is_run (in_step table clear (λ d n. 0)).good.counted

  pub at_most_3000 : length s.gates ≤ 3000
  at_most_3000 = rw is_run few_gates

  -- compiled circuits are never refused with 20 or 21, and are read back gate by gate
  pub never_refused : (failing20 (bytes_of (circuit_words s.gates)) ≡ []) × (failing21 (words (bytes_of (circuit_words s.gates))) ≡ [])
  never_refused = never_20_21 s.gates keeps_rules_lem in_words at_most_3000

  pub read_back : gates_of (bytes_of (circuit_words s.gates)) ≡ s.gates
  read_back = gates_of_bytes s.gates in_words
