-- The theorems about document 01, on one page: each is stated here in full and proved in the file that it cites.
use Prim.Native.Nat.{ℕ, ◌≤◌, ◌<◌, ◌^◌, ◌%◌}
use mathlib.Core.Path.{◌≡◌}
use mathlib.Core.Logic.{◌↔◌}
use mathlib.Core.List.{List, []}
use lib.Dec.{T}
use lib.ListN.{length, get_or}
use Rattle.words.specs.Words.{words, bytes_of, over, AllWords, AllBytes}
use Rattle.rules.specs.Places.{Verdict, accepted}
use Rattle.rules.specs.Labels.{all_rules, all_inputs, Closed, Secret}
use Rattle.rules.specs.Gates.{Gate, circuit_words, wires, AllKeep}
use Rattle.rules.specs.Run.{State, start}
use Rattle.rules.specs.Plain.{Given, inputs, plain}
use Rattle.rules.specs.Direct.{follow, begin}
use Rattle.rules.specs.Accesses.{AllBelow, read_accesses, run_accesses}
use Rattle.rules.specs.Shares.{shared, Fit, Private}
use Rattle.rules.specs.Text.{text_of, text_words, line_count}
use Rattle.rules.specs.Answers.{failing12, gates_of, FitInputs, program_of, sites_of, secret_in, built, compile, compile_answer, compile_leaves, failing20, failing21}
use Rattle.rules.specs.Answers.{Lent, Evaluation, evaluate, evaluate_answer, leaves_one, leaves_two, leaves_outs}
use Rattle.rules.specs.Answers.{DirectReading, read_directly, direct_answer, direct_leaves, read_text, text_answer, text_leaves}
use Rattle.rules.specs.Refusals.{Compiles, Evaluates, Reads, ReadsText}
use Rattle.rules.specs.Cases.{AllHold, cases, listings, slips}
use Rattle.rules.proofs.Refusals.{compiles, evaluates, reads_directly, reads_text}
use Rattle.rules.proofs.Accepted.{clear, same_outs, counts_wires, never_refused}
use Rattle.rules.proofs.Shaped.{labels_closed, labels_least}
use Rattle.rules.proofs.Passing.{accesses_below}
use Rattle.rules.proofs.AsEvaluate.{lent_for, direct_as_evaluate}
use Rattle.rules.proofs.Shares.{demand_three, same_outputs}
use Rattle.rules.proofs.Memories.{compile_refused_leaves, evaluate_refused_leaves, direct_refused_leaves, text_refused_leaves}
use Rattle.rules.proofs.Memories.{compile_refused_counts, evaluate_refused_counts, direct_refused_counts, text_refused_counts}
use Rattle.rules.proofs.Memories.{zero_accepts, accepts_zero, compile_numbered, evaluate_numbered, direct_numbered, text_numbered}
use Rattle.rules.proofs.Evaluated.{evaluated_private}
use Rattle.rules.proofs.Texts.{text_read_back, never_12}
use Rattle.rules.proofs.Memories.{compile_accepted_leaves, evaluate_accepted_leaves, direct_accepted_leaves, text_accepted_leaves}
use Rattle.rules.proofs.Memories.{compile-length, evaluate-length, direct-length, text_length}
use Rattle.rules.proofs.Cases as proved

-- 1. Each number is given in its case and no other: an operation's verdict is v exactly where the cases of the paper's tables
-- (specs/Refusals) allow v.
pub compile_by_cases : (t circuit : List ℕ) (v : Verdict State) → Compiles t circuit v ↔ (compile t circuit ≡ v)
compile_by_cases = compiles

pub evaluate_by_cases : (l : Lent) (v : Verdict Evaluation) → Evaluates l v ↔ (evaluate l ≡ v)
evaluate_by_cases = evaluates

pub direct_by_cases : (t i1 i2 o : List ℕ) (v : Verdict DirectReading) → Reads t i1 i2 o v ↔ (read_directly t i1 i2 o ≡ v)
direct_by_cases = reads_directly

pub text_by_cases : (text table : List ℕ) (v : Verdict (List ℕ)) → ReadsText text table v ↔ (read_text text table ≡ v)
text_by_cases = reads_text

-- The number 0 means acceptance.
pub compile_zero : (t circuit : List ℕ) → ((compile_answer t circuit).number ≡ 0) ↔ ((s : State) × (compile t circuit ≡ accepted s))
unfolding compile_answer
compile_zero t circuit = (zero_accepts (compile t circuit) (compile_numbered t circuit), λ a. accepts_zero a.1)

pub evaluate_zero : (l : Lent) → ((evaluate_answer l).number ≡ 0) ↔ ((d : Evaluation) × (evaluate l ≡ accepted d))
unfolding evaluate_answer
evaluate_zero l = (zero_accepts (evaluate l) (evaluate_numbered l), λ a. accepts_zero a.1)

pub direct_zero : (t i1 i2 o : List ℕ) → ((direct_answer t i1 i2 o).number ≡ 0) ↔ ((f : DirectReading) × (read_directly t i1 i2 o ≡ accepted f))
unfolding direct_answer
direct_zero t i1 i2 o = (zero_accepts (read_directly t i1 i2 o) (direct_numbered t i1 i2 o), λ a. accepts_zero a.1)

pub text_zero : (text table : List ℕ) → ((text_answer text table).number ≡ 0) ↔ ((ws : List ℕ) × (read_text text table ≡ accepted ws))
unfolding text_answer
text_zero text table = (zero_accepts (read_text text table) (text_numbered text table), λ a. accepts_zero a.1)

module _ (table : List ℕ) {s : State} (yes : built table ≡ accepted s) where
  -- 2. Demand 2 of an accepted table: for all inputs the outputs of its circuit, read plainly, are those of reading the
  -- statements directly; no array access passes an end, of the direct reading or of the run; the wires are the run's.
  pub circuit_outputs : (given : Given) → (plain given s.gates).outs ≡ (follow given (program_of table) begin).outs
  circuit_outputs = same_outs table yes

  pub no_access_passes : (given : Given)
      → AllBelow (read_accesses given [] (program_of table) begin) × AllBelow (run_accesses (secret_in table) [] (program_of table) start)
  no_access_passes = accesses_below table (clear table yes)

  pub wires_are_the_run's : (wires s.gates).count ≡ s.wires
  wires_are_the_run's = counts_wires table yes

  -- 3. Its circuit is never refused with 20 or 21; its input sorts agree, as 21 asks.
  pub never_20_or_21 : (failing20 (bytes_of (circuit_words s.gates)) ≡ []) × (failing21 (words (bytes_of (circuit_words s.gates))) ≡ [])
  never_20_or_21 = never_refused table yes

  -- 4. The labels that are computed have the inputs and keep the rules, and they are the smallest such set.
  pub computed_closed : Closed (all_inputs (sites_of table)) (all_rules (sites_of table)) (secret_in table)
  computed_closed = let (c1, (c2, rest)) = clear table yes in labels_closed table c1 c2

  pub computed_least : (r : ℕ) → T (secret_in table r) ↔ Secret (sites_of table) r
  computed_least = let (c1, (c2, rest)) = clear table yes in labels_least table c1 c2

  -- Direct reading answers as compile and then evaluate would with enough circuit, tape and share memory, and puts out the
  -- same.
  pub direct_is_evaluate : (i1 i2 tape one two o : List ℕ) → AllBytes i1 → AllBytes i2 → AllBytes tape
      → s.wires ≤ length (words tape) → s.wires ≤ length (words one) → s.wires ≤ length (words two)
      → (direct_answer table i1 i2 o ≡ evaluate_answer (lent_for s i1 i2 tape one two o))
      × (direct_leaves table i1 i2 o ≡ leaves_outs (lent_for s i1 i2 tape one two o))
  direct_is_evaluate = direct_as_evaluate table yes

-- 5. Demand 3 of any circuit that keeps the rules and any two fit sets of inputs (specs/Shares, Private): desk one's shares
-- are the same with one tape, the tapes pair one to one, desk two's shares are the same in partners, and shares join to the
-- plain values. And Figure 13 puts out what the plain reading does.
pub demand_3 : (gs : List Gate) → AllKeep gs → AllWords (circuit_words gs) → {given given' : Given} → Fit gs given → Fit gs given'
    → Private gs given given'
demand_3 = demand_three

pub shared_outputs : (gs : List Gate) → AllKeep gs → AllWords (circuit_words gs) → {given : Given} → Fit gs given
    → (tape : List ℕ) → ((k : ℕ) → get_or tape k 0 < 2 ^ 32) → (shared given tape gs).outs ≡ (plain given gs).outs
shared_outputs = same_outputs

-- The same of what evaluation accepts: a circuit whose gates pass 21, and any two sets of inputs with neither 22 nor 23.
pub demand_3_of_evaluation : (circuit i1 i2 j1 j2 : List ℕ) → AllBytes circuit → AllBytes i1 → AllBytes i2 → AllBytes j1 → AllBytes j2
    → failing21 (words circuit) ≡ [] → FitInputs circuit i1 i2 → FitInputs circuit j1 j2
    → Private (gates_of circuit) (inputs (words i1) (words i2)) (inputs (words j1) (words j2))
demand_3_of_evaluation = evaluated_private

-- 6. A refusal's memory is the memory before.
pub compile_refusal_leaves : (t circuit : List ℕ) → ((compile_answer t circuit).number ≡ 0 → ⊥) → compile_leaves t circuit ≡ circuit
compile_refusal_leaves = compile_refused_leaves

pub evaluate_refusal_leaves : (l : Lent) → ((evaluate_answer l).number ≡ 0 → ⊥)
    → (leaves_one l ≡ l.shares1) × (leaves_two l ≡ l.shares2) × (leaves_outs l ≡ l.outputs)
evaluate_refusal_leaves = evaluate_refused_leaves

pub direct_refusal_leaves : (t i1 i2 o : List ℕ) → ((direct_answer t i1 i2 o).number ≡ 0 → ⊥) → direct_leaves t i1 i2 o ≡ o
direct_refusal_leaves = direct_refused_leaves

pub text_refusal_leaves : (text table : List ℕ) → ((text_answer text table).number ≡ 0 → ⊥) → text_leaves text table ≡ table
text_refusal_leaves = text_refused_leaves

-- Its counts are 0.
pub compile_refusal_counts : (t circuit : List ℕ) → ((compile_answer t circuit).number ≡ 0 → ⊥)
    → ((compile_answer t circuit).gates ≡ 0) × ((compile_answer t circuit).wires ≡ 0) × ((compile_answer t circuit).steps ≡ 0)
compile_refusal_counts = compile_refused_counts

pub evaluate_refusal_counts : (l : Lent) → ((evaluate_answer l).number ≡ 0 → ⊥) → ((evaluate_answer l).wires ≡ 0) × ((evaluate_answer l).outputs ≡ 0)
evaluate_refusal_counts = evaluate_refused_counts

pub direct_refusal_counts : (t i1 i2 o : List ℕ) → ((direct_answer t i1 i2 o).number ≡ 0 → ⊥)
    → ((direct_answer t i1 i2 o).wires ≡ 0) × ((direct_answer t i1 i2 o).outputs ≡ 0)
direct_refusal_counts = direct_refused_counts

pub text_refusal_counts : (text table : List ℕ) → ((text_answer text table).number ≡ 0 → ⊥) → (text_answer text table).rows ≡ 0
text_refusal_counts = text_refused_counts

-- Acceptance writes its words from the start, and after them the memory is as it was.
pub compile_writes : (t circuit : List ℕ) {s : State} → compile t circuit ≡ accepted s → compile_leaves t circuit ≡ over (circuit_words s.gates) circuit
compile_writes = compile_accepted_leaves

pub evaluate_writes : (l : Lent) {d : Evaluation} → evaluate l ≡ accepted d
    → (leaves_one l ≡ over d.one l.shares1) × (leaves_two l ≡ over d.two l.shares2) × (leaves_outs l ≡ over d.outs l.outputs)
evaluate_writes = evaluate_accepted_leaves

pub direct_writes : (t i1 i2 o : List ℕ) {f : DirectReading} → read_directly t i1 i2 o ≡ accepted f → direct_leaves t i1 i2 o ≡ over f.outs o
direct_writes = direct_accepted_leaves

pub text_writes : (text table : List ℕ) {ws : List ℕ} → read_text text table ≡ accepted ws → text_leaves text table ≡ over ws table
text_writes = text_accepted_leaves

-- No lent memory grows or shrinks.
pub compile_keeps_length : (t circuit : List ℕ) → length (compile_leaves t circuit) ≡ length circuit
compile_keeps_length = compile-length

pub evaluate_keeps_length : (l : Lent)
    → (length (leaves_one l) ≡ length l.shares1) × (length (leaves_two l) ≡ length l.shares2) × (length (leaves_outs l) ≡ length l.outputs)
evaluate_keeps_length = evaluate-length

pub direct_keeps_length : (t i1 i2 o : List ℕ) → length (direct_leaves t i1 i2 o) ≡ length o
direct_keeps_length = direct-length

pub text_keeps_length : (text table : List ℕ) → length (text_leaves text table) ≡ length table
text_keeps_length = text_length

-- The text of a table's words reads back as those words, and none of its lines is wrong.
pub text_reads_back : (ws : List ℕ) → AllWords ws → length ws % 4 ≡ 0
    → (text_words (text_of ws) (line_count (text_of ws)) ≡ ws) × (failing12 (text_of ws) ≡ [])
text_reads_back ws h e = (text_read_back ws h e, never_12 ws)

-- The P cases as one list under one statement; case sum as text; and the likely slips.
pub all_cases_hold : AllHold cases
all_cases_hold = proved.all_hold

pub all_listings_hold : AllHold listings
all_listings_hold = proved.listings_hold

pub all_slips_hold : AllHold slips
all_slips_hold = proved.slips_hold
