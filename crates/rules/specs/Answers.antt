-- Document 01, "Order of refusals": what each operation answers, and what it leaves in every lent memory, for any bytes
-- whatever. The places that fail each check come first; a check's number stands where the checks are put in their order.
use Rattle.std.specs.Prelude.{ℕ, ◌+◌, ◌*◌, ◌≡◌, Bool, ◌&&◌, List, [], ◌∷◌, ◌++◌, reverse, length, replicate, ltb, leb}
use Rattle.std.proofs.Math.Option.{Option, none, some}
use Rattle.words.specs.Words.{words, bytes_of, over}
use Rattle.rules.specs.Places.{Verdict, refused, accepted, fault, failing_below, unless, and_then}
use Rattle.rules.specs.Rows.{table_fits, row_count, row_shaped, used_once}
use Rattle.rules.specs.Tree.{Stmt, program}
use Rattle.rules.specs.Sites.{Site, sites, failing, check4}
use Rattle.rules.specs.Names.{check5}
use Rattle.rules.specs.Types.{check6}
use Rattle.rules.specs.Labels.{has, secrets, check7}
use Rattle.rules.specs.Counts.{check8}
use Rattle.rules.specs.Sorts.{fits_sort}
use Rattle.rules.specs.Gates.{Gate, makes, gate_at, gate_count, gates_to, gate_words, circuit_words, wires, check21, circuit_fits, entry_test}
use Rattle.rules.specs.Run.{State, run, start}
use Rattle.rules.specs.Plain.{Given, of_desk, inputs}
use Rattle.rules.specs.Direct.{follow, begin}
use Rattle.rules.specs.Shares.{tape_for, shared, shares_one, shares_two}
use Rattle.rules.specs.Text.{text_fits, check12, line_count, text_words, line_of}

-- The paper's number and place of a verdict, and a count of what was accepted: a refusal returns zero counts.
abbrev pub number_of : {A : Type 0} → Verdict A → ℕ
number_of (refused k p) = k
number_of (accepted a) = 0

abbrev pub place_of : {A : Type 0} → Verdict A → ℕ
place_of (refused k p) = p
place_of (accepted a) = 0

abbrev pub count_of : {A : Type 0} → (A → ℕ) → Verdict A → ℕ
count_of f (refused k p) = 0
count_of f (accepted a) = f a

-- A lent memory afterwards: as it was, or with the words that acceptance writes from its start.
abbrev pub leaves : {A : Type 0} → Verdict A → (A → List ℕ) → List ℕ → List ℕ
leaves (refused k p) ws b = b
leaves (accepted a) ws b = over (ws a) b

-- Compile. The program of a table's bytes, its rows, its secret rows, and the end of its run.
unfoldable pub program_of : List ℕ → Stmt
program_of table = program (words table)

unfoldable pub rows_of : List ℕ → ℕ
rows_of table = row_count (words table)

unfoldable pub sites_of : List ℕ → List Site
sites_of table = sites 1 [] (program_of table)

unfoldable pub secret_in : List ℕ → ℕ → Bool
secret_in table = has (secrets (rows_of table) (sites_of table))

unfoldable pub run_of : List ℕ → State
run_of table = run (secret_in table) (program_of table) start

-- no words, not a multiple of 4, over 4,096 words; bytes that are no whole words
unfoldable pub failing1 : List ℕ → List ℕ
failing1 table = fault (table_fits table) 0

-- unknown kind, field out of range, wrong child, unlisted word not 0, last row no statement
unfoldable pub failing2 : List ℕ → List ℕ
failing2 table = failing_below (row_shaped (words table) (rows_of table)) (rows_of table)

-- a row other than the last is not the child of exactly one place
unfoldable pub failing3 : List ℕ → List ℕ
failing3 table = failing_below (used_once (words table) (rows_of table)) (rows_of table)

-- a row is deeper than 64
unfoldable pub failing4 : List ℕ → List ℕ
failing4 table = failing check4 (sites_of table)

-- a name used but not in scope; declared or looped while in scope; a loop's name assigned or written
unfoldable pub failing5 : List ℕ → List ℕ
failing5 table = failing check5 (sites_of table)

-- wrong type; an array used whole; an input read at the other type by a lower row
unfoldable pub failing6 : List ℕ → List ℕ
failing6 table = failing (check6 (words table)) (sites_of table)

-- a secret index, or a secret guard of an if
unfoldable pub failing7 : List ℕ → List ℕ
failing7 table = failing (check7 (secret_in table)) (sites_of table)

-- index not shown below the length
unfoldable pub failing8 : List ℕ → List ℕ
failing8 table = failing check8 (sites_of table)

-- over 1,000,000 steps
unfoldable pub failing9 : List ℕ → List ℕ
failing9 table = fault (leb (run_of table).steps 1000000) 0

-- over 3,000 gates
unfoldable pub failing10 : List ℕ → List ℕ
failing10 table = fault (leb (length (run_of table).gates) 3000) 0

-- circuit memory lent is too short
unfoldable pub failing11 : State → List ℕ → List ℕ
failing11 s circuit = fault (leb (length (circuit_words s.gates)) (length (words circuit))) 0

-- checks 1 to 8: of the table as it stands
unfoldable pub checked : List ℕ → Verdict (Unit {0})
checked table =
    unless 1 (failing1 table) λ u.
    unless 2 (failing2 table) λ u.
    unless 3 (failing3 table) λ u.
    unless 4 (failing4 table) λ u.
    unless 5 (failing5 table) λ u.
    unless 6 (failing6 table) λ u.
    unless 7 (failing7 table) λ u.
    unless 8 (failing8 table) λ u.
    accepted tt

-- checks 9 and 10: of its run
unfoldable pub built : List ℕ → Verdict State
built table =
    and_then (checked table) λ u.
    unless 9 (failing9 table) λ u.
    unless 10 (failing10 table) λ u.
    accepted (run_of table)

unfoldable pub compile : List ℕ → List ℕ → Verdict State
compile table circuit =
    and_then (built table) λ s.
    unless 11 (failing11 s circuit) λ u.
    accepted s

-- number, place and counts; below them the circuit memory afterwards
pub record Compiled : Type 0 where
  pub number : ℕ
  pub place : ℕ
  pub gates : ℕ
  pub wires : ℕ
  pub steps : ℕ

unfoldable pub compile_answer : List ℕ → List ℕ → Compiled
compile_answer table circuit =
    let v = compile table circuit in
    record {
      number = number_of v;
      place = place_of v;
      gates = count_of (λ s. length s.gates) v;
      wires = count_of (λ s. s.wires) v;
      steps = count_of (λ s. s.steps) v;
    }

unfoldable pub compile_leaves : List ℕ → List ℕ → List ℕ
compile_leaves table circuit = leaves (compile table circuit) (λ s. circuit_words s.gates) circuit

-- Evaluate. The gates of a circuit's bytes, and how many of them are outs.
unfoldable pub gates_of : List ℕ → List Gate
gates_of circuit = gates_to (words circuit) (gate_count (words circuit))

abbrev pub out_made : Option ℕ → ℕ
out_made none = 1
out_made (some new) = 0

unfoldable pub out_count : List Gate → ℕ
out_count [] = 0
out_count (g ∷ gs) = out_made (makes g) + out_count gs

-- circuit words not a multiple of 5, or over 15,000; bytes that are no whole words
unfoldable pub failing20 : List ℕ → List ℕ
failing20 circuit = fault (circuit_fits circuit) 0

-- a gate breaks the rules; of a circuit's words
unfoldable pub failing21 : List ℕ → List ℕ
failing21 c = failing_below (check21 c) (gate_count c)

-- an input read lies past the end of that desk's inputs; of the words of a circuit and of both desks
unfoldable pub failing22 : List ℕ → List ℕ → List ℕ → List ℕ
failing22 c one two = failing_below (λ i. entry_test (λ d n m. ltb n (length (of_desk one two d))) (gate_at c i)) (gate_count c)

-- a bool input read is neither 0 nor 1
unfoldable pub failing23 : List ℕ → List ℕ → List ℕ → List ℕ
failing23 c one two = failing_below (λ i. entry_test (λ d n m. fits_sort m (inputs one two d n)) (gate_at c i)) (gate_count c)

-- Fit inputs are those with neither 22 nor 23.
pub record FitInputs (circuit inputs1 inputs2 : List ℕ) : Type 0 where
  pub no_22 : failing22 (words circuit) (words inputs1) (words inputs2) ≡ []
  pub no_23 : failing23 (words circuit) (words inputs1) (words inputs2) ≡ []

-- tape has fewer words than the circuit has wires
unfoldable pub failing24 : List Gate → List ℕ → List ℕ
failing24 gs tape = fault (leb (tape_for (wires gs)) (length (words tape))) 0

-- either share memory or the output memory is too short
unfoldable pub failing25 : List Gate → List ℕ → List ℕ → List ℕ → List ℕ
failing25 gs shares1 shares2 outputs =
    fault (leb (wires gs).count (length (words shares1))
    && (leb (wires gs).count (length (words shares2)) && leb (out_count gs) (length (words outputs)))) 0

-- what an accepted evaluation writes
pub record Evaluation : Type 0 where
  pub wires : ℕ
  pub one : List ℕ
  pub two : List ℕ
  pub outs : List ℕ

abbrev pub evaluation : List Gate → Given → List ℕ → Evaluation
evaluation gs given tape = record {
  wires = (wires gs).count;
  one = shares_one given tape gs;
  two = shares_two given tape gs;
  outs = reverse (shared given tape gs).outs;
}

-- the arguments of an evaluation: what it reads, and the memories lent to it
pub record Lent : Type 0 where
  pub circuit : List ℕ
  pub inputs1 : List ℕ
  pub inputs2 : List ℕ
  pub tape : List ℕ
  pub shares1 : List ℕ
  pub shares2 : List ℕ
  pub outputs : List ℕ

unfoldable pub evaluate : Lent → Verdict Evaluation
evaluate l =
    unless 20 (failing20 l.circuit) λ u.
    unless 21 (failing21 (words l.circuit)) λ u.
    unless 22 (failing22 (words l.circuit) (words l.inputs1) (words l.inputs2)) λ u.
    unless 23 (failing23 (words l.circuit) (words l.inputs1) (words l.inputs2)) λ u.
    unless 24 (failing24 (gates_of l.circuit) l.tape) λ u.
    unless 25 (failing25 (gates_of l.circuit) l.shares1 l.shares2 l.outputs) λ u.
    accepted (evaluation (gates_of l.circuit) (inputs (words l.inputs1) (words l.inputs2)) (words l.tape))

-- number, place and counts
pub record Evaluated : Type 0 where
  pub number : ℕ
  pub place : ℕ
  pub wires : ℕ
  pub outputs : ℕ

unfoldable pub evaluate_answer : Lent → Evaluated
evaluate_answer l =
    let v = evaluate l in
    record {
      number = number_of v;
      place = place_of v;
      wires = count_of (λ e. e.wires) v;
      outputs = count_of (λ e. length e.outs) v;
    }

-- the three lent memories afterwards
unfoldable pub leaves_one : Lent → List ℕ
leaves_one l = leaves (evaluate l) (λ e. e.one) l.shares1

unfoldable pub leaves_two : Lent → List ℕ
leaves_two l = leaves (evaluate l) (λ e. e.two) l.shares2

unfoldable pub leaves_outs : Lent → List ℕ
leaves_outs l = leaves (evaluate l) (λ e. e.outs) l.outputs

-- Direct reading: as compile and then evaluate would with enough memory, 25 only for outputs; what it writes is read off the
-- statements.
pub record DirectReading : Type 0 where
  pub wires : ℕ
  pub outs : List ℕ

-- the outputs of the statements, in order
unfoldable pub read_outs : List ℕ → Given → List ℕ
read_outs table given = reverse (follow given (program_of table) begin).outs

-- output memory is too short
unfoldable pub failing_direct : State → List ℕ → List ℕ
failing_direct s outputs = fault (leb (out_count s.gates) (length (words outputs))) 0

unfoldable pub read_directly : List ℕ → List ℕ → List ℕ → List ℕ → Verdict DirectReading
read_directly table inputs1 inputs2 outputs =
    and_then (built table) λ s.
    unless 22 (failing22 (circuit_words s.gates) (words inputs1) (words inputs2)) λ u.
    unless 23 (failing23 (circuit_words s.gates) (words inputs1) (words inputs2)) λ u.
    unless 25 (failing_direct s outputs) λ u.
    accepted (record { wires = s.wires; outs = read_outs table (inputs (words inputs1) (words inputs2)) })

unfoldable pub direct_answer : List ℕ → List ℕ → List ℕ → List ℕ → Evaluated
direct_answer table inputs1 inputs2 outputs =
    let v = read_directly table inputs1 inputs2 outputs in
    record {
      number = number_of v;
      place = place_of v;
      wires = count_of (λ f. f.wires) v;
      outputs = count_of (λ f. length f.outs) v;
    }

unfoldable pub direct_leaves : List ℕ → List ℕ → List ℕ → List ℕ → List ℕ
direct_leaves table inputs1 inputs2 outputs = leaves (read_directly table inputs1 inputs2 outputs) (λ f. f.outs) outputs

-- Text. It is empty or over 36,864 bytes.
unfoldable pub failing_text : List ℕ → List ℕ
failing_text text = fault (text_fits text) 0

-- a line is not as it should be
unfoldable pub failing12 : List ℕ → List ℕ
failing12 text = failing_below (check12 text) (line_count text)

-- table memory lent is too short
unfoldable pub failing13 : List ℕ → List ℕ → List ℕ
failing13 text table = fault (leb (4 * line_count text) (length (words table))) 0

-- accepted with the words of its lines
unfoldable pub read_text : List ℕ → List ℕ → Verdict (List ℕ)
read_text text table =
    unless 1 (failing_text text) λ u.
    unless 12 (failing12 text) λ u.
    unless 13 (failing13 text table) λ u.
    accepted (text_words text (line_count text))

pub record Lines : Type 0 where
  pub number : ℕ
  pub place : ℕ
  pub rows : ℕ

unfoldable pub text_answer : List ℕ → List ℕ → Lines
text_answer text table =
    let v = read_text text table in
    record { number = number_of v; place = place_of v; rows = count_of row_count v }

unfoldable pub text_leaves : List ℕ → List ℕ → List ℕ
text_leaves text table = leaves (read_text text table) (λ ws. ws) table

-- The printing program: a line with answer, place and gates, then a line for each gate. It lends enough: 11 and 13 never.
unfoldable pub gate_lines : List Gate → List ℕ
gate_lines [] = []
gate_lines (g ∷ gs) = gate_lines gs ++ line_of (gate_words g)

abbrev pub listing : Verdict State → List ℕ
listing (refused k p) = line_of (k ∷ p ∷ 0 ∷ [])
listing (accepted s) = line_of (0 ∷ 0 ∷ length s.gates ∷ []) ++ gate_lines s.gates

unfoldable pub printed : List ℕ → List ℕ
printed text = listing (and_then (read_text text (replicate 16384 0)) λ ws. built (bytes_of ws))
