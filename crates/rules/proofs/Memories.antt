-- What the operations leave in the memories lent to them: a refusal leaves each as it was and counts nothing; acceptance
-- writes its words from the start of each, and no byte more.
use Prim.Native.Nat.{ℕ, zero, suc, ◌*◌, ◌≤◌, ◌<◌}
use mathlib.Core.Path.{◌≡◌, refl, sym, subst, ap, ◌∙◌}
use mathlib.Core.Bool.{◌&&◌}
use mathlib.Core.List.{List, [], ◌∷◌}
use lib.Dec.{leb, leb→le}
use lib.ListN.{length, length-append, length-reverse}
use mir.Facts.{and_yes}
use native.Mathlib.Omega.{arith}
use Rattle.words.specs.Words.{words, over}
use Rattle.words.proofs.Words.{words-length, over-length}
use Rattle.rules.specs.Places.{Verdict, refused, accepted, fault, unless, and_then}
use Rattle.rules.specs.Rows.{row_count}
use Rattle.rules.specs.Gates.{Gate, wires, circuit_words}
use Rattle.rules.specs.Run.{State}
use Rattle.rules.specs.Plain.{Given, inputs}
use Rattle.rules.specs.Direct.{follow, begin}
use Rattle.rules.specs.Shares.{shared, shares_one, shares_two}
use Rattle.rules.specs.Text.{text_words, line_words, line_count}
use Rattle.rules.specs.Answers.{number_of, count_of, leaves, out_count, program_of}
use Rattle.rules.specs.Answers.{built, compile, compile_answer, compile_leaves}
use Rattle.rules.specs.Answers.{gates_of, Lent, Evaluation, evaluate, evaluate_answer, leaves_one, leaves_two, leaves_outs}
use Rattle.rules.specs.Answers.{read_outs, DirectReading, read_directly, direct_answer, direct_leaves, read_text, text_answer, text_leaves}
use Rattle.rules.specs.Answers.{failing11, failing13, failing25, failing_direct}
use Rattle.rules.specs.Refusals.{Compiles, Evaluates, Reads, ReadsText}
use Rattle.rules.proofs.Places.{fault_none}
use Rattle.rules.proofs.Ladders.{Rung, ladder}
use Rattle.rules.proofs.Accepted.{same_outs}
use Rattle.rules.proofs.Circuits.{out_count_lem, outs_of_shares}
use Rattle.rules.proofs.Listed.{length-listed}
use Rattle.rules.proofs.Refusals.{built-ladder, table_rungs, circuit_rungs, evaluate_rungs, direct_rungs, text_rungs}
use Rattle.rules.proofs.Refusals.{builds, compiles, evaluates, reads_directly, reads_text}

-- Of any verdict. A refusal leaves a memory as it was.
pub refused_leaves : {A : Type 0} (v : Verdict A) (ws : A → List ℕ) (b : List ℕ) → (number_of v ≡ 0 → ⊥) → leaves v ws b ≡ b
refused_leaves (refused k p) ws b h = refl
refused_leaves (accepted a) ws b h = absurd (h refl)

-- a refusal counts nothing
pub refused_counts : {A : Type 0} (v : Verdict A) (f : A → ℕ) → (number_of v ≡ 0 → ⊥) → count_of f v ≡ 0
refused_counts (refused k p) f h = refl
refused_counts (accepted a) f h = absurd (h refl)

-- acceptance writes its words over the memory
pub accepted_leaves : {A : Type 0} {v : Verdict A} {a : A} (ws : A → List ℕ) (b : List ℕ) → v ≡ accepted a → leaves v ws b ≡ over (ws a) b
accepted_leaves ws b e = ap (λ v. leaves v ws b) e

-- a memory keeps its length where the words that acceptance writes fit into it
pub leaves-length : {A : Type 0} (v : Verdict A) (ws : A → List ℕ) (b : List ℕ) → ((a : A) → v ≡ accepted a → length (ws a) ≤ length (words b))
    → length (leaves v ws b) ≡ length b
leaves-length (refused k p) ws b h = refl
leaves-length (accepted a) ws b h = let fits = h a refl in over-length (ws a) b (omega (arith, words-length b))

-- A verdict is numbered: if it refuses, then with a number that is not 0.
abbrev pub Numbered : {A : Type 0} → Verdict A → Type 0
Numbered (refused k p) = k ≡ 0 → ⊥
Numbered (accepted a) = Unit {0}

-- a numbered refusal's number is not 0
pub refusal_number_lem : {A : Type 0} {v : Verdict A} {k p : ℕ} → Numbered v → v ≡ refused k p → k ≡ 0 → ⊥
refusal_number_lem n e = subst (λ v. Numbered v) e n

-- a numbered verdict with number 0 accepts
pub zero_accepts : {A : Type 0} (v : Verdict A) → Numbered v → number_of v ≡ 0 → (a : A) × (v ≡ accepted a)
zero_accepts (refused k p) n e = absurd (n e)
zero_accepts (accepted a) n e = (a, refl)

-- a verdict that accepts has number 0
pub accepts_zero : {A : Type 0} {v : Verdict A} {a : A} → v ≡ accepted a → number_of v ≡ 0
accepts_zero e = ap (λ v. number_of v) e

-- no rung has number 0
abbrev Above : List Rung → Type 0
Above [] = Unit {0}
Above (r ∷ rs) = (0 < r.number) × Above rs

-- such a ladder is numbered if the verdict above it is
ladder_numbered : {A : Type 0} (rs : List Rung) (v : Verdict A) → Above rs → Numbered v → Numbered (ladder rs v)
ladder_numbered [] v h n = n
ladder_numbered (r ∷ rs) v h n = go r.places (ladder_numbered rs v h.1 n)
  where
    go : (ps : List ℕ) → Numbered (ladder rs v) → Numbered (unless r.number ps λ u. ladder rs v)
    go [] m = unfold unless in m
    go (p ∷ ps) m = unfold unless in λ e. omega (arith, h.0)

-- one operation after another is numbered if both are
then_numbered : {A B : Type 0} (v : Verdict A) (next : A → Verdict B) → Numbered v → ((a : A) → Numbered (next a)) → Numbered (and_then v next)
unfolding and_then
then_numbered (refused k p) next n h = n
then_numbered (accepted a) next n h = h a

-- The five operations are numbered: a table's checks,
pub built_numbered : (t : List ℕ) → Numbered (built t)
built_numbered t = rw (built-ladder t) (ladder_numbered (table_rungs t) _ (omega arith) tt)

-- compile,
pub compile_numbered : (t circuit : List ℕ) → Numbered (compile t circuit)
unfolding compile
compile_numbered t circuit = then_numbered (built t) _ (built_numbered t) λ s. ladder_numbered (circuit_rungs s circuit) _ (omega arith) tt

-- evaluate,
pub evaluate_numbered : (l : Lent) → Numbered (evaluate l)
unfolding evaluate
evaluate_numbered l = ladder_numbered (evaluate_rungs l) _ (omega arith) tt

-- direct reading,
pub direct_numbered : (t i1 i2 o : List ℕ) → Numbered (read_directly t i1 i2 o)
unfolding read_directly
direct_numbered t i1 i2 o = then_numbered (built t) _ (built_numbered t) λ s. ladder_numbered (direct_rungs s i1 i2 o) _ (omega arith) tt

-- and text.
pub text_numbered : (text table : List ℕ) → Numbered (read_text text table)
unfolding read_text
text_numbered text table = ladder_numbered (text_rungs text table) _ (omega arith) tt

-- Refused, every lent memory is as it was: compile's circuit,
pub compile_refused_leaves : (t circuit : List ℕ) → ((compile_answer t circuit).number ≡ 0 → ⊥) → compile_leaves t circuit ≡ circuit
unfolding compile_answer compile_leaves
compile_refused_leaves t circuit h = refused_leaves (compile t circuit) (λ s. circuit_words s.gates) circuit h

-- evaluate's shares and outputs,
pub evaluate_refused_leaves : (l : Lent) → ((evaluate_answer l).number ≡ 0 → ⊥)
    → (leaves_one l ≡ l.shares1) × (leaves_two l ≡ l.shares2) × (leaves_outs l ≡ l.outputs)
unfolding evaluate_answer leaves_one leaves_two leaves_outs
evaluate_refused_leaves l h = (
  refused_leaves (evaluate l) (λ e. e.one) l.shares1 h,
  refused_leaves (evaluate l) (λ e. e.two) l.shares2 h,
  refused_leaves (evaluate l) (λ e. e.outs) l.outputs h,
)

-- the direct reading's outputs,
pub direct_refused_leaves : (t i1 i2 o : List ℕ) → ((direct_answer t i1 i2 o).number ≡ 0 → ⊥) → direct_leaves t i1 i2 o ≡ o
unfolding direct_answer direct_leaves
direct_refused_leaves t i1 i2 o h = refused_leaves (read_directly t i1 i2 o) (λ f. f.outs) o h

-- and a text's table.
pub text_refused_leaves : (text table : List ℕ) → ((text_answer text table).number ≡ 0 → ⊥) → text_leaves text table ≡ table
unfolding text_answer text_leaves
text_refused_leaves text table h = refused_leaves (read_text text table) (λ ws. ws) table h

-- Refused, every count is 0: compile's gates, wires and steps,
pub compile_refused_counts : (t circuit : List ℕ) → ((compile_answer t circuit).number ≡ 0 → ⊥)
    → ((compile_answer t circuit).gates ≡ 0) × ((compile_answer t circuit).wires ≡ 0) × ((compile_answer t circuit).steps ≡ 0)
unfolding compile_answer
compile_refused_counts t circuit h =
    let v = compile t circuit in
    (refused_counts v (λ s. length s.gates) h, refused_counts v (λ s. s.wires) h, refused_counts v (λ s. s.steps) h)

-- evaluate's wires and outputs,
pub evaluate_refused_counts : (l : Lent) → ((evaluate_answer l).number ≡ 0 → ⊥) → ((evaluate_answer l).wires ≡ 0) × ((evaluate_answer l).outputs ≡ 0)
unfolding evaluate_answer
evaluate_refused_counts l h = (refused_counts (evaluate l) (λ e. e.wires) h, refused_counts (evaluate l) (λ e. length e.outs) h)

-- the direct reading's wires and outputs,
pub direct_refused_counts : (t i1 i2 o : List ℕ) → ((direct_answer t i1 i2 o).number ≡ 0 → ⊥)
    → ((direct_answer t i1 i2 o).wires ≡ 0) × ((direct_answer t i1 i2 o).outputs ≡ 0)
unfolding direct_answer
direct_refused_counts t i1 i2 o h =
    let v = read_directly t i1 i2 o in
    (refused_counts v (λ f. f.wires) h, refused_counts v (λ f. length f.outs) h)

-- and a text's rows.
pub text_refused_counts : (text table : List ℕ) → ((text_answer text table).number ≡ 0 → ⊥) → (text_answer text table).rows ≡ 0
unfolding text_answer
text_refused_counts text table h = refused_counts (read_text text table) row_count h

-- Accepted, the words stand over each memory from its start: the gates' words over compile's circuit,
pub compile_accepted_leaves : (t circuit : List ℕ) {s : State} → compile t circuit ≡ accepted s
    → compile_leaves t circuit ≡ over (circuit_words s.gates) circuit
unfolding compile_leaves
compile_accepted_leaves t circuit e = accepted_leaves (λ s. circuit_words s.gates) circuit e

-- the desks' shares and the outputs over evaluate's memories,
pub evaluate_accepted_leaves : (l : Lent) {d : Evaluation} → evaluate l ≡ accepted d
    → (leaves_one l ≡ over d.one l.shares1) × (leaves_two l ≡ over d.two l.shares2) × (leaves_outs l ≡ over d.outs l.outputs)
unfolding leaves_one leaves_two leaves_outs
evaluate_accepted_leaves l e = (
  accepted_leaves (λ d. d.one) l.shares1 e,
  accepted_leaves (λ d. d.two) l.shares2 e,
  accepted_leaves (λ d. d.outs) l.outputs e,
)

-- the outputs over the direct reading's memory,
pub direct_accepted_leaves : (t i1 i2 o : List ℕ) {f : DirectReading} → read_directly t i1 i2 o ≡ accepted f → direct_leaves t i1 i2 o ≡ over f.outs o
unfolding direct_leaves
direct_accepted_leaves t i1 i2 o e = accepted_leaves (λ f. f.outs) o e

-- and the lines' words over a text's table.
pub text_accepted_leaves : (text table : List ℕ) {ws : List ℕ} → read_text text table ≡ accepted ws → text_leaves text table ≡ over ws table
unfolding text_leaves
text_accepted_leaves text table e = accepted_leaves (λ ws. ws) table e

-- How many words acceptance writes. A text has four words to a line
pub text_words_length : (text : List ℕ) (n : ℕ) → length (text_words text n) ≡ 4 * n
unfolding text_words
text_words_length text zero = refl
text_words_length text (suc n) = length-append (text_words text n) (line_words text (36 * n)) ∙ omega (arith, text_words_length text n)

-- desk one gets a word for each wire
pub shares_one_length : (given : Given) (tape : List ℕ) (gs : List Gate) → length (shares_one given tape gs) ≡ (wires gs).count
unfolding shares_one
shares_one_length given tape gs = length-listed (wires gs).count (shared given tape gs).one

-- and so does desk two
pub shares_two_length : (given : Given) (tape : List ℕ) (gs : List Gate) → length (shares_two given tape gs) ≡ (wires gs).count
unfolding shares_two
shares_two_length given tape gs = length-listed (wires gs).count (shared given tape gs).two

-- Acceptance's words fit, since a check compares: one memory with one number of words,
one_fits : (a x : ℕ) → fault (leb a x) 0 ≡ [] → a ≤ x
one_fits a x e = leb→le a x (fault_none (leb a x) 0 e)

-- or three with three.
three_fit : (a x b y c z : ℕ) → fault (leb a x && (leb b y && leb c z)) 0 ≡ [] → (a ≤ x) × (b ≤ y) × (c ≤ z)
three_fit a x b y c z e =
    let (p, rest) = and_yes (leb a x) (leb b y && leb c z) (fault_none (leb a x && (leb b y && leb c z)) 0 e) in
    let (q, r) = and_yes (leb b y) (leb c z) rest in
    (leb→le a x p, leb→le b y q, leb→le c z r)

-- compile's words fit: check 11
pub compile-fits : (t circuit : List ℕ) {s : State} → Compiles t circuit (accepted s) → length (circuit_words s.gates) ≤ length (words circuit)
unfolding failing11
compile-fits t circuit (Compiles.all_hold {s = s} b c) = one_fits (length (circuit_words s.gates)) (length (words circuit)) c.0

-- what passes check 25 has a word for each share and each output
pub passed_25 : (gs : List Gate) (shares1 shares2 outputs : List ℕ) → failing25 gs shares1 shares2 outputs ≡ []
    → ((wires gs).count ≤ length (words shares1)) × ((wires gs).count ≤ length (words shares2)) × (out_count gs ≤ length (words outputs))
unfolding failing25
passed_25 gs shares1 shares2 outputs =
    three_fit (wires gs).count (length (words shares1)) (wires gs).count (length (words shares2)) (out_count gs) (length (words outputs))

-- evaluate's words fit: check 25
pub evaluate-fits : (l : Lent) {d : Evaluation} → Evaluates l (accepted d)
    → (length d.one ≤ length (words l.shares1))
    × (length d.two ≤ length (words l.shares2))
    × (length d.outs ≤ length (words l.outputs))
evaluate-fits l (Evaluates.all_hold c) =
    let gs = gates_of l.circuit in
    let given = inputs (words l.inputs1) (words l.inputs2) in
    let tape = words l.tape in
    let (one, two, outs) = passed_25 gs l.shares1 l.shares2 l.outputs c.1.1.1.1.1.0 in (
      omega (arith, shares_one_length given tape gs),
      omega (arith, shares_two_length given tape gs),
      omega (arith, length-reverse (shared given tape gs).outs, outs_of_shares given tape gs),
    )

-- a text's words fit: check 13
pub text_fits_lem : (text table : List ℕ) {ws : List ℕ} → ReadsText text table (accepted ws) → length ws ≤ length (words table)
unfolding failing13
text_fits_lem text table (ReadsText.all_hold c) =
    let fits = one_fits (4 * line_count text) (length (words table)) c.1.1.0 in
    omega (arith, text_words_length text (line_count text))

-- an accepted table's direct reading puts out as many values as its circuit has outs (demand 2)
pub read_outs_length : (t : List ℕ) {s : State} → built t ≡ accepted s → (given : Given) → length (read_outs t given) ≡ out_count s.gates
unfolding read_outs
read_outs_length t {s} e given =
    length-reverse (follow given (program_of t) begin).outs ∙ ap (λ (l : List ℕ). length l) (sym (same_outs t e given)) ∙ out_count_lem given s.gates

-- and they fit: check 25
pub direct-fits : (t i1 i2 o : List ℕ) {f : DirectReading} → Reads t i1 i2 o (accepted f) → length f.outs ≤ length (words o)
unfolding failing_direct
direct-fits t i1 i2 o (Reads.all_hold {s = s} b c) =
    let fits = one_fits (out_count s.gates) (length (words o)) c.1.1.0 in
    omega (arith, read_outs_length t ((builds t (accepted s)).0 b) (inputs (words i1) (words i2)))

-- Accepted or refused, every lent memory keeps its length: compile's circuit,
pub compile-length : (t circuit : List ℕ) → length (compile_leaves t circuit) ≡ length circuit
unfolding compile_leaves
compile-length t circuit =
    leaves-length (compile t circuit) (λ s. circuit_words s.gates) circuit λ s e. compile-fits t circuit ((compiles t circuit (accepted s)).1 e)

-- evaluate's shares and outputs,
pub evaluate-length : (l : Lent)
    → (length (leaves_one l) ≡ length l.shares1) × (length (leaves_two l) ≡ length l.shares2) × (length (leaves_outs l) ≡ length l.outputs)
unfolding leaves_one leaves_two leaves_outs
evaluate-length l = (
  leaves-length (evaluate l) (λ d. d.one) l.shares1 (λ d e. (evaluate-fits l ((evaluates l (accepted d)).1 e)).0),
  leaves-length (evaluate l) (λ d. d.two) l.shares2 (λ d e. (evaluate-fits l ((evaluates l (accepted d)).1 e)).1),
  leaves-length (evaluate l) (λ d. d.outs) l.outputs (λ d e. (evaluate-fits l ((evaluates l (accepted d)).1 e)).2),
)

-- the direct reading's outputs,
pub direct-length : (t i1 i2 o : List ℕ) → length (direct_leaves t i1 i2 o) ≡ length o
unfolding direct_leaves
direct-length t i1 i2 o =
    leaves-length (read_directly t i1 i2 o) (λ f. f.outs) o λ f e. direct-fits t i1 i2 o ((reads_directly t i1 i2 o (accepted f)).1 e)

-- and a text's table.
pub text_length : (text table : List ℕ) → length (text_leaves text table) ≡ length table
unfolding text_leaves
text_length text table = leaves-length (read_text text table) (λ ws. ws) table λ ws e. text_fits_lem text table ((reads_text text table (accepted ws)).1 e)
