-- Document 01, "Order of refusals": the two tables as statements by cases, a case for each line. The checks before it have
-- no failing place, and the place is the lowest that fails. (That each number is given in its case and no other is a
-- theorem.)
use Rattle.std.specs.Prelude.{ℕ, ◌≤◌, ◌≡◌, ◌⊎◌, List, [], ◌∷◌, take}
use Rattle.words.specs.Words.{words}
use Rattle.rules.specs.Places.{Verdict, refused, accepted}
use Rattle.rules.specs.Gates.{circuit_words}
use Rattle.rules.specs.Run.{State}
use Rattle.rules.specs.Plain.{inputs}
use Rattle.rules.specs.Text.{line_count, text_words}
use Rattle.rules.specs.Answers.{failing1, failing2, failing3, failing4, failing5, failing6, failing7, failing8, failing9, failing10, failing11}
use Rattle.rules.specs.Answers.{failing20, failing21, failing22, failing23, failing24, failing25, failing_direct, failing_text, failing12, failing13}
use Rattle.rules.specs.Answers.{run_of, gates_of, Lent, Evaluation, evaluation, DirectReading, read_outs}

-- place p is one of them
abbrev pub In : ℕ → List ℕ → Type 0
In p [] = ⊥
In p (q ∷ qs) = (p ≡ q) ⊎ In p qs

pub record Lowest (p : ℕ) (ps : List ℕ) : Type 0 where
  pub one_of : In p ps
  pub below_all : (q : ℕ) → In q ps → p ≤ q

-- these checks have no failing place
abbrev pub Clear : List (List ℕ) → Type 0
Clear [] = Unit {0}
Clear (ps ∷ pss) = (ps ≡ []) × Clear pss

-- compile's checks 1 to 10, in their order, and what building a table comes to
abbrev pub table_checks : List ℕ → List (List ℕ)
table_checks t =
    failing1 t ∷ failing2 t ∷ failing3 t ∷ failing4 t ∷ failing5 t ∷ failing6 t ∷ failing7 t ∷ failing8 t ∷ failing9 t ∷ failing10 t ∷ []

pub data Builds (t : List ℕ) : Verdict State → Type 0 where
  with_1 : {p : ℕ} → Lowest p (failing1 t) → Builds t (refused 1 p)
  with_2 : {p : ℕ} → Clear (take 1 (table_checks t)) → Lowest p (failing2 t) → Builds t (refused 2 p)
  with_3 : {p : ℕ} → Clear (take 2 (table_checks t)) → Lowest p (failing3 t) → Builds t (refused 3 p)
  with_4 : {p : ℕ} → Clear (take 3 (table_checks t)) → Lowest p (failing4 t) → Builds t (refused 4 p)
  with_5 : {p : ℕ} → Clear (take 4 (table_checks t)) → Lowest p (failing5 t) → Builds t (refused 5 p)
  with_6 : {p : ℕ} → Clear (take 5 (table_checks t)) → Lowest p (failing6 t) → Builds t (refused 6 p)
  with_7 : {p : ℕ} → Clear (take 6 (table_checks t)) → Lowest p (failing7 t) → Builds t (refused 7 p)
  with_8 : {p : ℕ} → Clear (take 7 (table_checks t)) → Lowest p (failing8 t) → Builds t (refused 8 p)
  with_9 : {p : ℕ} → Clear (take 8 (table_checks t)) → Lowest p (failing9 t) → Builds t (refused 9 p)
  with_10 : {p : ℕ} → Clear (take 9 (table_checks t)) → Lowest p (failing10 t) → Builds t (refused 10 p)
  all_hold : Clear (table_checks t) → Builds t (accepted (run_of t))

-- compile: as its table is built; then check 11
pub data Compiles (t circuit : List ℕ) : Verdict State → Type 0 where
  as_built : {k p : ℕ} → Builds t (refused k p) → Compiles t circuit (refused k p)
  with_11 : {p : ℕ} {s : State} → Builds t (accepted s) → Lowest p (failing11 s circuit) → Compiles t circuit (refused 11 p)
  all_hold : {s : State} → Builds t (accepted s) → Clear (failing11 s circuit ∷ []) → Compiles t circuit (accepted s)

-- evaluate: checks 20 to 25
module _ (l : Lent) where
  abbrev given1 : List ℕ
  given1 = words l.inputs1

  abbrev given2 : List ℕ
  given2 = words l.inputs2

  abbrev pub evaluate_checks : List (List ℕ)
  evaluate_checks =
      failing20 l.circuit
      ∷ failing21 (words l.circuit)
      ∷ failing22 (words l.circuit) given1 given2
      ∷ failing23 (words l.circuit) given1 given2
      ∷ failing24 (gates_of l.circuit) l.tape
      ∷ failing25 (gates_of l.circuit) l.shares1 l.shares2 l.outputs
      ∷ []

pub data Evaluates (l : Lent) : Verdict Evaluation → Type 0 where
  with_20 : {p : ℕ} → Lowest p (failing20 l.circuit) → Evaluates l (refused 20 p)
  with_21 : {p : ℕ} → Clear (take 1 (evaluate_checks l)) → Lowest p (failing21 (words l.circuit)) → Evaluates l (refused 21 p)
  with_22 : {p : ℕ} → Clear (take 2 (evaluate_checks l)) → Lowest p (failing22 (words l.circuit) (given1 l) (given2 l)) → Evaluates l (refused 22 p)
  with_23 : {p : ℕ} → Clear (take 3 (evaluate_checks l)) → Lowest p (failing23 (words l.circuit) (given1 l) (given2 l)) → Evaluates l (refused 23 p)
  with_24 : {p : ℕ} → Clear (take 4 (evaluate_checks l)) → Lowest p (failing24 (gates_of l.circuit) l.tape) → Evaluates l (refused 24 p)
  with_25 : {p : ℕ} → Clear (take 5 (evaluate_checks l)) → Lowest p (failing25 (gates_of l.circuit) l.shares1 l.shares2 l.outputs)
      → Evaluates l (refused 25 p)
  all_hold : Clear (evaluate_checks l) → Evaluates l (accepted (evaluation (gates_of l.circuit) (inputs (given1 l) (given2 l)) (words l.tape)))

-- direct reading: as its table is built; then 22, 23 and 25 of the circuit
abbrev pub direct_checks : State → List ℕ → List ℕ → List ℕ → List (List ℕ)
direct_checks s i1 i2 o =
    failing22 (circuit_words s.gates) (words i1) (words i2)
    ∷ failing23 (circuit_words s.gates) (words i1) (words i2)
    ∷ failing_direct s o
    ∷ []

pub data Reads (t i1 i2 o : List ℕ) : Verdict DirectReading → Type 0 where
  as_built : {k p : ℕ} → Builds t (refused k p) → Reads t i1 i2 o (refused k p)
  with_22 : {p : ℕ} {s : State} → Builds t (accepted s) → Lowest p (failing22 (circuit_words s.gates) (words i1) (words i2))
      → Reads t i1 i2 o (refused 22 p)
  with_23 : {p : ℕ} {s : State} → Builds t (accepted s) → Clear (take 1 (direct_checks s i1 i2 o))
      → Lowest p (failing23 (circuit_words s.gates) (words i1) (words i2)) → Reads t i1 i2 o (refused 23 p)
  with_25 : {p : ℕ} {s : State} → Builds t (accepted s) → Clear (take 2 (direct_checks s i1 i2 o)) → Lowest p (failing_direct s o)
      → Reads t i1 i2 o (refused 25 p)
  all_hold : {s : State} → Builds t (accepted s) → Clear (direct_checks s i1 i2 o)
      → Reads t i1 i2 o (accepted (record { wires = s.wires; outs = read_outs t (inputs (words i1) (words i2)) }))

-- text: 1, 12 and 13
abbrev pub text_checks : List ℕ → List ℕ → List (List ℕ)
text_checks text table = failing_text text ∷ failing12 text ∷ failing13 text table ∷ []

pub data ReadsText (text table : List ℕ) : Verdict (List ℕ) → Type 0 where
  with_1 : {p : ℕ} → Lowest p (failing_text text) → ReadsText text table (refused 1 p)
  with_12 : {p : ℕ} → Clear (take 1 (text_checks text table)) → Lowest p (failing12 text) → ReadsText text table (refused 12 p)
  with_13 : {p : ℕ} → Clear (take 2 (text_checks text table)) → Lowest p (failing13 text table) → ReadsText text table (refused 13 p)
  all_hold : Clear (text_checks text table) → ReadsText text table (accepted (text_words text (line_count text)))
