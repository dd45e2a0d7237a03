-- The statements by cases are the definitions: each operation answers as one of its cases, and as no other.
use Prim.Native.Nat.{ℕ}
use mathlib.Core.Path.{◌≡◌, refl, sym, subst, ◌∙◌}
use mathlib.Core.Logic.{◌↔◌}
use mathlib.Core.List.{List, [], ◌∷◌, ◌++◌}
use Rattle.words.specs.Words.{words}
use Rattle.rules.specs.Places.{Verdict, refused, accepted, and_then}
use Rattle.rules.specs.Gates.{circuit_words}
use Rattle.rules.specs.Run.{State}
use Rattle.rules.specs.Plain.{inputs}
use Rattle.rules.specs.Answers.{failing1, failing2, failing3, failing4, failing5, failing6, failing7, failing8, failing9, failing10, failing11}
use Rattle.rules.specs.Answers.{failing20, failing21, failing22, failing23, failing24, failing25, failing_direct, failing_text, failing12, failing13}
use Rattle.rules.specs.Answers.{run_of, checked, built, compile, gates_of, Lent, Evaluation, evaluate, DirectReading, read_outs, read_directly, read_text}
use Rattle.rules.specs.Refusals.{Clear, Builds, Compiles, Evaluates, Reads, ReadsText}
use Rattle.rules.proofs.Places.{refused≢accepted, then_refused, then_accepted}
use Rattle.rules.proofs.Ladders.{Rung, rung, ladder, all_places, refuses_at, leads_up, ladder_then, by_cases}

-- The checks of each operation, as ladders: of a table as it stands,
abbrev pub checked_rungs : List ℕ → List Rung
checked_rungs t =
    rung 1 (failing1 t)
    ∷ rung 2 (failing2 t)
    ∷ rung 3 (failing3 t)
    ∷ rung 4 (failing4 t)
    ∷ rung 5 (failing5 t)
    ∷ rung 6 (failing6 t)
    ∷ rung 7 (failing7 t)
    ∷ rung 8 (failing8 t)
    ∷ []

-- of a table and its run,
abbrev pub table_rungs : List ℕ → List Rung
table_rungs t = checked_rungs t ++ rung 9 (failing9 t) ∷ rung 10 (failing10 t) ∷ []

-- of compile after those of the table,
abbrev pub circuit_rungs : State → List ℕ → List Rung
circuit_rungs s circuit = rung 11 (failing11 s circuit) ∷ []

-- of evaluate,
abbrev pub evaluate_rungs : Lent → List Rung
evaluate_rungs l =
    let c = words l.circuit in
    let one = words l.inputs1 in
    let two = words l.inputs2 in
    rung 20 (failing20 l.circuit)
    ∷ rung 21 (failing21 (words l.circuit))
    ∷ rung 22 (failing22 c one two)
    ∷ rung 23 (failing23 c one two)
    ∷ rung 24 (failing24 (gates_of l.circuit) l.tape)
    ∷ rung 25 (failing25 (gates_of l.circuit) l.shares1 l.shares2 l.outputs)
    ∷ []

-- of the direct reading after those of the table,
abbrev pub direct_rungs : State → List ℕ → List ℕ → List ℕ → List Rung
direct_rungs s i1 i2 o =
    let c = circuit_words s.gates in
    rung 22 (failing22 c (words i1) (words i2))
    ∷ rung 23 (failing23 c (words i1) (words i2))
    ∷ rung 25 (failing_direct s o)
    ∷ []

-- and of a text.
abbrev pub text_rungs : List ℕ → List ℕ → List Rung
text_rungs text table = rung 1 (failing_text text) ∷ rung 12 (failing12 text) ∷ rung 13 (failing13 text table) ∷ []

-- checks 1 to 8 and then 9 and 10 are one ladder
pub built-ladder : (t : List ℕ) → built t ≡ ladder (table_rungs t) (accepted (run_of t))
unfolding built checked and_then
built-ladder t = ladder_then (checked_rungs t) (accepted tt) (λ u. ladder (rung 9 (failing9 t) ∷ rung 10 (failing10 t) ∷ []) (accepted (run_of t)))

-- The definition is one of the cases. A table's checks:
pub built_case : (t : List ℕ) → Builds t (built t)
built_case t =
    rw (built-ladder t)
    (by_cases (Builds t) (table_rungs t) _ (λ p c. Builds.with_1) (λ p. Builds.with_2) (λ p. Builds.with_3) (λ p. Builds.with_4) (λ p. Builds.with_5)
    (λ p. Builds.with_6) (λ p. Builds.with_7) (λ p. Builds.with_8) (λ p. Builds.with_9) (λ p. Builds.with_10) Builds.all_hold)

-- compile, after a table's checks
compile-after : (t circuit : List ℕ) (v : Verdict State) → Builds t v
    → Compiles t circuit (and_then v λ s. ladder (circuit_rungs s circuit) (accepted s))
unfolding and_then
compile-after t circuit (refused k p) b = Compiles.as_built b
compile-after t circuit (accepted s) b = by_cases (Compiles t circuit) (circuit_rungs s circuit) _ (λ p c. Compiles.with_11 b) (Compiles.all_hold b)

-- compile
pub compile_case : (t circuit : List ℕ) → Compiles t circuit (compile t circuit)
unfolding compile
compile_case t circuit = compile-after t circuit (built t) (built_case t)

-- evaluate
pub evaluate_case : (l : Lent) → Evaluates l (evaluate l)
unfolding evaluate
evaluate_case l =
    by_cases (Evaluates l) (evaluate_rungs l) _ (λ p c. Evaluates.with_20) (λ p. Evaluates.with_21) (λ p. Evaluates.with_22) (λ p. Evaluates.with_23)
    (λ p. Evaluates.with_24) (λ p. Evaluates.with_25) Evaluates.all_hold

-- what the direct reading has at the end
abbrev figures : List ℕ → List ℕ → List ℕ → State → DirectReading
figures t i1 i2 s = record { wires = s.wires; outs = read_outs t (inputs (words i1) (words i2)) }

-- direct reading, after a table's checks
direct-after : (t i1 i2 o : List ℕ) (v : Verdict State) → Builds t v
    → Reads t i1 i2 o (and_then v λ s. ladder (direct_rungs s i1 i2 o) (accepted (figures t i1 i2 s)))
unfolding and_then
direct-after t i1 i2 o (refused k p) b = Reads.as_built b
direct-after t i1 i2 o (accepted s) b =
    by_cases (Reads t i1 i2 o) (direct_rungs s i1 i2 o) _ (λ p c. Reads.with_22 b) (λ p. Reads.with_23 b) (λ p. Reads.with_25 b) (Reads.all_hold b)

-- direct reading
pub direct_case : (t i1 i2 o : List ℕ) → Reads t i1 i2 o (read_directly t i1 i2 o)
unfolding read_directly
direct_case t i1 i2 o = direct-after t i1 i2 o (built t) (built_case t)

-- text
pub text_case : (text table : List ℕ) → ReadsText text table (read_text text table)
unfolding read_text
text_case text table =
    by_cases (ReadsText text table) (text_rungs text table) _ (λ p c. ReadsText.with_1) (λ p. ReadsText.with_12) (λ p. ReadsText.with_13) ReadsText.all_hold

-- The cases are the definition. A table's checks:
pub built_is : (t : List ℕ) {v : Verdict State} → Builds t v → built t ≡ v
built_is t (Builds.with_1 l) = built-ladder t ∙ refuses_at 0 (table_rungs t) _ tt l
built_is t (Builds.with_2 c l) = built-ladder t ∙ refuses_at 1 (table_rungs t) _ c l
built_is t (Builds.with_3 c l) = built-ladder t ∙ refuses_at 2 (table_rungs t) _ c l
built_is t (Builds.with_4 c l) = built-ladder t ∙ refuses_at 3 (table_rungs t) _ c l
built_is t (Builds.with_5 c l) = built-ladder t ∙ refuses_at 4 (table_rungs t) _ c l
built_is t (Builds.with_6 c l) = built-ladder t ∙ refuses_at 5 (table_rungs t) _ c l
built_is t (Builds.with_7 c l) = built-ladder t ∙ refuses_at 6 (table_rungs t) _ c l
built_is t (Builds.with_8 c l) = built-ladder t ∙ refuses_at 7 (table_rungs t) _ c l
built_is t (Builds.with_9 c l) = built-ladder t ∙ refuses_at 8 (table_rungs t) _ c l
built_is t (Builds.with_10 c l) = built-ladder t ∙ refuses_at 9 (table_rungs t) _ c l
built_is t (Builds.all_hold c) = built-ladder t ∙ leads_up (table_rungs t) _ c

-- compile
pub compile_is : (t circuit : List ℕ) {v : Verdict State} → Compiles t circuit v → compile t circuit ≡ v
unfolding compile
compile_is t circuit (Compiles.as_built b) = then_refused _ (built_is t b)
compile_is t circuit (Compiles.with_11 {s = s} b l) = then_accepted _ (built_is t b) ∙ refuses_at 0 (circuit_rungs s circuit) _ tt l
compile_is t circuit (Compiles.all_hold {s = s} b c) = then_accepted _ (built_is t b) ∙ leads_up (circuit_rungs s circuit) _ c

-- evaluate
pub evaluate_is : (l : Lent) {v : Verdict Evaluation} → Evaluates l v → evaluate l ≡ v
unfolding evaluate
evaluate_is l (Evaluates.with_20 m) = refuses_at 0 (evaluate_rungs l) _ tt m
evaluate_is l (Evaluates.with_21 c m) = refuses_at 1 (evaluate_rungs l) _ c m
evaluate_is l (Evaluates.with_22 c m) = refuses_at 2 (evaluate_rungs l) _ c m
evaluate_is l (Evaluates.with_23 c m) = refuses_at 3 (evaluate_rungs l) _ c m
evaluate_is l (Evaluates.with_24 c m) = refuses_at 4 (evaluate_rungs l) _ c m
evaluate_is l (Evaluates.with_25 c m) = refuses_at 5 (evaluate_rungs l) _ c m
evaluate_is l (Evaluates.all_hold c) = leads_up (evaluate_rungs l) _ c

-- direct reading
pub direct_is : (t i1 i2 o : List ℕ) {v : Verdict DirectReading} → Reads t i1 i2 o v → read_directly t i1 i2 o ≡ v
unfolding read_directly
direct_is t i1 i2 o (Reads.as_built b) = then_refused _ (built_is t b)
direct_is t i1 i2 o (Reads.with_22 {s = s} b l) = then_accepted _ (built_is t b) ∙ refuses_at 0 (direct_rungs s i1 i2 o) _ tt l
direct_is t i1 i2 o (Reads.with_23 {s = s} b c l) = then_accepted _ (built_is t b) ∙ refuses_at 1 (direct_rungs s i1 i2 o) _ c l
direct_is t i1 i2 o (Reads.with_25 {s = s} b c l) = then_accepted _ (built_is t b) ∙ refuses_at 2 (direct_rungs s i1 i2 o) _ c l
direct_is t i1 i2 o (Reads.all_hold {s = s} b c) = then_accepted _ (built_is t b) ∙ leads_up (direct_rungs s i1 i2 o) _ c

-- text
pub text_is : (text table : List ℕ) {v : Verdict (List ℕ)} → ReadsText text table v → read_text text table ≡ v
unfolding read_text
text_is text table (ReadsText.with_1 l) = refuses_at 0 (text_rungs text table) _ tt l
text_is text table (ReadsText.with_12 c l) = refuses_at 1 (text_rungs text table) _ c l
text_is text table (ReadsText.with_13 c l) = refuses_at 2 (text_rungs text table) _ c l
text_is text table (ReadsText.all_hold c) = leads_up (text_rungs text table) _ c

-- The statements by cases say exactly what the definitions do: checks 1 to 10 of a table,
pub builds : (t : List ℕ) (v : Verdict State) → Builds t v ↔ (built t ≡ v)
builds t v = (built_is t, λ e. subst (Builds t) e (built_case t))

-- compile,
pub compiles : (t circuit : List ℕ) (v : Verdict State) → Compiles t circuit v ↔ (compile t circuit ≡ v)
compiles t circuit v = (compile_is t circuit, λ e. subst (Compiles t circuit) e (compile_case t circuit))

-- evaluate,
pub evaluates : (l : Lent) (v : Verdict Evaluation) → Evaluates l v ↔ (evaluate l ≡ v)
evaluates l v = (evaluate_is l, λ e. subst (Evaluates l) e (evaluate_case l))

-- direct reading,
pub reads_directly : (t i1 i2 o : List ℕ) (v : Verdict DirectReading) → Reads t i1 i2 o v ↔ (read_directly t i1 i2 o ≡ v)
reads_directly t i1 i2 o v = (direct_is t i1 i2 o, λ e. subst (Reads t i1 i2 o) e (direct_case t i1 i2 o))

-- and text.
pub reads_text : (text table : List ℕ) (v : Verdict (List ℕ)) → ReadsText text table v ↔ (read_text text table ≡ v)
reads_text text table v = (text_is text table, λ e. subst (ReadsText text table) e (text_case text table))

-- Two answers that the cases allow are the same: of checks 1 to 10,
pub builds_one : (t : List ℕ) {v w : Verdict State} → Builds t v → Builds t w → v ≡ w
builds_one t a b = sym (built_is t a) ∙ built_is t b

-- of compile,
pub compiles_one : (t circuit : List ℕ) {v w : Verdict State} → Compiles t circuit v → Compiles t circuit w → v ≡ w
compiles_one t circuit a b = sym (compile_is t circuit a) ∙ compile_is t circuit b

-- of evaluate,
pub evaluates_one : (l : Lent) {v w : Verdict Evaluation} → Evaluates l v → Evaluates l w → v ≡ w
evaluates_one l a b = sym (evaluate_is l a) ∙ evaluate_is l b

-- of direct reading,
pub reads_directly_one : (t i1 i2 o : List ℕ) {v w : Verdict DirectReading} → Reads t i1 i2 o v → Reads t i1 i2 o w → v ≡ w
reads_directly_one t i1 i2 o a b = sym (direct_is t i1 i2 o a) ∙ direct_is t i1 i2 o b

-- and of text.
pub reads_text_one : (text table : List ℕ) {v w : Verdict (List ℕ)} → ReadsText text table v → ReadsText text table w → v ≡ w
reads_text_one text table a b = sym (text_is text table a) ∙ text_is text table b

-- a table accepted with a state has passed checks 1 to 10, and the state is the end of its run
builds_accepted : (t : List ℕ) {s : State} → Builds t (accepted s) → (s ≡ run_of t) × Clear (all_places (table_rungs t))
builds_accepted t (Builds.all_hold c) = (refl, c)

-- the same of the definition
pub built_accepted : (t : List ℕ) {s : State} → built t ≡ accepted s → (s ≡ run_of t) × Clear (all_places (table_rungs t))
built_accepted t e = builds_accepted t ((builds t _).1 e)

-- checks 1 to 8 accept exactly a table that has no place that fails them
pub checked_clear : (t : List ℕ) → (checked t ≡ accepted tt) ↔ Clear (all_places (checked_rungs t))
unfolding checked
checked_clear t = (
  by_cases (λ v. v ≡ accepted tt → Clear (all_places (checked_rungs t))) (checked_rungs t) (accepted tt)
      (λ p c l e. absurd (refused≢accepted e)) (λ p c l e. absurd (refused≢accepted e)) (λ p c l e. absurd (refused≢accepted e))
      (λ p c l e. absurd (refused≢accepted e)) (λ p c l e. absurd (refused≢accepted e)) (λ p c l e. absurd (refused≢accepted e))
      (λ p c l e. absurd (refused≢accepted e)) (λ p c l e. absurd (refused≢accepted e)) (λ c e. c),
  leads_up (checked_rungs t) (accepted tt),
)
