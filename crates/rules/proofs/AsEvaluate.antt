-- Direct reading answers as compile and then evaluate would with enough circuit, tape and share memory, and puts out the
-- same.
use Prim.Native.Nat.{ℕ, ◌≤◌}
use mathlib.Core.Path.{◌≡◌, refl, sym, subst, ap, ◌∙◌}
use mathlib.Core.Bool.{Bool, true, false, ◌&&◌}
use mathlib.Core.List.{List, [], ◌∷◌, reverse}
use lib.Dec.{T, leb, le→leb}
use lib.ListN.{length}
use Rattle.words.specs.Words.{words, bytes_of, over, AllBytes}
use Rattle.words.proofs.Words.{words_read_back, bytes_are_words}
use Rattle.rules.specs.Places.{Verdict, refused, accepted, fault, unless}
use Rattle.rules.specs.Gates.{circuit_words, wires}
use Rattle.rules.specs.Run.{State}
use Rattle.rules.specs.Plain.{Given, inputs}
use Rattle.rules.specs.Shares.{tape_for, shared, Fit}
use Rattle.rules.specs.Answers.{number_of, place_of, count_of, leaves, built, gates_of, out_count, failing22, failing23, failing24, failing25, failing_direct}
use Rattle.rules.specs.Answers.{Lent, Evaluation, evaluation, evaluate, evaluate_answer, leaves_outs, DirectReading, read_outs, read_directly, direct_answer, direct_leaves}
use Rattle.rules.proofs.Places.{none_fault, unless_passed, then_accepted}
use Rattle.rules.proofs.Circuits.{circuit_gates, gates_read_back}
use Rattle.rules.proofs.Shares.{same_outputs}
use Rattle.rules.proofs.Decoded.{fit_of, word_at}
use Rattle.rules.proofs.Accepted.{same_outs, keeps_rules_lem, in_words, counts_wires, never_refused, read_back}

-- the compiled circuit, evaluated on these inputs, tape and memories
abbrev pub lent_for : State → List ℕ → List ℕ → List ℕ → List ℕ → List ℕ → List ℕ → Lent
lent_for s i1 i2 tape one two o = record {
  circuit = bytes_of (circuit_words s.gates);
  inputs1 = i1;
  inputs2 = i2;
  tape = tape;
  shares1 = one;
  shares2 = two;
  outputs = o;
}

-- two verdicts refuse alike, or accept with the same wires and outputs
abbrev Alike : Verdict DirectReading → Verdict Evaluation → Type 0
Alike (refused k p) (refused j q) = (k ≡ j) × (p ≡ q)
Alike (refused k p) (accepted e) = ⊥
Alike (accepted d) (refused j q) = ⊥
Alike (accepted d) (accepted e) = (d.wires ≡ e.wires) × (d.outs ≡ e.outs)

-- one check of both
alike_unless : (k : ℕ) (ps : List ℕ) (next : Unit {0} → Verdict DirectReading) (next' : Unit {0} → Verdict Evaluation)
    → (ps ≡ [] → Alike (next tt) (next' tt)) → Alike (unless k ps next) (unless k ps next')
unfolding unless
alike_unless k [] next next' h = h refl
alike_unless k (p ∷ ps) next next' h = (refl, refl)

alike_number : (v : Verdict DirectReading) (w : Verdict Evaluation) → Alike v w → number_of v ≡ number_of w
alike_number (refused k p) (refused j q) h = h.0
alike_number (refused k p) (accepted e) h = absurd h
alike_number (accepted d) (refused j q) h = absurd h
alike_number (accepted d) (accepted e) h = refl

alike_place : (v : Verdict DirectReading) (w : Verdict Evaluation) → Alike v w → place_of v ≡ place_of w
alike_place (refused k p) (refused j q) h = h.1
alike_place (refused k p) (accepted e) h = absurd h
alike_place (accepted d) (refused j q) h = absurd h
alike_place (accepted d) (accepted e) h = refl

alike_wires : (v : Verdict DirectReading) (w : Verdict Evaluation) → Alike v w → count_of (λ d. d.wires) v ≡ count_of (λ e. e.wires) w
alike_wires (refused k p) (refused j q) h = refl
alike_wires (refused k p) (accepted e) h = absurd h
alike_wires (accepted d) (refused j q) h = absurd h
alike_wires (accepted d) (accepted e) h = h.0

alike_outputs : (v : Verdict DirectReading) (w : Verdict Evaluation) → Alike v w → count_of (λ d. length d.outs) v ≡ count_of (λ e. length e.outs) w
alike_outputs (refused k p) (refused j q) h = refl
alike_outputs (refused k p) (accepted e) h = absurd h
alike_outputs (accepted d) (refused j q) h = absurd h
alike_outputs (accepted d) (accepted e) h = ap (λ (l : List ℕ). length l) h.1

alike_leaves : (v : Verdict DirectReading) (w : Verdict Evaluation) (b : List ℕ) → Alike v w → leaves v (λ d. d.outs) b ≡ leaves w (λ e. e.outs) b
alike_leaves (refused k p) (refused j q) b h = refl
alike_leaves (refused k p) (accepted e) b h = absurd h
alike_leaves (accepted d) (refused j q) b h = absurd h
alike_leaves (accepted d) (accepted e) b h = ap (λ (ws : List ℕ). over ws b) h.1

-- tests that hold take nothing away
both_hold : (a b c : Bool) → T a → T b → (a && (b && c)) ≡ c
both_hold true true c p q = refl
both_hold true false c p q = absurd q
both_hold false b c p q = absurd p

module _ (table : List ℕ) {s : State} (yes : built table ≡ accepted s) (i1 i2 tape one two o : List ℕ)
    (bytes1 : AllBytes i1) (bytes2 : AllBytes i2) (bytes-tape : AllBytes tape)
    (taped : s.wires ≤ length (words tape)) (room1 : s.wires ≤ length (words one)) (room2 : s.wires ≤ length (words two)) where
  abbrev c : List ℕ
  c = circuit_words s.gates

  abbrev l : Lent
  l = lent_for s i1 i2 tape one two o

  abbrev given : Given
  given = inputs (words i1) (words i2)

  c-words : words (bytes_of c) ≡ c
  c-words = words_read_back c (in_words table yes)

  -- 24 never; 25 only for the outputs
  no_24 : failing24 (gates_of (bytes_of c)) tape ≡ []
  unfolding failing24 tape_for
  no_24 = none_fault (leb (wires (gates_of (bytes_of c))).count (length (words tape))) 0
      (le→leb (wires (gates_of (bytes_of c))).count (length (words tape)) (rw (read_back table yes, counts_wires table yes) taped))

  same_25 : failing25 (gates_of (bytes_of c)) one two o ≡ failing_direct s o
  unfolding failing25 failing_direct
  same_25 = rw (read_back table yes, counts_wires table yes)
      (ap (λ (b : Bool). fault b 0) (both_hold (leb s.wires (length (words one))) (leb s.wires (length (words two))) (leb (out_count s.gates) (length (words o)))
      (le→leb s.wires (length (words one)) room1) (le→leb s.wires (length (words two)) room2)))

  -- the outputs, where the inputs are fit
  same-words : failing23 c (words i1) (words i2) ≡ [] → read_outs table given ≡ reverse (shared given (words tape) s.gates).outs
  unfolding read_outs
  same-words e =
      let fit : Fit s.gates given = subst (λ gs. Fit gs given) (rw (circuit_gates s.gates) (gates_read_back s.gates))
      (fit_of c (words i1) (words i2) e (bytes_are_words i1 bytes1) (bytes_are_words i2 bytes2)) in
      ap reverse (sym (same_outs table yes given)
      ∙ sym (same_outputs s.gates (keeps_rules_lem table yes) (in_words table yes) fit (words tape) (word_at (words tape) (bytes_are_words tape bytes-tape))))

  -- what is left of evaluation's checks
  evaluate_from_22 : evaluate l ≡ (
      unless 22 (failing22 c (words i1) (words i2)) λ u.
      unless 23 (failing23 c (words i1) (words i2)) λ u.
      unless 25 (failing_direct s o) λ u.
      accepted (evaluation s.gates given (words tape))
      )
  unfolding evaluate
  evaluate_from_22 =
      unless_passed 20 _ _ (never_refused table yes).0
      ∙ unless_passed 21 _ _ (never_refused table yes).1
      ∙ rw (c-words, same_25, unless_passed 24 _ (λ u. unless 25 (failing_direct s o) λ u. accepted (evaluation (gates_of (bytes_of c)) given (words tape))) no_24, read_back table yes) refl

  direct_from_22 : read_directly table i1 i2 o ≡ (
      unless 22 (failing22 c (words i1) (words i2)) λ u.
      unless 23 (failing23 c (words i1) (words i2)) λ u.
      unless 25 (failing_direct s o) λ u.
      accepted (record { wires = s.wires; outs = read_outs table given })
      )
  unfolding read_directly
  direct_from_22 = then_accepted _ yes

  alike : Alike (read_directly table i1 i2 o) (evaluate l)
  alike = rw (direct_from_22, evaluate_from_22)
      (alike_unless 22 (failing22 c (words i1) (words i2)) _ _ (λ e.
      alike_unless 23 (failing23 c (words i1) (words i2)) _ _ (λ f.
      alike_unless 25 (failing_direct s o) _ _ (λ g.
      (sym (counts_wires table yes), same-words f)))))

  -- number, place and counts, and the output memory
  pub direct_as_evaluate : (direct_answer table i1 i2 o ≡ evaluate_answer l) × (direct_leaves table i1 i2 o ≡ leaves_outs l)
  unfolding direct_answer evaluate_answer direct_leaves leaves_outs
  direct_as_evaluate =
      let v = read_directly table i1 i2 o in
      let w = evaluate l in (
        (λ i. record {
          number = alike_number v w alike i;
          place = alike_place v w alike i;
          wires = alike_wires v w alike i;
          outputs = alike_outputs v w alike i;
        }),
        alike_leaves v w o alike,
      )
