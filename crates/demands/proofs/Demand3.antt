-- Demand 3, proved of the calls of evaluation. First that shares are words; then tapes, as bytes and as words; then what
-- acceptance says of one call; then two calls of one circuit.
use Prim.Native.Nat.{ℕ, ◌*◌, ◌≤◌, ◌<◌}
use mathlib.Core.Path.{◌≡◌, sym, ap, ap₂, subst, ◌∙◌}
use mathlib.Core.List.{List, []}
use lib.Dec.{leb, le→leb}
use lib.ListN.{length, get_or, take}
use native.Mathlib.Omega.{arith}
use Rattle.words.specs.Words.{words, bytes_of, over, AllWords}
use Rattle.words.proofs.Words.{words-length, bytes_length, words_read_back, bytes_are_words, bytes_of_are_bytes, bytes_read_back, over_at, over-taken, words_by_place}
use Rattle.rules.specs.Places.{accepted, fault}
use Rattle.rules.specs.Gates.{Gate, gate_count, circuit_words, wires, AllKeep}
use Rattle.rules.specs.Plain.{Given, inputs, plain}
use Rattle.rules.specs.Shares.{join, taken, tape_for, shared, listed, shares_one, shares_two, partner, Tape, Fit, Private}
use Rattle.rules.specs.Answers.{Lent, Evaluation, evaluation, Evaluated, evaluate, evaluate_answer, gates_of, failing21, failing24}
use Rattle.rules.specs.Refusals.{Clear, evaluate_checks, Evaluates}
use Rattle.rules.proofs.Basics.{true_of}
use Rattle.rules.proofs.Listed.{get_or-listed}
use Rattle.rules.proofs.Shares.{share_one_word, share_two_word, values_fit, one_is, two_is, shares_join, listed-words, demand_three}
use Rattle.rules.proofs.Decoded.{word_at, keeps_of, words_of, fit_of}
use Rattle.rules.proofs.Refusals.{evaluates, evaluate_is}
use Rattle.rules.proofs.Memories.{zero_accepts, accepts_zero, evaluate_numbered, evaluate_accepted_leaves, shares_one_length, shares_two_length}
use Rattle.demands.specs.Calls.{Call, Accepted, gates_in, given_in, desk_one_of, desk_two_of, ExactTape, with_tape}
use Rattle.demands.specs.Demand3.{TwoRuns, paired_tape, Joins, Demand3}

-- Shares are words.

-- gates that keep the rules, fit inputs, and a tape of words
module _ (gs : List Gate) (keep : AllKeep gs) (ws : AllWords (circuit_words gs)) {given : Given} (fit : Fit gs given) (tape : List ℕ)
    (taped : (k : ℕ) → get_or tape k 0 < 4294967296) where
  -- desk one's shares are words
  one_words : AllWords (shares_one given tape gs)
  unfolding shares_one taken
  one_words =
      words_by_place (listed (wires gs).count (shared given tape gs).one)
      (listed-words (wires gs).count (shared given tape gs).one
      (λ k below. rw (one_is gs keep given tape k below) (share_one_word ((wires gs).sort k) (get_or tape k 0) (taped k))))

  -- and so are desk two's
  two_words : AllWords (shares_two given tape gs)
  unfolding shares_two taken
  two_words =
      words_by_place (listed (wires gs).count (shared given tape gs).two)
      (listed-words (wires gs).count (shared given tape gs).two
      (λ k below. rw (two_is given tape taped gs keep ws fit k below)
      (share_two_word ((wires gs).sort k) ((plain given gs).value k) (get_or tape k 0) (values_fit gs keep ws fit k below).0 (taped k))))

-- Tapes, as bytes and as words.

module _ (gs : List Gate) (t : List ℕ) (exact : ExactTape gs t) where
  -- an exact tape has a word for each wire
  tape_words : Tape gs (words t)
  tape_words =
      record {
        long = words-length t ∙ omega (arith, exact.long);
        words = word_at (words t) (bytes_are_words t exact.bytes);
      }

  -- it is the bytes of its words
  tape_bytes : bytes_of (words t) ≡ t
  tape_bytes = bytes_read_back t exact.bytes (omega (arith, exact.long))

  -- it passes check 24
  tape_enough : failing24 gs t ≡ []
  unfolding failing24 fault
  tape_enough =
      let enough : tape_for (wires gs) ≤ length (words t) = omega (arith, tape_words.long) in
      rw (true_of (leb (tape_for (wires gs)) (length (words t))) (le→leb (tape_for (wires gs)) (length (words t)) enough))

-- words for each wire, as bytes, are an exact tape
bytes_exact : (gs : List Gate) (ws : List ℕ) → Tape gs ws → ExactTape gs (bytes_of ws)
bytes_exact gs ws is = record { long = bytes_length ws ∙ ap (λ (n : ℕ). 4 * n) is.long; bytes = bytes_of_are_bytes ws }

-- and as words they are as they were
bytes_as_words : (gs : List Gate) (ws : List ℕ) → Tape gs ws → words (bytes_of ws) ≡ ws
bytes_as_words gs ws is = words_read_back ws (words_by_place ws is.words)

-- One call.

-- evaluation accepts only where no check fails
all_clear : (l : Lent) {d : Evaluation} → Evaluates l (accepted d) → Clear (evaluate_checks l)
all_clear l (Evaluates.all_hold clear) = clear

-- so an answer with number 0 says that none does
zero_clear : (l : Lent) → (evaluate_answer l).number ≡ 0 → Clear (evaluate_checks l)
unfolding evaluate_answer
zero_clear l e = let (d, is) = zero_accepts (evaluate l) (evaluate_numbered l) e in all_clear l ((evaluates l (accepted d)).1 is)

-- the answer counts the wires of what is accepted
wires-counted : (l : Lent) {d : Evaluation} → evaluate l ≡ accepted d → (evaluate_answer l).wires ≡ d.wires
unfolding evaluate_answer
wires-counted l e = rw e

-- an accepted call
module _ (c : Call) (ok : Accepted c) where
  -- no check fails
  clear : Clear (evaluate_checks c.lent)
  clear = zero_clear c.lent (ap (λ (e : Evaluated). e.number) (sym c.promise.answer_is) ∙ ok)

  -- evaluation comes to the shares of its gates
  evaluated : evaluate c.lent ≡ accepted (evaluation (gates_in c) (given_in c) (words c.lent.tape))
  evaluated = evaluate_is c.lent (Evaluates.all_hold clear)

  -- the gates keep the rules
  keep : AllKeep (gates_in c)
  unfolding gates_of failing21
  keep = keeps_of (words c.lent.circuit) (gate_count (words c.lent.circuit)) clear.1.0

  -- they have words
  have_words : AllWords (circuit_words (gates_in c))
  unfolding gates_of
  have_words =
      words_of (words c.lent.circuit) (gate_count (words c.lent.circuit)) (bytes_are_words c.lent.circuit c.bytes.0)

  -- the inputs are fit
  fit : Fit (gates_in c) (given_in c)
  unfolding gates_of
  fit =
      fit_of (words c.lent.circuit) (words c.lent.inputs1) (words c.lent.inputs2) clear.1.1.1.0
      (bytes_are_words c.lent.inputs1 c.bytes.1) (bytes_are_words c.lent.inputs2 c.bytes.2)

  -- the tape has words
  taped : (k : ℕ) → get_or (words c.lent.tape) k 0 < 4294967296
  taped = word_at (words c.lent.tape) (bytes_are_words c.lent.tape c.bytes.3)

  -- the desks' shares of its wires
  abbrev ones : List ℕ
  ones = shares_one (given_in c) (words c.lent.tape) (gates_in c)

  abbrev twos : List ℕ
  twos = shares_two (given_in c) (words c.lent.tape) (gates_in c)

  -- the answer counts the circuit's wires
  counts_wires : c.answer.wires ≡ (wires (gates_in c)).count
  counts_wires = ap (λ (e : Evaluated). e.wires) c.promise.answer_is ∙ wires-counted c.lent evaluated

  -- the shares stand over the desks' memories
  one_over : c.one ≡ over ones c.lent.shares1
  one_over = c.promise.one_is ∙ (evaluate_accepted_leaves c.lent evaluated).0

  two_over : c.two ≡ over twos c.lent.shares2
  two_over = c.promise.two_is ∙ (evaluate_accepted_leaves c.lent evaluated).1

  -- they are words
  ones-words : AllWords ones
  ones-words = one_words (gates_in c) keep have_words fit (words c.lent.tape) taped

  twos-words : AllWords twos
  twos-words = two_words (gates_in c) keep have_words fit (words c.lent.tape) taped

  -- and there is one for each wire that the answer counts
  ones_long : length ones ≡ c.answer.wires
  ones_long = shares_one_length (given_in c) (words c.lent.tape) (gates_in c) ∙ sym counts_wires

  twos_long : length twos ≡ c.answer.wires
  twos_long = shares_two_length (given_in c) (words c.lent.tape) (gates_in c) ∙ sym counts_wires

  -- so as many words of each memory as the answer counts wires are the desk's shares
  desk_one_is : desk_one_of c ≡ ones
  desk_one_is =
      ap₂ (λ (n : ℕ) (b : List ℕ). take n (words b)) (sym ones_long) one_over ∙ over-taken ones c.lent.shares1 ones-words

  desk_two_is : desk_two_of c ≡ twos
  desk_two_is =
      ap₂ (λ (n : ℕ) (b : List ℕ). take n (words b)) (sym twos_long) two_over ∙ over-taken twos c.lent.shares2 twos-words

  -- word k of each desk's memory is its share of wire k
  one_at : (k : ℕ) → k < (wires (gates_in c)).count
      → get_or (words c.one) k 0 ≡ (shared (given_in c) (words c.lent.tape) (gates_in c)).one k
  unfolding shares_one
  one_at k below =
      ap (λ (b : List ℕ). get_or (words b) k 0) one_over
      ∙ over_at ones c.lent.shares1 ones-words k (omega (arith, ones_long, counts_wires))
      ∙ get_or-listed (wires (gates_in c)).count (shared (given_in c) (words c.lent.tape) (gates_in c)).one k 0 below

  two_at : (k : ℕ) → k < (wires (gates_in c)).count
      → get_or (words c.two) k 0 ≡ (shared (given_in c) (words c.lent.tape) (gates_in c)).two k
  unfolding shares_two
  two_at k below =
      ap (λ (b : List ℕ). get_or (words b) k 0) two_over
      ∙ over_at twos c.lent.shares2 twos-words k (omega (arith, twos_long, counts_wires))
      ∙ get_or-listed (wires (gates_in c)).count (shared (given_in c) (words c.lent.tape) (gates_in c)).two k 0 below

  -- every wire's two shares join to its plain value
  joins : Joins c
  joins =
      record {
        all_wires = counts_wires;
        each = λ k below.
            let wire : k < (wires (gates_in c)).count = omega (arith, counts_wires) in
            ap₂ (join ((wires (gates_in c)).sort k)) (one_at k wire) (two_at k wire)
            ∙ shares_join (gates_in c) keep have_words fit (words c.lent.tape) taped k wire;
      }

  -- no check but 24 looks at the tape, and 24 only at its length: with any other exact tape the call is accepted too
  other_tape_accepted : (t : List ℕ) → ExactTape (gates_in c) t → (evaluate_answer (with_tape t c.lent)).number ≡ 0
  unfolding evaluate_answer
  other_tape_accepted t exact =
      let (no-20, (no-21, (no_22, (no_23, (no_24, (no-25, end)))))) = clear in
      let still : Clear (evaluate_checks (with_tape t c.lent)) =
      (no-20, (no-21, (no_22, (no_23, (tape_enough (gates_in c) t exact, (no-25, end)))))) in
      accepts_zero (evaluate_is (with_tape t c.lent) (Evaluates.all_hold still))

-- a call of what is answered with number 0 is accepted
zero_accepted : (c : Call) (l : Lent) → c.lent ≡ l → (evaluate_answer l).number ≡ 0 → Accepted c
zero_accepted c l e zero = ap (λ (a : Evaluated). a.number) (c.promise.answer_is ∙ ap evaluate_answer e) ∙ zero

-- Two calls.

-- what demand 3 says of the rules, of two accepted calls of one circuit
runs_private : (a b : Call) → TwoRuns a b → Private (gates_in a) (given_in a) (given_in b)
runs_private a b runs =
    demand_three (gates_in a) (keep a runs.accepted_a) (have_words a runs.accepted_a) (fit a runs.accepted_a)
    (subst (λ (c : List ℕ). Fit (gates_of c) (given_in b)) (sym runs.same_circuit) (fit b runs.accepted_b))

module _ (a b : Call) (runs : TwoRuns a b) where
  -- they have the same gates
  same_gates : gates_in a ≡ gates_in b
  same_gates = ap gates_of runs.same_circuit

  -- the words of a paired tape are the partner of the tape's words
  paired_words : (t : List ℕ) → ExactTape (gates_in a) t → words (paired_tape a b t) ≡ partner (gates_in a) (given_in a) (given_in b) (words t)
  paired_words t exact =
      bytes_as_words (gates_in a) (partner (gates_in a) (given_in a) (given_in b) (words t))
      ((runs_private a b runs).there (words t) (tape_words (gates_in a) t exact))

  -- a tape's pair is a tape
  paired_exact : (t : List ℕ) → ExactTape (gates_in a) t → ExactTape (gates_in b) (paired_tape a b t)
  paired_exact t exact =
      subst (λ (gs : List Gate). ExactTape gs (paired_tape a b t)) same_gates
      (bytes_exact (gates_in a) (partner (gates_in a) (given_in a) (given_in b) (words t))
      ((runs_private a b runs).there (words t) (tape_words (gates_in a) t exact)))

  -- the pair of its pair, the other way, is the tape
  paired_back : (t : List ℕ) → ExactTape (gates_in a) t → paired_tape b a (paired_tape a b t) ≡ t
  paired_back t exact =
      ap₂ (λ (gs : List Gate) (ws : List ℕ). bytes_of (partner gs (given_in b) (given_in a) ws)) (sym same_gates) (paired_words t exact)
      ∙ ap bytes_of ((runs_private a b runs).there_back (words t) (tape_words (gates_in a) t exact))
      ∙ tape_bytes (gates_in a) t exact

  -- with one tape desk one has the same
  one_same : a.lent.tape ≡ b.lent.tape → desk_one_of a ≡ desk_one_of b
  one_same e =
      desk_one_is a runs.accepted_a
      ∙ (runs_private a b runs).desk_one (words a.lent.tape)
      ∙ ap₂ (λ (t : List ℕ) (gs : List Gate). shares_one (given_in b) (words t) gs) e same_gates
      ∙ sym (desk_one_is b runs.accepted_b)

  -- where b's tape is the pair of a's, desk two has the same
  two_same : ExactTape (gates_in a) a.lent.tape → b.lent.tape ≡ paired_tape a b a.lent.tape → desk_two_of a ≡ desk_two_of b
  two_same exact e =
      desk_two_is a runs.accepted_a
      ∙ (runs_private a b runs).desk_two (words a.lent.tape) (tape_words (gates_in a) a.lent.tape exact)
      ∙ ap₂ (shares_two (given_in b)) (sym (ap words e ∙ paired_words a.lent.tape exact)) same_gates
      ∙ sym (desk_two_is b runs.accepted_b)

-- the pair of the tape in l, for the inputs in m
abbrev pair_of : Lent → Lent → List ℕ
pair_of l m =
    let given : Given = inputs (words l.inputs1) (words l.inputs2) in
    let given' : Given = inputs (words m.inputs1) (words m.inputs2) in
    bytes_of (partner (gates_of l.circuit) given given' (words l.tape))

-- Two calls, and two more that were lent the same but for their tapes: a tape and its pair.
module _ (a b : Call) (runs : TwoRuns a b) (t : List ℕ) (exact : ExactTape (gates_in a) t) where
  -- both are accepted
  both_accepted : ((evaluate_answer (with_tape t a.lent)).number ≡ 0) × ((evaluate_answer (with_tape (paired_tape a b t) b.lent)).number ≡ 0)
  both_accepted = (
    other_tape_accepted a runs.accepted_a t exact,
    other_tape_accepted b runs.accepted_b (paired_tape a b t) (paired_exact a b runs t exact),
  )

  module _ (a' b' : Call) (lent-a : a'.lent ≡ with_tape t a.lent) (lent-b : b'.lent ≡ with_tape (paired_tape a b t) b.lent) where
    -- they are two runs of the circuit
    more_runs : TwoRuns a' b'
    more_runs =
        record {
          accepted_a = zero_accepted a' (with_tape t a.lent) lent-a both_accepted.0;
          accepted_b = zero_accepted b' (with_tape (paired_tape a b t) b.lent) lent-b both_accepted.1;
          same_circuit = ap (λ (l : Lent). l.circuit) lent-a ∙ runs.same_circuit ∙ sym (ap (λ (l : Lent). l.circuit) lent-b);
        }

    -- their tapes are paired
    still_paired : b'.lent.tape ≡ paired_tape a' b' a'.lent.tape
    still_paired = ap (λ (l : Lent). l.tape) lent-b ∙ sym (ap₂ pair_of lent-a lent-b)

    -- so desk two has the same
    two_same_paired : desk_two_of a' ≡ desk_two_of b'
    two_same_paired =
        two_same a' b' more_runs (subst (λ (l : Lent). ExactTape (gates_of l.circuit) l.tape) (sym lent-a) exact) still_paired

-- the other way round
turned : (a b : Call) → TwoRuns a b → TwoRuns b a
turned a b runs = record { accepted_a = runs.accepted_b; accepted_b = runs.accepted_a; same_circuit = sym runs.same_circuit }

-- Demand 3 holds of any two accepted calls of one circuit
pub demand_3_of_calls : (a b : Call) → TwoRuns a b → Demand3 a b
demand_3_of_calls a b runs =
    record {
      desk_one = one_same a b runs;
      there = paired_exact a b runs;
      back = paired_exact b a (turned a b runs);
      there_back = paired_back a b runs;
      back_there = paired_back b a (turned a b runs);
      paired_accepted = both_accepted a b runs;
      desk_two = two_same_paired a b runs;
      joins_a = joins a runs.accepted_a;
      joins_b = joins b runs.accepted_b;
    }
