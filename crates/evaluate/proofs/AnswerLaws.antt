-- The operation's cases: each way out of the code is a line of the paper's table, and its promise holds there.
use Prim.Native.Nat.{ℕ, ◌+◌, ◌-◌, ◌/◌, ◌≤◌, ◌<◌}
use mathlib.Core.Path.{◌≡◌, sym, ap, ◌∙◌}
use mathlib.Core.Bool.{Bool, true, false, ◌&&◌}
use mathlib.Core.List.{List, [], reverse}
use lib.Dec.{T, leb}
use lib.ListN.{length, take, length-reverse}
use native.Mathlib.Omega.{arith}
use borrow.Author.Tests.{lt-leb, le-leb}
use Rattle.std.specs.Prelude.{Ok, Err}
use Rattle.words.specs.Words.{words}
use Rattle.words.proofs.Words.{words-length}
use Rattle.rules.specs.Places.{refused, accepted, fault}
use Rattle.rules.specs.Gates.{Gate, wires, gate_count, circuit_fits}
use Rattle.rules.specs.Plain.{inputs}
use Rattle.rules.specs.Shares.{tape_for, shared}
use Rattle.rules.specs.Answers.{Lent, evaluation, evaluate, evaluate_answer, leaves_one, leaves_two, leaves_outs}
use Rattle.rules.specs.Answers.{gates_of, out_count, failing20, failing21, failing24, failing25}
use Rattle.rules.specs.Refusals.{Lowest, Clear, evaluate_checks, Evaluates}
use Rattle.rules.proofs.Basics.{of_true}
use Rattle.rules.proofs.Places.{none_fault, lowest_fault}
use Rattle.rules.proofs.Refusals.{evaluates}
use Rattle.rules.proofs.Memories.{passed_25}
use Rattle.rules.proofs.Circuits.{wires_and_outs, outs_of_shares}
use Rattle.rules.proofs.Earlier.{gates_all}
use Rattle.circuit.proofs.GateLaws.{gates_at_most}
use Rattle.evaluate.specs.declared.Refusal.{Refusal}
use Rattle.evaluate.specs.declared.Refusal.TheVariants.{CircuitLength, GateBreaksRules, InputMissing, InputNoBool, TapeShort, MemoryShort}
use Rattle.evaluate.specs.declared.desks.Run.{Run}
use Rattle.evaluate.specs.InputChecks.{InputsRefused}
use Rattle.evaluate.specs.Held.{Contents, Allowed, Ready, Done, lent_to}
use Rattle.evaluate.specs.Promise.{Promise, answered, refusal_number, refusal_place}

-- a refusal by a line of the table answers its number and place, and leaves every memory as it was
abbrev pub Refuses : Lent → Refusal → Type 0
Refuses l why = Promise l (answered (Err why)) l.shares1 l.shares2 l.outputs

promise_refused : (l : Lent) (why : Refusal) → Evaluates l (refused (refusal_number why) (refusal_place why)) → Refuses l why
unfolding evaluate_answer leaves_one leaves_two leaves_outs
promise_refused l why case =
    let is : evaluate l ≡ refused (refusal_number why) (refusal_place why) = (evaluates l _).0 case in
    record { answer_is = rw is; one_is = rw is; two_is = rw is; outs_are = rw is }

module _ (l : Lent) where
  abbrev gs : List Gate
  gs = gates_of l.circuit

  -- 20
  refuse_20 : circuit_fits l.circuit ≡ false → Lowest 0 (failing20 l.circuit)
  unfolding failing20
  refuse_20 e = lowest_fault (circuit_fits l.circuit) e

  pass_20 : T (circuit_fits l.circuit) → failing20 l.circuit ≡ []
  unfolding failing20
  pass_20 t = none_fault (circuit_fits l.circuit) 0 t

  -- 24
  refuse_24 : length l.tape / 4 < (wires gs).count → Lowest 0 (failing24 gs l.tape)
  unfolding failing24 tape_for
  refuse_24 h = lowest_fault _ (lt-leb (wires gs).count (length (words l.tape)) (omega (arith, words-length l.tape)))

  pass_24 : (wires gs).count ≤ length l.tape / 4 → failing24 gs l.tape ≡ []
  unfolding failing24 tape_for
  pass_24 h = rw (le-leb (wires gs).count (length (words l.tape)) (omega (arith, words-length l.tape))) (none_fault true 0 tt)

  -- 25: the code's test is the check's
  abbrev pub room : Bool
  room = leb (wires gs).count (length l.shares1 / 4)
      && (leb (wires gs).count (length l.shares2 / 4) && leb (out_count gs) (length l.outputs / 4))

  room_is : failing25 gs l.shares1 l.shares2 l.outputs ≡ fault room 0
  unfolding failing25
  room_is = rw (words-length l.shares1, words-length l.shares2, words-length l.outputs)

  refuse_25 : room ≡ false → Lowest 0 (failing25 gs l.shares1 l.shares2 l.outputs)
  refuse_25 e = rw room_is (lowest_fault room e)

  pass_25 : room ≡ true → failing25 gs l.shares1 l.shares2 l.outputs ≡ []
  unfolding fault
  pass_25 e = rw (room_is, e)

  -- the first two refusals
  pub promise_20 : circuit_fits l.circuit ≡ false → Refuses l CircuitLength
  promise_20 e = promise_refused l CircuitLength (Evaluates.with_20 (refuse_20 e))

  pub promise_21 : {p : ℕ} → circuit_fits l.circuit ≡ true → Lowest p (failing21 (words l.circuit)) → Refuses l (GateBreaksRules p)
  promise_21 fits low = promise_refused l (GateBreaksRules _) (Evaluates.with_21 (pass_20 (of_true _ fits), tt) low)

  -- 22 and 23, where the checks before pass
  pub promise_inputs : T (circuit_fits l.circuit) → failing21 (words l.circuit) ≡ [] → (why : Refusal)
      → InputsRefused l.circuit l.inputs1 l.inputs2 why → Refuses l why
  promise_inputs fits keeps (InputMissing p) low = promise_refused l (InputMissing p) (Evaluates.with_22 (pass_20 fits, (keeps, tt)) low)
  promise_inputs fits keeps (InputNoBool p) (no_22, low) =
      promise_refused l (InputNoBool p) (Evaluates.with_23 (pass_20 fits, (keeps, (no_22, tt))) low)
  promise_inputs fits keeps _ h = absurd h

-- A run that the checks before allow, over lent memories.
module _ {run : Run} (lent : Contents) (allowed : Allowed run) where
  abbrev l : Lent
  l = lent_to run lent

  abbrev made : List Gate
  made = gates_of run.circuit.now

  abbrev w : ℕ
  w = length run.sorts.now

  -- there are at most 3,000 gates, and each makes a wire or an output
  pub few_gates : gate_count (words run.circuit.now) ≤ 3000
  few_gates = gates_at_most run.circuit.now allowed.fits

  wires_are : w ≡ (wires made).count
  wires_are = allowed.noted.count

  pub wires_or_outs : gate_count (words run.circuit.now) ≡ w + out_count made
  unfolding failing21 gates_of
  wires_or_outs =
      sym (gates_all (words run.circuit.now) (gate_count (words run.circuit.now)) allowed.keeps)
      ∙ wires_and_outs made ∙ ap (λ k. k + out_count made) (sym wires_are)

  abbrev four : Clear (take 4 (evaluate_checks l))
  four = (pass_20 l allowed.fits, (allowed.keeps, (allowed.inputs.no_22, (allowed.inputs.no_23, tt))))

  pub promise_24 : length run.tape.now / 4 < w → Refuses l TapeShort
  promise_24 short = promise_refused l TapeShort (Evaluates.with_24 four (refuse_24 l (omega (arith, wires_are))))

  -- Once the tape is long enough.
  module _ (long : w ≤ length run.tape.now / 4) where
    abbrev five : Clear (take 5 (evaluate_checks l))
    five = (four.0, (four.1.0, (four.1.1.0, (four.1.1.1.0, (pass_24 l (omega (arith, wires_are)), tt)))))

    -- the code's test of the memories is the check's
    pub enough_is : {n : ℕ} → n ≡ gate_count (words run.circuit.now)
        → (leb w (length lent.one / 4) && (leb w (length lent.two / 4) && leb (n - w) (length lent.outs / 4))) ≡ room l
    enough_is {n} is =
        let rest : n - w ≡ out_count made = omega (arith, wires_or_outs) in
        rw (rest, wires_are)

    pub promise_25 : room l ≡ false → Refuses l MemoryShort
    promise_25 e = promise_refused l MemoryShort (Evaluates.with_25 five (refuse_25 l e))

    -- with memory enough the run may begin,
    pub ready_to_run : room l ≡ true → Ready run lent
    ready_to_run e =
        let (one, two, outs) = passed_25 made lent.one lent.two lent.outs (pass_25 l e) in
        record {
          keeps = allowed.keeps;
          few = few_gates;
          noted = allowed.noted;
          tape_long = omega (arith, wires_are);
          one_long = omega (arith, words-length lent.one);
          two_long = omega (arith, words-length lent.two);
          outs_long = omega (arith, words-length lent.outs);
        }

    -- and its end is the promise
    pub promise_accepted : room l ≡ true → {now : Contents} → Done run lent now
        → Promise l (answered (Ok (record { wires = w; outputs = gate_count (words run.circuit.now) - w }))) now.one now.two now.outs
    unfolding evaluate_answer leaves_one leaves_two leaves_outs
    promise_accepted e done =
        let given = inputs (words run.inputs.one.now) (words run.inputs.two.now) in
        let outs = (shared given (words run.tape.now) made).outs in
        let six : Clear (evaluate_checks l) = (five.0, (five.1.0, (five.1.1.0, (five.1.1.1.0, (five.1.1.1.1.0, (pass_25 l e, tt)))))) in
        let is : evaluate l ≡ accepted (evaluation made given (words run.tape.now)) = (evaluates l _).0 (Evaluates.all_hold six) in
        let rest : gate_count (words run.circuit.now) - w ≡ length (reverse outs) =
        omega (arith, wires_or_outs, length-reverse outs, outs_of_shares given (words run.tape.now) made) in
        record {
          answer_is = rw (is, rest, wires_are);
          one_is = rw (is, done.one_is);
          two_is = rw (is, done.two_is);
          outs_are = rw (is, done.outs_are);
        }
