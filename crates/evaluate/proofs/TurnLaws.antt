-- One gate of a run: its value, its place in the memories, and the memories after it; and the run from the first to the last.
use Prim.Native.Nat.{ℕ, suc, ◌+◌, ◌*◌, ◌^◌, ◌≤◌, ◌<◌}
use mathlib.Core.Path.{◌≡◌, refl, sym, ap, subst, ◌∙◌}
use mathlib.Core.Bool.{true, false}
use mathlib.Core.Option as mathlib_option
use mathlib.Core.Option.{none, some}
use mathlib.Core.List.{List, ◌∷◌}
use lib.Dec.{T}
use lib.ListN.{length, get_or}
use native.Mathlib.Omega.{arith}
use native.Mathlib.Numerals.{add-one}
use Rattle.std.specs.Prelude.{Option, None, Some, IsSome}
use Rattle.words.specs.Words.{words}
use Rattle.rules.specs.Gates.{Gate, gate_at, gate_count, gates_to, makes, sort_made, wires, keeps_rules}
use Rattle.rules.specs.Plain.{value_of}
use Rattle.rules.specs.Shares.{taken}
use Rattle.rules.specs.Answers.{out_count, gates_of, failing21}
use Rattle.rules.proofs.Basics.{none≢some}
use Rattle.rules.proofs.Kept.{kept_of}
use Rattle.rules.proofs.Earlier.{gate_kept, gates_step, count-made, outs_out, count_earlier, outs_earlier, sort_earlier, sort_new}
use Rattle.circuit.specs.declared.sorts.Sort.{Sort}
use Rattle.circuit.specs.declared.gates.Gate as code
use Rattle.circuit.specs.declared.gates.Gate.TheVariants.{Both, Mux, Constant, Convert, Input, Out}
use Rattle.circuit.specs.Gates.{meant, meant_gate, makes_wire}
use Rattle.circuit.proofs.GateLaws.{makes_some, makes_none}
use Rattle.evaluate.specs.declared.desks.Run.{Run}
use Rattle.evaluate.specs.Held.{Contents, with_shares, with_output, sort_in, joined_in, given_in, Held, WireIn, WiresIn, Fresh, Ready, Before, Turned, Done}
use Rattle.evaluate.proofs.HeldLaws.{SortsOf, sorts_noted, held_none, held_wire, held_out, held_value}

-- the wires that a gate reads have places, where all that were made have
wires_in : (gs : List Gate) (sorts : List Sort) (now : Contents) → (wires gs).count ≤ length sorts
    → 4 * (wires gs).count ≤ length now.one → 4 * (wires gs).count ≤ length now.two
    → (gate : code.Gate) → T (keeps_rules gs (meant gate)) → WiresIn sorts now gate
wires_in gs sorts now few long1 long2 = go
  where
    wire_in_lem : (k : ℕ) → k < (wires gs).count → WireIn sorts now k
    wire_in_lem k l = (omega arith, (omega arith, omega arith))

    go : (gate : code.Gate) → T (keeps_rules gs (meant gate)) → WiresIn sorts now gate
    go (Both o a b new) ok = let kept = kept_of gs _ ok in (wire_in_lem a.0 kept.0, wire_in_lem b.0 kept.1)
    go (Mux x a b new) ok = let kept = kept_of gs _ ok in (wire_in_lem x.0 kept.0, (wire_in_lem a.0 kept.1.0, wire_in_lem b.0 kept.1.1))
    go (Constant v m new) ok = tt
    go (Convert x m new) ok = wire_in_lem x.0 (kept_of gs _ ok).0.0
    go (Input r new) ok = tt
    go (Out x) ok = wire_in_lem x.0 (kept_of gs _ ok)

-- a gate that is one means a gate
pub meant_some : {o : Option code.Gate} {gate : code.Gate} {m : mathlib_option.Option Gate} → o ≡ Some gate → meant_gate o ≡ m → some (meant gate) ≡ m
meant_some e is = rw e at is

-- a new wire has its places, and its tape word
pub record NewWireIn (run : Run) (now : Contents) (w : ℕ) : Type 0 where
  pub places : WireIn run.sorts.now now w
  pub tape_word : 4 * w + 4 ≤ length run.tape.now

-- Gate i, the next one.
module _ {run : Run} {now : Contents} {i : ℕ} (before : Before run now i) where
  abbrev gs : List Gate
  gs = gates_to (words run.circuit.now) i

  abbrev total : ℕ
  total = gate_count (words run.circuit.now)

  abbrev all : ℕ
  all = (wires (gates_of run.circuit.now)).count

  -- it is a gate that keeps the rules
  kept : (g : Gate) × ((gate_at (words run.circuit.now) i ≡ some g) × T (keeps_rules gs g))
  unfolding failing21
  kept = gate_kept (words run.circuit.now) total i before.ready.keeps before.within

  pub gate_there : (o : Option code.Gate) → meant_gate o ≡ gate_at (words run.circuit.now) i → IsSome o
  gate_there None is = absurd (none≢some _ (is ∙ kept.1.0))
  gate_there (Some gate) is = refl

  -- the wires so far are no more than all, so those that it reads have their places
  wires_fit : (wires gs).count ≤ all
  unfolding gates_of
  wires_fit = count_earlier (words run.circuit.now) i total (omega (arith, before.within))

  -- the sorts of the wires so far are there, so its value is joined of the memories
  sorts_so_far : SortsOf gs run.sorts.now
  unfolding gates_of failing21
  sorts_so_far k below =
      sorts_noted before.ready.noted k (omega (arith, wires_fit))
      ∙ sort_earlier (words run.circuit.now) i total (omega (arith, before.within)) before.ready.keeps k below

  -- Read as this one.
  module _ (gate : code.Gate) (read : some (meant gate) ≡ gate_at (words run.circuit.now) i) where
    abbrev g : Gate
    g = meant gate

    ok : T (keeps_rules gs g)
    ok =
        let both : some kept.0 ≡ some g = sym kept.1.0 ∙ sym read in
        let same : kept.0 ≡ g = cc in
        subst (λ h. T (keeps_rules gs h)) same kept.1.1

    step : gates_to (words run.circuit.now) (suc i) ≡ g ∷ gs
    step = gates_step (words run.circuit.now) i (sym read)

    pub gate_wires_in : WiresIn run.sorts.now now gate
    gate_wires_in =
        wires_in gs run.sorts.now now (omega (arith, wires_fit, before.ready.noted.count))
        (omega (arith, wires_fit, before.ready.one_long)) (omega (arith, wires_fit, before.ready.two_long)) gate ok

    module _ (makes_one : makes_wire gate ≡ true) where
      abbrev made : makes g ≡ some (makes_some gate makes_one).0
      made = (makes_some gate makes_one).1

      -- a new wire is one more, and no more than all,
      one_more : (wires (gates_to (words run.circuit.now) (suc i))).count ≡ suc now.so_far.wires
      one_more = ap (λ l. (wires l).count) step ∙ count-made g gs made ∙ ap suc (sym before.wires_so_far)

      new_fits : now.so_far.wires < all
      unfolding gates_of
      new_fits = omega (arith, one_more, count_earlier (words run.circuit.now) (suc i) total before.within)

      -- so it has its places,
      pub new_wire_in : NewWireIn run now now.so_far.wires
      new_wire_in = record {
        places = (
          omega (arith, new_fits, before.ready.noted.count),
          (omega (arith, new_fits, before.ready.one_long), omega (arith, new_fits, before.ready.two_long)),
        );
        tape_word = omega (arith, new_fits, before.ready.tape_long);
      }

      -- and its sort
      new_sort : sort_in run.sorts.now now.so_far.wires ≡ sort_made (wires gs).sort g
      unfolding gates_of failing21
      new_sort =
          sorts_noted before.ready.noted now.so_far.wires new_fits
          ∙ sort_earlier (words run.circuit.now) (suc i) total before.within before.ready.keeps now.so_far.wires (omega (arith, one_more))
          ∙ ap (λ l. (wires l).sort now.so_far.wires) step
          ∙ ap (λ k. (wires (g ∷ gs)).sort k) before.wires_so_far
          ∙ sort_new g gs ok made

      -- memories that hold the gates before it hold it too, once its shares are put
      pub turned_wire : (v t : ℕ) → v < 2 ^ 32 → t < 2 ^ 32 → t ≡ get_or (words run.tape.now) now.so_far.wires 0
          → v ≡ value_of (given_in run) (joined_in run.sorts.now now) g
          → {now' : Contents} → now' ≡ with_shares now (sort_in run.sorts.now now.so_far.wires) v t → Turned run i now now'
      unfolding taken
      turned_wire v t word tape-word t_is value now_is lent held =
          let room = new_wire_in.places.1 in
          rw (step, now_is, new_sort, t_is)
          (held_wire g ok made held v word (value ∙ held_value held run.sorts.now sorts_so_far g ok) (rw t_is at tape-word) room.0 room.1)

    module _ (makes-no : makes_wire gate ≡ false) where
      abbrev no_wire : makes g ≡ none
      no_wire = makes_none gate makes-no

      -- an output has its place
      pub new_output_in : 4 * now.so_far.outputs + 4 ≤ length now.outs
      unfolding gates_of
      new_output_in =
          let more = outs_earlier (words run.circuit.now) (suc i) total before.within in
          let next = ap out_count step ∙ outs_out g gs no_wire in
          omega (arith, before.outs_so_far, before.ready.outs_long)

      -- memories that hold the gates before it hold it too, once its value is put
      pub turned_output : (v : ℕ) → v ≡ value_of (given_in run) (joined_in run.sorts.now now) g
          → {now' : Contents} → now' ≡ with_output now v → Turned run i now now'
      turned_output v value now_is lent held =
          rw (step, now_is) (held_out g no_wire held v (value ∙ held_value held run.sorts.now sorts_so_far g ok) new_output_in)

-- The run: the first i gates are held.
pub record Running (run : Run) (lent now : Contents) (i : ℕ) : Type 0 where
  pub within : i ≤ gate_count (words run.circuit.now)
  pub held : Held (given_in run) (words run.tape.now) (gates_to (words run.circuit.now) i) lent now

pub running_first : {run : Run} {lent : Contents} → Fresh lent → Running run lent lent 0
unfolding gates_to
running_first fresh = record { within = omega arith; held = held_none fresh }

module _ {run : Run} {lent now : Contents} {i : ℕ} (ready : Ready run lent) (running : Running run lent now i) where
  -- the next gate may be run
  pub running_before : i < gate_count (words run.circuit.now) → Before run now i
  running_before more =
      let held = running.held in
      record {
        ready = record {
          keeps = ready.keeps;
          few = ready.few;
          noted = ready.noted;
          tape_long = ready.tape_long;
          one_long = omega (arith, ready.one_long, held.one_long);
          two_long = omega (arith, ready.two_long, held.two_long);
          outs_long = omega (arith, ready.outs_long, held.outs_long);
        };
        within = more;
        wires_so_far = held.wires_so_far;
        outs_so_far = held.outs_so_far;
      }

  -- and is held then
  pub running_next : i < gate_count (words run.circuit.now) → {now' : Contents} → Turned run i now now' → Running run lent now' (i + 1)
  running_next more turned = record { within = omega arith; held = rw add-one (turned lent running.held) }

  -- after the last all are
  pub running_last : gate_count (words run.circuit.now) ≤ i → Done run lent now
  unfolding gates_of
  running_last all =
      let held = running.held in
      let last : i ≡ gate_count (words run.circuit.now) = omega (arith, running.within) in
      record { one_is = rw (← last) held.one_is; two_is = rw (← last) held.two_is; outs_are = rw (← last) held.outs_are }
