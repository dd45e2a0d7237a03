-- Document 01, "Gates": five words each, unlisted ones 0, and the rules that a circuit keeps. With "Order of refusals",
-- checks 20 and 21. A circuit is a list of gates, the newest first; its words stand oldest first.
use Rattle.std.specs.Prelude.{ℕ, zero, suc, ◌+◌, ◌*◌, ◌/◌, ◌%◌, Bool, true, false, not, cond, ◌&&◌, ◌||◌, List, [], ◌∷◌, ◌++◌, length, get_or, T, eqb, ltb, leb}
use Rattle.std.proofs.Math.Option.{Option, none, some}
use Rattle.words.specs.Words.{words}
use Rattle.rules.specs.Rows.{Wire, Op, add, gt}
use Rattle.rules.specs.Sorts.{Sort, arithmetic, boolean, bit, sort_number, sort_numbered, same, fits_sort, side_at, result_at}

-- both: operator, two wires, the new one. mux: guard, two wires, the new one. constant: value, sort, the new wire.
-- convert: wire, sort, the new wire. entry (input): desk, number, sort, the new wire. output: wire
pub data Gate : Type 0 where
  both : Op → Wire → Wire → Wire → Gate
  mux : Wire → Wire → Wire → Wire → Gate
  constant : ℕ → Sort → Wire → Gate
  convert : Wire → Sort → Wire → Gate
  entry : ℕ → ℕ → Sort → Wire → Gate
  output : Wire → Gate

-- the kind of an operator's gate: 1 add, 3 greater
abbrev pub gate_number : Op → ℕ
gate_number add = 1
gate_number gt = 3

-- the five words of a gate
abbrev pub gate_words : Gate → List ℕ
gate_words (both o a b new) = gate_number o ∷ a ∷ b ∷ new ∷ 0 ∷ []
gate_words (mux g a b new) = 2 ∷ g ∷ a ∷ b ∷ new ∷ []
gate_words (constant v m new) = 4 ∷ v ∷ sort_number m ∷ new ∷ 0 ∷ []
gate_words (convert w m new) = 5 ∷ w ∷ sort_number m ∷ new ∷ 0 ∷ []
gate_words (entry d n m new) = 6 ∷ d ∷ n ∷ sort_number m ∷ new ∷ []
gate_words (output w) = 7 ∷ w ∷ 0 ∷ 0 ∷ 0 ∷ []

-- the words of a circuit, the oldest gate first
unfoldable pub circuit_words : List Gate → List ℕ
circuit_words [] = []
circuit_words (g ∷ gs) = circuit_words gs ++ gate_words g

-- The way back: which five words are a gate's. The kinds by number.
pub data GateKind : Type 0 where
  no_gate : GateKind
  of_both : Op → GateKind
  of_mux of_constant of_convert of_entry of_output : GateKind

unfoldable pub gate_kinds : List GateKind
gate_kinds = no_gate ∷ of_both add ∷ of_mux ∷ of_both gt ∷ of_constant ∷ of_convert ∷ of_entry ∷ of_output ∷ []

-- an unlisted word is 0
abbrev pub if_zero : ℕ → Option Gate → Option Gate
if_zero zero g = g
if_zero (suc n) g = none

-- a sort is 1, 2 or 3
abbrev pub with_sort : Option Sort → (Sort → Gate) → Option Gate
with_sort none g = none
with_sort (some m) g = some (g m)

-- the gate of a kind and four words more
unfoldable pub gate_of : GateKind → ℕ → ℕ → ℕ → ℕ → Option Gate
gate_of no_gate a b c d = none
gate_of (of_both o) a b c d = if_zero d (some (both o a b c))
gate_of of_mux a b c d = some (mux a b c d)
gate_of of_constant a b c d = if_zero d (with_sort (sort_numbered b) (λ m. constant a m c))
gate_of of_convert a b c d = if_zero d (with_sort (sort_numbered b) (λ m. convert a m c))
gate_of of_entry a b c d = with_sort (sort_numbered c) (λ m. entry a b m d)
gate_of of_output a b c d = if_zero b (if_zero c (if_zero d (some (output a))))

-- word k of gate i of a circuit's words, the gate, and how many gates there are
unfoldable pub gate_word : List ℕ → ℕ → ℕ → ℕ
gate_word c i k = get_or c (5 * i + k) 0

unfoldable pub gate_at : List ℕ → ℕ → Option Gate
gate_at c i =
    gate_of (get_or gate_kinds (gate_word c i 0) no_gate) (gate_word c i 1) (gate_word c i 2) (gate_word c i 3) (gate_word c i 4)

unfoldable pub gate_count : List ℕ → ℕ
gate_count c = length c / 5

-- the first n gates; five words that are no gate add none (check 21 refuses them)
abbrev pub added : Option Gate → List Gate → List Gate
added none gs = gs
added (some g) gs = g ∷ gs

unfoldable pub gates_to : List ℕ → ℕ → List Gate
gates_to c zero = []
gates_to c (suc n) = added (gate_at c n) (gates_to c n)

-- the wire that a gate makes; an out makes none
abbrev pub makes : Gate → Option Wire
makes (both o a b new) = some new
makes (mux g a b new) = some new
makes (constant v m new) = some new
makes (convert w m new) = some new
makes (entry d n m new) = some new
makes (output w) = none

-- the wires of a circuit: how many, and the sort of each
pub record Wires : Type 0 where
  pub count : ℕ
  pub sort : Wire → Sort

-- the sort of the wire that a gate makes, where the wires before it have these sorts
unfoldable pub sort_made : (Wire → Sort) → Gate → Sort
sort_made sort (both o a b new) = result_at o
sort_made sort (mux g a b new) = sort a
sort_made sort (constant v m new) = m
sort_made sort (convert w m new) = m
sort_made sort (entry d n m new) = m
sort_made sort (output w) = sort w

-- the wires with one more, or as they are
unfoldable pub wired : Option Wire → Sort → Wires → Wires
wired none m w = w
wired (some new) m w = record { count = suc w.count; sort = λ k. cond (eqb k new) m (w.sort k) }

unfoldable pub wires : List Gate → Wires
wires [] = record { count = 0; sort = λ k. arithmetic }
wires (g ∷ gs) = wired (makes g) (sort_made (wires gs).sort g) (wires gs)

-- a wire was made earlier, with sort m; a new wire has the next number
unfoldable pub is_wire : List Gate → Wire → Sort → Bool
is_wire gs w m = ltb w (wires gs).count && same ((wires gs).sort w) m

unfoldable pub is_next : List Gate → Wire → Bool
is_next gs new = eqb new (wires gs).count

-- a gate that reads input n of desk d at another sort than m
abbrev pub other_sort : ℕ → ℕ → Sort → Gate → Bool
other_sort d n m (both o a b new) = false
other_sort d n m (mux g a b new) = false
other_sort d n m (constant v k new) = false
other_sort d n m (convert w k new) = false
other_sort d n m (entry e i k new) = eqb e d && (eqb i n && not (same k m))
other_sort d n m (output w) = false

-- one desk and number has one sort in a circuit: an earlier gate differs
unfoldable pub clashes : List Gate → ℕ → ℕ → Sort → Bool
clashes [] d n m = false
clashes (g ∷ gs) d n m = other_sort d n m g || clashes gs d n m

-- a gate keeps the rules of the table of gates, after the gates gs
unfoldable pub keeps_rules : List Gate → Gate → Bool
keeps_rules gs (both o a b new) = is_wire gs a (side_at o) && (is_wire gs b (side_at o) && is_next gs new)
keeps_rules gs (mux g a b new) =
    is_wire gs g bit && ((is_wire gs a boolean && is_wire gs b boolean || is_wire gs a bit && is_wire gs b bit) && is_next gs new)
keeps_rules gs (constant v m new) = fits_sort m v && is_next gs new
keeps_rules gs (convert w m new) =
    (is_wire gs w arithmetic && same m boolean || is_wire gs w boolean && same m arithmetic) && is_next gs new
keeps_rules gs (entry d n m new) =
    (eqb d 1 || eqb d 2) && (ltb n 64 && ((same m arithmetic || same m bit) && (not (clashes gs d n m) && is_next gs new)))
keeps_rules gs (output w) = ltb w (wires gs).count

-- five words that are no gate break the rules
abbrev pub gate_keeps : List Gate → Option Gate → Bool
gate_keeps gs none = false
gate_keeps gs (some g) = keeps_rules gs g

-- check 21, of gate i
unfoldable pub check21 : List ℕ → ℕ → Bool
check21 c i = gate_keeps (gates_to c i) (gate_at c i)

-- check 20, of the circuit's bytes: whole words, five to a gate, at most 15,000
unfoldable pub circuit_fits : List ℕ → Bool
circuit_fits b = eqb (length b % 4) 0 && (eqb (length (words b) % 5) 0 && leb (length (words b)) 15000)

-- a whole circuit keeps the rules: each gate after those before it
abbrev pub AllKeep : List Gate → Type 0
AllKeep [] = Unit {0}
AllKeep (g ∷ gs) = T (keeps_rules gs g) × AllKeep gs

-- a test of the input that a gate reads; a gate that reads none passes
abbrev pub entry_test : (ℕ → ℕ → Sort → Bool) → Option Gate → Bool
entry_test ok none = true
entry_test ok (some (both o a b new)) = true
entry_test ok (some (mux g a b new)) = true
entry_test ok (some (constant v m new)) = true
entry_test ok (some (convert w m new)) = true
entry_test ok (some (entry d n m new)) = ok d n m
entry_test ok (some (output w)) = true
