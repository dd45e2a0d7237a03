-- The cases of document 01 hold: all by computation, but the million steps by the law on loops, and how tapes differ from
-- their partners for any tape.
use Prim.Native.Nat.{ℕ, ◌+◌, ◌%◌, ◌<◌}
use mathlib.Core.Path.{◌≡◌, refl, ap, ◌∙◌}
use mathlib.Core.List.{List, [], ◌∷◌}
use native.Mathlib.Omega.{arith}
use lib.Bits.{xor_zero_r}
use Rattle.words.specs.Words.{words, bytes_of, over}
use Rattle.rules.specs.Places.{accepted, fault, failing_below, lowest, unless, and_then}
use Rattle.rules.specs.Rows.{uint, kinds, word, kind_at, row_count, table_fits, row_shaped, child_of, children_in, uses, used_once}
use Rattle.rules.specs.Tree.{Stmt, declare, loop, then}
use Rattle.rules.specs.Tree.{row_e, row_s, type_of, expr_of, stmt_of, below, levels, by_rows, expr_at, stmt_at, program}
use Rattle.rules.specs.Scope.{lookup, after}
use Rattle.rules.specs.Sites.{row_n, sites_e, sites, failing, check4}
use Rattle.rules.specs.Names.{named, check5}
use Rattle.rules.specs.Types.{type_e, differs, clash_to, typed, check6}
use Rattle.rules.specs.Labels.{when_read, when_stored, rules_of, inputs_of, all_rules, all_inputs, has, fired, passes, secrets, public, check7}
use Rattle.rules.specs.Counts.{count_two, count, counted, check8}
use Rattle.rules.specs.Sorts.{sort_numbered, applied, arm}
use Rattle.rules.specs.Gates.{Gate, circuit_words, gate_kinds, gate_of, gate_word, gate_at, gate_count, gates_to, sort_made, wired, wires}
use Rattle.rules.specs.Gates.{is_wire, is_next, clashes, keeps_rules, check21, circuit_fits}
use Rattle.rules.specs.Run.{State, cell, put, stepped, make, converted, bring_val, bring, sided, kept, muxed_to, muxed, guarded, run_e}
use Rattle.rules.specs.Run.{first, firsts, store_over, store, put_wire, put_val, entered, turns, run, start}
use Rattle.rules.specs.Plain.{inputs, value_of, noted, plain}
use Rattle.rules.specs.Direct.{direct, keep, blank, follow, begin}
use Rattle.rules.specs.Shares.{Tape, taken, tape_for, dealt, shared, listed, shares_one, shares_two, partner}
use Rattle.rules.specs.Answers.{program_of, rows_of, sites_of, secret_in, run_of, failing1, failing2, failing3, failing4, failing5, failing6, failing7, failing8}
use Rattle.rules.specs.Answers.{failing9, failing10, failing11, checked, built, compile, compile_answer, compile_leaves}
use Rattle.rules.specs.Answers.{gates_of, out_count, failing20, failing21, failing22, failing23, failing24, failing25, evaluate}
use Rattle.rules.specs.Answers.{evaluate_answer, leaves_one, leaves_two, leaves_outs, read_outs, failing_direct, read_directly, direct_answer, direct_leaves}
use Rattle.rules.specs.Ascii.{ascii, lines}
use Rattle.rules.specs.Text.{is_digit, digit_of, fits_column, fits_to, is_line, hex_at, line_count, text_words, text_fits, check12, digit_for, hex_of, line_of}
use Rattle.rules.specs.Answers.{failing_text, failing12, failing13, read_text, gate_lines, printed}
use Rattle.rules.specs.Cases.{compiles, prints, sum_text, sum_listing, open_text, open_listing, Gives, Pairs, DiffersBy, Holds, AllHold, unchanged, plus, xor, all_changed, compiled_with}
use Rattle.rules.specs.Cases.{sum, written, shown, written_next, shown_next, array, idle, twice, greater, million, sum_circuit, greater_circuit}
use Rattle.rules.specs.Cases.{sum_of_7_and_5, greater_of_7_and_5, greater_of_9_and_5, greater_of_7_or_9, cases, listings}
use Rattle.rules.specs.Cases.{index_late, guard_late, idle_unknown, idle_secret, cond_true, cond_input, slips}
use Rattle.rules.proofs.Loops.{loop_steps, loop_keeps}

-- the proof of a case, and those of the cases after it
infixr 20 ◌and◌
◌and◌ : {A B : Type 0} → A → B → A × B
a and b = (a, b)

-- What a proof by computation unfolds: for a table's program, its secret rows and checks 1 to 8
unfoldable pub checking : Unit {0}
unfolding
    words bytes_of
    fault failing_below
    kinds word kind_at row_count table_fits row_shaped child_of children_in uses used_once
    row_e row_s type_of expr_of stmt_of below levels by_rows expr_at stmt_at program
    lookup after
    row_n sites_e sites failing check4
    named check5
    type_e differs clash_to typed check6
    when_read when_stored rules_of inputs_of all_rules all_inputs has fired passes secrets public check7
    count_two count counted check8
    program_of rows_of sites_of secret_in failing1 failing2 failing3 failing4 failing5 failing6 failing7 failing8
checking = tt

-- for compile
unfoldable pub compiling : Unit {0}
unfolding
    checking
    over lowest unless and_then
    applied arm
    cell put stepped make converted bring_val bring sided kept muxed_to muxed guarded run_e
    first firsts store_over store put_wire put_val entered turns run start
    circuit_words
    run_of failing9 failing10 failing11 checked built compile compile_answer compile_leaves
compiling = tt

-- and for all operations on tables and circuits
unfoldable pub computing : Unit {0}
unfolding
    compiling
    sort_numbered
    gate_kinds gate_of gate_word gate_at gate_count gates_to sort_made wired wires is_wire is_next clashes keeps_rules check21 circuit_fits
    inputs value_of noted plain
    direct keep blank follow begin
    taken tape_for dealt shared listed shares_one shares_two partner
    gates_of out_count failing20 failing21 failing22 failing23 failing24 failing25 evaluate
    evaluate_answer leaves_one leaves_two leaves_outs read_outs failing_direct read_directly direct_answer direct_leaves
computing = tt

-- for the printing program
unfoldable pub printing : Unit {0}
unfolding
    compiling
    ascii lines
    is_digit digit_of fits_column fits_to is_line hex_at line_count text_words text_fits check12 digit_for hex_of line_of
    failing_text failing12 failing13 read_text gate_lines printed
printing = tt

-- Sum, with inputs 7 and 5.
sum-gives : Gives sum_of_7_and_5
unfolding computing sum_of_7_and_5 sum sum_circuit
sum-gives = record { compiled = refl; answered = refl; desk_one = refl; desk_two = refl; put_out = refl; read = refl; read_out = refl }

-- Greater, with 7 and with 9 against 5.
greater_7_gives : Gives greater_of_7_and_5
unfolding computing greater_of_7_and_5 greater greater_circuit
greater_7_gives = record { compiled = refl; answered = refl; desk_one = refl; desk_two = refl; put_out = refl; read = refl; read_out = refl }

greater_9_gives : Gives greater_of_9_and_5
unfolding computing greater_of_9_and_5 greater greater_circuit
greater_9_gives = record { compiled = refl; answered = refl; desk_one = refl; desk_two = refl; put_out = refl; read = refl; read_out = refl }

-- the tape with 9 is the partner of the tape with 7, and desk two cannot tell
greater_pairs : Pairs greater_of_7_and_5 greater_of_9_and_5
unfolding computing greater_of_7_and_5 greater_of_9_and_5 greater_circuit
greater_pairs = record {
  first = greater_7_gives;
  second = greater_9_gives;
  one_circuit = refl;
  one_desk_two = refl;
  partnered = refl;
  alike = refl;
}

-- adding nothing leaves a word as it is
add_none : (t : ℕ) → t < 4294967296 → (t + 0) % 4294967296 ≡ t
add_none t h = omega arith

-- a tape of greater has five words, and only words 0 and 1 come from what desk one entered
greater-partner : (tape : List ℕ) → Tape (gates_of (bytes_of greater_circuit)) tape
    → partner (gates_of (bytes_of greater_circuit)) (inputs (7 ∷ []) (5 ∷ [])) (inputs (9 ∷ []) (5 ∷ [])) tape
    ≡ all_changed (plus 2 ∷ xor 14 ∷ unchanged ∷ unchanged ∷ unchanged ∷ []) tape
unfolding computing greater_circuit all_changed
greater-partner [] t = absurd (omega (arith, t.long))
greater-partner (a ∷ []) t = absurd (omega (arith, t.long))
greater-partner (a ∷ b ∷ []) t = absurd (omega (arith, t.long))
greater-partner (a ∷ b ∷ c ∷ []) t = absurd (omega (arith, t.long))
greater-partner (a ∷ b ∷ c ∷ d ∷ []) t = absurd (omega (arith, t.long))
greater-partner (a ∷ b ∷ c ∷ d ∷ e ∷ []) t = rw (add_none c (t.words 2), xor_zero_r d, xor_zero_r e)
greater-partner (a ∷ b ∷ c ∷ d ∷ e ∷ f ∷ more) t = absurd (omega (arith, t.long))

-- so partner tapes differ by + 2 in word 0 and by xor 14 in word 1, whatever the tape
greater-differs : DiffersBy greater_of_7_or_9
unfolding compiling greater_of_7_or_9 greater greater_circuit
greater-differs = record { compiled = refl; partnered = greater-partner }

-- The million. Its program: two declarations, in a loop, in a loop.
abbrev declarations : Stmt
declarations = then 2 (declare 0 2 uint 0) (declare 1 3 uint 0)

abbrev inner : Stmt
inner = loop 3 1 declarations 0 332

abbrev outer : Stmt
outer = loop 4 0 inner 0 998

-- what is run is that program, with no secret row
million-run : run_of (bytes_of million) ≡ run (has []) outer start
unfolding checking run_of million
million-run = refl

-- the declarations add two steps; so the inner loop adds 1 + 333 * 3, and the outer one 1 + 999 * 1001
declarations_steps : (s : State) → (run (has []) declarations s).steps ≡ s.steps + 2
unfolding compiling
declarations_steps s = omega arith

inner_steps : (s : State) → (run (has []) inner s).steps ≡ s.steps + 1000
inner_steps = loop_steps (has []) 1 declarations 2 declarations_steps 3 0 332

outer_steps : (run (has []) outer start).steps ≡ 1000000
unfolding start
outer_steps = loop_steps (has []) 0 inner 1000 inner_steps 4 0 998 start

-- the declarations are public and make no gate and no wire; so the loops make none
abbrev made : State → List Gate × ℕ
made s = (s.gates, s.wires)

declarations-made : (s : State) → made (run (has []) declarations s) ≡ made s
unfolding compiling
declarations-made s = refl

inner_made : (s : State) → made (run (has []) inner s) ≡ made s
unfolding stepped put
inner_made = loop_keeps (has []) 1 declarations made (λ s. refl) (λ i v s. refl) declarations-made 3 0 332

outer-made : made (run (has []) outer start) ≡ ([], 0)
unfolding stepped put start
outer-made = loop_keeps (has []) 0 inner made (λ s. refl) (λ i v s. refl) inner_made 4 0 998 start

-- so the run of the million ends with no gate, no wire and 1,000,000 steps
million_gates : (run_of (bytes_of million)).gates ≡ []
million_gates = ap (λ s. s.gates) million-run ∙ ap (λ m. m.0) outer-made

million-wires : (run_of (bytes_of million)).wires ≡ 0
million-wires = ap (λ s. s.wires) million-run ∙ ap (λ m. m.1) outer-made

million_steps : (run_of (bytes_of million)).steps ≡ 1000000
million_steps = ap (λ s. s.steps) million-run ∙ outer_steps

-- a table is accepted, with its run, where no check finds a failing place
built-run : (t : List ℕ) → failing1 t ≡ [] → failing2 t ≡ [] → failing3 t ≡ [] → failing4 t ≡ [] → failing5 t ≡ []
    → failing6 t ≡ [] → failing7 t ≡ [] → failing8 t ≡ [] → failing9 t ≡ [] → failing10 t ≡ [] → built t ≡ accepted (run_of t)
unfolding checked built unless and_then
built-run t h1 h2 h3 h4 h5 h6 h7 h8 h9 h10 = rw (h1, h2, h3, h4, h5, h6, h7, h8, h9, h10)

-- of the million's checks 1 to 8 compute, and 9 and 10 compare with its counts
million_9 : failing9 (bytes_of million) ≡ []
unfolding failing9 fault
million_9 = rw million_steps

million_10 : failing10 (bytes_of million) ≡ []
unfolding failing10 fault
million_10 = rw million_gates

million-built : built (bytes_of million) ≡ accepted (run_of (bytes_of million))
unfolding checking million
million-built = built-run (bytes_of million) refl refl refl refl refl refl refl refl million_9 million_10

-- it needs no memory for its circuit
million-compile : compile (bytes_of million) [] ≡ accepted (run_of (bytes_of million))
unfolding compile and_then unless failing11 circuit_words words fault
million-compile = rw (million-built, million_gates)

-- so it is accepted, with those counts
million_holds : Holds (compiles million (compiled_with 0 0 1000000))
unfolding compile_answer
million_holds = rw (million-compile, million_gates, million-wires, million_steps)

-- the listings of the texts
sum_prints : Holds (prints sum_text sum_listing)
unfolding printing sum_text sum_listing
sum_prints = refl

open_prints : Holds (prints open_text open_listing)
unfolding printing open_text open_listing
open_prints = refl

-- Every case marked P holds, in the list's order.
pub all_hold : AllHold cases
unfolding compiling cases sum written shown written_next shown_next array idle twice greater
all_hold =
    refl  -- sum, compiled
    and sum-gives
    and refl  -- no words
    and refl  -- index the loop's name, 0 to 3: a write
    and refl  -- and a read
    and refl  -- 0 to 4: a write
    and refl  -- and a read
    and refl  -- index name + 1, 0 to 2: a write
    and refl  -- and a read
    and refl  -- 0 to 3: a write
    and refl  -- and a read
    and refl  -- length 64
    and refl  -- length 65
    and refl  -- loop 5 to 4
    and refl  -- s, for 1 to 2
    and refl  -- greater, compiled
    and greater_pairs
    and greater-differs
    and million_holds
    and tt

-- The listings are as printed.
pub listings_hold : AllHold listings
unfolding listings
listings_hold = sum_prints and open_prints and tt

-- No likely slip is made.
pub slips_hold : AllHold slips
unfolding compiling slips index_late guard_late idle_unknown idle_secret cond_true cond_input sum
slips_hold =
    refl  -- a late secret as an index
    and refl  -- and as a guard
    and refl  -- dead code with an unknown name
    and refl  -- dead code with a secret
    and refl  -- a public cond
    and refl  -- a secret cond
    and (refl, refl)  -- sum, lent a byte too few
    and tt
