-- Document 01, "Both sides of each line": the cases marked P, as one list under one statement, of tables' bytes. After them
-- case sum of "Text" and the "Likely slips", under the same statement.
use Rattle.std.specs.Prelude.{ℕ, ◌+◌, ◌*◌, ◌%◌, ◌^◌, ◌≡◌, List, [], ◌∷◌, ◌++◌, length, replicate}
use Rattle.std.specs.Int.Bits.{bit_xor}
use Rattle.words.specs.Words.{bytes_of}
use Rattle.rules.specs.Plain.{inputs}
use Rattle.rules.specs.Shares.{Tape, partner}
use Rattle.rules.specs.Answers.{Compiled, compile_answer, compile_leaves, gates_of, Lent, Evaluated, evaluate_answer}
use Rattle.rules.specs.Answers.{leaves_one, leaves_two, leaves_outs, direct_answer, direct_leaves, printed}
use Rattle.rules.specs.Ascii.{ascii, lines}

-- An evaluation, in words: a table and its circuit, the desks' inputs and the tape; and what it is to give, the answer, the
-- desks' shares and the outputs.
pub record Example : Type 0 where
  pub table : List ℕ
  pub circuit : List ℕ
  pub inputs1 : List ℕ
  pub inputs2 : List ℕ
  pub tape : List ℕ
  pub answer : Evaluated
  pub one : List ℕ
  pub two : List ℕ
  pub outs : List ℕ

-- how a tape's partner differs from it in a word
pub data Change : Type 0 where
  unchanged : Change
  plus xor : ℕ → Change

-- a table and its circuit, the inputs of desk one and other ones, those of desk two; and how any tape's partner differs from
-- it, word by word
pub record Differing : Type 0 where
  pub table : List ℕ
  pub circuit : List ℕ
  pub inputs1 : List ℕ
  pub others1 : List ℕ
  pub inputs2 : List ℕ
  pub changes : List Change

-- compiles: a table, and what compile answers. spares: a table, the bytes lent for its circuit, and what compile answers; it
-- leaves those bytes as they are. evaluates: an evaluation. pairs: two of them, which look the same to desk two. differ: how
-- tapes differ from their partners. prints: a table's text, and what the printing program prints
pub data Case : Type 0 where
  compiles : List ℕ → Compiled → Case
  spares : List ℕ → List ℕ → Compiled → Case
  evaluates : Example → Case
  pairs : Example → Example → Case
  differ : Differing → Case
  prints : List ℕ → List ℕ → Case

-- memory for n words and no more
abbrev pub room : ℕ → List ℕ
room n = replicate (4 * n) 0

-- an evaluation's arguments in bytes, with memory for just the words that it gives
abbrev pub lent : Example → Lent
lent e = record {
  circuit = bytes_of e.circuit;
  inputs1 = bytes_of e.inputs1;
  inputs2 = bytes_of e.inputs2;
  tape = bytes_of e.tape;
  shares1 = room (length e.one);
  shares2 = room (length e.two);
  outputs = room (length e.outs);
}

-- the table compiles to the circuit, the circuit evaluates to what is to be given, and so does the table, read directly
pub record Gives (e : Example) : Type 0 where
  pub compiled : compile_leaves (bytes_of e.table) (room (length e.circuit)) ≡ bytes_of e.circuit
  pub answered : evaluate_answer (lent e) ≡ e.answer
  pub desk_one : leaves_one (lent e) ≡ bytes_of e.one
  pub desk_two : leaves_two (lent e) ≡ bytes_of e.two
  pub put_out : leaves_outs (lent e) ≡ bytes_of e.outs
  pub read : direct_answer (bytes_of e.table) (lent e).inputs1 (lent e).inputs2 (lent e).outputs ≡ e.answer
  pub read_out : direct_leaves (bytes_of e.table) (lent e).inputs1 (lent e).inputs2 (lent e).outputs ≡ bytes_of e.outs

-- one circuit and one set of desk two's inputs; the second tape is the first one's partner; desk two's shares are the same
pub record Pairs (e f : Example) : Type 0 where
  pub first : Gives e
  pub second : Gives f
  pub one_circuit : e.circuit ≡ f.circuit
  pub one_desk_two : e.inputs2 ≡ f.inputs2
  pub partnered : partner (gates_of (lent e).circuit) (inputs e.inputs1 e.inputs2) (inputs f.inputs1 f.inputs2) e.tape ≡ f.tape
  pub alike : e.two ≡ f.two

-- a word with a change: wrapped at 2^32 where something is added
abbrev pub changed : Change → ℕ → ℕ
changed unchanged t = t
changed (plus n) t = (t + n) % 2 ^ 32
changed (xor n) t = bit_xor t n

-- a tape with a change to each word
unfoldable pub all_changed : List Change → List ℕ → List ℕ
all_changed [] ts = []
all_changed (c ∷ cs) [] = []
all_changed (c ∷ cs) (t ∷ ts) = changed c t ∷ all_changed cs ts

-- the table compiles to the circuit, and the partner of any of its tapes differs as said
pub record DiffersBy (d : Differing) : Type 0 where
  pub compiled : compile_leaves (bytes_of d.table) (room (length d.circuit)) ≡ bytes_of d.circuit
  pub partnered : (tape : List ℕ) → Tape (gates_of (bytes_of d.circuit)) tape
      → partner (gates_of (bytes_of d.circuit)) (inputs d.inputs1 d.inputs2) (inputs d.others1 d.inputs2) tape
      ≡ all_changed d.changes tape

-- A case holds. For its circuit compile is lent memory for just its gates, five words each; where it refuses, none.
abbrev pub Holds : Case → Type 0
Holds (compiles table c) = compile_answer (bytes_of table) (room (5 * c.gates)) ≡ c
Holds (spares table circuit c) = (compile_answer (bytes_of table) circuit ≡ c) × (compile_leaves (bytes_of table) circuit ≡ circuit)
Holds (evaluates e) = Gives e
Holds (pairs e f) = Pairs e f
Holds (differ d) = DiffersBy d
Holds (prints text listing) = printed text ≡ listing

-- the one statement of a list of cases
abbrev pub AllHold : List Case → Type 0
AllHold [] = Unit {0}
AllHold (c ∷ cs) = Holds c × AllHold cs

-- Answers: accepted by compile with these gates, wires and steps; refused with a number at a place; evaluated with these
-- wires and outputs.
abbrev pub compiled_with : ℕ → ℕ → ℕ → Compiled
compiled_with g w s = record { number = 0; place = 0; gates = g; wires = w; steps = s }

abbrev pub refused_with : ℕ → ℕ → Compiled
refused_with k p = record { number = k; place = p; gates = 0; wires = 0; steps = 0 }

abbrev pub evaluated_with : ℕ → ℕ → Evaluated
evaluated_with w o = record { number = 0; place = 0; wires = w; outputs = o }

-- The tables of the cases, a row to a line. Sum.
unfoldable pub sum : List ℕ
sum =
    8 ∷ 0 ∷ 1 ∷ 0  -- 0: desk one's input 0, a uint
    ∷ 8 ∷ 0 ∷ 2 ∷ 0  -- 1: desk two's input 0, a uint
    ∷ 4 ∷ 0 ∷ 1 ∷ 0  -- 2: row 0 + row 1
    ∷ 21 ∷ 2 ∷ 0 ∷ 0  -- 3: out of row 2
    ∷ []

-- An array of 4 (name 0), written in a loop from 0 on, the index the loop's name (name 1).
unfoldable pub written : ℕ → List ℕ
written last =
    16 ∷ 0 ∷ 0 ∷ 4  -- 0: declare name 0, uints, length 4
    ∷ 3 ∷ 1 ∷ 0 ∷ 0  -- 1: name 1
    ∷ 1 ∷ 7 ∷ 0 ∷ 0  -- 2: 7
    ∷ 19 ∷ 0 ∷ 1 ∷ 2  -- 3: write name 0 at row 1, row 2
    ∷ 18 ∷ 1 ∷ 3 ∷ last  -- 4: for name 1 from 0 to last, row 3
    ∷ 22 ∷ 0 ∷ 4 ∷ 0  -- 5: row 0 then row 4
    ∷ []

-- The same, read.
unfoldable pub shown : ℕ → List ℕ
shown last =
    16 ∷ 0 ∷ 0 ∷ 4  -- 0: declare name 0, uints, length 4
    ∷ 3 ∷ 1 ∷ 0 ∷ 0  -- 1: name 1
    ∷ 7 ∷ 0 ∷ 1 ∷ 0  -- 2: element of name 0 at row 1
    ∷ 21 ∷ 2 ∷ 0 ∷ 0  -- 3: out of row 2
    ∷ 18 ∷ 1 ∷ 3 ∷ last  -- 4: for name 1 from 0 to last, row 3
    ∷ 22 ∷ 0 ∷ 4 ∷ 0  -- 5: row 0 then row 4
    ∷ []

-- An array of 4 (name 0), written in a loop from 0 on, the index the loop's name (name 1) + 1.
unfoldable pub written_next : ℕ → List ℕ
written_next last =
    16 ∷ 0 ∷ 0 ∷ 4  -- 0: declare name 0, uints, length 4
    ∷ 3 ∷ 1 ∷ 0 ∷ 0  -- 1: name 1
    ∷ 1 ∷ 1 ∷ 0 ∷ 0  -- 2: 1
    ∷ 4 ∷ 1 ∷ 2 ∷ 0  -- 3: row 1 + row 2
    ∷ 1 ∷ 7 ∷ 0 ∷ 0  -- 4: 7
    ∷ 19 ∷ 0 ∷ 3 ∷ 4  -- 5: write name 0 at row 3, row 4
    ∷ 18 ∷ 1 ∷ 5 ∷ last  -- 6: for name 1 from 0 to last, row 5
    ∷ 22 ∷ 0 ∷ 6 ∷ 0  -- 7: row 0 then row 6
    ∷ []

-- The same, read.
unfoldable pub shown_next : ℕ → List ℕ
shown_next last =
    16 ∷ 0 ∷ 0 ∷ 4  -- 0: declare name 0, uints, length 4
    ∷ 3 ∷ 1 ∷ 0 ∷ 0  -- 1: name 1
    ∷ 1 ∷ 1 ∷ 0 ∷ 0  -- 2: 1
    ∷ 4 ∷ 1 ∷ 2 ∷ 0  -- 3: row 1 + row 2
    ∷ 7 ∷ 0 ∷ 3 ∷ 0  -- 4: element of name 0 at row 3
    ∷ 21 ∷ 4 ∷ 0 ∷ 0  -- 5: out of row 4
    ∷ 18 ∷ 1 ∷ 5 ∷ last  -- 6: for name 1 from 0 to last, row 5
    ∷ 22 ∷ 0 ∷ 6 ∷ 0  -- 7: row 0 then row 6
    ∷ []

-- An array of this length.
unfoldable pub array : ℕ → List ℕ
array n =
    16 ∷ 0 ∷ 0 ∷ n  -- 0: declare name 0, uints, length n
    ∷ []

-- A loop 5 to 4.
unfoldable pub idle : List ℕ
idle =
    16 ∷ 1 ∷ 0 ∷ 0  -- 0: declare name 1, a uint
    ∷ 18 ∷ 0 ∷ 0 ∷ 327684  -- 1: for name 0 from 5 to 4, row 0
    ∷ []

-- Declare s (name 0), for 1 to 2 assign s + desk one's input 0, out s.
unfoldable pub twice : List ℕ
twice =
    16 ∷ 0 ∷ 0 ∷ 0  -- 0: declare name 0, a uint
    ∷ 3 ∷ 0 ∷ 0 ∷ 0  -- 1: name 0
    ∷ 8 ∷ 0 ∷ 1 ∷ 0  -- 2: desk one's input 0, a uint
    ∷ 4 ∷ 1 ∷ 2 ∷ 0  -- 3: row 1 + row 2
    ∷ 17 ∷ 0 ∷ 3 ∷ 0  -- 4: assign name 0 row 3
    ∷ 18 ∷ 1 ∷ 4 ∷ 65538  -- 5: for name 1 from 1 to 2, row 4
    ∷ 3 ∷ 0 ∷ 0 ∷ 0  -- 6: name 0
    ∷ 21 ∷ 6 ∷ 0 ∷ 0  -- 7: out of row 6
    ∷ 22 ∷ 5 ∷ 7 ∷ 0  -- 8: row 5 then row 7
    ∷ 22 ∷ 0 ∷ 8 ∷ 0  -- 9: row 0 then row 8
    ∷ []

-- Out of (desk one's input > desk two's).
unfoldable pub greater : List ℕ
greater =
    8 ∷ 0 ∷ 1 ∷ 0  -- 0: desk one's input 0, a uint
    ∷ 8 ∷ 0 ∷ 2 ∷ 0  -- 1: desk two's input 0, a uint
    ∷ 6 ∷ 0 ∷ 1 ∷ 0  -- 2: row 0 > row 1
    ∷ 21 ∷ 2 ∷ 0 ∷ 0  -- 3: out of row 2
    ∷ []

-- A loop 0 to 332 holding two declarations, in a loop 0 to 998.
unfoldable pub million : List ℕ
million =
    16 ∷ 2 ∷ 0 ∷ 0  -- 0: declare name 2, a uint
    ∷ 16 ∷ 3 ∷ 0 ∷ 0  -- 1: declare name 3, a uint
    ∷ 22 ∷ 0 ∷ 1 ∷ 0  -- 2: row 0 then row 1
    ∷ 18 ∷ 1 ∷ 2 ∷ 332  -- 3: for name 1 from 0 to 332, row 2
    ∷ 18 ∷ 0 ∷ 3 ∷ 998  -- 4: for name 0 from 0 to 998, row 3
    ∷ []

-- The circuits of the cases, a gate to a line. Of sum, as document 01 prints it.
unfoldable pub sum_circuit : List ℕ
sum_circuit =
    6 ∷ 1 ∷ 0 ∷ 1 ∷ 0  -- desk one's input 0, sort 1, is wire 0
    ∷ 6 ∷ 2 ∷ 0 ∷ 1 ∷ 1  -- desk two's input 0, sort 1, is wire 1
    ∷ 1 ∷ 0 ∷ 1 ∷ 2 ∷ 0  -- wire 0 + wire 1 is wire 2
    ∷ 7 ∷ 2 ∷ 0 ∷ 0 ∷ 0  -- out of wire 2
    ∷ []

-- Of greater.
unfoldable pub greater_circuit : List ℕ
greater_circuit =
    6 ∷ 1 ∷ 0 ∷ 1 ∷ 0  -- desk one's input 0, sort 1, is wire 0
    ∷ 5 ∷ 0 ∷ 2 ∷ 1 ∷ 0  -- wire 0 at sort 2 is wire 1
    ∷ 6 ∷ 2 ∷ 0 ∷ 1 ∷ 2  -- desk two's input 0, sort 1, is wire 2
    ∷ 5 ∷ 2 ∷ 2 ∷ 3 ∷ 0  -- wire 2 at sort 2 is wire 3
    ∷ 3 ∷ 1 ∷ 3 ∷ 4 ∷ 0  -- wire 1 > wire 3 is wire 4
    ∷ 7 ∷ 4 ∷ 0 ∷ 0 ∷ 0  -- out of wire 4
    ∷ []

-- The evaluations of the cases. Sum: inputs 7 and 5, tape 10, 20, 30.
unfoldable pub sum_of_7_and_5 : Example
sum_of_7_and_5 = record {
  table = sum;
  circuit = sum_circuit;
  inputs1 = 7 ∷ [];
  inputs2 = 5 ∷ [];
  tape = 10 ∷ 20 ∷ 30 ∷ [];
  answer = evaluated_with 3 1;
  one = 10 ∷ 20 ∷ 30 ∷ [];
  two = 4294967293 ∷ 4294967281 ∷ 4294967278 ∷ [];
  outs = 12 ∷ [];
}

-- Greater: 7 against 5.
unfoldable pub greater_of_7_and_5 : Example
greater_of_7_and_5 = record {
  table = greater;
  circuit = greater_circuit;
  inputs1 = 7 ∷ [];
  inputs2 = 5 ∷ [];
  tape = 10 ∷ 4294967295 ∷ 30 ∷ 40 ∷ 51 ∷ [];
  answer = evaluated_with 5 1;
  one = 10 ∷ 4294967295 ∷ 30 ∷ 40 ∷ 1 ∷ [];
  two = 4294967293 ∷ 4294967288 ∷ 4294967271 ∷ 45 ∷ 0 ∷ [];
  outs = 1 ∷ [];
}

-- Greater: 9 against 5, with the partner tape; desk two's shares are as with 7.
unfoldable pub greater_of_9_and_5 : Example
greater_of_9_and_5 = record {
  table = greater;
  circuit = greater_circuit;
  inputs1 = 9 ∷ [];
  inputs2 = 5 ∷ [];
  tape = 12 ∷ 4294967281 ∷ 30 ∷ 40 ∷ 51 ∷ [];
  answer = evaluated_with 5 1;
  one = 12 ∷ 4294967281 ∷ 30 ∷ 40 ∷ 1 ∷ [];
  two = 4294967293 ∷ 4294967288 ∷ 4294967271 ∷ 45 ∷ 0 ∷ [];
  outs = 1 ∷ [];
}

-- Greater: 7 or 9 against 5, with any tape.
unfoldable pub greater_of_7_or_9 : Differing
greater_of_7_or_9 = record {
  table = greater;
  circuit = greater_circuit;
  inputs1 = 7 ∷ [];
  others1 = 9 ∷ [];
  inputs2 = 5 ∷ [];
  changes = plus 2 ∷ xor 14 ∷ unchanged ∷ unchanged ∷ unchanged ∷ [];
}

-- Case sum of the section "Text": a table's text, and its listing.
unfoldable pub sum_text : List ℕ
sum_text =
    lines
    ("00000008 00000000 00000001 00000000"
    ∷ "00000008 00000000 00000002 00000000"
    ∷ "00000004 00000000 00000001 00000000"
    ∷ "00000015 00000002 00000000 00000000"
    ∷ [])

unfoldable pub sum_listing : List ℕ
sum_listing =
    lines
    ("00000000 00000000 00000004"
    ∷ "00000006 00000001 00000000 00000001 00000000"
    ∷ "00000006 00000002 00000000 00000001 00000001"
    ∷ "00000001 00000000 00000001 00000002 00000000"
    ∷ "00000007 00000002 00000000 00000000 00000000"
    ∷ [])

-- A text whose second line has no LF, and what is printed: 12 at line 1.
unfoldable pub open_text : List ℕ
open_text = lines ("00000002 00000001 00000000 00000000" ∷ []) ++ ascii "00000015 00000000 00000000 00000000"

unfoldable pub open_listing : List ℕ
open_listing = lines ("0000000c 00000001 00000000" ∷ [])

-- The cases marked P.
unfoldable pub cases : List Case
cases =
    -- sum: 4 gates
    compiles sum (compiled_with 4 3 1)
    -- sum: inputs 7 and 5, tape 10, 20, 30: desk one 10, 20, 30; desk two 4294967293, 4294967281, 4294967278; output 12
    ∷ evaluates sum_of_7_and_5
    -- no words: 1
    ∷ compiles [] (refused_with 1 0)
    -- array of 4, loop 0 to 3, index the loop's name: accepted (of a write, then of a read; so below)
    ∷ compiles (written 3) (compiled_with 0 0 10)
    ∷ compiles (shown 3) (compiled_with 8 4 10)
    -- 0 to 4: 8
    ∷ compiles (written 4) (refused_with 8 3)
    ∷ compiles (shown 4) (refused_with 8 2)
    -- index name + 1: 0 to 2 accepted
    ∷ compiles (written_next 2) (compiled_with 0 0 8)
    ∷ compiles (shown_next 2) (compiled_with 6 3 8)
    -- 0 to 3: 8
    ∷ compiles (written_next 3) (refused_with 8 5)
    ∷ compiles (shown_next 3) (refused_with 8 4)
    -- length 64 accepted
    ∷ compiles (array 64) (compiled_with 0 0 1)
    -- 65: 2
    ∷ compiles (array 65) (refused_with 2 0)
    -- loop 5 to 4: one step
    ∷ compiles idle (compiled_with 0 0 1)
    -- declare s, for 1 to 2 assign s + desk one's input 0, out s: 6 gates, 5 wires, 7 steps
    ∷ compiles twice (compiled_with 6 5 7)
    -- out of (desk one's input > desk two's): 6 gates, 5 wires
    ∷ compiles greater (compiled_with 6 5 1)
    -- with 7 or 9 against 5, partner tapes differ by +2 in word 0 and by xor 14 in word 1
    ∷ pairs greater_of_7_and_5 greater_of_9_and_5
    ∷ differ greater_of_7_or_9
    -- loop 0 to 332 holding two declarations, in a loop 0 to 998: 1,000,000 steps, accepted
    ∷ compiles million (compiled_with 0 0 1000000)
    ∷ []

-- Case sum of the section "Text", printed; and a text whose last LF is missing.
unfoldable pub listings : List Case
listings = prints sum_text sum_listing ∷ prints open_text open_listing ∷ []

-- The tables of the likely slips. A loop 5 to 4 that assigns to a name that is nowhere declared.
unfoldable pub idle_unknown : List ℕ
idle_unknown =
    1 ∷ 7 ∷ 0 ∷ 0  -- 0: 7
    ∷ 17 ∷ 1 ∷ 0 ∷ 0  -- 1: assign name 1 row 0
    ∷ 18 ∷ 0 ∷ 1 ∷ 327684  -- 2: for name 0 from 5 to 4, row 1
    ∷ []

-- A loop 5 to 4 that assigns an input to name 0, then an if with name 0 as its guard.
unfoldable pub idle_secret : List ℕ
idle_secret =
    16 ∷ 0 ∷ 1 ∷ 0  -- 0: declare name 0, a bool
    ∷ 8 ∷ 1 ∷ 1 ∷ 0  -- 1: desk one's input 0, a bool
    ∷ 17 ∷ 0 ∷ 1 ∷ 0  -- 2: assign name 0 row 1
    ∷ 18 ∷ 1 ∷ 2 ∷ 327684  -- 3: for name 1 from 5 to 4, row 2
    ∷ 3 ∷ 0 ∷ 0 ∷ 0  -- 4: name 0
    ∷ 1 ∷ 7 ∷ 0 ∷ 0  -- 5: 7
    ∷ 21 ∷ 5 ∷ 0 ∷ 0  -- 6: out of row 5
    ∷ 1 ∷ 8 ∷ 0 ∷ 0  -- 7: 8
    ∷ 21 ∷ 7 ∷ 0 ∷ 0  -- 8: out of row 7
    ∷ 20 ∷ 4 ∷ 6 ∷ 8  -- 9: if row 4, row 6, else row 8
    ∷ 22 ∷ 3 ∷ 9 ∷ 0  -- 10: row 3 then row 9
    ∷ 22 ∷ 0 ∷ 10 ∷ 0  -- 11: row 0 then row 10
    ∷ []

-- "a := b; b := input" (names 1 and 2) in a loop, then an element with index a.
unfoldable pub index_late : List ℕ
index_late =
    16 ∷ 0 ∷ 0 ∷ 4  -- 0: declare name 0, uints, length 4
    ∷ 16 ∷ 1 ∷ 0 ∷ 0  -- 1: declare name 1, a uint
    ∷ 16 ∷ 2 ∷ 0 ∷ 0  -- 2: declare name 2, a uint
    ∷ 3 ∷ 2 ∷ 0 ∷ 0  -- 3: name 2
    ∷ 17 ∷ 1 ∷ 3 ∷ 0  -- 4: assign name 1 row 3
    ∷ 8 ∷ 0 ∷ 1 ∷ 0  -- 5: desk one's input 0, a uint
    ∷ 17 ∷ 2 ∷ 5 ∷ 0  -- 6: assign name 2 row 5
    ∷ 22 ∷ 4 ∷ 6 ∷ 0  -- 7: row 4 then row 6
    ∷ 18 ∷ 3 ∷ 7 ∷ 1  -- 8: for name 3 from 0 to 1, row 7
    ∷ 3 ∷ 1 ∷ 0 ∷ 0  -- 9: name 1
    ∷ 7 ∷ 0 ∷ 9 ∷ 0  -- 10: element of name 0 at row 9
    ∷ 21 ∷ 10 ∷ 0 ∷ 0  -- 11: out of row 10
    ∷ 22 ∷ 8 ∷ 11 ∷ 0  -- 12: row 8 then row 11
    ∷ 22 ∷ 2 ∷ 12 ∷ 0  -- 13: row 2 then row 12
    ∷ 22 ∷ 1 ∷ 13 ∷ 0  -- 14: row 1 then row 13
    ∷ 22 ∷ 0 ∷ 14 ∷ 0  -- 15: row 0 then row 14
    ∷ []

-- "a := b; b := input" (names 0 and 1) in a loop, then an if with guard a.
unfoldable pub guard_late : List ℕ
guard_late =
    16 ∷ 0 ∷ 1 ∷ 0  -- 0: declare name 0, a bool
    ∷ 16 ∷ 1 ∷ 1 ∷ 0  -- 1: declare name 1, a bool
    ∷ 3 ∷ 1 ∷ 0 ∷ 0  -- 2: name 1
    ∷ 17 ∷ 0 ∷ 2 ∷ 0  -- 3: assign name 0 row 2
    ∷ 8 ∷ 1 ∷ 1 ∷ 0  -- 4: desk one's input 0, a bool
    ∷ 17 ∷ 1 ∷ 4 ∷ 0  -- 5: assign name 1 row 4
    ∷ 22 ∷ 3 ∷ 5 ∷ 0  -- 6: row 3 then row 5
    ∷ 18 ∷ 2 ∷ 6 ∷ 1  -- 7: for name 2 from 0 to 1, row 6
    ∷ 3 ∷ 0 ∷ 0 ∷ 0  -- 8: name 0
    ∷ 1 ∷ 7 ∷ 0 ∷ 0  -- 9: 7
    ∷ 21 ∷ 9 ∷ 0 ∷ 0  -- 10: out of row 9
    ∷ 1 ∷ 8 ∷ 0 ∷ 0  -- 11: 8
    ∷ 21 ∷ 11 ∷ 0 ∷ 0  -- 12: out of row 11
    ∷ 20 ∷ 8 ∷ 10 ∷ 12  -- 13: if row 8, row 10, else row 12
    ∷ 22 ∷ 7 ∷ 13 ∷ 0  -- 14: row 7 then row 13
    ∷ 22 ∷ 1 ∷ 14 ∷ 0  -- 15: row 1 then row 14
    ∷ 22 ∷ 0 ∷ 15 ∷ 0  -- 16: row 0 then row 15
    ∷ []

-- Out of a cond with guard true, between desk one's input and desk two's.
unfoldable pub cond_true : List ℕ
cond_true =
    2 ∷ 1 ∷ 0 ∷ 0  -- 0: true
    ∷ 8 ∷ 0 ∷ 1 ∷ 0  -- 1: desk one's input 0, a uint
    ∷ 8 ∷ 0 ∷ 2 ∷ 0  -- 2: desk two's input 0, a uint
    ∷ 5 ∷ 0 ∷ 1 ∷ 2  -- 3: row 1 if row 0, else row 2
    ∷ 21 ∷ 3 ∷ 0 ∷ 0  -- 4: out of row 3
    ∷ []

-- Out of a cond with an input as its guard, between desk one's next input and desk two's.
unfoldable pub cond_input : List ℕ
cond_input =
    8 ∷ 1 ∷ 1 ∷ 0  -- 0: desk one's input 0, a bool
    ∷ 8 ∷ 0 ∷ 1 ∷ 1  -- 1: desk one's input 1, a uint
    ∷ 8 ∷ 0 ∷ 2 ∷ 0  -- 2: desk two's input 0, a uint
    ∷ 5 ∷ 0 ∷ 1 ∷ 2  -- 3: row 1 if row 0, else row 2
    ∷ 21 ∷ 3 ∷ 0 ∷ 0  -- 4: out of row 3
    ∷ []

-- The likely slips.
unfoldable pub slips : List Case
slips =
    -- one pass of labelling: with "a := b; b := input" in a loop, a is secret too (else the index gives 8, and the if passes)
    compiles index_late (refused_with 7 10)
    ∷ compiles guard_late (refused_with 7 13)
    -- labelling dead code as harmless: a loop 5 to 4 is still checked, and what it assigns still counts
    ∷ compiles idle_unknown (refused_with 5 1)
    ∷ compiles idle_secret (refused_with 7 9)
    -- running both arms of a public cond: only the chosen arm's input, and the out
    ∷ compiles cond_true (compiled_with 2 1 1)
    -- or one arm of a secret one: three inputs, two converts, the mux and the out
    ∷ compiles cond_input (compiled_with 7 6 1)
    -- writing gates before 11 is known: sum needs 20 words, and of their bytes the last is missing
    ∷ spares sum (replicate 79 255) (refused_with 11 0)
    ∷ []
