-- Document 01, "Shares": what each desk gets of a value (𝓔 and 𝓓 of Figure 13), and Figure 13, in which each gate joins its
-- wires' shares and shares the result afresh. And the pairing of tapes that demand 3 speaks of.
use Rattle.std.specs.Prelude.{ℕ, zero, suc, ◌+◌, ◌-◌, ◌%◌, ◌^◌, ◌<◌, ◌≡◌, List, [], ◌∷◌, ◌++◌, T, length, get_or}
use Rattle.std.proofs.Math.Option.{Option, none, some}
use Rattle.std.specs.Int.Bits.{bit_xor}
use Rattle.rules.specs.Rows.{Wire}
use Rattle.rules.specs.Sorts.{Sort, arithmetic, boolean, bit, fits_sort}
use Rattle.rules.specs.Gates.{Gate, makes, sort_made, Wires, wires, entry_test}
use Rattle.rules.specs.Plain.{Given, value_of, but, plain}

-- a minus b, wrapped at 2^32
abbrev pub minus : ℕ → ℕ → ℕ
minus a b = (a + (2 ^ 32 - b)) % 2 ^ 32

-- desk one gets the tape word t; for a bool, t's lowest bit
abbrev pub share_one : Sort → ℕ → ℕ
share_one arithmetic t = t
share_one boolean t = t
share_one bit t = t % 2

-- desk two gets v minus t wrapped, v xor t, or v xor that bit
abbrev pub share_two : Sort → ℕ → ℕ → ℕ
share_two arithmetic v t = minus v t
share_two boolean v t = bit_xor v t
share_two bit v t = bit_xor v (t % 2)

-- the value of two shares
abbrev pub join : Sort → ℕ → ℕ → ℕ
join arithmetic a b = (a + b) % 2 ^ 32
join boolean a b = bit_xor a b
join bit a b = bit_xor a b

-- wire k uses tape word k; so many words a circuit's wires need
unfoldable pub taken : List ℕ → Wire → ℕ
taken tape k = get_or tape k 0

unfoldable pub tape_for : Wires → ℕ
tape_for w = w.count

-- Figure 12: what the desks hold of each wire; and the outputs, newest first, which both desks get
pub record Desks : Type 0 where
  pub one : Wire → ℕ
  pub two : Wire → ℕ
  pub outs : List ℕ

-- the value of a wire, joined of what the desks hold
abbrev pub joined_at : (Wire → Sort) → Desks → Wire → ℕ
joined_at sort d k = join (sort k) (d.one k) (d.two k)

-- the value v of a gate: an output, or shared afresh on the new wire, of sort m
unfoldable pub dealt : Option Wire → Sort → ℕ → List ℕ → Desks → Desks
dealt none m v tape d = record { one = d.one; two = d.two; outs = v ∷ d.outs }
dealt (some new) m v tape d = record {
  one = but new (share_one m (taken tape new)) d.one;
  two = but new (share_two m v (taken tape new)) d.two;
  outs = d.outs;
}

-- Figure 13
unfoldable pub shared : Given → List ℕ → List Gate → Desks
shared given tape [] = record { one = λ k. 0; two = λ k. 0; outs = [] }
shared given tape (g ∷ gs) =
    let d = shared given tape gs in
    dealt (makes g) (sort_made (wires gs).sort g) (value_of given (joined_at (wires gs).sort d) g) tape d

-- f 0, f 1 and so on, n of them
unfoldable pub listed : {A : Type 0} → ℕ → (ℕ → A) → List A
listed zero f = []
listed (suc n) f = listed n f ++ f n ∷ []

-- the words in the desks' share memories
unfoldable pub shares_one : Given → List ℕ → List Gate → List ℕ
shares_one given tape gs = listed (wires gs).count (shared given tape gs).one

unfoldable pub shares_two : Given → List ℕ → List Gate → List ℕ
shares_two given tape gs = listed (wires gs).count (shared given tape gs).two

-- the word with which v' is shared to desk two as v is with t
abbrev pub partner_word : Sort → ℕ → ℕ → ℕ → ℕ
partner_word arithmetic v v' t = (t + minus v' v) % 2 ^ 32
partner_word boolean v v' t = bit_xor t (bit_xor v v')
partner_word bit v v' t = bit_xor t (bit_xor v v')

-- the partner of a tape: with it the inputs given' look to desk two as the inputs given do with the tape
unfoldable pub partner : List Gate → Given → Given → List ℕ → List ℕ
partner gs given given' tape =
    listed (tape_for (wires gs)) λ k. partner_word ((wires gs).sort k) ((plain given gs).value k) ((plain given' gs).value k) (taken tape k)

-- a tape with exactly as many words as the circuit needs
pub record Tape (gs : List Gate) (tape : List ℕ) : Type 0 where
  pub long : length tape ≡ tape_for (wires gs)
  pub words : (k : ℕ) → get_or tape k 0 < 2 ^ 32

-- what fit inputs give: words, and of every bool that the circuit reads 0 or 1 (check 23; that each is there is check 22)
abbrev pub FitBools : Given → List Gate → Type 0
FitBools given [] = Unit {0}
FitBools given (g ∷ gs) = T (entry_test (λ d n m. fits_sort m (given d n)) (some g)) × FitBools given gs

pub record Fit (gs : List Gate) (given : Given) : Type 0 where
  pub words : (d n : ℕ) → given d n < 2 ^ 32
  pub bools : FitBools given gs

-- What demand 3 says of one circuit and two sets of inputs.
pub record Private (gs : List Gate) (given given' : Given) : Type 0 where
  -- desk one's shares are the same with one tape
  pub desk_one : (tape : List ℕ) → shares_one given tape gs ≡ shares_one given' tape gs
  -- the tapes pair one to one
  pub there : (tape : List ℕ) → Tape gs tape → Tape gs (partner gs given given' tape)
  pub back : (tape : List ℕ) → Tape gs tape → Tape gs (partner gs given' given tape)
  pub there_back : (tape : List ℕ) → Tape gs tape → partner gs given' given (partner gs given given' tape) ≡ tape
  pub back_there : (tape : List ℕ) → Tape gs tape → partner gs given given' (partner gs given' given tape) ≡ tape
  -- each wire's two shares join to the value that a plain reading gives
  pub joins : (tape : List ℕ) → Tape gs tape → (k : Wire) → k < (wires gs).count
      → joined_at (wires gs).sort (shared given tape gs) k ≡ (plain given gs).value k
  pub joins' : (tape : List ℕ) → Tape gs tape → (k : Wire) → k < (wires gs).count
      → joined_at (wires gs).sort (shared given' tape gs) k ≡ (plain given' gs).value k
  -- desk two's shares are the same in partners
  pub desk_two : (tape : List ℕ) → Tape gs tape → shares_two given tape gs ≡ shares_two given' (partner gs given given' tape) gs
