-- Sharing: the shares of every wire join to its plain value, so both readings have the same outputs, and neither desk's
-- shares tell two fit sets of inputs apart (demand 3). And what checks 21 and 23 say, these theorems need.
use mathlib.Core.Path.{◌≡◌, refl, sym, ap, ap₂, ◌∙◌, subst}
use Prim.Native.Nat.{ℕ, zero, suc, ◌+◌, ◌%◌, ◌<◌}
use native.Mathlib.Nat.{mod-eq_of_lt, add_assoc, add_comm, add-mod-mod, mod-add-mod}
use native.Mathlib.Omega.{arith}
use mathlib.Core.Bool.{Bool, true, false, cond}
use mathlib.Core.Option.{Option, none, some}
use mathlib.Core.List.{List, [], ◌∷◌, ◌++◌}
use lib.Bits.{bit_xor, xor_mod, xor_lt, xor_comm}
use lib.Dec.{T, ltb, leb→le}
use lib.ListN.{get_or, get_or-eq_default}
use borrow.Author.Tests.{ltb-true, ltb-false}
use Rattle.words.specs.Words.{AllWords}
use Rattle.rules.specs.Rows.{Op, add, gt}
use Rattle.rules.specs.Sorts.{Sort, arithmetic, boolean, bit, same, fits_sort, result_at, applied, arm}
use Rattle.rules.specs.Gates.{Gate, both, mux, constant, convert, entry, output, gate_words, circuit_words}
use Rattle.rules.specs.Gates.{makes, Wires, sort_made, wired, wires, AllKeep, entry_test}
use Rattle.rules.specs.Plain.{Given, value_of, Reading, noted, plain}
use Rattle.rules.specs.Shares.{minus, share_one, share_two, join, taken, tape_for, Desks, joined_at, dealt, shared, listed}
use Rattle.rules.specs.Shares.{shares_one, shares_two, partner_word, partner, Tape, Fit, Private}
use Rattle.rules.proofs.Xor.{xor_cancel, xor_back, xor_turn}
use Rattle.rules.proofs.Listed.{length-listed, get_or-listed, listed_same, listed-get_or}
use Rattle.rules.proofs.Kept.{Kept, kept_of, Next, kept_next, new_or_before}

-- One value.

-- a word that may stand on a wire of the sort
abbrev Good : Sort → ℕ → Type 0
Good m v = (v < 4294967296) × T (fits_sort m v)

-- two shares join to the value
pub join_shares : (m : Sort) (v t : ℕ) → v < 4294967296 → T (fits_sort m v) → t < 4294967296 → join m (share_one m t) (share_two m v t) ≡ v
join_shares arithmetic v t word held tape = omega arith
join_shares boolean v t word held tape = xor_comm t (bit_xor v t) ∙ xor_cancel v t
join_shares bit v t word held tape = xor_comm (t % 2) (bit_xor v (t % 2)) ∙ xor_cancel v (t % 2)

-- a share of a word is a word: desk one's,
pub share_one_word : (m : Sort) (t : ℕ) → t < 4294967296 → share_one m t < 4294967296
share_one_word arithmetic t tape = tape
share_one_word boolean t tape = tape
share_one_word bit t tape = omega arith

-- and desk two's
pub share_two_word : (m : Sort) (v t : ℕ) → v < 4294967296 → t < 4294967296 → share_two m v t < 4294967296
share_two_word arithmetic v t word tape = omega arith
share_two_word boolean v t word tape = xor_lt 32 v t word tape
share_two_word bit v t word tape = xor_lt 32 v (t % 2) word (omega arith)

-- a word's partner is a word
partner_lt : (m : Sort) (v v' t : ℕ) → v < 4294967296 → v' < 4294967296 → t < 4294967296 → partner_word m v v' t < 4294967296
partner_lt arithmetic v v' t hv hv' ht = omega arith
partner_lt boolean v v' t hv hv' ht = xor_lt 32 t (bit_xor v v') ht (xor_lt 32 v v' hv hv')
partner_lt bit v v' t hv hv' ht = xor_lt 32 t (bit_xor v v') ht (xor_lt 32 v v' hv hv')

-- the partner's partner, the other way, is the word
partner_back : (m : Sort) (v v' t : ℕ) → v < 4294967296 → v' < 4294967296 → t < 4294967296
    → partner_word m v' v (partner_word m v v' t) ≡ t
partner_back arithmetic v v' t hv hv' ht = omega arith
partner_back boolean v v' t hv hv' ht = xor_back v v' t
partner_back bit v v' t hv hv' ht = xor_back v v' t

-- a difference is the one word that, with b added, wraps to a
minus_is : (r a b : ℕ) → r < 4294967296 → b < 4294967296 → (r + b) % 4294967296 ≡ a → minus a b ≡ r
minus_is r a b hr hb e = omega arith

-- and added to b it wraps to a
minus_adds : (a b : ℕ) → a < 4294967296 → b < 4294967296 → (minus a b + b) % 4294967296 ≡ a
minus_adds a b ha hb = omega arith

-- two differences with one sum between
minus-turn : (v v' t : ℕ) → v < 4294967296 → v' < 4294967296 → t < 4294967296 → minus v' ((t + minus v' v) % 4294967296) ≡ minus v t
minus-turn v v' t hv hv' ht =
    minus_is (minus v t) v' ((t + minus v' v) % 4294967296) (omega arith) (omega arith)
    (add-mod-mod (minus v t) (t + minus v' v) 4294967296
    ∙ ap (λ (x : ℕ). x % 4294967296) (sym (add_assoc (minus v t) t (minus v' v)))
    ∙ sym (mod-add-mod (minus v t + t) 4294967296 (minus v' v))
    ∙ ap (λ (x : ℕ). (x + minus v' v) % 4294967296) (minus_adds v t hv ht)
    ∙ ap (λ (x : ℕ). x % 4294967296) (add_comm v (minus v' v))
    ∙ minus_adds v' v hv' hv)

-- the lowest bit of a bool's partner word
partner_bit : (v v' t : ℕ) → T (fits_sort bit v) → T (fits_sort bit v') → bit_xor t (bit_xor v v') % 2 ≡ bit_xor (t % 2) (bit_xor v v')
partner_bit v v' t held held' =
    xor_mod t (bit_xor v v') 1
    ∙ ap (λ (x : ℕ). bit_xor (t % 2) x) (mod-eq_of_lt (xor_lt 1 v v' (omega (arith, leb→le v 1 held)) (omega (arith, leb→le v' 1 held'))))

-- desk two gets the same of v with t as of v' with t's partner
partner_two : (m : Sort) (v v' t : ℕ) → Good m v → Good m v' → t < 4294967296 → share_two m v t ≡ share_two m v' (partner_word m v v' t)
partner_two arithmetic v v' t good good' ht = sym (minus-turn v v' t good.0 good'.0 ht)
partner_two boolean v v' t good good' ht = sym (xor_turn v v' t)
partner_two bit v v' t good good' ht =
    sym (ap (λ (x : ℕ). bit_xor v' x) (partner_bit v v' t good.1 good'.1) ∙ xor_turn v v' (t % 2))

-- The plain values.

-- an operator gives a value of its sort
applied_good : (o : Op) (a b : ℕ) → Good (result_at o) (applied o a b)
unfolding applied
applied_good add a b = (omega arith, tt)
applied_good gt a b = go (ltb b a)
  where
    go : (t : Bool) → Good bit (cond t 1 0)
    go true = (omega arith, tt)
    go false = (omega arith, tt)

-- either arm is good
arm_good : (m : Sort) (g a b : ℕ) → Good m a → Good m b → Good m (arm g a b)
unfolding arm
arm_good m zero a b good good' = good'
arm_good m (suc g) a b good good' = good

-- a gate over good values gives a good value
module _ (given : Given) (w : Wires) (value : ℕ → ℕ) (fits : (d n : ℕ) → given d n < 4294967296)
    (good : (k : ℕ) → k < w.count → Good (w.sort k) (value k)) where
  made_good : (g : Gate) → Kept w g → AllWords (gate_words g) → T (entry_test (λ d n m. fits_sort m (given d n)) (some g))
      → Good (sort_made w.sort g) (value_of given value g)
  unfolding sort_made value_of
  made_good (both o a b new) kept ws ok = applied_good o (value a) (value b)
  made_good (mux g a b new) kept ws ok =
      arm_good (w.sort a) (value g) (value a) (value b) (good a kept.1.0)
      (subst (λ (m : Sort). Good m (value b)) kept.1.2 (good b kept.1.1))
  made_good (constant v m new) kept ws ok = (ws.1.0, kept.0)
  made_good (convert x m new) kept ws ok = ((good x kept.0.0).0, kept.0.1 (value x))
  made_good (entry d n m new) kept ws ok = (fits d n, ok)
  made_good (output x) kept ws ok = good x kept

-- one gate more, over good values
good_step : (new : Option ℕ) (m : Sort) (v : ℕ) (w : Wires) (r : Reading) → Next new w.count → Good m v
    → ((k : ℕ) → k < w.count → Good (w.sort k) (r.value k))
    → (k : ℕ) → k < (wired new m w).count → Good ((wired new m w).sort k) ((noted new v r).value k)
unfolding wired noted
good_step none m v w r next good before k below = before k below
good_step (some new) m v w r next good before k below =
    new_or_before (λ t. Good (cond t m (w.sort k)) (cond t v (r.value k))) k new w.count next below (λ e. good) (before k)

-- the words of a list's first part
words_left : (xs ys : List ℕ) → AllWords (xs ++ ys) → AllWords xs
words_left [] ys ws = tt
words_left (x ∷ xs) ys ws = (ws.0, words_left xs ys ws.1)

-- and of its second
words_right : (xs ys : List ℕ) → AllWords (xs ++ ys) → AllWords ys
words_right [] ys ws = ws
words_right (x ∷ xs) ys ws = words_right xs ys ws.1

-- the words of a circuit but for its newest gate
words_before : (g : Gate) (gs : List Gate) → AllWords (circuit_words (g ∷ gs)) → AllWords (circuit_words gs)
unfolding circuit_words
words_before g gs ws = words_left (circuit_words gs) (gate_words g) ws

-- and of that gate
words_newest : (g : Gate) (gs : List Gate) → AllWords (circuit_words (g ∷ gs)) → AllWords (gate_words g)
unfolding circuit_words
words_newest g gs ws = words_right (circuit_words gs) (gate_words g) ws

-- fit inputs fit a circuit but for its newest gate
fit_before : (g : Gate) (gs : List Gate) {given : Given} → Fit (g ∷ gs) given → Fit gs given
fit_before g gs fit = record { words = fit.words; bools = fit.bools.1 }

-- every wire's value is a word, and one of its sort
pub values_fit : (gs : List Gate) → AllKeep gs → AllWords (circuit_words gs) → {given : Given} → Fit gs given
    → (k : ℕ) → k < (wires gs).count → ((plain given gs).value k < 4294967296) × T (fits_sort ((wires gs).sort k) ((plain given gs).value k))
unfolding wires plain
values_fit [] keep ws fit = λ k below. absurd (omega arith)
values_fit (g ∷ gs) keep ws {given} fit =
    let kept = kept_of gs g keep.0 in
    let before = values_fit gs keep.1 (words_before g gs ws) (fit_before g gs fit) in
    good_step (makes g) _ _ (wires gs) (plain given gs) (kept_next (wires gs) g kept)
    (made_good given (wires gs) (plain given gs).value fit.words before g kept (words_newest g gs ws) fit.bools.0) before

-- The shares.

-- a gate gives the same over values that are the same on the wires that stand
pub made-same : (given : Given) (w : Wires) (f g : ℕ → ℕ) → ((k : ℕ) → k < w.count → f k ≡ g k)
    → (e : Gate) → Kept w e → value_of given f e ≡ value_of given g e
unfolding value_of
made-same given w f g same (both o a b new) kept = ap₂ (applied o) (same a kept.0) (same b kept.1)
made-same given w f g same (mux c a b new) kept = rw (same c kept.0, same a kept.1.0, same b kept.1.1)
made-same given w f g same (constant v m new) kept = refl
made-same given w f g same (convert x m new) kept = same x kept.0.0
made-same given w f g same (entry d n m new) kept = refl
made-same given w f g same (output x) kept = same x kept

module _ (tape : List ℕ) where
  -- one gate more, for desk one
  one_step : (new : Option ℕ) (m : Sort) (v : ℕ) (w : Wires) (d : Desks) → Next new w.count
      → ((k : ℕ) → k < w.count → d.one k ≡ share_one (w.sort k) (taken tape k))
      → (k : ℕ) → k < (wired new m w).count → (dealt new m v tape d).one k ≡ share_one ((wired new m w).sort k) (taken tape k)
  unfolding wired dealt
  one_step none m v w d next before k below = before k below
  one_step (some new) m v w d next before k below =
      new_or_before (λ t. cond t (share_one m (taken tape new)) (d.one k) ≡ share_one (cond t m (w.sort k)) (taken tape k))
      k new w.count next below (λ e. ap (λ (x : ℕ). share_one m (taken tape x)) (sym e)) (before k)

  -- and for desk two
  two_step : (new : Option ℕ) (m : Sort) (v : ℕ) (w : Wires) (d : Desks) (r : Reading) → Next new w.count
      → ((k : ℕ) → k < w.count → d.two k ≡ share_two (w.sort k) (r.value k) (taken tape k))
      → (k : ℕ) → k < (wired new m w).count
      → (dealt new m v tape d).two k ≡ share_two ((wired new m w).sort k) ((noted new v r).value k) (taken tape k)
  unfolding wired dealt noted
  two_step none m v w d r next before k below = before k below
  two_step (some new) m v w d r next before k below =
      new_or_before
      (λ t. cond t (share_two m v (taken tape new)) (d.two k) ≡ share_two (cond t m (w.sort k)) (cond t v (r.value k)) (taken tape k))
      k new w.count next below (λ e. ap (λ (x : ℕ). share_two m v (taken tape x)) (sym e)) (before k)

-- desk one's share of a wire is its share of the tape word, whatever is given
pub one_is : (gs : List Gate) → AllKeep gs → (given : Given) (tape : List ℕ) (k : ℕ) → k < (wires gs).count
    → (shared given tape gs).one k ≡ share_one ((wires gs).sort k) (taken tape k)
unfolding wires shared
one_is [] keep given tape = λ k below. absurd (omega arith)
one_is (g ∷ gs) keep given tape =
    one_step tape (makes g) _ _ (wires gs) (shared given tape gs) (kept_next (wires gs) g (kept_of gs g keep.0))
    (one_is gs keep.1 given tape)

module _ (given : Given) (tape : List ℕ) (taped : (k : ℕ) → get_or tape k 0 < 4294967296) where
  -- desk two's share of each wire is its share of the plain value
  abbrev TwoIs : List Gate → Type 0
  TwoIs gs = (k : ℕ) → k < (wires gs).count
      → (shared given tape gs).two k ≡ share_two ((wires gs).sort k) ((plain given gs).value k) (taken tape k)

  -- then the two desks' shares join to them
  joined_is : (gs : List Gate) → AllKeep gs → AllWords (circuit_words gs) → Fit gs given → TwoIs gs
      → (k : ℕ) → k < (wires gs).count → joined_at (wires gs).sort (shared given tape gs) k ≡ (plain given gs).value k
  unfolding taken
  joined_is gs keep ws fit two k below =
      let good = values_fit gs keep ws fit k below in
      ap₂ (join ((wires gs).sort k)) (one_is gs keep given tape k below) (two k below)
      ∙ join_shares ((wires gs).sort k) ((plain given gs).value k) (get_or tape k 0) good.0 good.1 (taped k)

  -- then the next gate gives what it plainly gives
  value_is : (g : Gate) (gs : List Gate) → AllKeep (g ∷ gs) → AllWords (circuit_words (g ∷ gs)) → Fit (g ∷ gs) given → TwoIs gs
      → value_of given (joined_at (wires gs).sort (shared given tape gs)) g ≡ value_of given (plain given gs).value g
  value_is g gs keep ws fit two =
      made-same given (wires gs) (joined_at (wires gs).sort (shared given tape gs)) (plain given gs).value
      (joined_is gs keep.1 (words_before g gs ws) (fit_before g gs fit) two) g (kept_of gs g keep.0)

  -- so desk two's shares are those of the plain values, gate by gate
  pub two_is : (gs : List Gate) → AllKeep gs → AllWords (circuit_words gs) → Fit gs given → TwoIs gs
  unfolding wires shared plain
  two_is [] keep ws fit = λ k below. absurd (omega arith)
  two_is (g ∷ gs) keep ws fit =
      let before = two_is gs keep.1 (words_before g gs ws) (fit_before g gs fit) in
      let m = sort_made (wires gs).sort g in
      let v = value_of given (plain given gs).value g in
      rw (value_is g gs keep ws fit before)
      (two_step tape (makes g) m v (wires gs) (shared given tape gs) (plain given gs)
      (kept_next (wires gs) g (kept_of gs g keep.0)) before)

-- the two desks' shares of every wire join to its plain value
pub shares_join : (gs : List Gate) → AllKeep gs → AllWords (circuit_words gs) → {given : Given} → Fit gs given
    → (tape : List ℕ) → ((k : ℕ) → get_or tape k 0 < 4294967296)
    → (k : ℕ) → k < (wires gs).count → joined_at (wires gs).sort (shared given tape gs) k ≡ (plain given gs).value k
shares_join gs keep ws {given} fit tape taped = joined_is given tape taped gs keep ws fit (two_is given tape taped gs keep ws fit)

-- one gate more, for the outputs
outs_step : (new : Option ℕ) (m : Sort) (v : ℕ) (tape : List ℕ) (d : Desks) (r : Reading) → d.outs ≡ r.outs
    → (dealt new m v tape d).outs ≡ (noted new v r).outs
unfolding dealt noted
outs_step none m v tape d r before = ap (λ (l : List ℕ). v ∷ l) before
outs_step (some new) m v tape d r before = before

-- the outputs that both desks get are the plain ones
pub same_outputs : (gs : List Gate) → AllKeep gs → AllWords (circuit_words gs) → {given : Given} → Fit gs given
    → (tape : List ℕ) → ((k : ℕ) → get_or tape k 0 < 4294967296) → (shared given tape gs).outs ≡ (plain given gs).outs
unfolding shared plain
same_outputs [] keep ws fit tape taped = refl
same_outputs (g ∷ gs) keep ws {given} fit tape taped =
    let ws' = words_before g gs ws in
    let fit' = fit_before g gs fit in
    rw (value_is given tape taped g gs keep ws fit (two_is given tape taped gs keep.1 ws' fit'))
    (outs_step (makes g) (sort_made (wires gs).sort g) (value_of given (plain given gs).value g) tape
    (shared given tape gs) (plain given gs)
    (same_outputs gs keep.1 ws' fit' tape taped))

-- Demand 3.

-- words, listed: at every place a word
pub listed-words : (n : ℕ) (f : ℕ → ℕ) → ((k : ℕ) → k < n → f k < 4294967296) → (k : ℕ) → get_or (listed n f) k 0 < 4294967296
listed-words n f words k = go (ltb k n) refl
  where
    go : (t : Bool) → ltb k n ≡ t → get_or (listed n f) k 0 < 4294967296
    go true e = rw (get_or-listed n f k 0 (ltb-true k n e)) (words k (ltb-true k n e))
    go false e = rw (get_or-eq_default (listed n f) 0 {n = k} (omega (arith, length-listed n f, ltb-false k n e))) (omega arith)

-- desk one's shares do not depend on what is given
one_same : (gs : List Gate) → AllKeep gs → (given given' : Given) (tape : List ℕ) → shares_one given tape gs ≡ shares_one given' tape gs
unfolding shares_one
one_same gs keep given given' tape =
    listed_same (wires gs).count (shared given tape gs).one (shared given' tape gs).one
    (λ k below. one_is gs keep given tape k below ∙ sym (one_is gs keep given' tape k below))

-- word k of the partner of a tape
abbrev partner_at : List Gate → Given → Given → List ℕ → ℕ → ℕ
partner_at gs given given' tape k =
    partner_word ((wires gs).sort k) ((plain given gs).value k) ((plain given' gs).value k) (get_or tape k 0)

-- two fit sets of inputs of a circuit that keeps the rules
module _ (gs : List Gate) (keep : AllKeep gs) (ws : AllWords (circuit_words gs)) {given given' : Given}
    (fit : Fit gs given) (fit' : Fit gs given') (tape : List ℕ) (is : Tape gs tape) where
  -- the partner has that word there
  partner_at_lem : (k : ℕ) → k < (wires gs).count → get_or (partner gs given given' tape) k 0 ≡ partner_at gs given given' tape k
  unfolding partner tape_for taken
  partner_at_lem k below = get_or-listed (wires gs).count (partner_at gs given given' tape) k 0 below

  -- the partner of a tape is a tape
  partner_tape : Tape gs (partner gs given given' tape)
  unfolding partner tape_for taken
  partner_tape =
      record {
        long = length-listed (wires gs).count (partner_at gs given given' tape);
        words = listed-words (wires gs).count (partner_at gs given given' tape)
            (λ k below. partner_lt ((wires gs).sort k) ((plain given gs).value k) ((plain given' gs).value k) (get_or tape k 0)
            (values_fit gs keep ws fit k below).0 (values_fit gs keep ws fit' k below).0 (is.words k));
      }

  -- the partner's partner, the other way, has the tape's words
  back_at : (k : ℕ) → k < (wires gs).count → partner_at gs given' given (partner gs given given' tape) k ≡ get_or tape k 0
  back_at k below =
      ap (partner_word ((wires gs).sort k) ((plain given' gs).value k) ((plain given gs).value k)) (partner_at_lem k below)
      ∙ partner_back ((wires gs).sort k) ((plain given gs).value k) ((plain given' gs).value k) (get_or tape k 0)
      (values_fit gs keep ws fit k below).0 (values_fit gs keep ws fit' k below).0 (is.words k)

  -- so it is the tape
  partner_undone : partner gs given' given (partner gs given given' tape) ≡ tape
  unfolding partner tape_for taken
  partner_undone =
      listed_same (wires gs).count (partner_at gs given' given (partner gs given given' tape)) (λ k. get_or tape k 0) back_at
      ∙ listed-get_or (wires gs).count tape 0 is.long

  -- desk two's share of a wire is the same with the tape and with its partner
  two_at : (k : ℕ) → k < (wires gs).count → (shared given tape gs).two k ≡ (shared given' (partner gs given given' tape) gs).two k
  unfolding taken
  two_at k below =
      two_is given tape is.words gs keep ws fit k below
      ∙ partner_two ((wires gs).sort k) ((plain given gs).value k) ((plain given' gs).value k) (get_or tape k 0)
      (values_fit gs keep ws fit k below) (values_fit gs keep ws fit' k below) (is.words k)
      ∙ ap (share_two ((wires gs).sort k) ((plain given' gs).value k)) (sym (partner_at_lem k below))
      ∙ sym (two_is given' (partner gs given given' tape) partner_tape.words gs keep ws fit' k below)

  -- so desk two's shares are the same
  two_same : shares_two given tape gs ≡ shares_two given' (partner gs given given' tape) gs
  unfolding shares_two
  two_same = listed_same (wires gs).count (shared given tape gs).two (shared given' (partner gs given given' tape) gs).two two_at

-- neither desk's shares tell two fit sets of inputs apart
pub demand_three : (gs : List Gate) → AllKeep gs → AllWords (circuit_words gs) → {given given' : Given} → Fit gs given → Fit gs given'
    → Private gs given given'
demand_three gs keep ws {given} {given'} fit fit' =
    record {
      desk_one = one_same gs keep given given';
      there = partner_tape gs keep ws fit fit';
      back = partner_tape gs keep ws fit' fit;
      there_back = partner_undone gs keep ws fit fit';
      back_there = partner_undone gs keep ws fit' fit;
      joins = λ tape is. shares_join gs keep ws fit tape is.words;
      joins' = λ tape is. shares_join gs keep ws fit' tape is.words;
      desk_two = two_same gs keep ws fit fit';
    }
