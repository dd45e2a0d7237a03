-- What the lent memories hold while a circuit is evaluated: nothing at first, then a word more with each gate; the wires' values
-- are read back from them.
use Prim.Native.Nat.{ℕ, suc, ◌+◌, ◌*◌, ◌^◌, ◌≤◌, ◌<◌}
use mathlib.Core.Path.{◌≡◌, refl, sym, ap, ap₂, ◌∙◌, subst}
use mathlib.Core.Bool.{cond}
use mathlib.Core.Option.{Option, none, some}
use mathlib.Core.List.{List, [], ◌∷◌, ◌++◌, reverse, reverse-cons}
use lib.Dec.{T}
use lib.ListN.{length, get_or, length-reverse}
use native.Mathlib.Omega.{arith}
use Rattle.words.specs.Words.{words, over, put_at, AllWords}
use Rattle.words.proofs.Words.{put-length, put-over, over_none, over_at, words_both}
use Rattle.rules.specs.Sorts.{Sort}
use Rattle.rules.specs.Gates.{Gate, makes, sort_made, wires, keeps_rules}
use Rattle.rules.specs.Plain.{Given, value_of, but}
use Rattle.rules.specs.Shares.{share_one, share_two, taken, joined_at, dealt, shared, listed, shares_one, shares_two}
use Rattle.rules.specs.Answers.{out_count}
use Rattle.rules.proofs.Listed.{length-listed, get_or-listed, listed_same}
use Rattle.rules.proofs.Kept.{kept_of, Next, kept_next, new_or_before}
use Rattle.rules.proofs.Circuits.{outs_of_shares}
use Rattle.rules.proofs.Earlier.{count-made, count_out, outs_made, outs_out}
use Rattle.rules.proofs.Shares.{made-same, share_one_word, share_two_word}
use Rattle.rules.proofs.Memories.{shares_one_length, shares_two_length}
use Rattle.std.proofs.lemmas.Option.{get_or_from_slice_get}
use Rattle.circuit.specs.declared.sorts.Sort as code
use Rattle.circuit.specs.Sorts.{meant_sort}
use Rattle.circuit.specs.Noted.{WiresNoted}
use Rattle.circuit.proofs.SortLaws.{sort_meant}
use Rattle.evaluate.specs.Held.{Contents, with_shares, with_output, Fresh, sort_in, joined_in, Held}

-- Words put into a memory and read back.

-- a word put after the words over a memory
put_next : (ws b now : List ℕ) (i x : ℕ) → now ≡ over ws b → i ≡ length ws → 4 * i + 4 ≤ length b → put_at now i x ≡ over (ws ++ x ∷ []) b
put_next ws b now i x is here room =
    let room' : 4 * length ws + 4 ≤ length b = omega arith in
    rw (is, here) (put-over ws b x room')

-- the values of a function, over a memory, are read back
read_over : (n : ℕ) (f : ℕ → ℕ) (b : List ℕ) → AllWords (listed n f) → (k : ℕ) → k < n → get_or (words (over (listed n f) b)) k 0 ≡ f k
read_over n f b fit k below = over_at (listed n f) b fit k (omega (arith, length-listed n f)) ∙ get_or-listed n f k 0 below

-- a function but for its value at the next place: its list is one longer
listed-but : (n new : ℕ) (x f : ℕ → ℕ) → new ≡ n → listed (suc n) (but new (x new) f) ≡ listed n f ++ x n ∷ []
unfolding listed
listed-but n new x f next =
    ap₂ (λ (l : List ℕ) (a : ℕ). l ++ a ∷ [])
    (listed_same n (but new (x new) f) f (λ k below.
    new_or_before (λ t. cond t (x new) (f k) ≡ f k) k new n next (omega arith) (λ e. absurd (omega arith)) (λ l. refl)))
    (new_or_before (λ t. cond t (x new) (f n) ≡ x n) n new n next (omega arith) (λ e. ap x next) (λ l. absurd (omega arith)))

-- The shares of one gate more.

-- a gate that keeps the rules makes the next wire
new_next : (g : Gate) (gs : List Gate) {new : ℕ} → T (keeps_rules gs g) → makes g ≡ some new → new ≡ (wires gs).count
new_next g gs ok e = subst (λ o. Next o (wires gs).count) e (kept_next (wires gs) g (kept_of gs g ok))

module _ (given : Given) (tape : List ℕ) where
  -- the value that a gate gives after others
  abbrev pub gives : Gate → List Gate → ℕ
  gives g gs = value_of given (joined_at (wires gs).sort (shared given tape gs)) g

  -- what a gate deals, by what it makes
  shared_step : (g : Gate) (gs : List Gate) {o : Option ℕ} → makes g ≡ o
      → shared given tape (g ∷ gs) ≡ dealt o (sort_made (wires gs).sort g) (gives g gs) tape (shared given tape gs)
  unfolding shared
  shared_step g gs e = ap (λ o. dealt o (sort_made (wires gs).sort g) (gives g gs) tape (shared given tape gs)) e

  -- a new wire is one share more for either desk,
  shares_made : (g : Gate) (gs : List Gate) {new : ℕ} → T (keeps_rules gs g) → makes g ≡ some new
      → (shares_one given tape (g ∷ gs) ≡ shares_one given tape gs ++ share_one (sort_made (wires gs).sort g) (taken tape (wires gs).count) ∷ [])
      × (shares_two given tape (g ∷ gs)
      ≡ shares_two given tape gs ++ share_two (sort_made (wires gs).sort g) (gives g gs) (taken tape (wires gs).count) ∷ [])
  unfolding shares_one shares_two dealt
  shares_made g gs {new} ok e =
      let next = new_next g gs ok e in
      let s = sort_made (wires gs).sort g in
      rw (count-made g gs e, shared_step g gs e) (
        listed-but (wires gs).count new (λ k. share_one s (taken tape k)) (shared given tape gs).one next,
        listed-but (wires gs).count new (λ k. share_two s (gives g gs) (taken tape k)) (shared given tape gs).two next,
      )

  -- and no output
  shared_outs_made : (g : Gate) (gs : List Gate) {new : ℕ} → makes g ≡ some new → (shared given tape (g ∷ gs)).outs ≡ (shared given tape gs).outs
  unfolding dealt
  shared_outs_made g gs e = rw (shared_step g gs e)

  -- an out leaves the shares,
  shares_out : (g : Gate) (gs : List Gate) → makes g ≡ none
      → (shares_one given tape (g ∷ gs) ≡ shares_one given tape gs) × (shares_two given tape (g ∷ gs) ≡ shares_two given tape gs)
  unfolding shares_one shares_two dealt
  shares_out g gs e = rw (count_out g gs e, shared_step g gs e) (refl, refl)

  -- and is one output more
  shared_outs_out : (g : Gate) (gs : List Gate) → makes g ≡ none
      → reverse (shared given tape (g ∷ gs)).outs ≡ reverse (shared given tape gs).outs ++ gives g gs ∷ []
  unfolding dealt
  shared_outs_out g gs e = rw (shared_step g gs e) (reverse-cons (gives g gs) (shared given tape gs).outs)

  -- as many outputs as outs
  outs_length : (gs : List Gate) → length (reverse (shared given tape gs).outs) ≡ out_count gs
  outs_length gs = length-reverse (shared given tape gs).outs ∙ outs_of_shares given tape gs

-- the sorts of the wires that gates make
abbrev pub SortsOf : List Gate → List code.Sort → Type 0
SortsOf gs sorts = (k : ℕ) → k < (wires gs).count → sort_in sorts k ≡ (wires gs).sort k

pub sorts_noted : {gs : List Gate} {sorts : List code.Sort} → WiresNoted gs (record { items = sorts }) → SortsOf gs sorts
sorts_noted {gs} {sorts} noted k below =
    ap meant_sort (get_or_from_slice_get sorts k _ _ (noted.sorts_are k below)) ∙ sort_meant ((wires gs).sort k)

-- What is held.

-- before the first gate the memories are as they were lent
pub held_none : {given : Given} {tape : List ℕ} {lent : Contents} → Fresh lent → Held given tape [] lent lent
unfolding wires out_count shares_one shares_two shared listed
held_none {lent} (no_wires, no_outs) =
    record {
      wires_so_far = no_wires;
      outs_so_far = no_outs;
      one_is = sym (over_none lent.one);
      two_is = sym (over_none lent.two);
      outs_are = sym (over_none lent.outs);
      one_words = tt;
      two_words = tt;
      one_long = refl;
      two_long = refl;
      outs_long = refl;
    }

module _ {given : Given} {tape : List ℕ} {gs : List Gate} {lent now : Contents} where
  -- after a gate that makes a wire, with its two shares put at the next place
  pub held_wire : (g : Gate) {new : ℕ} → T (keeps_rules gs g) → makes g ≡ some new → Held given tape gs lent now
      → (v : ℕ) → v < 2 ^ 32 → v ≡ gives given tape g gs → taken tape now.so_far.wires < 2 ^ 32
      → 4 * now.so_far.wires + 4 ≤ length now.one → 4 * now.so_far.wires + 4 ≤ length now.two
      → Held given tape (g ∷ gs) lent
      (with_shares now (sort_made (wires gs).sort g) v (taken tape now.so_far.wires))
  held_wire g ok e held v word is tape-word room-one room-two =
      let s : Sort = sort_made (wires gs).sort g in
      let t : ℕ = taken tape now.so_far.wires in
      let xs : List ℕ = shares_one given tape gs in
      let ys : List ℕ = shares_two given tape gs in
      let made = shares_made given tape g gs ok e in
      let ones : shares_one given tape (g ∷ gs) ≡ xs ++ share_one s t ∷ [] = rw held.wires_so_far made.0 in
      let twos : shares_two given tape (g ∷ gs) ≡ ys ++ share_two s v t ∷ [] = rw (held.wires_so_far, is) made.1 in
      let here-one : now.so_far.wires ≡ length xs = held.wires_so_far ∙ sym (shares_one_length given tape gs) in
      let here-two : now.so_far.wires ≡ length ys = held.wires_so_far ∙ sym (shares_two_length given tape gs) in
      record {
        wires_so_far = omega (arith, count-made g gs e);
        outs_so_far = held.outs_so_far ∙ sym (outs_made g gs e);
        one_is = rw ones (put_next xs lent.one now.one now.so_far.wires (share_one s t) held.one_is here-one (omega (arith, held.one_long)));
        two_is = rw twos (put_next ys lent.two now.two now.so_far.wires (share_two s v t) held.two_is here-two (omega (arith, held.two_long)));
        outs_are = rw (shared_outs_made given tape g gs e) held.outs_are;
        one_words = rw ones (words_both xs (share_one s t ∷ []) held.one_words (share_one_word s t tape-word, tt));
        two_words = rw twos (words_both ys (share_two s v t ∷ []) held.two_words (share_two_word s v t word tape-word, tt));
        one_long = put-length now.one now.so_far.wires (share_one s t) ∙ held.one_long;
        two_long = put-length now.two now.so_far.wires (share_two s v t) ∙ held.two_long;
        outs_long = held.outs_long;
      }

  -- after an out, with its value put at the next place of the outputs
  pub held_out : (g : Gate) → makes g ≡ none → Held given tape gs lent now → (v : ℕ) → v ≡ gives given tape g gs
      → 4 * now.so_far.outputs + 4 ≤ length now.outs
      → Held given tape (g ∷ gs) lent (with_output now v)
  held_out g e held v is room =
      record {
        wires_so_far = held.wires_so_far ∙ sym (count_out g gs e);
        outs_so_far = omega (arith, outs_out g gs e);
        one_is = rw (shares_out given tape g gs e).0 held.one_is;
        two_is = rw (shares_out given tape g gs e).1 held.two_is;
        outs_are = rw (shared_outs_out given tape g gs e, is)
            (put_next (reverse (shared given tape gs).outs) lent.outs now.outs now.so_far.outputs (gives given tape g gs) held.outs_are
            (held.outs_so_far ∙ sym (outs_length given tape gs)) (omega (arith, held.outs_long)));
        one_words = rw (shares_out given tape g gs e).0 held.one_words;
        two_words = rw (shares_out given tape g gs e).1 held.two_words;
        one_long = held.one_long;
        two_long = held.two_long;
        outs_long = put-length now.outs now.so_far.outputs v ∙ held.outs_long;
      }

  -- the value of a wire that stands is joined of the memories
  held_joined : Held given tape gs lent now → (sorts : List code.Sort) → SortsOf gs sorts → (k : ℕ) → k < now.so_far.wires
      → joined_in sorts now k ≡ joined_at (wires gs).sort (shared given tape gs) k
  unfolding shares_one shares_two
  held_joined held sorts all k below =
      let below' : k < (wires gs).count = omega arith in
      rw (
        all k below',
        held.one_is,
        held.two_is,
        read_over (wires gs).count (shared given tape gs).one lent.one held.one_words k below',
        read_over (wires gs).count (shared given tape gs).two lent.two held.two_words k below',
      )

  -- so the next gate has its value
  pub held_value : Held given tape gs lent now → (sorts : List code.Sort) → SortsOf gs sorts → (g : Gate) → T (keeps_rules gs g)
      → value_of given (joined_in sorts now) g ≡ gives given tape g gs
  held_value held sorts all g ok =
      made-same given (wires gs) (joined_in sorts now) (joined_at (wires gs).sort (shared given tape gs))
      (λ k below. held_joined held sorts all k (omega arith)) g (kept_of gs g ok)
