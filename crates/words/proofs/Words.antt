-- The laws of words in bytes: what a put changes, what words are read back, and words over a memory.
use mathlib.Core.Path.{◌≡◌, refl, sym, ap, ap₂, ◌∙◌}
use Prim.Native.Nat.{ℕ, zero, suc, ◌+◌, ◌*◌, ◌/◌, ◌%◌, ◌^◌, ◌≤◌, ◌<◌}
use native.Mathlib.Omega.{arith}
use mathlib.Core.Bool.{Bool, true, false}
use mathlib.Core.List.{List, [], ◌∷◌, ◌++◌, append-nil}
use lib.Dec.{eqb}
use borrow.Author.Tests.{eqb-true, eqb-false}
use lib.ListN.{length, get_or, set, take, drop, length-set, length-append, length-drop, get_or-append}
use lib.Seq.{get_or-set_same, get_or-set_other, ext_get_or, take_at}
use Rattle.std.proofs.lemmas.Nat.{from_le_bytes-to_le_bytes_4}
use Rattle.words.specs.Words.{joined, put_at, words, bytes_of, over, AllWords, AllBytes}
use Rattle.words.proofs.LittleEndian.{joined_le}

-- word i, read off its four bytes
abbrev pub word_at : List ℕ → ℕ → ℕ
word_at b i = joined (get_or b (4 * i) 0) (get_or b (4 * i + 1) 0) (get_or b (4 * i + 2) 0) (get_or b (4 * i + 3) 0)

-- put keeps the length
pub put-length : (b : List ℕ) (i w : ℕ) → length (put_at b i w) ≡ length b
put-length b i w = simp length-set

-- put keeps every byte outside its word
pub put_else : (b : List ℕ) (i w j : ℕ) → (4 * i ≤ j → j < 4 * i + 4 → ⊥) → get_or (put_at b i w) j 0 ≡ get_or b j 0
put_else b i w j h =
    let h0 : j ≡ 4 * i → ⊥ = λ e. h (omega arith) (omega arith) in
    let h1 : j ≡ 4 * i + 1 → ⊥ = λ e. h (omega arith) (omega arith) in
    let h2 : j ≡ 4 * i + 2 → ⊥ = λ e. h (omega arith) (omega arith) in
    let h3 : j ≡ 4 * i + 3 → ⊥ = λ e. h (omega arith) (omega arith) in
    rw (get_or-set_other, get_or-set_other, get_or-set_other, get_or-set_other)

-- the four bytes of a word, joined, are the word
pub split_joined : (w : ℕ) → w < 2 ^ 32 → joined (w % 256) (w / 256 % 256) (w / 65536 % 256) (w / 16777216 % 256) ≡ w
split_joined w h = sym (joined_le _ _ _ _) ∙ from_le_bytes-to_le_bytes_4 w h

-- put, then read the same word
pub put_same : (b : List ℕ) (i w : ℕ) → 4 * i + 4 ≤ length b → w < 2 ^ 32 → word_at (put_at b i w) i ≡ w
put_same b i w h hw =
    let n01 : 4 * i ≡ 4 * i + 1 → ⊥ = λ e. omega arith in
    let n02 : 4 * i ≡ 4 * i + 2 → ⊥ = λ e. omega arith in
    let n03 : 4 * i ≡ 4 * i + 3 → ⊥ = λ e. omega arith in
    let n12 : 4 * i + 1 ≡ 4 * i + 2 → ⊥ = λ e. omega arith in
    let n13 : 4 * i + 1 ≡ 4 * i + 3 → ⊥ = λ e. omega arith in
    let n23 : 4 * i + 2 ≡ 4 * i + 3 → ⊥ = λ e. omega arith in
    let l0 : 4 * i < length b = omega arith in
    let l1 : 4 * i + 1 < length (set b (4 * i) (w % 256)) = simp length-set (omega arith) in
    let l2 : 4 * i + 2 < length (set (set b (4 * i) (w % 256)) (4 * i + 1) (w / 256 % 256)) = simp length-set (omega arith) in
    let l3 : 4 * i + 3 < length (set (set (set b (4 * i) (w % 256)) (4 * i + 1) (w / 256 % 256)) (4 * i + 2) (w / 65536 % 256)) = simp length-set (omega arith) in
    simp (get_or-set_same, get_or-set_other) (split_joined w hw)

-- put, then read another word
pub put_other : (b : List ℕ) (i w j : ℕ) → (j ≡ i → ⊥) → word_at (put_at b i w) j ≡ word_at b j
put_other b i w j h =
    simp (
      put_else b i w (4 * j) (λ a e. h (omega arith)),
      put_else b i w (4 * j + 1) (λ a e. h (omega arith)),
      put_else b i w (4 * j + 2) (λ a e. h (omega arith)),
      put_else b i w (4 * j + 3) (λ a e. h (omega arith)),
    )

-- past the first word of a list
module _ (a b c d : ℕ) (r : List ℕ) where
  past : (i k : ℕ) → get_or (a ∷ b ∷ c ∷ d ∷ r) (4 * suc i + k) 0 ≡ get_or r (4 * i + k) 0
  past i k = let e : 4 * suc i + k ≡ suc (suc (suc (suc (4 * i + k)))) = omega arith in rw e

  past_0 : (i : ℕ) → get_or (a ∷ b ∷ c ∷ d ∷ r) (4 * suc i) 0 ≡ get_or r (4 * i) 0
  past_0 i = let e : 4 * suc i ≡ suc (suc (suc (suc (4 * i)))) = omega arith in rw e

  past_word : (i : ℕ) → word_at (a ∷ b ∷ c ∷ d ∷ r) (suc i) ≡ word_at r i
  past_word i = simp (past_0 i, past i 1, past i 2, past i 3)

-- word i of the bytes is element i of the words
pub words_at : (b : List ℕ) (i : ℕ) → 4 * i + 4 ≤ length b → get_or (words b) i 0 ≡ word_at b i
unfolding words
words_at [] i h = absurd (omega arith)
words_at (a ∷ []) i h = absurd (omega arith)
words_at (a ∷ b ∷ []) i h = absurd (omega arith)
words_at (a ∷ b ∷ c ∷ []) i h = absurd (omega arith)
words_at (a ∷ b ∷ c ∷ d ∷ r) zero h = refl
words_at (a ∷ b ∷ c ∷ d ∷ r) (suc i) h = words_at r i (omega arith) ∙ sym (past_word a b c d r i)

-- as many words as whole fours of bytes
pub words-length : (b : List ℕ) → length (words b) ≡ length b / 4
unfolding words
words-length [] = refl
words-length (a ∷ []) = refl
words-length (a ∷ b ∷ []) = refl
words-length (a ∷ b ∷ c ∷ []) = refl
words-length (a ∷ b ∷ c ∷ d ∷ r) = omega (arith, words-length r)

-- the words after a put are the words with that word set
pub words-put : (b : List ℕ) (i w : ℕ) → 4 * i + 4 ≤ length b → w < 2 ^ 32 → words (put_at b i w) ≡ set (words b) i w
words-put b i w h hw =
    ext_get_or 0 (words (put_at b i w)) (set (words b) i w)
    (words-length (put_at b i w) ∙ ap (λ (n : ℕ). n / 4) (put-length b i w) ∙ sym (words-length b) ∙ sym (length-set (words b) i w))
    (λ j hj.
    let inside : 4 * j + 4 ≤ length b = omega (arith, words-length (put_at b i w), put-length b i w) in
    let there : 4 * j + 4 ≤ length (put_at b i w) = omega (arith, put-length b i w) in
    words_at (put_at b i w) j there ∙ at j inside (eqb j i) refl)
  where
    at : (j : ℕ) → 4 * j + 4 ≤ length b → (t : Bool) → eqb j i ≡ t → word_at (put_at b i w) j ≡ get_or (set (words b) i w) j 0
    at j hj true e = rw (eqb-true j i e) (put_same b i w h hw ∙ sym (get_or-set_same (words b) i w 0 (omega (arith, words-length b))))
    at j hj false e =
        put_other b i w j (eqb-false j i e) ∙ sym (words_at b j hj)
        ∙ sym (get_or-set_other (words b) i j w 0 (eqb-false j i e))

-- past the first word of a list, when putting
past_set : (a b c d : ℕ) (r : List ℕ) (i k x : ℕ) → set (a ∷ b ∷ c ∷ d ∷ r) (4 * suc i + k) x ≡ a ∷ b ∷ c ∷ d ∷ set r (4 * i + k) x
past_set a b c d r i k x = let e : 4 * suc i + k ≡ suc (suc (suc (suc (4 * i + k)))) = omega arith in rw e

past_set_0 : (a b c d : ℕ) (r : List ℕ) (i x : ℕ) → set (a ∷ b ∷ c ∷ d ∷ r) (4 * suc i) x ≡ a ∷ b ∷ c ∷ d ∷ set r (4 * i) x
past_set_0 a b c d r i x = let e : 4 * suc i ≡ suc (suc (suc (suc (4 * i)))) = omega arith in rw e

past_put : (a b c d : ℕ) (r : List ℕ) (i w : ℕ) → put_at (a ∷ b ∷ c ∷ d ∷ r) (suc i) w ≡ a ∷ b ∷ c ∷ d ∷ put_at r i w
past_put a b c d r i w = rw (past_set_0, past_set, past_set, past_set)

past_drop : (a b c d : ℕ) (r : List ℕ) (n : ℕ) → drop (4 * suc n) (a ∷ b ∷ c ∷ d ∷ r) ≡ drop (4 * n) r
past_drop a b c d r n = let e : 4 * suc n ≡ suc (suc (suc (suc (4 * n)))) = omega arith in rw e

-- four bytes to a word
pub bytes_length : (ws : List ℕ) → length (bytes_of ws) ≡ 4 * length ws
unfolding bytes_of
bytes_length [] = refl
bytes_length (w ∷ ws) = omega (arith, bytes_length ws)

-- no byte more and none less
pub over-length : (ws b : List ℕ) → 4 * length ws ≤ length b → length (over ws b) ≡ length b
unfolding over
over-length ws b h = simp (length-append, bytes_length, length-drop) (omega arith)

-- nothing over the bytes
pub over_none : (b : List ℕ) → over [] b ≡ b
unfolding over bytes_of
over_none b = refl

-- one word more over the bytes
pub put-over : (ws b : List ℕ) (w : ℕ) → 4 * length ws + 4 ≤ length b → put_at (over ws b) (length ws) w ≡ over (ws ++ w ∷ []) b
unfolding over bytes_of
put-over ws [] w h = absurd (omega arith)
put-over ws (a ∷ []) w h = absurd (omega arith)
put-over ws (a ∷ b ∷ []) w h = absurd (omega arith)
put-over ws (a ∷ b ∷ c ∷ []) w h = absurd (omega arith)
put-over [] (a ∷ b ∷ c ∷ d ∷ r) w h = refl
put-over (x ∷ xs) (a ∷ b ∷ c ∷ d ∷ r) w h =
    rw (past_drop a b c d r (length xs), past_drop a b c d r (length (xs ++ w ∷ [])))
    (past_put _ _ _ _ (bytes_of xs ++ drop (4 * length xs) r) (length xs) w
    ∙ ap (λ (l : List ℕ). x % 256 ∷ x / 256 % 256 ∷ x / 65536 % 256 ∷ x / 16777216 % 256 ∷ l) (put-over xs r w (omega arith)))

-- the words over the bytes are read back
pub words-over : (ws b : List ℕ) → AllWords ws → words (bytes_of ws ++ b) ≡ ws ++ words b
unfolding bytes_of words
words-over [] b h = refl
words-over (w ∷ ws) b h = ap₂ (λ (x : ℕ) (l : List ℕ). x ∷ l) (split_joined w h.0) (words-over ws b h.1)

-- the bytes of words are read back as the words
pub words_read_back : (ws : List ℕ) → AllWords ws → words (bytes_of ws) ≡ ws
unfolding words
words_read_back ws h = rw (append-nil (bytes_of ws), append-nil ws) at (words-over ws [] h)

-- the words over a memory are its first bytes
pub over_front : (ws b : List ℕ) → take (4 * length ws) (over ws b) ≡ bytes_of ws
unfolding over
over_front ws b = take_at (bytes_of ws) (drop (4 * length ws) b) (4 * length ws) (bytes_length ws)

-- the words of bytes are words
pub bytes_are_words : (b : List ℕ) → AllBytes b → AllWords (words b)
unfolding words
bytes_are_words [] h = tt
bytes_are_words (a ∷ []) h = tt
bytes_are_words (a ∷ b ∷ []) h = tt
bytes_are_words (a ∷ b ∷ c ∷ []) h = tt
bytes_are_words (a ∷ b ∷ c ∷ d ∷ rest) h = (
  omega (arith, h.0, h.1.0, h.1.1.0, h.1.1.1.0),
  bytes_are_words rest h.1.1.1.1,
)

-- words and more words
pub words_both : (xs ys : List ℕ) → AllWords xs → AllWords ys → AllWords (xs ++ ys)
words_both [] ys p q = q
words_both (x ∷ xs) ys p q = (p.0, words_both xs ys p.1 q)

-- the bytes of words are bytes
pub bytes_of_are_bytes : (ws : List ℕ) → AllBytes (bytes_of ws)
unfolding bytes_of
bytes_of_are_bytes [] = tt
bytes_of_are_bytes (w ∷ ws) = (omega arith, (omega arith, (omega arith, (omega arith, bytes_of_are_bytes ws))))

-- the four bytes of a joined word are those that were joined
split_of : (a b c d : ℕ) → a < 256 → b < 256 → c < 256 → d < 256
    → (joined a b c d % 256 ≡ a) × (joined a b c d / 256 % 256 ≡ b) × (joined a b c d / 65536 % 256 ≡ c) × (joined a b c d / 16777216 % 256 ≡ d)
split_of a b c d ha hb hc hd = (omega arith, omega arith, omega arith, omega arith)

-- bytes that are whole words are the bytes of their words
pub bytes_read_back : (b : List ℕ) → AllBytes b → length b % 4 ≡ 0 → bytes_of (words b) ≡ b
unfolding words bytes_of
bytes_read_back [] h whole = refl
bytes_read_back (a ∷ []) h whole = absurd (omega arith)
bytes_read_back (a ∷ b ∷ []) h whole = absurd (omega arith)
bytes_read_back (a ∷ b ∷ c ∷ []) h whole = absurd (omega arith)
bytes_read_back (a ∷ b ∷ c ∷ d ∷ rest) h whole =
    let (p, q, r, s) = split_of a b c d h.0 h.1.0 h.1.1.0 h.1.1.1.0 in
    rw (p, q, r, s, bytes_read_back rest h.1.1.1.1 (omega arith))

-- of the words over a memory each stands at its place
pub over_at : (ws b : List ℕ) → AllWords ws → (k : ℕ) → k < length ws → get_or (words (over ws b)) k 0 ≡ get_or ws k 0
unfolding over
over_at ws b is k below =
    rw (words-over ws (drop (4 * length ws) b) is) (get_or-append ws (words (drop (4 * length ws) b)) 0 k below)

-- and they are the memory's first words
pub over-taken : (ws b : List ℕ) → AllWords ws → take (length ws) (words (over ws b)) ≡ ws
unfolding over
over-taken ws b is = rw (words-over ws (drop (4 * length ws) b) is) (take_at ws (words (drop (4 * length ws) b)) (length ws) refl)

-- a list with a word at every place is words
pub words_by_place : (ws : List ℕ) → ((k : ℕ) → get_or ws k 0 < 2 ^ 32) → AllWords ws
words_by_place [] at = tt
words_by_place (w ∷ ws) at = (at 0, words_by_place ws (λ k. at (suc k)))
