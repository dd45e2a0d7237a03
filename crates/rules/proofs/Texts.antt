-- The printed form reads back: a word's eight digits, a line's four words, and a table's text.
use mathlib.Core.Path.{◌≡◌, refl, ap₂, ◌∙◌}
use Prim.Native.Nat.{ℕ, zero, suc, ◌+◌, ◌*◌, ◌/◌, ◌%◌, ◌≤◌, ◌<◌}
use native.Mathlib.Nat.{div-div-eq-div-mul, div-add-mod', mod-eq_of_lt}
use native.Mathlib.Omega.{arith}
use mathlib.Core.Bool.{true}
use mathlib.Core.List.{List, [], ◌∷◌, ◌++◌, append_assoc}
use lib.Dec.{T, eqb, eqb→eq}
use lib.ListN.{length, get_or, length-append}
use lib.Seq.{get_or-append-add}
use borrow.Author.Tests.{le-leb}
use Rattle.words.specs.Words.{AllWords}
use Rattle.rules.specs.Places.{fault, failing_below}
use Rattle.rules.specs.Text.{is_digit, digit_of, fits_column, fits_to, is_line, hex_at, line_words, line_count, text_words, check12, digit_for, hex_of, line_of, text_of}
use Rattle.rules.specs.Answers.{failing12}
use Rattle.rules.proofs.Places.{below_none, none_below}
use Rattle.rules.proofs.Basics.{true_of}

-- the digit of a number below 16 is a digit: the sixteen are tried
digit_is : (n : ℕ) → n < 16 → T (is_digit (digit_for n))
unfolding failing_below fault is_digit digit_for
digit_is = none_below (λ n. is_digit (digit_for n)) 16 refl

-- its value is the number
digit_value : (n : ℕ) → n < 16 → digit_of (digit_for n) ≡ n
unfolding failing_below fault digit_of digit_for
digit_value n h = eqb→eq (digit_of (digit_for n)) n (none_below (λ n. eqb (digit_of (digit_for n)) n) 16 refl n h)

-- so the lowest digit of any number is a digit
low_is : (n : ℕ) → is_digit (digit_for (n % 16)) ≡ true
low_is n = true_of _ (digit_is (n % 16) (omega arith))

-- and has its value
low_value : (n : ℕ) → digit_of (digit_for (n % 16)) ≡ n % 16
low_value n = digit_value (n % 16) (omega arith)

-- eight digits, each over the rest of its number
eight : (w a b c d e f g : ℕ) (i j k l m n o p : ℕ)
    → a * 16 + p ≡ w → b * 16 + o ≡ a → c * 16 + n ≡ b → d * 16 + m ≡ c → e * 16 + l ≡ d → f * 16 + k ≡ e → g * 16 + j ≡ f → i ≡ g
    → 16 * (16 * (16 * (16 * (16 * (16 * (16 * (16 * 0 + i) + j) + k) + l) + m) + n) + o) + p ≡ w
eight w a b c d e f g i j k l m n o p q r s t u v x y = omega arith

-- a number divided by k is 16 times what is left of it without its lowest digit, and that digit
digit_up : (w k : ℕ) → w / (k * 16) * 16 + w / k % 16 ≡ w / k
digit_up w k = rw (div-div-eq-div-mul w k 16) at (div-add-mod' (w / k) 16)

-- the digits of a word are read back as the word
pub hex_read_back : (w : ℕ) → w < 4294967296 → hex_at (hex_of w) 0 8 ≡ w
unfolding hex_at hex_of
hex_read_back w h =
    simp low_value
    (eight w (w / 16) (w / 256) (w / 4096) (w / 65536) (w / 1048576) (w / 16777216) (w / 268435456)
    (w / 268435456 % 16) (w / 16777216 % 16) (w / 1048576 % 16) (w / 65536 % 16) (w / 4096 % 16) (w / 256 % 16) (w / 16 % 16) (w % 16)
    (div-add-mod' w 16)
    (digit_up w 16)
    (digit_up w 256)
    (digit_up w 4096)
    (digit_up w 65536)
    (digit_up w 1048576)
    (digit_up w 16777216)
    (mod-eq_of_lt (omega arith)))

-- none of the eight bytes of a word is no digit
eight_digits : (w : ℕ) → failing_below (λ k. is_digit (get_or (hex_of w) k 0)) 8 ≡ []
unfolding failing_below fault hex_of
eight_digits w = simp low_is

-- each of the eight bytes is a digit
pub hex_digits : (w k : ℕ) → k < 8 → T (is_digit (get_or (hex_of w) k 0))
hex_digits w = none_below (λ k. is_digit (get_or (hex_of w) k 0)) 8 (eight_digits w)

-- a line of four words is 36 bytes
pub line_length : (a b c d : ℕ) → length (line_of (a ∷ b ∷ c ∷ d ∷ [])) ≡ 36
unfolding line_of hex_of
line_length a b c d = refl

-- its words are read back, whatever follows it
pub line_read_back : (a b c d : ℕ) (t : List ℕ) → AllWords (a ∷ b ∷ c ∷ d ∷ [])
    → line_words (line_of (a ∷ b ∷ c ∷ d ∷ []) ++ t) 0 ≡ a ∷ b ∷ c ∷ d ∷ []
unfolding line_of hex_of hex_at
line_read_back a b c d t h =
    let one : hex_at (hex_of a) 0 8 ≡ a = hex_read_back a h.0 in
    let two : hex_at (hex_of b) 0 8 ≡ b = hex_read_back b h.1.0 in
    let three : hex_at (hex_of c) 0 8 ≡ c = hex_read_back c h.1.1.0 in
    let four : hex_at (hex_of d) 0 8 ≡ d = hex_read_back d h.1.1.1.0 in
    λ i. one i ∷ two i ∷ three i ∷ four i ∷ []

-- its columns are as they should be
line_fits : (a b c d : ℕ) (t : List ℕ) → fits_to (line_of (a ∷ b ∷ c ∷ d ∷ []) ++ t) 0 36 ≡ true
unfolding line_of hex_of fits_to fits_column
line_fits a b c d t = simp low_is

-- Past the front of a text.
module _ (front t : List ℕ) where
  -- byte q of the whole is byte p of what follows the front
  abbrev Past : ℕ → ℕ → Type 0
  Past p q = q ≡ length front + p

  -- so are the bytes after it
  byte_past : (p q k : ℕ) → Past p q → get_or (front ++ t) (q + k) 0 ≡ get_or t (p + k) 0
  byte_past p q k e =
      let there : q + k ≡ length front + (p + k) = omega arith in
      rw there (get_or-append-add front t (p + k) 0)

  -- so are the numbers that digits write there
  hex_past : (p q n : ℕ) → Past p q → hex_at (front ++ t) q n ≡ hex_at t p n
  unfolding hex_at
  hex_past p q zero e = refl
  hex_past p q (suc n) e = rw (hex_past p q n e, byte_past p q n e)

  -- so are the columns of a line there
  fits_past : (p q n : ℕ) → Past p q → fits_to (front ++ t) q n ≡ fits_to t p n
  unfolding fits_to
  fits_past p q zero e = refl
  fits_past p q (suc n) e = rw (fits_past p q n e, byte_past p q n e)

  -- so are the four words of a line there
  line_past : (p q : ℕ) → Past p q → line_words (front ++ t) q ≡ line_words t p
  line_past p q e =
      rw (
        hex_past p q 8 e,
        hex_past (p + 9) (q + 9) 8 (omega arith),
        hex_past (p + 18) (q + 18) 8 (omega arith),
        hex_past (p + 27) (q + 27) 8 (omega arith),
      )

  -- after a first line come the words of the other lines
  text_past : (n : ℕ) → length front ≡ 36 → text_words (front ++ t) (suc n) ≡ line_words (front ++ t) 0 ++ text_words t n
  unfolding text_words
  text_past zero e = refl
  text_past (suc n) e =
      rw (text_past n e, line_past (36 * n) (36 * suc n) (omega arith))
      (append_assoc (line_words (front ++ t) 0) (text_words t n) (line_words t (36 * n)))

  -- a first line is one line more
  count_past : length front ≡ 36 → line_count (front ++ t) ≡ suc (line_count t)
  unfolding line_count
  count_past e = omega (arith, length-append front t)

-- an empty text has no words
empty_text : text_words [] (line_count []) ≡ []
unfolding text_words line_count
empty_text = refl

-- the text of a table's words is read back as the words
pub text_read_back : (ws : List ℕ) → AllWords ws → length ws % 4 ≡ 0 → text_words (text_of ws) (line_count (text_of ws)) ≡ ws
unfolding text_of
text_read_back [] h e = empty_text
text_read_back (a ∷ []) h e = absurd (omega arith)
text_read_back (a ∷ b ∷ []) h e = absurd (omega arith)
text_read_back (a ∷ b ∷ c ∷ []) h e = absurd (omega arith)
text_read_back (a ∷ b ∷ c ∷ d ∷ ws) h e =
    let line = line_of (a ∷ b ∷ c ∷ d ∷ []) in
    let rest = text_of ws in
    let first = line_read_back a b c d rest (h.0, (h.1.0, (h.1.1.0, (h.1.1.1.0, tt)))) in
    rw (count_past line rest (line_length a b c d))
    (text_past line rest (line_count rest) (line_length a b c d)
    ∙ ap₂ (λ (xs ys : List ℕ). xs ++ ys) first (text_read_back ws h.1.1.1.1 (omega arith)))

-- line i of a text stands in it whole
abbrev Whole : List ℕ → ℕ → Type 0
Whole t i = (36 * i + 36 ≤ length t) × (fits_to t (36 * i) 36 ≡ true)

-- every line of the text of a table's words does
all_whole : (ws : List ℕ) (i : ℕ) → i < line_count (text_of ws) → Whole (text_of ws) i
unfolding text_of line_count
all_whole [] i l = absurd (omega arith)
all_whole (a ∷ []) i l = absurd (omega arith)
all_whole (a ∷ b ∷ []) i l = absurd (omega arith)
all_whole (a ∷ b ∷ c ∷ []) i l = absurd (omega arith)
all_whole (a ∷ b ∷ c ∷ d ∷ ws) zero l =
    (omega (arith, length-append (line_of (a ∷ b ∷ c ∷ d ∷ [])) (text_of ws), line_length a b c d), line_fits a b c d (text_of ws))
all_whole (a ∷ b ∷ c ∷ d ∷ ws) (suc i) l =
    let line = line_of (a ∷ b ∷ c ∷ d ∷ []) in
    let rest = text_of ws in
    let whole = all_whole ws i (omega (arith, count_past line rest (line_length a b c d))) in (
      omega (arith, length-append line rest, line_length a b c d, whole.0),
      fits_past line rest (36 * i) (36 * suc i) 36 (omega (arith, line_length a b c d)) ∙ whole.1,
    )

-- such a line passes check 12
whole_passes : (t : List ℕ) (i : ℕ) → Whole t i → T (check12 t i)
unfolding check12 is_line
whole_passes t i h = rw (le-leb (36 * i + 36) (length t) h.0, h.1) tt

-- the text of a table's words is not refused with 12
pub never_12 : (ws : List ℕ) → failing12 (text_of ws) ≡ []
unfolding failing12
never_12 ws = below_none (check12 (text_of ws)) (line_count (text_of ws)) (λ i l. whole_passes (text_of ws) i (all_whole ws i l))
