-- Document 01, "Text": each row is a line, four words of eight lower-case hexadecimal digits, one space between, one LF at
-- the end.
use Rattle.std.specs.Prelude.{ℕ, zero, suc, ◌+◌, ◌*◌, ◌-◌, ◌/◌, ◌%◌, Bool, true, cond, ◌&&◌, ◌||◌, List, [], ◌∷◌, ◌++◌, length, get_or, eqb, ltb, leb}

-- a lower-case hexadecimal digit, '0' to '9' and 'a' to 'f', and its value
unfoldable pub is_digit : ℕ → Bool
is_digit b = leb 48 b && leb b 57 || leb 97 b && leb b 102

unfoldable pub digit_of : ℕ → ℕ
digit_of b = cond (leb b 57) (b - 48) (b - 87)

-- byte b may stand at column k of a line: LF at 35, a space at 8, 17 and 26, else a digit
unfoldable pub fits_column : ℕ → ℕ → Bool
fits_column k b = cond (eqb k 35) (eqb b 10) (cond (eqb (k % 9) 8) (eqb b 32) (is_digit b))

-- the first n columns of the line that starts at byte p are as they should be
unfoldable pub fits_to : List ℕ → ℕ → ℕ → Bool
fits_to t p zero = true
fits_to t p (suc k) = fits_to t p k && fits_column k (get_or t (p + k) 0)

-- a whole line starts at byte p
unfoldable pub is_line : List ℕ → ℕ → Bool
is_line t p = leb (p + 36) (length t) && fits_to t p 36

-- the number that n digits from byte p on write
unfoldable pub hex_at : List ℕ → ℕ → ℕ → ℕ
hex_at t p zero = 0
hex_at t p (suc n) = 16 * hex_at t p n + digit_of (get_or t (p + n) 0)

-- the four words of the line that starts at byte p
abbrev pub line_words : List ℕ → ℕ → List ℕ
line_words t p = hex_at t p 8 ∷ hex_at t (p + 9) 8 ∷ hex_at t (p + 18) 8 ∷ hex_at t (p + 27) 8 ∷ []

-- how many lines a text has, one for each 36 bytes begun. All lines before the lowest bad one have 36 bytes, so its number
-- is the same where lines are split at LF
unfoldable pub line_count : List ℕ → ℕ
line_count t = (length t + 35) / 36

-- the words of the first n lines
unfoldable pub text_words : List ℕ → ℕ → List ℕ
text_words t zero = []
text_words t (suc n) = text_words t n ++ line_words t (36 * n)

-- check 1, of a text: not empty, at most 36,864 bytes
unfoldable pub text_fits : List ℕ → Bool
text_fits t = ltb 0 (length t) && leb (length t) 36864

-- check 12, of line i
unfoldable pub check12 : List ℕ → ℕ → Bool
check12 t i = is_line t (36 * i)

-- The printed form. The digit of a number below 16, and the eight digits of a word, the highest first.
unfoldable pub digit_for : ℕ → ℕ
digit_for n = cond (ltb n 10) (48 + n) (87 + n)

unfoldable pub hex_of : ℕ → List ℕ
hex_of w =
    digit_for (w / 268435456 % 16)
    ∷ digit_for (w / 16777216 % 16)
    ∷ digit_for (w / 1048576 % 16)
    ∷ digit_for (w / 65536 % 16)
    ∷ digit_for (w / 4096 % 16)
    ∷ digit_for (w / 256 % 16)
    ∷ digit_for (w / 16 % 16)
    ∷ digit_for (w % 16)
    ∷ []

-- a line of words: one space between, one LF at the end
unfoldable pub line_of : List ℕ → List ℕ
line_of [] = 10 ∷ []
line_of (w ∷ []) = hex_of w ++ 10 ∷ []
line_of (w ∷ v ∷ ws) = hex_of w ++ 32 ∷ line_of (v ∷ ws)

-- the text of a table's words, four to a line
unfoldable pub text_of : List ℕ → List ℕ
text_of [] = []
text_of (a ∷ []) = []
text_of (a ∷ b ∷ []) = []
text_of (a ∷ b ∷ c ∷ []) = []
text_of (a ∷ b ∷ c ∷ d ∷ ws) = line_of (a ∷ b ∷ c ∷ d ∷ []) ++ text_of ws
