-- Words in bytes (document 01, "What the desk needs"): little-endian, four bytes each. The odd last bytes are no word.
use Rattle.std.specs.Prelude.{ℕ, ◌+◌, ◌*◌, ◌/◌, ◌%◌, ◌^◌, ◌<◌, List, [], ◌∷◌, ◌++◌, length, set, drop}

-- the word of four bytes, the lowest first
abbrev pub joined : ℕ → ℕ → ℕ → ℕ → ℕ
joined a b c d = a + b * 256 + c * 65536 + d * 16777216

-- the whole words of bytes
unfoldable pub words : List ℕ → List ℕ
words [] = []
words (a ∷ []) = []
words (a ∷ b ∷ []) = []
words (a ∷ b ∷ c ∷ []) = []
words (a ∷ b ∷ c ∷ d ∷ rest) = joined a b c d ∷ words rest

-- the bytes of words
unfoldable pub bytes_of : List ℕ → List ℕ
bytes_of [] = []
bytes_of (w ∷ ws) = w % 256 ∷ w / 256 % 256 ∷ w / 65536 % 256 ∷ w / 16777216 % 256 ∷ bytes_of ws

-- the bytes b with w as their word i
abbrev pub put_at : List ℕ → ℕ → ℕ → List ℕ
put_at b i w =
    set (set (set (set b (4 * i) (w % 256)) (4 * i + 1) (w / 256 % 256)) (4 * i + 2) (w / 65536 % 256)) (4 * i + 3) (w / 16777216 % 256)

-- the words ws from the start of the memory b, and after them b as it was
unfoldable pub over : List ℕ → List ℕ → List ℕ
over ws b = bytes_of ws ++ drop (4 * length ws) b

-- every number of a list is a word, or a byte
abbrev pub AllWords : List ℕ → Type 0
AllWords [] = Unit {0}
AllWords (w ∷ ws) = (w < 2 ^ 32) × AllWords ws

abbrev pub AllBytes : List ℕ → Type 0
AllBytes [] = Unit {0}
AllBytes (b ∷ bs) = (b < 256) × AllBytes bs
