-- The bytes of a text that is written here as text: one byte to a character, in ASCII.
use Rattle.std.specs.Prelude.{ℕ, List, [], ◌∷◌, ◌++◌}
use Prim.Native.Char.{code}
use Prim.Native.String.{String, [] as ends, ◌∷◌ as begins}

unfoldable pub ascii : String → List ℕ
ascii ends = []
ascii (begins c s) = code c ∷ ascii s

-- lines of text, an LF at the end of each
unfoldable pub lines : List String → List ℕ
lines [] = []
lines (s ∷ ss) = ascii s ++ 10 ∷ lines ss
