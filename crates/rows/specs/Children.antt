-- Which row is a child of which (document 01, "Rows"). Only functions inside the desk cite it.
use Rattle.std.specs.Prelude.{ℕ, ◌≡◌, ◌⊎◌, List}
use Rattle.rules.specs.Rows.{Row, word, kind_at, Field, within, expr, stmt, Shape, shape_of}

-- a field that holds w is the place of row r
abbrev pub Place : Field → ℕ → Row → Type 0
Place (within low high) w r = ⊥
Place expr w r = w ≡ r
Place stmt w r = w ≡ r

-- row r is the child of one of the three words of row q, which has this shape
abbrev pub ChildBy : List ℕ → Row → Row → Shape → Type 0
ChildBy t r q s = Place s.a (word t q 1) r ⊎ (Place s.b (word t q 2) r ⊎ Place s.c (word t q 3) r)

-- row r is a child of row q
abbrev pub IsChild : List ℕ → Row → Row → Type 0
IsChild t r q = ChildBy t r q (shape_of (kind_at t q))
