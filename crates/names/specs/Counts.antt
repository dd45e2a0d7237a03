-- Check 8 in code: the count of each expression, from the lowest row up (document 01, "Names, labels, indexes"). Only functions inside
-- the desk cite it.
use Rattle.std.specs.Prelude.{ℕ, max, Bool, true, List, ltb, get_or}
use Rattle.rules.specs.Counts.{count_two, count}
use Rattle.circuit.specs.Gates.{meant_op}
use Rattle.table.specs.declared.meaning.Meaning.{Meaning}
use Rattle.table.specs.declared.meaning.Meaning.TheVariants as m
use Rattle.names.specs.Notes.{CanNote}

-- the count of an expression
abbrev pub count_by : Meaning → ℕ → List ℕ → ℕ
count_by (m.Number v) given counts = v.0
count_by (m.Name x) given counts = given
count_by (m.Both o a b) given counts = count_two (meant_op o) (get_or counts a.0 0) (get_or counts b.0 0)
count_by (m.Cond g a b) given counts = max (get_or counts a.0 0) (get_or counts b.0 0)
count_by _ given counts = 4294967295

-- the counts of lower rows are noted
abbrev pub CanCount : List ℕ → List ℕ → ℕ → Type 0
CanCount = CanNote count 0

-- check 8 of a row
abbrev pub counted_by : Meaning → ℕ → List ℕ → Bool
counted_by (m.Element x i) size counts = ltb (get_or counts i.0 0) size
counted_by (m.Write x i v) size counts = ltb (get_or counts i.0 0) size
counted_by _ size counts = true
