-- What a row means in code: its kind with the words that the kind lists (document 01, "Rows"). Only functions inside the desk
-- cite it.
use Rattle.std.specs.Prelude.{ℕ, ◌/◌, ◌%◌, List}
use Rattle.rules.specs.Rows as rules
use Rattle.rules.specs.Rows.{Row, word, kind_at}
use Rattle.rules.specs.Tree.{type_of}
use Rattle.circuit.specs.declared.sorts.Sort.{Sort}
use Rattle.circuit.specs.declared.sorts.Sort.TheVariants.{Arithmetic, Bit}
use Rattle.table.specs.declared.meaning.Ty.{Ty}
use Rattle.table.specs.declared.meaning.Ty.TheVariants.{Uint, Bool}
use Rattle.table.specs.declared.meaning.Meaning.{Meaning}
use Rattle.table.specs.declared.meaning.Meaning.TheVariants as m
use Rattle.table.specs.declared.shapes.Kind.{Kind}
use Rattle.table.specs.declared.shapes.Kind.TheVariants.{Unknown, Number, Truth, Name, Both, Cond, Element, Input, Declare, Assign, For, Write, If, Out, Then}
use Rattle.table.specs.Shapes.{as_kind}

-- the number of a type, and the type as code holds it
abbrev pub type_number : rules.Ty → ℕ
type_number rules.uint = 0
type_number rules.bool = 1

abbrev pub as_type : rules.Ty → Ty
as_type rules.uint = Uint
as_type rules.bool = Bool

-- the type of the rules that a type in code means
abbrev pub meant_type : Ty → rules.Ty
meant_type Uint = rules.uint
meant_type Bool = rules.bool

-- the sort at which a value of a type is kept
abbrev pub sort_kept : Ty → Sort
sort_kept Uint = Arithmetic
sort_kept Bool = Bit

-- the meaning of a kind and the words a, b and c
abbrev pub meaning_of : Kind → ℕ → ℕ → ℕ → Meaning
meaning_of Unknown a b c = m.Nothing
meaning_of Number a b c = m.Number (record { 0 = a })
meaning_of Truth a b c = m.Truth (record { 0 = a })
meaning_of Name a b c = m.Name a
meaning_of (Both o) a b c = m.Both o (record { 0 = a }) (record { 0 = b })
meaning_of Cond a b c = m.Cond (record { 0 = a }) (record { 0 = b }) (record { 0 = c })
meaning_of Element a b c = m.Element a (record { 0 = b })
meaning_of Input a b c = m.Input (as_type (type_of a)) b c
meaning_of Declare a b c = m.Declare a (as_type (type_of b)) c
meaning_of Assign a b c = m.Assign a (record { 0 = b })
meaning_of For a b c = m.For a (record { 0 = b }) (c / 65536) (c % 65536)
meaning_of Write a b c = m.Write a (record { 0 = b }) (record { 0 = c })
meaning_of If a b c = m.If (record { 0 = a }) (record { 0 = b }) (record { 0 = c })
meaning_of Out a b c = m.Out (record { 0 = a })
meaning_of Then a b c = m.Then (record { 0 = a }) (record { 0 = b })

-- the meaning of row r of a table's words
unfoldable pub meaning_at : List ℕ → Row → Meaning
meaning_at t r = meaning_of (as_kind (kind_at t r)) (word t r 1) (word t r 2) (word t r 3)
