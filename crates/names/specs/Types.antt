-- Check 6 in code: the type of each expression, from the lowest row up, and the inputs read so far (document 01, "Order of
-- refusals"). Only functions inside the desk cite it.
use Rattle.std.specs.Prelude.{ℕ, zero, suc, ◌≡◌, Bool, true, false, not, ◌&&◌, ◌||◌, List, eqb, get_or, set, Option, None, Some, IfSome}
use Rattle.words.specs.Words.{words}
use Rattle.rules.specs.Rows as rules
use Rattle.rules.specs.Rows.{word}
use Rattle.rules.specs.Types.{type_e, result_type}
use Rattle.circuit.specs.Gates.{meant_op}
use Rattle.circuit.specs.Slots.{InTable, slot_of, sort_at, other_than}
use Rattle.circuit.specs.declared.sorts.Sort.{Sort}
use Rattle.circuit.specs.declared.gates.Read.{Read}
use Rattle.table.specs.declared.meaning.Ty.{Ty}
use Rattle.table.specs.declared.meaning.Ty.TheVariants.{Uint, Bool as Truth}
use Rattle.table.specs.declared.meaning.Meaning.{Meaning}
use Rattle.table.specs.declared.meaning.Meaning.TheVariants as m
use Rattle.table.specs.Meaning.{type_number, as_type, sort_kept}
use Rattle.names.specs.declared.notes.Given.{Given}
use Rattle.names.specs.Notes.{CanNote}

-- an expression's type
abbrev pub type_by : Meaning → Ty → List Ty → Ty
type_by (m.Truth v) given types = Truth
type_by (m.Name x) given types = given
type_by (m.Both o a b) given types = as_type (result_type (meant_op o))
type_by (m.Cond g a b) given types = get_or types a.0 Uint
type_by (m.Element x i) given types = given
type_by (m.Input y d n) given types = y
type_by _ given types = Uint

-- the types of lower rows are noted
abbrev pub CanType : List ℕ → List Ty → ℕ → Type 0
CanType = CanNote (λ sc e. as_type (type_e sc e)) Uint

-- two types are one
abbrev pub same_type : Ty → Ty → Bool
same_type Uint Uint = true
same_type Uint Truth = false
same_type Truth Uint = false
same_type Truth Truth = true

-- check 6 of a row; `clash` says that a lower row reads the row's input at the other type
abbrev pub typed_by : Meaning → Given → List Ty → Bool → Bool
typed_by (m.Name x) given types clash = eqb given.length 0
typed_by (m.Both o a b) given types clash = same_type (get_or types a.0 Uint) Uint && same_type (get_or types b.0 Uint) Uint
typed_by (m.Cond g a b) given types clash =
    same_type (get_or types g.0 Uint) Truth && same_type (get_or types a.0 Uint) (get_or types b.0 Uint)
typed_by (m.Element x i) given types clash = not (eqb given.length 0) && same_type (get_or types i.0 Uint) Uint
typed_by (m.Input y d n) given types clash = not clash
typed_by (m.Assign x v) given types clash = eqb given.length 0 && same_type (get_or types v.0 Uint) given.ty
typed_by (m.Write x i v) given types clash =
    not (eqb given.length 0) && (same_type (get_or types i.0 Uint) Uint && same_type (get_or types v.0 Uint) given.ty)
typed_by (m.If g a b) given types clash = same_type (get_or types g.0 Uint) Truth
typed_by _ given types clash = true

-- the input that a row reads, at the sort of its type
abbrev pub read_of : Meaning → Option Read
read_of (m.Input y d n) = Some (record { desk = d; number = n; sort = sort_kept y })
read_of _ = None

-- an input that is read has a place in the table of inputs
abbrev pub ReadIn : Option Read → Type 0
ReadIn read = IfSome read (λ r. InTable r.desk r.number)

-- it was read at another sort; and it is noted
abbrev pub clash_of : List (Option Sort) → Option Read → Bool
clash_of seen None = false
clash_of seen (Some r) = other_than (sort_at seen r.desk r.number) r.sort

abbrev pub seen_after : List (Option Sort) → Option Read → List (Option Sort)
seen_after seen None = seen
seen_after seen (Some r) = set seen (slot_of r.desk r.number) (Some r.sort)

-- a row below i reads input n of desk d at another type than that of number y
unfoldable pub read_below : List ℕ → ℕ → ℕ → ℕ → ℕ → Bool
read_below t d n y zero = false
read_below t d n y (suc i) =
    eqb (word t i 0) 8 && (eqb (word t i 2) d && (eqb (word t i 3) n && not (eqb (word t i 1) y))) || read_below t d n y i

-- the table of inputs tells whether an input read at type y clashes with a row below i
abbrev pub InputsSeen : List ℕ → List (Option Sort) → ℕ → Type 0
InputsSeen table seen i =
    (d n : ℕ) → InTable d n → (y : rules.Ty)
    → read_below (words table) d n (type_number y) i ≡ other_than (sort_at seen d n) (sort_kept (as_type y))
