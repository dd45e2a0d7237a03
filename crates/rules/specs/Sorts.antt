-- Document 01, "Names, labels, indexes" and "From run to circuit": the sorts of wires, 1 arithmetic, 2 a boolean-shared
-- uint, 3 a bool (boolean, one bit), and which sort is wanted where. And one line for each two-sided operator.
use Rattle.std.specs.Prelude.{ℕ, zero, suc, ◌+◌, ◌%◌, ◌^◌, Bool, true, false, cond, [], ◌∷◌, ltb, leb, get_or}
use Rattle.std.proofs.Math.Option.{Option, none, some}
use Rattle.rules.specs.Rows.{Ty, uint, bool, Op, add, gt}

pub data Sort : Type 0 where
  arithmetic boolean bit : Sort

abbrev pub sort_number : Sort → ℕ
sort_number arithmetic = 1
sort_number boolean = 2
sort_number bit = 3

-- the sort of a number
unfoldable pub sort_numbered : ℕ → Option Sort
sort_numbered n = get_or (none ∷ some arithmetic ∷ some boolean ∷ some bit ∷ []) n none

-- two sorts are one
abbrev pub same : Sort → Sort → Bool
same arithmetic arithmetic = true
same arithmetic boolean = false
same arithmetic bit = false
same boolean arithmetic = false
same boolean boolean = true
same boolean bit = false
same bit arithmetic = false
same bit boolean = false
same bit bit = true

-- the type of the values on a wire
abbrev pub type_at : Sort → Ty
type_at arithmetic = uint
type_at boolean = uint
type_at bit = bool

-- a word may stand on a wire of a sort: a bool is 0 or 1
abbrev pub fits_sort : Sort → ℕ → Bool
fits_sort arithmetic v = true
fits_sort boolean v = true
fits_sort bit v = leb v 1

-- a secret declaration, a public value put out, an input, the chosen arm of a public guard: uint sort 1, bool sort 3
abbrev pub kept_at : Ty → Sort
kept_at uint = arithmetic
kept_at bool = bit

-- the arms under a secret guard: uint sort 2, bool sort 3
abbrev pub muxed_at : Ty → Sort
muxed_at uint = boolean
muxed_at bool = bit

-- a secret operator: the sort that its sides are brought to, and its result's
abbrev pub side_at : Op → Sort
side_at add = arithmetic
side_at gt = boolean

abbrev pub result_at : Op → Sort
result_at add = arithmetic
result_at gt = bit

-- what an operator gives: addition wraps at 2^32; > gives 1 or 0
unfoldable pub applied : Op → ℕ → ℕ → ℕ
applied add a b = (a + b) % 2 ^ 32
applied gt a b = cond (ltb b a) 1 0

-- the first of two where a guard is true, the second where it is false
unfoldable pub arm : {A : Type 0} → ℕ → A → A → A
arm zero a b = b
arm (suc n) a b = a
