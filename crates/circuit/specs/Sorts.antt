-- The sorts of wires, as code holds them, in the rules' terms (document 01, "Names, labels, indexes").
use Rattle.std.specs.Prelude.{◌≡◌, ℕ, Bool, ◌&&◌, ◌||◌, [], ◌∷◌, slice_index_or, Result, MatchResult}
use Rattle.std.proofs.Math.Option.{none, some}
use Rattle.rules.specs.Sorts as rules
use Rattle.circuit.specs.declared.sorts.Sort.{Sort}
use Rattle.circuit.specs.declared.sorts.Sort.TheVariants.{Arithmetic, Boolean, Bit}
use Rattle.circuit.specs.declared.sorts.UnknownSort.{UnknownSort}

abbrev pub meant_sort : Sort → rules.Sort
meant_sort Arithmetic = rules.arithmetic
meant_sort Boolean = rules.boolean
meant_sort Bit = rules.bit

-- a sort as code holds it
abbrev pub as_sort : rules.Sort → Sort
as_sort rules.arithmetic = Arithmetic
as_sort rules.boolean = Boolean
as_sort rules.bit = Bit

-- the sort of a number, or an error where it is no sort's
abbrev pub Numbered : ℕ → Result Sort UnknownSort → Type 0
Numbered number r = MatchResult r (λ sort. rules.sort_numbered number ≡ some (meant_sort sort)) (λ e. rules.sort_numbered number ≡ none)

-- the sort of a number; any other number, which no gate that keeps the rules has, is read as boolean
unfoldable pub sort_from : ℕ → rules.Sort
sort_from n = slice_index_or (rules.boolean ∷ rules.arithmetic ∷ rules.boolean ∷ rules.bit ∷ []) n rules.boolean

-- a convert gate goes from arithmetic to boolean, or back
abbrev pub converts : Sort → Sort → Bool
converts k m =
    rules.same (meant_sort k) rules.arithmetic && rules.same (meant_sort m) rules.boolean
    || rules.same (meant_sort k) rules.boolean && rules.same (meant_sort m) rules.arithmetic
