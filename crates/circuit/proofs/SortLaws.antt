-- The sorts, in the rules and in code.
use Rattle.std.proofs.Common.{◌≡◌, refl}
use Rattle.rules.specs.Sorts.{Sort, arithmetic, boolean, bit}
use Rattle.circuit.specs.Sorts.{meant_sort, as_sort}

-- a sort is what it is in code
pub sort_meant : (m : Sort) → meant_sort (as_sort m) ≡ m
sort_meant arithmetic = refl
sort_meant boolean = refl
sort_meant bit = refl
