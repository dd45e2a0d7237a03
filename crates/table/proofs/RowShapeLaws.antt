-- A row as code reads it, in the rules' terms.
use Prim.Native.Nat.{ℕ, zero, suc, ◌+◌, ◌<◌}
use mathlib.Core.List.{List}
use mathlib.Core.Path.{◌≡◌, refl, sym, ◌∙◌}
use mathlib.Core.Bool.{Bool, true, false, not, ◌||◌}
use lib.Dec.{eqb}
use lib.ListN.{get_or}
use native.Mathlib.Omega.{arith}
use Rattle.std.specs.Prelude.{Some}
use Rattle.std.specs.Option.{option_eq}
use Rattle.rules.specs.Rows.{Kind, unknown, is_e, is_s, is_stmt, Field, within, expr, stmt, word, kind_at, shape_of, fits, shaped, row_shaped}
use Rattle.table.specs.declared.shapes.Field as code
use Rattle.table.specs.declared.shapes.Sort.{Sort}
use Rattle.table.specs.declared.shapes.Sort.TheVariants.{Expr, Stmt}
use Rattle.table.specs.Shapes.{as_sort, as_field, meant_field, fields, row_words}

-- a field in code means the field that it was made from
pub meant_field_lem : (f : Field) → meant_field (as_field f) ≡ f
meant_field_lem (within low high) = refl
meant_field_lem expr = refl
meant_field_lem stmt = refl

-- a row's sort says whether its kind is a statement's
pub sort_stmt : (same : Sort → Sort → Bool) → same Expr Stmt ≡ false → same Stmt Stmt ≡ true → (k : Kind) → option_eq same (as_sort k) (Some Stmt) ≡ is_stmt k
sort_stmt same other itself unknown = refl
sort_stmt same other itself (is_e k) = other
sort_stmt same other itself (is_s k) = itself

-- the first k words of row r fit
abbrev pub FitTo : List ℕ → ℕ → ℕ → Type 0
FitTo t r zero = Unit {0}
FitTo t r (suc zero) = fits t r (word t r 1) (shape_of (kind_at t r)).a ≡ true
FitTo t r (suc (suc zero)) = (fits t r (word t r 1) (shape_of (kind_at t r)).a ≡ true) × (fits t r (word t r 2) (shape_of (kind_at t r)).b ≡ true)
FitTo t r (suc (suc (suc k))) = shaped t r (shape_of (kind_at t r)) ≡ true

module _ (t : List ℕ) (r : ℕ) (items : List (ℕ × code.Field)) (none : ℕ × code.Field) (is : items ≡ fields (row_words t r)) where
  -- whether word k fits
  abbrev fits_at : ℕ → Bool
  fits_at k = fits t r (get_or items k none).0 (meant_field (get_or items k none).1)

  at_a : fits_at 0 ≡ fits t r (word t r 1) (shape_of (kind_at t r)).a
  at_a = rw (is, meant_field_lem (shape_of (kind_at t r)).a) refl

  at_b : fits_at 1 ≡ fits t r (word t r 2) (shape_of (kind_at t r)).b
  at_b = rw (is, meant_field_lem (shape_of (kind_at t r)).b) refl

  at_c : fits_at 2 ≡ fits t r (word t r 3) (shape_of (kind_at t r)).c
  at_c = rw (is, meant_field_lem (shape_of (kind_at t r)).c) refl

  -- where it does, one more does
  pub fits_next : (k : ℕ) → k < 3 → FitTo t r k → fits_at k ≡ true → FitTo t r (k + 1)
  fits_next zero less so_far e = sym at_a ∙ e
  fits_next (suc zero) less so_far e = (so_far, sym at_b ∙ e)
  fits_next (suc (suc zero)) less so_far e = rw (so_far.0, so_far.1, sym at_c ∙ e) refl
  fits_next (suc (suc (suc k))) less so_far e = absurd (omega arith)

  -- and where it does not, the row has not its kind's shape
  pub fits_not : (k : ℕ) → k < 3 → FitTo t r k → fits_at k ≡ false → (n : ℕ) → row_shaped t n r ≡ false
  unfolding row_shaped
  fits_not zero less so_far e n = rw (sym at_a ∙ e) refl
  fits_not (suc zero) less so_far e n = rw (so_far, sym at_b ∙ e) refl
  fits_not (suc (suc zero)) less so_far e n = rw (so_far.0, so_far.1, sym at_c ∙ e) refl
  fits_not (suc (suc (suc k))) less so_far e n = absurd (omega arith)

-- where all three fit, the rest of check 2 is asked of the row
pub fits_all : (t : List ℕ) (r k : ℕ) → FitTo t r k → k ≡ 3 → (n : ℕ) → row_shaped t n r ≡ (is_stmt (kind_at t r) || not (eqb (suc r) n))
unfolding row_shaped
fits_all t r k so_far end n = let all : FitTo t r 3 = rw end at so_far in rw all refl
