-- What is noted of each row's expression, and what the row that binds a name says of the name (document 01, "Names, labels,
-- indexes"). Only functions inside the desk cite it.
use Rattle.std.specs.Prelude.{ℕ, ◌<◌, ◌≡◌, cond, List, T, get_or, Option, Some, None}
use Rattle.words.specs.Words.{words}
use Rattle.rules.specs.Rows.{kind_at, is_expr}
use Rattle.rules.specs.Tree.{Expr, expr_at}
use Rattle.rules.specs.Scope.{Scope}
use Rattle.rules.specs.Answers.{rows_of}
use Rattle.rows.specs.ByRow.{scope_at}
use Rattle.table.specs.declared.row.Row.{Row}
use Rattle.table.specs.declared.meaning.Ty.{Ty}
use Rattle.table.specs.declared.meaning.Ty.TheVariants.{Uint}
use Rattle.table.specs.declared.meaning.Meaning.{Meaning}
use Rattle.table.specs.declared.meaning.Meaning.TheVariants as m
use Rattle.table.specs.Meaning.{meaning_at}
use Rattle.names.specs.declared.notes.Given.{Given}
use Rattle.names.specs.Naming.{is_declare}

-- x is noted at row r; past the notes it is the default
pub record IsNoted {A : Type 0} (IsDefault : A → Type 0) (notes : List A) (r : ℕ) (x : A) : Type 0 where
  pub none : A
  pub default : IsDefault none
  pub is : x ≡ get_or notes r none

-- a name's type, its length and what it counts; no row but a declaration or a loop binds a name
abbrev pub given_with : Ty → ℕ → ℕ → Given
given_with y n l = record { ty = y; length = n; count = l }

-- what is said of a name that stands for nothing
abbrev pub given_none : Given
given_none = given_with Uint 0 4294967295

-- what the row that binds a name says of it, by its meaning
abbrev pub given_by : Meaning → Given
given_by (m.Declare x y n) = given_with y n 4294967295
given_by (m.For x b f l) = given_with Uint 0 l
given_by _ = given_none

-- what is said of a name, by the row that binds it
abbrev pub given_at : List ℕ → Option Row → Given
given_at t None = given_none
given_at t (Some binder) = given_by (meaning_at t binder.0)

-- the declaration that a name stands for, by the row that binds it
abbrev pub declaration_at : List ℕ → Option Row → Option Row
declaration_at t None = None
declaration_at t (Some binder) = cond (is_declare (meaning_at t binder.0)) (Some binder) None

-- f of each expression at a row below i, in its scope, is noted
abbrev pub NotedTo : {A : Type 0} → (Scope → Expr → A) → A → List ℕ → List A → ℕ → Type 0
NotedTo f none table notes i =
    (r : ℕ) → r < i → T (is_expr (kind_at (words table) r)) → get_or notes r none ≡ f (scope_at table r) (expr_at (words table) r)

-- f is noted below row r, a row of the table
pub record CanNote {A : Type 0} (f : Scope → Expr → A) (none : A) (table : List ℕ) (notes : List A) (r : ℕ) : Type 0 where
  pub lower : NotedTo f none table notes r
  pub there : r < rows_of table
