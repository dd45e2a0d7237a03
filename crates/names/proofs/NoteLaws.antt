-- What the notes of checks 6, 7 and 8 rest on: what the code knows of a row's name, and notes of rows from the lowest up.
use Prim.Native.Nat.{ℕ, ◌+◌, ◌<◌}
use mathlib.Core.Path.{◌≡◌, refl, subst}
use mathlib.Core.Bool.{cond}
use mathlib.Core.Option.{Option, none, some}
use mathlib.Core.List.{List}
use lib.Dec.{T}
use lib.ListN.{length, get_or, set}
use native.Mathlib.Omega.{arith}
use Rattle.std.proofs.lemmas.Grind.{common_steps}
use Rattle.std.specs.Prelude as code
use Rattle.words.specs.Words.{words}
use Rattle.rules.specs.Rows.{Kind, word, kind_at, is_expr}
use Rattle.rules.specs.Tree.{Expr, expr_at}
use Rattle.rules.specs.Scope.{Known, declared, looped, Scope, type_found, length_found}
use Rattle.rules.specs.Names.{is_found, is_declared, named, check5}
use Rattle.rules.specs.Counts.{count_found}
use Rattle.rules.specs.Answers.{rows_of, failing5}
use Rattle.rows.specs.Passed.{Passes}
use Rattle.rows.specs.ByRow.{node_at, scope_at, known_of, known_at}
use Rattle.rows.proofs.Table.{passes_fewer}
use Rattle.rows.proofs.ByRows.{site_is, none_by_rows}
use Rattle.table.specs.declared.row.Row.{Row}
use Rattle.table.specs.Shapes.{as_kind}
use Rattle.table.specs.Meaning.{as_type, meaning_of, meaning_at}
use Rattle.names.specs.Naming.{is_declare}
use Rattle.names.specs.Declares.{known_by}
use Rattle.names.specs.declared.notes.Given.{Given}
use Rattle.names.specs.Notes.{given_with, given_by, given_at, declaration_at, NotedTo, CanNote}

-- what is said of a name that stands for q: its type, its length and what it counts
abbrev pub said : Option Known → Given
said q = given_with (as_type (type_found q)) (length_found q) (count_found q)

-- the declaration that the name stands for
abbrev pub declared_row : Option Known → code.Option Row
declared_row none = code.None
declared_row (some (declared d y n)) = code.Some (record { 0 = d })
declared_row (some (looped d l)) = code.None

-- What the binding row says of the name, by its kind and words,
said_of : (k : Kind) (d a b c : ℕ) → said (some (known_of k d b c)) ≡ given_by (meaning_of (as_kind k) a b c)
said_of k d a b c = grind (arith, common_steps)

-- and which declaration it is.
declared_of : (k : Kind) (d a b c : ℕ)
    → declared_row (some (known_of k d b c)) ≡ cond (is_declare (meaning_of (as_kind k) a b c)) (code.Some (record { 0 = d })) code.None
declared_of k d a b c = grind (arith, common_steps)

-- the same of the row of a table's words that binds the name, if there is one
module _ (t : List ℕ) where
  pub said_by : (binder : code.Option Row) → said (known_by t binder) ≡ given_at t binder
  unfolding known_at meaning_at
  said_by code.None = refl
  said_by (code.Some d) = said_of (kind_at t d.0) d.0 (word t d.0 1) (word t d.0 2) (word t d.0 3)

  pub declared_by : (binder : code.Option Row) → declared_row (known_by t binder) ≡ declaration_at t binder
  unfolding known_at meaning_at
  declared_by code.None = refl
  declared_by (code.Some d) = declared_of (kind_at t d.0) d.0 (word t d.0 1) (word t d.0 2) (word t d.0 3)

-- what is declared is found
pub declared_found : (o : Option Known) → T (is_declared o) → T (is_found o)
declared_found o h = grind (arith, common_steps)

module _ (table : List ℕ) (ok : Passes 5 table) where
  -- the first three checks are passed
  pub passes_three : Passes 3 table
  passes_three = passes_fewer table 3 (passes_fewer table 4 ok)

  -- so are the first two, and the first
  pub passes_two : Passes 2 table
  passes_two = passes_fewer table 2 passes_three

  pub passes_one : Passes 1 table
  passes_one = passes_fewer table 1 passes_two

  -- every row passes check 5 in its scope
  pub named_at : (r : ℕ) → r < rows_of table → T (named (scope_at table r) (node_at (words table) r))
  unfolding check5 failing5
  named_at r h = subst (λ s. T (check5 s)) (site_is table passes_three r h) (none_by_rows table passes_three check5 ok.1.1.1.1.0 r h)

-- f is what is noted of an expression, and `blank` what is noted of none
module _ {A : Type 0} (f : Scope → Expr → A) (blank : A) (table : List ℕ) where
  -- nothing is noted below row 0
  pub noted_none : (notes : List A) → NotedTo f blank table notes 0
  noted_none notes r h = grind (arith, common_steps)

  -- one row more is noted
  pub noted_next : (notes : List A) (i : ℕ) (v : A) → NotedTo f blank table notes i → i < length notes
      → (T (is_expr (kind_at (words table) i)) → v ≡ f (scope_at table i) (expr_at (words table) i)) → NotedTo f blank table (set notes i v) (i + 1)
  noted_next notes i v lower room is r h e = let before = lower r in grind (arith, common_steps)

  -- what is noted of an expression in a row is f of it in the row's scope
  pub noted_part : {notes : List A} {r : ℕ} → CanNote f blank table notes r → (w : ℕ) → w < r → T (is_expr (kind_at (words table) w))
      → scope_at table w ≡ scope_at table r → get_or notes w blank ≡ f (scope_at table r) (expr_at (words table) w)
  noted_part can w low e same = let noted = can.lower w low e in grind (arith, common_steps)
