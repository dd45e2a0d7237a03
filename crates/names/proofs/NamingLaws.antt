-- What a row does with a name, kind by kind: as its meaning says, so does what stands at the row.
use Prim.Native.Nat.{ℕ, ◌<◌}
use mathlib.Core.Path.{◌≡◌, ap, ◌∙◌}
use mathlib.Core.Option as rules
use mathlib.Core.Option.{none, some}
use mathlib.Core.List.{List}
use native.Mathlib.Omega.{arith}
use Rattle.std.proofs.lemmas.Grind.{common_steps}
use Rattle.std.specs.Prelude.{Option, Some, None}
use Rattle.rules.specs.Rows.{Name, Kind}
use Rattle.rules.specs.Rows.{word, kind_at}
use Rattle.rules.specs.Tree.{Expr, Stmt, expr_of, stmt_of, expr_at, stmt_at}
use Rattle.rules.specs.Scope.{Scope}
use Rattle.rules.specs.Sites.{Node, site}
use Rattle.rules.specs.Names.{is_declared, named, check5}
use Rattle.rows.specs.ByRow.{node_of, node_at, known_of, known_at}
use Rattle.rows.proofs.Formed.{Formed, node_law}
use Rattle.table.specs.Shapes.{as_kind}
use Rattle.table.specs.Meaning.{meaning_of, meaning_at}
use Rattle.names.specs.declared.naming.Naming.{Naming}
use Rattle.names.specs.Naming.{naming_of, is_declare, passes_by}
use Rattle.names.specs.Declares.{name_of, found_by}
use Rattle.names.specs.Sweep.{row_k}

-- the name in what a row does
abbrev pub named_by : Option Naming → rules.Option Name
named_by None = none
named_by (Some naming) = some naming.name

-- a kind with its row and its words a, b, c
module _ (r a b c : ℕ) where
  -- a row whose meaning is a declaration makes its name a declared one
  declare_of : (k : Kind) → is_declare (meaning_of (as_kind k) a b c) ≡ is_declared (some (known_of k r b c))
  declare_of k = grind (arith, common_steps)

  -- what a row makes of its name keeps the row
  row_known_of : (k : Kind) → row_k (known_of k r b c) ≡ r
  row_known_of k = grind (arith, common_steps)

  module _ (sub : ℕ → Expr) (part : ℕ → Stmt) where
    -- what is made of a kind and its words
    abbrev made : Kind → Node
    made k = node_of k (expr_of k r a b c sub) (stmt_of k r a b c sub part)

    -- it names what its meaning names, and check 5 is the rule for what its meaning does with that name
    abbrev Names : Kind → Type 0
    Names k =
        let naming = naming_of (meaning_of (as_kind k) a b c) in
        (name_of (made k) ≡ named_by naming) × ((sc : Scope) → named sc (made k) ≡ passes_by naming (found_by sc (named_by naming)))

    names : (k : Kind) → Names k
    unfolding name_of named expr_of stmt_of
    names k = (grind (arith, common_steps), λ sc. grind (arith, common_steps))

-- a row of a table declares its name where its meaning is a declaration
pub declare_at : (t : List ℕ) (r : ℕ) → is_declare (meaning_at t r) ≡ is_declared (some (known_at t r))
unfolding meaning_at known_at
declare_at t r = declare_of r (word t r 1) (word t r 2) (word t r 3) (kind_at t r)

-- what a row of a table makes of its name has that row
pub row_known : (t : List ℕ) (r : ℕ) → row_k (known_at t r) ≡ r
unfolding known_at
row_known t r = row_known_of r (word t r 1) (word t r 2) (word t r 3) (kind_at t r)

module _ {t : List ℕ} {n : ℕ} (f : Formed t n) (r : ℕ) (h : r < n) where
  -- a row names what its meaning names
  pub name_at : name_of (node_at t r) ≡ named_by (naming_of (meaning_at t r))
  unfolding meaning_at
  name_at = ap name_of (node_law f r h) ∙ (names r (word t r 1) (word t r 2) (word t r 3) (expr_at t) (stmt_at t) (kind_at t r)).0

  -- check 5 of a row goes by what its meaning does with a name
  pub check5_at : (d : ℕ) (sc : Scope)
      → check5 (site d sc (node_at t r)) ≡ passes_by (naming_of (meaning_at t r)) (found_by sc (named_by (naming_of (meaning_at t r))))
  unfolding check5 meaning_at
  check5_at d sc =
      ap (named sc) (node_law f r h)
      ∙ (names r (word t r 1) (word t r 2) (word t r 3) (expr_at t) (stmt_at t) (kind_at t r)).1 sc
