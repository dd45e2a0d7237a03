-- What stands at each row of a table, and at which depth and in which scope (document 01, "Rows" and "Names, labels, indexes"):
-- the code goes by rows, where the rules go by trees. Only functions inside the desk cite it.
use Rattle.std.specs.Prelude.{ℕ, ◌%◌, cond, List, [], ◌∷◌, eqb}
use Rattle.rules.specs.Rows.{Row, Kind, unknown, is_e, is_s, of_declare, of_assign, of_loop, of_write, word, kind_at}
use Rattle.rules.specs.Rows.{of_branch, of_out, of_then}
use Rattle.rules.specs.Tree.{Expr, number, Stmt, type_of, expr_at, stmt_at}
use Rattle.rules.specs.Scope.{Known, declared, looped, Binding, Scope}
use Rattle.rules.specs.Sites.{Node, of_e, of_s, row_n, Site, site}
use Rattle.rules.specs.Answers.{sites_of}

-- the expression or the statement of a row
abbrev pub node_of : Kind → Expr → Stmt → Node
node_of unknown e p = of_e e
node_of (is_e k) e p = of_e e
node_of (is_s k) e p = of_s p

unfoldable pub node_at : List ℕ → Row → Node
node_at t r = node_of (kind_at t r) (expr_at t r) (stmt_at t r)

-- the first site of row r in a list
unfoldable pub site_of : List Site → Row → Site
site_of [] r = site 0 [] (of_e (number r 0))
site_of (s ∷ ss) r = cond (eqb (row_n s.node) r) s (site_of ss r)

-- the site of row r of a table's bytes, its depth and its scope
unfoldable pub site_at : List ℕ → Row → Site
site_at table r = site_of (sites_of table) r

abbrev pub depth_at : List ℕ → Row → ℕ
depth_at table r = (site_at table r).depth

abbrev pub scope_at : List ℕ → Row → Scope
scope_at table r = (site_at table r).scope

-- what the declaration or the loop at row d of a table's words makes of its name (no other row binds one), and the binding
abbrev pub known_of : Kind → Row → ℕ → ℕ → Known
known_of unknown d b c = looped d 4294967295
known_of (is_e k) d b c = looped d 4294967295
known_of (is_s of_declare) d b c = declared d (type_of b) c
known_of (is_s of_assign) d b c = looped d 4294967295
known_of (is_s of_loop) d b c = looped d (c % 65536)
known_of (is_s of_write) d b c = looped d 4294967295
known_of (is_s of_branch) d b c = looped d 4294967295
known_of (is_s of_out) d b c = looped d 4294967295
known_of (is_s of_then) d b c = looped d 4294967295

unfoldable pub known_at : List ℕ → Row → Known
known_at t d = known_of (kind_at t d) d (word t d 2) (word t d 3)

abbrev pub binding_at : List ℕ → Row → Binding
binding_at t d = record { called = word t d 1; is = known_at t d }
