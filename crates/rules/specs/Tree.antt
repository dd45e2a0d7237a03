-- Document 01, "Rows", and Figure 1: the program of a table is a tree, one constructor for each kind of row, its row first.
use Rattle.std.specs.Prelude.{ℕ, zero, suc, ◌-◌, ◌/◌, ◌%◌, true, false, List, ltb}
use Rattle.rules.specs.Rows.{Row, Name, Ty, uint, bool, Op, Kind, unknown, is_e, is_s, of_number, of_truth, of_name, of_two, of_choose, of_element, of_input}
use Rattle.rules.specs.Rows.{of_declare, of_assign, of_loop, of_write, of_branch, of_out, of_then, word, kind_at, row_count}

-- number: its value. truth: 0 or 1. name: the name. two: operator and sides. choose (cond): guard, first, second.
-- element: name and index. input: type, desk and number
pub data Expr : Type 0 where
  number truth : Row → ℕ → Expr
  name : Row → Name → Expr
  two : Row → Op → Expr → Expr → Expr
  choose : Row → Expr → Expr → Expr → Expr
  element : Row → Name → Expr → Expr
  input : Row → Ty → ℕ → ℕ → Expr

-- declare: name, type and length (0 plain). assign: name and value. loop (for): name, body, first and last.
-- write: name, index and value. branch (if): guard and two statements. out: value. then: two statements
pub data Stmt : Type 0 where
  declare : Row → Name → Ty → ℕ → Stmt
  assign : Row → Name → Expr → Stmt
  loop : Row → Name → Stmt → ℕ → ℕ → Stmt
  write : Row → Name → Expr → Expr → Stmt
  branch : Row → Expr → Stmt → Stmt → Stmt
  out : Row → Expr → Stmt
  then : Row → Stmt → Stmt → Stmt

-- the row of an expression, and of a statement
unfoldable pub row_e : Expr → Row
row_e (number r n) = r
row_e (truth r n) = r
row_e (name r x) = r
row_e (two r o a b) = r
row_e (choose r g a b) = r
row_e (element r x i) = r
row_e (input r t d n) = r

unfoldable pub row_s : Stmt → Row
row_s (declare r x t n) = r
row_s (assign r x e) = r
row_s (loop r x b f l) = r
row_s (write r x i e) = r
row_s (branch r g a b) = r
row_s (out r e) = r
row_s (then r a b) = r

-- a type by its number; check 2 leaves 0 and 1
unfoldable pub type_of : ℕ → Ty
type_of zero = uint
type_of (suc n) = bool

-- the expression of a row with its kind and words a, b, c, where `sub` gives the expressions of its children. What is no
-- expression reads as the number 0: check 2 refuses it
unfoldable pub expr_of : Kind → Row → ℕ → ℕ → ℕ → (Row → Expr) → Expr
expr_of unknown r a b c sub = number r 0
expr_of (is_s k) r a b c sub = number r 0
expr_of (is_e of_number) r a b c sub = number r a
expr_of (is_e of_truth) r a b c sub = truth r a
expr_of (is_e of_name) r a b c sub = name r a
expr_of (is_e (of_two o)) r a b c sub = two r o (sub a) (sub b)
expr_of (is_e of_choose) r a b c sub = choose r (sub a) (sub b) (sub c)
expr_of (is_e of_element) r a b c sub = element r a (sub b)
expr_of (is_e of_input) r a b c sub = input r (type_of a) b c

-- the statement of a row, where `part` gives the statements of its children; a loop's c is first * 65536 + last. What is no
-- statement reads as an out of 0
unfoldable pub stmt_of : Kind → Row → ℕ → ℕ → ℕ → (Row → Expr) → (Row → Stmt) → Stmt
stmt_of unknown r a b c sub part = out r (number r 0)
stmt_of (is_e k) r a b c sub part = out r (number r 0)
stmt_of (is_s of_declare) r a b c sub part = declare r a (type_of b) c
stmt_of (is_s of_assign) r a b c sub part = assign r a (sub b)
stmt_of (is_s of_loop) r a b c sub part = loop r a (part b) (c / 65536) (c % 65536)
stmt_of (is_s of_write) r a b c sub part = write r a (sub b) (sub c)
stmt_of (is_s of_branch) r a b c sub part = branch r (sub a) (part b) (part c)
stmt_of (is_s of_out) r a b c sub part = out r (sub a)
stmt_of (is_s of_then) r a b c sub part = then r (part a) (part b)

-- f at the rows below r, and d elsewhere: what is no lower row is no child
unfoldable pub below : {A : Type 0} → A → Row → (Row → A) → Row → A
below d r f a = elim (ltb a r) [ true ↦ f a | false ↦ d ]

-- row r, made by `step` from the rows below it, read n levels deep; r + 1 levels are enough
unfoldable pub levels : {A : Type 0} → (Row → (Row → A) → A) → A → ℕ → Row → A
levels step d zero r = d
levels step d (suc n) r = step r (below d r (levels step d n))

unfoldable pub by_rows : {A : Type 0} → (Row → (Row → A) → A) → A → Row → A
by_rows step d r = levels step d (suc r) r

-- what stands at row r of a table's words
unfoldable pub expr_at : List ℕ → Row → Expr
expr_at t = by_rows (λ r. expr_of (kind_at t r) r (word t r 1) (word t r 2) (word t r 3)) (number 0 0)

unfoldable pub stmt_at : List ℕ → Row → Stmt
stmt_at t = by_rows (λ r. stmt_of (kind_at t r) r (word t r 1) (word t r 2) (word t r 3) (expr_at t)) (out 0 (number 0 0))

-- the last row is the program
unfoldable pub program : List ℕ → Stmt
program t = stmt_at t (row_count t - 1)
