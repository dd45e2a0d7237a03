-- Document 01, "Rows": a table is words, four to a row (kind, a, b, c), and the shape of each kind is one line of a fixed
-- table. With "Order of refusals", checks 1, 2 and 3.
use Rattle.std.specs.Prelude.{ℕ, zero, suc, ◌+◌, ◌*◌, ◌/◌, ◌%◌, Bool, true, false, not, cond, ◌&&◌, ◌||◌, List, [], ◌∷◌, length, get_or, eqb, ltb, leb}
use Rattle.words.specs.Words.{words}

-- Rows, wires and names are numbers of their own: a definition says which one it means.
abbrev pub Row : Type 0
Row = ℕ

abbrev pub Wire : Type 0
Wire = ℕ

abbrev pub Name : Type 0
Name = ℕ

-- Figure 1, base types: 0 and 1 in a table
pub data Ty : Type 0 where
  uint bool : Ty

-- the operators with two sides, + and >
pub data Op : Type 0 where
  add gt : Op

-- the kinds of rows: of expressions, of statements, and numbers that are no kind
pub data ExprKind : Type 0 where
  of_number of_truth of_name : ExprKind
  of_two : Op → ExprKind
  of_choose of_element of_input : ExprKind

pub data StmtKind : Type 0 where
  of_declare of_assign of_loop of_write of_branch of_out of_then : StmtKind

pub data Kind : Type 0 where
  unknown : Kind
  is_e : ExprKind → Kind
  is_s : StmtKind → Kind

-- the kind of each number, from 0 on: 1 to 8 are expressions, 16 to 22 statements
unfoldable pub kinds : List Kind
kinds =
    unknown
    ∷ is_e of_number
    ∷ is_e of_truth
    ∷ is_e of_name
    ∷ is_e (of_two add)
    ∷ is_e of_choose
    ∷ is_e (of_two gt)
    ∷ is_e of_element
    ∷ is_e of_input
    ∷ unknown ∷ unknown ∷ unknown ∷ unknown ∷ unknown ∷ unknown ∷ unknown
    ∷ is_s of_declare
    ∷ is_s of_assign
    ∷ is_s of_loop
    ∷ is_s of_write
    ∷ is_s of_branch
    ∷ is_s of_out
    ∷ is_s of_then
    ∷ []

-- word k of row r of a table's words (kind, a, b, c are 0 to 3), the row's kind, and how many rows there are
unfoldable pub word : List ℕ → Row → ℕ → ℕ
word t r k = get_or t (4 * r + k) 0

unfoldable pub kind_at : List ℕ → Row → Kind
kind_at t r = get_or kinds (word t r 0) unknown

unfoldable pub row_count : List ℕ → ℕ
row_count t = length t / 4

-- a field holds a number of a range, or the row of an expression or of a statement
pub data Field : Type 0 where
  within : ℕ → ℕ → Field
  expr stmt : Field

-- any word; a word that is not listed; what no word is; a name
abbrev pub any : Field
any = within 0 4294967295

abbrev pub unlisted : Field
unlisted = within 0 0

abbrev pub never : Field
never = within 1 0

abbrev pub a_name : Field
a_name = within 0 63

pub record Shape : Type 0 where
  pub a : Field
  pub b : Field
  pub c : Field

abbrev shape : Field → Field → Field → Shape
shape x y z = record { a = x; b = y; c = z }

-- the fixed table; nothing fits the shape of an unknown kind
abbrev pub shape_of : Kind → Shape
shape_of unknown = shape never never never
shape_of (is_e of_number) = shape any unlisted unlisted
shape_of (is_e of_truth) = shape (within 0 1) unlisted unlisted
shape_of (is_e of_name) = shape a_name unlisted unlisted
shape_of (is_e (of_two o)) = shape expr expr unlisted
shape_of (is_e of_choose) = shape expr expr expr
shape_of (is_e of_element) = shape a_name expr unlisted
shape_of (is_e of_input) = shape (within 0 1) (within 1 2) (within 0 63)
shape_of (is_s of_declare) = shape a_name (within 0 1) (within 0 64)
shape_of (is_s of_assign) = shape a_name expr unlisted
shape_of (is_s of_loop) = shape a_name stmt any
shape_of (is_s of_write) = shape a_name expr expr
shape_of (is_s of_branch) = shape expr stmt stmt
shape_of (is_s of_out) = shape expr unlisted unlisted
shape_of (is_s of_then) = shape stmt stmt unlisted

abbrev pub is_expr : Kind → Bool
is_expr unknown = false
is_expr (is_e k) = true
is_expr (is_s k) = false

abbrev pub is_stmt : Kind → Bool
is_stmt unknown = false
is_stmt (is_e k) = false
is_stmt (is_s k) = true

-- word w of row r fits its field: a child has a lower number than its parent and is of the right sort
abbrev pub fits : List ℕ → Row → ℕ → Field → Bool
fits t r w (within low high) = leb low w && leb w high
fits t r w expr = ltb w r && is_expr (kind_at t w)
fits t r w stmt = ltb w r && is_stmt (kind_at t w)

-- the three words of row r fit a shape
abbrev pub shaped : List ℕ → Row → Shape → Bool
shaped t r s = fits t r (word t r 1) s.a && (fits t r (word t r 2) s.b && fits t r (word t r 3) s.c)

-- check 1, of the table's bytes: whole words, some, four to a row, at most 4,096
unfoldable pub table_fits : List ℕ → Bool
table_fits b = eqb (length b % 4) 0 && (ltb 0 (length (words b)) && (eqb (length (words b) % 4) 0 && leb (length (words b)) 4096))

-- check 2, of row r of n: it has its kind's shape, and the last row is a statement
unfoldable pub row_shaped : List ℕ → ℕ → Row → Bool
row_shaped t n r = shaped t r (shape_of (kind_at t r)) && (is_stmt (kind_at t r) || not (eqb (suc r) n))

-- how often row r is the child of a field that holds w: once or not at all
unfoldable pub child_of : Row → ℕ → Field → ℕ
child_of r w (within low high) = 0
child_of r w expr = cond (eqb w r) 1 0
child_of r w stmt = cond (eqb w r) 1 0

-- how often it is a child of row q, which has this shape
unfoldable pub children_in : List ℕ → Row → Row → Shape → ℕ
children_in t r q s = child_of r (word t q 1) s.a + child_of r (word t q 2) s.b + child_of r (word t q 3) s.c

-- how often it is a child of the rows below n
unfoldable pub uses : List ℕ → Row → ℕ → ℕ
uses t r zero = 0
uses t r (suc q) = children_in t r q (shape_of (kind_at t q)) + uses t r q

-- check 3, of row r of n: it is the last, or the child of exactly one place
unfoldable pub used_once : List ℕ → ℕ → Row → Bool
used_once t n r = eqb (suc r) n || eqb (uses t r n) 1
