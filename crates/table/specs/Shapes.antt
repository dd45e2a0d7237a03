-- The table of shapes, as code holds it (document 01, "Rows").
use Rattle.std.specs.Prelude.{ℕ, List, [], ◌∷◌, Option, Some, None}
use Rattle.rules.specs.Rows as rules
use Rattle.rules.specs.Rows.{Row, word, kind_at, unknown, is_e, is_s, of_number, of_truth, of_name, of_two, of_choose, of_element, of_input, shape_of}
use Rattle.rules.specs.Rows.{of_declare, of_assign, of_loop, of_write, of_branch, of_out, of_then}
use Rattle.circuit.specs.declared.gates.Op as operator
use Rattle.table.specs.declared.row.Row as code
use Rattle.table.specs.declared.shapes.Kind.{Kind}
use Rattle.table.specs.declared.shapes.Kind.TheVariants.{Unknown, Number, Truth, Name, Both, Cond, Element, Input, Declare, Assign, For, Write, If, Out, Then}
use Rattle.table.specs.declared.shapes.Sort.{Sort}
use Rattle.table.specs.declared.shapes.Sort.TheVariants.{Expr, Stmt}
use Rattle.table.specs.declared.shapes.Field.{Field}
use Rattle.table.specs.declared.shapes.Field.TheVariants.{Within, Child}
use Rattle.table.specs.declared.shapes.Shape.{Shape}
use Rattle.table.specs.declared.shapes.RowWords.{RowWords}

abbrev pub as_op : rules.Op → operator.Op
as_op rules.add = operator.TheVariants.Add
as_op rules.gt = operator.TheVariants.Greater

-- a kind in code
abbrev pub as_kind : rules.Kind → Kind
as_kind unknown = Unknown
as_kind (is_e of_number) = Number
as_kind (is_e of_truth) = Truth
as_kind (is_e of_name) = Name
as_kind (is_e (of_two o)) = Both (as_op o)
as_kind (is_e of_choose) = Cond
as_kind (is_e of_element) = Element
as_kind (is_e of_input) = Input
as_kind (is_s of_declare) = Declare
as_kind (is_s of_assign) = Assign
as_kind (is_s of_loop) = For
as_kind (is_s of_write) = Write
as_kind (is_s of_branch) = If
as_kind (is_s of_out) = Out
as_kind (is_s of_then) = Then

-- what a row of a kind is
abbrev pub as_sort : rules.Kind → Option Sort
as_sort unknown = None
as_sort (is_e k) = Some Expr
as_sort (is_s k) = Some Stmt

-- a field in code, and the field that it means
abbrev pub as_field : rules.Field → Field
as_field (rules.within low high) = Within low high
as_field rules.expr = Child Expr
as_field rules.stmt = Child Stmt

abbrev pub meant_field : Field → rules.Field
meant_field (Within low high) = rules.within low high
meant_field (Child Expr) = rules.expr
meant_field (Child Stmt) = rules.stmt

-- the row that a word names, where its field holds one
abbrev pub child_in : Field → ℕ → Option code.Row
child_in (Within low high) w = None
child_in (Child s) w = Some (record { 0 = w })

-- the shape of a kind
abbrev pub as_shape : rules.Kind → Shape
as_shape k = record { kind = as_kind k; sort = as_sort k; a = as_field (shape_of k).a; b = as_field (shape_of k).b; c = as_field (shape_of k).c }

-- the words of row r of a table's words, with the shape of its kind
abbrev pub row_words : List ℕ → Row → RowWords
row_words t r = record { shape = as_shape (kind_at t r); a = word t r 1; b = word t r 2; c = word t r 3 }

-- the children in the words of a row
abbrev pub children : RowWords → List (Option code.Row)
children read = child_in read.shape.a read.a ∷ child_in read.shape.b read.b ∷ child_in read.shape.c read.c ∷ []

-- the words of a row, each with its field
abbrev pub fields : RowWords → List (ℕ × Field)
fields read = (read.a, read.shape.a) ∷ (read.b, read.shape.b) ∷ (read.c, read.shape.c) ∷ []
