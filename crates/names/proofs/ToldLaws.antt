-- What the code knows of a row before it checks the row: what the row's name stands for, and what is noted of the expressions in it.
use Rattle.std.proofs.Common.{arith, ℕ, ◌<◌, ◌≡◌, refl, sym, ap, ◌∙◌, List, get_or}
use Rattle.std.proofs.lemmas.Grind.{common_steps}
use Rattle.std.specs.Prelude as code
use Rattle.std.proofs.Math.Option.{Option, some}
use Rattle.std.proofs.Math.Dec.{T}
use Rattle.words.specs.Words.{words}
use Rattle.rules.specs.Rows.{Op, Kind, is_e, is_s, word, kind_at, Field, within, expr, stmt, shape_of}
use Rattle.rules.specs.Rows.{of_name, of_element, of_assign, of_write}
use Rattle.rules.specs.Tree.{Expr, expr_of, stmt_of, expr_at, stmt_at}
use Rattle.rules.specs.Scope.{Known, Scope, lookup}
use Rattle.rules.specs.Names.{named}
use Rattle.rules.specs.Sites.{Node, site}
use Rattle.rules.specs.Answers.{rows_of}
use Rattle.circuit.specs.Gates.{meant_op}
use Rattle.rows.specs.Passed.{Passes}
use Rattle.rows.specs.ByRow.{node_of, site_at, depth_at, scope_at}
use Rattle.rows.proofs.Formed.{formed, node_law}
use Rattle.rows.proofs.ByRows.{Kid, kids, site_is}
use Rattle.table.specs.declared.row.Row.{Row}
use Rattle.table.specs.Shapes.{as_op}
use Rattle.names.specs.Declares.{name_of, found_by, known_by, Declares, Knows}
use Rattle.names.specs.Notes.{given_at, declaration_at, CanNote}
use Rattle.names.proofs.NoteLaws.{said, declared_row, said_by, declared_by, declared_found, passes_two, passes_three, named_at, noted_part}

-- an operator in code means the operator that it was made from
pub meant_op_lem : (o : Op) → meant_op (as_op o) ≡ o
meant_op_lem o = grind (arith, common_steps)

-- what stands at a row of a kind with the words a, b and c
abbrev pub node_with : List ℕ → ℕ → Kind → ℕ → ℕ → ℕ → Node
node_with t r k a b c = node_of k (expr_of k r a b c (expr_at t)) (stmt_of k r a b c (expr_at t) (stmt_at t))

-- f of the expression in a word is noted, where its field holds one
abbrev pub NotedIn : {A : Type 0} → (Scope → Expr → A) → A → List ℕ → Scope → List A → Field → ℕ → Type 0
NotedIn f blank t sc notes (within low high) w = Unit {0}
NotedIn f blank t sc notes expr w = get_or notes w blank ≡ f sc (expr_at t w)
NotedIn f blank t sc notes stmt w = Unit {0}

pub record NotedWords {A : Type 0} (f : Scope → Expr → A) (blank : A) (t : List ℕ) (sc : Scope) (notes : List A) (k : Kind) (a b c : ℕ) : Type 0 where
  pub a_is : NotedIn f blank t sc notes (shape_of k).a a
  pub b_is : NotedIn f blank t sc notes (shape_of k).b b
  pub c_is : NotedIn f blank t sc notes (shape_of k).c c

-- the site of a row of a table that passes check 5
pub site_with : (table : List ℕ) → Passes 5 table → (r : ℕ) → r < rows_of table
    → site_at table r ≡ site (depth_at table r) (scope_at table r)
    (node_with (words table) r (kind_at (words table) r) (word (words table) r 1) (word (words table) r 2) (word (words table) r 3))
site_with table ok r h =
    site_is table (passes_three table ok) r h
    ∙ ap (site (depth_at table r) (scope_at table r)) (node_law (formed table (passes_two table ok)) r h)

-- what stands at the row passes check 5 in its scope
pub named_with : (table : List ℕ) → Passes 5 table → (r : ℕ) → r < rows_of table
    → T (named (scope_at table r)
    (node_with (words table) r (kind_at (words table) r) (word (words table) r 1) (word (words table) r 2) (word (words table) r 3)))
named_with table ok r h = rw (node_law (formed table (passes_two table ok)) r h) at (named_at table ok r h)

-- what the name of a row of a kind stands for in a scope
abbrev pub found_with : List ℕ → Scope → ℕ → Kind → ℕ → ℕ → ℕ → Option Known
found_with t sc r k a b c = found_by sc (name_of (node_with t r k a b c))

-- q is what the name in word a stands for in a scope, where a row of a kind reads the name or stores to it
abbrev pub KnownIn : Scope → Kind → ℕ → Option Known → Type 0
KnownIn sc (is_e of_name) a q = q ≡ lookup sc a
KnownIn sc (is_e of_element) a q = q ≡ lookup sc a
KnownIn sc (is_s of_assign) a q = q ≡ lookup sc a
KnownIn sc (is_s of_write) a q = q ≡ lookup sc a
KnownIn sc _ a q = Unit {0}

-- check 5 finds each name that is read or stored to
known_of_kind : (t : List ℕ) (sc : Scope) (r a b c : ℕ) (q : Option Known) (k : Kind) → T (named sc (node_with t r k a b c))
    → ((x : Known) → found_with t sc r k a b c ≡ some x → q ≡ some x) → KnownIn sc k a q
unfolding named expr_of stmt_of name_of
known_of_kind t sc r a b c q k passes stands = grind (arith, common_steps, declared_found)

-- row r of a table that passes check 5
module _ {table : List ℕ} {binders : List (code.Option Row)} {r : ℕ} (ok : Passes 5 table) (knows : Knows table binders) (h : r < rows_of table) where
  abbrev t : List ℕ
  t = words table

  -- what the code knows of its name is what the name stands for
  pub known_in : KnownIn (scope_at table r) (kind_at t r) (word t r 1) (known_by t (get_or binders r code.None))
  known_in =
      let stands = rw (node_law (formed table (passes_two table ok)) r h) at (knows.stands r h) in
      known_of_kind t (scope_at table r) r (word t r 1) (word t r 2) (word t r 3) _ (kind_at t r) (named_with table ok r h) stands

-- row r by what check 5 leaves, which says more: what is said of the row's name, and which declaration it is, also where it stands for nothing
module _ (table : List ℕ) (binders : List (code.Option Row)) (r : ℕ) (ok : Passes 5 table) (declares : Declares table binders) (h : r < rows_of table) where
  abbrev binder : code.Option Row
  binder = get_or binders r code.None

  -- what its name stands for
  abbrev found : Option Known
  found = found_with (words table) (scope_at table r) r (kind_at (words table) r) (word (words table) r 1) (word (words table) r 2) (word (words table) r 3)

  stands_is : known_by (words table) binder ≡ found
  stands_is =
      declares.stands r h
      ∙ ap (λ n. found_by (scope_at table r) (name_of n)) (node_law (formed table (passes_two table ok)) r h)

  pub said_is : given_at (words table) binder ≡ said found
  said_is = sym (said_by (words table) binder) ∙ ap said stands_is

  pub declared_is : declaration_at (words table) binder ≡ declared_row found
  declared_is = sym (declared_by (words table) binder) ∙ ap declared_row stands_is

-- what is noted of the expressions in row r
module _ {A : Type 0} {f : Scope → Expr → A} {blank : A} {table : List ℕ} {notes : List A} {r : ℕ} (ok : Passes 5 table)
    (can : CanNote f blank table notes r) where
  noted_in : (fl : Field) (w : ℕ) → Kid table fl w r → NotedIn f blank (words table) (scope_at table r) notes fl w
  noted_in (within low high) w kid = tt
  noted_in expr w kid = noted_part f blank table can w kid.0 kid.1 kid.2
  noted_in stmt w kid = tt

  pub noted_words : NotedWords f blank (words table) (scope_at table r) notes (kind_at (words table) r)
      (word (words table) r 1) (word (words table) r 2) (word (words table) r 3)
  noted_words =
      let t = words table in
      let of = kids table (passes_three table ok) r can.there (kind_at t r) refl in
      record {
        a_is = noted_in (shape_of (kind_at t r)).a (word t r 1) of.a;
        b_is = noted_in (shape_of (kind_at t r)).b (word t r 2) of.b;
        c_is = noted_in (shape_of (kind_at t r)).c (word t r 3) of.c;
      }
