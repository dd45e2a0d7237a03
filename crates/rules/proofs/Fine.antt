-- What checks 2 and 5 to 8 and the labels say of a tree in its scope, part by part. S are the secret rows, σ the sorts of the
-- inputs.
use Prim.Native.Nat.{ℕ, ◌≤◌, ◌<◌}
use mathlib.Core.Path.{◌≡◌}
use mathlib.Core.Bool.{Bool, false, ◌||◌}
use mathlib.Core.Option.{none, some}
use lib.Dec.{T, eqb}
use Rattle.rules.specs.Rows.{Ty, uint, bool}
use Rattle.rules.specs.Tree.{Expr, number, truth, name, two, choose, element, input, row_e}
use Rattle.rules.specs.Tree.{Stmt, declare, assign, loop, write, branch, out, then}
use Rattle.rules.specs.Scope.{Known, declared, looped, Scope, lookup, elements, type_k, length_k, in_loop, after}
use Rattle.rules.specs.Types.{type_e}
use Rattle.rules.specs.Counts.{count_k, count}
use Rattle.rules.specs.Sorts.{Sort, kept_at}

-- how many cells a name has, and whether it is secret: a declaration as its row is; a loop's name is public
abbrev pub size_k : Known → ℕ
size_k (declared r t n) = elements n
size_k (looped r l) = 1

abbrev pub label_k : (ℕ → Bool) → Known → Bool
label_k S (declared r t n) = S r
label_k S (looped r l) = false

-- row r reads name x
pub record ReadsName (S : ℕ → Bool) (sc : Scope) (r x : ℕ) : Type 0 where
  pub is : Known
  pub found : lookup sc x ≡ some is
  pub label : T (label_k S is) → T (S r)

-- the value e is stored in name x, which is declared
pub record StoresName (S : ℕ → Bool) (sc : Scope) (x : ℕ) (e : Expr) : Type 0 where
  pub is : Known
  pub found : lookup sc x ≡ some is
  pub uncounted : 4294967295 ≤ count_k is
  pub label : T (S (row_e e)) → T (label_k S is)
  pub type : type_e sc e ≡ type_k is

-- i is an index of an array
pub record Indexes (S : ℕ → Bool) (sc : Scope) (is : Known) (i : Expr) : Type 0 where
  pub public : T (S (row_e i)) → ⊥
  pub below : count sc i < length_k is
  pub uints : type_e sc i ≡ uint

pub record TwoSides (S : ℕ → Bool) (sc : Scope) (r : ℕ) (a b : Expr) : Type 0 where
  pub left : T (S (row_e a)) → T (S r)
  pub right : T (S (row_e b)) → T (S r)
  pub left_uint : type_e sc a ≡ uint
  pub right_uint : type_e sc b ≡ uint

pub record Chooses (S : ℕ → Bool) (sc : Scope) (r : ℕ) (g a b : Expr) : Type 0 where
  pub guard : T (S (row_e g)) → T (S r)
  pub left : T (S (row_e a)) → T (S r)
  pub right : T (S (row_e b)) → T (S r)
  pub guard_bool : type_e sc g ≡ bool
  pub one_type : type_e sc b ≡ type_e sc a

pub record ReadsInput (S : ℕ → Bool) (σ : ℕ → ℕ → Sort) (r : ℕ) (t : Ty) (d n : ℕ) : Type 0 where
  pub secret : T (S r)
  pub desk : T (eqb d 1 || eqb d 2)
  pub low : n < 64
  pub sort : kept_at t ≡ σ d n

-- name x is free to be declared or looped
pub record Free (sc : Scope) (x : ℕ) : Type 0 where
  pub unknown : lookup sc x ≡ none
  pub low : x < 64

module _ (S : ℕ → Bool) (σ : ℕ → ℕ → Sort) where
  abbrev pub FineE : Scope → Expr → Type 0
  FineE sc (number r n) = n ≤ 4294967295
  FineE sc (truth r n) = n ≤ 1
  FineE sc (name r x) = ReadsName S sc r x
  FineE sc (two r o a b) = TwoSides S sc r a b × FineE sc a × FineE sc b
  FineE sc (choose r g a b) = Chooses S sc r g a b × FineE sc g × FineE sc a × FineE sc b
  FineE sc (element r x i) = (n : ReadsName S sc r x) × Indexes S sc n.is i × FineE sc i
  FineE sc (input r t d n) = ReadsInput S σ r t d n

  abbrev pub FineS : Scope → Stmt → Type 0
  FineS sc (declare r x t n) = Free sc x × (elements n ≤ 64)
  FineS sc (assign r x e) = StoresName S sc x e × FineE sc e
  FineS sc (loop r x b f l) = Free sc x × (l ≤ 4294967295) × FineS (in_loop r x l sc) b
  FineS sc (write r x i e) = (n : StoresName S sc x e) × Indexes S sc n.is i × FineE sc i × FineE sc e
  FineS sc (branch r g a b) = (T (S (row_e g)) → ⊥) × (type_e sc g ≡ bool) × FineE sc g × FineS sc a × FineS sc b
  FineS sc (out r e) = FineE sc e
  FineS sc (then r a b) = FineS sc a × FineS (after a sc) b
