-- A program whose every site passes checks 5 to 8, with the labels of a closed set, is fine in every part.
use Prim.Native.Nat.{ℕ, zero, suc, ◌≤◌}
use mathlib.Core.Path.{◌≡◌, refl, sym}
use mathlib.Core.Bool.{Bool, not, ◌&&◌}
use mathlib.Core.Option.{Option, none, some}
use mathlib.Core.List.{List, ◌++◌}
use lib.Dec.{T, T_not, ltb, ltb→lt}
use native.Mathlib.Omega.{arith}
use Rattle.rules.specs.Rows.{Ty, uint, bool}
use Rattle.rules.specs.Tree.{Expr, number, truth, name, two, choose, element, input, row_e}
use Rattle.rules.specs.Tree.{Stmt, declare, assign, loop, write, branch, out, then}
use Rattle.rules.specs.Scope.{Known, declared, looped, Scope, lookup, elements, type_found, length_k, length_found, in_loop, after}
use Rattle.rules.specs.Sites.{Site, sites_e, sites}
use Rattle.rules.specs.Names.{is_found, is_declared, named, check5}
use Rattle.rules.specs.Types.{type_e, is_a, is_plain, typed, check6}
use Rattle.rules.specs.Labels.{when_read, when_stored, rules_of, inputs_of, Has, Keeps, public, check7}
use Rattle.rules.specs.Counts.{count, counted, check8}
use Rattle.rules.specs.Sorts.{Sort}
use Rattle.rules.proofs.Sites.{Each, each_left, each_right}
use Rattle.rules.proofs.Formed.{FormedE, FormedS}
use Rattle.rules.proofs.InputSorts.{AtInputSort}
use Rattle.rules.proofs.Fine.{ReadsName, StoresName, Indexes, FineE, FineS}
use Rattle.rules.proofs.Basics.{and_left, and_right}

-- what the checks say of a site
pub record Passes (t : List ℕ) (S : ℕ → Bool) (σ : ℕ → ℕ → Sort) (s : Site) : Type 0 where
  pub names : T (check5 s)
  pub types : T (check6 t s)
  pub secrets : T (check7 S s)
  pub counts : T (check8 s)
  pub rules : Keeps S (rules_of s.scope s.node)
  pub sources : Has S (inputs_of s.node)
  pub sort : AtInputSort σ s.node

same_type : (a b : Ty) → T (is_a a b) → a ≡ b
same_type uint uint h = refl
same_type uint bool h = absurd h
same_type bool uint h = absurd h
same_type bool bool h = refl

unfound : (o : Option Known) → T (not (is_found o)) → o ≡ none
unfound none h = refl
unfound (some b) h = absurd h

elements_le : (n : ℕ) → n ≤ 64 → elements n ≤ 64
elements_le zero h = omega arith
elements_le (suc n) h = h

module _ (S : ℕ → Bool) where
  -- a name that is read
  reads_name : (sc : Scope) (r x : ℕ) → T (is_found (lookup sc x)) → Keeps S (when_read (lookup sc x) r) → ReadsName S sc r x
  unfolding when_read
  reads_name sc r x = go (lookup sc x) refl
    where
      go : (o : Option Known) → lookup sc x ≡ o → T (is_found o) → Keeps S (when_read o r) → ReadsName S sc r x
      go none e h k = absurd h
      go (some (declared d t n)) e h k = record { is = declared d t n; found = e; label = k.0 }
      go (some (looped d l)) e h k = record { is = looped d l; found = e; label = λ t. absurd t }

  -- a name that is stored to
  stores_name : (sc : Scope) (x : ℕ) (v : Expr) → T (is_declared (lookup sc x)) → Keeps S (when_stored (row_e v) (lookup sc x))
      → type_e sc v ≡ type_found (lookup sc x) → StoresName S sc x v
  unfolding when_stored
  stores_name sc x v = go (lookup sc x) refl
    where
      go : (o : Option Known) → lookup sc x ≡ o → T (is_declared o) → Keeps S (when_stored (row_e v) o) → type_e sc v ≡ type_found o → StoresName S sc x v
      go none e h k y = absurd h
      go (some (declared d t n)) e h k y = record { is = declared d t n; found = e; uncounted = omega arith; label = k.0; type = y }
      go (some (looped d l)) e h k y = absurd h

  -- an index of a name that stands for b
  indexes : (sc : Scope) (x : ℕ) (i : Expr) (b : Known) → lookup sc x ≡ some b → T (not (S (row_e i))) → T (ltb (count sc i) (length_found (lookup sc x)))
      → T (is_a (type_e sc i) uint) → Indexes S sc b i
  indexes sc x i b e p c y = record {
    public = T_not (S (row_e i)) p;
    below = ltb→lt (count sc i) (length_k b) (rw e at c);
    uints = same_type (type_e sc i) uint y;
  }

module _ (t : List ℕ) (n : ℕ) (S : ℕ → Bool) (σ : ℕ → ℕ → Sort) where
  abbrev All : List Site → Type 0
  All ss = Each (Passes t S σ) ss

  pub fine_expr : (e : Expr) (k : ℕ) (sc : Scope) → FormedE t n e → All (sites_e k sc e) → FineE S σ sc e
  unfolding sites_e check5 named check6 typed check7 public check8 counted rules_of inputs_of
  fine_expr (number r v) k sc f p = f.1
  fine_expr (truth r v) k sc f p = f.1
  fine_expr (name r x) k sc f p = reads_name S sc r x p.0.names p.0.rules
  fine_expr (two r o a b) k sc f p =
      let q = p.0 in
      let ta = is_a (type_e sc a) uint in
      let tb = is_a (type_e sc b) uint in (
        record {
          left = q.rules.0;
          right = q.rules.1.0;
          left_uint = same_type (type_e sc a) uint (and_left ta tb q.types);
          right_uint = same_type (type_e sc b) uint (and_right ta tb q.types);
        },
        fine_expr a (suc k) sc f.1 (each_left (Passes t S σ) (sites_e (suc k) sc a) (sites_e (suc k) sc b) p.1),
        fine_expr b (suc k) sc f.2 (each_right (Passes t S σ) (sites_e (suc k) sc a) (sites_e (suc k) sc b) p.1),
      )
  fine_expr (choose r g a b) k sc f p =
      let q = p.0 in
      let tg = is_a (type_e sc g) bool in
      let tab = is_a (type_e sc a) (type_e sc b) in
      let rest = each_right (Passes t S σ) (sites_e (suc k) sc g) (sites_e (suc k) sc a ++ sites_e (suc k) sc b) p.1 in (
        record {
          guard = q.rules.0;
          left = q.rules.1.0;
          right = q.rules.1.1.0;
          guard_bool = same_type (type_e sc g) bool (and_left tg tab q.types);
          one_type = sym (same_type (type_e sc a) (type_e sc b) (and_right tg tab q.types));
        },
        fine_expr g (suc k) sc f.1 (each_left (Passes t S σ) (sites_e (suc k) sc g) (sites_e (suc k) sc a ++ sites_e (suc k) sc b) p.1),
        fine_expr a (suc k) sc f.2 (each_left (Passes t S σ) (sites_e (suc k) sc a) (sites_e (suc k) sc b) rest),
        fine_expr b (suc k) sc f.3 (each_right (Passes t S σ) (sites_e (suc k) sc a) (sites_e (suc k) sc b) rest),
      )
  fine_expr (element r x i) k sc f p =
      let q = p.0 in
      let m = reads_name S sc r x q.names q.rules in
      (m, indexes S sc x i m.is m.found q.secrets q.counts (and_right (not (is_plain (lookup sc x))) (is_a (type_e sc i) uint) q.types), fine_expr i (suc k) sc f.1 p.1)
  fine_expr (input r y d v) k sc f p = record { secret = p.0.sources.0; desk = f.1.a_desk; low = f.1.low; sort = p.0.sort }

  pub fine_stmt : (q : Stmt) (k : ℕ) (sc : Scope) → FormedS t n q → All (sites k sc q) → FineS S σ sc q
  unfolding sites check5 named check6 typed check7 public check8 counted rules_of inputs_of
  fine_stmt (declare r x y v) k sc f p = (record { unknown = unfound (lookup sc x) p.0.names; low = f.1 }, elements_le v f.2)
  fine_stmt (assign r x e) k sc f p =
      let q = p.0 in (
        stores_name S sc x e q.names q.rules
            (same_type (type_e sc e) (type_found (lookup sc x)) (and_right (is_plain (lookup sc x)) (is_a (type_e sc e) (type_found (lookup sc x))) q.types)),
        fine_expr e (suc k) sc f.1 p.1,
      )
  fine_stmt (loop r x b i l) k sc f p =
      (record { unknown = unfound (lookup sc x) p.0.names; low = f.1 }, omega (arith, f.2), fine_stmt b (suc k) (in_loop r x l sc) f.3 p.1)
  fine_stmt (write r x i e) k sc f p =
      let q = p.0 in
      let ti = is_a (type_e sc i) uint in
      let te = is_a (type_e sc e) (type_found (lookup sc x)) in
      let ts = and_right (not (is_plain (lookup sc x))) (ti && te) q.types in
      let m = stores_name S sc x e q.names q.rules (same_type (type_e sc e) (type_found (lookup sc x)) (and_right ti te ts)) in (
        m,
        indexes S sc x i m.is m.found q.secrets q.counts (and_left ti te ts),
        fine_expr i (suc k) sc f.1 (each_left (Passes t S σ) (sites_e (suc k) sc i) (sites_e (suc k) sc e) p.1),
        fine_expr e (suc k) sc f.2 (each_right (Passes t S σ) (sites_e (suc k) sc i) (sites_e (suc k) sc e) p.1),
      )
  fine_stmt (branch r g a b) k sc f p =
      let rest = each_right (Passes t S σ) (sites_e (suc k) sc g) (sites (suc k) sc a ++ sites (suc k) sc b) p.1 in (
        T_not (S (row_e g)) p.0.secrets,
        same_type (type_e sc g) bool p.0.types,
        fine_expr g (suc k) sc f.1 (each_left (Passes t S σ) (sites_e (suc k) sc g) (sites (suc k) sc a ++ sites (suc k) sc b) p.1),
        fine_stmt a (suc k) sc f.2 (each_left (Passes t S σ) (sites (suc k) sc a) (sites (suc k) sc b) rest),
        fine_stmt b (suc k) sc f.3 (each_right (Passes t S σ) (sites (suc k) sc a) (sites (suc k) sc b) rest),
      )
  fine_stmt (out r e) k sc f p = fine_expr e (suc k) sc f.1 p.1
  fine_stmt (then r a b) k sc f p = (
    fine_stmt a (suc k) sc f.1 (each_left (Passes t S σ) (sites (suc k) sc a) (sites (suc k) (after a sc) b) p.1),
    fine_stmt b (suc k) (after a sc) f.2 (each_right (Passes t S σ) (sites (suc k) sc a) (sites (suc k) (after a sc) b) p.1),
  )
