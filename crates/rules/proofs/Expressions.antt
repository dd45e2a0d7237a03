-- The plain reading of the gates that an expression makes is its direct reading, and the gates keep the rules.
use Prim.Native.Nat.{ℕ, zero, suc, ◌+◌, ◌*◌, ◌≤◌, ◌<◌, max}
use mathlib.Core.Path.{◌≡◌, refl, sym, subst}
use mathlib.Core.Bool.{Bool}
use mathlib.Core.Option.{Option, none, some}
use mathlib.Core.List.{List}
use lib.ListN.{length, get_or}
use native.Mathlib.Omega.{arith}
use Rattle.rules.specs.Rows.{uint, add, gt}
use Rattle.rules.specs.Tree.{Expr, number, truth, name, two, choose, element, input, row_e}
use Rattle.rules.specs.Scope.{Known, declared, looped, Scope, lookup, type_k, length_k}
use Rattle.rules.specs.Types.{type_e}
use Rattle.rules.specs.Counts.{count_k, count_found, count_two, count}
use Rattle.rules.specs.Sorts.{Sort, kept_at, applied, arm}
use Rattle.rules.specs.Gates.{entry}
use Rattle.rules.specs.Run.{Val, known, held, State, number_in, make, cell, guarded, run_e}
use Rattle.rules.specs.Plain.{Given}
use Rattle.rules.specs.Direct.{direct}
use Rattle.rules.proofs.Making.{is_held, Worth, More, Gives, more_refl, worth_more, after-gives, wired-gives, entry_wired, number_worth, type_kept}
use Rattle.rules.proofs.Acts.{sided_worthy, guarded_worthy}
use Rattle.rules.proofs.Fine.{size_k, label_k, FineE}

-- a held value has sort m: that of its declaration
abbrev pub AtSort : Sort → Val → Type 0
AtSort m (known t n) = Unit {0}
AtSort m (held w k) = k ≡ m

-- a cell of the name that stands for b holds the number n of the direct reading; it is held exactly if b is secret
pub record Cell (S : ℕ → Bool) (given : Given) (s : State) (b : Known) (x : Val) (n : ℕ) : Type 0 where
  pub worth : Worth given s (type_k b) x n
  pub label : is_held x ≡ label_k S b
  pub sort : AtSort (kept_at (type_k b)) x

-- the cells of a run and of a direct reading, for the names in scope
pub record Agrees (S : ℕ → Bool) (given : Given) (sc : Scope) (c : List ℕ) (s : State) : Type 0 where
  pub run_length : length s.cells ≡ 4096
  pub now_length : length c ≡ 4096
  pub cells : (x : ℕ) (b : Known) → lookup sc x ≡ some b → (i : ℕ) → i < size_k b
      → Cell S given s b (get_or s.cells (64 * x + i) (known uint 0)) (get_or c (64 * x + i) 0)
  pub caps : (x : ℕ) (b : Known) → lookup sc x ≡ some b → count_k b < 4294967295 → get_or c (64 * x + 0) 0 ≤ count_k b
  pub sizes : (x : ℕ) (b : Known) → lookup sc x ≡ some b → (x < 64) × (size_k b ≤ 64)

pub cell_more : (S : ℕ → Bool) (given : Given) (σ : ℕ → ℕ → Sort) (s u : State) → More given σ s u → (b : Known) (x : Val) (n : ℕ)
    → Cell S given s b x n → Cell S given u b x n
cell_more S given σ s u m b x n c = record { worth = worth_more given σ s u m (type_k b) x n c.worth; label = c.label; sort = c.sort }

-- a name has a cell
pub size_pos : (b : Known) → 0 < size_k b
size_pos (declared r t zero) = omega arith
size_pos (declared r t (suc n)) = omega arith
size_pos (looped r l) = omega arith

-- an array's length is its number of cells
pub below_size : (b : Known) (i : ℕ) → i < length_k b → i < size_k b
below_size (declared r t zero) i h = absurd (omega arith)
below_size (declared r t (suc n)) i h = h
below_size (looped r l) i h = absurd (omega arith)

module _ (S : ℕ → Bool) (given : Given) (σ : ℕ → ℕ → Sort) (sc : Scope) (c : List ℕ) where
  pub agrees_more : (s u : State) → More given σ s u → Agrees S given sc c s → Agrees S given sc c u
  agrees_more s u m a = record {
    run_length = rw m.cells a.run_length;
    now_length = a.now_length;
    cells = λ x b f i h. subst (λ (l : List Val). Cell S given u b (get_or l (64 * x + i) (known uint 0)) (get_or c (64 * x + i) 0)) (sym m.cells)
        (cell_more S given σ s u m b (get_or s.cells (64 * x + i) (known uint 0)) (get_or c (64 * x + i) 0) (a.cells x b f i h));
    caps = a.caps;
    sizes = a.sizes;
  }

  -- no value is above its count, where the count is not the largest
  pub count_sound : (e : Expr) → ((x : ℕ) (b : Known) → lookup sc x ≡ some b → count_k b < 4294967295 → get_or c (64 * x + 0) 0 ≤ count_k b)
      → count sc e < 4294967295 → direct given e c ≤ count sc e
  unfolding count direct count_two applied arm
  count_sound (number r n) h l = omega arith
  count_sound (truth r n) h l = absurd (omega arith)
  count_sound (name r x) h l = go (lookup sc x) refl l
    where
      go : (o : Option Known) → lookup sc x ≡ o → count_found o < 4294967295 → get_or c (64 * x + 0) 0 ≤ count_found o
      go none e l = absurd (omega arith)
      go (some b) e l = h x b e l
  count_sound (two r add a b) h l = omega (arith, count_sound a h (omega arith), count_sound b h (omega arith))
  count_sound (two r gt a b) h l = absurd (omega arith)
  count_sound (choose r g a b) h l = go (direct given g c) (count_sound a h (omega arith)) (count_sound b h (omega arith))
    where
      go : (n : ℕ) → direct given a c ≤ count sc a → direct given b c ≤ count sc b → arm n (direct given a c) (direct given b c) ≤ max (count sc a) (count sc b)
      go zero p q = omega arith
      go (suc n) p q = omega arith
  count_sound (element r x i) h l = absurd (omega arith)
  count_sound (input r t d n) h l = absurd (omega arith)

  -- an index that counts below the length of an array is below it
  pub index_below : (s : State) → Agrees S given sc c s → (x : ℕ) (b : Known) → lookup sc x ≡ some b → (i : Expr) → count sc i < length_k b → direct given i c < length_k b
  index_below s a x b f i h =
      omega (arith, h, below_size b (count sc i) h, (a.sizes x b f).1, count_sound i a.caps (omega (arith, below_size b (count sc i) h, (a.sizes x b f).1)))

  pub expr_agrees : (e : Expr) → FineE S σ sc e → (s : State) → Agrees S given sc c s → Gives given σ (S (row_e e)) s (type_e sc e) (run_e S e s) (direct given e c)
  unfolding run_e direct row_e type_e cell
  expr_agrees (number r n) f s a = record { more = more_refl given σ s; worth = (refl, refl, f); label = λ t. absurd t }
  expr_agrees (truth r n) f s a = record { more = more_refl given σ s; worth = (refl, refl, f); label = λ t. absurd t }
  expr_agrees (name r x) f s a =
      let k = a.cells x f.is f.found 0 (size_pos f.is) in
      record {
        more = more_refl given σ s;
        worth = rw f.found k.worth;
        label = λ t. f.label (rw k.label at t);
      }
  expr_agrees (two r o a b) f s g =
      sided_worthy given σ (Agrees S given sc c) agrees_more o (S r) (S (row_e a)) (S (row_e b)) (run_e S a) (run_e S b) (direct given a c) (direct given b c)
      f.0.left f.0.right (rw f.0.left_uint at (expr_agrees a f.1)) (rw f.0.right_uint at (expr_agrees b f.2)) s g
  expr_agrees (choose r k a b) f s g =
      let p = run_e S k s in
      let pk = expr_agrees k f.1 s g in
      after-gives given σ (S r) s p.st (type_e sc a) (guarded (S r) p.val (run_e S a) (run_e S b) p.st) (arm (direct given k c) (direct given a c) (direct given b c)) pk.more
      (guarded_worthy given σ (Agrees S given sc c) agrees_more (S r) (S (row_e k)) (S (row_e a)) (S (row_e b)) (type_e sc a) p.val (direct given k c) (run_e S a) (run_e S b)
      (direct given a c) (direct given b c) f.0.guard f.0.left f.0.right pk.label (expr_agrees a f.2) (rw f.0.one_type at (expr_agrees b f.3))
      p.st (agrees_more s p.st pk.more g) (rw f.0.guard_bool at pk.worth))
  expr_agrees (element r x i) f s g =
      let p = run_e S i s in
      let pi = expr_agrees i f.2 s g in
      let u = agrees_more s p.st pi.more g in
      let n = number_worth given σ p.st (type_e sc i) p.val (direct given i c) (λ t. f.1.public (pi.label t)) pi.worth in
      let k = u.cells x f.0.is f.0.found (number_in p.val)
      (below_size f.0.is (number_in p.val) (rw n (index_below s g x f.0.is f.0.found i f.1.below))) in
      record {
        more = pi.more;
        worth = rw (f.0.found, ← n) k.worth;
        label = λ t. f.0.label (rw k.label at t);
      }
  expr_agrees (input r t d n) f s g =
      let m = wired-gives given σ s (kept_at t) (make (entry d n (kept_at t)) (kept_at t) s) (given d n) (entry_wired given σ s d n t f.desk f.low f.sort) in
      record { more = m.more; worth = rw (type_kept given σ t) at m.worth; label = λ q. f.secret }
