-- The search for a name: from the newest row of the stack backwards, as a lookup goes through the scope.
use Prim.Native.Nat.{ℕ, ◌-◌, ◌<◌}
use mathlib.Core.Path.{◌≡◌, refl, subst}
use mathlib.Core.Bool.{Bool, true, false, cond}
use mathlib.Core.List.{List, [], ◌∷◌, ◌++◌, map}
use lib.Dec.{eqb}
use lib.ListN.{length}
use lib.Seq.{take-append_seam}
use borrow.Author.Tests.{ne_eqb}
use native.Mathlib.Omega.{arith}
use mathlib.Core.Option as rules
use mathlib.Core.Option.{some}
use Rattle.std.specs.Prelude.{Option, Some, find, reverse, All, IfSome}
use Rattle.std.proofs.lemmas.List.{get_or-reverse, length-reverse, reverse-append}
use Rattle.std.proofs.lemmas.List.Elements.{All-tail, All-take}
use Rattle.words.specs.Words.{words}
use Rattle.rules.specs.Rows.{Name, word}
use Rattle.rules.specs.Scope.{Known, lookup}
use Rattle.rows.specs.Passed.{In}
use Rattle.rows.specs.ByRow.{binding_at, known_at}
use Rattle.table.specs.declared.row.Row.{Row}
use Rattle.names.specs.Declares.{known_by}
use Rattle.names.specs.Stack.{scope_of, found_in, Stacked}

-- a name stands for what the first of some rows that binds it makes of it
lookup_first : (t : List ℕ) (x : Name) (rows : List Row)
    → known_by t (find (λ row. eqb (word t row.0 1) x) rows) ≡ lookup (map (λ row. binding_at t row.0) rows) x
unfolding lookup
lookup_first t x [] = refl
lookup_first t x (row ∷ rows) = go (eqb (word t row.0 1) x) _ _ (lookup_first t x rows)
  where
    go : (b : Bool) (found : Option Row) (known : rules.Option Known) → known_by t found ≡ known
        → known_by t (cond b (Some row) found) ≡ cond b (some (known_at t row.0)) known
    go true found known rest = refl
    go false found known rest = rest

-- so the search in a stack finds what a name stands for in its scope
pub known_found : (t : List ℕ) (stack : List Row) (x : Name) → known_by t (found_in t stack x) ≡ lookup (scope_of t stack) x
unfolding scope_of
known_found t stack x = lookup_first t x (reverse stack)

-- a row that does not bind the name is passed
pub found_before : (t : List ℕ) {stack : List Row} (older : List Row) (row : Row) (x : Name) → stack ≡ older ++ row ∷ []
    → (word t row.0 1 ≡ x → ⊥) → found_in t older x ≡ found_in t stack x
found_before t older row x is other = rw (is, reverse-append older (row ∷ []), ne_eqb (word t row.0 1) x other) refl

-- what holds of all elements of a list holds of the first of them
pub All-front : {X : Type 0} (P : X → Type 0) (xs ys : List X) → All P (xs ++ ys) → All P xs
All-front P xs ys all = subst (All P) (take-append_seam xs ys) (All-take P (length xs) (xs ++ ys) all)

-- and of them from the last on
pub All-reverse : {X : Type 0} (P : X → Type 0) (xs : List X) → All P xs → All P (reverse xs)
All-reverse P xs all = λ k d l.
    let inside : k < length xs = omega (arith, length-reverse xs) in
    rw (get_or-reverse xs k d inside) (all (length xs - 1 - k) d (omega arith))

-- and of one that is found among them
IfSome-find : {X : Type 0} (P : X → Type 0) (p : X → Bool) (xs : List X) → All P xs → IfSome (find p xs) P
IfSome-find P p [] all = tt
IfSome-find {X} P p (x ∷ xs) all = go (p x) _ (all 0 x (omega arith)) (IfSome-find P p xs (All-tail P x xs all))
  where
    go : (b : Bool) (found : Option X) → P x → IfSome found P → IfSome (cond b (Some x) found) P
    go true found here rest = here
    go false found here rest = rest

-- what a search finds is a row of the table
pub found_inside : (table : List ℕ) (stack : List Row) (x : Name) → Stacked table stack → IfSome (found_in (words table) stack x) (λ row. In table row.0)
found_inside table stack x stacked =
    IfSome-find (λ row. In table row.0) (λ row. eqb (word (words table) row.0 1) x) (reverse stack) (All-reverse (λ row. In table row.0) stack stacked)
