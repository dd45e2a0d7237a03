-- The code's table of shapes is the rules'.
use Prim.Native.Nat.{ℕ, ◌≤◌, ◌<◌}
use mathlib.Core.Path.{◌≡◌, sym, ap, ◌∙◌}
use mathlib.Core.List.{map}
use lib.Dec.{ltb}
use lib.ListN.{get_or, get_or-map, get_or-eq_default}
use borrow.Author.Tests.{ltb-true, ltb-false}
use denote.Bor.{Bor}
use Rattle.std.specs.Prelude.{Option, Some, None, is_some, IfSome, unwrap_or}
use Rattle.std.specs.Option.{option_copied}
use Rattle.std.proofs.lemmas.List.{get_or_default}
use Rattle.rules.specs.Rows.{kinds, unknown}
use Rattle.table.specs.declared.shapes.Shape.{Shape}
use Rattle.table.specs.Shapes.{as_shape}

-- what is found in the table at a number is the shape of its kind, and past the table there is no kind
pub shape_found :
    (found : Option (Bor Shape)) (k : ℕ) → is_some found ≡ ltb k 23 → IfSome found (λ x. x.now ≡ get_or (map as_shape kinds) k x.now)
    → unwrap_or (option_copied found) (as_shape unknown) ≡ as_shape (get_or kinds k unknown)
unfolding kinds
shape_found (Some x) k some line =
    let below : k < 23 = ltb-true k 23 (sym some) in
    line ∙ (get_or_default (map as_shape kinds) k x.now (as_shape unknown) below ∙ get_or-map as_shape kinds k unknown)
shape_found None k none line =
    let past : 23 ≤ k = ltb-false k 23 (sym none) in
    sym (ap as_shape (get_or-eq_default kinds unknown {n = k} past))
