-- `Walk::walk_statement` walks a statement, by what stands in it: the laws for each are those of `WalkLaws`.
use Rattle.std.proofs.Common.{◌≡◌, arith}
use Rattle.table.specs.declared.meaning.Meaning.{Meaning}
use Rattle.table.specs.declared.row.Row.{Row}
use Rattle.table.specs.Meaning.{meaning_at}
use Rattle.names.specs.declared.scope.Walk.{Walk}
use Rattle.names.specs.Walk.{words_of, head_sites, Looked, CanWalk}
use Rattle.names.proofs.SweepLaws.{look_in}
use Rattle.names.proofs.WalkLaws.{Begun, walked_plain, room_declare, walked_declare, room_loop, can_body, walked_loop}
use Rattle.names.proofs.WalkLaws.{both_branch, both_then, can_first, can_arm, walked_branch, can_follow, walked_then}
use Rattle.names.proofs.scope.Walk.+walk_statement.Goals as goal

-- with its meaning read and its heads looked at, the walk over a statement has begun
begun : {walk w₁ : Walk} {row : Row} {meaning : Meaning} → CanWalk walk row.0 → meaning ≡ meaning_at (words_of walk) row.0
    → Looked walk w₁ (head_sites walk row.0) → Begun walk w₁ row meaning
begun can is looked = record { can = can; is = is; looked = looked }

pub meaning_at-meaning-requires : goal.meaning_at-meaning-requires
meaning_at-meaning-requires t c = look_in c.requires.look

pub push-requires : goal.push-requires
push-requires t c =
    let g = begun c.requires c.meaning_at-meaning.ensures c.walk_expr.ensures in
    (omega arith, room_declare g c.in-Declare.is)

pub push-requires-in-For : goal.push-requires-in-For
push-requires-in-For t c =
    let g = begun c.requires c.meaning_at-meaning.ensures c.walk_expr.ensures in
    (omega arith, room_loop g c.in-For.is)

pub walk_statement-requires : goal.walk_statement-requires
walk_statement-requires t c =
    let g = begun c.requires c.meaning_at-meaning.ensures c.walk_expr.ensures in
    let (lower, can) = can_body g c.in-For.is c.push-in-For.ensures.items in
    (omega (arith, lower, c.decreases), can)

pub walk_statement-requires-in-If : goal.walk_statement-requires-in-If
walk_statement-requires-in-If t c =
    let g = begun c.requires c.meaning_at-meaning.ensures c.walk_expr.ensures in
    let (lower, can) = can_first g (both_branch g c.in-If.is) in
    (omega (arith, lower, c.decreases), can)

pub walk_statement-requires-in-If-2 : goal.walk_statement-requires-in-If-2
walk_statement-requires-in-If-2 t c =
    let g = begun c.requires c.meaning_at-meaning.ensures c.walk_expr.ensures in
    let (lower, can) = can_arm g c.in-If.is c.walk_statement-in-If.ensures c.len-names-in-If.ensures.value c.truncate-in-If.ensures.items in
    (omega (arith, lower, c.decreases), can)

pub walk_statement-requires-in-Then : goal.walk_statement-requires-in-Then
walk_statement-requires-in-Then t c =
    let g = begun c.requires c.meaning_at-meaning.ensures c.walk_expr.ensures in
    let (lower, can) = can_first g (both_then g c.in-Then.is) in
    (omega (arith, lower, c.decreases), can)

pub walk_statement-requires-in-Then-2 : goal.walk_statement-requires-in-Then-2
walk_statement-requires-in-Then-2 t c =
    let g = begun c.requires c.meaning_at-meaning.ensures c.walk_expr.ensures in
    let (lower, can) = can_follow g c.in-Then.is c.walk_statement-in-Then.ensures in
    (omega (arith, lower, c.decreases), can)

pub returns-in-Declare : goal.returns-in-Declare
returns-in-Declare t c =
    let g = begun c.requires c.meaning_at-meaning.ensures c.walk_expr.ensures in
    walked_declare g c.in-Declare.is c.push.ensures.items

pub returns-in-For : goal.returns-in-For
returns-in-For t c =
    let g = begun c.requires c.meaning_at-meaning.ensures c.walk_expr.ensures in
    walked_loop g c.in-For.is c.push-in-For.ensures.items c.walk_statement.ensures c.len-names.ensures.value c.truncate.ensures.items

pub returns-in-If : goal.returns-in-If
returns-in-If t c =
    let g = begun c.requires c.meaning_at-meaning.ensures c.walk_expr.ensures in
    walked_branch g c.in-If.is c.walk_statement-in-If.ensures c.len-names-in-If.ensures.value c.truncate-in-If.ensures.items
    c.walk_statement-in-If-2.ensures c.truncate-in-If-2.ensures.items

pub returns-in-Then : goal.returns-in-Then
returns-in-Then t c =
    let g = begun c.requires c.meaning_at-meaning.ensures c.walk_expr.ensures in
    walked_then g c.in-Then.is c.walk_statement-in-Then.ensures c.walk_statement-in-Then-2.ensures

pub returns-in_default : goal.returns-in_default
returns-in_default t c =
    let g = begun c.requires c.meaning_at-meaning.ensures c.walk_expr.ensures in
    walked_plain g c.in_default.not-Declare c.in_default.not-For c.in_default.not-If c.in_default.not-Then
