-- The walk of check 5 over a statement, by what stands in it: what a walk leaves is put together from what the walks over the
-- statements in it leave.
use Prim.Native.Nat.{ℕ, suc, ◌+◌, ◌%◌, ◌<◌, ◌≤◌}
use mathlib.Core.Path.{◌≡◌, refl, sym, ap, subst, ◌∙◌}
use mathlib.Core.List.{List, [], ◌∷◌, ◌++◌, append-nil, append_assoc}
use lib.Dec.{T}
use lib.ListN.{length, take}
use lib.Seq.{take-append_seam}
use native.Mathlib.Omega.{arith}
use Rattle.std.proofs.lemmas.Grind.{common_steps}
use Rattle.std.proofs.lemmas.List.{reverse-append, length-append}
use Rattle.std.proofs.lemmas.List.Elements.{All-append, All-cons, All-nil}
use Rattle.arrayvec.specs.ArrayVec.{ArrayVec}
use Rattle.words.specs.Words.{words}
use Rattle.rules.specs.Rows.{Kind, is_s}
use Rattle.rules.specs.Rows.{of_declare, of_loop, of_branch, of_then, word, kind_at, is_stmt}
use Rattle.rules.specs.Tree.{Stmt, type_of, stmt_of, expr_at, stmt_at}
use Rattle.rules.specs.Scope.{declared, looped, Scope, after}
use Rattle.rules.specs.Sites.{sites}
use Rattle.rules.specs.Answers.{rows_of}
use Rattle.rows.specs.Passed.{In}
use Rattle.rows.specs.ByRow.{known_at, binding_at}
use Rattle.rows.specs.Heads.{heads, bindings}
use Rattle.rows.proofs.Formed.{Formed, formed, fields, stmt_law}
use Rattle.rows.proofs.Heads.{inner, next, stmt_heads, after_law}
use Rattle.table.specs.Shapes.{as_kind}
use Rattle.table.specs.Meaning.{meaning_of, meaning_at}
use Rattle.table.specs.declared.row.Row.{Row}
use Rattle.table.specs.declared.meaning.Meaning.{Meaning}
use Rattle.table.specs.declared.meaning.Meaning.TheVariants.{Declare, For, If, Then}
use Rattle.table.specs.declared.meaning.Ty.{Ty}
use Rattle.names.specs.declared.scope.Walk.{Walk}
use Rattle.names.specs.Stack.{scope_of, Stacked}
use Rattle.names.specs.Sweep.{Swept}
use Rattle.names.specs.Walk.{words_of, scope_in, head_sites, Looked, CanWalk, Walked}
use Rattle.names.proofs.SweepLaws.{swept_append, look_in}

-- a row r of a table's words t, with its words a, b and c, in the scope sc
module _ (t : List ℕ) (sc : Scope) (r a b c : ℕ) where
  -- what its meaning says of its kind, where it binds a name or statements stand in it: the kind, and the words that they stand in;
  -- elsewhere, that nothing stands in it and it leaves the scope
  abbrev Says : Meaning → Kind → Type 0
  Says (Declare x y n) k = k ≡ is_s of_declare
  Says (For x body f l) k = (k ≡ is_s of_loop) × (body.0 ≡ b)
  Says (If g first second) k = (k ≡ is_s of_branch) × (first.0 ≡ b) × (second.0 ≡ c)
  Says (Then first second) k = (k ≡ is_s of_then) × (first.0 ≡ a) × (second.0 ≡ b)
  Says _ k = ((d : ℕ) → inner t d sc k r a b c ≡ []) × (next t sc k r a b c ≡ sc)

  -- it says it of every kind
  says : (k : Kind) → Says (meaning_of (as_kind k) a b c) k
  says k = grind (arith, common_steps)

  -- so does a meaning that is none of the four
  says_plain : (v : Meaning) (k : Kind) → ((x : ℕ) (y : Ty) (n : ℕ) → v ≡ Declare x y n → ⊥)
      → ((x : ℕ) (body : Row) (f l : ℕ) → v ≡ For x body f l → ⊥) → ((g a b : Row) → v ≡ If g a b → ⊥) → ((a b : Row) → v ≡ Then a b → ⊥)
      → Says v k → ((d : ℕ) → inner t d sc k r a b c ≡ []) × (next t sc k r a b c ≡ sc)
  says_plain v k declare loop branch then s = grind (arith, common_steps)

-- with one row more on the stack, the scope has one binding more
scope_push : (t : List ℕ) (stack : List Row) (row : Row) → scope_of t (stack ++ row ∷ []) ≡ binding_at t row.0 ∷ scope_of t stack
unfolding scope_of
scope_push t stack row = rw (reverse-append stack (row ∷ [])) refl

-- the rows of a stack with one more are rows of the table
stacked_push : (table : List ℕ) (stack : List Row) (row : Row) → Stacked table stack → In table row.0 → Stacked table (stack ++ row ∷ [])
stacked_push table stack row stacked there =
    let inside : Row → Type 0 = λ row. In table row.0 in
    All-append inside stack (row ∷ []) stacked (All-cons inside row [] there (All-nil inside))

-- a stack that is cut back to what it was
cut_back : (before added : List Row) {now : List Row} {n : ℕ} → now ≡ before ++ added → n ≡ length before → take n now ≡ before
cut_back before added grown count = rw (grown, count) (take-append_seam before added)

-- a walk over a statement has begun: its meaning is read, and its row and the expressions in it have been looked at
pub record Begun (walk w₁ : Walk) (row : Row) (meaning : Meaning) : Type 0 where
  pub can : CanWalk walk row.0
  pub is : meaning ≡ meaning_at (words_of walk) row.0
  pub looked : Looked walk w₁ (head_sites walk row.0)

-- how it goes on, by what stands in the statement
module _ {walk w₁ : Walk} {row : Row} {meaning : Meaning} (g : Begun walk w₁ row meaning) where
  abbrev table : List ℕ
  table = walk.table.now

  abbrev t : List ℕ
  t = words table

  -- the stack before it, and the scope
  abbrev stack : List Row
  stack = walk.scope.items

  abbrev sc : Scope
  sc = scope_in walk

  -- the words of the row
  abbrev a : ℕ
  a = word t row.0 1

  abbrev b : ℕ
  b = word t row.0 2

  abbrev c : ℕ
  c = word t row.0 3

  -- the table's rows have their shapes
  shapes : Formed t (rows_of table)
  shapes = formed table g.can.look.passes

  -- the stack is as before
  same_stack : w₁.scope.items ≡ stack
  same_stack = ap (λ (v : ArrayVec Row). v.items) g.looked.scope

  -- its meaning says its kind
  kind_told : (v : Meaning) → meaning ≡ v → Says t sc row.0 a b c v (kind_at t row.0)
  unfolding meaning_at
  kind_told v e =
      subst (λ (v : Meaning). Says t sc row.0 a b c v (kind_at t row.0)) (sym g.is ∙ e) (says t sc row.0 a b c (kind_at t row.0))

  -- the statement of a kind with the row's words
  abbrev made : Kind → Stmt
  made q = stmt_of q row.0 a b c (expr_at t) (stmt_at t)

  -- the row's statement is that of its kind,
  made_is : (q : Kind) → kind_at t row.0 ≡ q → stmt_at t row.0 ≡ made q
  made_is q e = stmt_law shapes row.0 g.can.look.there ∙ ap made e

  -- its sites are the row's own and those of the statements in it,
  sites_are : (d : ℕ) (q : Kind) → kind_at t row.0 ≡ q → sites d sc (stmt_at t row.0) ≡ heads t d sc row.0 ++ inner t d sc q row.0 a b c
  sites_are d q e =
      stmt_heads shapes d sc row.0 g.can.look.there g.can.is_a_stmt
      ∙ ap (λ (q : Kind). heads t d sc row.0 ++ inner t d sc q row.0 a b c) e

  -- and the scope after it goes by its kind
  after_is : (q : Kind) → kind_at t row.0 ≡ q → after (stmt_at t row.0) sc ≡ next t sc q row.0 a b c
  after_is q e = after_law shapes sc row.0 g.can.look.there ∙ ap (λ (q : Kind). next t sc q row.0 a b c) e

  -- a statement in it can be walked on with a stack that has room for what it binds
  can_inside : {w : Walk} (r : ℕ) → w.table ≡ walk.table → (r < row.0) × T (is_stmt (kind_at t r)) → Stacked table w.scope.items
      → length w.scope.items + bindings (stmt_at t r) ≤ 1024 → (r < row.0) × CanWalk w r
  can_inside r same is stacked room = (
    is.0,
    record {
      look = record {
        passes = rw same g.can.look.passes;
        stacked = rw same stacked;
        there = rw same (omega (arith, is.0, g.can.look.there));
      };
      is_a_stmt = rw same is.1;
      room = rw same room;
    },
  )

  -- what a walk over it has swept, with the table and the stack as they are called here
  swept_inside : {w w' : Walk} {r : ℕ} (now : List Row) → Walked w w' r → w.table ≡ walk.table → w.scope.items ≡ now → (d : ℕ)
      → Swept table (sites d (scope_of t now) (stmt_at t r)) w.binders.now w'.binders.now w.lowest w'.lowest
  swept_inside now walked same items d = rw (← same, ← items) (walked.swept d)

  -- nothing stands in it, and it binds nothing
  pub walked_plain : ((x : ℕ) (y : Ty) (n : ℕ) → meaning ≡ Declare x y n → ⊥)
      → ((x : ℕ) (body : Row) (f l : ℕ) → meaning ≡ For x body f l → ⊥) → ((g a b : Row) → meaning ≡ If g a b → ⊥)
      → ((a b : Row) → meaning ≡ Then a b → ⊥) → Walked walk w₁ row.0
  walked_plain declare loop branch then =
      let plain = says_plain t sc row.0 a b c meaning (kind_at t row.0) declare loop branch then (kind_told meaning refl) in
      record {
        swept = λ d. rw (sites_are d (kind_at t row.0) refl, plain.0 d, append-nil) (g.looked.swept d);
        kept = g.looked.kept;
        added = [];
        stack_is = same_stack ∙ sym (append-nil stack);
        stacked = rw same_stack g.can.look.stacked;
        scope = rw (same_stack, after_is (kind_at t row.0) refl, plain.1) refl;
        upto = omega arith;
      }

  -- it declares a name, and its row is put on the stack
  module _ {x n : ℕ} {y : Ty} (e : meaning ≡ Declare x y n) where
    -- the row is of that kind,
    is_declare_lem : kind_at t row.0 ≡ is_s of_declare
    is_declare_lem = kind_told (Declare x y n) e

    -- binds one name,
    binds_declare : bindings (stmt_at t row.0) ≡ 1
    unfolding bindings stmt_of
    binds_declare = ap bindings (made_is (is_s of_declare) is_declare_lem)

    -- as the scope has it,
    binding_declare : binding_at t row.0 ≡ record { called = a; is = declared row.0 (type_of b) c }
    unfolding known_at
    binding_declare = rw is_declare_lem

    -- for which there is room
    pub room_declare : length w₁.scope.items < 1024
    room_declare = rw same_stack (omega (arith, g.can.room, binds_declare))

    -- so it has been walked
    pub walked_declare : {pushed : ArrayVec Row} → pushed.items ≡ w₁.scope.items ++ row ∷ []
        → Walked walk (record w₁ { scope = pushed }) row.0
    walked_declare {pushed} push =
        let now : pushed.items ≡ stack ++ row ∷ [] = rw same_stack at push in
        record {
          swept = λ d. rw (sites_are d (is_s of_declare) is_declare_lem, append-nil) (g.looked.swept d);
          kept = record { table = g.looked.kept.table; same_reference = g.looked.kept.same_reference };
          added = row ∷ [];
          stack_is = now;
          stacked = rw now (stacked_push table stack row g.can.look.stacked (look_in g.can.look));
          scope = rw (now, after_is (is_s of_declare) is_declare_lem, scope_push t stack row, binding_declare) refl;
          upto = omega (arith, binds_declare);
        }

  -- it is a loop: its row is put on the stack for its body
  module _ {x f l : ℕ} {body : Row} (e : meaning ≡ For x body f l) where
    -- the row is of that kind, and its body stands in its second word,
    is_loop : (kind_at t row.0 ≡ is_s of_loop) × (body.0 ≡ b)
    is_loop = kind_told (For x body f l) e

    -- binds one name and those of its body,
    binds_loop : bindings (stmt_at t row.0) ≡ suc (bindings (stmt_at t body.0))
    unfolding bindings stmt_of
    binds_loop = rw is_loop.1 (ap bindings (made_is (is_s of_loop) is_loop.0))

    -- the one as the scope has it,
    binding_loop : binding_at t row.0 ≡ record { called = a; is = looped row.0 (c % 65536) }
    unfolding known_at
    binding_loop = rw is_loop.0

    -- for which there is room
    pub room_loop : length w₁.scope.items < 1024
    room_loop = rw same_stack (omega (arith, g.can.room, binds_loop))

    module _ {pushed : ArrayVec Row} (push : pushed.items ≡ w₁.scope.items ++ row ∷ []) where
      -- the stack in the body
      stack_body : pushed.items ≡ stack ++ row ∷ []
      stack_body = rw same_stack at push

      -- so its body can be walked,
      pub can_body : (body.0 < row.0) × CanWalk (record w₁ { scope = pushed }) body.0
      can_body =
          let lower : (body.0 < row.0) × T (is_stmt (kind_at t body.0)) =
          rw is_loop.1 (fields shapes row.0 g.can.look.there (is_s of_loop) is_loop.0).b_is in
          let stacked : Stacked table pushed.items = rw stack_body (stacked_push table stack row g.can.look.stacked (look_in g.can.look)) in
          can_inside body.0 g.looked.kept.table lower stacked
          (rw (stack_body, length-append stack (row ∷ [])) (omega (arith, g.can.room, binds_loop)))

      -- and when its row is off the stack again, the loop has been walked
      pub walked_loop : {w₂ : Walk} {cut : ArrayVec Row} {n : ℕ} → Walked (record w₁ { scope = pushed }) w₂ body.0
          → n ≡ length w₁.scope.items → cut.items ≡ take n w₂.scope.items → Walked walk (record w₂ { scope = cut }) row.0
      walked_loop {w₂} {cut} {n} w count cutting =
          let grown : w₂.scope.items ≡ stack ++ (row ∷ w.added) = w.stack_is ∙ rw stack_body (append_assoc stack (row ∷ []) w.added) in
          let back : cut.items ≡ stack = cutting ∙ cut_back stack (row ∷ w.added) grown (count ∙ ap length same_stack) in
          record {
            swept = λ d. rw (sites_are d (is_s of_loop) is_loop.0, ← is_loop.1, ← binding_loop, ← (scope_push t stack row))
                (swept_append (g.looked.swept d) (swept_inside (stack ++ row ∷ []) w g.looked.kept.table stack_body (suc d)));
            kept = record {
              table = w.kept.table ∙ g.looked.kept.table;
              same_reference = w.kept.same_reference ∙ g.looked.kept.same_reference;
            };
            added = [];
            stack_is = back ∙ sym (append-nil stack);
            stacked = rw back g.can.look.stacked;
            scope = rw (back, after_is (is_s of_loop) is_loop.0) refl;
            upto = omega arith;
          }

  -- two statements stand in it, whose names need room
  pub record Both (first second : ℕ) : Type 0 where
    pub first_is : (first < row.0) × T (is_stmt (kind_at t first))
    pub second_is : (second < row.0) × T (is_stmt (kind_at t second))
    pub binds : bindings (stmt_at t row.0) ≡ bindings (stmt_at t first) + bindings (stmt_at t second)

  module _ {first second : Row} (both : Both first.0 second.0) where
    -- the first can be walked,
    pub can_first : (first.0 < row.0) × CanWalk w₁ first.0
    can_first =
        can_inside first.0 g.looked.kept.table both.first_is (rw same_stack g.can.look.stacked)
        (rw same_stack (omega (arith, g.can.room, both.binds)))

    -- and the second when the first has been walked, with a stack that has grown by no more than the first binds
    can_second : {w : Walk} → w.table ≡ walk.table → Stacked table w.scope.items
        → length w.scope.items ≤ length stack + bindings (stmt_at t first.0) → (second.0 < row.0) × CanWalk w second.0
    can_second same stacked grown = can_inside second.0 same both.second_is stacked (omega (arith, g.can.room, both.binds))

  -- it is an if: both arms are walked from the scope before it
  module _ {guard first second : Row} (e : meaning ≡ If guard first second) where
    -- the row is of that kind, and its arms stand in its second word and its third
    is_branch : (kind_at t row.0 ≡ is_s of_branch) × (first.0 ≡ b) × (second.0 ≡ c)
    is_branch = kind_told (If guard first second) e

    pub both_branch : Both first.0 second.0
    unfolding bindings stmt_of
    both_branch =
        let says = fields shapes row.0 g.can.look.there (is_s of_branch) is_branch.0 in
        record {
          first_is = rw is_branch.1 says.b_is;
          second_is = rw is_branch.2 says.c_is;
          binds = rw (is_branch.1, is_branch.2) (ap bindings (made_is (is_s of_branch) is_branch.0));
        }

    -- the first arm has been walked, and the names that it bound are off the stack
    module _ {w₂ : Walk} {cut : ArrayVec Row} {n : ℕ} (v : Walked w₁ w₂ first.0) (count : n ≡ length w₁.scope.items)
        (cutting : cut.items ≡ take n w₂.scope.items)
      where
        -- the table and the stack are those before
        table_second : w₂.table ≡ walk.table
        table_second = v.kept.table ∙ g.looked.kept.table

        stack_second : cut.items ≡ stack
        stack_second = cutting ∙ cut_back w₁.scope.items v.added v.stack_is count ∙ same_stack

        -- so the second can be walked,
        pub can_arm : (second.0 < row.0) × CanWalk (record w₂ { scope = cut }) second.0
        can_arm = can_second both_branch table_second (rw stack_second g.can.look.stacked) (rw stack_second (omega arith))

        -- and when its names are off the stack too, the if has been walked
        pub walked_branch : {w₃ : Walk} {cut' : ArrayVec Row} → Walked (record w₂ { scope = cut }) w₃ second.0
            → cut'.items ≡ take n w₃.scope.items → Walked walk (record w₃ { scope = cut' }) row.0
        walked_branch {w₃} {cut'} w cutting' =
            let back : cut'.items ≡ stack = cutting' ∙ cut_back cut.items w.added w.stack_is (count ∙ ap length (same_stack ∙ sym stack_second)) ∙ stack_second in
            record {
              swept = λ d. rw (sites_are d (is_s of_branch) is_branch.0, ← is_branch.1, ← is_branch.2)
                  (swept_append (g.looked.swept d)
                  (swept_append (swept_inside stack v g.looked.kept.table same_stack (suc d)) (swept_inside stack w table_second stack_second (suc d))));
              kept = record {
                table = w.kept.table ∙ table_second;
                same_reference = w.kept.same_reference ∙ v.kept.same_reference ∙ g.looked.kept.same_reference;
              };
              added = [];
              stack_is = back ∙ sym (append-nil stack);
              stacked = rw back g.can.look.stacked;
              scope = rw (back, after_is (is_s of_branch) is_branch.0) refl;
              upto = omega arith;
            }

  -- it is a "then": its second part is walked from the scope after the first
  module _ {first second : Row} (e : meaning ≡ Then first second) where
    -- the row is of that kind, and its parts stand in its first word and its second
    is_then : (kind_at t row.0 ≡ is_s of_then) × (first.0 ≡ a) × (second.0 ≡ b)
    is_then = kind_told (Then first second) e

    pub both_then : Both first.0 second.0
    unfolding bindings stmt_of
    both_then =
        let says = fields shapes row.0 g.can.look.there (is_s of_then) is_then.0 in
        record {
          first_is = rw is_then.1 says.a_is;
          second_is = rw is_then.2 says.b_is;
          binds = rw (is_then.1, is_then.2) (ap bindings (made_is (is_s of_then) is_then.0));
        }

    -- the first part has been walked
    module _ {w₂ : Walk} (v : Walked w₁ w₂ first.0) where
      -- the table is that before, the stack has what the first part has added,
      table_rest : w₂.table ≡ walk.table
      table_rest = v.kept.table ∙ g.looked.kept.table

      stack_rest : w₂.scope.items ≡ stack ++ v.added
      stack_rest = v.stack_is ∙ ap (λ (rows : List Row). rows ++ v.added) same_stack

      stacked_rest : Stacked table w₂.scope.items
      stacked_rest = rw (← g.looked.kept.table) v.stacked

      upto_rest : length v.added ≤ bindings (stmt_at t first.0)
      upto_rest = rw (← g.looked.kept.table) v.upto

      -- and the scope is that after it
      scope_rest : scope_of t w₂.scope.items ≡ after (stmt_at t first.0) sc
      scope_rest = rw (← g.looked.kept.table, ← same_stack) v.scope

      -- so the second can be walked,
      pub can_follow : (second.0 < row.0) × CanWalk w₂ second.0
      can_follow = can_second both_then table_rest stacked_rest (rw (stack_rest, length-append stack v.added) (omega (arith, upto_rest)))

      -- and with it the "then" has been walked
      pub walked_then : {w₃ : Walk} → Walked w₂ w₃ second.0 → Walked walk w₃ row.0
      walked_then {w₃} w =
          let rest : (d : ℕ) → Swept table (sites d (after (stmt_at t first.0) sc) (stmt_at t second.0)) w₂.binders.now w₃.binders.now w₂.lowest w₃.lowest =
          λ d. rw (← scope_rest) (swept_inside w₂.scope.items w table_rest refl d) in
          let upto_w : length w.added ≤ bindings (stmt_at t second.0) = rw (← table_rest) w.upto in
          let last : scope_of t w₃.scope.items ≡ after (stmt_at t second.0) (scope_of t w₂.scope.items) = rw (← table_rest) w.scope in
          record {
            swept = λ d. rw (sites_are d (is_s of_then) is_then.0, ← is_then.1, ← is_then.2)
                (swept_append (g.looked.swept d) (swept_append (swept_inside stack v g.looked.kept.table same_stack (suc d)) (rest (suc d))));
            kept = record {
              table = w.kept.table ∙ table_rest;
              same_reference = w.kept.same_reference ∙ v.kept.same_reference ∙ g.looked.kept.same_reference;
            };
            added = v.added ++ w.added;
            stack_is = w.stack_is ∙ rw stack_rest (append_assoc stack v.added w.added);
            stacked = rw (← table_rest) w.stacked;
            scope = last ∙ rw (after_is (is_s of_then) is_then.0, ← is_then.1, ← is_then.2, scope_rest) refl;
            upto = rw (length-append v.added w.added) (omega (arith, both_then.binds, upto_rest, upto_w));
          }
