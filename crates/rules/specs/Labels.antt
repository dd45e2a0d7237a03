-- Document 01, "Names, labels, indexes": which rows are secret. Inputs are; and a rule reads "if row a is secret, row b is".
-- Of all sets of rows with the inputs and these rules, the secret rows are the smallest. Check 7.
use Rattle.std.specs.Prelude.{ℕ, zero, suc, Bool, true, false, not, ◌||◌, List, [], ◌∷◌, ◌++◌, T, eqb}
use Rattle.std.proofs.Math.Option.{Option, none, some}
use Rattle.rules.specs.Rows.{Row}
use Rattle.rules.specs.Tree.{number, truth, name, two, choose, element, input, row_e}
use Rattle.rules.specs.Tree.{declare, assign, loop, write, branch, out, then}
use Rattle.rules.specs.Scope.{Known, declared, looped, Scope, lookup}
use Rattle.rules.specs.Sites.{Node, of_e, of_s, Site}

pub record Rule : Type 0 where
  pub from : Row
  pub to : Row

abbrev pub rule : Row → Row → Rule
rule a b = record { from = a; to = b }

-- row r reads a name: secret as the name's declaration is; a loop's name is public
unfoldable pub when_read : Option Known → Row → List Rule
when_read none r = []
when_read (some (declared d t n)) r = rule d r ∷ []
when_read (some (looped d l)) r = []

-- the value at row v is assigned or written to a name: its declaration is secret if the value is
unfoldable pub when_stored : Row → Option Known → List Rule
when_stored v none = []
when_stored v (some (declared d t n)) = rule v d ∷ []
when_stored v (some (looped d l)) = []

-- the rules of one row: +, > and cond are secret with any secret part
unfoldable pub rules_of : Scope → Node → List Rule
rules_of sc (of_e (number r n)) = []
rules_of sc (of_e (truth r n)) = []
rules_of sc (of_e (name r x)) = when_read (lookup sc x) r
rules_of sc (of_e (two r o a b)) = rule (row_e a) r ∷ rule (row_e b) r ∷ []
rules_of sc (of_e (choose r g a b)) = rule (row_e g) r ∷ rule (row_e a) r ∷ rule (row_e b) r ∷ []
rules_of sc (of_e (element r x i)) = when_read (lookup sc x) r
rules_of sc (of_e (input r t d n)) = []
rules_of sc (of_s (declare r x t n)) = []
rules_of sc (of_s (assign r x e)) = when_stored (row_e e) (lookup sc x)
rules_of sc (of_s (loop r x b f l)) = []
rules_of sc (of_s (write r x i e)) = when_stored (row_e e) (lookup sc x)
rules_of sc (of_s (branch r g a b)) = []
rules_of sc (of_s (out r e)) = []
rules_of sc (of_s (then r a b)) = []

-- the row of an input
unfoldable pub inputs_of : Node → List Row
inputs_of (of_e (number r n)) = []
inputs_of (of_e (truth r n)) = []
inputs_of (of_e (name r x)) = []
inputs_of (of_e (two r o a b)) = []
inputs_of (of_e (choose r g a b)) = []
inputs_of (of_e (element r x i)) = []
inputs_of (of_e (input r t d n)) = r ∷ []
inputs_of (of_s p) = []

-- the rules and the inputs of a whole program
unfoldable pub all_rules : List Site → List Rule
all_rules [] = []
all_rules (s ∷ ss) = rules_of s.scope s.node ++ all_rules ss

unfoldable pub all_inputs : List Site → List Row
all_inputs [] = []
all_inputs (s ∷ ss) = inputs_of s.node ++ all_inputs ss

-- A set of rows is closed: it has the inputs and keeps the rules.
abbrev pub Has : (Row → Bool) → List Row → Type 0
Has S [] = Unit {0}
Has S (r ∷ rs) = T (S r) × Has S rs

abbrev pub Keeps : (Row → Bool) → List Rule → Type 0
Keeps S [] = Unit {0}
Keeps S (p ∷ ps) = (T (S p.from) → T (S p.to)) × Keeps S ps

pub record Closed (ins : List Row) (rs : List Rule) (S : Row → Bool) : Type 0 where
  pub sources : Has S ins
  pub keeps : Keeps S rs

-- A row is secret: it is in every closed set.
unfoldable pub Secret : List Site → Row → Type 0
Secret ss r = (S : Row → Bool) → Closed (all_inputs ss) (all_rules ss) S → T (S r)

-- The same, computed (that it is the same is a theorem): a row is in a list; what the rules add to a list; and as many
-- passes as there are rows.
unfoldable pub has : List Row → Row → Bool
has [] r = false
has (x ∷ xs) r = eqb x r || has xs r

unfoldable pub fired : List Rule → List Row → List Row
fired [] S = []
fired (p ∷ ps) S = elim (has S p.from) [ true ↦ p.to ∷ fired ps S | false ↦ fired ps S ]

unfoldable pub passes : ℕ → List Row → List Rule → List Row
passes zero ins rs = []
passes (suc n) ins rs = ins ++ fired rs (passes n ins rs)

-- the secret rows of a program of n rows
unfoldable pub secrets : ℕ → List Site → List Row
secrets n ss = passes n (all_inputs ss) (all_rules ss)

-- check 7: a secret index, or a secret guard of an if
unfoldable pub public : (Row → Bool) → Node → Bool
public S (of_e (number r n)) = true
public S (of_e (truth r n)) = true
public S (of_e (name r x)) = true
public S (of_e (two r o a b)) = true
public S (of_e (choose r g a b)) = true
public S (of_e (element r x i)) = not (S (row_e i))
public S (of_e (input r t d n)) = true
public S (of_s (declare r x t n)) = true
public S (of_s (assign r x e)) = true
public S (of_s (loop r x b f l)) = true
public S (of_s (write r x i e)) = not (S (row_e i))
public S (of_s (branch r g a b)) = not (S (row_e g))
public S (of_s (out r e)) = true
public S (of_s (then r a b)) = true

unfoldable pub check7 : (Row → Bool) → Site → Bool
check7 S s = public S s.node
