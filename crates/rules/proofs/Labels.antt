-- The labels that compile computes are exactly the secret rows: the smallest set with the inputs and the rules.
use Prim.Native.Nat.{ℕ, ◌<◌}
use mathlib.Core.Bool.{Bool}
use mathlib.Core.Logic.{◌↔◌}
use mathlib.Core.Option.{Option, none, some}
use mathlib.Core.List.{List, [], ◌∷◌, ◌++◌}
use lib.Dec.{T, ltb, lt→ltb}
use Rattle.rules.specs.Tree.{number, truth, name, two, choose, element, input, row_e}
use Rattle.rules.specs.Tree.{declare, assign, loop, write, branch, out, then}
use Rattle.rules.specs.Scope.{Known, declared, looped, Scope, lookup}
use Rattle.rules.specs.Sites.{Node, of_e, of_s, row_n, Site}
use Rattle.rules.specs.Labels.{Rule, when_read, when_stored, rules_of, inputs_of, all_rules, all_inputs, Has, Keeps, Closed, Secret, has, secrets}
use Rattle.rules.proofs.Sites.{Each, each_map}
use Rattle.rules.proofs.Least.{passes_closed, passes_least}
pub use Rattle.rules.proofs.Least.{has_left, has_right, has_both}

-- Of two lists of rules after one another a set that keeps them keeps the first,
pub keeps_left : (S : ℕ → Bool) (ps qs : List Rule) → Keeps S (ps ++ qs) → Keeps S ps
keeps_left S [] qs k = tt
keeps_left S (p ∷ ps) qs k = (k.0, keeps_left S ps qs k.1)

-- and the second;
pub keeps_right : (S : ℕ → Bool) (ps qs : List Rule) → Keeps S (ps ++ qs) → Keeps S qs
keeps_right S [] qs k = k
keeps_right S (p ∷ ps) qs k = keeps_right S ps qs k.1

-- and if it keeps both, it keeps the two.
pub keeps_both : (S : ℕ → Bool) (ps qs : List Rule) → Keeps S ps → Keeps S qs → Keeps S (ps ++ qs)
keeps_both S [] qs k l = l
keeps_both S (p ∷ ps) qs k l = (k.0, keeps_both S ps qs k.1 l)

-- a set keeps the rules of one site and has its input
abbrev pub ClosedAt : (ℕ → Bool) → Site → Type 0
ClosedAt S s = Keeps S (rules_of s.scope s.node) × Has S (inputs_of s.node)

-- what is closed is closed at each site
pub each_rules : (S : ℕ → Bool) (ss : List Site) → Closed (all_inputs ss) (all_rules ss) S → Each (ClosedAt S) ss
unfolding all_inputs all_rules
each_rules S [] c = tt
each_rules S (s ∷ ss) c =
    let ps = rules_of s.scope s.node in
    let xs = inputs_of s.node in (
      (keeps_left S ps (all_rules ss) c.keeps, has_left S xs (all_inputs ss) c.sources),
      each_rules S ss (record { sources = has_right S xs (all_inputs ss) c.sources; keeps = keeps_right S ps (all_rules ss) c.keeps }),
    )

-- what is closed at each site is closed
pub rules_each : (S : ℕ → Bool) (ss : List Site) → Each (ClosedAt S) ss → Closed (all_inputs ss) (all_rules ss) S
unfolding all_inputs all_rules
rules_each S [] h = record { sources = tt; keeps = tt }
rules_each S (s ∷ ss) h =
    let rest = rules_each S ss h.1 in
    record {
      sources = has_both S (inputs_of s.node) (all_inputs ss) h.0.1 rest.sources;
      keeps = keeps_both S (rules_of s.scope s.node) (all_rules ss) h.0.0 rest.keeps;
    }

-- The declaration that a name stands for, if any, is at a row below n.
abbrev pub DeclaredBelow : ℕ → Option Known → Type 0
DeclaredBelow n none = Unit {0}
DeclaredBelow n (some (declared d t k)) = d < n
DeclaredBelow n (some (looped d l)) = Unit {0}

-- all rows that a site names lie below n: its own, and those of the declarations in its scope
pub record RowsBelow (n : ℕ) (s : Site) : Type 0 where
  pub row : row_n s.node < n
  pub found : (x : ℕ) → DeclaredBelow n (lookup s.scope x)

module _ (n : ℕ) where
  abbrev low : ℕ → Bool
  low r = ltb r n

  -- the rule of a read leads to the reading row
  reads_low : (o : Option Known) (r : ℕ) → r < n → Keeps low (when_read o r)
  unfolding when_read
  reads_low none r h = tt
  reads_low (some (declared d t k)) r h = (λ q. lt→ltb r n h, tt)
  reads_low (some (looped d l)) r h = tt

  -- the rule of a store leads to the declaration
  stores_low : (v : ℕ) (o : Option Known) → DeclaredBelow n o → Keeps low (when_stored v o)
  unfolding when_stored
  stores_low v none h = tt
  stores_low v (some (declared d t k)) h = (λ q. lt→ltb d n h, tt)
  stores_low v (some (looped d l)) h = tt

  -- so the rows below n keep the rules of a site
  rules_low : (sc : Scope) (x : Node) → row_n x < n → ((y : ℕ) → DeclaredBelow n (lookup sc y)) → Keeps low (rules_of sc x)
  unfolding rules_of row_n row_e
  rules_low sc (of_e (number r v)) h d = tt
  rules_low sc (of_e (truth r v)) h d = tt
  rules_low sc (of_e (name r y)) h d = reads_low (lookup sc y) r h
  rules_low sc (of_e (two r o a b)) h d = (λ q. lt→ltb r n h, (λ q. lt→ltb r n h, tt))
  rules_low sc (of_e (choose r g a b)) h d = (λ q. lt→ltb r n h, (λ q. lt→ltb r n h, (λ q. lt→ltb r n h, tt)))
  rules_low sc (of_e (element r y i)) h d = reads_low (lookup sc y) r h
  rules_low sc (of_e (input r t k v)) h d = tt
  rules_low sc (of_s (declare r y t k)) h d = tt
  rules_low sc (of_s (assign r y e)) h d = stores_low (row_e e) (lookup sc y) (d y)
  rules_low sc (of_s (loop r y b f l)) h d = tt
  rules_low sc (of_s (write r y i e)) h d = stores_low (row_e e) (lookup sc y) (d y)
  rules_low sc (of_s (branch r g a b)) h d = tt
  rules_low sc (of_s (out r e)) h d = tt
  rules_low sc (of_s (then r a b)) h d = tt

  -- and have its input
  inputs-low : (x : Node) → row_n x < n → Has low (inputs_of x)
  unfolding inputs_of row_n row_e
  inputs-low (of_e (number r v)) h = tt
  inputs-low (of_e (truth r v)) h = tt
  inputs-low (of_e (name r y)) h = tt
  inputs-low (of_e (two r o a b)) h = tt
  inputs-low (of_e (choose r g a b)) h = tt
  inputs-low (of_e (element r y i)) h = tt
  inputs-low (of_e (input r t k v)) h = (lt→ltb r n h, tt)
  inputs-low (of_s p) h = tt

  module _ (ss : List Site) (rows : Each (RowsBelow n) ss) where
    -- so the rows below n are closed
    all-low : Closed (all_inputs ss) (all_rules ss) low
    all-low = rules_each low ss (each_map ss (λ s h. (rules_low s.scope s.node h.row h.found, inputs-low s.node h.row)) rows)

    -- the computed labels are closed
    pub closed : Closed (all_inputs ss) (all_rules ss) (has (secrets n ss))
    unfolding secrets
    closed = passes_closed (all_inputs ss) (all_rules ss) n all-low.sources all-low.keeps

    -- a row is computed secret exactly if it is secret
    pub exactly : (r : ℕ) → T (has (secrets n ss) r) ↔ Secret ss r
    unfolding secrets Secret
    exactly = passes_least (all_inputs ss) (all_rules ss) n all-low.sources all-low.keeps
