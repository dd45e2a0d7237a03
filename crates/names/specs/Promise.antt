-- What checks 1 to 8 promise (document 01, "Order of refusals"): their verdict by the paper's numbers.
use Rattle.std.specs.Prelude.{ℕ, ◌≡◌, Bool, List, Result, Ok, Err, OnOk}
use Rattle.rules.specs.Places.{refused, accepted}
use Rattle.rules.specs.Places as rules
use Rattle.rules.specs.Answers.{checked}
use Rattle.names.specs.declared.Refusal.{Refusal}
use Rattle.names.specs.declared.Refusal.TheVariants.{Length, Shape, Place, Depth, Name, Typing, Secret, Index}
use Rattle.names.specs.Labels.{Labelled}

-- the paper's number of a refusal
abbrev pub refusal_number : Refusal → ℕ
refusal_number Length = 1
refusal_number (Shape r) = 2
refusal_number (Place r) = 3
refusal_number (Depth r) = 4
refusal_number (Name r) = 5
refusal_number (Typing r) = 6
refusal_number (Secret r) = 7
refusal_number (Index r) = 8

-- its place: the lowest failing row, or 0
abbrev pub refusal_place : Refusal → ℕ
refusal_place Length = 0
refusal_place (Shape r) = r.0
refusal_place (Place r) = r.0
refusal_place (Depth r) = r.0
refusal_place (Name r) = r.0
refusal_place (Typing r) = r.0
refusal_place (Secret r) = r.0
refusal_place (Index r) = r.0

-- the verdict of the rules that an answer gives
abbrev pub verdict_of : Result (Unit {0}) Refusal → rules.Verdict (Unit {0})
verdict_of (Ok u) = accepted u
verdict_of (Err why) = refused (refusal_number why) (refusal_place why)

-- of one call: the verdict is the rules', and of an accepted table the secret rows are marked
pub record Judged (table : List ℕ) (secret : List Bool) (r : Result (Unit {0}) Refusal) : Type 0 where
  pub verdict_is : verdict_of r ≡ checked table
  pub labels_are : OnOk r (Labelled table secret)
