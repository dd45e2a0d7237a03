-- The verdict on a table: the first check with a failing row refuses, and where none has one the table is accepted.
use Rattle.std.proofs.Common.{arith, ℕ, ◌≡◌, refl, sym, Bool, true, false, List, [], Result, Ok, Err, MatchResult, IsErrAnd}
use Rattle.std.proofs.lemmas.Grind.{common_steps}
use Rattle.rules.specs.Places.{accepted}
use Rattle.rules.specs.Rows.{table_fits}
use Rattle.rules.specs.Refusals.{Lowest, Clear}
use Rattle.rules.specs.Answers.{failing1, checked}
use Rattle.rules.proofs.Basics.{of_true}
use Rattle.rules.proofs.Places.{none_fault, lowest_fault}
use Rattle.rules.proofs.Ladders.{rung_at, places_below, all_places, refuses_at, leads_up}
use Rattle.rules.proofs.Refusals.{checked_rungs}
use Rattle.table.specs.declared.row.Row.{Row}
use Rattle.table.specs.Checks.{Finds}
use Rattle.names.specs.declared.Refusal.{Refusal}
use Rattle.names.specs.Labels.{Labelled}
use Rattle.names.specs.Promise.{refusal_number, refusal_place, Judged}

-- a table that does not fit fails check 1 at place 0
pub unfit : (table : List ℕ) → table_fits table ≡ false → Lowest 0 (failing1 table)
unfolding failing1
unfit table e = lowest_fault (table_fits table) e

-- one that fits passes it
pub fit : (table : List ℕ) → table_fits table ≡ true → failing1 table ≡ []
unfolding failing1
fit table e = none_fault (table_fits table) 0 (of_true (table_fits table) e)

module _ (table : List ℕ) (secret : List Bool) where
  -- check n + 1 refuses the table, where the n checks before pass
  pub judged_refused : (n : ℕ) (why : Refusal) → Clear (places_below n (checked_rungs table))
      → Lowest (refusal_place why) (rung_at n (checked_rungs table)).places → refusal_number why ≡ (rung_at n (checked_rungs table)).number
      → Judged table secret (Err why)
  unfolding checked
  judged_refused n why clear low number = record {
    verdict_is = rw number (sym (refuses_at n (checked_rungs table) (accepted tt) clear low));
    labels_are = tt;
  }

  -- where all eight pass, the table is accepted
  pub judged_accepted : Clear (all_places (checked_rungs table)) → Labelled table secret → Judged table secret (Ok tt)
  unfolding checked
  judged_accepted clear labelled = record { verdict_is = sym (leads_up (checked_rungs table) (accepted tt) clear); labels_are = labelled }

-- What a check finds, with the row that fails made a refusal; `gives` tells what the refusal of a row may be.
abbrev pub Refuses : (Row → Refusal → Type 0) → Result (Unit {0}) Row → Result (Unit {0}) Refusal → Type 0
Refuses gives found made = MatchResult found (λ u. made ≡ Ok u) (λ row. IsErrAnd made (gives row))

module _ {places : List ℕ} (gives : Row → Refusal → Type 0) where
  -- where nothing is refused, no place fails
  pub none_refused : (found : Result (Unit {0}) Row) (made : Result (Unit {0}) Refusal) → Finds places found → Refuses gives found made
      → {u : Unit {0}} → made ≡ Ok u → places ≡ []
  none_refused found made finds cases e = grind (arith, common_steps)

  -- and a refusal is of the lowest place that fails
  lowest_refused : (found : Result (Unit {0}) Row) (made : Result (Unit {0}) Refusal) → Finds places found → Refuses gives found made
      → {why : Refusal} → made ≡ Err why → (row : Row) × gives row why × Lowest row.0 places
  lowest_refused found made finds cases e = grind (arith, common_steps)

module _ (table : List ℕ) (secret : List Bool) (n : ℕ) {gives : Row → Refusal → Type 0}
    (says : (row : Row) (why : Refusal) → gives row why
    → (refusal_place why ≡ row.0) × (refusal_number why ≡ (rung_at n (checked_rungs table)).number))
    (found : Result (Unit {0}) Row) (made : Result (Unit {0}) Refusal) (finds : Finds (rung_at n (checked_rungs table)).places found)
    (cases : Refuses gives found made) (clear : Clear (places_below n (checked_rungs table))) where
  -- a check that fails refuses the table, where those before it pass
  pub judged_step : {why : Refusal} → made ≡ Err why → (result : Result (Unit {0}) Refusal) → IsErrAnd result (λ e. e ≡ why) → Judged table secret result
  judged_step e (Ok u) is = absurd is
  judged_step {why} e (Err w) is =
      let (row, given, low) = lowest_refused gives found made finds cases e in
      let (place, number) = says row why given in
      rw is (judged_refused table secret n why clear (rw place low) number)

  -- and after the last check it is refused or accepted
  pub judged_last : ((rung_at n (checked_rungs table)).places ≡ [] → Clear (all_places (checked_rungs table))) → Labelled table secret
      → Judged table secret made
  judged_last all labelled = go made refl
    where
      go : (result : Result (Unit {0}) Refusal) → made ≡ result → Judged table secret result
      go (Ok u) e = judged_accepted table secret (all (none_refused gives found made finds cases e)) labelled
      go (Err why) e = judged_step e (Err why) refl
