-- `Walk::look` notes what the search for the row's name finds, and asks of it what check 5 asks.
use Rattle.std.proofs.Common.{refl, sym, ap, ◌∙◌}
use Rattle.std.proofs.lemmas.Option.{MatchOption-at_some}
use Rattle.names.specs.Naming.{naming_of}
use Rattle.names.proofs.SweepLaws.{look_in, look_few, found_in_table, swept_passing, swept_failing}
use Rattle.names.proofs.scope.Walk.look.Goals as goal

pub meaning_at-requires : goal.meaning_at-requires
meaning_at-requires c = look_in c.requires

pub bounds-self-row : goal.bounds-self-row
bounds-self-row c = look_few c.requires

pub allowed-requires : goal.allowed-requires
allowed-requires c =
    let is = c.naming_of-naming.ensures ∙ ap naming_of c.meaning_at.ensures in
    let inside = found_in_table c.requires is c.deref.ensures.0 c.find_named-binder.ensures in
    λ row some. MatchOption-at_some _ _ row some inside

pub returns-then-not-allowed : goal.returns-then-not-allowed
returns-then-not-allowed c =
    let is = c.naming_of-naming.ensures ∙ ap naming_of c.meaning_at.ensures in
    let fails = sym c.allowed.ensures ∙ c.if-not-allowed.true in
    record {
      swept = λ d. swept_failing c.requires is c.deref.ensures.0 c.find_named-binder.ensures d fails c.lowered-self.ensures;
      kept = record { table = refl; same_reference = refl };
      scope = refl;
    }

pub returns-else-not-allowed : goal.returns-else-not-allowed
returns-else-not-allowed c =
    let is = c.naming_of-naming.ensures ∙ ap naming_of c.meaning_at.ensures in
    let passes = sym c.allowed.ensures ∙ c.if-not-allowed.false in
    record {
      swept = λ d. swept_passing c.requires is c.deref.ensures.0 c.find_named-binder.ensures d passes;
      kept = record { table = refl; same_reference = refl };
      scope = refl;
    }
