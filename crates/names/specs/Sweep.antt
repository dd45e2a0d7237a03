-- What check 5 leaves of a list of sites: the lowest row that fails it, and for each row the row that binds its name (document 01,
-- "Names, labels, indexes"). Only functions inside the desk cite it.
use Rattle.std.specs.Prelude.{ℕ, ◌<◌, ◌≡◌, List, [], ◌∷◌, ◌++◌, set, All, Option, Some, None}
use Rattle.std.proofs.Math.Option.{none, some}
use Rattle.std.proofs.Math.Option as rules
use Rattle.words.specs.Words.{words}
use Rattle.rules.specs.Rows as rows
use Rattle.rules.specs.Scope.{Known, declared, looped}
use Rattle.rules.specs.Sites.{row_n, Site, failing}
use Rattle.rules.specs.Names.{check5}
use Rattle.rules.specs.Answers.{rows_of}
use Rattle.rules.specs.Refusals.{Lowest}
use Rattle.rows.specs.ByRow.{known_at}
use Rattle.table.specs.declared.row.Row.{Row}
use Rattle.names.specs.Declares.{name_of, found_by}

-- the row that binds a name, if the name stands for something
abbrev pub row_k : Known → rows.Row
row_k (declared r y n) = r
row_k (looped r l) = r

abbrev pub binder_of : rules.Option Known → Option Row
binder_of none = None
binder_of (some k) = Some (record { 0 = row_k k })

-- what a site's name stands for
abbrev pub stands_for : Site → rules.Option Known
stands_for s = found_by s.scope (name_of s.node)

-- the rows that bind the names of sites, noted one after another
unfoldable pub noted : List Site → List (Option Row) → List (Option Row)
noted [] binders = binders
noted (s ∷ ss) binders = noted ss (set binders (row_n s.node) (binder_of (stands_for s)))

-- what a name stands for is what the table says at the row that binds it
abbrev pub InTable : List ℕ → rules.Option Known → Type 0
InTable table none = Unit {0}
InTable table (some k) = (row_k k < rows_of table) × (k ≡ known_at (words table) (row_k k))

-- the lowest of the rows that have failed, if one has
abbrev pub LowestOf : List ℕ → Option Row → Type 0
LowestOf ps None = ps ≡ []
LowestOf ps (Some row) = Lowest row.0 ps

-- sites have been looked at: the rows among them that fail check 5 count towards the lowest, and the rows that bind their names are
-- noted
pub record Swept (table : List ℕ) (ss : List Site) (binders binders' : List (Option Row)) (lowest lowest' : Option Row) : Type 0 where
  pub finds : (ps : List ℕ) → LowestOf ps lowest → LowestOf (ps ++ failing check5 ss) lowest'
  pub noted_is : binders' ≡ noted ss binders
  pub in_table : All (λ s. InTable table (stands_for s)) ss
