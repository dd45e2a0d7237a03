-- Labels in code: marks on rows, made by passes over the rows' rules; and check 7 (document 01, "Names, labels, indexes"). Only
-- functions inside the desk cite it.
use Rattle.std.specs.Prelude.{ℕ, zero, suc, ◌+◌, ◌≤◌, ◌<◌, ◌≡◌, Bool, true, false, not, cond, ◌||◌, List, T, get_or, Option, Some, None}
use Rattle.words.specs.Words.{words}
use Rattle.rules.specs.Rows.{Row}
use Rattle.rules.specs.Answers.{rows_of, secret_in}
use Rattle.table.specs.declared.row.Row as code
use Rattle.table.specs.declared.meaning.Meaning.{Meaning}
use Rattle.table.specs.declared.meaning.Meaning.TheVariants as m
use Rattle.table.specs.Meaning.{meaning_at}
use Rattle.names.specs.Notes.{declaration_at}

-- a row is marked
abbrev pub marked : List Bool → Row → Bool
marked secret r = get_or secret r false

-- the rule of a row asks for a mark, in any set S of rows; `named` says that its name stands for a declaration in S
abbrev pub asks : (Row → Bool) → Meaning → Bool → Bool
asks S (m.Name x) named = named
asks S (m.Both o a b) named = S a.0 || S b.0
asks S (m.Cond g a b) named = S g.0 || (S a.0 || S b.0)
asks S (m.Element x i) named = named
asks S (m.Input y d n) named = true
asks S (m.Assign x v) named = S v.0
asks S (m.Write x i v) named = S v.0
asks S _ named = false

-- a set of rows has a declaration, if there is one
abbrev pub has : (Row → Bool) → Option code.Row → Bool
has S None = false
has S (Some declaration) = S declaration.0

abbrev pub asked_by : Meaning → Option code.Row → List Bool → Bool
asked_by x declaration secret = asks (marked secret) x (has (marked secret) declaration)

-- a declaration, or else row r
abbrev pub row_or : Row → Option code.Row → Row
row_or r None = r
row_or r (Some declaration) = declaration.0

-- the row that is then marked, of a row and the declaration that its name stands for
abbrev pub asked_row : Meaning → Row → Option code.Row → Row
asked_row (m.Assign x v) r d = row_or r d
asked_row (m.Write x i v) r d = row_or r d
asked_row _ r d = r

-- check 7 of a row
abbrev pub public_by : Meaning → List Bool → Bool
public_by (m.Element x i) secret = not (marked secret i.0)
public_by (m.Write x i v) secret = not (marked secret i.0)
public_by (m.If g a b) secret = not (marked secret g.0)
public_by _ secret = true

-- the declaration that the name of row r of a table stands for
abbrev pub declaration_of : List ℕ → List (Option code.Row) → Row → Option code.Row
declaration_of table binders r = declaration_at (words table) (get_or binders r None)

-- the rule of row r of a table holds in a set S, where binders has the rows that bind names
abbrev pub RuleHolds : List ℕ → List (Option code.Row) → (Row → Bool) → Row → Type 0
RuleHolds table binders S r =
    T (asks S (meaning_at (words table) r) (has S (declaration_of table binders r)))
    → T (S (asked_row (meaning_at (words table) r) r (declaration_of table binders r)))

-- how many of the rows below n are marked
unfoldable pub marks : List Bool → ℕ → ℕ
marks secret zero = 0
marks secret (suc n) = cond (marked secret n) 1 0 + marks secret n

-- every row below n of one set is in the other
abbrev pub Within : ℕ → (Row → Bool) → (Row → Bool) → Type 0
Within n S R = (r : ℕ) → r < n → T (S r) → T (R r)

-- the rules of the rows from i to below j have been followed; `made` says whether that made a mark
pub record Followed (table : List ℕ) (binders : List (Option code.Row)) (secret secret' : List Bool) (i j : ℕ) (made : Bool) : Type 0 where
  pub least : (S : Row → Bool) → ((r : ℕ) → i ≤ r → r < j → RuleHolds table binders S r) → Within (rows_of table) (marked secret) S
      → Within (rows_of table) (marked secret') S
  pub none_made : made ≡ false → (secret' ≡ secret) × ((r : ℕ) → i ≤ r → r < j → RuleHolds table binders (marked secret) r)
  pub no_fewer : marks secret (rows_of table) ≤ marks secret' (rows_of table)
  pub one_more : made ≡ true → marks secret (rows_of table) < marks secret' (rows_of table)

-- the marked rows are the secret ones
pub record Labelled (table : List ℕ) (secret : List Bool) : Type 0 where
  pub are : (r : ℕ) → r < rows_of table → marked secret r ≡ secret_in table r
