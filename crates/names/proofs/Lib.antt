-- The laws of checks 1 to 8 in code.
-- check 5: rows by their kind, the search for a name, the sweep over sites, the walk, and what it leaves
pub mod NamingLaws
pub mod SearchLaws
pub mod SweepLaws
pub mod WalkLaws
pub mod DeclareLaws
-- checks 6, 7 and 8: notes of rows from the lowest up, and what is known of a row before it is checked
pub mod NoteLaws
pub mod NotedLaws
pub mod ToldLaws
-- check 6: types, and inputs read at one type
pub mod TypeLaws
pub mod InputLaws
-- check 7: marked rows, the rule at each row, and the passes over all rules
pub mod PublicLaws
pub mod RuleLaws
pub mod LabelLaws
-- check 8: counts
pub mod CountLaws
-- all eight in their order
pub mod JudgeLaws
