-- Laws of sorts and gates in code and by number, and of what check 21 notes.
pub mod SortLaws
pub mod NumberLaws
pub mod GateLaws
pub mod CheckLaws
pub mod PassLaws
