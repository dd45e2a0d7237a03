-- What the code's sorts, gates and tables mean in the rules' terms.
pub mod Sorts
pub mod Numbers
pub mod Gates
pub mod Slots
pub mod Noted
