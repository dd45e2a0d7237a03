-- What the C interface's structs say.
pub mod Numbers
