-- What the memories hold gate by gate, one turn, the checks of inputs, and the operation's cases.
pub mod HeldLaws
pub mod InputLaws
pub mod TurnLaws
pub mod AnswerLaws
