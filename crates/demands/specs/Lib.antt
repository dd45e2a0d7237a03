-- What the paper demands of the operations (document 01, "What has to be stated"), said of their calls.
-- a call of an operation: what was lent, and the end that its contract allows
pub mod Calls
-- neither desk's shares tell two sets of inputs apart, and together they are the plain reading
pub mod Demand3
