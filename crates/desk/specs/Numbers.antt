-- The C interface's structs as the rules' answers (document 01, "Order of refusals"): the same fields, in the same order.
use Rattle.rules.specs.Answers as rules
use Rattle.desk.specs.declared.Evaluated.{Evaluated}

abbrev pub as_numbers : Evaluated → rules.Evaluated
as_numbers r = record { number = r.number; place = r.place; wires = r.wires; outputs = r.outputs }
