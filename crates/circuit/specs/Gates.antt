-- What a gate in code means in the rules' terms (document 01, "Gates").
use Rattle.std.specs.Prelude.{Bool, true, false, Option, None, Some}
use Rattle.std.proofs.Math.Option as maybe
use Rattle.rules.specs.Rows as rows
use Rattle.rules.specs.Gates as rules
use Rattle.circuit.specs.declared.gates.Op.{Op}
use Rattle.circuit.specs.declared.gates.Op.TheVariants.{Add, Greater}
use Rattle.circuit.specs.declared.gates.Read.{Read}
use Rattle.circuit.specs.declared.gates.Gate.{Gate}
use Rattle.circuit.specs.declared.gates.Gate.TheVariants.{Both, Mux, Constant, Convert, Input, Out}
use Rattle.circuit.specs.Sorts.{meant_sort}

abbrev pub meant_op : Op → rows.Op
meant_op Add = rows.add
meant_op Greater = rows.gt

abbrev pub meant : Gate → rules.Gate
meant (Both o a b new) = rules.both (meant_op o) a.0 b.0 new.0
meant (Mux g a b new) = rules.mux g.0 a.0 b.0 new.0
meant (Constant v m new) = rules.constant v.0 (meant_sort m) new.0
meant (Convert w m new) = rules.convert w.0 (meant_sort m) new.0
meant (Input r new) = rules.entry r.desk r.number (meant_sort r.sort) new.0
meant (Out w) = rules.output w.0

-- five words that are no gate mean none
abbrev pub meant_gate : Option Gate → maybe.Option rules.Gate
meant_gate None = maybe.none
meant_gate (Some g) = maybe.some (meant g)

-- a gate makes a wire; an out makes none
abbrev pub makes_wire : Gate → Bool
makes_wire (Both o a b new) = true
makes_wire (Mux g a b new) = true
makes_wire (Constant v m new) = true
makes_wire (Convert w m new) = true
makes_wire (Input r new) = true
makes_wire (Out w) = false

-- the input that a gate reads
abbrev pub read_by : Gate → Option Read
read_by (Both o a b new) = None
read_by (Mux g a b new) = None
read_by (Constant v m new) = None
read_by (Convert w m new) = None
read_by (Input r new) = Some r
read_by (Out w) = None
