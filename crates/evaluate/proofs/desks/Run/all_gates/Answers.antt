-- `Run::all_gates` runs all gates.
use Rattle.std.proofs.Common.{◌<◌, rules}
use Rattle.words.specs.Words.{words}
use Rattle.rules.specs.Gates.{gate_count}
use Rattle.evaluate.proofs.TurnLaws.{running_first, running_before, running_next, running_last}
use Rattle.evaluate.proofs.desks.Run.all_gates.Goals.{In-loop-i}
use Rattle.evaluate.proofs.desks.Run.all_gates.Goals as goal

-- there is a gate more
more : (c : In-loop-i) → c.loop-i.i < gate_count (words c.args.self.now.circuit.now)
more c = rw c.gate_count-i-end.ensures at c.loop-i-test.true

pub loop-i-init : goal.loop-i-init
loop-i-init c = record { same = search rules; running = running_first c.requires.fresh }

pub turn-requires : goal.turn-requires
turn-requires c = running_before c.requires.ready c.loop-i.invariant.running (more (goal.at.turn-requires c).In-loop-i)

pub loop-i-preserved : goal.loop-i-preserved
loop-i-preserved c = record {
  same = search rules;
  running =
      running_next c.requires.ready c.loop-i.invariant.running (more (goal.at.loop-i-preserved c).In-loop-i) c.turn.ensures.turned;
}

pub returns-clause-done : goal.returns-clause-done
returns-clause-done c = running_last c.requires.ready c.loop-i.invariant.running (rw c.gate_count-i-end.ensures at c.loop-i-test.false)
