-- `script::check_commands` meets its contract: what is left of the line answers what the whole does. Assumes nothing.
use Rattle.line_text.specs.Texts.{semicolon}
use Rattle.split.specs.Divide.{parts}
use Rattle.split.proofs.Iterated.{left}
use Rattle.script.proofs.LoopStep.{OnWay}
use Rattle.script.proofs.check_commands.Given as goal

abbrev pub invariant-loop-part : goal.invariant-loop-part
invariant-loop-part l =
    OnWay l.model (parts semicolon l.text) l.initial.extremes l.extremes l.place (left semicolon l.part-iterator)
