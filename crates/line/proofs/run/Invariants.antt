-- `line::run` meets its contract: what is left of the line does what the whole does. Assumes nothing.
use Rattle.line_text.specs.Texts.{semicolon}
use Rattle.split.specs.Divide.{parts}
use Rattle.split.proofs.Iterated.{left}
use Rattle.line.proofs.LoopStep.{OnWay}
use Rattle.line.proofs.run.Given as goal

abbrev pub invariant-loop-part : goal.invariant-loop-part
invariant-loop-part l =
    OnWay (parts semicolon l.text) l.fn.s l.initial.one l.initial.two l.initial.reply l.one l.two l.reply l.p
    (left semicolon l.part-iterator)
