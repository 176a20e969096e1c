-- `line::dry::run` meets its contract: what is left of the line comes to what the whole comes to. Assumes nothing.
use Rattle.line_text.specs.Texts.{semicolon}
use Rattle.split.specs.Divide.{parts}
use Rattle.split.proofs.Iterated.{left}
use Rattle.line.proofs.DryPass.{OnDryWay}
use Rattle.line.proofs.dry.run.Given as goal

abbrev pub invariant-loop-part : goal.invariant-loop-part
invariant-loop-part l =
    OnDryWay (parts semicolon l.text) l.room l.fn.s l.p (left semicolon l.part-iterator)
