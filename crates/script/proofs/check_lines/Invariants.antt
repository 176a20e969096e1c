-- `script::check_lines` meets its contract: what is left of the script says what the whole does. Assumes nothing.
use Rattle.line_text.specs.Clean.{lf}
use Rattle.split.proofs.Iterated.{left}
use Rattle.script.proofs.Script.{Left}
use Rattle.script.proofs.check_lines.Given as goal

abbrev pub invariant-loop-text : goal.invariant-loop-text
invariant-loop-text l = Left l.model l.script l.extremes l.line (left lf l.text-iterator)
