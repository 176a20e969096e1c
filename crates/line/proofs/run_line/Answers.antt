-- `line::run_line` meets its contract: a line without a byte is one empty command. Assumes nothing.
use mathlib.Core.Path.{◌≡◌, sym, ap, ◌∙◌}
use mathlib.Core.List.{[]}
use native.Mathlib.Omega.{arith}
use lib.ListN.{length}
use borrow.Author.Tests.{eqb-true}
use Rattle.std.proofs.lemmas.List.{nil_from_length}
use Rattle.split.specs.Divide.{parts}
use Rattle.line_text.specs.Clean.{cleaned}
use Rattle.outcome.specs.Answer.{drops}
use Rattle.command.specs.Parsed.{parsed_of}
use Rattle.line.specs.Perform.{command_of}
use Rattle.line.specs.Line.{after_of, after_command, run_all}
use Rattle.line.proofs.Steps.{empty-holds}
use Rattle.line.proofs.run_line.Goals as goal

pub passed_over-requires : goal.passed_over-requires
passed_over-requires c = omega (arith, ap (λ p. p.count) (c.start.ensures [] []))

pub returns-then-is_empty : goal.returns-then-is_empty
unfolding run_all after_command after_of command_of parsed_of drops cleaned parts
returns-then-is_empty c =
    let a = c.args in
    let line = a.line.now in
    let none : line ≡ [] = nil_from_length line (eqb-true (length line) 0 (sym c.is_empty.ensures ∙ c.if-is_empty.true)) in
    let start = c.start.ensures a.one.now a.two.now in
    rw none (rw start at
    (empty-holds c.start.result c.passed_over.result a.one.now a.two.now a.reply.now (omega (arith, ap (λ p. p.at) start))
    c.passed_over.ensures))
