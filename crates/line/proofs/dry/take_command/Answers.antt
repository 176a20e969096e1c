-- `line::dry::take_command` meets its contract: by what the text is read as, then by the tests of 3 and 4. Assumes
-- nothing.
use mathlib.Core.Path.{◌≡◌, sym, ◌∙◌}
use native.Mathlib.Omega.{arith}
use borrow.Author.Rules.{rules}
use Rattle.std.specs.Prelude.{Some, None, Ok, Err}
use Rattle.command.specs.Parsed.{parsed_of}
use Rattle.line.specs.Perform.{command_of}
use Rattle.line.specs.Parts.{effect_of}
use Rattle.line.proofs.Effects.{by_three, by_four, as_planned}
use Rattle.line.proofs.dry.take_command.Goals as goal

pub returns-in_err-c : goal.returns-in_err-c
unfolding effect_of command_of
returns-in_err-c c one two =
    let read : parsed_of c.args.text.now ≡ Err c.in_err-c.field-0.0 = search rules in
    let given : c.from_residual.result ≡ Err c.in_err-c.field-0.0 = search rules in
    rw (read, given)

pub returns-in_default : goal.returns-in_default
unfolding effect_of command_of
returns-in_default c one two =
    let read : parsed_of c.args.text.now ≡ Ok None = search rules in
    rw read

pub returns-then-not-is_allowed : goal.returns-then-not-is_allowed
unfolding effect_of command_of
returns-then-not-is_allowed c one two =
    let a = c.args in
    let read : parsed_of a.text.now ≡ Ok (Some c.in-Some.c) = search rules in
    rw read (by_three a.room a.waiting c.in-Some.c.kind a.s one two
    (sym c.is_allowed.ensures ∙ c.if-not-is_allowed.true))

pub returns-then-room-length : goal.returns-then-room-length
unfolding effect_of command_of
returns-then-room-length c one two =
    let a = c.args in
    let read : parsed_of a.text.now ≡ Ok (Some c.in-Some.c) = search rules in
    rw read
    (by_four a.room a.waiting c.in-Some.c.kind a.s one two c.reply_to-reply.result (c.reply_to-reply.ensures one two)
    c.length.result (c.length.ensures one two) (sym c.is_allowed.ensures ∙ c.if-not-is_allowed.false) (omega arith))

pub returns : goal.returns
unfolding effect_of command_of
returns c one two =
    let a = c.args in
    let read : parsed_of a.text.now ≡ Ok (Some c.in-Some.c) = search rules in
    rw (read, c.storage_after-step.ensures)
    (as_planned a.room a.waiting c.in-Some.c.kind a.s one two c.reply_to-reply.result (c.reply_to-reply.ensures one two)
    c.length.result (c.length.ensures one two) (sym c.is_allowed.ensures ∙ c.if-not-is_allowed.false) (omega arith))
