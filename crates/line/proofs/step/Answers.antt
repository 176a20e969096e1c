-- `line::step` meets its contract. Assumes nothing.
use Prim.Native.Nat.{◌-◌, ◌<◌}
use mathlib.Core.Path.{ap}
use native.Mathlib.Omega.{arith}
use borrow.Author.Rules.{rules}
use lib.Dec.{ltb}
use lib.ListN.{length}
use Rattle.command.specs.Parsed.{parsed_of}
use Rattle.line.specs.Parts.{effect_of}
use Rattle.line.proofs.Effects.{command-fits}
use Rattle.line.proofs.Steps.{step-holds, part_room, mended-length}
use Rattle.line.proofs.step.Goals as goal

pub write-requires : goal.write-requires
write-requires c =
    let a = c.args in
    omega (
      arith,
      ap (λ e. length e.out) (c.take_command-taken.ensures a.one.now a.two.now),
      command-fits (length a.reply.now - a.p.at) (ltb 0 a.p.at) (parsed_of a.text.now) a.p.state a.one.now a.two.now,
      part_room a.reply.now a.p.at c.requires.0,
    )

pub after-requires : goal.after-requires
after-requires c =
    let a = c.args in
    let long : length a.reply.now < 18446744073709551616 = search rules in (
      λ one two.
          omega (
            arith,
            ap (λ e. length e.out) (c.take_command-taken.ensures one two),
            command-fits (length a.reply.now - a.p.at) (ltb 0 a.p.at) (parsed_of a.text.now) a.p.state one two,
          ),
      c.requires.1,
    )

pub returns-clause-meets : goal.returns-clause-meets
returns-clause-meets c =
    let a = c.args in
    step-holds a.p c.after.result a.text.now a.one.now a.two.now _ _ a.reply.now c.write.new.out
    (effect_of c.take_command-taken.result a.p.state a.one.now a.two.now) c.requires.0
    (c.take_command-taken.ensures a.one.now a.two.now) c.write.ensures.0 c.write.ensures.1 c.write.ensures.2
    (c.after.ensures a.one.now a.two.now)

pub returns-clause-at_in_bounds : goal.returns-clause-at_in_bounds
returns-clause-at_in_bounds c =
    let a = c.args in
    let at = ap (λ r. r.at) (c.after.ensures a.one.now a.two.now) in (
      omega arith,
      omega (
        arith,
        ap (λ e. length e.out) (c.take_command-taken.ensures a.one.now a.two.now),
        command-fits (length a.reply.now - a.p.at) (ltb 0 a.p.at) (parsed_of a.text.now) a.p.state a.one.now a.two.now,
        mended-length a.reply.now a.p.at c.requires.0 c.write.new.out c.write.auto.out,
      ),
      ap (λ r. r.count) (c.after.ensures a.one.now a.two.now),
    )
