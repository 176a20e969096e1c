-- `line::dry::step` meets its contract. Assumes nothing.
use Prim.Native.Nat.{◌-◌}
use mathlib.Core.Path.{ap}
use mathlib.Core.List.{[]}
use native.Mathlib.Omega.{arith}
use lib.Dec.{ltb}
use lib.ListN.{length}
use Rattle.command.specs.Parsed.{parsed_of}
use Rattle.line.specs.Parts.{effect_of}
use Rattle.line.proofs.Effects.{command-fits}
use Rattle.line.proofs.DryPass.{dry_step}
use Rattle.line.proofs.dry.step.Goals as goal

pub after-requires : goal.after-requires
after-requires c =
    let a = c.args in (
      λ one two.
          omega (
            arith,
            ap (λ e. length e.out) (c.take_command-taken.ensures one two),
            command-fits (a.room - a.p.at) (ltb 0 a.p.at) (parsed_of a.text.now) a.p.state one two,
          ),
      c.requires.1,
    )

pub returns-clause-value : goal.returns-clause-value
returns-clause-value c =
    let a = c.args in
    dry_step a.room a.text.now a.p c.after.result (effect_of c.take_command-taken.result a.p.state)
    c.take_command-taken.ensures c.after.ensures

pub returns-clause-at_in_bounds : goal.returns-clause-at_in_bounds
returns-clause-at_in_bounds c =
    let a = c.args in (
      omega (
        arith,
        ap (λ r. r.at) (c.after.ensures [] []),
        ap (λ e. length e.out) (c.take_command-taken.ensures [] []),
        command-fits (a.room - a.p.at) (ltb 0 a.p.at) (parsed_of a.text.now) a.p.state [] [],
      ),
      ap (λ r. r.count) (c.after.ensures [] []),
    )
