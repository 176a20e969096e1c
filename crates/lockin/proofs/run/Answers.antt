-- `lockin::run` meets its contract. Assumes nothing.
use mathlib.Core.Path.{refl}
use Rattle.line_text.proofs.Bound.{all_cleaned}
use Rattle.line.specs.Line.{line_of}
use Rattle.lockin.proofs.run.Goals as goal

pub returns : goal.returns
unfolding line_of
returns c =
    let ran = rw (all_cleaned c.args.text.now c.requires) at c.run_line-p.ensures in
    rw (c.reported_length-length.ensures, ran.result)
    (record { result = refl; first = ran.first; second = ran.second; reply = ran.reply })
