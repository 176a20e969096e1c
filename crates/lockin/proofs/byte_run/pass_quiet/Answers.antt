-- `lockin::byte_run::pass_quiet` meets its contract. Assumes nothing.
use mathlib.Core.Path.{refl}
use Rattle.lockin.specs.Parts.{run_at}
use Rattle.lockin.proofs.byte_run.pass_quiet.Goals as goal

pub returns : goal.returns
returns c =
    record {
      goes_on = (λ room one two out. c.take_quiet-q.ensures.goes_on room (run_at c.args.p one two out) refl);
      onward = c.take_quiet-q.ensures.onward;
      report_stays = refl;
    }
