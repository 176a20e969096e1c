-- `state::settled` meets its contract. Assumes nothing.
use Rattle.state.specs.State.{settled}
use Rattle.state.proofs.settled.Goals as goal

pub returns : goal.returns
unfolding settled
returns c =
    rw (
      c.with_lia-t.ensures,
      c.with_value-t.ensures,
      c.range_effect-effect.ensures,
      c.value_of-constant.ensures,
      c.range_settled-acquisition.ensures,
    )
