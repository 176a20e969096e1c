-- `format::digit` meets its contract: the last digit of what stands before the places passed over. Assumes nothing.
use Rattle.format.proofs.digit.Goals as goal

pub returns : goal.returns
returns c = rw c.whole_part.ensures
