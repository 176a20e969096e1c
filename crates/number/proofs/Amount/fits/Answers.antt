-- `number::Amount::fits` meets its contract. Assumes nothing.
use borrow.Author.Tests.{le-leb, lt-leb}
use Rattle.number.specs.Parts.{fits_range}
use Rattle.number.proofs.Flag.{flag_value}
use Rattle.number.proofs.Amount.fits.Goals as goal

pub returns-then-low-q : goal.returns-then-low-q
unfolding fits_range
returns-then-low-q c =
    let low = rw (c.from-low.ensures, c.from-bias.ensures, c.from-exact.ensures, flag_value) at c.if-low-q.true in
    rw (c.if-q.true, c.from-bias.ensures, c.from-high.ensures, le-leb _ _ low)

pub returns-else-low-q : goal.returns-else-low-q
unfolding fits_range
returns-else-low-q c =
    let low = rw (c.from-low.ensures, c.from-bias.ensures, c.from-exact.ensures, flag_value) at c.if-low-q.false in
    rw (c.if-q.true, c.from-low.ensures, c.from-bias.ensures, c.from-exact.ensures, flag_value, lt-leb _ _ low)

pub returns-then-low-bias : goal.returns-then-low-bias
unfolding fits_range
returns-then-low-bias c =
    let low = rw (c.from-low.ensures, c.from-bias.ensures) at c.if-low-bias.true in
    rw (c.if-q.false, c.from-bias.ensures, c.from-high.ensures, c.from-exact.ensures, flag_value, le-leb _ _ low)

pub returns-else-low-bias : goal.returns-else-low-bias
unfolding fits_range
returns-else-low-bias c =
    let low = rw (c.from-low.ensures, c.from-bias.ensures) at c.if-low-bias.false in
    rw (c.if-q.false, c.from-low.ensures, c.from-bias.ensures, lt-leb _ _ low)
