-- `settings::range_stands` meets its contract: each case is its definition's. Assumes nothing.
use Rattle.settings.proofs.range_stands.Goals as goal

pub returns-in-Upper : goal.returns-in-Upper
returns-in-Upper c = rw c.in-Upper.is

pub returns-in-Lower : goal.returns-in-Lower
returns-in-Lower c = rw c.in-Lower.is
