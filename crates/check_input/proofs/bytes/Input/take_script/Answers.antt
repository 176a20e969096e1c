-- `check_input::bytes::Input::take_script` meets its contract. Assumes nothing.
use lib.ListN.{length}
use borrow.Author.Tests.{lt-ltb, le-ltb}
use Rattle.check_input.specs.Bytes.{script_after}
use Rattle.check_input.proofs.bytes.Input.take_script.Goals as goal

pub returns-then-self-script : goal.returns-then-self-script
unfolding script_after
returns-then-self-script c =
    rw (lt-ltb c.args.self.now.len (length c.args.script.now) c.if-self-script.true)

pub returns-else-self-script : goal.returns-else-self-script
unfolding script_after
returns-else-self-script c =
    rw (le-ltb c.args.self.now.len (length c.args.script.now) c.if-self-script.false)
