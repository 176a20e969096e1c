-- `check_input::bytes::Input::take_bytes` meets its contract: what is left of the bytes gives from here what all give
-- from the start. Assumes nothing.
use Prim.Native.Nat.{◌+◌}
use mathlib.Core.Path.{sym, ap, ◌∙◌}
use lib.ListN.{drop}
use borrow.Author.Rules.{rules}
use Rattle.check_input.specs.Bytes.{memory, after_bytes}
use Rattle.check_input.proofs.Sequence.{none_left, one_left}
use Rattle.check_input.proofs.bytes.Input.take_bytes.Goals as goal

pub loop-b-preserved : goal.loop-b-preserved
loop-b-preserved c =
    let v = c.loop-b in
    let bytes = c.args.bytes.now in (
      search rules,
      ap (after_bytes (drop (v.b-index + 1) bytes)) c.take_byte.ensures
          ∙ sym (one_left bytes v.b-index (memory v.self v.script) c.loop-b-test.true)
          ∙ v.invariant.1,
    )

pub returns : goal.returns
returns c =
    let v = c.loop-b in
    let bytes = c.args.bytes.now in
    sym (none_left bytes v.b-index (memory v.self v.script) c.loop-b-test.false) ∙ v.invariant.1
