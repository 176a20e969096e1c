-- `line::write` meets its contract: the reply fits, and is written whole; any other command writes nothing. Assumes
-- nothing.
use mathlib.Core.Bool.{true}
use mathlib.Core.Path.{◌≡◌, refl, sym, ◌∙◌}
use lib.Dec.{leb}
use lib.ListN.{length}
use Rattle.std.specs.Prelude.{Some, None, Ok}
use Rattle.reply.specs.Parts.{bytes_said}
use borrow.Author.Rules.{rules}
use borrow.Author.Tests.{le-leb}
use Rattle.reply_buffer.specs.Buffer.{fits_in, sent_bytes}
use Rattle.reply_buffer.proofs.Over.{over_none}
use Rattle.line.specs.Parts.{written_by, effect_of}
use Rattle.line.proofs.write.Goals as goal

pub returns-in-Ok-Some : goal.returns-in-Ok-Some
unfolding effect_of written_by sent_bytes fits_in
returns-in-Ok-Some c =
    let a = c.args in
    let plan = c.in-Ok-Some.plan in
    let taken : a.taken ≡ Ok (Some plan) = search rules in
    let fits : leb (length (bytes_said plan.reply a.one.now a.two.now)) (length a.out.now) ≡ true =
    le-leb (length (bytes_said plan.reply a.one.now a.two.now)) (length a.out.now) (rw taken at c.requires) in
    rw taken (c.store.ensures.0, c.store.ensures.1, c.send.ensures.reply ∙ rw fits)

pub returns-in-Ok-None : goal.returns-in-Ok-None
unfolding effect_of
returns-in-Ok-None c =
    let taken : c.args.taken ≡ Ok None = search rules in
    rw taken (refl, refl, sym (over_none c.args.out.now))

pub returns-in-Err : goal.returns-in-Err
unfolding effect_of
returns-in-Err c = rw c.in-Err.is (refl, refl, sym (over_none c.args.out.now))
