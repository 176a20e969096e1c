-- `lockin::byte_run::run_bytes` meets its contract: what is left of the run does what the whole does. Assumes nothing.
use Prim.Native.Nat.{◌<◌}
use mathlib.Core.Path.{refl, ◌∙◌}
use native.Mathlib.Omega.{arith}
use lib.ListN.{length}
use Rattle.lockin.proofs.WholeRun.{over, all_taken, stopped-run, one_more, again}
use Rattle.lockin.proofs.byte_run.run_bytes.Goals as goal

pub loop-p-init : goal.loop-p-init
loop-p-init c =
    record {
      inside = omega arith;
      ended = omega arith;
      same = refl;
      fits = omega arith;
      long = refl;
      long-one = refl;
      long-two = refl;
    }

pub pass_quiet-p-requires : goal.pass_quiet-p-requires
pass_quiet-p-requires c = (c.loop-p.invariant.inside, c.loop-p.invariant.ended)

pub shape_of-one-then-at-run : goal.shape_of-one-then-at-run
shape_of-one-then-at-run c = c.loop-p.invariant.long-one

pub shape_of-two-then-at-run : goal.shape_of-two-then-at-run
shape_of-two-then-at-run c = c.loop-p.invariant.long-two

pub shape_of-reply-then-at-run : goal.shape_of-reply-then-at-run
shape_of-reply-then-at-run c = c.loop-p.invariant.long

pub returns-then-at-run : goal.returns-then-at-run
returns-then-at-run c =
    let args = c.args in
    over args.run.now args.mark args.m _ _ _ _ _ _ c.pass_quiet-p.result
    (all_taken c.loop-p.invariant c.pass_quiet-p.result c.pass_quiet-p.ensures.goes_on c.if-at-run.true)

pub next_byte-step-requires : goal.next_byte-step-requires
next_byte-step-requires c = (
  rw c.pass_quiet-p.ensures.report_stays c.loop-p.invariant.fits,
  c.pass_quiet-p.ensures.onward.2,
  omega (arith, c.pass_quiet-p.ensures.onward.1, c.well_formed.1.0.1),
)

pub shape_of-one-then-step : goal.shape_of-one-then-step
shape_of-one-then-step c = c.next_byte-step.auto.one ∙ c.loop-p.invariant.long-one

pub shape_of-two-then-step : goal.shape_of-two-then-step
shape_of-two-then-step c = c.next_byte-step.auto.two ∙ c.loop-p.invariant.long-two

pub shape_of-reply-then-step : goal.shape_of-reply-then-step
shape_of-reply-then-step c = c.next_byte-step.auto.reply ∙ c.loop-p.invariant.long

pub returns-then-step : goal.returns-then-step
returns-then-step c =
    let args = c.args in
    let inside : c.pass_quiet-p.result.taken < length args.run.now = omega arith in
    over args.run.now args.mark args.m _ _ _ _ _ _ c.next_byte-step.result.progress
    (stopped-run c.loop-p.invariant c.pass_quiet-p.result c.pass_quiet-p.ensures.goes_on inside refl c.marked_at.ensures
    c.next_byte-step.ensures.next_byte c.if-step.true)

pub loop-p-smaller : goal.loop-p-smaller
loop-p-smaller c =
    let args = c.args in
    let inside : c.pass_quiet-p.result.taken < length args.run.now = omega arith in
    let more = one_more c.loop-p.invariant c.pass_quiet-p.result c.pass_quiet-p.ensures.goes_on inside refl
    c.marked_at.ensures
    c.next_byte-step.ensures.next_byte c.if-step.false in
    omega (arith, more, c.pass_quiet-p.ensures.onward.0)

pub loop-p-preserved : goal.loop-p-preserved
loop-p-preserved c =
    let args = c.args in
    let inside : c.pass_quiet-p.result.taken < length args.run.now = omega arith in
    again c.loop-p.invariant c.pass_quiet-p.result c.pass_quiet-p.ensures.goes_on inside refl c.marked_at.ensures
    c.next_byte-step.ensures.next_byte
    c.if-step.false c.pass_quiet-p.ensures.onward.2 c.next_byte-step.ensures.length_in_bounds
    c.next_byte-step.auto.reply c.next_byte-step.auto.one
    c.next_byte-step.auto.two
