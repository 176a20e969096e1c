-- `lockin::take_event` meets its contract: its parts are what the call is. Assumes nothing.
use Rattle.lockin.proofs.Parts.{event-answers}
use Rattle.lockin.proofs.take_event.Goals as goal

pub returns : goal.returns
returns c =
    let args = c.args in
    let each = event-answers args.e args.m _ _ c.guard-guard.ensures c.occur_guarded-h.ensures in
    record { meets = each.0; numbers = each.1 }
