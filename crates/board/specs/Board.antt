-- What a run of bytes leaves where the module stays in its place (§1.7).
use Rattle.module.specs.declared.Module.{Module}
use Rattle.lockin.specs.declared.byte_run.RunReport.{RunReport}
use Rattle.lockin.specs.declared.byte_run.RunResult.{RunResult}

-- §1.7: the module behind the reference and the report, put together as the call by value gives them back
abbrev pub run_as : Module → RunReport → RunResult
run_as m t = record { after = m; report = t }
