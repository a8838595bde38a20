use Rattle.std.proofs.Common.{◌≡◌, ◌≤◌, ◌<◌, ◌+◌, ◌^◌, length, All}
use Rattle.record_text.specs.Script.{Ending}
use Rattle.slider_session.specs.Accepted.{HoldsAccepted}
use Rattle.job_laws.specs.Meanings.{meaning_of}
use Rattle.plain_program.specs.Walk.{walked_from}
use Rattle.plain_program.proofs.walking.walk_commands.Given as goal

abbrev pub invariant-commands : goal.invariant-commands
invariant-commands g l =
    let j = meaning_of g.J.Job l.job in
    record {
      lines : All (λ c. c.1 < 2 ^ 62) l.rest;
      run : l.walk.run + length l.rest ≤ 1 + length l.commands;
      accepted : HoldsAccepted j l.walk.window;
      walked : (ending : Ending) → walked_from j l.walk l.rest ending ≡ walked_from j l.initial.walk l.commands ending;
    }

abbrev pub decreases-commands : goal.decreases-commands
decreases-commands g l = length l.rest
