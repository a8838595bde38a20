use Rattle.std.proofs.Common.{◌≡◌, length}
use Rattle.memo_core.specs.Machine.{replayed, replayed_from}
use Rattle.memo_core.proofs.replaying.replay.Given as goal

-- What is still to come leads from here to where the history leads.
abbrev pub invariant-events : goal.invariant-events
invariant-events l = replayed_from l.state l.rest ≡ replayed l.events

abbrev pub decreases-events : goal.decreases-events
decreases-events l = length l.rest
