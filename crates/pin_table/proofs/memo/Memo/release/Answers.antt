use Rattle.std.proofs.Common.{ℕ, ◌<◌, length, ap, sym, subst, ◌∙◌}
use Rattle.pin_table.specs.Views.{PinView}
use Rattle.pin_table.specs.Known.{held_at}
use Rattle.pin_table.proofs.Replies.{held-inside}
use Rattle.pin_table.proofs.memo.Memo.release.Goals as goal

pub turn-requires-clause-shard : goal.turn-requires-clause-shard
turn-requires-clause-shard g c =
    subst (λ (p : PinView g.row.R-In.Denot g.row.R-Out.Denot). p.shard < length c.args.self.now.locks) (sym c.pin.view_is)
    (subst (λ (n : ℕ). c.args.pin.shard < n) (c.number.ensures.fits.count ∙ ap length c.requires.of) (held-inside c.args.pin.shard c.args.pin.id c.args.caller.now c.requires.held))

pub turn-requires-clause-may : goal.turn-requires-clause-may
turn-requires-clause-may g c =
    subst (λ (i : ℕ). 0 < held_at c.pin.inside.shard i c.args.caller.now) (sym c.id-id.ensures)
    (subst (λ (p : PinView g.row.R-In.Denot g.row.R-Out.Denot). 0 < held_at p.shard p.id c.args.caller.now) (sym c.pin.view_is) c.requires.held)
