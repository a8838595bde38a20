use Rattle.std.proofs.Common.{◌≡◌, ◌<◌, ◌≤◌, length, All, IfOk, OnOk, refl, sym, subst, ◌∙◌}
use Rattle.definitions.specs.Answer.{pairs_of}
use Rattle.job_laws.specs.Counted.{RoseBy}
use Rattle.job_laws.specs.Meanings.{AllAccepted, meaning_of}
use Rattle.map_tasks.specs.Inputs.{InputView, input_digest}
use Rattle.map_tasks.specs.Texts.{IsMappedSo, IsHeld, Comes}
use Rattle.map_tasks.specs.Lanes.{LookedFirst, KeptOrClashed}
use Rattle.map_tasks.proofs.lane.Lane.bring.Goals as goal

pub bring_input-requires-clause-accepted : goal.bring_input-requires-clause-accepted
bring_input-requires-clause-accepted g c =
    let same : c.new-input.result ≡ record { text = c.args.bundle.now; parts = c.args.parts; setting = g.J.Job.setting c.args.job.now } = c.new-input.ensures ∙ (λ i. record { text = c.in-Ok.ensures i; parts = c.args.parts; setting = c.setting.ensures i }) in
    subst (λ (i : InputView). AllAccepted (meaning_of g.J.Job c.args.job.now) i.text) (sym same) c.requires.accepted

pub bring_input-requires-clause-parts : goal.bring_input-requires-clause-parts
bring_input-requires-clause-parts g c =
    let same : c.new-input.result ≡ record { text = c.args.bundle.now; parts = c.args.parts; setting = g.J.Job.setting c.args.job.now } = c.new-input.ensures ∙ (λ i. record { text = c.in-Ok.ensures i; parts = c.args.parts; setting = c.setting.ensures i }) in
    subst (λ (i : InputView). (1 ≤ i.parts) × (i.parts ≤ 16)) (sym same) c.requires.parts

pub bring_input-requires-clause-setting : goal.bring_input-requires-clause-setting
bring_input-requires-clause-setting g c =
    let same : c.new-input.result ≡ record { text = c.args.bundle.now; parts = c.args.parts; setting = g.J.Job.setting c.args.job.now } = c.new-input.ensures ∙ (λ i. record { text = c.in-Ok.ensures i; parts = c.args.parts; setting = c.setting.ensures i }) in
    subst (λ (i : InputView). i.setting ≡ g.J.Job.setting c.args.job.now) (sym same) refl

pub bring_input-requires-clause-mapped : goal.bring_input-requires-clause-mapped
bring_input-requires-clause-mapped g c =
    let same : c.new-input.result ≡ record { text = c.args.bundle.now; parts = c.args.parts; setting = g.J.Job.setting c.args.job.now } = c.new-input.ensures ∙ (λ i. record { text = c.in-Ok.ensures i; parts = c.args.parts; setting = c.setting.ensures i }) in
    subst (λ (i : InputView). All (IsMappedSo i.parts i.setting) c.args.self.now.texts) (sym same) c.requires.mapped

pub returns-clause-leaf : goal.returns-clause-leaf
returns-clause-leaf g c =
    let same : c.new-input.result ≡ record { text = c.args.bundle.now; parts = c.args.parts; setting = g.J.Job.setting c.args.job.now } = c.new-input.ensures ∙ (λ i. record { text = c.in-Ok.ensures i; parts = c.args.parts; setting = c.setting.ensures i }) in
    subst (λ (i : InputView). IfOk c.bring_input.result (λ l. l ≡ i)) same c.bring_input.ensures.leaf

pub returns-clause-ok : goal.returns-clause-ok
returns-clause-ok g c =
    let same : c.new-input.result ≡ record { text = c.args.bundle.now; parts = c.args.parts; setting = g.J.Job.setting c.args.job.now } = c.new-input.ensures ∙ (λ i. record { text = c.in-Ok.ensures i; parts = c.args.parts; setting = c.setting.ensures i }) in
    subst (λ (i : InputView). OnOk c.bring_input.result (Comes i.text c.args.self.now.texts c.bring_input.new.self.texts)) same c.bring_input.ensures.ok

pub returns-clause-mapped : goal.returns-clause-mapped
returns-clause-mapped g c =
    let same : c.new-input.result ≡ record { text = c.args.bundle.now; parts = c.args.parts; setting = g.J.Job.setting c.args.job.now } = c.new-input.ensures ∙ (λ i. record { text = c.in-Ok.ensures i; parts = c.args.parts; setting = c.setting.ensures i }) in
    subst (λ (i : InputView). All (IsMappedSo i.parts i.setting) c.bring_input.new.self.texts) same c.bring_input.ensures.mapped

pub returns-clause-held : goal.returns-clause-held
returns-clause-held g c =
    let same : c.new-input.result ≡ record { text = c.args.bundle.now; parts = c.args.parts; setting = g.J.Job.setting c.args.job.now } = c.new-input.ensures ∙ (λ i. record { text = c.in-Ok.ensures i; parts = c.args.parts; setting = c.setting.ensures i }) in
    subst (λ (i : InputView). IsHeld i.text c.args.self.now.texts → g.J.Meter.Meter.counts c.bring_input.new.m ≡ g.J.Meter.Meter.counts c.args.m.now) same c.bring_input.ensures.held

pub returns-clause-counted : goal.returns-clause-counted
returns-clause-counted g c =
    let same : c.new-input.result ≡ record { text = c.args.bundle.now; parts = c.args.parts; setting = g.J.Job.setting c.args.job.now } = c.new-input.ensures ∙ (λ i. record { text = c.in-Ok.ensures i; parts = c.args.parts; setting = c.setting.ensures i }) in
    subst (λ (i : InputView). RoseBy (length i.text) 0 (length (pairs_of (g.J.Job.emits (g.J.Job.setting c.args.job.now)) i.text)) (g.J.Meter.Meter.counts c.args.m.now) (g.J.Meter.Meter.counts c.bring_input.new.m)) same c.bring_input.ensures.counted

pub returns-clause-looked : goal.returns-clause-looked
returns-clause-looked g c =
    let same : c.new-input.result ≡ record { text = c.args.bundle.now; parts = c.args.parts; setting = g.J.Job.setting c.args.job.now } = c.new-input.ensures ∙ (λ i. record { text = c.in-Ok.ensures i; parts = c.args.parts; setting = c.setting.ensures i }) in
    subst (λ (i : InputView). (g.J.Meter.Meter.counts c.args.m.now).maps < (g.J.Meter.Meter.counts c.bring_input.new.m).maps → LookedFirst (input_digest i.text) c.args.self.now.caller c.bring_input.new.self.caller) same c.bring_input.ensures.looked

pub returns-clause-kept : goal.returns-clause-kept
returns-clause-kept g c =
    let same : c.new-input.result ≡ record { text = c.args.bundle.now; parts = c.args.parts; setting = g.J.Job.setting c.args.job.now } = c.new-input.ensures ∙ (λ i. record { text = c.in-Ok.ensures i; parts = c.args.parts; setting = c.setting.ensures i }) in
    subst (λ (i : InputView). OnOk c.bring_input.result ((IsHeld i.text c.args.self.now.texts → ⊥) → KeptOrClashed (input_digest i.text) c.args.self.now.caller c.bring_input.new.self.caller)) same c.bring_input.ensures.kept
