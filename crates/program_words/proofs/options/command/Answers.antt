use Rattle.std.proofs.Common.{◌≡◌, ◌∙◌, ap₂, codes}
use Rattle.std.proofs.lemmas.Result.{IfOk-weaker}
use Rattle.clap.specs.Words.{app_of, with_rule}
use Rattle.program_words.specs.Options.{bare_app, option_rule}
use Rattle.program_words.proofs.options.command.Goals as goal

pub returns : goal.returns
returns c =
    let with_job = with_rule bare_app (option_rule (codes "job")) in
    let first : app_of c.in_ok-arg.field-0 ≡ with_job = c.in_ok-arg.ensures.shape c.option.ensures.alone ∙ ap₂ with_rule c.bare_command.ensures c.option.ensures.rule in
    let with_k = with_rule with_job (option_rule (codes "k")) in
    let second : app_of c.in_ok-arg-2.field-0 ≡ with_k = c.in_ok-arg-2.ensures.shape c.option-2.ensures.alone ∙ ap₂ with_rule first c.option-2.ensures.rule in
    let with_tree = with_rule with_k (option_rule (codes "tree")) in
    let third : app_of c.in_ok-arg-3.field-0 ≡ with_tree = c.in_ok-arg-3.ensures.shape c.option-3.ensures.alone ∙ ap₂ with_rule second c.option-3.ensures.rule in
    let with_buckets = with_rule with_tree (option_rule (codes "buckets")) in
    let fourth : app_of c.in_ok-arg-4.field-0 ≡ with_buckets = c.in_ok-arg-4.ensures.shape c.option-4.ensures.alone ∙ ap₂ with_rule third c.option-4.ensures.rule in
    let with_parts = with_rule with_buckets (option_rule (codes "parts")) in
    let fifth : app_of c.in_ok-arg-5.field-0 ≡ with_parts = c.in_ok-arg-5.ensures.shape c.option-5.ensures.alone ∙ ap₂ with_rule fourth c.option-5.ensures.rule in
    let with_workers = with_rule with_parts (option_rule (codes "workers")) in
    let sixth : app_of c.in_ok-arg-6.field-0 ≡ with_workers = c.in_ok-arg-6.ensures.shape c.option-6.ensures.alone ∙ ap₂ with_rule fifth c.option-6.ensures.rule in
    let with_shards = with_rule with_workers (option_rule (codes "shards")) in
    let seventh : app_of c.in_ok-arg-7.field-0 ≡ with_shards = c.in_ok-arg-7.ensures.shape c.option-7.ensures.alone ∙ ap₂ with_rule sixth c.option-7.ensures.rule in
    let with_keep = with_rule with_shards (option_rule (codes "keep")) in
    let eighth : app_of c.in_ok-arg-8.field-0 ≡ with_keep = c.in_ok-arg-8.ensures.shape c.option-8.ensures.alone ∙ ap₂ with_rule seventh c.option-8.ensures.rule in
    let with_gen = with_rule with_keep (option_rule (codes "gen")) in
    let ninth : app_of c.in_ok-arg-9.field-0 ≡ with_gen = c.in_ok-arg-9.ensures.shape c.option-9.ensures.alone ∙ ap₂ with_rule eighth c.option-9.ensures.rule in
    IfOk-weaker c.arg-10.result _ _ (λ command adds. adds.shape c.flag.ensures.alone ∙ ap₂ with_rule ninth c.flag.ensures.rule) c.arg-10.ensures
