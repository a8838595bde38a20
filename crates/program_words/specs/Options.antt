-- The command of the options, as `clap` reads it.
use Rattle.std.specs.Prelude.{true, codes}
use Rattle.std.specs.declared.option.Option.TheVariants.{Some}
use Rattle.clap.specs.declared.builder.action.ArgAction.TheVariants.{SetTrue}
use Rattle.clap.specs.Walk.{Rule}
use Rattle.clap.specs.Simple.{App, new_app, new_rule, on_top, with_rule}
use Rattle.program_words.specs.WellFormed.{Text}

-- An option with one value.
abbrev pub option_rule : Text → Rule
option_rule name = record (new_rule name) { long = Some name }

-- A flag, which has no value.
abbrev pub flag_rule : Text → Rule
flag_rule name = record (new_rule name) { long = Some name; action = Some SetTrue }

-- The program without options.
abbrev pub bare_app : App
bare_app = on_top (λ s. record s { no_binary_name = true; disable_help_flag = true }) (new_app (codes "slider"))

-- The program with nothing but its options.
abbrev pub slider_app : App
slider_app =
    with_rule (with_rule (with_rule (with_rule (with_rule (with_rule (with_rule (with_rule (with_rule (with_rule
    bare_app
    (option_rule (codes "job"))) (option_rule (codes "k"))) (option_rule (codes "tree"))) (option_rule (codes "buckets"))) (option_rule (codes "parts")))
    (option_rule (codes "workers"))) (option_rule (codes "shards"))) (option_rule (codes "keep"))) (option_rule (codes "gen"))) (flag_rule (codes "work"))
