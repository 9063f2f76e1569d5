-- The words of `wasmrun` as a command of clap, and what clap makes of words.
use Rattle.std.specs.Prelude.{ℕ, List, Option, Some, codes, true}
use Rattle.clap.specs.Words.{App, Kinds, Rule, first_of, fault_of, matches_of, new_app, new_rule, with_rule}
use Rattle.clap.specs.Simple.{on_top}
use Rattle.clap.specs.declared.builder.value_parser.ValueParser.TheVariants.{Unsigned}

abbrev pub module_rule : Rule
module_rule = record (new_rule (codes "MODULE")) { required = true }

abbrev pub script_rule : Rule
script_rule = record (new_rule (codes "script")) { long = Some (codes "script"); value_names = 1; required = true }

abbrev pub steps_rule : Rule
steps_rule = record (new_rule (codes "steps")) { long = Some (codes "steps"); value_names = 1; parser = Some (Unsigned 0 1000000000); required = true }

-- The words leave out the program's name.
abbrev pub start_app : App
start_app = on_top (λ s. record s { no_binary_name = true }) (new_app (codes "wasmrun"))

-- A simple command of three arguments, all of which are required.
unfoldable pub run_app : App
run_app = with_rule (with_rule (with_rule start_app module_rule) script_rule) steps_rule

-- Why clap refuses the words; nothing where it takes them.
unfoldable pub refusals : List (List ℕ) → Kinds
refusals words = fault_of run_app words

-- The text that clap finds for an argument.
unfoldable pub given_word : List ℕ → List (List ℕ) → Option (List ℕ)
given_word id words = first_of id (matches_of run_app words)
