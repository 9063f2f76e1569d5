-- The words of the files.
use Rattle.std.specs.Prelude.{ℕ, List, replicate, Option, Some, None}
use Rattle.link_program.specs.link_plan.declared.plan.Plan.{Plan}
use Rattle.link_program.specs.link_plan.declared.plan.InputWord.{InputWord}
use Rattle.link_program.specs.link_rules.Candidates.{plain_word}

abbrev pub words_by : Option ℕ → List InputWord → ℕ → List InputWord
words_by None words count = words
words_by (Some n) words count = replicate count plain_word

-- A word for each of so many files; those of generated objects are plain.
abbrev pub words_of : Plan → ℕ → List InputWord
words_of plan count = words_by plan.make_case plan.inputs count
