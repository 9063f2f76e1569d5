-- What a link has found when its output is ready to be written.
use Rattle.std.specs.Prelude.{List}
use Rattle.link_program.specs.round_rules.Rounds.{Candidate}
use Rattle.link_program.specs.image_emit.Bytes.{Tree, tree_of}
use Rattle.link_program.specs.link_rules.ModeOf.{mode_of}
use Rattle.link_program.specs.link_rules.Output.{layout, image}
use Rattle.link_program.specs.Live.{Stage}

-- A stage, and the candidates of which its objects are the loaded ones.
pub record LoadedStage : Type 0 where
  pub stage : Stage
  pub all : List Candidate

-- The output of a stage, which its plan asks for, before its windows are written.
abbrev pub the_tree : Stage → Tree
the_tree s = let mode = mode_of s.program.plan in tree_of s.program.files (image mode s.program s.parts s.exports (layout mode s.program s.parts s.exports))
