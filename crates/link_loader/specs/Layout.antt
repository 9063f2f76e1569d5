-- What is looked up of a layout.
use Rattle.link_program.specs.link_rules.ModeOf.{mode_of}
use Rattle.link_program.specs.link_rules.Output.{layout}
use Rattle.link_program.specs.Live.{Stage}
use Rattle.link_layout.specs.declared.values.Layout.{Layout}
use Rattle.link_layout.specs.Layout.{looked}
use Rattle.link_loader.specs.Words.{Loading}

abbrev pub loading : Stage → Layout → Loading
loading s d = record {
  mode = mode_of s.program.plan;
  layout = layout (mode_of s.program.plan) s.program s.parts s.exports;
  at = looked d;
  cells = d.program.resolution.now.cells;
}
