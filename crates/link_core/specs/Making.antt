-- What is made of a stage: the image of its output, and the windows of its sources, by their values and as they are written.
use Rattle.std.specs.Prelude.{List}
use Rattle.link_output.specs.link_program.reloc_apply.declared.window.Window.{Window}
use Rattle.link_output.specs.link_program.image_emit.declared.tree.Image.{Image}
use Rattle.link_output.specs.link_program.link_rules.ModeOf.{mode_of}
use Rattle.link_output.specs.link_program.link_rules.Values.{Layout}
use Rattle.link_output.specs.link_program.link_rules.Output.{layout, image, source_windows, held}
use Rattle.link_output.specs.link_program.Live.{Stage}

abbrev pub the_layout : Stage → Layout
the_layout s = layout (mode_of s.program.plan) s.program s.parts s.exports

abbrev pub the_image : Stage → Image
the_image s = image (mode_of s.program.plan) s.program s.parts s.exports (the_layout s)

abbrev pub the_windows : Stage → List (List Window)
the_windows s = source_windows (mode_of s.program.plan) s.program s.parts s.exports (the_layout s)

abbrev pub the_held : Stage → List (List Window)
the_held s = held (mode_of s.program.plan) (the_windows s)
