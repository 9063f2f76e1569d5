use Rattle.link_image.proofs.making.make_defined.Given as goal

abbrev pub ghost-globals : goal.ghost-globals
ghost-globals g a = g.s

abbrev pub ghost-exports : goal.ghost-exports
ghost-exports g a = record { program = g.s.program; exports = g.s.exports }
