use Rattle.std.proofs.Common.{◌≡◌, drop}
use Rattle.object_rules.specs.Relocs.{lie_apart}
use Rattle.object_rules.proofs.relocs.lie_apart.Given as goal

abbrev pub invariant-loop-reloc : goal.invariant-loop-reloc
invariant-loop-reloc l = lie_apart l.width l.len l.from (drop l.reloc-index l.relocs) ≡ lie_apart l.width l.len 0 l.relocs
