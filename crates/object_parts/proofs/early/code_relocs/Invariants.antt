use Rattle.std.proofs.Common.{◌≡◌, drop}
use Rattle.object_parts.specs.Reading.{code_relocs}
use Rattle.object_parts.proofs.early.code_relocs.Given as goal

abbrev pub invariant-loop-place : goal.invariant-loop-place
invariant-loop-place l = code_relocs l.all l.bytes (drop l.place l.all) ≡ code_relocs l.all l.bytes l.all
