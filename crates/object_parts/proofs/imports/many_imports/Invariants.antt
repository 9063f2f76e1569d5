use Rattle.std.proofs.Common.{◌≡◌, ◌-◌}
use Rattle.object_parts.specs.Turns.{turns_at}
use Rattle.object_parts.specs.Imports.{object_import_at, seen_import, none_seen}
use Rattle.object_parts.proofs.Loop.{with_front}
use Rattle.object_parts.proofs.imports.many_imports.Given as goal

abbrev pub invariant-loop : goal.invariant-loop
invariant-loop l = with_front l.imports (turns_at object_import_at seen_import (l.count - l.counter) l.seen l.end l.rest) ≡ turns_at object_import_at seen_import l.count none_seen l.end l.bytes
