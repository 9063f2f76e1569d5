-- Where the bytes of inputs stand, as homes tell it.
use Rattle.std.specs.Prelude.{ℕ, ◌-◌, List, slice_get, Option, Some, None}
use Rattle.link_program.specs.wl_base.declared.span.FileSpan.{FileSpan}
use Rattle.link_program.specs.link_rules.Program.{no_source}
use Rattle.link_program.specs.declared.home.Home.{Home}

abbrev pub span_at : Option Home → FileSpan
span_at None = no_source
span_at (Some h) = record { file = h.file; span = record { start = h.start; len = h.len } }

-- Inputs count from 1.
abbrev pub span_seen : List Home → ℕ → FileSpan
span_seen homes input = span_at (slice_get homes (input - 1))
