-- Where the parts of an object stand.
use Rattle.std.specs.Prelude.{ℕ, ◌+◌, ◌≤◌, All}
use Rattle.wasm_instr.specs.wl_base.declared.span.Span.{Span}
use Rattle.object_parts.specs.declared.parts.Parts.{Parts}

-- The span lies in so many bytes.
abbrev pub LiesIn : ℕ → Span → Type 0
LiesIn size span = span.start + span.len ≤ size

-- Bodies, segments and the values of globals lie in so many bytes.
pub record LieIn (size : ℕ) (parts : Parts) : Type 0 where
  pub bodies : All (λ b. LiesIn size b.span) parts.bodies
  pub segments : All (λ d. LiesIn size d.span) parts.segments
  pub globals : All (λ g. LiesIn size g.span) parts.globals
