-- Subsections, as the custom sections of the tool conventions are cut into them: a byte that tells the type, and a sized payload (Linking.md,
-- 'Linking Metadata Section'; DynamicLinking.md, 'The dylink.0 Section').
use Rattle.std.specs.Prelude.{ℕ, ◌==◌, List, [], ◌∷◌, if◌then◌else◌}
use Rattle.wasm_grammar.specs.Grammar.{SpellsByte, SpellsBytes, Then}

-- A subsection, as it stands.
pub record Subsection : Type 0 where
  pub kind : ℕ
  pub payload : List ℕ

-- The byte of its type, and the bytes of its payload with their u32 number before them.
abbrev pub SpellsSubsection : Subsection → List ℕ → Type 0
SpellsSubsection s = Then (SpellsByte s.kind) (SpellsBytes s.payload)

-- The payloads of the subsections of a type.
abbrev pub payloads_of : ℕ → List Subsection → List (List ℕ)
payloads_of kind [] = []
payloads_of kind (s ∷ others) = if s.kind == kind then s.payload ∷ payloads_of kind others else payloads_of kind others
