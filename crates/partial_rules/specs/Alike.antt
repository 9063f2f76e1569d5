-- Two programs that are one but for where symbols and parts stand: what is asked of them, so that they give the same output.
use Rattle.std.specs.Prelude.{◌≡◌, ℕ, zero, suc, false, List, [], ◌∷◌, map, position, Some, None, All}
use Rattle.made_symbols.specs.declared.mode.Mode.TheVariants.{Plain}
use Rattle.name_rules.specs.Entries.{InputSymbol}
use Rattle.name_rules.specs.Meanings.{is_nothing}
use Rattle.name_rules.specs.Cases.{first_entry}
use Rattle.mark_bits.specs.declared.chunk.Chunk.{Chunk}
use Rattle.link_rules.specs.Program.{Program, Part, Ref, same_chunk}
use Rattle.link_rules.specs.Marks.{demanded, exported, export_name, live, refs_of, table_of, uncalled}
use Rattle.link_rules.specs.Keys.{callable, imports_in_order, stub_names, entry_type}
use Rattle.link_rules.specs.Values.{rules_of}
use Rattle.partial_rules.specs.Moving.{Moving, AlikeParts}

-- ---- what stands where

abbrev pub At : {A : Type 0} → List A → ℕ → A → Type 0
At [] i x = ⊥
At (y ∷ ys) zero x = y ≡ x
At (y ∷ ys) (suc i) x = At ys i x

abbrev pub In : {A : Type 0} → A → List A → Type 0
In x xs = (i : ℕ) × At xs i x

-- No chunk stands twice: each is found at its own place.
abbrev pub OnePlace : List Chunk → Type 0
OnePlace table = (i : ℕ) (c : Chunk) → At table i c → position (same_chunk c) table ≡ Some i

-- ---- two programs

-- What the words say of exports.
pub record AlikeWords (p q : Program) : Type 0 where
  pub asked : demanded q.plan ≡ demanded p.plan
  pub asked_if : q.plan.exports_if ≡ p.plan.exports_if
  pub dynamic : q.plan.export_dynamic ≡ p.plan.export_dynamic
  pub memory : q.plan.import_memory ≡ p.plan.import_memory

-- The winners are the moved ones, in one order, and are exported under the same names.
pub record AlikeWinners (m : Moving) (K : InputSymbol → Type 0) (p q : Program) : Type 0 where
  pub are : q.winners ≡ map m.entry p.winners
  pub held : All K p.winners
  pub names : All (λ e. export_name q (m.entry e) ≡ export_name p e) p.winners

-- The two are one but for the moving.
pub record AlikePrograms (m : Moving) (C : Chunk → Type 0) (K : InputSymbol → Type 0) (p q : Program) : Type 0 where
  pub words : AlikeWords p q
  pub rules : rules_of Plain q.plan ≡ rules_of Plain p.plan
  pub most : q.plan.max_memory ≡ p.plan.max_memory
  pub winners : AlikeWinners m K p q
  pub parts : AlikeParts m C K p q p.parts q.parts
  pub one_place : OnePlace (table_of p)
  pub one_place_too : OnePlace (table_of q)
  pub there : (c : Chunk) → C c → In c (table_of p)
  pub gc : q.plan.gc ≡ p.plan.gc
  pub imports : imports_in_order q ≡ imports_in_order p
  -- no constructors are lost that weren't
  pub kept_calls : (xs ys : List Part) → AlikeParts m C K p q xs ys → uncalled Plain p xs ≡ None → uncalled Plain q ys ≡ None
  -- the names of null functions that parts of the first call, and their types
  pub stubs : (xs ys : List Part) → All (λ x. In x p.parts) xs → AlikeParts m C K p q xs ys → stub_names q (refs_of ys) ≡ stub_names p (refs_of xs)
  pub stub_types : (xs : List Part) → All (λ name. entry_type (first_entry (callable q) name) ≡ entry_type (first_entry (callable p) name)) (stub_names p (refs_of xs))

-- Something is meant by all that live parts refer to.
abbrev pub LiveMeant : Program → Type 0
LiveMeant p = All (λ (ref : Ref). is_nothing ref.meaning ≡ false) (refs_of (live p (exported Plain p)))
