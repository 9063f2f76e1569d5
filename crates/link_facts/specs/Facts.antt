-- What holds of the program of objects that were read from their candidates' bytes, whatever the link finds at fault later.
use Rattle.std.specs.Prelude.{◌≡◌, ◌==◌, ℕ, true, List, [], take, drop, slice_index_or, find, Some, None}
use Rattle.list_places.specs.Has.{Has}
use Rattle.wasm_instr.specs.declared.body.Body.{Body}
use Rattle.wasm_instr.specs.declared.body.Placed.{Placed}
use Rattle.wasm_instr.specs.Bodies.{SpellsBody}
use Rattle.object_parts.specs.declared.parts.GlobalDef.{GlobalDef}
use Rattle.object_file.specs.declared.object.Object.{Object}
use Rattle.object_file.specs.ObjectOf.{IsObject}
use Rattle.made_symbols.specs.declared.mode.Mode.TheVariants.{Plain}
use Rattle.round_rules.specs.Rounds.{Candidate}
use Rattle.link_plan.specs.declared.plan.Plan.{Plan}
use Rattle.name_rules.specs.Entries.{InputSymbol}
use Rattle.name_rules.specs.Cases.{clash_by}
use Rattle.output_module.specs.link_rules.Program.{Program, program_of, Part, Ref, refs}
use Rattle.output_module.specs.link_rules.Marks.{exported}
use Rattle.output_module.specs.link_rules.Keys.{is_function_at}
use Rattle.output_module.specs.link_rules.Values.{part_bytes}
use Rattle.program_build.specs.link_program.declared.home.Home.{Home}
use Rattle.program_build.specs.link_program.Loaded.{IsLoaded}
use Rattle.output_module.specs.link_worlds.Sound.{Sound, SoundExports, IsConstant, IsGlobalPart}
use Rattle.output_module.specs.Filled.{Reads}
use Rattle.output_module.specs.Outputs.{IsCoded}
use Rattle.link_facts.specs.Faults.{Measured}

-- the bytes of a candidate
abbrev pub bytes_of : List (List ℕ) → Candidate → List ℕ
bytes_of files c = take c.len (drop c.start (slice_index_or files c.file []))

-- The object is what its candidate's bytes are.
pub record IsFrom (files : List (List ℕ)) (all : List Candidate) (o : Object) : Type 0 where
  pub candidate : Candidate
  pub found : find (λ c. c.input == o.input) all ≡ Some candidate
  pub is : IsObject o.input (bytes_of files candidate) o

pub record AreRead (files : List (List ℕ)) (all : List Candidate) (objects : List Object) (homes : List Home) : Type 0 where
  pub loaded : IsLoaded files all objects homes
  pub each : (o : Object) → Has objects o → IsFrom files all o
  -- globals begin with constants
  pub constants : (o : Object) → Has objects o → (g : GlobalDef) → Has o.globals g → IsConstant g.value

-- Of the body that a function's bytes spell, each instruction reads the address that it takes from a cell.
abbrev pub IsReading : Program → Part → Type 0
IsReading p part = (b : Body) → SpellsBody b (part_bytes p part) → (x : Placed) → Has b.code x → Reads part.named x

pub record Facts (p : Program) (exports : List InputSymbol) : Type 0 where
  pub sound : Sound p
  pub exported : SoundExports p exports
  pub measured : Measured p exports
  -- each function of an object is a body with its references
  pub coded : (part : Part) → Has p.parts part → part.chunk.kind ≡ 0 → (part.chunk.input ≡ 0 → ⊥) → IsCoded p part
  -- and sets globals alone
  pub reads : (part : Part) → Has p.parts part → part.chunk.kind ≡ 0 → (part.chunk.input ≡ 0 → ⊥) → IsReading p part
  -- the linker's functions call what they refer to, and a plain output has one
  pub calls : (part : Part) (ref : Ref) → Has p.parts part → part.chunk.input ≡ 0 → Has (refs part) ref → ref.kind ≡ 0
  pub made : (part : Part) (n : ℕ) → Has p.parts part → is_function_at 0 n part ≡ true → n ≡ 0
  pub constants : (part : Part) → Has p.parts part → part.chunk.kind ≡ 2 → (part.chunk.input ≡ 0 → ⊥) → IsGlobalPart part.content

abbrev pub FactsHold : Type 0
FactsHold = (plan : Plan) (files : List (List ℕ)) (all : List Candidate) (objects : List Object) (homes : List Home) → AreRead files all objects homes
    → clash_by plan.loose_calls (program_of Plain plan files all objects).entries ≡ None
    → Facts (program_of Plain plan files all objects) (exported Plain (program_of Plain plan files all objects))
