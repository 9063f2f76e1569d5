-- What is told of the bodies of a module that are read and judged in one go, by several workers.
use Rattle.std.specs.Prelude.{◌≡◌, ◌+◌, ◌<◌, ◌≤◌, ℕ, List, [], ◌∷◌, length, Bool, Option, Some, None, slice_get, Result, Ok, Err}
use Rattle.wl_rows.specs.Ranges.{first_at}
use Rattle.wasm_module.specs.wasm_instr.wasm_types.declared.function.FuncType.{FuncType}
use Rattle.wasm_module.specs.wasm_instr.declared.body.Body.{Body}
use Rattle.wasm_module.specs.wasm_instr.Bodies.{body_at}
use Rattle.wasm_module.specs.declared.fault.ModuleFault.{ModuleFault}
use Rattle.wasm_module.specs.declared.fault.ModuleFault.TheVariants.{NotModule, OutOfMemory}
use Rattle.valid_bodies.specs.declared.types.Context.{Context}
use Rattle.valid_bodies.specs.First.{HasTyping, TypedAt, IsFirst, IsFirstIn}
use Rattle.valid_bodies.specs.Went.{Decides}
use Rattle.module_front.specs.Front.{bodies_of, found}

-- The bytes are a body.
abbrev pub IsRead : Option (List ℕ) → Type 0
IsRead None = ⊥
IsRead (Some part) = (body : Body) × (body_at part ≡ Ok body)

-- One of the parts is no body.
abbrev pub AreUnread : List (List ℕ) → Type 0
AreUnread parts = found (bodies_of parts) ≡ None

-- A part is a body, and the answer says whether it has a typing as that of a function of this type. Else it is no body.
abbrev pub TellsPart : Context → Option FuncType → List ℕ → Result Bool ModuleFault → Type 0
TellsPart c kind part (Ok so) = (body : Body) × (body_at part ≡ Ok body) × Decides so (HasTyping c kind (Some body))
TellsPart c kind part (Err NotModule) = found (body_at part) ≡ None
TellsPart c kind part (Err OutOfMemory) = Unit {0}

module _ (c : Context) (functions : List ℕ) (parts : List (List ℕ)) where
  -- The part at this place is a body, and the answer says whether it has a typing. Else some part is no body.
  abbrev pub TellsAt : ℕ → Result Bool ModuleFault → Type 0
  TellsAt k (Ok so) = IsRead (slice_get parts k) × ((bodies : List Body) → bodies_of parts ≡ Ok bodies → Decides so (TypedAt c functions bodies k))
  TellsAt k (Err NotModule) = AreUnread parts
  TellsAt k (Err OutOfMemory) = Unit {0}

  -- The parts from one place to another are bodies, and the answer is the first that has no typing.
  pub record AreRead (from to : ℕ) (first : Option ℕ) : Type 0 where
    pub read : (k : ℕ) → from ≤ k → k < to → IsRead (slice_get parts k)
    pub typed : (bodies : List Body) → bodies_of parts ≡ Ok bodies → IsFirstIn c functions bodies from to first

  abbrev pub TellsRun : ℕ → ℕ → Result (Option ℕ) ModuleFault → Type 0
  TellsRun from to (Ok first) = AreRead from to first
  TellsRun from to (Err NotModule) = AreUnread parts
  TellsRun from to (Err OutOfMemory) = Unit {0}

  -- The first of these slots tells of the parts from one place to another.
  abbrev pub IsTold : ℕ → ℕ → List (Result (Option ℕ) ModuleFault) → Type 0
  IsTold from to slots = (told : Result (Option ℕ) ModuleFault) → slice_get slots 0 ≡ Some told → TellsRun from to told

  -- Each of these slots tells of its worker's parts. There is one for each worker.
  pub record AreTold (cuts : List ℕ) (count : ℕ) (slots : List (Result (Option ℕ) ModuleFault)) : Type 0 where
    pub long : length slots ≡ length cuts + 1
    pub each : (k : ℕ) (told : Result (Option ℕ) ModuleFault) → slice_get slots k ≡ Some told → TellsRun (first_at cuts count k) (first_at cuts count (k + 1)) told

  -- All parts are bodies, and the answer is the first that has no typing. Else some part is no body.
  abbrev pub Finds : Result (Option ℕ) ModuleFault → Type 0
  Finds (Ok first) = (bodies : List Body) × (bodies_of parts ≡ Ok bodies) × IsFirst c functions bodies first
  Finds (Err NotModule) = AreUnread parts
  Finds (Err OutOfMemory) = Unit {0}

-- The earlier of two, where the first one that is there is.
abbrev pub earlier : Option ℕ → Option ℕ → Option ℕ
earlier (Some k) other = Some k
earlier None other = other

-- The first that is told, in order, behind what was told before; an error where there is one.
abbrev pub merged : Option ℕ → List (Result (Option ℕ) ModuleFault) → Result (Option ℕ) ModuleFault
merged first [] = Ok first
merged first (Ok k ∷ more) = merged (earlier first k) more
merged first (Err e ∷ more) = Err e
