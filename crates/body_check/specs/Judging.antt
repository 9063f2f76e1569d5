-- What bytes are as the body of a function: no body, one without a typing, or one that has one (Core 3.4.1, 5.5.13).
use Rattle.std.specs.Prelude.{List, map, Bool, true, false, if◌then◌else◌, Result, Ok, Err}
use Rattle.wasm_types.specs.declared.function.FuncType.{FuncType}
use Rattle.wasm_instr.specs.wasm_grammar.declared.fault.Stop.{Stop}
use Rattle.wasm_instr.specs.declared.body.Body.{Body}
use Rattle.wasm_instr.specs.declared.body.LocalRun.{LocalRun}
use Rattle.wasm_instr.specs.declared.body.Placed.{Placed}
use Rattle.valid_rules.specs.declared.types.Frame.{Frame}
use Rattle.valid_rules.specs.Reading.{read}
use Rattle.valid_bodies.specs.declared.types.Context.{Context}
use Rattle.valid_bodies.specs.Shapes.{shape, shapes_in}
use Rattle.valid_bodies.specs.Went.{ended, accepts}
use Rattle.body_check.specs.declared.verdict.Verdict.{Verdict}
use Rattle.body_check.specs.declared.verdict.Verdict.TheVariants.{Unread, Untyped, Typed}

-- Whether reading comes to no fault.
abbrev pub is_read : {A : Type 0} → Result A Stop → Bool
is_read (Ok x) = true
is_read (Err stop) = false

-- What is read, by whether it has a typing.
abbrev pub told : Bool → Verdict
told typed = if typed then Typed else Untyped

-- What bytes are that have no typing, by whether they are a body.
abbrev pub unfit : Bool → Verdict
unfit so = if so then Untyped else Unread

-- What is read of bytes, as the body of a function of this type in its context.
abbrev pub verdict : Context → FuncType → Result Body Stop → Verdict
verdict c t (Ok body) = told (accepts t.results (shapes_in c t body))
verdict c t (Err stop) = Unread

-- The same of the code from some instruction on, where these blocks are open.
abbrev pub judged : Context → FuncType → List LocalRun → List Frame → Result (List Placed) Stop → Verdict
judged c t ls fs (Ok code) = told (ended (read fs (map (λ p. shape c t ls p.instr) code)))
judged c t ls fs (Err stop) = Unread
