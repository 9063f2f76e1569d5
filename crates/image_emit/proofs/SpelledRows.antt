-- The worked tree of two functions meets what is asked, and is a module.
use Rattle.std.proofs.Common.{◌≡◌, ℕ, List, [], ◌∷◌, length, refl, sym, subst, arith, rules}
use Rattle.std.specs.Prelude.{Ok, codes, pos, IsUtf8}
use Rattle.std.proofs.lemmas.List.Elements.{All-nil, All-cons}
use Rattle.std.proofs.lemmas.Str.{IsUtf8-from_ascii}
use Rattle.wasm_module.specs.wasm_instr.leb_codec.Shortest.{u32}
use Rattle.wasm_module.specs.wasm_instr.leb_codec.Reading.{number_at, end_of, end_within}
use Rattle.wasm_module.specs.wasm_instr.wasm_grammar.Reading.{u32_at, s32_at}
use Rattle.wasm_module.specs.wasm_instr.declared.body.Body.{Body}
use Rattle.wasm_module.specs.wasm_instr.declared.instr.Instr.TheVariants.{Plain, Call, I32Const}
use Rattle.wasm_module.specs.wasm_instr.Classes.{class_of}
use Rattle.wasm_module.specs.wasm_instr.Reading.{instr_at}
use Rattle.wasm_module.specs.wasm_instr.Bodies.{runs_at, locals_at, code_at, body_at}
use Rattle.wasm_module.specs.wasm_instr.BodyLaws.{body_found}
use Rattle.wasm_module.specs.declared.structure.Module.{Module}
use Rattle.image_emit.specs.Bytes.{bytes_of}
use Rattle.image_emit.specs.Rows.{call_tree, call_bytes}
use Rattle.image_emit.specs.Spelled.{IsTree, IsU32, AreLimits, IsTable, IsImport, IsGlobal, IsExport, IsElement, IsSpellable, module_with}

-- a call of function 1, and the number 7
calls : Body
calls = record {
  locals = [];
  code = record { instr = Call 1; at = 1; mid = 2; end = 7 } ∷ record { instr = Plain 0x0b; at = 7; mid = 8; end = 8 } ∷ [];
}

seven : Body
seven = record {
  locals = [];
  code = record { instr = I32Const (pos 7); at = 1; mid = 2; end = 3 } ∷ record { instr = Plain 0x0b; at = 3; mid = 4; end = 4 } ∷ [];
}

calls_here : body_at (0 ∷ 0x10 ∷ 0x81 ∷ 0x80 ∷ 0x80 ∷ 0x80 ∷ 0 ∷ 0x0B ∷ []) ≡ Ok calls
unfolding calls body_at locals_at runs_at code_at instr_at class_of u32_at number_at end_of end_within
calls_here = refl

seven_here : body_at (0 ∷ 0x41 ∷ 7 ∷ 0x0B ∷ []) ≡ Ok seven
unfolding seven body_at locals_at runs_at code_at instr_at class_of s32_at u32_at number_at end_of end_within
seven_here = refl

pub call_module : Module
call_module = module_with (calls ∷ seven ∷ []) call_tree

pub call_is_tree : IsTree call_module call_tree
unfolding call_module
call_is_tree = record {
  parts = refl;
  bodies = (body_found (0 ∷ 0x10 ∷ 0x81 ∷ 0x80 ∷ 0x80 ∷ 0x80 ∷ 0 ∷ 0x0B ∷ []) calls calls_here, (body_found (0 ∷ 0x41 ∷ 7 ∷ 0x0B ∷ []) seven seven_here, tt));
}

memory_utf8 : IsUtf8 (codes "memory")
memory_utf8 = IsUtf8-from_ascii (codes "memory") (search rules)

f_utf8 : IsUtf8 (codes "f")
f_utf8 = IsUtf8-from_ascii (codes "f") (search rules)

memory_is : IsExport (record { name = codes "memory"; kind = 2; index = 0 })
memory_is = record { name = memory_utf8; kind = omega arith; index = omega arith }

f_is : IsExport (record { name = codes "f"; kind = 0; index = 0 })
f_is = record { name = f_utf8; kind = omega arith; index = omega arith }

call_worked : bytes_of call_tree ≡ call_bytes
unfolding bytes_of u32
call_worked = refl

pub call_spellable : IsSpellable call_tree
call_spellable = record {
  short = subst (λ (bytes : List ℕ). IsU32 (length bytes)) (sym call_worked) (omega arith);
  custom = tt;
  imports = All-nil IsImport;
  functions = All-cons IsU32 0 (0 ∷ []) (omega arith) (All-cons IsU32 0 [] (omega arith) (All-nil IsU32));
  tables = All-cons IsTable _ [] (record { least = omega arith; most = omega arith }) (All-nil IsTable);
  memories = All-cons AreLimits _ [] (record { least = omega arith; most = tt }) (All-nil AreLimits);
  globals = All-nil IsGlobal;
  exports = All-cons IsExport _ (record { name = codes "f"; kind = 0; index = 0 } ∷ []) memory_is (All-cons IsExport _ [] f_is (All-nil IsExport));
  elements = All-nil IsElement;
  code = refl;
  offset = (omega arith, omega arith);
}
