use Rattle.std.proofs.Common.{ℕ, List, [], ◌∷◌, sym, refl}
use Rattle.std.specs.Prelude.{length}
use Rattle.wasm_grammar.specs.Grammar.{SpellsU32, SpellsVector}
use Rattle.wasm_grammar.specs.Writers.{Appends, Writes, HasSpelling}
use Rattle.wasm_grammar.specs.WriterLaws.{Writes-spelled, vector_spelled, Appends-then, both-ok}
use Rattle.wasm_types.specs.declared.value.ValType.{ValType}
use Rattle.wasm_types.specs.Types.{val_byte, SpellsValType}
use Rattle.wasm_types.proofs.function.put_func_type.Goals as goal

types_written : (types : List ValType) (old new : List ℕ) → Writes (SpellsVector SpellsValType types) old new → HasSpelling (SpellsU32 (length types)) → Appends (SpellsVector SpellsValType types) old new
types_written types old new w count = Writes-spelled old new w (vector_spelled SpellsValType (λ t. (val_byte t ∷ [], refl)) types count)

pub returns-clause-ok : goal.returns-clause-ok
returns-clause-ok c =
    let params : Appends (SpellsVector SpellsValType c.args.t.now.params) c.put_byte.new.to c.put_vector.new.to =
    rw (sym c.as_slice.ensures) (types_written _ c.put_byte.new.to c.put_vector.new.to c.in_ok-put_vector.ensures.ok c.in_ok-put_vector.ensures.counted) in
    both-ok c.put_vector-2.result (λ last counted.
    let results : Appends (SpellsVector SpellsValType c.args.t.now.results) c.put_vector.new.to c.put_vector-2.new.to = rw (sym c.as_slice-2.ensures) (types_written _ c.put_vector.new.to c.put_vector-2.new.to last counted) in
    Appends-then c.in_ok-put_byte.ensures.ok (Appends-then params results)) c.put_vector-2.ensures.ok c.put_vector-2.ensures.counted
