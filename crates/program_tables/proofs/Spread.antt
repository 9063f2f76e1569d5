-- Numbers between the operands name nothing.
use Rattle.std.proofs.Common.{◌≡◌, ℕ, zero, suc, ◌∙◌, List, [], ◌∷◌, ◌++◌, refl, ap, replicate}
use Rattle.std.specs.Prelude.{filter_map, map}
use Rattle.std.specs.List.{cons_option}
use Rattle.std.proofs.lemmas.List.Elements.{filter_map-append}
use Rattle.link_program.specs.body_windows.declared.operands.Reference.{Reference}
use Rattle.link_program.specs.body_windows.declared.operand.Operand.TheVariants.{Number}
use Rattle.link_program.specs.body_windows.Operands.{operand_of, spread}
use Rattle.program_tables.specs.Views.{View}
use Rattle.program_tables.specs.Rows.{operand_named}

numbers_named : (v : View) (n : ℕ) → filter_map (operand_named v) (replicate n Number) ≡ []
numbers_named v zero = refl
numbers_named v (suc n) = numbers_named v n

pub spread_named : (v : View) (refs : List Reference) (behind : ℕ) → filter_map (operand_named v) (spread refs behind) ≡ filter_map (operand_named v) (map operand_of refs)
spread_named v [] behind = numbers_named v behind
spread_named v (r ∷ refs) behind =
    filter_map-append (operand_named v) (replicate r.numbers Number) (operand_of r ∷ spread refs behind)
    ∙ ap (λ l. l ++ cons_option (operand_named v (operand_of r)) (filter_map (operand_named v) (spread refs behind))) (numbers_named v r.numbers)
    ∙ ap (cons_option (operand_named v (operand_of r))) (spread_named v refs behind)
