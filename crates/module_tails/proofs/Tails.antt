-- Custom sections behind a module.
use Rattle.std.proofs.Common.{◌≡◌, ℕ, zero, suc, List, ◌++◌, length, sym, ap, ◌∙◌, subst, append_assoc}
use Rattle.wasm_module.specs.wasm_instr.wasm_grammar.Grammar.{Then}
use Rattle.wasm_module.specs.declared.structure.Module.{Module}
use Rattle.wasm_module.specs.Modules.{IsModule, SpellsSections}
use Rattle.wasm_module.specs.Sections.{AreCustoms, IsCustom, Repeated}
use Rattle.wasm_module.proofs.ModuleLaws.{module_again}
use Rattle.wasm_module.specs.wasm_instr.Bodies.{SpellsBody}
use Rattle.module_tails.specs.Tails.{CustomsSayNothing}

-- behind one part, with more behind it
then_more : {P Q : List ℕ → Type 0} (tail : List ℕ) → ((bytes : List ℕ) → Q bytes → Q (bytes ++ tail)) → (bytes : List ℕ) → Then P Q bytes → Then P Q (bytes ++ tail)
then_more tail more bytes s = (s.0, s.1 ++ tail, s.2, more s.1 s.3, ap (λ all. all ++ tail) s.4 ∙ append_assoc s.0 s.1 tail)

customs_from : (tail : List ℕ) → AreCustoms tail → (n : ℕ) (bytes : List ℕ) → Repeated n IsCustom bytes → AreCustoms (bytes ++ tail)
customs_from tail behind zero bytes none = subst (λ (front : List ℕ). AreCustoms (front ++ tail)) (sym none) behind
customs_from tail behind (suc n) bytes s =
    let more = customs_from tail behind n s.1 s.3 in
    (suc more.0, (s.0, s.1 ++ tail, s.2, more.1, ap (λ all. all ++ tail) s.4 ∙ append_assoc s.0 s.1 tail))

customs_more : (tail : List ℕ) → AreCustoms tail → (bytes : List ℕ) → AreCustoms bytes → AreCustoms (bytes ++ tail)
customs_more tail behind bytes customs = customs_from tail behind customs.0 bytes customs.1

-- behind custom sections and a section
past : {P S Q : List ℕ → Type 0} (tail : List ℕ) → ((bytes : List ℕ) → Q bytes → Q (bytes ++ tail)) → (bytes : List ℕ) → Then P (Then S Q) bytes → Then P (Then S Q) (bytes ++ tail)
past tail more = then_more tail (then_more tail more)

sections_more : (m : Module) (tail : List ℕ) → AreCustoms tail → (bytes : List ℕ) → SpellsSections SpellsBody m bytes → SpellsSections SpellsBody m (bytes ++ tail)
sections_more m tail behind =
    past tail (past tail (past tail (past tail (past tail (past tail (past tail (past tail (past tail (past tail (past tail (customs_more tail behind)))))))))))

pub says_nothing : CustomsSayNothing
says_nothing m bytes tail is behind =
    let spelled : IsModule m (bytes ++ tail) = (is.0, then_more tail (sections_more m tail behind) bytes is.1) in
    (spelled, module_again (length (bytes ++ tail)) (bytes ++ tail) m spelled)
