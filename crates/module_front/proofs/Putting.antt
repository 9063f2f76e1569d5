-- Parts that are read one after another, as a loop does, each seen by what it lends.
use Rattle.std.proofs.Common.{◌≡◌, ℕ, List, [], ◌∷◌, ◌++◌, Result, subst, sym}
use Rattle.std.specs.Prelude.{map}
use Rattle.std.proofs.lemmas.List.{map-append}
use Rattle.wasm_module.specs.wasm_instr.wasm_grammar.declared.fault.Stop.{Stop}
use Rattle.wasm_module.proofs.wasm_instr_lemmas.wasm_grammar_lemmas.Loop.{with_front}

-- one part more
pub one_more : {P : Type 0} (see : P → List ℕ) (old : List P) (p : P) (read total : Result (List (List ℕ) × List ℕ) Stop)
    → with_front (map see old ++ see p ∷ []) read ≡ total → with_front (map see (old ++ p ∷ [])) read ≡ total
one_more see old p read total e = subst (λ (xs : List (List ℕ)). with_front xs read ≡ total) (sym (map-append see old (p ∷ []))) e
