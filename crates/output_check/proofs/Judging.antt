-- The verdict on a module by its front, by the first of its bodies that has no typing.
use Rattle.std.proofs.Common.{◌≡◌, ℕ, ◌+◌, ◌<◌, true, false, List, length, Option, Some, None, Result, Ok, Err, refl, sym, subst, ◌∙◌, arith}
use Rattle.wl_base.specs.declared.fault.InvalidAt.TheVariants as places
use Rattle.wasm_module.specs.wasm_instr.wasm_grammar.declared.fault.Stop.{Stop}
use Rattle.wasm_module.specs.wasm_instr.wasm_grammar.Reading.{◌>>=◌}
use Rattle.wasm_module.specs.wasm_instr.declared.body.Body.{Body}
use Rattle.wasm_module.specs.declared.structure.Module.{Module}
use Rattle.wasm_module.specs.declared.fault.ModuleFault.{ModuleFault}
use Rattle.wasm_module.specs.declared.fault.ModuleFault.TheVariants.{NotModule, OutOfMemory as WantOfMemory}
use Rattle.valid_bodies.specs.declared.types.Context.{Context}
use Rattle.valid_bodies.specs.First.{IsFirst}
use Rattle.wasm_valid.specs.declared.fault.ValidError.{ValidError}
use Rattle.wasm_valid.specs.declared.fault.ValidError.TheVariants.{Invalid, OutOfMemory}
use Rattle.wasm_valid.specs.Spaces.{a_function, imported, spaces_of, context_of}
use Rattle.wasm_valid.specs.Rules.{stands}
use Rattle.wasm_valid.specs.Valid.{IsValid, IsUntyped, Judges, FailsOutside}
use Rattle.module_front.specs.Front.{bodies_of, with_bodies, opened, found, Fronted, Refuses}
use Rattle.output_check.specs.Told.{Finds}
use Rattle.output_check.specs.Verdicts.{JudgesRead, refused}
use Rattle.output_check.proofs.OneByOne.{as_many}

-- the rules outside bodies don't look at them
same_rules : (m : Module) (bodies : List Body) → stands (spaces_of (with_bodies bodies m)) (with_bodies bodies m) ≡ stands (spaces_of m) m
unfolding stands
same_rules m bodies = refl

-- what is read, and what gives the same
pub alike : (answer : Result (Unit {0}) ValidError) (read again : Result Module Stop) → found read ≡ found again → JudgesRead answer again → JudgesRead answer read
alike answer (Ok m) (Ok n) e j = let same : m ≡ n = cc in subst (Judges answer) (sym same) j
alike answer (Ok m) (Err d) e j = absurd cc
alike answer (Err d) (Ok m) e j = absurd cc
alike (Ok passed) (Err d) (Err f) e j = j
alike (Err (Invalid at)) (Err d) (Err f) e j = j
alike (Err OutOfMemory) (Err d) (Err f) e j = tt

no_module : (read : Result Module Stop) → found read ≡ None → JudgesRead (Err (Invalid places.Module)) read
no_module (Ok m) e = absurd cc
no_module (Err d) e = refl

pub want_of_memory : (read : Result Module Stop) → JudgesRead (Err OutOfMemory) read
want_of_memory (Ok m) = tt
want_of_memory (Err d) = tt

-- the answer on bytes that have no front
pub no_front : (e : ModuleFault) (read : Result Module Stop) → Refuses e read → JudgesRead (Err (refused e)) read
no_front NotModule read none = no_module read none
no_front WantOfMemory read none = want_of_memory read

-- the answer on bytes, by their front
pub by_front : (front : Fronted) (answer : Result (Unit {0}) ValidError) (read : Result Module Stop) → found read ≡ found (opened front) → JudgesRead answer (opened front) → JudgesRead answer read
by_front front answer read e j = alike answer read (opened front) e j

module _ (m : Module) (parts : List (List ℕ)) where
  abbrev with_read : Result (List Body) Stop → Result Module Stop
  with_read bodies = bodies >>= λ bs. Ok (with_bodies bs m)

  -- a rule outside the bodies fails
  fails : (bodies : Result (List Body) Stop) → stands (spaces_of m) m ≡ false → JudgesRead (Err (Invalid places.Module)) (with_read bodies)
  fails (Ok bodies) wrong = same_rules m bodies ∙ wrong
  fails (Err d) wrong = refl

  pub outside : (e : ValidError) → FailsOutside e m → JudgesRead (Err e) (opened (m, parts))
  outside (Invalid places.Module) wrong = fails (bodies_of parts) wrong
  outside (Invalid (places.Body n)) wrong = absurd wrong
  outside OutOfMemory wrong = want_of_memory (opened (m, parts))

  -- a part is no body
  unread_is : (bodies : Result (List Body) Stop) → found bodies ≡ None → JudgesRead (Err (Invalid places.Module)) (with_read bodies)
  unread_is (Ok bodies) none = absurd cc
  unread_is (Err d) none = refl

  pub unread : (c : Context) (e : ModuleFault) → Finds c m.functions parts (Err e) → JudgesRead (Err (refused e)) (opened (m, parts))
  unread c NotModule none = unread_is (bodies_of parts) none
  unread c WantOfMemory none = want_of_memory (opened (m, parts))

  module _ (c : Context) (rules : stands (spaces_of m) m ≡ true) (is : c ≡ context_of m) where
    in_context : (bodies : List Body) (first : Option ℕ) → IsFirst c m.functions bodies first → IsFirst (context_of m) m.functions bodies first
    in_context bodies first f = subst (λ (x : Context). IsFirst x m.functions bodies first) is f

    -- all bodies have a typing
    pub all_typed : Finds c m.functions parts (Ok None) → JudgesRead (Ok tt) (opened (m, parts))
    all_typed f =
        let valid : IsValid (with_bodies f.0 m) = record { rules = same_rules m f.0 ∙ rules; bodies = in_context f.0 None f.2 } in
        subst (λ (r : Result (List Body) Stop). JudgesRead (Ok tt) (with_read r)) (sym f.1) valid

    -- one has none
    pub one_untyped : (k n : ℕ) → n ≡ length (imported a_function m.imports) + k → Finds c m.functions parts (Ok (Some k)) → JudgesRead (Err (Invalid (places.Body n))) (opened (m, parts))
    one_untyped k n number f =
        let untyped : IsUntyped (with_bodies f.0 m) n = (same_rules m f.0 ∙ rules, (k, number, in_context f.0 (Some k) f.2)) in
        subst (λ (r : Result (List Body) Stop). JudgesRead (Err (Invalid (places.Body n))) (with_read r)) (sym f.1) untyped

    -- it is one of the bodies
    pub below_all : (k : ℕ) → Finds c m.functions parts (Ok (Some k)) → k < length parts
    below_all k f =
        let many = as_many parts f.0 f.1 in
        let first : IsFirst c m.functions f.0 (Some k) = f.2 in
        let below = first.0 in
        omega (arith, many, below)
