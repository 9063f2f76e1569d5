-- Bodies that are read one by one are those that are read together.
use Rattle.std.proofs.Common.{◌≡◌, ℕ, Bool, true, false, map, zero, suc, ◌<◌, List, [], ◌∷◌, length, Option, Some, None, Result, Ok, Err, refl, sym, ap, subst, ◌∙◌, arith}
use Rattle.std.specs.Prelude.{slice_get, option_and_then, option_map}
use Rattle.std.proofs.lemmas.Option.{slice_get-map}
use Rattle.wasm_module.specs.wasm_instr.wasm_grammar.declared.fault.Stop.{Stop}
use Rattle.wasm_module.specs.wasm_instr.wasm_grammar.Reading.{◌>>=◌}
use Rattle.wasm_module.specs.wasm_instr.wasm_types.declared.function.FuncType.{FuncType}
use Rattle.wasm_module.specs.wasm_instr.declared.body.Body.{Body}
use Rattle.wasm_module.specs.wasm_instr.Bodies.{body_at}
use Rattle.wasm_module.specs.declared.fault.ModuleFault.{ModuleFault}
use Rattle.wasm_module.specs.declared.fault.ModuleFault.TheVariants.{NotModule, OutOfMemory}
use Rattle.valid_bodies.specs.declared.types.Context.{Context}
use Rattle.valid_bodies.specs.First.{HasTyping}
use Rattle.valid_bodies.specs.Shapes.{shapes_in}
use Rattle.valid_bodies.specs.Went.{Decides, accepts}
use Rattle.valid_bodies.proofs.Deciding.{decides}
use Rattle.module_front.specs.Front.{bodies_of, found}
use Rattle.body_check.specs.declared.verdict.Verdict.{Verdict}
use Rattle.body_check.specs.declared.verdict.Verdict.TheVariants.{Unread, Untyped, Typed}
use Rattle.body_check.specs.Judging.{is_read, told, verdict}
use Rattle.output_check.specs.Told.{IsRead, AreUnread, TellsPart, TellsAt}

abbrev put : Result Body Stop → Result (List Body) Stop → Result (List Body) Stop
put body bodies = body >>= λ b. bodies >>= λ bs. Ok (b ∷ bs)

-- all parts are bodies
pub all_read : (parts : List (List ℕ)) → ((k : ℕ) → k < length parts → IsRead (slice_get parts k)) → (bodies : List Body) × (bodies_of parts ≡ Ok bodies)
all_read [] each = ([], refl)
all_read (part ∷ parts) each =
    let first : IsRead (Some part) = each 0 (omega arith) in
    let others = all_read parts (λ k below. each (suc k) (omega (arith, below))) in
    (first.0 ∷ others.0, ap (λ (r : Result Body Stop). put r (bodies_of parts)) first.1 ∙ ap (put (Ok first.0)) others.1)

none_before : (body : Result Body Stop) (bodies : Result (List Body) Stop) → found body ≡ None → found (put body bodies) ≡ None
none_before (Ok b) bodies e = absurd cc
none_before (Err d) bodies e = refl

none_behind : (body : Result Body Stop) (bodies : Result (List Body) Stop) → found bodies ≡ None → found (put body bodies) ≡ None
none_behind (Ok b) (Ok bs) e = absurd cc
none_behind (Ok b) (Err d) e = refl
none_behind (Err d) bodies e = refl

-- one that is none
pub unread : (parts : List (List ℕ)) (k : ℕ) (part : List ℕ) → slice_get parts k ≡ Some part → found (body_at part) ≡ None → AreUnread parts
unread [] k part at none = absurd cc
unread (p ∷ parts) zero part at none =
    let same : p ≡ part = cc in
    none_before (body_at p) (bodies_of parts) (ap (λ (q : List ℕ). found (body_at q)) same ∙ none)
unread (p ∷ parts) (suc k) part at none = none_behind (body_at p) (bodies_of parts) (unread parts k part at none)

-- the body at a place
pub nth_read : (parts : List (List ℕ)) (k : ℕ) (part : List ℕ) (body : Body) (bodies : List Body) → slice_get parts k ≡ Some part → body_at part ≡ Ok body → bodies_of parts ≡ Ok bodies → slice_get bodies k ≡ Some body
nth_read [] k part body bodies at is all = absurd cc
nth_read (p ∷ parts) zero part body bodies at is all = here (body_at p) (bodies_of parts) bodies (let same : p ≡ part = cc in ap body_at same ∙ is) all
  where
    here : (read : Result Body Stop) (others : Result (List Body) Stop) (all : List Body) → read ≡ Ok body → put read others ≡ Ok all → slice_get all 0 ≡ Some body
    here (Ok b) (Ok bs) [] is e = absurd cc
    here (Ok b) (Ok bs) (x ∷ xs) is e = let first : b ≡ x = cc in let same : b ≡ body = cc in ap Some (sym first ∙ same)
    here (Ok b) (Err d) all is e = absurd cc
    here (Err d) others all is e = absurd cc
nth_read (p ∷ parts) (suc k) part body bodies at is all = behind (body_at p) (bodies_of parts) bodies (λ bs e. nth_read parts k part body bs at is e) all
  where
    behind : (read : Result Body Stop) (others : Result (List Body) Stop) (all : List Body) → ((bs : List Body) → others ≡ Ok bs → slice_get bs k ≡ Some body) → put read others ≡ Ok all → slice_get all (suc k) ≡ Some body
    behind (Ok b) (Ok bs) [] nth e = absurd cc
    behind (Ok b) (Ok bs) (x ∷ xs) nth e = let same : bs ≡ xs = cc in ap (λ (ys : List Body). slice_get ys k) (sym same) ∙ nth bs refl
    behind (Ok b) (Err d) all nth e = absurd cc
    behind (Err d) others all nth e = absurd cc

-- as many bodies as parts
pub as_many : (parts : List (List ℕ)) (bodies : List Body) → bodies_of parts ≡ Ok bodies → length parts ≡ length bodies
as_many [] [] e = refl
as_many [] (b ∷ bodies) e = absurd cc
as_many (p ∷ parts) bodies e = step (body_at p) (bodies_of parts) bodies (λ bs is. as_many parts bs is) e
  where
    step : (read : Result Body Stop) (others : Result (List Body) Stop) (all : List Body) → ((bs : List Body) → others ≡ Ok bs → length parts ≡ length bs) → put read others ≡ Ok all → suc (length parts) ≡ length all
    step (Ok b) (Ok bs) [] same e = absurd cc
    step (Ok b) (Ok bs) (x ∷ xs) same e = let tails : bs ≡ xs = cc in ap suc (same bs refl ∙ ap length tails)
    step (Ok b) (Err d) all same e = absurd cc
    step (Err d) others all same e = absurd cc

-- ---- one body

is_typed : (so : Bool) → Typed ≡ told so → so ≡ true
is_typed true e = refl
is_typed false e = absurd cc

is_untyped : (so : Bool) → Untyped ≡ told so → so ≡ false
is_untyped true e = absurd cc
is_untyped false e = refl

not_unread : (so : Bool) → Unread ≡ told so → ⊥
not_unread true e = absurd cc
not_unread false e = absurd cc

module _ (c : Context) (part : List ℕ) where
  -- the answer by the verdict
  pub when_typed : (kind : Option FuncType) (t : FuncType) (v : Verdict) → kind ≡ Some t → v ≡ verdict c t (body_at part) → v ≡ Typed → TellsPart c kind part (Ok true)
  when_typed kind t v here is typed = subst (λ (k : Option FuncType). TellsPart c k part (Ok true)) (sym here) (of (body_at part) refl (sym typed ∙ is))
    where
      of : (read : Result Body Stop) → body_at part ≡ read → Typed ≡ verdict c t read → TellsPart c (Some t) part (Ok true)
      of (Ok body) e told_so = (body, e, decides t.results (shapes_in c t body) true (sym (is_typed (accepts t.results (shapes_in c t body)) told_so)))
      of (Err d) e told_so = absurd cc

  pub when_untyped : (kind : Option FuncType) (t : FuncType) (v : Verdict) → kind ≡ Some t → v ≡ verdict c t (body_at part) → v ≡ Untyped → TellsPart c kind part (Ok false)
  when_untyped kind t v here is untyped = subst (λ (k : Option FuncType). TellsPart c k part (Ok false)) (sym here) (of (body_at part) refl (sym untyped ∙ is))
    where
      of : (read : Result Body Stop) → body_at part ≡ read → Untyped ≡ verdict c t read → TellsPart c (Some t) part (Ok false)
      of (Ok body) e told_so = (body, e, decides t.results (shapes_in c t body) false (sym (is_untyped (accepts t.results (shapes_in c t body)) told_so)))
      of (Err d) e told_so = absurd cc

  pub when_unread : (t : FuncType) (v : Verdict) → v ≡ verdict c t (body_at part) → v ≡ Unread → TellsPart c (Some t) part (Err NotModule)
  when_unread t v is unread = of (body_at part) (sym unread ∙ is)
    where
      of : (read : Result Body Stop) → Unread ≡ verdict c t read → found read ≡ None
      of (Ok body) e = absurd (not_unread (accepts t.results (shapes_in c t body)) e)
      of (Err d) e = refl

  -- of a function without a type
  pub when_read : (so : Bool) → so ≡ is_read (body_at part) → so ≡ true → TellsPart c None part (Ok false)
  when_read so is true_is = of (body_at part) refl (sym true_is ∙ is)
    where
      of : (read : Result Body Stop) → body_at part ≡ read → true ≡ is_read read → TellsPart c None part (Ok false)
      of (Ok body) e so_read = (body, e, λ none. none)
      of (Err d) e so_read = absurd cc

  pub when_no_body : (so : Bool) → so ≡ is_read (body_at part) → so ≡ false → TellsPart c None part (Err NotModule)
  when_no_body so is false_is = of (body_at part) (sym false_is ∙ is)
    where
      of : (read : Result Body Stop) → false ≡ is_read read → found read ≡ None
      of (Ok body) e = absurd cc
      of (Err d) e = refl

-- ---- what is told of a part

pub part_told : (c : Context) (functions : List ℕ) (parts : List (List ℕ)) (at : ℕ) (part : List ℕ) (r : Result Bool ModuleFault) → slice_get parts at ≡ Some part
    → TellsPart c (option_and_then (slice_get c.types) (slice_get functions at)) part r → TellsAt c functions parts at r
part_told c functions parts at part (Ok so) here tells = (
  subst IsRead (sym here) (tells.0, tells.1),
  λ bodies all. subst (λ (b : Option Body). Decides so (HasTyping c (option_and_then (slice_get c.types) (slice_get functions at)) b)) (sym (nth_read parts at part tells.0 bodies here tells.1 all)) tells.2,
)
part_told c functions parts at part (Err NotModule) here tells = unread parts at part here tells
part_told c functions parts at part (Err OutOfMemory) here tells = tt

-- a part that is lent
pub seen_at : {P : Type 0} (parts : List P) (see : P → List ℕ) (at : ℕ) (p : P) → slice_get parts at ≡ Some p → slice_get (map see parts) at ≡ Some (see p)
seen_at parts see at p e = slice_get-map see parts at ∙ ap (option_map see) e
