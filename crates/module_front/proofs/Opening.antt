-- A module is read exactly where its front is and all its parts are bodies, and then it is the front's with these bodies.
use Rattle.std.proofs.Common.{◌≡◌, ℕ, zero, suc, ◌-◌, Bool, true, false, List, [], ◌∷◌, length, drop, Result, Ok, Err, refl, sym, ap, ◌∙◌}
use Rattle.std.specs.Prelude.{None, ◌&&◌, ◌==◌, if◌then◌else◌}
use Rattle.std.proofs.lemmas.Option.{same_Some}
use Rattle.wasm_module.specs.wasm_instr.wasm_grammar.declared.fault.Stop.{Stop}
use Rattle.wasm_module.specs.wasm_instr.wasm_grammar.declared.fault.Stop.TheVariants.{Broken}
use Rattle.wasm_module.specs.wasm_instr.wasm_grammar.declared.fault.ReadFault.{ReadFault}
use Rattle.wasm_module.specs.wasm_instr.wasm_grammar.declared.fault.ReadFault.TheVariants.{Stopped, OutOfMemory}
use Rattle.wasm_module.specs.wasm_instr.wasm_grammar.Fault.{Fails}
use Rattle.wasm_module.specs.wasm_instr.wasm_grammar.Reading.{◌>>=◌, u32_at, part_at, many_at, vector_at, none_at, ended, whole, sized_at}
use Rattle.wasm_module.specs.wasm_instr.wasm_types.Types.{func_type_at, import_at, table_type_at, limits_at}
use Rattle.wasm_module.specs.wasm_instr.declared.body.Body.{Body}
use Rattle.wasm_module.specs.wasm_instr.Bodies.{body_at}
use Rattle.wasm_module.specs.wasm_sections.Sections.{header}
use Rattle.wasm_module.specs.declared.structure.Module.{Module}
use Rattle.wasm_module.specs.declared.parts.DataSegment.{DataSegment}
use Rattle.wasm_module.specs.PartReading.{global_at, export_at, element_at, data_segment_at}
use Rattle.wasm_module.specs.Sections.{begins, customs_at, section_at, next_at, given_at}
use Rattle.wasm_module.specs.ModuleReading.{code_at, behind, is_count, module_at, module_fault, added_up as module_added_up}
use Rattle.module_front.specs.Front.{Fronted, added_up, front_at, bodies_of, with_bodies, opened, found, Refuses, Opens}

-- ---- readings that give the same, or a fault both

abbrev Alike : {A : Type 0} → Result A Stop → Result A Stop → Type 0
Alike r s = found r ≡ found s

assoc : {A B C : Type 0} (r : Result A Stop) (f : A → Result B Stop) (k : B → Result C Stop) → ((r >>= f) >>= k) ≡ (r >>= λ x. f x >>= k)
assoc (Ok x) f k = refl
assoc (Err e) f k = refl

-- a step that both have, where more follows in one
under : {A B C : Type 0} (r : Result A Stop) (g : A → Result C Stop) (f : A → Result B Stop) (k : B → Result C Stop) → ((x : A) → Alike (g x) (f x >>= k)) → Alike (r >>= g) ((r >>= f) >>= k)
under (Ok x) g f k more = more x
under (Err e) g f k more = refl

-- the same step behind both
before : {A B : Type 0} (r s : Result A Stop) (f : A → Result B Stop) → Alike r s → Alike (r >>= f) (s >>= f)
before (Ok x) (Ok y) f e = ap (λ z. found (f z)) (same_Some x y e)
before (Ok x) (Err d) f e = absurd cc
before (Err d) (Ok y) f e = absurd cc
before (Err d) (Err c) f e = refl

-- what gives a fault for each value gives a fault
lost : {A B C : Type 0} (r : Result A Stop) (f : A → Result B Stop) (k : B → Result C Stop) → ((x : A) → None ≡ found (f x >>= k)) → None ≡ found ((r >>= f) >>= k)
lost (Ok x) f k more = more x
lost (Err e) f k more = refl

-- ---- parts, with their bodies read behind them

abbrev Parts : Type 0
Parts = List (List ℕ) × List ℕ

abbrev Bodies : Type 0
Bodies = List Body × List ℕ

abbrev beside : List ℕ → List Body → Result Bodies Stop
beside rest bodies = Ok (bodies, rest)

abbrev with_parts : List (List ℕ) → List ℕ → Result Parts Stop
with_parts parts rest = Ok (parts, rest)

abbrev then_bodies : Result Parts Stop → Result Bodies Stop
then_bodies parts = parts >>= λ x. bodies_of x.0 >>= beside x.1

abbrev put_body : Body → Bodies → Result Bodies Stop
put_body body others = Ok (body ∷ others.0, others.1)

abbrev put_part : List ℕ → Parts → Result Parts Stop
put_part part others = Ok (part ∷ others.0, others.1)

put_before : (body : Body) (rest : List ℕ) (bodies : Result (List Body) Stop) → Alike ((bodies >>= beside rest) >>= put_body body) ((bodies >>= λ bs. Ok (body ∷ bs)) >>= beside rest)
put_before body rest (Ok bs) = refl
put_before body rest (Err e) = refl

put_behind : (body : Body) (parts : Result Parts Stop) → Alike (then_bodies parts >>= put_body body) (parts >>= λ x. (bodies_of x.0 >>= λ bs. Ok (body ∷ bs)) >>= beside x.1)
put_behind body (Ok x) = put_before body x.1 (bodies_of x.0)
put_behind body (Err e) = refl

put_read : (read : Result Body Stop) (codes : Result Bodies Stop) (parts : Result Parts Stop) → Alike codes (then_bodies parts)
    → Alike (read >>= λ body. codes >>= put_body body) (parts >>= λ x. (read >>= λ body. bodies_of x.0 >>= λ bs. Ok (body ∷ bs)) >>= beside x.1)
put_read (Ok body) codes parts e = before codes (then_bodies parts) (put_body body) e ∙ put_behind body parts
put_read (Err e) codes (Ok x) a = refl
put_read (Err e) codes (Err d) a = refl

abbrev code_behind : List ℕ → Body → Result (Body × List ℕ) Stop
code_behind rest body = Ok (body, rest)

put_code : (part rest : List ℕ) (codes : List ℕ → Result Bodies Stop) (parts : Result Parts Stop) → Alike (codes rest) (then_bodies parts)
    → Alike ((body_at part >>= code_behind rest) >>= λ first. codes first.1 >>= put_body first.0) (then_bodies (parts >>= put_part part))
put_code part rest codes parts e =
    ap found (assoc (body_at part) (code_behind rest) (λ first. codes first.1 >>= put_body first.0))
    ∙ put_read (body_at part) (codes rest) parts e
    ∙ ap found (sym (assoc parts (put_part part) (λ x. bodies_of x.0 >>= beside x.1)))

put_first : (part : Result (List ℕ × List ℕ) Stop) (codes : List ℕ → Result Bodies Stop) (parts : List ℕ → Result Parts Stop) → ((rest : List ℕ) → Alike (codes rest) (then_bodies (parts rest)))
    → Alike ((part >>= λ p. body_at p.0 >>= code_behind p.1) >>= λ first. codes first.1 >>= put_body first.0) (then_bodies (part >>= λ first. parts first.1 >>= put_part first.0))
put_first (Ok p) codes parts e = put_code p.0 p.1 codes (parts p.1) (e p.1)
put_first (Err e) codes parts a = refl

many : (n end : ℕ) (bytes : List ℕ) → Alike (many_at code_at n end bytes) (then_bodies (many_at part_at n end bytes))
unfolding many_at code_at
many zero end bytes = refl
many (suc n) end bytes = put_first (part_at end bytes) (many_at code_at n end) (many_at part_at n end) (λ rest. many n end rest)

vector : (end : ℕ) (bytes : List ℕ) → Alike (vector_at code_at end bytes) (then_bodies (vector_at part_at end bytes))
unfolding vector_at
vector end bytes = under (u32_at end bytes) (λ count. many_at code_at count.0 end count.1) (λ count. many_at part_at count.0 end count.1) (λ x. bodies_of x.0 >>= beside x.1) (λ count. many count.0 end count.1)

-- ---- the code section

ends_here : (end : ℕ) (bodies : Result (List Body) Stop) → Alike ((bodies >>= beside []) >>= λ x. ended end x.0 x.1) bodies
ends_here end (Ok bs) = refl
ends_here end (Err e) = refl

goes_past : (end byte : ℕ) (rest : List ℕ) (bodies : Result (List Body) Stop) → found ((bodies >>= beside (byte ∷ rest)) >>= λ x. ended end x.0 x.1) ≡ None
goes_past end byte rest (Ok bs) = refl
goes_past end byte rest (Err e) = refl

ended_alike : (end : ℕ) (parts : List (List ℕ)) (rest : List ℕ) → Alike ((bodies_of parts >>= beside rest) >>= λ x. ended end x.0 x.1) (ended end parts rest >>= bodies_of)
ended_alike end parts [] = ends_here end (bodies_of parts)
ended_alike end parts (byte ∷ rest) = goes_past end byte rest (bodies_of parts)

all_read : (end : ℕ) (parts : Result Parts Stop) → Alike (then_bodies parts >>= λ x. ended end x.0 x.1) ((parts >>= λ x. ended end x.0 x.1) >>= bodies_of)
all_read end (Ok x) = ended_alike end x.0 x.1
all_read end (Err e) = refl

whole_alike : (end : ℕ) (bytes : List ℕ) → Alike (whole (vector_at code_at) end bytes) (whole (vector_at part_at) end bytes >>= bodies_of)
unfolding whole
whole_alike end bytes = before (vector_at code_at end bytes) (then_bodies (vector_at part_at end bytes)) (λ x. ended end x.0 x.1) (vector end bytes) ∙ all_read end (vector_at part_at end bytes)

beside_alike : (rest : List ℕ) (parts : Result (List (List ℕ)) Stop) → Alike ((parts >>= bodies_of) >>= beside rest) (then_bodies (parts >>= λ ps. with_parts ps rest))
beside_alike rest (Ok ps) = refl
beside_alike rest (Err e) = refl

sized : (end : ℕ) (bytes : List ℕ) → Alike (sized_at (vector_at code_at) end bytes) (then_bodies (sized_at (vector_at part_at) end bytes))
unfolding sized_at
sized end bytes = under (part_at end bytes)
    (λ part. whole (vector_at code_at) (end - length part.1) part.0 >>= beside part.1)
    (λ part. whole (vector_at part_at) (end - length part.1) part.0 >>= λ ps. with_parts ps part.1)
    (λ x. bodies_of x.0 >>= beside x.1)
    (λ part. before (whole (vector_at code_at) (end - length part.1) part.0) (whole (vector_at part_at) (end - length part.1) part.0 >>= bodies_of) (beside part.1) (whole_alike (end - length part.1) part.0)
    ∙ beside_alike part.1 (whole (vector_at part_at) (end - length part.1) part.0))

stands_or_not : (is : Bool) (end : ℕ) (bytes : List ℕ) → Alike (if is then sized_at (vector_at code_at) end (drop 1 bytes) else Ok ([], bytes)) (then_bodies (if is then sized_at (vector_at part_at) end (drop 1 bytes) else Ok ([], bytes)))
stands_or_not true end bytes = sized end (drop 1 bytes)
stands_or_not false end bytes = refl

section : (end : ℕ) (bytes : List ℕ) → Alike (section_at 10 [] (vector_at code_at) end bytes) (then_bodies (section_at 10 [] (vector_at part_at) end bytes))
unfolding section_at
section end bytes = stands_or_not (begins 10 bytes) end bytes

-- a step that doesn't look at the bodies, before they are read or behind
swapped : (bodies : Result (List Body) Stop) (parts : List (List ℕ)) (rest : List ℕ) (customs : List ℕ → Result (List ℕ) Stop) → bodies_of parts ≡ bodies
    → Alike ((bodies >>= beside rest) >>= λ x. customs x.1 >>= λ r. beside r x.0) ((customs rest >>= with_parts parts) >>= λ x. bodies_of x.0 >>= beside x.1)
swapped (Ok bs) parts rest customs e = under (customs rest) (λ r. beside r bs) (with_parts parts) (λ x. bodies_of x.0 >>= beside x.1) (λ r. ap (λ (b : Result (List Body) Stop). found (b >>= beside r)) (sym e))
swapped (Err d) parts rest customs e = lost (customs rest) (with_parts parts) (λ x. bodies_of x.0 >>= beside x.1) (λ r. ap (λ (b : Result (List Body) Stop). found (b >>= beside r)) (sym e))

customs_behind : (parts : Result Parts Stop) (customs : List ℕ → Result (List ℕ) Stop) → Alike (then_bodies parts >>= λ x. customs x.1 >>= λ r. beside r x.0) (then_bodies (parts >>= λ x. customs x.1 >>= with_parts x.0))
customs_behind (Ok x) customs = swapped (bodies_of x.0) x.0 x.1 customs refl
customs_behind (Err e) customs = refl

next : (end : ℕ) (bytes : List ℕ) → Alike (next_at 10 [] (vector_at code_at) end bytes) (then_bodies (next_at 10 [] (vector_at part_at) end bytes))
unfolding next_at
next end bytes =
    before (section_at 10 [] (vector_at code_at) end bytes) (then_bodies (section_at 10 [] (vector_at part_at) end bytes)) (λ x. customs_at (length x.1) end x.1 >>= λ r. beside r x.0) (section end bytes)
    ∙ customs_behind (section_at 10 [] (vector_at part_at) end bytes) (λ rest. customs_at (length rest) end rest)

-- ---- numbers that add up

as_many : (parts : List (List ℕ)) (bodies : List Body) → bodies_of parts ≡ Ok bodies → length parts ≡ length bodies
as_many [] [] e = refl
as_many [] (b ∷ bodies) e = absurd cc
as_many (p ∷ parts) bodies e = step (body_at p) (bodies_of parts) bodies e (λ bs is. as_many parts bs is)
  where
    step : (read : Result Body Stop) (others : Result (List Body) Stop) (all : List Body) → (read >>= λ b. others >>= λ bs. Ok (b ∷ bs)) ≡ Ok all → ((bs : List Body) → others ≡ Ok bs → length parts ≡ length bs) → suc (length parts) ≡ length all
    step (Ok b) (Ok bs) [] e same = absurd cc
    step (Ok b) (Ok bs) (c ∷ cs) e same = let tails : bs ≡ cs = cc in ap suc (same bs refl ∙ ap length tails)
    step (Ok b) (Err d) all e same = absurd cc
    step (Err d) others all e same = absurd cc

adds_or_not : (is : Bool) (end : ℕ) (m : Module) (parts : List (List ℕ)) (bodies : List Body) → bodies_of parts ≡ Ok bodies
    → Alike (if is then Ok (with_bodies bodies m) else Err (Broken end)) ((if is then Ok (m, parts) else Err (Broken end)) >>= opened)
adds_or_not true end m parts bodies e = ap (λ (b : Result (List Body) Stop). found (b >>= λ bs. Ok (with_bodies bs m))) (sym e)
adds_or_not false end m parts bodies e = refl

adds : (end : ℕ) (m : Module) (parts : List (List ℕ)) (bodies : List Body) → bodies_of parts ≡ Ok bodies → Alike (module_added_up end (with_bodies bodies m)) (added_up end m parts >>= opened)
adds end m parts bodies e =
    ap (λ (n : ℕ). found (if (length m.functions == n) && is_count m.data_count (length m.data_segments) then Ok (with_bodies bodies m) else Err (Broken end))) (sym (as_many parts bodies e))
    ∙ adds_or_not ((length m.functions == length parts) && is_count m.data_count (length m.data_segments)) end m parts bodies e

never_or_not : (is : Bool) (end : ℕ) (m : Module) (parts : List (List ℕ)) (d : Stop) → bodies_of parts ≡ Err d → None ≡ found ((if is then Ok (m, parts) else Err (Broken end)) >>= opened)
never_or_not true end m parts d e = ap (λ (b : Result (List Body) Stop). found (b >>= λ bs. Ok (with_bodies bs m))) (sym e)
never_or_not false end m parts d e = refl

-- ---- behind the code section

module _ (end : ℕ) (made : List DataSegment → Module) where
  abbrev last_bodies : Bodies → Result Module Stop
  last_bodies bodies = next_at 11 [] (vector_at (data_segment_at true)) end bodies.1 >>= λ ds. none_at end ds.1 >>= λ nothing. module_added_up end (with_bodies bodies.0 (made ds.0))

  abbrev last_parts : Parts → Result Fronted Stop
  last_parts parts = next_at 11 [] (vector_at (data_segment_at true)) end parts.1 >>= λ ds. none_at end ds.1 >>= λ nothing. added_up end (made ds.0) parts.0

  rest_alike : (read : Result (List Body) Stop) (parts : List (List ℕ)) (rest : List ℕ) → bodies_of parts ≡ read → Alike ((read >>= beside rest) >>= last_bodies) (last_parts (parts, rest) >>= opened)
  rest_alike (Ok bodies) parts rest e =
      under (next_at 11 [] (vector_at (data_segment_at true)) end rest) _ _ opened (λ ds. under (none_at end ds.1) _ _ opened (λ nothing. adds end (made ds.0) parts bodies e))
  rest_alike (Err d) parts rest e =
      lost (next_at 11 [] (vector_at (data_segment_at true)) end rest) _ opened (λ ds. lost (none_at end ds.1) _ opened (λ nothing.
      never_or_not ((length (made ds.0).functions == length parts) && is_count (made ds.0).data_count (length (made ds.0).data_segments)) end (made ds.0) parts d e))

  last_opens : (parts : Result Parts Stop) → Alike (then_bodies parts >>= last_bodies) ((parts >>= last_parts) >>= opened)
  last_opens (Ok x) = rest_alike (bodies_of x.0) x.0 x.1 refl
  last_opens (Err e) = refl

  code_opens : (bytes : List ℕ) → Alike (next_at 10 [] (vector_at code_at) end bytes >>= last_bodies) ((next_at 10 [] (vector_at part_at) end bytes >>= last_parts) >>= opened)
  code_opens bytes = before (next_at 10 [] (vector_at code_at) end bytes) (then_bodies (next_at 10 [] (vector_at part_at) end bytes)) last_bodies (next end bytes) ∙ last_opens (next_at 10 [] (vector_at part_at) end bytes)

-- ---- the whole

pub front_opens : (end : ℕ) (bytes : List ℕ) → found (module_at end bytes) ≡ found (front_at end bytes >>= opened)
unfolding module_at front_at
front_opens end bytes =
    under (behind end header bytes) _ _ opened (λ start.
    under (customs_at (length start) end start) _ _ opened (λ rest.
    under (next_at 1 [] (vector_at func_type_at) end rest) _ _ opened (λ types.
    under (next_at 2 [] (vector_at import_at) end types.1) _ _ opened (λ imports.
    under (next_at 3 [] (vector_at u32_at) end imports.1) _ _ opened (λ functions.
    under (next_at 4 [] (vector_at table_type_at) end functions.1) _ _ opened (λ tables.
    under (next_at 5 [] (vector_at limits_at) end tables.1) _ _ opened (λ memories.
    under (next_at 6 [] (vector_at (global_at true)) end memories.1) _ _ opened (λ globals.
    under (next_at 7 [] (vector_at export_at) end globals.1) _ _ opened (λ exports.
    under (next_at 9 [] (vector_at (element_at true)) end exports.1) _ _ opened (λ elements.
    under (next_at 12 None given_at end elements.1) _ _ opened (λ count.
    code_opens end (λ ds. record {
      types = types.0;
      imports = imports.0;
      functions = functions.0;
      tables = tables.0;
      memories = memories.0;
      globals = globals.0;
      exports = exports.0;
      elements = elements.0;
      data_count = count.0;
      bodies = [];
      data_segments = ds;
    }) count.1)))))))))))

-- ---- what the program answers

pub opens : {X : Type 0} (view : X → Fronted) (x : X) (end : ℕ) (bytes : List ℕ) → front_at end bytes ≡ Ok (view x) → Opens view (Ok x) (module_at end bytes)
opens view x end bytes e = front_opens end bytes ∙ ap (λ (r : Result Fronted Stop). found (r >>= opened)) e

pub fails : (e : ReadFault) (end : ℕ) (bytes : List ℕ) → Fails e (front_at end bytes) → Refuses (module_fault e) (module_at end bytes)
fails (Stopped s) end bytes e = front_opens end bytes ∙ ap (λ (r : Result Fronted Stop). found (r >>= opened)) e
fails OutOfMemory end bytes e = tt
