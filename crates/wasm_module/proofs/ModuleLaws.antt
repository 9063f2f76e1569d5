-- What is read is a module, and a module is read.
use Rattle.std.proofs.Common.{◌≡◌, ℕ, Bool, true, false, eqb, List, [], ◌∷◌, ◌++◌, length, Result, Ok, Err, refl, sym, ap, subst, ◌∙◌}
use Rattle.std.specs.Prelude.{Option, Some, None, ◌&&◌}
use Rattle.std.proofs.lemmas.Bool.{eqb-true, eq-eqb}
use Rattle.std.proofs.lemmas.List.{append-nil}
use Rattle.wasm_instr.specs.wasm_grammar.declared.fault.Stop.{Stop}
use Rattle.wasm_instr.specs.wasm_grammar.declared.fault.Stop.TheVariants.{Broken}
use Rattle.wasm_instr.specs.wasm_grammar.Grammar.{SpellsNothing, SpellsU32, SpellsSized, SpellsVector, Then}
use Rattle.wasm_instr.specs.wasm_grammar.Readers.{Takes, IsReader}
use Rattle.wasm_instr.specs.wasm_grammar.Reading.{Read, ◌>>=◌, u32_at, part_at, vector_at, none_at}
use Rattle.wasm_instr.specs.wasm_grammar.ReaderLaws.{bind_ok, ok_is, cond_ok, u32_reader, vector_reader, part_found, part_again, regrouped, branch, never}
use Rattle.wasm_instr.specs.wasm_types.Types.{SpellsFuncType, SpellsImport, SpellsTableType, SpellsLimits, func_type_at, import_at, table_type_at, limits_at}
use Rattle.wasm_instr.specs.wasm_types.TypeLaws.{func_type_reader, import_reader, table_type_reader, limits_reader}
use Rattle.wasm_instr.specs.declared.body.Body.{Body}
use Rattle.wasm_instr.specs.Bodies.{SpellsBody, body_at}
use Rattle.wasm_instr.specs.BodyLaws.{body_found, body_again}
use Rattle.wasm_sections.specs.Sections.{header}
use Rattle.wasm_module.specs.declared.structure.Module.{Module}
use Rattle.wasm_module.specs.Parts.{SpellsGlobal, SpellsExport, SpellsElement, SpellsDataSegment}
use Rattle.wasm_module.specs.PartReading.{global_at, export_at, element_at, data_segment_at}
use Rattle.wasm_module.specs.PartLaws.{global_reader, export_reader, element_reader, data_segment_reader}
use Rattle.wasm_module.specs.Sections.{AreCustoms, SpellsSection, SpellsGiven, customs_at, next_at, given_at}
use Rattle.wasm_module.specs.Modules.{SpellsSections, IsCount, AddsUp, IsModule}
use Rattle.wasm_module.specs.ModuleReading.{code_at, behind, is_count, added_up, module_at}
use Rattle.wasm_module.proofs.SectionLaws.{customs_found, all_customs, next_found, Next, next_again, given_reader, is_one_of, starts_in, begins_not, next_starts, arrange}

-- ---- codes, the header and the end

abbrev SpellsCode : Body → List ℕ → Type 0
SpellsCode body = SpellsSized (SpellsBody body)

code_reader : IsReader SpellsCode code_at
unfolding code_at
code_reader = record {
  found = λ end bytes x rest e.
      let a = bind_ok (part_at end bytes) _ (x, rest) e in
      let b = bind_ok (body_at a.0.0) _ (x, rest) a.2 in
      let front = part_found end bytes a.0.0 a.0.1 a.1 in
      let s = front.spells in
      let taken : Takes (SpellsCode b.0) bytes a.0.1 = record { text = front.text; spells = (s.0, a.0.0, s.2, body_found a.0.0 b.0 b.1, s.4 ∙ ap (λ (t : List ℕ). s.0 ++ t) s.3); parts = front.parts } in
      subst (λ (p : Body × List ℕ). Takes (SpellsCode p.0) bytes p.1) (ok_is b.2) taken;
  again = λ end x text rest s. rw (regrouped s.0 s.1 text rest s.4, part_again end s.0 s.1 rest s.2, body_again s.1 x s.3) refl;
}

behind_found : (end : ℕ) (text bytes rest : List ℕ) → behind end text bytes ≡ Ok rest → bytes ≡ text ++ rest
behind_found end [] bytes rest e = ok_is e
behind_found end (t ∷ text) [] rest e = never _ rest e
behind_found end (t ∷ text) (b ∷ bytes) rest e =
    branch (eqb b t) (behind end text bytes) (Err (Broken end)) rest (λ q f. rw (eqb-true b t q, behind_found end text bytes rest f) refl) (never _ rest) e

behind_again : (end : ℕ) (text rest : List ℕ) → behind end text (text ++ rest) ≡ Ok rest
behind_again end [] rest = refl
behind_again end (t ∷ text) rest = rw (eq-eqb t t refl) (behind_again end text rest)

ended_nil : (end : ℕ) (rest : List ℕ) (x : Unit {0}) → none_at end rest ≡ Ok x → rest ≡ []
ended_nil end [] x e = refl
ended_nil end (b ∷ rest) x e = never _ x e

-- ---- numbers that add up

count_is : (given : Option ℕ) (n : ℕ) → is_count given n ≡ true → IsCount given n
count_is None n q = tt
count_is (Some count) n q = eqb-true count n q

is_counted : (given : Option ℕ) (n : ℕ) → IsCount given n → is_count given n ≡ true
is_counted None n s = refl
is_counted (Some count) n s = eq-eqb count n s

both_true : (p q : Bool) → (p && q) ≡ true → (p ≡ true) × (q ≡ true)
both_true true q e = (refl, e)
both_true false q e = absurd cc

adds_up : (m : Module) → (eqb (length m.functions) (length m.bodies) && is_count m.data_count (length m.data_segments)) ≡ true → AddsUp m
adds_up m q =
    let both = both_true (eqb (length m.functions) (length m.bodies)) (is_count m.data_count (length m.data_segments)) q in
    record { code = eqb-true (length m.functions) (length m.bodies) both.0; counted = count_is m.data_count (length m.data_segments) both.1 }

adds_again : (end : ℕ) (m : Module) → AddsUp m → added_up end m ≡ Ok m
adds_again end m s = rw (eq-eqb (length m.functions) (length m.bodies) s.code, is_counted m.data_count (length m.data_segments) s.counted) refl

-- ---- the whole

-- a section and the custom sections behind it, and what follows them
goes_on : {A : Type 0} {Rest : List ℕ → Type 0} (id : ℕ) (absent : A) (Contents : A → List ℕ → Type 0) (read : Read A) → IsReader Contents read → (end : ℕ) (bytes : List ℕ) (x : A × List ℕ) → next_at id absent read end bytes ≡ Ok x → Rest x.1
    → Then (SpellsSection id absent Contents x.0) (Then AreCustoms Rest) bytes
goes_on id absent Contents read reader end bytes x e more =
    let t = next_found id absent Contents read reader end bytes x.0 x.1 e in
    let s = t.spells in
    (s.0, s.1 ++ x.1, s.2, (s.1, x.1, s.3, more, refl), t.parts ∙ regrouped s.0 s.1 t.text x.1 s.4)

-- nothing follows
all_taken : {P : List ℕ → Type 0} (bytes rest : List ℕ) → Takes P bytes rest → rest ≡ [] → P bytes
all_taken {P} bytes rest t none = subst P (sym (t.parts ∙ ap (λ (r : List ℕ). t.text ++ r) none ∙ append-nil t.text)) t.spells

-- a step, and what follows it
step : {A B P : Type 0} (r : Result A Stop) (f : A → Result B Stop) (y : B) → ((x : A) → r ≡ Ok x → f x ≡ Ok y → P) → (r >>= f) ≡ Ok y → P
step (Ok x) f y then e = then x refl e
step (Err d) f y then e = absurd cc

pub module_found : (end : ℕ) (bytes : List ℕ) (m : Module) → module_at end bytes ≡ Ok m → IsModule m bytes
unfolding module_at
module_found end bytes m =
    step (behind end header bytes) _ m (λ start h.
    step (customs_at (length start) end start) _ m (λ rest c.
    step (next_at 1 [] (vector_at func_type_at) end rest) _ m (λ types types_is.
    step (next_at 2 [] (vector_at import_at) end types.1) _ m (λ imports imports_is.
    step (next_at 3 [] (vector_at u32_at) end imports.1) _ m (λ functions functions_is.
    step (next_at 4 [] (vector_at table_type_at) end functions.1) _ m (λ tables tables_is.
    step (next_at 5 [] (vector_at limits_at) end tables.1) _ m (λ memories memories_is.
    step (next_at 6 [] (vector_at (global_at true)) end memories.1) _ m (λ globals globals_is.
    step (next_at 7 [] (vector_at export_at) end globals.1) _ m (λ exports exports_is.
    step (next_at 9 [] (vector_at (element_at true)) end exports.1) _ m (λ elements elements_is.
    step (next_at 12 None given_at end elements.1) _ m (λ count count_is.
    step (next_at 10 [] (vector_at code_at) end count.1) _ m (λ bodies bodies_is.
    step (next_at 11 [] (vector_at (data_segment_at true)) end bodies.1) _ m (λ segments segments_is.
    step (none_at end segments.1) _ m (λ nothing none done.
    let customs = customs_found (length start) end start rest c in
    let last = all_taken bodies.1 segments.1 (next_found 11 [] _ _ (vector_reader _ _ (data_segment_reader true)) end bodies.1 segments.0 segments.1 segments_is) (ended_nil end segments.1 nothing none) in
    let sections : SpellsSections SpellsBody (record {
      types = types.0;
      imports = imports.0;
      functions = functions.0;
      tables = tables.0;
      memories = memories.0;
      globals = globals.0;
      exports = exports.0;
      elements = elements.0;
      data_count = count.0;
      bodies = bodies.0;
      data_segments = segments.0;
    }) start = (
      customs.text,
      rest,
      customs.spells,
      goes_on 1 [] _ _ (vector_reader _ _ func_type_reader) end rest types types_is (
          goes_on 2 [] _ _ (vector_reader _ _ import_reader) end types.1 imports imports_is (
          goes_on 3 [] _ _ (vector_reader _ _ u32_reader) end imports.1 functions functions_is (
          goes_on 4 [] _ _ (vector_reader _ _ table_type_reader) end functions.1 tables tables_is (
          goes_on 5 [] _ _ (vector_reader _ _ limits_reader) end tables.1 memories memories_is (
          goes_on 6 [] _ _ (vector_reader _ _ (global_reader true)) end memories.1 globals globals_is (
          goes_on 7 [] _ _ (vector_reader _ _ export_reader) end globals.1 exports exports_is (
          goes_on 9 [] _ _ (vector_reader _ _ (element_reader true)) end exports.1 elements elements_is (
          goes_on 12 None _ _ given_reader end elements.1 count count_is (
          goes_on 10 [] _ _ (vector_reader _ _ code_reader) end count.1 bodies bodies_is last))))))))),
      customs.parts,
    ) in
    let both = cond_ok (eqb (length functions.0) (length bodies.0) && is_count count.0 (length segments.0)) (Broken end) _ m done in
    subst (λ (x : Module). IsModule x bytes) both.1 (adds_up _ both.0, (header, start, refl, sections, behind_found end header bytes start h))))))))))))))))

-- ---- a module is read

-- a section and the custom sections behind it, where what follows begins as a later section does
reads_on : {A : Type 0} {Rest : List ℕ → Type 0} (ids : List ℕ) (id : ℕ) (absent : A) (Contents : A → List ℕ → Type 0) (read : Read A) → IsReader Contents read → (end : ℕ) (bytes : List ℕ) (x : A)
    → is_one_of ids id ≡ false → is_one_of ids 0 ≡ false → (s : Then (Next id absent Contents x) Rest bytes) → starts_in ids s.1 ≡ true
    → (next_at id absent read end bytes ≡ Ok (x, s.1)) × (starts_in (id ∷ ids) bytes ≡ true)
reads_on ids id absent Contents read reader end bytes x later named s starts = (
  ap (next_at id absent read end) s.4 ∙ next_again id absent Contents read reader end x s.0 s.1 s.2 (begins_not ids id s.1 starts later) (begins_not ids 0 s.1 starts named),
  next_starts ids id absent Contents x s.0 s.1 bytes s.2 s.4 starts,
)

-- after the last section nothing follows the custom sections
at_end : (bytes : List ℕ) → AreCustoms bytes → Then AreCustoms SpellsNothing bytes
at_end bytes s = (bytes, [], s, refl, sym (append-nil bytes))

-- the sections, arranged
abbrev Arranged : Module → List ℕ → Type 0
Arranged m =
    Then (Next 1 [] (SpellsVector SpellsFuncType) m.types) (
    Then (Next 2 [] (SpellsVector SpellsImport) m.imports) (
    Then (Next 3 [] (SpellsVector SpellsU32) m.functions) (
    Then (Next 4 [] (SpellsVector SpellsTableType) m.tables) (
    Then (Next 5 [] (SpellsVector SpellsLimits) m.memories) (
    Then (Next 6 [] (SpellsVector (SpellsGlobal true)) m.globals) (
    Then (Next 7 [] (SpellsVector SpellsExport) m.exports) (
    Then (Next 9 [] (SpellsVector (SpellsElement true)) m.elements) (
    Then (Next 12 None SpellsGiven m.data_count) (
    Then (Next 10 [] (SpellsVector SpellsCode) m.bodies) (
    Then (Next 11 [] (SpellsVector (SpellsDataSegment true)) m.data_segments) (SpellsNothing)))))))))))

-- the ids of the sections in their order
abbrev ids_of_sections : List ℕ
ids_of_sections = 1 ∷ 2 ∷ 3 ∷ 4 ∷ 5 ∷ 6 ∷ 7 ∷ 9 ∷ 12 ∷ 10 ∷ 11 ∷ []

read_arranged : (end : ℕ) (m : Module) (bytes start rest : List ℕ) → AddsUp m → behind end header bytes ≡ Ok start → (starts_in ids_of_sections rest ≡ true → customs_at (length start) end start ≡ Ok rest) → Arranged m rest → module_at end bytes ≡ Ok m
unfolding module_at
read_arranged end m bytes start rest adds h customs types =
    let imports = types.3 in
    let functions = imports.3 in
    let tables = functions.3 in
    let memories = tables.3 in
    let globals = memories.3 in
    let exports = globals.3 in
    let elements = exports.3 in
    let data_count = elements.3 in
    let bodies = data_count.3 in
    let data_segments = bodies.3 in
    let none : data_segments.1 ≡ [] = data_segments.3 in
    let at_none : starts_in [] data_segments.1 ≡ true = rw none refl in
    let read_data_segments = reads_on ([]) 11 [] _ _ (vector_reader _ _ (data_segment_reader true)) end bodies.1 m.data_segments refl refl data_segments at_none in
    let read_bodies = reads_on (11 ∷ []) 10 [] _ _ (vector_reader _ _ code_reader) end data_count.1 m.bodies refl refl bodies read_data_segments.1 in
    let read_data_count = reads_on (10 ∷ 11 ∷ []) 12 None _ _ given_reader end elements.1 m.data_count refl refl data_count read_bodies.1 in
    let read_elements = reads_on (12 ∷ 10 ∷ 11 ∷ []) 9 [] _ _ (vector_reader _ _ (element_reader true)) end exports.1 m.elements refl refl elements read_data_count.1 in
    let read_exports = reads_on (9 ∷ 12 ∷ 10 ∷ 11 ∷ []) 7 [] _ _ (vector_reader _ _ export_reader) end globals.1 m.exports refl refl exports read_elements.1 in
    let read_globals = reads_on (7 ∷ 9 ∷ 12 ∷ 10 ∷ 11 ∷ []) 6 [] _ _ (vector_reader _ _ (global_reader true)) end memories.1 m.globals refl refl globals read_exports.1 in
    let read_memories = reads_on (6 ∷ 7 ∷ 9 ∷ 12 ∷ 10 ∷ 11 ∷ []) 5 [] _ _ (vector_reader _ _ limits_reader) end tables.1 m.memories refl refl memories read_globals.1 in
    let read_tables = reads_on (5 ∷ 6 ∷ 7 ∷ 9 ∷ 12 ∷ 10 ∷ 11 ∷ []) 4 [] _ _ (vector_reader _ _ table_type_reader) end functions.1 m.tables refl refl tables read_memories.1 in
    let read_functions = reads_on (4 ∷ 5 ∷ 6 ∷ 7 ∷ 9 ∷ 12 ∷ 10 ∷ 11 ∷ []) 3 [] _ _ (vector_reader _ _ u32_reader) end imports.1 m.functions refl refl functions read_tables.1 in
    let read_imports = reads_on (3 ∷ 4 ∷ 5 ∷ 6 ∷ 7 ∷ 9 ∷ 12 ∷ 10 ∷ 11 ∷ []) 2 [] _ _ (vector_reader _ _ import_reader) end types.1 m.imports refl refl imports read_functions.1 in
    let read_types = reads_on (2 ∷ 3 ∷ 4 ∷ 5 ∷ 6 ∷ 7 ∷ 9 ∷ 12 ∷ 10 ∷ 11 ∷ []) 1 [] _ _ (vector_reader _ _ func_type_reader) end rest m.types refl refl types read_imports.1 in
    rw (h, customs read_types.1, read_types.0, read_imports.0, read_functions.0, read_tables.0, read_memories.0, read_globals.0, read_exports.0, read_elements.0, read_data_count.0, read_bodies.0, read_data_segments.0, none) (adds_again end m adds)

pub module_again : (end : ℕ) (bytes : List ℕ) (m : Module) → IsModule m bytes → module_at end bytes ≡ Ok m
module_again end bytes m s =
    let h = s.1 in
    let all : Then AreCustoms (Arranged m) h.1 =
    arrange 1 [] (SpellsVector SpellsFuncType) m.types (
    arrange 2 [] (SpellsVector SpellsImport) m.imports (
    arrange 3 [] (SpellsVector SpellsU32) m.functions (
    arrange 4 [] (SpellsVector SpellsTableType) m.tables (
    arrange 5 [] (SpellsVector SpellsLimits) m.memories (
    arrange 6 [] (SpellsVector (SpellsGlobal true)) m.globals (
    arrange 7 [] (SpellsVector SpellsExport) m.exports (
    arrange 9 [] (SpellsVector (SpellsElement true)) m.elements (
    arrange 12 None SpellsGiven m.data_count (
    arrange 10 [] (SpellsVector SpellsCode) m.bodies (
    arrange 11 [] (SpellsVector (SpellsDataSegment true)) m.data_segments at_end)))))))))) h.1 h.3 in
    let start : behind end header bytes ≡ Ok h.1 = ap (behind end header) (h.4 ∙ ap (λ (t : List ℕ). t ++ h.1) h.2) ∙ behind_again end header h.1 in
    let customs : starts_in ids_of_sections all.1 ≡ true → customs_at (length h.1) end h.1 ≡ Ok all.1 =
    λ starts. ap (λ (t : List ℕ). customs_at (length t) end t) all.4 ∙ all_customs end all.0 all.1 all.2 (begins_not ids_of_sections 0 all.1 starts refl) in
    read_arranged end m bytes h.1 all.1 s.0 start customs all.3
