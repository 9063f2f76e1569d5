-- A module that is read is cut, and what is put between the cuts is a module again.
use Rattle.std.proofs.Common.{◌≡◌, ℕ, true, List, [], ◌∷◌, ◌++◌, length, Ok, Err, refl, sym, ap, subst, ◌∙◌, append_assoc, inl, inr, eqb}
use Rattle.std.specs.Prelude.{None}
use Rattle.std.proofs.lemmas.Bool.{eqb-true}
use Rattle.std.proofs.lemmas.List.{append-nil}
use Rattle.wasm_module.specs.wasm_instr.wasm_grammar.declared.fault.Stop.TheVariants.{Broken}
use Rattle.wasm_module.specs.wasm_instr.wasm_grammar.Grammar.{SpellsU32, SpellsItself, SpellsMany, SpellsVector, Then}
use Rattle.wasm_module.specs.wasm_instr.wasm_grammar.Writers.{HasSpelling}
use Rattle.wasm_module.specs.wasm_instr.wasm_grammar.Readers.{Takes}
use Rattle.wasm_module.specs.wasm_instr.wasm_grammar.Reading.{u32_at, vector_at}
use Rattle.wasm_module.specs.wasm_instr.wasm_grammar.ReaderLaws.{u32_reader, vector_reader, Takes-then, taken_front, branch, never, ok_is}
use Rattle.wasm_module.specs.wasm_instr.wasm_types.Types.{SpellsFuncType, SpellsImport, SpellsTableType, SpellsLimits}
use Rattle.wasm_module.specs.wasm_instr.wasm_types.TypeLaws.{func_type_reader, import_reader, table_type_reader, limits_reader}
use Rattle.wasm_module.specs.wasm_instr.declared.body.Body.{Body}
use Rattle.wasm_module.specs.wasm_instr.Bodies.{SpellsBody}
use Rattle.wasm_module.specs.wasm_sections.Sections.{header}
use Rattle.wasm_module.specs.declared.structure.Module.{Module}
use Rattle.wasm_module.specs.declared.parts.Export.{Export}
use Rattle.wasm_module.specs.Parts.{SpellsGlobal, SpellsExport, SpellsElement, SpellsDataSegment}
use Rattle.wasm_module.specs.PartReading.{export_at}
use Rattle.wasm_module.specs.PartLaws.{global_reader, export_reader, element_reader, data_segment_reader}
use Rattle.wasm_module.specs.Sections.{AreCustoms, SpellsSection, SpellsGiven, customs_at}
use Rattle.wasm_module.specs.Modules.{SpellsSections, IsModule}
use Rattle.wasm_module.specs.ModuleReading.{behind, module_at}
use Rattle.wasm_module.proofs.SectionLaws.{customs_found, next_found, given_reader}
use Rattle.wasm_module.proofs.ModuleLaws.{module_found}
use Rattle.export_wrappers.specs.Cuts.{Kept, Cut, up_to, cut_at}
use Rattle.export_wrappers.specs.Written.{SpellsCode, Spliced, changed, IsCut}
use Rattle.export_wrappers.proofs.Walks.{Walk, walked}
use Rattle.export_wrappers.proofs.Passing.{split, passed, coded}

-- ---- parts side by side

-- a section with custom sections behind it, and more
takes_more : {P Q R : List ℕ → Type 0} {a b c : List ℕ} → Takes (Then P Q) a b → Takes R b c → Takes (Then P (Then Q R)) a c
takes_more {c = c} t r =
    let s = t.spells in
    record {
      text = t.text ++ r.text;
      spells = (s.0, s.1 ++ r.text, s.2, (s.1, r.text, s.3, r.spells, refl), ap (λ (x : List ℕ). x ++ r.text) s.4 ∙ append_assoc s.0 s.1 r.text);
      parts = t.parts ∙ ap (λ (x : List ℕ). t.text ++ x) r.parts ∙ sym (append_assoc t.text r.text c);
    }

-- behind one part, with other bytes at the end
onto : {P Q R : List ℕ → Type 0} (tail : List ℕ) → ((bytes : List ℕ) → Q bytes → R (bytes ++ tail)) → (bytes : List ℕ) → Then P Q bytes → Then P R (bytes ++ tail)
onto tail more bytes s = (s.0, s.1 ++ tail, s.2, more s.1 s.3, ap (λ all. all ++ tail) s.4 ∙ append_assoc s.0 s.1 tail)

past : {P S Q R : List ℕ → Type 0} (tail : List ℕ) → ((bytes : List ℕ) → Q bytes → R (bytes ++ tail)) → (bytes : List ℕ) → Then P (Then S Q) bytes → Then P (Then S R) (bytes ++ tail)
past tail more = onto tail (onto tail more)

at_last : {P X : List ℕ → Type 0} (tail : List ℕ) → X tail → (bytes : List ℕ) → P bytes → Then P X (bytes ++ tail)
at_last tail x bytes p = (bytes, tail, p, x, refl)

all_taken : {P : List ℕ → Type 0} (bytes rest : List ℕ) → Takes P bytes rest → rest ≡ [] → P bytes
all_taken {P} bytes rest t none = subst P (sym (t.parts ∙ ap (λ (r : List ℕ). t.text ++ r) none ∙ append-nil t.text)) t.spells

head_found : (end : ℕ) (text bytes rest : List ℕ) → behind end text bytes ≡ Ok rest → bytes ≡ text ++ rest
head_found end [] bytes rest e = ok_is e
head_found end (t ∷ text) [] rest e = never _ rest e
head_found end (t ∷ text) (b ∷ bytes) rest e =
    branch (eqb b t) (behind end text bytes) (Err (Broken end)) rest (λ q f. rw (eqb-true b t q, head_found end text bytes rest f) refl) (never _ rest) e

-- ---- what stands before, between and behind

abbrev Before : Module → List ℕ → Type 0
Before m =
    Then (SpellsItself header) (Then AreCustoms (Then (SpellsSection 1 [] (SpellsVector SpellsFuncType) m.types)
    (Then AreCustoms (Then (SpellsSection 2 [] (SpellsVector SpellsImport) m.imports) AreCustoms))))

abbrev Between : Module → List ℕ → Type 0
Between m =
    Then AreCustoms (Then (SpellsSection 4 [] (SpellsVector SpellsTableType) m.tables)
    (Then AreCustoms (Then (SpellsSection 5 [] (SpellsVector SpellsLimits) m.memories)
    (Then AreCustoms (Then (SpellsSection 6 [] (SpellsVector (SpellsGlobal true)) m.globals) AreCustoms)))))

abbrev After : Module → List ℕ → Type 0
After m =
    Then AreCustoms (Then (SpellsSection 9 [] (SpellsVector (SpellsElement true)) m.elements)
    (Then AreCustoms (Then (SpellsSection 12 None SpellsGiven m.data_count) AreCustoms)))

abbrev Behind : Module → List ℕ → Type 0
Behind m = Then AreCustoms (Then (SpellsSection 11 [] (SpellsVector (SpellsDataSegment true)) m.data_segments) AreCustoms)

before_taken : (end : ℕ) (bytes : List ℕ) (m : Module) (w : Walk end bytes m) → Takes (Before m) bytes w.r2
before_taken end bytes m w =
    let start : Takes (SpellsItself header) bytes w.start = record { text = header; spells = refl; parts = head_found end header bytes w.start w.head } in
    Takes-then start (Takes-then (customs_found (length w.start) end w.start w.first w.customs)
    (takes_more (next_found 1 [] _ _ (vector_reader _ _ func_type_reader) end w.first m.types w.r1 w.types)
    (next_found 2 [] _ _ (vector_reader _ _ import_reader) end w.r1 m.imports w.r2 w.imports)))

between_taken : (end : ℕ) (bytes : List ℕ) (m : Module) (w : Walk end bytes m) (mid : List ℕ) → customs_at (length mid) end mid ≡ Ok w.r3 → Takes (Between m) mid w.r6
between_taken end bytes m w mid customs =
    Takes-then (customs_found (length mid) end mid w.r3 customs)
    (takes_more (next_found 4 [] _ _ (vector_reader _ _ table_type_reader) end w.r3 m.tables w.r4 w.tables)
    (takes_more (next_found 5 [] _ _ (vector_reader _ _ limits_reader) end w.r4 m.memories w.r5 w.memories)
    (next_found 6 [] _ _ (vector_reader _ _ (global_reader true)) end w.r5 m.globals w.r6 w.globals)))

after_taken : (end : ℕ) (bytes : List ℕ) (m : Module) (w : Walk end bytes m) (mid : List ℕ) → customs_at (length mid) end mid ≡ Ok w.r7 → Takes (After m) mid w.r12
after_taken end bytes m w mid customs =
    Takes-then (customs_found (length mid) end mid w.r7 customs)
    (takes_more (next_found 9 [] _ _ (vector_reader _ _ (element_reader true)) end w.r7 m.elements w.r9 w.elements)
    (next_found 12 None _ _ given_reader end w.r9 m.data_count w.r12 w.data_count))

behind_taken : (end : ℕ) (bytes : List ℕ) (m : Module) (w : Walk end bytes m) (mid : List ℕ) → customs_at (length mid) end mid ≡ Ok w.r10 → Behind m mid
behind_taken end bytes m w mid customs =
    all_taken mid w.r11 (Takes-then (customs_found (length mid) end mid w.r10 customs)
    (next_found 11 [] _ _ (vector_reader _ _ (data_segment_reader true)) end w.r10 m.data_segments w.r11 w.segments)) w.nothing

-- ---- other sections between them

-- what the kept bytes are
pub record Stands (m : Module) (k : Kept) : Type 0 where
  pub before : Before m k.before
  pub between : Between m k.between
  pub after : After m k.after
  pub last : Behind m k.rest

-- bytes that stand for themselves, and more
itself : {Q : List ℕ → Type 0} (text bytes : List ℕ) → Then (SpellsItself text) Q bytes → (rest : List ℕ) × (bytes ≡ text ++ rest) × Q rest
itself text bytes s = (s.1, s.4 ∙ ap (λ (t : List ℕ). t ++ s.1) s.2, s.3)

abbrev FromCode : Module → List Body → List ℕ → Type 0
FromCode m bodies = Then (SpellsSection 10 [] (SpellsVector SpellsCode) bodies) (Behind m)

abbrev FromAfter : Module → List Body → List ℕ → Type 0
FromAfter m bodies =
    Then AreCustoms (Then (SpellsSection 9 [] (SpellsVector (SpellsElement true)) m.elements)
    (Then AreCustoms (Then (SpellsSection 12 None SpellsGiven m.data_count) (Then AreCustoms (FromCode m bodies)))))

abbrev FromExports : Module → List Export → List Body → List ℕ → Type 0
FromExports m exports bodies = Then (SpellsSection 7 [] (SpellsVector SpellsExport) exports) (FromAfter m bodies)

abbrev FromBetween : Module → List Export → List Body → List ℕ → Type 0
FromBetween m exports bodies =
    Then AreCustoms (Then (SpellsSection 4 [] (SpellsVector SpellsTableType) m.tables)
    (Then AreCustoms (Then (SpellsSection 5 [] (SpellsVector SpellsLimits) m.memories)
    (Then AreCustoms (Then (SpellsSection 6 [] (SpellsVector (SpellsGlobal true)) m.globals) (Then AreCustoms (FromExports m exports bodies)))))))

abbrev FromFunctions : Module → List ℕ → List Export → List Body → List ℕ → Type 0
FromFunctions m functions exports bodies = Then (SpellsSection 3 [] (SpellsVector SpellsU32) functions) (FromBetween m exports bodies)

abbrev All : Module → List ℕ → List Export → List Body → List ℕ → Type 0
All m functions exports bodies =
    Then (SpellsItself header) (Then AreCustoms (Then (SpellsSection 1 [] (SpellsVector SpellsFuncType) m.types)
    (Then AreCustoms (Then (SpellsSection 2 [] (SpellsVector SpellsImport) m.imports) (Then AreCustoms (FromFunctions m functions exports bodies))))))

after_on : (m : Module) (bodies : List Body) (tail : List ℕ) → FromCode m bodies tail → (bytes : List ℕ) → After m bytes → FromAfter m bodies (bytes ++ tail)
after_on m bodies tail s = past tail (past tail (at_last tail s))

between_on : (m : Module) (exports : List Export) (bodies : List Body) (tail : List ℕ) → FromExports m exports bodies tail → (bytes : List ℕ) → Between m bytes → FromBetween m exports bodies (bytes ++ tail)
between_on m exports bodies tail s = past tail (past tail (past tail (at_last tail s)))

before_on : (m : Module) (functions : List ℕ) (exports : List Export) (bodies : List Body) (tail : List ℕ) → FromFunctions m functions exports bodies tail → (bytes : List ℕ) → Before m bytes → All m functions exports bodies (bytes ++ tail)
before_on m functions exports bodies tail s = onto tail (past tail (past tail (at_last tail s)))

joined : (m : Module) (k : Kept) → Stands m k → (functions : List ℕ) (exports : List Export) (bodies : List Body) (out : List ℕ) → Spliced k functions exports bodies out
    → Then (SpellsItself header) (SpellsSections SpellsBody (changed m functions exports bodies)) out
joined m k s functions exports bodies out spliced =
    let one = itself k.before out spliced in
    let three = one.2 in
    let two = itself k.between three.1 three.3 in
    let seven = two.2 in
    let four = itself k.after seven.1 seven.3 in
    let ten = four.2 in
    let rest : ten.1 ≡ k.rest = ten.3 in
    let code : FromCode m bodies four.0 = (ten.0, ten.1, ten.2, subst (Behind m) (sym rest) s.last, ten.4) in
    let after : FromAfter m bodies seven.1 = subst (FromAfter m bodies) (sym four.1) (after_on m bodies four.0 code k.after s.after) in
    let exported : FromExports m exports bodies two.0 = (seven.0, seven.1, seven.2, after, seven.4) in
    let between : FromBetween m exports bodies three.1 = subst (FromBetween m exports bodies) (sym two.1) (between_on m exports bodies two.0 exported k.between s.between) in
    let defined : FromFunctions m functions exports bodies one.0 = (three.0, three.1, three.2, between, three.4) in
    subst (All m functions exports bodies) (sym one.1) (before_on m functions exports bodies one.0 defined k.before s.before)

-- ---- items of a section have spellings

items_spelled : {A : Type 0} (Item : A → List ℕ → Type 0) (id : ℕ) (xs : List A) (bytes : List ℕ) → SpellsSection id [] (SpellsVector Item) xs bytes → HasSpelling (SpellsMany Item xs)
items_spelled {A} Item id xs bytes (inl s) = subst (λ (ys : List A). HasSpelling (SpellsMany Item ys)) (sym s.0) ([], refl)
items_spelled Item id xs bytes (inr s) = let v = s.3.3 in (v.1, v.3)

-- ---- the whole

pub cut_stands : (end : ℕ) (bytes : List ℕ) (m : Module) → module_at end bytes ≡ Ok m → (c : Cut) × (cut_at end bytes ≡ Ok c) × IsCut m c
unfolding cut_at
cut_stands end bytes m e =
    let w = walked end bytes m e in
    let is : IsModule m bytes = module_found end bytes m e in
    let functions = split 3 [] (vector_at u32_at) end w.r2 m.functions w.r3 w.functions in
    let exports = split 7 [] (vector_at export_at) end w.r6 m.exports w.r7 w.exports in
    let code = split 10 [] _ end w.r12 m.bodies w.r10 w.bodies in
    let codes = coded end w.r12 (m.bodies, code.0) code.1 in
    let kept : Kept = record {
      count = codes.0.0;
      before = up_to bytes w.r2;
      between = up_to functions.0 w.r6;
      after = up_to exports.0 w.r12;
      bodies = codes.0.1;
      rest = codes.0.2;
    } in
    let cut : Cut = record { types = m.types; imports = m.imports; functions = m.functions; exports = m.exports; kept = kept } in
    let customs : customs_at (length codes.0.2) end codes.0.2 ≡ Ok w.r10 = subst (λ (r : List ℕ). customs_at (length r) end r ≡ Ok w.r10) (sym codes.3) code.2 in
    let stands : Stands m kept = record {
      before = taken_front (before_taken end bytes m w);
      between = taken_front (between_taken end bytes m w functions.0 functions.2);
      after = taken_front (after_taken end bytes m w exports.0 exports.2);
      last = behind_taken end bytes m w codes.0.2 customs;
    } in (
      cut,
      rw (
        w.head,
        w.customs,
        w.types,
        w.imports,
        functions.1,
        functions.2,
        passed 4 [] _ end w.r3 m.tables w.r4 w.tables,
        passed 5 [] _ end w.r4 m.memories w.r5 w.memories,
        passed 6 [] _ end w.r5 m.globals w.r6 w.globals,
        exports.1,
        exports.2,
        passed 9 [] _ end w.r7 m.elements w.r9 w.elements,
        passed 12 None _ end w.r9 m.data_count w.r12 w.data_count,
        codes.1,
      ) refl,
      record {
        types = refl;
        imports = refl;
        functions = refl;
        exports = refl;
        same = is.0.code;
        count = codes.2.count;
        codes = codes.2.codes;
        numbers = items_spelled SpellsU32 3 m.functions _ (next_found 3 [] _ _ (vector_reader _ _ u32_reader) end w.r2 m.functions w.r3 w.functions).spells.2;
        names = items_spelled SpellsExport 7 m.exports _ (next_found 7 [] _ _ (vector_reader _ _ export_reader) end w.r6 m.exports w.r7 w.exports).spells.2;
        joins = λ fs es bs out same spliced. (record { code = same; counted = is.0.counted }, joined m kept stands fs es bs out spliced);
      },
    )
