-- Whatever module the bytes of a tree spell is the tree's. The code is looked at as plain bytes behind their sizes: so the
-- sections of the module and those of the tree are the same, part by part.
use Rattle.std.proofs.Common.{◌≡◌, ℕ, true, false, List, [], ◌∷◌, ◌++◌, length, refl, sym, ap, subst, ◌∙◌, inl, inr}
use Rattle.std.specs.Prelude.{⊤, None, Ok}
use Rattle.std.specs.List.{AllZip}
use Rattle.std.proofs.lemmas.List.{append-nil}
use Rattle.std.proofs.lemmas.Slice.Zip.{AllZip-long}
use Rattle.wasm_module.specs.wasm_instr.wasm_grammar.Grammar.{SpellsNothing, SpellsU32, SpellsBytes, SpellsSized, SpellsMany, SpellsVector, Then}
use Rattle.wasm_module.specs.wasm_instr.wasm_grammar.Readers.{IsReader}
use Rattle.wasm_module.specs.wasm_instr.wasm_grammar.Reading.{Read}
use Rattle.wasm_module.specs.wasm_instr.wasm_grammar.ReaderLaws.{ok_is, u32_reader, bytes_reader, vector_reader}
use Rattle.wasm_module.specs.wasm_instr.wasm_types.Types.{SpellsFuncType, SpellsImport, SpellsTableType, SpellsLimits}
use Rattle.wasm_module.specs.wasm_instr.wasm_types.TypeLaws.{func_type_reader, import_reader, table_type_reader, limits_reader}
use Rattle.wasm_module.specs.wasm_instr.declared.body.Body.{Body}
use Rattle.wasm_module.specs.wasm_instr.Bodies.{SpellsBody}
use Rattle.wasm_module.specs.declared.structure.Module.{Module}
use Rattle.wasm_module.specs.Parts.{SpellsGlobal, SpellsExport, SpellsElement, SpellsDataSegment}
use Rattle.wasm_module.specs.PartLaws.{global_reader, export_reader, element_reader, data_segment_reader}
use Rattle.wasm_module.specs.Sections.{AreCustoms, SpellsSection, SpellsGiven, customs_at, next_at}
use Rattle.wasm_module.specs.Modules.{IsModule}
use Rattle.wasm_module.proofs.SectionLaws.{Next, next_again, given_reader, is_one_of, starts_in, begins_not, next_starts, arrange, all_customs}
use Rattle.image_emit.specs.Bytes.{Tree, header, bytes_of}
use Rattle.image_emit.specs.Spelled.{module_with, IsTree, IsSpellable}
use Rattle.image_emit.proofs.SpelledLaws.{Chain, raw_sections}

-- ---- two spellings of the same bytes

-- Where bytes are spelled both ways, this is the same. Either way they begin as one of these sections does, or there are none.
record Agree (ids : List ℕ) (R Q : List ℕ → Type 0) (Same : Type 0) : Type 0 where
  left : (bytes : List ℕ) → R bytes → starts_in ids bytes ≡ true
  right : (bytes : List ℕ) → Q bytes → starts_in ids bytes ≡ true
  same : (bytes : List ℕ) → R bytes → Q bytes → Same

nothing_agrees : Agree [] SpellsNothing SpellsNothing ⊤
nothing_agrees = record {
  left = λ bytes s. subst (λ (b : List ℕ). starts_in [] b ≡ true) (sym s) refl;
  right = λ bytes s. subst (λ (b : List ℕ). starts_in [] b ≡ true) (sym s) refl;
  same = λ bytes s u. tt;
}

pair_first : {A : Type 0} {x y : A} {r q : List ℕ} → (let p : A × List ℕ = (x, r) in p ≡ (y, q)) → x ≡ y
pair_first {A} e = ap (λ (p : A × List ℕ). p.0) e

pair_second : {A : Type 0} {x y : A} {r q : List ℕ} → (let p : A × List ℕ = (x, r) in p ≡ (y, q)) → r ≡ q
pair_second {A} e = ap (λ (p : A × List ℕ). p.1) e

-- a section with the custom sections behind it, or none, and then what agrees
module _ {A : Type 0} {R Q : List ℕ → Type 0} {Same : Type 0} (ids : List ℕ) (id : ℕ) (absent : A) (Contents : A → List ℕ → Type 0) (read : Read A) (reader : IsReader Contents read) (x y : A) (later : is_one_of ids id ≡ false) (named : is_one_of ids 0 ≡ false) (rest : Agree ids R Q Same) where
  read_so : {P : List ℕ → Type 0} (z : A) (bytes : List ℕ) (s : Then (Next id absent Contents z) P bytes) → starts_in ids s.1 ≡ true → next_at id absent read 0 bytes ≡ Ok (z, s.1)
  read_so z bytes s starts =
      ap (next_at id absent read 0) s.4 ∙ next_again id absent Contents read reader 0 z s.0 s.1 s.2 (begins_not ids id s.1 starts later) (begins_not ids 0 s.1 starts named)

  both_same : (bytes : List ℕ) → Then (Next id absent Contents x) R bytes → Then (Next id absent Contents y) Q bytes → (x ≡ y) × Same
  both_same bytes s u =
      let e = ok_is (sym (read_so x bytes s (rest.left s.1 s.3)) ∙ read_so y bytes u (rest.right u.1 u.3)) in
      (pair_first e, rest.same u.1 (subst R (pair_second e) s.3) u.3)

  next_agrees : Agree (id ∷ ids) (Then (Next id absent Contents x) R) (Then (Next id absent Contents y) Q) ((x ≡ y) × Same)
  next_agrees = record {
    left = λ bytes s. next_starts ids id absent Contents x s.0 s.1 bytes s.2 s.4 (rest.left s.1 s.3);
    right = λ bytes u. next_starts ids id absent Contents y u.0 u.1 bytes u.2 u.4 (rest.right u.1 u.3);
    same = both_same;
  }

-- custom sections in front
in_front : {R Q : List ℕ → Type 0} {Same : Type 0} (ids : List ℕ) → is_one_of ids 0 ≡ false → Agree ids R Q Same → (bytes : List ℕ) → Then AreCustoms R bytes → Then AreCustoms Q bytes → Same
in_front {R} {Q} ids named rest bytes s u =
    let first : customs_at (length bytes) 0 bytes ≡ Ok s.1 = subst (λ (b : List ℕ). customs_at (length b) 0 b ≡ Ok s.1) (sym s.4) (all_customs 0 s.0 s.1 s.2 (begins_not ids 0 s.1 (rest.left s.1 s.3) named)) in
    let second : customs_at (length bytes) 0 bytes ≡ Ok u.1 = subst (λ (b : List ℕ). customs_at (length b) 0 b ≡ Ok u.1) (sym u.4) (all_customs 0 u.0 u.1 u.2 (begins_not ids 0 u.1 (rest.right u.1 u.3) named)) in
    rest.same u.1 (subst R (ok_is (sym first ∙ second)) s.3) u.3

-- ---- the sections of two modules

abbrev Raw : List (List ℕ) → List ℕ → Type 0
Raw = SpellsSection 10 [] (SpellsVector SpellsBytes)

-- after the last section nothing follows the custom sections
at_end : (bytes : List ℕ) → AreCustoms bytes → Then AreCustoms SpellsNothing bytes
at_end bytes s = (bytes, [], s, refl, sym (append-nil bytes))

abbrev Arranged : Module → List (List ℕ) → List ℕ → Type 0
Arranged m raws =
    Then (Next 1 [] (SpellsVector SpellsFuncType) m.types) (
    Then (Next 2 [] (SpellsVector SpellsImport) m.imports) (
    Then (Next 3 [] (SpellsVector SpellsU32) m.functions) (
    Then (Next 4 [] (SpellsVector SpellsTableType) m.tables) (
    Then (Next 5 [] (SpellsVector SpellsLimits) m.memories) (
    Then (Next 6 [] (SpellsVector (SpellsGlobal true)) m.globals) (
    Then (Next 7 [] (SpellsVector SpellsExport) m.exports) (
    Then (Next 9 [] (SpellsVector (SpellsElement true)) m.elements) (
    Then (Next 12 None SpellsGiven m.data_count) (
    Then (Next 10 [] (SpellsVector SpellsBytes) raws) (
    Then (Next 11 [] (SpellsVector (SpellsDataSegment true)) m.data_segments) (SpellsNothing)))))))))))

arranged : (m : Module) (raws : List (List ℕ)) (bytes : List ℕ) → Chain m (Raw raws) bytes → Then AreCustoms (Arranged m raws) bytes
arranged m raws =
    arrange 1 [] (SpellsVector SpellsFuncType) m.types (
    arrange 2 [] (SpellsVector SpellsImport) m.imports (
    arrange 3 [] (SpellsVector SpellsU32) m.functions (
    arrange 4 [] (SpellsVector SpellsTableType) m.tables (
    arrange 5 [] (SpellsVector SpellsLimits) m.memories (
    arrange 6 [] (SpellsVector (SpellsGlobal true)) m.globals (
    arrange 7 [] (SpellsVector SpellsExport) m.exports (
    arrange 9 [] (SpellsVector (SpellsElement true)) m.elements (
    arrange 12 None SpellsGiven m.data_count (
    arrange 10 [] (SpellsVector SpellsBytes) raws (
    arrange 11 [] (SpellsVector (SpellsDataSegment true)) m.data_segments at_end))))))))))

-- all parts of the modules are the same, but for the bodies, of which the bytes are
abbrev SameParts : Module → List (List ℕ) → Module → List (List ℕ) → Type 0
SameParts m raws n others =
    (m.types ≡ n.types) × ((m.imports ≡ n.imports) × ((m.functions ≡ n.functions) × ((m.tables ≡ n.tables) × ((m.memories ≡ n.memories) × ((m.globals ≡ n.globals)
    × ((m.exports ≡ n.exports) × ((m.elements ≡ n.elements) × ((m.data_count ≡ n.data_count) × ((raws ≡ others) × ((m.data_segments ≡ n.data_segments) × ⊤))))))))))

all_agree : (m n : Module) (raws others : List (List ℕ)) → Agree (1 ∷ 2 ∷ 3 ∷ 4 ∷ 5 ∷ 6 ∷ 7 ∷ 9 ∷ 12 ∷ 10 ∷ 11 ∷ []) (Arranged m raws) (Arranged n others) (SameParts m raws n others)
all_agree m n raws others =
    next_agrees (2 ∷ 3 ∷ 4 ∷ 5 ∷ 6 ∷ 7 ∷ 9 ∷ 12 ∷ 10 ∷ 11 ∷ []) 1 [] _ _ (vector_reader _ _ func_type_reader) m.types n.types refl refl (
    next_agrees (3 ∷ 4 ∷ 5 ∷ 6 ∷ 7 ∷ 9 ∷ 12 ∷ 10 ∷ 11 ∷ []) 2 [] _ _ (vector_reader _ _ import_reader) m.imports n.imports refl refl (
    next_agrees (4 ∷ 5 ∷ 6 ∷ 7 ∷ 9 ∷ 12 ∷ 10 ∷ 11 ∷ []) 3 [] _ _ (vector_reader _ _ u32_reader) m.functions n.functions refl refl (
    next_agrees (5 ∷ 6 ∷ 7 ∷ 9 ∷ 12 ∷ 10 ∷ 11 ∷ []) 4 [] _ _ (vector_reader _ _ table_type_reader) m.tables n.tables refl refl (
    next_agrees (6 ∷ 7 ∷ 9 ∷ 12 ∷ 10 ∷ 11 ∷ []) 5 [] _ _ (vector_reader _ _ limits_reader) m.memories n.memories refl refl (
    next_agrees (7 ∷ 9 ∷ 12 ∷ 10 ∷ 11 ∷ []) 6 [] _ _ (vector_reader _ _ (global_reader true)) m.globals n.globals refl refl (
    next_agrees (9 ∷ 12 ∷ 10 ∷ 11 ∷ []) 7 [] _ _ (vector_reader _ _ export_reader) m.exports n.exports refl refl (
    next_agrees (12 ∷ 10 ∷ 11 ∷ []) 9 [] _ _ (vector_reader _ _ (element_reader true)) m.elements n.elements refl refl (
    next_agrees (10 ∷ 11 ∷ []) 12 None _ _ given_reader m.data_count n.data_count refl refl (
    next_agrees (11 ∷ []) 10 [] _ _ (vector_reader _ _ bytes_reader) raws others refl refl (
    next_agrees [] 11 [] _ _ (vector_reader _ _ (data_segment_reader true)) m.data_segments n.data_segments refl refl nothing_agrees))))))))))

same_parts : (m n : Module) (raws others : List (List ℕ)) (bytes : List ℕ) → Chain m (Raw raws) bytes → Chain n (Raw others) bytes → SameParts m raws n others
same_parts m n raws others bytes s u = in_front (1 ∷ 2 ∷ 3 ∷ 4 ∷ 5 ∷ 6 ∷ 7 ∷ 9 ∷ 12 ∷ 10 ∷ 11 ∷ []) refl (all_agree m n raws others) bytes (arranged m raws bytes s) (arranged n others bytes u)

-- ---- the code as plain bytes

-- bytes that spell these bodies, one by one
abbrev Bytes : List Body → Type 0
Bytes bs = (raws : List (List ℕ)) × AllZip SpellsBody bs raws

codes_raw : (bs : List Body) (text : List ℕ) → SpellsMany (λ b. SpellsSized (SpellsBody b)) bs text → (raws : Bytes bs) × SpellsMany SpellsBytes raws.0 text
codes_raw [] text s = (([], tt), s)
codes_raw (b ∷ bs) text s =
    let z = s.2 in
    let others = codes_raw bs s.1 s.3 in
    ((z.1 ∷ others.0.0, (z.3, others.0.1)), (s.0, s.1, (z.0, z.1, z.2, refl, z.4), others.1, s.4))

section_raw : (bs : List Body) (text : List ℕ) → SpellsSection 10 [] (SpellsVector (λ b. SpellsSized (SpellsBody b))) bs text → (raws : Bytes bs) × Raw raws.0 text
section_raw bs text (inl s) = (([], subst (λ (l : List Body). AllZip SpellsBody l []) (sym s.0) tt), inl (refl, s.1))
section_raw bs text (inr s) =
    let z = s.3 in
    let v = z.3 in
    let raw = codes_raw bs v.1 v.3 in
    let count : SpellsU32 (length raw.0.0) v.0 = subst (λ (n : ℕ). SpellsU32 n v.0) (sym (AllZip-long SpellsBody bs raw.0.0 raw.0.1)) v.2 in
    (raw.0, inr (s.0, s.1, s.2, (z.0, z.1, z.2, (v.0, v.1, count, raw.1, v.4), z.4), s.4))

behind_some : {P Q : List ℕ → Type 0} {Y : Type 0} {R : Y → List ℕ → Type 0} → ((bytes : List ℕ) → Q bytes → (y : Y) × R y bytes) → (bytes : List ℕ) → Then P Q bytes → (y : Y) × Then P (R y) bytes
behind_some f bytes s = let more = f s.1 s.3 in (more.0, (s.0, s.1, s.2, more.1, s.4))

past_some : {P S Q : List ℕ → Type 0} {Y : Type 0} {R : Y → List ℕ → Type 0} → ((bytes : List ℕ) → Q bytes → (y : Y) × R y bytes) → (bytes : List ℕ) → Then P (Then S Q) bytes → (y : Y) × Then P (Then S (R y)) bytes
past_some f = behind_some (behind_some f)

-- nine sections stand before the code section
chain_raw : (m : Module) (bytes : List ℕ) → Chain m (SpellsSection 10 [] (SpellsVector (λ b. SpellsSized (SpellsBody b))) m.bodies) bytes → (raws : Bytes m.bodies) × Chain m (Raw raws.0) bytes
chain_raw m =
    past_some (past_some (past_some (past_some (past_some (past_some (past_some (past_some (past_some (behind_some
    (λ bytes s. let here = section_raw m.bodies s.0 s.2 in (here.0, (s.0, s.1, here.1, s.3, s.4))))))))))))

-- ---- the module is the tree's

same_module : (m n : Module) → m.types ≡ n.types → m.imports ≡ n.imports → m.functions ≡ n.functions → m.tables ≡ n.tables → m.memories ≡ n.memories → m.globals ≡ n.globals → m.exports ≡ n.exports → m.elements ≡ n.elements
    → m.data_count ≡ n.data_count → m.data_segments ≡ n.data_segments → m ≡ record n { bodies = m.bodies }
same_module m n types imports functions tables memories globals exports elements data_count data_segments =
    rw (← types, ← imports, ← functions, ← tables, ← memories, ← globals, ← exports, ← elements, ← data_count, ← data_segments) refl

after_header : (a b : List ℕ) → header ++ a ≡ header ++ b → a ≡ b
after_header a b e = cc

pub is_tree : (t : Tree) (m : Module) → IsSpellable t → IsModule m (bytes_of t) → IsTree m t
is_tree t m sound s =
    let h = s.1 in
    let mine = raw_sections t sound in
    let rest : h.1 ≡ mine.0 = after_header h.1 mine.0 (sym (h.4 ∙ ap (λ (b : List ℕ). b ++ h.1) h.2) ∙ mine.2) in
    let theirs = chain_raw m h.1 h.3 in
    let same = same_parts m (module_with [] t) theirs.0.0 t.bodies mine.0 (subst (Chain m (Raw theirs.0.0)) rest theirs.1) mine.1 in
    record {
      parts = same_module m (module_with [] t) same.0 same.1.0 same.1.1.0 same.1.1.1.0 same.1.1.1.1.0 same.1.1.1.1.1.0 same.1.1.1.1.1.1.0 same.1.1.1.1.1.1.1.0 same.1.1.1.1.1.1.1.1.0 same.1.1.1.1.1.1.1.1.1.1.0;
      bodies = subst (λ (texts : List (List ℕ)). AllZip SpellsBody m.bodies texts) same.1.1.1.1.1.1.1.1.1.0 theirs.0.1;
    }
