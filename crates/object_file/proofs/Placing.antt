-- Functions, segments and symbols of an object, by the rules that its parts keep.
use Rattle.std.proofs.Common.{◌≡◌, ℕ, zero, suc, ◌+◌, ◌<◌, ◌≤◌, Bool, true, false, cond, eqb, not, List, [], ◌∷◌, length, map, get_or, refl, sym, ap, ◌∙◌, Option, Some, None, arith}
use Rattle.std.specs.Prelude.{All, nat_lt, slice_get, filter_map, option_map, ◌||◌}
use Rattle.std.specs.List.{cons_option}
use Rattle.std.proofs.lemmas.Bool.{and_parts, ltb-true, leb-true, eqb-true, not-true}
use Rattle.std.proofs.lemmas.List.Elements.{All-nil, All-cons, All-head, All-tail}
use Rattle.object_rules.specs.wasm_types.declared.import.ImportKind.{ImportKind}
use Rattle.object_rules.specs.wasm_types.declared.import.ImportKind.TheVariants as kinds
use Rattle.object_rules.specs.wasm_types.declared.value.ValType.{ValType}
use Rattle.object_rules.specs.wasm_types.declared.function.FuncType.{FuncType}
use Rattle.object_rules.specs.wasm_types.declared.import.Import.{Import}
use Rattle.std.proofs.lemmas.Option.{get_or_from_slice_get}
use Rattle.object_rules.specs.Spaces.{imported_type}
use Rattle.object_rules.specs.Metadata.{is_plain, is_plain_at}
use Rattle.object_file.specs.declared.object.Object.{Object}
use Rattle.object_file.specs.Spaces as spaces
use Rattle.object_file.specs.Spaces.{no_type, written_type, defined_type}
use Rattle.object_rules.specs.wasm_module.declared.parts.Export.{Export}
use Rattle.object_rules.specs.reloc_section.declared.entry.Reloc.{Reloc}
use Rattle.object_rules.specs.linking_section.declared.symbol.Symbol.{Symbol}
use Rattle.object_rules.specs.linking_section.declared.segment.SegmentInfo.{SegmentInfo}
use Rattle.object_rules.specs.linking_section.Flags.{is_undefined}
use Rattle.object_rules.specs.object_parts.declared.parts.CodeBody.{CodeBody}
use Rattle.object_rules.specs.object_parts.declared.parts.DataPart.{DataPart}
use Rattle.object_rules.specs.object_parts.Code.{behind, end_in}
use Rattle.object_columns.specs.declared.functions.FunctionDef.{FunctionDef}
use Rattle.object_rules.specs.Symbols.{stands, lies_in}
use Rattle.object_rules.specs.object_parts.Spans.{LiesIn}
use Rattle.object_file.specs.Objects.{other_infos, functions_from, segments_from}
use Rattle.object_file.specs.Sound.{NamesOneOf, EndsIn}
use Rattle.object_file.proofs.Made.{made}

-- ---- functions

pub functions_len : (exports : List Export) (n : ℕ) (types : List ℕ) (bodies : List CodeBody) → length types ≡ length bodies → length (functions_from exports n types bodies) ≡ length types
functions_len exports n [] bodies e = refl
functions_len exports n (t ∷ ts) [] e = absurd (omega (arith, e))
functions_len exports n (t ∷ ts) (b ∷ bs) e =
    let others : length (functions_from exports (n + 1) ts bs) ≡ length ts = functions_len exports (n + 1) ts bs (omega (arith, e)) in
    omega (arith, others)

-- what holds of types and of bodies
module _ (T : ℕ → Type 0) (B : CodeBody → Type 0) (P : FunctionDef → Type 0) (exports : List Export)
    (each : (index t : ℕ) (b : CodeBody) → T t → B b → P (made exports index t b)) where
  pub functions_all : (n : ℕ) (types : List ℕ) (bodies : List CodeBody) → All T types → All B bodies → All P (functions_from exports n types bodies)
  functions_all n [] bodies ts bs = All-nil P
  functions_all n (t ∷ types) [] ts bs = All-nil P
  functions_all n (t ∷ types) (b ∷ bodies) ts bs =
      All-cons P (made exports n t b) (functions_from exports (n + 1) types bodies) (each n t b (All-head T t types ts) (All-head B b bodies bs))
      (functions_all (n + 1) types bodies (All-tail T t types ts) (All-tail B b bodies bs))

-- ---- segments

pub segment_spans : (size start : ℕ) (relocs : List Reloc) (infos : List SegmentInfo) (ds : List DataPart) → All (λ d. LiesIn size d.span) ds → All (λ g. LiesIn size g.span) (segments_from start relocs infos ds)
segment_spans size start relocs infos [] lie = All-nil (λ g. LiesIn size g.span)
segment_spans size start relocs infos (d ∷ ds) lie =
    All-cons (λ g. LiesIn size g.span) _ (segments_from start (behind (end_in start d.span) relocs) (other_infos infos) ds) (All-head (λ k. LiesIn size k.span) d ds lie)
    (segment_spans size start (behind (end_in start d.span) relocs) (other_infos infos) ds (All-tail (λ k. LiesIn size k.span) d ds lie))

pub segments_aligned : (start : ℕ) (relocs : List Reloc) (infos : List SegmentInfo) (ds : List DataPart) → All (λ i. i.align ≤ 31) infos → All (λ g. g.info.align ≤ 31) (segments_from start relocs infos ds)
segments_aligned start relocs infos [] small = All-nil (λ g. g.info.align ≤ 31)
segments_aligned start relocs [] (d ∷ ds) small =
    All-cons (λ g. g.info.align ≤ 31) _ (segments_from start (behind (end_in start d.span) relocs) [] ds) (omega arith) (segments_aligned start (behind (end_in start d.span) relocs) [] ds small)
segments_aligned start relocs (i ∷ is) (d ∷ ds) small =
    All-cons (λ g. g.info.align ≤ 31) _ (segments_from start (behind (end_in start d.span) relocs) is ds) (All-head (λ k. k.align ≤ 31) i is small)
    (segments_aligned start (behind (end_in start d.span) relocs) is ds (All-tail (λ k. k.align ≤ 31) i is small))

-- a datum lies in the segment that is made of the part that it lies in
pub datum_ends : (s : Symbol) (start : ℕ) (relocs : List Reloc) (infos : List SegmentInfo) (ds : List DataPart) (k : ℕ) → lies_in s (slice_get ds k) ≡ true
    → (k < length (segments_from start relocs infos ds)) × EndsIn s (slice_get (segments_from start relocs infos ds) k)
datum_ends s start relocs infos [] k e = absurd cc
datum_ends s start relocs infos (d ∷ ds) zero e = (omega arith, leb-true (s.offset + s.size) d.span.len e)
datum_ends s start relocs infos (d ∷ ds) (suc k) e =
    let others = datum_ends s start (behind (end_in start d.span) relocs) (other_infos infos) ds k e in
    (omega (arith, others.0), others.1)

pub segments_len : (start : ℕ) (relocs : List Reloc) (infos : List SegmentInfo) (ds : List DataPart) → length (segments_from start relocs infos ds) ≡ length ds
segments_len start relocs infos [] = refl
segments_len start relocs infos (d ∷ ds) = let others = segments_len start (behind (end_in start d.span) relocs) (other_infos infos) ds in omega (arith, others)

-- ---- types of functions

pub imported_types_are : (o : Object) (imports : List Import) → filter_map (λ i. spaces.imported_type o i.kind) imports ≡ map (written_type o) (filter_map (λ i. imported_type i.kind) imports)
imported_types_are o [] = refl
imported_types_are o (i ∷ is) = by i.kind (imported_types_are o is)
  where
    by : (kind : ImportKind) → filter_map (λ k. spaces.imported_type o k.kind) is ≡ map (written_type o) (filter_map (λ k. imported_type k.kind) is)
        → cons_option (spaces.imported_type o kind) (filter_map (λ k. spaces.imported_type o k.kind) is) ≡ map (written_type o) (cons_option (imported_type kind) (filter_map (λ k. imported_type k.kind) is))
    by (kinds.Function t) e = ap (λ ts. written_type o t ∷ ts) e
    by (kinds.Table t) e = e
    by (kinds.Memory m) e = e
    by (kinds.GlobalVar g) e = e

pub defined_types_are : (o : Object) (exports : List Export) (n : ℕ) (types : List ℕ) (bodies : List CodeBody) → length types ≡ length bodies → map (defined_type o) (functions_from exports n types bodies) ≡ map (written_type o) types
defined_types_are o exports n [] bodies e = refl
defined_types_are o exports n (t ∷ ts) [] e = absurd (omega (arith, e))
defined_types_are o exports n (t ∷ ts) (b ∷ bs) e =
    let others = defined_types_are o exports (n + 1) ts bs (omega (arith, e)) in
    ap (λ fs. written_type o t ∷ fs) others

-- the type () to ()
nothing : {A : Type 0} (xs : List A) → eqb (length xs) 0 ≡ true → xs ≡ []
nothing [] e = refl
nothing (x ∷ xs) e = absurd (omega (arith, eqb-true (length (x ∷ xs)) 0 e))

plain_is : (t : FuncType) → is_plain (Some t) ≡ true → t ≡ no_type
plain_is t e =
    let both = and_parts (eqb (length t.params) 0) (eqb (length t.results) 0) e in
    ap (λ (ps : List ValType). let r : FuncType = record { params = ps; results = t.results } in r) (nothing t.params both.0)
    ∙ ap (λ (rs : List ValType). let r : FuncType = record { params = []; results = rs } in r) (nothing t.results both.1)

pub plain_type : (types : List FuncType) (found : Option ℕ) → is_plain_at types found ≡ true → option_map (λ t. get_or types t no_type) found ≡ Some no_type
plain_type types None e = absurd cc
plain_type types (Some t) e = by (slice_get types t) refl e
  where
    by : (ty : Option FuncType) → slice_get types t ≡ ty → is_plain ty ≡ true → option_map (λ k. get_or types k no_type) (Some t) ≡ Some no_type
    by None is f = absurd cc
    by (Some ty) is f = ap (λ (x : FuncType). let r : Option FuncType = Some x in r) (get_or_from_slice_get types t ty no_type is ∙ plain_is ty f)

-- ---- symbols

pub names_one_of : (s : Symbol) (imports all more : ℕ) → all ≡ more → stands s imports all ≡ true → NamesOneOf imports more s
names_one_of s imports all more same e =
    let both = and_parts (nat_lt s.index all) (cond (nat_lt s.index imports) (is_undefined s) (not (is_undefined s))) e in
    (omega (arith, ltb-true s.index all both.0, same), by (nat_lt s.index imports) both.1)
  where
    by : (q : Bool) → cond q (is_undefined s) (not (is_undefined s)) ≡ true → is_undefined s ≡ q
    by true f = f
    by false f = not-true (is_undefined s) f

-- an undefined one names an import
pub import_of : (s : Symbol) (imports all : ℕ) → NamesOneOf imports all s → is_undefined s ≡ true → s.index < imports
import_of s imports all named undefined = ltb-true s.index imports (sym named.1 ∙ undefined)

pub defined_datum : (s : Symbol) (found : Option DataPart) → (is_undefined s || lies_in s found) ≡ true → is_undefined s ≡ false → lies_in s found ≡ true
defined_datum s found e defined = by (is_undefined s) (lies_in s found) e defined
  where
    by : (p q : Bool) → (p || q) ≡ true → p ≡ false → q ≡ true
    by true q f g = absurd cc
    by false q f g = f
