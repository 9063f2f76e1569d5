-- Where a window names no global, the instruction doesn't set it.
use Rattle.std.proofs.Common.{◌≡◌, ℕ, zero, suc, ◌+◌, ◌-◌, ◌<◌, ◌≤◌, ◌⊎◌, inl, inr, Bool, true, false, cond, eqb, not, List, [], ◌∷◌, ◌++◌, length, take, drop, map, refl, sym, ap, subst, ◌∙◌, append_assoc, length-append, Option, Some, None, Result, Ok, Err, arith}
use Rattle.std.specs.Prelude.{All, slice_get, slice_index_or, ◌==◌, ◌&&◌, ◌||◌}
use Rattle.std.specs.List.{list_all, list_any}
use Rattle.std.proofs.lemmas.Bool.{and_parts, or_cases, eqb-true}
use Rattle.std.proofs.lemmas.List.Elements.{All-nil, All-cons, All-map, All-contains}
use Rattle.std.proofs.lemmas.List.Sums.{AllPass-from_list_all}
use Rattle.object_rules.specs.wl_base.declared.span.Span.{Span}
use Rattle.object_rules.specs.wasm_instr.declared.opcodes.TheConstants.{GLOBAL_GET}
use Rattle.object_rules.specs.wasm_instr.declared.instr.Instr.{Instr}
use Rattle.object_rules.specs.wasm_instr.declared.instr.Instr.TheVariants as instrs
use Rattle.object_rules.specs.wasm_instr.declared.body.Body.{Body}
use Rattle.object_rules.specs.wasm_instr.declared.body.Placed.{Placed}
use Rattle.object_rules.specs.wasm_instr.Instrs.{SpellsHead}
use Rattle.object_rules.specs.wasm_instr.Bodies.{Nest, IsCode, SpellsBody, placed}
use Rattle.object_rules.specs.wasm_instr.BodyLaws.{body_again}
use Rattle.object_rules.specs.wasm_grammar.ReaderLaws.{ok_is}
use Rattle.object_rules.specs.wasm_sections.declared.section.SectionSpan.{SectionSpan}
use Rattle.object_rules.specs.wasm_types.declared.import.Import.{Import}
use Rattle.object_rules.specs.reloc_section.declared.entry.Reloc.{Reloc}
use Rattle.object_rules.specs.linking_section.declared.symbol.Symbol.{Symbol as Sym}
use Rattle.object_rules.specs.linking_section.declared.linking.Linking.{Linking}
use Rattle.object_rules.specs.body_windows.declared.operand.Operand.{Operand}
use Rattle.object_rules.specs.body_windows.declared.operand.Operand.TheVariants.{Number, Symbol, TypeRef, TableZero}
use Rattle.object_rules.specs.body_windows.declared.fault.Mismatch.{Mismatch}
use Rattle.object_rules.specs.body_windows.declared.immediate.Immediate.{Immediate}
use Rattle.object_rules.specs.body_windows.declared.immediate.ImmediateKind.{ImmediateKind}
use Rattle.object_rules.specs.body_windows.declared.immediate.ImmediateKind.TheVariants as kinds
use Rattle.object_rules.specs.body_windows.Immediates.{between, immediates_in, immediates, AreInOrder, may_stand, plain_operand, fills}
use Rattle.object_rules.specs.body_windows.Windows.{reloc_at, operand_by, operand_at, windows_of}
use Rattle.object_rules.proofs.body_windows_lemmas.Order.{body_order}
use Rattle.object_rules.proofs.body_windows_lemmas.Within.{operands_are}
use Rattle.object_rules.specs.object_parts.declared.parts.CodeBody.{CodeBody}
use Rattle.object_rules.specs.object_parts.declared.parts.Parts.{Parts}
use Rattle.object_rules.specs.object_parts.Sections.{bytes_in}
use Rattle.object_rules.specs.object_parts.Reading.{code_relocs}
use Rattle.object_rules.specs.Spaces.{counts_of}
use Rattle.object_rules.specs.Windows.{start_of, relocs_for, is_placed, is_global_symbol, byte_before, is_set_or_read, code_windows_stand, data_windows_stand}
use Rattle.object_file.specs.declared.object.Object.{Object}
use Rattle.object_file.specs.Objects.{operands_of, with_name, linking_of, object_with, object_from}
use Rattle.object_file.specs.ObjectOf.{IsObject}
use Rattle.object_file.specs.Addresses.{IsRead, ReadsAt, ReadsAddresses}
use Rattle.object_file.proofs.Agreed.{agreed_keeps}
use Rattle.object_file.proofs.Placing.{functions_all}
use Rattle.object_file.proofs.Standing.{all_right, Fills, all_fill, found_at}
use Rattle.object_file.proofs.Targets.{code_relocs_are}
use Rattle.object_file.proofs.Told.{BodyTold, parts_told}

-- ---- the items of a list

abbrev Among : {A : Type 0} → List A → A → Type 0
Among [] y = ⊥
Among (x ∷ xs) y = (x ≡ y) ⊎ Among xs y

among_left : {A : Type 0} (xs ys : List A) (x : A) → Among xs x → Among (xs ++ ys) x
among_left [] ys x h = absurd h
among_left (y ∷ xs) ys x (inl e) = inl e
among_left (y ∷ xs) ys x (inr h) = inr (among_left xs ys x h)

among_right : {A : Type 0} (xs ys : List A) (x : A) → Among ys x → Among (xs ++ ys) x
among_right [] ys x h = h
among_right (y ∷ xs) ys x h = inr (among_right xs ys x h)

all_among : {A : Type 0} (P : A → Type 0) (xs : List A) → ((x : A) → Among xs x → P x) → All P xs
all_among P [] each = All-nil P
all_among P (x ∷ xs) each = All-cons P x xs (each x (inl refl)) (all_among P xs (λ y h. each y (inr h)))

-- ---- the instruction

-- An instruction of a global stands at its opcode, and its index right behind.
record Opens (whole : List ℕ) (x : Placed) (op : ℕ) : Type 0 where
  behind : x.mid ≡ x.at + 1
  opcode : slice_index_or whole x.at 0 ≡ op

index_at : (front : List ℕ) (x : ℕ) (ys : List ℕ) → slice_index_or (front ++ x ∷ ys) (length front) 0 ≡ x
index_at [] x ys = refl
index_at (f ∷ fs) x ys = index_at fs x ys

opens_here : (whole front bytes head last rest : List ℕ) (end : ℕ) (x : Placed) (i : Instr) (op g : ℕ) → whole ≡ front ++ bytes → end ≡ length whole → bytes ≡ head ++ (last ++ rest)
    → i ≡ instrs.GlobalAt op g → SpellsHead i head → x ≡ placed end i bytes (last ++ rest) rest → Opens whole x op
opens_here whole front bytes head last rest end x i op g w e b k s p =
    let h : head ≡ op ∷ [] = subst (λ j. SpellsHead j head) k s in
    let c : bytes ≡ op ∷ (last ++ rest) = b ∙ ap (λ hs. hs ++ (last ++ rest)) h in
    let n : length whole ≡ length front + length bytes = ap length w ∙ length-append front bytes in
    let m : length bytes ≡ suc (length (last ++ rest)) = ap length c in
    let at : x.at ≡ end - length bytes = ap (λ (y : Placed). y.at) p in
    let mid : x.mid ≡ end - length (last ++ rest) = ap (λ (y : Placed). y.mid) p in
    let place : x.at ≡ length front = omega (arith, at, e, n) in
    record {
      behind = omega (arith, at, mid, e, n, m);
      opcode = ap (λ k. slice_index_or whole k 0) place ∙ ap (λ bs. slice_index_or bs (length front) 0) (w ∙ ap (λ bs. front ++ bs) c) ∙ index_at front op (last ++ rest);
    }

opens_code : (whole front bytes : List ℕ) (end : ℕ) (nest : Nest) (code : List Placed) → whole ≡ front ++ bytes → end ≡ length whole → IsCode end nest code bytes
    → (x : Placed) → Among code x → (op g : ℕ) → x.instr ≡ instrs.GlobalAt op g → Opens whole x op
opens_code whole front bytes end nest [] w e s x h op g k = absurd h
opens_code whole front bytes end [] (p ∷ code) w e s x h op g k = absurd (let q = s.0 in grind arith)
opens_code whole front bytes end (b ∷ others) (p ∷ code) w e s x (inl q) op g k =
    subst (λ y. Opens whole y op) q (opens_here whole front bytes s.0 s.1 s.2 end p p.instr op g w e s.4 (ap (λ (y : Placed). y.instr) q ∙ k) s.6 s.8)
opens_code whole front bytes end (b ∷ others) (p ∷ code) w e s x (inr h) op g k =
    let v : whole ≡ (front ++ (s.0 ++ s.1)) ++ s.2 =
    w ∙ ap (λ bs. front ++ bs) (s.4 ∙ sym (append_assoc s.0 s.1 s.2)) ∙ sym (append_assoc front (s.0 ++ s.1) s.2) in
    opens_code whole (front ++ (s.0 ++ s.1)) s.2 end s.3 code v e s.10 x h op g k

opens : (body : Body) (bytes : List ℕ) → SpellsBody body bytes → (x : Placed) → Among body.code x → (op g : ℕ) → x.instr ≡ instrs.GlobalAt op g → Opens bytes x op
opens body bytes s x h op g k = opens_code bytes s.0 s.1 (length bytes) (false ∷ []) body.code s.2 refl s.4 x h op g k

-- its immediate
index_among : (code : List Placed) (x : Placed) → Among code x → (op g : ℕ) → x.instr ≡ instrs.GlobalAt op g → Among (immediates code) (between kinds.GlobalIndex x.mid x.end)
index_among [] x h op g k = absurd h
index_among (p ∷ code) x (inl e) op g k =
    let is : p.instr ≡ instrs.GlobalAt op g = ap (λ (y : Placed). y.instr) e ∙ k in
    let here : Among (immediates_in p.instr p.at p.mid p.end) (between kinds.GlobalIndex p.mid p.end) = subst (λ i. Among (immediates_in i p.at p.mid p.end) (between kinds.GlobalIndex p.mid p.end)) (sym is) (inl refl) in
    among_left (immediates_in p.instr p.at p.mid p.end) (immediates code) (between kinds.GlobalIndex x.mid x.end)
    (subst (λ (y : Placed). Among (immediates_in p.instr p.at p.mid p.end) (between kinds.GlobalIndex y.mid y.end)) e here)
index_among (p ∷ code) x (inr h) op g k = among_right (immediates_in p.instr p.at p.mid p.end) (immediates code) (between kinds.GlobalIndex x.mid x.end) (index_among code x h op g k)

-- ---- one immediate at a place

stands_in : (from end : ℕ) (is : List Immediate) → AreInOrder from end is → (j : Immediate) → Among is j → (from ≤ j.place) × (j.place + 1 ≤ end)
stands_in from end [] order j h = absurd h
stands_in from end (i ∷ is) order j (inl e) =
    let last = ends (i.place + i.len) is order.2 in
    subst (λ (k : Immediate). (from ≤ k.place) × (k.place + 1 ≤ end)) e (order.0, omega (arith, order.1, last))
  where
    ends : (place : ℕ) (js : List Immediate) → AreInOrder place end js → place ≤ end
    ends place [] o = o
    ends place (k ∷ js) o = let more = ends (k.place + k.len) js o.2 in omega (arith, o.0, more)
stands_in from end (i ∷ is) order j (inr h) =
    let others = stands_in (i.place + i.len) end is order.2 j h in
    (omega (arith, order.0, others.0), others.1)

one_place : (from end : ℕ) (is : List Immediate) → AreInOrder from end is → (i j : Immediate) → Among is i → Among is j → i.place ≡ j.place → i ≡ j
one_place from end [] order i j h k e = absurd h
one_place from end (x ∷ xs) order i j (inl a) (inl b) e = sym a ∙ b
one_place from end (x ∷ xs) order i j (inl a) (inr b) e =
    let later = stands_in (x.place + x.len) end xs order.2 j b in
    absurd (omega (arith, later.0, order.1, e, ap (λ (y : Immediate). y.place) a))
one_place from end (x ∷ xs) order i j (inr a) (inl b) e =
    let later = stands_in (x.place + x.len) end xs order.2 i a in
    absurd (omega (arith, later.0, order.1, e, ap (λ (y : Immediate). y.place) b))
one_place from end (x ∷ xs) order i j (inr a) (inr b) e = one_place (x.place + x.len) end xs order.2 i j a b e

-- the immediate that a relocation fills
filled : (base : ℕ) (r : Reloc) (is : List Immediate) → list_any (fills base r) is ≡ true → (i : Immediate) × Among is i × (fills base r i ≡ true)
filled base r [] e = absurd cc
filled base r (i ∷ is) e = by (or_cases (fills base r i) (list_any (fills base r) is) e) (filled base r is)
  where
    by : (fills base r i ≡ true) ⊎ (list_any (fills base r) is ≡ true) → (list_any (fills base r) is ≡ true → (j : Immediate) × Among is j × (fills base r j ≡ true))
        → (j : Immediate) × Among (i ∷ is) j × (fills base r j ≡ true)
    by (inl here) others = (i, inl refl, here)
    by (inr there) others = let o = others there in (o.0, inr o.1, o.2)

-- ---- bytes of a span

taken : (n k : ℕ) (xs : List ℕ) → k < n → slice_index_or (take n xs) k 0 ≡ slice_index_or xs k 0
taken zero k xs l = absurd (omega (arith, l))
taken (suc n) k [] l = refl
taken (suc n) zero (x ∷ xs) l = refl
taken (suc n) (suc k) (x ∷ xs) l = let m : k < n = omega (arith, l) in taken n k xs m

dropped : (n k : ℕ) (xs : List ℕ) → slice_index_or (drop n xs) k 0 ≡ slice_index_or xs (n + k) 0
dropped zero k xs = let e : k ≡ 0 + k = omega arith in ap (λ j. slice_index_or xs j 0) e
dropped (suc n) k [] = none k (suc n + k)
  where
    none : (a b : ℕ) → ◌≡◌ {A = ℕ} (slice_index_or [] a 0) (slice_index_or [] b 0)
    none zero zero = refl
    none zero (suc b) = refl
    none (suc a) zero = refl
    none (suc a) (suc b) = refl
dropped (suc n) k (x ∷ xs) = let e : suc (n + k) ≡ suc n + k = omega arith in dropped n k xs ∙ ap (λ j. slice_index_or (x ∷ xs) j 0) e

in_span : (span : Span) (k : ℕ) (bytes : List ℕ) → k < span.len → slice_index_or (bytes_in bytes span) k 0 ≡ slice_index_or bytes (span.start + k) 0
in_span span k bytes l = taken span.len k (drop span.start bytes) l ∙ dropped span.start k bytes

-- ---- the rule

-- a symbol keeps its kind
kind_kept : (imports : List Import) (symbols : List Sym) (k : ℕ) → is_global_symbol (slice_get (map (with_name imports) symbols) k) ≡ is_global_symbol (slice_get symbols k)
kind_kept imports [] k = refl
kind_kept imports (s ∷ ss) zero = refl
kind_kept imports (s ∷ ss) (suc k) = kind_kept imports ss k

read_alone : (a b c : Bool) → (not a || b || c) ≡ true → a ≡ true → b ≡ false → c ≡ true
read_alone true false c e f g = e
read_alone true true c e f g = absurd cc
read_alone false b c e f g = absurd cc

module _ (bytes : List ℕ) (begin : ℕ) (symbols : List Sym) (o : Object) (kept : (k : ℕ) → is_global_symbol (slice_get o.symbols k) ≡ is_global_symbol (slice_get symbols k))
    (relocs : List Reloc) (rule : All (λ r. is_set_or_read bytes begin symbols r ≡ true) relocs) (b : CodeBody) (t : BodyTold begin bytes relocs b) where
  abbrev is : List Immediate
  is = immediates t.body.code

  abbrev Known : Reloc → Type 0
  Known r = (is_set_or_read bytes begin symbols r ≡ true) × Fills t.base is r

  -- an operand that is for a global's index
  operand_read : (x : Placed) → Among t.body.code x → (op g : ℕ) → x.instr ≡ instrs.GlobalAt op g → All Known t.some → (i : Immediate) → Among is i → IsRead o x.mid op (operand_at t.base t.some i)
  operand_read x there op g k known i here = by (reloc_at (t.base + i.place) t.some) refl
    where
      order : AreInOrder 0 (length t.text) is
      order = (body_order t.body t.text t.spelled).0

      no_reference : (kind : ImmediateKind) → IsRead o x.mid op (plain_operand kind)
      no_reference kinds.FunctionIndex = tt
      no_reference kinds.TypeIndex = tt
      no_reference (kinds.TableIndex table) = zero_or (eqb table 0)
        where
          zero_or : (q : Bool) → IsRead o x.mid op (cond q TableZero Number)
          zero_or true = tt
          zero_or false = tt
      no_reference kinds.GlobalIndex = tt
      no_reference kinds.MemoryOffset = tt
      no_reference kinds.Constant = tt

      is_get : (r : Reloc) → r.offset ≡ t.base + i.place → Known r → i.place ≡ x.mid → is_global_symbol (slice_get o.symbols r.index) ≡ false → op ≡ GLOBAL_GET
      is_get r offset holds place names =
          let opened = opens t.body t.text t.spelled x there op g k in
          let index = index_among t.body.code x there op g k in
          let full = filled t.base r is holds.1 in
          let parts = and_parts (((t.base + full.0.place) == r.offset) && (full.0.len == 5)) (may_stand r.kind full.0.kind) full.2 in
          let at : t.base + full.0.place ≡ r.offset = eqb-true (t.base + full.0.place) r.offset (and_parts ((t.base + full.0.place) == r.offset) (full.0.len == 5) parts.0).0 in
          let one : full.0 ≡ between kinds.GlobalIndex x.mid x.end = one_place 0 (length t.text) is order full.0 (between kinds.GlobalIndex x.mid x.end) full.1 index (omega (arith, at, offset, place)) in
          let seven : may_stand r.kind kinds.GlobalIndex ≡ true = subst (λ (j : Immediate). may_stand r.kind j.kind ≡ true) one parts.1 in
          let get : eqb (byte_before bytes (begin + r.offset)) GLOBAL_GET ≡ true = read_alone _ _ _ holds.0 seven (sym (kept r.index) ∙ names) in
          let within : x.mid + 1 ≤ length t.text = (stands_in 0 (length t.text) is order (between kinds.GlobalIndex x.mid x.end) index).1 in
          let where_it_is : begin + r.offset - 1 ≡ b.span.start + x.at = omega (arith, offset, place, opened.behind, t.from) in
          let byte : byte_before bytes (begin + r.offset) ≡ op =
          ap (λ n. slice_index_or bytes n 0) where_it_is ∙ sym (in_span b.span x.at bytes (omega (arith, within, opened.behind, t.long))) ∙ ap (λ (text : List ℕ). slice_index_or text x.at 0) (sym t.stands) ∙ opened.opcode in
          sym byte ∙ eqb-true (byte_before bytes (begin + r.offset)) GLOBAL_GET get

      some_read : (r : Reloc) → r.offset ≡ t.base + i.place → Known r → (q : Bool) → IsRead o x.mid op (cond q (TypeRef i.place r.index) (Symbol r.kind i.place r.index r.addend))
      some_read r offset holds true = tt
      some_read r offset holds false = is_get r offset holds

      by : (found : Option Reloc) → reloc_at (t.base + i.place) t.some ≡ found → IsRead o x.mid op (operand_by i found)
      by None e = no_reference i.kind
      by (Some r) e =
          let f = found_at (t.base + i.place) t.some r Known known e in
          some_read r f.0 f.1 (r.kind == 6)

  body_reads : All (λ x. ReadsAt o (operands_of b.windows) x x.instr) t.body.code
  body_reads = by b.windows refl
    where
      at : (os : List Operand) → os ≡ map (operand_at t.base t.some) is → All Known t.some → (x : Placed) → Among t.body.code x → (instr : Instr) → x.instr ≡ instr → ReadsAt o os x instr
      at os e known x there (instrs.GlobalAt op g) k =
          subst (All (IsRead o x.mid op)) (sym e) (All-map (IsRead o x.mid op) (operand_at t.base t.some) is (all_among (λ i. IsRead o x.mid op (operand_at t.base t.some i)) is (operand_read x there op g k known)))
      at os e known x there (instrs.Plain op) k = tt
      at os e known x there (instrs.Block op kind) k = tt
      at os e known x there (instrs.Branch op label) k = tt
      at os e known x there (instrs.BranchTable labels last) k = tt
      at os e known x there (instrs.Call function) k = tt
      at os e known x there (instrs.CallIndirect kind table) k = tt
      at os e known x there (instrs.SelectTyped kinds) k = tt
      at os e known x there (instrs.Local op local) k = tt
      at os e known x there (instrs.Access op align offset) k = tt
      at os e known x there instrs.MemorySize k = tt
      at os e known x there instrs.MemoryGrow k = tt
      at os e known x there (instrs.I32Const n) k = tt
      at os e known x there (instrs.I64Const n) k = tt
      at os e known x there (instrs.F32Const n) k = tt
      at os e known x there (instrs.F64Const n) k = tt
      at os e known x there (instrs.Truncate n) k = tt
      at os e known x there instrs.MemoryCopy k = tt
      at os e known x there instrs.MemoryFill k = tt

      none : (x : Placed) (instr : Instr) → ReadsAt o [] x instr
      none x (instrs.GlobalAt op g) = All-nil (IsRead o x.mid op)
      none x (instrs.Plain op) = tt
      none x (instrs.Block op kind) = tt
      none x (instrs.Branch op label) = tt
      none x (instrs.BranchTable labels last) = tt
      none x (instrs.Call function) = tt
      none x (instrs.CallIndirect kind table) = tt
      none x (instrs.SelectTyped kinds) = tt
      none x (instrs.Local op local) = tt
      none x (instrs.Access op align offset) = tt
      none x instrs.MemorySize = tt
      none x instrs.MemoryGrow = tt
      none x (instrs.I32Const n) = tt
      none x (instrs.I64Const n) = tt
      none x (instrs.F32Const n) = tt
      none x (instrs.F64Const n) = tt
      none x (instrs.Truncate n) = tt
      none x instrs.MemoryCopy = tt
      none x instrs.MemoryFill = tt

      by : (windows : Result (List Operand) Mismatch) → b.windows ≡ windows → All (λ x. ReadsAt o (operands_of windows) x x.instr) t.body.code
      by (Ok os) e =
          let read : windows_of t.base t.some t.body ≡ Ok os = sym t.windows ∙ e in
          let fill = all_fill t.base is t.some (all_right t.base t.some is os read).0 in
          let known : All Known t.some = λ k d lt. (All-contains (λ r. is_set_or_read bytes begin symbols r ≡ true) relocs _ rule (t.of k d lt), fill k d lt) in
          all_among (λ x. ReadsAt o os x x.instr) t.body.code (λ x there. at os (operands_are t.base t.some is os read) known x there x.instr refl)
      by (Err m) e = all_among (λ x. ReadsAt o [] x x.instr) t.body.code (λ x there. none x x.instr)

pub addresses_read : (input : ℕ) (bytes : List ℕ) (o : Object) → IsObject input bytes o → All (ReadsAddresses bytes o) o.functions
unfolding object_from
addresses_read input bytes o is =
    let all : List SectionSpan = is.sections in
    let parts : Parts = is.parts in
    let agreed = agreed_keeps all bytes parts is.agrees in
    let l : Linking = agreed.0 in
    let relocs : List Reloc = code_relocs all bytes all in
    let told = parts_told relocs all bytes parts is.framed is.spelled in
    let code = and_parts (code_windows_stand all bytes parts l.symbols) (data_windows_stand (start_of 11 all) (relocs_for 11 all parts.relocs) parts.segments) agreed.2.windows in
    let rules = and_parts (list_all (λ b. is_placed b.windows) parts.bodies && (not (eqb (length parts.bodies) 0) || eqb (length (relocs_for 10 all parts.relocs)) 0))
    (list_all (is_set_or_read bytes (start_of 10 all) l.symbols) (relocs_for 10 all parts.relocs)) code.0 in
    let listed = AllPass-from_list_all (is_set_or_read bytes (start_of 10 all) l.symbols) (relocs_for 10 all parts.relocs) rules.1 in
    let rule : All (λ r. is_set_or_read bytes (start_of 10 all) l.symbols r ≡ true) relocs = subst (All (λ r. is_set_or_read bytes (start_of 10 all) l.symbols r ≡ true)) (code_relocs_are all bytes parts is.spelled) listed in
    let made_object : Object = object_with input all parts l in
    let same : made_object ≡ o = ap (λ (x : Option Linking). object_with input all parts (linking_of x)) (sym agreed.1) ∙ sym is.is in
    subst (λ (x : Object). All (ReadsAddresses bytes x) x.functions) same
    (functions_all (λ t. Unit {0}) (BodyTold (start_of 10 all) bytes relocs) (ReadsAddresses bytes made_object) parts.exports
    (λ index type_index b any t body s.
    let one : t.body ≡ body = ok_is (sym (body_again t.text t.body t.spelled) ∙ body_again t.text body (subst (SpellsBody body) (sym t.stands) s)) in
    subst (λ (y : Body). All (λ x. ReadsAt made_object (operands_of b.windows) x x.instr) y.code) one
    (body_reads bytes (start_of 10 all) l.symbols made_object (kind_kept parts.imports l.symbols) relocs rule b t))
    (counts_of all parts).imported_functions parts.functions parts.bodies (λ k d lt. tt) told.bodies)
