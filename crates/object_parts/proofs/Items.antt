-- Imports, globals, segments and bodies: what is read of each is spelled so, and the other way round.
use Rattle.std.proofs.Common.{◌≡◌, ℕ, false, List, ◌++◌, length, Result, Ok, refl, sym, ap, subst, ◌∙◌, append_assoc}
use Rattle.wasm_instr.specs.wl_base.declared.span.Span.{Span}
use Rattle.wasm_instr.specs.wasm_grammar.declared.fault.Stop.{Stop}
use Rattle.wasm_instr.specs.wasm_grammar.Reading.{◌>>=◌, part_at}
use Rattle.wasm_instr.specs.wasm_grammar.ReaderLaws.{bind_ok, ok_is, regrouped, part_found, part_again}
use Rattle.wasm_instr.specs.wasm_types.Types.{global_type_at, const_expr_at}
use Rattle.wasm_instr.specs.wasm_types.TypeLaws.{global_type_reader, const_expr_reader}
use Rattle.wasm_instr.specs.Bodies.{body_at}
use Rattle.wasm_instr.specs.BodyLaws.{body_found, body_again}
use Rattle.wasm_module.specs.PartReading.{data_segment_at}
use Rattle.wasm_module.specs.PartLaws.{data_segment_reader}
use Rattle.body_windows.specs.reloc_section.declared.entry.Reloc.{Reloc}
use Rattle.body_windows.specs.Windows.{windows_of}
use Rattle.object_parts.specs.declared.parts.GlobalDef.{GlobalDef}
use Rattle.object_parts.specs.declared.parts.DataPart.{DataPart}
use Rattle.object_parts.specs.declared.parts.CodeBody.{CodeBody}
use Rattle.object_parts.specs.Turns.{IsPlacedReader}
use Rattle.object_parts.specs.Placed.{span_between, span_before, SpellsGlobalDef, global_def_at, SpellsDataPart, data_part_at}
use Rattle.object_parts.specs.Code.{before, end_in, base_in, SpellsCodeBody, body_in, code_body_at}

-- ---- globals

global_found : (state : Unit {0}) (end : ℕ) (bytes : List ℕ) (g : GlobalDef) (rest : List ℕ) → global_def_at state end bytes ≡ Ok (g, rest) → (text : List ℕ) × SpellsGlobalDef state end g text rest × (bytes ≡ text ++ rest)
unfolding global_def_at
global_found state end bytes g rest e =
    let a = bind_ok (global_type_at end bytes) (λ kind. const_expr_at end kind.1 >>= λ value. Ok (record { kind = kind.0; value = value.0; span = span_between end kind.1 value.1 }, value.1)) (g, rest) e in
    let b = bind_ok (const_expr_at end a.0.1) (λ value. Ok (record { kind = a.0.0; value = value.0; span = span_between end a.0.1 value.1 }, value.1)) (g, rest) a.2 in
    let kind = global_type_reader.found end bytes a.0.0 a.0.1 a.1 in
    let value = const_expr_reader.found end a.0.1 b.0.0 b.0.1 b.1 in
    let whole : bytes ≡ (kind.text ++ value.text) ++ b.0.1 = kind.parts ∙ ap (λ (t : List ℕ). kind.text ++ t) value.parts ∙ sym (append_assoc kind.text value.text b.0.1) in
    subst (λ (p : GlobalDef × List ℕ). (text : List ℕ) × SpellsGlobalDef state end p.0 text p.1 × (bytes ≡ text ++ p.1)) (ok_is b.2)
    (kind.text ++ value.text, (kind.text, value.text, kind.spells, value.spells, refl, ap (λ (t : List ℕ). span_between end t b.0.1) value.parts), whole)

global_again : (state : Unit {0}) (end : ℕ) (g : GlobalDef) (text rest : List ℕ) → SpellsGlobalDef state end g text rest → global_def_at state end (text ++ rest) ≡ Ok (g, rest)
unfolding global_def_at
global_again state end g text rest s =
    rw (regrouped s.0 s.1 text rest s.4, global_type_reader.again end g.kind s.0 (s.1 ++ rest) s.2, const_expr_reader.again end g.value s.1 rest s.3)
    (ap (λ (span : Span). let x : GlobalDef = record { kind = g.kind; value = g.value; span = span } in let r : Result (GlobalDef × List ℕ) Stop = Ok (x, rest) in r) (sym s.5))

pub global_def_reader : IsPlacedReader SpellsGlobalDef global_def_at
global_def_reader = record { found = global_found; again = global_again }

-- ---- data segments

data_found : (state : Unit {0}) (end : ℕ) (bytes : List ℕ) (d : DataPart) (rest : List ℕ) → data_part_at state end bytes ≡ Ok (d, rest) → (text : List ℕ) × SpellsDataPart state end d text rest × (bytes ≡ text ++ rest)
unfolding data_part_at
data_found state end bytes d rest e =
    let a = bind_ok (data_segment_at false end bytes) (λ s. Ok (record { memory = s.0.memory; span = span_before end (length s.0.bytes) s.1 }, s.1)) (d, rest) e in
    let t = (data_segment_reader false).found end bytes a.0.0 a.0.1 a.1 in
    subst (λ (p : DataPart × List ℕ). (text : List ℕ) × SpellsDataPart state end p.0 text p.1 × (bytes ≡ text ++ p.1)) (ok_is a.2)
    (t.text, (a.0.0, t.spells, refl, refl), t.parts)

data_again : (state : Unit {0}) (end : ℕ) (d : DataPart) (text rest : List ℕ) → SpellsDataPart state end d text rest → data_part_at state end (text ++ rest) ≡ Ok (d, rest)
unfolding data_part_at
data_again state end d text rest s =
    let same : ◌≡◌ {A = DataPart} (record { memory = s.0.memory; span = span_before end (length s.0.bytes) rest }) d = rw (s.2, s.3) refl in
    rw ((data_segment_reader false).again end s.0 text rest s.1) (ap (λ (x : DataPart). let r : Result (DataPart × List ℕ) Stop = Ok (x, rest) in r) same)

pub data_part_reader : IsPlacedReader SpellsDataPart data_part_at
data_part_reader = record { found = data_found; again = data_again }

-- ---- bodies

code_found : (start : ℕ) (relocs : List Reloc) (end : ℕ) (bytes : List ℕ) (b : CodeBody) (rest : List ℕ) → code_body_at start relocs end bytes ≡ Ok (b, rest) → (text : List ℕ) × SpellsCodeBody start relocs end b text rest × (bytes ≡ text ++ rest)
unfolding code_body_at body_in
code_found start relocs end bytes b rest e =
    let make : ℕ → List ℕ → CodeBody → Result (CodeBody × List ℕ) Stop = λ k r c. Ok (c, r) in
    let a = bind_ok (part_at end bytes) (λ part. body_in start relocs (span_before end (length part.0) part.1) part.0 >>= λ c. Ok (c, part.1)) (b, rest) e in
    let c = bind_ok (body_in start relocs (span_before end (length a.0.0) a.0.1) a.0.0) (λ c. Ok (c, a.0.1)) (b, rest) a.2 in
    let span : Span = span_before end (length a.0.0) a.0.1 in
    let d = bind_ok (body_at a.0.0) (λ body. Ok (record { span = span; windows = windows_of (base_in start span) (before (end_in start span) relocs) body })) c.0 c.1 in
    let front = part_found end bytes a.0.0 a.0.1 a.1 in
    let s = front.spells in
    let text_is : front.text ≡ s.0 ++ a.0.0 = s.4 ∙ ap (λ (t : List ℕ). s.0 ++ t) s.3 in
    let made : ◌≡◌ {A = CodeBody} (record { span = span; windows = windows_of (base_in start span) (before (end_in start span) relocs) d.0 }) c.0 = ok_is d.2 in
    let here : SpellsCodeBody start relocs end c.0 front.text a.0.1 =
    subst (λ (x : CodeBody). SpellsCodeBody start relocs end x front.text a.0.1) made (d.0, s.0, a.0.0, s.2, body_found a.0.0 d.0 d.1, text_is, refl, refl) in
    subst (λ (p : CodeBody × List ℕ). (text : List ℕ) × SpellsCodeBody start relocs end p.0 text p.1 × (bytes ≡ text ++ p.1)) (ok_is c.2)
    (front.text, here, front.parts)

code_again : (start : ℕ) (relocs : List Reloc) (end : ℕ) (b : CodeBody) (text rest : List ℕ) → SpellsCodeBody start relocs end b text rest → code_body_at start relocs end (text ++ rest) ≡ Ok (b, rest)
unfolding code_body_at body_in
code_again start relocs end b text rest s =
    let span : Span = span_before end (length s.2) rest in
    let part : part_at end (text ++ rest) ≡ Ok (s.2, rest) = ap (part_at end) (regrouped s.1 s.2 text rest s.5) ∙ part_again end s.1 s.2 rest s.3 in
    let same : ◌≡◌ {A = CodeBody} (record { span = span; windows = windows_of (base_in start span) (before (end_in start span) relocs) s.0 }) b
    = ap (λ (k : Span). let x : CodeBody = record { span = k; windows = windows_of (base_in start k) (before (end_in start k) relocs) s.0 } in x) (sym s.6)
    ∙ ap (λ w. let x : CodeBody = record { span = b.span; windows = w } in x) (sym s.7) in
    rw (part, body_again s.2 s.0 s.4) (ap (λ (x : CodeBody). let r : Result (CodeBody × List ℕ) Stop = Ok (x, rest) in r) same)

pub code_body_reader : (start : ℕ) → IsPlacedReader (SpellsCodeBody start) (code_body_at start)
code_body_reader start = record { found = code_found start; again = code_again start }
