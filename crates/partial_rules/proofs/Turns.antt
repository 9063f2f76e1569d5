-- What stands in the sections of an object one behind another is told by where it stands: data segments, globals and bodies.
use Rattle.std.proofs.Common.{◌≡◌, ℕ, suc, ◌≤◌, List, [], ◌∷◌, ◌++◌, length, refl, sym, ap, subst, arith, append_assoc, Bool, true, false}
use Rattle.std.specs.Prelude.{flat_map, All, pos, None}
use Rattle.std.proofs.lemmas.List.{length-append, append-nil}
use Rattle.std.proofs.lemmas.List.Concat.{flat_map-cons}
use Rattle.std.proofs.lemmas.List.Elements.{All-head, All-tail}
use Rattle.object_file.specs.leb_codec.Shortest.{u32, s32}
use Rattle.wasm_instr.proofs.leb_codec_lemmas.Computed.{u32_spells, s32_spelled}
use Rattle.wasm_instr.specs.wasm_grammar.Grammar.{SpellsU32}
use Rattle.wasm_instr.specs.wasm_types.Types.{SpellsConstExpr, SpellsGlobalType, val_byte}
use Rattle.wasm_instr.specs.wasm_types.declared.table.GlobalType.{GlobalType}
use Rattle.object_parts.specs.Turns.{Spelling, AreInTurn, AreEntries}
use Rattle.object_parts.specs.Placed.{stays, SpellsGlobalDef, SpellsDataPart}
use Rattle.image_emit.specs.Bytes.{sized, vector, const_expr, global_type}
use Rattle.wasm_instr.specs.wasm_types.declared.const_expr.ConstExpr.TheVariants as constants
use Rattle.partial_rules.specs.Relocatable.{SpelledGlobal, Windowed, segment_head, segment, spelled_global}
use Rattle.partial_rules.specs.WellFormed.{IsU32, IsSpelledGlobal}
use Rattle.partial_rules.specs.ReadAs.{told_from, data_part, global_def}
use Rattle.partial_rules.proofs.Spelling.{Fits, left_fits, right_fits, few}

-- ---- one behind another

pub in_turn : {A B : Type 0} (Item : Spelling (Unit {0}) A) (tell : List ℕ → B → A) (item : B → List ℕ) (Sound : B → Type 0) (end : ℕ)
    → ((y : B) (rest : List ℕ) → Sound y → Fits (item y) → Item tt end (tell rest y) (item y) rest)
    → (ys : List B) → All Sound ys → Fits (flat_map item ys) → AreInTurn Item stays tt end (told_from tell item ys) (flat_map item ys) []
in_turn Item tell item Sound end one [] all fits = refl
in_turn Item tell item Sound end one (y ∷ ys) all fits =
    let both : Fits (item y ++ flat_map item ys) = subst Fits (flat_map-cons item y ys) fits in
    let rest : flat_map item ys ≡ flat_map item ys ++ [] = sym (append-nil (flat_map item ys)) in (
      item y,
      flat_map item ys,
      subst (λ bytes. Item tt end (tell (flat_map item ys) y) (item y) bytes) rest (one y (flat_map item ys) (All-head Sound y ys all) (left_fits (item y) (flat_map item ys) both)),
      in_turn Item tell item Sound end one ys (All-tail Sound y ys all) (right_fits (item y) (flat_map item ys) both),
      flat_map-cons item y ys,
    )

long_told : {A B : Type 0} (tell : List ℕ → B → A) (item : B → List ℕ) (ys : List B) → length (told_from tell item ys) ≡ length ys
long_told tell item [] = refl
long_told tell item (y ∷ ys) = ap suc (long_told tell item ys)

pub entries_of : {A B : Type 0} (Item : Spelling (Unit {0}) A) (tell : List ℕ → B → A) (item : B → List ℕ) (Sound : B → Type 0) (end : ℕ) → ((y : B) → 1 ≤ length (item y))
    → ((y : B) (rest : List ℕ) → Sound y → Fits (item y) → Item tt end (tell rest y) (item y) rest)
    → (ys : List B) → All Sound ys → Fits (vector item ys) → AreEntries Item stays tt end (told_from tell item ys) (vector item ys)
entries_of Item tell item Sound end some one ys all fits =
    let inner : Fits (flat_map item ys) = right_fits (u32 (length ys)) (flat_map item ys) fits in
    let count : IsU32 (length ys) = omega (arith, few item some ys, inner) in (
      u32 (length ys),
      flat_map item ys,
      subst (λ (n : ℕ). SpellsU32 n (u32 (length ys))) (sym (long_told tell item ys)) (u32_spells (length ys) count),
      in_turn Item tell item Sound end one ys all inner,
      refl,
    )

-- ---- data segments

zero_spelled : SpellsConstExpr (constants.I32 (pos 0)) (const_expr (constants.I32 (pos 0)))
zero_spelled = (0x41 ∷ [], s32 (pos 0) ++ 0x0B ∷ [], refl, (s32 (pos 0), 0x0B ∷ [], s32_spelled (pos 0) (omega arith) (omega arith), refl, refl), refl)

zero_of : SpellsU32 0 (0 ∷ [])
unfolding u32
zero_of = u32_spells 0 (omega arith)

segment_of : (end : ℕ) (w : Windowed) (rest : List ℕ) → Unit {0} → Fits (segment w) → SpellsDataPart tt end (data_part end rest w) (segment w) rest
segment_of end w rest sound fits =
    let offset : List ℕ = const_expr (constants.I32 (pos 0)) in
    let size : Fits w.bytes = right_fits (segment_head w.bytes) w.bytes fits in (
      record { memory = None; offset = constants.I32 (pos 0); bytes = w.bytes },
      (
        0 ∷ [],
        offset ++ sized w.bytes,
        zero_of,
        (offset, sized w.bytes, zero_spelled, (u32 (length w.bytes), w.bytes, u32_spells (length w.bytes) size, refl, refl), refl),
        ap (λ bytes. 0 ∷ bytes) (append_assoc offset (u32 (length w.bytes)) w.bytes),
      ),
      refl,
      refl,
    )

some_segment : (w : Windowed) → 1 ≤ length (segment w)
some_segment w = omega (arith, length-append (segment_head w.bytes) w.bytes)

always : {A : Type 0} (xs : List A) → All (λ (x : A). Unit {0}) xs
always xs = λ k d lt. tt

pub segments_of : (end : ℕ) (ws : List Windowed) → Fits (vector segment ws) → AreEntries SpellsDataPart stays tt end (told_from (data_part end) segment ws) (vector segment ws)
segments_of end ws fits = entries_of SpellsDataPart (data_part end) segment (λ w. Unit {0}) end some_segment (segment_of end) ws (always ws) fits

-- ---- globals

pub type_of : (g : GlobalType) → SpellsGlobalType g (global_type g)
type_of g = by_var g.var
  where
    by_var : (var : Bool) → SpellsGlobalType (record { kind = g.kind; var = var }) (global_type (record { kind = g.kind; var = var }))
    by_var true = (val_byte g.kind ∷ [], 1 ∷ [], refl, refl, refl)
    by_var false = (val_byte g.kind ∷ [], 0 ∷ [], refl, refl, refl)

global_of : (end : ℕ) (g : SpelledGlobal) (rest : List ℕ) → IsSpelledGlobal g → Fits (spelled_global g) → SpellsGlobalDef tt end (global_def end rest g) (spelled_global g) rest
global_of end g rest sound fits = (global_type g.kind, g.bytes, type_of g.kind, sound, refl, refl)

some_global : (g : SpelledGlobal) → 1 ≤ length (spelled_global g)
some_global g = omega (arith, length-append (global_type g.kind) g.bytes)

pub globals_of : (end : ℕ) (gs : List SpelledGlobal) → All IsSpelledGlobal gs → Fits (vector spelled_global gs) → AreEntries SpellsGlobalDef stays tt end (told_from (global_def end) spelled_global gs) (vector spelled_global gs)
globals_of end gs all fits = entries_of SpellsGlobalDef (global_def end) spelled_global IsSpelledGlobal end some_global (global_of end) gs all fits
