-- Bodies one behind another, each with its relocations.
use Rattle.std.proofs.Common.{◌≡◌, ℕ, suc, ◌+◌, ◌-◌, ◌<◌, ◌≤◌, List, [], ◌∷◌, ◌++◌, length, map, refl, sym, ap, subst, ◌∙◌, arith, Bool, true}
use Rattle.std.specs.Prelude.{flat_map, All, Ok}
use Rattle.std.specs.List.{prefix_len}
use Rattle.std.proofs.lemmas.Bool.{lt-ltb, le-ltb}
use Rattle.std.proofs.lemmas.List.{length-append, append-nil}
use Rattle.std.proofs.lemmas.List.Concat.{flat_map-cons}
use Rattle.std.proofs.lemmas.List.Elements.{All-head, All-tail, All-cons}
use Rattle.std.proofs.Math.Seq.{drop-append_seam, take-append_seam}
use Rattle.object_file.specs.leb_codec.Shortest.{u32}
use Rattle.wasm_instr.proofs.leb_codec_lemmas.Computed.{u32_spells}
use Rattle.wasm_instr.specs.wasm_grammar.Grammar.{SpellsU32}
use Rattle.reloc_section.specs.declared.entry.Reloc.{Reloc}
use Rattle.body_windows.specs.Windows.{windows_of}
use Rattle.object_parts.specs.Turns.{AreInTurn, AreEntries}
use Rattle.object_parts.specs.Placed.{span_before}
use Rattle.object_parts.specs.Code.{begins_before, before, behind, left_behind, SpellsCodeBody}
use Rattle.image_emit.specs.Bytes.{sized, vector}
use Rattle.partial_rules.specs.Relocatable.{Windowed, body_head, body, later, relocs_from}
use Rattle.partial_rules.specs.WellFormed.{IsU32, Coded, IsCoded}
use Rattle.partial_rules.specs.ReadAs.{coded_bytes, bodies_told}
use Rattle.partial_rules.proofs.Spelling.{Fits, left_fits, right_fits, few, some_sized}
use Rattle.partial_rules.proofs.Shifted.{shifted}

-- ---- each body has the relocations that begin before its end

own_first : (p : Reloc → Bool) (xs ys : List Reloc) → All (λ x. p x ≡ true) xs → prefix_len p ys ≡ 0 → prefix_len p (xs ++ ys) ≡ length xs
own_first p [] ys all none = none
own_first p (x ∷ xs) ys all none = rw (All-head (λ x. p x ≡ true) x xs all) (omega (arith, own_first p xs ys (All-tail (λ x. p x ≡ true) x xs all) none))

moved_inside : (q len : ℕ) (rs : List Reloc) → All (λ (r : Reloc). r.offset < len) rs → All (λ (r : Reloc). begins_before (q + len) r ≡ true) (map {A = Reloc} {B = Reloc} (later q) rs)
moved_inside q len [] all = λ k d lt. absurd (omega (arith, lt))
moved_inside q len (r ∷ rs) all =
    All-cons (λ (r : Reloc). begins_before (q + len) r ≡ true) (later q r) (map {A = Reloc} {B = Reloc} (later q) rs)
    (lt-ltb (q + r.offset) (q + len) (omega (arith, All-head (λ (r : Reloc). r.offset < len) r rs all)))
    (moved_inside q len rs (All-tail (λ (r : Reloc). r.offset < len) r rs all))

-- those of later bodies begin behind it
later_behind : (at limit : ℕ) (ws : List Windowed) → limit ≤ at → prefix_len (begins_before limit) (relocs_from body_head at ws) ≡ 0
later_behind at limit [] le = refl
later_behind at limit (w ∷ ws) le = by_own w.relocs (later_behind (at + length (body_head w.bytes) + length w.bytes) limit ws (omega (arith, le)))
  where
    by_own : (rs : List Reloc) → prefix_len (begins_before limit) (relocs_from body_head (at + length (body_head w.bytes) + length w.bytes) ws) ≡ 0
        → prefix_len (begins_before limit) (map {A = Reloc} {B = Reloc} (later (at + length (body_head w.bytes))) rs ++ relocs_from body_head (at + length (body_head w.bytes) + length w.bytes) ws) ≡ 0
    by_own [] rest = rest
    by_own (r ∷ rs) rest = rw (le-ltb (at + length (body_head w.bytes) + r.offset) limit (omega (arith, le))) refl

split : (q len : ℕ) (rs others : List Reloc) → All (λ (r : Reloc). r.offset < len) rs → prefix_len (begins_before (q + len)) others ≡ 0
    → prefix_len (begins_before (q + len)) (map {A = Reloc} {B = Reloc} (later q) rs ++ others) ≡ length (map {A = Reloc} {B = Reloc} (later q) rs)
split q len rs others all none = own_first (begins_before (q + len)) (map {A = Reloc} {B = Reloc} (later q) rs) others (moved_inside q len rs all) none

own_before : (q len : ℕ) (rs others : List Reloc) → All (λ (r : Reloc). r.offset < len) rs → prefix_len (begins_before (q + len)) others ≡ 0
    → before (q + len) (map {A = Reloc} {B = Reloc} (later q) rs ++ others) ≡ map {A = Reloc} {B = Reloc} (later q) rs
own_before q len rs others all none = rw (split q len rs others all none) (take-append_seam (map {A = Reloc} {B = Reloc} (later q) rs) others)

others_behind : (q len : ℕ) (rs others : List Reloc) → All (λ (r : Reloc). r.offset < len) rs → prefix_len (begins_before (q + len)) others ≡ 0
    → behind (q + len) (map {A = Reloc} {B = Reloc} (later q) rs ++ others) ≡ others
others_behind q len rs others all none = rw (split q len rs others all none) (drop-append_seam (map {A = Reloc} {B = Reloc} (later q) rs) others)

-- ---- the bodies

abbrev all_windowed : List Coded → List Windowed
all_windowed cs = map (λ c. c.windowed) cs

-- the bodies from a place of the payload on, which starts at a place of the object; the end is that of the payload
pub bodies_stand : (start at end : ℕ) (cs : List Coded) → end ≡ start + at + length (flat_map coded_bytes cs) → All IsCoded cs → Fits (flat_map coded_bytes cs)
    → AreInTurn (SpellsCodeBody start) (left_behind start) (relocs_from body_head at (map (λ c. c.windowed) cs)) end (bodies_told end cs) (flat_map coded_bytes cs) []
bodies_stand start at end [] place all fits = refl
bodies_stand start at end (c ∷ cs) place all fits =
    let w : Windowed = c.windowed in
    let rest : List ℕ = flat_map coded_bytes cs in
    let cut : flat_map coded_bytes (c ∷ cs) ≡ body w ++ rest = flat_map-cons coded_bytes c cs in
    let both : Fits (body w ++ rest) = subst Fits cut fits in
    let sound : IsCoded c = All-head IsCoded c cs all in
    let q : ℕ = at + length (body_head w.bytes) in
    let len : ℕ = length w.bytes in
    let others : List Reloc = relocs_from body_head (q + len) (map (λ c. c.windowed) cs) in
    let state : List Reloc = map {A = Reloc} {B = Reloc} (later q) w.relocs ++ others in
    let long : length (flat_map coded_bytes (c ∷ cs)) ≡ length (body_head w.bytes) + len + length rest =
    ap length cut ∙ (length-append (body w) rest ∙ ap (λ n. n + length rest) (length-append (body_head w.bytes) w.bytes)) in
    let ends : end ≡ start + (q + len) + length rest = omega (arith, place, long) in
    let base : end - length rest - len - start ≡ q = omega (arith, ends) in
    let top : end - length rest - len + len - start ≡ q + len = omega (arith, ends) in
    let none : prefix_len (begins_before (q + len)) others ≡ 0 = later_behind (q + len) (q + len) (map (λ c. c.windowed) cs) (omega arith) in
    let mine : before (end - length rest - len + len - start) state ≡ map {A = Reloc} {B = Reloc} (later q) w.relocs =
    ap (λ n. before n state) top ∙ own_before q len w.relocs others sound.inside none in
    let left : behind (end - length rest - len + len - start) state ≡ others =
    ap (λ n. behind n state) top ∙ others_behind q len w.relocs others sound.inside none in
    let operands : windows_of (end - length rest - len - start) (before (end - length rest - len + len - start) state) c.code ≡ Ok c.operands =
    ap (λ n. windows_of n (before (end - length rest - len + len - start) state) c.code) base
    ∙ (ap (λ rs. windows_of q rs c.code) mine ∙ shifted q w.relocs c.code c.operands sound.stand) in
    let size : Fits w.bytes = right_fits (body_head w.bytes) w.bytes (left_fits (body w) rest both) in
    let again = bodies_stand start (q + len) end cs ends (All-tail IsCoded c cs all) (right_fits (body w) rest both) in
    let empty : rest ++ [] ≡ rest = append-nil rest in (
      body w,
      rest,
      subst (λ behind_it. SpellsCodeBody start state end (record { span = span_before end len rest; windows = Ok c.operands }) (body w) behind_it) (sym empty)
          (c.code, body_head w.bytes, w.bytes, u32_spells len size, sound.spelled, refl, refl, sym operands),
      subst (λ rs. AreInTurn (SpellsCodeBody start) (left_behind start) rs end (bodies_told end cs) rest []) (sym left) again,
      cut,
    )

long_bodies : (end : ℕ) (cs : List Coded) → length (bodies_told end cs) ≡ length cs
long_bodies end [] = refl
long_bodies end (c ∷ cs) = ap suc (long_bodies end cs)

some_body : (c : Coded) → 1 ≤ length (coded_bytes c)
some_body c = some c.windowed.bytes
  where
    some : (bytes : List ℕ) → 1 ≤ length (sized bytes)
    some bytes = some_sized bytes

-- The section of the bodies, whose payload starts at a place.
pub bodies_spelled : (start : ℕ) (cs : List Coded) → All IsCoded cs → Fits (vector coded_bytes cs)
    → AreEntries (SpellsCodeBody start) (left_behind start) (relocs_from body_head (length (u32 (length cs))) (map (λ c. c.windowed) cs)) (start + length (vector coded_bytes cs))
    (bodies_told (start + length (vector coded_bytes cs)) cs) (vector coded_bytes cs)
bodies_spelled start cs all fits =
    let inner : Fits (flat_map coded_bytes cs) = right_fits (u32 (length cs)) (flat_map coded_bytes cs) fits in
    let count : IsU32 (length cs) = omega (arith, few coded_bytes some_body cs, inner) in
    let end : ℕ = start + length (vector coded_bytes cs) in
    let place : end ≡ start + length (u32 (length cs)) + length (flat_map coded_bytes cs) = omega (arith, length-append (u32 (length cs)) (flat_map coded_bytes cs)) in (
      u32 (length cs),
      flat_map coded_bytes cs,
      subst (λ (n : ℕ). SpellsU32 n (u32 (length cs))) (sym (long_bodies end cs)) (u32_spells (length cs) count),
      bodies_stand start (length (u32 (length cs))) end cs place all inner,
      refl,
    )
