-- Where the sections of a frame stand: each lies in the file, and there is one code section.
use Rattle.std.proofs.Common.{◌≡◌, ℕ, ◌+◌, ◌<◌, ◌≤◌, List, [], ◌∷◌, length, refl, sym, ap, ◌∙◌, Bool, true, false, cond, eqb, max, arith}
use Rattle.std.specs.Prelude.{All}
use Rattle.std.proofs.lemmas.Bool.{eq-eqb, eqb-true}
use Rattle.std.proofs.lemmas.List.Elements.{All-nil, All-cons, All-weaker}
use Rattle.object_rules.specs.wasm_sections.declared.section.SectionSpan.{SectionSpan}
use Rattle.object_rules.specs.wasm_sections.Sections.{rank_of, AreSections, IsFrame}
use Rattle.object_rules.proofs.wasm_sections_lemmas.FrameLaws.{frame_within, sections_behind, IsBehind}
use Rattle.object_rules.specs.object_parts.declared.kind.SectionKind.{SectionKind}
use Rattle.object_rules.specs.object_parts.declared.kind.SectionKind.TheVariants as sections
use Rattle.object_rules.specs.object_parts.Kinds.{kind_of}
use Rattle.object_rules.specs.object_parts.Spans.{LiesIn}
use Rattle.object_rules.specs.Windows.{start_of}

pub frame_fits : (all : List SectionSpan) (bytes : List ℕ) → IsFrame all bytes → All (λ s. LiesIn (length bytes) s.payload) all
frame_fits all bytes framed = All-weaker (λ s. (8 < s.payload.start) × (s.payload.start + s.payload.len ≤ length bytes)) (λ s. LiesIn (length bytes) s.payload) (λ s p. p.1) all (frame_within all bytes framed)

-- ---- the code section

-- The payload of a code section begins at this place.
abbrev pub CodeBegins : ℕ → SectionSpan → Type 0
CodeBegins begin s = kind_of s.id ≡ sections.Code → s.payload.start ≡ begin

code_id : (id : ℕ) → kind_of id ≡ sections.Code → id ≡ 10
code_id id e =
    pass (eqb id 0) sections.Custom _ (λ k. absurd cc) (
    pass (eqb id 1) sections.Types _ (λ k. absurd cc) (
    pass (eqb id 2) sections.Imports _ (λ k. absurd cc) (
    pass (eqb id 3) sections.Functions _ (λ k. absurd cc) (
    pass (eqb id 4) sections.Tables _ (λ k. absurd cc) (
    pass (eqb id 5) sections.Memories _ (λ k. absurd cc) (
    pass (eqb id 6) sections.Globals _ (λ k. absurd cc) (
    pass (eqb id 7) sections.Exports _ (λ k. absurd cc) (
    pass (eqb id 8) sections.Start _ (λ k. absurd cc) (
    pass (eqb id 9) sections.Elements _ (λ k. absurd cc) (
    here (eqb id 10) _ (eqb-true id 10) (
    pass (eqb id 11) sections.Segments _ (λ k. absurd cc) (
    pass (eqb id 12) sections.DataCount sections.Tags (λ k. absurd cc) (λ k. absurd cc))))))))))))) e
  where
    pass : (q : Bool) (a b : SectionKind) → (a ≡ sections.Code → id ≡ 10) → (b ≡ sections.Code → id ≡ 10) → cond q a b ≡ sections.Code → id ≡ 10
    pass true a b f g k = f k
    pass false a b f g k = g k

    here : (q : Bool) (b : SectionKind) → (q ≡ true → id ≡ 10) → (b ≡ sections.Code → id ≡ 10) → cond q sections.Code b ≡ sections.Code → id ≡ 10
    here true b f g k = f refl
    here false b f g k = g k

no_later : (id : ℕ) (s : SectionSpan) (last : ℕ) → s.id ≡ 10 → id ≡ 10 → IsBehind (max (rank_of id) last) s → ⊥
no_later id s last e k b =
    let r : rank_of s.id ≡ 12 = ap rank_of e in
    let q : rank_of id ≡ 12 = ap rank_of k in
    let some : 0 < rank_of s.id = omega (arith, r) in
    let l : max (rank_of id) last < rank_of s.id = b some in
    omega (arith, l, r, q)

code_starts : (last end : ℕ) (ss : List SectionSpan) (bytes : List ℕ) → AreSections last end ss bytes → All (CodeBegins (start_of 10 ss)) ss
code_starts last end [] bytes s = All-nil (CodeBegins 0)
code_starts last end (x ∷ xs) bytes s =
    by (eqb x.id 10) refl (code_starts (max (rank_of x.id) last) end xs s.2 s.8) (sections_behind (max (rank_of x.id) last) end xs s.2 s.8)
  where
    differ : false ≡ true → ⊥
    differ e = absurd cc

    by : (q : Bool) → eqb x.id 10 ≡ q → All (CodeBegins (start_of 10 xs)) xs → All (IsBehind (max (rank_of x.id) last)) xs → All (CodeBegins (cond q x.payload.start (start_of 10 xs))) (x ∷ xs)
    by true e others later =
        All-cons (CodeBegins x.payload.start) x xs (λ k. refl)
        (All-weaker (IsBehind (max (rank_of x.id) last)) (CodeBegins x.payload.start) (λ y b k. absurd (no_later x.id y last (code_id y.id k) (eqb-true x.id 10 e) b)) xs later)
    by false e others later =
        All-cons (CodeBegins (start_of 10 xs)) x xs (λ k. absurd (differ (sym e ∙ eq-eqb x.id 10 (code_id x.id k)))) others

pub code_begins : (all : List SectionSpan) (bytes : List ℕ) → IsFrame all bytes → All (CodeBegins (start_of 10 all)) all
code_begins all bytes f = code_starts 0 (length bytes) all f.0 f.2
