-- The relocations for the code section and for the data section, of all that an object has.
use Rattle.std.proofs.Common.{◌≡◌, ℕ, Bool, true, false, cond, eqb, List, [], ◌∷◌, ◌++◌, refl, sym, ap, subst, ◌∙◌, Option, Some, None, Ok, append_assoc}
use Rattle.std.specs.Prelude.{All, slice_get}
use Rattle.std.specs.List.{list_all}
use Rattle.std.proofs.lemmas.Bool.{and_parts, eqb-true, both_ways}
use Rattle.std.proofs.lemmas.List.{append-nil}
use Rattle.std.proofs.lemmas.List.Elements.{All-nil}
use Rattle.std.proofs.lemmas.List.Sums.{AllPass-from_list_all}
use Rattle.object_rules.specs.wl_base.declared.span.Span.{Span}
use Rattle.object_rules.specs.wasm_grammar.Reading.{u32_at, name_at}
use Rattle.object_rules.specs.wasm_grammar.ReaderLaws.{u32_reader, name_reader}
use Rattle.object_rules.specs.wasm_sections.declared.section.SectionSpan.{SectionSpan}
use Rattle.object_rules.specs.reloc_section.declared.entry.Reloc.{Reloc}
use Rattle.object_rules.specs.reloc_section.declared.section.RelocSection.{RelocSection}
use Rattle.object_rules.specs.reloc_section.Relocs.{relocs_at}
use Rattle.object_rules.specs.reloc_section.RelocLaws.{relocs_again}
use Rattle.object_rules.specs.linking_section.declared.linking.Linking.{Linking}
use Rattle.object_rules.specs.object_parts.declared.kind.SectionKind.{SectionKind}
use Rattle.object_rules.specs.object_parts.declared.kind.SectionKind.TheVariants as sections
use Rattle.object_rules.specs.object_parts.declared.kind.CustomKind.{CustomKind}
use Rattle.object_rules.specs.object_parts.declared.kind.CustomKind.TheVariants as customs
use Rattle.object_rules.specs.object_parts.declared.parts.Parts.{Parts}
use Rattle.object_rules.specs.object_parts.Kinds.{kind_of, custom_kind_of}
use Rattle.object_rules.specs.wasm_grammar.Grammar.{SpellsU32}
use Rattle.object_rules.specs.object_parts.Adding.{no_parts, section_is, has_id, end_of, with_linking, SpellsRelocsFor, AddsCustom, AddsKind}
use Rattle.object_rules.specs.object_parts.Sections.{bytes_in, AddInTurn}
use Rattle.object_rules.specs.object_parts.Reading.{entries_or_none, code_target, code_relocs_of, code_relocs_in, or_else, code_relocs}
use Rattle.object_rules.specs.Relocs.{lie_apart, width_in, payload_len, windows_lie}
use Rattle.object_rules.specs.Windows.{relocs_for}
use Rattle.object_file.proofs.Windowed.{AreApart}

-- ---- what holds of all entries holds of those for a section

pub for_all : (P : Reloc → Bool) (id : ℕ) (all : List SectionSpan) (rs : List RelocSection) → list_all (λ r. list_all P r.entries) rs ≡ true → All (λ r. P r ≡ true) (relocs_for id all rs)
for_all P id all [] e = All-nil (λ r. P r ≡ true)
for_all P id all (r ∷ rs) e =
    let both = and_parts (list_all P r.entries) (list_all (λ x. list_all P x.entries) rs) e in
    by (has_id id all r.target) (AllPass-from_list_all P r.entries both.0) (for_all P id all rs both.1)
  where
    by : (q : Bool) → All (λ x. P x ≡ true) r.entries → All (λ x. P x ≡ true) (relocs_for id all rs) → All (λ x. P x ≡ true) (cond q r.entries (relocs_for id all rs))
    by true here others = here
    by false here others = others

-- a section has one id
one_id : (found : Option SectionSpan) (a b : ℕ) → eqb a b ≡ false → section_is a found ≡ true → section_is b found ≡ false
one_id None a b differ e = refl
one_id (Some s) a b differ e = subst (λ n. eqb n b ≡ false) (sym (eqb-true s.id a e)) differ

-- ---- windows in data

pub data_apart : (all : List SectionSpan) (rs : List RelocSection) → list_all (windows_lie all) rs ≡ true → AreApart (relocs_for 11 all rs)
data_apart all [] e = (0, 0, refl)
data_apart all (r ∷ rs) e =
    let both = and_parts (windows_lie all r) (list_all (windows_lie all) rs) e in
    by (has_id 11 all r.target) refl both.0 (data_apart all rs both.1)
  where
    by : (q : Bool) → has_id 11 all r.target ≡ q → windows_lie all r ≡ true → AreApart (relocs_for 11 all rs) → AreApart (cond q r.entries (relocs_for 11 all rs))
    by true is lie others =
        let other : has_id 10 all r.target ≡ false = one_id (slice_get all r.target) 11 10 refl is in
        let four : width_in all r.target ≡ 4 = rw other refl in
        (payload_len (slice_get all r.target), 0, subst (λ w. lie_apart w (payload_len (slice_get all r.target)) 0 r.entries ≡ true) four lie)
    by false is lie others = others

-- ---- the relocations of the code, as bodies were read with them

-- What a section adds to the relocations, where these are for the code, before those that come later.
abbrev Adds : List SectionSpan → Option (List Reloc) → Parts → Parts → Type 0
Adds all here parts after =
    (more : List RelocSection) × (after.relocs ≡ parts.relocs ++ more)
    × ((later : List RelocSection) → or_else here (relocs_for 10 all later) ≡ relocs_for 10 all (more ++ later))

adds_none : (all : List SectionSpan) (here : Option (List Reloc)) (parts after : Parts) → here ≡ None → after.relocs ≡ parts.relocs → Adds all here parts after
adds_none all here parts after none same = ([], same ∙ sym (append-nil parts.relocs), λ later. rw none refl)

read_target : (end : ℕ) (r : RelocSection) (bytes text rest : List ℕ) → SpellsU32 r.target text → bytes ≡ text ++ rest → u32_at end bytes ≡ Ok (r.target, rest)
read_target end r bytes text rest s e = ap (u32_at end) e ∙ u32_reader.again end r.target text rest s

target_adds : (all : List SectionSpan) (end : ℕ) (r : RelocSection) (bytes rest : List ℕ) (later : List RelocSection) → u32_at end bytes ≡ Ok (r.target, rest)
    → (has_id 10 all r.target ≡ true → relocs_at end bytes ≡ Ok r) → or_else (code_target all end bytes (u32_at end bytes)) (relocs_for 10 all later) ≡ relocs_for 10 all (r ∷ later)
target_adds all end r bytes rest later read whole = rw read (by (has_id 10 all r.target) whole)
  where
    by : (q : Bool) → (q ≡ true → relocs_at end bytes ≡ Ok r) → or_else (cond q (Some (entries_or_none (relocs_at end bytes))) None) (relocs_for 10 all later) ≡ cond q r.entries (relocs_for 10 all later)
    by true known = rw (known refl) refl
    by false known = refl

custom_adds : (all : List SectionSpan) (kind : CustomKind) (parts after : Parts) (end : ℕ) (bytes : List ℕ) → AddsCustom all kind parts bytes after → Adds all (code_relocs_of all kind end bytes) parts after
custom_adds all customs.Linking parts after end bytes s = adds_none all None parts after refl (ap (λ (p : Parts). p.relocs) s.2 ∙ kept parts.linking)
  where
    kept : (first : Option Linking) → (with_linking parts first s.0).relocs ≡ parts.relocs
    kept None = refl
    kept (Some l) = refl
custom_adds all customs.Relocs parts after end bytes s =
    (s.0 ∷ [], ap (λ (p : Parts). p.relocs) s.2, λ later. by (has_id 0 all s.0.target) refl s.1 later)
  where
    by : (q : Bool) → has_id 0 all s.0.target ≡ q → SpellsRelocsFor q s.0 bytes → (later : List RelocSection) → or_else (code_target all end bytes (u32_at end bytes)) (relocs_for 10 all later) ≡ relocs_for 10 all (s.0 ∷ later)
    by true is t later =
        let other : has_id 10 all s.0.target ≡ false = one_id (slice_get all s.0.target) 0 10 refl is in
        target_adds all end s.0 bytes t.1 later (read_target end s.0 bytes t.0 t.1 t.2 t.4) (λ code. absurd (both_ways (has_id 10 all s.0.target) other code))
    by false is t later = target_adds all end s.0 bytes t.1 later (read_target end s.0 bytes t.0 t.1 t.2 t.4) (λ code. relocs_again end bytes s.0 t)
custom_adds all customs.Shared parts after end bytes s = absurd s
custom_adds all customs.Other parts after end bytes s = adds_none all None parts after refl (ap (λ (p : Parts). p.relocs) s)

is_custom : SectionKind → Bool
is_custom sections.Custom = true
is_custom _ = false

kept_relocs : (all : List SectionSpan) (relocs : List Reloc) (kind : SectionKind) (parts : Parts) (span : Span) (payload : List ℕ) (after : Parts) → is_custom kind ≡ false → AddsKind all relocs kind parts span payload after → after.relocs ≡ parts.relocs
unfolding is_custom
kept_relocs all relocs sections.Custom parts span payload after other s = absurd cc
kept_relocs all relocs sections.Types parts span payload after other s = ap (λ (p : Parts). p.relocs) s.2
kept_relocs all relocs sections.Imports parts span payload after other s = ap (λ (p : Parts). p.relocs) s.2
kept_relocs all relocs sections.Functions parts span payload after other s = ap (λ (p : Parts). p.relocs) s.2
kept_relocs all relocs sections.Tables parts span payload after other s = ap (λ (p : Parts). p.relocs) s.1
kept_relocs all relocs sections.Memories parts span payload after other s = ap (λ (p : Parts). p.relocs) s.1
kept_relocs all relocs sections.Globals parts span payload after other s = ap (λ (p : Parts). p.relocs) s.2
kept_relocs all relocs sections.Exports parts span payload after other s = ap (λ (p : Parts). p.relocs) s.2
kept_relocs all relocs sections.Start parts span payload after other s = absurd s
kept_relocs all relocs sections.Elements parts span payload after other s = ap (λ (p : Parts). p.relocs) s.2
kept_relocs all relocs sections.DataCount parts span payload after other s = ap (λ (p : Parts). p.relocs) s.2
kept_relocs all relocs sections.Code parts span payload after other s = ap (λ (p : Parts). p.relocs) s.2
kept_relocs all relocs sections.Segments parts span payload after other s = ap (λ (p : Parts). p.relocs) s.2
kept_relocs all relocs sections.Tags parts span payload after other s = absurd s

either : (q : Bool) (a b : SectionKind) → is_custom a ≡ false → is_custom b ≡ false → is_custom (cond q a b) ≡ false
either true a b x y = x
either false a b x y = y

-- a section with an id other than 0 isn't custom
not_custom : (id : ℕ) → eqb id 0 ≡ false → is_custom (kind_of id) ≡ false
unfolding is_custom
not_custom id other =
    rw other (either (eqb id 1) sections.Types _ refl (either (eqb id 2) sections.Imports _ refl (either (eqb id 3) sections.Functions _ refl
    (either (eqb id 4) sections.Tables _ refl (either (eqb id 5) sections.Memories _ refl (either (eqb id 6) sections.Globals _ refl
    (either (eqb id 7) sections.Exports _ refl (either (eqb id 8) sections.Start _ refl (either (eqb id 9) sections.Elements _ refl
    (either (eqb id 10) sections.Code _ refl (either (eqb id 11) sections.Segments _ refl (either (eqb id 12) sections.DataCount sections.Tags refl refl))))))))))))

is_custom_at : (id : ℕ) → eqb id 0 ≡ true → kind_of id ≡ sections.Custom
is_custom_at id is = rw is refl

in_custom : (all : List SectionSpan) (bytes : List ℕ) (x : SectionSpan) (name rest : List ℕ) → eqb x.id 0 ≡ true → name_at (end_of x.payload) (bytes_in bytes x.payload) ≡ Ok (name, rest)
    → code_relocs_in all bytes x ≡ code_relocs_of all (custom_kind_of name) (end_of x.payload) rest
in_custom all bytes x name rest is read = rw (is, read) refl

in_other : (all : List SectionSpan) (bytes : List ℕ) (x : SectionSpan) → eqb x.id 0 ≡ false → code_relocs_in all bytes x ≡ None
in_other all bytes x is = rw is refl

section_adds : (all : List SectionSpan) (relocs : List Reloc) (bytes : List ℕ) (parts after : Parts) (x : SectionSpan) → AddsKind all relocs (kind_of x.id) parts x.payload (bytes_in bytes x.payload) after → Adds all (code_relocs_in all bytes x) parts after
section_adds all relocs bytes parts after x s = by (eqb x.id 0) refl
  where
    by : (q : Bool) → eqb x.id 0 ≡ q → Adds all (code_relocs_in all bytes x) parts after
    by true is =
        let t = subst (λ kind. AddsKind all relocs kind parts x.payload (bytes_in bytes x.payload) after) (is_custom_at x.id is) s in
        let end : ℕ = end_of x.payload in
        let read : name_at end (bytes_in bytes x.payload) ≡ Ok (t.0, t.2) = ap (name_at end) t.4 ∙ name_reader.again end t.0 t.1 t.2 t.3 in
        subst (λ h. Adds all h parts after) (sym (in_custom all bytes x t.0 t.2 is read)) (custom_adds all (custom_kind_of t.0) parts after end t.2 t.5)
    by false is =
        adds_none all (code_relocs_in all bytes x) parts after (in_other all bytes x is) (kept_relocs all relocs (kind_of x.id) parts x.payload (bytes_in bytes x.payload) after (not_custom x.id is) s)

sections_add : (all : List SectionSpan) (relocs : List Reloc) (bytes : List ℕ) (parts : Parts) (ss : List SectionSpan) (after : Parts) → AddInTurn all relocs bytes parts ss after
    → (more : List RelocSection) × (after.relocs ≡ parts.relocs ++ more) × (relocs_for 10 all more ≡ code_relocs all bytes ss)
unfolding code_relocs
sections_add all relocs bytes parts [] after s = ([], sym (ap (λ (p : Parts). p.relocs) s) ∙ sym (append-nil parts.relocs), refl)
sections_add all relocs bytes parts (x ∷ xs) after s =
    let here = section_adds all relocs bytes parts s.0 x s.1 in
    let others = sections_add all relocs bytes s.0 xs after s.2 in (
      here.0 ++ others.0,
      others.1 ∙ ap (λ rs. rs ++ others.0) here.1 ∙ append_assoc parts.relocs here.0 others.0,
      sym (here.2 others.0) ∙ ap (or_else (code_relocs_in all bytes x)) others.2,
    )

pub code_relocs_are : (all : List SectionSpan) (bytes : List ℕ) (parts : Parts) → AddInTurn all (code_relocs all bytes all) bytes no_parts all parts → relocs_for 10 all parts.relocs ≡ code_relocs all bytes all
code_relocs_are all bytes parts s =
    let a = sections_add all (code_relocs all bytes all) bytes no_parts all parts s in
    ap (relocs_for 10 all) a.1 ∙ a.2
