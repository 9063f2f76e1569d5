-- The relocations of the code, read before their turn: they are what the definition says, and what their
-- section adds in its turn.
use Rattle.std.proofs.Common.{◌≡◌, ℕ, ◌+◌, Bool, true, false, cond, eqb, List, [], ◌∷◌, ◌++◌, length, take, drop, Option, Some, None, option_map, Result, Ok, Err, refl, sym, ap, ◌∙◌, subst, arith, not, ◌&&◌, suc}
use Rattle.std.proofs.lemmas.List.{take-append-drop, length-take}
use Rattle.std.proofs.lemmas.Bool.{eqb-true}
use Rattle.std.specs.List.{list_all, slice_get}
use Rattle.wasm_instr.specs.wl_base.declared.span.Span.{Span}
use Rattle.wasm_instr.specs.wasm_grammar.declared.fault.Stop.{Stop}
use Rattle.wasm_instr.specs.wasm_grammar.Reading.{◌>>=◌, u32_at, name_at}
use Rattle.wasm_module.specs.wasm_sections.declared.section.SectionSpan.{SectionSpan}
use Rattle.body_windows.specs.reloc_section.declared.entry.Reloc.{Reloc}
use Rattle.body_windows.specs.reloc_section.declared.section.RelocSection.{RelocSection}
use Rattle.body_windows.specs.reloc_section.Relocs.{relocs_at}
use Rattle.object_parts.specs.declared.kind.SectionKind.{SectionKind}
use Rattle.object_parts.specs.declared.kind.SectionKind.TheVariants as sections
use Rattle.object_parts.specs.declared.kind.CustomKind.{CustomKind}
use Rattle.object_parts.specs.declared.kind.CustomKind.TheVariants as customs
use Rattle.object_parts.specs.declared.parts.Parts.{Parts}
use Rattle.object_parts.specs.declared.early.Early.{Early}
use Rattle.object_parts.specs.declared.reading.SectionStop.{SectionStop}
use Rattle.object_parts.specs.declared.reading.PartsFault.{PartsFault}
use Rattle.object_parts.specs.declared.reading.PartsFault.TheVariants as faults
use Rattle.object_parts.specs.Kinds.{kind_of, custom_kind_of}
use Rattle.object_parts.specs.Adding.{section_is, has_id, end_of, with_relocs, relocs_behind, relocs_for, add_relocs, add_named, add_custom, add_kind}
use Rattle.object_parts.specs.Sections.{bytes_in}
use Rattle.object_parts.specs.Reading.{◌>=>◌, in_section, entries_or_none, code_target, code_relocs_of, code_relocs_named, code_relocs_in, parts_from, GivesMore}
use Rattle.object_parts.specs.Early.{early_target, early_of, early_named, early_in, StandsIn}

-- ---- the definition

target_is : (all : List SectionSpan) (end : ℕ) (bytes : List ℕ) (target : Result (ℕ × List ℕ) Stop)
    → code_target all end bytes target ≡ option_map entries_or_none (early_target all end bytes target)
target_is all end bytes (Err e) = refl
target_is all end bytes (Ok target) = by (has_id 10 all target.0) (relocs_at end bytes)
  where
    by : (b : Bool) (read : Result RelocSection Stop)
        → (let one : Option (List Reloc) = cond b (Some (entries_or_none read)) None in one ≡ option_map entries_or_none (cond b (Some read) None))
    by true read = refl
    by false read = refl

of_is : (all : List SectionSpan) (kind : CustomKind) (end : ℕ) (bytes : List ℕ)
    → code_relocs_of all kind end bytes ≡ option_map entries_or_none (early_of all kind end bytes)
of_is all customs.Linking end bytes = refl
of_is all customs.Relocs end bytes = target_is all end bytes (u32_at end bytes)
of_is all customs.Shared end bytes = refl
of_is all customs.Other end bytes = refl

named_is : (all : List SectionSpan) (end : ℕ) (name : Result (List ℕ × List ℕ) Stop)
    → code_relocs_named all end name ≡ option_map entries_or_none (early_named all end name)
named_is all end (Ok name) = of_is all (custom_kind_of name.0) end name.1
named_is all end (Err e) = refl

pub code_is : (all : List SectionSpan) (bytes : List ℕ) (s : SectionSpan) → code_relocs_in all bytes s ≡ option_map entries_or_none (early_in all bytes s)
code_is all bytes s = by (eqb s.id 0) (end_of s.payload) (name_at (end_of s.payload) (bytes_in bytes s.payload))
  where
    by : (b : Bool) (end : ℕ) (name : Result (List ℕ × List ℕ) Stop)
        → cond b (code_relocs_named all end name) None ≡ option_map entries_or_none (cond b (early_named all end name) None)
    by true end name = named_is all end name
    by false end name = refl

pub read_entries : (all : List SectionSpan) (bytes : List ℕ) (s : SectionSpan) (read : Result RelocSection Stop) → early_in all bytes s ≡ Some read
    → code_relocs_in all bytes s ≡ Some (entries_or_none read)
read_entries all bytes s read is = code_is all bytes s ∙ ap (option_map entries_or_none) is

pub no_entries : (all : List SectionSpan) (bytes : List ℕ) (s : SectionSpan) → early_in all bytes s ≡ None → code_relocs_in all bytes s ≡ None
no_entries all bytes s is = code_is all bytes s ∙ ap (option_map entries_or_none) is

-- ---- what the section adds in its turn

is_not_custom : (section : Option SectionSpan) → section_is 10 section ≡ true → section_is 0 section ≡ false
is_not_custom None is = absurd cc
is_not_custom (Some s) is = rw (eqb-true s.id 10 is) refl

module _ (all : List SectionSpan) (end : ℕ) (parts : Parts) (relocs : RelocSection) where
  target_adds : (bytes : List ℕ) (target : Result (ℕ × List ℕ) Stop) → early_target all end bytes target ≡ Some (Ok relocs)
      → ((target >>= λ target. relocs_behind (has_id 0 all target.0) target.0 end bytes) >>= λ r. Ok (with_relocs parts r)) ≡ Ok (with_relocs parts relocs)
  target_adds bytes (Err e) is = absurd cc
  target_adds bytes (Ok target) is = by (has_id 10 all target.0) refl (relocs_at end bytes) refl is
    where
      by : (b : Bool) → has_id 10 all target.0 ≡ b → (read : Result RelocSection Stop) → relocs_at end bytes ≡ read → cond b (Some read) None ≡ Some (Ok relocs)
          → (relocs_behind (has_id 0 all target.0) target.0 end bytes >>= λ r. Ok (with_relocs parts r)) ≡ Ok (with_relocs parts relocs)
      by false is read same found = absurd cc
      by true is (Err e) same found = absurd cc
      by true is (Ok r) same found =
          let one : r ≡ relocs = cc in
          rw (is_not_custom (slice_get all target.0) is, same, one) refl

  kind_adds : (kind : CustomKind) (bytes : List ℕ) → early_of all kind end bytes ≡ Some (Ok relocs) → add_named all kind parts end bytes ≡ Ok (with_relocs parts relocs)
  unfolding add_relocs relocs_for
  kind_adds customs.Linking bytes is = absurd cc
  kind_adds customs.Relocs bytes is = target_adds bytes (u32_at end bytes) is
  kind_adds customs.Shared bytes is = absurd cc
  kind_adds customs.Other bytes is = absurd cc

  name_adds : (name : Result (List ℕ × List ℕ) Stop) → early_named all end name ≡ Some (Ok relocs)
      → (name >>= λ name. add_named all (custom_kind_of name.0) parts end name.1) ≡ Ok (with_relocs parts relocs)
  name_adds (Ok name) is = kind_adds (custom_kind_of name.0) name.1 is
  name_adds (Err e) is = absurd cc

pub section_adds : (all : List SectionSpan) (bytes : List ℕ) (s : SectionSpan) (relocs : RelocSection) → early_in all bytes s ≡ Some (Ok relocs)
    → (code : List Reloc) (parts : Parts) → add_kind all code (kind_of s.id) parts s.payload (bytes_in bytes s.payload) ≡ Ok (with_relocs parts relocs)
unfolding add_custom
section_adds all bytes s relocs is code parts = by (eqb s.id 0) refl is
  where
    by : (b : Bool) → eqb s.id 0 ≡ b
        → cond b (early_named all (end_of s.payload) (name_at (end_of s.payload) (bytes_in bytes s.payload))) None ≡ Some (Ok relocs)
        → add_kind all code (kind_of s.id) parts s.payload (bytes_in bytes s.payload) ≡ Ok (with_relocs parts relocs)
    by true zero found = rw zero (name_adds all (end_of s.payload) parts relocs (name_at (end_of s.payload) (bytes_in bytes s.payload)) found)
    by false zero found = absurd cc

-- ---- sections without code

abbrev is_code : SectionKind → Bool
is_code sections.Code = true
is_code kind = false

-- what holds of each kind but of code holds of the kind of another id
module _ (P : SectionKind → Type 0) where
  either : (b : Bool) (x y : SectionKind) → P x → P y → P (cond b x y)
  either true x y first second = first
  either false x y first second = second

  other_kind : (id : ℕ) → eqb id 10 ≡ false → P sections.Custom → P sections.Types → P sections.Imports → P sections.Functions → P sections.Tables → P sections.Memories
      → P sections.Globals → P sections.Exports → P sections.Start → P sections.Elements → P sections.Segments → P sections.DataCount → P sections.Tags → P (kind_of id)
  other_kind id other custom types imports functions tables memories globals exports start elements segments count tags =
      rw other (either _ _ _ custom (either _ _ _ types (either _ _ _ imports (either _ _ _ functions (either _ _ _ tables (either _ _ _ memories
      (either _ _ _ globals (either _ _ _ exports (either _ _ _ start (either _ _ _ elements (either _ _ _ segments (either _ _ _ count tags))))))))))))

not_code : (id : ℕ) → eqb id 10 ≡ false → is_code (kind_of id) ≡ false
not_code id other = other_kind (λ kind. is_code kind ≡ false) id other refl refl refl refl refl refl refl refl refl refl refl refl refl

both : (x y : Bool) → (x && y) ≡ true → (x ≡ true) × (y ≡ true)
both true true e = (refl, refl)
both true false e = absurd cc
both false y e = absurd cc

is_not : (x : Bool) → not x ≡ true → x ≡ false
is_not true e = absurd cc
is_not false e = refl

same_then : (r : Result Parts SectionStop) (f g : Parts → Result Parts SectionStop) → ((mid : Parts) → f mid ≡ g mid) → (r >=> f) ≡ (r >=> g)
same_then (Ok mid) f g same = same mid
same_then (Err e) f g same = refl

-- relocations that are never asked for
module _ (all : List SectionSpan) (bytes : List ℕ) (code other : List Reloc) where
  same_kind : (kind : SectionKind) (parts : Parts) (span : Span) (payload : List ℕ) → is_code kind ≡ false → add_kind all code kind parts span payload ≡ add_kind all other kind parts span payload
  same_kind sections.Code parts span payload is = absurd cc
  same_kind kind parts span payload is = refl

  without_code : (ss : List SectionSpan) (at : ℕ) (parts : Parts) → list_all (λ s. not (eqb s.id 10)) ss ≡ true → parts_from all code bytes at parts ss ≡ parts_from all other bytes at parts ss
  unfolding parts_from
  without_code [] at parts no_code = refl
  without_code (s ∷ ss) at parts no_code =
      let b = both (not (eqb s.id 10)) (list_all (λ s. not (eqb s.id 10)) ss) no_code in
      rw (same_kind (kind_of s.id) parts s.payload (bytes_in bytes s.payload) (not_code s.id (is_not (eqb s.id 10) b.0)))
      (same_then (in_section at (add_kind all other (kind_of s.id) parts s.payload (bytes_in bytes s.payload))) _ _ (λ mid. without_code ss (at + 1) mid b.1))

-- ---- the sections before its place, and those behind it

module _ (all : List SectionSpan) (bytes : List ℕ) (code : List Reloc) where
  in_two : (xs ys : List SectionSpan) (at : ℕ) (parts : Parts)
      → parts_from all code bytes at parts (xs ++ ys) ≡ (parts_from all code bytes at parts xs >=> λ mid. parts_from all code bytes (at + length xs) mid ys)
  unfolding parts_from
  in_two [] ys at parts = let same : at ≡ at + 0 = omega arith in ap (λ place. parts_from all code bytes place parts ys) same
  in_two (s ∷ ss) ys at parts =
      let same : at + 1 + length ss ≡ at + suc (length ss) = omega arith in
      elim (add_kind all code (kind_of s.id) parts s.payload (bytes_in bytes s.payload))
      as (λ r. (in_section at r >=> λ more. parts_from all code bytes (at + 1) more (ss ++ ys))
      ≡ ((in_section at r >=> λ more. parts_from all code bytes (at + 1) more ss) >=> λ mid. parts_from all code bytes (at + suc (length ss)) mid ys)) [
        | Ok more ↦ rw (in_two ss ys (at + 1) more, same) refl
        | Err e ↦ refl
      ]

module _ (all : List SectionSpan) (bytes : List ℕ) (early : Early) (stands : StandsIn all bytes early) (no_code : list_all (λ s. not (eqb s.id 10)) (drop (early.place + 1) all) ≡ true) where
  behind_it : Parts → Result Parts SectionStop
  behind_it mid = parts_from all [] bytes (early.place + 1) (with_relocs mid early.relocs) (drop (early.place + 1) all)

  from_it : (mid : Parts) → parts_from all early.relocs.entries bytes early.place mid (drop early.place all) ≡ behind_it mid
  unfolding parts_from behind_it
  from_it mid =
      ap (parts_from all early.relocs.entries bytes early.place mid) stands.here
      ∙ rw (section_adds all bytes stands.span early.relocs stands.read early.relocs.entries mid)
      (without_code all bytes early.relocs.entries [] (drop (early.place + 1) all) (early.place + 1) (with_relocs mid early.relocs) no_code)

  around : (parts : Parts) → parts_from all early.relocs.entries bytes 0 parts all ≡ (parts_from all early.relocs.entries bytes 0 parts (take early.place all) >=> behind_it)
  around parts =
      let cut : all ≡ take early.place all ++ drop early.place all = sym (take-append-drop early.place all) in
      let place : 0 + length (take early.place all) ≡ early.place = omega (arith, length-take early.place all, stands.within) in
      ap (parts_from all early.relocs.entries bytes 0 parts) cut ∙ in_two all bytes early.relocs.entries (take early.place all) (drop early.place all) 0 parts
      ∙ same_then (parts_from all early.relocs.entries bytes 0 parts (take early.place all)) _ behind_it
      (λ mid. ap (λ at. parts_from all early.relocs.entries bytes at mid (drop early.place all)) place ∙ from_it mid)

  -- where those before it stop, all do
  pub stops_before : (A : Type 0) (fault : PartsFault) (parts mid more : Parts)
      → (let r : Result A PartsFault = Err fault in GivesMore r mid (parts_from all early.relocs.entries bytes 0 parts (take early.place all)))
      → (let r : Result A PartsFault = Err fault in GivesMore r more (parts_from all early.relocs.entries bytes 0 parts all))
  stops_before A faults.OutOfMemory parts mid more stops = tt
  stops_before A (faults.Stopped stop) parts mid more stops = around parts ∙ ap (λ (r : Result Parts SectionStop). r >=> behind_it) stops

  -- else those behind it decide
  pub goes_behind : (A : Type 0) (r : Result A PartsFault) (parts mid more : Parts) → parts_from all early.relocs.entries bytes 0 parts (take early.place all) ≡ Ok mid
      → GivesMore r more (parts_from all [] bytes (early.place + 1) (with_relocs mid early.relocs) (drop (early.place + 1) all))
      → GivesMore r more (parts_from all early.relocs.entries bytes 0 parts all)
  unfolding behind_it
  goes_behind A r parts mid more added behind =
      let is : parts_from all early.relocs.entries bytes 0 parts all ≡ parts_from all [] bytes (early.place + 1) (with_relocs mid early.relocs) (drop (early.place + 1) all)
      = around parts ∙ ap (λ (r : Result Parts SectionStop). r >=> behind_it) added in
      subst (GivesMore r more) (sym is) behind
