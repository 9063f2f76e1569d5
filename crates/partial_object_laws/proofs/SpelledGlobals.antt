-- The globals of a program's relocatable object have the bytes by which their own objects spell their values.
use Rattle.std.proofs.Common.{◌≡◌, ℕ, List, length, refl, sym, ap, ◌∙◌, subst}
use Rattle.std.specs.Prelude.{◌-◌, [], take, drop, Some, filter_map, slice_get, slice_index_or}
use Rattle.list_places.specs.Has.{Has}
use Rattle.list_places.proofs.Lists.{all_has, has_at, has_flat, has_filter, has_pick, some_is}
use Rattle.object_rules.specs.wasm_types.Types.{SpellsConstExpr}
use Rattle.object_rules.specs.object_parts.declared.parts.GlobalDef.{GlobalDef}
use Rattle.object_rules.specs.object_parts.Sections.{bytes_in}
use Rattle.object_rules.specs.object_parts.Spans.{LiesIn}
use Rattle.object_file.specs.declared.object.Object.{Object}
use Rattle.object_file.specs.ObjectOf.{IsObject}
use Rattle.object_file.specs.Sound.{Sound}
use Rattle.link_rules.specs.Program.{Program, Part, kept_in}
use Rattle.link_rules.specs.Keys.{parts_of_kind}
use Rattle.partial_rules.specs.Relocatable.{SpelledGlobal}
use Rattle.partial_rules.specs.Partial.{kept, global_in, relocatable}
use Rattle.partial_rules.specs.WellFormed.{IsSpelledGlobal}
use Rattle.partial_laws.proofs.Instance.{all_from_has}
use Rattle.partial_laws.proofs.Loading.{rise_above}
use Rattle.partial_parts_laws.specs.Linked.{Linked, program}
use Rattle.partial_parts_laws.specs.ReadBack.{AreLinked}
use Rattle.partial_parts_laws.proofs.Zips.{has_indexed}
use Rattle.partial_parts_laws.proofs.Parts.{files_are, object_parts, global_parts, globals_in, make_global}
use Rattle.partial_parts_laws.proofs.KeptParts.{kept_is}
use Rattle.partial_object_laws.specs.ReadAlone.{bytes_of, IsReadFrom, ReadWell, GlobalsAreSpelled}
use Rattle.partial_object_laws.proofs.Files.{own_bytes}
use Rattle.partial_object_laws.proofs.Globals.{IsSpelled, globals_spelled}

-- of which global of which object a kept part is made
record OfGlobal (l : Linked) (objects : List Object) (x : Part) : Type 0 where
  object : Object
  there : Has objects object
  place : ℕ
  definition : GlobalDef
  at : slice_get object.globals place ≡ Some definition
  is : make_global l objects object place definition ≡ x

of_global : (l : Linked) (objects : List Object) (is : AreLinked l objects) (x : Part) → Has (kept (program l objects) 2) x → OfGlobal l objects x
of_global l objects is x has =
    let above = rise_above 0 objects is.rise in
    let f = has_flat (λ o. parts_of_kind 2 (object_parts l objects o)) objects x (subst (λ xs. Has xs x) (kept_is l objects is.strict above 2) has) in
    let g = has_filter (λ (y : Part). kept_in objects f.0 y.chunk) (global_parts l objects f.0) x (subst (λ xs. Has xs x) (globals_in l objects f.0) f.2) in
    let i = has_indexed (make_global l objects f.0) 0 f.0.globals x g.0 refl in
    record { object = f.0; there = f.1; place = i.place; definition = i.item; at = i.there; is = i.is }

pub all_spelled : ReadWell → ((input : ℕ) (bytes : List ℕ) (object : Object) → IsObject input bytes object → Sound (length bytes) object) → GlobalsAreSpelled
unfolding relocatable
all_spelled well sound_law l objects read =
    let p : Program = program l objects in
    all_from_has IsSpelledGlobal (filter_map (λ (part : Part). global_in p part.chunk.input part.content) (kept p 2))
    (λ y hy.
    let h = has_pick (λ (part : Part). global_in p part.chunk.input part.content) (kept p 2) y hy in
    let g = of_global l objects (well l objects read).linked h.0 h.1 in
    let o : Object = g.object in
    let d : GlobalDef = g.definition in
    let from : IsReadFrom l o = read.each o g.there in
    let file : List ℕ = bytes_of l from.candidate in
    let hd : Has o.globals d = has_at o.globals g.place d g.at in
    let lies : LiesIn (length file) d.span = all_has (λ (x : GlobalDef). LiesIn (length file) x.span) o.globals (sound_law o.input file o from.is).globals d hd in
    let spelled : SpellsConstExpr d.value (bytes_in file d.span) = all_has (IsSpelled file) o.globals (globals_spelled o.input file o from.is) d hd in
    let made : SpelledGlobal = record { kind = d.kind; value = d.value; bytes = bytes_in file d.span } in
    let same : y ≡ made = own l objects o d from lies y (ap (λ (part : Part). global_in p part.chunk.input part.content) g.is ∙ h.2) in
    subst IsSpelledGlobal (sym same) spelled)
  where
    own : (l : Linked) (objects : List Object) (o : Object) (d : GlobalDef) (from : IsReadFrom l o) → LiesIn (length (bytes_of l from.candidate)) d.span → (y : SpelledGlobal)
        → global_in (program l objects) o.input (make_global l objects o 0 d).content ≡ Some y → y ≡ record { kind = d.kind; value = d.value; bytes = bytes_in (bytes_of l from.candidate) d.span }
    own l objects o d from lies y told =
        let bytes = ap (λ fs. take d.span.len (drop d.span.start (slice_index_or fs (o.input - 1) []))) (files_are l objects) ∙ own_bytes l o from d.span lies in
        sym (some_is _ y told) ∙ ap (λ bs. record { kind = d.kind; value = d.value; bytes = bs }) bytes
