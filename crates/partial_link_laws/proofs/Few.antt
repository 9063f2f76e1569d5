-- An object that was read has fewer than 2^32 symbols: they are a vector, which has its count before it.
use Rattle.std.proofs.Common.{◌≡◌, ℕ, ◌<◌, ◌^◌, List, [], ◌∷◌, map, length, sym, ap, subst, ◌∙◌, Option, arith}
use Rattle.std.proofs.lemmas.List.{length-map}
use Rattle.object_rules.proofs.wasm_grammar_lemmas.leb_codec_lemmas.Ranges.{u32_range}
use Rattle.object_rules.specs.wasm_sections.declared.section.SectionSpan.{SectionSpan}
use Rattle.object_rules.specs.linking_section.declared.symbol.Symbol.{Symbol}
use Rattle.object_rules.specs.linking_section.declared.linking.Linking.{Linking}
use Rattle.object_rules.specs.linking_section.Linking.{SpellsSymbol, IsSaid}
use Rattle.object_rules.specs.wasm_grammar.Subsections.{payloads_of}
use Rattle.object_rules.specs.object_parts.declared.parts.Parts.{Parts}
use Rattle.object_rules.specs.object_parts.Reading.{code_relocs}
use Rattle.object_file.specs.declared.object.Object.{Object}
use Rattle.object_file.specs.Objects.{with_name, linking_of, object_with, object_from}
use Rattle.object_file.specs.ObjectOf.{IsObject}
use Rattle.object_file.proofs.Agreed.{agreed_keeps}
use Rattle.object_file.proofs.Told.{LinkingTold, parts_told}

few_said : (payloads : List (List ℕ)) (ss : List Symbol) → IsSaid SpellsSymbol payloads ss → length ss < 2 ^ 32
few_said [] ss s = let none : length ss ≡ 0 = ap (λ (xs : List Symbol). length xs) s in omega (arith, none)
few_said (payload ∷ []) ss s = u32_range (length ss) s.0 s.2
few_said (payload ∷ other ∷ more) ss s = absurd s

pub few_symbols : (input : ℕ) (bytes : List ℕ) (o : Object) → IsObject input bytes o → length o.symbols < 2 ^ 32
unfolding object_from
few_symbols input bytes o is =
    let all : List SectionSpan = is.sections in
    let parts : Parts = is.parts in
    let found = agreed_keeps all bytes parts is.agrees in
    let l : Linking = found.0 in
    let told = parts_told (code_relocs all bytes all) all bytes parts is.framed is.spelled in
    let spelled = subst LinkingTold found.1 told.linking in
    let same : object_with input all parts l ≡ o = ap (λ (x : Option Linking). object_with input all parts (linking_of x)) (sym found.1) ∙ sym is.is in
    let few : length l.symbols < 2 ^ 32 = few_said (payloads_of 8 spelled.1.subsections) l.symbols spelled.1.symbols in
    let many : length (map (with_name parts.imports) l.symbols) ≡ length l.symbols = length-map l.symbols (with_name parts.imports) in
    let mapped : length (map (with_name parts.imports) l.symbols) < 2 ^ 32 = subst (λ n. n < 2 ^ 32) (sym many) few in
    subst (λ (u : Object). length u.symbols < 2 ^ 32) same mapped
