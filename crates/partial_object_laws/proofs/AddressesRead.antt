-- What reads an address in an object reads it in a program's relocatable object too.
use Rattle.std.proofs.Common.{◌≡◌, ℕ, ◌+◌, ◌-◌, ◌<◌, ◌≤◌, ◌==◌, Bool, true, not, ◌||◌, List, map, length, refl, sym, ap, ◌∙◌, subst, arith}
use Rattle.std.specs.Prelude.{Some, None, option_map, slice_get, slice_index_or, All}
use Rattle.std.specs.List.{list_all}
use Rattle.std.proofs.lemmas.Bool.{eqb-true, or_left, or_right, eq-eqb}
use Rattle.std.proofs.lemmas.Option.{slice_get-map}
use Rattle.list_places.specs.Has.{Has}
use Rattle.list_places.proofs.Lists.{by_test, has_map, map_has}
use Rattle.object_rules.specs.wasm_instr.declared.opcodes.TheConstants.{GLOBAL_GET}
use Rattle.object_rules.specs.wasm_sections.declared.section.SectionSpan.{SectionSpan}
use Rattle.object_rules.specs.Windows.{start_of as start_in, is_global_kind, is_global_symbol, byte_before, is_set_or_read}
use Rattle.name_rules.specs.object_file.linking_section.declared.symbol.Symbol.{Symbol}
use Rattle.name_rules.specs.object_file.reloc_section.declared.entry.Reloc.{Reloc}
use Rattle.object_file.specs.declared.object.Object.{Object}
use Rattle.object_file.specs.ObjectOf.{IsObject}
use Rattle.object_file.specs.Sound.{Sound}
use Rattle.name_rules.specs.Entries.{InputSymbol}
use Rattle.link_rules.specs.Program.{Program, Part, Ref, Named, a_symbol, a_type}
use Rattle.output_module.specs.Filled.{FilledBody}
use Rattle.partial_rules.specs.Relocatable.{Relocatable, Windowed, body_head, later, section_relocs, relocatable_bytes}
use Rattle.partial_rules.specs.Partial.{standing, symbol_for, symbol_number, kept, named_reloc, windowed, open_local, relocatable}
use Rattle.partial_rules.specs.Sections.{sections_told}
use Rattle.partial_rules.specs.ReadAs.{shown, linking_for}
use Rattle.partial_parts_laws.specs.Linked.{Linked, program}
use Rattle.partial_parts_laws.specs.ReadBack.{AreLinked}
use Rattle.partial_parts_laws.specs.SymbolsBack.{AreNamed}
use Rattle.partial_parts_laws.proofs.SymbolsBack.{by_open}
use Rattle.partial_parts_laws.proofs.Stood.{code_named, window_stood}
use Rattle.partial_parts_laws.proofs.RulesKept.{all_from}
use Rattle.partial_parts_laws.proofs.WindowRules.{apart_has, bodies_apart, code_relocs}
use Rattle.partial_object_laws.specs.ReadAlone.{bytes_of, ReadWell, AddressesAreRead}
use Rattle.partial_object_laws.proofs.Functions.{BodiesLaw, IsBody, body_of}
use Rattle.partial_object_laws.proofs.Cells.{AddressesLaw, IsGot, got}
use Rattle.partial_object_laws.proofs.Placed.{in_section}

module _ (addresses_law : AddressesLaw) (filled_body : FilledBody) (l : Linked) (objects : List Object) (is : AreLinked l objects) (names : All AreNamed objects)
    (local : open_local (program l objects) ≡ None) (bodies : (x : Part) → Has (kept (program l objects) 0) x → IsBody l objects x) where
  abbrev p : Program
  p = program l objects

  abbrev r : Relocatable
  r = relocatable p

  abbrev all : List SectionSpan
  all = sections_told r

  abbrev start : ℕ
  start = start_in 10 all

  abbrev symbols : List Symbol
  symbols = map shown (map (λ y. symbol_for p y) (standing p))

  kind_of : (y : InputSymbol) → (symbol_for p y).kind ≡ y.symbol.kind
  kind_of y = by_open l objects is names (λ (s : Symbol). s.kind ≡ y.symbol.kind) y (λ e. refl) (λ e. refl)

  -- the symbol of a window has the kind that it had
  kind_stays : (x : Part) → Has (kept p 0) x → (ref : Ref) → Has x.named (a_symbol ref) → is_global_symbol (slice_get symbols (symbol_number p ref.entry)) ≡ is_global_kind ref.entry.symbol.kind
  kind_stays x hx ref hr =
      let st = window_stood l objects is names local 0 x hx ref hr (code_named l objects is names local x hx ref hr) in
      let there : slice_get symbols (symbol_number p ref.entry) ≡ Some (shown (symbol_for p st.by)) =
      slice_get-map shown (map (λ y. symbol_for p y) (standing p)) (symbol_number p ref.entry)
      ∙ ap (option_map shown) (slice_get-map (λ y. symbol_for p y) (standing p) (symbol_number p ref.entry) ∙ ap (option_map (λ y. symbol_for p y)) st.at) in
      ap is_global_symbol there ∙ ap is_global_kind (kind_of st.by ∙ st.kind)

  -- the byte before a window
  got_there : (x : Part) → Has (kept p 0) x → (by : ℕ) → ((k : ℕ) → k < length (windowed p x).bytes → slice_index_or (relocatable_bytes r) (start + (by + k)) 0 ≡ slice_index_or (windowed p x).bytes k 0)
      → (place : ℕ) → place + 5 ≤ length (windowed p x).bytes → IsGot (windowed p x).bytes place → (byte_before (relocatable_bytes r) (start + (by + place)) == GLOBAL_GET) ≡ true
  got_there x hx by stands place fits g =
      let one : 1 ≤ place = g.behind in
      let at : start + (by + place) - 1 ≡ start + (by + (place - 1)) = omega (arith, one) in
      eq-eqb (byte_before (relocatable_bytes r) (start + (by + place))) GLOBAL_GET
      (ap (λ n. slice_index_or (relocatable_bytes r) n 0) at ∙ (stands (place - 1) (omega (arith, fits, one)) ∙ g.opcode))

  by_named : (x : Part) → Has (kept p 0) x → (by : ℕ) → ((k : ℕ) → k < length (windowed p x).bytes → slice_index_or (relocatable_bytes r) (start + (by + k)) 0 ≡ slice_index_or (windowed p x).bytes k 0)
      → (n : Named) → Has x.named n → (named_reloc p n).offset + 5 ≤ length (windowed p x).bytes → is_set_or_read (relocatable_bytes r) start symbols (later by (named_reloc p n)) ≡ true
  by_named x hx by stands (a_type w) hn fits = refl
  by_named x hx by stands (a_symbol ref) hn fits = by_test (ref.kind == 7)
      (λ seven. by_test (is_global_kind ref.entry.symbol.kind)
      (λ global. or_left (not (ref.kind == 7) || is_global_symbol (slice_get symbols (symbol_number p ref.entry))) read
      (or_right (not (ref.kind == 7)) (is_global_symbol (slice_get symbols (symbol_number p ref.entry))) (kind_stays x hx ref hn ∙ global)))
      (λ address. or_right (not (ref.kind == 7) || is_global_symbol (slice_get symbols (symbol_number p ref.entry))) read
      (got_there x hx by stands ref.place fits (got addresses_law filled_body l objects x (bodies x hx) ref hn (eqb-true ref.kind 7 seven) address))))
      (λ none. or_left (not (ref.kind == 7) || is_global_symbol (slice_get symbols (symbol_number p ref.entry))) read
      (or_left (not (ref.kind == 7)) (is_global_symbol (slice_get symbols (symbol_number p ref.entry))) (ap not none)))
    where
      read : Bool
      read = byte_before (relocatable_bytes r) (start + (by + ref.place)) == GLOBAL_GET

  one_read : (y : Reloc) → Has (section_relocs body_head r.bodies) y → is_set_or_read (relocatable_bytes r) start symbols y ≡ true
  unfolding relocatable
  one_read y has =
      let o = in_section r y has in
      let m = has_map (λ x. windowed p x) (kept p 0) o.whole o.there in
      let n = has_map (named_reloc p) m.0.named o.own (subst (λ (w : Windowed). Has w.relocs o.own) (sym m.2) o.one_of) in
      let stands = subst (λ (w : Windowed). (k : ℕ) → k < length w.bytes → slice_index_or (relocatable_bytes r) (start + (o.by + k)) 0 ≡ slice_index_or w.bytes k 0) (sym m.2) o.stands in
      let fits : (named_reloc p n.0).offset + 5 ≤ length (windowed p m.0).bytes =
      apart_has 5 0 (length (windowed p m.0).bytes) (windowed p m.0).relocs (bodies_apart l objects is (windowed p m.0) (map_has (λ x. windowed p x) (kept p 0) m.0 m.1)) (named_reloc p n.0) (map_has (named_reloc p) m.0.named n.0 n.1) in
      subst (λ (z : Reloc). is_set_or_read (relocatable_bytes r) start symbols z ≡ true) (ap (λ (z : Reloc). later o.by z) n.2 ∙ o.is) (by_named m.0 m.1 o.by stands n.0 n.1 fits)

  all_read : list_all (is_set_or_read (relocatable_bytes r) start symbols) (section_relocs body_head r.bodies) ≡ true
  all_read = all_from (is_set_or_read (relocatable_bytes r) start symbols) (section_relocs body_head r.bodies) one_read

pub addresses_read : ReadWell → ((input : ℕ) (bytes : List ℕ) (object : Object) → IsObject input bytes object → Sound (length bytes) object) → BodiesLaw → AddressesLaw → FilledBody → AddressesAreRead
unfolding relocatable
addresses_read well sound_law bodies_law addresses_law filled_body l objects read local codes =
    let p : Program = program l objects in
    let w = well l objects read in
    let bodies : (x : Part) → Has (kept p 0) x → IsBody l objects x =
    body_of bodies_law l objects read w.linked (λ o ho. sound_law o.input (bytes_of l (read.each o ho).candidate) o (read.each o ho).is) in
    ap (list_all (is_set_or_read (relocatable_bytes (relocatable p)) (start_in 10 (sections_told (relocatable p))) (linking_for (relocatable p)).symbols)) (code_relocs (relocatable p))
    ∙ all_read addresses_law filled_body l objects w.linked w.named local bodies
