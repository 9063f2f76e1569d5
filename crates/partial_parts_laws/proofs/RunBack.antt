-- What the later link reads of the partial link of a run is the symbols and parts of the run alone; and what it defines is what the run defines in the
-- whole link.
use Rattle.std.proofs.Common.{◌≡◌, ℕ, ◌+◌, ◌-◌, ◌<◌, ◌≤◌, ◌==◌, Bool, true, false, not, ◌&&◌, List, ◌++◌, length, ⊎_elim, refl, sym, ap, ◌∙◌, subst, arith}
use Rattle.std.specs.Prelude.{Option, Some, None, find, flat_map, slice_get, All, if◌then◌else◌}
use Rattle.std.proofs.lemmas.Bool.{and_parts}
use Rattle.std.proofs.lemmas.Bool.Decides.{nat_tests}
use Rattle.std.proofs.lemmas.Option.{slice_get_cases}
use Rattle.list_places.specs.Has.{Has}
use Rattle.list_places.proofs.Lists.{all_has, filter_has, has_flat, has_left, has_map, has_right, map_has}
use Rattle.name_rules.specs.object_file.wasm_types.declared.import.Import.{Import}
use Rattle.object_rules.specs.wasm_types.declared.import.ImportKind.{ImportKind}
use Rattle.object_rules.specs.wasm_types.declared.import.ImportKind.TheVariants as kinds
use Rattle.name_rules.specs.object_file.linking_section.declared.symbol.Symbol.{Symbol}
use Rattle.name_rules.specs.object_file.linking_section.declared.symbol.SymbolKind.{SymbolKind}
use Rattle.name_rules.specs.object_file.linking_section.declared.symbol.SymbolKind.TheVariants.{Function, Datum, GlobalVar, Section, Table}
use Rattle.name_rules.specs.object_file.linking_section.declared.init.InitFunc.{InitFunc}
use Rattle.name_rules.specs.object_file.linking_section.declared.member_kinds.TheConstants as members
use Rattle.name_rules.specs.object_file.linking_section.Flags.{is_undefined}
use Rattle.name_rules.specs.object_file.body_windows.declared.operand.Operand.{Operand}
use Rattle.name_rules.specs.object_file.body_windows.declared.operand.Operand.TheVariants as operands
use Rattle.name_rules.specs.object_file.object_columns.declared.functions.FunctionDef.{FunctionDef}
use Rattle.name_rules.specs.object_file.object_columns.declared.segments.SegmentDef.{SegmentDef}
use Rattle.name_rules.specs.object_file.declared.object.Object.{Object}
use Rattle.name_rules.specs.object_file.Spaces.{function_imports}
use Rattle.object_file.specs.Sound.{Sound, TypeInRange, NamesInRange, OperandNames, IsInit, function_count}
use Rattle.name_rules.specs.Entries.{InputSymbol, is_kept, in_kept_part, index_in, entry_in, symbols_of}
use Rattle.link_rules.specs.Program.{Program, chunk_at}
use Rattle.link_rules.specs.Marks.{all_symbols}
use Rattle.partial_rules.specs.Partial.{stands, is_open, open_of, open_symbol, defined_index, place_of}
use Rattle.partial_laws.specs.Inputs.{Run, Objects, as_input, alone, whole_objects, run_objects, later_objects}
use Rattle.partial_laws.specs.Standing.{defines_in, alone_symbol, joined_symbol}
use Rattle.partial_laws.specs.Kept.{is_taken_away}
use Rattle.partial_laws.specs.Names.{IsOf, IsRead}
use Rattle.partial_laws.proofs.Instance.{all_from_has}
use Rattle.partial_laws.proofs.Lists.{all_map}
use Rattle.partial_laws.proofs.Loading.{middle_found, run_rise}
use Rattle.partial_laws.proofs.Stated.{parts_are_kept}
use Rattle.partial_laws.proofs.Symbols.{all_alone}
use Rattle.partial_parts_laws.specs.Linked.{Links, alone_program, bytes_at}
use Rattle.partial_parts_laws.specs.PartsRead.{PartsRead}
use Rattle.partial_parts_laws.specs.ReadBack.{LieInFiles, AreLinked}
use Rattle.partial_parts_laws.specs.SymbolsBack.{AreNamed}
use Rattle.partial_parts_laws.specs.RunBack.{RunIsLinked, IsReadBack, RunsAreRead}
use Rattle.partial_parts_laws.proofs.Symbols.{symbol_of}
use Rattle.partial_parts_laws.proofs.RunParts.{RunStands, function_taken, segment_taken}
use Rattle.partial_parts_laws.proofs.PartsBack.{parts_are_read}
use Rattle.partial_parts_laws.proofs.StandingSymbols.{of_objects, closed_defines}
use Rattle.partial_parts_laws.proofs.SymbolsRead.{symbols_are_read}

not_true : (b : Bool) → not b ≡ true → b ≡ false
not_true true e = absurd cc
not_true false e = refl

and_true : (b c : Bool) → c ≡ true → (b && c) ≡ b
and_true true c e = e
and_true false c e = refl

-- ---- an object as another input

module _ (n : ℕ) (o : Object) where
  abbrev other : Object
  other = as_input n o

  type_stays : (k : ImportKind) → TypeInRange o k → TypeInRange other k
  type_stays (kinds.Function t) h = h
  type_stays (kinds.Table t) h = h
  type_stays (kinds.Memory m) h = h
  type_stays (kinds.GlobalVar g) h = h

  range_stays : (s : Symbol) (k : SymbolKind) → NamesInRange o s k → NamesInRange other s k
  range_stays s Function h = h
  range_stays s Datum h = h
  range_stays s GlobalVar h = h
  range_stays s Section h = h
  range_stays s Table h = h

  operand_stays : (op : Operand) → OperandNames o op → OperandNames other op
  operand_stays operands.Number h = h
  operand_stays (operands.Symbol kind place symbol addend) h = h
  operand_stays (operands.TypeRef place index) h = h
  operand_stays operands.TableZero h = h

  init_stays : (x : Option Symbol) → IsInit o x → IsInit other x
  init_stays None h = h
  init_stays (Some s) h = h

  sound_stays : (size : ℕ) → Sound size o → Sound size other
  sound_stays size s = record {
    short = s.short;
    types = s.types;
    imported_types = all_map (λ (i : Import). TypeInRange o i.kind) (λ (i : Import). TypeInRange other i.kind) (λ i h. type_stays i.kind h) o.imports s.imported_types;
    symbols = all_map (λ (x : Symbol). NamesInRange o x x.kind) (λ (x : Symbol). NamesInRange other x x.kind) (λ x h. range_stays x x.kind h) o.symbols s.symbols;
    names = s.names;
    bodies = s.bodies;
    segments = s.segments;
    globals = s.globals;
    alignments = s.alignments;
    windows = s.windows;
    window_names = s.window_names;
    operands = s.operands;
    operand_names = all_map (λ (f : FunctionDef). All (OperandNames o) f.operands) (λ (f : FunctionDef). All (OperandNames other) f.operands) (λ f h. all_map (OperandNames o) (OperandNames other) operand_stays f.operands h) o.functions s.operand_names;
    inits = all_map (λ (i : InitFunc). IsInit o (slice_get o.symbols i.symbol)) (λ (i : InitFunc). IsInit other (slice_get o.symbols i.symbol)) (λ i h. init_stays (slice_get o.symbols i.symbol) h) o.inits s.inits;
    members = s.members;
    members_differ = s.members_differ;
    groups_differ = s.groups_differ;
    names_differ = s.names_differ;
  }

  names_stay : AreNamed o → AreNamed other
  names_stay h = record { sections = h.sections; imported = h.imported; tables = h.tables }

module _ (run : Run) (os : Objects) (ls : Links) (s : RunIsLinked run os ls) (b : IsReadBack run os ls) where
  abbrev p : Program
  p = alone_program run os ls

  abbrev W : List Object
  W = whole_objects os

  abbrev RO : List Object
  RO = run_objects run os

  abbrev L : List Object
  L = later_objects run os

  abbrev M : List InputSymbol
  M = flat_map (symbols_of W) os.middle

  abbrev in_run : Object → Object
  in_run o = as_input (alone run o.input) o

  in_whole : (o : Object) → Has os.middle o → Has W o
  in_whole o ho = has_right os.before (os.middle ++ os.behind) o (has_left os.middle os.behind o ho)

  -- what holds of the run's objects as inputs of the run alone
  of_run : (P : Object → Type 0) → ((o : Object) → Has os.middle o → P (in_run o)) → (x : Object) → Has RO x → P x
  of_run P each x has = let m = has_map in_run os.middle x has in subst P m.2 (each m.0 m.1)

  sound_of : (o : Object) → Has os.middle o → (size : ℕ) × Sound size o
  sound_of o ho = all_has (λ (x : Object). (size : ℕ) × Sound size x) W s.sound o (in_whole o ho)

  sound_alone : (o : Object) → Has os.middle o → (size : ℕ) × Sound size (in_run o)
  sound_alone o ho = let so = sound_of o ho in (so.0, sound_stays (alone run o.input) o so.0 so.1)

  lie_alone : LieInFiles ls.run_alone RO
  lie_alone = record {
    functions = of_run (λ x. (f : FunctionDef) → Has x.functions f → length (bytes_at ls.run_alone x.input f.span) ≡ f.span.len)
        (λ o ho f hf. ap (λ bs. length bs) ((s.files.of_run o ho).bytes f.span) ∙ s.files.functions o ho f hf);
    segments = of_run (λ x. (g : SegmentDef) → Has x.segments g → length (bytes_at ls.run_alone x.input g.span) ≡ g.span.len)
        (λ o ho g hg. ap (λ bs. length bs) ((s.files.of_run o ho).bytes g.span) ∙ s.files.segments o ho g hg);
  }

  named_alone : All AreNamed RO
  named_alone = all_from_has AreNamed RO (of_run AreNamed (λ o ho. names_stay (alone run o.input) o (all_has AreNamed os.middle s.named o ho)))

  linked : AreLinked ls.run_alone RO
  linked = record {
    strict = s.strict;
    rise = run_rise run os s.cut s.loaded.rise;
    sound = all_from_has (λ (x : Object). (size : ℕ) × Sound size x) RO (of_run (λ x. (size : ℕ) × Sound size x) sound_alone);
    lie = lie_alone;
    no_clash = s.no_clash;
  }

  parts : PartsRead os.joined ls.after p
  parts = subst (λ ob. PartsRead ob ls.after p) (sym b.read) (parts_are_read ls.run_alone RO linked b.codes b.writable ls.after os.joined.input b.file)

  stands_run : RunStands run os ls
  stands_run = record { cut = s.cut; loaded = s.loaded; sound = s.sound; strict_alone = s.strict; groups = parts.groups; functions_imported = parts.functions_imported }

  -- ---- what is defined

  -- a symbol of the run in the whole link, of a part that is kept in the run alone
  parts_agree : (o : Object) → Has os.middle o → (place : ℕ) (x : Symbol) (k : SymbolKind) → NamesInRange o x k → (not (is_undefined x) && in_kept_part RO (in_run o) x k) ≡ true
      → in_kept_part L os.joined (record x { index = defined_index p (record (alone_symbol run os (entry_in W o place x)) { index = index_in o x k }) k }) k ≡ in_kept_part W o x k
  parts_agree o ho place x Function named defines =
      let d = and_parts (not (is_undefined x)) (is_kept RO (in_run o) members.FUNCTION x.index) defines in
      let defined : is_undefined x ≡ false = not_true (is_undefined x) d.0 in
      let behind : length (function_imports o) ≤ x.index = grind (arith, nat_tests, named.1, defined) in
      let low : x.index < function_count o = named.0 in
      let n : ℕ = x.index - length (function_imports o) in
      let within : n < length o.functions = omega (arith, behind, low) in
      let again : n + length (function_imports o) ≡ x.index = omega (arith, behind) in
      let at : ℕ = place_of p 0 (chunk_at (alone run o.input) 0 n) in
      let turned : length (open_of p Function) + at ≡ at + length (function_imports os.joined) = omega (arith, parts.functions_imported) in
      let from : run.first < o.input = all_has (λ (y : Object). run.first < y.input) os.middle s.cut.from o ho in
      let to : o.input ≤ run.first + run.many = all_has (λ (y : Object). y.input ≤ run.first + run.many) os.middle s.cut.to o ho in
      ⊎_elim (λ f.
      ap (is_kept L os.joined members.FUNCTION) turned
      ∙ ((parts_are_kept run os s.cut).joined members.FUNCTION (at + length (function_imports os.joined))
      ∙ (ap not (function_taken run os ls stands_run o ho n f.0 f.2 (ap (is_kept RO (in_run o) members.FUNCTION) again ∙ d.1) ∙ ap (is_taken_away os o members.FUNCTION) again)
      ∙ sym ((parts_are_kept run os s.cut).of_run o members.FUNCTION x.index from to ∙ and_true (not (is_taken_away os o members.FUNCTION x.index)) (is_kept RO (in_run o) members.FUNCTION x.index) d.1))))
      (λ past. absurd (omega (arith, within, past.0))) (slice_get_cases o.functions n).1
  parts_agree o ho place x Datum named defines =
      let d = and_parts (not (is_undefined x)) (is_kept RO (in_run o) members.DATA x.index) defines in
      let within = (named (not_true (is_undefined x) d.0)).0 in
      let from : run.first < o.input = all_has (λ (y : Object). run.first < y.input) os.middle s.cut.from o ho in
      let to : o.input ≤ run.first + run.many = all_has (λ (y : Object). y.input ≤ run.first + run.many) os.middle s.cut.to o ho in
      ⊎_elim (λ g.
      (parts_are_kept run os s.cut).joined members.DATA (place_of p 1 (chunk_at (alone run o.input) 1 x.index))
      ∙ (ap not (segment_taken run os ls stands_run o ho x.index g.0 g.2 d.1)
      ∙ sym ((parts_are_kept run os s.cut).of_run o members.DATA x.index from to ∙ and_true (not (is_taken_away os o members.DATA x.index)) (is_kept RO (in_run o) members.DATA x.index) d.1)))
      (λ past. absurd (omega (arith, within, past.0))) (slice_get_cases o.segments x.index).1
  parts_agree o ho place x GlobalVar named defines = refl
  parts_agree o ho place x Section named defines = refl
  parts_agree o ho place x Table named defines = refl

  found : All (λ (o : Object). find (λ (x : Object). x.input == o.input) os.middle ≡ Some o) os.middle
  found = middle_found run os s.cut s.loaded.rise

  entry_stays : (o : Object) → Has os.middle o → (place : ℕ) (x : Symbol) → Has o.symbols x → (alone_symbol run os (entry_in W o place x)).defines ≡ true → is_open p (alone_symbol run os (entry_in W o place x)) ≡ false
      → (joined_symbol run os p (alone_symbol run os (entry_in W o place x))).defines ≡ (entry_in W o place x).defines
  entry_stays o ho place x hx defines closed =
      let e : InputSymbol = entry_in W o place x in
      let so = sound_of o ho in
      let sound : Sound so.0 o = so.1 in
      let here : (not (is_undefined x) && in_kept_part RO (in_run o) x x.kind) ≡ true =
      sym (ap (defines_in run os e) (all_has (λ (y : Object). find (λ (z : Object). z.input == y.input) os.middle ≡ Some y) os.middle found o ho)) ∙ defines in
      ap (λ (c : Bool). (entry_in L os.joined 0 (if c then open_symbol p (alone_symbol run os e) else record x { index = defined_index p (alone_symbol run os e) x.kind })).defines) closed
      ∙ ap (λ (c : Bool). not (is_undefined x) && c) (parts_agree o ho place x x.kind (all_has (λ (y : Symbol). NamesInRange o y y.kind) o.symbols sound.symbols x hx) here)

  of_objects_alone : IsOf p RO
  of_objects_alone = of_objects ls.run_alone RO linked named_alone

  alone_there : (e : InputSymbol) → Has M e → Has (all_symbols p) (alone_symbol run os e)
  alone_there e has = subst (λ xs. Has xs (alone_symbol run os e)) (sym (of_objects_alone.symbols_are ∙ all_alone run os s.cut found)) (map_has (alone_symbol run os) M e has)

  closed_stays : (e : InputSymbol) → Has M e → stands p (alone_symbol run os e) ≡ true → is_open p (alone_symbol run os e) ≡ false → (joined_symbol run os p (alone_symbol run os e)).defines ≡ e.defines
  closed_stays e has there closed =
      let f = has_flat (symbols_of W) os.middle e has in
      let y = symbol_of W f.0 e f.2 in
      let defines = closed_defines ls.run_alone RO linked named_alone (alone_symbol run os e) (filter_has (stands p) (all_symbols p) (alone_symbol run os e) (alone_there e has) there) closed in
      subst (λ (x : InputSymbol). (alone_symbol run os x).defines ≡ true → is_open p (alone_symbol run os x) ≡ false → (joined_symbol run os p (alone_symbol run os x)).defines ≡ x.defines) y.is
      (entry_stays f.0 f.1 y.place y.symbol y.there) defines closed

  -- ---- all

  is_read : IsRead run os p
  is_read =
      let symbols = symbols_are_read ls.run_alone RO linked named_alone b.codes b.writable b.short run os os.joined.input b.read in
      record {
        symbols = symbols.0;
        read = symbols.1;
        closed = all_from_has (λ (e : InputSymbol). stands p (alone_symbol run os e) ≡ true → is_open p (alone_symbol run os e) ≡ false → (joined_symbol run os p (alone_symbol run os e)).defines ≡ e.defines) M closed_stays;
      }

pub runs_are_read : RunsAreRead
runs_are_read run os ls s b = (is_read run os ls s b, parts run os ls s b)
