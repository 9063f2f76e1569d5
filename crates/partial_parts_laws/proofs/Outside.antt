-- The parts of inputs before and behind the run.
use Rattle.std.proofs.Common.{◌≡◌, ℕ, ◌+◌, ◌<◌, ◌≤◌, ◌==◌, true, false, List, [], ◌∷◌, ◌++◌, map, inl, inr, refl, sym, ap, ◌∙◌, subst, arith}
use Rattle.std.specs.Prelude.{Option, Some, option_map, slice_get, filter_map, flat_map, All, ℤ}
use Rattle.std.specs.List.{AllZip}
use Rattle.std.proofs.lemmas.Option.{slice_get-map}
use Rattle.list_places.specs.Has.{Has}
use Rattle.list_places.proofs.Lists.{all_has, has_at, has_left, has_right, flat_has}
use Rattle.name_rules.specs.object_file.reloc_section.declared.entry.Reloc.{Reloc}
use Rattle.name_rules.specs.object_file.linking_section.declared.symbol.Symbol.{Symbol}
use Rattle.name_rules.specs.object_file.linking_section.declared.symbol.SymbolKind.{SymbolKind}
use Rattle.name_rules.specs.object_file.linking_section.declared.symbol.SymbolKind.TheVariants.{Section}
use Rattle.name_rules.specs.object_file.linking_section.Flags.{kind_code, is_undefined}
use Rattle.name_rules.specs.object_file.body_windows.declared.operand.Operand.{Operand}
use Rattle.name_rules.specs.object_file.body_windows.declared.operand.Operand.TheVariants as operands
use Rattle.name_rules.specs.object_file.object_parts.declared.parts.GlobalDef.{GlobalDef}
use Rattle.name_rules.specs.object_file.object_columns.declared.functions.FunctionDef.{FunctionDef}
use Rattle.name_rules.specs.object_file.object_columns.declared.segments.SegmentDef.{SegmentDef}
use Rattle.object_file.specs.Sound.{Sound, IsNamedBy, OperandNames, WindowNames}
use Rattle.object_rules.specs.Relocs.{may_name}
use Rattle.name_rules.specs.object_file.declared.object.Object.{Object}
use Rattle.name_rules.specs.object_file.Spaces.{written_type}
use Rattle.made_symbols.specs.declared.mode.Mode.TheVariants.{Plain}
use Rattle.made_symbols.specs.Made.{made}
use Rattle.name_rules.specs.Entries.{InputSymbol, symbols_of, made_from}
use Rattle.image_emit.specs.Bytes.{file_part}
use Rattle.link_rules.specs.Program.{Program, Part, a_symbol, ref_in, operand_named, window_named, function_part, segment_part, global_part, chunk_at}
use Rattle.link_rules.specs.Values.{part_bytes}
use Rattle.partial_laws.specs.Inputs.{Run, Objects, as_input, later, whole_objects, later_objects, AreCut}
use Rattle.partial_laws.specs.Standing.{later_symbol, joining}
use Rattle.partial_laws.specs.Joining.{Joining}
use Rattle.partial_laws.specs.Joined.{linked_symbols}
use Rattle.partial_laws.proofs.Symbols.{before_symbols, behind_symbols}
use Rattle.partial_laws.proofs.Joins.{not_after, not_before, map_has as map_where}
use Rattle.partial_laws.proofs.Loading.{rise_above}
use Rattle.partial_laws.proofs.Stated.{stand}
use Rattle.partial_parts_laws.specs.Linked.{Links, SameFile, alone_program, whole_program, later_program}
use Rattle.partial_parts_laws.specs.Moves.{moved_chunk, StandsInLinks}
use Rattle.partial_parts_laws.proofs.Zips.{BothOr, zip_picked}
use Rattle.partial_parts_laws.proofs.Parts.{res, files_are}
use Rattle.partial_parts_laws.proofs.Symbols.{symbol_at, symbol_input}
use Rattle.partial_parts_laws.proofs.Chunks.{chunk_before, chunk_behind}
use Rattle.partial_parts_laws.proofs.Referred.{whole_meaning}
use Rattle.partial_parts_laws.proofs.Built.{code_section, data_section, both_refs, later_meaning, alike_by, Alikes, AlikeSides, alike_part}

module _ (run : Run) (os : Objects) (ls : Links) (s : StandsInLinks run os ls) where
  abbrev cut : AreCut run os
  cut = s.names.cut

  abbrev p : Program
  p = alone_program run os ls

  abbrev W : List Object
  W = whole_objects os

  abbrev L : List Object
  L = later_objects run os

  abbrev j : Joining
  j = joining run os p

  -- An object that stays, and as what it is in the later link.
  pub record Stays (o x : Object) : Type 0 where
    pub there : Has W o
    pub above : 0 < o.input
    pub symbols : symbols_of L x ≡ map j.move (symbols_of W o)
    pub kept : (e : InputSymbol) → Has (symbols_of W o) e → j.keep e ≡ true
    pub same : (e : InputSymbol) → Has (symbols_of W o) e → (is_undefined (j.move e).symbol ≡ is_undefined e.symbol) × ((j.move e).defines ≡ e.defines)
    pub types : (n : ℕ) → written_type x n ≡ written_type o n
    pub chunk : (kind n : ℕ) → chunk_at x.input kind n ≡ moved_chunk run os p (chunk_at o.input kind n)
    pub file : SameFile ls.whole o.input ls.after x.input

  pub stays_known : (o x : Object) → Stays o x → (e : InputSymbol) → Has (symbols_of W o) e → Has (linked_symbols W) e
  stays_known o x st e has = has_right (made_from 0 (made Plain)) (flat_map (symbols_of W) W) e (flat_has (symbols_of W) W o e st.there has)

  ref_stays : (o x : Object) → Stays o x → (place kind symbol : ℕ) (addend : ℤ) → IsNamedBy kind (slice_get o.symbols symbol) → ((k : SymbolKind) → may_name kind k ≡ true → (kind_code k == kind_code Section) ≡ false)
      → BothOr (Alikes run os ls s) (option_map a_symbol (ref_in (res ls.whole W o) place kind symbol addend)) (option_map a_symbol (ref_in (res ls.after L x) place kind symbol addend))
  ref_stays o x st place kind symbol addend named section =
      both_refs (Alikes run os ls s) j.move (whole_meaning run os ls s) (later_meaning run os ls s) place kind addend
      (slice_get (symbols_of W o) symbol) (slice_get (map (whole_meaning run os ls s) (symbols_of W o)) symbol) (slice_get (symbols_of L x) symbol) (slice_get (map (later_meaning run os ls s) (symbols_of L x)) symbol)
      (slice_get-map (whole_meaning run os ls s) (symbols_of W o) symbol)
      (ap (λ xs. slice_get xs symbol) st.symbols ∙ slice_get-map j.move (symbols_of W o) symbol)
      (slice_get-map (later_meaning run os ls s) (symbols_of L x) symbol)
      (λ e is. let has = has_at (symbols_of W o) symbol e is in
      let may = may_of (slice_get o.symbols symbol) e.symbol (symbol_at W o 0 o.symbols symbol e is) named in
      alike_by run os ls s place kind addend e e (stays_known o x st e has) (stays_known o x st e has) (st.kept e has) refl refl refl (section e.symbol.kind may) may)
    where
      may_of : (y : Option Symbol) (sy : Symbol) → y ≡ Some sy → IsNamedBy kind y → may_name kind sy.kind ≡ true
      may_of y sy is told = (subst (IsNamedBy kind) is told).0

  function_named : (o x : Object) → Stays o x → (ops : List Operand) → ((op : Operand) → Has ops op → OperandNames o op)
      → AllZip (Alikes run os ls s) (filter_map (λ op. operand_named (res ls.whole W o) op) ops) (filter_map (λ op. operand_named (res ls.after L x) op) ops)
  function_named o x st ops names = zip_picked (Alikes run os ls s) (λ op. operand_named (res ls.whole W o) op) (λ op. operand_named (res ls.after L x) op) ops (λ op has. each op (names op has))
    where
      each : (op : Operand) → OperandNames o op → BothOr (Alikes run os ls s) (operand_named (res ls.whole W o) op) (operand_named (res ls.after L x) op)
      each operands.Number named = tt
      each (operands.Symbol kind place symbol addend) named = ref_stays o x st place kind symbol addend named.1 (code_section kind named.0)
      each (operands.TypeRef place index) named = ap (λ t. record { place = place; type = t }) (st.types index)
      each operands.TableZero named = tt

  segment_named : (o x : Object) → Stays o x → (ws : List Reloc) → ((w : Reloc) → Has ws w → WindowNames o w)
      → AllZip (Alikes run os ls s) (filter_map (λ w. window_named (res ls.whole W o) w) ws) (filter_map (λ w. window_named (res ls.after L x) w) ws)
  segment_named o x st ws names =
      zip_picked (Alikes run os ls s) (λ w. window_named (res ls.whole W o) w) (λ w. window_named (res ls.after L x) w) ws
      (λ w has. let named = names w has in ref_stays o x st w.offset w.kind w.index w.addend named.1 (data_section w.kind named.0))

  -- ---- parts

  same_bytes : (y x : Part) → file_part ls.after.files y.source ≡ file_part ls.whole.files x.source → part_bytes (later_program run os ls) y ≡ part_bytes (whole_program run os ls) x
  same_bytes y x same = ap (λ fs. file_part fs y.source) (files_are ls.after L) ∙ (same ∙ sym (ap (λ fs. file_part fs x.source) (files_are ls.whole W)))

  pub function_stays : (o x : Object) → Stays o x → (n : ℕ) (f : FunctionDef) → slice_get o.functions n ≡ Some f
      → AlikeSides run os ls s (function_part ls.whole.all W (res ls.whole W o) n f) (function_part ls.after.all L (res ls.after L x) n f)
  function_stays o x st n f is =
      let so = all_has (λ (y : Object). (size : ℕ) × Sound size y) W s.sound o st.there in
      let sound : Sound so.0 o = so.1 in
      let names : All (OperandNames o) f.operands = all_has (λ (g : FunctionDef). All (OperandNames o) g.operands) o.functions sound.operand_names f (has_at o.functions n f is) in
      let a : Part = function_part ls.whole.all W (res ls.whole W o) n f in
      let b : Part = function_part ls.after.all L (res ls.after L x) n f in
      alike_part run os ls s a b (st.chunk 0 n) (record { type = st.types f.type_index; align = refl; retained = refl; global = refl })
      (function_named o x st f.operands (λ op has. all_has (OperandNames o) f.operands names op has)) (st.file.len f.span) (same_bytes b a (st.file.bytes f.span)) st.above

  pub segment_stays : (o x : Object) → Stays o x → (n : ℕ) (g : SegmentDef) → slice_get o.segments n ≡ Some g
      → AlikeSides run os ls s (segment_part ls.whole.all W (res ls.whole W o) n g) (segment_part ls.after.all L (res ls.after L x) n g)
  segment_stays o x st n g is =
      let so = all_has (λ (y : Object). (size : ℕ) × Sound size y) W s.sound o st.there in
      let sound : Sound so.0 o = so.1 in
      let names : All (WindowNames o) g.windows = all_has (λ (h : SegmentDef). All (WindowNames o) h.windows) o.segments sound.window_names g (has_at o.segments n g is) in
      let a : Part = segment_part ls.whole.all W (res ls.whole W o) n g in
      let b : Part = segment_part ls.after.all L (res ls.after L x) n g in
      alike_part run os ls s a b (st.chunk 1 n) (record { type = refl; align = refl; retained = refl; global = refl })
      (segment_named o x st g.windows (λ w has. all_has (WindowNames o) g.windows names w has)) (st.file.len g.span) (same_bytes b a (st.file.bytes g.span)) st.above

  pub global_stays : (o x : Object) → Stays o x → (n : ℕ) (g : GlobalDef) → slice_get o.globals n ≡ Some g
      → AlikeSides run os ls s (global_part ls.whole.all W (res ls.whole W o) n g) (global_part ls.after.all L (res ls.after L x) n g)
  global_stays o x st n g is =
      let a : Part = global_part ls.whole.all W (res ls.whole W o) n g in
      let b : Part = global_part ls.after.all L (res ls.after L x) n g in
      alike_part run os ls s a b (st.chunk 2 n) (record { type = refl; align = refl; retained = refl; global = refl }) tt refl (same_bytes b a refl) st.above

  -- ---- which objects stay

  pub before_stays : (o : Object) → Has os.before o → Stays o o
  before_stays o has =
      let le = all_has (λ (y : Object). y.input ≤ run.first) os.before cut.before o has in
      let low : (e : InputSymbol) → Has (symbols_of W o) e → e.input ≤ run.first = λ e h. subst (λ n. n ≤ run.first) (sym (symbol_input W o e h)) le in
      record {
        there = has_left os.before (os.middle ++ os.behind) o has;
        above = above o (has_left os.before (os.middle ++ os.behind) o has);
        symbols = before_symbols run os cut o le ∙ sym (stays_all (symbols_of W o) (λ e h. (not_after run os p cut (stand run os p s.names) e (low e h)).1));
        kept = λ e h. (not_after run os p cut (stand run os p s.names) e (low e h)).0;
        same = λ e h. let is = (not_after run os p cut (stand run os p s.names) e (low e h)).1 in (ap (λ (y : InputSymbol). is_undefined y.symbol) is, ap (λ (y : InputSymbol). y.defines) is);
        types = λ n. refl;
        chunk = λ kind n. sym (chunk_before run os p (chunk_at o.input kind n) le);
        file = s.files.before o has;
      }
    where
      above : (y : Object) → Has W y → 0 < y.input
      above y h = all_has (λ (z : Object). 0 < z.input) W (rise_above 0 W s.names.loaded.rise) y h

      stays_all : (xs : List InputSymbol) → ((e : InputSymbol) → Has xs e → j.move e ≡ e) → map j.move xs ≡ xs
      stays_all [] each = refl
      stays_all (e ∷ xs) each = rw (each e (inl refl), stays_all xs (λ y h. each y (inr h))) refl

  pub behind_stays : (o : Object) → Has os.behind o → Stays o (as_input (later run o.input) o)
  behind_stays o has =
      let lt = all_has (λ (y : Object). run.first + run.many < y.input) os.behind cut.behind o has in
      let high : (e : InputSymbol) → Has (symbols_of W o) e → run.first + run.many < e.input = λ e h. subst (λ n. run.first + run.many < n) (sym (symbol_input W o e h)) lt in
      record {
        there = has_right os.before (os.middle ++ os.behind) o (has_right os.middle os.behind o has);
        above = omega (arith, lt);
        symbols = behind_symbols run os cut o lt ∙ sym (map_where j.move (later_symbol run os) (symbols_of W o) (λ e h. (not_before run os p cut (stand run os p s.names) e (high e h)).1));
        kept = λ e h. (not_before run os p cut (stand run os p s.names) e (high e h)).0;
        same = λ e h. let is = (not_before run os p cut (stand run os p s.names) e (high e h)).1 in (ap (λ (y : InputSymbol). is_undefined y.symbol) is, ap (λ (y : InputSymbol). y.defines) is);
        types = λ n. refl;
        chunk = λ kind n. sym (chunk_behind run os p (chunk_at o.input kind n) lt);
        file = s.files.behind o has;
      }
