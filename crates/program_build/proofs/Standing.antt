-- The parts of loaded objects stand.
use Rattle.std.proofs.Common.{◌≡◌, ℕ, ◌+◌, ◌-◌, ◌≤◌, ◌==◌, ◌&&◌, ◌∙◌, List, [], ◌∷◌, length, refl, sym, ap, subst, arith, inl, inr, Option, Some, None, All, Bool, map}
use Rattle.std.specs.Prelude.{IfSome, slice_get, slice_index_or, find, flat_map, option_map, filter_map, if◌then◌else◌}
use Rattle.std.proofs.lemmas.List.Elements.{All-append, All-cons, All-nil, All-filter}
use Rattle.std.proofs.lemmas.Option.{slice_get-map}
use Rattle.loose_calls.specs.link_program.wl_base.declared.span.Span.{Span}
use Rattle.loose_calls.specs.link_program.linking_section.declared.symbol.SymbolKind.{SymbolKind}
use Rattle.loose_calls.specs.link_program.linking_section.declared.symbol.SymbolKind.TheVariants.{Function, Datum, GlobalVar, Section, Table}
use Rattle.loose_calls.specs.link_program.object_parts.declared.parts.GlobalDef.{GlobalDef}
use Rattle.loose_calls.specs.link_program.object_columns.declared.functions.FunctionDef.{FunctionDef}
use Rattle.loose_calls.specs.link_program.object_columns.declared.segments.SegmentDef.{SegmentDef}
use Rattle.loose_calls.specs.link_program.body_windows.Operands.{StandIn}
use Rattle.loose_calls.specs.link_program.object_parts.Spans.{LiesIn}
use Rattle.loose_calls.specs.link_program.object_file.declared.object.Object.{Object}
use Rattle.loose_calls.specs.link_program.object_file.Sound.{Sound, WindowNames, WindowsStandIn}
use Rattle.loose_calls.specs.link_program.made_symbols.declared.mode.Mode.{Mode}
use Rattle.loose_calls.specs.link_program.made_symbols.Made.{made, MadeSymbol}
use Rattle.loose_calls.specs.link_program.round_rules.Rounds.{Candidate}
use Rattle.loose_calls.specs.link_program.name_rules.Entries.{InputSymbol, entries, made_entry}
use Rattle.loose_calls.specs.link_program.name_rules.Meanings.{Resolved, resolve, resolved_in, uses_of}
use Rattle.loose_calls.specs.link_program.link_plan.declared.plan.Plan.{Plan}
use Rattle.loose_calls.specs.link_program.link_rules.Program.{Program, strict_program, program_of, Part, Ref, parts_of, parts_in, made_parts_from, made_part, made_kind, linker_made, no_source, a_symbol, init_calls, function_part, segment_part, global_part, is_part_kept, span_in, option_onto, operand_named, window_named}
use Rattle.loose_calls.specs.link_program.declared.home.Home.{Home}
use Rattle.loose_calls.specs.link_program.Loaded.{IsLoaded, IsReadFrom}
use Rattle.loose_calls.specs.link_program.Stand.{PartStandsBy, SourceLies, NamedStand}
use Rattle.loose_calls.proofs.link_program_lemmas.Loose.{IsMeant as IsMeantOf, parts_stand as loose_stand}
use Rattle.program_build.specs.Standing.{StrictPartsStand, LoadedPartsStand}
use Rattle.program_build.proofs.Lists.{each_there, there, all_flat_map, all_indexed}
use Rattle.program_build.proofs.Candidate.{found}
use Rattle.program_build.proofs.References.{IsMeant, refs_meant, operands_meant, windows_meant, calls_meant, called_meant}
use Rattle.program_build.proofs.Windows.{operands_stand, windows_stand}

-- as the definition has a program before it is loosened
abbrev Stood : Program → Part → Type 0
Stood p part = PartStandsBy p (IsMeantOf p) part

-- The object is what a candidate's bytes are, which is found by its input and lies in its file.
abbrev IsHome : List (List ℕ) → List Candidate → Object → Candidate → Type 0
IsHome files all o c = (find (λ d. d.input == o.input) all ≡ Some c) × (c.start + c.len ≤ length (slice_index_or files c.file [])) × Sound c.len o

-- ---- the parts of an object

module _ (p : Program) (all : List Candidate) (i : ℕ) (r : Resolved) (at : slice_get p.resolved i ≡ Some r) (c : Candidate) (home : IsHome p.files all r.object c) where
  lies : (s : Span) → LiesIn c.len s → SourceLies p.files (span_in (find (λ d. d.input == r.object.input) all) s)
  lies s within = subst (λ o. SourceLies p.files (span_in o s)) (sym home.0) (omega (arith, home.1, within))

  as_long : (s : Span) → s.len ≡ (span_in (find (λ d. d.input == r.object.input) all) s).span.len
  as_long s = ap (λ o. (span_in o s).span.len) (sym home.0)

  function_stands : (index : ℕ) (f : FunctionDef) → LiesIn c.len f.span × StandIn 0 f.span.len f.operands → Stood p (function_part all p.objects r index f)
  function_stands index f is = record {
    source = lies f.span is.0;
    windows = inr (subst (λ n. NamedStand 0 n (filter_map (operand_named r) f.operands)) (as_long f.span) (operands_stand p.resolved i r at 0 f.span.len f.operands is.1));
    align = tt;
    refs = refs_meant p.resolved (filter_map (operand_named r) f.operands) (operands_meant p.resolved i r at f.operands);
  }

  segment_stands : (index : ℕ) (g : SegmentDef) → LiesIn c.len g.span × (g.info.align ≤ 31) × WindowsStandIn 0 g.span.len g.windows × All (WindowNames r.object) g.windows
      → Stood p (segment_part all p.objects r index g)
  segment_stands index g is = record {
    source = lies g.span is.0;
    windows = inr (subst (λ n. NamedStand 0 n (filter_map (window_named r) g.windows)) (as_long g.span) (windows_stand p.resolved i r at r.object 0 g.span.len g.windows is.2 is.3));
    align = is.1;
    refs = refs_meant p.resolved (filter_map (window_named r) g.windows) (windows_meant p.resolved i r at g.windows);
  }

  global_stands : (index : ℕ) (g : GlobalDef) → Unit {0} → Stood p (global_part all p.objects r index g)
  global_stands index g is = record {
    source = omega arith;
    windows = inr (omega arith);
    align = tt;
    refs = All-nil (IsMeant p.resolved);
  }

  pub object_stands : All (Stood p) (parts_in all p.objects r)
  object_stands =
      let o = r.object in
      let sound = home.2 in
      All-filter (is_part_kept all p.objects r) (Stood p) _
      (All-append (Stood p) _ _
      (All-append (Stood p) _ _
      (all_indexed (λ f. LiesIn c.len f.span × StandIn 0 f.span.len f.operands) (Stood p) (function_part all p.objects r) function_stands 0 o.functions
      (λ k d within. (sound.bodies k d within, sound.operands k d within)))
      (all_indexed (λ g. LiesIn c.len g.span × (g.info.align ≤ 31) × WindowsStandIn 0 g.span.len g.windows × All (WindowNames o) g.windows) (Stood p) (segment_part all p.objects r) segment_stands 0 o.segments
      (λ k d within. (sound.segments k d within, sound.alignments k d within, sound.windows k d within, sound.window_names k d within))))
      (all_indexed (λ g. Unit {0}) (Stood p) (global_part all p.objects r) global_stands 0 o.globals (λ k d within. tt)))

-- ---- the linker's own

module _ (p : Program) (calls : List Ref) (meant : All (IsMeant p.resolved) calls) where
  made_stands : (e : InputSymbol) (m : MadeSymbol) → IfSome (made_part calls e m) (Stood p)
  made_stands e m = by m.kind
    where
      by : (kind : SymbolKind) → IfSome (option_map (λ kind. let part : Part = record {
        chunk = record { input = 0; kind = kind; index = e.place };
        content = linker_made m;
        source = no_source;
        named = if (kind == 0) && (e.place == 0) then map a_symbol calls else [];
      } in part) (made_kind kind)) (Stood p)
      by Function = record {
        source = omega arith;
        windows = inl (refl, refl);
        align = tt;
        refs = called_meant p.resolved (e.place == 0) calls meant;
      }
      by Datum = tt
      by GlobalVar = record {
        source = omega arith;
        windows = inr (omega arith);
        align = tt;
        refs = All-nil (IsMeant p.resolved);
      }
      by Section = tt
      by Table = tt

  onto : (o : Option Part) (parts : List Part) → IfSome o (Stood p) → All (Stood p) parts → All (Stood p) (option_onto o parts)
  onto None parts is all = all
  onto (Some part) parts is all = All-cons (Stood p) part parts is all

  pub all_made : (place : ℕ) (ms : List MadeSymbol) → All (Stood p) (made_parts_from calls place ms)
  all_made place [] = All-nil (Stood p)
  all_made place (m ∷ ms) = onto (made_part calls (made_entry place m) m) (made_parts_from calls (place + 1) ms) (made_stands (made_entry place m) m) (all_made (place + 1) ms)

-- ---- all

all_parts : (p : Program) (mode : Mode) (all : List Candidate) → ((i : ℕ) (r : Resolved) → slice_get p.resolved i ≡ Some r → (c : Candidate) × IsHome p.files all r.object c)
    → All (Stood p) (parts_of mode all p.objects p.resolved)
unfolding parts_of
all_parts p mode all homes =
    All-append (Stood p) (made_parts_from (init_calls p.resolved) 0 (made mode)) (flat_map (parts_in all p.objects) p.resolved)
    (all_made p (init_calls p.resolved) (calls_meant p.resolved) 0 (made mode))
    (all_flat_map (Stood p) (parts_in all p.objects) p.resolved
    (each_there (λ r. All (Stood p) (parts_in all p.objects r)) p.resolved (λ i r at. object_stands p all i r at (homes i r at).0 (homes i r at).1)))

resolved_object : (mode : Mode) (allow : Bool) (es : List InputSymbol) (objects : List Object) (i : ℕ) (r : Resolved) → slice_get (resolve mode allow es objects) i ≡ Some r
    → slice_get objects i ≡ Some r.object
unfolding resolve
resolved_object mode allow es objects i r at =
    by (slice_get objects i) refl (sym (slice_get-map (resolved_in mode (uses_of mode objects) allow es objects) objects i) ∙ at)
  where
    by : (o : Option Object) → slice_get objects i ≡ o → option_map (resolved_in mode (uses_of mode objects) allow es objects) o ≡ Some r → slice_get objects i ≡ Some r.object
    by None is same = absurd cc
    by (Some o) is same = is ∙ ap (option_map (λ (r : Resolved). r.object)) same

home_of : (files : List (List ℕ)) (all : List Candidate) (objects : List Object) (homes : List Home) → IsLoaded files all objects homes → (i : ℕ) (o : Object) → slice_get objects i ≡ Some o
    → (c : Candidate) × IsHome files all o c
home_of files all objects homes loaded i o at =
    let each = there (λ (o : Object). (c : Candidate) × (slice_get all (o.input - 1) ≡ Some c) × IsReadFrom files c o) objects loaded.each i o at in
    (each.0, (found all (o.input - 1) each.0 o.input loaded.numbered each.1 each.2.input, each.2.lies, each.2.sound))

module _ (mode : Mode) (plan : Plan) (files : List (List ℕ)) (all : List Candidate) (objects : List Object) (homes : List Home) (loaded : IsLoaded files all objects homes) where
  abbrev strict : Program
  strict = strict_program mode plan files all objects

  strict_stand : All (PartStandsBy strict (IsMeantOf strict)) strict.parts
  strict_stand = all_parts strict mode all (λ i r at. home_of files all objects homes loaded i r.object (resolved_object mode plan.allow_undefined (entries mode objects) objects i r at))

pub strict_parts_stand : StrictPartsStand
strict_parts_stand mode plan files all objects homes loaded = strict_stand mode plan files all objects homes loaded

pub parts_stand : LoadedPartsStand
unfolding program_of
parts_stand mode plan files all objects homes loaded = loose_stand (strict_program mode plan files all objects) (strict_program mode plan files all objects).parts (strict_stand mode plan files all objects homes loaded)
