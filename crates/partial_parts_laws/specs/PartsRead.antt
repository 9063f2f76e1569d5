-- The functions, segments, globals, init functions and groups of one object that stands for a run: as they are read of what a partial link makes of the
-- run alone.
use Rattle.std.specs.Prelude.{◌≡◌, Bool, true, false, map, filter, flat_map, length}
use Rattle.std.specs.List.{AllZip}
use Rattle.name_rules.specs.object_file.wl_base.declared.span.Span.{Span}
use Rattle.name_rules.specs.object_file.linking_section.declared.symbol.SymbolKind.TheVariants.{Function, GlobalVar}
use Rattle.name_rules.specs.object_file.body_windows.declared.operand.Operand.{Operand}
use Rattle.name_rules.specs.object_file.body_windows.declared.operand.Operand.TheVariants as operands
use Rattle.name_rules.specs.object_file.object_parts.declared.parts.GlobalDef.{GlobalDef}
use Rattle.name_rules.specs.object_file.object_columns.declared.functions.FunctionDef.{FunctionDef}
use Rattle.name_rules.specs.object_file.object_columns.declared.segments.SegmentDef.{SegmentDef}
use Rattle.name_rules.specs.object_file.declared.object.Object.{Object}
use Rattle.name_rules.specs.object_file.Spaces.{defined_type, function_imports, global_imports}
use Rattle.link_rules.specs.Program.{Program, Part, Named, a_symbol, a_type, init_calls_in, span_of, global}
use Rattle.link_rules.specs.Keys.{content_type}
use Rattle.link_rules.specs.Output.{content_global}
use Rattle.partial_rules.specs.Partial.{kept, symbol_number, type_number, named_reloc, windowed, content_info, exported_name, init_for, groups_in, types, open_of}
use Rattle.partial_parts_laws.specs.Linked.{Linked, bytes_at}

-- An operand that names a symbol or a type.
abbrev pub names_something : Operand → Bool
names_something operands.Number = false
names_something (operands.Symbol kind place symbol addend) = true
names_something (operands.TypeRef place index) = true
names_something operands.TableZero = false

-- The object that stands there, as the later link reads it; and the program of the run alone.
module _ (o : Object) (l : Linked) (p : Program) where
  -- The operand of what a window names.
  abbrev pub operand_for : Named → Operand
  operand_for (a_symbol ref) = operands.Symbol ref.kind ref.place (symbol_number p ref.entry) ref.addend
  operand_for (a_type w) = operands.TypeRef w.place (type_number p w.type)

  -- The bytes are those of the part, with empty windows.
  pub record IsWritten (part : Part) (s : Span) : Type 0 where
    pub len : (span_of l.all o.input s).span.len ≡ part.source.span.len
    pub bytes : bytes_at l o.input s ≡ (windowed p part).bytes

  pub record IsFunction (part : Part) (f : FunctionDef) : Type 0 where
    pub type : defined_type o f ≡ content_type part.content
    pub operands_are : filter names_something f.operands ≡ map operand_for part.named
    pub export_name : f.export_name ≡ exported_name p part.chunk
    pub written : IsWritten part f.span

  pub record IsSegment (part : Part) (g : SegmentDef) : Type 0 where
    pub info : g.info ≡ content_info p part.content
    pub windows : g.windows ≡ map (named_reloc p) part.named
    pub written : IsWritten part g.span

  abbrev pub IsGlobal : Part → GlobalDef → Type 0
  IsGlobal part g = content_global (global g) ≡ content_global part.content

  -- It has the kept parts of the run alone, by input and index, its init functions and the groups that stand there.
  pub record PartsRead : Type 0 where
    pub functions : AllZip IsFunction (kept p 0) o.functions
    pub segments : AllZip IsSegment (kept p 1) o.segments
    pub globals : AllZip IsGlobal (kept p 2) o.globals
    pub inits : o.inits ≡ map (init_for p) (flat_map init_calls_in p.resolved)
    pub groups : o.groups ≡ flat_map (groups_in p) p.objects
    pub types_are : o.types ≡ types p
    -- what is imported
    pub functions_imported : length (function_imports o) ≡ length (open_of p Function)
    pub globals_imported : length (global_imports o) ≡ length (open_of p GlobalVar)
