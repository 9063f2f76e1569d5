-- The functions of objects read the addresses that they take from cells.
use Rattle.std.proofs.Common.{◌≡◌, ℕ, List, length, Option, Some, None, Bool, false, refl, sym, ap, ◌∙◌, subst, arith}
use Rattle.std.specs.Prelude.{◌==◌, slice_get, filter_map, option_map, ℤ}
use Rattle.std.proofs.lemmas.Bool.{eqb-true}
use Rattle.list_places.proofs.Lists.{all_has, find_has, has_pick, some_is}
use Rattle.wasm_instr.specs.declared.body.Placed.{Placed}
use Rattle.wasm_instr.specs.declared.instr.Instr.{Instr}
use Rattle.wasm_instr.specs.declared.instr.Instr.TheVariants.{GlobalAt}
use Rattle.wasm_instr.specs.Bodies.{SpellsBody}
use Rattle.linking_section.specs.declared.symbol.SymbolKind.{SymbolKind}
use Rattle.linking_section.specs.declared.symbol.SymbolKind.TheVariants.{Function, Datum, GlobalVar, Section, Table}
use Rattle.linking_section.specs.Flags.{kind_code}
use Rattle.body_windows.specs.declared.operand.Operand.{Operand}
use Rattle.body_windows.specs.declared.operand.Operand.TheVariants as operands
use Rattle.object_columns.specs.declared.functions.FunctionDef.{FunctionDef}
use Rattle.object_rules.specs.Windows.{is_global_kind, is_global_symbol}
use Rattle.object_file.specs.declared.object.Object.{Object}
use Rattle.object_file.specs.Addresses.{IsRead, ReadsAt as ObjectReadsAt, ReadsAddresses}
use Rattle.object_file.specs.Sound.{Sound as ObjectSound}
use Rattle.round_rules.specs.Rounds.{Candidate}
use Rattle.made_symbols.specs.declared.mode.Mode.TheVariants.{Plain}
use Rattle.name_rules.specs.Entries.{InputSymbol, entries, is_kind}
use Rattle.name_rules.specs.Meanings.{Meaning, Resolved, resolved_in, no_uses}
use Rattle.output_module.specs.link_rules.Program.{Program, Ref, a_symbol, ref_to, ref_in, operand_named, function_part}
use Rattle.output_module.specs.link_worlds.Bodies.{place_of}
use Rattle.output_module.specs.Filled.{ReadsAt}
use Rattle.link_facts.specs.Facts.{IsFrom, IsReading, bytes_of}
use Rattle.link_facts.proofs.Coded.{bytes_are}
use Rattle.link_facts.proofs.Refs.{ref_is}

no_global : (kind : SymbolKind) → (kind_code kind == kind_code GlobalVar) ≡ false → is_global_kind kind ≡ false
no_global Function h = refl
no_global Datum h = refl
no_global GlobalVar h = absurd (grind arith)
no_global Section h = refl
no_global Table h = refl

window_place : (place kind : ℕ) (addend : ℤ) (x : Option InputSymbol) (m : Option Meaning) (ref : Ref) → ref_to place kind addend x m ≡ Some ref → ref.place ≡ place
window_place place kind addend (Some e) (Some m) ref h = sym (ap (λ (w : Ref). w.place) (some_is (record { place = place; kind = kind; addend = addend; entry = e; meaning = m }) ref h))
window_place place kind addend (Some e) None ref h = absurd (grind arith)
window_place place kind addend None m ref h = absurd (grind arith)

symbol_ref : (x : Option Ref) (ref : Ref) → option_map a_symbol x ≡ Some (a_symbol ref) → x ≡ Some ref
symbol_ref None ref h = absurd (grind arith)
symbol_ref (Some y) ref h = grind arith

module _ (allow : Bool) (objects : List Object) (o : Object) where
  abbrev res : Resolved
  res = resolved_in Plain no_uses allow (entries Plain objects) objects o

  operand_reads : (x : Operand) (mid op : ℕ) (ref : Ref) → IsRead o mid op x → operand_named res x ≡ Some (a_symbol ref) → ref.place ≡ mid → is_kind GlobalVar ref.entry ≡ false → op ≡ 0x23
  operand_reads operands.Number mid op ref r h at g = absurd (grind arith)
  operand_reads (operands.TypeRef place index) mid op ref r h at g = absurd (grind arith)
  operand_reads operands.TableZero mid op ref r h at g = absurd (grind arith)
  operand_reads (operands.Symbol kind place symbol addend) mid op ref r h at g =
      let q = symbol_ref (ref_in res place kind symbol addend) ref h in
      let i = ref_is allow objects o place kind symbol addend ref q in
      let z = window_place place kind addend (slice_get res.symbols symbol) (slice_get res.meanings symbol) ref q in
      r (sym z ∙ at) (ap is_global_symbol i.there ∙ no_global i.symbol.kind (ap (is_kind GlobalVar) (sym i.entry) ∙ g))

  reads_at : (xs : List Operand) (x : Placed) (i : Instr) → ObjectReadsAt o xs x i → ReadsAt (filter_map (operand_named res) xs) x i
  reads_at xs x (GlobalAt op global) r = λ ref at g.
      let f = find_has (λ n. place_of n == x.mid) (filter_map (operand_named res) xs) (a_symbol ref) at in
      let q = has_pick (operand_named res) xs (a_symbol ref) f.0 in
      operand_reads q.0 x.mid op ref (all_has (IsRead o x.mid op) xs r q.0 q.1) q.2 (eqb-true ref.place x.mid f.1) g
  reads_at xs x i r = tt

  pub reading_at : (p : Program) (all : List Candidate) (k : ℕ) (f : FunctionDef) → slice_get o.functions k ≡ Some f → (from : IsFrom p.files all o) → ObjectSound (length (bytes_of p.files from.candidate)) o
      → ReadsAddresses (bytes_of p.files from.candidate) o f → IsReading p (function_part all objects res k f)
  reading_at p all k f at from sound r b spelled x h =
      let reads = r b (subst (SpellsBody b) (sym (bytes_are Plain no_uses allow (entries Plain objects) objects o p all k f at from sound)) spelled) in
      reads_at f.operands x x.instr (all_has (λ (x : Placed). ObjectReadsAt o f.operands x x.instr) b.code reads x h)
