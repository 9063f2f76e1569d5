-- The functions of objects read the addresses that they take from cells, in a shared output too.
use Rattle.std.proofs.Common.{◌≡◌, ℕ, List, length, Option, Some, None, Bool, false, refl, sym, ap, ◌∙◌, subst, arith}
use Rattle.std.specs.Prelude.{◌==◌, slice_get, filter_map, ℤ}
use Rattle.std.proofs.lemmas.Bool.{eqb-true}
use Rattle.list_places.proofs.Lists.{all_has, find_has, has_pick, some_is}
use Rattle.wasm_instr.specs.declared.body.Placed.{Placed}
use Rattle.wasm_instr.specs.declared.instr.Instr.{Instr}
use Rattle.wasm_instr.specs.declared.instr.Instr.TheVariants.{GlobalAt}
use Rattle.wasm_instr.specs.Bodies.{SpellsBody}
use Rattle.linking_section.specs.declared.symbol.SymbolKind.{SymbolKind}
use Rattle.linking_section.specs.declared.symbol.SymbolKind.TheVariants.{Function, Datum, GlobalVar, Section, Table}
use Rattle.linking_section.specs.Flags.{kind_code}
use Rattle.body_windows.specs.declared.operand.Operand.{Operand}
use Rattle.body_windows.specs.declared.operand.Operand.TheVariants as operands
use Rattle.object_columns.specs.declared.functions.FunctionDef.{FunctionDef}
use Rattle.object_rules.specs.Windows.{is_global_kind, is_global_symbol}
use Rattle.object_file.specs.declared.object.Object.{Object}
use Rattle.object_file.specs.Addresses.{IsRead, ReadsAt as ObjectReadsAt, ReadsAddresses}
use Rattle.object_file.specs.Sound.{Sound as ObjectSound}
use Rattle.round_rules.specs.Rounds.{Candidate}
use Rattle.made_symbols.specs.declared.mode.Mode.TheVariants.{Shared}
use Rattle.name_rules.specs.Entries.{InputSymbol, symbols_of, is_kind}
use Rattle.name_rules.specs.Meanings.{Meaning, Resolved, Uses, resolved_in}
use Rattle.image_emit.specs.Bytes.{file_part}
use Rattle.link_rules.specs.Program.{Program, Part, Ref, Named, a_symbol, ref_to, ref_in, operand_named, function_part}
use Rattle.link_rules.specs.Values.{part_bytes}
use Rattle.list_places.specs.Has.{Has}
use Rattle.shared_links.specs.link_worlds.Bodies.{place_of}
use Rattle.shared_links.specs.output_module.Filled.{ReadsAt}
use Rattle.shared_links.specs.link_facts.Facts.{IsFrom, IsReading, bytes_of}
use Rattle.shared_links.proofs.link_facts_lemmas.Coded.{bytes_are}
use Rattle.shared_links.proofs.link_facts_lemmas.Symbols.{symbol_at}
use Rattle.shared_links.proofs.shared_laws_lemmas.Rows.{symbol_ref, ref_parts}

no_global : (kind : SymbolKind) → (kind_code kind == kind_code GlobalVar) ≡ false → is_global_kind kind ≡ false
no_global Function h = refl
no_global Datum h = refl
no_global GlobalVar h = absurd (grind arith)
no_global Section h = refl
no_global Table h = refl

window_place : (place kind : ℕ) (addend : ℤ) (x : Option InputSymbol) (m : Option Meaning) (ref : Ref) → ref_to place kind addend x m ≡ Some ref → ref.place ≡ place
window_place place kind addend (Some e) (Some m) ref h = sym (ap (λ (w : Ref). w.place) (some_is (record { place = place; kind = kind; addend = addend; entry = e; meaning = m }) ref h))
window_place place kind addend (Some e) None ref h = absurd (grind arith)
window_place place kind addend None m ref h = absurd (grind arith)

module _ (uses : Uses) (allow : Bool) (es : List InputSymbol) (objects : List Object) (o : Object) where
  abbrev res : Resolved
  res = resolved_in Shared uses allow es objects o

  operand_reads : (x : Operand) (mid op : ℕ) (ref : Ref) → IsRead o mid op x → operand_named res x ≡ Some (a_symbol ref) → ref.place ≡ mid → is_kind GlobalVar ref.entry ≡ false → op ≡ 0x23
  operand_reads operands.Number mid op ref r h at g = absurd (grind arith)
  operand_reads (operands.TypeRef place index) mid op ref r h at g = absurd (grind arith)
  operand_reads operands.TableZero mid op ref r h at g = absurd (grind arith)
  operand_reads (operands.Symbol kind place symbol addend) mid op ref r h at g =
      let q = symbol_ref (ref_in res place kind symbol addend) ref h in
      let p = ref_parts place kind addend (slice_get (symbols_of objects o) symbol) (slice_get res.meanings symbol) ref q in
      let s = symbol_at objects o 0 o.symbols symbol ref.entry p.1 in
      let z = window_place place kind addend (slice_get (symbols_of objects o) symbol) (slice_get res.meanings symbol) ref q in
      r (sym z ∙ at) (ap is_global_symbol s.1 ∙ no_global s.0.kind (ap (is_kind GlobalVar) (sym s.2) ∙ g))

  -- a reference of the operands, at the same place and to a symbol of the same kind
  abbrev Came : List Operand → Ref → Type 0
  Came xs ref = (r : Ref) × Has (filter_map (operand_named res) xs) (a_symbol r) × (r.place ≡ ref.place) × (is_kind GlobalVar r.entry ≡ is_kind GlobalVar ref.entry)

  reads_at : (xs : List Operand) (names : List Named) → ((ref : Ref) → Has names (a_symbol ref) → Came xs ref) → (x : Placed) (i : Instr) → ObjectReadsAt o xs x i → ReadsAt names x i
  reads_at xs names from x (GlobalAt op global) r = λ ref at g.
      let f = find_has (λ n. place_of n == x.mid) names (a_symbol ref) at in
      let c = from ref f.0 in
      let q = has_pick (operand_named res) xs (a_symbol c.0) c.1 in
      operand_reads q.0 x.mid op c.0 (all_has (IsRead o x.mid op) xs r q.0 q.1) q.2 (c.2 ∙ eqb-true ref.place x.mid f.1) (c.3 ∙ g)
  reads_at xs names from x i r = tt

  -- a part that has the bytes of a function of the object
  pub reading_at : (p : Program) (all : List Candidate) (k : ℕ) (f : FunctionDef) → slice_get o.functions k ≡ Some f → (from : IsFrom p.files all o) → ObjectSound (length (bytes_of p.files from.candidate)) o
      → ReadsAddresses (bytes_of p.files from.candidate) o f → (part : Part) → part.source ≡ (function_part all objects res k f).source
      → ((ref : Ref) → Has part.named (a_symbol ref) → Came f.operands ref) → IsReading p part
  reading_at p all k f at from sound r part source names b spelled x h =
      let bytes : part_bytes p part ≡ part_bytes p (function_part all objects res k f) = ap (λ s. file_part p.files s) source in
      let reads = r b (subst (SpellsBody b) (bytes ∙ sym (bytes_are Shared uses allow es objects o p all k f at from sound)) spelled) in
      reads_at f.operands part.named names x x.instr (all_has (λ (x : Placed). ObjectReadsAt o f.operands x x.instr) b.code reads x h)
