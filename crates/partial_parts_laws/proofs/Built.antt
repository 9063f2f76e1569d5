-- References and parts side by side: what makes them alike.
use Rattle.std.proofs.Common.{◌≡◌, ℕ, ◌+◌, ◌<◌, ◌≤◌, ◌==◌, Bool, true, false, ◌||◌, ◌&&◌, List, [], ◌∷◌, map, length, inl, inr, ⊎_elim, refl, sym, ap, ◌∙◌, subst, arith}
use Rattle.std.specs.Prelude.{if◌then◌else◌, Option, Some, None, option_map, slice_get, filter_map, ℤ}
use Rattle.std.specs.List.{list_all, AllZip, cons_option}
use Rattle.std.proofs.lemmas.Bool.{or_cases, eqb-true}
use Rattle.list_places.specs.Has.{Has}
use Rattle.name_rules.specs.object_file.reloc_section.declared.entry.Reloc.{Reloc}
use Rattle.name_rules.specs.object_file.reloc_section.declared.kinds.TheConstants as relocs
use Rattle.name_rules.specs.object_file.linking_section.declared.symbol.SymbolKind.{SymbolKind}
use Rattle.name_rules.specs.object_file.linking_section.declared.symbol.SymbolKind.TheVariants.{Function, Datum, GlobalVar, Section, Table}
use Rattle.name_rules.specs.object_file.linking_section.Flags.{kind_code}
use Rattle.name_rules.specs.object_file.body_windows.declared.operand.Operand.{Operand}
use Rattle.name_rules.specs.object_file.body_windows.declared.operand.Operand.TheVariants as operands
use Rattle.object_file.specs.body_windows.Operands.{StandIn}
use Rattle.object_file.specs.Sound.{is_code_type, is_data_type, OperandNames, WindowNames, WindowsStandIn}
use Rattle.object_rules.specs.Relocs.{may_name}
use Rattle.name_rules.specs.object_file.declared.object.Object.{Object}
use Rattle.made_symbols.specs.declared.mode.Mode.TheVariants.{Plain}
use Rattle.name_rules.specs.Entries.{InputSymbol, name_of, is_kind, entries}
use Rattle.name_rules.specs.Meanings.{Meaning, here, imported, null, nothing, no_uses, meaning, Resolved}
use Rattle.reloc_apply.specs.declared.window.Form.TheVariants.{Unsigned5, Signed5, Word4}
use Rattle.reloc_apply.specs.declared.window.Patch.{Patch}
use Rattle.reloc_apply.specs.Windows.{filled}
use Rattle.reloc_apply.specs.Apart.{AreApart, size_of}
use Rattle.link_rules.specs.Program.{Program, Part, Named, a_symbol, ref_to, operand_named, window_named}
use Rattle.link_rules.specs.Values.{part_bytes, form_of}
use Rattle.partial_rules.specs.Partial.{empty_window}
use Rattle.partial_rules.specs.Moving.{Moving, moved_meaning, AlikeRef, AlikeNamed, AlikePart, AlikeContent}
use Rattle.partial_laws.specs.Inputs.{Run, Objects, whole_objects, later_objects}
use Rattle.partial_laws.specs.Standing.{joining}
use Rattle.partial_laws.specs.Joining.{Joining, IsJoining, moved}
use Rattle.partial_laws.specs.Joined.{linked_symbols}
use Rattle.partial_laws.proofs.Stated.{is as is_joining, kept_names}
use Rattle.partial_parts_laws.specs.Linked.{Links, alone_program, whole_program, later_program}
use Rattle.partial_parts_laws.specs.Moves.{moved_chunk, moving, StandsInLinks}
use Rattle.partial_parts_laws.specs.Alike.{HeldChunk, HeldSymbol}
use Rattle.partial_parts_laws.proofs.Zips.{BothOr, zip_length}
use Rattle.partial_parts_laws.proofs.Referred.{whole_meaning, means_held}

no_true : false ≡ true → ⊥
no_true e = absurd cc

-- ---- types of relocations

-- one of code has five bytes, and one of data four
code_not : (kind n : ℕ) → (kind == n) ≡ true → is_code_type n ≡ false → is_code_type kind ≡ true → ⊥
code_not kind n e other code = no_true (sym other ∙ (ap is_code_type (sym (eqb-true kind n e)) ∙ code))

pub code_size : (kind : ℕ) → is_code_type kind ≡ true → size_of (form_of kind) ≡ 5
code_size kind code = choose ((kind == relocs.TABLE_INDEX_SLEB) || (kind == relocs.MEMORY_ADDR_SLEB) || (kind == relocs.MEMORY_ADDR_REL_SLEB) || (kind == relocs.TABLE_INDEX_REL_SLEB)) ((kind == relocs.TABLE_INDEX_I32) || (kind == relocs.MEMORY_ADDR_I32)) refl
  where
    choose : (a b : Bool) → ((kind == relocs.TABLE_INDEX_I32) || (kind == relocs.MEMORY_ADDR_I32)) ≡ b → size_of (if a then Signed5 else if b then Word4 else Unsigned5) ≡ 5
    choose true b is = refl
    choose false false is = refl
    choose false true is =
        absurd (⊎_elim (λ e. code_not kind relocs.TABLE_INDEX_I32 e refl code) (λ e. code_not kind relocs.MEMORY_ADDR_I32 e refl code) (or_cases (kind == relocs.TABLE_INDEX_I32) (kind == relocs.MEMORY_ADDR_I32) is))

pub data_size : (kind : ℕ) → is_data_type kind ≡ true → size_of (form_of kind) ≡ 4
data_size kind of_data =
    ⊎_elim (λ e. ap (λ n. size_of (form_of n)) (eqb-true kind relocs.TABLE_INDEX_I32 e)) (λ e. ap (λ n. size_of (form_of n)) (eqb-true kind relocs.MEMORY_ADDR_I32 e))
    (or_cases (kind == relocs.TABLE_INDEX_I32) (kind == relocs.MEMORY_ADDR_I32) of_data)

-- no window names a section
section_kind : (kind : ℕ) → is_code_type kind ≡ true → may_name kind Section ≡ true → ⊥
section_kind kind code may = code_not kind relocs.SECTION_OFFSET_I32 may refl code

pub code_section : (kind : ℕ) → is_code_type kind ≡ true → (k : SymbolKind) → may_name kind k ≡ true → (kind_code k == kind_code Section) ≡ false
code_section kind code Function may = refl
code_section kind code Datum may = refl
code_section kind code GlobalVar may = refl
code_section kind code Section may = absurd (section_kind kind code may)
code_section kind code Table may = refl

pub data_section : (kind : ℕ) → is_data_type kind ≡ true → (k : SymbolKind) → may_name kind k ≡ true → (kind_code k == kind_code Section) ≡ false
data_section kind of_data Function may = refl
data_section kind of_data Datum may = refl
data_section kind of_data GlobalVar may = refl
data_section kind of_data Section may =
    let is : kind ≡ relocs.SECTION_OFFSET_I32 = eqb-true kind relocs.SECTION_OFFSET_I32 may in
    absurd (no_true (ap is_data_type (sym is) ∙ of_data))
data_section kind of_data Table may = refl

-- ---- windows are apart

lower : (from at end : ℕ) (ps : List Patch) → from ≤ at → AreApart at end ps → AreApart from end ps
lower from at end [] le h = omega (arith, le, h)
lower from at end (p ∷ ps) le h = (omega (arith, le, h.0), h.1)

module _ (o : Object) (r : Resolved) where
  window_first : (from place kind symbol end width : ℕ) (addend : ℤ) (x : Option InputSymbol) (m : Option Meaning) (ns : List Named) → size_of (form_of kind) ≡ width → from ≤ place
      → AreApart (place + width) end (map empty_window ns) → AreApart from end (map empty_window (cons_option (option_map a_symbol (ref_to place kind addend x m)) ns))
  window_first from place kind symbol end width addend (Some e) (Some m) ns size le rest = (le, subst (λ n. AreApart (place + n) end (map empty_window ns)) (sym size) rest)
  window_first from place kind symbol end width addend (Some e) None ns size le rest = lower from (place + width) end (map empty_window ns) (omega (arith, le)) rest
  window_first from place kind symbol end width addend None m ns size le rest = lower from (place + width) end (map empty_window ns) (omega (arith, le)) rest

  pub code_apart : (from end : ℕ) (ops : List Operand) → ((op : Operand) → Has ops op → OperandNames o op) → StandIn from end ops → AreApart from end (map empty_window (filter_map (λ op. operand_named r op) ops))
  code_apart from end [] named stand = stand
  code_apart from end (operands.Number ∷ ops) named stand = code_apart from end ops (λ op h. named op (inr h)) stand
  code_apart from end (operands.Symbol kind place symbol addend ∷ ops) named stand =
      window_first from place kind symbol end 5 addend (slice_get r.symbols symbol) (slice_get r.meanings symbol) (filter_map (λ op. operand_named r op) ops)
      (code_size kind (named (operands.Symbol kind place symbol addend) (inl refl)).0) stand.0 (code_apart (place + 5) end ops (λ op h. named op (inr h)) stand.1)
  code_apart from end (operands.TypeRef place index ∷ ops) named stand = (stand.0, code_apart (place + 5) end ops (λ op h. named op (inr h)) stand.1)
  code_apart from end (operands.TableZero ∷ ops) named stand = code_apart from end ops (λ op h. named op (inr h)) stand

  pub data_apart : (from end : ℕ) (ws : List Reloc) → ((w : Reloc) → Has ws w → WindowNames o w) → WindowsStandIn from end ws → AreApart from end (map empty_window (filter_map (λ w. window_named r w) ws))
  data_apart from end [] named stand = stand
  data_apart from end (w ∷ ws) named stand =
      window_first from w.offset w.kind w.index end 4 w.addend (slice_get r.symbols w.index) (slice_get r.meanings w.index) (filter_map (λ x. window_named r x) ws)
      (data_size w.kind (named w (inl refl)).0) stand.0 (data_apart (w.offset + 4) end ws (λ x h. named x (inr h)) stand.1)

-- ---- what is picked of two lists of symbols

pub both_refs : (Q : Named → Named → Type 0) (f : InputSymbol → InputSymbol) (m n : InputSymbol → Meaning) (place kind : ℕ) (addend : ℤ) (x : Option InputSymbol) (mx : Option Meaning) (y : Option InputSymbol) (my : Option Meaning)
    → mx ≡ option_map m x → y ≡ option_map f x → my ≡ option_map n y
    → ((e : InputSymbol) → x ≡ Some e → Q (a_symbol (record { place = place; kind = kind; addend = addend; entry = e; meaning = m e })) (a_symbol (record { place = place; kind = kind; addend = addend; entry = f e; meaning = n (f e) })))
    → BothOr Q (option_map a_symbol (ref_to place kind addend x mx)) (option_map a_symbol (ref_to place kind addend y my))
both_refs Q f m n place kind addend None mx y my a b c each = subst (λ z. BothOr Q None (option_map a_symbol (ref_to place kind addend z my))) (sym b) tt
both_refs Q f m n place kind addend (Some e) mx y my a b c each =
    subst (λ z. BothOr Q (option_map a_symbol (ref_to place kind addend (Some e) z)) (option_map a_symbol (ref_to place kind addend y my))) (sym a)
    (subst (λ z. BothOr Q (a_symbol_some (m e) e) (option_map a_symbol (ref_to place kind addend z my))) (sym b)
    (subst (λ z. BothOr Q (a_symbol_some (m e) e) (option_map a_symbol (ref_to place kind addend (Some (f e)) z))) (sym (c ∙ ap (option_map n) b)) (each e refl)))
  where
    a_symbol_some : Meaning → InputSymbol → Option Named
    a_symbol_some k d = Some (a_symbol (record { place = place; kind = kind; addend = addend; entry = d; meaning = k }))

-- ---- the links

module _ (run : Run) (os : Objects) (ls : Links) (s : StandsInLinks run os ls) where
  abbrev p : Program
  p = alone_program run os ls

  abbrev P : Program
  P = whole_program run os ls

  abbrev Q : Program
  Q = later_program run os ls

  abbrev W : List Object
  W = whole_objects os

  abbrev L : List Object
  L = later_objects run os

  abbrev j : Joining
  j = joining run os p

  abbrev m : Moving
  m = moving run os p

  abbrev Known : InputSymbol → Type 0
  Known e = Has (linked_symbols W) e

  abbrev J : IsJoining j Known (entries Plain W)
  J = is_joining run os p s.names

  -- what a symbol means in the later link
  abbrev pub later_meaning : InputSymbol → Meaning
  later_meaning e = meaning Plain no_uses ls.after.plan.allow_undefined (entries Plain L) e

  moved_alike : (x : Meaning) → moved j x ≡ moved_meaning m x
  moved_alike (here e) = refl
  moved_alike (imported k) = refl
  moved_alike null = refl
  moved_alike nothing = refl

  pub meaning_moves : (e : InputSymbol) → Known e → j.keep e ≡ true → later_meaning (j.move e) ≡ moved_meaning m (whole_meaning run os ls s e)
  meaning_moves e known kept =
      ap (λ a. meaning Plain no_uses a (entries Plain L) (j.move e)) s.allow ∙ ((kept_names run os p s.names).meanings ls.whole.plan.allow_undefined e known kept ∙ moved_alike (whole_meaning run os ls s e))

  -- A reference, and one to a kept symbol that stands for what it names.
  pub alike_by : (place kind : ℕ) (addend : ℤ) (e y : InputSymbol) → Known e → Known y → j.keep y ≡ true → y.symbol.kind ≡ e.symbol.kind → name_of y ≡ name_of e
      → whole_meaning run os ls s y ≡ whole_meaning run os ls s e → is_kind Section e ≡ false → may_name kind e.symbol.kind ≡ true
      → AlikeRef m (HeldChunk run os ls) (HeldSymbol run os ls) (record { place = place; kind = kind; addend = addend; entry = e; meaning = whole_meaning run os ls s e })
      (record { place = place; kind = kind; addend = addend; entry = j.move y; meaning = later_meaning (j.move y) })
  alike_by place kind addend e y known known_too kept kinds names same section may = record {
    place = refl;
    kind = refl;
    addend = refl;
    symbol_kind = J.kind y (record { symbol = known_too; kept = kept }) ∙ kinds;
    name = J.name y (record { symbol = known_too; kept = kept }) ∙ names;
    meaning = meaning_moves y known_too kept ∙ ap (moved_meaning m) same;
    held = means_held run os ls s e known section;
    may = may;
  }

  abbrev pub Alikes : Named → Named → Type 0
  Alikes x y = AlikeNamed m (HeldChunk run os ls) (HeldSymbol run os ls) x y

  abbrev pub AlikeSides : Part → Part → Type 0
  AlikeSides x y = HeldChunk run os ls x.chunk → AlikePart m (HeldChunk run os ls) (HeldSymbol run os ls) P Q x y

  -- ---- parts

  windows_none : (x y : Part) → AllZip Alikes x.named y.named → (length y.named == 0) ≡ (length x.named == 0)
  windows_none x y named = ap (λ n. n == 0) (zip_length Alikes x.named y.named named)

  -- with the same bytes
  pub alike_part : (x y : Part) → y.chunk ≡ moved_chunk run os p x.chunk → AlikeContent x.content y.content → AllZip Alikes x.named y.named → y.source.span.len ≡ x.source.span.len → part_bytes Q y ≡ part_bytes P x
      → 0 < x.chunk.input → AlikeSides x y
  alike_part x y chunk content named len bytes above held = record {
    chunk = chunk;
    held = held;
    content = content;
    named = named;
    len = len;
    long = ap (λ bs. length bs) bytes;
    bytes = λ ps same. ap (filled ps) bytes;
    made = λ none kind. absurd (omega (arith, above, none));
    calls = λ none. absurd (omega (arith, above, none));
    zero = ap (λ (b : Bool). b && list_all (λ n. n == 0) (part_bytes Q y)) (windows_none x y named) ∙ ap (λ bs. (length x.named == 0) && list_all (λ n. n == 0) bs) bytes;
  }
