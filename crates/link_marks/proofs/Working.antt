-- The data tell what a shared output exports as the definition has it.
use Rattle.std.proofs.Common.{◌≡◌, ℕ, zero, suc, ◌==◌, Bool, true, false, not, ◌&&◌, ◌||◌, List, [], ◌∷◌, ◌++◌, length, get_or, map, filter, filter_map, slice_get, Some, refl, sym, ap, ◌∙◌, subst}
use Rattle.std.specs.List.{list_any}
use Rattle.std.proofs.lemmas.List.{length-map}
use Rattle.link_program.specs.linking_section.declared.symbol.SymbolKind.TheVariants.{GlobalVar}
use Rattle.link_program.specs.wasm_types.declared.function.FuncType.{FuncType}
use Rattle.link_program.specs.reloc_section.declared.kinds.TheConstants as relocs
use Rattle.link_program.specs.made_symbols.declared.mode.Mode.{Mode}
use Rattle.link_program.specs.made_symbols.declared.mode.Mode.TheVariants.{Plain, Shared}
use Rattle.link_program.specs.made_symbols.Made.{call_ctors, apply_data_relocs}
use Rattle.link_program.specs.round_rules.Rounds.{Candidate}
use Rattle.link_program.specs.object_file.declared.object.Object.{Object}
use Rattle.link_program.specs.name_rules.Entries.{InputSymbol, ImportKey, is_kind}
use Rattle.link_program.specs.name_rules.Meanings.{Meaning, here, imported, null, nothing, Resolved}
use Rattle.link_program.specs.name_rules.Further.{is_here}
use Rattle.link_program.specs.link_rules.ModeOf.{mode_of}
use Rattle.link_program.specs.link_rules.Program as rules
use Rattle.link_program.specs.link_rules.Program.{a_symbol, a_type, named_ref, refs, init_calls, parts_of, loose_named, loose_parts}
use Rattle.link_program.specs.link_rules.Marks.{demanded, is_exported_by, reads_cell, needs_work, has_calls, has_work, is_made, exports_without, exports_with, exported}
use Rattle.link_program.specs.declared.program.Program.{Program as Data}
use Rattle.link_program.specs.declared.program.Tables.{Tables}
use Rattle.link_program.specs.declared.symbol.Symbol.{Symbol}
use Rattle.link_program.specs.declared.named.Named.{Named}
use Rattle.link_program.specs.declared.named.Named.TheVariants as names
use Rattle.link_program.specs.Told.{told_lead, told_winner}
use Rattle.link_program.specs.Seen.{SeenNamed, seen_symbol, seen_type, seen_named, seen_part, told_named, told_part}
use Rattle.link_program.specs.Look.{no_part, part_at, row_at}
use Rattle.link_program.specs.Program.{AreTables, IsProgram}
use Rattle.link_marks.specs.Asked.{IsAsked}
use Rattle.link_marks.specs.Due.{is_due, calls_seen, leads_here, is_own_address, reads_own_cell, has_work_at, any_work}
use Rattle.link_marks.proofs.Mapped.{any_map, any_agree, filter-map, filter_same}
use Rattle.link_marks.proofs.Winning.{winner_names_held, one_export}

-- ---- what is told at a number

pub at_told : {A B C : Type 0} (f : A → C) (g : B → C) (xs : List A) (ys : List B) (n : ℕ) (y : B) (d : A) → map f xs ≡ map g ys → slice_get ys n ≡ Some y → f (get_or xs n d) ≡ g y
at_told f g [] [] n y d e at = absurd cc
at_told f g [] (z ∷ ys) n y d e at = absurd cc
at_told f g (x ∷ xs) [] n y d e at = absurd cc
at_told f g (x ∷ xs) (z ∷ ys) zero y d e at = let h : f x ≡ g z = cc in let s : z ≡ y = cc in h ∙ ap g s
at_told f g (x ∷ xs) (z ∷ ys) (suc n) y d e at = let rest : map f xs ≡ map g ys = cc in at_told f g xs ys n y d rest at

-- ---- windows that read a cell

and_assoc : (a b c : Bool) → (a && (b && c)) ≡ ((a && b) && c)
and_assoc true b c = refl
and_assoc false b c = refl

here_told : (imports : List ImportKey) (m : Meaning) → leads_here (told_lead imports m) ≡ is_here m
here_told imports (here e) = refl
here_told imports (imported key) = refl
here_told imports null = refl
here_told imports nothing = refl

abbrev seen_reads : SeenNamed → Bool
seen_reads (seen_symbol r) = (r.kind == relocs.GLOBAL_INDEX_LEB) && is_own_address r.symbol
seen_reads (seen_type place t) = false

abbrev own_read : rules.Ref → Bool
own_read ref = reads_cell ref && is_here ref.meaning

abbrev meant_reads : rules.Named → Bool
meant_reads (a_symbol ref) = own_read ref
meant_reads (a_type w) = false

reads_seen : (symbols : List Symbol) (types : List FuncType) (n : Named) → reads_own_cell symbols n ≡ seen_reads (seen_named symbols types n)
reads_seen symbols types (names.Symbol kind place addend symbol) = refl
reads_seen symbols types (names.Type place number) = refl

reads_told : (ns : List (List ℕ)) (imports : List ImportKey) (n : rules.Named) → seen_reads (told_named ns imports n) ≡ meant_reads n
reads_told ns imports (a_symbol ref) =
    ap (λ b. (ref.kind == relocs.GLOBAL_INDEX_LEB) && (not (is_kind GlobalVar ref.entry) && b)) (here_told imports ref.meaning)
    ∙ and_assoc (ref.kind == relocs.GLOBAL_INDEX_LEB) (not (is_kind GlobalVar ref.entry)) (is_here ref.meaning)
reads_told ns imports (a_type w) = refl

any_refs : (ns : List rules.Named) → list_any meant_reads ns ≡ list_any own_read (filter_map named_ref ns)
any_refs [] = refl
any_refs (a_symbol ref ∷ ns) = ap (λ b. own_read ref || b) (any_refs ns)
any_refs (a_type w ∷ ns) = any_refs ns

-- ---- parts that need work

module _ (ns : List (List ℕ)) (imports : List ImportKey) (t : Tables) (p : rules.Program) (are : AreTables ns imports t p) where
  row_reads : (row : List Named) (part : rules.Part) → map (seen_named t.symbols t.types) row ≡ map (told_named ns imports) part.named → list_any (reads_own_cell t.symbols) row ≡ list_any own_read (refs part)
  row_reads row part same =
      any_agree (reads_own_cell t.symbols) (λ n. seen_reads (seen_named t.symbols t.types n)) (reads_seen t.symbols t.types) row
      ∙ sym (any_map seen_reads (seen_named t.symbols t.types) row)
      ∙ ap (list_any seen_reads) same
      ∙ any_map seen_reads (told_named ns imports) part.named
      ∙ any_agree (λ n. seen_reads (told_named ns imports n)) meant_reads (reads_told ns imports) part.named
      ∙ any_refs part.named

  work_told : (n : ℕ) (part : rules.Part) → slice_get p.parts n ≡ Some part → has_work_at t n ≡ needs_work part
  work_told n part at =
      let chunk : (part_at t n).chunk ≡ part.chunk = ap (λ x. x.chunk) (at_told (seen_part t.types) told_part t.parts p.parts n part no_part are.parts at) in
      let row : map (seen_named t.symbols t.types) (row_at t n) ≡ map (told_named ns imports) part.named =
      at_told (map (seen_named t.symbols t.types)) (λ (x : rules.Part). map (told_named ns imports) x.named) t.named p.parts n part [] are.named at in
      let long : length (row_at t n) ≡ length part.named =
      sym (length-map (row_at t n) (seen_named t.symbols t.types)) ∙ ap length row ∙ length-map part.named (told_named ns imports) in
      let reads = row_reads (row_at t n) part row in
      λ i. (((chunk i).kind == 1) && not (long i == 0)) || (((chunk i).kind == 0) && reads i)

  pub any_told : (numbers : List ℕ) (parts : List rules.Part) → map (slice_get p.parts) numbers ≡ map Some parts → any_work t numbers ≡ list_any needs_work parts
  any_told [] [] is = refl
  any_told [] (x ∷ parts) is = absurd cc
  any_told (n ∷ numbers) [] is = absurd cc
  any_told (n ∷ numbers) (x ∷ parts) is =
      let here : slice_get p.parts n ≡ Some x = cc in
      let rest : map (slice_get p.parts) numbers ≡ map Some parts = cc in
      let h = work_told n x here in
      let t = any_told numbers parts rest in
      λ i. h i || t i

-- ---- calls

-- how much the first part names
abbrev head_row : List rules.Part → ℕ
head_row [] = 0
head_row (x ∷ xs) = length x.named

head_told : {C : Type 0} (f : Named → C) (g : rules.Named → C) (rows : List (List Named)) (parts : List rules.Part) → map (map f) rows ≡ map (λ (x : rules.Part). map g x.named) parts → length (get_or rows 0 []) ≡ head_row parts
head_told f g [] [] is = refl
head_told f g [] (x ∷ parts) is = absurd cc
head_told f g (r ∷ rows) [] is = absurd cc
head_told f g (r ∷ rows) (x ∷ parts) is = let h : map f r ≡ map g x.named = cc in sym (length-map r f) ∙ ap length h ∙ length-map x.named g

head_loose : (loose : Bool) (es : List InputSymbol) (parts : List rules.Part) → head_row (loose_parts loose es parts) ≡ head_row parts
head_loose false es parts = refl
head_loose true es [] = refl
head_loose true es (x ∷ parts) = length-map x.named (loose_named es)

head_made : (mode : Mode) (all : List Candidate) (objects : List Object) (resolved : List Resolved) → head_row (parts_of mode all objects resolved) ≡ length (init_calls resolved)
unfolding parts_of
head_made Plain all objects resolved = length-map (init_calls resolved) a_symbol
head_made Shared all objects resolved = length-map (init_calls resolved) a_symbol

pub calls_are : (d : Data) (p : rules.Program) → IsProgram d p → calls_seen d.tables.now ≡ has_calls p
calls_are d p is =
    let t = d.tables.now in
    ap (λ n. not (n == 0))
    (head_told (seen_named t.symbols t.types) (told_named d.names.now.names d.resolution.now.imports) t.named p.parts is.tables.named
    ∙ ap head_row is.parts_are.1
    ∙ head_loose p.plan.loose_calls p.entries (parts_of (mode_of p.plan) is.parts_are.0 p.objects p.resolved)
    ∙ head_made (mode_of p.plan) is.parts_are.0 p.objects p.resolved)

-- ---- winners

pub due_are : (d : Data) (p : rules.Program) (asked : List Bool) (calls work : Bool) → IsProgram d p → IsAsked d.names.now.names (demanded d.plan.now ++ d.plan.now.exports_if) asked
    → filter (is_due asked d.plan.now.export_dynamic calls work) d.tables.now.winners ≡ map (told_winner d.names.now.names) (exports_with p calls work)
due_are d p asked calls work is are =
    let ns = d.names.now.names in
    let held = winner_names_held (mode_of p.plan) d p is in
    let asked_is : IsAsked ns (demanded p.plan ++ p.plan.exports_if) asked = subst (λ plan. IsAsked ns (demanded plan ++ plan.exports_if) asked) is.plan are in
    ap (filter (is_due asked d.plan.now.export_dynamic calls work)) is.tables.winners
    ∙ ap (λ plan. filter (is_due asked plan.export_dynamic calls work) (map (told_winner ns) p.winners)) is.plan
    ∙ filter-map (is_due asked p.plan.export_dynamic calls work) (told_winner ns) p.winners
    ∙ ap (map (told_winner ns)) (filter_same (λ e. is_due asked p.plan.export_dynamic calls work (told_winner ns e)) (λ e. is_exported_by p.plan e || (is_made call_ctors e && calls) || (is_made apply_data_relocs e && work)) p.winners
    (λ k e below. ap (λ b. b || (is_made call_ctors (get_or p.winners k e) && calls) || (is_made apply_data_relocs (get_or p.winners k e) && work))
    (one_export ns asked p.plan (get_or p.winners k e) asked_is (held k e below))))

no_more : (a b m : Bool) → (a || b || (m && false)) ≡ (a || b)
no_more true b m = refl
no_more false true m = refl
no_more false false true = refl
no_more false false false = refl

pub without_are : (p : rules.Program) (calls : Bool) → exports_with p calls false ≡ exports_without p calls
without_are p calls =
    filter_same (λ e. is_exported_by p.plan e || (is_made call_ctors e && calls) || (is_made apply_data_relocs e && false)) (λ e. is_exported_by p.plan e || (is_made call_ctors e && calls)) p.winners
    (λ k e below. no_more (is_exported_by p.plan (get_or p.winners k e)) (is_made call_ctors (get_or p.winners k e) && calls) (is_made apply_data_relocs (get_or p.winners k e)))

-- The function has work where it has by the live parts.
pub all_due : (p : rules.Program) (work : Bool) → work ≡ has_work p (exports_without p (has_calls p)) → exports_with p (has_calls p) work ≡ exported Shared p
unfolding exported
all_due p work is = ap (exports_with p (has_calls p)) is
