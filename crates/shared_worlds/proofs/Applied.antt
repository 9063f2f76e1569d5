-- The function that makes addresses right pairs: what stores a word is the same on both sides, with cells for the numbers of globals.
use Rattle.std.proofs.Common.{◌≡◌, ℕ, ◌+◌, List, [], ◌∷◌, ◌++◌, map, Option, Some, None, Bool, true, false, refl, sym, ap, ◌∙◌, subst, inl, inr, arith}
use Rattle.std.specs.Prelude.{◌==◌, ◌&&◌, not, flat_map, filter_map, if◌then◌else◌, ℤ, pos, ◌+ℤ◌}
use Rattle.std.proofs.lemmas.List.{append_assoc, append-nil}
use Rattle.std.proofs.lemmas.List.Elements.{filter_map-append}
use Rattle.list_places.specs.Has.{Has}
use Rattle.list_places.proofs.Lists.{has_map, has_pick, given_some}
use Rattle.wasm_types.specs.declared.function.FuncType.{FuncType}
use Rattle.wasm_instr.specs.declared.instr.Instr.TheVariants as instrs
use Rattle.wasm_instr.specs.Placeless.{instrs_of}
use Rattle.linking_section.specs.declared.symbol.SymbolKind.TheVariants.{Datum}
use Rattle.made_symbols.specs.declared.mode.Mode.TheVariants.{Shared}
use Rattle.name_rules.specs.Entries.{InputSymbol, is_kind}
use Rattle.name_rules.specs.Meanings.{cell_of}
use Rattle.reloc_apply.specs.Windows.{bits32, signed32}
use Rattle.run_rules.specs.declared.op.Op.{Op}
use Rattle.run_rules.specs.declared.op.Op.TheVariants.{Own, ReadCell, WriteCell}
use Rattle.run_rules.specs.declared.world.Source.TheVariants.{Code}
use Rattle.run_rules.specs.Ops.{op_of}
use Rattle.run_rules.specs.Modules.{coded}
use Rattle.sim_laws.specs.Pairs.{Renaming, OpPairs, Each, SourcePairs}
use Rattle.dylink_out.specs.declared.word.WordReloc.{WordReloc}
use Rattle.dylink_out.specs.declared.word.WordPlace.TheVariants.{Got}
use Rattle.dylink_out.specs.declared.word.WordValue.TheVariants.{OwnDatum, OwnFunction, ForeignDatum, ForeignFunction}
use Rattle.dylink_out.specs.Loading.{Step, get_global, constant, add, store, set_global, value_steps, word_steps}
use Rattle.link_rules.specs.Program.{Program, Part, Ref, refs}
use Rattle.link_rules.specs.Marks.{is_foreign}
use Rattle.link_rules.specs.Keys.{GlobalKey, GotKey, outside_global, own_global, got, exported_datum, globals, global_imports_in, own_global_key, got_entries, datum_key, global_number}
use Rattle.link_rules.specs.Values.{Layout, solid_segments, segment_address, meant_address, ref_slot, got_value}
use Rattle.link_rules.specs.Loader.{words, segment_words, window_word, got_word, is_function_got, cell_number}
use Rattle.link_worlds.specs.Names.{CellGets}
use Rattle.link_worlds.specs.Bodies.{to_name, bare}
use Rattle.shared_module.specs.Applied.{step_instr, applied}
use Rattle.shared_worlds.specs.Placing.{memory_base_name, table_base_name}
use Rattle.shared_worlds.specs.Names.{renaming, cell_place, base_key}
use Rattle.shared_worlds.specs.Bodies.{read, write, plus, datum_at, slot_at, window_value, stores_window, stores_segment, sets_cell, stores_all}
use Rattle.shared_worlds.proofs.Lists.{none_of}

-- ---- lists

pub each_append : {A B : Type 0} (R : A → B → Type 0) (xs us : List A) (ys vs : List B) → Each R xs ys → Each R us vs → Each R (xs ++ us) (ys ++ vs)
each_append R [] us [] vs e f = f
each_append R (x ∷ xs) us (y ∷ ys) vs e f = (e.0, each_append R xs us ys vs e.1 f)
each_append R [] us (y ∷ ys) vs e f = absurd e
each_append R (x ∷ xs) us [] vs e f = absurd e

flat_split : {A B : Type 0} (f : A → List B) (xs ys : List A) → flat_map f (xs ++ ys) ≡ flat_map f xs ++ flat_map f ys
flat_split f [] ys = refl
flat_split f (x ∷ xs) ys = ap (λ zs. f x ++ zs) (flat_split f xs ys) ∙ sym (append_assoc (f x) (flat_map f xs) (flat_map f ys))

module _ (p : Program) (l : Layout) (types : List FuncType) (cell : ℕ → ℕ) (straight : (n : ℕ) → cell n ≡ n) where
  abbrev r : Renaming
  r = renaming p l

  abbrev seen : Step → Op
  seen x = op_of types cell (step_instr x)

  -- an instruction of the objects' world and one of the output's body
  abbrev Same : Op → Step → Type 0
  Same o x = OpPairs r o (seen x)

  abbrev AreSame : List Op → List Step → Type 0
  AreSame os xs = Each Same os xs

  reads : (k : GlobalKey) (g : ℕ) → CellGets r (cell_place p k) g → Same (read p l k) (get_global g)
  reads k g h = onto (cell_place p k) h
    where
      onto : (o : Option ℕ) → CellGets r o g → OpPairs r (to_name ReadCell o) (ReadCell (cell g))
      onto None h = absurd h
      onto (Some c) h = h ∙ ap Some (sym (straight g))

  writes : (k : GlobalKey) (g : ℕ) → CellGets r (cell_place p k) g → Same (write p l k) (set_global g)
  writes k g h = onto (cell_place p k) h
    where
      onto : (o : Option ℕ) → CellGets r o g → OpPairs r (to_name WriteCell o) (WriteCell (cell g))
      onto None h = absurd h
      onto (Some c) h = h ∙ ap Some (sym (straight g))

  adds : (k : GlobalKey) (z : ℤ) (g : ℕ) → CellGets r (cell_place p k) g → AreSame (plus p l k z) (get_global g ∷ constant z ∷ add ∷ [])
  adds k z g h = (reads k g h, (refl, (refl, tt)))

  module _ (memory : CellGets r (cell_place p (base_key memory_base_name)) 1) (table : CellGets r (cell_place p (base_key table_base_name)) 2) (parts : List Part) where
    datum : (n : ℕ) → AreSame (datum_at p l n) (value_steps (OwnDatum n))
    datum n = adds (base_key memory_base_name) (signed32 n) 1 memory

    slot : (n : ℕ) → AreSame (slot_at p l n) (value_steps (OwnFunction n))
    slot n = adds (base_key table_base_name) (signed32 n) 2 table

    -- ---- windows

    abbrev Finds : Ref → Type 0
    Finds ref = is_foreign ref ≡ true → CellGets r (cell_place p (outside_global (cell_of ref.entry))) (cell_number Shared p parts l ref)

    -- by whether the symbol is foreign, and whether the window holds a slot
    value_by : (ref : Ref) (t n g : ℕ) (f s : Bool) → (f ≡ true → CellGets r (cell_place p (outside_global (cell_of ref.entry))) g)
        → AreSame
        (if s then (if f then read p l (outside_global (cell_of ref.entry)) ∷ [] else slot_at p l t) else (if f then plus p l (outside_global (cell_of ref.entry)) ref.addend else datum_at p l n))
        (value_steps (if f then (if s then ForeignFunction g else ForeignDatum g ref.addend) else (if s then OwnFunction t else OwnDatum n)))
    value_by ref t n g true true h = (reads (outside_global (cell_of ref.entry)) g (h refl), tt)
    value_by ref t n g true false h = adds (outside_global (cell_of ref.entry)) ref.addend g (h refl)
    value_by ref t n g false true h = slot t
    value_by ref t n g false false h = datum n

    window : (at : ℕ) (ref : Ref) → Finds ref → AreSame (stores_window p l at ref) (word_steps (window_word Shared p parts l at ref))
    window at ref h =
        let n = bits32 (pos (meant_address Shared l ref.meaning) +ℤ ref.addend) in
        let v = value_by ref (ref_slot l ref) n (cell_number Shared p parts l ref) (is_foreign ref) (ref.kind == 2) h in
        each_append Same (datum_at p l (at + ref.place)) (window_value p l ref ++ Own (instrs.Access 0x36 2 0) ∷ []) (value_steps (OwnDatum (at + ref.place))) _ (datum (at + ref.place))
        (each_append Same (window_value p l ref) (Own (instrs.Access 0x36 2 0) ∷ []) _ (store ∷ []) v (refl, tt))

    windows : (at : ℕ) (rs : List Ref) → ((ref : Ref) → Has rs ref → Finds ref) → AreSame (flat_map (stores_window p l at) rs) (flat_map word_steps (map (window_word Shared p parts l at) rs))
    windows at [] h = tt
    windows at (ref ∷ rs) h =
        each_append Same (stores_window p l at ref) (flat_map (stores_window p l at) rs) (word_steps (window_word Shared p parts l at ref)) (flat_map word_steps (map (window_word Shared p parts l at) rs))
        (window at ref (h ref (inl refl))) (windows at rs (λ x m. h x (inr m)))

    segments_same : (xs : List Part) → ((x : Part) (ref : Ref) → Has xs x → Has (refs x) ref → Finds ref)
        → AreSame (flat_map (stores_segment p l) xs) (flat_map word_steps (flat_map (segment_words Shared p parts l) xs))
    segments_same [] h = tt
    segments_same (x ∷ xs) h =
        subst (AreSame (flat_map (stores_segment p l) (x ∷ xs))) (sym (flat_split word_steps (segment_words Shared p parts l x) (flat_map (segment_words Shared p parts l) xs)))
        (each_append Same (stores_segment p l x) (flat_map (stores_segment p l) xs) (flat_map word_steps (segment_words Shared p parts l x)) (flat_map word_steps (flat_map (segment_words Shared p parts l) xs))
        (windows (segment_address l x.chunk) (refs x) (λ ref m. h x ref (inl refl) m)) (segments_same xs (λ y ref m n. h y ref (inr m) n)))

    -- ---- cells

    abbrev got_as : GotKey → WordReloc
    got_as key = record { to = Got (global_number l.numbers (got key)); value = if is_function_got Shared p parts l key then OwnFunction (got_value Shared l key) else OwnDatum (got_value Shared l key) }

    cell_by : (b : Bool) (v : ℕ) → AreSame (if b then slot_at p l v else datum_at p l v) (value_steps (if b then OwnFunction v else OwnDatum v))
    cell_by true v = slot v
    cell_by false v = datum v

    cells_same : (keys : List GotKey) → ((key : GotKey) → Has keys key → CellGets r (cell_place p (got key)) (global_number l.numbers (got key)))
        → AreSame (flat_map (sets_cell p l parts) keys) (flat_map word_steps (map got_as keys))
    cells_same [] h = tt
    cells_same (key ∷ keys) h =
        let b = is_function_got Shared p parts l key in
        let v = got_value Shared l key in
        each_append Same (sets_cell p l parts key) (flat_map (sets_cell p l parts) keys) (word_steps (got_as key)) (flat_map word_steps (map got_as keys))
        (each_append Same (if b then slot_at p l v else datum_at p l v) (write p l (got key) ∷ []) (value_steps (if b then OwnFunction v else OwnDatum v)) (set_global (global_number l.numbers (got key)) ∷ [])
        (cell_by b v) (writes (got key) (global_number l.numbers (got key)) (h key (inl refl)), tt))
        (cells_same keys (λ k m. h k (inr m)))

    gots_only : (keys : List GotKey) → filter_map (got_word Shared p parts l) (map got keys) ≡ map got_as keys
    gots_only [] = refl
    gots_only (key ∷ keys) = ap (λ ws. got_as key ∷ ws) (gots_only keys)

    -- the words of cells are those of the cells' keys
    cell_words : (exports : List InputSymbol) → filter_map (got_word Shared p parts l) (globals Shared p parts exports) ≡ map got_as (got_entries Shared parts)
    unfolding globals
    cell_words exports =
        let f = got_word Shared p parts l in
        let outs = map outside_global (global_imports_in Shared p parts) in
        let owns = filter_map own_global_key parts in
        let gots = map got (got_entries Shared parts) in
        let dates = filter_map datum_key exports in
        filter_map-append f outs (owns ++ gots ++ dates)
        ∙ ap (λ ws. ws ++ filter_map f (owns ++ gots ++ dates)) (none_of f outs (λ k m. let q = has_map outside_global (global_imports_in Shared p parts) k m in ap f (sym q.2)))
        ∙ filter_map-append f (owns ++ gots) dates
        ∙ ap (λ ws. filter_map f (owns ++ gots) ++ ws) (none_of f dates (λ k m. let q = has_pick datum_key exports k m in ap f (sym (given_some (is_kind Datum q.0) (exported_datum q.0) k q.2).1)))
        ∙ append-nil (filter_map f (owns ++ gots))
        ∙ filter_map-append f owns gots
        ∙ ap (λ ws. ws ++ filter_map f gots) (none_of f owns (λ k m. let q = has_pick own_global_key parts k m in ap f (sym (given_some (not (q.0.chunk.input == 0) && (q.0.chunk.kind == 2)) (own_global q.0.chunk.input q.0.chunk.index) k q.2).1)))
        ∙ gots_only (got_entries Shared parts)

    -- ---- the whole body

    closes : (os : List Op) (xs : List Step) → AreSame os xs
        → Each (OpPairs r) (os ++ Own (instrs.Plain 0x0B) ∷ []) (map (op_of types cell) (instrs_of (map (λ x. bare (step_instr x)) xs ++ bare (instrs.Plain 0x0B) ∷ [])))
    closes [] [] e = (refl, tt)
    closes (o ∷ os) (x ∷ xs) e = (e.0, closes os xs e.1)
    closes [] (x ∷ xs) e = absurd e
    closes (o ∷ os) [] e = absurd e

    pub applied_pairs : (exports : List InputSymbol) → l.numbers.globals ≡ globals Shared p parts exports
        → ((x : Part) (ref : Ref) → Has (solid_segments p parts) x → Has (refs x) ref → is_foreign ref ≡ true → CellGets r (cell_place p (outside_global (cell_of ref.entry))) (cell_number Shared p parts l ref))
        → ((key : GotKey) → Has (got_entries Shared parts) key → CellGets r (cell_place p (got key)) (global_number l.numbers (got key)))
        → SourcePairs r (Code [] (stores_all p l parts ++ Own (instrs.Plain 0x0B) ∷ [])) (coded (op_of types cell) (applied (words Shared p parts l)))
    applied_pairs exports keys finds gets =
        let front = flat_map (segment_words Shared p parts l) (solid_segments p parts) in
        let back : filter_map (got_word Shared p parts l) l.numbers.globals ≡ map got_as (got_entries Shared parts) = ap (filter_map (got_word Shared p parts l)) keys ∙ cell_words exports in
        let whole : flat_map word_steps (words Shared p parts l) ≡ flat_map word_steps front ++ flat_map word_steps (map got_as (got_entries Shared parts)) =
        ap (λ ws. flat_map word_steps (front ++ ws)) back ∙ flat_split word_steps front (map got_as (got_entries Shared parts)) in (
          refl,
          closes (stores_all p l parts) (flat_map word_steps (words Shared p parts l))
              (subst (AreSame (stores_all p l parts)) (sym whole)
              (each_append Same (flat_map (stores_segment p l) (solid_segments p parts)) (flat_map (sets_cell p l parts) (got_entries Shared parts)) (flat_map word_steps front) (flat_map word_steps (map got_as (got_entries Shared parts)))
              (segments_same (solid_segments p parts) finds) (cells_same (got_entries Shared parts) gets))),
        )
