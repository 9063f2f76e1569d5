-- The records of symbols are those of the definition.
use Rattle.std.proofs.Common.{◌≡◌, ℕ, suc, ◌+◌, ◌==◌, Bool, true, false, not, ◌&&◌, ◌||◌, cond, nat_lt, List, [], ◌∷◌, ◌++◌, map, filter, fold, length, slice_get, get_or, position, bit_and, Option, Some, None, option_map, unwrap_or, refl, sym, ap, subst, ◌∙◌, arith, append_assoc, append-nil}
use Rattle.std.specs.Prelude.{if◌then◌else◌}
use Rattle.std.specs.List.{list_any, list_all, position_or_len, AllByRecursion}
use Rattle.std.proofs.lemmas.Bool.{eq-eqb}
use Rattle.std.proofs.lemmas.Bool.Decides.{nat_tests}
use Rattle.std.proofs.lemmas.List.{length-append, map-append}
use Rattle.std.proofs.lemmas.List.Elements.{filter-append}
use Rattle.partial_symbols.specs.link_program.wl_base.Names.{number_of}
use Rattle.partial_symbols.specs.link_program.linking_section.Flags.{is_weak, kind_code}
use Rattle.partial_symbols.specs.link_program.linking_section.declared.symbol.Symbol.{Symbol}
use Rattle.partial_symbols.specs.link_program.linking_section.declared.symbol.SymbolKind.{SymbolKind}
use Rattle.partial_symbols.specs.link_program.linking_section.declared.symbol.SymbolKind.TheVariants.{Function, Datum, GlobalVar, Section, Table}
use Rattle.partial_symbols.specs.link_program.name_rules.Entries.{InputSymbol, is_entry, is_kind, name_of, same_entry}
use Rattle.partial_symbols.specs.link_program.name_entries.View.{entry_number}
use Rattle.partial_symbols.specs.link_program.link_rules.Program.{Program, chunk_at}
use Rattle.partial_symbols.specs.link_program.link_rules.Marks.{all_symbols}
use Rattle.partial_symbols.specs.link_program.declared.program.Program.{Program as Data}
use Rattle.partial_symbols.specs.link_program.made_symbols.declared.mode.Mode.TheVariants.{Plain}
use Rattle.partial_symbols.specs.link_program.Program.{IsProgramOf}
use Rattle.partial_symbols.proofs.link_program_lemmas.name_entries_lemmas.Numbers.{name_at}
use Rattle.partial_symbols.specs.partial_rules.Partial as partial
use Rattle.partial_symbols.specs.partial_rules.Partial.{is_none}
use Rattle.partial_symbols.specs.declared.facts.At.{At}
use Rattle.partial_symbols.specs.Standing.{column_at}
use Rattle.partial_symbols.specs.Known.{entry_spot, symbol_there}
use Rattle.partial_symbols.proofs.Held.{HeldWhere, numbered, held_objects}
use Rattle.partial_symbols.proofs.Numbered.{Differ, all_differ}
use Rattle.partial_symbols.proofs.Whole.{symbols_all}
use Rattle.partial_parts.proofs.Parts.{place_is_told}
use Rattle.partial_tree.specs.declared.symbols.Row.{Row}
use Rattle.partial_tree.specs.Rows.{Look, Made, known_of, nothing_made, one_if, is_function, is_global, open_index, open_flags, bit_where, with_open, index_of, with_defined, with_name, with_number, with_one, with_at, row_symbol, row_seen}
use Rattle.partial_tree.specs.Known.{IsLook}

-- ---- first places

shift : (l n : ℕ) → cond (nat_lt (1 + l) (suc n)) (Some (1 + l)) None ≡ option_map suc (cond (nat_lt l n) (Some l) None)
shift l n = grind (arith, nat_tests)

position_next : {A : Type 0} (p : A → Bool) (x : A) (xs : List A) → p x ≡ false → position p (x ∷ xs) ≡ option_map suc (position p xs)
position_next p x xs e = rw e (shift (position_or_len p xs) (length xs))

position_first : {A : Type 0} (p : A → Bool) (x : A) (xs : List A) → p x ≡ true → position p (x ∷ xs) ≡ Some 0
position_first p x xs e = rw e (grind (arith, nat_tests))

position_behind : {A : Type 0} (p : A → Bool) (xs : List A) (y : A) (ys : List A) → AllByRecursion (λ x. p x ≡ false) xs → p y ≡ true → position p (xs ++ y ∷ ys) ≡ Some (length xs)
position_behind p [] y ys none is = position_first p y ys is
position_behind p (x ∷ xs) y ys none is = position_next p x (xs ++ y ∷ ys) none.0 ∙ ap (option_map suc) (position_behind p xs y ys none.1 is)

-- ---- symbols that differ

kept_all : {A : Type 0} (P : A → Type 0) (test : A → Bool) (xs : List A) → AllByRecursion P xs → AllByRecursion P (filter test xs)
kept_all P test [] all = tt
kept_all P test (x ∷ xs) all = by (test x) (kept_all P test xs all.1)
  where
    by : (b : Bool) → AllByRecursion P (filter test xs) → AllByRecursion P (cond b (x ∷ filter test xs) (filter test xs))
    by true rest = (all.0, rest)
    by false rest = rest

kept_differ : (test : InputSymbol → Bool) (es : List InputSymbol) → Differ es → Differ (filter test es)
kept_differ test [] differ = tt
kept_differ test (e ∷ es) differ = by (test e) (kept_differ test es differ.1)
  where
    by : (b : Bool) → Differ (filter test es) → Differ (cond b (e ∷ filter test es) (filter test es))
    by true rest = (kept_all (λ x. same_entry x e ≡ false) test es differ.0, rest)
    by false rest = rest

in_middle : (P : InputSymbol → Type 0) (xs : List InputSymbol) (y : InputSymbol) (ys : List InputSymbol) → AllByRecursion P (xs ++ y ∷ ys) → P y
in_middle P [] y ys all = all.0
in_middle P (x ∷ xs) y ys all = in_middle P xs y ys all.1

before_differ : (xs : List InputSymbol) (y : InputSymbol) (ys : List InputSymbol) → Differ (xs ++ y ∷ ys) → AllByRecursion (λ x. same_entry y x ≡ false) xs
before_differ [] y ys differ = tt
before_differ (x ∷ xs) y ys differ = (in_middle (λ z. same_entry z x ≡ false) xs y ys differ.0, before_differ xs y ys differ.1)

all_weak : (rs : List InputSymbol) → not (list_any (λ (r : InputSymbol). not (is_weak r.symbol)) rs) ≡ list_all (λ (r : InputSymbol). is_weak r.symbol) rs
all_weak [] = refl
all_weak (r ∷ rs) = by (is_weak r.symbol) (all_weak rs)
  where
    by : (b : Bool) → not (list_any (λ (r : InputSymbol). not (is_weak r.symbol)) rs) ≡ list_all (λ (r : InputSymbol). is_weak r.symbol) rs
        → not (not b || list_any (λ (r : InputSymbol). not (is_weak r.symbol)) rs) ≡ (b && list_all (λ (r : InputSymbol). is_weak r.symbol) rs)
    by true rest = rest
    by false rest = refl

module _ (d : Data) (p : Program) (is : IsProgramOf Plain d p) (l : Look) (look : IsLook p d.names.now.names l) where
  abbrev names : List (List ℕ)
  names = d.names.now.names

  -- an open symbol of a kind
  abbrev opens : SymbolKind → InputSymbol → Bool
  opens kind e = partial.is_open p e && is_kind kind e

  -- the symbols so far are counted
  record Counts (before : List InputSymbol) (m : Made) : Type 0 where
    functions : m.functions ≡ length (filter (opens Function) before)
    globals : m.globals ≡ length (filter (opens GlobalVar) before)

  -- ---- the number of an open symbol

  number_is : (kind : SymbolKind) (before : List InputSymbol) (e : InputSymbol) (es : List InputSymbol) → before ++ e ∷ es ≡ partial.standing p → Differ (before ++ e ∷ es) → opens kind e ≡ true
      → unwrap_or (position (same_entry e) (partial.open_of p kind)) 0 ≡ length (filter (opens kind) before)
  number_is kind before e es whole differ passes =
      ap (λ xs. unwrap_or (position (same_entry e) (filter (opens kind) xs)) 0) (sym whole)
      ∙ (ap (λ xs. unwrap_or (position (same_entry e) xs) 0) (filter-append (opens kind) before (e ∷ es) ∙ ap (λ b. filter (opens kind) before ++ cond b (e ∷ filter (opens kind) es) (filter (opens kind) es)) passes)
      ∙ ap (λ o. unwrap_or o 0) (position_behind (same_entry e) (filter (opens kind) before) e (filter (opens kind) es) (kept_all (λ x. same_entry e x ≡ false) (opens kind) before (before_differ before e es differ)) itself))
    where
      itself : same_entry e e ≡ true
      itself = let i = eq-eqb e.input e.input refl in let q = eq-eqb e.place e.place refl in λ t. i t && q t

  counted : (kind : SymbolKind) (before : List InputSymbol) (e : InputSymbol) (n : ℕ) (b : Bool) → n ≡ length (filter (opens kind) before) → opens kind e ≡ b → n + one_if b ≡ length (filter (opens kind) (before ++ e ∷ []))
  counted kind before e n true count is =
      ap (λ k. k + 1) count
      ∙ sym (ap length (filter-append (opens kind) before (e ∷ []) ∙ ap (λ b. filter (opens kind) before ++ cond b (e ∷ []) []) is) ∙ length-append (filter (opens kind) before) (e ∷ []))
  counted kind before e n false count is =
      let none : n + 0 ≡ n = omega arith in
      none ∙ (count ∙ sym (ap length (filter-append (opens kind) before (e ∷ []) ∙ (ap (λ b. filter (opens kind) before ++ cond b (e ∷ []) []) is ∙ append-nil (filter (opens kind) before)))))

  -- ---- one symbol

  abbrev added : Made → At → InputSymbol → Made
  added m at e = with_number l m (known_of names at e) (entry_number names e)

  -- What one symbol more adds: its record, and its count.
  record Adds (before : List InputSymbol) (m : Made) (at : At) (e : InputSymbol) (row : Row) (new : Made) : Type 0 where
    rows : new.rows ≡ m.rows ++ row ∷ []
    there : row.at ≡ at
    symbol : row_symbol row e ≡ partial.symbol_for p e
    counts : Counts (before ++ e ∷ []) new

  record Added (before : List InputSymbol) (m : Made) (at : At) (e : InputSymbol) (new : Made) : Type 0 where
    row : Row
    adds : Adds before m at e row new

  no_more : (kind : SymbolKind) (before : List InputSymbol) (e : InputSymbol) (n : ℕ) → n ≡ length (filter (opens kind) before) → partial.is_open p e ≡ false → n ≡ length (filter (opens kind) (before ++ e ∷ []))
  no_more kind before e n count closed =
      let none : n ≡ n + 0 = omega arith in
      none ∙ counted kind before e n false count (ap (λ b. b && is_kind kind e) closed)

  defined_index : (at : At) (e : InputSymbol) (kind : SymbolKind) → index_of l (known_of names at e) kind ≡ partial.defined_index p e kind
  defined_index at e Function =
      let a = look.functions in
      let b = place_is_told p l.kept l.chunks (chunk_at e.input 0 e.index) (omega arith) look.chunks look.kept in
      λ i. a i + b i
  defined_index at e Datum = place_is_told p l.kept l.chunks (chunk_at e.input 1 e.index) (omega arith) look.chunks look.kept
  defined_index at e GlobalVar =
      let a = look.globals in
      let b = place_is_told p l.kept l.chunks (chunk_at e.input 2 e.index) (omega arith) look.chunks look.kept in
      λ i. a i + b i
  defined_index at e Section = refl
  defined_index at e Table = refl

  defined_one : (before : List InputSymbol) (m : Made) (at : At) (e : InputSymbol) → Counts before m → partial.is_open p e ≡ false → Added before m at e (with_defined l m (known_of names at e))
  defined_one before m at e counts closed = record {
    row = record { at = at; is_open = false; flags = e.symbol.flags; index = index_of l (known_of names at e) e.symbol.kind };
    adds = record {
      rows = refl;
      there = refl;
      symbol =
          ap (λ n. record e.symbol { index = n }) (defined_index at e e.symbol.kind)
          ∙ sym (ap (λ b. if b then partial.open_symbol p e else record e.symbol { index = partial.defined_index p e e.symbol.kind }) closed);
      counts = record { functions = no_more Function before e m.functions counts.functions closed; globals = no_more GlobalVar before e m.globals counts.globals closed };
    };
  }

  -- an open symbol's index
  index_is : (before : List InputSymbol) (m : Made) (e : InputSymbol) (es : List InputSymbol) → before ++ e ∷ es ≡ partial.standing p → Differ (before ++ e ∷ es) → Counts before m → partial.is_open p e ≡ true
      → (kind : SymbolKind) → e.symbol.kind ≡ kind → open_index m kind ≡ partial.open_index p e kind
  index_is before m e es whole differ counts is_one Function kind = counts.functions ∙ sym (number_is Function before e es whole differ (λ i. is_one i && (kind_code (kind i) == 0)))
  index_is before m e es whole differ counts is_one Datum kind = refl
  index_is before m e es whole differ counts is_one GlobalVar kind = counts.globals ∙ sym (number_is GlobalVar before e es whole differ (λ i. is_one i && (kind_code (kind i) == 2)))
  index_is before m e es whole differ counts is_one Section kind = refl
  index_is before m e es whole differ counts is_one Table kind = refl

  function_kind : (kind : SymbolKind) → is_function kind ≡ (kind_code kind == 0)
  function_kind Function = refl
  function_kind Datum = refl
  function_kind GlobalVar = refl
  function_kind Section = refl
  function_kind Table = refl

  global_kind : (kind : SymbolKind) → is_global kind ≡ (kind_code kind == 2)
  global_kind Function = refl
  global_kind Datum = refl
  global_kind GlobalVar = refl
  global_kind Section = refl
  global_kind Table = refl

  open_one : (before : List InputSymbol) (m : Made) (at : At) (e : InputSymbol) (es : List InputSymbol) (n : ℕ) → before ++ e ∷ es ≡ partial.standing p → Differ (before ++ e ∷ es) → Counts before m
      → partial.is_open p e ≡ true → slice_get names n ≡ Some (name_of e) → Added before m at e (with_open m at (open_flags (column_at l.sight n) e.symbol.flags) e.symbol.kind)
  open_one before m at e es n whole differ counts is_one named = record {
    row = record { at = at; is_open = true; flags = open_flags (column_at l.sight n) e.symbol.flags; index = open_index m e.symbol.kind };
    adds = record {
      rows = refl;
      there = refl;
      symbol = same ∙ sym (ap (λ b. if b then partial.open_symbol p e else record e.symbol { index = partial.defined_index p e e.symbol.kind }) is_one);
      counts = record {
        functions = counted Function before e m.functions (is_function e.symbol.kind) counts.functions ((λ i. is_one i && (kind_code e.symbol.kind == 0)) ∙ sym (function_kind e.symbol.kind));
        globals = counted GlobalVar before e m.globals (is_global e.symbol.kind) counts.globals ((λ i. is_one i && (kind_code e.symbol.kind == 2)) ∙ sym (global_kind e.symbol.kind));
      };
    };
  }
    where
      weak : not (column_at l.sight n).strong ≡ list_all (λ (r : InputSymbol). is_weak r.symbol) (partial.name_references p (name_of e))
      weak = ap not (look.sight.strong n (name_of e) named) ∙ all_weak (partial.name_references p (name_of e))

      flags : open_flags (column_at l.sight n) e.symbol.flags ≡ partial.flags_by p (partial.name_references p (name_of e)) e.symbol.flags
      flags = let explicit = look.sight.explicit n (name_of e) named in λ i. bit_and e.symbol.flags 0xAE + 0x10 + bit_where 0x01 (weak i) + bit_where 0x40 (explicit i)

      index : open_index m e.symbol.kind ≡ partial.open_index p e e.symbol.kind
      index = index_is before m e es whole differ counts is_one e.symbol.kind refl

      same : record { kind = e.symbol.kind; flags = open_flags (column_at l.sight n) e.symbol.flags; name = Some (name_of e); index = open_index m e.symbol.kind; offset = 0; size = 0 } ≡ partial.open_symbol p e
      same = λ i. record { kind = e.symbol.kind; flags = flags i; name = Some (name_of e); index = index i; offset = 0; size = 0 }

  by_winner : (before : List InputSymbol) (m : Made) (at : At) (e : InputSymbol) (es : List InputSymbol) (n : ℕ) → before ++ e ∷ es ≡ partial.standing p → Differ (before ++ e ∷ es) → Counts before m
      → is_entry e ≡ true → slice_get names n ≡ Some (name_of e) → Added before m at e (with_name l m (known_of names at e) n (get_or l.sight.winners n None))
  by_winner before m at e es n whole differ counts entry named =
      subst (λ w. Added before m at e (with_name l m (known_of names at e) n w)) (sym (look.sight.winner n (name_of e) named)) (by (partial.object_winner p (name_of e)) refl)
    where
      by : (w : Option InputSymbol) → partial.object_winner p (name_of e) ≡ w → Added before m at e (with_name l m (known_of names at e) n (option_map entry_spot w))
      by (Some w) won = defined_one before m at e counts ((λ i. entry i && is_none (won i)))
      by None won = open_one before m at e es n whole differ counts ((λ i. entry i && is_none (won i))) named

  one_added : (before : List InputSymbol) (m : Made) (at : At) (e : InputSymbol) (es : List InputSymbol) → before ++ e ∷ es ≡ partial.standing p → Differ (before ++ e ∷ es) → Counts before m → HeldWhere names e → Added before m at e (added m at e)
  one_added before m at e es whole differ counts held = by (is_entry e) refl
    where
      by : (b : Bool) → is_entry e ≡ b → Added before m at e (added m at e)
      by false none =
          subst (λ o. Added before m at e (with_number l m (known_of names at e) o)) (sym (ap (λ b. if b then number_of names (name_of e) else None) none))
          (defined_one before m at e counts (ap (λ b. b && is_none (partial.object_winner p (name_of e))) none))
      by true entry =
          let n = numbered names (name_of e) (held entry) in
          subst (λ o. Added before m at e (with_number l m (known_of names at e) o)) (sym (ap (λ b. if b then number_of names (name_of e) else None) entry ∙ n.1))
          (by_winner before m at e es n.0 whole differ counts entry (name_at names (name_of e) n.0 n.1))

  -- ---- all symbols

  all_from : (before es : List InputSymbol) (ats : List At) (m : Made) → before ++ es ≡ partial.standing p → Differ (before ++ es) → Counts before m → AllByRecursion (HeldWhere names) es
      → map (symbol_there p.objects) ats ≡ map Some es
      → map (row_seen p.objects) (fold (with_at l names p.objects) m ats).rows ≡ map (row_seen p.objects) m.rows ++ map Some (map (partial.symbol_for p) es)
  all_from before [] [] m whole differ counts held same = sym (append-nil (map (row_seen p.objects) m.rows))
  all_from before [] (at ∷ ats) m whole differ counts held same = absurd cc
  all_from before (e ∷ es) [] m whole differ counts held same = absurd cc
  all_from before (e ∷ es) (at ∷ ats) m whole differ counts held same =
      let there : symbol_there p.objects at ≡ Some e = cc in
      let others : map (symbol_there p.objects) ats ≡ map Some es = cc in
      let one = one_added before m at e es whole differ counts held.0 in
      let moved : (before ++ e ∷ []) ++ es ≡ before ++ e ∷ es = append_assoc before (e ∷ []) es in
      let rest = all_from (before ++ e ∷ []) es ats (added m at e) (moved ∙ whole) (subst Differ (sym moved) differ) one.adds.counts held.1 others in
      let seen : row_seen p.objects one.row ≡ Some (partial.symbol_for p e) =
      ap (λ a. option_map (row_symbol one.row) (symbol_there p.objects a)) one.adds.there ∙ (ap (option_map (row_symbol one.row)) there ∙ ap (λ (s : Symbol). Some s) one.adds.symbol) in
      ap (λ o. map (row_seen p.objects) (fold (with_at l names p.objects) (with_one l m (option_map (known_of names at) o)) ats).rows) there
      ∙ (rest
      ∙ (ap (λ rs. rs ++ map Some (map (partial.symbol_for p) es)) (ap (map (row_seen p.objects)) one.adds.rows ∙ map-append (row_seen p.objects) m.rows (one.row ∷ []))
      ∙ (append_assoc (map (row_seen p.objects) m.rows) (row_seen p.objects one.row ∷ []) (map Some (map (partial.symbol_for p) es))
      ∙ ap (λ s. map (row_seen p.objects) m.rows ++ s ∷ map Some (map (partial.symbol_for p) es)) seen)))

  standing_held : AllByRecursion (HeldWhere names) (partial.standing p)
  standing_held =
      kept_all (HeldWhere names) (partial.stands p) (all_symbols p)
      (subst (AllByRecursion (HeldWhere names)) (sym (symbols_all d p is)) (held_objects names p.objects p.objects is.numbers.symbols_held))

  standing_differ : Differ (partial.standing p)
  standing_differ = kept_differ (partial.stands p) (all_symbols p) (subst Differ (sym (symbols_all d p is)) (all_differ p.objects is.rise))

  pub rows_are : (ats : List At) → map (symbol_there p.objects) ats ≡ map Some (partial.standing p)
      → map (row_seen p.objects) (fold (with_at l names d.objects.now) nothing_made ats).rows ≡ map Some (map (partial.symbol_for p) (partial.standing p))
  rows_are ats same =
      ap (λ os. map (row_seen p.objects) (fold (with_at l names os) nothing_made ats).rows) is.objects
      ∙ all_from [] (partial.standing p) ats nothing_made refl standing_differ (record { functions = refl; globals = refl }) standing_held same
