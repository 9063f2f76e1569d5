-- The symbols of open names that are found are those of the definition.
use Rattle.std.proofs.Common.{◌≡◌, ℕ, suc, append-nil, ◌+◌, ◌<◌, Bool, true, false, ◌&&◌, cond, List, [], ◌∷◌, ◌++◌, map, take, length, filter, filter_map, slice_get, get_or, Option, Some, None, option_map, option_and_then, refl, sym, ap, subst, ◌∙◌}
use Rattle.std.specs.Prelude.{if◌then◌else◌}
use Rattle.std.specs.Option.{option_or}
use Rattle.std.specs.List.{AllByRecursion, cons_option}
use Rattle.std.proofs.lemmas.List.{take_more, length-append}
use Rattle.std.proofs.lemmas.List.Elements.{filter_map-append, filter-append}
use Rattle.std.proofs.lemmas.Option.{same_Some}
use Rattle.partial_symbols.specs.link_program.wl_base.Choice.{first_some}
use Rattle.partial_symbols.specs.link_program.wl_base.Names.{number_of}
use Rattle.partial_symbols.specs.link_program.linking_section.Flags.{is_explicit}
use Rattle.partial_symbols.specs.link_program.linking_section.declared.symbol.SymbolKind.{SymbolKind}
use Rattle.partial_symbols.specs.link_program.object_file.declared.object.Object.{Object}
use Rattle.partial_symbols.specs.link_program.name_rules.Entries.{InputSymbol, is_entry, is_kind, name_of}
use Rattle.partial_symbols.specs.link_program.name_rules.Meanings.{least_import}
use Rattle.partial_symbols.specs.link_program.name_entries.View.{entry_number}
use Rattle.partial_symbols.specs.link_program.link_rules.Program.{Program}
use Rattle.partial_symbols.specs.link_program.link_rules.Marks.{all_symbols}
use Rattle.partial_symbols.specs.link_program.declared.program.Program.{Program as Data}
use Rattle.partial_symbols.specs.link_program.made_symbols.declared.mode.Mode.TheVariants.{Plain}
use Rattle.partial_symbols.specs.link_program.Program.{IsProgramOf}
use Rattle.partial_symbols.proofs.link_program_lemmas.name_entries_lemmas.Numbers.{name_at}
use Rattle.partial_symbols.specs.partial_rules.Partial as partial
use Rattle.partial_symbols.specs.partial_rules.Partial.{is_none}
use Rattle.partial_symbols.specs.declared.facts.At.{At}
use Rattle.partial_symbols.specs.declared.columns.Column.{Column}
use Rattle.partial_symbols.specs.Standing.{Sight, column_at}
use Rattle.partial_symbols.specs.Known.{entry_spot, symbol_there, import_there, IsSight}
use Rattle.partial_symbols.proofs.Held.{HeldWhere, numbered, held_objects}
use Rattle.partial_symbols.proofs.Whole.{symbols_all}
use Rattle.partial_imports.specs.declared.opens.Open.{Open}
use Rattle.partial_imports.specs.Opens.{open_with, open_by, open_at, SeenOpen, open_seen, told_open, is_of, count_in, one_more}

-- one item more that may be found
pub found_more : {A B : Type 0} (f : A → Option B) (xs : List A) (i : ℕ) (d : A) → i < length xs → (old new : List B) → new ≡ old ++ cons_option (f (get_or xs i d)) [] → old ≡ filter_map f (take i xs)
    → new ≡ filter_map f (take (i + 1) xs)
found_more f xs i d lt old new put so_far =
    put ∙ (ap (λ os. os ++ cons_option (f (get_or xs i d)) []) so_far
    ∙ sym (ap (filter_map f) (take_more xs i d lt) ∙ filter_map-append f (take i xs) (get_or xs i d ∷ [])))

map_or : {A B : Type 0} (f : A → B) (a b : Option A) → option_map f (option_or a b) ≡ option_or (option_map f a) (option_map f b)
map_or f None b = refl
map_or f (Some a) b = refl

both_first : {A : Type 0} (a b : Option A) → option_or (option_map (λ (x : A). Some x) a) (option_map (λ x. Some x) b) ≡ option_map (λ x. Some x) (first_some (a ∷ b ∷ []))
both_first None None = refl
both_first None (Some b) = refl
both_first (Some a) b = refl

kept_all : {A : Type 0} (P : A → Type 0) (test : A → Bool) (xs : List A) → AllByRecursion P xs → AllByRecursion P (filter test xs)
kept_all P test [] all = tt
kept_all P test (x ∷ xs) all = by (test x) (kept_all P test xs all.1)
  where
    by : (b : Bool) → AllByRecursion P (filter test xs) → AllByRecursion P (cond b (x ∷ filter test xs) (filter test xs))
    by true rest = (all.0, rest)
    by false rest = rest

module _ (d : Data) (p : Program) (is : IsProgramOf Plain d p) (v : Sight) (seen : IsSight p d.names.now.names v) where
  abbrev names : List (List ℕ)
  names = d.names.now.names

  -- what is found of a symbol is what the definition says
  abbrev Agrees : At → InputSymbol → Type 0
  Agrees at e = option_map (open_seen p.objects) (open_by v at e (entry_number names e)) ≡ (if partial.is_open p e then Some (told_open p e) else None)

  open_name : (at : At) (e : InputSymbol) (n : ℕ) → symbol_there p.objects at ≡ Some e → is_entry e ≡ true → number_of names (name_of e) ≡ Some n
      → option_map (open_seen p.objects) (open_with v at e n (get_or v.winners n None)) ≡ (if partial.is_open p e then Some (told_open p e) else None)
  open_name at e n there entry found =
      ap (λ w. option_map (open_seen p.objects) (open_with v at e n w)) (seen.winner n (name_of e) named)
      ∙ (by (partial.object_winner p (name_of e)) ∙ sym (ap (λ b. if b && is_none (partial.object_winner p (name_of e)) then Some (told_open p e) else None) entry))
    where
      named : slice_get names n ≡ Some (name_of e)
      named = name_at names (name_of e) n found

      by : (w : Option InputSymbol) → option_map (open_seen p.objects) (open_with v at e n (option_map entry_spot w)) ≡ (if is_none w then Some (told_open p e) else None)
      by (Some w) = refl
      by None =
          let c : Column = column_at v n in
          let first = seen.explicit_import n (name_of e) named in
          let second = seen.import n (name_of e) named in
          let imports : option_map (import_there p.objects) (option_or c.explicit_import c.import)
          ≡ option_map Some (first_some (least_import (filter (λ (r : InputSymbol). is_explicit r.symbol) (partial.name_references p (name_of e))) ∷ least_import (partial.name_references p (name_of e)) ∷ [])) =
          map_or (import_there p.objects) c.explicit_import c.import
          ∙ ((λ i. option_or (first i) (second i))
          ∙ both_first (least_import (filter (λ (r : InputSymbol). is_explicit r.symbol) (partial.name_references p (name_of e)))) (least_import (partial.name_references p (name_of e)))) in
          λ i. Some (record { symbol = there i; kind = e.symbol.kind; import = imports i })

  agrees : (at : At) (e : InputSymbol) → symbol_there p.objects at ≡ Some e → HeldWhere names e → Agrees at e
  agrees at e there held = by (is_entry e) refl
    where
      by : (b : Bool) → is_entry e ≡ b → Agrees at e
      by false none =
          ap (λ b. option_map (open_seen p.objects) (open_by v at e (if b then number_of names (name_of e) else None))) none
          ∙ sym (ap (λ b. if b && is_none (partial.object_winner p (name_of e)) then Some (told_open p e) else None) none)
      by true entry =
          let n = numbered names (name_of e) (held entry) in
          ap (λ b. option_map (open_seen p.objects) (open_by v at e (if b then number_of names (name_of e) else None))) entry
          ∙ (ap (λ o. option_map (open_seen p.objects) (open_by v at e o)) n.1
          ∙ open_name at e n.0 there entry n.1)

  one : (o : Option Open) (rest : List Open) (b : Bool) (e : InputSymbol) (es : List InputSymbol) → option_map (open_seen p.objects) o ≡ (if b then Some (told_open p e) else None)
      → map (open_seen p.objects) rest ≡ map (told_open p) es → map (open_seen p.objects) (cons_option o rest) ≡ map (told_open p) (cond b (e ∷ es) es)
  one None rest true e es is again = absurd cc
  one None rest false e es is again = again
  one (Some o) rest true e es is again = let h = same_Some (open_seen p.objects o) (told_open p e) is in λ i. h i ∷ again i
  one (Some o) rest false e es is again = absurd cc

  each : (ats : List At) (es : List InputSymbol) → map (symbol_there p.objects) ats ≡ map Some es → AllByRecursion (HeldWhere names) es
      → map (open_seen p.objects) (filter_map (open_at v names p.objects) ats) ≡ map (told_open p) (filter (partial.is_open p) es)
  each [] [] same held = refl
  each [] (e ∷ es) same held = absurd cc
  each (at ∷ ats) [] same held = absurd cc
  each (at ∷ ats) (e ∷ es) same held =
      let there : symbol_there p.objects at ≡ Some e = cc in
      let others : map (symbol_there p.objects) ats ≡ map Some es = cc in
      ap (λ o. map (open_seen p.objects) (cons_option (option_and_then (λ e. open_by v at e (entry_number names e)) o) (filter_map (open_at v names p.objects) ats))) there
      ∙ one (open_by v at e (entry_number names e)) (filter_map (open_at v names p.objects) ats) (partial.is_open p e) e (filter (partial.is_open p) es) (agrees at e there held.0) (each ats es others held.1)

  pub opens_are : (symbols : List At) → map (symbol_there p.objects) symbols ≡ map Some (partial.standing p)
      → map (open_seen p.objects) (filter_map (open_at v names d.objects.now) symbols) ≡ map (told_open p) (filter (partial.is_open p) (partial.standing p))
  opens_are symbols same =
      ap (λ os. map (open_seen p.objects) (filter_map (open_at v names os) symbols)) is.objects
      ∙ each symbols (partial.standing p) same
      (kept_all (HeldWhere names) (partial.stands p) (all_symbols p)
      (subst (AllByRecursion (HeldWhere names)) (sym (symbols_all d p is)) (held_objects names p.objects p.objects is.numbers.symbols_held)))

-- ---- how many there are of a kind

pub counted_more : (kind : SymbolKind) (xs : List Open) (i : ℕ) (d : Open) → i < length xs → (old new : ℕ) → new ≡ one_more old (is_of kind (get_or xs i d).kind) → old ≡ count_in kind (take i xs) → new ≡ count_in kind (take (i + 1) xs)
counted_more kind xs i d lt old new put so_far =
    put ∙ (ap (λ n. one_more n (is_of kind (get_or xs i d).kind)) so_far
    ∙ (by (is_of kind (get_or xs i d).kind)
    ∙ sym (ap (count_in kind) (take_more xs i d lt) ∙ ap length (filter-append (λ (o : Open). is_of kind o.kind) (take i xs) (get_or xs i d ∷ [])))))
  where
    by : (b : Bool) → one_more (count_in kind (take i xs)) b ≡ length (filter (λ (o : Open). is_of kind o.kind) (take i xs) ++ cond b (get_or xs i d ∷ []) [])
    by true = sym (length-append (filter (λ (o : Open). is_of kind o.kind) (take i xs)) (get_or xs i d ∷ []))
    by false = ap length (sym (append-nil (filter (λ (o : Open). is_of kind o.kind) (take i xs))))

of_opens : (objects : List Object) (kind : SymbolKind) (opens : List Open) → count_in kind opens ≡ length (filter (λ (s : SeenOpen). is_of kind s.kind) (map (open_seen objects) opens))
of_opens objects kind [] = refl
of_opens objects kind (o ∷ opens) = by (is_of kind o.kind) (of_opens objects kind opens)
  where
    by : (b : Bool) → count_in kind opens ≡ length (filter (λ (s : SeenOpen). is_of kind s.kind) (map (open_seen objects) opens))
        → length (cond b (o ∷ filter (λ (o : Open). is_of kind o.kind) opens) (filter (λ (o : Open). is_of kind o.kind) opens))
        ≡ length (cond b (open_seen objects o ∷ filter (λ (s : SeenOpen). is_of kind s.kind) (map (open_seen objects) opens)) (filter (λ (s : SeenOpen). is_of kind s.kind) (map (open_seen objects) opens)))
    by true rest = ap suc rest
    by false rest = rest

of_told : (p : Program) (kind : SymbolKind) (es : List InputSymbol) → length (filter (λ (s : SeenOpen). is_of kind s.kind) (map (told_open p) (filter (partial.is_open p) es))) ≡ length (filter (λ (e : InputSymbol). partial.is_open p e && is_kind kind e) es)
of_told p kind [] = refl
of_told p kind (e ∷ es) = by (partial.is_open p e) (is_kind kind e) refl (of_told p kind es)
  where
    told : List SeenOpen
    told = filter (λ (s : SeenOpen). is_of kind s.kind) (map (told_open p) (filter (partial.is_open p) es))

    rest : List InputSymbol
    rest = filter (λ (e : InputSymbol). partial.is_open p e && is_kind kind e) es

    by : (a b : Bool) → is_kind kind e ≡ b → length told ≡ length rest
        → length (filter (λ (s : SeenOpen). is_of kind s.kind) (map (told_open p) (cond a (e ∷ filter (partial.is_open p) es) (filter (partial.is_open p) es)))) ≡ length (cond (a && b) (e ∷ rest) rest)
    by true true is again = ap (λ c. length (cond c (told_open p e ∷ told) told)) is ∙ ap suc again
    by true false is again = ap (λ c. length (cond c (told_open p e ∷ told) told)) is ∙ again
    by false b is again = again

-- The count of a kind is that of the definition.
pub count_is : (p : Program) (kind : SymbolKind) (opens : List Open) → map (open_seen p.objects) opens ≡ map (told_open p) (filter (partial.is_open p) (partial.standing p)) → count_in kind opens ≡ length (partial.open_of p kind)
count_is p kind opens same = of_opens p.objects kind opens ∙ (ap (λ ss. length (filter (λ (s : SeenOpen). is_of kind s.kind) ss)) same ∙ of_told p kind (partial.standing p))
