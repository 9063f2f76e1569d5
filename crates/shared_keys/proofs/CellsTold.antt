-- The cells of foreign addresses, by the numbers of their imports and as the definition has them.
use Rattle.std.proofs.Common.{◌≡◌, ℕ, nat_eq, ◌==◌, Bool, true, false, not, ◌&&◌, ◌||◌, cond, List, [], ◌∷◌, ◌++◌, map, filter, filter_map, slice_get, Option, Some, None, option_map, unwrap_or, refl, sym, ap, subst, ◌∙◌}
use Rattle.std.specs.Prelude.{if◌then◌else◌, bytes_eq, slice_index_or}
use Rattle.std.specs.List.{list_any, All, cons_option}
use Rattle.std.proofs.lemmas.List.{map-append}
use Rattle.std.proofs.lemmas.List.Sums.{fold-append}
use Rattle.std.proofs.lemmas.List.Elements.{All-head, All-tail, All-cons, All-append, filter_map-append}
use Rattle.std.proofs.lemmas.Option.{get_or_from_slice_get}
use Rattle.indexmap.specs.IndexSet.{insert_key, insert_all}
use Rattle.link_keys.specs.link_program.wl_base.Choice.{given}
use Rattle.link_keys.specs.link_program.wl_base.Names.{number_of}
use Rattle.link_keys.specs.link_program.index_layout.Numbers.{number_by}
use Rattle.link_keys.specs.link_program.linking_section.declared.symbol.SymbolKind.{SymbolKind}
use Rattle.link_keys.specs.link_program.linking_section.declared.symbol.SymbolKind.TheVariants.{Function, Datum, GlobalVar, Section, Table}
use Rattle.link_keys.specs.link_program.linking_section.Flags.{kind_code}
use Rattle.link_keys.specs.link_program.name_rules.Entries.{InputSymbol, ImportKey, same_import, is_entry, is_kind, name_of}
use Rattle.link_keys.specs.link_program.name_rules.Meanings.{Meaning, here, imported, null, nothing, cell_of}
use Rattle.link_keys.specs.link_program.name_rules.Further.{is_here}
use Rattle.link_keys.specs.link_program.name_entries.View.{entry_number}
use Rattle.link_keys.specs.link_program.name_meanings.Kept.{cell_key}
use Rattle.link_keys.specs.link_program.link_rules.Program as rules
use Rattle.link_keys.specs.link_program.link_rules.Program.{Ref, refs}
use Rattle.link_keys.specs.link_program.link_rules.Marks.{refs_of, is_foreign}
use Rattle.link_keys.specs.link_program.link_rules.Keys.{foreign_cell}
use Rattle.link_keys.specs.link_program.declared.symbol.Symbol.{Symbol}
use Rattle.link_keys.specs.link_program.declared.named.Named.{Named}
use Rattle.link_keys.specs.link_program.declared.named.Named.TheVariants as windows
use Rattle.link_keys.specs.link_program.declared.program.Tables.{Tables}
use Rattle.link_keys.specs.link_program.Look.{part_at, row_at}
use Rattle.link_keys.specs.link_program.Seen.{no_symbol}
use Rattle.link_keys.specs.link_program.Told.{told_lead, told_symbol}
use Rattle.link_keys.specs.LiveRefs.{LiveRef, named_ref, is_code, refs_at, live_refs}
use Rattle.link_keys.specs.Noted.{where_so}
use Rattle.link_keys.proofs.Any.{all_none}
use Rattle.link_keys.proofs.Equals.{stands, position_held}
use Rattle.link_keys.proofs.Imports.{name_equal, name_itself, both}
use Rattle.link_keys.proofs.LiveTold.{told_live, part_code, part_refs, told_refs}
use Rattle.shared_keys.specs.Cells.{is_here_lead, asks_cell, name_at, is_numbered, cell_named, is_known, cell_number}
use Rattle.shared_keys.specs.Foreign.{put_by, put_cell, put_named, put_row, put_parts}

-- whether a part is of a kind
abbrev pub is_of : Tables → ℕ → ℕ → Bool
is_of t kind n = (part_at t n).chunk.kind == kind

module _ (names : List (List ℕ)) (imports : List ImportKey) where
  -- ---- cells that are put behind others, one after another

  abbrev pub cell_asked : LiveRef → Option ℕ
  cell_asked r = where_so (asks_cell r.kind r.symbol) (Some (cell_number names imports r.symbol))

  abbrev pub CellKnown : LiveRef → Type 0
  CellKnown r = asks_cell r.kind r.symbol ≡ true → is_known names imports r.symbol ≡ true

  pub record Put (refs : List LiveRef) (old now : List ℕ) : Type 0 where
    pub cells : now ≡ insert_all nat_eq old (filter_map cell_asked refs)
    pub known : All CellKnown refs

  one_put : (r : LiveRef) (old now : List ℕ) → put_cell names imports r.kind r.symbol (Some old) ≡ Some now → Put (r ∷ []) old now
  one_put r old now is = by (asks_cell r.kind r.symbol) (is_known names imports r.symbol) refl refl is
    where
      by : (a k : Bool) → asks_cell r.kind r.symbol ≡ a → is_known names imports r.symbol ≡ k → put_by a k (cell_number names imports r.symbol) old ≡ Some now → Put (r ∷ []) old now
      by false k ea ek e =
          let same : old ≡ now = cc in
          record {
            cells = sym same ∙ ap (λ b. insert_all nat_eq old (cons_option (where_so b (Some (cell_number names imports r.symbol))) [])) (sym ea);
            known = All-cons CellKnown r [] (λ t. absurd (let z : true ≡ false = sym t ∙ ea in cc)) (all_none CellKnown);
          }
      by true true ea ek e =
          let same : insert_key nat_eq old (cell_number names imports r.symbol) ≡ now = cc in
          record {
            cells = sym same ∙ ap (λ b. insert_all nat_eq old (cons_option (where_so b (Some (cell_number names imports r.symbol))) [])) (sym ea);
            known = All-cons CellKnown r [] (λ t. ek) (all_none CellKnown);
          }
      by true false ea ek e = absurd cc

  more_put : (first more : List LiveRef) (old mid now : List ℕ) → Put first old mid → Put more mid now → Put (first ++ more) old now
  more_put first more old mid now a b = record {
    cells = b.cells
        ∙ ap (λ cs. insert_all nat_eq cs (filter_map cell_asked more)) a.cells
        ∙ sym (fold-append (insert_key nat_eq) old (filter_map cell_asked first) (filter_map cell_asked more))
        ∙ ap (insert_all nat_eq old) (sym (filter_map-append cell_asked first more));
    known = All-append CellKnown first more a.known b.known;
  }

  none_row : (symbols : List Symbol) (row : List Named) → put_row names imports symbols None row ≡ None
  none_row symbols [] = refl
  none_row symbols (windows.Symbol kind place addend symbol ∷ row) = none_row symbols row
  none_row symbols (windows.Type place number ∷ row) = none_row symbols row

  row_put : (symbols : List Symbol) (code : Bool) (row : List Named) (old now : List ℕ) → put_row names imports symbols (Some old) row ≡ Some now → Put (filter_map (named_ref symbols code) row) old now
  row_put symbols code [] old now e = let same : old ≡ now = cc in record { cells = sym same; known = all_none CellKnown }
  row_put symbols code (windows.Symbol kind place addend symbol ∷ row) old now e =
      step (put_named names imports symbols (Some old) (windows.Symbol kind place addend symbol)) refl e (λ mid rest. row_put symbols code row mid now rest)
    where
      step : (o : Option (List ℕ)) → put_named names imports symbols (Some old) (windows.Symbol kind place addend symbol) ≡ o → put_row names imports symbols o row ≡ Some now
          → ((mid : List ℕ) → put_row names imports symbols (Some mid) row ≡ Some now → Put (filter_map (named_ref symbols code) row) mid now)
          → Put (record { code = code; kind = kind; symbol = slice_index_or symbols symbol no_symbol } ∷ filter_map (named_ref symbols code) row) old now
      step None is e later = absurd (let z : None ≡ Some now = sym (none_row symbols row) ∙ e in cc)
      step (Some mid) is e later =
          more_put (record { code = code; kind = kind; symbol = slice_index_or symbols symbol no_symbol } ∷ []) (filter_map (named_ref symbols code) row) old mid now
          (one_put (record { code = code; kind = kind; symbol = slice_index_or symbols symbol no_symbol }) old mid is) (later mid e)
  row_put symbols code (windows.Type place number ∷ row) old now e = row_put symbols code row old now e

  none_part : (t : Tables) (n : ℕ) (b : Bool) → cond b (put_row names imports t.symbols None (row_at t n)) None ≡ None
  none_part t n true = none_row t.symbols (row_at t n)
  none_part t n false = refl

  pub none_parts : (t : Tables) (kind : ℕ) (live : List ℕ) → put_parts names imports t kind None live ≡ None
  none_parts t kind [] = refl
  none_parts t kind (n ∷ live) = ap (λ cs. put_parts names imports t kind cs live) (none_part t n (is_of t kind n)) ∙ none_parts t kind live

  -- The cells of live parts of a kind.
  pub parts_put : (t : Tables) (kind : ℕ) (live : List ℕ) (old now : List ℕ) → put_parts names imports t kind (Some old) live ≡ Some now
      → Put (live_refs t (filter (is_of t kind) live)) old now
  parts_put t kind [] old now e = let same : old ≡ now = cc in record { cells = sym same; known = all_none CellKnown }
  parts_put t kind (n ∷ live) old now e = by (is_of t kind n) e (λ mid rest. parts_put t kind live mid now rest)
    where
      step : (o : Option (List ℕ)) → put_row names imports t.symbols (Some old) (row_at t n) ≡ o → put_parts names imports t kind o live ≡ Some now
          → ((mid : List ℕ) → put_parts names imports t kind (Some mid) live ≡ Some now → Put (live_refs t (filter (is_of t kind) live)) mid now)
          → Put (refs_at t n ++ live_refs t (filter (is_of t kind) live)) old now
      step None is e later = absurd (let z : None ≡ Some now = sym (none_parts t kind live) ∙ e in cc)
      step (Some mid) is e later =
          more_put (refs_at t n) (live_refs t (filter (is_of t kind) live)) old mid now (row_put t.symbols (is_code (part_at t n)) (row_at t n) old mid is) (later mid e)

      by : (b : Bool) → put_parts names imports t kind (cond b (put_row names imports t.symbols (Some old) (row_at t n)) (Some old)) live ≡ Some now
          → ((mid : List ℕ) → put_parts names imports t kind (Some mid) live ≡ Some now → Put (live_refs t (filter (is_of t kind) live)) mid now)
          → Put (live_refs t (cond b (n ∷ filter (is_of t kind) live) (filter (is_of t kind) live))) old now
      by true e later = step (put_row names imports t.symbols (Some old) (row_at t n)) refl e later
      by false e later = later old e

  -- ---- a reference as it is told

  abbrev H : ImportKey → Type 0
  H k = list_any (same_import k) imports ≡ true

  here_told : (m : Meaning) → is_here_lead (told_lead imports m) ≡ is_here m
  here_told (here e) = refl
  here_told (imported k) = refl
  here_told null = refl
  here_told nothing = refl

  number_named : (name : List ℕ) (n : ℕ) → number_of names name ≡ Some n → name_at names n ≡ name
  number_named name n found =
      let s = stands bytes_eq name_equal name_itself names name (position_held bytes_eq name_equal name_itself names name n found) in
      let same : Some s.at ≡ Some n = sym s.found ∙ found in
      let place : s.at ≡ n = cc in
      get_or_from_slice_get names n name [] (ap (slice_get names) (sym place) ∙ s.there)

  record IsNamed (e : InputSymbol) : Type 0 where
    pub entry : is_entry e ≡ true
    pub name : name_at names (unwrap_or (entry_number names e) 0) ≡ name_of e

  entry_named : (e : InputSymbol) → is_numbered names (entry_number names e) ≡ true → IsNamed e
  entry_named e is = by_entry (is_entry e) refl is
    where
      by_number : (o : Option ℕ) → number_of names (name_of e) ≡ o → is_entry e ≡ true → is_numbered names o ≡ true → name_at names (unwrap_or o 0) ≡ name_of e
      by_number None found entry known = absurd cc
      by_number (Some n) found entry known = number_named (name_of e) n found

      by_entry : (b : Bool) → is_entry e ≡ b → is_numbered names (if b then number_of names (name_of e) else None) ≡ true → IsNamed e
      by_entry true entry known = record {
        entry = entry;
        name = ap (λ b. name_at names (unwrap_or (if b then number_of names (name_of e) else None) 0)) entry ∙ by_number (number_of names (name_of e)) refl entry known;
      }
      by_entry false entry known = absurd cc

  given_told : {A B : Type 0} (f : A → B) (r s : Bool) (x : A) (y : B) → r ≡ s → (s ≡ true → y ≡ f x) → where_so r (Some y) ≡ option_map f (given s x)
  given_told f true true x y same is = ap Some (is refl)
  given_told f false false x y same is = refl
  given_told f true false x y same is = absurd cc
  given_told f false true x y same is = absurd cc

  -- The two tests agree where the symbol is an entry: a is that it is no call, h that it isn't here, f, d and g its kinds, n that it is one.
  same_test : (a h f d g n : Bool) → (f ≡ true → g ≡ false) → (d ≡ true → g ≡ false) → (((a && h) && (f || d)) ≡ true → n ≡ true)
      → ((a && h) && (f || d)) ≡ ((a && not g) && ((h && n) && ((f || d) || g)))
  same_test false h f d g n fg dg ns = refl
  same_test true false f d true n fg dg ns = refl
  same_test true false f d false n fg dg ns = refl
  same_test true true true d true n fg dg ns = absurd (let z = fg refl in cc)
  same_test true true true d false true fg dg ns = refl
  same_test true true true d false false fg dg ns = absurd (let z = ns refl in cc)
  same_test true true false true true n fg dg ns = absurd (let z = dg refl in cc)
  same_test true true false true false true fg dg ns = refl
  same_test true true false true false false fg dg ns = absurd (let z = ns refl in cc)
  same_test true true false false true n fg dg ns = refl
  same_test true true false false false true fg dg ns = refl
  same_test true true false false false false fg dg ns = refl

  no_function : (k : SymbolKind) → (kind_code k == kind_code Function) ≡ true → (kind_code k == kind_code GlobalVar) ≡ false
  no_function Function is = refl
  no_function Datum is = refl
  no_function GlobalVar is = absurd cc
  no_function Section is = refl
  no_function Table is = refl

  no_datum : (k : SymbolKind) → (kind_code k == kind_code Datum) ≡ true → (kind_code k == kind_code GlobalVar) ≡ false
  no_datum Function is = refl
  no_datum Datum is = refl
  no_datum GlobalVar is = absurd cc
  no_datum Section is = refl
  no_datum Table is = refl

  abbrev asks : Ref → Bool
  asks ref = asks_cell ref.kind (told_symbol names imports ref.entry ref.meaning)

  abbrev foreign : Ref → Bool
  foreign ref = not (ref.kind == 0) && not (is_kind GlobalVar ref.entry) && is_foreign ref

  entry_asked : (code : Bool) (ref : Ref) → CellKnown (told_live names imports code ref) → asks ref ≡ true → IsNamed ref.entry
  entry_asked code ref known is =
      let k = known is in
      entry_named ref.entry (both (is_numbered names (entry_number names ref.entry)) (list_any (same_import (cell_named names (told_symbol names imports ref.entry ref.meaning))) imports) k).0

  asks_foreign : (code : Bool) (ref : Ref) → CellKnown (told_live names imports code ref) → asks ref ≡ foreign ref
  asks_foreign code ref known =
      ap (λ h. not (ref.kind == 0) && not h && (is_kind Function ref.entry || is_kind Datum ref.entry)) (here_told ref.meaning)
      ∙ same_test (not (ref.kind == 0)) (not (is_here ref.meaning)) (is_kind Function ref.entry) (is_kind Datum ref.entry) (is_kind GlobalVar ref.entry) (is_entry ref.entry)
      (no_function ref.entry.symbol.kind) (no_datum ref.entry.symbol.kind)
      (λ is. (entry_asked code ref known (ap (λ h. not (ref.kind == 0) && not h && (is_kind Function ref.entry || is_kind Datum ref.entry)) (here_told ref.meaning) ∙ is)).entry)

  key_told : (code : Bool) (ref : Ref) → CellKnown (told_live names imports code ref) → asks ref ≡ true → cell_named names (told_symbol names imports ref.entry ref.meaning) ≡ cell_of ref.entry
  key_told code ref known is = ap (cell_key (is_kind Function ref.entry)) (entry_asked code ref known is).name

  one_told : (code : Bool) (ref : Ref) → CellKnown (told_live names imports code ref) → cell_asked (told_live names imports code ref) ≡ option_map (number_by same_import imports) (foreign_cell ref)
  one_told code ref known =
      let same = asks_foreign code ref known in
      given_told (number_by same_import imports) (asks ref) (foreign ref) (cell_of ref.entry) (cell_number names imports (told_symbol names imports ref.entry ref.meaning)) same
      (λ is. ap (number_by same_import imports) (key_told code ref known (same ∙ is)))

  one_held : (code : Bool) (ref : Ref) → CellKnown (told_live names imports code ref) → (k : ImportKey) → foreign_cell ref ≡ Some k → H k
  one_held code ref known k is = by (foreign ref) refl is
    where
      by : (b : Bool) → foreign ref ≡ b → given b (cell_of ref.entry) ≡ Some k → list_any (same_import k) imports ≡ true
      by true f e =
          let same : cell_of ref.entry ≡ k = cc in
          let asked : asks ref ≡ true = asks_foreign code ref known ∙ f in
          let held = (both (is_numbered names (entry_number names ref.entry)) (list_any (same_import (cell_named names (told_symbol names imports ref.entry ref.meaning))) imports) (known asked)).1 in
          subst (λ x. list_any (same_import x) imports ≡ true) (key_told code ref known asked ∙ same) held
      by false f e = absurd cc

  pick : {A B : Type 0} (f : A → B) (o : Option A) (xs : List A) → cons_option (option_map f o) (map f xs) ≡ map f (cons_option o xs)
  pick f None xs = refl
  pick f (Some x) xs = refl

  all_left : {A : Type 0} (P : A → Type 0) (xs ys : List A) → All P (xs ++ ys) → All P xs
  all_left P [] ys all = all_none P
  all_left P (x ∷ xs) ys all = All-cons P x xs (All-head P x (xs ++ ys) all) (all_left P xs ys (All-tail P x (xs ++ ys) all))

  all_right : {A : Type 0} (P : A → Type 0) (xs ys : List A) → All P (xs ++ ys) → All P ys
  all_right P [] ys all = all
  all_right P (x ∷ xs) ys all = all_right P xs ys (All-tail P x (xs ++ ys) all)

  refs_told : (code : Bool) (rs : List Ref) → All CellKnown (map (told_live names imports code) rs) → filter_map cell_asked (map (told_live names imports code) rs) ≡ map (number_by same_import imports) (filter_map foreign_cell rs)
  refs_told code [] known = refl
  refs_told code (ref ∷ rs) known =
      ap (λ o. cons_option o (filter_map cell_asked (map (told_live names imports code) rs))) (one_told code ref (All-head CellKnown (told_live names imports code ref) (map (told_live names imports code) rs) known))
      ∙ ap (λ ns. cons_option (option_map (number_by same_import imports) (foreign_cell ref)) ns) (refs_told code rs (All-tail CellKnown (told_live names imports code ref) (map (told_live names imports code) rs) known))
      ∙ pick (number_by same_import imports) (foreign_cell ref) (filter_map foreign_cell rs)

  -- The numbers of the cells that parts ask for.
  pub cells_told : (parts : List rules.Part) → All CellKnown (told_refs names imports parts) → filter_map cell_asked (told_refs names imports parts) ≡ map (number_by same_import imports) (filter_map foreign_cell (refs_of parts))
  cells_told [] known = refl
  cells_told (part ∷ parts) known =
      filter_map-append cell_asked (part_refs names imports part) (told_refs names imports parts)
      ∙ ap (λ ns. ns ++ filter_map cell_asked (told_refs names imports parts)) (refs_told (part_code names imports part) (refs part) (all_left CellKnown (part_refs names imports part) (told_refs names imports parts) known))
      ∙ ap (λ ns. map (number_by same_import imports) (filter_map foreign_cell (refs part)) ++ ns) (cells_told parts (all_right CellKnown (part_refs names imports part) (told_refs names imports parts) known))
      ∙ sym (map-append (number_by same_import imports) (filter_map foreign_cell (refs part)) (filter_map foreign_cell (refs_of parts)))
      ∙ ap (map (number_by same_import imports)) (sym (filter_map-append foreign_cell (refs part) (refs_of parts)))

  given_held : (o : Option ImportKey) (ks : List ImportKey) → ((k : ImportKey) → o ≡ Some k → H k) → All H ks → All H (cons_option o ks)
  given_held None ks one all = all
  given_held (Some k) ks one all = All-cons H k ks (one k refl) all

  refs_held : (code : Bool) (rs : List Ref) → All CellKnown (map (told_live names imports code) rs) → All H (filter_map foreign_cell rs)
  refs_held code [] known = all_none H
  refs_held code (ref ∷ rs) known =
      given_held (foreign_cell ref) (filter_map foreign_cell rs) (one_held code ref (All-head CellKnown (told_live names imports code ref) (map (told_live names imports code) rs) known))
      (refs_held code rs (All-tail CellKnown (told_live names imports code ref) (map (told_live names imports code) rs) known))

  -- They are among the imports.
  pub cells_held : (parts : List rules.Part) → All CellKnown (told_refs names imports parts) → All H (filter_map foreign_cell (refs_of parts))
  cells_held [] known = all_none H
  cells_held (part ∷ parts) known =
      subst (All H) (sym (filter_map-append foreign_cell (refs part) (refs_of parts)))
      (All-append H (filter_map foreign_cell (refs part)) (filter_map foreign_cell (refs_of parts))
      (refs_held (part_code names imports part) (refs part) (all_left CellKnown (part_refs names imports part) (told_refs names imports parts) known))
      (cells_held parts (all_right CellKnown (part_refs names imports part) (told_refs names imports parts) known)))
