-- What a shared output imports besides: the linker's globals, and the cells of foreign functions.
use Rattle.std.proofs.Common.{◌≡◌, ℕ, ◌+◌, ◌==◌, ◌<◌, ◌≤◌, Bool, true, false, not, ◌&&◌, ◌||◌, ◌∙◌, List, [], ◌∷◌, ◌++◌, refl, ap, sym, subst, arith, Option, Some, None, length, get_or, take}
use Rattle.std.specs.Prelude.{if◌then◌else◌, filter, filter_map, flat_map, map, slice_get, unwrap_or, codes}
use Rattle.std.specs.List.{AllZip, cons_option}
use Rattle.std.proofs.lemmas.List.{map-append, take_all, take_more}
use Rattle.std.proofs.lemmas.List.Elements.{filter_map-append, filter-append}
use Rattle.std.proofs.lemmas.Bool.{ne_eqb}
use Rattle.std.proofs.lemmas.Option.{get_or_from_slice_get}
use Rattle.name_entries.specs.wl_base.Choice.{distinct_onto, given}
use Rattle.name_entries.specs.linking_section.declared.symbol.SymbolKind.TheVariants.{Function, Datum, GlobalVar}
use Rattle.name_entries.specs.linking_section.declared.symbol.Symbol.{Symbol}
use Rattle.name_entries.specs.object_file.declared.object.Object.{Object}
use Rattle.name_entries.specs.object_columns.Seen.{symbol_seen}
use Rattle.name_entries.specs.made_symbols.declared.mode.Mode.{Mode}
use Rattle.name_entries.specs.made_symbols.declared.mode.Mode.TheVariants.{Plain, Shared}
use Rattle.name_entries.specs.made_symbols.declared.roles.Role.TheVariants.{CallCtors}
use Rattle.name_entries.specs.made_symbols.Made.{MadeSymbol, made, made_at, made_function}
use Rattle.name_entries.specs.name_rules.Entries.{InputSymbol, ImportKey, entry_in, is_kind, is_entry, name_of, named, same_import, symbols_of, entries, entries_from, made_from}
use Rattle.name_entries.specs.name_rules.Meanings.{Meaning, here, imported, null, nothing, Uses, uses_of, winner, references, least_import, may_be_null, is_address, cell_of, Resolved, resolve}
use Rattle.name_entries.specs.name_rules.Further.{is_here, function_cell, function_cells, cells_in, the_cells, made_global_import, made_imports, further_imports}
use Rattle.name_entries.specs.name_rules.declared.meaning.Meaning.{Meaning as Told}
use Rattle.name_entries.specs.declared.entry.EntryRef.{EntryRef}
use Rattle.name_entries.specs.View.{entry_at, rows_of, InputsRise}
use Rattle.name_entries.specs.Shown.{Shows, AreShown}
use Rattle.name_entries.proofs.Numbers.{name_at}
use Rattle.name_meanings.specs.declared.naming.Known.{Known}
use Rattle.name_meanings.specs.declared.naming.Found.{Found}
use Rattle.name_meanings.specs.Kept.{with_import, cell_key, made_key}
use Rattle.name_meanings.specs.Means.{IsNumberOf, TellsCell, row_of, IsResolution}
use Rattle.name_meanings.specs.Known.{IsKnown, FoundBy, IsNumbered, meant, may_stand, last_rule, resolved_of, AreAnswers}
use Rattle.name_meanings.specs.Columns.{all_symbols}
use Rattle.name_meanings.specs.Further.{made_import, is_global_kind, AreMade, cell_meant, FindsCell, AreCellsOf, AreFurther}
use Rattle.name_meanings.proofs.Ruled.{decided, ruled, explicit_import_of}
use Rattle.name_meanings.proofs.Placed.{unnumbered_is_none, numbered_is_entry}
use Rattle.name_meanings.proofs.Finding.{get_onto, won, not_won, own_still, cells_stay}
use Rattle.name_meanings.proofs.Rows.{Grow, zip_still, onto_append}

-- ---- numbers, where imports grow

grow_onto : (old more : List ImportKey) (new : List ImportKey) → new ≡ distinct_onto same_import old more → Grow old new
grow_onto old more new is n key at = subst (λ l. slice_get l n ≡ Some key) (sym is) (get_onto old more n key at)

numbers_still : (old new : List ImportKey) → Grow old new → (ns : List ℕ) (keys : List ImportKey) → AllZip (IsNumberOf old) ns keys → AllZip (IsNumberOf new) ns keys
numbers_still old new grow [] [] all = all
numbers_still old new grow [] (key ∷ keys) all = absurd all
numbers_still old new grow (n ∷ ns) [] all = absurd all
numbers_still old new grow (n ∷ ns) (key ∷ keys) all = (grow n key all.0, numbers_still old new grow ns keys all.1)

tells_still : (old new : List ImportKey) → Grow old new → (told : Option ℕ) (cell : Option ImportKey) → TellsCell old told cell → TellsCell new told cell
tells_still old new grow (Some n) (Some key) tells = grow n key tells
tells_still old new grow (Some n) None tells = absurd tells
tells_still old new grow None (Some key) tells = absurd tells
tells_still old new grow None None tells = tt

cells_still : (old new : List ImportKey) → Grow old new → (told : List (Option ℕ)) (cells : List (Option ImportKey)) → AllZip (TellsCell old) told cells → AllZip (TellsCell new) told cells
cells_still old new grow [] [] all = all
cells_still old new grow [] (c ∷ cs) all = absurd all
cells_still old new grow (t ∷ ts) [] all = absurd all
cells_still old new grow (t ∷ ts) (c ∷ cs) all = (tells_still old new grow t c all.0, cells_still old new grow ts cs all.1)

zip_more : {A B : Type 0} (R : A → B → Type 0) (xs : List A) (ys : List B) (x : A) (y : B) → AllZip R xs ys → R x y → AllZip R (xs ++ x ∷ []) (ys ++ y ∷ [])
zip_more R [] [] x y all is = (is, tt)
zip_more R [] (b ∷ bs) x y all is = absurd all
zip_more R (a ∷ rest) [] x y all is = absurd all
zip_more R (a ∷ rest) (b ∷ bs) x y all is = (all.0, zip_more R rest bs x y all.1 is)

-- ---- the linker's globals

made_onto : (ms : List MadeSymbol) (m : MadeSymbol) (o : Option ImportKey) → made_import m ≡ o → filter_map made_import (ms ++ m ∷ []) ≡ filter_map made_import ms ++ cons_option o []
made_onto ms m o is = filter_map-append made_import ms (m ∷ []) ∙ ap (λ x. filter_map made_import ms ++ cons_option x []) is

append_none : {A : Type 0} (xs : List A) → xs ++ [] ≡ xs
append_none [] = refl
append_none (x ∷ xs) = ap (λ l. x ∷ l) (append_none xs)

pub none_made : (old : List ImportKey) → AreMade [] old old []
none_made old = record { imports = refl; numbers_are = tt }

pub made_other : (ms : List MadeSymbol) (m : MadeSymbol) (old now : List ImportKey) (numbers : List ℕ) (global : Bool) → global ≡ is_global_kind m.kind → global ≡ false
    → AreMade ms old now numbers → AreMade (ms ++ m ∷ []) old now numbers
made_other ms m old now numbers global kind other before =
    let none : made_import m ≡ None = ap (λ b. given b (made_key m.name m.changes)) (sym kind ∙ other) in
    let same : filter_map made_import ms ≡ filter_map made_import (ms ++ m ∷ []) = sym (made_onto ms m None none ∙ append_none (filter_map made_import ms)) in
    record {
      imports = before.imports ∙ ap (distinct_onto same_import old) same;
      numbers_are = subst (AllZip (IsNumberOf now) numbers) same before.numbers_are;
    }

pub made_more : (ms : List MadeSymbol) (m : MadeSymbol) (old now new : List ImportKey) (numbers : List ℕ) (number : ℕ) (key : ImportKey) (global : Bool) → global ≡ is_global_kind m.kind → global ≡ true
    → key ≡ made_key m.name m.changes → new ≡ with_import now key → slice_get new number ≡ Some key → AreMade ms old now numbers → AreMade (ms ++ m ∷ []) old new (numbers ++ number ∷ [])
made_more ms m old now new numbers number key global kind is same added at before =
    let some : made_import m ≡ Some key = ap (λ b. given b (made_key m.name m.changes)) (sym kind ∙ is) ∙ ap Some (sym same) in
    let more : filter_map made_import ms ++ key ∷ [] ≡ filter_map made_import (ms ++ m ∷ []) = sym (made_onto ms m (Some key) some) in
    record {
      imports = added ∙ ap (λ l. with_import l key) before.imports ∙ onto_append old (filter_map made_import ms) (key ∷ []) ∙ ap (distinct_onto same_import old) more;
      numbers_are = subst (AllZip (IsNumberOf new) (numbers ++ number ∷ [])) more
          (zip_more (IsNumberOf new) numbers (filter_map made_import ms) number key
          (numbers_still now new (grow_onto now (key ∷ []) new added) numbers (filter_map made_import ms) before.numbers_are) at);
    }

pub made_step : (k : ℕ) (old now new : List ImportKey) (before after : List ℕ) → k < length (made Shared)
    → ((ms : List MadeSymbol) (base : List ImportKey) → AreMade ms base now before → AreMade (ms ++ made_at Shared k ∷ []) base new after)
    → AreMade (take k (made Shared)) old now before → AreMade (take (k + 1) (made Shared)) old new after
made_step k old now new before after within step so_far =
    subst (λ ms. AreMade ms old new after) (sym (take_more (made Shared) k (made_function CallCtors []) within)) (step (take k (made Shared)) old so_far)

pub made_whole : (k : ℕ) (old new : List ImportKey) (numbers : List ℕ) → length (made Shared) ≤ k → AreMade (take k (made Shared)) old new numbers → AreMade (made Shared) old new numbers
made_whole k old new numbers past so_far = subst (λ ms. AreMade ms old new numbers) (take_all k (made Shared) past) so_far

-- what was found stays behind them
pub found_still : (k : Known) (f : Found) (imports : List ImportKey) (numbers : List ℕ) → FoundBy k f → AreMade (made Shared) f.imports imports numbers → FoundBy k (record f { imports = imports })
found_still k f imports numbers found made_so =
    let names = k.entries.names.now.names in
    let grow = grow_onto f.imports (filter_map made_import (made Shared)) imports made_so.imports in
    record {
      own = own_still k.entries.objects.now k.columns.now f.imports imports f.numbers.items grow found.own;
      functions = cells_stay true names f.imports imports f.function_cells.items grow found.functions;
      of_data = cells_stay false names f.imports imports f.data_cells.items grow found.of_data;
    }

-- entries of objects aren't the linker's
none_kept : (kept : Bool) (e : InputSymbol) (rest : List InputSymbol) → made_global_import e ≡ None → filter_map made_global_import rest ≡ []
    → filter_map made_global_import (if kept then e ∷ rest else rest) ≡ []
none_kept true e rest none is = ap (λ x. cons_option x (filter_map made_global_import rest)) none ∙ is
none_kept false e rest none is = is

not_made : (e : InputSymbol) → 0 < e.input → made_global_import e ≡ None
not_made e some = ap (λ b. given (b && is_kind GlobalVar e) (record { module_name = codes "env"; field = name_of e; type = e.type })) (ne_eqb e.input 0 (omega arith))

none_in_row : (objects : List Object) (o : Object) (k : ℕ) (ss : List Symbol) → 0 < o.input → filter_map made_global_import (filter is_entry (entries_from objects o k ss)) ≡ []
none_in_row objects o k [] some = refl
none_in_row objects o k (s ∷ ss) some =
    let e = entry_in objects o k s in
    let rest = entries_from objects o (k + 1) ss in
    none_kept (is_entry e) e (filter is_entry rest) (not_made e some) (none_in_row objects o (k + 1) ss some)

none_in_objects : (objects : List Object) (last : ℕ) (os : List Object) → InputsRise last os → filter_map made_global_import (filter is_entry (flat_map (symbols_of objects) os)) ≡ []
none_in_objects objects last [] rise = refl
none_in_objects objects last (o ∷ os) rise =
    let row = symbols_of objects o in
    let rest = flat_map (symbols_of objects) os in
    ap (filter_map made_global_import) (filter-append is_entry row rest) ∙ filter_map-append made_global_import (filter is_entry row) (filter is_entry rest)
    ∙ ap (λ l. l ++ filter_map made_global_import (filter is_entry rest)) (none_in_row objects o 0 o.symbols (omega (arith, rise.0)))
    ∙ none_in_objects objects o.input os rise.2

made_are : (objects : List Object) → InputsRise 0 objects → filter_map made_import (made Shared) ≡ filter_map made_global_import (entries Shared objects)
unfolding entries
made_are objects rise =
    let others = filter is_entry (flat_map (symbols_of objects) objects) in
    let own : filter_map made_import (made Shared) ≡ filter_map made_global_import (made_from 0 (made Shared)) = refl in
    own ∙ sym (append_none (filter_map made_global_import (made_from 0 (made Shared))))
    ∙ ap (λ l. filter_map made_global_import (made_from 0 (made Shared)) ++ l) (sym (none_in_objects objects 0 objects rise))
    ∙ sym (filter_map-append made_global_import (made_from 0 (made Shared)) others)

-- ---- whether a symbol has a cell

without_entry : (function defined other : Bool) → (function && (not defined && false && other)) ≡ false
without_entry false defined other = refl
without_entry true true other = refl
without_entry true false other = refl

no_entry_no_cell : (function defined entry other : Bool) → entry ≡ false → (function && (not defined && entry && other)) ≡ false
no_entry_no_cell function defined entry other none = ap (λ b. function && (not defined && b && other)) none ∙ without_entry function defined other

here_no_cell : (function entry other : Bool) → (function && (not true && entry && other)) ≡ false
here_no_cell false entry other = refl
here_no_cell true entry other = refl

all_true : (function defined entry datum global : Bool) → function ≡ true → defined ≡ false → entry ≡ true → (function && (not defined && entry && (function || datum || global))) ≡ true
all_true function defined entry datum global f h e = (λ i. f i && (not (h i) && e i && (f i || datum || global)))

none_given : {A : Type 0} (b : Bool) (a : A) → b ≡ false → given b a ≡ None
none_given b a is = ap (λ x. given x a) is

abbrev is_foreign_by : InputSymbol → Bool → Bool → Bool
is_foreign_by e defined entry = is_kind Function e && (not defined && entry && (is_kind Function e || is_kind Datum e || is_kind GlobalVar e))

pub no_cell : (k : Known) (f : Found) (e : InputSymbol) → cell_meant k e ≡ None → FindsCell k None e f f
no_cell k f e none = record {
  tells = subst (TellsCell f.imports None) (sym none) tt;
  imports = ap (λ o. distinct_onto same_import f.imports (cons_option o [])) (sym none);
}

pub finds_unnamed : (k : Known) (f : Found) (object place : ℕ) (r : EntryRef) → IsKnown k → AreShown k.entries.names.now.names (Some r) (entry_at k.entries.objects.now object place) → r.number ≡ None
    → (e : InputSymbol) → entry_at k.entries.objects.now object place ≡ Some e → FindsCell k None e f f
finds_unnamed k f object place r known shown none e at =
    let s : Shows k.entries.names.now.names r e = subst (AreShown k.entries.names.now.names (Some r)) at shown in
    let no_entry = unnumbered_is_none k.mode k.entries.objects.now k.entries.names.now object place e known.fits.numbers at (sym s.number ∙ none) in
    no_cell k f e (none_given (is_foreign_by e (is_here (meant k e)) (is_entry e)) (cell_of e)
    (no_entry_no_cell (is_kind Function e) (is_here (meant k e)) (is_entry e) (is_kind Function e || is_kind Datum e || is_kind GlobalVar e) no_entry))

pub finds_other : (k : Known) (f : Found) (object place : ℕ) (r : EntryRef) (function : Bool) → AreShown k.entries.names.now.names (Some r) (entry_at k.entries.objects.now object place)
    → ((e : InputSymbol) → e.symbol ≡ symbol_seen r.symbol → function ≡ is_kind Function e) → function ≡ false
    → (e : InputSymbol) → entry_at k.entries.objects.now object place ≡ Some e → FindsCell k None e f f
finds_other k f object place r function shown kind other e at =
    let s : Shows k.entries.names.now.names r e = subst (AreShown k.entries.names.now.names (Some r)) at shown in
    let no : is_kind Function e ≡ false = sym (kind e (sym s.symbol)) ∙ other in
    no_cell k f e (none_given (is_foreign_by e (is_here (meant k e)) (is_entry e)) (cell_of e)
    (ap (λ b. b && (not (is_here (meant k e)) && is_entry e && (is_kind Function e || is_kind Datum e || is_kind GlobalVar e))) no))

abbrev all_of : Known → List InputSymbol
all_of k = entries k.mode k.entries.objects.now

abbrev used : Known → Uses
used k = uses_of k.mode k.entries.objects.now

-- what an entry means whose name has this winner
abbrev meant_by : Known → InputSymbol → Option InputSymbol → Meaning
meant_by k e w = decided w (explicit_import_of (named (all_of k) (name_of e))) (may_stand k.mode (used k) k.allow_undefined (named (all_of k) (name_of e)) e)
    (least_import (references (named (all_of k) (name_of e)))) (last_rule k.mode (used k) e)

pub finds_defined : (k : Known) (f : Found) (object place name rank : ℕ) (r : EntryRef) → IsKnown k
    → AreShown k.entries.names.now.names (Some r) (entry_at k.entries.objects.now object place) → r.number ≡ Some name → get_or k.winners.now name None ≡ Some rank
    → (e : InputSymbol) → entry_at k.entries.objects.now object place ≡ Some e → FindsCell k None e f f
finds_defined k f object place name rank r known shown number wins e at =
    let s : Shows k.entries.names.now.names r e = subst (AreShown k.entries.names.now.names (Some r)) at shown in
    let numbered = numbered_is_entry k.entries.names.now.names e name (sym s.number ∙ number) in
    let named_at = name_at k.entries.names.now.names (name_of e) name numbered.1 in
    let (d, is, ranked) = won (winner (all_of k) (name_of e)) rank (sym (known.winners name (name_of e) named_at) ∙ wins) in
    let means_d : meant k e ≡ here d = ruled k.mode (used k) k.allow_undefined (all_of k) e numbered.0 ∙ ap (meant_by k e) is in
    no_cell k f e (none_given (is_foreign_by e (is_here (meant k e)) (is_entry e)) (cell_of e)
    (ap (λ m. is_foreign_by e (is_here m) (is_entry e)) means_d ∙ here_no_cell (is_kind Function e) (is_entry e) (is_kind Function e || is_kind Datum e || is_kind GlobalVar e)))

-- without a winner a symbol means no definition
given_not_here : (b : Bool) (m : Meaning) → is_here m ≡ false → is_here (unwrap_or (given b m) nothing) ≡ false
given_not_here true m is = is
given_not_here false m is = refl

last_not_here : (mode : Mode) (uses : Uses) (e : InputSymbol) → is_here (unwrap_or (last_rule mode uses e) nothing) ≡ false
last_not_here Plain uses e = given_not_here (may_be_null e) null refl
last_not_here Shared uses e = given_not_here (is_address uses e) (imported (cell_of e)) refl

unwrapped : (last : Option Meaning) → is_here (unwrap_or last nothing) ≡ false → is_here (decided None None false None last) ≡ false
unwrapped None is = refl
unwrapped (Some m) is = is

not_here : (x : Option ImportKey) (may : Bool) (l : Option ImportKey) (last : Option Meaning) → is_here (unwrap_or last nothing) ≡ false → is_here (decided None x may l last) ≡ false
not_here (Some key) may l last is = refl
not_here None true (Some key) last is = refl
not_here None true None last is = unwrapped last is
not_here None false l last is = unwrapped last is

pub finds_foreign : (k : Known) (old new : Found) (object place name number : ℕ) (r : EntryRef) (function : Bool) → IsKnown k
    → AreShown k.entries.names.now.names (Some r) (entry_at k.entries.objects.now object place) → r.number ≡ Some name → get_or k.winners.now name None ≡ None
    → ((e : InputSymbol) → e.symbol ≡ symbol_seen r.symbol → function ≡ is_kind Function e) → function ≡ true
    → IsNumbered k number (cell_key true (get_or k.entries.names.now.names name [])) old new
    → (e : InputSymbol) → entry_at k.entries.objects.now object place ≡ Some e → FindsCell k (Some number) e old new
finds_foreign k old new object place name number r function known shown numbered_so loses kind is found e at =
    let s : Shows k.entries.names.now.names r e = subst (AreShown k.entries.names.now.names (Some r)) at shown in
    let numbered = numbered_is_entry k.entries.names.now.names e name (sym s.number ∙ numbered_so) in
    let named_at = name_at k.entries.names.now.names (name_of e) name numbered.1 in
    let none = not_won (winner (all_of k) (name_of e)) (sym (known.winners name (name_of e) named_at) ∙ loses) in
    let yes : is_kind Function e ≡ true = sym (kind e (sym s.symbol)) ∙ is in
    let foreign : is_here (meant k e) ≡ false =
    ap is_here (ruled k.mode (used k) k.allow_undefined (all_of k) e numbered.0 ∙ ap (meant_by k e) none)
    ∙ not_here (explicit_import_of (named (all_of k) (name_of e))) (may_stand k.mode (used k) k.allow_undefined (named (all_of k) (name_of e)) e)
    (least_import (references (named (all_of k) (name_of e)))) (last_rule k.mode (used k) e) (last_not_here k.mode (used k) e) in
    let has : cell_meant k e ≡ Some (cell_of e) =
    ap (λ b. given b (cell_of e)) (all_true (is_kind Function e) (is_here (meant k e)) (is_entry e) (is_kind Datum e) (is_kind GlobalVar e) yes foreign numbered.0) in
    let key : cell_key true (get_or k.entries.names.now.names name []) ≡ cell_of e =
    (λ i. cell_key (sym yes i) (get_or_from_slice_get k.entries.names.now.names name (name_of e) [] named_at i)) in
    record {
      tells = subst (TellsCell new.imports (Some number)) (sym has) (found.at ∙ ap Some key);
      imports = found.imports ∙ ap (with_import old.imports) key ∙ ap (λ o. distinct_onto same_import old.imports (cons_option o [])) (sym has);
    }

-- ---- the cells of symbols

pub no_cells : (k : Known) (f : Found) → AreCellsOf k f.imports [] [] f
no_cells k f = record { tells = tt; imports = refl }

the_cells_more : (k : Known) (es : List InputSymbol) (e : InputSymbol) → the_cells (map (cell_meant k) es) ++ cons_option (cell_meant k e) [] ≡ the_cells (map (cell_meant k) (es ++ e ∷ []))
the_cells_more k es e =
    sym (filter_map-append (λ (cell : Option ImportKey). cell) (map (cell_meant k) es) (cell_meant k e ∷ [])) ∙ ap the_cells (sym (map-append (cell_meant k) es (e ∷ [])))

pub cell_more : (k : Known) (old : List ImportKey) (es : List InputSymbol) (e : InputSymbol) (told : List (Option ℕ)) (number : Option ℕ) (f g : Found) → AreCellsOf k old es told f → FindsCell k number e f g
    → AreCellsOf k old (es ++ e ∷ []) (told ++ number ∷ []) g
cell_more k old es e told number f g before finds =
    let grow = grow_onto f.imports (cons_option (cell_meant k e) []) g.imports finds.imports in
    record {
      tells = subst (AllZip (TellsCell g.imports) (told ++ number ∷ [])) (sym (map-append (cell_meant k) es (e ∷ [])))
          (zip_more (TellsCell g.imports) told (map (cell_meant k) es) number (cell_meant k e)
          (cells_still f.imports g.imports grow told (map (cell_meant k) es) before.tells) finds.tells);
      imports = finds.imports ∙ ap (λ l. distinct_onto same_import l (cons_option (cell_meant k e) [])) before.imports
          ∙ onto_append old (the_cells (map (cell_meant k) es)) (cons_option (cell_meant k e) []) ∙ ap (distinct_onto same_import old) (the_cells_more k es e);
    }

-- ---- the whole

row_cells : (f : InputSymbol → Meaning) (es : List InputSymbol) → map (λ e. function_cell e (f e)) es ≡ function_cells es (map f es)
row_cells f [] = refl
row_cells f (e ∷ es) = ap (λ l. function_cell e (f e) ∷ l) (row_cells f es)

cells_are : (k : Known) (os : List Object) → map (cell_meant k) (flat_map (symbols_of k.entries.objects.now) os) ≡ cells_in Shared (map (resolved_of k) os)
cells_are k [] = refl
cells_are k (o ∷ os) =
    map-append (cell_meant k) (symbols_of k.entries.objects.now o) (flat_map (symbols_of k.entries.objects.now) os)
    ∙ (λ i. row_cells (meant k) (symbols_of k.entries.objects.now o) i ++ cells_are k os i)

none_behind : (k : Known) (old : List ImportKey) → k.mode ≡ Plain → AreFurther k old old [] []
none_behind k old plain =
    let all = entries k.mode k.entries.objects.now in
    let resolved = map (resolved_of k) k.entries.objects.now in
    record {
      imports = sym (ap (λ m. distinct_onto same_import old (further_imports m all resolved)) plain);
      cells_are = subst (λ m. AllZip (TellsCell old) [] (cells_in m resolved)) (sym plain) tt;
      made_are = subst (λ m. AllZip (IsNumberOf old) [] (made_imports m all)) (sym plain) tt;
    }

pub none_further : (k : Known) (old : List ImportKey) (cells : List (Option ℕ)) (numbers : List ℕ) → k.mode ≡ Plain → cells ≡ [] → numbers ≡ [] → AreFurther k old old cells numbers
none_further k old cells numbers plain no_cells_so none_made_so =
    subst (λ ns. AreFurther k old old cells ns) (sym none_made_so) (subst (λ cs. AreFurther k old old cs []) (sym no_cells_so) (none_behind k old plain))

pub both_further : (k : Known) (old mid : List ImportKey) (g : Found) (cells : List (Option ℕ)) (numbers : List ℕ) → k.mode ≡ Shared → IsKnown k → AreMade (made Shared) old mid numbers
    → AreCellsOf k mid (all_symbols k.entries.objects.now) cells g → AreFurther k old g.imports cells numbers
both_further k old mid g cells numbers shared known made_so cells_so =
    let objects = k.entries.objects.now in
    let all = entries k.mode objects in
    let resolved = map (resolved_of k) objects in
    let keys = filter_map made_import (made Shared) in
    let own : keys ≡ made_imports k.mode all = made_are objects known.fits.objects.inputs ∙ sym (ap (λ m. made_imports m (entries m objects)) shared) in
    let told : map (cell_meant k) (all_symbols objects) ≡ cells_in k.mode resolved = cells_are k objects ∙ sym (ap (λ m. cells_in m resolved) shared) in
    let grow = grow_onto mid (the_cells (map (cell_meant k) (all_symbols objects))) g.imports cells_so.imports in
    record {
      imports = cells_so.imports ∙ ap (λ l. distinct_onto same_import l (the_cells (map (cell_meant k) (all_symbols objects)))) made_so.imports
          ∙ onto_append old keys (the_cells (map (cell_meant k) (all_symbols objects))) ∙ (λ i. distinct_onto same_import old (own i ++ the_cells (told i)));
      cells_are = subst (AllZip (TellsCell g.imports) cells) told cells_so.tells;
      made_are = subst (AllZip (IsNumberOf g.imports) numbers) own (numbers_still mid g.imports grow numbers keys made_so.numbers_are);
    }

pub resolution_is : (k : Known) (rows : List (List Told)) (old new : List ImportKey) (cells : List (Option ℕ)) (numbers : List ℕ)
    → AreAnswers rows old (map (resolved_of k) k.entries.objects.now) → AreFurther k old new cells numbers
    → IsResolution k.mode (entries k.mode k.entries.objects.now) (record { rows = rows; imports = new; cells = cells; made = numbers })
    (resolve k.mode k.allow_undefined (entries k.mode k.entries.objects.now) k.entries.objects.now)
unfolding resolve
resolution_is k rows old new cells numbers answers further =
    let all = entries k.mode k.entries.objects.now in
    let resolved = map (resolved_of k) k.entries.objects.now in
    let grow = grow_onto old (further_imports k.mode all resolved) new further.imports in
    record {
      meanings = λ n d within. zip_still old new grow (row_of rows (get_or resolved n d).object.input) (get_or resolved n d).meanings (answers.meanings n d within);
      imports = further.imports ∙ ap (λ l. distinct_onto same_import l (further_imports k.mode all resolved)) answers.imports_are;
      cells = further.cells_are;
      made = further.made_are;
    }
