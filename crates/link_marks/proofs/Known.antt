-- The symbols of the objects: they rise, and stand where their inputs and places say.
use Rattle.std.proofs.Common.{◌≡◌, ℕ, zero, suc, ◌+◌, ◌<◌, ◌==◌, ◌&&◌, ◌||◌, nat_lt, Bool, true, false, cond, List, [], ◌∷◌, ◌++◌, map, filter, flat_map, find, slice_get, Option, Some, None, option_map, option_and_then, unwrap_or, refl, sym, ap, ◌∙◌, subst, arith, All}
use Rattle.std.specs.List.{AllByRecursion, AllZip}
use Rattle.std.proofs.lemmas.Bool.Decides.{nat_tests}
use Rattle.std.proofs.lemmas.List.Elements.{recursion_from_All}
use Rattle.std.proofs.lemmas.Option.{same_Some, none-some}
use Rattle.link_program.specs.wl_base.Choice.{first_some, given}
use Rattle.link_program.specs.linking_section.Flags.{is_explicit}
use Rattle.link_program.specs.linking_section.declared.symbol.Symbol.{Symbol}
use Rattle.link_program.specs.linking_section.declared.symbol.SymbolKind.TheVariants.{GlobalVar}
use Rattle.link_program.specs.object_file.declared.object.Object.{Object}
use Rattle.link_program.specs.made_symbols.declared.mode.Mode.{Mode}
use Rattle.link_program.specs.made_symbols.declared.mode.Mode.TheVariants.{Plain, Shared}
use Rattle.link_program.specs.made_symbols.Made.{made}
use Rattle.link_program.specs.name_rules.Entries.{InputSymbol, ImportKey, name_of, is_named, is_kind, is_entry, named, entries, entries_from, entry_in, symbols_of, made_from}
use Rattle.link_program.specs.name_rules.Meanings.{Meaning, here, imported, null, nothing, is_nothing, meaning, own_meaning, by_rules, least, lesser, entry_rank, least_import, references, where_given, may_import, may_be_null, is_called, is_address, cell_of, Uses}
use Rattle.link_program.specs.name_rules.declared.meaning.Meaning.{Meaning as Told}
use Rattle.link_program.specs.name_rules.declared.meaning.Meaning.TheVariants as told
use Rattle.link_program.specs.name_meanings.Means.{Means}
use Rattle.link_program.specs.name_entries.View.{InputsRise}
use Rattle.name_unresolved.specs.Unresolved.{is_nothing as is_open_answer}
use Rattle.link_marks.specs.Open.{symbol_name_at}
use Rattle.link_marks.proofs.Places.{found_itself, from_one}
use Rattle.link_marks.proofs.Columns.{name_itself}
use Rattle.link_marks.proofs.Members.{In, in_right, in_filter, all_in, all_from, all_both, all_flat}
use Rattle.link_marks.proofs.Leasts.{Before, Rising, rising_both}

-- ---- the symbols of an object rise

input_first : (a b : InputSymbol) → a.input < b.input → Before a b
input_first a b h = grind (arith, nat_tests)

place_next : (a b : InputSymbol) → a.input ≡ b.input → a.place < b.place → Before a b
place_next a b e h = grind (arith, nat_tests)

module _ (objects : List Object) where
  later_places : (o : Object) (e : InputSymbol) (p : ℕ) (ss : List Symbol) → e.input ≡ o.input → e.place < p → AllByRecursion (Before e) (entries_from objects o p ss)
  later_places o e p [] same lt = tt
  later_places o e p (s ∷ ss) same lt = (place_next e (entry_in objects o p s) same lt, later_places o e (p + 1) ss same (omega (arith, lt)))

  one_rises : (o : Object) (p : ℕ) (ss : List Symbol) → Rising (entries_from objects o p ss)
  one_rises o p [] = tt
  one_rises o p (s ∷ ss) = (later_places o (entry_in objects o p s) (p + 1) ss refl (omega arith), one_rises o (p + 1) ss)

  inputs_are : (o : Object) (p : ℕ) (ss : List Symbol) → AllByRecursion (λ (e : InputSymbol). e.input ≡ o.input) (entries_from objects o p ss)
  inputs_are o p [] = tt
  inputs_are o p (s ∷ ss) = (refl, inputs_are o (p + 1) ss)

  later_inputs : (last : ℕ) (os : List Object) → InputsRise last os → AllByRecursion (λ (e : InputSymbol). last < e.input) (flat_map (symbols_of objects) os)
  later_inputs last [] h = tt
  later_inputs last (o ∷ os) h =
      all_both (λ (e : InputSymbol). last < e.input) (symbols_of objects o) (flat_map (symbols_of objects) os)
      (all_from (λ (e : InputSymbol). last < e.input) (symbols_of objects o) (λ e k. let is = all_in (λ (e : InputSymbol). e.input ≡ o.input) e (symbols_of objects o) (inputs_are o 0 o.symbols) k in let b = h.0 in omega (arith, is, b)))
      (all_from (λ (e : InputSymbol). last < e.input) (flat_map (symbols_of objects) os) (λ e k. let is = all_in (λ (e : InputSymbol). o.input < e.input) e (flat_map (symbols_of objects) os) (later_inputs o.input os h.2) k in let b = h.0 in omega (arith, is, b)))

  pub all_rise : (last : ℕ) (os : List Object) → InputsRise last os → Rising (flat_map (symbols_of objects) os)
  all_rise last [] h = tt
  all_rise last (o ∷ os) h =
      rising_both (symbols_of objects o) (flat_map (symbols_of objects) os) (one_rises o 0 o.symbols) (all_rise o.input os h.2)
      (all_from _ (symbols_of objects o) (λ e k. all_from (Before e) (flat_map (symbols_of objects) os) (λ f j.
      let is = all_in (λ (x : InputSymbol). x.input ≡ o.input) e (symbols_of objects o) (inputs_are o 0 o.symbols) k in
      let above = all_in (λ (x : InputSymbol). o.input < x.input) f (flat_map (symbols_of objects) os) (later_inputs o.input os h.2) j in
      input_first e f (omega (arith, is, above)))))

  -- ---- a symbol of an object stands where it says

  abbrev pub IsObject : Object → Type 0
  IsObject o = (find (λ (x : Object). x.input == o.input) objects ≡ Some o) × (0 < o.input)

  pub are_objects : InputsRise 0 objects → All IsObject objects
  are_objects h k d below = (found_itself objects k d h below, from_one objects h k d below)

  abbrev pub Stands : InputSymbol → Type 0
  Stands e = symbol_name_at objects e.input e.place ≡ name_of e

  name_stands : (o : Object) (p : ℕ) (s : Symbol) → find (λ (x : Object). x.input == o.input) objects ≡ Some o → slice_get o.symbols p ≡ Some s → symbol_name_at objects o.input p ≡ unwrap_or s.name []
  name_stands o p s is there =
      ap (λ (x : Option Object). unwrap_or (option_and_then (λ (s : Symbol). s.name) (option_and_then (λ (o : Object). slice_get o.symbols p) x)) []) is
      ∙ ap (λ (x : Option Symbol). unwrap_or (option_and_then (λ (s : Symbol). s.name) x) []) there

  one_stands : (o : Object) → IsObject o → (p : ℕ) (ss : List Symbol) → ((i : ℕ) (s : Symbol) → slice_get ss i ≡ Some s → slice_get o.symbols (p + i) ≡ Some s) → AllByRecursion Stands (entries_from objects o p ss)
  one_stands o is p [] same = tt
  one_stands o is p (s ∷ ss) same =
      let there : slice_get o.symbols p ≡ Some s = ap (slice_get o.symbols) (let e : p ≡ p + 0 = omega arith in e) ∙ same 0 s refl in
      let rest = one_stands o is (p + 1) ss (λ i t h. ap (slice_get o.symbols) (let e : p + 1 + i ≡ p + suc i = omega arith in e) ∙ same (suc i) t h) in
      (name_stands o p s is.0 there, rest)

  pub all_stand : InputsRise 0 objects → AllByRecursion Stands (flat_map (symbols_of objects) objects)
  all_stand h =
      let are = recursion_from_All IsObject objects (are_objects h) in
      all_flat Stands (symbols_of objects) objects (all_from (λ o. AllByRecursion Stands (symbols_of objects o)) objects (λ o k.
      one_stands o (all_in IsObject o objects are k) 0 o.symbols (λ i s is. ap (slice_get o.symbols) (let e : 0 + i ≡ i = omega arith in e) ∙ is)))

  -- ---- the symbol of an index

  pub entry_at : (o : Object) (p : ℕ) (ss : List Symbol) (i : ℕ) (s : Symbol) → slice_get ss i ≡ Some s → slice_get (entries_from objects o p ss) i ≡ Some (entry_in objects o (p + i) s)
  entry_at o p [] i s is = absurd (none-some s is)
  entry_at o p (t ∷ ss) zero s is = ap (λ q. Some (entry_in objects o q t)) (let e : p ≡ p + 0 = omega arith in e) ∙ ap (λ u. Some (entry_in objects o (p + 0) u)) (same_Some t s is)
  entry_at o p (t ∷ ss) (suc i) s is = entry_at o (p + 1) ss i s is ∙ ap (λ q. Some (entry_in objects o q s)) (let e : p + 1 + i ≡ p + suc i = omega arith in e)

  pub no_entry_at : (o : Object) (p : ℕ) (ss : List Symbol) (i : ℕ) → slice_get ss i ≡ None → slice_get (entries_from objects o p ss) i ≡ None
  no_entry_at o p [] i is = refl
  no_entry_at o p (t ∷ ss) zero is = absurd (none-some t (sym is))
  no_entry_at o p (t ∷ ss) (suc i) is = no_entry_at o (p + 1) ss i is

-- ---- what is answered for a symbol

map_get : {A B : Type 0} (f : A → B) (xs : List A) (i : ℕ) → slice_get (map f xs) i ≡ option_map f (slice_get xs i)
map_get f [] i = refl
map_get f (x ∷ xs) zero = refl
map_get f (x ∷ xs) (suc i) = map_get f xs i

module _ {A B : Type 0} (R : A → B → Type 0) where
  pub zip_at : (xs : List A) (ys : List B) (i : ℕ) (y : B) → AllZip R xs ys → slice_get ys i ≡ Some y → (x : A) × (slice_get xs i ≡ Some x) × R x y
  zip_at [] [] i y h is = absurd (none-some y is)
  zip_at [] (z ∷ ys) i y h is = absurd h
  zip_at (x ∷ xs) [] i y h is = absurd h
  zip_at (x ∷ xs) (z ∷ ys) zero y h is = (x, refl, subst (R x) (same_Some z y is) h.0)
  zip_at (x ∷ xs) (z ∷ ys) (suc i) y h is = zip_at xs ys i y h.1 is

  pub zip_past : (xs : List A) (ys : List B) (i : ℕ) → AllZip R xs ys → slice_get ys i ≡ None → slice_get xs i ≡ None
  zip_past [] [] i h is = refl
  zip_past [] (z ∷ ys) i h is = absurd h
  zip_past (x ∷ xs) [] i h is = absurd h
  zip_past (x ∷ xs) (z ∷ ys) zero h is = absurd (none-some z (sym is))
  zip_past (x ∷ xs) (z ∷ ys) (suc i) h is = zip_past xs ys i h.1 is

pub same_nothing : (imports : List ImportKey) (t : Told) (m : Meaning) → Means imports t m → is_open_answer (Some t) ≡ is_nothing m
same_nothing imports (told.Here input symbol) (here e) h = refl
same_nothing imports (told.Here input symbol) (imported k) h = absurd h
same_nothing imports (told.Here input symbol) null h = absurd h
same_nothing imports (told.Here input symbol) nothing h = absurd h
same_nothing imports (told.Made n) (here e) h = refl
same_nothing imports (told.Made n) (imported k) h = absurd h
same_nothing imports (told.Made n) null h = absurd h
same_nothing imports (told.Made n) nothing h = absurd h
same_nothing imports (told.Import n) (here e) h = absurd h
same_nothing imports (told.Import n) (imported k) h = refl
same_nothing imports (told.Import n) null h = absurd h
same_nothing imports (told.Import n) nothing h = absurd h
same_nothing imports told.Null (here e) h = absurd h
same_nothing imports told.Null (imported k) h = absurd h
same_nothing imports told.Null null h = refl
same_nothing imports told.Null nothing h = absurd h
same_nothing imports told.Nothing (here e) h = absurd h
same_nothing imports told.Nothing (imported k) h = absurd h
same_nothing imports told.Nothing null h = absurd h
same_nothing imports told.Nothing nothing h = refl

-- ---- what defines its name means something

lesser_some : (e : InputSymbol) (o : Option InputSymbol) → (w : InputSymbol) × (lesser e o ≡ Some w)
lesser_some e None = (e, refl)
lesser_some e (Some f) = by (nat_lt (entry_rank f) (entry_rank e))
  where
    by : (b : Bool) → (w : InputSymbol) × (cond b (Some f) (Some e) ≡ Some w)
    by true = (f, refl)
    by false = (e, refl)

least_some : (e : InputSymbol) (es : List InputSymbol) → In e es → (w : InputSymbol) × (least es ≡ Some w)
least_some e [] h = absurd h
least_some e (x ∷ es) h = lesser_some x (least es)

abbrev rules_rest : Mode → Uses → Bool → List InputSymbol → InputSymbol → List (Option Meaning)
rules_rest Shared uses allow es e =
    option_map imported (least_import (filter (λ r. is_explicit r.symbol) (references es)))
    ∷ option_map imported (where_given (is_called uses e || is_kind GlobalVar e) (least_import (references es)))
    ∷ given (is_address uses e) (imported (cell_of e))
    ∷ []
rules_rest Plain uses allow es e =
    option_map imported (least_import (filter (λ r. is_explicit r.symbol) (references es)))
    ∷ option_map imported (where_given (allow && may_import es e) (least_import (references es)))
    ∷ given (may_be_null e) null
    ∷ []

winner_means : (mode : Mode) (uses : Uses) (allow : Bool) (es : List InputSymbol) (e w : InputSymbol) → least (filter (λ d. d.defines) es) ≡ Some w → is_nothing (by_rules mode uses allow es e) ≡ false
winner_means Plain uses allow es e w is = ap (λ o. is_nothing (unwrap_or (first_some (option_map here o ∷ rules_rest Plain uses allow es e)) nothing)) is
winner_means Shared uses allow es e w is = ap (λ o. is_nothing (unwrap_or (first_some (option_map here o ∷ rules_rest Shared uses allow es e)) nothing)) is

entry_means : (mode : Mode) (uses : Uses) (allow : Bool) (all : List InputSymbol) (e : InputSymbol) → In e all → e.defines ≡ true → is_nothing (by_rules mode uses allow (named all (name_of e)) e) ≡ false
entry_means mode uses allow all e h defines =
    let among = in_filter (λ (d : InputSymbol). d.defines) e (named all (name_of e)) (in_filter (is_named (name_of e)) e all h (name_itself (name_of e))) defines in
    let w = least_some e (filter (λ (d : InputSymbol). d.defines) (named all (name_of e))) among in
    winner_means mode uses allow (named all (name_of e)) e w.0 w.1

-- A symbol that is defined in a kept part means something.
pub defined_means : (mode : Mode) (uses : Uses) (allow : Bool) (objects : List Object) (e : InputSymbol) → In e (flat_map (symbols_of objects) objects) → e.defines ≡ true
    → is_nothing (meaning mode uses allow (entries mode objects) e) ≡ false
unfolding entries
defined_means mode uses allow objects e h defines = by (is_entry e) refl
  where
    by : (b : Bool) → is_entry e ≡ b → is_nothing (cond b (by_rules mode uses allow (named (made_from 0 (made mode) ++ filter is_entry (flat_map (symbols_of objects) objects)) (name_of e)) e) (own_meaning e)) ≡ false
    by true is = entry_means mode uses allow (made_from 0 (made mode) ++ filter is_entry (flat_map (symbols_of objects) objects)) e
        (in_right e (made_from 0 (made mode)) (filter is_entry (flat_map (symbols_of objects) objects)) (in_filter is_entry e (flat_map (symbols_of objects) objects) h is)) defines
    by false is = ap (λ b. is_nothing (cond b (here e) nothing)) defines
