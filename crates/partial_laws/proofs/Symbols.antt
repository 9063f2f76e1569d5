-- The symbols of objects before a run, of the run alone, and behind it.
use Rattle.std.proofs.Common.{◌≡◌, ℕ, ◌+◌, ◌<◌, ◌≤◌, ◌==◌, Bool, not, ◌&&◌, List, [], ◌∷◌, ◌++◌, map, refl, sym, ap, ◌∙◌}
use Rattle.std.specs.Prelude.{if◌then◌else◌, Some, option_map, find, flat_map, All}
use Rattle.std.proofs.lemmas.List.{map-append}
use Rattle.std.proofs.lemmas.List.Concat.{flat_map-cons}
use Rattle.std.proofs.lemmas.List.Elements.{All-head, All-tail}
use Rattle.name_rules.specs.object_file.linking_section.declared.symbol.Symbol.{Symbol}
use Rattle.name_rules.specs.object_file.linking_section.declared.symbol.SymbolKind.{SymbolKind}
use Rattle.name_rules.specs.object_file.linking_section.declared.symbol.SymbolKind.TheVariants.{Function, Datum, GlobalVar, Section, Table}
use Rattle.name_rules.specs.object_file.linking_section.declared.member_kinds.TheConstants as members
use Rattle.name_rules.specs.object_file.linking_section.Flags.{is_undefined, is_weak}
use Rattle.name_rules.specs.object_file.declared.object.Object.{Object}
use Rattle.name_rules.specs.Entries.{InputSymbol, type_in, import_in, index_in, key_of, in_kept_part, entry_in, entries_from, symbols_of}
use Rattle.partial_laws.specs.Inputs.{Run, as_input, alone, later, Objects, whole_objects, run_objects, later_objects, AreCut}
use Rattle.partial_laws.specs.Standing.{defines_in, alone_symbol, later_symbol}
use Rattle.partial_laws.proofs.Groups.{before_kept, behind_kept}

-- An entry by whether its part is kept.
abbrev entry_by : Object → ℕ → ℕ → Symbol → Bool → InputSymbol
entry_by o input place s kept = record {
  input = input;
  place = place;
  symbol = s;
  type = type_in o s s.kind;
  import = option_map (key_of (type_in o s s.kind)) (import_in o s s.kind);
  defines = not (is_undefined s) && kept;
  class = if is_weak s then 1 else 0;
  index = index_in o s s.kind;
}

module _ (run : Run) (os : Objects) (cut : AreCut run os) where
  -- ---- before the run

  before_part : (o : Object) (s : Symbol) (kind : SymbolKind) → o.input ≤ run.first → in_kept_part (later_objects run os) o s kind ≡ in_kept_part (whole_objects os) o s kind
  before_part o s Function le = before_kept run os cut o members.FUNCTION s.index le
  before_part o s Datum le = before_kept run os cut o members.DATA s.index le
  before_part o s GlobalVar le = refl
  before_part o s Section le = refl
  before_part o s Table le = refl

  before_from : (o : Object) (place : ℕ) (ss : List Symbol) → o.input ≤ run.first → entries_from (later_objects run os) o place ss ≡ entries_from (whole_objects os) o place ss
  before_from o place [] le = refl
  before_from o place (s ∷ ss) le =
      ap (λ b. entry_by o o.input place s b ∷ entries_from (later_objects run os) o (place + 1) ss) (before_part o s s.kind le)
      ∙ ap (λ es. entry_in (whole_objects os) o place s ∷ es) (before_from o (place + 1) ss le)

  pub before_symbols : (o : Object) → o.input ≤ run.first → symbols_of (later_objects run os) o ≡ symbols_of (whole_objects os) o
  before_symbols o le = before_from o 0 o.symbols le

  -- ---- behind it

  behind_part : (o : Object) (s : Symbol) (kind : SymbolKind) → run.first + run.many < o.input
      → in_kept_part (later_objects run os) (as_input (later run o.input) o) s kind ≡ in_kept_part (whole_objects os) o s kind
  behind_part o s Function lt = behind_kept run os cut o members.FUNCTION s.index lt
  behind_part o s Datum lt = behind_kept run os cut o members.DATA s.index lt
  behind_part o s GlobalVar lt = refl
  behind_part o s Section lt = refl
  behind_part o s Table lt = refl

  behind_entry : (o : Object) (place : ℕ) (s : Symbol) → run.first + run.many < o.input
      → entry_in (later_objects run os) (as_input (later run o.input) o) place s ≡ later_symbol run os (entry_in (whole_objects os) o place s)
  behind_entry o place s lt = ap (λ b. entry_by o (later run o.input) place s b) (behind_part o s s.kind lt)

  behind_from : (o : Object) (place : ℕ) (ss : List Symbol) → run.first + run.many < o.input
      → entries_from (later_objects run os) (as_input (later run o.input) o) place ss ≡ map (later_symbol run os) (entries_from (whole_objects os) o place ss)
  behind_from o place [] lt = refl
  behind_from o place (s ∷ ss) lt =
      ap (λ e. e ∷ entries_from (later_objects run os) (as_input (later run o.input) o) (place + 1) ss) (behind_entry o place s lt)
      ∙ ap (λ es. later_symbol run os (entry_in (whole_objects os) o place s) ∷ es) (behind_from o (place + 1) ss lt)

  pub behind_symbols : (o : Object) → run.first + run.many < o.input
      → symbols_of (later_objects run os) (as_input (later run o.input) o) ≡ map (later_symbol run os) (symbols_of (whole_objects os) o)
  behind_symbols o lt = behind_from o 0 o.symbols lt

  -- ---- of the run alone

  -- An object of the run is found by its input.
  abbrev pub IsFound : Object → Type 0
  IsFound o = find (λ (x : Object). x.input == o.input) os.middle ≡ Some o

  alone_from : (o : Object) (place : ℕ) (ss : List Symbol) → IsFound o
      → entries_from (run_objects run os) (as_input (alone run o.input) o) place ss ≡ map (alone_symbol run os) (entries_from (whole_objects os) o place ss)
  alone_from o place [] is = refl
  alone_from o place (s ∷ ss) is =
      ap (λ b. record (entry_in (run_objects run os) (as_input (alone run o.input) o) place s) { defines = b } ∷ entries_from (run_objects run os) (as_input (alone run o.input) o) (place + 1) ss)
      (sym (ap (defines_in run os (entry_in (whole_objects os) o place s)) is))
      ∙ ap (λ es. alone_symbol run os (entry_in (whole_objects os) o place s) ∷ es) (alone_from o (place + 1) ss is)

  pub alone_symbols : (o : Object) → IsFound o
      → symbols_of (run_objects run os) (as_input (alone run o.input) o) ≡ map (alone_symbol run os) (symbols_of (whole_objects os) o)
  alone_symbols o is = alone_from o 0 o.symbols is

-- ---- the symbols of all

pub flat_of_map : {A B C : Type 0} (f : A → B) (g : B → List C) (xs : List A) → flat_map g (map f xs) ≡ flat_map (λ x. g (f x)) xs
flat_of_map f g [] = refl
flat_of_map f g (x ∷ xs) = flat_map-cons g (f x) (map f xs) ∙ (ap (λ cs. g (f x) ++ cs) (flat_of_map f g xs) ∙ sym (flat_map-cons (λ y. g (f y)) x xs))

pub flat_where : {A C : Type 0} (f g : A → List C) (P : A → Type 0) → ((x : A) → P x → f x ≡ g x) → (xs : List A) → All P xs → flat_map f xs ≡ flat_map g xs
flat_where f g P same [] all = refl
flat_where f g P same (x ∷ xs) all =
    flat_map-cons f x xs ∙ (ap (λ cs. cs ++ flat_map f xs) (same x (All-head P x xs all)) ∙ (ap (λ cs. g x ++ cs) (flat_where f g P same xs (All-tail P x xs all)) ∙ sym (flat_map-cons g x xs)))

pub map_of_flat : {A C D : Type 0} (h : C → D) (f : A → List C) (xs : List A) → map h (flat_map f xs) ≡ flat_map (λ x. map h (f x)) xs
map_of_flat h f [] = refl
map_of_flat h f (x ∷ xs) = ap (map h) (flat_map-cons f x xs) ∙ (map-append h (f x) (flat_map f xs) ∙ (ap (λ ds. map h (f x) ++ ds) (map_of_flat h f xs) ∙ sym (flat_map-cons (λ y. map h (f y)) x xs)))

module _ (run : Run) (os : Objects) (cut : AreCut run os) where
  pub all_before : flat_map (symbols_of (later_objects run os)) os.before ≡ flat_map (symbols_of (whole_objects os)) os.before
  all_before = flat_where (symbols_of (later_objects run os)) (symbols_of (whole_objects os)) (λ (o : Object). o.input ≤ run.first) (λ o le. before_symbols run os cut o le) os.before cut.before

  pub all_behind : flat_map (symbols_of (later_objects run os)) (map (λ (o : Object). as_input (later run o.input) o) os.behind) ≡ map (later_symbol run os) (flat_map (symbols_of (whole_objects os)) os.behind)
  all_behind =
      flat_of_map (λ (o : Object). as_input (later run o.input) o) (symbols_of (later_objects run os)) os.behind
      ∙ (flat_where (λ (o : Object). symbols_of (later_objects run os) (as_input (later run o.input) o)) (λ o. map (later_symbol run os) (symbols_of (whole_objects os) o))
      (λ (o : Object). run.first + run.many < o.input) (λ o lt. behind_symbols run os cut o lt) os.behind cut.behind
      ∙ sym (map_of_flat (later_symbol run os) (symbols_of (whole_objects os)) os.behind))

  pub all_alone : All (IsFound run os cut) os.middle → flat_map (symbols_of (run_objects run os)) (run_objects run os) ≡ map (alone_symbol run os) (flat_map (symbols_of (whole_objects os)) os.middle)
  all_alone found =
      flat_of_map (λ (o : Object). as_input (alone run o.input) o) (symbols_of (run_objects run os)) os.middle
      ∙ (flat_where (λ (o : Object). symbols_of (run_objects run os) (as_input (alone run o.input) o)) (λ o. map (alone_symbol run os) (symbols_of (whole_objects os) o))
      (IsFound run os cut) (λ o is. alone_symbols run os cut o is) os.middle found
      ∙ sym (map_of_flat (alone_symbol run os) (symbols_of (whole_objects os)) os.middle))
