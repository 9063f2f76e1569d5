-- One object in the place of a run is a joining of the whole link's symbols.
use Rattle.std.proofs.Common.{◌≡◌, ℕ, ◌+◌, ◌<◌, ◌≤◌, true, false, List, [], ◌∷◌, ◌++◌, filter, append_assoc, inl, inr, ⊎_elim, refl, sym, ap, subst, ◌∙◌, arith}
use Rattle.std.specs.Prelude.{Some, None, flat_map, All}
use Rattle.std.proofs.lemmas.List.Concat.{flat_map-append}
use Rattle.std.proofs.lemmas.List.Elements.{All-cons, All-append, filter-append}
use Rattle.list_places.specs.Has.{Has, Apart}
use Rattle.list_places.proofs.Lists.{has_filter, filter_has, all_has}
use Rattle.made_symbols.specs.declared.mode.Mode.TheVariants.{Plain}
use Rattle.made_symbols.specs.Made.{made}
use Rattle.name_rules.specs.object_file.linking_section.Flags.{is_weak}
use Rattle.name_rules.specs.object_file.declared.object.Object.{Object}
use Rattle.name_rules.specs.Entries.{InputSymbol, name_of, is_entry, is_named, named, entries, symbols_of, entry_in, made_entry, made_from, same_entry}
use Rattle.name_rules.specs.Meanings.{references, least_import, winner}
use Rattle.link_rules.specs.Program.{Program}
use Rattle.partial_rules.specs.Partial.{stands, is_open}
use Rattle.partial_laws.specs.Joining.{Joining, joined, Kept, IsJoining, explicit_of, any_strong}
use Rattle.partial_laws.specs.Opens.{Stays, AreAround}
use Rattle.partial_laws.specs.Inputs.{Run, Objects, whole_objects, AreCut}
use Rattle.partial_laws.specs.Standing.{alone_symbol, joined_symbol, joining}
use Rattle.partial_laws.specs.Joined.{linked_symbols, SymbolsStand, NamesStand, SymbolsRead, OpensStand}
use Rattle.partial_laws.proofs.Lists.{none_asked, filter_kept}
use Rattle.partial_laws.proofs.Same.{name_itself}
use Rattle.partial_laws.proofs.Joins.{all_flat, all_made, not_after, not_before, of_run as run_inside}
use Rattle.partial_laws.proofs.Regions.{OfRun, region, entry_linked, apart_one}
use Rattle.partial_laws.proofs.Won.{winning, won_stands}
use Rattle.partial_laws.proofs.Fields.{name_kept, kind_kept, type_kept, entry_kept, own_kept, defines_kept, class_kept, apart_kept}
use Rattle.partial_laws.proofs.Order.{order_kept}
use Rattle.partial_laws.proofs.Opened.{stood, weak_alike}
use Rattle.partial_laws.proofs.Opens.{SayAlike, references_alike}

-- a list by what is asked of its elements
pub all_from_has : {A : Type 0} (P : A → Type 0) (xs : List A) → ((x : A) → Has xs x → P x) → All P xs
all_from_has P [] each = none_asked P
all_from_has P (x ∷ xs) each = All-cons P x xs (each x (inl refl)) (all_from_has P xs (λ y has. each y (inr has)))

module _ (run : Run) (os : Objects) (p : Program) (cut : AreCut run os) (stand : SymbolsStand run os p) (names : NamesStand run os p) (read : SymbolsRead run os p) (open_ : OpensStand run os p)
    (apart : Apart same_entry (linked_symbols (whole_objects os))) where
  abbrev W : List Object
  W = whole_objects os

  abbrev es : List InputSymbol
  es = entries Plain W

  abbrev j : Joining
  j = joining run os p

  abbrev K : InputSymbol → Type 0
  K e = Has (linked_symbols W) e

  -- ---- entries before the run, of it, and behind it

  abbrev front : List InputSymbol
  front = made_from 0 (made Plain) ++ filter is_entry (flat_map (symbols_of W) os.before)

  abbrev middle : List InputSymbol
  middle = filter is_entry (flat_map (symbols_of W) os.middle)

  abbrev back : List InputSymbol
  back = filter is_entry (flat_map (symbols_of W) os.behind)

  entries_cut : entries Plain W ≡ front ++ (middle ++ back)
  unfolding entries
  entries_cut =
      ap (λ xs. made_from 0 (made Plain) ++ filter is_entry xs)
      (flat_map-append (symbols_of W) os.before (os.middle ++ os.behind) ∙ ap (λ xs. flat_map (symbols_of W) os.before ++ xs) (flat_map-append (symbols_of W) os.middle os.behind))
      ∙ (ap (λ xs. made_from 0 (made Plain) ++ xs)
      (filter-append is_entry (flat_map (symbols_of W) os.before) (flat_map (symbols_of W) os.middle ++ flat_map (symbols_of W) os.behind)
      ∙ ap (λ xs. filter is_entry (flat_map (symbols_of W) os.before) ++ xs) (filter-append is_entry (flat_map (symbols_of W) os.middle) (flat_map (symbols_of W) os.behind)))
      ∙ sym (append_assoc (made_from 0 (made Plain)) (filter is_entry (flat_map (symbols_of W) os.before)) (middle ++ back)))

  before_stays : (e : InputSymbol) → e.input ≤ run.first → Stays j e
  before_stays e le =
      let is = not_after run os p cut stand e le in
      record { kept = is.0; symbol = ap (λ (x : InputSymbol). x.symbol) is.1; import = ap (λ (x : InputSymbol). x.import) is.1; defines = ap (λ (x : InputSymbol). x.defines) is.1 }

  behind_stays : (e : InputSymbol) → run.first + run.many < e.input → Stays j e
  behind_stays e lt =
      let is = not_before run os p cut stand e lt in
      record { kept = is.0; symbol = ap (λ (x : InputSymbol). x.symbol) is.1; import = ap (λ (x : InputSymbol). x.import) is.1; defines = ap (λ (x : InputSymbol). x.defines) is.1 }

  around : AreAround j front middle back
  around = record {
    before = All-append (Stays j) (made_from 0 (made Plain)) (filter is_entry (flat_map (symbols_of W) os.before))
        (all_made (Stays j) (λ place m. before_stays (made_entry place m) (omega arith)) 0 (made Plain))
        (filter_kept (Stays j) (Stays j) is_entry (λ x s t. s) (flat_map (symbols_of W) os.before)
        (all_flat W (Stays j) (λ (o : Object). o.input ≤ run.first) (λ o le place s. before_stays (entry_in W o place s) le) os.before cut.before));
    behind = filter_kept (Stays j) (Stays j) is_entry (λ x s t. s) (flat_map (symbols_of W) os.behind)
        (all_flat W (Stays j) (λ (o : Object). run.first + run.many < o.input) (λ o lt place s. behind_stays (entry_in W o place s) lt) os.behind cut.behind);
    stood = λ name none. stood run os p cut stand names read open_ name (ap (λ xs. winner xs name) entries_cut ∙ none);
  }

  held : All K (front ++ (middle ++ back))
  held = subst (All K) entries_cut (all_from_has K (entries Plain W) (λ e has. entry_linked W e has))

  pub all_known : All K (entries Plain W)
  all_known = all_from_has K (entries Plain W) (λ e has. entry_linked W e has)

  said : (name : List ℕ) → winner (entries Plain W) name ≡ None
      → SayAlike (references (named (front ++ (middle ++ back)) name)) (references (named (joined j (front ++ (middle ++ back))) name))
  said name none =
      references_alike j K (name_kept run os p cut stand names read) (defines_kept run os p cut stand names read) front middle back around held name (sym (ap (λ xs. winner xs name) entries_cut) ∙ none)

  -- ---- winners

  is_entries : All (λ (e : InputSymbol). is_entry e ≡ true) (entries Plain W)
  unfolding entries
  is_entries =
      All-append (λ (e : InputSymbol). is_entry e ≡ true) (made_from 0 (made Plain)) (filter is_entry (flat_map (symbols_of W) W))
      (all_made (λ (e : InputSymbol). is_entry e ≡ true) (λ place m. refl) 0 (made Plain))
      (all_from_has (λ (e : InputSymbol). is_entry e ≡ true) (filter is_entry (flat_map (symbols_of W) W)) (λ e has. (has_filter is_entry (flat_map (symbols_of W) W) e has).1))

  record WinnerStays (w : InputSymbol) : Type 0 where
    kept : j.keep w ≡ true
    defines : (j.move w).defines ≡ true

  winner_stays : (name : List ℕ) (w : InputSymbol) → winner (entries Plain W) name ≡ Some w → WinnerStays w
  winner_stays name w some =
      let won = winning es name w some in
      let entry : is_entry w ≡ true = all_has (λ (e : InputSymbol). is_entry e ≡ true) es is_entries w won.entry in
      ⊎_elim (λ le. let s = before_stays w le in record { kept = s.kept; defines = s.defines ∙ won.defines })
      (λ rest. ⊎_elim
      (λ (inside : OfRun run os cut w).
      let s = won_stands run os p cut stand names name w inside entry some in
      let is = run_inside run os p cut stand w inside.from inside.to in
      record {
        kept = is.0 ∙ s.stands_so;
        defines =
            ap (λ (x : InputSymbol). x.defines) is.1
            ∙ (all_has (λ (e : InputSymbol). stands p (alone_symbol run os e) ≡ true → is_open p (alone_symbol run os e) ≡ false → (joined_symbol run os p (alone_symbol run os e)).defines ≡ e.defines)
            (flat_map (symbols_of W) os.middle) names.closed w inside.there s.stands_so s.closed
            ∙ won.defines);
      })
      (λ lt. let s = behind_stays w lt in record { kept = s.kept; defines = s.defines ∙ won.defines }) rest)
      (region run os cut w (entry_linked W w won.entry))

  -- ---- the whole

  one : (a b : InputSymbol) → K a → K b → same_entry a b ≡ true → a ≡ b
  one a b ka kb same = apart_one (linked_symbols W) apart a b ka kb same

  weak_stays : (e : InputSymbol) → Kept j K e → is_entry e ≡ true → winner es (name_of e) ≡ None → is_weak (j.move e).symbol ≡ is_weak e.symbol
  weak_stays e kept entry none =
      ⊎_elim (λ le. ap is_weak (before_stays e le).symbol)
      (λ rest. ⊎_elim
      (λ (inside : OfRun run os cut e). weak_alike run os p cut stand names read open_ (name_of e) none e
      (filter_has (is_named (name_of e)) middle e (filter_has is_entry (flat_map (symbols_of W) os.middle) e inside.there entry) (name_itself (name_of e))) kept.kept)
      (λ lt. ap is_weak (behind_stays e lt).symbol) rest)
      (region run os cut e kept.symbol)

  pub is_joining : IsJoining j K (entries Plain W)
  is_joining = record {
    entries = is_entries;
    one = one;
    apart = apart_kept run os p cut stand names read;
    name = name_kept run os p cut stand names read;
    kind = kind_kept run os p cut stand names read;
    type = type_kept run os p cut stand names read;
    entry = entry_kept run os p cut stand names read;
    own = own_kept run os p cut stand names read;
    defines = defines_kept run os p cut stand names read;
    class = class_kept run os p cut stand names read;
    order = order_kept run os p cut stand names read one;
    winner_kept = λ name w some. (winner_stays name w some).kept;
    winner_defines = λ name w some. (winner_stays name w some).defines;
    explicit = λ name none. subst (λ xs. least_import (explicit_of (references (named (joined j xs) name))) ≡ least_import (explicit_of (references (named xs name)))) (sym entries_cut) (said name none).explicit;
    least = λ name none absent. subst (λ xs. least_import (references (named (joined j xs) name)) ≡ least_import (references (named xs name))) (sym entries_cut)
        ((said name none).least (ap (λ xs. least_import (explicit_of (references (named xs name)))) (sym entries_cut) ∙ absent));
    strong = λ name none. subst (λ xs. any_strong (references (named (joined j xs) name)) ≡ any_strong (references (named xs name))) (sym entries_cut) (said name none).strong;
    weak = weak_stays;
  }
