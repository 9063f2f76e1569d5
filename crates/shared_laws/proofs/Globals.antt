-- The globals of a shared output: the linker's three come first, and the cells of addresses have the numbers of their places.
use Rattle.std.proofs.Common.{◌≡◌, ℕ, suc, ◌+◌, ◌≤◌, ◌<◌, List, [], ◌∷◌, ◌++◌, length, map, Option, Some, None, Bool, true, false, refl, sym, ap, ◌∙◌, subst, ⊎_elim, arith, append_assoc, append-nil}
use Rattle.std.specs.Prelude.{slice_get, position, cond, filter, filter_map, flat_map, unwrap_or}
use Rattle.std.specs.List.{list_any}
use Rattle.std.proofs.lemmas.List.{length-append}
use Rattle.list_places.specs.Has.{Has, Apart}
use Rattle.list_places.proofs.Lists.{has_either, has_map, has_pick, apart_distinct, given_some, turned}
use Rattle.wl_base.specs.Choice.{distinct, distinct_onto}
use Rattle.linking_section.specs.declared.symbol.SymbolKind.TheVariants.{Datum}
use Rattle.made_symbols.specs.declared.mode.Mode.TheVariants.{Shared}
use Rattle.made_symbols.specs.Made.{made}
use Rattle.object_file.specs.declared.object.Object.{Object}
use Rattle.index_layout.specs.Numbers.{number_by}
use Rattle.name_rules.specs.Entries.{InputSymbol, ImportKey, same_import, entries, symbols_of, is_entry, is_kind, made_from}
use Rattle.name_rules.specs.Further.{made_global_import}
use Rattle.dylink_out.specs.declared.word.WordReloc.{WordReloc}
use Rattle.dylink_out.specs.declared.word.WordPlace.TheVariants.{Got}
use Rattle.dylink_out.specs.Loading.{RiseFrom, RisesBy, LieFrom, LiesBy}
use Rattle.link_rules.specs.Program.{Program, Part}
use Rattle.link_rules.specs.Marks.{refs_of}
use Rattle.link_rules.specs.Keys.{GlobalKey, outside_global, own_global, got, exported_datum, GotKey, same_global, same_got, globals, global_imports_in, foreign_cells, used_globals, own_global_key, got_entries, datum_key, ref_got, needs_got, parts_of_kind}
use Rattle.link_facts.proofs.link_worlds_lemmas.Keys.{gots_same}
use Rattle.shared_laws.specs.Linked.{the_linkers}
use Rattle.shared_laws.proofs.Places.{own_place, place_behind, place_front, place_map, number_within, pick_append, picks_none}

-- ---- the linker's imports

-- what was seen stays in front
keeps : {A : Type 0} (same : A → A → Bool) (xs seen : List A) → (rest : List A) × (distinct_onto same seen xs ≡ seen ++ rest)
keeps same [] seen = ([], sym (append-nil seen))
keeps {A} same (x ∷ xs) seen = by (keeps same xs) (list_any (same x) seen)
  where
    by : ((seen : List A) → (rest : List A) × (distinct_onto same seen xs ≡ seen ++ rest)) → (q : Bool) → (rest : List A) × (distinct_onto same (cond q seen (seen ++ x ∷ [])) xs ≡ seen ++ rest)
    by others true = others seen
    by others false = let k = others (seen ++ x ∷ []) in (x ∷ k.0, k.1 ∙ append_assoc seen (x ∷ []) k.0)

linkers_first : (objects : List Object) → (rest : List ImportKey) × (filter_map made_global_import (entries Shared objects) ≡ the_linkers ++ rest)
unfolding entries
linkers_first objects = (
  filter_map made_global_import (filter is_entry (flat_map (symbols_of objects) objects)),
  pick_append made_global_import (made_from 0 (made Shared)) (filter is_entry (flat_map (symbols_of objects) objects)),
)

pub imports_first : (p : Program) (parts : List Part) → p.entries ≡ entries Shared p.objects → (rest : List ImportKey) × (global_imports_in Shared p parts ≡ the_linkers ++ rest)
imports_first p parts is =
    let f = linkers_first p.objects in
    let more : List ImportKey = f.0 ++ foreign_cells parts ++ used_globals Shared p (refs_of parts) in
    let k = keeps same_import more the_linkers in (
      k.0,
      ap (λ (ks : List ImportKey). distinct same_import (ks ++ foreign_cells parts ++ used_globals Shared p (refs_of parts))) (ap (filter_map made_global_import) is ∙ f.1) ∙ k.1,
    )

pub three_imports : (p : Program) (parts : List Part) → p.entries ≡ entries Shared p.objects → 2 < length (global_imports_in Shared p parts)
three_imports p parts is = let f = imports_first p parts is in let z = ap length f.1 in omega (arith, z)

-- ---- all globals

module _ (p : Program) (parts : List Part) (exports : List InputSymbol) where
  abbrev pub ins : List ImportKey
  ins = global_imports_in Shared p parts

  abbrev pub outs : List GlobalKey
  outs = map outside_global (global_imports_in Shared p parts)

  abbrev pub owns : List GlobalKey
  owns = filter_map own_global_key parts

  abbrev pub gots : List GlobalKey
  gots = map got (got_entries Shared parts)

  abbrev pub dates : List GlobalKey
  dates = filter_map datum_key exports

  outs_long : length outs ≡ length ins
  outs_long = long ins
    where
      long : (ks : List ImportKey) → length (map outside_global ks) ≡ length ks
      long [] = refl
      long (k ∷ ks) = ap suc (long ks)

  pub globals_are : globals Shared p parts exports ≡ outs ++ (owns ++ gots ++ dates)
  unfolding globals
  globals_are = refl

  -- by sorts
  an_import : (x : GlobalKey) → Has outs x → (k : ImportKey) × (outside_global k ≡ x)
  an_import x h = let r = has_map outside_global ins x h in (r.0, r.2)

  an_own : (x : GlobalKey) → Has owns x → (i : ℕ) × (n : ℕ) × (own_global i n ≡ x)
  an_own x h = let r = has_pick own_global_key parts x h in (r.0.chunk.input, r.0.chunk.index, (given_some _ _ x r.2).1)

  a_date : (x : GlobalKey) → Has dates x → (e : InputSymbol) × (exported_datum e ≡ x) × Has exports e × (is_kind Datum e ≡ true)
  a_date x h = let r = has_pick datum_key exports x h in let g = given_some (is_kind Datum r.0) (exported_datum r.0) x r.2 in (r.0, g.1, r.1, g.0)

  -- ---- imports

  -- of what is no import, none is the same as one
  no_outside : (k : ImportKey) (x : GlobalKey) → Has (owns ++ gots ++ dates) x → same_global (outside_global k) x ≡ false
  no_outside k x h =
      ⊎_elim
      (λ a. ⊎_elim
      (λ b. let r = an_own x b in subst (λ y. same_global (outside_global k) y ≡ false) r.2 refl)
      (λ b. let r = has_map got (got_entries Shared parts) x b in subst (λ y. same_global (outside_global k) y ≡ false) r.2 refl)
      (has_either owns gots x a))
      (λ a. let r = a_date x a in subst (λ y. same_global (outside_global k) y ≡ false) r.1 refl)
      (has_either (owns ++ gots) dates x h)

  pub import_number : (k : ImportKey) → 0 < length ins → number_by same_global (globals Shared p parts exports) (outside_global k) < length ins
  import_number k some =
      let z = outs_long in
      let n = number_within (same_global (outside_global k)) outs (owns ++ gots ++ dates) (omega (arith, some, z)) (no_outside k) in
      subst (λ gs. number_by same_global gs (outside_global k) < length ins) (sym globals_are) (omega (arith, n, z))

  -- ---- cells of addresses

  before_got : (k : GotKey) (x : GlobalKey) → Has (outs ++ owns) x → same_global (got k) x ≡ false
  before_got k x h =
      ⊎_elim
      (λ a. let r = an_import x a in subst (λ y. same_global (got k) y ≡ false) r.1 refl)
      (λ a. let r = an_own x a in subst (λ y. same_global (got k) y ≡ false) r.2 refl)
      (has_either outs owns x h)

  gots_apart : Apart same_got (got_entries Shared parts)
  gots_apart = apart_distinct same_got (turned same_got gots_same) [] (map ref_got (filter (needs_got Shared) (refs_of (parts_of_kind 0 parts)))) tt

  -- the cell at a place
  pub got_number : (i : ℕ) (k : GotKey) → slice_get (got_entries Shared parts) i ≡ Some k → number_by same_global (globals Shared p parts exports) (got k) ≡ length (outs ++ owns) + i
  got_number i k h =
      let own = own_place same_got gots_same.itself (turned same_got gots_same) (got_entries Shared parts) gots_apart i k h in
      let mapped : position (same_global (got k)) gots ≡ Some i = place_map got (same_global (got k)) (got_entries Shared parts) ∙ own in
      let front = place_front (same_global (got k)) gots dates i mapped in
      let all = place_behind (same_global (got k)) (outs ++ owns) (gots ++ dates) i (before_got k) front in
      let flat : (outs ++ owns) ++ (gots ++ dates) ≡ outs ++ (owns ++ gots ++ dates) = simp append_assoc in
      let regroup : (outs ++ owns) ++ (gots ++ dates) ≡ globals Shared p parts exports = flat ∙ sym globals_are in
      ap (λ gs. unwrap_or (position (same_global (got k)) gs) 0) (sym regroup) ∙ ap (λ o. unwrap_or o 0) all

  pub behind_imports : length ins ≤ length (outs ++ owns)
  behind_imports = let z = outs_long in let l = length-append outs owns in omega (arith, z, l)

  -- ---- what is picked of all globals, where only cells of addresses give something

  module _ {A : Type 0} (f : GlobalKey → Option A) (no_import : (k : ImportKey) → f (outside_global k) ≡ None) (no_own : (i n : ℕ) → f (own_global i n) ≡ None) (no_date : (e : InputSymbol) → f (exported_datum e) ≡ None) where
    pub picked_are : filter_map f (globals Shared p parts exports) ≡ filter_map f gots
    picked_are =
        ap (filter_map f) globals_are
        ∙ pick_append f outs (owns ++ gots ++ dates)
        ∙ ap (λ ys. ys ++ filter_map f (owns ++ gots ++ dates)) (picks_none f outs (λ x h. let r = an_import x h in subst (λ y. f y ≡ None) r.1 (no_import r.0)))
        ∙ pick_append f (owns ++ gots) dates
        ∙ ap (λ ys. filter_map f (owns ++ gots) ++ ys) (picks_none f dates (λ x h. let r = a_date x h in subst (λ y. f y ≡ None) r.1 (no_date r.0)))
        ∙ append-nil (filter_map f (owns ++ gots))
        ∙ pick_append f owns gots
        ∙ ap (λ ys. ys ++ filter_map f gots) (picks_none f owns (λ x h. let r = an_own x h in subst (λ y. f y ≡ None) r.2 (no_own r.0 r.1)))

-- ---- own cells rise

-- words of cells that have one number after another
pub cells_rise : (low n : ℕ) (ks : List GotKey) (word : GotKey → WordReloc) (number : GotKey → ℕ) → ((k : GotKey) → (word k).to ≡ Got (number k)) → low ≤ n
    → ((i : ℕ) (k : GotKey) → slice_get ks i ≡ Some k → number k ≡ n + i) → RiseFrom low (map word ks)
cells_rise low n [] word number to le at = tt
cells_rise low n (k ∷ ks) word number to le at =
    let z = at 0 k refl in
    let others = cells_rise (number k + 1) (n + 1) ks word number to (omega (arith, z)) (λ i x h. let y = at (suc i) x h in omega (arith, y)) in
    subst (λ t. RisesBy t low (λ next. RiseFrom next (map word ks))) (sym (to k)) (omega (arith, le, z), others)

-- and no window lies in them
pub cells_lie : (size at : ℕ) (ks : List GotKey) (word : GotKey → WordReloc) (number : GotKey → ℕ) → ((k : GotKey) → (word k).to ≡ Got (number k)) → at ≤ size → LieFrom size at (map word ks)
cells_lie size at [] word number to le = le
cells_lie size at (k ∷ ks) word number to le =
    subst (λ t. LiesBy t at (λ next. LieFrom size next (map word ks))) (sym (to k)) (cells_lie size at ks word number to le)
