-- All keys that live parts, exports, imports, types, slots and cells name stand in their lists.
use Rattle.std.proofs.Common.{◌≡◌, ℕ, List, ◌∙◌, map, None, Bool, true, false, refl, sym, ap, subst, ⊎_elim, arith}
use Rattle.std.specs.Prelude.{◌==◌, ◌&&◌, ◌||◌, cond}
use Rattle.std.proofs.lemmas.Bool.{eqb-true, or_left}
use Rattle.list_places.specs.Has.{Has}
use Rattle.list_places.proofs.Lists.{has_filter, pick_has, has_right, flat_has}
use Rattle.linking_section.specs.declared.symbol.SymbolKind.TheVariants.{Function}
use Rattle.object_file.specs.declared.object.Object.{Object}
use Rattle.made_symbols.specs.declared.mode.Mode.TheVariants.{Plain}
use Rattle.live_mark.specs.Live.{ReachedLaw}
use Rattle.round_rules.specs.Rounds.{Candidate}
use Rattle.link_plan.specs.declared.plan.Plan.{Plan}
use Rattle.name_rules.specs.Entries.{InputSymbol, ImportKey, SymbolType, of_function, of_global, untyped, is_kind, entries}
use Rattle.name_rules.specs.Cases.{clash_by}
use Rattle.link_rules.specs.Program.{Program, program_of, strict_program, loosened, Part, Ref, refs, Named, a_symbol, a_type, named_ref, named_type, types_named}
use Rattle.link_rules.specs.Marks.{exported, live, unresolved}
use Rattle.link_rules.specs.Keys.{FunctionKey, outside, outside_global, GlobalKey, functions, slots, is_function_type, is_global_type, function_type_of, type_of, window_types}
use Rattle.link_rules.specs.Values.{Layout, Asks, a_function, a_slot, an_address, a_global, a_table, asks}
use Rattle.link_rules.specs.Output.{layout}
use Rattle.link_worlds.specs.Sound.{Sound, SoundExports}
use Rattle.link_worlds.proofs.Live.{live_part}
use Rattle.link_worlds.proofs.Functions.{stood}
use Rattle.link_facts.specs.Loaded.{ProgramsAreSound}
use Rattle.link_facts.proofs.SoundPrograms.{names_symbol}
use Rattle.link_facts.proofs.Loosened.{loose_sound, loose_exports}
use Rattle.key_laws.specs.Standing.{HasFunction, HasType, HasNamed, HasAsked, HasImported, AllStand, KeysStand}
use Rattle.key_laws.proofs.Asked.{IsAsked, slot_names, address_names, loose_asked, loose_calls}
use Rattle.key_laws.proofs.Functions.{known, called, slot_there, address_there, type_there, function_there, function_type, segment_there}
use Rattle.key_laws.proofs.Globals.{each_global, read, export_there, held}

-- as `asks` cuts the types of relocations
by_asks : (P : Asks → Type 0) (f s a g : Bool) → (f ≡ true → P a_function) → (s ≡ true → P a_slot) → (a ≡ true → P an_address) → (g ≡ true → P a_global) → P a_table
    → P (cond f a_function (cond s a_slot (cond a an_address (cond g a_global a_table))))
by_asks P true s a g x y z w t = x refl
by_asks P false true a g x y z w t = y refl
by_asks P false false true g x y z w t = z refl
by_asks P false false false true x y z w t = w refl
by_asks P false false false false x y z w t = t

module _ (law : ReachedLaw) (p : Program) (exports : List InputSymbol) (sound : Sound p) (named : SoundExports p exports) (open' : unresolved p (live p exports) ≡ None)
    (asks' : (part : Part) (ref : Ref) → Has p.parts part → Has (refs part) ref → IsAsked ref)
    (calls' : (part : Part) (ref : Ref) → Has p.parts part → part.chunk.input ≡ 0 → Has (refs part) ref → ref.kind ≡ 0) where
  abbrev parts : List Part
  parts = live p exports

  abbrev lay : Layout
  lay = layout Plain p (live p exports) exports

  ref_there : (part : Part) (ref : Ref) → Has parts part → Has (refs part) ref → HasAsked lay ref (asks ref.kind)
  ref_there part ref h r =
      let k = known law p exports sound open' asks' part ref h r in
      by_asks (HasAsked lay ref) (ref.kind == 0) ((ref.kind == 1) || (ref.kind == 2) || (ref.kind == 12)) ((ref.kind == 3) || (ref.kind == 4) || (ref.kind == 5) || (ref.kind == 11)) (ref.kind == 7)
      (λ t. called law p exports sound open' asks' part ref h r (eqb-true ref.kind 0 t))
      (λ t n. slot_there law p exports sound open' asks' part ref h r (slot_names ref.kind ref.entry.symbol.kind t k.names) n
      (or_left ((ref.kind == 1) || (ref.kind == 2) || (ref.kind == 12)) ((ref.kind == 7) && is_kind Function ref.entry) t))
      (λ t. address_there law p exports sound open' asks' part ref h r (address_names ref.kind ref.entry.symbol.kind t k.names))
      (λ t. read law p exports sound open' asks' part ref h r (eqb-true ref.kind 7 t))
      tt

  window_there : (part : Part) (n : Named) → Has parts part → Has part.named n → HasNamed lay n
  window_there part (a_symbol ref) h m = ref_there part ref h (pick_has named_ref part.named (a_symbol ref) ref m refl)
  window_there part (a_type w) h m =
      type_there law p exports sound open' asks' w.type
      (has_right (map (type_of p parts) (functions Plain p parts)) (window_types parts) w.type (flat_has types_named parts part w.type h (pick_has named_type part.named (a_type w) w.type m refl)))

  imported_by : (s : SymbolType) → is_function_type s ≡ true → HasType lay (function_type_of s) → HasImported lay s
  imported_by (of_function t) f h = h
  imported_by (of_global g) f h = absurd (grind arith)
  imported_by untyped f h = absurd (grind arith)

  global_import : (s : SymbolType) → is_global_type s ≡ true → HasImported lay s
  global_import (of_function t) f = absurd (grind arith)
  global_import (of_global g) f = tt
  global_import untyped f = absurd (grind arith)

  function_imported : (k : ImportKey) → Has lay.numbers.functions (outside k) → HasImported lay k.type
  unfolding layout
  function_imported k h = imported_by k.type (stood parts p (outside k) h) (function_type law p exports sound open' asks' (outside k) h)

  -- where the key is an import
  IfImport : GlobalKey → Type 0
  IfImport k = (j : ImportKey) → k ≡ outside_global j → HasImported lay j.type

  global_imported : (k : ImportKey) → Has lay.numbers.globals (outside_global k) → HasImported lay k.type
  unfolding layout IfImport
  global_imported k h =
      each_global p parts exports IfImport (λ i t j e. let q : i ≡ j = grind arith in subst (λ (x : ImportKey). HasImported lay x.type) q (global_import i.type t))
      (λ n j e. absurd (grind arith)) (λ i n j e. absurd (grind arith)) (λ g m j e. absurd (grind arith)) (λ x m t j e. absurd (grind arith)) (outside_global k) h k refl

  slot_function : (k : FunctionKey) → Has lay.numbers.slots k → HasFunction lay k
  unfolding layout slots
  slot_function k h = function_there law p exports sound open' asks' k (has_filter _ (functions Plain p parts) k h).0

  pub all_stand : AllStand p parts exports lay
  all_stand = record {
    windows = window_there;
    calls = λ part ref h z r. called law p exports sound open' asks' part ref h r (calls' part ref (live_part p exports part h) z r);
    exported = export_there law p exports sound open' asks' named;
    imports = λ k h. ⊎_elim (function_imported k) (global_imported k) h;
    types = function_type law p exports sound open' asks';
    slots = slot_function;
    held = held law p exports sound open' asks' named;
    segments = λ part h z. segment_there law p exports sound open' asks' part.chunk (record { part = part; there = h; chunk = refl }) z;
  }

module _ (plan : Plan) (files : List (List ℕ)) (all : List Candidate) (objects : List Object) where
  entries_are : (program_of Plain plan files all objects).entries ≡ entries Plain objects
  unfolding program_of
  entries_are = refl

pub keys_stand : ReachedLaw → ProgramsAreSound → KeysStand
unfolding program_of exported
keys_stand law sound plan files all objects loaded clear open' =
    let p = strict_program Plain plan files all objects in
    let clear' = ap (clash_by plan.loose_calls) (sym (entries_are plan files all objects)) ∙ clear in
    let s = sound plan files all objects loaded clear' in
    let symbols = names_symbol plan files all objects loaded clear' in
    all_stand law (loosened p) (exported Plain p) (loose_sound p refl symbols s.0) (loose_exports p refl symbols (exported Plain p) s.1) open'
    (loose_asked plan files all objects loaded clear') (loose_calls plan files all objects loaded clear')
