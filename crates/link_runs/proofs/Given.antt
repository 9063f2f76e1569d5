-- What objects give to their program: names that are UTF-8, and constants in their ranges.
use Rattle.std.proofs.Common.{◌≡◌, ℕ, List, [], ◌∷◌, map, refl, sym, ap, ◌∙◌, subst, inl, inr, ⊎_elim, Option, Some, None, Bool, true, false, arith}
use Rattle.std.specs.Prelude.{IsUtf8, slice_get, find, cond, unwrap_or, option_map, option_and_then, codes, nat_lt, ◌<◌, slice_index, zero, suc}
use Rattle.std.specs.List.{list_all}
use Rattle.std.proofs.lemmas.Str.{IsUtf8-from_ascii}
use Rattle.std.proofs.lemmas.Bool.{and_parts, ltb-true}
use Rattle.list_places.specs.Has.{Has}
use Rattle.list_places.proofs.Lists.{has_at, has_map, has_filter, has_pick, has_flat, distinct_only, some_is}
use Rattle.wasm_types.specs.declared.import.Import.{Import}
use Rattle.linking_section.specs.declared.symbol.Symbol.{Symbol}
use Rattle.linking_section.specs.declared.symbol.SymbolKind.{SymbolKind}
use Rattle.linking_section.specs.declared.symbol.SymbolKind.TheVariants.{Function, Datum, GlobalVar, Section, Table}
use Rattle.object_columns.specs.declared.functions.FunctionDef.{FunctionDef}
use Rattle.object_parts.specs.declared.parts.GlobalDef.{GlobalDef}
use Rattle.object_file.specs.declared.object.Object.{Object}
use Rattle.round_rules.specs.Rounds.{Candidate}
use Rattle.link_plan.specs.declared.plan.Plan.{Plan}
use Rattle.made_symbols.specs.Made.{MadeSymbol, made}
use Rattle.made_symbols.specs.declared.mode.Mode.TheVariants.{Plain}
use Rattle.name_rules.specs.Entries.{InputSymbol, ImportKey, SymbolType, is_kind, name_of, is_named, entries, symbols_of, import_in, type_in, key_of, same_import}
use Rattle.name_rules.specs.Meanings.{Meaning, here, imported, null, nothing, Resolved, resolved_in, resolve, meaning, no_uses}
use Rattle.name_rules.specs.Cases.{clash_by}
use Rattle.link_output.specs.link_rules.Program.{Program, strict_program, program_of, loose_part, loose_parts, Part, Content, function, segment, global, linker_made, parts_of, init_calls}
use Rattle.link_output.specs.link_rules.Marks.{exported, memory_name, export_name, written_name, resolved_at}
use Rattle.link_output.specs.link_rules.Keys.{imports_in_order, import_of}
use Rattle.image_emit.specs.Spelled.{IsConstant}
use Rattle.link_facts.specs.Loaded.{AreLoaded}
use Rattle.link_facts.proofs.Symbols.{Known, entry_known}
use Rattle.link_facts.proofs.Meant.{Means, means}
use Rattle.link_facts.proofs.Parts.{Stood, as_function, as_segment, as_global, stood, made_or_object}
use Rattle.link_facts.proofs.SoundPrograms.{export_is, parts_are}
use Rattle.link_runs.proofs.Names.{ObjectNamed, ImportNamed, IsName}

abbrev pub KeyNamed : ImportKey → Type 0
KeyNamed k = IsUtf8 k.module_name × IsUtf8 k.field

abbrev pub ContentFits : Content → Type 0
ContentFits (function t) = Unit {0}
ContentFits (segment info) = Unit {0}
ContentFits (global g) = IsConstant g.value
ContentFits (linker_made m) = Unit {0}

no_name : IsUtf8 []
no_name = ([], (refl, refl))

pub name_or : (o : Option (List ℕ)) → IsName o → IsUtf8 (unwrap_or o [])
name_or None h = no_name
name_or (Some n) h = h

pub given_or : (o : Option (List ℕ)) (name : List ℕ) → IsName o → IsUtf8 name → IsUtf8 (unwrap_or o name)
given_or None name h k = k
given_or (Some n) name h k = h

low_at : (bytes : List ℕ) → list_all (λ b. nat_lt b 128) bytes ≡ true → (i : ℕ) → slice_index bytes i < 128
low_at [] e zero = omega arith
low_at [] e (suc i) = omega arith
low_at (x ∷ xs) e zero = ltb-true x 128 (and_parts (nat_lt x 128) (list_all (λ b. nat_lt b 128) xs) e).0
low_at (x ∷ xs) e (suc i) = low_at xs (and_parts (nat_lt x 128) (list_all (λ b. nat_lt b 128) xs) e).1 i

pub low_name : (bytes : List ℕ) → list_all (λ b. nat_lt b 128) bytes ≡ true → IsUtf8 bytes
low_name bytes e = IsUtf8-from_ascii bytes (low_at bytes e)

of_made : (ms : List MadeSymbol) → list_all (λ m. list_all (λ b. nat_lt b 128) m.name) ms ≡ true → (m : MadeSymbol) → Has ms m → IsUtf8 m.name
of_made [] e m h = absurd h
of_made (x ∷ xs) e m (inl q) = subst (λ (y : MadeSymbol). IsUtf8 y.name) q (low_name x.name (and_parts (list_all (λ b. nat_lt b 128) x.name) (list_all (λ m. list_all (λ b. nat_lt b 128) m.name) xs) e).0)
of_made (x ∷ xs) e m (inr h) = of_made xs (and_parts (list_all (λ b. nat_lt b 128) x.name) (list_all (λ m. list_all (λ b. nat_lt b 128) m.name) xs) e).1 m h

made_names : list_all (λ m. list_all (λ b. nat_lt b 128) m.name) (made Plain) ≡ true
made_names = refl

pub env_name : IsUtf8 (codes "env")
env_name = low_name (codes "env") refl

pub the_memory_name : IsUtf8 memory_name
the_memory_name = low_name memory_name refl

pub found_has : {A : Type 0} (test : A → Bool) (xs : List A) (x : A) → find test xs ≡ Some x → Has xs x
found_has test [] x h = absurd (grind arith)
found_has test (y ∷ ys) x h = onto (test y) h (found_has test ys x)
  where
    onto : (b : Bool) → cond b (Some y) (find test ys) ≡ Some x → (find test ys ≡ Some x → Has ys x) → Has (y ∷ ys) x
    onto true e rest = inl (some_is y x e)
    onto false e rest = inr (rest e)

keyed : (type : SymbolType) (o : Option Import) (k : ImportKey) → ((i : Import) → o ≡ Some i → ImportNamed i) → option_map (key_of type) o ≡ Some k → KeyNamed k
keyed type None k h e = absurd (grind arith)
keyed type (Some i) k h e = subst KeyNamed (some_is (key_of type i) k e) (h i refl)

import_named : (o : Object) → ObjectNamed o → (s : Symbol) (kind : SymbolKind) (i : Import) → import_in o s kind ≡ Some i → ImportNamed i
import_named o n s Function i e = n.imports i (has_filter _ o.imports i (has_at _ s.index i e)).0
import_named o n s Datum i e = absurd (grind arith)
import_named o n s GlobalVar i e = n.imports i (has_filter _ o.imports i (has_at _ s.index i e)).0
import_named o n s Section i e = absurd (grind arith)
import_named o n s Table i e = n.imports i (has_filter _ o.imports i (has_at _ s.index i e)).0

module _ (plan : Plan) (files : List (List ℕ)) (all : List Candidate) (objects : List Object) (loaded : AreLoaded objects)
    (clear : clash_by plan.loose_calls (entries Plain objects) ≡ None) (are : (o : Object) → Has objects o → ObjectNamed o)
    (fit : (o : Object) → Has objects o → (g : GlobalDef) → Has o.globals g → IsConstant g.value) where
  abbrev p : Program
  p = strict_program Plain plan files all objects

  abbrev es : List InputSymbol
  es = entries Plain objects

  abbrev res : Object → Resolved
  res o = resolved_in Plain no_uses plan.allow_undefined es objects o

  resolved_is : p.resolved ≡ map res objects
  unfolding resolve
  resolved_is = refl

  entry_named : (e : InputSymbol) → Known objects e → IsUtf8 (name_of e)
  entry_named e (inl m) = subst (λ (x : InputSymbol). IsUtf8 (name_of x)) (sym m.is) (of_made (made Plain) made_names m.symbol (has_at (made Plain) m.place m.symbol m.there))
  entry_named e (inr x) = subst (λ (y : InputSymbol). IsUtf8 (name_of y)) (sym x.symbol.is) (name_or x.symbol.symbol.name ((are x.object x.there).symbols x.symbol.symbol (has_at x.object.symbols x.symbol.place x.symbol.symbol x.symbol.there)))

  entry_import : (e : InputSymbol) → Known objects e → (k : ImportKey) → e.import ≡ Some k → KeyNamed k
  entry_import e (inl m) k q = absurd (let n = ap (λ (x : InputSymbol). x.import) (sym m.is) ∙ q in grind arith)
  entry_import e (inr x) k q =
      let s = x.symbol.symbol in
      keyed (type_in x.object s s.kind) (import_in x.object s s.kind) k (import_named x.object (are x.object x.there) s s.kind) (ap (λ (y : InputSymbol). y.import) (sym x.symbol.is) ∙ q)

  meant_named : (e : InputSymbol) (m : Meaning) (k : ImportKey) → Means es e m → import_of m ≡ Some k → KeyNamed k
  meant_named e (here d) k s q = absurd (grind arith)
  meant_named e null k s q = absurd (grind arith)
  meant_named e nothing k s q = absurd (grind arith)
  meant_named e (imported j) k (inl a) q =
      let r = a.1.0 in
      let h = (has_filter (is_named (name_of e)) es r a.1.1).0 in
      entry_import r (entry_known objects r h) k (a.1.2 ∙ q)
  meant_named e (imported j) k (inr (inl a)) q = absurd (let n = a.0 in grind arith)
  meant_named e (imported j) k (inr (inr a)) q = absurd (let n = a in grind arith)

  pub key_named : (k : ImportKey) → Has (imports_in_order p) k → KeyNamed k
  unfolding imports_in_order
  key_named k h =
      ⊎_elim (λ a. absurd a) (λ a.
      let f = has_pick import_of _ k a in
      let g = has_flat (λ (r : Resolved). r.meanings) p.resolved f.0 f.1 in
      let o = has_map res objects g.0 (subst (λ rs. Has rs g.0) resolved_is g.1) in
      let m = has_map (meaning Plain no_uses plan.allow_undefined es) (symbols_of objects o.0) f.0 (subst (λ (r : Resolved). Has r.meanings f.0) (sym o.2) g.2) in
      meant_named m.0 f.0 k (subst (Means es m.0) m.2 (means plan.allow_undefined es m.0)) f.2)
      (distinct_only same_import [] _ k h)

  written : (e : InputSymbol) (r : Option Resolved) → ((x : Resolved) → r ≡ Some x → Has (map res objects) x) → IsName (option_and_then (λ r. written_name r e) r)
  written e None h = tt
  written e (Some r) h =
      let o = has_map res objects r (h r refl) in
      of_function (slice_get r.object.functions e.index) (λ f q. (are o.0 o.1).functions f (subst (λ (x : Resolved). Has x.object.functions f) (sym o.2) (has_at r.object.functions e.index f q)))
    where
      of_function : (f : Option FunctionDef) → ((x : FunctionDef) → f ≡ Some x → IsName x.export_name) → IsName (option_and_then (λ (f : FunctionDef). f.export_name) f)
      of_function None g = tt
      of_function (Some f) g = g f refl

  pub export_named : (e : InputSymbol) → Has (exported Plain p) e → IsUtf8 (export_name p e)
  export_named e h = by (is_kind Function e)
    where
      own : IsUtf8 (name_of e)
      own = entry_named e (entry_known objects e (export_is plan files all objects loaded clear e h).0)

      by : (b : Bool) → IsUtf8 (cond b (unwrap_or (option_and_then (λ r. written_name r e) (resolved_at p.resolved e.input)) (name_of e)) (name_of e))
      by true = given_or (option_and_then (λ r. written_name r e) (resolved_at p.resolved e.input)) (name_of e)
          (written e (resolved_at p.resolved e.input) (λ x q. subst (λ rs. Has rs x) resolved_is (found_has _ p.resolved x q))) own
      by false = own

  in_object : (o : Object) → Has objects o → (part : Part) → Stood all objects (res o) part → ContentFits part.content
  in_object o h part (as_function k f at e) = subst (λ (x : Part). ContentFits x.content) (sym e) tt
  in_object o h part (as_segment k g at e) = subst (λ (x : Part). ContentFits x.content) (sym e) tt
  in_object o h part (as_global k g at e) = subst (λ (x : Part). ContentFits x.content) (sym e) (fit o h g (has_at o.globals k g at))

  pub contents : (part : Part) → Has p.parts part → ContentFits part.content
  unfolding parts_of
  contents part h =
      ⊎_elim (λ m. subst (λ (x : Part). ContentFits x.content) (sym m.is) tt) (λ b. in_object b.0 b.1 part (stood all objects (res b.0) part b.2))
      (made_or_object all objects res (λ o. refl) (init_calls (map res objects)) part (subst (λ xs. Has xs part) (parts_are plan files all objects loaded clear) h))

  -- the same of the program with its calls loosened
  pub loose_contents : (part : Part) → Has (program_of Plain plan files all objects).parts part → ContentFits part.content
  unfolding program_of
  loose_contents part h = by plan.loose_calls h
    where
      by : (b : Bool) → Has (loose_parts b p.entries p.parts) part → ContentFits part.content
      by false h = contents part h
      by true h = let r = has_map (loose_part p.entries) p.parts part h in subst (λ (x : Part). ContentFits x.content) r.2 (contents r.0 r.1)

  pub loose_key_named : (k : ImportKey) → Has (imports_in_order (program_of Plain plan files all objects)) k → KeyNamed k
  unfolding program_of imports_in_order
  loose_key_named = key_named

  pub loose_export_named : (e : InputSymbol) → Has (exported Plain (program_of Plain plan files all objects)) e → IsUtf8 (export_name (program_of Plain plan files all objects) e)
  unfolding program_of exported
  loose_export_named = export_named
