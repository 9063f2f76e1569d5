-- The facts of a shared link that gives bytes, one after another.
use Rattle.std.proofs.Common.{◌≡◌, ℕ, List, map, None, Bool, true, false, refl, sym, ap, ◌∙◌, subst, ⊎_elim, arith}
use Rattle.std.specs.List.{All}
use Rattle.list_places.specs.Has.{Has}
use Rattle.list_places.proofs.Lists.{all_has, has_at, has_either, pick_has}
use Rattle.linking_section.specs.declared.symbol.SymbolKind.TheVariants.{GlobalVar}
use Rattle.wasm_instr.specs.BodyLaws.{body_again}
use Rattle.object_file.specs.declared.object.Object.{Object}
use Rattle.object_file.specs.Addresses.{ReadsAddresses}
use Rattle.object_file.specs.ObjectOf.{IsObject}
use Rattle.made_symbols.specs.Made.{made}
use Rattle.made_symbols.specs.declared.mode.Mode.TheVariants.{Shared}
use Rattle.mark_bits.specs.declared.chunk.Chunk.{Chunk}
use Rattle.name_rules.specs.Entries.{InputSymbol, is_kind, entries}
use Rattle.name_rules.specs.Meanings.{Resolved, is_nothing, uses_of, resolved_in}
use Rattle.name_rules.specs.Cases.{clash_by}
use Rattle.round_rules.specs.Rounds.{Candidate}
use Rattle.link_plan.specs.declared.plan.Plan.{Plan}
use Rattle.shared_links.specs.link_program.Loaded.{home_of, IsLoaded}
use Rattle.shared_links.specs.program_build.Standing.{StrictPartsStand, LoadedPartsStand}
use Rattle.shared_links.specs.link_inputs.Loaded.{LoadedAreSound}
use Rattle.link_rules.specs.Program.{Program, Part, Ref, a_symbol, named_ref, refs, program_of, made_parts_from, init_calls}
use Rattle.link_rules.specs.Marks.{live, exported}
use Rattle.link_rules.specs.Values.{part_bytes}
use Rattle.link_rules.specs.Output.{layout}
use Rattle.link_rules.specs.LinkOf.{asked_names}
use Rattle.shared_links.specs.link_worlds.Sound.{Shaped, IsShaped, Takes}
use Rattle.shared_links.proofs.link_worlds_lemmas.Live.{live_part, ref_listed, resolved}
use Rattle.shared_links.specs.output_module.Filled.{Reads, TakenBody}
use Rattle.shared_links.specs.output_module.Outputs.{IsCoded}
use Rattle.object_file.specs.Spellable.{IsSpellable}
use Rattle.shared_links.specs.link_facts.Facts.{IsFrom, IsReading, bytes_of}
use Rattle.shared_links.proofs.link_facts_lemmas.Refs.{refs_named}
use Rattle.shared_links.proofs.link_facts_lemmas.Parts.{Stood, as_function, as_segment, as_global, stood, made_behind, object_parts, of_some_object}
use Rattle.shared_links.proofs.link_facts_lemmas.Loosened.{part_by, IsChanged, changed_or_not, chunk_is, came, ref_came}
use Rattle.shared_links.proofs.link_runs_lemmas.LinksRun.{is_from}
use Rattle.shared_links.proofs.shared_laws_lemmas.Steps.{Fits, link_fits}
use Rattle.shared_links.proofs.Programs.{SoundLaw, BodiesLaw, coded, constants}
use Rattle.shared_links.proofs.Links.{SpellLaw}
use Rattle.shared_types.specs.Linked.{SharedLinkedBy}
use Rattle.shared_facts.specs.Facts.{SharedFactsHold}
use Rattle.shared_facts.proofs.Programs.{q, parts_are, symbol_in, sound, sound_exports, calls_call, has_entries}
use Rattle.shared_facts.proofs.Reading.{reading_at}
use Rattle.shared_facts.proofs.Windows.{in_range}

abbrev pub AddressesLaw : Type 0
AddressesLaw = (input : ℕ) (bytes : List ℕ) (object : Object) → IsObject input bytes object → All (ReadsAddresses bytes object) object.functions

shaped : TakenBody → (p : Program) (exports : List InputSymbol) (part : Part) → IsCoded p part → IsReading p part → IsShaped p part
shaped taken p exports part c reads =
    subst (Shaped part.named) (sym (body_again (part_bytes p part) c.body c.spelled))
    (λ x h. subst (λ ns. Takes ns x) (sym c.named)
    (taken p (layout Shared p (live p exports) exports) c.body c.stands (part_bytes p part) c.spelled c.on (λ y m. subst (λ ns. Reads ns y) c.named (reads c.body c.spelled y m)) x h))

source_is : (all : List InputSymbol) (b : Bool) (x : Part) → (part_by all b x).source ≡ x.source
source_is all true x = refl
source_is all false x = refl

module _ (taken : TakenBody) (sound_law : SoundLaw) (bodies_law : BodiesLaw) (addresses_law : AddressesLaw) (strict_law : StrictPartsStand) (stand_law : LoadedPartsStand) (plan : Plan) (files : List (List ℕ)) (all : List Candidate) (objects : List Object)
    (loaded : IsLoaded files all objects (map home_of all)) (from : (o : Object) → Has objects o → IsFrom files all o) (are : (o : Object) → Has objects o → IsSpellable o)
    (clear : clash_by plan.loose_calls (entries Shared objects) ≡ None) where
  abbrev p : Program
  p = program_of Shared plan files all objects

  abbrev strict : Program
  strict = q strict_law stand_law plan files all objects (map home_of all) loaded clear

  abbrev es : List InputSymbol
  es = entries Shared objects

  abbrev res : Object → Resolved
  res o = resolved_in Shared (uses_of Shared objects) plan.allow_undefined es objects o

  abbrev calls : List Ref
  calls = init_calls (map res objects)

  -- a reference of a part, before calls were loosened
  ref_before : (x : Part) → Has strict.parts x → (ref : Ref) → Has (refs (part_by es plan.loose_calls x)) ref
      → (r : Ref) × Has x.named (a_symbol r) × (r.place ≡ ref.place) × (is_kind GlobalVar r.entry ≡ is_kind GlobalVar ref.entry)
  ref_before x hx ref h =
      let c = ref_came strict refl (symbol_in strict_law stand_law plan files all objects (map home_of all) loaded clear) x ref h in
      let named = refs_named x c.0 c.1 in
      ⊎_elim
      (λ (d : IsChanged es plan.loose_calls c.0). (c.0, named, sym (ap (λ (w : Ref). w.place) d.is) ∙ ap (λ (w : Ref). w.place) c.2, sym (ap (λ (w : Ref). is_kind GlobalVar w.entry) d.is) ∙ ap (λ (w : Ref). is_kind GlobalVar w.entry) c.2))
      (λ same. (c.0, named, ap (λ (w : Ref). w.place) (sym same ∙ c.2), ap (λ (w : Ref). is_kind GlobalVar w.entry) (sym same ∙ c.2)))
      (changed_or_not es plan.loose_calls c.0)

  reads_in : (o : Object) → Has objects o → (x : Part) → Has strict.parts x → x.chunk.kind ≡ 0 → Stood all objects (res o) x → IsReading p (part_by es plan.loose_calls x)
  unfolding program_of
  reads_in o ho x hx z (as_function k f at e) =
      let c = from o ho in
      reading_at (uses_of Shared objects) plan.allow_undefined es objects o p all k f at c (sound_law o.input (bytes_of files c.candidate) o c.is)
      (all_has (ReadsAddresses (bytes_of files c.candidate) o) o.functions (addresses_law o.input (bytes_of files c.candidate) o c.is) f (has_at o.functions k f at))
      (part_by es plan.loose_calls x) (source_is es plan.loose_calls x ∙ ap (λ (w : Part). w.source) e)
      (λ ref m.
      let b = ref_before x hx ref (pick_has named_ref (part_by es plan.loose_calls x).named (a_symbol ref) ref m refl) in
      (b.0, subst (λ (w : Part). Has w.named (a_symbol b.0)) e b.1, b.2, b.3))
  reads_in o ho x hx z (as_segment k g at e) = absurd (let w : x.chunk.kind ≡ 1 = ap (λ (y : Part). y.chunk.kind) e in omega (arith, w, z))
  reads_in o ho x hx z (as_global k g at e) = absurd (let w : x.chunk.kind ≡ 2 = ap (λ (y : Part). y.chunk.kind) e in omega (arith, w, z))

  reads : (part : Part) → Has p.parts part → part.chunk.kind ≡ 0 → (part.chunk.input ≡ 0 → ⊥) → IsReading p part
  unfolding program_of
  reads part h z n =
      let x = came strict refl (symbol_in strict_law stand_law plan files all objects (map home_of all) loaded clear) part h in
      let c : x.0.chunk ≡ part.chunk = sym (chunk_is es plan.loose_calls x.0) ∙ ap (λ (w : Part). w.chunk) x.2 in
      subst (IsReading p) x.2
      (⊎_elim
      (λ a. absurd (n (sym (ap (λ (c : Chunk). c.input) c) ∙ (made_behind calls 0 (made Shared) x.0 a).2)))
      (λ a. let o = of_some_object all objects res (λ o. refl) calls objects x.0 a in reads_in o.0 o.1 x.0 x.1 (ap (λ (c : Chunk). c.kind) c ∙ z) (stood all objects (res o.0) x.0 o.2))
      (has_either (made_parts_from calls 0 (made Shared)) (object_parts all objects res (λ o. refl) calls objects) x.0 (subst (λ xs. Has xs x.0) (parts_are strict_law stand_law plan files all objects (map home_of all) loaded clear) x.1)))

  linked : (bytes : List ℕ) → Fits p (exported Shared p) bytes → SharedLinkedBy p (exported Shared p)
  linked bytes f =
      let x = exported Shared p in
      let s = sound strict_law stand_law plan files all objects (map home_of all) loaded clear in
      record {
        sound = s;
        exported = sound_exports strict_law stand_law plan files all objects (map home_of all) loaded clear;
        entries = has_entries strict_law stand_law plan files all objects (map home_of all) loaded clear x refl
            (λ part ref h r m. resolved p (live p x) ref f.resolved (ref_listed (live p x) part ref h r) ((s.refs part ref (live_part p x part h) r).known (ap is_nothing m)) m);
        shaped = λ part h k i. let l = live_part p x part h in shaped taken p x part (coded sound_law bodies_law strict_law plan files all objects (map home_of all) loaded from are part l k i) (reads part l k i);
        calls = λ part ref h z r. calls_call strict_law stand_law plan files all objects (map home_of all) loaded clear part ref (live_part p x part h) z r;
        constants = λ part h. constants sound_law bodies_law strict_law plan files all objects (map home_of all) loaded from are part (live_part p x part h);
        resolved = f.resolved;
        in_range = in_range p x s.apart f.references;
      }

clear_in : (plan : Plan) (files : List (List ℕ)) (all : List Candidate) (objects : List Object)
    → clash_by (program_of Shared plan files all objects).plan.loose_calls (program_of Shared plan files all objects).entries ≡ None → clash_by plan.loose_calls (entries Shared objects) ≡ None
unfolding program_of
clear_in plan files all objects e = e

pub facts_hold : TakenBody → SoundLaw → SpellLaw → BodiesLaw → AddressesLaw → StrictPartsStand → LoadedPartsStand → LoadedAreSound → SharedFactsHold
facts_hold taken sound_law spell_law bodies_law addresses_law strict_law stand_law loads plan files bytes all objects long shared c l e =
    let loaded = (loads Shared plan files (asked_names plan) all objects long c l).1 in
    let from = is_from plan files all objects c loaded in
    let are : (o : Object) → Has objects o → IsSpellable o = λ o h. spell_law o.input (bytes_of files (from o h).candidate) o (from o h).is in
    let f = link_fits plan files bytes all objects shared c l e in
    linked taken sound_law bodies_law addresses_law strict_law stand_law plan files all objects loaded from are (clear_in plan files all objects f.clear) bytes f.fits
