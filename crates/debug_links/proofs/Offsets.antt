-- The windows of debug sections tell where live functions stand in the output.
use Rattle.std.proofs.Common.{◌≡◌, ◌∙◌, ℕ, zero, suc, ◌+◌, true, List, [], ◌∷◌, ◌++◌, length, map, slice_get, slice_index_or, Contains, Option, Some, None, Ok, refl, sym, ap, subst, arith}
use Rattle.std.specs.Prelude.{if◌then◌else◌, unwrap_or}
use Rattle.list_places.specs.Has.{Has}
use Rattle.list_places.proofs.Lists.{has_at, all_has}
use Rattle.object_file.specs.wasm_types.declared.const_expr.ConstExpr.{ConstExpr}
use Rattle.object_file.specs.wasm_types.declared.const_expr.ConstExpr.TheVariants as constants
use Rattle.object_file.specs.reloc_section.declared.entry.Reloc.{Reloc}
use Rattle.object_file.specs.linking_section.declared.symbol.Symbol.{Symbol}
use Rattle.object_file.specs.object_parts.declared.parts.GlobalDef.{GlobalDef}
use Rattle.object_file.specs.declared.object.Object.{Object}
use Rattle.object_file.specs.ObjectOf.{IsObject}
use Rattle.object_file.specs.Spellable.{IsSpellable, IsNumber}
use Rattle.object_file.proofs.Read.{object_found}
use Rattle.valid_links.specs.link_runs.link_program.made_symbols.declared.mode.Mode.TheVariants.{Plain}
use Rattle.valid_links.specs.link_runs.link_program.link_plan.declared.plan.Plan.{Plan}
use Rattle.valid_links.specs.link_runs.link_program.round_rules.Rounds.{Candidate, load}
use Rattle.valid_links.specs.link_runs.link_program.name_rules.Entries.{InputSymbol, entries, entry_in, entries_from, symbols_of}
use Rattle.valid_links.specs.link_runs.link_program.name_rules.Meanings.{Resolved, resolved_in, uses_of, resolve}
use Rattle.valid_links.specs.link_runs.link_program.name_rules.Cases.{clash_by}
use Rattle.valid_links.specs.link_runs.link_program.link_rules.Candidates.{candidates_of}
use Rattle.valid_links.specs.link_runs.link_program.link_rules.Program.{Program, Part, program_of}
use Rattle.valid_links.specs.link_runs.link_program.link_rules.Marks.{exported, live}
use Rattle.valid_links.specs.link_runs.link_program.link_rules.LinkOf.{asked_names, the_readers, link_by, plain_link}
use Rattle.valid_links.specs.link_runs.link_program.Loaded.{home_of}
use Rattle.valid_links.specs.link_runs.link_inputs.Loaded.{LoadedAreSound}
use Rattle.valid_links.specs.link_runs.link_facts.Facts.{IsFrom, Facts, FactsHold, bytes_of}
use Rattle.valid_links.specs.link_runs.link_facts.link_worlds.Worlds.{layout_of}
use Rattle.valid_links.specs.link_runs.link_facts.link_worlds.Sound.{IsConstant}
use Rattle.valid_links.proofs.link_runs_lemmas.link_facts_lemmas.Steps.{is_link, is_linked, is_marked}
use Rattle.valid_links.proofs.link_runs_lemmas.link_worlds_lemmas.Live.{live_part}
use Rattle.debug_customs.specs.debug_rules.Faults.{Debug, debugs}
use Rattle.debug_customs.specs.debug_rules.Joined.{Places, place_at, tail_of, joined}
use Rattle.debug_tails.specs.link_debug.Places.{body_place, link_inputs, link_places}
use Rattle.debug_tails.specs.link_debug.Offsets.{AreCoded, own_part, IsSameFrom, OffsetsName, DroppedHaveNone, LiveHavePlaces}
use Rattle.debug_tails.specs.Tails.{live_tail, laid_tail, program_tail, plain_tail}
use Rattle.debug_out.proofs.Stands.{all_stand}
use Rattle.debug_links.specs.Offsets.{Tells, OffsetsStay}
use Rattle.debug_links.proofs.Candidates.{bind_ok, unless_ok, IsRead, loaded_read}
use Rattle.debug_links.proofs.Keeps.{tail_of as tail_behind, loads_of, tail_by}
use Rattle.debug_links.proofs.Windows.{holds_place}
use Rattle.debug_links.proofs.Symbols.{are_named}

-- ---- lists

index_map : {A B : Type 0} (f : A → B) (xs : List A) (k : ℕ) (x : A) (other : B) → slice_get xs k ≡ Some x → slice_index_or (map f xs) k other ≡ f x
index_map f [] k x other e = absurd cc
index_map f (y ∷ ys) zero x other e = let same : y ≡ x = cc in ap f same
index_map f (y ∷ ys) (suc k) x other e = index_map f ys k x other e

get_map : {A B : Type 0} (f : A → B) (xs : List A) (k : ℕ) (x : A) → slice_get xs k ≡ Some x → slice_get (map f xs) k ≡ Some (f x)
get_map f [] k x e = absurd cc
get_map f (y ∷ ys) zero x e = let same : y ≡ x = cc in ap (λ z. Some (f z)) same
get_map f (y ∷ ys) (suc k) x e = get_map f ys k x e

-- a symbol of an object has the object's number
input_of : (objects : List Object) (o : Object) (place : ℕ) (ss : List Symbol) (k : ℕ) (e : InputSymbol) → slice_get (entries_from objects o place ss) k ≡ Some e → e.input ≡ o.input
input_of objects o place [] k e is = absurd cc
input_of objects o place (s ∷ ss) zero e is = let same : entry_in objects o place s ≡ e = cc in sym (ap (λ (x : InputSymbol). x.input) same)
input_of objects o place (s ∷ ss) (suc k) e is = input_of objects o (place + 1) ss k e is

-- ---- what is asked of a program

is_constant : (e : ConstExpr) → IsNumber e → IsConstant e
is_constant (constants.I32 n) is = tt
is_constant (constants.I64 n) is = tt
is_constant (constants.Get g) is = is

module _ (spell_law : (input : ℕ) (bytes : List ℕ) (object : Object) → IsObject input bytes object → IsSpellable object) (loads : LoadedAreSound) (facts : FactsHold)
    (plan : Plan) (files : List (List ℕ)) (bytes : List ℕ) (all : List Candidate) (objects : List Object) (long : length files ≡ unwrap_or plan.make_case (length plan.inputs))
    (found : candidates_of the_readers plan files ≡ Ok all) (loaded : load Plain (asked_names plan) all ≡ Ok objects) where
  read : (o : Object) → Has objects o → IsRead files all o
  read = loaded_read files plan all objects found Plain (asked_names plan) loaded

  from : (o : Object) → Has objects o → IsFrom files all o
  from o h = let r = read o h in record { candidate = r.0; found = r.1; is = object_found o.input (bytes_of files r.0) o r.2 }

  begins_constant : (o : Object) → Has objects o → (g : GlobalDef) → Has o.globals g → IsConstant g.value
  begins_constant o h g m =
      let f = from o h in
      is_constant g.value (all_has (λ (g : GlobalDef). IsNumber g.value) o.globals (spell_law o.input (bytes_of files f.candidate) o f.is).globals g m)

  abbrev p : Program
  p = program_of Plain plan files all objects

  abbrev x : List InputSymbol
  x = exported Plain p

  facts_of : clash_by p.plan.loose_calls p.entries ≡ None → Facts p x
  unfolding program_of
  facts_of clear = facts plan files all objects (map home_of all) (record { loaded = (loads Plain plan files (asked_names plan) all objects long found loaded).1; each = from; constants = begins_constant }) clear

  pub coded : link_by Plain the_readers plan files ≡ Ok bytes → AreCoded p x
  coded e =
      let f = facts_of (is_linked p bytes (is_link plan files bytes all objects found loaded e)).0 in
      record { sound = f.sound; coded = λ part h. f.coded part (live_part p x part h) }

  -- ---- what debug sections name

  abbrev places : Places
  places = link_places Plain p (live p x) x (layout_of p x)

  resolved_at : (k : ℕ) (o : Object) → slice_get objects k ≡ Some o → (r : Resolved) × (slice_get p.resolved k ≡ Some r) × (r.symbols ≡ symbols_of objects o)
  unfolding program_of resolve
  resolved_at k o at =
      let f = resolved_in Plain (uses_of Plain objects) plan.allow_undefined (entries Plain objects) objects in
      (f o, get_map f objects k o at, refl)

  -- the place of a symbol's own function
  body_at : (k i : ℕ) (o : Object) (e : InputSymbol) → slice_get objects k ≡ Some o → slice_get (symbols_of objects o) i ≡ Some e
      → place_at places.bodies k i ≡ body_place Plain p (live p x) x (layout_of p x) e
  unfolding link_places
  body_at k i o e at there =
      let body = body_place Plain p (live p x) x (layout_of p x) in
      let r = resolved_at k o at in
      let row = index_map (λ (r : Resolved). map body r.symbols) p.resolved k r.0 [] r.1 ∙ ap (map body) r.2 in
      ap (λ (bs : List (Option ℕ)). slice_index_or bs i None) row ∙ index_map body (symbols_of objects o) i e None there

  of_object : (k i : ℕ) (o : Object) (e : InputSymbol) → slice_get objects k ≡ Some o → slice_get (symbols_of objects o) i ≡ Some e → e.input ≡ 0 → ⊥
  of_object k i o e at there none =
      let some = (read o (has_at objects k o at)).3 in
      let same = input_of objects o 0 o.symbols i e there in
      absurd (omega (arith, some, same, none))

  module _ (name : OffsetsName) (dropped : DroppedHaveNone) (placed : LiveHavePlaces) (are : AreCoded p x) (sections : List Debug) (judged : debugs 0 (link_inputs files all objects) ≡ Ok sections) where
    some_is : (a b : Part) → Some a ≡ Some b → a ≡ b
    some_is a b e = cc

    tells : (d : Debug) (r : Reloc) (e : InputSymbol) → Contains sections d → Contains d.relocs r → r.kind ≡ 8 → (e.input ≡ 0 → ⊥) → place_at places.bodies d.object r.index ≡ body_place Plain p (live p x) x (layout_of p x) e
        → Tells p x bytes (bytes ++ tail_of sections places) sections d r (own_part p x e)
    tells d r e at in_d kind some body = by (own_part p x e) refl
      where
        by : (o : Option Part) → own_part p x e ≡ o → Tells p x bytes (bytes ++ tail_of sections places) sections d r o
        by (Some part) is =
            let n = placed p x are e part some is in
            let same = name p x are e n.0 n.1 in
            let one = some_is same.0 part (sym same.1 ∙ is) in (
              n.0,
              subst (λ q. IsSameFrom p x q n.0) one same.2,
              holds_place bytes sections places d r (Some n.0) (all_stand 0 (link_inputs files all objects) sections judged) at in_d kind (body ∙ n.1),
            )
        by None is = holds_place bytes sections places d r None (all_stand 0 (link_inputs files all objects) sections judged) at in_d kind (body ∙ dropped p x are e is)

-- ---- the tail

laid : (p : Program) (all : List Candidate) (exports : List InputSymbol) (len : ℕ) (tail : List ℕ) → p.plan.keep_debug ≡ true → program_tail Plain p all len ≡ Ok tail
    → joined len (link_inputs p.files all p.objects) (link_places Plain p (live p (exported Plain p)) (exported Plain p) (layout_of p (exported Plain p))) ≡ Ok tail
unfolding program_tail laid_tail
laid p all exports len tail asked e =
    sym (ap (λ b. if b then live_tail Plain p all (live p (exported Plain p)) (exported Plain p) len else Ok []) asked) ∙ e

joined_is : (len : ℕ) (inputs : _) (places : Places) (tail : List ℕ) → joined len inputs places ≡ Ok tail → (sections : List Debug) × (debugs 0 inputs ≡ Ok sections) × (tail_of sections places ≡ tail)
unfolding joined
joined_is len inputs places tail e =
    let a = bind_ok (debugs 0 inputs) _ tail e in
    (a.0, a.1, unless_ok _ (tail_of a.0 places) tail a.2)

-- of a plan with the word
joined_of : (plan : Plan) (files : List (List ℕ)) (all : List Candidate) (objects : List Object) (len : ℕ) (tail : List ℕ) → plan.keep_debug ≡ true
    → program_tail Plain (program_of Plain plan files all objects) all len ≡ Ok tail
    → (let p = program_of Plain plan files all objects in
    joined len (link_inputs files all objects) (link_places Plain p (live p (exported Plain p)) (exported Plain p) (layout_of p (exported Plain p))) ≡ Ok tail)
unfolding program_of
joined_of plan files all objects len tail asked e = laid (program_of Plain plan files all objects) all (exported Plain (program_of Plain plan files all objects)) len tail asked e

pub offsets_law : ((input : ℕ) (bytes : List ℕ) (object : Object) → IsObject input bytes object → IsSpellable object) → LoadedAreSound → FactsHold → OffsetsName → DroppedHaveNone → LiveHavePlaces → OffsetsStay
offsets_law spell loads facts name dropped placed plan files bytes whole long plain asked given w =
    let e = sym (plain_link plan files plain) ∙ given in
    let l = loads_of Plain plan files bytes e in
    let all = l.0 in
    let objects = l.1 in
    let p = program_of Plain plan files all objects in
    let x = exported Plain p in
    let t = tail_behind plan files bytes whole w in
    let told = sym (plain_tail plan files (length bytes) plain ∙ tail_by Plain plan files all objects (length bytes) l.2 l.3) ∙ t.1 in
    let j = joined_is (length bytes) (link_inputs files all objects) (places spell loads facts plan files bytes all objects long l.2 l.3) t.0 (joined_of plan files all objects (length bytes) t.0 asked told) in
    let are = coded spell loads facts plan files bytes all objects long l.2 l.3 e in
    let is : bytes ++ tail_of j.0 (places spell loads facts plan files bytes all objects long l.2 l.3) ≡ whole = ap (λ z. bytes ++ z) j.2 ∙ t.2 in
    record {
      all = all;
      objects = objects;
      found = l.2;
      loaded = l.3;
      sections = j.0;
      judged = j.1;
      output = (is_marked p x bytes (is_linked p bytes (is_link plan files bytes all objects l.2 l.3 e)).1).1;
      told = λ d at r in_d kind.
          let n = are_named files all objects j.0 j.1 d at r in_d in (
            n.0,
            n.1,
            n.2,
            n.3,
            subst (λ z. Tells p x bytes z j.0 d r (own_part p x n.1)) is
                (tells spell loads facts plan files bytes all objects long l.2 l.3 name dropped placed are j.0 j.1 d r n.1 at in_d kind
                (of_object spell loads facts plan files bytes all objects long l.2 l.3 d.object r.index n.0 n.1 n.2 n.3)
                (body_at spell loads facts plan files bytes all objects long l.2 l.3 d.object r.index n.0 n.1 n.2 n.3)),
          );
    }
