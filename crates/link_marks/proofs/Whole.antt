-- What is unresolved, by the data and by the definition.
use Rattle.std.proofs.Common.{◌≡◌, ℕ, ◌+◌, ◌==◌, nat_lt, not, Bool, true, false, cond, List, [], ◌∷◌, ◌++◌, get_or, map, filter, flat_map, find, slice_get, Option, Some, None, is_some, option_map, option_and_then, refl, sym, ap, ◌∙◌, subst, arith, inl, inr, All}
use Rattle.std.specs.List.{AllByRecursion, AllZip, range_with_len, list_any}
use Rattle.std.proofs.lemmas.Bool.{false_from_ne_true}
use Rattle.std.proofs.lemmas.List.Elements.{recursion_from_All}
use Rattle.std.proofs.lemmas.Option.{same_Some, none-some}
use Rattle.link_program.specs.wl_base.Choice.{first_some, given}
use Rattle.link_program.specs.wl_base.Names.{number_of}
use Rattle.link_program.specs.wl_base.declared.fault.Fault.{Fault}
use Rattle.link_program.specs.wl_base.declared.fault.Fault.TheVariants.{Unresolved}
use Rattle.link_program.specs.object_file.declared.object.Object.{Object}
use Rattle.link_program.specs.made_symbols.declared.mode.Mode.{Mode}
use Rattle.link_program.specs.link_rules.ModeOf.{mode_of}
use Rattle.link_program.specs.mark_bits.Words.{bit_of}
use Rattle.link_program.specs.name_rules.Entries.{InputSymbol, name_of, is_named, named, entries, symbols_of}
use Rattle.link_program.specs.name_rules.Meanings.{Resolved, winner, least, lesser, definitions, entry_rank, resolve, resolved_in, uses_of}
use Rattle.link_program.specs.name_meanings.Means.{Means, row_of}
use Rattle.link_program.specs.name_entries.View.{WinnersAre}
use Rattle.name_unresolved.specs.Refers as by_object
use Rattle.name_unresolved.specs.Least.{least_by}
use Rattle.name_unresolved.specs.Unresolved.{is_open, live_from, first_unresolved_of}
use Rattle.link_program.specs.link_rules.Program.{Program, Part, winners_of, is_winner, is_that, parts_of, loose_parts}
use Rattle.link_program.specs.link_rules.Marks as marks
use Rattle.link_program.specs.link_rules.Marks.{refs_of, all_symbols, demanded, missing, unresolved}
use Rattle.link_program.specs.declared.program.Program.{Program as Data}
use Rattle.link_program.specs.declared.error.LinkError.{LinkError}
use Rattle.link_program.specs.declared.error.LinkError.TheVariants.{Refused, OutOfMemory}
use Rattle.link_program.specs.Answers.{Stops}
use Rattle.link_program.specs.Program.{IsProgram}
use Rattle.link_marks.specs.declared.live.Live.{Live}
use Rattle.link_marks.specs.Alive.{IsLive}
use Rattle.link_marks.specs.Open.{rank_seen, missing_seen, first_missing, open_fault}
use Rattle.link_marks.proofs.Columns.{name_at, same_name}
use Rattle.link_marks.proofs.Mapped.{map_agree, Some_map}
use Rattle.link_marks.proofs.Members.{In, in_filter, from_filter, any_in, in_any, all_in}
use Rattle.link_marks.proofs.Held.{HeldOf, numbered, entries_held}
use Rattle.link_marks.proofs.Leasts.{filter_is, entry_itself}
use Rattle.link_marks.proofs.Known.{IsObject, are_objects}
use Rattle.link_marks.proofs.Opened.{Fine, Agrees, parts_agree, loose_agree, open_is}
use Rattle.link_marks.proofs.Marked.{picked_by, numbers_pick}

-- ---- names without a winner

lesser_in : (e f w : InputSymbol) (es : List InputSymbol) → In f es → (b : Bool) → cond b (Some f) (Some e) ≡ Some w → In w (e ∷ es)
lesser_in e f w es h true k = inr (subst (λ x. In x es) (same_Some f w k) h)
lesser_in e f w es h false k = inl (same_Some e w k)

least_by_cases : (e w : InputSymbol) (es : List InputSymbol) → ((f : InputSymbol) → least es ≡ Some f → In f es) → (o : Option InputSymbol) → least es ≡ o → lesser e o ≡ Some w → In w (e ∷ es)
least_by_cases e w es again None is k = inl (same_Some e w k)
least_by_cases e w es again (Some f) is k = lesser_in e f w es (again f is) (nat_lt (entry_rank f) (entry_rank e)) k

least_in : (es : List InputSymbol) (w : InputSymbol) → least es ≡ Some w → In w es
least_in [] w h = absurd (none-some w h)
least_in (e ∷ es) w h = least_by_cases e w es (least_in es) (least es) refl h

has_winner : (all : List InputSymbol) (name : List ℕ) → is_some (winner all name) ≡ list_any (is_named name) (winners_of all)
unfolding winners_of
has_winner all name = by (winner all name) refl
  where
    by : (o : Option InputSymbol) → winner all name ≡ o → is_some o ≡ list_any (is_named name) (filter (is_winner all) all)
    by None is = sym (false_from_ne_true (list_any (is_named name) (filter (is_winner all) all)) (λ h.
        let found = any_in (is_named name) (filter (is_winner all) all) h in
        let e = found.0 in
        let parts = from_filter (is_winner all) e all found.1 in
        let same : name_of e ≡ name = same_name (name_of e) name found.2 in
        no (sym parts.1 ∙ ap (λ o. is_that e o) (ap (winner all) same ∙ is))))
      where
        no : true ≡ false → ⊥
        no e = cc
    by (Some w) is =
        let among = from_filter (λ (d : InputSymbol). d.defines) w (named all name) (least_in (definitions all name) w is) in
        let here = from_filter (is_named name) w all among.0 in
        let same : name_of w ≡ name = same_name (name_of w) name here.1 in
        sym (in_any (is_named name) w (filter (is_winner all) all)
        (in_filter (is_winner all) w all here.0 (ap (λ o. is_that w o) (ap (winner all) same ∙ is) ∙ entry_itself w)) here.1)

some_map : {A B : Type 0} (f : A → B) (o : Option A) → is_some (option_map f o) ≡ is_some o
some_map f None = refl
some_map f (Some x) = refl

rank_is : (names : List (List ℕ)) (all : List InputSymbol) (ranks : List (Option ℕ)) (name : List ℕ) → WinnersAre names all ranks → All (HeldOf names) all
    → is_some (rank_seen names ranks name) ≡ list_any (is_named name) (winners_of all)
rank_is names all ranks name are held = by (number_of names name) refl
  where
    by : (o : Option ℕ) → number_of names name ≡ o → is_some (option_and_then (λ n. get_or ranks n None) o) ≡ list_any (is_named name) (winners_of all)
    by (Some n) is = ap is_some (are n name (name_at names name n is)) ∙ some_map entry_rank (winner all name) ∙ has_winner all name
    by None is = nobody (winner all name) refl ∙ has_winner all name
      where
        nobody : (o : Option InputSymbol) → winner all name ≡ o → false ≡ is_some o
        nobody None h = refl
        nobody (Some w) h =
            let among = from_filter (λ (d : InputSymbol). d.defines) w (named all name) (least_in (definitions all name) w h) in
            let here = from_filter (is_named name) w all among.0 in
            let same : name_of w ≡ name = same_name (name_of w) name here.1 in
            let n = numbered names (name_of w) (all_in (HeldOf names) w all (recursion_from_All (HeldOf names) all held) here.0) in
            absurd (none-some n.0 (sym is ∙ ap (number_of names) (sym same) ∙ n.1))

pub missing_are : (d : Data) (p : Program) → IsProgram d p → first_missing d.names.now.names d.ranks.now (demanded d.plan.now) ≡ first_some (map (missing p) (demanded p.plan))
missing_are d p is =
    let names = d.names.now.names in
    let held : All (HeldOf names) p.entries = subst (All (HeldOf names)) (sym is.entries) (entries_held (mode_of p.plan) p.objects d.names.now is.numbers) in
    ap (λ plan. first_missing names d.ranks.now (demanded plan)) is.plan
    ∙ ap first_some (map_agree (missing_seen names d.ranks.now) (missing p) (λ name.
    ap (λ b. given (not b) (Unresolved name 0)) (rank_is names p.entries d.ranks.now name is.ranks held ∙ ap (list_any (is_named name)) (sym is.winners_are))) (demanded p.plan))

-- ---- the live chunks

module _ (words : List ℕ) where
  abbrev test : ℕ → Bool
  test n = bit_of words n == 1

  chunks_live : (all : List Part) (n : ℕ) (ps : List Part) → live_from words n (map (λ (part : Part). part.chunk) ps) ≡ map (λ (part : Part). part.chunk) (picked_by test all n ps)
  chunks_live all n [] = refl
  chunks_live all n (part ∷ ps) = by (test n) (chunks_live all (n + 1) ps)
    where
      by : (b : Bool) → live_from words (n + 1) (map (λ (part : Part). part.chunk) ps) ≡ map (λ (part : Part). part.chunk) (picked_by test all (n + 1) ps)
          → cond b (part.chunk ∷ live_from words (n + 1) (map (λ (part : Part). part.chunk) ps)) (live_from words (n + 1) (map (λ (part : Part). part.chunk) ps))
          ≡ map (λ (part : Part). part.chunk) (cond b (part ∷ picked_by test all (n + 1) ps) (picked_by test all (n + 1) ps))
      by true h = ap (λ l. part.chunk ∷ l) h
      by false h = h

  one_picked : (P : Part → Type 0) (part : Part) (rest : List Part) → P part → AllByRecursion P rest → (b : Bool) → AllByRecursion P (cond b (part ∷ rest) rest)
  one_picked P part rest h all true = (h, all)
  one_picked P part rest h all false = all

  picked_all : (P : Part → Type 0) (all : List Part) (n : ℕ) (ps : List Part) → AllByRecursion P ps → AllByRecursion P (picked_by test all n ps)
  picked_all P all n [] h = tt
  picked_all P all n (part ∷ ps) h = one_picked P part (picked_by test all (n + 1) ps) h.0 (picked_all P all (n + 1) ps h.1) (test n)

live_are : (p : Program) (l : Live) (parts : List Part) → IsLive p l parts → parts ≡ picked_by (test l.set.words) p.parts 0 p.parts
live_are p l parts is =
    Some_map parts (picked_by (test l.set.words) p.parts 0 p.parts)
    (sym is.are.are ∙ ap (map (slice_get p.parts)) (is.numbers ∙ ap (λ (n : ℕ). filter (test l.set.words) (range_with_len 0 n)) is.count)
    ∙ numbers_pick (test l.set.words) p.parts 0 p.parts (λ i below. ap (slice_get p.parts) (let e : 0 + i ≡ i = omega arith in e)))

-- ---- open symbols

flat_resolved : (mode : Mode) (allow : Bool) (all : List InputSymbol) (objects os : List Object)
    → flat_map (λ (r : Resolved). r.symbols) (map (resolved_in mode (uses_of mode objects) allow all objects) os) ≡ flat_map (symbols_of objects) os
flat_resolved mode allow all objects [] = refl
flat_resolved mode allow all objects (o ∷ os) = ap (λ l. symbols_of objects o ++ l) (flat_resolved mode allow all objects os)

pub resolved_are : (d : Data) (p : Program) → IsProgram d p → p.resolved ≡ map (resolved_in (mode_of p.plan) (uses_of (mode_of p.plan) p.objects) p.plan.allow_undefined (entries (mode_of p.plan) p.objects) p.objects) p.objects
unfolding resolve
resolved_are d p is = is.resolved ∙ ap (λ all. map (resolved_in (mode_of p.plan) (uses_of (mode_of p.plan) p.objects) p.plan.allow_undefined all p.objects) p.objects) is.entries

pub fine_from : (mode : Mode) (allow : Bool) (objects : List Object) (rows : _) (imports : _) (os : List Object) → ((o : Object) → In o os → In o objects) → AllByRecursion (IsObject objects) os
    → AllByRecursion (λ (x : Resolved). AllZip (Means imports) (row_of rows x.object.input) x.meanings) (map (resolved_in mode (uses_of mode objects) allow (entries mode objects) objects) os)
    → AllByRecursion (Fine mode allow objects rows imports) os
fine_from mode allow objects rows imports [] among are answered = tt
fine_from mode allow objects rows imports (o ∷ os) among are answered =
    (record { is = are.0; answered = answered.0; among = among o (inl refl) }, fine_from mode allow objects rows imports os (λ x h. among x (inr h)) are.1 answered.1)

pub open_are : (d : Data) (p : Program) (l : Live) (parts : List Part) → IsProgram d p → IsLive p l parts
    → open_fault d.objects.now (first_unresolved_of d.objects.now d.resolution.now.rows l.set.words d.tables.now.chunks)
    ≡ option_map (λ (e : InputSymbol). Unresolved (name_of e) e.input) (find (marks.is_open (refs_of parts)) (all_symbols p))
unfolding first_unresolved_of
open_are d p l parts is live =
    let mode = mode_of p.plan in
    let allow = p.plan.allow_undefined in
    let objects = p.objects in
    let rows = d.resolution.now.rows in
    let imports = d.resolution.now.imports in
    let resolved = resolved_are d p is in
    let fine : AllByRecursion (Fine mode allow objects rows imports) objects =
    fine_from mode allow objects rows imports objects (λ o h. h) (recursion_from_All (IsObject objects) objects (are_objects objects is.rise))
    (subst (AllByRecursion (λ (x : Resolved). AllZip (Means imports) (row_of rows x.object.input) x.meanings)) resolved (recursion_from_All _ p.resolved is.resolution.meanings)) in
    let agree : AllByRecursion (Agrees mode allow objects rows imports) p.parts =
    subst (AllByRecursion (Agrees mode allow objects rows imports)) (sym (is.parts_are.1 ∙ ap (λ rs. loose_parts p.plan.loose_calls p.entries (parts_of mode is.parts_are.0 objects rs)) resolved))
    (loose_agree mode allow objects rows imports p.entries p.plan.loose_calls _ (parts_agree mode allow objects rows imports fine is.parts_are.0)) in
    let parts_is = live_are p l parts live in
    let some_agree : AllByRecursion (Agrees mode allow objects rows imports) parts = subst (AllByRecursion (Agrees mode allow objects rows imports)) (sym parts_is) (picked_all l.set.words (Agrees mode allow objects rows imports) p.parts 0 p.parts agree) in
    let chunks : live_from l.set.words 0 d.tables.now.chunks ≡ map (λ (part : Part). part.chunk) parts =
    ap (live_from l.set.words 0) is.tables.chunks ∙ chunks_live l.set.words p.parts 0 p.parts ∙ ap (map (λ (part : Part). part.chunk)) (sym parts_is) in
    ap (λ os. open_fault os (least_by Some (filter (is_open rows) (flat_map (by_object.refers os) (live_from l.set.words 0 d.tables.now.chunks))))) is.objects
    ∙ ap (λ cs. open_fault objects (least_by Some (filter (is_open rows) (flat_map (by_object.refers objects) cs)))) chunks
    ∙ ap (open_fault objects) (filter_is Some (is_open rows) (flat_map (by_object.refers objects) (map (λ (part : Part). part.chunk) parts)))
    ∙ open_is mode allow objects rows imports is.rise parts some_agree
    ∙ ap (λ es. option_map (λ (e : InputSymbol). Unresolved (name_of e) e.input) (find (marks.is_open (refs_of parts)) es))
    (sym (ap (flat_map (λ (r : Resolved). r.symbols)) resolved ∙ flat_resolved mode allow (entries mode objects) objects objects))

-- ---- both

two : (o : Option Fault) → first_some (o ∷ []) ≡ o
two None = refl
two (Some f) = refl

-- a name without a winner comes first
pub missing_first : (d : Data) (p : Program) (parts : List Part) (fault : Fault) → IsProgram d p → Some fault ≡ first_missing d.names.now.names d.ranks.now (demanded d.plan.now) → Some fault ≡ unresolved p parts
unfolding unresolved
missing_first d p parts fault is told =
    ap (λ o. first_some (o ∷ option_map (λ (e : InputSymbol). Unresolved (name_of e) e.input) (find (marks.is_open (refs_of parts)) (all_symbols p)) ∷ [])) (told ∙ missing_are d p is)

-- an error that stops at it
pub missing_stops : (d : Data) (p : Program) (parts : List Part) (o : Option Fault) (e x : LinkError) → x ≡ e → IsProgram d p → Stops e o
    → o ≡ first_missing d.names.now.names d.ranks.now (demanded d.plan.now) → Stops x (unresolved p parts)
missing_stops d p parts o e x same is stops told = subst (λ x. Stops x (unresolved p parts)) (sym same) (by e stops)
  where
    by : (e : LinkError) → Stops e o → Stops e (unresolved p parts)
    by (Refused fault) stops = sym (missing_first d p parts fault is (sym stops ∙ told))
    by OutOfMemory stops = tt

-- and where there is none the open symbol
pub open_next : (d : Data) (p : Program) (l : Live) (parts : List Part) (fault : Option Fault) → IsProgram d p → IsLive p l parts
    → None ≡ first_missing d.names.now.names d.ranks.now (demanded d.plan.now)
    → fault ≡ open_fault d.objects.now (first_unresolved_of d.objects.now d.resolution.now.rows l.set.words d.tables.now.chunks) → fault ≡ unresolved p parts
unfolding unresolved
open_next d p l parts fault is live none told =
    told ∙ open_are d p l parts is live ∙ sym (two (option_map (λ (e : InputSymbol). Unresolved (name_of e) e.input) (find (marks.is_open (refs_of parts)) (all_symbols p))))
    ∙ ap (λ o. first_some (o ∷ option_map (λ (e : InputSymbol). Unresolved (name_of e) e.input) (find (marks.is_open (refs_of parts)) (all_symbols p)) ∷ [])) (none ∙ missing_are d p is)
