-- Exports and unresolved names of two programs that are one but for places.
use Rattle.std.proofs.Common.{◌≡◌, ℕ, Bool, true, false, ◌&&◌, ◌||◌, not, cond, List, [], ◌∷◌, ◌++◌, map, filter, refl, sym, ap, ◌∙◌}
use Rattle.std.specs.Prelude.{Option, Some, None, option_map, find, All, if◌then◌else◌, bytes_eq}
use Rattle.std.specs.List.{list_any}
use Rattle.std.proofs.lemmas.List.{map-append}
use Rattle.std.proofs.lemmas.List.Elements.{All-head, All-tail}
use Rattle.object_file.specs.wl_base.Choice.{first_some, given, has_name}
use Rattle.object_file.specs.wl_base.declared.fault.Fault.TheVariants.{Unresolved}
use Rattle.object_file.specs.linking_section.Flags.{has_bit}
use Rattle.made_symbols.specs.declared.mode.Mode.TheVariants.{Plain}
use Rattle.name_rules.specs.Entries.{InputSymbol, is_named, name_of, same_entry}
use Rattle.name_rules.specs.Meanings.{Meaning, here, imported, null, nothing, is_nothing}
use Rattle.mark_bits.specs.declared.chunk.Chunk.{Chunk}
use Rattle.link_rules.specs.Program.{Program, Part, Ref}
use Rattle.link_rules.specs.Marks.{demanded, is_exported_by, exported, export_name, Given, memory_name, given_memory, given_names, repeated_by, first_repeat, repeated_export, missing, is_open, all_symbols, unresolved, refs_of}
use Rattle.partial_rules.specs.Alike.{AlikeWords, AlikeWinners}
use Rattle.partial_rules.specs.Moving.{Moving, IsMoving, moved_meaning, AlikeParts}
use Rattle.partial_rules.proofs.Lists.{filter_moved, map_map, map_where, map_same, any_map, filter_all}
use Rattle.partial_rules.proofs.AlikeRefs.{any_refs}

module _ (m : Moving) (C : Chunk → Type 0) (K : InputSymbol → Type 0) (is : IsMoving m C K) (p q : Program) where
  -- ---- exports

  module _ (words : AlikeWords p q) (winners : AlikeWinners m K p q) where
    exported_alike : (e : InputSymbol) → K e → is_exported_by q.plan (m.entry e) ≡ is_exported_by p.plan e
    exported_alike e k = λ i.
        has_name (words.asked i ++ words.asked_if i) (is.entry_name e k i)
        || (not (is.entry_made e k i) && (has_bit 0x20 (is.entry_flags e k i) || (words.dynamic i && not (has_bit 0x04 (is.entry_flags e k i)))))

    pub exports_are : exported Plain q ≡ map m.entry (exported Plain p)
    unfolding exported
    exports_are =
        ap (filter (is_exported_by q.plan)) winners.are
        ∙ filter_moved m.entry (is_exported_by p.plan) (is_exported_by q.plan) K exported_alike p.winners winners.held

    pub exports_held : All K (exported Plain p)
    unfolding exported
    exports_held = filter_all K (is_exported_by p.plan) p.winners winners.held

    pub export_names : All (λ e. export_name q (m.entry e) ≡ export_name p e) (exported Plain p)
    unfolding exported
    export_names = filter_all (λ e. export_name q (m.entry e) ≡ export_name p e) (is_exported_by p.plan) p.winners winners.names

    -- ---- repeated exports

    abbrev names_of : List Given → List (List ℕ)
    names_of gs = map (λ g. g.name) gs

    abbrev mark : Given → ℕ
    mark g = 0

    found_by : (name : List ℕ) (gs : List Given) → option_map mark (find (λ f. bytes_eq f.name name) gs) ≡ given (list_any (λ n. bytes_eq n name) (names_of gs)) 0
    found_by name [] = refl
    found_by name (g ∷ gs) = by_test (bytes_eq g.name name) (found_by name gs)
      where
        by_test : (r : Bool) → option_map mark (find (λ f. bytes_eq f.name name) gs) ≡ given (list_any (λ n. bytes_eq n name) (names_of gs)) 0
            → option_map mark (cond r (Some g) (find (λ f. bytes_eq f.name name) gs)) ≡ given (r || list_any (λ n. bytes_eq n name) (names_of gs)) 0
        by_test true rest = refl
        by_test false rest = rest

    none_of : {A B : Type 0} (f : A → B) (o : Option A) → option_map f o ≡ None → o ≡ None
    none_of f None e = refl
    none_of f (Some a) e = absurd cc

    both_none : {A : Type 0} (a b : Option A) → first_some (a ∷ b ∷ []) ≡ None → (a ≡ None) × (b ≡ None)
    both_none (Some x) b e = absurd cc
    both_none None (Some x) e = absurd cc
    both_none None None e = (refl, refl)

    alone : {A : Type 0} (o : Option A) → o ≡ None → first_some (o ∷ []) ≡ None
    alone None e = refl
    alone (Some a) e = absurd cc

    not_repeated : (es gs fs hs : List Given) → names_of fs ≡ names_of es → names_of hs ≡ names_of gs → first_repeat es gs ≡ None → first_repeat fs hs ≡ None
    not_repeated es [] fs [] earlier same none = refl
    not_repeated es [] fs (h ∷ hs) earlier same none = absurd cc
    not_repeated es (g ∷ gs) fs [] earlier same none = absurd cc
    not_repeated es (g ∷ gs) fs (h ∷ hs) earlier same none =
        let two = both_none (repeated_by es g) (first_repeat (es ++ g ∷ []) gs) none in
        let head : h.name ≡ g.name = head_of h.name g.name (names_of hs) (names_of gs) same in
        let rest : names_of hs ≡ names_of gs = tail_of h.name g.name (names_of hs) (names_of gs) same in
        let before : find (λ f. bytes_eq f.name g.name) es ≡ None = none_of _ (find (λ f. bytes_eq f.name g.name) es) two.0 in
        let seen : option_map mark (find (λ f. bytes_eq f.name h.name) fs) ≡ None =
        found_by h.name fs ∙ (ap (λ ns. given (list_any (λ n. bytes_eq n h.name) ns) 0) earlier ∙ (ap (λ name. given (list_any (λ n. bytes_eq n name) (names_of es)) 0) head
        ∙ (sym (found_by g.name es) ∙ ap (option_map mark) before))) in
        let none_seen : find (λ f. bytes_eq f.name h.name) fs ≡ None = none_of mark (find (λ f. bytes_eq f.name h.name) fs) seen in
        let again = not_repeated (es ++ g ∷ []) gs (fs ++ h ∷ []) hs
        (map-append (λ (g : Given). g.name) fs (h ∷ []) ∙ (ap (λ ns. ns ++ h.name ∷ []) earlier ∙ (ap (λ name. names_of es ++ name ∷ []) head ∙ sym (map-append (λ (g : Given). g.name) es (g ∷ []))))) rest two.1 in
        rw (none_seen) (alone (first_repeat (fs ++ h ∷ []) hs) again)
      where
        head_of : (a b : List ℕ) (as' bs : List (List ℕ)) → a ∷ as' ≡ b ∷ bs → a ≡ b
        head_of a b as' bs e = cc

        tail_of : (a b : List ℕ) (as' bs : List (List ℕ)) → a ∷ as' ≡ b ∷ bs → as' ≡ bs
        tail_of a b as' bs e = cc

    given_same : names_of (given_names Plain q (exported Plain q)) ≡ names_of (given_names Plain p (exported Plain p))
    given_same =
        let f : Given → List ℕ = λ g. g.name in
        let memory : map f (given_memory Plain q) ≡ map f (given_memory Plain p) = λ i. map f (if words.memory i then [] else record { name = memory_name; input = 0 } ∷ []) in
        let rest : map f (map (λ e. record { name = export_name q e; input = e.input }) (exported Plain q)) ≡ map f (map (λ e. record { name = export_name p e; input = e.input }) (exported Plain p)) =
        map_map (λ e. record { name = export_name q e; input = e.input }) f (exported Plain q)
        ∙ (ap (map (export_name q)) exports_are ∙ (map_map m.entry (export_name q) (exported Plain p)
        ∙ (map_where (λ e. export_name q (m.entry e)) (export_name p) (λ e. export_name q (m.entry e) ≡ export_name p e) (λ e same. same) (exported Plain p) export_names
        ∙ sym (map_map (λ e. record { name = export_name p e; input = e.input }) f (exported Plain p))))) in
        map-append f (given_memory Plain q) (map (λ e. record { name = export_name q e; input = e.input }) (exported Plain q))
        ∙ ((λ i. memory i ++ rest i) ∙ sym (map-append f (given_memory Plain p) (map (λ e. record { name = export_name p e; input = e.input }) (exported Plain p))))

    -- Where no export is repeated in the one, none is in the other.
    pub repeats_alike : repeated_export Plain p (exported Plain p) ≡ None → repeated_export Plain q (exported Plain q) ≡ None
    unfolding repeated_export
    repeats_alike none = not_repeated [] (given_names Plain p (exported Plain p)) [] (given_names Plain q (exported Plain q)) refl given_same none

    -- ---- unresolved names

    winner_named : (name : List ℕ) → list_any (is_named name) q.winners ≡ list_any (is_named name) p.winners
    winner_named name = ap (list_any (is_named name)) winners.are ∙ (any_map (is_named name) m.entry p.winners ∙ same p.winners winners.held)
      where
        same : (es : List InputSymbol) → All K es → list_any (λ e. is_named name (m.entry e)) es ≡ list_any (is_named name) es
        same [] all = refl
        same (e ∷ es) all =
            ap (λ n. bytes_eq n name || list_any (λ e. is_named name (m.entry e)) es) (is.entry_name e (All-head K e es all))
            ∙ ap (λ b. bytes_eq (name_of e) name || b) (same es (All-tail K e es all))

    missing_alike : (name : List ℕ) → missing q name ≡ missing p name
    missing_alike name = ap (λ b. given (not b) (Unresolved name 0)) (winner_named name)

    nothing_moves : (x : Meaning) → is_nothing (moved_meaning m x) ≡ is_nothing x
    nothing_moves (here e) = refl
    nothing_moves (imported k) = refl
    nothing_moves null = refl
    nothing_moves nothing = refl

    none_open : (refs : List Ref) (e : InputSymbol) → list_any (λ (ref : Ref). is_nothing ref.meaning) refs ≡ false → is_open refs e ≡ false
    none_open [] e none = refl
    none_open (r ∷ refs) e none = by_test (is_nothing r.meaning) none (none_open refs e)
      where
        by_test : (b : Bool) → (b || list_any (λ (ref : Ref). is_nothing ref.meaning) refs) ≡ false → (list_any (λ (ref : Ref). is_nothing ref.meaning) refs ≡ false → is_open refs e ≡ false)
            → ((b && same_entry r.entry e) || is_open refs e) ≡ false
        by_test true none again = absurd cc
        by_test false none again = again none

    none_found : (refs : List Ref) → list_any (λ (ref : Ref). is_nothing ref.meaning) refs ≡ false → (es : List InputSymbol) → find (is_open refs) es ≡ None
    none_found refs none [] = refl
    none_found refs none (e ∷ es) = rw (none_open refs e none) (none_found refs none es)

    all_meant : (refs : List Ref) → All (λ (ref : Ref). is_nothing ref.meaning ≡ false) refs → list_any (λ (ref : Ref). is_nothing ref.meaning) refs ≡ false
    all_meant [] all = refl
    all_meant (r ∷ refs) all = rw (All-head (λ (ref : Ref). is_nothing ref.meaning ≡ false) r refs all) (all_meant refs (All-tail (λ (ref : Ref). is_nothing ref.meaning ≡ false) r refs all))

    -- Where all that live parts refer to means something, nothing is unresolved in the other.
    pub resolved_alike : (xs ys : List Part) → AlikeParts m C K p q xs ys → All (λ (ref : Ref). is_nothing ref.meaning ≡ false) (refs_of xs) → unresolved p xs ≡ None → unresolved q ys ≡ None
    unfolding unresolved
    resolved_alike xs ys alike meant none =
        let two = both_none (first_some (map (missing p) (demanded p.plan))) (option_map (λ e. Unresolved (name_of e) e.input) (find (is_open (refs_of xs)) (all_symbols p))) none in
        let test : Ref → Bool = λ ref. is_nothing ref.meaning in
        let quiet : list_any test (refs_of ys) ≡ false =
        any_refs m C K p q test test (λ a b r. ap is_nothing r.meaning ∙ nothing_moves a.meaning) xs ys alike ∙ all_meant (refs_of xs) meant in
        let asked : first_some (map (missing q) (demanded q.plan)) ≡ None =
        ap (λ names. first_some (map (missing q) names)) words.asked ∙ (ap first_some (map_same (missing q) (missing p) missing_alike (demanded p.plan)) ∙ two.0) in
        rw (asked, none_found (refs_of ys) quiet (all_symbols q)) refl
