-- One lent section more.
use Rattle.std.proofs.Common.{ℕ, ◌≡◌, ◌∙◌, ◌+◌, ◌<◌, true, false, List, [], ◌∷◌, ◌++◌, length, map, filter, drop, get_or, Some, None, Result, Err, refl, ap, sym}
use Rattle.std.proofs.lemmas.List.{at_drop_more, map-append}
use Rattle.std.specs.Borrow.{Bor}
use Rattle.wl_base.specs.declared.fault.Fault.{Fault}
use Rattle.wl_base.specs.declared.fault.Fault.TheVariants.{BadDebug}
use Rattle.linking_section.specs.declared.symbol.Symbol.{Symbol}
use Rattle.debug_rules.specs.Sections.{is_debug, payloads_for}
use Rattle.debug_rules.specs.Faults.{Debug, relocs_in, debugs_from}
use Rattle.debug_out.specs.declared.refs.CustomRef.{CustomRef}
use Rattle.debug_out.specs.declared.refs.DebugRef.{DebugRef}
use Rattle.debug_out.specs.Answers.{onto}
use Rattle.debug_out.specs.Refs.{custom_seen, debug_seen, entries_of}
use Rattle.debug_out.proofs.Onto.{one_more, bad_one}

pub one_more_at : (object input : ℕ) (symbols : List Symbol) (debug : List ℕ) (all : List CustomRef) (i : ℕ) (d : CustomRef) (out now : List DebugRef) (made : DebugRef) (total : Result (List Debug) Fault)
    → now ≡ out ++ made ∷ []
    → i < length all
    → is_debug (custom_seen (get_or all i d)) ≡ true
    → relocs_in debug symbols (length (custom_seen (get_or all i d)).content) (payloads_for (get_or all i d).at (map custom_seen all)) ≡ Some (entries_of made.relocs.now)
    → debug_seen made ≡ record { object = object; symbols = symbols; section = custom_seen (get_or all i d); relocs = entries_of made.relocs.now }
    → onto (map debug_seen out) (debugs_from object input symbols debug (map custom_seen all) (filter is_debug (map custom_seen (drop i all)))) ≡ total
    → onto (map debug_seen now) (debugs_from object input symbols debug (map custom_seen all) (filter is_debug (map custom_seen (drop (i + 1) all)))) ≡ total
one_more_at object input symbols debug all i d out now made total is lt shows found seen so_far =
    let all_of = λ (cs : List CustomRef). onto (map debug_seen out) (debugs_from object input symbols debug (map custom_seen all) (filter is_debug (map custom_seen cs))) in
    let said = debugs_from object input symbols debug (map custom_seen all) (filter is_debug (map custom_seen (drop (i + 1) all))) in
    ap (λ ds. onto ds said) (ap (map debug_seen) is ∙ (map-append debug_seen out (made ∷ []) ∙ ap (λ (x : Debug). map debug_seen out ++ x ∷ []) seen))
    ∙ (sym (one_more object input symbols debug (map custom_seen all) (map custom_seen (drop (i + 1) all)) (custom_seen (get_or all i d)) (map debug_seen out) (entries_of made.relocs.now) shows found)
    ∙ (sym (at_drop_more all_of all i d lt) ∙ so_far))

pub none_more_at : (object input : ℕ) (symbols : List Symbol) (debug : List ℕ) (all : List CustomRef) (i : ℕ) (d : CustomRef) (out now : List DebugRef) (total : Result (List Debug) Fault)
    → now ≡ out
    → i < length all
    → is_debug (custom_seen (get_or all i d)) ≡ false
    → onto (map debug_seen out) (debugs_from object input symbols debug (map custom_seen all) (filter is_debug (map custom_seen (drop i all)))) ≡ total
    → onto (map debug_seen now) (debugs_from object input symbols debug (map custom_seen all) (filter is_debug (map custom_seen (drop (i + 1) all)))) ≡ total
none_more_at object input symbols debug all i d out now total is lt shows so_far =
    let all_of = λ (cs : List CustomRef). onto (map debug_seen out) (debugs_from object input symbols debug (map custom_seen all) (filter is_debug (map custom_seen cs))) in
    let skips : filter is_debug (custom_seen (get_or all i d) ∷ map custom_seen (drop (i + 1) all)) ≡ filter is_debug (map custom_seen (drop (i + 1) all)) = rw (shows) refl in
    ap (λ ds. onto (map debug_seen ds) (debugs_from object input symbols debug (map custom_seen all) (filter is_debug (map custom_seen (drop (i + 1) all))))) is
    ∙ (ap (λ cs. onto (map debug_seen out) (debugs_from object input symbols debug (map custom_seen all) cs)) (sym skips)
    ∙ (sym (at_drop_more all_of all i d lt) ∙ so_far))

pub bad_at : (object input : ℕ) (symbols : List Symbol) (debug : List ℕ) (all : List CustomRef) (i : ℕ) (d : CustomRef) (out : List DebugRef) (total : Result (List Debug) Fault)
    → i < length all
    → is_debug (custom_seen (get_or all i d)) ≡ true
    → relocs_in debug symbols (length (custom_seen (get_or all i d)).content) (payloads_for (get_or all i d).at (map custom_seen all)) ≡ None
    → onto (map debug_seen out) (debugs_from object input symbols debug (map custom_seen all) (filter is_debug (map custom_seen (drop i all)))) ≡ total
    → total ≡ Err (BadDebug input (get_or all i d).at)
bad_at object input symbols debug all i d out total lt shows found so_far =
    let all_of = λ (cs : List CustomRef). onto (map debug_seen out) (debugs_from object input symbols debug (map custom_seen all) (filter is_debug (map custom_seen cs))) in
    sym so_far
    ∙ (at_drop_more all_of all i d lt
    ∙ bad_one object input symbols debug (map custom_seen all) (map custom_seen (drop (i + 1) all)) (custom_seen (get_or all i d)) (map debug_seen out) shows found)
