-- A list, and behind it what is read.
use Rattle.std.proofs.Common.{ℕ, ◌≡◌, true, Some, None, filter, length, List, [], ◌∷◌, ◌++◌, Result, Ok, Err, refl, ap, append_assoc}
use Rattle.wl_base.specs.Choice.{◌>>=◌}
use Rattle.wl_base.specs.declared.fault.Fault.{Fault}
use Rattle.wl_base.specs.declared.fault.Fault.TheVariants.{BadDebug}
use Rattle.reloc_section.specs.declared.entry.Reloc.{Reloc}
use Rattle.linking_section.specs.declared.symbol.Symbol.{Symbol}
use Rattle.debug_rules.specs.Sections.{Custom, is_debug, payloads_for}
use Rattle.debug_rules.specs.Faults.{Debug, relocs_in, debugs_from}
use Rattle.debug_out.specs.Answers.{onto}

pub regroup : {A : Type 0} (front : List A) (x : A) (said : Result (List A) Fault) → onto front (said >>= λ xs. Ok (x ∷ xs)) ≡ onto (front ++ x ∷ []) said
regroup front x (Ok xs) = ap Ok (simp append_assoc)
regroup front x (Err e) = refl

-- one debug section more
pub one_more : (object input : ℕ) (symbols : List Symbol) (debug : List ℕ) (all cs : List Custom) (c : Custom) (front : List Debug) (rs : List Reloc)
    → is_debug c ≡ true → relocs_in debug symbols (length c.content) (payloads_for c.at all) ≡ Some rs
    → onto front (debugs_from object input symbols debug all (filter is_debug (c ∷ cs)))
    ≡ onto (front ++ record { object = object; symbols = symbols; section = c; relocs = rs } ∷ []) (debugs_from object input symbols debug all (filter is_debug cs))
one_more object input symbols debug all cs c front rs is found =
    rw (is, found) (regroup front (record { object = object; symbols = symbols; section = c; relocs = rs }) (debugs_from object input symbols debug all (filter is_debug cs)))

-- one that is at fault
pub bad_one : (object input : ℕ) (symbols : List Symbol) (debug : List ℕ) (all cs : List Custom) (c : Custom) (front : List Debug)
    → is_debug c ≡ true → relocs_in debug symbols (length c.content) (payloads_for c.at all) ≡ None
    → onto front (debugs_from object input symbols debug all (filter is_debug (c ∷ cs))) ≡ Err (BadDebug input c.at)
bad_one object input symbols debug all cs c front is found = rw (is, found) refl
