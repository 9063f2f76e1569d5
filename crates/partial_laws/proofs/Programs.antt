-- What the programs of two links have of names.
use Rattle.std.proofs.Common.{◌≡◌, ℕ, Bool, false, List, [], ◌∷◌, ◌++◌, map, filter, append-nil, refl, sym, ap, ◌∙◌}
use Rattle.std.specs.Prelude.{filter_map, flat_map, bytes_eq}
use Rattle.std.specs.List.{list_any}
use Rattle.name_rules.specs.object_file.wl_base.Choice.{distinct}
use Rattle.made_symbols.specs.declared.mode.Mode.TheVariants.{Plain}
use Rattle.round_rules.specs.Rounds.{Candidate}
use Rattle.name_rules.specs.object_file.declared.object.Object.{Object}
use Rattle.name_rules.specs.Entries.{InputSymbol, name_of, entries, symbols_of, same_import}
use Rattle.name_rules.specs.Cases.{clash, duplicate}
use Rattle.name_rules.specs.Meanings.{Resolved, no_uses, meaning, resolved_in, resolve, winner}
use Rattle.link_plan.specs.declared.plan.Plan.{Plan}
use Rattle.link_rules.specs.Program.{Program, Ref, winners_of, loose_variants, program_of}
use Rattle.link_rules.specs.Marks.{all_symbols}
use Rattle.link_rules.specs.Keys.{import_of, imports_in_order, calls_stub, callable, stub_names}
use Rattle.partial_laws.specs.Inputs.{whole_objects, later_objects}
use Rattle.partial_laws.specs.Standing.{joining}
use Rattle.partial_laws.specs.Programs.{ProgramsAreOf, ProgramsAgree}
use Rattle.partial_laws.proofs.Symbols.{flat_of_map, map_of_flat}
use Rattle.partial_laws.proofs.Stated.{names_are_kept}

module _ (plan : Plan) (files : List (List ℕ)) (all : List Candidate) (objects : List Object) where
  abbrev p : Program
  p = program_of Plain plan files all objects

  entries_are : (program_of Plain plan files all objects).entries ≡ entries Plain objects
  unfolding program_of
  entries_are = refl

  winners_are : (program_of Plain plan files all objects).winners ≡ winners_of (program_of Plain plan files all objects).entries
  unfolding program_of
  winners_are = refl

  symbols_are : all_symbols (program_of Plain plan files all objects) ≡ flat_map (symbols_of objects) objects
  unfolding program_of resolve
  symbols_are = flat_of_map (resolved_in Plain no_uses plan.allow_undefined (entries Plain objects) objects) (λ (r : Resolved). r.symbols) objects

  meanings_are : flat_map (λ (r : Resolved). r.meanings) (program_of Plain plan files all objects).resolved ≡ map (meaning Plain no_uses plan.allow_undefined (entries Plain objects)) (flat_map (symbols_of objects) objects)
  unfolding program_of resolve
  meanings_are =
      flat_of_map (resolved_in Plain no_uses plan.allow_undefined (entries Plain objects) objects) (λ (r : Resolved). r.meanings) objects
      ∙ sym (map_of_flat (meaning Plain no_uses plan.allow_undefined (entries Plain objects)) (symbols_of objects) objects)

  imports_are : imports_in_order (program_of Plain plan files all objects)
      ≡ distinct same_import (filter_map import_of (map (meaning Plain no_uses plan.allow_undefined (entries Plain objects)) (flat_map (symbols_of objects) objects)))
  unfolding imports_in_order
  imports_are = ap (λ ms. distinct same_import (filter_map import_of ms)) meanings_are

  pub callable_are : plan.loose_calls ≡ false → callable (program_of Plain plan files all objects) ≡ entries Plain objects
  unfolding program_of
  callable_are strict =
      ap (λ (b : Bool). entries Plain objects ++ loose_variants b (entries Plain objects) (resolve Plain plan.allow_undefined (entries Plain objects) objects)) strict
      ∙ append-nil (entries Plain objects)

  stubs_are : plan.loose_calls ≡ false → (refs : List Ref)
      → stub_names (program_of Plain plan files all objects) refs ≡ distinct bytes_eq (map name_of (filter (λ e. list_any (calls_stub (name_of e)) refs) (entries Plain objects)))
  stubs_are strict refs = ap (λ es. distinct bytes_eq (map name_of (filter (λ e. list_any (calls_stub (name_of e)) refs) es))) (callable_are strict)

pub programs_are_of : ProgramsAreOf
programs_are_of plan files all objects = record {
  entries_are = entries_are plan files all objects;
  winners_are = winners_are plan files all objects;
  symbols_are = symbols_are plan files all objects;
}

filter_tests : (t u : InputSymbol → Bool) → ((e : InputSymbol) → t e ≡ u e) → (es : List InputSymbol) → filter t es ≡ filter u es
filter_tests t u same [] = refl
filter_tests t u same (e ∷ es) = rw (same e, filter_tests t u same es) refl

pub programs_agree : ProgramsAgree
programs_agree run os alone stands plan later_plan files later_files all later_all strict strict_too allows = record {
  winners =
      winners_are later_plan later_files later_all (later_objects run os) ∙ (ap winners_of (entries_are later_plan later_files later_all (later_objects run os))
      ∙ ((names_are_kept run os alone stands).winners ∙ sym (ap (map (joining run os alone).move) (winners_are plan files all (whole_objects os) ∙ ap winners_of (entries_are plan files all (whole_objects os))))));
  imports =
      imports_are later_plan later_files later_all (later_objects run os)
      ∙ (ap (λ allow. distinct same_import (filter_map import_of (map (meaning Plain no_uses allow (entries Plain (later_objects run os))) (flat_map (symbols_of (later_objects run os)) (later_objects run os))))) allows
      ∙ ((names_are_kept run os alone stands).imports plan.allow_undefined ∙ sym (imports_are plan files all (whole_objects os))));
  no_clash = ap clash (entries_are later_plan later_files later_all (later_objects run os)) ∙ (names_are_kept run os alone stands).agree;
  once = λ none. ap duplicate (entries_are later_plan later_files later_all (later_objects run os)) ∙ (names_are_kept run os alone stands).once (ap duplicate (sym (entries_are plan files all (whole_objects os))) ∙ none);
  stubs = λ refs refs_too same open_.
      stubs_are later_plan later_files later_all (later_objects run os) strict_too refs_too
      ∙ (ap (λ es. distinct bytes_eq (map name_of es)) (filter_tests (λ e. list_any (calls_stub (name_of e)) refs_too) (λ e. list_any (calls_stub (name_of e)) refs) (λ e. same (name_of e)) (entries Plain (later_objects run os)))
      ∙ ((names_are_kept run os alone stands).names (λ name. list_any (calls_stub name) refs) (λ name calls. ap (λ es. winner es name) (sym (entries_are plan files all (whole_objects os))) ∙ open_ name calls)
      ∙ sym (stubs_are plan files all (whole_objects os) strict refs)));
}
