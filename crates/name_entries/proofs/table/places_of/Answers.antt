use Rattle.std.proofs.Common.{Some, map, sym, ap, ◌∙◌, arith}
use Rattle.std.specs.Option.{option_map}
use Rattle.name_rules.specs.object_file.wasm_types.declared.import.Import.{Import}
use Rattle.name_rules.specs.object_file.linking_section.declared.symbol.SymbolKind.TheVariants.{Function, GlobalVar, Table}
use Rattle.name_rules.specs.object_file.object_columns.Seen.{import_seen}
use Rattle.name_rules.specs.object_file.object_rules.Spaces.{is_of, imports_of}
use Rattle.name_entries.proofs.Each.{for_each}
use Rattle.name_entries.proofs.Held.{noted, none_there}
use Rattle.name_entries.proofs.table.places_of.Goals as goal
use Rattle.name_entries.proofs.table.places_of.Goals.{in-Some+in_ok-note_place-in-Some, in-None}

pub loop-at-preserved : goal.loop-at-preserved
loop-at-preserved c =
    let imports = c.args.imports.now in
    let before = c.loop-at.places in
    let at = c.loop-at.at in
    elim c.match-get.branch [
      | in-Some+in_ok-note_place-in-Some w ↦
          let x = import_seen w.in-Some.import in
          let here = sym (ap (option_map import_seen) (sym w.in-Some.is) ∙ c.get.ensures) in
          rw w.places-is (record {
            functions = noted (λ (i : Import). is_of Function i.kind) imports before.functions _ at x here w.in_ok-note_place-in-Some.ensures.functions c.loop-at.invariant.functions;
            tables = noted (λ (i : Import). is_of Table i.kind) imports before.tables _ at x here w.in_ok-note_place-in-Some.ensures.tables
                c.loop-at.invariant.tables;
            globals = noted (λ (i : Import). is_of GlobalVar i.kind) imports before.globals _ at x here w.in_ok-note_place-in-Some.ensures.globals
                c.loop-at.invariant.globals;
          })
      | in-None w ↦
          let same = none_there imports at (ap (option_map import_seen) (sym w.in-None.is) ∙ c.get.ensures) in
          rw w.places-is (record {
            functions = c.loop-at.invariant.functions ∙ sym (ap (λ is. map (λ i. Some i) (imports_of Function is)) same);
            tables = c.loop-at.invariant.tables ∙ sym (ap (λ is. map (λ i. Some i) (imports_of Table is)) same);
            globals = c.loop-at.invariant.globals ∙ sym (ap (λ is. map (λ i. Some i) (imports_of GlobalVar is)) same);
          })
    ]

pub returns : goal.returns
returns c = for_each c.args.imports.now c.loop-at.places c.loop-at.at (omega arith) c.loop-at.invariant.functions c.loop-at.invariant.tables
    c.loop-at.invariant.globals
