-- A program's relocatable object is well formed, where its bodies and the values of its globals are.
use Rattle.partial_rules.specs.Partial.{relocatable}
use Rattle.partial_parts_laws.specs.Writable.{AreWritable}
use Rattle.partial_parts_laws.proofs.ImportsTaken.{imports_are_taken}
use Rattle.partial_parts_laws.proofs.NumbersFit.{numbers_fit}
use Rattle.partial_parts_laws.proofs.RelocsFit.{relocs_fit}

pub are_writable : AreWritable
unfolding relocatable
are_writable l objects is names spelled addends short codes bodies coded globals =
    let numbers = numbers_fit l objects is names spelled short in
    let relocs = relocs_fit l objects is names spelled short in
    record {
      imports = numbers.imports;
      taken = imports_are_taken l objects is names;
      functions = numbers.functions;
      globals = globals;
      exports = numbers.exports;
      linking = numbers.linking;
      bodies = bodies;
      coded = coded;
      in_code = relocs.1 addends;
      in_data = relocs.0;
    }
