use Rattle.std.proofs.Common.{refl, Some}
use Rattle.name_meanings.specs.Kept.{import_of}
use Rattle.name_meanings.proofs.naming.Found.number.Goals as goal
use Rattle.name_meanings.proofs.Finding.{cached, numbered_new}

pub returns-in-Some : goal.returns-in-Some
returns-in-Some c =
    cached c.args.known c.args.self.now c.args.name c.in-Some.number c.args.at c.index.result.now c.requires.found c.requires.name c.index.ensures c.in-Some.is c.requires.own

pub returns : goal.returns
returns c =
    numbered_new c.args.known c.args.self.now
    (record {
      imports = c.add.new.self;
      numbers = Rattle.std.specs.Vec.with_item c.args.self.now.numbers c.args.name (Some c.in_ok-number.number);
      function_cells = c.args.self.now.function_cells;
      data_cells = c.args.self.now.data_cells;
    })
    c.args.name c.in_ok-number.number c.args.at (import_of c.in_ok-import.import) c.requires.found c.requires.name c.requires.own
    c.in_ok-import.ensures c.in_ok-number.ensures.imports c.in_ok-number.ensures.number refl refl refl
