use Rattle.std.proofs.Common.{◌∙◌, sym}
use Rattle.name_meanings.proofs.resolving.resolve.Goals as goal
use Rattle.name_meanings.proofs.Finding.{none_found}
use Rattle.name_meanings.proofs.Besides.{resolution_is}

pub all_rows-requires-clause-found : goal.all_rows-requires-clause-found
all_rows-requires-clause-found c =
    none_found (record {
      entries = c.args.entries;
      winners = c.args.winners;
      columns = c.as_slice.result;
      allow_undefined = c.args.allow_undefined;
      mode = c.args.mode;
      uses = c.as_slice-2.result;
    })
    c.in_ok-found.found c.len.result c.cells_of.result (c.len.ensures ∙ sym c.as_slice.ensures.len) c.in_ok-found.ensures.numbers c.in_ok-found.ensures.functions c.in_ok-found.ensures.of_data

pub returns : goal.returns
returns c =
    resolution_is (record {
      entries = c.args.entries;
      winners = c.args.winners;
      columns = c.as_slice.result;
      allow_undefined = c.args.allow_undefined;
      mode = c.args.mode;
      uses = c.as_slice-2.result;
    })
    c.in_ok-rows.rows c.all_rows.new.found.imports c.add_further.new.found.imports c.in_ok-besides.besides.cells c.in_ok-besides.besides.made c.in_ok-rows.ensures.answers c.in_ok-besides.ensures
