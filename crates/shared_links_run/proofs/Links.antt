-- What is read of a shared link, what it makes sure of, and how it runs, in one.
use Rattle.std.proofs.Common.{◌≡◌, ℕ, List, map, true}
use Rattle.std.specs.Prelude.{filter}
use Rattle.list_places.specs.Has.{Has}
use Rattle.list_places.proofs.Lists.{has_filter}
use Rattle.object_file.specs.declared.object.Object.{Object}
use Rattle.round_rules.specs.Rounds.{Candidate}
use Rattle.made_symbols.specs.declared.mode.Mode.TheVariants.{Shared}
use Rattle.name_rules.specs.Entries.{InputSymbol, entries}
use Rattle.link_plan.specs.declared.plan.Plan.{Plan}
use Rattle.link_program.specs.declared.home.Home.{Home}
use Rattle.link_program.specs.Loaded.{IsLoaded, home_of}
use Rattle.link_inputs.specs.Loaded.{LoadedAreSound}
use Rattle.link_rules.specs.Program.{program_of, winners_of}
use Rattle.link_rules.specs.Marks.{exported}
use Rattle.link_rules.specs.LinkOf.{asked_names}
use Rattle.shared_links.specs.Links.{SharedLinksAreRead}
use Rattle.shared_facts.specs.Facts.{SharedFactsHold}
use Rattle.shared_facts.proofs.Entries.{winner_is}
use Rattle.shared_runs.specs.Links.{SharedOutputsRun, ExportsDefine}
use Rattle.shared_links_run.specs.Links.{SharedLinksRun}

-- an export is a winner
exports_define : (plan : Plan) (files : List (List ℕ)) (all : List Candidate) (objects : List Object) (homes : List Home) → IsLoaded files all objects homes → ExportsDefine (exported Shared (program_of Shared plan files all objects))
unfolding exported program_of
exports_define plan files all objects homes loaded e h = (winner_is objects loaded.rise e (has_filter _ (winners_of (entries Shared objects)) e h).0).1

pub links_run : SharedLinksAreRead → SharedFactsHold → SharedOutputsRun → LoadedAreSound → SharedLinksRun
links_run reads facts run loads plan files bytes long shared e =
    let r = reads plan files bytes long shared e in
    let loaded = (loads Shared plan files (asked_names plan) r.all r.objects long r.found r.loaded).1 in
    let linked = facts plan files bytes r.all r.objects long shared r.found r.loaded e in
    let define = exports_define plan files r.all r.objects (map home_of r.all) loaded in
    record {
      all = r.all;
      objects = r.objects;
      found = r.found;
      loaded = r.loaded;
      is = r.read.is;
      read = r.read.read;
      runs = λ x n bases. run plan files bytes r.all r.objects long shared r.found r.loaded e linked define r.read x n bases;
    }
