-- From the link of loaded objects to that of files.
use Rattle.std.proofs.Common.{◌≡◌, List, sym, ap, ◌∙◌}
use Rattle.std.specs.Prelude.{Result, Ok}
use Rattle.name_rules.specs.object_file.wl_base.Choice.{◌>>=◌}
use Rattle.name_rules.specs.object_file.wl_base.declared.fault.Fault.{Fault}
use Rattle.name_rules.specs.object_file.declared.object.Object.{Object}
use Rattle.made_symbols.specs.declared.mode.Mode.TheVariants.{Plain}
use Rattle.round_rules.specs.Rounds.{load}
use Rattle.link_rules.specs.Candidates.{candidates_of}
use Rattle.link_rules.specs.Program.{program_of}
use Rattle.link_rules.specs.LinkOf.{asked_names, the_readers, link_program, link_by, link_of, plain_link}
use Rattle.partial_laws.specs.Inputs.{whole_objects, later_objects}
use Rattle.partial_parts_laws.specs.Linked.{Linked, program}
use Rattle.partial_parts_laws.specs.AlikeLinks.{IsLoaded, LinksAreSame, LinkedFilesAreSame}

given_by : {A B : Type 0} (o : Result A Fault) (a : A) (k : A → Result B Fault) → o ≡ Ok a → (o >>= k) ≡ k a
given_by o a k is = ap (λ r. r >>= k) is

-- A link whose objects are these is the link of their program.
loaded_link : (l : Linked) (objects : List Object) → IsLoaded l objects → link_of l.plan l.files ≡ link_program Plain (program l objects)
unfolding link_by
loaded_link l objects is =
    plain_link l.plan l.files is.plain
    ∙ (given_by (candidates_of the_readers l.plan l.files) l.all (λ all. load Plain (asked_names l.plan) all >>= λ objs. link_program Plain (program_of Plain l.plan l.files all objs)) is.candidates
    ∙ given_by (load Plain (asked_names l.plan) l.all) objects (λ objs. link_program Plain (program_of Plain l.plan l.files l.all objs)) is.load_all)

pub linked_files : LinksAreSame → LinkedFilesAreSame
linked_files same run os ls s w whole after bytes linked =
    loaded_link ls.after (later_objects run os) after ∙ same run os ls s w bytes (sym (loaded_link ls.whole (whole_objects os) whole) ∙ linked)
