use Rattle.std.proofs.Common.{arith, rules, sym, ◌∙◌}
use Rattle.link_marks.specs.link_program.made_symbols.declared.mode.Mode.TheVariants.{Plain}
use Rattle.link_marks.specs.link_program.Program.{IsProgramOf}
use Rattle.lost_ctors.proofs.Whole.{by_words, by_objects, never_missing, few_objects, rows_counted}
use Rattle.lost_ctors.proofs.words.names_ctors.Goals as goal

pub returns-then-words_name : goal.returns-then-words_name
returns-then-words_name g c =
    let is : IsProgramOf Plain c.args.program g.p = search rules in
    by_words c.args.program g.p is (sym c.words_name.ensures ∙ c.if-words_name.true)

pub returns-in_default : goal.returns-in_default
returns-in_default g c =
    let is : IsProgramOf Plain c.args.program g.p = search rules in
    never_missing c.args.program g.p is (sym c.in_default.ensures)

pub overflow_cast-program : goal.overflow_cast-program
overflow_cast-program g c =
    let is : IsProgramOf Plain c.args.program g.p = search rules in
    let few = few_objects c.args.program g.p is in
    omega (arith, few)

pub objects_name-requires : goal.objects_name-requires
objects_name-requires g c =
    let is : IsProgramOf Plain c.args.program g.p = search rules in
    rows_counted c.args.program g.p is

pub returns : goal.returns
returns g c =
    let is : IsProgramOf Plain c.args.program g.p = search rules in
    c.objects_name.ensures ∙ by_objects c.args.program g.p is (sym c.words_name.ensures ∙ c.if-words_name.false) c.in-Some.number (sym c.in-Some.ensures)
