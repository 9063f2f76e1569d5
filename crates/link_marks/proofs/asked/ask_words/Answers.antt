use Rattle.std.proofs.Common.{subst, ◌++◌, [], option_to_list}
use Rattle.link_marks.specs.Asked.{IsAsked}
use Rattle.link_marks.proofs.asked.ask_words.Goals as goal

pub returns : goal.returns
returns c = λ h.
    let names = c.args.names.now.names in
    let entry = option_to_list c.args.plan.now.entry in
    let one = c.ask_entry.ensures [] h in
    let two = c.ask_all.ensures entry one in
    let three = c.ask_all-2.ensures (entry ++ c.as_slice.result.now) two in
    subst (λ xs. IsAsked names ((entry ++ xs) ++ c.args.plan.now.exports_if) c.ask_all-2.new.asked) c.as_slice.ensures
    (subst (λ xs. IsAsked names ((entry ++ c.as_slice.result.now) ++ xs) c.ask_all-2.new.asked) c.as_slice-2.ensures three)
