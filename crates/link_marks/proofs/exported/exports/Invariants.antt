use Rattle.link_marks.proofs.exported.exports.Given as goal

abbrev pub ghost-plain_exports : goal.ghost-plain_exports
ghost-plain_exports g a = g.p

abbrev pub ghost-shared_exports : goal.ghost-shared_exports
ghost-shared_exports g a = g.p
