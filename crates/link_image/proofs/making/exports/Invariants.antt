use Rattle.link_image.proofs.making.exports.Given as goal

abbrev pub ghost-add_winners : goal.ghost-add_winners
ghost-add_winners g a = g.w
