use Rattle.link_image.proofs.exported.export.Given as goal

abbrev pub ghost-export_name : goal.ghost-export_name
ghost-export_name g a = g.p
