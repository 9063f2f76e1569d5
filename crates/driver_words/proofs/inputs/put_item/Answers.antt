use Rattle.driver_table.specs.declared.meaning.Meaning.TheVariants.{EndLib, WholeArchive, NoWholeArchive}
use Rattle.driver_words.proofs.Turns.{given_is}
use Rattle.driver_words.proofs.inputs.put_item.Goals as goal

pub returns-in_ok-put_mark-in-EndLib-clause-words : goal.returns-in_ok-put_mark-in-EndLib-clause-words
returns-in_ok-put_mark-in-EndLib-clause-words g c =
    λ tells. given_is (g.F.Shelf.shown c.args.shelf.now).held c.args.folders.now c.args.inside c.args.whole EndLib c.args.item.now c.args.words.now _ c.in-EndLib.ensures c.in_ok-put_mark-in-EndLib.ensures

pub returns-in_ok-put_mark-in-WholeArchive-clause-words : goal.returns-in_ok-put_mark-in-WholeArchive-clause-words
returns-in_ok-put_mark-in-WholeArchive-clause-words g c =
    λ tells. given_is (g.F.Shelf.shown c.args.shelf.now).held c.args.folders.now c.args.inside c.args.whole WholeArchive c.args.item.now c.args.words.now _ c.in-WholeArchive.ensures c.in_ok-put_mark-in-WholeArchive.ensures

pub returns-in_ok-put_mark-in-NoWholeArchive-clause-words : goal.returns-in_ok-put_mark-in-NoWholeArchive-clause-words
returns-in_ok-put_mark-in-NoWholeArchive-clause-words g c =
    λ tells. given_is (g.F.Shelf.shown c.args.shelf.now).held c.args.folders.now c.args.inside c.args.whole NoWholeArchive c.args.item.now c.args.words.now _ c.in-NoWholeArchive.ensures c.in_ok-put_mark-in-NoWholeArchive.ensures
