use Rattle.rounds_tests.proofs.Tested.{candidates}
use Rattle.rounds_tests.proofs.rounds.called.Given as goal

abbrev pub ghost-load_rounds : goal.ghost-load_rounds
ghost-load_rounds g a = candidates a.given a.libraries.now a.files.now
