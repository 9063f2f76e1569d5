use Rattle.std.proofs.Common.{◌≡◌, ◌++◌, ℕ, Option, codes, ap, ◌∙◌}
use Rattle.driver_fields.specs.Fields.{threads, stack_size}
use Rattle.driver_fields.specs.Own.{numbered, stack_words, memory_numbers, number_words}
use Rattle.driver_fields.proofs.Joined.{three}
use Rattle.driver_fields.proofs.own.add_numbers.Goals as goal

pub returns : goal.returns
unfolding number_words
returns c =
    let items = c.args.items.now in
    let one = c.add_memory_numbers.new.words in
    let two = c.add_number.new.words in
    let workers : two ≡ one ++ numbered (codes "--threads=") (threads items) =
    c.in_ok-add_number.ensures ∙ ap (λ (n : ℕ). one ++ numbered (codes "--threads=") n) c.threads.ensures in
    let stack : c.add_stack.new.words ≡ two ++ stack_words (stack_size items) =
    c.in_ok-add_stack.ensures ∙ ap (λ (size : Option ℕ). two ++ stack_words size) c.stack_size.ensures in
    three c.args.words.now (memory_numbers items) (numbered (codes "--threads=") (threads items)) (stack_words (stack_size items)) one two c.add_stack.new.words
    c.in_ok-add_memory_numbers.ensures workers stack
