use Rattle.std.proofs.Common.{map}
use Rattle.driver_texts.specs.Paths.{member_path}
use Rattle.driver_words.proofs.Groups.{is_grouped}
use Rattle.driver_words.proofs.inputs.put_group.Goals as goal

pub returns : goal.returns
returns c =
    is_grouped c.args.within c.args.words.now c.push.new.self c.put_members-2.new.words c.push-2.new.self (map (member_path c.args.path.now) c.args.names.now) _ _
    c.if-within.false c.in_ok-push.ensures.ok c.in_ok-new.ensures c.in_ok-put_members.ensures c.in_ok-push-2.ensures.ok c.in_ok-new-2.ensures
