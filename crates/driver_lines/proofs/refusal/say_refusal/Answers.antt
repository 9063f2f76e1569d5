use Rattle.driver_lines.proofs.Said.{at, about, pair, featured}
use Rattle.driver_lines.proofs.refusal.say_refusal.Goals as goal

pub returns-in-TooMuchInput : goal.returns-in-TooMuchInput
returns-in-TooMuchInput g c = at _ _ _ _ _ _ _ _ _ c.in-TooMuchInput.is c.say_plain.ensures

pub returns-in-Clash : goal.returns-in-Clash
returns-in-Clash g c =
    at _ _ _ _ _ _ _ _ _ c.in-Clash.is
    (pair _ _ _ _ _ _ _ _ _ _ _ c.called_input-in-Clash.ensures c.called_input-in-Clash-2.ensures c.say_pair.ensures)

pub returns-in-Duplicate : goal.returns-in-Duplicate
returns-in-Duplicate g c =
    at _ _ _ _ _ _ _ _ _ c.in-Duplicate.is
    (pair _ _ _ _ _ _ _ _ _ _ _ c.called_input-in-Duplicate.ensures c.called_input-in-Duplicate-2.ensures c.say_pair-in-Duplicate.ensures)

pub returns-in-BadDebug : goal.returns-in-BadDebug
returns-in-BadDebug g c =
    at _ _ _ _ _ _ _ _ _ c.in-BadDebug.is (about _ _ _ _ _ _ _ _ _ _ c.called_input-in-BadDebug.ensures c.say_about-in-BadDebug.ensures)

pub returns-in-DebugTooLong : goal.returns-in-DebugTooLong
returns-in-DebugTooLong g c = at _ _ _ _ _ _ _ _ _ c.in-DebugTooLong.is c.say_plain-in-DebugTooLong.ensures

pub returns-in-NotPartial : goal.returns-in-NotPartial
returns-in-NotPartial g c =
    at _ _ _ _ _ _ _ _ _ c.in-NotPartial.is (about _ _ _ _ _ _ _ _ _ _ c.called_file-in-NotPartial.ensures c.say_about-in-NotPartial.ensures)

pub returns-in-PartialTooLong : goal.returns-in-PartialTooLong
returns-in-PartialTooLong g c = at _ _ _ _ _ _ _ _ _ c.in-PartialTooLong.is c.say_plain-in-PartialTooLong.ensures

pub returns-in-Feature : goal.returns-in-Feature
returns-in-Feature g c =
    at _ _ _ _ _ _ _ _ _ c.in-Feature.is
    (featured _ _ _ _ _ _ _ _ _ _ c.called_input-in-Feature.ensures c.called_input-in-Feature-2.ensures c.say_feature.ensures)
