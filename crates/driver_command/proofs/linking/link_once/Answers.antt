use Rattle.driver_command.proofs.linking.link_once.Goals as goal

pub returns-clause-shows : goal.returns-clause-shows
returns-clause-shows g c = record {
  usage = c.link_like_lld-status.ensures.usage;
  cause = c.link_like_lld-status.ensures.cause;
  memory = c.link_like_lld-status.ensures.memory;
  runs = c.link_like_lld-status.ensures.runs;
  is_usage = c.link_like_lld-status.ensures.is_usage;
  is_refused = c.link_like_lld-status.ensures.is_refused;
  is_linked = c.link_like_lld-status.ensures.is_linked;
}

pub returns-clause-told : goal.returns-clause-told
returns-clause-told g c = c.link_like_lld-status.ensures.told c.new-told.ensures
