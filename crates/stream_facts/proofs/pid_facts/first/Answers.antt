use Rattle.stream_facts.proofs.PidLemmas.{reads_nothing}
use Rattle.stream_facts.proofs.pid_facts.first.Goals as goal

pub returns : goal.returns
returns c = λ past unused at.
    c.in_ok-feed.ensures c.args.pid past (reads_nothing c.new-facts.result.points c.args.pid past unused c.new-facts.ensures) at
