use Rattle.std.proofs.Common.{rules, ◌+◌, ◌%◌, refl}
use Rattle.break_scripts.proofs.ScriptLemmas.{next_request}
use Rattle.break_scripts.proofs.script.script_of.Goals as goal

pub loop-asked-preserved : goal.loop-asked-preserved
loop-asked-preserved c =
    next_request c.args.index c.loop-asked.number ((c.loop-asked.number + 1) % 256) c.in-Some.asked.now c.loop-asked.rest.now c.in-Some.behind.now
    c.loop-asked.is_within c.goes_on-is_within.result c.loop-asked.text.items c.push_front.new.text.items c.push_message.new.text.items
    c.push_end.new.text.items _ (search rules) refl c.goes_on-is_within.ensures c.in_ok-push_front.ensures c.in_ok-push_message.ensures
    c.in_ok-push_end.ensures c.loop-asked.invariant
