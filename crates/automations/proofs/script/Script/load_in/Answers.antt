use Rattle.std.proofs.Common.{◌≡◌, rules}
use Rattle.std.specs.Prelude.{Err}
use Rattle.automations.specs.declared.script.ScriptFault.TheVariants.{OutOfMemory}
use Rattle.automations.proofs.MemoryLemmas.{some_lacks}
use Rattle.automations.proofs.script.Script.load_in.Goals as goal

pub returns-in_err-load_into-clause-memory : goal.returns-in_err-load_into-clause-memory
returns-in_err-load_into-clause-memory g c = λ lack.
    let fault : c.load_into.result ≡ Err OutOfMemory = search rules in
    some_lacks c.load_into.new.reading _ (c.load_into.ensures.memory c.new_in-reading.ensures fault)
