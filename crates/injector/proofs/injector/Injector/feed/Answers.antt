use Rattle.injector.proofs.injector.Injector.feed.Goals as goal

pub returns-in-Err-clause-judges : goal.returns-in-Err-clause-judges
returns-in-Err-clause-judges g c = λ cfg past j.
    let k = c.in-Err.ensures.judges cfg past j in
    record { requests = k.requests; counted = record { messages = k.counted.messages; accepted = k.counted.accepted; refused = k.counted.refused } }
