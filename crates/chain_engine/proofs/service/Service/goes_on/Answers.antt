use Rattle.chain_engine.proofs.service.Service.goes_on.Goals as goal

pub returns-then-is_spent-clause-told : goal.returns-then-is_spent-clause-told
returns-then-is_spent-clause-told c = λ cfg filed steps h of none alone. absurd (let no = h.switch.whole in cc)
