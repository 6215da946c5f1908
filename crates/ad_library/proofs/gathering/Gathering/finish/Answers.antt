use Rattle.ad_library.proofs.FiledLemmas.{of_filed}
use Rattle.ad_library.proofs.gathering.Gathering.finish.Goals as goal

pub advert_of-requires : goal.advert_of-requires
advert_of-requires g c =
    let (past, h) = c.requires in
    (past, of_filed c.args.self.streams c.in-Some.gathered _ past c.in-Some.is c.in-Some.gathered-is h.streams)

pub returns-in-Ok-clause-ok : goal.returns-in-Ok-clause-ok
returns-in-Ok-clause-ok g c = λ past h. c.in-Ok.ensures.ok past (of_filed c.args.self.streams c.in-Some.gathered _ past c.in-Some.is c.in-Some.gathered-is h.streams)

pub returns-in-Ok-clause-sound : goal.returns-in-Ok-clause-sound
returns-in-Ok-clause-sound g c = λ past h. c.in-Ok.ensures.sound past (of_filed c.args.self.streams c.in-Some.gathered _ past c.in-Some.is c.in-Some.gathered-is h.streams)

pub returns-in-Err-clause-err : goal.returns-in-Err-clause-err
returns-in-Err-clause-err g c = λ past h. c.in-Err.ensures.err past (of_filed c.args.self.streams c.in-Some.gathered _ past c.in-Some.is c.in-Some.gathered-is h.streams)
