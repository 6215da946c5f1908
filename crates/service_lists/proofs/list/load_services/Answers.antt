use Rattle.ts_packet.proofs.Cases.{if_err_more}
use Rattle.ad_lists.proofs.ListLemmas.{said_all}
use Rattle.service_lists.specs.Lists.{StopsAt}
use Rattle.service_lists.proofs.LoadingLemmas.{many_listed, refused_blames, if_ok_more}
use Rattle.service_lists.proofs.list.load_services.Goals as goal

pub services_of-requires : goal.services_of-requires
services_of-requires g c = let (text, known, listed) = c.in-Ok.ensures.lists in many_listed _ _ text listed

pub returns-in-Ok-clause-stops : goal.returns-in-Ok-clause-stops
returns-in-Ok-clause-stops g c =
    let (text, known, listed) = c.in-Ok.ensures.lists in
    if_err_more c.services_of.result (λ u s. said_all (StopsAt u.fault u.line) _ text known s) (c.services_of.ensures.stops text listed)

pub returns-in-Ok-clause-blamed : goal.returns-in-Ok-clause-blamed
returns-in-Ok-clause-blamed g c = if_err_more c.services_of.result (λ u s. refused_blames u.fault _ _ c.in-Ok.ensures.ended s) c.services_of.ensures.refused

pub returns-in-Ok-clause-lists : goal.returns-in-Ok-clause-lists
returns-in-Ok-clause-lists g c =
    let (text, known, listed) = c.in-Ok.ensures.lists in
    if_ok_more c.services_of.result (λ l a. (text, known, a)) (c.services_of.ensures.lists text listed)
