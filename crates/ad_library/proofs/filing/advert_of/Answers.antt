use Rattle.std.proofs.Common.{sym, inl, inr, refl}
use Rattle.std.specs.Prelude.{reverse}
use Rattle.ad_library.specs.Advertisements.{kept_streams}
use Rattle.ad_library.proofs.FiledLemmas.{gathered_stored, stored_as, no_time, is_filed, ends_with}
use Rattle.ad_library.proofs.filing.advert_of.Goals as goal

pub file_all-requires : goal.file_all-requires
file_all-requires g c =
    let (past, h) = c.requires in
    let s = gathered_stored _ past h in
    (kept_streams (reverse past), s, sym (c.in-Some.ensures (kept_streams (reverse past)) (stored_as _ _ _ c.as_slice.ensures.value s)))

pub returns-in-None-clause-err : goal.returns-in-None-clause-err
returns-in-None-clause-err g c = λ past h.
    inr (no_time past _ h (sym (c.in-None.ensures (kept_streams (reverse past)) (stored_as _ _ _ c.as_slice.ensures.value (gathered_stored _ past h)))))

pub returns-in-Ok-clause-ok : goal.returns-in-Ok-clause-ok
returns-in-Ok-clause-ok g c = λ past h.
    let s = gathered_stored _ past h in
    let e = sym (c.in-Some.ensures (kept_streams (reverse past)) (stored_as _ _ _ c.as_slice.ensures.value s)) in
    is_filed (reverse past) _ _ e (c.in-Ok.ensures.streams (kept_streams (reverse past)) s e)

pub returns-in-Ok-clause-sound : goal.returns-in-Ok-clause-sound
returns-in-Ok-clause-sound g c = λ past h.
    let s = gathered_stored _ past h in
    ends_with (reverse past) _ (sym (c.in-Some.ensures (kept_streams (reverse past)) (stored_as _ _ _ c.as_slice.ensures.value s)))

pub returns-in-Err-clause-err : goal.returns-in-Err-clause-err
returns-in-Err-clause-err g c = λ past h.
    let s = gathered_stored _ past h in
    inl (refl, ends_with (reverse past) _ (sym (c.in-Some.ensures (kept_streams (reverse past)) (stored_as _ _ _ c.as_slice.ensures.value s))))
