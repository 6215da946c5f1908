-- The runs that lack a premise.
use Rattle.std.specs.Prelude.{pos, ◌≤ℤ◌, ◌+ℤ◌}
use Rattle.std.proofs.Common.{◌≡◌, true, false, inl, inr, refl, sym, ap, ◌∙◌, subst, arith}
use Rattle.std.proofs.lemmas.Int.{ints}
use Rattle.ts_packet.specs.Membership.{In}
use Rattle.cue_laws.specs.Events.{LineEvent, events}
use Rattle.cue_laws.specs.Thinning.{thinned, KeepsStart, KeepsCancel}
use Rattle.cue_laws.specs.Cueing.{cue_turns}
use Rattle.cue_laws.specs.Needed.{EndsAreNeeded, CancelsAreNeeded, OrderIsNeeded, later_first, shortened, ended_then_cancelled, without_ends, second, first, started_then_cancelled, without_cancels}

rise : (pos 0 ≤ℤ pos 0) × (pos 0 ≤ℤ (pos 0 +ℤ pos 900000))
rise = (omega (arith, ints), omega (arith, ints))

abbrev open_first : LineEvent
open_first = record { id = 1; start = pos 100; asked = pos 200; end = pos 200; cancelled = false }

pub ends_are_needed : EndsAreNeeded
ends_are_needed = (
  (rise, (refl, (rise, ((record { id = 1; start = pos 100; asked = pos 200; end = pos 150; cancelled = false }, inl refl, refl), (rise, ((open_first, inl refl, refl), (rise, (refl, (tt, tt))))))))),
  starts,
  cancels,
  inl refl,
  refused,
)
  where
    starts : (x : LineEvent) → In x (events ended_then_cancelled) → x.cancelled ≡ false → KeepsStart without_ends x (cue_turns ended_then_cancelled)
    starts x (inl is) c = subst (λ (z : LineEvent). KeepsStart without_ends z (cue_turns ended_then_cancelled)) (sym is) (inr (inl refl))
    starts x (inr (inl is)) c = absurd (let bad : true ≡ false = sym (ap (λ (z : LineEvent). z.cancelled) is) ∙ c in cc)
    starts x (inr (inr i)) c = absurd i

    cancels : (x : LineEvent) → In x (events ended_then_cancelled) → x.cancelled ≡ true → KeepsCancel without_ends x (cue_turns ended_then_cancelled)
    cancels x (inl is) c = absurd (let bad : false ≡ true = sym (ap (λ (z : LineEvent). z.cancelled) is) ∙ c in cc)
    cancels x (inr (inl is)) c = subst (λ (z : LineEvent). KeepsCancel without_ends z (cue_turns ended_then_cancelled)) (sym is)
        (inl (omega arith, refl, refl, (record { id = 1; start = pos 100; asked = pos 200; end = pos 150; cancelled = false }, inl refl, refl)))
    cancels x (inr (inr i)) c = absurd i

    refused : In second (events (thinned without_ends (cue_turns ended_then_cancelled))) → ⊥
    refused (inl is) = let bad : 2 ≡ 1 = ap (λ (z : LineEvent). z.id) is in omega (arith, bad)
    refused (inr i) = i

pub cancels_are_needed : CancelsAreNeeded
cancels_are_needed =
    ((rise, ((first, inl refl, refl), (rise, (refl, (tt, tt))))), starts, tt, inl refl, gone)
  where
    starts : (x : LineEvent) → In x (events started_then_cancelled) → x.cancelled ≡ false → KeepsStart without_cancels x (cue_turns started_then_cancelled)
    starts x (inl is) c = absurd (let bad : true ≡ false = sym (ap (λ (z : LineEvent). z.cancelled) is) ∙ c in cc)
    starts x (inr i) c = absurd i

    gone : In first (events started_then_cancelled) → ⊥
    gone (inl is) = let bad : false ≡ true = ap (λ (z : LineEvent). z.cancelled) is in cc
    gone (inr i) = i

pub order_is_needed : OrderIsNeeded
order_is_needed = ((rise, (refl, ((open_first, inl refl, refl), (refl, (tt, tt))))), inr (inl refl), inr (inl refl), refused)
  where
    refused : In shortened (events later_first) → ⊥
    refused (inl is) = let bad : 1 ≡ 2 = ap (λ (z : LineEvent). z.id) is in omega (arith, bad)
    refused (inr i) = i
