-- What is said of a stage is said of one that stands around it and is it but for what is known besides.
use Rattle.std.proofs.Common.{◌≡◌, ℕ, List, [], ◌∷◌, ◌⊎◌, inl, inr, refl, Option, None, Some}
use Rattle.ts_packet.specs.Runs.{Seen}
use Rattle.ts_packet.specs.declared.sink.PutFault.{PutFault}
use Rattle.packet_runs.specs.Stages.{StepFails}
use Rattle.packet_runs.specs.Runs.{GoesThrough, Leaves}
use Rattle.packet_runs.specs.Stops.{StopsBy, refusal_test, stop_cause}
use Rattle.packet_runs.specs.declared.run.Stop.{Stop}
use Rattle.packet_runs.specs.declared.run.Stop.TheVariants as stop
use Rattle.packet_runs.specs.declared.stage.StageFault.{StageFault}
use Rattle.packet_runs.specs.declared.stage.StageFault.TheVariants.{Packet, Sink}
use Rattle.program_follower.specs.declared.purpose.Purpose.{Purpose}
use Rattle.chain_engine.specs.Airing.{Aired, Stretch}
use Rattle.on_air.specs.Stretches.{Entry}
use Rattle.on_air.specs.Plain.{GoesPlainly}
use Rattle.on_air.specs.AirOutputs.{EndsOnAir}
use Rattle.on_air.specs.declared.report.AirReport.{AirReport}

pub step_fails_so : {S T N : Type 0} (inner : T → S) (refusal : S → Seen → Option N) (refuses : S → List (List ℕ) → List (List ℕ) → List ℕ → S → Type 0)
    (breaks : S → List (List ℕ) → Option (List ℕ) → List (List ℕ) → List ℕ → S → Type 0) (fault : StageFault N) (first : T) (ps : List (List ℕ)) (p : List ℕ) (now : T)
    (is_out : List (List ℕ) → Type 0) (fails : List (List ℕ) → List ℕ → PutFault → Type 0)
    → StepFails refusal refuses breaks fault (inner first) ps p (inner now) is_out fails
    → StepFails (λ s seen. refusal (inner s) seen) (λ f qs sent q n. refuses (inner f) qs sent q (inner n)) (λ f qs next put q n. breaks (inner f) qs next put q (inner n))
    fault first ps p now is_out fails
step_fails_so inner refusal refuses breaks (Packet why) first ps p now is_out fails h = record { sent = h.sent; reason = h.reason; refuses_it = h.refuses_it; out = h.out }
step_fails_so inner refusal refuses breaks (Sink fault) first ps p now is_out fails h = record { sent = h.sent; packet = h.packet; breaks_so = h.breaks_so; failed = h.failed }

pub through_so : {S T N R : Type 0} (inner : T → S) (refusal : Seen → Option N) (ends : List (List ℕ) → List (List ℕ) → R → S → Type 0) (input : Option (List ℕ)) (report : R)
    (now : T) (is_out : List (List ℕ) → Type 0) → GoesThrough refusal (λ ps qs r n. ends ps qs r (inner n)) input report now is_out
    → GoesThrough refusal ends input report (inner now) is_out
through_so inner refusal ends None report now is_out h = h
through_so inner refusal ends (Some bs) report now is_out h = record { sound = h.sound; sent = h.sent; ends_so = h.ends_so; out = h.out }

leaves_so : {S T N : Type 0} (inner : T → S) (sends : S → List (List ℕ) → List (List ℕ) → List ℕ → S → Type 0) (refuses : S → List (List ℕ) → List (List ℕ) → List ℕ → S → Type 0)
    (breaks : S → List (List ℕ) → Option (List ℕ) → List (List ℕ) → List ℕ → S → Type 0) (refusal : S → Seen → Option N) (fault : Stop N) (first now : T)
    (is_out : List (List ℕ) → Type 0) (fails : List (List ℕ) → List ℕ → PutFault → Type 0) (unsent : List (List ℕ) → PutFault → Type 0) (bs : List ℕ) (passed rest : List (List ℕ))
    → Leaves (λ f ps qs k n. sends (inner f) ps qs k (inner n)) (λ f ps qs p n. refuses (inner f) ps qs p (inner n)) (λ f ps next qs p n. breaks (inner f) ps next qs p (inner n))
    (λ s seen. refusal (inner s) seen) fault first now is_out fails unsent bs passed rest
    → Leaves sends refuses breaks refusal fault (inner first) (inner now) is_out fails unsent bs passed rest
leaves_so inner sends refuses breaks refusal (stop.Read f) first now is_out fails unsent bs passed rest h = record { sent = h.sent; kept = h.kept; sends_it = h.sends_it; out = h.out }
leaves_so inner sends refuses breaks refusal (stop.Packet why) first now is_out fails unsent bs passed rest (p, more, e, h) =
    (p, more, e, record { sent = h.sent; reason = h.reason; refuses_it = h.refuses_it; out = h.out })
leaves_so inner sends refuses breaks refusal (stop.Sink f) first now is_out fails unsent bs passed [] (inl (none, h)) =
    inl (none, record { sent = h.sent; packet = h.packet; breaks_so = h.breaks_so; failed = h.failed })
leaves_so inner sends refuses breaks refusal (stop.Sink f) first now is_out fails unsent bs passed (p ∷ more) (inl h) =
    inl (record { sent = h.sent; packet = h.packet; breaks_so = h.breaks_so; failed = h.failed })
leaves_so inner sends refuses breaks refusal (stop.Sink f) first now is_out fails unsent bs passed [] (inr h) = inr (record { sent = h.sent; kept = h.kept; sends_it = h.sends_it; out = h.out })
leaves_so inner sends refuses breaks refusal (stop.Sink f) first now is_out fails unsent bs passed (p ∷ more) (inr h) =
    inr (record { sent = h.sent; kept = h.kept; sends_it = h.sends_it; out = h.out })

pub stops_so : {S T N : Type 0} (inner : T → S) (sends : S → List (List ℕ) → List (List ℕ) → List ℕ → S → Type 0) (refuses : S → List (List ℕ) → List (List ℕ) → List ℕ → S → Type 0)
    (breaks : S → List (List ℕ) → Option (List ℕ) → List (List ℕ) → List ℕ → S → Type 0) (refusal : S → Seen → Option N) (fault : Stop N) (first now : T)
    (is_out : List (List ℕ) → Type 0) (fails : List (List ℕ) → List ℕ → PutFault → Type 0) (unsent : List (List ℕ) → PutFault → Type 0) (input : Option (List ℕ))
    → StopsBy stop.Read (refusal_test (refusal (inner first))) stop_cause fault input
    (Leaves (λ f ps qs k n. sends (inner f) ps qs k (inner n)) (λ f ps qs p n. refuses (inner f) ps qs p (inner n)) (λ f ps next qs p n. breaks (inner f) ps next qs p (inner n))
    (λ s seen. refusal (inner s) seen) fault first now is_out fails unsent)
    → StopsBy stop.Read (refusal_test (refusal (inner first))) stop_cause fault input (Leaves sends refuses breaks refusal fault (inner first) (inner now) is_out fails unsent)
stops_so inner sends refuses breaks refusal fault first now is_out fails unsent None (bs, h) = (
  bs,
  record {
    passed = h.passed;
    rest = h.rest;
    parts = h.parts;
    sound = h.sound;
    says = h.says;
    left = leaves_so inner sends refuses breaks refusal fault first now is_out fails unsent bs h.passed h.rest h.left;
  },
)
stops_so inner sends refuses breaks refusal fault first now is_out fails unsent (Some bs) h = record {
  passed = h.passed;
  rest = h.rest;
  parts = h.parts;
  sound = h.sound;
  says = h.says;
  left = leaves_so inner sends refuses breaks refusal fault first now is_out fails unsent bs h.passed h.rest h.left;
}

-- ---- on air

pub plainly_so : {S T R : Type 0} (inner : T → S) (ends : List (List ℕ) → List (List ℕ) → R → S → Type 0) (bs : List ℕ) (told : AirReport R) (now : T) (is_out : List (List ℕ) → Type 0)
    → GoesPlainly (λ ps qs r n. ends ps qs r (inner n)) bs told now is_out → GoesPlainly ends bs told (inner now) is_out
plainly_so inner ends bs told now is_out h = record { sent = h.sent; report = h.report; ends_so = h.ends_so; tells = h.tells; out = h.out }

pub ends_on_air_so : {S T R : Type 0} (inner : T → S) (summed : R → R → R) (tells : List Stretch → List Aired → List R → List (List ℕ) → R → S → Type 0) (c : Purpose)
    (ss : List (List Entry)) (report : R) (now : T) (is_out : List (List ℕ) → Type 0)
    → EndsOnAir summed (λ ended last told qs r n. tells ended last told qs r (inner n)) c ss report now is_out → EndsOnAir summed tells c ss report (inner now) is_out
ends_on_air_so inner summed tells c ss report now is_out h =
    record { told = h.told; last = h.last; sent = h.sent; tells_so = h.tells_so; summed_so = h.summed_so; out = h.out }
