-- The moves of a run bring its packets.
use Rattle.std.proofs.Common.{◌≡◌, ℕ, List, [], ◌∷◌, ◌++◌, Bool, true, false, refl, ap, ◌∙◌, if◌then◌else◌}
use Rattle.event_table.specs.Standing.{Standing}
use Rattle.unit_stream.specs.Times.{begins_one}
use Rattle.unit_stream.specs.Fates.{is_left_out}
use Rattle.splice_laws.specs.Splicing.{SliceUnit, stream}
use Rattle.output_laws.specs.Output.{Move, Keep, Leave, network}
use Rattle.splice_plans.specs.Playing.{Adverts, History, played, as_played, end_known, is_inside, closing_at, running_at, left_at_end}
use Rattle.splice_plans.specs.Switching.{puts_by, puts_before, fate}
use Rattle.splice_plans.proofs.NetworkLemmas.{network-append, none-append, none-put}
use Rattle.switch_laws.specs.Moving.{moves_from}
use Rattle.switch_laws.specs.Laws.{MovesBringTheNetwork}

fate-brings : (d : Bool) (p : List ℕ) (ms : List Move) → network ((if d then Leave p else Keep p) ∷ ms) ≡ p ∷ network ms
fate-brings true p ms = refl
fate-brings false p ms = refl

module _ (switched : List ℕ) (ads : Adverts) (events : History) where
  -- what of an event goes out on a PID: where the packet closes it, where it runs on, and at the end
  abbrev pub closing_rule : List ℕ → List (List ℕ) → ℕ → Standing → List SliceUnit
  closing_rule p past pid e = closing_at (begins_one switched) (stream switched pid) (as_played e) (end_known ads events e.start) (ads.units e pid) p past

  abbrev pub running_rule : List ℕ → List (List ℕ) → ℕ → Standing → List SliceUnit
  running_rule p past pid e = running_at (begins_one switched) (stream switched pid) (as_played e) (end_known ads events e.start) (ads.units e pid) p past

  abbrev pub end_rule : List (List ℕ) → ℕ → Standing → List SliceUnit
  end_rule past pid e = left_at_end (begins_one switched) (stream switched pid) (as_played e) (end_known ads events e.start) (ads.units e pid) past

  pub before-none : (p : List ℕ) (past : List (List ℕ)) → network (puts_before switched ads events p past) ≡ []
  before-none p past =
      let es = played ads (events (p ∷ past)) in
      none-append (puts_by switched es (closing_rule p past)) (puts_by switched es (running_rule p past)) (none-put switched es (closing_rule p past)) (none-put switched es (running_rule p past))

  pub moves-bring : (past ps : List (List ℕ)) → network (moves_from switched ads events past ps) ≡ ps
  moves-bring past [] = none-put switched (played ads (events past)) (end_rule past)
  moves-bring past (p ∷ ps) =
      let A = puts_before switched ads events p past in
      let M = moves_from switched ads events (p ∷ past) ps in
      network-append A (fate switched ads events p past ∷ M)
      ∙ ap (λ l. l ++ network (fate switched ads events p past ∷ M)) (before-none p past)
      ∙ fate-brings (is_left_out (λ pid time. is_inside ads (events (p ∷ past)) time) switched p past switched) p M ∙ ap (λ l. p ∷ l) (moves-bring (p ∷ past) ps)

pub moves_bring_the_network : MovesBringTheNetwork
moves_bring_the_network switched ads events ps = moves-bring switched ads events [] ps
