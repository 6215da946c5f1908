-- Whether the packet's unit lies in a played event, as the plans and the table say.
use Rattle.std.proofs.Common.{◌≡◌, ℕ, ◌%◌, List, [], ◌∷◌, Bool, true, false, not, ◌&&◌, ◌||◌, refl, sym, ap, ◌∙◌, subst, Option, None, Some, arith, map}
use Rattle.std.specs.Prelude.{ℤ, pos, ◌+ℤ◌, ◌≤ℤ◌, int_le, int_lt, slice_get, slice_index_or, filter}
use Rattle.std.specs.List.{list_any, AllByRecursion}
use Rattle.std.proofs.lemmas.Int.{ints}
use Rattle.std.proofs.lemmas.Bool.{true≢false, and_right}
use Rattle.std.proofs.lemmas.List.{length-map}
use lib.Signed.{le_z, lt_z}
use Rattle.ts_packet.proofs.Cases.{by_test}
use Rattle.pes_time.specs.Line.{place}
use Rattle.unit_stream.specs.Times.{begins, stamp, high, unit_time}
use Rattle.psi_tables.specs.declared.stream.Stream.{Stream}
use Rattle.event_table.specs.Standing.{Standing, end_of, covers, stands}
use Rattle.armed_events.specs.Arming.{standing_at}
use Rattle.armed_events.specs.Valuing.{values_by}
use Rattle.ad_library.specs.Advertisements.{Advertisement}
use Rattle.splice_laws.specs.Splicing.{holds, stream}
use Rattle.splice_plans.specs.declared.plan.Part.{Part}
use Rattle.splice_plans.specs.declared.plan.Plan.{Plan}
use Rattle.splice_plans.specs.Playing.{Adverts, History, is_played, as_played, is_inside}
use Rattle.splice_plans.specs.Switching.{Setting, switched_at, events_at}
use Rattle.splice_plans.specs.Histories.{IsHistory}
use Rattle.splice_plans.specs.Adverts.{adverts_of}
use Rattle.splice_plans.specs.Turning.{IsNearHigh, part_of}
use Rattle.splice_plans.specs.Parts.{beside, is_waiting}
use Rattle.splice_plans.specs.Fronts.{IsNearTime, closed_plans, is_left}
use Rattle.splice_plans.specs.Known.{AreSeparate, plan_at, is_crossed_known}
use Rattle.program_follower.specs.Faults.{pids_in}
use Rattle.std.proofs.lemmas.Option.{slice_get_within}
use Rattle.plan_laws.specs.Laws.{Starts, UnitsLieAsLeft}
use Rattle.plan_laws.proofs.StageLemmas.{stage_by}
use Rattle.plan_laws.proofs.ToldLemmas.{Told}
use Rattle.plan_laws.proofs.UnitLemmas.{holds-is, covers-is, played-begun, never-staged}
use Rattle.plan_laws.proofs.PartLemmas.{get-map}
use Rattle.plan_laws.proofs.PlanLemmas.{known, flag_begun, flag_closed, stage_at, mid_part, mixed_parts, mixed_plan, part-there, falls}
use Rattle.plan_laws.proofs.RunLemmas.{events-are, pids-are, small, all-are-told, between-are, time-same}
use Rattle.plan_laws.proofs.JoinedLemmas.{streams, behind, hist, adverts-are, there, separate, history, stay}
use Rattle.plan_laws.proofs.TimeLemmas.{starts_are_near}
use Rattle.splice_plans.specs.Turning.{waiting}

begun-not-waiting : (c b : Bool) → b ≡ true → not (is_waiting (stage_by c b)) ≡ true
begun-not-waiting true b h = refl
begun-not-waiting false true h = refl
begun-not-waiting false false h = absurd (true≢false (sym h))

-- an event that stands no longer does not hold a unit that may begin
forgotten-holds-not : (latest : Option ℤ) (e : Standing) (t : ℤ) → IsNearHigh latest t → stands latest e ≡ false → holds (as_played e) (Some t) ≡ false
forgotten-holds-not None e t near out = absurd (true≢false out)
forgotten-holds-not (Some h) e t near out = and_right (le_z e.start t) (lt_z t (end_of e)) (past (end_of e) t h near.0 out)
  where
    past : (stop t h : ℤ) → h ≤ℤ (t +ℤ pos 900000) → int_lt h (stop +ℤ pos 900000) ≡ false → lt_z t stop ≡ false
    past stop t h low out = grind (arith, ints, low, out)

both-true : (s l w : Bool) → (s ≡ true → w ≡ true) → ((s && l) && w) ≡ (s && l)
both-true true true w h = h refl
both-true true false w h = refl
both-true false l w h = refl

module _ (filed : ℕ → Option Advertisement) (streams : List Stream) (events : History) (p : List ℕ) (past : List (List ℕ))
    (h : IsHistory (high (pids_in streams)) events) (stay : events (p ∷ past) ≡ events past) (s : AreSeparate (pids_in streams)) (n pid : ℕ) (there : slice_get (pids_in streams) n ≡ Some pid) (b : begins pid p past ≡ true)
    (of : Stream) where
  abbrev pids : List ℕ
  pids = pids_in streams

  abbrev ads : Adverts
  ads = adverts_of filed streams

  abbrev plan : Standing → Plan
  plan e = mixed_plan filed streams events p past 0 e

  number : n % 8 ≡ n
  number = small filed streams events p past h stay s n pid there b

  part-is : (e : Standing) → part_of (plan e) n ≡ mid_part filed streams events p past e pid
  part-is e = part-there filed streams n of number (mixed_parts filed streams events p past 0 e) (is_crossed_known pids ads events (p ∷ past) e)
      (let l = slice_get_within pids n pid there in let m = length-map pids (mid_part filed streams events p past e) in omega (arith, l, m))
      ∙ get-map (mid_part filed streams events p past e) pids n pid waiting there

  module _ (t : ℤ) (time_is : unit_time pids pid (p ∷ past) ≡ Some t) (near : IsNearHigh (high pids past) t) where
    abbrev lies : Standing × Plan → Bool
    lies x = covers t x.0 && not (is_waiting (part_of x.1 n).stage)

    abbrev inside : Standing → Bool
    inside e = is_played ads e && holds (as_played e) (Some t)

    stage-lies : (e : Standing) → lies (e, plan e) ≡ (covers t e && not (is_waiting (stage_at filed streams events p past e pid (p ∷ past))))
    stage-lies e = ap (λ (x : Part). covers t e && not (is_waiting x.stage)) (part-is e)

    one-lies : (e : Standing) → Told pids ads events p past e → stands (high pids past) e ≡ true → lies (e, plan e) ≡ inside e
    one-lies e told up = stage-lies e ∙ by_test (is_played ads e)
        (λ y.
        ap (λ c. c && not (is_waiting (stage_at filed streams events p past e pid (p ∷ past)))) (covers-is e t (ads.fits e) y)
        ∙ both-true (int_le e.start t) (int_lt t (end_of e)) (not (is_waiting (stage_at filed streams events p past e pid (p ∷ past))))
        (λ l. begun-not-waiting (flag_closed filed streams events p past e pid (p ∷ past)) (flag_begun filed streams events p past e pid (p ∷ past))
        (played-begun (stream pids pid) ads e (known filed streams events p past e) (falls filed streams events p past h e n pid there) p past told.before told.now b t time_is up y ∙ or-two (flag_begun filed streams events p past e pid past) (int_le e.start t) l))
        ∙ sym (ap (λ g. g && holds (as_played e) (Some t)) y ∙ holds-is e (Some (end_of e)) t (Some t) refl refl))
        (λ y.
        ap (λ g. covers t e && not (is_waiting g)) (never-staged (stream pids pid) ads e (known filed streams events p past e) (falls filed streams events p past h e n pid there) p past told.before told.now b t time_is up (p ∷ past) told.now y)
        ∙ and_right (covers t e) false refl ∙ sym (ap (λ g. g && holds (as_played e) (Some t)) y))
      where
        or-two : (a b : Bool) → b ≡ true → (a || b) ≡ true
        or-two true b h = refl
        or-two false b h = h

    all-lie : (evs : List Standing) → AllByRecursion (Told pids ads events p past) evs
        → list_any lies (beside (filter (stands (high pids past)) evs) (map plan (filter (stands (high pids past)) evs))) ≡ list_any inside evs
    all-lie [] told = refl
    all-lie (e ∷ evs) told = by_test (stands (high pids past) e)
        (λ y. simp y (ap (λ g. g || list_any lies (beside (filter (stands (high pids past)) evs) (map plan (filter (stands (high pids past)) evs)))) (one-lies e told.0 y) ∙ ap (λ g. inside e || g) (all-lie evs told.1)))
        (λ y. let none : inside e ≡ false = and_right (is_played ads e) (holds (as_played e) (Some t)) (forgotten-holds-not (high pids past) e t near y) in
        simp y (all-lie evs told.1 ∙ sym (ap (λ g. g || list_any inside evs) none)))

  pub lies-as-left : (st : Option ℕ) → stamp p ≡ st → IsNearTime (high pids past) st
      → is_left n (high pids past) st (is_inside ads (events past) (unit_time pids pid past)) (standing_at (high pids past) (events past)) (map plan (standing_at (high pids past) (events past)))
      ≡ is_inside ads (events past) (unit_time pids pid (p ∷ past))
  lies-as-left None e near = ap (is_inside ads (events past)) (sym (time-same filed streams events p past h stay s n pid there b None e))
  lies-as-left (Some t) e near =
      let time_is = time-same filed streams events p past h stay s n pid there b (Some t) e in
      all-lie (place (high pids past) t) time_is near (events past) (all-are-told filed streams events p past h stay s n pid there b)
      ∙ ap (is_inside ads (events past)) (sym time_is)

-- of a network
module _ (k : Setting) (filed : ℕ → Option Advertisement) (n pid : ℕ) (p : List ℕ) (past : List (List ℕ)) (s : Starts k filed n pid p past) where
  abbrev ss : List Stream
  ss = streams k filed n pid p past s

  abbrev qs : List (List ℕ)
  qs = behind k filed n pid p past s

  abbrev hs : History
  hs = hist k filed n pid p past s

  abbrev LieWith : Stream → List ℕ → Adverts → List Standing → Type 0
  LieWith of sw av evs =
      is_left n (high sw qs) (stamp p) (is_inside av evs (unit_time sw pid qs)) (standing_at (high sw qs) evs)
      (closed_plans filed ss n of (high sw qs) (stamp p) (standing_at (high sw qs) evs) (values_by (plan_at sw av hs qs evs) (standing_at (high sw qs) evs)))
      ≡ is_inside av evs (unit_time sw pid (p ∷ qs))

  near-here : IsNearTime (high (pids_in ss) qs) (stamp p)
  near-here = subst (λ sw. IsNearTime (high sw qs) (stamp p)) (pids-are k p past) (starts_are_near k filed n pid p past s)

  lie-here : (of : Stream) → of ≡ slice_index_or ss n of → LieWith of (pids_in ss) (adverts_of filed ss) (hs qs)
  lie-here of is =
      let H = history k filed n pid p past s in
      let S = stay k filed n pid p past s in
      let P = separate k filed n pid p past s in
      let G = there k filed n pid p past s in
      ap (is_left n (high (pids_in ss) qs) (stamp p) (is_inside (adverts_of filed ss) (hs qs) (unit_time (pids_in ss) pid qs)) (standing_at (high (pids_in ss) qs) (hs qs)))
      (between-are filed ss hs p qs H S P n pid G s.begins_it of is)
      ∙ lies-as-left filed ss hs p qs H S P n pid G s.begins_it of (stamp p) refl near-here

  pub lie-as-left : (of : Stream) → of ≡ slice_index_or ss n of → LieWith of (switched_at k past) (k.adverts ss) (events_at k past)
  lie-as-left of is =
      subst (λ sw. LieWith of sw (k.adverts ss) (events_at k past)) (sym (pids-are k p past))
      (subst (λ av. LieWith of (pids_in ss) av (events_at k past)) (sym (adverts-are k filed n pid p past s))
      (subst (λ evs. LieWith of (pids_in ss) (adverts_of filed ss) evs) (events-are k p past) (lie-here of is)))

pub units_lie_as_left : UnitsLieAsLeft
units_lie_as_left k filed n pid of p past r = lie-as-left k filed n pid p past r.starts of r.of_is
