-- The laws of a run, from those of a splice.
use Rattle.unit_stream.specs.Carrying.{CarriesUnits}
use Rattle.unit_stream.specs.Units.{units, payloads, lead_in}
use Rattle.ts_packet.proofs.Cases.{by_test}
use Rattle.std.proofs.Common.{◌≡◌, ℕ, List, [], ◌∷◌, ◌++◌, false, refl, sym, ap, ◌∙◌, if◌then◌else◌, subst, map, length, reverse, inl, inr, suc, arith}
use Rattle.std.specs.Prelude.{Contains, All, filter, ◌<◌}
use Rattle.ts_packet.specs.Fields.{payload_on}
use Rattle.ts_packet.specs.Runs.{seen_after, IsGaplessAfter}
use Rattle.splice_laws.specs.Splicing.{PlayedEvent, SliceUnit, stream, placed}
use Rattle.splice_laws.specs.Laws.{CountsOver}
use Rattle.splice_laws.specs.Streams.{IsOnce, is_dropped, of_stream}
use Rattle.splice_laws.proofs.PidLemmas.{pids_are_streams}
use Rattle.splice_laws.proofs.PidLaws.{carries_placed_units, carries_splice_units}
use Rattle.splice_laws.proofs.PlacedLemmas.{counted_is_placed, carried_is_placed}
use Rattle.splice_laws.proofs.StreamLemmas.{streams_carry_by_count}
use Rattle.output_laws.specs.Output.{Keep, Leave, acts, output, HasComeBefore, AlongMoves}
use Rattle.output_laws.specs.Others.{is_off}
use Rattle.output_laws.specs.Spliced.{puts_each, moves_after, placed_payloads}
use Rattle.output_laws.proofs.OtherLemmas.{others_pass}
use Rattle.output_laws.proofs.SplicedLemmas.{network_moves, acts_after, counted_carries, counted_has_units}
use Rattle.output_laws.proofs.SplicedOthers.{within}
use Rattle.splice_plans.specs.Playing.{Adverts, History, as_played}
use Rattle.switch_laws.specs.Moving.{intervals, sent_in_all, sent_count, run_moves}
use Rattle.switch_laws.specs.Laws.{IsPlayable, PutsArePacked, RunsAreSettled, RowsArePlaced, RowsAreSpliced, RunsCarry, RunsHaveUnits, RunsKeepOthers, NothingPlayed}
use Rattle.switch_laws.proofs.MoveLemmas.{ordered, same-moves, all-counted}

pub runs_are_settled : RunsAreSettled
runs_are_settled switched ads events k ps =
    record { ordered = ordered switched ads k.steady events k.history (reverse ps); moves = same-moves switched ads k.steady events k.history (reverse ps) [] ps refl }

-- one of these PIDs
pub once-contained : (pid : ℕ) (pids : List ℕ) → IsOnce pid pids → Contains pids pid
once-contained pid [] o = absurd o
once-contained pid (q ∷ qs) (inl o) = (0, first-below, o.0)
  where
    first-below : 0 < length (q ∷ qs)
    first-below = omega arith
once-contained pid (q ∷ qs) (inr o) =
    let c = once-contained pid qs o.1 in
    (suc c.0, suc-below c.0 (length qs) c.1, c.2)
  where
    suc-below : (a b : ℕ) → a < b → suc a < suc b
    suc-below a b h = omega arith

module _ (switched : List ℕ) (ads : Adverts) (events : History) (k : IsPlayable switched ads events) (ps : List (List ℕ)) where
  abbrev whole : List (List ℕ)
  whole = reverse ps

  abbrev xs : List PlayedEvent
  xs = intervals ads (events whole)

  abbrev slice : ℕ → PlayedEvent → List SliceUnit
  slice pid x = sent_in_all switched ads events whole pid x

  abbrev out : ℕ → PlayedEvent → List (List ℕ) → ℕ
  out pid x = sent_count switched ads events whole pid x

  same : run_moves switched ads events ps ≡ moves_after switched xs slice out [] ps
  same = (runs_are_settled switched ads events k ps).moves

  module _ (pid : ℕ) (o : IsOnce pid switched) where
    count : All (λ (x : PlayedEvent). All (CountsOver (stream switched pid) x (slice pid x) (out pid x)) (seen_after [] ps)) xs
    count = all-counted switched ads k.steady events k.history whole pid (once-contained pid switched o) ps refl

    placed-is : of_stream pid (acts (run_moves switched ads events ps)) ≡ placed (stream switched pid) xs (slice pid) ps
    placed-is =
        let r = pids_are_streams switched pid in
        let d = ordered switched ads k.steady events k.history whole in
        ap (λ ms. of_stream pid (acts ms)) same
        ∙ ap (of_stream pid) (acts_after switched xs slice out [] ps)
        ∙ streams_carry_by_count switched xs d slice out ps pid o count
        ∙ counted_is_placed (stream switched pid) r xs d (slice pid) (out pid) ps count

pub rows_are_placed : RowsArePlaced
rows_are_placed switched ads events k ps pid o =
    let xs = intervals ads (events (reverse ps)) in
    let d = ordered switched ads k.steady events k.history (reverse ps) in
    let slice = sent_in_all switched ads events (reverse ps) pid in
    placed-is switched ads events k ps pid o ∙ sym (carried_is_placed (stream switched pid) (pids_are_streams switched pid) xs d slice ps)
    ∙ carries_placed_units switched pid xs d slice ps

pub rows_are_spliced : RowsAreSpliced
rows_are_spliced switched ads events k ps pid o c =
    let xs = intervals ads (events (reverse ps)) in
    let d = ordered switched ads k.steady events k.history (reverse ps) in
    let slice = sent_in_all switched ads events (reverse ps) pid in
    placed-is switched ads events k ps pid o ∙ sym (carried_is_placed (stream switched pid) (pids_are_streams switched pid) xs d slice ps)
    ∙ carries_splice_units switched pid xs d slice ps c

pub runs_carry : RunsCarry
runs_carry switched ads events k packed ps l s pid o =
    let xs = intervals ads (events (reverse ps)) in
    let d = ordered switched ads k.steady events k.history (reverse ps) in
    let slice : ℕ → PlayedEvent → List SliceUnit = λ pid x. sent_in_all switched ads events (reverse ps) pid x in
    let out : ℕ → PlayedEvent → List (List ℕ) → ℕ = λ pid x. sent_count switched ads events (reverse ps) pid x in
    let e = same switched ads events k ps in
    subst (λ ms. (carried : List (List ℕ)) × (filter (payload_on pid) (output packed ms) ≡ lead_in pid ps ++ carried) × CarriesUnits carried (placed_payloads switched pid xs (slice pid) [] ps)) (sym e)
    (counted_carries packed switched xs d slice out ps pid o (count switched ads events k ps pid o) (subst (PutsArePacked packed) e s) l)

pub runs_have_units : RunsHaveUnits
runs_have_units switched ads events k packed ps s pid o f before g read =
    let xs = intervals ads (events (reverse ps)) in
    let d = ordered switched ads k.steady events k.history (reverse ps) in
    let slice : ℕ → PlayedEvent → List SliceUnit = λ pid x. sent_in_all switched ads events (reverse ps) pid x in
    let out : ℕ → PlayedEvent → List (List ℕ) → ℕ = λ pid x. sent_count switched ads events (reverse ps) pid x in
    let e = same switched ads events k ps in
    subst (λ ms. IsGaplessAfter before pid (output packed ms) × (payloads (units read pid (output packed ms)) ≡ placed_payloads switched pid xs (slice pid) [] ps)) (sym e)
    (counted_has_units packed switched xs d slice out ps pid o (count switched ads events k ps pid o) (subst (PutsArePacked packed) e s) (subst (λ ms. AlongMoves (HasComeBefore pid) (reverse ms)) e f) before g read)

pub runs_keep_others : RunsKeepOthers
runs_keep_others switched ads events k packed ps l s =
    let xs = intervals ads (events (reverse ps)) in
    let slice : ℕ → PlayedEvent → List SliceUnit = λ pid x. sent_in_all switched ads events (reverse ps) pid x in
    let out : ℕ → PlayedEvent → List (List ℕ) → ℕ = λ pid x. sent_count switched ads events (reverse ps) pid x in
    let moves = moves_after switched xs slice out [] ps in
    let e = same switched ads events k ps in
    let n = network_moves switched xs slice out [] ps in
    subst (λ ms. filter (is_off switched) (output packed ms) ≡ filter (is_off switched) ps) (sym e)
    (others_pass packed switched moves (subst (PutsArePacked packed) e s) (within packed switched xs slice out [] ps [] tt) (subst (λ q. All (λ (p : List ℕ). length p ≡ 188) q) (sym n) l) ∙ ap (filter (is_off switched)) n)

-- ---- where nothing is played

pub none-dropped : (switched : List ℕ) (p : List ℕ) (past : List (List ℕ)) (pids : List ℕ) → is_dropped switched [] p past pids ≡ false
none-dropped switched p past [] = refl
none-dropped switched p past (pid ∷ pids) = by_test (payload_on pid p) (λ y. simp y (none-dropped switched p past pids)) (λ y. simp y (none-dropped switched p past pids))

pub none-each : (pids : List ℕ) → puts_each pids (λ pid. []) ≡ []
none-each [] = refl
none-each (pid ∷ pids) = none-each pids

module _ (switched : List ℕ) (slice : ℕ → PlayedEvent → List SliceUnit) (out : ℕ → PlayedEvent → List (List ℕ) → ℕ) where
  all-kept : (past ps : List (List ℕ)) → moves_after switched [] slice out past ps ≡ map (λ (p : List ℕ). Keep p) ps
  all-kept past [] = none-each switched
  all-kept past (p ∷ ps) =
      ap (λ ms. (ms ++ puts_each switched (λ pid. [])) ++ ((if is_dropped switched [] p past switched then Leave p else Keep p) ∷ moves_after switched [] slice out (p ∷ past) ps)) (none-each switched)
      ∙ ap (λ ms. ms ++ ((if is_dropped switched [] p past switched then Leave p else Keep p) ∷ moves_after switched [] slice out (p ∷ past) ps)) (none-each switched)
      ∙ ap (λ b. (if b then Leave p else Keep p) ∷ moves_after switched [] slice out (p ∷ past) ps) (none-dropped switched p past switched)
      ∙ ap (λ ms. Keep p ∷ ms) (all-kept (p ∷ past) ps)

pub nothing_played : NothingPlayed
nothing_played switched ads events k ps none =
    let slice : ℕ → PlayedEvent → List SliceUnit = λ pid x. sent_in_all switched ads events (reverse ps) pid x in
    let out : ℕ → PlayedEvent → List (List ℕ) → ℕ = λ pid x. sent_count switched ads events (reverse ps) pid x in
    same switched ads events k ps
    ∙ ap (λ es. moves_after switched (map as_played es) slice out [] ps) none
    ∙ all-kept switched slice out [] ps
