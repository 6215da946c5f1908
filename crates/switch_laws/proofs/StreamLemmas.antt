-- What a switched stream of the output carries.
use Rattle.std.proofs.Common.{◌≡◌, ℕ, ◌<◌, List, [], ◌∷◌, ◌++◌, true, ◌||◌, inl, inr, refl, sym, ap, ◌∙◌, Option, None, Some, subst, length, reverse}
use Rattle.std.specs.Prelude.{All, filter, ◌==◌}
use Rattle.std.proofs.lemmas.Bool.{true≢false}
use Rattle.std.proofs.lemmas.List.{reverse-reverse}
use Rattle.std.proofs.lemmas.List.Elements.{All-head, All-tail, All-cons, All-nil}
use Rattle.ts_packet.specs.Fields.{payload_on, pid_of, is_among}
use Rattle.ts_packet.specs.Duplicates.{nearest}
use Rattle.ts_packet.specs.Runs.{onto}
use Rattle.unit_stream.specs.Units.{lead_in}
use Rattle.unit_stream.specs.Carrying.{CarriesUnits}
use Rattle.psi_tables.specs.ProgramMap.{ProgramMap}
use Rattle.program_follower.specs.Program.{known_map, behind_head}
use Rattle.splice_laws.specs.Streams.{IsOnce}
use Rattle.output_laws.specs.Spliced.{placed_payloads}
use Rattle.splice_plans.specs.Switching.{Setting, switched_at, head_at, history_at, events_at, spliced_network}
use Rattle.splice_plans.proofs.HistoryLemmas.{armed_is_history}
use Rattle.ts_packet.proofs.Cases.{test-same}
use Rattle.switch_laws.specs.Moving.{intervals, sent_in_all}
use Rattle.switch_laws.specs.Laws.{IsPlayable}
use Rattle.splice_plans.specs.Known.{adverts_at}
use Rattle.switch_laws.specs.Whole.{breaks, placed_in, PlacedIsCarried, StaysGapless, StreamsStayGapless}
use Rattle.switch_laws.proofs.RunLemmas.{runs_carry, runs_have_units}
use Rattle.switch_laws.proofs.SoundLemmas.{runs_are_sound}
use Rattle.switch_laws.proofs.SplitLemmas.{streams_go_by_themselves}
use Rattle.switch_laws.proofs.WholeLemmas.{none-switched, is-behind, head-joined}

once-among : (pid : ℕ) (pids : List ℕ) → IsOnce pid pids → is_among pid pids ≡ true
once-among pid [] o = absurd o
once-among pid (q ∷ qs) (inl o) = ap (λ n. (n == pid) || is_among pid qs) o.0 ∙ ap (λ b. b || is_among pid qs) (test-same pid)
once-among pid (q ∷ qs) (inr o) = let n = o.0 in simp n (once-among pid qs o.1)

module _ (P : List ℕ → Type 0) where
  all-onto : (past ps : List (List ℕ)) → All P past → All P ps → All P (onto past ps)
  all-onto past [] a b = a
  all-onto past (p ∷ ps) a b = all-onto (p ∷ past) ps (All-cons P p past (All-head P p ps b) a) (All-tail P p ps b)

  pub all-reversed : (ps : List (List ℕ)) → All P ps → All P (reverse ps)
  all-reversed ps a = all-onto [] ps (All-nil P) a

  all-front : (qs ps : List (List ℕ)) → All P (qs ++ ps) → All P qs
  all-front [] ps a = All-nil P
  all-front (q ∷ qs) ps a = All-cons P q qs (All-head P q (qs ++ ps) a) (all-front qs ps (All-tail P q (qs ++ ps) a))

  -- of the packets behind the head
  pub all-behind : (k : Setting) (network : List (List ℕ)) → All P network → All P (reverse (behind_head (Some k.program) (reverse network)))
  all-behind k network a =
      let b = behind_head (Some k.program) (reverse network) in
      all-reversed b (all-front b (head_at k (reverse network)) (subst (All P) (sym (head-joined k (reverse network))) (all-reversed network a)))

module _ (k : Setting) (past : List (List ℕ)) where
  behind-joined : history_at k past (reverse (reverse (behind_head (Some k.program) past))) ≡ events_at k past
  behind-joined = ap (history_at k past) (reverse-reverse (behind_head (Some k.program) past)) ∙ ap (events_at k) (head-joined k past)

  placed-same : (pid : ℕ) → placed_payloads (switched_at k past) pid (intervals (adverts_at k past) (history_at k past (reverse (reverse (behind_head (Some k.program) past)))))
      (sent_in_all (switched_at k past) (adverts_at k past) (history_at k past) (reverse (reverse (behind_head (Some k.program) past))) pid) [] (reverse (behind_head (Some k.program) past))
      ≡ placed_in k past pid
  placed-same pid =
      let b = behind_head (Some k.program) past in
      ap (λ es. placed_payloads (switched_at k past) pid (intervals (adverts_at k past) es) (sent_in_all (switched_at k past) (adverts_at k past) (history_at k past) (reverse (reverse b)) pid) [] (reverse b)) behind-joined
      ∙ ap (λ l. placed_payloads (switched_at k past) pid (breaks k past) (sent_in_all (switched_at k past) (adverts_at k past) (history_at k past) l pid) [] (reverse b)) (reverse-reverse b)

pub placed_is_carried : PlacedIsCarried
placed_is_carried k network apart steady good long pids pid once = by (known_map (Some k.program) (reverse network)) refl
  where
    by : (o : Option ProgramMap) → known_map (Some k.program) (reverse network) ≡ o →
        (carried : List (List ℕ)) × (filter (payload_on pid) (spliced_network k network)
        ≡ filter (payload_on pid) (reverse (head_at k (reverse network))) ++ (lead_in pid (reverse (behind_head (Some k.program) (reverse network))) ++ carried))
        × CarriesUnits carried (placed_in k (reverse network) pid)
    by None known = absurd (true≢false (sym (once-among pid (switched_at k (reverse network)) once) ∙ ap (is_among pid) (none-switched k (reverse network) known)))
    by (Some m) known =
        let back = reverse network in
        let sw = switched_at k (reverse network) in
        let ads = adverts_at k (reverse network) in
        let ev = history_at k (reverse network) in
        let ps = reverse (behind_head (Some k.program) (reverse network)) in
        let play : IsPlayable sw ads ev = record { steady = steady; history = armed_is_history k back (is-behind k m back known) } in
        let sound = runs_are_sound sw ads ev k.packed ps good (all-behind (λ (p : List ℕ). pid_of p < 8192) k network pids) in
        let c = runs_carry sw ads ev play k.packed ps (all-behind (λ (p : List ℕ). length p ≡ 188) k network long) sound pid once in (
          c.0,
          streams_go_by_themselves k network apart pid (once-among pid sw once) ∙ ap (λ l. filter (payload_on pid) (reverse (head_at k back)) ++ l) c.1,
          subst (CarriesUnits c.0) (placed-same k back pid) c.2,
        )

pub streams_stay_gapless : StreamsStayGapless
streams_stay_gapless k network apart steady good pids pid once fed gapless read = by (known_map (Some k.program) (reverse network)) refl
  where
    by : (o : Option ProgramMap) → known_map (Some k.program) (reverse network) ≡ o → StaysGapless k network pid read
    by None known = absurd (true≢false (sym (once-among pid (switched_at k (reverse network)) once) ∙ ap (is_among pid) (none-switched k (reverse network) known)))
    by (Some m) known =
        let back = reverse network in
        let sw = switched_at k (reverse network) in
        let ads = adverts_at k (reverse network) in
        let ev = history_at k (reverse network) in
        let ps = reverse (behind_head (Some k.program) (reverse network)) in
        let play : IsPlayable sw ads ev = record { steady = steady; history = armed_is_history k back (is-behind k m back known) } in
        let sound = runs_are_sound sw ads ev k.packed ps good (all-behind (λ (p : List ℕ). pid_of p < 8192) k network pids) in
        let last = nearest None pid (reverse (reverse (head_at k back))) in
        let both = runs_have_units sw ads ev play k.packed ps sound pid once fed last gapless.1 read in
        record {
          packets = streams_go_by_themselves k network apart pid (once-among pid sw once);
          gapless = (gapless.0, both.0);
          units_are = both.1 ∙ placed-same k back pid;
        }
