-- The whole output in its order: for each packet of the network what a service's run alone sends for it, or the packet, and then what is left.
use Rattle.std.proofs.Common.{◌≡◌, ℕ, suc, ◌≤◌, if◌then◌else◌, List, [], ◌∷◌, ◌++◌, Some, refl, sym, ap, ◌∙◌, arith, length, reverse}
use Rattle.std.specs.Prelude.{flat_map}
use Rattle.std.proofs.lemmas.List.{append-nil, reverse-reverse}
use Rattle.std.proofs.lemmas.Grind.{flat_map-append}
use Rattle.wire_fields.specs.Numbers.{AreBytes}
use Rattle.ts_packet.specs.Fields.{on_one}
use Rattle.ts_packet.specs.Packets.{packets_of}
use Rattle.ts_packet.specs.Runs.{seen_after, onto}
use Rattle.ts_packet.proofs.RunLemmas.{seen_after-append, reverse-cons}
use Rattle.scte104_codec.specs.Reading.{message_of}
use Rattle.program_follower.specs.Program.{known_pids}
use Rattle.injector.specs.Steps.{Step, Message, cued}
use Rattle.splice_plans.specs.Adverts.{setting_of}
use Rattle.splice_plans.specs.Switching.{rest_at}
use Rattle.chain_engine.specs.Automation.{bytes_of}
use Rattle.chain_engine.specs.Talks.{judged_before}
use Rattle.chain_engine.specs.Runs.{asked, steps_of, steps_before}
use Rattle.chain_engine.specs.Passing.{chain_at}
use Rattle.chain_engine.proofs.StepsLemmas.{before_packets}
use Rattle.service_laws.specs.Messages.{own_steps}
use Rattle.service_laws.specs.Services.{ServiceTerms, given_at, services_send, services_rest}
use Rattle.service_laws.proofs.TakeLemmas.{own_history_before}
use Rattle.chain_services.specs.Isolation.{Given, sent_alone, left_alone, stands_among}
use Rattle.chain_services.proofs.AloneLemmas.{same_history}

-- messages put nothing out
asked_send : (ts : List ServiceTerms) (ms : List (List ℕ)) (past : List Step) → services_send ts (asked ms past) ≡ services_send ts past
asked_send ts [] past = refl
asked_send ts (m ∷ ms) past = asked_send ts ms (Message (message_of m) ∷ past)

module _ (g : Given) where
  -- what stands for a packet
  given_so : (ts : List ServiceTerms) (p : List ℕ) (past : List (List ℕ)) → suc (length past) ≤ length (packets_of g.bytes)
      → given_at ts p (steps_before (length g.replies) g.takes past) ≡ stands_among g ts (record { packet = p; past = past })
  given_so [] p past le = refl
  given_so (t ∷ ts) p past le =
      let c = t.config in
      let before = steps_before (length g.replies) g.takes past in
      ap (λ l. if on_one (known_pids (Some c.program) l) p then chain_at c t.filed p (own_steps c.index before) else given_at ts p before) (before_packets (length g.replies) g.takes past)
      ∙ ap (λ h. if on_one (known_pids (Some c.program) past) p then chain_at c t.filed p h else given_at ts p before)
      (sym (own_history_before c.index (length g.replies) g.takes (length (packets_of g.bytes)) past le))
      ∙ ap (λ l. if on_one (known_pids (Some c.program) past) p then sent_alone g t (record { packet = p; past = past }) else l) (given_so ts p past le)

  -- and for all of them, in order
  pub sends_so : (ts : List ServiceTerms) (past : List (List ℕ)) → length past ≤ length (packets_of g.bytes)
      → services_send ts (steps_of (length g.replies) g.takes past) ≡ flat_map (stands_among g ts) (seen_after [] (reverse past))
  sends_so ts [] le = refl
  sends_so ts (p ∷ past) le =
      let n = length g.replies in
      let f = stands_among g ts in
      let front = flat_map (stands_among g ts) (seen_after [] (reverse past)) in
      let less : length past ≤ length (packets_of g.bytes) = omega (arith, le) in
      ap (λ l. l ++ given_at ts p (steps_before n g.takes past)) (asked_send ts (judged_before n g.takes (length past)) (steps_of n g.takes past) ∙ sends_so ts past less)
      ∙ ap (λ l. front ++ l) (given_so ts p past le)
      ∙ sym (ap (λ l. flat_map (stands_among g ts) (seen_after [] l)) (reverse-cons p past)
      ∙ ap (flat_map (stands_among g ts)) (seen_after-append [] (reverse past) (p ∷ []))
      ∙ flat_map-append (stands_among g ts) (seen_after [] (reverse past)) (seen_after (onto [] (reverse past)) (p ∷ []))
      ∙ ap (λ l. front ++ l) (append-nil (f (record { packet = p; past = onto [] (reverse past) })))
      ∙ ap (λ q. front ++ stands_among g ts (record { packet = p; past = q })) (reverse-reverse past))

  -- at the end what is left, service by service
  pub rests_so : AreBytes (bytes_of g.takes) → (ts : List ServiceTerms) → services_rest ts (steps_of (length g.replies) g.takes (reverse (packets_of g.bytes))) ≡ flat_map (left_alone g) ts
  rests_so automation [] = refl
  rests_so automation (t ∷ ts) =
      let steps = steps_of (length g.replies) g.takes (reverse (packets_of g.bytes)) in
      ap (λ h. rest_at (setting_of t.config t.filed) (cued t.config h) ++ services_rest ts steps) (sym (same_history g automation t.config))
      ∙ ap (λ l. left_alone g t ++ l) (rests_so automation ts)
