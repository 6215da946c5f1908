-- Where all packets went through the switch, the steps that its counters have counted are those of its moves.
use Rattle.std.proofs.Common.{◌≡◌, ℕ, List, [], ◌∷◌, ◌++◌, Bool, true, false, refl, sym, ap, ◌∙◌, Option, None, Some, if◌then◌else◌, reverse, append_assoc}
use Rattle.std.specs.Prelude.{is_some, option_map, map}
use Rattle.std.proofs.lemmas.Bool.{true≢false}
use mathlib.Core.Path.{fun_ext}
use Rattle.std.proofs.lemmas.List.{reverse-append}
use Rattle.ts_packet.specs.Fields.{on, on_one, pid_of, pcr}
use Rattle.ts_packet.specs.Numbering.{number_out}
use Rattle.ts_packet.specs.Runs.{onto}
use Rattle.unit_stream.specs.Fates.{is_left_out, steps_after}
use Rattle.psi_tables.specs.ProgramMap.{ProgramMap}
use Rattle.psi_tables.specs.Cue.{without_cue_entry}
use Rattle.program_follower.specs.declared.purpose.Listed.{Listed}
use Rattle.program_follower.specs.Program.{Table, tables, listed, known_map, program_in}
use Rattle.program_laws.specs.Writing.{body, packets_out, section_out}
use Rattle.output_laws.specs.Output.{Move, Keep, Leave, Put, network, Packing, counter_steps, out_at, out_after, clock_alone}
use Rattle.splice_plans.specs.Counters.{PidSteps, counted_at, out_by, counted_after, out_behind}
use Rattle.splice_plans.specs.Playing.{Adverts, History, played, is_inside}
use Rattle.splice_plans.specs.Switching.{Setting, puts_by, puts_before, puts_at_end, moves, switched_at, history_at, is_behind_head, front_at, switching, switched_past, switched_at_packet}
use Rattle.splice_plans.specs.Known.{adverts_at, behind_at, moves_at, puts_at, fate_at}
use Rattle.splice_plans.specs.Stepping.{steps_at, counted_before, front_by, place_by, rest_by, switching_by, counted_next, Journey, journey_at, puts_next, journey_next}
use Rattle.splice_plans.proofs.NetworkLemmas.{network-append, none-append, none-put}
use Rattle.known_laws.specs.Laws.{StepsAreOfMoves}
use Rattle.known_laws.proofs.HeadLemmas.{same-switched, same-adverts, more-behind, same-history, first-behind}

-- ---- what the moves bring of the network

abbrev is-none : List (List ℕ) → Bool
is-none [] = true
is-none (p ∷ ps) = false

none-back : (a : List Move) → network a ≡ [] → network (reverse a) ≡ []
none-back [] h = refl
none-back (Keep p ∷ a) h = absurd (true≢false (sym (ap is-none h)))
none-back (Leave p ∷ a) h = absurd (true≢false (sym (ap is-none h)))
none-back (Put q u ∷ a) h = ap network (reverse-append (Put q u ∷ []) a) ∙ none-append (reverse a) (Put q u ∷ []) (none-back a h) refl

module _ (switched : List ℕ) (ads : Adverts) (events : History) where
  puts-none : (p : List ℕ) (past : List (List ℕ)) → network (puts_before switched ads events p past) ≡ []
  puts-none p past =
      let es = played ads (events (p ∷ past)) in
      none-append (puts_by switched es _) (puts_by switched es _) (none-put switched es _) (none-put switched es _)

  before-is : (p : List ℕ) (past : List (List ℕ)) (M : List Move) → network (reverse (puts_before switched ads events p past) ++ M) ≡ network M
  before-is p past M = network-append (reverse (puts_before switched ads events p past)) M ∙ ap (λ l. l ++ network M) (none-back (puts_before switched ads events p past) (puts-none p past))

  fate-is : (b : Bool) (p : List ℕ) (M : List Move) → network ((if b then Leave p else Keep p) ∷ M) ≡ p ∷ network M
  fate-is true p M = refl
  fate-is false p M = refl

  moves-are : (past : List (List ℕ)) → network (moves switched ads events past) ≡ past
  moves-are [] = refl
  moves-are (p ∷ past) =
      fate-is (is_left_out (λ pid time. is_inside ads (events (p ∷ past)) time) switched p past switched) p (reverse (puts_before switched ads events p past) ++ moves switched ads events past)
      ∙ ap (λ l. p ∷ l) (before-is p past (moves switched ads events past) ∙ moves-are past)

-- ---- the steps of moves

abbrev steps_of : Packing → List Move → PidSteps
steps_of packed M pid = counter_steps packed pid M

module _ (packed : Packing) where
  -- units that are put in
  puts-out : (M ms : List Move) → network ms ≡ [] → out_behind packed (steps_of packed M) ms ≡ out_after packed M ms
  puts-out M [] h = refl
  puts-out M (Keep p ∷ ms) h = absurd (true≢false (sym (ap is-none h)))
  puts-out M (Leave p ∷ ms) h = absurd (true≢false (sym (ap is-none h)))
  puts-out M (Put q u ∷ ms) h = ap (λ l. out_at packed (Put q u) M ++ l) (puts-out (Put q u ∷ M) ms h)

  puts-counted : (M ms : List Move) → network ms ≡ [] → counted_after packed (steps_of packed M) ms ≡ steps_of packed (reverse ms ++ M)
  puts-counted M [] h = refl
  puts-counted M (Keep p ∷ ms) h = absurd (true≢false (sym (ap is-none h)))
  puts-counted M (Leave p ∷ ms) h = absurd (true≢false (sym (ap is-none h)))
  puts-counted M (Put q u ∷ ms) h =
      puts-counted (Put q u ∷ M) ms h
      ∙ ap (steps_of packed) (sym (append_assoc (reverse ms) (Put q u ∷ []) M) ∙ ap (λ l. l ++ M) (sym (reverse-append (Put q u ∷ []) ms)))

  -- a packet behind them
  packet-out : (b : Bool) (p : List ℕ) (M : List Move) (read : List (List ℕ)) → network M ≡ read
      → out_by packed (if b then Leave p else Keep p) read (steps_of packed M) ≡ out_at packed (if b then Leave p else Keep p) M
  packet-out true p M read h =
      ap (λ ps. clock_alone (pid_of p) (number_out p (steps_after true (pid_of p) p ps (counter_steps packed (pid_of p) M))) (pcr p)) (sym h)
  packet-out false p M read h = refl

  packet-counted : (b : Bool) (p : List ℕ) (M : List Move) (read : List (List ℕ)) → network M ≡ read → (pid : ℕ)
      → counted_at packed (if b then Leave p else Keep p) read (steps_of packed M) pid ≡ counter_steps packed pid ((if b then Leave p else Keep p) ∷ M)
  packet-counted true p M read h pid = ap (λ ps. steps_after true pid p ps (counter_steps packed pid M)) (sym h)
  packet-counted false p M read h pid = ap (λ ps. steps_after false pid p ps (counter_steps packed pid M)) (sym h)

moves-same : {s s' : List ℕ} {a a' : Adverts} {h h' : History} {b b' : List (List ℕ)} → s ≡ s' → a ≡ a' → h ≡ h' → b ≡ b' → moves s a h b ≡ moves s' a' h' b'
moves-same i j l n = rw (i, j, l, n) refl

-- ---- a switch

module _ (k : Setting) (past : List (List ℕ)) where
  abbrev before : List ℕ → List Move
  before p = reverse (puts_at k p past) ++ moves_at k past

  none-at : (p : List ℕ) → network (puts_at k p past) ≡ []
  none-at p = puts-none (switched_at k past) (adverts_at k past) (history_at k past) p (behind_at k past)

  brought : (p : List ℕ) → network (before p) ≡ behind_at k past
  brought p = before-is (switched_at k past) (adverts_at k past) (history_at k past) p (behind_at k past) (moves_at k past)
      ∙ moves-are (switched_at k past) (adverts_at k past) (history_at k past) (behind_at k past)

  counted-is : (p : List ℕ) → counted_before k (steps_at k past) p past ≡ steps_of k.packed (before p)
  counted-is p = puts-counted k.packed (moves_at k past) (puts_at k p past) (none-at p)

  abbrev is_gone : List ℕ → Bool
  is_gone p = is_left_out (λ pid time. is_inside (adverts_at k past) (history_at k past (p ∷ behind_at k past)) time) (switched_at k past) p (behind_at k past) (switched_at k past)

  front-is : (p : List ℕ) → front_by k (steps_at k past) p past
      ≡ (if is_behind_head k past then out_after k.packed (moves_at k past) (puts_at k p past) else [])
  front-is p = ap (λ l. if is_behind_head k past then l else []) (puts-out k.packed (moves_at k past) (puts_at k p past) (none-at p))

  out-is : (p : List ℕ) → out_by k.packed (fate_at k p past) (behind_at k past) (counted_before k (steps_at k past) p past) ≡ out_at k.packed (fate_at k p past) (before p)
  out-is p =
      ap (out_by k.packed (fate_at k p past) (behind_at k past)) (counted-is p)
      ∙ packet-out k.packed (is_gone p) p (before p) (behind_at k past) (brought p)

  place-is : (p : List ℕ) → place_by k (steps_at k past) p past
      ≡ (if on k.cue_pid p then [] else (if on_one (switched_at k past) p then out_at k.packed (fate_at k p past) (before p) else p ∷ []))
  place-is p = ap (λ l. if on k.cue_pid p then [] else (if on_one (switched_at k past) p then l else p ∷ [])) (out-is p)

  abbrev end_puts : List Move
  end_puts = puts_at_end (switched_at k past) (adverts_at k past) (history_at k past) (behind_at k past)

  rest-is : rest_by k (steps_at k past) past ≡ (if is_behind_head k past then out_after k.packed (moves_at k past) end_puts else [])
  rest-is = ap (λ l. if is_behind_head k past then l else [])
      (puts-out k.packed (moves_at k past) end_puts (none-put (switched_at k past) (played (adverts_at k past) (history_at k past (behind_at k past))) _))

  next-is : (p : List ℕ) (pid : ℕ) (o : Option ProgramMap) → known_map (Some k.program) past ≡ o → counted_next k (steps_at k past) p past pid ≡ steps_at k (p ∷ past) pid
  next-is p pid None none =
      ap (λ o. (if is_some (option_map program_in o) then counted_at k.packed (fate_at k p past) (behind_at k past) (counted_before k (steps_at k past) p past) else (λ pid. [])) pid) none
      ∙ sym (ap (λ b. counter_steps k.packed pid (moves (switched_at k (p ∷ past)) (adverts_at k (p ∷ past)) (history_at k (p ∷ past)) b)) (first-behind k past none p))
  next-is p pid (Some m) is =
      ap (λ o. (if is_some (option_map program_in o) then counted_at k.packed (fate_at k p past) (behind_at k past) (counted_before k (steps_at k past) p past) else (λ pid. [])) pid) is
      ∙ ap (λ (s : PidSteps). counted_at k.packed (fate_at k p past) (behind_at k past) s pid) (counted-is p)
      ∙ packet-counted k.packed (is_gone p) p (before p) (behind_at k past) (brought p) pid
      ∙ sym (ap (counter_steps k.packed pid) (moves-same (same-switched k p past m is) (same-adverts k p past m is) (same-history k p past m is) (more-behind k p past m is)))

  body-by : (o : Option Listed) (p : List ℕ) (ts : List Table) (out : List (List ℕ)) → body (switching_by k (steps_at k past)) o p past ts out ≡ body (switching k) o p past ts out
  body-by None p ts out = place-is p
  body-by (Some l) p ts out = ap (λ qs. if on l.pid p then packets_out l.pid out (map (section_out (without_cue_entry k.cue_pid)) ts) else qs) (place-is p)

  puts-are : (p : List ℕ) → puts_next k (journey_at k past) p ≡ switched_at_packet k p past
  puts-are p =
      let out = switched_past k past in
      let l = listed (Some k.program) past in
      let ts = tables (Some k.program) p past in
      ap (λ qs. qs ++ body (switching_by k (steps_at k past)) l p past ts out) (front-is p) ∙ ap (λ qs. front_at k p past ++ qs) (body-by l p ts out)

  next-all : (p : List ℕ) → counted_next k (steps_at k past) p past ≡ steps_at k (p ∷ past)
  next-all p = fun_ext (λ pid. next-is p pid (known_map (Some k.program) past) refl)

  abbrev made : List ℕ → PidSteps → List (List ℕ) → Journey
  made p counted put = record { read = p ∷ past; counted = counted; put = put }

  journey-is : (p : List ℕ) → journey_next k (journey_at k past) p ≡ journey_at k (p ∷ past)
  journey-is p =
      let out = switched_past k past in
      ap (λ s. made p s (onto out (puts_next k (journey_at k past) p))) (next-all p) ∙ ap (λ qs. made p (steps_at k (p ∷ past)) (onto out qs)) (puts-are p)

pub steps_are_of_moves : StepsAreOfMoves
steps_are_of_moves k past = record {
  front = front-is k past;
  place = place-is k past;
  rest = rest-is k past;
  next = next-all k past;
  puts = puts-are k past;
  journey = journey-is k past;
}
